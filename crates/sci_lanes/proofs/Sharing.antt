-- Splitting a seat, and joining two, keeps words and views showing the same state.
use Rattle.std.proofs.Common.{◌≡◌, ◌≢◌, ℕ, zero, suc, ◌<◌, ◌⊎◌, inl, inr, eqb, if◌then◌else◌, List, [], ◌∷◌, ◌++◌, length, set, Some, refl, sym, ap, subst}
use Rattle.std.proofs.{Common.{◌∙◌, arith, eq-eqb, ne_eqb}, lemmas.{Bool.{cases_eq}, List.{length-set}}}
use Rattle.std.specs.{Prelude.{slice_get}, List.{AllByRecursion}}
use mathlib.Core.Option.{some, some-injective, some-ne-none}
use lib.ListN.{get_elem?}
use Rattle.atomic_table.specs.Table.{State, Splits, Joins}
use Rattle.atomic_table.proofs.Lists.{at_set, set_here, set_else, at_longer, at_last}
use Rattle.sci_core.specs.Size.{Size}
use Rattle.sci_lanes.specs.declared.view.{Part.{Part}, View.{View}}
use Rattle.sci_lanes.specs.Shown.{Whole, nodes_of, me_of, single, IsKnown, HasRead, IsCovered, Shows, IsKept}
use Rattle.sci_lanes.proofs.Keeping.{get_left, get_right, changed_at, changed_here, changed_else, read_none, read_nothing, within, covered_still}
use Rattle.sci_core.proofs.Basics.Options.{same_some}
use Rattle.sci_history.proofs.Order.{all_weaker, all-append}

-- the last of a list, with its place
last_at? : {A : Type 0} (xs : List A) (x : A) (k : ℕ) (y : A) → get_elem? (xs ++ x ∷ []) k ≡ some y → (get_elem? xs k ≡ some y) ⊎ ((k ≡ length xs) × (x ≡ y))
last_at? [] x zero y e = inr (refl, some-injective x y e)
last_at? [] x (suc k) y e = absurd (some-ne-none y (sym e))
last_at? (z ∷ xs) x zero y e = inl e
last_at? (z ∷ xs) x (suc k) y e = elim (last_at? xs x k y e) [ inl h ↦ inl h | inr h ↦ inr (ap suc h.0, h.1) ]

-- the same state, with other owners
abbrev pub owned_by : Whole → (ℕ → ℕ) → Whole
owned_by x owner = record { core = x.core; schedule = x.schedule; outbound = x.outbound; inbound = x.inbound; owner = owner }

-- it is kept, where other words and views show it
pub kept_owned : (size : Size) (s t : State (Unit {0}) View) (kept : IsKept size s) (owner : ℕ → ℕ) → Shows (owned_by kept.whole owner) t.words t.views
    → IsKept size t
kept_owned size s t kept owner shows =
    record { whole = owned_by kept.whole owner; reached = kept.reached; sized = kept.sized; leads = kept.leads; enabled = kept.enabled; shown = shows }

-- a part stays known, if its node's owner does
moved : (x : Whole) (owner : ℕ → ℕ) (seat later : ℕ) (p : Part) → owner (me_of p) ≡ later → IsKnown x seat p → IsKnown (owned_by x owner) later p
moved x owner seat later p is k = grind arith

-- none of these parts is of the node
abbrev pub NoneIs : ℕ → List Part → Type 0
NoneIs n parts = AllByRecursion (λ q. me_of q ≢ n) parts

stay : (x : Whole) (owner : ℕ → ℕ) (seat n : ℕ) (parts : List Part) → NoneIs n parts → ((m : ℕ) → m ≢ n → owner m ≡ x.owner m)
    → AllByRecursion (IsKnown x seat) parts → AllByRecursion (IsKnown (owned_by x owner) seat) parts
stay x owner seat n [] none same known = tt
stay x owner seat n (q ∷ parts) none same known =
    (moved x owner seat seat q (same (me_of q) none.0 ∙ known.0.mine) known.0, stay x owner seat n parts none.1 same known.1)

-- ---- split

pub split_shows : (x : Whole) (words : List ℕ) (views : List View) (seat : ℕ) (p : Part) (rest : List Part) → Shows x words views
    → get_elem? views seat ≡ some (record { parts = p ∷ rest; words = [] }) → NoneIs (me_of p) rest
    → Shows (owned_by x (changed_at x.owner (me_of p) (length views))) words (set views seat (record { parts = rest; words = [] }) ++ single p ∷ [])
split_shows x words views seat p rest s here none = record { long = s.long; lanes = s.lanes; known = known; covered = covered; read = read }
  where
    left : View
    left = record { parts = rest; words = [] }

    owner : ℕ → ℕ
    owner = changed_at x.owner (me_of p) (length views)

    y : Whole
    y = owned_by x owner

    mine : IsKnown x seat p
    mine = (s.known seat (record { parts = p ∷ rest; words = [] }) here).0

    same : (m : ℕ) → m ≢ me_of p → owner m ≡ x.owner m
    same m apart = changed_else x.owner (me_of p) (length views) m apart

    sized : length (set views seat left) ≡ length views
    sized = length-set views seat left

    others : (id : ℕ) (view : View) → id ≢ seat → get_elem? views id ≡ some view → AllByRecursion (IsKnown y id) view.parts
    others id view apart e = all_weaker (IsKnown x id) (IsKnown y id)
        (λ q k. moved x owner id id q (same (me_of q) (λ is. apart (sym k.mine ∙ (ap x.owner is ∙ mine.mine))) ∙ k.mine) k) view.parts (s.known id view e)

    known : (id : ℕ) (view : View) → get_elem? (set views seat left ++ single p ∷ []) id ≡ some view → AllByRecursion (IsKnown y id) view.parts
    known id view e = elim (last_at? (set views seat left) (single p) id view e) [
      | inl h ↦ elim (at_set views seat id left view h) [
        | inl k ↦ subst (λ (j : ℕ). AllByRecursion (IsKnown y j) view.parts) (sym k.0)
            (subst (λ (v : View). AllByRecursion (IsKnown y seat) v.parts) k.1
            (stay x owner seat (me_of p) rest none same (s.known seat (record { parts = p ∷ rest; words = [] }) here).1))
        | inr k ↦ others id view k.0 k.1
      ]
      | inr h ↦ subst (λ (v : View). AllByRecursion (IsKnown y id) v.parts) h.1
          (moved x owner seat id p (changed_here x.owner (me_of p) (length views) ∙ (sym sized ∙ sym h.0)) mine, tt)
    ]

    seated : seat < length views
    seated = within views seat (record { parts = p ∷ rest; words = [] }) here

    covered : (n : ℕ) → n < nodes_of x → IsCovered y (set views seat left ++ single p ∷ []) n
    covered n lt = elim (cases_eq n (me_of p)) [
      | inl is ↦ record {
        view = single p;
        place = 0;
        part = p;
        seated = ap (λ (k : ℕ). get_elem? (set views seat left ++ single p ∷ []) k) (ap owner is ∙ changed_here x.owner (me_of p) (length views))
            ∙ at_last (set views seat left) (single p) (length views) sized;
        there = refl;
        of_node = sym is;
      }
      | inr apart ↦ elsewhere n apart (s.covered n lt)
    ]
      where
        in_rest : (n place : ℕ) (q : Part) → n ≢ me_of p → slice_get (p ∷ rest) place ≡ Some q → me_of q ≡ n → (k : ℕ) × (slice_get rest k ≡ Some q)
        in_rest n zero q apart e of_node = absurd (apart (sym of_node ∙ ap me_of (sym (same_some p q e))))
        in_rest n (suc place) q apart e of_node = (place, e)

        elsewhere : (n : ℕ) → n ≢ me_of p → IsCovered x views n → IsCovered y (set views seat left ++ single p ∷ []) n
        elsewhere n apart c = elim (cases_eq (x.owner n) seat) [
          | inl is ↦ (
              let view_is : record { parts = p ∷ rest; words = [] } ≡ c.view =
              some-injective _ c.view (sym here ∙ (ap (λ (k : ℕ). get_elem? views k) (sym is) ∙ c.seated)) in
              let k = in_rest n c.place c.part apart (ap (λ (v : View). slice_get v.parts c.place) view_is ∙ c.there) c.of_node in
              record {
                view = left;
                place = k.0;
                part = c.part;
                seated = ap (λ (j : ℕ). get_elem? (set views seat left ++ single p ∷ []) j) (same n apart ∙ is)
                    ∙ at_longer (set views seat left) (single p ∷ []) seat left (set_here views seat left seated);
                there = k.1;
                of_node = c.of_node;
              })
          | inr not ↦ covered_still x y views (set views seat left ++ single p ∷ []) n (same n apart) c
              (at_longer (set views seat left) (single p ∷ []) (x.owner n) c.view (set_else views seat (x.owner n) left not ∙ c.seated))
        ]

    read : (id : ℕ) (view : View) → get_elem? (set views seat left ++ single p ∷ []) id ≡ some view → HasRead y id words view.words
    read id view e = elim (last_at? (set views seat left) (single p) id view e) [
      | inl h ↦ elim (at_set views seat id left view h) [
        | inl k ↦ subst (λ (v : View). HasRead y id words v.words) k.1 (read_none y id words)
        | inr k ↦ read_nothing x y id (me_of p) words words view.words mine.some_node (λ is. k.0 (sym is ∙ mine.mine)) (s.read id view k.1)
      ]
      | inr h ↦ subst (λ (v : View). HasRead y id words v.words) h.1 (read_none y id words)
    ]

pub splits : (size : Size) (id : ℕ) (p : Part) (rest : List Part) → NoneIs (me_of p) rest
    → Splits (IsKept size) id (record { parts = p ∷ rest; words = [] }) (record { parts = rest; words = [] }) (single p)
splits size id p rest none s kept here = kept_owned size s _ kept (changed_at kept.whole.owner (me_of p) (length s.views))
    (split_shows kept.whole s.words s.views id p rest kept.shown here none)

-- ---- join

pub join_shows : (x : Whole) (words : List ℕ) (views : List View) (seat other : ℕ) (v w : List Part) → Shows x words views
    → get_elem? views seat ≡ some (record { parts = v; words = [] }) → other ≢ seat
    → get_elem? views other ≡ some (record { parts = w; words = [] })
    → Shows (owned_by x (λ n. if eqb (x.owner n) other then seat else x.owner n)) words
    (set (set views seat (record { parts = v ++ w; words = [] })) other (record { parts = []; words = [] }))
join_shows x words views seat other v w s here apart there = record { long = s.long; lanes = s.lanes; known = known; covered = covered; read = read }
  where
    both : View
    both = record { parts = v ++ w; words = [] }

    spent : View
    spent = record { parts = []; words = [] }

    owner : ℕ → ℕ
    owner n = if eqb (x.owner n) other then seat else x.owner n

    y : Whole
    y = owned_by x (λ n. if eqb (x.owner n) other then seat else x.owner n)

    taken : (n : ℕ) → x.owner n ≡ other → y.owner n ≡ seat
    taken n is = rw (eq-eqb (x.owner n) other is) refl

    same : (n : ℕ) → x.owner n ≢ other → y.owner n ≡ x.owner n
    same n not = rw (ne_eqb (x.owner n) other not) refl

    both_known : AllByRecursion (IsKnown y seat) (v ++ w)
    both_known = all-append (IsKnown y seat) v w
        (all_weaker (IsKnown x seat) (IsKnown y seat) (λ q k. moved x y.owner seat seat q (same (me_of q) (λ is. apart (sym is ∙ k.mine)) ∙ k.mine) k) v
        (s.known seat (record { parts = v; words = [] }) here))
        (all_weaker (IsKnown x other) (IsKnown y seat) (λ q k. moved x y.owner other seat q (taken (me_of q) k.mine) k) w
        (s.known other (record { parts = w; words = [] }) there))

    known : (id : ℕ) (view : View) → get_elem? (set (set views seat both) other spent) id ≡ some view → AllByRecursion (IsKnown y id) view.parts
    known id view e = elim (at_set (set views seat both) other id spent view e) [
      | inl h ↦ subst (λ (u : View). AllByRecursion (IsKnown y id) u.parts) h.1 tt
      | inr h ↦ elim (at_set views seat id both view h.1) [
        | inl k ↦ subst (λ (j : ℕ). AllByRecursion (IsKnown y j) view.parts) (sym k.0)
            (subst (λ (u : View). AllByRecursion (IsKnown y seat) u.parts) k.1 both_known)
        | inr k ↦ all_weaker (IsKnown x id) (IsKnown y id) (λ q t. moved x y.owner id id q (same (me_of q) (λ is. h.0 (sym t.mine ∙ is)) ∙ t.mine) t) view.parts
            (s.known id view k.1)
      ]
    ]

    seat_in : seat < length views
    seat_in = within views seat (record { parts = v; words = [] }) here

    at_seat : get_elem? (set (set views seat both) other spent) seat ≡ some both
    at_seat = set_else (set views seat both) other seat spent (λ e. apart (sym e)) ∙ set_here views seat both seat_in

    covered : (n : ℕ) → n < nodes_of x → IsCovered y (set (set views seat both) other spent) n
    covered n lt =
        let c = s.covered n lt in
        elim (cases_eq (x.owner n) other) [
          | inl is ↦ (
              let view_is : record { parts = w; words = [] } ≡ c.view =
              some-injective _ c.view (sym there ∙ (ap (λ (k : ℕ). get_elem? views k) (sym is) ∙ c.seated)) in
              let k = get_right v w c.place c.part (ap (λ (u : View). slice_get u.parts c.place) view_is ∙ c.there) in
              record {
                view = both;
                place = k.0;
                part = c.part;
                seated = ap (λ (j : ℕ). get_elem? (set (set views seat both) other spent) j) (taken n is) ∙ at_seat;
                there = k.1;
                of_node = c.of_node;
              })
          | inr not ↦ elim (cases_eq (x.owner n) seat) [
            | inl is ↦ (
                let view_is : record { parts = v; words = [] } ≡ c.view =
                some-injective _ c.view (sym here ∙ (ap (λ (k : ℕ). get_elem? views k) (sym is) ∙ c.seated)) in
                record {
                  view = both;
                  place = c.place;
                  part = c.part;
                  seated = ap (λ (j : ℕ). get_elem? (set (set views seat both) other spent) j) (same n not ∙ is) ∙ at_seat;
                  there =
                      get_left v w c.place c.part (ap (λ (u : View). slice_get u.parts c.place) view_is ∙ c.there);
                  of_node = c.of_node;
                })
            | inr neither ↦ covered_still x y views (set (set views seat both) other spent) n (same n not) c
                (set_else (set views seat both) other (x.owner n) spent not ∙ (set_else views seat (x.owner n) both neither ∙ c.seated))
          ]
        ]

    read : (id : ℕ) (view : View) → get_elem? (set (set views seat both) other spent) id ≡ some view → HasRead y id words view.words
    read id view e = elim (at_set (set views seat both) other id spent view e) [
      | inl h ↦ subst (λ (u : View). HasRead y id words u.words) h.1 (read_none y id words)
      | inr h ↦ elim (at_set views seat id both view h.1) [
        | inl k ↦ subst (λ (u : View). HasRead y id words u.words) k.1 (read_none y id words)
        | inr k ↦ (let r = s.read id view k.1 in
            record {
              no_more = r.no_more;
              same = r.same;
              every = λ some_read n few. same n (λ is. h.0 (sym (r.every some_read n few) ∙ is)) ∙ r.every some_read n few;
            })
      ]
    ]

pub joins : (size : Size) (id other : ℕ) (v w : List Part)
    → Joins (IsKept size) id (record { parts = v; words = [] }) other (record { parts = w; words = [] }) (record { parts = v ++ w; words = [] })
    (record { parts = []; words = [] })
joins size id other v w s kept here apart there = kept_owned size s _ kept (λ n. if eqb (kept.whole.owner n) other then id else kept.whole.owner n)
    (join_shows kept.whole s.words s.views id other v w kept.shown here apart (sym (set_else s.views id other _ apart) ∙ there))
