-- What keeps words and views showing a state.
use Rattle.std.proofs.Common.{◌≡◌, ◌≢◌, ℕ, zero, suc, ◌<◌, inl, inr, eqb, if◌then◌else◌, List, [], ◌∷◌, ◌++◌, length, set, Some, refl, sym, ap, subst, ◌∙◌}
use Rattle.std.proofs.{Common.{arith, eq-eqb, ne_eqb}, lemmas.Bool.{cases_eq}}
use Rattle.std.proofs.lemmas.List.{append-nil, append_assoc, length-set}
use Rattle.std.specs.{Prelude.{slice_get}, List.{AllByRecursion}}
use Rattle.sci_words.specs.declared.event.Event.{Event}
use mathlib.Core.Option.{some, some-injective, some-ne-none}
use lib.ListN.{get_elem?}
use Rattle.atomic_table.proofs.Lists.{at_set, set_here, set_else}
use Rattle.sci_core.specs.Core.{node_at, node_of, lane_at}
use Rattle.sci_lanes.specs.declared.view.{Part.{Part}, View.{View}}
use Rattle.sci_lanes.specs.Cells.{lane_count, sender_of, receiver_of, word_count}
use Rattle.sci_lanes.specs.Shown.{Whole, nodes_of, me_of, single, ShowsLane, IsKnown, IsSeen, HasRead, IsCovered, Shows}
use Rattle.sci_core.proofs.Basics.Options.{same_some}
use Rattle.sci_history.proofs.Order.{all_weaker, all-append}

-- ---- lists

pub all_at : {X : Type 0} (P : X → Type 0) (xs : List X) (k : ℕ) (x : X) → slice_get xs k ≡ Some x → AllByRecursion P xs → P x
all_at P [] k x e all = cc
all_at P (y ∷ xs) zero x e all = subst P (same_some y x e) all.0
all_at P (y ∷ xs) (suc k) x e all = all_at P xs k x e all.1

pub get_left : {X : Type 0} (xs ys : List X) (k : ℕ) (x : X) → slice_get xs k ≡ Some x → slice_get (xs ++ ys) k ≡ Some x
get_left [] ys k x e = cc
get_left (y ∷ xs) ys zero x e = e
get_left (y ∷ xs) ys (suc k) x e = get_left xs ys k x e

pub get_right : {X : Type 0} (xs ys : List X) (k : ℕ) (x : X) → slice_get ys k ≡ Some x → (place : ℕ) × (slice_get (xs ++ ys) place ≡ Some x)
get_right [] ys k x e = (k, e)
get_right (y ∷ xs) ys k x e = let later = get_right xs ys k x e in (suc later.0, later.1)

pub within : {A : Type 0} (xs : List A) (k : ℕ) (a : A) → get_elem? xs k ≡ some a → k < length xs
within [] k a e = absurd (some-ne-none a (sym e))
within (z ∷ xs) zero a e = omega arith
within (z ∷ xs) (suc k) a e = let later = within xs k a e in omega arith

-- ---- functions of lanes and of nodes, changed in one place

abbrev pub changed_at : {A : Type 0} → (ℕ → A) → ℕ → A → ℕ → A
changed_at f k a j = if eqb j k then a else f j

pub changed_here : {A : Type 0} (f : ℕ → A) (k : ℕ) (a : A) → changed_at f k a k ≡ a
changed_here f k a = rw (eq-eqb k k refl) refl

pub changed_else : {A : Type 0} (f : ℕ → A) (k : ℕ) (a : A) (j : ℕ) → j ≢ k → changed_at f k a j ≡ f j
changed_else f k a j apart = rw (ne_eqb j k apart) refl

-- ---- words read

pub read_none : (x : Whole) (seat : ℕ) (words : List ℕ) → HasRead x seat words []
read_none x seat words = record { no_more = omega arith; same = λ k lt. absurd (omega arith); every = λ lt n few. absurd (omega arith) }

-- a seat that hasn't every node has read nothing
pub read_nothing : (x y : Whole) (seat n : ℕ) (words others read : List ℕ) → n < nodes_of x → x.owner n ≢ seat → HasRead x seat words read
    → HasRead y seat others read
read_nothing x y seat n words others [] few apart h = read_none y seat others
read_nothing x y seat n words others (w ∷ read) few apart h = absurd (apart (h.every (omega arith) n few))

-- ---- schedules

-- a schedule goes on by events of this node
pub record IsFurther (n : ℕ) (old new : List Event) : Type 0 where
  pub events : List Event
  pub more : new ≡ old ++ events
  pub own : AllByRecursion (λ e. node_of e ≡ n) events

pub no_further : (n : ℕ) (schedule : List Event) → IsFurther n schedule schedule
no_further n schedule = record { events = []; more = sym (append-nil schedule); own = tt }

pub one_further : (n : ℕ) (schedule : List Event) (e : Event) → node_of e ≡ n → IsFurther n schedule (schedule ++ e ∷ [])
one_further n schedule e own = record { events = e ∷ []; more = refl; own = (own, tt) }

-- a part knows all that it knows
pub seen_all : (p : Part) → IsSeen p p.schedule
seen_all p = record { others = []; further = sym (append-nil p.schedule); apart = tt }

-- what another's part knows stays a beginning
pub seen_further : (p : Part) (n : ℕ) (old new : List Event) → me_of p ≢ n → IsFurther n old new → IsSeen p old → IsSeen p new
seen_further p n old new not f s = grind (arith, append_assoc, all-append, all_weaker)

-- a node whose seat and its view stay is covered
pub covered_still : (x y : Whole) (views others : List View) (n : ℕ) → y.owner n ≡ x.owner n → (c : IsCovered x views n)
    → get_elem? others (x.owner n) ≡ some c.view → IsCovered y others n
covered_still x y views others n owner c seated = grind arith

-- ---- one step of a seat that has one node

-- A whole after a step: the node of the part and what it knows may have changed, and nothing of other nodes.
pub record Turned (x y : Whole) (seat : ℕ) (part next : Part) : Type 0 where
  pub size : nodes_of y ≡ nodes_of x
  pub owner : (n : ℕ) → y.owner n ≡ x.owner n
  pub me : me_of next ≡ me_of part
  pub further : IsFurther (me_of part) x.schedule y.schedule
  pub others : (n : ℕ) → n ≢ me_of part → node_at y.core n ≡ node_at x.core n
  pub outbound : (lane : ℕ) → sender_of (nodes_of x) lane ≢ me_of part → y.outbound lane ≡ x.outbound lane
  pub inbound : (lane : ℕ) → receiver_of (nodes_of x) lane ≢ me_of part → y.inbound lane ≡ x.inbound lane
  pub known : IsKnown y seat next

-- what another seat knows of its nodes stays so
other_known : (x y : Whole) (seat other : ℕ) (part next p : Part) → other ≢ seat → IsKnown x seat part → Turned x y seat part next → IsKnown x other p
    → IsKnown y other p
other_known x y seat other part next p apart mine t k =
    let n = nodes_of x in
    let size : nodes_of y ≡ n = t.size in
    let not_me : me_of p ≢ me_of part = λ e. apart (sym k.mine ∙ (ap x.owner e ∙ mine.mine)) in
    record {
      some_node = subst (λ (m : ℕ). me_of p < m) (sym size) k.some_node;
      mine = t.owner (me_of p) ∙ k.mine;
      node = t.others (me_of p) not_me ∙ k.node;
      seen = seen_further p (me_of part) x.schedule y.schedule not_me t.further k.seen;
      outbound_long = k.outbound_long ∙ ap lane_count (sym size);
      inbound_long = k.inbound_long ∙ ap lane_count (sym size);
      outbound = λ lane lt is.
          let is' : sender_of n lane ≡ me_of p = subst (λ (m : ℕ). sender_of m lane ≡ me_of p) size is in
          k.outbound lane (subst (λ (m : ℕ). lane < lane_count m) size lt) is' ∙ sym (t.outbound lane (λ e. not_me (sym is' ∙ e)));
      inbound = λ lane lt is.
          let is' : receiver_of n lane ≡ me_of p = subst (λ (m : ℕ). receiver_of m lane ≡ me_of p) size is in
          k.inbound lane (subst (λ (m : ℕ). lane < lane_count m) size lt) is' ∙ sym (t.inbound lane (λ e. not_me (sym is' ∙ e)));
    }

pub step_shows : (x y : Whole) (words : List ℕ) (views : List View) (seat place value : ℕ) (part next : Part) → Shows x words views
    → get_elem? views seat ≡ some (single part) → Turned x y seat part next
    → ((lane : ℕ) → lane < lane_count (nodes_of x) → ShowsLane (set words place value) lane (lane_at y.core lane) (y.outbound lane) (y.inbound lane))
    → Shows y (set words place value) (set views seat (single next))
step_shows x y words views seat place value part next s here t lanes = record {
  long = length-set words place value ∙ (s.long ∙ ap word_count (sym t.size));
  lanes = λ lane lt. lanes lane (subst (λ (m : ℕ). lane < lane_count m) t.size lt);
  known = known;
  covered = covered;
  read = read;
}
  where
    mine : IsKnown x seat part
    mine = (s.known seat (single part) here).0

    seated : seat < length views
    seated = within views seat (single part) here

    known : (other : ℕ) (view : View) → get_elem? (set views seat (single next)) other ≡ some view → AllByRecursion (IsKnown y other) view.parts
    known other view e = elim (at_set views seat other (single next) view e) [
      | inl h ↦ subst (λ (k : ℕ). AllByRecursion (IsKnown y k) view.parts) (sym h.0)
          (subst (λ (v : View). AllByRecursion (IsKnown y seat) v.parts) h.1 (t.known, tt))
      | inr h ↦ all_weaker (IsKnown x other) (IsKnown y other) (λ p k. other_known x y seat other part next p h.0 mine t k) view.parts (s.known other view h.1)
    ]

    covered : (n : ℕ) → n < nodes_of y → IsCovered y (set views seat (single next)) n
    covered n lt =
        let old = s.covered n (subst (λ (m : ℕ). n < m) t.size lt) in
        elim (cases_eq (x.owner n) seat) [
          | inl is ↦ (
              let view_is : single part ≡ old.view =
              some-injective (single part) old.view (sym here ∙ (ap (λ (k : ℕ). get_elem? views k) (sym is) ∙ old.seated)) in
              let part_is : part ≡ old.part = only part old.part old.place (ap (λ (v : View). slice_get v.parts old.place) view_is ∙ old.there) in
              record {
                view = single next;
                place = 0;
                part = next;
                seated = ap (λ (k : ℕ). get_elem? (set views seat (single next)) k) (t.owner n ∙ is) ∙ set_here views seat (single next) seated;
                there =
                    refl;
                of_node = t.me ∙ (ap me_of part_is ∙ old.of_node);
              })
          | inr apart ↦ covered_still x y views (set views seat (single next)) n (t.owner n) old
              (set_else views seat (x.owner n) (single next) apart ∙ old.seated)
        ]
      where
        only : (p q : Part) (k : ℕ) → slice_get (p ∷ []) k ≡ Some q → p ≡ q
        only p q zero e = cc
        only p q (suc k) e = cc

    read : (other : ℕ) (view : View) → get_elem? (set views seat (single next)) other ≡ some view → HasRead y other (set words place value) view.words
    read other view e = elim (at_set views seat other (single next) view e) [
      | inl h ↦ subst (λ (v : View). HasRead y other (set words place value) v.words) h.1 (read_none y other (set words place value))
      | inr h ↦ read_nothing x y other (me_of part) words (set words place value) view.words mine.some_node (λ is. h.0 (sym is ∙ mine.mine))
          (s.read other view h.1)
    ]
