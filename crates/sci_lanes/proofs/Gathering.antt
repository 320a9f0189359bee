-- Joining the ends and reading the words: each step keeps the rule.
use Rattle.std.proofs.Common.{◌≡◌, ℕ, ◌+◌, ◌<◌, inl, inr, List, [], ◌∷◌, ◌++◌, length, get_or, set, refl, sym, ap, subst, ◌∙◌, arith}
use Rattle.std.proofs.lemmas.List.{set-get_or}
use Rattle.std.specs.{Prelude.{slice_get}, List.{AllByRecursion}}
use mathlib.Core.Option.{some, none, some-injective}
use lib.ListN.{get_elem?, length-append}
use Rattle.atomic_table.specs.Table.{Joins, Allows, State, step, keeps}
use Rattle.atomic_table.proofs.Lists.{at_set, set_here}
use Rattle.sci_core.specs.{Size.{Size}, Core.{AreEnabled, run}}
use Rattle.sci_lanes.specs.{declared.view.View.{View}, Cells.{word_count}}
use Rattle.sci_lanes.specs.Shown.{Whole, nodes_of, IsKnown, HasRead, IsCovered, Shows, IsKept}
use Rattle.sci_lanes.specs.{Ends.{no_view}, Gathering.{Gathers, HasNodes, both_views, read_more}}
use Rattle.sci_lanes.proofs.{TableWords.{one_more}, Keeping.{all_at, within}, Sharing.{joins, kept_owned}}

-- ---- joining

pub joining : (size : Size) (id other : ℕ) (v w : View) → v.words ≡ [] → w.words ≡ [] → Joins (IsKept size) id v other w (both_views v w) no_view
joining size id other v w unread none_read = grind (arith, joins)

-- ---- reading

module _ (size : Size) (slots id place : ℕ) (view : View) (every : HasNodes size.nodes view.parts) (is : place ≡ length view.words)
    (few : place < word_count size.nodes) where
  module _ (s : State (Unit {0}) View) (kept : IsKept size s) (here : get_elem? s.views id ≡ some view) where
    abbrev x : Whole
    x = kept.whole

    abbrev word : ℕ
    word = get_or s.words place 0

    abbrev after : View
    after = read_more word view

    seated : id < length s.views
    seated = within s.views id view here

    known_parts : AllByRecursion (IsKnown x id) view.parts
    known_parts = kept.shown.known id view here

    nodes : nodes_of x ≡ size.nodes
    nodes = ap (λ z. z.nodes) kept.sized

    mine : (n : ℕ) → n < nodes_of x → x.owner n ≡ id
    mine n lt =
        let e = every n (subst (λ (m : ℕ). n < m) nodes lt) in
        let k = all_at (IsKnown x id) view.parts e.0 e.1 e.2 known_parts in
        ap x.owner (sym e.3) ∙ k.mine

    read_here : HasRead x id s.words view.words → HasRead x id s.words after.words
    read_here r = record {
      no_more = (
          let long = kept.shown.long in
          let more : length (view.words ++ word ∷ []) ≡ length view.words + 1 = length-append view.words (word ∷ []) in
          let within : place < word_count (nodes_of x) = subst (λ (n : ℕ). place < word_count n) (sym nodes) few in
          omega arith);
      same = one_more (λ k. get_or s.words k 0) view.words word (ap (λ (k : ℕ). get_or s.words k 0) (sym is)) r.same;
      every = λ some_read n lt. mine n lt;
    }

    known : (seat : ℕ) (v : View) → get_elem? (set s.views id after) seat ≡ some v → AllByRecursion (IsKnown x seat) v.parts
    known seat v e = elim (at_set s.views id seat after v e) [
      | inl k ↦ subst (λ (j : ℕ). AllByRecursion (IsKnown x j) v.parts) (sym k.0) (subst (λ (u : View). AllByRecursion (IsKnown x id) u.parts) k.1 known_parts)
      | inr k ↦ kept.shown.known seat v k.1
    ]

    covered : (n : ℕ) → n < nodes_of x → IsCovered x (set s.views id after) n
    covered n lt =
        let c = kept.shown.covered n lt in
        let at = mine n lt in
        let view_is : view ≡ c.view = some-injective view c.view (sym here ∙ (ap (λ (k : ℕ). get_elem? s.views k) (sym at) ∙ c.seated)) in
        record {
          view = after;
          place = c.place;
          part = c.part;
          seated = ap (λ (k : ℕ). get_elem? (set s.views id after) k) at ∙ set_here s.views id after seated;
          there = ap (λ (v : View). slice_get v.parts c.place) view_is ∙ c.there;
          of_node = c.of_node;
        }

    read : (seat : ℕ) (v : View) → get_elem? (set s.views id after) seat ≡ some v → HasRead x seat s.words v.words
    read seat v e = elim (at_set s.views id seat after v e) [
      | inl k ↦ subst (λ (j : ℕ). HasRead x j s.words v.words) (sym k.0)
          (subst (λ (u : View). HasRead x id s.words u.words) k.1 (read_here (kept.shown.read id view here)))
      | inr k ↦ kept.shown.read seat v k.1
    ]

    shows : Shows x s.words (set s.views id after)
    shows = record { long = kept.shown.long; lanes = kept.shown.lanes; known = known; covered = covered; read = read }

  pub gathers : Allows (IsKept size) slots id (view, []) place (λ n. n) (Gathers (step slots place 0 0 none) (view, []))
  gathers s kept long here fits = (
    after s kept here,
    keeps,
    tt,
    kept_owned size s _ kept kept.whole.owner
        (subst (λ (ws : List ℕ). Shows kept.whole ws (set s.views id (after s kept here))) (sym (set-get_or s.words place 0)) (shows s kept here)),
    record {
      more = refl;
      read = record {
        whole = kept.whole;
        seat = id;
        words = s.words;
        reached = kept.reached;
        leads = ap (λ (z : Size). run z kept.whole.schedule) kept.sized ∙ kept.leads;
        enabled = subst (λ (z : Size). AreEnabled z [] kept.whole.schedule) (sym kept.sized) kept.enabled;
        long = kept.shown.long;
        lanes = kept.shown.lanes;
        known = known_parts s kept here;
        read = read_here s kept here (kept.shown.read id view here);
      };
    },
  )
