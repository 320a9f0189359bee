-- The sort moves what was collected, and of those that are the same one is kept.
use Rattle.std.proofs.Common.{◌≡◌, ℕ, ◌+◌, ◌<◌, ◌≤◌, ◌++◌, ◌∷◌, [], List, length, map, take, get_or, subst, sym, ap, ◌∙◌, arith}
use Rattle.std.proofs.lemmas.List.{get_or-map, length-map, map-append, take_all, take_more, Elements.{All-get_or}, Filters.{dedup_is}}
use Rattle.std.specs.List.{dedup, Sorted.{IsPermutation, IsSorted}}
use Rattle.std.proofs.lemmas.List.Kept.{IsStrictlySortedBy-dedup}
use Rattle.sci_orders.proofs.{LevelSteps.{more_from, once, steps_kept}, Sameness.{equal_standing, same_standing}}
use Rattle.sci_orders.proofs.orders.Orders.next_level.Goals.{After-dedup}
use Rattle.sci_orders.specs.{Eager.{AreStepsFrom}, Positions.{AreOnce, Fits, Operations, lists_of, position_of}}
use Rattle.sci_orders.specs.contracts.standing.{StandingEq.TheImpl.Laws.{laws-law}, StandingOrd.TheImpl.Laws.{matches_eq-law, total-law}}
use Rattle.sci_orders.specs.contracts.standing.StandingOrd.TheImpl as TheOrder
use Rattle.sci_orders.specs.contracts.standing.StandingPartialEq.TheImpl as TheEquality
use Rattle.sci_orders.specs.declared.standing.Standing.{Standing}
use Rattle.sci_orders.proofs.orders.Orders.next_level.Goals as goal

pub push_steps-requires : goal.push_steps-requires
push_steps-requires c =
    let level = c.args.level.now in
    let i = c.loop-standing.standing-index in
    let item = c.standing-item.result in
    let fits = Fits (lists_of c.args.self.now.operations.now) in
    let below : i < length (map position_of level) = (let long = length-map level position_of in omega arith) in
    let at : get_or (map position_of level) i (position_of item) ≡ position_of item =
    get_or-map position_of level i item (position_of item) c.loop-standing-test.true ∙ ap position_of (sym c.standing-item.is) in
    subst fits at (All-get_or fits (map position_of level) i (position_of item) below c.requires)

-- the next standing has been looked at
pub loop-standing-preserved : goal.loop-standing-preserved
loop-standing-preserved c =
    let level = c.args.level.now in
    let k = c.loop-standing.standing-index in
    let item = c.standing-item.result in
    let more : map position_of (take (k + 1) level) ≡ map position_of (take k level) ++ position_of item ∷ [] =
    ap (map position_of) (take_more level k item c.loop-standing-test.true ∙ ap (λ (s : Standing). take k level ++ s ∷ []) (sym c.standing-item.is))
    ∙ map-append position_of (take k level) (item ∷ []) in
    more_from (lists_of c.args.self.now.operations.now) c.args.self.now.window (position_of item) (map position_of (take k level))
    (map position_of c.loop-standing.next.items) (map position_of (take (k + 1) level)) (map position_of c.push_steps.new.next.items) c.loop-standing.invariant
    c.in_ok-push_steps.ensures more

-- the standings of the next level, each once
stepped : (operations : Operations) (window index : ℕ) (level next sorted final : List Standing) → length level ≤ index → IsSorted (TheOrder.ghosts).cmp sorted
    → final ≡ dedup (TheEquality.ghosts).eq sorted → AreStepsFrom operations window (map position_of (take index level)) (map position_of next)
    → IsPermutation next sorted → AreStepsFrom operations window (map position_of level) (map position_of final) × AreOnce (map position_of final)
stepped operations window index level next sorted final whole order is from moved = (
  steps_kept operations window (TheEquality.ghosts).eq (map position_of level) next sorted final laws-law same_standing
      (subst (λ (ss : List Standing). AreStepsFrom operations window (map position_of ss) (map position_of next)) (take_all index level whole) from) moved is,
  subst (λ (ss : List Standing). AreOnce (map position_of ss)) (sym is)
      (once (TheOrder.ghosts).cmp (TheEquality.ghosts).eq matches_eq-law equal_standing (dedup (TheEquality.ghosts).eq sorted)
      (IsStrictlySortedBy-dedup total-law matches_eq-law sorted order)),
)

kept : (c : After-dedup) → AreStepsFrom (lists_of c.args.self.now.operations.now) c.args.self.now.window (map position_of c.args.level.now)
    (map position_of c.dedup.new.self.items) × AreOnce (map position_of c.dedup.new.self.items)
kept c =
    stepped (lists_of c.args.self.now.operations.now) c.args.self.now.window c.loop-standing.standing-index c.args.level.now c.loop-standing.next.items
    c.sort.new.self.items c.dedup.new.self.items (let end = c.loop-standing-test.false in omega arith) c.in_ok-sort.ensures.sorted
    (dedup_is _ _ _ c.dedup.ensures.filtered) c.loop-standing.invariant c.sort.ensures.permutation

pub returns-then-len-gt-MAX_STANDINGS-clause-many : goal.returns-then-len-gt-MAX_STANDINGS-clause-many
returns-then-len-gt-MAX_STANDINGS-clause-many c = λ is.
    let both = kept (goal.at.returns-then-len-gt-MAX_STANDINGS-clause-many c).After-dedup in
    record {
      positions = map position_of c.dedup.new.self.items;
      steps = both.0;
      once = both.1;
      many = (let long = length-map c.dedup.new.self.items position_of in omega (arith, c.len.ensures));
    }

pub returns-clause-steps : goal.returns-clause-steps
returns-clause-steps c = (kept (goal.at.returns-clause-steps c).After-dedup).0

pub returns-clause-once : goal.returns-clause-once
returns-clause-once c = (kept (goal.at.returns-clause-once c).After-dedup).1
