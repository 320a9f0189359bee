-- In steady turns no list that may write has two entries for long: patience marks its head, which then purges; and no Purge is under way for
-- long.
use Rattle.std.proofs.Common.{◌≡◌, ◌<◌, ◌&&◌, ◌||◌, ℕ, Bool, true, false, arith, List, [], ◌∷◌, Some, None, refl, sym, subst, ◌∙◌, inl, inr, rules}
use Rattle.std.proofs.lemmas.{Bool.{cases_Bool, cases_lt}, List.{get_or_past}}
use Rattle.std.specs.Prelude.{IfSome, is_some}
use Rattle.sci_words.specs.declared.{event.AskKind.{AskKind}, limits.TheConstants.{MAX_LINES}}
use Rattle.sci_cache.specs.{State.{CacheState, waits}, Asking.{Asked, asking}, Kinds.{has_sharers}}
use Rattle.sci_core.specs.{Core.{Core, node_at}, Node.{lines_of, node_performing}, Reached.{IsReached}, Size.{Size}}
use Rattle.sci_core.proofs.{Basics.Options.{of_some}, WellFormed.WellFormedSteps.{reached_well}}
use Rattle.sci_policy.specs.declared.{want.Want.{TheVariants.{Perform, Ask}}}
use Rattle.sci_policy.specs.{Lines.{can_drain, has_pending, state_on}, Policy.{IsEnabledWant, has, is_purged, next_wanted, ticked}}
use Rattle.sci_policy.proofs.Wants.{wanted_enabled}
use Rattle.sci_policy.proofs.Patience.{still_marked}
use Rattle.sci_fair.specs.Steady.{IsSteadyTurn, Working, WorksByTurns}
use Rattle.sci_fair.proofs.Ahead.{Ahead, Amid, asked_at_last, asked_now, earlier, fewer, firm, firm_asked, firm_before, performs_none, purges_none}
use Rattle.sci_fair.proofs.{FirstWants.{PerformsNot, wants_purge}, HeldUp.{Asks_it, IsFree, Performs_it, Wants_none}}
use Rattle.sci_fair.proofs.{Markings.{draining}, Patience.{MarkedTurn, Stopped, marked_turn}}
use Rattle.sci_fair.proofs.{ReadCarries.{asks_free}, Requests.{size_along}, SteadyTurns.{Held}}
use Rattle.sci_words.specs.declared.event.AskKind.TheVariants as kind

-- ---- free turns

-- what is wanted first in a free turn is asked
pub asks_it : (n : ℕ) (old new : Working) (held : Held n old new) (line : ℕ) (k : AskKind) → IsFree n old new held
    → next_wanted held.trace.p2 (node_at held.trace.c2 n) ≡ Some (Ask line k)
    → (asked : Asked) × (asking (state_on (node_at held.trace.c2 n) line) k ≡ Some asked) × (state_on (node_at new.core n) line ≡ asked.next)
asks_it n old new held line k (Wants_none none) wants = let clash : None ≡ Some (Ask line k) = sym none ∙ wants in cc
asks_it n old new held line k (Performs_it at performs same) wants = let clash : Some (Perform at) ≡ Some (Ask line k) = sym performs ∙ wants in cc
asks_it n old new held line k (Asks_it at j rest is events) wants =
    let t = held.trace in
    let same : Some (Ask at j) ≡ Some (Ask line k) = sym is ∙ wants in
    let line_is : at ≡ line = cc in
    let kind_is : j ≡ k = cc in
    let asked = asked_at_last n old new held at j t.e3 rest t.p2 t.c2 events t.are_asks held.asks in
    subst (λ (l : ℕ). (asked : Asked) × (asking (state_on (node_at t.c2 n) l) k ≡ Some asked) × (state_on (node_at new.core n) l ≡ asked.next)) line_is
    (subst (λ (i : AskKind). (asked : Asked) × (asking (state_on (node_at t.c2 n) at) i ≡ Some asked) × (state_on (node_at new.core n) at ≡ asked.next)) kind_is
    asked)

-- and nothing can be performed
pub performs_not : (n : ℕ) (old new last : Working) (held : Held n old new) → n < old.core.size.nodes → IsFree n old new held → Ahead 1 new last
    → PerformsNot (next_wanted held.trace.p2 (node_at held.trace.c2 n))
performs_not n old new last held some (Wants_none none) ahead line is = let clash : None ≡ Some (Perform line) = sym none ∙ is in cc
performs_not n old new last held some (Asks_it at k rest asks events) ahead line is =
    let clash : Some (Ask at k) ≡ Some (Perform line) = sym asks ∙ is in cc
performs_not n old new last held some (Performs_it at performs same) ahead line is =
    let t = held.trace in
    let node = node_at t.c2 n in
    let can : is_some (node_performing node line) ≡ true =
    of_some (IsEnabledWant node) (next_wanted t.p2 node) (Perform line) is (wanted_enabled (ticked t.p2 node) node) in
    performs_none n line new last (subst (λ (z : Size). n < z.nodes) (sym held.size) some) ahead
    (subst (λ (c : Core). is_some (node_performing (node_at c n) line) ≡ true) same can)

purge_next : (s : CacheState) → IfSome (asking s kind.Purge) (λ (asked : Asked). (can_drain asked.next && waits asked.next) ≡ true)
purge_next s = search rules

purging_parts : (s : CacheState) → (can_drain s && waits s) ≡ true → (can_drain s ≡ true) × ((has_sharers s ≡ false) × (waits s ≡ true))
purging_parts s is = search rules

-- so no line is to be purged
pub none_purged : (n : ℕ) (old new last : Working) (held : Held n old new) → WorksByTurns old.core → n < old.core.size.nodes → IsFree n old new held
    → Ahead 280 new last → (line : ℕ) → line < lines_of (node_at held.trace.c2 n)
    → is_purged (ticked held.trace.p2 (node_at held.trace.c2 n)) (node_at held.trace.c2 n) line ≡ false
none_purged n old new last held good some free ahead line below =
    let t = held.trace in
    let node = node_at t.c2 n in
    let policy = ticked t.p2 node in
    elim (cases_Bool (is_purged policy node line)) [
      | inr none ↦ none
      | inl is ↦
          let n_new : n < new.core.size.nodes = subst (λ (z : Size). n < z.nodes) (sym held.size) some in
          let wants = wants_purge policy node line below is (performs_not n old new last held some free (fewer 1 280 new last (omega arith) ahead)) in
          let at = wants.0 in
          let asked = asks_it n old new held at kind.Purge free wants.1 in
          let idle = of_some (λ (a : Asked). waits (state_on node at) ≡ false) (asking (state_on node at) kind.Purge) asked.0 asked.1
          (asks_free (state_on node at) kind.Purge) in
          let next = of_some (λ (a : Asked). (can_drain a.next && waits a.next) ≡ true) (asking (state_on node at) kind.Purge) asked.0 asked.1
          (purge_next (state_on node at)) in
          let parts = purging_parts (state_on (node_at new.core n) at) (subst (λ (s : CacheState). (can_drain s && waits s) ≡ true) (sym asked.2) next) in
          let lane = asked_now n at old new good held some idle parts.1.1 in
          absurd (purges_none n at (state_on (node_at new.core n) at) new last n_new ahead parts.0 parts.1.0 lane)
    ]

-- ---- heads with a next entry

-- a line beyond the machine's is in no list
pub drains_inside : (core : Core) (n line : ℕ) → IsReached core → n < core.size.nodes → can_drain (state_on (node_at core n) line) ≡ true
    → line < core.size.lines
drains_inside core n line reached some drains = grind (arith, cases_lt, reached_well, get_or_past)

purging_leads : (s : CacheState) → can_drain s ≡ true → has_sharers s ≡ false → firm s ≡ true
purging_leads s drains none = search rules

purged_by_mark : (shares marked pending : Bool) → shares ≡ true → marked ≡ true → (shares && (marked || pending)) ≡ true
purged_by_mark shares marked pending one two = search rules

pub lines_small : (core : Core) (line : ℕ) → IsReached core → line < core.size.lines → line < MAX_LINES
lines_small core line reached inside = let most = reached.size.extent.few_lines in omega (arith, inside, most)

-- no line purges when the node has asked in its turn
pub none_purging : (n line : ℕ) (old new last : Working) → IsSteadyTurn n old new → WorksByTurns old.core → (held : Held n old new) → n < old.core.size.nodes
    → Ahead 280 new last → can_drain (state_on (node_at new.core n) line) ≡ true → has_sharers (state_on (node_at new.core n) line) ≡ false → ⊥
none_purging n line old new last turn good held some ahead drains none =
    let s = state_on (node_at new.core n) line in
    let n_new : n < new.core.size.nodes = subst (λ (z : Size). n < z.nodes) (sym held.size) some in
    elim (firm_asked n line old new good held some (purging_leads s drains none)) [
      | inl before ↦ purges_none n line s old last some (earlier 280 (n ∷ []) old new last good (new, turn, refl) ahead) drains none before
      | inr now ↦ purges_none n line s new last n_new ahead drains none now
    ]

stopped_never : (n line : ℕ) (order : List ℕ) (first mid last : Working) → n < first.core.size.nodes → WorksByTurns first.core
    → Stopped draining n line order first mid → Ahead 280 mid last → ⊥
stopped_never n line order first mid last some good stopped ahead =
    let new = stopped.new in
    let there = earlier 280 stopped.after new mid last stopped.held.good stopped.turns ahead in
    let n_old : n < stopped.old.core.size.nodes = stopped.turn.alone.some in
    elim stopped.stops [
      | inl held ↦ none_purging n line stopped.old new last stopped.turn stopped.good stopped.held n_old there held.0 held.1
      | inr works ↦ performs_none n works.0 new last (subst (λ (z : Size). n < z.nodes) (sym stopped.held.size) n_old)
          (fewer 1 280 new last (omega arith) there) works.1
    ]

marked_never : (n line : ℕ) (first mid last : Working) → MarkedTurn draining n line first mid → Ahead 280 mid last → ⊥
marked_never n line first mid last marked ahead =
    let held = marked.held in
    let t = held.trace in
    let node = node_at t.c2 n in
    let s = state_on node line in
    let some = marked.turn.alone.some in
    let there = earlier 280 marked.later marked.new mid last held.good marked.turns ahead in
    elim (cases_Bool (has_sharers s)) [
      | inr none ↦
          let before = firm_before n line marked.old marked.new marked.good held some (purging_leads s marked.is none) in
          purges_none n line s marked.old last some
          (earlier 280 (n ∷ []) marked.old marked.new last marked.good (marked.new, marked.turn, refl) there) marked.is none before
      | inl shares ↦
          let since = t.taken.so.since in
          let n2 : n < t.c2.size.nodes = subst (λ (z : Size). n < z.nodes) (sym since.size) some in
          let inside = drains_inside t.c2 n line since.reached n2 marked.is in
          let all = ((reached_well t.c2 since.reached).each_part n n2).each in
          let below : line < lines_of node = omega (arith, inside, all) in
          let policy = ticked t.p2 node in
          let still : (has t.p2.draining line && can_drain s) ≡ true = rw (marked.marked, marked.is) refl in
          let mark = still_marked t.p2 node line _ (lines_small t.c2 line since.reached inside) still in
          let purged : is_purged policy node line ≡ true =
          purged_by_mark (has_sharers s) (has policy.draining line) (has_pending node line) shares mark in
          let clash : true ≡ false = sym purged ∙ none_purged n marked.old marked.new last held marked.good some marked.free there line below in cc
    ]

-- so amid steady turns there is none
pub no_sharers : (n line : ℕ) (w last : Working) → n < w.core.size.nodes → Amid 280 w last → can_drain (state_on (node_at w.core n) line) ≡ false
no_sharers n line w last some amid = elim (cases_Bool (can_drain (state_on (node_at w.core n) line))) [
  | inr out ↦ out
  | inl drains ↦
      let first = amid.first in
      let size = size_along amid.behind first w amid.good amid.came in
      let n_first : n < first.core.size.nodes = subst (λ (z : Size). n < z.nodes) size some in
      let inside = drains_inside w.core n line amid.ahead.good.reached some drains in
      let small = lines_small w.core line amid.ahead.good.reached inside in
      absurd (elim (marked_turn draining n line small amid.behind first w amid.good n_first amid.came amid.windows drains) [
        | inl marked ↦ marked_never n line first w last marked amid.ahead
        | inr stopped ↦ stopped_never n line amid.behind first w last n_first amid.good stopped amid.ahead
      ])
]
