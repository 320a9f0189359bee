-- Something is always enabled: a packet is passed on, or a node asks.
use Rattle.std.proofs.Common.{◌≡◌, ◌<◌, ◌+◌, ◌*◌, ◌%◌, ℕ, length, Option, Some, None, refl, ap, subst, ◌∙◌}
use Rattle.std.proofs.{Common.{arith, inl, inr}, Math.{Arith.{digits_div, digits_mod}, Nat.{mod-eq_of_lt}}, lemmas.Bool.{cases_lt, le-ltb, lt-ltb}}
use Rattle.std.specs.Prelude.{IsSome, slice_index_or}
use Rattle.sci_words.specs.{declared.event.{AskKind.{AskKind}, Event.{Event}, TheConstants.AskKind.{ALL}}, Event.{ask_number}}
use Rattle.sci_statistics.proofs.Counts.{ask_small}
use Rattle.sci_cache.specs.{Cache.{Letter}}
use Rattle.sci_core.proofs.Basics.Options.{found}
use Rattle.sci_core.proofs.Settling.{Emptying.{next_lowers}, EmptyRuns.{all_out_beyond}, Moves.{accept_found, nothing_found, reply_found, serve_found}}
use Rattle.sci_core.proofs.Settling.{PendingRuns.{can_read}, Rounds.{rounds}, RoundSteps.{ask_enabled}}
use Rattle.sci_core.specs.declared.lane.LaneKind.TheVariants.{Requests, Answers}
use Rattle.sci_core.specs.{Core.{Core, lane_of, node_at, node_of, stepping}, Draining.{IsDrained}, Node.{node_asking}, Reached.{IsReached}}
use Rattle.sci_orders.proofs.Quieting.{lines_next}
use Rattle.sci_random_schedules.specs.Walking.{IsFound, looked_for, moved_to, passing}
use Rattle.sci_words.specs.declared.event.AskKind.TheVariants as kind
use Rattle.sci_words.specs.declared.event.Event.TheVariants as event

kind_at : (ask : AskKind) → slice_index_or ALL (ask_number ask) kind.Mread ≡ ask
kind_at kind.Mread = refl
kind_at _ = refl

-- where each event is looked for
ask_at : (lines line : ℕ) (ask : AskKind) → line < lines → looked_for lines (line * 9 + ask_number ask) ≡ event.Ask 0 line ask
ask_at lines line ask inside = grind (arith, ask_small, lt-ltb, digits_div, digits_mod, kind_at)

passing_at : (lines from sort : ℕ) → sort < 3 → looked_for lines (9 * lines + (from * 3 + sort)) ≡ passing from sort
passing_at lines from sort small = grind (arith, le-ltb, digits_div, digits_mod)

not_both : (o : Option Core) → o ≡ None → IsSome o → ⊥
not_both None none some = cc
not_both (Some core) none some = cc

none_if : (o : Option Letter) → (IsSome o → ⊥) → o ≡ None
none_if None not = refl
none_if (Some letter) not = absurd (not refl)

-- in a reached state some event that is looked for is enabled at some node
module _ (core : Core) (reached : IsReached core)
    (none : (place : ℕ) → place < 9 * core.size.lines + 3 * core.size.nodes → IsFound core (looked_for core.size.lines place) None) where
  nowhere : (place n : ℕ) (first : Event) → place < 9 * core.size.lines + 3 * core.size.nodes → looked_for core.size.lines place ≡ first
      → node_of first ≡ 0 → n < core.size.nodes → stepping core (moved_to n first) ≡ None
  nowhere place n first within is own below =
      let here = none place within n below in
      let zero_plus : 0 + n ≡ n = omega arith in
      let at : (node_of (looked_for core.size.lines place) + n) % core.size.nodes ≡ n =
      ap (λ (m : ℕ). (m + n) % core.size.nodes) (ap node_of is ∙ own) ∙ (ap (λ (m : ℕ). m % core.size.nodes) zero_plus ∙ mod-eq_of_lt below) in
      subst (λ (e : Event). stepping core (moved_to n e) ≡ None) is
      (subst (λ (k : ℕ). stepping core (moved_to k (looked_for core.size.lines place)) ≡ None) at here)

  no_ask : (n line : ℕ) (ask : AskKind) → n < core.size.nodes → line < core.size.lines → stepping core (event.Ask n line ask) ≡ None
  no_ask n line ask below inside =
      let few = ask_small ask in
      nowhere (line * 9 + ask_number ask) n (event.Ask 0 line ask) (omega arith) (ask_at core.size.lines line ask inside) refl below

  no_serve : (from n : ℕ) → from < core.size.nodes → n < core.size.nodes → stepping core (event.Serve from n) ≡ None
  no_serve from n f below =
      nowhere (9 * core.size.lines + (from * 3 + 0)) n (event.Serve from 0) (omega arith) (passing_at core.size.lines from 0 (omega arith)) refl below

  no_accept : (from n : ℕ) → from < core.size.nodes → n < core.size.nodes → stepping core (event.Accept from n) ≡ None
  no_accept from n f below =
      nowhere (9 * core.size.lines + (from * 3 + 1)) n (event.Accept from 0) (omega arith) (passing_at core.size.lines from 1 (omega arith)) refl below

  no_reply : (n : ℕ) → n < core.size.nodes → stepping core (event.Reply n) ≡ None
  no_reply n below =
      nowhere (9 * core.size.lines + (0 * 3 + 2)) n (event.Reply 0) (omega arith) (passing_at core.size.lines 0 2 (omega arith)) refl below

  none_waits : (n : ℕ) → n < core.size.nodes → (node_at core n).waiting ≡ None
  none_waits n below = none_if (node_at core n).waiting (λ some. not_both (stepping core (event.Reply n)) (no_reply n below) (reply_found core n below some))

  no_answers : (from to : ℕ) → from < core.size.nodes → to < core.size.nodes → length (lane_of core Answers from to) ≡ 0
  no_answers from to f t = elim (cases_lt 0 (length (lane_of core Answers from to))) [
    | inl some ↦ absurd (not_both (stepping core (event.Accept from to)) (no_accept from to f t) (accept_found core from to reached f t some))
    | inr zero_long ↦ omega arith
  ]

  no_requests : (from to : ℕ) → from < core.size.nodes → to < core.size.nodes → length (lane_of core Requests from to) ≡ 0
  no_requests from to f t = elim (cases_lt 0 (length (lane_of core Requests from to))) [
    | inl some ↦ absurd (not_both (stepping core (event.Serve from to)) (no_serve from to f t) (serve_found core from to reached f t none_waits some))
    | inr zero_long ↦ omega arith
  ]

  drained : IsDrained core
  drained = nothing_found core reached none_waits no_answers no_requests

  asks : (n line : ℕ) (ask : AskKind) → n < core.size.nodes → line < core.size.lines → IsSome (node_asking (node_at core n) line ask) → ⊥
  asks n line ask below inside some =
      let sent = found (node_asking (node_at core n) line ask) some in
      let target = sent.0.1.target in
      let round = rounds core n line ask target sent.0.0 sent.0.1 reached drained below inside sent.1 refl in
      not_both (stepping core (event.Ask n line ask)) (no_ask n line ask below inside) (ask_enabled core n line ask target round)

  pub never : ⊥
  never = elim (lines_next core core.size.lines (omega arith) reached drained) [
    | inl a ↦
        let lowers = next_lowers core a.node a.line a.ask reached drained a.lt a.inside a.next in
        asks a.node a.line a.ask a.lt a.inside lowers.asks
    | inr out ↦
        let extent = reached.size.extent in
        let some_node = extent.has_node in
        let some_line = extent.has_line in
        asks 0 0 kind.Mread (omega arith) (omega arith)
        (can_read core 0 0 reached (all_out_beyond core reached out) (omega arith) (omega arith))
  ]
