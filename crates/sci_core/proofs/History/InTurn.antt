-- A node that has at most one operation pending at a time logs in the order issued.
use Rattle.std.proofs.Common.{◌≡◌, ◌≢◌, ℕ, zero, suc, ◌+◌, ◌<◌, List, [], ◌∷◌, ◌++◌, map, get_or, set, take, Option, Some, None, refl, sym, ap, subst, ◌∙◌}
use Rattle.std.proofs.{Common.{arith, inl, inr}, lemmas.Bool.{cases_eq, cases_lt}}
use Rattle.std.proofs.lemmas.List.{get_or-set_same, get_or-set_other, Elements.{All-from_recursion}}
use Rattle.std.proofs.lemmas.List.Quantifiers.{all_pairs_push}
use Rattle.std.specs.{Prelude.{IfSome, IsSome, unwrap_or}, List.{AllByRecursion}}
use Rattle.sci_words.specs.declared.{event.Event.{Event}, operation.Op.{Op}, limits.TheConstants.{MAX_NODES}}
use Rattle.sci_history.specs.{declared.entry.Entry.{Entry}, Placed.{log_of}, Sequential.{IsInProgramOrder, AreInProgramOrder}}
use Rattle.sci_history.proofs.Order.{all_weaker, all-append}
use Rattle.sci_cache.specs.Cache.{CacheOf}
use Rattle.sci_core.specs.declared.pending.Pending.{Pending}
use Rattle.sci_core.specs.Node.{NodeOf, opening_node, no_node, pending_on, entry_of, node_logged, may_issue, node_issued, node_issuing, node_performing}
use Rattle.sci_core.specs.Node.{node_accepting, IsPendingOn, IsNode}
use Rattle.sci_core.specs.{Core.{Core, node_at, with_node, stepping, step, opening, run}, Done.{performed}}
use Rattle.sci_core.specs.{InTurn.{HasOnePending, IssuesInTurn}, Outcome.{logs_of}, Reached.{IsReached}, Size.{Size, IsSize}}
use Rattle.sci_core.specs.Network.{Happens, Move, MovesInTurn, Overtakes, moved, moved_from}
use Rattle.sci_core.specs.WellFormed.{IsWellFormed}
use Rattle.sci_core.proofs.Basics.{Lists.{if_either, at_place_set}, Options.{of_some, none_in}}
use Rattle.sci_core.proofs.Step.{NodeSides.{PerformedAs, perform_as, serve_as, refuse_as, reply_as}, Nodes.{some_below}}
use Rattle.sci_core.proofs.Step.Steps.{Stepped, By_issue, By_perform, By_ask, By_serve, By_refuse, By_reply, By_accept, stepping_stepped}
use Rattle.sci_core.proofs.WellFormed.WellFormedSteps.{move_well, moved_happens, reached_well, run_well, opened}
use Rattle.sci_core.proofs.{ReachedLaws.{log_at, log_beyond, beyond_log}, Shape.ShapeRuns.{each_mapped}}
use Rattle.sci_core.proofs.History.Works.{SameWork, ask_work, serve_work, accept_work}

-- The serials of the log rise, and that of a pending operation is above them; all are below the count of issues.
pub record LogsInTurn (part : NodeOf) : Type 0 where
  pub below : AllByRecursion (λ entry. entry.serial < part.issued) part.log
  pub rising : IsInProgramOrder part.log
  pub pending : (line : ℕ) → IfSome (pending_on part line) (λ p. AllByRecursion (λ entry. entry.serial < p.serial) part.log)

-- ---- one node's side

same_turn : (old new : NodeOf) → SameWork old new → LogsInTurn old → LogsInTurn new
same_turn old new same has = record {
  below = rw (same.log, same.issued) has.below;
  rising = rw same.log has.rising;
  pending = λ line. rw (same.log, same.pending) (has.pending line);
}

-- an operation that is issued gets a serial above all
issued_turn : (part : NodeOf) (op : Op) → LogsInTurn part → LogsInTurn (node_issued part op)
issued_turn part op has = record {
  below = all_weaker (λ (entry : Entry). entry.serial < part.issued) (λ entry. entry.serial < part.issued + 1) (λ entry lt. omega arith) part.log has.below;
  rising = has.rising;
  pending = at_place_set (λ (line : ℕ) (o : Option Pending). IfSome o (λ p. AllByRecursion (λ entry. entry.serial < p.serial) part.log)) part.pending op.line
      (Some (record { serial = part.issued; op = op })) None has.pending has.below;
}

issue_turn : (part : NodeOf) (op : Op) → LogsInTurn part → IfSome (node_issuing part op) LogsInTurn
issue_turn part op has = if_either (λ (o : Option NodeOf). IfSome o LogsInTurn) (may_issue part op) (Some (node_issued part op)) None (issued_turn part op has)
    tt

-- no other line has a pending operation
none_else : (part : NodeOf) (line other : ℕ) (p : Pending) → HasOnePending part → pending_on part line ≡ Some p → other ≢ line → (o : Option Pending)
    → pending_on part other ≡ o → o ≡ None
none_else part line other p one here ne None at = refl
none_else part line other p one here ne (Some q) at = absurd (ne (one other line (subst IsSome (sym at) refl) (subst IsSome (sym here) refl)))

-- the one pending operation is logged, and none is pending any more
logged_turn : (part : NodeOf) (line : ℕ) (p : Pending) (cache : CacheOf) (entry : Entry) → entry.serial ≡ p.serial → pending_on part line ≡ Some p
    → p.serial < part.issued → HasOnePending part → LogsInTurn part → LogsInTurn (node_logged part line cache entry)
logged_turn part line p cache entry serial here below one has =
    let before : AllByRecursion (λ (e : Entry). e.serial < p.serial) part.log =
    of_some (λ (q : Pending). AllByRecursion (λ (e : Entry). e.serial < q.serial) part.log) (pending_on part line) p here (has.pending line) in
    let less : AllByRecursion (λ (e : Entry). e.serial < entry.serial) part.log =
    subst (λ (k : ℕ). AllByRecursion (λ (e : Entry). e.serial < k) part.log) (sym serial) before in
    record {
      below = all-append (λ (e : Entry). e.serial < part.issued) part.log (entry ∷ []) has.below (omega arith, tt);
      rising = all_pairs_push (λ (x y : Entry). x.serial < y.serial) part.log entry has.rising
          (All-from_recursion (λ (x : Entry). x.serial < entry.serial) part.log less);
      pending = λ k.
          let none : get_or (set part.pending line None) k None ≡ None = elim (cases_eq k line) [
            | inl e ↦ ap (λ (j : ℕ). get_or (set part.pending line None) j None) e
                ∙ get_or-set_same part.pending line None None (some_below part.pending line p here)
            | inr ne ↦ get_or-set_other part.pending line k None None ne ∙ none_else part line k p one here ne (pending_on part k) refl
          ] in
          subst (λ (o : Option Pending). IfSome o (λ (q : Pending). AllByRecursion (λ (x : Entry). x.serial < q.serial) (part.log ++ entry ∷ []))) (sym none)
          tt;
    }

perform_turn : (part : NodeOf) (line : ℕ) (done : NodeOf × Entry) → PerformedAs part line done → IsNode part → HasOnePending part → LogsInTurn part
    → LogsInTurn done.0
perform_turn part line done does fits one has =
    let is = of_some (IsPendingOn part.issued line) (pending_on part line) does.pending does.here (fits.each line) in
    subst LogsInTurn does.next (logged_turn part line does.pending _ (entry_of part does.pending does.did.reply does.did.version) refl does.here is.serial one
    has)

-- ---- a step

-- node n after another node's change, or its own
turned : (core : Core) (m : ℕ) (next : NodeOf) (n : ℕ) → (m ≡ n → LogsInTurn next) → LogsInTurn (node_at core n)
    → LogsInTurn (node_at (with_node core m next) n)
turned core m next n own has =
    at_place_set (λ (j : ℕ) (part : NodeOf). j ≡ n → LogsInTurn part) core.parts m next no_node
    (λ j e. subst (λ (k : ℕ). LogsInTurn (node_at core k)) (sym e) has) own n refl

same_turned : (core : Core) (m : ℕ) (next : NodeOf) (n : ℕ) → SameWork (node_at core m) next → LogsInTurn (node_at core n)
    → LogsInTurn (node_at (with_node core m next) n)
same_turned core m next n same has =
    turned core m next n (λ e. same_turn (node_at core m) next same (subst (λ (k : ℕ). LogsInTurn (node_at core k)) (sym e) has)) has

stepped_turn : (core new : Core) (e : Event) (made : Option Entry) (n : ℕ) → IsWellFormed core → HasOnePending (node_at core n) → LogsInTurn (node_at core n)
    → Stepped core e made new → LogsInTurn (node_at new n)
stepped_turn core new e made n well one has (By_issue m op next event lt is then_ none) =
    let here = λ (e : m ≡ n). subst (λ (k : ℕ). LogsInTurn (node_at core k)) (sym e) has in
    subst (λ (x : Core). LogsInTurn (node_at x n)) then_
    (turned core m next n (λ e. of_some LogsInTurn (node_issuing (node_at core m) op) next is (issue_turn (node_at core m) op (here e))) has)
stepped_turn core new e made n well one has (By_perform m line done lt is then_ some) =
    let part = node_at core m in
    let does = of_some (PerformedAs part line) (node_performing part line) done is (perform_as part line) in
    let both = λ (e : m ≡ n). subst (λ (k : ℕ). HasOnePending (node_at core k) × LogsInTurn (node_at core k)) (sym e) (one, has) in
    subst (λ (x : Core). LogsInTurn (node_at x n)) then_
    (turned core m done.0 n (λ e. perform_turn part line done does (well.each_part m lt).fits (both e).0 (both e).1) has)
stepped_turn core new e made n well one has (By_ask m line kind sent is sends_well s none) = grind (arith, of_some, ask_work, same_turned)
stepped_turn core new e made n well one has (By_serve t none) = grind (arith, serve_work, of_some, serve_as, same_turned)
stepped_turn core new e made n well one has (By_refuse t none) = grind (arith, of_some, refuse_as, same_turned)
stepped_turn core new e made n well one has (By_reply m sent is sends_well s none) = grind (arith, of_some, reply_as, same_turned)
stepped_turn core new e made n well one has (By_accept t none) =
    let part = node_at core t.node in
    let same = of_some (SameWork part) (node_accepting part t.letter) t.next t.takes (accept_work part t.letter) in
    subst (λ (x : Core). LogsInTurn (node_at x n)) t.then_ (same_turned core t.node t.next n same has)

after_turn : (core : Core) (e : Event) (next : Option Core) (made : Option Entry) (n : ℕ) → IsWellFormed core → HasOnePending (node_at core n)
    → LogsInTurn (node_at core n) → IfSome next (Stepped core e made) → LogsInTurn (node_at (unwrap_or next core) n)
after_turn core e None made n well one has stepped = has
after_turn core e (Some new) made n well one has stepped = stepped_turn core new e made n well one has stepped

step_turn : (core : Core) (e : Event) (n : ℕ) → IsWellFormed core → HasOnePending (node_at core n) → LogsInTurn (node_at core n)
    → LogsInTurn (node_at (step core e) n)
step_turn core e n well one has = after_turn core e (stepping core e) (performed core e) n well one has (stepping_stepped core e well)

-- ---- a run

-- over a network that keeps no order
move_turn : (core : Core) (move : Move) (n : ℕ) → IsWellFormed core → HasOnePending (node_at core n) → LogsInTurn (node_at core n)
    → LogsInTurn (node_at (moved core move) n)
move_turn core (Happens e) n well one has = step_turn core e n well one has
move_turn core (Overtakes place k) n well one has = has

moves_turn : (core : Core) (moves : List Move) (n : ℕ) → IsWellFormed core
    → ((place : ℕ) → HasOnePending (node_at (moved_from core (take place moves)) n)) → LogsInTurn (node_at core n)
    → LogsInTurn (node_at (moved_from core moves) n)
moves_turn core [] n well one has = has
moves_turn core (move ∷ moves) n well one has =
    moves_turn (moved core move) moves n (move_well core move well).well (λ place. one (suc place)) (move_turn core move n well (one zero) has)

none_below : (j : ℕ) → j < 0 → ⊥
none_below j lt = omega arith

pub empty_in_order : IsInProgramOrder []
empty_in_order i j d lt inside = absurd (none_below j inside)

opening_turn : (me : ℕ) (size : Size) → LogsInTurn (opening_node me size)
opening_turn me size = grind (arith, empty_in_order, none_in)

-- from the opening on
pub moves_logged_in_turn : (size : Size) (moves : List Move) (n : ℕ) → IsSize size → MovesInTurn size moves n
    → IsInProgramOrder (node_at (moved_from (opening size) moves) n).log
moves_logged_in_turn size moves n sizes one =
    let first = each_mapped LogsInTurn (λ (m : ℕ). opening_node m size) no_node 0 size.nodes n (λ m. opening_turn m size)
    (opening_turn 0 (record { nodes = 1; lines = 0; slots = 0; limit = 0 })) in
    (moves_turn (opening size) moves n (opened size sizes) one first).rising

-- of a schedule, whose events are moves
taken_happen : (place : ℕ) (events : List Event) → take place (map Happens events) ≡ map Happens (take place events)
taken_happen zero events = refl
taken_happen (suc place) [] = refl
taken_happen (suc place) (e ∷ events) = ap (λ (ms : List Move). Happens e ∷ ms) (taken_happen place events)

pub schedule_turn : (size : Size) (schedule : List Event) (n : ℕ) → IsSize size → IssuesInTurn size schedule n
    → IsInProgramOrder (node_at (run size schedule) n).log
schedule_turn size schedule n sizes one =
    let so : MovesInTurn size (map Happens schedule) n = λ place.
    subst (λ (core : Core). HasOnePending (node_at core n))
    (sym (ap (moved_from (opening size)) (taken_happen place schedule) ∙ moved_happens (opening size) (take place schedule))) (one place) in
    subst (λ (core : Core). IsInProgramOrder (node_at core n).log) (moved_happens (opening size) schedule)
    (moves_logged_in_turn size (map Happens schedule) n sizes so)

pub schedules_in_turn : (size : Size) (schedule : List Event) → IsSize size → ((n : ℕ) → n < size.nodes → IssuesInTurn size schedule n)
    → AreInProgramOrder (logs_of (run size schedule))
schedules_in_turn size schedule sizes each node =
    let core = run size schedule in
    let steps = run_well (opening size) schedule (opened size sizes) in
    let nodes : core.size.nodes ≡ size.nodes = ap (λ (s : Size). s.nodes) steps.same in
    elim (cases_lt node MAX_NODES) [
      | inl low ↦ subst IsInProgramOrder (sym (log_at core node low)) (elim (cases_lt node size.nodes) [
        | inl lt ↦ schedule_turn size schedule node sizes (each node lt)
        | inr past ↦ subst IsInProgramOrder (sym (beyond_log core node steps.well (omega arith))) empty_in_order
      ])
      | inr past ↦ subst IsInProgramOrder (sym (log_beyond core node past)) empty_in_order
    ]

-- if the log of each node stands in order, all logs do: no other has an entry
pub in_order : (logs : List (List Entry)) (count : ℕ) (core : Core) → IsReached core → logs ≡ logs_of core → core.size.nodes ≡ count
    → ((node : ℕ) → node < count → IsInProgramOrder (log_of logs node)) → AreInProgramOrder logs
in_order logs count core reached is nodes each node = elim (cases_lt node count) [
  | inl lt ↦ each node lt
  | inr past ↦ subst (λ (all : List (List Entry)). IsInProgramOrder (log_of all node)) (sym is) (elim (cases_lt node MAX_NODES) [
    | inl low ↦ subst IsInProgramOrder (sym (log_at core node low ∙ beyond_log core node (reached_well core reached) (omega arith))) empty_in_order
    | inr high ↦ subst IsInProgramOrder (sym (log_beyond core node high)) empty_in_order
  ])
]
