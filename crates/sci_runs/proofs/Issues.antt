-- The operations that a node has issued, behind an event more.
use Rattle.std.proofs.Common.{◌≡◌, ◌≢◌, ℕ, ◌<◌, Bool, if◌then◌else◌, arith, List, [], ◌∷◌, ◌++◌, Option, Some, None, refl, sym, ap, subst, ◌∙◌, inl, inr}
use Rattle.std.proofs.lemmas.{Bool.{cases_eq, eq-eqb, ne_eqb}, List.{append-nil, length_push}}
use Rattle.std.proofs.lemmas.List.Elements.{Contains-append_left, Contains-push, filter_map-append}
use Rattle.std.specs.List.{Contains}
use Rattle.sci_words.specs.declared.{event.Event.{Event}, operation.Op.{Op}}
use Rattle.sci_history.specs.declared.entry.Entry.{Entry}
use Rattle.sci_cache.specs.Cache.{Letter}
use Rattle.sci_core.specs.{declared.pending.Pending.{Pending}, Core.{Core, node_at, node_of, stepping, with_node}}
use Rattle.sci_core.specs.Done.{performed}
use Rattle.sci_core.specs.Node.{NodeOf, no_node, node_accepting, node_asking, node_refusing, node_replying, node_serving, pending_on}
use Rattle.sci_core.specs.{Reached.{IsReached}, WellFormed.{IsWellFormed}, Work.{IsIssued, IsLogged}}
use Rattle.sci_core.proofs.Basics.{Lists.{at_place_set}, Options.{of_some}}
use Rattle.sci_core.proofs.Step.NodeSides.{ServedAs, RefusedAs, serve_as, refuse_as, reply_as}
use Rattle.sci_core.proofs.Step.Steps.{Stepped, By_issue, By_perform, By_ask, By_serve, By_refuse, By_reply, By_accept, stepping_stepped}
use Rattle.sci_core.proofs.WellFormed.WellFormedSteps.{reached_well}
use Rattle.sci_core.proofs.History.Works.{SameWork, accept_work, ask_work, serve_work}
use Rattle.sci_core.proofs.Basics.Options.{at_end}
use Rattle.sci_drive.proofs.Drives.{same_some}
use Rattle.sci_runs.proofs.NodeSteps.{issue_makes, perform_makes}
use Rattle.sci_turn.proofs.Working.{other_stays}
use Rattle.sci_runs.specs.Recorded.{HasIssued, IsKnown, issued_at, issues_at}
use Rattle.sci_words.specs.declared.event.Event.TheVariants as event

-- ---- an Issue

known_issued : (old new : NodeOf) (op : Op) (serial : ℕ) (o : Op) → IsIssued old new op → IsKnown old serial o → IsKnown new serial o
known_issued old new op serial o i (inl pends) = grind (arith, cases_eq)
known_issued old new op serial o i (inr logged) = inr (logged.0, subst (λ (log : List Entry). Contains log logged.0) (sym i.log) logged.1, logged.2, logged.3)

pub issued_more : (ops : List Op) (old new : NodeOf) (op : Op) → IsIssued old new op → HasIssued ops old → HasIssued (ops ++ op ∷ []) new
issued_more ops old new op i has = grind (arith, length_push, at_end, known_issued)

-- ---- a Perform

known_logged : (old new : NodeOf) (line : ℕ) (entry : Entry) (serial : ℕ) (o : Op) → IsLogged old new line entry → IsKnown old serial o → IsKnown new serial o
known_logged old new line entry serial o i (inl pends) = elim (cases_eq o.line line) [
  | inl same ↦
      let one = same_some (pending_on old line) (record { serial = entry.serial; op = entry.op }) (record { serial = serial; op = o }) i.pending
      (ap (pending_on old) (sym same) ∙ pends) in
      inr (
        entry,
        subst (λ (log : List Entry). Contains log entry) (sym i.log) (Contains-push old.log entry),
        ap (λ (p : Pending). p.serial) one,
        ap (λ (p : Pending). p.op) one,
      )
  | inr other ↦ inl (i.others o.line other ∙ pends)
]
known_logged old new line entry serial o i (inr logged) =
    inr (
      logged.0,
      subst (λ (log : List Entry). Contains log logged.0) (sym i.log) (Contains-append_left old.log (entry ∷ []) logged.0 logged.1),
      logged.2,
      logged.3,
    )

pub issued_logged : (ops : List Op) (old new : NodeOf) (line : ℕ) (entry : Entry) → IsLogged old new line entry → HasIssued ops old → HasIssued ops new
issued_logged ops old new line entry i has = record {
  counted = has.counted ∙ sym i.issued;
  each = λ serial o at. known_logged old new line entry serial o i (has.each serial o at);
}

-- ---- any other event

pub issued_same : (ops : List Op) (old new : NodeOf) → SameWork old new → HasIssued ops old → HasIssued ops new
issued_same ops old new same has = grind arith

same_itself : (node : NodeOf) → SameWork node node
same_itself node = record { pending = refl; issued = refl; log = refl }

worked : (core : Core) (m : ℕ) (next : NodeOf) (n : ℕ) → SameWork (node_at core m) next → SameWork (node_at core n) (node_at (with_node core m next) n)
worked core m next n same = at_place_set (λ (j : ℕ) (part : NodeOf). SameWork (node_at core j) part) core.parts m next no_node
    (λ j. same_itself (node_at core j)) same n

stepped_work : (core new : Core) (e : Event) (made : Option Entry) (n : ℕ) → made ≡ None → ((m : ℕ) (op : Op) → e ≡ event.Issue m op → ⊥) → IsWellFormed core
    → Stepped core e made new → SameWork (node_at core n) (node_at new n)
stepped_work core new e made n none other well (By_issue m op next event lt is then_ nothing) = absurd (other m op event)
stepped_work core new e made n none other well (By_perform m line done lt is then_ some) = let clash : None ≡ Some done.1 = sym none ∙ some in cc
stepped_work core new e made n none other well (By_ask m line kind sent is sends_well s nothing) =
    let part = node_at core m in
    let same = of_some (λ (x : NodeOf × Letter). SameWork part x.0) (node_asking part line kind) sent is (ask_work part line kind) in
    subst (λ (x : Core). SameWork (node_at core n) (node_at x n)) s.then_ (worked core m sent.0 n same)
stepped_work core new e made n none other well (By_serve t nothing) =
    let part = node_at core t.node in
    let same = serve_work part t.letter t.next (of_some (ServedAs part t.letter) (node_serving part t.letter) t.next t.takes (serve_as part t.letter)) in
    subst (λ (x : Core). SameWork (node_at core n) (node_at x n)) t.then_ (worked core t.node t.next n same)
stepped_work core new e made n none other well (By_refuse t nothing) =
    let part = node_at core t.node in
    let does = of_some (RefusedAs part t.letter) (node_refusing part t.letter) t.next t.takes (refuse_as part t.letter) in
    let same = subst (SameWork part) does.then_ (record { pending = refl; issued = refl; log = refl }) in
    subst (λ (x : Core). SameWork (node_at core n) (node_at x n)) t.then_ (worked core t.node t.next n same)
stepped_work core new e made n none other well (By_reply m sent is sends_well s nothing) =
    let part = node_at core m in
    let answered = of_some (λ (x : NodeOf × Letter). (record part { waiting = None }) ≡ x.0) (node_replying part) sent is (reply_as part) in
    let same = subst (SameWork part) answered (record { pending = refl; issued = refl; log = refl }) in
    subst (λ (x : Core). SameWork (node_at core n) (node_at x n)) s.then_ (worked core m sent.0 n same)
stepped_work core new e made n none other well (By_accept t nothing) =
    let part = node_at core t.node in
    let same = of_some (SameWork part) (node_accepting part t.letter) t.next t.takes (accept_work part t.letter) in
    subst (λ (x : Core). SameWork (node_at core n) (node_at x n)) t.then_ (worked core t.node t.next n same)

-- an event that is no Issue and no Perform leaves each node's work
step_work : (core new : Core) (e : Event) (n : ℕ) → IsReached core → stepping core e ≡ Some new → performed core e ≡ None
    → ((m : ℕ) (op : Op) → e ≡ event.Issue m op → ⊥) → SameWork (node_at core n) (node_at new n)
step_work core new e n reached steps none other =
    let well = reached_well core reached in
    stepped_work core new e (performed core e) n none other well
    (of_some (Stepped core e (performed core e)) (stepping core e) new steps (stepping_stepped core e well))

-- ---- the operations behind an event more

none_more : (n : ℕ) (events : List Event) (e : Event) → issued_at n e ≡ None → issues_at n (events ++ e ∷ []) ≡ issues_at n events
none_more n events e none = grind (arith, filter_map-append, append-nil)

one_more : (n : ℕ) (events : List Event) (e : Event) (op : Op) → issued_at n e ≡ Some op → issues_at n (events ++ e ∷ []) ≡ issues_at n events ++ op ∷ []
one_more n events e op one = grind (arith, filter_map-append, append-nil)

issue_here : (m n : ℕ) (op : Op) → m ≡ n → issued_at n (event.Issue m op) ≡ Some op
issue_here m n op same = ap (λ (b : Bool). if b then Some op else None) (eq-eqb m n same)

issue_there : (m n : ℕ) (op : Op) → m ≢ n → issued_at n (event.Issue m op) ≡ None
issue_there m n op other = ap (λ (b : Bool). if b then Some op else None) (ne_eqb m n other)

same_on : (core new : Core) (e : Event) (n : ℕ) (events : List Event) → SameWork (node_at core n) (node_at new n) → issued_at n e ≡ None
    → HasIssued (issues_at n events) (node_at core n) → HasIssued (issues_at n (events ++ e ∷ [])) (node_at new n)
same_on core new e n events same none has = grind (arith, none_more, issued_same)

stays_on : (core new : Core) (e : Event) (n : ℕ) (events : List Event) → stepping core e ≡ Some new → node_of e ≢ n → issued_at n e ≡ None
    → HasIssued (issues_at n events) (node_at core n) → HasIssued (issues_at n (events ++ e ∷ [])) (node_at new n)
stays_on core new e n events steps apart none has =
    same_on core new e n events (subst (SameWork (node_at core n)) (sym (other_stays core new e n apart steps)) (same_itself (node_at core n))) none has

pub issues_on : (core new : Core) (e : Event) (n : ℕ) (events : List Event) → IsReached core → n < core.size.nodes → stepping core e ≡ Some new
    → HasIssued (issues_at n events) (node_at core n) → HasIssued (issues_at n (events ++ e ∷ [])) (node_at new n)
issues_on core new (event.Issue m op) n events reached some steps has = elim (cases_eq m n) [
  | inl same ↦
      let own : stepping core (event.Issue n op) ≡ Some new = subst (λ (k : ℕ). stepping core (event.Issue k op) ≡ Some new) same steps in
      subst (λ (ops : List Op). HasIssued ops (node_at new n)) (sym (one_more n events (event.Issue m op) op (issue_here m n op same)))
      (issued_more (issues_at n events) (node_at core n) (node_at new n) op (issue_makes core new n op reached some own) has)
  | inr other ↦ stays_on core new (event.Issue m op) n events steps other (issue_there m n op other) has
]
issues_on core new (event.Perform m line) n events reached some steps has = elim (cases_eq m n) [
  | inl same ↦
      let own : stepping core (event.Perform n line) ≡ Some new = subst (λ (k : ℕ). stepping core (event.Perform k line) ≡ Some new) same steps in
      let made = perform_makes core new n line reached some own in
      subst (λ (ops : List Op). HasIssued ops (node_at new n)) (sym (none_more n events (event.Perform m line) refl))
      (issued_logged (issues_at n events) (node_at core n) (node_at new n) line made.0 made.2 has)
  | inr other ↦ stays_on core new (event.Perform m line) n events steps other refl has
]
issues_on core new e n events reached some steps has =
    same_on core new e n events (step_work core new e n reached steps refl (λ k op is. cc)) refl has
