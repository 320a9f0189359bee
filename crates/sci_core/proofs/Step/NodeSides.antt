-- What each event does at its node: to the standing of the node's lines, to its homes, and to the answer that waits.
use Rattle.std.proofs.Common.{◌≡◌, ℕ, ◌<◌, Bool, true, false, if◌then◌else◌, Option, Some, None, refl, sym, subst, arith}
use Rattle.std.proofs.lemmas.{Option.{IfSome_then}, List.{get_or-set_same}}
use Rattle.std.specs.Prelude.{IfSome, slice_set, option_map}
use Rattle.sci_words.specs.declared.{event.AskKind.{AskKind}, operation.Op.{Op}}
use Rattle.sci_packets.specs.declared.body.Body.{Body, TheVariants.{Busy}}
use Rattle.sci_history.specs.declared.entry.Entry.{Entry}
use Rattle.sci_home.specs.{declared.state.HomeState.{HomeState}, Serving.{is_for_home, home_serving as serving_of_home}}
use Rattle.sci_cache.specs.{State.{CacheState}, Asking.{Asked}, Serving.{serving}, Accepting.{accepting}}
use Rattle.sci_cache.specs.Performing.{Performed, performing}
use Rattle.sci_cache.specs.Line.{LineState, untouched, line_in, line_asked, ask_or_fault}
use Rattle.sci_cache.specs.Cache.{CacheOf, Letter, line_of, with_line, cache_asked}
use Rattle.sci_core.proofs.Basics.{Options.{of_some}, Lists.{if_either, at_place_set, if_cases}}
use Rattle.sci_core.proofs.Shape.Standings.{Alike, alike_itself}
use Rattle.sci_core.proofs.Tidy.RowWaits.{BeginsToWait, EndsToWait, asking_waits, accepting_waits}
use Rattle.sci_core.specs.declared.pending.Pending.{Pending}
use Rattle.sci_core.specs.Node.{NodeOf, lines_of, home_place, home_of, pending_on, entry_of, node_logged, node_issuing, performed_by, performing_pending}
use Rattle.sci_core.specs.Node.{node_performing, asked_by, node_asking, with_answer, served_at_home, served_in_cache, serving_at_home, serving_in_cache}
use Rattle.sci_core.specs.Node.{serving_request, answered_by, node_serving, is_setback, node_refusing, replied_by, node_replying, accepted_by}
use Rattle.sci_core.specs.Node.{node_accepting}

pub record SameHomes (old new : NodeOf) : Type 0 where
  pub homes : new.homes ≡ old.homes
  pub nodes : new.cache.nodes ≡ old.cache.nodes

-- one line of a node gets another state
abbrev pub with_state : NodeOf → ℕ → CacheState → NodeOf
with_state part line state = record part { cache = with_line part.cache line (line_in (line_of part.cache line) state) }

-- ---- Issue

-- every line stands as it stood
pub record Unmoved (old new : NodeOf) : Type 0 where
  pub alike : (k : ℕ) (answer : Option Body) → Alike (line_of old.cache k).state answer (line_of new.cache k).state answer
  pub same : SameHomes old new

pub issue_unmoved : (part : NodeOf) (op : Op) → IfSome (node_issuing part op) (Unmoved part)
issue_unmoved part op = grind (arith, if_either, alike_itself)

-- ---- Perform

-- the operation that was pending on a line is done, and what it did ends the log
pub record PerformedAs (part : NodeOf) (line : ℕ) (done : NodeOf × Entry) : Type 0 where
  pub pending : Pending
  pub here : pending_on part line ≡ Some pending
  pub did : Performed
  pub performs : performing (line_of part.cache pending.op.line).state pending.op ≡ Some did
  pub next : node_logged part line (with_line part.cache pending.op.line (line_in (line_of part.cache pending.op.line) did.next))
      (entry_of part pending did.reply did.version) ≡ done.0
  pub entry : entry_of part pending did.reply did.version ≡ done.1

performed_as : (part : NodeOf) (line : ℕ) (pending : Pending) (done : Option Performed) → pending_on part line ≡ Some pending
    → performing (line_of part.cache pending.op.line).state pending.op ≡ done
    → IfSome (performed_by part line pending
    (option_map (λ d. (with_line part.cache pending.op.line (line_in (line_of part.cache pending.op.line) d.next), d.reply, d.version)) done))
    (PerformedAs part line)
performed_as part line pending None here is = tt
performed_as part line pending (Some d) here is = record { pending = pending; here = here; did = d; performs = is; next = refl; entry = refl }

pending_as : (part : NodeOf) (line : ℕ) (pending : Option Pending) → pending_on part line ≡ pending
    → IfSome (performing_pending part line pending) (PerformedAs part line)
pending_as part line None here = tt
pending_as part line (Some pending) here = performed_as part line pending (performing (line_of part.cache pending.op.line).state pending.op) here refl

pub perform_as : (part : NodeOf) (line : ℕ) → IfSome (node_performing part line) (PerformedAs part line)
perform_as part line = pending_as part line (pending_on part line) refl

-- ---- Ask

pub record AsksAlike (part : NodeOf) (sent : NodeOf × Letter) : Type 0 where
  pub alike : (k : ℕ) → Alike (line_of part.cache k).state None (line_of sent.0.cache k).state None
  pub same : SameHomes part sent.0

asked_alike : (part : NodeOf) (line : ℕ) (lacks : Bool) (made : Option Asked)
    → IfSome made (BeginsToWait (line_of part.cache line).state)
    → IfSome (asked_by part (cache_asked part.cache line (ask_or_fault made lacks))) (AsksAlike part)
asked_alike part line lacks None begins = tt
asked_alike part line true (Some asked) begins = tt
asked_alike part line false (Some asked) begins = record {
  alike = at_place_set (λ (k : ℕ) (l : LineState). Alike (line_of part.cache k).state None l.state None) part.cache.lines line
      (line_asked (line_of part.cache line) asked) untouched (λ k. alike_itself (line_of part.cache k).state None) begins.alike;
  same = record { homes = refl; nodes = refl };
}

pub ask_alike : (part : NodeOf) (line : ℕ) (kind : AskKind) → IfSome (node_asking part line kind) (AsksAlike part)
ask_alike part line kind = grind (arith, if_either, asked_alike, asking_waits)

-- ---- Serve and Refuse

-- how a request was served: by the home, in the cache, or not
pub data ServedAs (part : NodeOf) (request : Letter) (next : NodeOf) : Type 0 where
  At_home : (served : HomeState × Body) → is_for_home request.body ≡ true
      → serving_of_home (home_of part request.line) request.source request.body ≡ Some served
      → with_answer (record part { homes = slice_set part.homes (home_place part request.line) served.0 }) request served.1 ≡ next → ServedAs part request next
  In_cache : (served : CacheState × Body) → serving (line_of part.cache request.line).state request.source request.body ≡ Some served
      → with_answer (with_state part request.line served.0) request served.1 ≡ next → ServedAs part request next

home_served : (part : NodeOf) (request : Letter) (served : Option (HomeState × Body)) → is_for_home request.body ≡ true
    → serving_of_home (home_of part request.line) request.source request.body ≡ served
    → IfSome (answered_by request (served_at_home part request.line served)) (ServedAs part request)
home_served part request None asks is = tt
home_served part request (Some served) asks is = At_home served asks is refl

cache_served : (part : NodeOf) (request : Letter) (served : Option (CacheState × Body))
    → serving (line_of part.cache request.line).state request.source request.body ≡ served
    → IfSome (answered_by request (served_in_cache part
    (option_map (λ s. (with_line part.cache request.line (line_in (line_of part.cache request.line) s.0), s.1)) served))) (ServedAs part request)
cache_served part request None is = tt
cache_served part request (Some served) is = In_cache served is refl

pub request_served : (part : NodeOf) (request : Letter) → IfSome (answered_by request (serving_request part request)) (ServedAs part request)
request_served part request =
    if_cases (λ (o : Option (NodeOf × Body)). IfSome (answered_by request o) (ServedAs part request)) (is_for_home request.body) (serving_at_home part request)
    (serving_in_cache part request)
    (λ yes_. home_served part request (serving_of_home (home_of part request.line) request.source request.body) yes_ refl)
    (λ no_. cache_served part request (serving (line_of part.cache request.line).state request.source request.body) refl)

pub serve_as : (part : NodeOf) (request : Letter) → IfSome (node_serving part request) (ServedAs part request)
serve_as part request = grind (arith, if_either, request_served)

-- a request that isn't Setback is answered busy
pub record RefusedAs (part : NodeOf) (request : Letter) (next : NodeOf) : Type 0 where
  pub other : is_setback request.body ≡ false
  pub then_ : with_answer part request Busy ≡ next

pub refuse_as : (part : NodeOf) (request : Letter) → IfSome (node_refusing part request) (RefusedAs part request)
refuse_as part request = grind (arith, if_either, if_cases)

-- ---- Reply

replied_as : (part : NodeOf) (waiting : Option Letter)
    → IfSome (replied_by part waiting) (λ (sent : NodeOf × Letter). (record part { waiting = None }) ≡ sent.0)
replied_as part None = tt
replied_as part (Some answer) = refl

pub reply_as : (part : NodeOf) → IfSome (node_replying part) (λ (sent : NodeOf × Letter). (record part { waiting = None }) ≡ sent.0)
reply_as part = replied_as part part.waiting

-- ---- Accept

-- the line has the state that its table gives for the answer
pub record AcceptedAs (part : NodeOf) (answer : Letter) (next : NodeOf) : Type 0 where
  pub state : CacheState
  pub accepts : accepting (line_of part.cache answer.line).state answer.body ≡ Some state
  pub then_ : with_state part answer.line state ≡ next
  pub ends : EndsToWait (line_of part.cache answer.line).state answer.body state

accepted_as : (part : NodeOf) (answer : Letter) (awaits : Bool) (state : Option CacheState)
    → accepting (line_of part.cache answer.line).state answer.body ≡ state
    → IfSome (accepted_by part (elim (if awaits then state else None) as (λ _. Option CacheOf) [
      | None ↦ None
      | Some s ↦ Some (with_line part.cache answer.line (line_in (line_of part.cache answer.line) s))
    ])) (AcceptedAs part answer)
accepted_as part answer false state is = tt
accepted_as part answer true None is = tt
accepted_as part answer true (Some s) is = grind (arith, of_some, accepting_waits)

pub accept_as : (part : NodeOf) (answer : Letter) → IfSome (node_accepting part answer) (AcceptedAs part answer)
accept_as part answer = grind (arith, accepted_as)

pub record AcceptsAlike (answer : Letter) (part next : NodeOf) : Type 0 where
  pub alike : answer.line < lines_of part → Alike (line_of part.cache answer.line).state (Some answer.body) (line_of next.cache answer.line).state None
  pub same : SameHomes part next

pub accept_alike : (part : NodeOf) (answer : Letter) → IfSome (node_accepting part answer) (AcceptsAlike answer part)
accept_alike part answer = IfSome_then (node_accepting part answer) (accept_as part answer) (λ next does.
    subst (AcceptsAlike answer part) does.then_ (record {
      alike = λ below. subst (λ (l : LineState). Alike (line_of part.cache answer.line).state (Some answer.body) l.state None)
          (sym (get_or-set_same part.cache.lines answer.line (line_in (line_of part.cache answer.line) does.state) untouched below)) does.ends.alike;
      same = record { homes = refl; nodes = refl };
    }))
