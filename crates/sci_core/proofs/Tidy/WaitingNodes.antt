-- What each side of an event does with the waits of a node.
use Rattle.std.proofs.Common.{◌≡◌, ℕ, ◌%◌, ◌<◌, ◌≢◌, Bool, true, false, if◌then◌else◌, Option, Some, None, refl, ap, subst, ◌∙◌, arith}
use Rattle.std.proofs.lemmas.{Option.{IfSome_then}, List.{get_or-set_same, get_or-set_other}}
use Rattle.std.specs.Prelude.{IfSome, is_some}
use Rattle.sci_words.specs.declared.{limits.TheConstants.{CONTROLS}, event.AskKind.{AskKind}, operation.Op.{Op}}
use Rattle.sci_packets.specs.declared.body.Body.{Body}
use Rattle.sci_history.specs.declared.entry.Entry.{Entry}
use Rattle.sci_cache.specs.{State.{CacheState, waits}, Asking.{Asked}, Serving.{serving}}
use Rattle.sci_cache.specs.Performing.{Performed, performing}
use Rattle.sci_cache.specs.Line.{LineState, untouched, line_in, line_asked, ask_or_fault}
use Rattle.sci_cache.specs.Cache.{CacheOf, Letter, line_of, with_line, target_of, letter_asking, cache_asked}
use Rattle.sci_core.specs.Node.{NodeOf, lines_of, node_issuing, node_performing, asked_by, node_asking, answering, serving_request, answered_by}
use Rattle.sci_core.specs.Node.{node_serving, node_refusing, replied_by, node_replying, node_accepting}
use Rattle.sci_core.specs.Tidy.{IsAwaited}
use Rattle.sci_core.proofs.Basics.{Lists.{if_either, at_place_set}, Options.{if_below, of_some}}
use Rattle.sci_core.proofs.Tidy.RowWaits.{BeginsToWait, asking_waits, Keeps, keeps_itself, KeepsWait, serving_waits, performing_waits, asked_number}
use Rattle.sci_core.proofs.Step.NodeSides.{ServedAs, At_home, In_cache, perform_as, request_served, accept_as}

-- every line of the node is awaited as it was
abbrev pub KeepsLines : ℕ → CacheOf → CacheOf → Type 0
KeepsLines nodes old new = (k : ℕ) → Keeps (k % nodes) (line_of old k) (line_of new k)

keeps_all : (nodes : ℕ) (cache : CacheOf) → KeepsLines nodes cache cache
keeps_all nodes cache k = keeps_itself (k % nodes) (line_of cache k)

keeps_line : (nodes : ℕ) (cache : CacheOf) (line : ℕ) (state : CacheState) → KeepsWait (line_of cache line).state state
    → KeepsLines nodes cache (with_line cache line (line_in (line_of cache line) state))
keeps_line nodes cache line state wait =
    at_place_set (λ (k : ℕ) (l : LineState). Keeps (k % nodes) (line_of cache k) l) cache.lines line (line_in (line_of cache line) state) untouched
    (λ k. keeps_itself (k % nodes) (line_of cache k))
    (record { wait = wait.wait; asks = refl; sent = wait.sent (line % nodes) })

-- ---- Issue and Perform

pub record Stays (nodes : ℕ) (old new : NodeOf) : Type 0 where
  pub lines : KeepsLines nodes old.cache new.cache
  pub waiting : new.waiting ≡ old.waiting

pub issue_stays : (nodes : ℕ) (part : NodeOf) (op : Op) → IfSome (node_issuing part op) (Stays nodes part)
issue_stays nodes part op = grind (arith, if_either, keeps_all)

pub perform_stays : (nodes : ℕ) (part : NodeOf) (line : ℕ) → IfSome (node_performing part line) (λ (x : NodeOf × Entry). Stays nodes part x.0)
perform_stays nodes part line = IfSome_then (node_performing part line) (perform_as part line) (λ done does.
    let at = does.pending.op.line in
    let state = (line_of part.cache at).state in
    let wait = of_some (λ (d : Performed). KeepsWait state d.next) (performing state does.pending.op) does.did does.performs
    (performing_waits state does.pending.op) in
    subst (Stays nodes part) does.next (record { lines = keeps_line nodes part.cache at does.did.next wait; waiting = refl }))

-- ---- Ask

pub record AsksOnce (nodes line : ℕ) (part : NodeOf) (sent : NodeOf × Letter) : Type 0 where
  pub below : line < lines_of part
  pub about : sent.1.line ≡ line
  pub idle : waits (line_of part.cache line).state ≡ false
  pub others : (k : ℕ) → k ≢ line → line_of sent.0.cache k ≡ line_of part.cache k
  pub awaited : IsAwaited (line % nodes) (line_of sent.0.cache line) sent.1
  pub waiting : sent.0.waiting ≡ part.waiting

target_home : (nodes line : ℕ) (cache : CacheOf) (to : Option ℕ) → cache.nodes ≡ nodes → to ≡ None → target_of cache line to ≡ line % nodes
target_home nodes line cache None all e = ap (λ (k : ℕ). line % k) all
target_home nodes line cache (Some q) all e = cc

target_named : (line p : ℕ) (cache : CacheOf) (to : Option ℕ) → to ≡ Some p → target_of cache line to ≡ p
target_named line p cache None e = cc
target_named line p cache (Some q) e = cc

asked_once : (nodes line : ℕ) (part : NodeOf) (asked : Asked) → line < lines_of part → part.cache.nodes ≡ nodes → (line_of part.cache line).asks < CONTROLS
    → BeginsToWait (line_of part.cache line).state asked
    → AsksOnce nodes line part (
      record part { cache = with_line part.cache line (line_asked (line_of part.cache line) asked) },
      letter_asking part.cache line asked,
    )
asked_once nodes line part asked below all small begins = grind (arith, get_or-set_same, asked_number, target_home, target_named, get_or-set_other)

made_once : (nodes line : ℕ) (part : NodeOf) (lacks : Bool) (made : Option Asked) → line < lines_of part → part.cache.nodes ≡ nodes
    → (line_of part.cache line).asks < CONTROLS → IfSome made (BeginsToWait (line_of part.cache line).state)
    → IfSome (asked_by part (cache_asked part.cache line (ask_or_fault made lacks))) (AsksOnce nodes line part)
made_once nodes line part lacks None below all small begins = tt
made_once nodes line part true (Some asked) below all small begins = tt
made_once nodes line part false (Some asked) below all small begins = asked_once nodes line part asked below all small begins

pub ask_once : (nodes : ℕ) (part : NodeOf) (line : ℕ) (kind : AskKind) → part.cache.nodes ≡ nodes → (line_of part.cache line).asks < CONTROLS
    → IfSome (node_asking part line kind) (AsksOnce nodes line part)
ask_once nodes part line kind all small = grind (arith, if_below, made_once, asking_waits)

-- ---- Serve and Refuse

pub record Answers (nodes : ℕ) (request : Letter) (old new : NodeOf) : Type 0 where
  pub lines : KeepsLines nodes old.cache new.cache
  pub free : old.waiting ≡ None
  pub body : Body
  pub waiting : new.waiting ≡ Some (answering request body)

served_answers : (nodes : ℕ) (part : NodeOf) (request : Letter) (next : NodeOf) → part.waiting ≡ None → ServedAs part request next
    → Answers nodes request part next
served_answers nodes part request next free (At_home served asks is e) =
    subst (Answers nodes request part) e (record { lines = keeps_all nodes part.cache; free = free; body = served.1; waiting = refl })
served_answers nodes part request next free (In_cache served is e) =
    let state = (line_of part.cache request.line).state in
    let wait = of_some (λ (s : CacheState × Body). KeepsWait state s.0) (serving state request.source request.body) served is
    (serving_waits state request.source request.body) in
    subst (Answers nodes request part) e
    (record { lines = keeps_line nodes part.cache request.line served.0 wait; free = free; body = served.1; waiting = refl })

free_first : (nodes : ℕ) (part : NodeOf) (request : Letter) (waiting : Option Letter) (next : Option NodeOf) → part.waiting ≡ waiting
    → (part.waiting ≡ None → IfSome next (Answers nodes request part)) → IfSome (if is_some waiting then None else next) (Answers nodes request part)
free_first nodes part request (Some answer) next is h = tt
free_first nodes part request None next is h = h is

pub serve_answers : (nodes : ℕ) (part : NodeOf) (request : Letter) → IfSome (node_serving part request) (Answers nodes request part)
serve_answers nodes part request =
    free_first nodes part request part.waiting (answered_by request (serving_request part request)) refl
    (λ free. IfSome_then (answered_by request (serving_request part request)) (request_served part request)
    (λ next does. served_answers nodes part request next free does))

pub refuse_answers : (nodes : ℕ) (part : NodeOf) (request : Letter) → IfSome (node_refusing part request) (Answers nodes request part)
refuse_answers nodes part request = grind (arith, free_first, if_either, keeps_all)

-- ---- Reply

pub record Replies (nodes : ℕ) (old : NodeOf) (sent : NodeOf × Letter) : Type 0 where
  pub lines : KeepsLines nodes old.cache sent.0.cache
  pub waited : old.waiting ≡ Some sent.1
  pub gone : sent.0.waiting ≡ None

replied : (nodes : ℕ) (part : NodeOf) (waiting : Option Letter) → part.waiting ≡ waiting → IfSome (replied_by part waiting) (Replies nodes part)
replied nodes part None is = tt
replied nodes part (Some answer) is = record { lines = keeps_all nodes part.cache; waited = is; gone = refl }

pub reply_replies : (nodes : ℕ) (part : NodeOf) → IfSome (node_replying part) (Replies nodes part)
reply_replies nodes part = replied nodes part part.waiting refl

-- ---- Accept

pub record Accepts (line : ℕ) (old new : NodeOf) : Type 0 where
  pub waited : waits (line_of old.cache line).state ≡ true
  pub idle : line < lines_of old → waits (line_of new.cache line).state ≡ false
  pub others : (k : ℕ) → k ≢ line → line_of new.cache k ≡ line_of old.cache k
  pub waiting : new.waiting ≡ old.waiting

pub accept_accepts : (part : NodeOf) (answer : Letter) → IfSome (node_accepting part answer) (Accepts answer.line part)
accept_accepts part answer = IfSome_then (node_accepting part answer) (accept_as part answer) (λ next does.
    let old = line_of part.cache answer.line in
    subst (Accepts answer.line part) does.then_ (record {
      waited = does.ends.waiting;
      idle = λ below. ap (λ (l : LineState). waits l.state) (get_or-set_same part.cache.lines answer.line (line_in old does.state) untouched below)
          ∙ does.ends.idle;
      others = λ k other. get_or-set_other part.cache.lines answer.line k (line_in old does.state) untouched other;
      waiting = refl;
    }))
