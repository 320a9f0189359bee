-- Each side of an event leaves a node's part well formed, and makes packets that are.
use Rattle.std.proofs.Common.{◌≡◌, ℕ, ◌+◌, ◌<◌, ◌%◌, ◌&&◌, not, Bool, true, false, set, Option, Some, None, refl, subst, ◌∙◌, mod-lt, arith}
use Rattle.std.proofs.lemmas.{List.{length-set, Elements.{All-push}}, Option.{IfSome_then}}
use Rattle.std.specs.Prelude.{IfSome}
use Rattle.sci_words.specs.declared.{event.AskKind.{AskKind}, operation.Op.{Op}, limits.TheConstants.{CONTROLS}}
use Rattle.sci_packets.specs.{declared.body.Body.{Body}, Table.{is_request}}
use Rattle.sci_history.specs.declared.entry.Entry.{Entry}
use Rattle.sci_home.specs.declared.state.HomeState.{HomeState}
use Rattle.sci_home.specs.Serving.{opening_home, home_serving as serving_at_home_of}
use Rattle.sci_cache.specs.{State.{CacheState, is_out}, Asking.{Asked}, Serving.{serving}, Accepting.{accepting}}
use Rattle.sci_cache.specs.Performing.{Performed, performing}
use Rattle.sci_cache.specs.Line.{LineState, untouched, line_in, line_asked, ask_or_fault}
use Rattle.sci_cache.specs.Cache.{CacheOf, Letter, line_of, with_line, target_of, letter_asking, cache_asked, has_slot}
use Rattle.sci_core.specs.declared.pending.Pending.{Pending}
use Rattle.sci_core.specs.Node.{NodeOf, home_of, home_place, pending_on, node_issuing, node_logged, entry_of, node_performing, asked_by, node_asking}
use Rattle.sci_core.specs.Node.{answering, node_serving, node_refusing, replied_by, node_replying, node_accepting}
use Rattle.sci_core.specs.WellFormed.{IsBelow, NamesNodes, HomeNamesNodes, BodyNamesNodes, IsRequestLetter, IsAnswerLetter, IsPart}
use Rattle.sci_core.specs.Size.{Size}
use Rattle.sci_core.proofs.Basics.{Lists.{at_set, if_either, if_cases}, Options.{if_below, of_some}}
use Rattle.sci_core.proofs.Step.Caches.{same_line}
use Rattle.sci_core.proofs.Step.NodeSides.{ServedAs, At_home, In_cache, with_state, perform_as, serve_as, accept_as}
use Rattle.sci_core.proofs.Step.Nodes.{node_with_cache, node_with_homes, node_with_waiting, node_with_issue, node_with_entry}
use Rattle.sci_core.proofs.WellFormed.Slots.{GetsSlot, StaysOut, slots_with_line, gets_none, performing_stays, serving_stays, awaiting_stays}
use Rattle.sci_core.proofs.WellFormed.Identifiers.{AsksWell, asking_names, ServesWell, serving_names, HomeServesWell, home_names, accepting_names}
use Rattle.sci_core.proofs.WellFormed.Identifiers.{performing_names}

-- ---- parts in which one thing is another

pub part_with_line : (size : Size) (n : ℕ) (part : NodeOf) (line : ℕ) (state : LineState) → NamesNodes size.nodes state.state → state.asks < CONTROLS
    → GetsSlot part.cache line state.state → IsPart size n part
    → IsPart size n (record part { cache = with_line part.cache line state })
part_with_line size n part line state names small gets is = record {
  few = slots_with_line part.cache line state gets is.few;
  asks = at_set (λ (l : LineState). l.asks < CONTROLS) part.cache.lines line state untouched is.asks small;
  me = is.me;
  all = is.all;
  room = is.room;
  each = length-set part.cache.lines line state ∙ is.each;
  most = is.most;
  states = at_set (λ (l : LineState). NamesNodes size.nodes l.state) part.cache.lines line state untouched is.states names;
  homes = is.homes;
  answer = is.answer;
  fits = node_with_cache part (with_line part.cache line state) (same_line part.cache line state) is.fits;
  own = is.own;
}

pub part_with_home : (size : Size) (n : ℕ) (part : NodeOf) (place : ℕ) (home : HomeState) → HomeNamesNodes size.nodes home → IsPart size n part
    → IsPart size n (record part { homes = set part.homes place home })
part_with_home size n part place home names is = record {
  me = is.me;
  all = is.all;
  room = is.room;
  each = is.each;
  most = is.most;
  states = is.states;
  answer = is.answer;
  own = is.own;
  asks = is.asks;
  few = is.few;
  fits = node_with_homes part (set part.homes place home) (length-set part.homes place home) is.fits;
  homes = at_set (HomeNamesNodes size.nodes) part.homes place home opening_home is.homes names;
}

pub part_with_waiting : (size : Size) (n : ℕ) (part : NodeOf) (waiting : Option Letter)
    → IfSome waiting (λ (letter : Letter). IsAnswerLetter size.nodes size.lines letter × (letter.source ≡ n)) → IsPart size n part
    → IsPart size n (record part { waiting = waiting })
part_with_waiting size n part waiting answer is = grind (arith, node_with_waiting)

-- ---- the answer to a request

pub answer_letter : (nodes lines n : ℕ) (request : Letter) (answer : Body) → IsRequestLetter nodes lines request → request.target ≡ n
    → BodyNamesNodes nodes answer → is_request answer ≡ false
    → IsAnswerLetter nodes lines (answering request answer) × ((answering request answer).source ≡ n)
answer_letter nodes lines n request answer asks to names not_asks = grind arith

-- ---- Issue

pub part_issuing : (size : Size) (n : ℕ) (part : NodeOf) (op : Op) → IsPart size n part → IfSome (node_issuing part op) (IsPart size n)
part_issuing size n part op is = grind (arith, if_cases, node_with_issue)

-- ---- Perform

logged_part : (size : Size) (n : ℕ) (part : NodeOf) (line : ℕ) (pending : Pending) (place : ℕ) (state : LineState) (entry : Entry)
    → pending_on part line ≡ Some pending → NamesNodes size.nodes state.state → state.asks < CONTROLS → GetsSlot part.cache place state.state → entry.node ≡ n
    → IsPart size n part
    → IsPart size n (node_logged part line (with_line part.cache place state) entry)
logged_part size n part line pending place state entry at names small gets mine is =
    let changed = part_with_line size n part place state names small gets is in
    record {
      me = is.me;
      all = is.all;
      room = is.room;
      each = changed.each;
      most = is.most;
      states = changed.states;
      homes = is.homes;
      answer = is.answer;
      asks = changed.asks;
      few = changed.few;
      fits = node_with_entry part line pending (with_line part.cache place state) entry (same_line part.cache place state) at is.fits;
      own = All-push (λ (e : Entry). e.node ≡ n) part.log entry is.own mine;
    }

pub part_performing : (size : Size) (n : ℕ) (part : NodeOf) (line : ℕ) → IsPart size n part
    → IfSome (node_performing part line) (λ (x : NodeOf × Entry). IsPart size n x.0)
part_performing size n part line is = IfSome_then (node_performing part line) (perform_as part line) (λ done does.
    let op = does.pending.op in
    let old = line_of part.cache op.line in
    let names = of_some (λ (d : Performed). NamesNodes size.nodes d.next) (performing old.state op) does.did does.performs
    (performing_names size.nodes old.state op (is.states op.line)) in
    let stays = of_some (λ (d : Performed). StaysOut old.state d.next) (performing old.state op) does.did does.performs (performing_stays old.state op) in
    subst (IsPart size n) does.next
    (logged_part size n part line does.pending op.line (line_in old does.did.next) (entry_of part does.pending does.did.reply does.did.version) does.here
    names (is.asks op.line) (gets_none part.cache op.line does.did.next stays) is.me is))

-- ---- Ask

pub record SendsWell (size : Size) (n : ℕ) (sent : NodeOf × Letter) : Type 0 where
  pub next : IsPart size n sent.0
  pub request : IsRequestLetter size.nodes size.lines sent.1
  pub from : sent.1.source ≡ n

target_below : (nodes line : ℕ) (cache : CacheOf) (to : Option ℕ) → 0 < nodes → cache.nodes ≡ nodes → IsBelow nodes to → target_of cache line to < nodes
target_below nodes line cache None some all below = rw all (mod-lt line some)
target_below nodes line cache (Some q) some all below = below

home_target : (nodes line : ℕ) (cache : CacheOf) (to : Option ℕ) → cache.nodes ≡ nodes → to ≡ None → line % nodes ≡ target_of cache line to
home_target nodes line cache None all e = rw all refl
home_target nodes line cache (Some q) all e = cc

asked_part : (size : Size) (n : ℕ) (part : NodeOf) (line : ℕ) (asked : Asked) → 0 < size.nodes → n < size.nodes → line < size.lines → AsksWell size.nodes asked
    → GetsSlot part.cache line asked.next → IsPart size n part
    → SendsWell size n (record part { cache = with_line part.cache line (line_asked (line_of part.cache line) asked) }, letter_asking part.cache line asked)
asked_part size n part line asked some lt below asks gets is = record {
  next = part_with_line size n part line (line_asked (line_of part.cache line) asked) asks.next (mod-lt ((line_of part.cache line).asks + 1) (omega arith)) gets
      is;
  request = record {
    letter_ok = record {
      target = target_below size.nodes line part.cache asked.to some is.all asks.to;
      source = rw is.me lt;
      about = below;
      names = asks.names;
    };
    asks = asks.asks;
    home = λ for_home. home_target size.nodes line part.cache asked.to is.all (asks.home for_home);
  };
  from = is.me;
}

-- a line without an entry asks only if a slot is free
free_slot : (out free : Bool) → (out && not free) ≡ false → out ≡ true → free ≡ true
free_slot true true lack e = refl
free_slot true false lack e = cc
free_slot false free lack e = cc

made_part : (size : Size) (n : ℕ) (part : NodeOf) (line : ℕ) (lacks : Bool) (made : Option Asked)
    → (is_out (line_of part.cache line).state && not (has_slot part.cache)) ≡ lacks → 0 < size.nodes → n < size.nodes → line < size.lines
    → IfSome made (AsksWell size.nodes) → IsPart size n part
    → IfSome (asked_by part (cache_asked part.cache line (ask_or_fault made lacks))) (SendsWell size n)
made_part size n part line lacks None lack some lt below asks is = tt
made_part size n part line true (Some asked) lack some lt below asks is = tt
made_part size n part line false (Some asked) lack some lt below asks is =
    asked_part size n part line asked some lt below asks (λ out gets. free_slot (is_out (line_of part.cache line).state) (has_slot part.cache) lack out) is

pub part_asking : (size : Size) (n : ℕ) (part : NodeOf) (line : ℕ) (kind : AskKind) → 0 < size.nodes → n < size.nodes → IsPart size n part
    → IfSome (node_asking part line kind) (SendsWell size n)
part_asking size n part line kind some lt is = grind (arith, if_below, made_part, asking_names)

-- ---- Serve

served_part : (size : Size) (n : ℕ) (part : NodeOf) (request : Letter) (next : NodeOf) → IsRequestLetter size.nodes size.lines request → request.target ≡ n
    → IsPart size n part → ServedAs part request next → IsPart size n next
served_part size n part request next asks to is (At_home served homely serves e) =
    let place = home_place part request.line in
    let well = of_some (HomeServesWell size.nodes) (serving_at_home_of (home_of part request.line) request.source request.body) served serves
    (home_names size.nodes (home_of part request.line) request.source request.body asks.letter_ok.source (is.homes place)) in
    subst (IsPart size n) e
    (part_with_waiting size n (record part { homes = set part.homes place served.0 }) (Some (answering request served.1))
    (answer_letter size.nodes size.lines n request served.1 asks to well.names well.answers) (part_with_home size n part place served.0 well.next is))
served_part size n part request next asks to is (In_cache served serves e) =
    let old = line_of part.cache request.line in
    let serving_ = serving old.state request.source request.body in
    let well = of_some (ServesWell size.nodes) serving_ served serves
    (serving_names size.nodes old.state request.source request.body asks.letter_ok.source (is.states request.line) asks.letter_ok.names) in
    let stays = of_some (λ (s : CacheState × Body). StaysOut old.state s.0) serving_ served serves (serving_stays old.state request.source request.body) in
    subst (IsPart size n) e
    (part_with_waiting size n (with_state part request.line served.0) (Some (answering request served.1))
    (answer_letter size.nodes size.lines n request served.1 asks to well.names well.answers)
    (part_with_line size n part request.line (line_in old served.0) well.next (is.asks request.line) (gets_none part.cache request.line served.0 stays) is))

pub part_serving : (size : Size) (n : ℕ) (part : NodeOf) (request : Letter) → IsRequestLetter size.nodes size.lines request → request.target ≡ n
    → IsPart size n part
    → IfSome (node_serving part request) (IsPart size n)
part_serving size n part request asks to is =
    IfSome_then (node_serving part request) (serve_as part request) (λ next does. served_part size n part request next asks to is does)

-- ---- Refuse

pub part_refusing : (size : Size) (n : ℕ) (part : NodeOf) (request : Letter) → IsRequestLetter size.nodes size.lines request → request.target ≡ n
    → IsPart size n part
    → IfSome (node_refusing part request) (IsPart size n)
part_refusing size n part request asks to is = grind (arith, if_either, part_with_waiting, answer_letter)

-- ---- Reply

pub record RepliesWell (size : Size) (n : ℕ) (sent : NodeOf × Letter) : Type 0 where
  pub next : IsPart size n sent.0
  pub answer : IsAnswerLetter size.nodes size.lines sent.1
  pub from : sent.1.source ≡ n

replied_part : (size : Size) (n : ℕ) (part : NodeOf) (waiting : Option Letter)
    → IfSome waiting (λ (letter : Letter). IsAnswerLetter size.nodes size.lines letter × (letter.source ≡ n)) → IsPart size n part
    → IfSome (replied_by part waiting) (RepliesWell size n)
replied_part size n part None h is = tt
replied_part size n part (Some letter) h is = record { next = part_with_waiting size n part None tt is; answer = h.0; from = h.1 }

pub part_replying : (size : Size) (n : ℕ) (part : NodeOf) → IsPart size n part → IfSome (node_replying part) (RepliesWell size n)
part_replying size n part is = replied_part size n part part.waiting is.answer is

-- ---- Accept

pub part_accepting : (size : Size) (n : ℕ) (part : NodeOf) (answer : Letter) → IsAnswerLetter size.nodes size.lines answer → IsPart size n part
    → IfSome (node_accepting part answer) (IsPart size n)
part_accepting size n part answer answers is = IfSome_then (node_accepting part answer) (accept_as part answer) (λ next does.
    let old = line_of part.cache answer.line in
    let accepting_ = accepting old.state answer.body in
    let names = of_some (NamesNodes size.nodes) accepting_ does.state does.accepts
    (accepting_names size.nodes old.state answer.body (is.states answer.line) answers.letter_ok.names) in
    let stays = awaiting_stays old.state does.state does.ends.waiting in
    subst (IsPart size n) does.then_
    (part_with_line size n part answer.line (line_in old does.state) names (is.asks answer.line) (gets_none part.cache answer.line does.state stays) is))
