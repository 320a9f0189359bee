-- A trace, one event after another.
use Rattle.std.proofs.Common.{◌≡◌, ◌<◌, ℕ, ◌+◌, List, [], ◌∷◌, ◌++◌, length, drop, get_or, Bool, true, false, Option, Some, None, append_assoc, sym, ap}
use Rattle.std.proofs.{Common.{◌∙◌, refl, subst}, lemmas.List.{drop_more, append-nil}}
use Rattle.std.specs.Prelude.{◌&&◌, not, is_some, is_none, if◌then◌else◌}
use Rattle.sci_words.specs.declared.event.Event.{Event}
use Rattle.sci_core.specs.Core.{Core, step, stepping}
use Rattle.sci_command.specs.declared.outcome.Outcome.{Outcome, TheVariants.{Unlawful}}
use Rattle.sci_traces.specs.declared.tracing.TraceRequest.{TraceRequest}
use Rattle.sci_traces.specs.TraceAnswer.{is_end, is_traced, shown_text, trace_text, trace_outcome}

-- the text so far, and what is left of it and of the judgement
pub record IsTracedTo (request : TraceRequest) (whole : List ℕ) (outcome : Outcome) (text : List ℕ) (core : Core) (number : ℕ) (left : List Event) : Type
    0 where
  pub written : whole ≡ text ++ trace_text request core number left
  pub ends : outcome ≡ trace_outcome request core left

-- whether the trace ends, by what was seen
end_seen : (strict enabled : Bool) (next : Option Core) → enabled ≡ is_some next → (strict && is_none next) ≡ (strict && not enabled)
end_seen false enabled next e = refl
end_seen true enabled None e = ap not (sym e)
end_seen true enabled (Some next) e = ap not (sym e)

-- what is left of the text and of the judgement at the next event, which is traced or isn't
record IsNext (request : TraceRequest) (whole : List ℕ) (outcome : Outcome) (text : List ℕ) (core : Core) (number : ℕ) (e : Event) (left : List Event)
    (traced : Bool) : Type 0 where
  written : whole ≡ text ++ (if traced then shown_text request.json core number e
      ++ (if is_end request.strict core e then [] else trace_text request (step core e) (number + 1) left) else trace_text request (step core e)
      (number + 1) left)
  ends : outcome ≡ (if traced then (if is_end request.strict core e then Unlawful else trace_outcome request (step core e) left) else trace_outcome request
      (step core e) left)

next : (request : TraceRequest) (whole : List ℕ) (outcome : Outcome) (text : List ℕ) (core : Core) (number : ℕ) (events : List Event) (k : ℕ) (d : Event)
    (traced : Bool) → k < length events → is_traced request core (get_or events k d) ≡ traced
    → IsTracedTo request whole outcome text core number (drop k events)
    → IsNext request whole outcome text core number (get_or events k d) (drop (k + 1) events) traced
next request whole outcome text core number events k d traced lt is was =
    let e = get_or events k d in
    let left = drop (k + 1) events in
    let at : IsTracedTo request whole outcome text core number (e ∷ left) = rw (drop_more events k d lt) at was in
    subst (IsNext request whole outcome text core number e left) is (record { written = at.written; ends = at.ends })

more : (request : TraceRequest) (whole : List ℕ) (outcome : Outcome) (text : List ℕ) (core : Core) (number : ℕ) (e : Event) (left : List Event)
    → is_end request.strict core e ≡ false → IsNext request whole outcome text core number e left true
    → IsTracedTo request whole outcome (text ++ shown_text request.json core number e) (step core e) (number + 1) left
more request whole outcome text core number e left goes_on was = record {
  written = was.written ∙ (ap (λ (b : Bool). text
      ++ (shown_text request.json core number e ++ (if b then [] else trace_text request (step core e) (number + 1) left))) goes_on
      ∙ sym (append_assoc text (shown_text request.json core number e) (trace_text request (step core e) (number + 1) left)));
  ends = was.ends ∙ ap (λ (b : Bool). if b then Unlawful else trace_outcome request (step core e) left) goes_on;
}

last : (request : TraceRequest) (whole : List ℕ) (outcome : Outcome) (text : List ℕ) (core : Core) (number : ℕ) (e : Event) (left : List Event)
    → is_end request.strict core e ≡ true → IsNext request whole outcome text core number e left true
    → (text ++ shown_text request.json core number e ≡ whole) × (Unlawful ≡ outcome)
last request whole outcome text core number e left ends was = (
  sym (was.written ∙ (ap (λ (b : Bool). text
      ++ (shown_text request.json core number e ++ (if b then [] else trace_text request (step core e) (number + 1) left))) ends
      ∙ ap (λ (l : List ℕ). text ++ l) (append-nil (shown_text request.json core number e)))),
  sym (was.ends ∙ ap (λ (b : Bool). if b then Unlawful else trace_outcome request (step core e) left) ends),
)

-- one event more
pub traces_more : (request : TraceRequest) (enabled : Bool) (whole : List ℕ) (outcome : Outcome) (text : List ℕ) (core : Core) (number : ℕ)
    (events : List Event) (k : ℕ) (d : Event) → k < length events → is_traced request core (get_or events k d) ≡ true
    → enabled ≡ is_some (stepping core (get_or events k d)) → (request.strict && not enabled) ≡ false
    → IsTracedTo request whole outcome text core number (drop k events)
    → IsTracedTo request whole outcome (text ++ shown_text request.json core number (get_or events k d)) (step core (get_or events k d)) (number + 1)
    (drop (k + 1) events)
traces_more request enabled whole outcome text core number events k d lt traced seen goes_on was =
    let e = get_or events k d in
    more request whole outcome text core number e (drop (k + 1) events) (end_seen request.strict enabled (stepping core e) seen ∙ goes_on)
    (next request whole outcome text core number events k d true lt traced was)

-- the event with which a trace ends
pub traces_last : (request : TraceRequest) (enabled : Bool) (whole : List ℕ) (outcome : Outcome) (text : List ℕ) (core : Core) (number : ℕ)
    (events : List Event) (k : ℕ) (d : Event) → k < length events → is_traced request core (get_or events k d) ≡ true
    → enabled ≡ is_some (stepping core (get_or events k d)) → (request.strict && not enabled) ≡ true
    → IsTracedTo request whole outcome text core number (drop k events)
    → (text ++ shown_text request.json core number (get_or events k d) ≡ whole) × (Unlawful ≡ outcome)
traces_last request enabled whole outcome text core number events k d lt traced seen ends was =
    let e = get_or events k d in
    last request whole outcome text core number e (drop (k + 1) events) (end_seen request.strict enabled (stepping core e) seen ∙ ends)
    (next request whole outcome text core number events k d true lt traced was)
