-- The cache after a request, by what its line became.
use Rattle.std.proofs.{Common.{◌≡◌, ℕ, Some, arith, sym, ap, ◌∙◌}, lemmas.Grind.{common_steps}}
use Rattle.sci_packets.specs.declared.body.Body.{Body}
use Rattle.sci_cache.specs.{Line.{LineState}, Cache.{CacheOf, line_of, with_line, cache_serving}, Serving.{serving}}
use Rattle.sci_cache.proofs.Index.{with_changed}
use Rattle.sci_cache.proofs.cache.Cache.serve.Goals as goal

served_case : (C : CacheOf) (line n : ℕ) (request answer : Body) (part : LineState) → serving (line_of C line).state n request ≡ Some (part.state, answer)
    → part.asks ≡ (line_of C line).asks → cache_serving C line n request ≡ Some (with_line C line part, answer)
served_case C line n request answer part e f =
    rw (e, cache_serving) (ap (λ asks. Some (with_line C line (record { state = part.state; asks = asks }), answer)) (sym f))

pub returns-clause-case : goal.returns-clause-case
returns-clause-case c =
    let cache = c.args.self.now in
    let line = c.args.request.now.line in
    let part = c.serve-answer.new.self in
    let answer = c.answer.result.body in
    let at : line_of cache line ≡ c.index_mut-part.result.now = grind (arith, common_steps) in
    let served : serving (line_of cache line).state c.args.request.now.source c.args.request.now.body ≡ Some (part.state, answer) =
    rw (at, c.answer.ensures.body) c.serve-answer.ensures.case in
    let asks : part.asks ≡ (line_of cache line).asks = rw at c.serve-answer.ensures.asks in
    served_case cache line c.args.request.now.source c.args.request.now.body answer part served asks
    ∙ ap (λ before. Some (with_line before line part, answer)) (sym c.self.view_is)

pub invariant_of-self : goal.invariant_of-self
invariant_of-self c =
    with_changed c.self.inside.taken c.taken_after-self-inside.result c.self.inside.kinds c.note.new.self c.self.inside.lines.items c.args.request.now.line
    c.index_mut-part.result.now c.serve-answer.new.self
    (grind (arith, common_steps)) (grind (arith, common_steps)) c.self.invariant (grind (arith, common_steps)) (grind (arith, common_steps))
    (grind (arith, common_steps))
