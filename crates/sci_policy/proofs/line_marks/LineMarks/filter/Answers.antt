use Rattle.std.proofs.Common.{◌≡◌, ◌<◌, ◌&&◌, ℕ, Bool, List, sym, ap, ◌∙◌, arith}
use Rattle.sci_words.specs.declared.limits.TheConstants.{MAX_LINES}
use Rattle.sci_cache.specs.LineSet.{is_in}
use Rattle.sci_policy.specs.Policy.{has}
use Rattle.sci_policy.proofs.Marks.{in_set, mark, marked, none_marked}
use Rattle.sci_policy.proofs.line_marks.LineMarks.filter.Goals as goal

pub lines-init : goal.lines-init
lines-init g c = λ tested is. rw c.new-found.ensures (none_marked (λ line. has c.args.self.now line && tested line))

pub lines-preserved : goal.lines-preserved
lines-preserved g c = λ tested is.
    let line = c.in-Some.line in
    let small = c.in-Some.ensures.small in
    let seen = λ (k : ℕ) (few : k < MAX_LINES). ap (λ (marks : List Bool). has marks k) (sym c.self.view_is) ∙ in_set (is_in c.self.inside.set) k few in
    let here : c.test.result ≡ (has c.args.self.now line && tested line) =
    is line c.test.result small c.test.ensures ∙ ap (λ (b : Bool). b && tested line) (sym (seen line small ∙ c.in-Some.ensures.found)) in
    rw c.put.ensures (mark (λ k. has c.args.self.now k && tested k) c.lines.from line c.test.result c.lines.found c.in-Some.ensures.order small
    (λ k from before. ap (λ (b : Bool). b && tested k) (seen k (omega arith) ∙ c.in-Some.ensures.between k from before)) here
    (c.lines.invariant tested is))

pub returns : goal.returns
returns g c = λ tested is.
    let seen = λ (k : ℕ) (few : k < MAX_LINES). ap (λ (marks : List Bool). has marks k) (sym c.self.view_is) ∙ in_set (is_in c.self.inside.set) k few in
    marked (λ k. has c.args.self.now k && tested k) c.lines.from c.lines.found
    (λ k from few. ap (λ (b : Bool). b && tested k) (seen k few ∙ c.in_default.ensures.between k from tt)) (c.lines.invariant tested is)
