-- The first that is found is the only one.
use Rattle.std.proofs.Common.{sym, ◌∙◌, arith}
use Rattle.sci_core.proofs.Tidy.Answering.{found_from, none_from}
use Rattle.sci_core.proofs.state.State.answer_from_any.Goals as goal

pub returns-in-Some : goal.returns-in-Some
returns-in-Some c =
    sym (found_from c.args.self.now c.loop-from.from c.args.n c.args.line c.in-Some.body c.requires.well c.requires.tidy
    (omega (arith, c.nodes-from-end.ensures.nodes)) c.requires.n c.requires.line (sym c.answer_from.ensures ∙ c.in-Some.is))

pub returns : goal.returns
returns c = sym (none_from c.args.self.now c.args.n c.args.line c.requires.well c.requires.n
    (λ k below. c.loop-from.invariant k (omega (arith, c.nodes-from-end.ensures.nodes))))
