-- The answer is where the state says, or the request is.
use Rattle.std.proofs.Common.{sym, ◌∙◌, arith}
use Rattle.sci_core.proofs.Tidy.Answering.{asked_at, found_from}
use Rattle.sci_core.proofs.state.State.answer_where_asked.Goals as goal

pub returns-in-Some : goal.returns-in-Some
returns-in-Some c =
    sym (found_from c.args.self.now c.in_ok-asked.asked c.args.n c.args.line c.in-Some.body c.requires.well c.requires.tidy
    (omega (arith, c.if-asked-from.false, c.from.ensures, c.nodes-2.ensures.nodes)) c.requires.n c.requires.line (sym c.answer_from.ensures ∙ c.in-Some.is))

pub returns-then-has_request : goal.returns-then-has_request
returns-then-has_request c = grind (arith, asked_at)
