use Rattle.std.proofs.Common.{arith}
-- What is shown of the script is the answer, and why nothing is shown is why it is refused.
use Rattle.sci_text.specs.Tap.{has_failed, tapped}
use Rattle.sci_allowed.proofs.Refusing.{answered_for, refused_for}
use Rattle.sci_allowed.proofs.allowed_report.allowed.Goals as goal

pub returns : goal.returns
returns g c =
    let request = c.args.request in
    let read = c.in_ok-litmus.ensures in
    let why = c.in-Err.ensures in (
      refused_for request _ _ (g.R.Read.remaining (tapped c.args.reader.now)) (has_failed c.read_conditioned.new.reader) read.unfailed
          read.text c.refusal_of.result.fault.kind c.refusal_of.result.fault.line c.refusal_of.ensures.line c.in-Err.fault
          why.many why.long why.lacks c.refusal_of.ensures.kind,
      c.read_conditioned.ensures.again,
    )

pub returns-in-Ok : goal.returns-in-Ok
returns-in-Ok g c = grind (arith, answered_for)
