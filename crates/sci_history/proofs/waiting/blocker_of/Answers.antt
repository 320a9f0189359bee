use Rattle.std.proofs.Common.{◌≡◌, None}
use Rattle.sci_history.specs.{declared.entry.Entry.{Entry}, Placing.{line_reason}}
use Rattle.sci_history.proofs.Waits.{all_left}
use Rattle.sci_history.proofs.waiting.blocker_of.Goals as goal

pub returns-in_err-place-clause-none : goal.returns-in_err-place-clause-none
returns-in_err-place-clause-none c e =
    all_left (λ (other : Entry). line_reason c.args.entry.now other ≡ None) c.args.logs.now c.args.next.now c.args.node c.of.result.now c.requires
    c.of.ensures.log (c.blocker_in.ensures.none c.in_err-place.was)
