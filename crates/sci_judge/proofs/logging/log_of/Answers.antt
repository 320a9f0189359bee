use Rattle.std.proofs.Common.{ap, arith, length}
use Rattle.sci_judge.proofs.TraceLogs.{logged_within}
use Rattle.sci_judge.proofs.logging.log_of.Goals as goal

pub audit-requires : goal.audit-requires
audit-requires c =
    let some = c.in-Some.ensures.some.0 in
    let lines = c.in_ok-log.ensures.lines in
    let same = ap length c.deref-2.ensures in
    logged_within c.args.sites.now c.args.trace.now.accesses.items c.in_ok-log.used.items c.in_ok-log.log.logs (length c.deref-2.result.now)
    c.in_ok-log.ensures.logged (omega arith)
