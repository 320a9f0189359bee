use Rattle.std.proofs.{Common.{◌≡◌, false, arith, get_or, take}, lemmas.Bool.Decides.{nat_tests}}
use Rattle.sci_history.specs.Audit.{is_version_missing}
use Rattle.sci_reports.specs.EntryLines.{entries_in}
use Rattle.sci_reports.proofs.FoundEntries.{fails_here, fails_later, no_numbered, stands_first}
use Rattle.sci_reports.proofs.faulty.above_makers.Goals as goal

pub returns-then-at-makers-clause-first : goal.returns-then-at-makers-clause-first
returns-then-at-makers-clause-first c = grind (arith, no_numbered, nat_tests, fails_here)

pub returns-then-at-makers-clause-stands : goal.returns-then-at-makers-clause-stands
returns-then-at-makers-clause-stands c = grind (arith, no_numbered, nat_tests, stands_first)

pub loop-at-preserved : goal.loop-at-preserved
loop-at-preserved c =
    let list = c.args.entries.now in
    let i = c.loop-at.at-index in
    let here : is_version_missing c.args.makers (take i (entries_in list)) (get_or list i no_numbered).entry.now ≡ false = grind (arith, nat_tests) in
    fails_later (is_version_missing c.args.makers) list i c.loop-at-test.true c.loop-at.invariant here
