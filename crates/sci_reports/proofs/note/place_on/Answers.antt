use Rattle.std.proofs.{Common.{arith, length, sym}, lemmas.Bool.{cases_eq, eq-eqb, ne_eqb}}
use Rattle.std.proofs.lemmas.List.Sums.{position_or_len_is}
use Rattle.std.specs.Prelude.{◌==◌}
use Rattle.sci_reports.proofs.FoundEntries.{no_numbered}
use Rattle.sci_reports.proofs.note.place_on.Goals as goal

pub loop-place-preserved : goal.loop-place-preserved
loop-place-preserved c = grind (arith, cases_eq, ne_eqb)

pub returns-then-placed-place-clause-place : goal.returns-then-placed-place-clause-place
returns-then-placed-place-clause-place c = grind (arith, position_or_len_is, no_numbered, eq-eqb)

pub returns-clause-place : goal.returns-clause-place
returns-clause-place c =
    let list = c.args.placed.now in
    let past = c.loop-place-test.false in
    sym (position_or_len_is (λ it. it.text_line == c.args.text_line) list (length list) no_numbered (omega arith)
    (λ k lt. c.loop-place.invariant k (omega (arith, lt, past))) (λ lt. absurd (omega (arith, lt))))
