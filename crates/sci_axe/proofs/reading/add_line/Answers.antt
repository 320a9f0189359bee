use Rattle.std.proofs.Common.{◌≡◌, List, ℕ, ap, inl, refl, subst}
use Rattle.sci_axe.specs.Trace.{IsWrong, known_in, line_split}
use Rattle.sci_axe.proofs.reading.add_line.Goals as goal

pub returns-in-Err-clause-fault : goal.returns-in-Err-clause-fault
returns-in-Err-clause-fault c =
    let known = known_in c.args.trace.now in
    let front : c.first_line.result.0.now ≡ (line_split c.args.bytes.now).0 = ap (λ (parts : List ℕ × List ℕ). parts.0) c.first_line.ensures in
    inl (refl, subst (λ (line : List ℕ). IsWrong known c.args.number line c.in-Err.kind) front (c.in-Err.ensures.fault known))
