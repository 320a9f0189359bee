use Rattle.std.proofs.Common.{rules, ◌≤◌, length, drop, ap, arith, length-append, length-drop}
use Rattle.std.proofs.lemmas.Fmt.{length-decimal-le}
use Rattle.std.specs.Fmt.{decimal}
use Rattle.sci_text.proofs.line_end.LineEnd.put_number.Goals as goal

pub write_digits-self-inside-requires : goal.write_digits-self-inside-requires
write_digits-self-inside-requires c =
    let start = c.self.inside.start in
    let bytes = c.self.inside.bytes in
    let short : length (decimal c.args.n) ≤ 20 = search (rules, length-decimal-le 20) in
    (omega (arith, ap length c.self.view_is, length-drop start bytes), omega arith)

pub returns-clause-short : goal.returns-clause-short
returns-clause-short c =
    let start = c.self.inside.start in
    let short : length (decimal c.args.n) ≤ 20 = search (rules, length-decimal-le 20) in
    omega (
      arith,
      ap length c.self.view_is,
      ap length c.write_digits-self-inside.ensures.written,
      length-append (decimal c.args.n) (drop start c.self.inside.bytes),
    )
