use Rattle.std.proofs.{Common.{◌≡◌, ◌++◌, List, ℕ, true, arith, ap, sym, ◌∙◌}, lemmas.Result.{on_ok_weaker}}
use Rattle.sci_charts.specs.Drawing.{Drawn}
use Rattle.sci_charts.proofs.Drawn.{row_added}
use Rattle.sci_charts.proofs.drawing.Drawing.draw.Goals as goal

pub returns-clause-rows : goal.returns-clause-rows
returns-clause-rows c =
    let request = ap (λ (d : Drawn). d.request) c.self.view_is in
    let text = ap (λ (d : Drawn). d.text) (c.self-2.view_is ∙ (c.known.ensures ∙ c.note_title.ensures)) in
    let shown : c.shows.result ≡ true = grind arith in
    on_ok_weaker c.add.result (λ row. (
      row.0,
      row.1 ∙ ap (λ (l : List ℕ). l ++ row.0) text,
      rw (← request) (row_added c.self.inside.request c.args.machine.now c.args.number c.args.event.now _ _ row.0
          (sym (rw c.line_about.ensures at c.shows.ensures) ∙ shown) c.in_ok-mark.ensures.dead c.in_ok-mark.ensures.letter row.2),
    )) c.add.ensures.row
