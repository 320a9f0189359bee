use Rattle.std.proofs.Common.{◌≡◌, ◌<◌, arith, ap, length, map, true, ◌∙◌}
use Rattle.sciview.proofs.Naming.{first_and_rest, title_given}
use Rattle.sciview.proofs.choice.names_of.Goals as goal

pub returns : goal.returns
returns c =
    let titled : c.args.titled ≡ true = grind arith in
    let some : 0 < length c.args.words.items = grind arith in
    let fit = c.in_ok-files-2.ensures.some in
    let rest : c.in_ok-files-2.files.items ≡ c.remove-title.new.self.items = ap (λ v. v.items) fit.0 in
    let at = first_and_rest (λ word. word.now) c.args.words.items c.in_ok-files-2.files.items c.remove-title.result some c.remove-title.ensures.value
    (rest ∙ c.remove-title.ensures.items) in
    λ named. rw titled
    (title_given c.args.several (map (λ word. word.now) c.args.words.items) c.remove-title.result.now (map (λ word. word.now) c.in_ok-files-2.files.items) at
    fit.1 named)
