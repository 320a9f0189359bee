use Rattle.std.proofs.Common.{List, ℕ, map, ap, subst, ◌∙◌}
use Rattle.sciview.specs.Choice.{Chooses, IsChosenBy}
use Rattle.sciview.proofs.choice.choice_of.Goals as goal

pub returns-in-Ok : goal.returns-in-Ok
returns-in-Ok c =
    let same = ap (map (λ text. text.now)) c.deref.ensures.value ∙ c.in-Ok.ensures in
    subst (λ (words : List (List ℕ)). IsChosenBy (Chooses words) c.chosen.result) same c.chosen.ensures
