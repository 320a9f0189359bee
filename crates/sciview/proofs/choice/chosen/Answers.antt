use Rattle.std.proofs.Common.{◌≡◌, List, ℕ, true, false, ◌∷◌, map, ap, ◌∙◌}
use Rattle.sciview.proofs.Chosen.{chosen_by, only_verb, word_of}
use Rattle.sciview.proofs.choice.chosen.Goals as goal

pub returns-in-Some-of : goal.returns-in-Some-of
returns-in-Some-of c =
    let words = map (λ word. word.now) c.args.words.now in
    let rest = map (λ word. word.now) c.in-Some.rest.now in
    let found = c.of-2.result in
    let named = word_of found c.in-Some.word.now c.in-Some-of.verb c.of-2.ensures c.in-Some-of.is in
    chosen_by words (λ help. apart (rw c.if-asks_help.false at (c.asks_help.ensures.1 help)))
    (λ is. apart (rw c.if-asks_version.false at (c.asks_version.ensures.1 is)))
    c.in-Some-of.verb rest c.chosen_of.result (c.in-Some.ensures.some ∙ ap (λ (w : List ℕ). w ∷ rest) named)
    (only_verb found c.in-Some.word.now c.in-Some-of.verb c.of-2.ensures c.in-Some-of.is) c.chosen_of.ensures
  where
    apart : false ≡ true → ⊥
    apart e = cc
