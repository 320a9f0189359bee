use Rattle.std.proofs.Common.{◌≡◌, ◌++◌, take}
use Rattle.std.specs.List.{flat_map}
use Rattle.sci_allowed.specs.OutcomeText.{held_text}
use Rattle.sci_allowed.proofs.outcome_text.push_words.Given as goal

-- the words so far
abbrev pub invariant-loop-held : goal.invariant-loop-held
invariant-loop-held l = l.out.items ≡ l.fn.out.items ++ flat_map held_text (take l.held-index l.words)
