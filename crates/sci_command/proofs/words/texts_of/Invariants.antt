use Rattle.std.proofs.Common.{◌≡◌, map, take}
use Rattle.sci_command.proofs.words.texts_of.Given as goal

-- the texts of the words so far
abbrev pub invariant-loop-word : goal.invariant-loop-word
invariant-loop-word l = map (λ text. text.now) l.texts.items ≡ map (λ word. word.bytes.items) (take l.word-index l.words)
