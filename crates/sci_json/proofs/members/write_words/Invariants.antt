use Rattle.std.proofs.Common.{◌∷◌, map, take}
use Rattle.std.specs.Prelude.{decimal}
use Rattle.json.specs.Token.{begin_array, key, string}
use Rattle.sci_json.specs.Members.{Adds}
use Rattle.sci_json.proofs.members.write_words.Given as goal

-- the words so far
abbrev pub invariant-loop-word : goal.invariant-loop-word
invariant-loop-word l = Adds l.fn.out l.out (key l.name ∷ begin_array ∷ map (λ word. string (decimal word)) (take l.word-index l.line))
