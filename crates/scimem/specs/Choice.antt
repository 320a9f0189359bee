-- The words of a command line.
use Rattle.std.specs.Prelude.{◌≡◌, ◌≤◌, ◌⊎◌, ℕ, List, [], ◌∷◌, codes}
use Rattle.sci_words.specs.declared.limits.TheConstants.{MAX_TURNS}
use Rattle.sci_text.specs.Number.{number}
use Rattle.scimem.specs.declared.choice.Command.{Command}
use Rattle.scimem.specs.declared.choice.Command.TheVariants.{Oracle, Replay, Threads, Decode, Audit, Upgrade}

-- `threads` alone, for the most turns, or with a number of turns from 1 to that
abbrev pub ChoosesThreads : List (List ℕ) → ℕ → Type 0
ChoosesThreads words turns = ((words ≡ codes "threads" ∷ []) × (turns ≡ MAX_TURNS))
    ⊎ ((words ≡ codes "threads" ∷ codes "--turns" ∷ number turns ∷ []) × (1 ≤ turns) × (turns ≤ MAX_TURNS))

-- the words choose the command
abbrev pub Chooses : List (List ℕ) → Command → Type 0
Chooses words Oracle = words ≡ codes "oracle" ∷ []
Chooses words Replay = words ≡ codes "replay" ∷ []
Chooses words (Threads turns) = ChoosesThreads words turns
Chooses words Decode = words ≡ codes "decode" ∷ []
Chooses words Audit = words ≡ codes "audit" ∷ []
Chooses words Upgrade = words ≡ codes "upgrade" ∷ []
