-- What `outcomes --json` writes: the outcomes of runs as one JSON object.
use Rattle.std.specs.Prelude.{ℕ, ◌+◌, ◌%◌, ◌^◌, List, [], ◌++◌, codes, length, Option, Some, None}
use Rattle.std.specs.List.{flat_map}
use Rattle.json.specs.Token.{Token}
use Rattle.sci_json.specs.Members.{array_member, number_member, object_line, object_of, text_member, truth_member, word_member}
use Rattle.sci_allowed.specs.declared.{outcome.{FinalWord.{FinalWord}, Outcome.{Outcome}, Replied.{Replied}}, rows.AllowedRow.{AllowedRow}}
use Rattle.sci_outcomes.specs.declared.{histogram.Row.{Row}, said.Said.{Said}, trials.{Trials.{Trials}, Turns.{Turns, TheVariants.{Drawn, Threads}}}}
use Rattle.sci_outcomes.specs.Said.{sample_word}

-- what an operation replied
unfoldable pub replied_members : Replied → List Token
replied_members replied =
    number_member (codes "node") replied.node ++ (number_member (codes "serial") replied.serial ++ word_member (codes "reply") replied.word)

unfoldable pub replied_object : Replied → List Token
replied_object replied = object_of (replied_members replied)

-- what a word of memory holds
unfoldable pub held_members : FinalWord → List Token
held_members held = number_member (codes "line") held.line ++ (number_member (codes "word") held.word ++ word_member (codes "value") held.value)

unfoldable pub held_object : FinalWord → List Token
held_object held = object_of (held_members held)

unfoldable pub outcome_members : Outcome → List Token
outcome_members outcome =
    array_member (codes "replies") (flat_map replied_object outcome.replies.items)
    ++ array_member (codes "words") (flat_map held_object outcome.last.items)

-- the seed of the run with this number, if its order of turns was drawn; as it is a word of 64 bits, it stands in a string
unfoldable pub seed_member : Turns → ℕ → List Token
seed_member (Drawn seed) number = word_member (codes "seed") ((seed + number) % 2 ^ 64)
seed_member Threads number = []

-- an outcome, how many runs gave it, the seed of the first of them, and whether one of them is in program order
unfoldable pub row_members : Turns → Row → List Token
row_members turns row =
    outcome_members row.outcome
    ++ (number_member (codes "count") row.runs ++ (seed_member turns row.first ++ truth_member (codes "in_program_order") row.in_order))

unfoldable pub row_object : Turns → Row → List Token
row_object turns row = object_of (row_members turns row)

-- an outcome that no run had, and whether a run in which each node goes in order can have it
unfoldable pub unseen_members : AllowedRow → List Token
unseen_members row =
    outcome_members row.outcome ++ (number_member (codes "count") 0 ++ truth_member (codes "in_program_order") row.in_order)

unfoldable pub unseen_object : AllowedRow → List Token
unseen_object row = object_of (unseen_members row)

-- what is said of the condition, if there is one
unfoldable pub said_member : Option Said → List Token
said_member None = []
said_member (Some said) = text_member (codes "condition") (sample_word said)

-- the rows, and behind them the others
unfoldable pub rows_member : Turns → List Row → List AllowedRow → List Token
rows_member turns rows unseen = array_member (codes "rows") (flat_map (row_object turns) rows ++ flat_map unseen_object unseen)

-- how many outcomes there are, those that were seen and the others; how many were seen; and how many runs there were
unfoldable pub counts_members : (seen unseen runs : ℕ) → List Token
counts_members seen unseen runs =
    number_member (codes "outcomes") (seen + unseen) ++ (number_member (codes "seen") seen ++ number_member (codes "runs") runs)

-- that, each outcome, and what is said of the condition
unfoldable pub outcomes_members : Trials → List Row → List AllowedRow → Option Said → List Token
outcomes_members trials rows unseen said =
    counts_members (length rows) (length unseen) trials.runs ++ (rows_member trials.turns rows unseen ++ said_member said)

abbrev pub outcomes_json : Trials → List Row → List AllowedRow → Option Said → List ℕ
outcomes_json trials rows unseen said = object_line (outcomes_members trials rows unseen said)
