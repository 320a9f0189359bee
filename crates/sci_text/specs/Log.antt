-- Logs with last contents, and the one text of each in format 2.
use Rattle.std.specs.{Prelude.{ℕ, ◌+◌, List, [], ◌∷◌, ◌++◌, length, codes}, List.{flat_map}}
use Rattle.sci_words.specs.declared.{operation.Reply.{Reply, TheVariants.{Stored, Got}}, stamped.Stamped.{Stamped}}
use Rattle.sci_history.specs.declared.entry.Entry.{Entry}
use Rattle.sci_text.specs.{Number.{number, field}, Operation.{operation}}

-- a store has no word to answer
abbrev pub reply_text : Reply → List ℕ
reply_text Stored = codes "-"
reply_text (Got word) = number word

-- ` @V`
unfoldable pub version_text : ℕ → List ℕ
version_text version = codes " @" ++ number version

-- `log 2 N M`, and the line feed
unfoldable pub log_line : ℕ → ℕ → List ℕ
log_line nodes lines = codes "log 2" ++ (field nodes ++ (field lines ++ 10 ∷ []))

-- `last L @V`, the words of the line, and the line feed
unfoldable pub last_line : ℕ → Stamped → List ℕ
last_line line stamped = codes "last" ++ (field line ++ (version_text stamped.version ++ (flat_map field stamped.line ++ 10 ∷ [])))

-- the lines of the last contents, by their numbers from the first
abbrev pub last_lines : ℕ → List Stamped → List ℕ
last_lines line [] = []
last_lines line (stamped ∷ last) = last_line line stamped ++ last_lines (line + 1) last

-- `n serial OP`
unfoldable pub issue_text : Entry → List ℕ
issue_text entry = number entry.node ++ (field entry.serial ++ (codes " " ++ operation entry.op))

-- ` = REPLY @V`
unfoldable pub outcome_text : Entry → List ℕ
outcome_text entry = codes " = " ++ (reply_text entry.reply ++ version_text entry.version)

-- `n serial OP = REPLY @V`, and the line feed
unfoldable pub entry_line : Entry → List ℕ
entry_line entry = issue_text entry ++ (outcome_text entry ++ 10 ∷ [])

-- the entries of each node in the order of its log
abbrev pub entry_lines : List (List Entry) → List ℕ
entry_lines logs = flat_map (λ log. flat_map entry_line log) logs

-- the line of the size, the lines of the last contents, and a line for each entry
abbrev pub log_text : ℕ → List (List Entry) → List Stamped → List ℕ
log_text nodes logs last = log_line nodes (length last) ++ (last_lines 0 last ++ entry_lines logs)
