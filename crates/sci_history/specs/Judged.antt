-- What a first look at the logs gives.
use Rattle.std.specs.Prelude.{◌≡◌, List, length}
use Rattle.sci_words.specs.declared.stamped.Stamped.{Stamped}
use Rattle.sci_history.specs.{declared.{entry.Entry.{Entry}, placing.Judged.{Judged}}, Audit.{IsFault}, Lawful.{Lawful}}
use Rattle.sci_history.specs.Placing.{AreOrderable, lists_of_counts}
use Rattle.sci_history.specs.declared.placing.Judged.TheVariants as judged

-- the first fault of logs that aren't lawful, or the loads of logs that are
abbrev pub IsJudged : List (List Entry) → List Stamped → Judged → Type 0
IsJudged logs last (judged.Fault line fault) = IsFault logs last line fault.kind fault.at × (Lawful logs last → ⊥)
IsJudged logs last (judged.Loads loads) = Lawful logs last × AreOrderable logs (lists_of_counts loads.items) × (length loads.items ≡ length last)
