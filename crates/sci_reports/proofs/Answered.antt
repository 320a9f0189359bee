-- An explanation is never Refused.
use Rattle.std.proofs.Common.{◌≡◌, ℕ, Bool, List}
use Rattle.sci_history.specs.declared.entry.Entry.{Entry}
use Rattle.sci_words.specs.declared.stamped.Stamped.{Stamped}
use Rattle.sci_command.specs.declared.outcome.Outcome.{Outcome, TheVariants.{Done, Unlawful, Refused}}
use Rattle.sci_reports.specs.ExplainAnswer.{IsExplained}

pub explained_judged : (json : Bool) (before : ℕ) (logs : List (List Entry)) (last : List Stamped) (text : List ℕ) (outcome : Outcome)
    → IsExplained json before logs last text outcome → outcome ≡ Refused → ⊥
explained_judged json before logs last text Done h is = cc
explained_judged json before logs last text Unlawful h is = cc
explained_judged json before logs last text Refused h is = h
