-- Why a text that was read has no page. No public contract cites these words.
use Rattle.std.specs.Prelude.{◌≡◌, ◌⊎◌, ℕ, List, Option}
use Rattle.sci_text.specs.declared.fault.{TextFault.{TextFault}, TextFaultKind.TheVariants.{Range, TooMany}}
use Rattle.sci_text.specs.{FirstFault.{IsRefusal}, ScheduleFault.{IsScheduleFault}}
use Rattle.sci_command.specs.AskedLine.{LacksLine}
use Rattle.sci_charts.specs.declared.charting.ChartRequest.{ChartRequest}
use Rattle.sci_pages.specs.{declared.kind.PageKind.{PageKind}, PageAnswer.{HasManyFor, IsFaultFor, IsLongPage, IsPagedFault, LacksFor, LacksPart}}

-- a text isn't a schedule whose machine has the line that is asked for
abbrev pub IsUnasked : Option ℕ → List ℕ → TextFault → Type 0
IsUnasked asked input fault =
    IsRefusal IsScheduleFault input fault ⊎ ((fault.kind ≡ Range) × (fault.line ≡ 0) × LacksLine asked input)

-- a text has no data as a schedule, or as a log
abbrev pub IsWithoutData : PageKind → ChartRequest → List ℕ → TextFault → Type 0
IsWithoutData kind request input fault = IsRefusal (IsFaultFor kind) input fault
    ⊎ (((fault.kind ≡ Range) × (fault.line ≡ 0) × LacksFor kind request input)
    ⊎ ((fault.kind ≡ TooMany) × (fault.line ≡ 0) × HasManyFor kind request input))

-- a text has no page
abbrev pub IsWithoutPage : ChartRequest → Option (List ℕ) → List ℕ → TextFault → Type 0
IsWithoutPage request title input fault = IsRefusal IsPagedFault input fault
    ⊎ (((fault.kind ≡ Range) × (fault.line ≡ 0) × LacksPart request input)
    ⊎ ((fault.kind ≡ TooMany) × (fault.line ≡ 0) × IsLongPage request title input))
