-- What a page is of: a schedule or a log, each with its frame.
use Rattle.std.specs.Prelude.{ℕ, List, [], ◌∷◌, ◌==◌, codes, if◌then◌else◌}
use Rattle.sci_pages.specs.declared.{frame.TheConstants.{SCHEDULE_PARTS}, log_parts.TheConstants.{LOG_PARTS}, log_script.TheConstants.{LOG_END}}
use Rattle.sci_pages.specs.declared.{schedule_script.TheConstants.{SCHEDULE_END}, kind.PageKind.{PageKind, TheVariants.{Schedule, Log}}}

-- what a text is by its first byte: each log begins with `l`, and no schedule does
abbrev pub kind_of : List ℕ → PageKind
kind_of [] = Schedule
kind_of (byte ∷ more) = if byte == 108 then Log else Schedule

-- the title of a page that is given none
unfoldable pub name_of : PageKind → List ℕ
name_of Schedule = codes "Schedule"
name_of Log = codes "Log"

-- what stands between the title and the data
abbrev pub parts_of : PageKind → List ℕ
parts_of Schedule = SCHEDULE_PARTS.now
parts_of Log = LOG_PARTS.now

-- what stands behind the data
abbrev pub end_of : PageKind → List ℕ
end_of Schedule = SCHEDULE_END.now
end_of Log = LOG_END.now
