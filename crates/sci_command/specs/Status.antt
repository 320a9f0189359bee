-- The exit status of the program.
use Rattle.std.specs.Prelude.{ℕ}
use Rattle.sci_command.specs.declared.outcome.Outcome.{Outcome, TheVariants.{Done, Unlawful, Refused}}

abbrev pub status_of : Outcome → ℕ
status_of Done = 0
status_of Unlawful = 1
status_of Refused = 2
