use Rattle.std.proofs.Common.{◌≡◌, drop}
use Rattle.std.specs.List.{find}
use Rattle.sci_options.specs.Options.{is_option}
use Rattle.sci_options.proofs.setting.argument_of.Given as goal

-- what is found is behind the rows so far
abbrev pub invariant-loop-row : goal.invariant-loop-row
invariant-loop-row l =
    find (λ row. is_option l.name row.name) l.options ≡ find (λ row. is_option l.name row.name) (drop l.row-index l.options)
