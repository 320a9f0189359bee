use Rattle.std.proofs.Common.{◌≡◌, drop}
use Rattle.std.specs.List.{find}
use Rattle.sci_options.specs.Options.{is_option}
use Rattle.sci_options.proofs.given.value_of.Given as goal

-- what is found is behind the settings so far
abbrev pub invariant-loop-setting : goal.invariant-loop-setting
invariant-loop-setting l =
    find (λ setting. is_option l.name setting.name) l.settings ≡ find (λ setting. is_option l.name setting.name) (drop l.setting-index l.settings)
