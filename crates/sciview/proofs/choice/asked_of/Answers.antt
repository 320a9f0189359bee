use Rattle.std.proofs.Common.{◌≡◌, ◌↔◌, Some, sym, ◌∙◌}
use Rattle.sci_options.specs.{Given.{texts}, Options.{is_given}}
use Rattle.sci_options.specs.declared.option_name.OptionName.TheVariants as options
use Rattle.sciview.specs.Choice.{IsNamed, Named, reads_several, shown_names}
use Rattle.sciview.proofs.Chosen.{asked_text}
use Rattle.sciview.proofs.choice.asked_of.Goals as goal

pub returns : goal.returns
returns c =
    let given = c.args.given in
    let names = shown_names c.in_ok-names.names in
    let named : (named : Named) → (Some names ≡ Some named)
    ↔ IsNamed (is_given options.Title given.settings.items) (reads_several c.args.verb given.settings.items) (texts given.alone.items) named =
    λ named. rw (c.in_ok-names.was, c.has-titled.ensures, c.reads_several-several.ensures) at (c.names_of.ensures named) in
    asked_text c.args.verb given.settings.items (texts given.alone.items) c.in_ok-command.command names c.in_default.not-Random
    (sym c.command_of.ensures ∙ c.in_ok-command.was) named
