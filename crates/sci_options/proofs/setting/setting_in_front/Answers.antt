use Rattle.std.specs.Prelude.{map}
use Rattle.sci_options.proofs.Fronts.{none_joined, parted_alone, some_joined}
use Rattle.sci_options.proofs.setting.setting_in_front.Goals as goal

pub returns-in_ok-setting-in-Some : goal.returns-in_ok-setting-in-Some
returns-in_ok-setting-in-Some c =
    some_joined c.args.options.now c.args.word.now (map (λ word. word.now) c.args.more.now) c.in-Some.name c.in-Some.text c.in-Some.ensures.cases
    c.joined.result c.joined.ensures c.in_ok-setting-in-Some.setting c.in_ok-setting-in-Some.was

pub returns-in_err-setting-in-Some : goal.returns-in_err-setting-in-Some
returns-in_err-setting-in-Some c =
    none_joined c.args.options.now c.args.word.now (map (λ word. word.now) c.args.more.now) c.in-Some.name c.in-Some.text c.in-Some.ensures.cases
    c.joined.result c.joined.ensures c.from_residual.result c.in_err-setting-in-Some.was c.from_residual.ensures

pub returns-in-None : goal.returns-in-None
returns-in-None c =
    parted_alone c.args.options.now c.args.word.now (map (λ word. word.now) c.args.more.now) c.parted.result c.in-None.ensures.cases c.parted.ensures
