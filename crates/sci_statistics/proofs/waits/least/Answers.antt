use Rattle.std.proofs.Common.{rules, tests, ℕ, Option, ap, sym, ◌∙◌}
use Rattle.std.proofs.lemmas.Iterator.{YieldsList-from_slice, YieldsList-from_map, Adapters.{option_map_id}}
use Rattle.std.proofs.lemmas.Iterator.Consumers.{min_from_yields_List}
use Rattle.std.specs.Option.{unwrap_or}
use Rattle.sci_statistics.specs.declared.waits.Wait.{Wait}
use Rattle.sci_statistics.proofs.waits.least.Goals as goal

pub returns : goal.returns
returns c =
    let picked = min_from_yields_List c.map.result c.min.result c.min.ensures.ran
    (YieldsList-from_map _ (λ (w : Wait). w.events) (YieldsList-from_slice c.args.waits.now cc) c.map.ensures.closure (λ x r q k. search (rules, tests))) in
    c.unwrap_or.ensures ∙ ap (λ (o : Option ℕ). unwrap_or o 0) (sym (option_map_id c.min.result) ∙ picked)
