use Rattle.std.proofs.{Common.{refl, sym}, lemmas.Result.{on_ok_weaker}}
use Rattle.std.specs.Prelude.{Some}
use Rattle.sci_traces.proofs.Listed.{event_listed}
use Rattle.sci_traces.proofs.listing.push_list_behind.Goals as goal

pub returns : goal.returns
returns c =
    on_ok_weaker c.push_list.result
    (λ list. event_listed c.args.place.number c.in-Some.line c.args.place.line (Some c.args.machine.now) c.args.machine.now _ _ _
    (sym c.in-Some.is) refl c.in_ok-push_place.ensures list)
    c.push_list.ensures
