use Rattle.std.proofs.{Common.{◌%◌, ap}, lemmas.Result.{on_ok_weaker}}
use Rattle.sci_traces.proofs.Listed.{authority_judged, list_appended}
use Rattle.sci_traces.proofs.listing.push_list.Goals as goal

pub returns : goal.returns
returns c =
    let core = c.args.machine.now in
    let sharing = c.in_ok-sharing.ensures in
    let judged = authority_judged core c.args.line c.in_ok-sharing.sharing.authority sharing.found sharing.none in
    let list = rw (← c.deref.ensures.value) at sharing.list in
    on_ok_weaker c.push_last.result
    (λ last. list_appended core c.args.line (c.args.line % c.extent.result.nodes) _ _ _ _ _ _ _ _ (ap (λ many. c.args.line % many) c.extent.ensures.nodes)
    c.home_name_at.ensures sharing.last list judged c.in_ok-push_text.ensures.text c.in_ok-push_members.ensures last)
    c.push_last.ensures
