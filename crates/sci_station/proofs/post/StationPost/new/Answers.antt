use Rattle.std.proofs.Common.{sym, ◌∙◌}
use Rattle.sci_station.proofs.Remembering.{nothing_owed}
use Rattle.sci_station.proofs.post.StationPost.new.Goals as goal

pub invariant_of-result : goal.invariant_of-result
invariant_of-result c =
    let s = c.node-node.ensures.shown in
    record {
      shown = s;
      owing = λ node lt. c.new.ensures node ∙ sym (nothing_owed c.args.end node s c.requires lt);
      no_more = λ node past. c.new.ensures node;
      keeps = λ kind node is. (let clash = sym is ∙ c.new-2.ensures kind node in cc);
    }
