-- What waits is looked at before what is carried.
use Rattle.std.proofs.Common.{◌≡◌, Some, sym, ap, ◌∙◌, arith}
use Rattle.std.specs.Prelude.{option_to_list}
use Rattle.sci_core.specs.{declared.lane.LaneKind.TheVariants.{Answers}, Core.{lane_of, node_at}, Node.{NodeOf}}
use Rattle.sci_core.proofs.Tidy.Seeking.{seek, seek_first, seek_second}
use Rattle.sci_core.proofs.state.State.answer_from.Goals as goal

pub returns-in-Some : goal.returns-in-Some
returns-in-Some c =
    let node = node_at c.args.self.now c.args.from in
    let waits : seek c.args.n c.args.line (option_to_list node.waiting) ≡ Some c.in-Some.body =
    ap (λ (part : NodeOf). seek c.args.n c.args.line (option_to_list part.waiting)) (sym c.node.ensures) ∙ sym c.waiting_answer.ensures ∙ c.in-Some.is in
    sym (seek_first c.args.n c.args.line (option_to_list node.waiting) (lane_of c.args.self.now Answers c.args.from c.args.n) c.in-Some.body waits)

pub returns-in-None : goal.returns-in-None
returns-in-None c = grind (arith, seek, seek_second)
