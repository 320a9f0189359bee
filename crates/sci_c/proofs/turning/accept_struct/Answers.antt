use Rattle.std.proofs.Common.{rules, inl, inr, refl}
use Rattle.sci_c.specs.Turning.{HasAccepted, LeavesAnswer}
use Rattle.sci_c.proofs.turning.accept_struct.Goals as goal

pub returns-then-not-may : goal.returns-then-not-may
returns-then-not-may c =
    let leaves : LeavesAnswer c.args.said.now c.args.controller.now = record { leaves = inr (c.in-Ok.packet, c.in-Ok.ensures.says, search rules) } in
    inr (refl, leaves, refl)

pub returns-then-give : goal.returns-then-give
returns-then-give c =
    let accepted : HasAccepted c.args.said.now c.args.controller.now (record c.args.controller.now { node = c.give.new.node }) = record {
      packet = c.in-Ok.packet;
      says = c.in-Ok.ensures.says;
      may = search rules;
      accepted = search rules;
      policy = refl;
    } in
    inl (refl, accepted)

pub returns-else-give : goal.returns-else-give
returns-else-give c =
    let leaves : LeavesAnswer c.args.said.now c.args.controller.now = record { leaves = inr (c.in-Ok.packet, c.in-Ok.ensures.says, search rules) } in
    inr (refl, leaves, search rules)
