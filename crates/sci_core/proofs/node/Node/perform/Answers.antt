-- The entry takes the place of what was pending.
use Rattle.std.proofs.Common.{◌≡◌, Some, Ok, Result, List, [], ◌∷◌, ◌++◌, if◌then◌else◌, sym, ap, ◌∙◌, arith}
use Rattle.std.specs.{Result.{is_ok}, Option.{option_copied}, declared.alloc.AllocFailed.{AllocFailed}}
use Rattle.sci_history.specs.declared.entry.Entry.{Entry}
use Rattle.sci_core.specs.{Node.{pending_on}, contracts.node.Node.{the_view}}
use Rattle.sci_core.proofs.Step.{Caches.{same_performing}, Nodes.{fits_kept, node_with_entry}}
use Rattle.sci_core.proofs.node.Node.perform.Goals as goal

-- the log's room, and the entry at its end
entered : (result : Result (Unit {0}) (AllocFailed Entry)) (log new : List Entry) (entry : Entry) (x : Unit {0}) → result ≡ Ok x
    → new ≡ (if is_ok result then log ++ entry ∷ [] else log) → new ≡ log ++ entry ∷ []
entered result log new entry x ok e = rw ok at e

pub invariant_of-self-2 : goal.invariant_of-self-2
invariant_of-self-2 c =
    let node = the_view c.self.inside in
    let same = same_performing c.self.inside.cache c.in_ok-pending.pending.now.op c.perform.new.self c.in_ok-reply.reply c.in_ok-reply.version
    c.in_ok-reply.ensures.done in
    let at : pending_on node c.args.line ≡ Some c.in_ok-pending.pending.now =
    sym c.get.ensures ∙ ap option_copied c.in_ok-pending.was in
    let log = entered _ _ _ _ _ c.in-Ok.is c.push.ensures.items in
    let kept = fits_kept _ _ _ _ _ _ same c.self.invariant.0 in
    let room = kept.room in
    let capacity = c.push.ensures.capacity in (
      record { me = kept.me; nodes = kept.nodes; slots = kept.slots; lines = kept.lines; room = omega arith },
      rw (log, c.clear.ensures) (node_with_entry node c.args.line c.in_ok-pending.pending.now c.perform.new.self _ same at c.self.invariant.1),
    )
