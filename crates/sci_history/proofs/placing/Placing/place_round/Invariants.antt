use Rattle.std.proofs.Common.{◌≡◌, ◌≤◌, ◌<◌, ℕ, length}
use Rattle.sci_history.specs.{Audit.{entries_of}, Placing.{IsPlacing, IsStuckAt, rests_of}}
use Rattle.sci_history.proofs.placing.Placing.place_round.Given as goal

-- if nothing was placed in this round, the nodes so far are stuck
abbrev pub invariant-loop-node : goal.invariant-loop-node
invariant-loop-node l = record {
  placing : IsPlacing l.logs (length l.loads) l.self.lines (rests_of l.logs l.self.next) (entries_of l.self.order.items);
  more : length l.fn.self.order.items ≤ length l.self.order.items;
  stuck : length l.self.order.items ≡ length l.fn.self.order.items → (m : ℕ) → m < l.node → IsStuckAt l.self.lines (rests_of l.logs l.self.next) m;
}
