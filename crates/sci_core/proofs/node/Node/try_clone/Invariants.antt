-- The homes so far are copied.
use Rattle.std.proofs.Common.{◌≡◌, take}
use Rattle.sci_core.proofs.node.Node.try_clone.Given as goal

abbrev pub invariant-loop-home : goal.invariant-loop-home
invariant-loop-home l = l.homes.items ≡ take l.home-index l.home-items
