-- The homes so far are as nobody has touched them.
use Rattle.std.proofs.Common.{◌≡◌, replicate}
use Rattle.sci_home.specs.Serving.{opening_home}
use Rattle.sci_core.proofs.node.Node.new.Given as goal

abbrev pub invariant-loop-place : goal.invariant-loop-place
invariant-loop-place l = l.homes.items ≡ replicate l._place opening_home
