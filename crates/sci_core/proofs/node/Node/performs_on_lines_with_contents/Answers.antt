use Rattle.std.proofs.Common.{arith}
use Rattle.sci_core.proofs.History.Performable.{performs_with_contents}
use Rattle.sci_core.proofs.node.Node.performs_on_lines_with_contents.Goals as goal

pub returns : goal.returns
returns c = grind (arith, performs_with_contents)
