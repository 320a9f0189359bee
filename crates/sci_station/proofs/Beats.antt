-- What is told of an end that was given is so of the end.
use Rattle.std.proofs.Common.{◌≡◌, ap, subst, ◌∙◌}
use Rattle.sci_core.specs.Node.{NodeOf}
use Rattle.sci_lanes.specs.{Telling.{IsShown}, Ends.{EndOf}}

-- what is told of the node of an end that was given is so of the end
pub node_of_end : (node : NodeOf) (given end : EndOf) → node ≡ given.part.node → given ≡ end → node ≡ end.part.node
node_of_end node given end is same = is ∙ ap (λ (e : EndOf). e.part.node) same

pub shown_of_end : (given end : EndOf) → IsShown given.part → given ≡ end → IsShown end.part
shown_of_end given end shown same = subst (λ (e : EndOf). IsShown e.part) same shown
