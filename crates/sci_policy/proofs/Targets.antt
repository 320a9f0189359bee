-- What a node of a reached state sends goes to a node of the machine.
use Rattle.std.proofs.Common.{◌≡◌, ℕ, ◌<◌, Some, arith}
use Rattle.sci_words.specs.declared.event.AskKind.{AskKind}
use Rattle.sci_cache.specs.Cache.{Letter}
use Rattle.sci_core.specs.{Core.{Core, node_at}, Node.{NodeOf, node_asking}, Reached.{IsReached}}
use Rattle.sci_core.specs.WellFormed.{IsAnswerLetter}
use Rattle.sci_core.proofs.{Basics.Options.{of_some}, WellFormed.Parts.{SendsWell, part_asking}}
use Rattle.sci_core.proofs.WellFormed.WellFormedSteps.{reached_well}

pub waiting_target : (core : Core) (n : ℕ) (letter : Letter) → IsReached core → n < core.size.nodes → (node_at core n).waiting ≡ Some letter
    → letter.target < core.size.nodes
waiting_target core n letter reached some waits =
    (of_some (λ (l : Letter). IsAnswerLetter core.size.nodes core.size.lines l × (l.source ≡ n)) (node_at core n).waiting letter waits
    (((reached_well core reached).each_part n some).answer)).0.letter_ok.target

pub asked_target : (core : Core) (n line : ℕ) (kind : AskKind) (sent : NodeOf × Letter) → IsReached core → n < core.size.nodes
    → node_asking (node_at core n) line kind ≡ Some sent → sent.1.target < core.size.nodes
asked_target core n line kind sent reached some asks =
    let well = reached_well core reached in
    let nodes = well.sizes.some_node in
    (of_some (SendsWell core.size n) (node_asking (node_at core n) line kind) sent asks
    (part_asking core.size n (node_at core n) line kind (omega arith) some (well.each_part n some))).request.letter_ok.target
