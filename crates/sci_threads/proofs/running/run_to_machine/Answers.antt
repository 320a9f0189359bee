use Rattle.std.proofs.Common.{◌≡◌, ◌<◌, ◌≤◌, ℕ, List, All, Vec, length, sym, ap, subst, ◌∙◌, arith}
use Rattle.std.proofs.lemmas.Result.{IfOk-weaker}
use Rattle.std.specs.Prelude.{slice_index_or}
use Rattle.sci_words.specs.declared.{operation.Op.{Op}, limits.TheConstants.{MAX_OPERATIONS}}
use Rattle.sci_history.specs.declared.entry.Entry.{Entry}
use Rattle.sci_core.specs.{Outcome.{logs_of}, Size.{Size}}
use Rattle.sci_lanes.specs.Gathering.{IsLedTo}
use Rattle.sci_drive.specs.Script.{IsFrontOf, IsLogOf, IsWholeLogOf}
use Rattle.sci_threads.proofs.{DrivenNodes.{by_script}, RunStations.{of_script}}
use Rattle.sci_drive.proofs.Fresh.{sized_for}
use Rattle.sci_threads.proofs.running.run_to_machine.Goals.{After-run_plan}
use Rattle.sci_text.specs.Script.{operations_of}
use Rattle.sci_drive.specs.ScriptLogs.{IsOfEachLog, IsOfEachLogOf}
use Rattle.sci_threads.specs.{Shares.{own_of}, Slices.{AreDrivenThrough}}
use Rattle.sci_threads.proofs.running.run_to_machine.Goals as goal

pub run_plan-requires-clause-gates : goal.run_plan-requires-clause-gates
run_plan-requires-clause-gates g c = λ lts met. c.requires.gates ∙ sym c.extent.ensures.nodes

pub run_plan-requires-clause-lists : goal.run_plan-requires-clause-lists
run_plan-requires-clause-lists g c =
    λ lts met. ap length c.deref.ensures.value ∙ (c.in_ok-operations.ensures.nodes ∙ sym c.extent.ensures.nodes)

pub run_plan-requires-clause-few : goal.run_plan-requires-clause-few
run_plan-requires-clause-few g c = λ lts met.
    subst (All (λ (own : Vec Op _). length own.items ≤ MAX_OPERATIONS)) (sym c.deref.ensures.value) c.in_ok-operations.ensures.few

many : (g : _) (c : After-run_plan g) → length c.deref.result.now ≡ c.args.script.now.nodes
many g c = ap length c.deref.ensures.value ∙ c.in_ok-operations.ensures.nodes

own : (g : _) (c : After-run_plan g) (n : ℕ) (d : Vec Op _) → n < c.args.script.now.nodes
    → (slice_index_or c.deref.result.now n d).items ≡ operations_of n c.args.script.now.operations
own g c = grind arith

-- what is so of the lists of operations, is so of the script
by_lists : (g : _) (c : After-run_plan g) (Good : List Op → List Entry → Type 0) (logs : List (List Entry))
    → IsOfEachLog Good c.extent.result.nodes (own_of c.deref.result.now) logs → IsOfEachLogOf Good c.args.script.now logs
by_lists g c Good logs =
    of_script Good c.args.script.now c.deref.result.now logs (many g c) (own g c) c.extent.result.nodes c.extent.ensures.nodes

pub returns-clause-named : goal.returns-clause-named
returns-clause-named g c =
    let d = (goal.at.returns-clause-named g c).After-run_plan in
    IfOk-weaker c.run_plan.result _ _ (λ ran. by_lists g d IsLogOf (logs_of ran.0)) c.run_plan.ensures.named

pub returns-clause-whole : goal.returns-clause-whole
returns-clause-whole g c =
    let d = (goal.at.returns-clause-whole g c).After-run_plan in
    IfOk-weaker c.run_plan.result _ _ (λ ran whole finished. by_lists g d IsWholeLogOf (logs_of ran.0) (whole finished)) c.run_plan.ensures.whole

pub returns-clause-front : goal.returns-clause-front
returns-clause-front g c =
    let d = (goal.at.returns-clause-front g c).After-run_plan in
    IfOk-weaker c.run_plan.result _ _ (λ ran front is. by_lists g d IsFrontOf (logs_of ran.0) (front is)) c.run_plan.ensures.front

pub returns-clause-rounds : goal.returns-clause-rounds
returns-clause-rounds g c =
    let d = (goal.at.returns-clause-rounds g c).After-run_plan in
    let extent = c.extent.ensures in
    let sized = sized_for c.extent.result c.args.script.now extent.nodes extent.lines extent.slots in
    IfOk-weaker c.run_plan.result _ _ (λ ran rounds.
    let own_lists = own_of c.deref.result.now in
    let there = subst (λ (z : Size). (led : IsLedTo z ran.0)
    × AreDrivenThrough g.G.Gate.hears c.args.turns c.args.issuing own_lists c.args.gates.items ran.0 led.schedule ran.1) sized rounds in (
      there.0,
      by_script g.G.Gate.hears c.args.turns c.args.issuing c.args.gates.items ran.0 there.0.schedule ran.1 c.args.script.now c.deref.result.now (many g d)
          (own g d) (ap (λ (z : Size). z.nodes) there.0.sized) there.1,
    )) c.run_plan.ensures.rounds
