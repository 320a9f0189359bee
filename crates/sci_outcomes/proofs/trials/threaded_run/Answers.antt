use Rattle.std.proofs.Common.{◌≡◌, ◌∙◌, ℕ, All, Bool, List, [], length, refl, sym, ap, subst}
use Rattle.sci_core.specs.{Core.{Core}, Outcome.{logs_of}, Sharing.{last_of}, Size.{Size}}
use Rattle.sci_lanes.specs.Gathering.{IsLedTo}
use Rattle.sci_words.specs.declared.limits.TheConstants.{MAX_TURNS}
use Rattle.sci_text.specs.Script.{ScriptValue, operations_of}
use Rattle.sci_drive.specs.{declared.driver.Issuing.{Issuing}, Calls.{AllowAll, Call}, ScriptLogs.{size_for}}
use Rattle.sci_threads.specs.Slices.{AreDrivenThrough, hears_openly}
use Rattle.sci_threads.proofs.{DrivenNodes.{led_and_driven}, Openly.{all_openly}}
use Rattle.sci_allowed.specs.{Outcome.{IsPlaceWithin}, declared.place.Place.{Place}}
use Rattle.sci_outcomes.specs.{Outcomes.{IsSeen}, Trials.{IsDrivenFor}}
use Rattle.sci_outcomes.proofs.trials.threaded_run.Goals as goal

pub seen-requires : goal.seen-requires
seen-requires g c =
    let lines = ap (λ (z : Size). z.lines) c.in_ok-machine.ensures.rounds.0.sized in
    subst (λ (n : ℕ). All (IsPlaceWithin n) c.args.litmus.places.now) (sym lines) c.requires.within

-- the nodes of a machine were driven with a gate for each, which allows all
driven_for : {G : Type 0} (hears : G → List Call → G → Type 0) → ((g h : G) (calls : List Call) → hears g calls h → AllowAll calls)
    → (script : ScriptValue) (issuing : Issuing) (gates : List G) (core : Core) (all said : Bool) → length gates ≡ script.nodes → all ≡ said
    → (led : IsLedTo (size_for script) core)
    × AreDrivenThrough hears MAX_TURNS issuing (λ node. operations_of node script.operations) gates core led.schedule all
    → (led : IsLedTo (size_for script) core) × IsDrivenFor script issuing core led.schedule said
driven_for hears allows script issuing gates core all said many is rounds =
    let openly = all_openly hears allows (many ∙ sym (ap (λ (z : Size). z.nodes) rounds.0.sized)) rounds.1 in
    (rounds.0, subst (IsDrivenFor script issuing core rounds.0.schedule) is openly)

pub returns-clause-seen : goal.returns-clause-seen
returns-clause-seen g c =
    let ran = c.in_ok-machine in
    let machine = ran.machine in
    let seen = c.in_ok-seen.ensures in
    let litmus = c.args.litmus in
    let rounds = driven_for _ (λ old new calls all. all) litmus.script.now litmus.issuing c.in_ok-gates.gates.items machine ran.finished _
    (c.in_ok-gates.ensures ∙ c.extent.ensures.nodes) c.if-not-finished.false ran.ensures.rounds in
    let both = led_and_driven hears_openly MAX_TURNS litmus.issuing [] machine _ _ _ (logs_of machine) (last_of machine) refl refl rounds in
    record {
      logs = logs_of machine;
      last = last_of machine;
      led = both.0;
      driven = both.1;
      whole = ran.ensures.whole c.if-not-finished.false;
      ordered = ran.ensures.ordered;
      lawful = seen.lawful;
      consistent = seen.consistent;
      seen = subst (λ (places : List Place). IsSeen places (logs_of machine) (last_of machine) c.in_ok-seen.field-0) c.requires.places_are seen.seen;
    }

pub returns-then-not-finished-clause-given_up : goal.returns-then-not-finished-clause-given_up
returns-then-not-finished-clause-given_up g c = λ _.
    let ran = c.in_ok-machine in
    let litmus = c.args.litmus in
    let rounds = driven_for _ (λ old new calls all. all) litmus.script.now litmus.issuing c.in_ok-gates.gates.items ran.machine ran.finished _
    (c.in_ok-gates.ensures ∙ c.extent.ensures.nodes) c.if-not-finished.true ran.ensures.rounds in
    record { core = ran.machine; led = rounds.0; driven = rounds.1 }
