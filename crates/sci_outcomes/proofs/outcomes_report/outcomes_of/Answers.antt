-- What is written of the runs is the answer, and why the script has too much is why it is refused.
use Rattle.std.proofs.Common.{All, subst, inl, inr}
use Rattle.std.specs.Prelude.{option_map}
use Rattle.sci_text.specs.Tap.{has_failed, tapped}
use Rattle.sci_allowed.specs.{Allowed.{IsLitmus}, Outcome.{IsPlaceWithin, written_places}, declared.litmus.Litmus.{Litmus}}
use Rattle.sci_outcomes.proofs.Answering.{answered_for, is_big, is_long, refused_for}
use Rattle.sci_outcomes.specs.{declared.trials.Trials.{Trials}, Trials.{AreSeenOf, OneIsGivenUp, RunsAreCrowded}}
use Rattle.sci_outcomes.proofs.outcomes_report.outcomes_of.Goals as goal

-- the words that may be written are the machine's
places_within : (litmus : Litmus) → IsLitmus litmus
    → All (IsPlaceWithin litmus.script.lines) (written_places litmus.script.lines litmus.script.operations)
places_within litmus good = subst (All (IsPlaceWithin litmus.script.lines)) good.places good.within

pub returns-in-Err : goal.returns-in-Err
returns-in-Err g c =
    let read = c.in_ok-litmus.ensures in
    let refusal = c.big_refusal.ensures in
    let known = g.R.Read.remaining (tapped c.args.reader.now) in
    let failed = has_failed c.read_conditioned.new.reader in
    let within = places_within _ read.litmus in (
      refused_for c.args.request _ _ known failed read.unfailed read.text within c.big_refusal.result.fault.kind c.big_refusal.result.fault.line
          refusal.line refusal.kind
          (λ is. is_big c.args.request _ _ known failed read.unfailed read.text within (c.in-Err.ensures.many (refusal.many is))),
      c.read_conditioned.ensures.again,
    )

pub returns-in-Err-counted : goal.returns-in-Err-counted
returns-in-Err-counted g c =
    let read = c.in_ok-litmus.ensures in
    let refusal = c.trials_refusal.ensures in
    let script = c.in_ok-litmus.litmus.script in
    let why = c.in-Err-counted.ensures in
    let known = g.R.Read.remaining (tapped c.args.reader.now) in
    let failed = has_failed c.read_conditioned.new.reader in
    let within = places_within _ read.litmus in (
      refused_for c.args.request _ _ known failed read.unfailed read.text within c.trials_refusal.result.fault.kind c.trials_refusal.result.fault.line
          refusal.line refusal.kind
          (λ is. is_long c.args.request _ _ known failed read.unfailed read.text within (elim (refusal.many is) [
            | inl one ↦ inl (subst (OneIsGivenUp script) c.trials.ensures (why.given_up one))
            | inr crowd ↦ inr (subst (RunsAreCrowded script) c.trials.ensures (why.crowded crowd))
          ])),
      c.read_conditioned.ensures.again,
    )

pub returns : goal.returns
returns g c =
    let request = c.args.request in
    let read = c.in_ok-litmus.ensures in
    let script = c.in_ok-litmus.litmus.script in
    let counted = c.in-Ok-counted.ensures.counted in
    let runs = subst (λ (t : Trials). AreSeenOf script t counted.0) c.trials.ensures counted.1 in
    let answer = c.in_ok-answer.answer in (
      answered_for request _ _ (g.R.Read.remaining (tapped c.args.reader.now)) (has_failed c.read_conditioned.new.reader) read.unfailed read.text
          (places_within _ read.litmus)
          (option_map (λ rows. rows.items) c.in-Ok.rows) counted.0 answer.text.items answer.outcome c.in-Ok.ensures.rows runs
          (c.in_ok-answer.ensures script counted.0 c.in-Ok-counted.ensures.within counted.2),
      c.read_conditioned.ensures.again,
    )
