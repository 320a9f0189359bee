use Rattle.std.proofs.Common.{subst, sym, ◌∙◌}
use Rattle.std.specs.Prelude.{take, ◌+◌}
use Rattle.std.specs.BTreeSet.{BTreeSet}
use Rattle.sci_allowed.specs.{Outcome.{IsWritten}, declared.place.Place.{Place}}
use Rattle.sci_allowed.proofs.WrittenWords.{one_passed, one_put}
use Rattle.sci_allowed.proofs.place.written_words.Goals.{then-is_maker+in_ok-insert, else-is_maker}
use Rattle.sci_allowed.proofs.place.written_words.Goals as goal

pub loop-op-preserved : goal.loop-op-preserved
loop-op-preserved c =
    let operations = c.args.operations.now in
    let i = c.loop-op.op-index in
    let Writes = λ (set : BTreeSet Place). IsWritten (take (i + 1) operations) set in
    elim c.if-is_maker.branch [
      | then-is_maker+in_ok-insert w ↦
          subst Writes (sym w.written-is)
          (one_put operations i _ c.loop-op-test.true c.loop-op.written c.loop-op.invariant w.insert.new.self (sym c.is_maker.ensures ∙ w.if-is_maker.true)
          w.in_ok-insert.ensures.updates.0)
      | else-is_maker w ↦
          subst Writes (sym w.written-is)
          (one_passed operations i _ c.loop-op-test.true c.loop-op.written c.loop-op.invariant (sym c.is_maker.ensures ∙ w.if-is_maker.false))
    ]
