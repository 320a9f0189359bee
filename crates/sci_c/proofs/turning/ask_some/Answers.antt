use Rattle.std.proofs.Common.{arith, ◌≡◌, refl, ◌∙◌, inl, inr}
use Rattle.sci_c.specs.{Turning.{Asks, stage}, declared.turning.TheConstants.{ASKS}}
use Rattle.sci_c.proofs.Turns.{one_more}
use Rattle.sci_c.proofs.turning.ask_some.Goals as goal

pub loop-asked-preserved : goal.loop-asked-preserved
loop-asked-preserved c = record {
  asked = λ taken. one_more Asks c.loop-asked._asked _ (stage c.loop-asked.controller taken c.loop-asked.room c.loop-asked.used) _
      (c.loop-asked.invariant.asked taken) (c.ask_once.ensures.asks c.if-not-ask_once.false taken c.loop-asked._asked);
  few = omega (arith, c.ask_once.ensures.few, c.loop-asked.invariant.few);
  size = c.ask_once.ensures.room ∙ c.loop-asked.invariant.size;
}

pub returns-then-not-ask_once : goal.returns-then-not-ask_once
returns-then-not-ask_once c = λ taken. record {
  count = c.loop-asked._asked;
  mid = stage c.loop-asked.controller taken c.loop-asked.room c.loop-asked.used;
  asked = c.loop-asked.invariant.asked taken;
  ends = inr (c.loop-asked-test.true, c.ask_once.ensures.ends c.if-not-ask_once.true taken);
}

pub returns : goal.returns
returns c = λ taken.
    let all : c.loop-asked._asked ≡ ASKS = omega (arith, c.loop-asked-test.false, c.loop-asked.auto._asked-end) in
    record {
      count = c.loop-asked._asked;
      mid = stage c.loop-asked.controller taken c.loop-asked.room c.loop-asked.used;
      asked = c.loop-asked.invariant.asked taken;
      ends = inl (all, refl, c.want_out.ensures);
    }
