use Rattle.std.proofs.Common.{arith, ℕ, List, ap, ◌∙◌, inl, inr}
use Rattle.std.proofs.lemmas.Option.{slice_get-get_or}
use Rattle.sci_c.specs.Turning.{TakesAt, stage}
use Rattle.sci_c.proofs.Turns.{one_more, same_stage}
use Rattle.sci_c.proofs.turning.take_all.Goals.{then-take_struct, else-take_struct}
use Rattle.sci_c.proofs.turning.take_all.Goals as goal

pub loop-i-preserved : goal.loop-i-preserved
loop-i-preserved c =
    let i = c.loop-i.i in
    let was = stage c.loop-i.controller c.loop-i.taken c.loop-i.room c.loop-i.used in
    let now = stage c.take_struct.new.controller c.if-take_struct.taken c.take_struct.new.room c.take_struct.new.used in
    let here = slice_get-get_or c.args.came.now i _ c.loop-i-test.true in
    let step : TakesAt c.args.came.now i was now = elim c.if-take_struct.branch [
      | then-take_struct w ↦ record {
        c = _;
        stands = here;
        takes = inl (
          stage c.take_struct.new.controller c.loop-i.taken c.take_struct.new.room c.take_struct.new.used,
          c.take_struct.ensures.taken w.if-take_struct.true c.loop-i.taken,
          ap (λ (marks : List ℕ). stage c.take_struct.new.controller marks c.take_struct.new.room c.take_struct.new.used) w.taken-is,
        );
      }
      | else-take_struct w ↦ record {
        c = _;
        stands = here;
        takes = inr (
          c.take_struct.ensures.leaves w.if-take_struct.false,
          same_stage (c.take_struct.ensures.same w.if-take_struct.false) w.taken-is
              (c.take_struct.ensures.none_sent w.if-take_struct.false).same_room (c.take_struct.ensures.none_sent w.if-take_struct.false).same_used,
        );
      }
    ] in
    record {
      takes = one_more (TakesAt c.args.came.now) i _ was now c.loop-i.invariant.takes step;
      marks = c.if-take_struct.auto.taken ∙ c.loop-i.invariant.marks;
      few = omega (arith, c.take_struct.ensures.few, c.loop-i.invariant.few);
      size = c.take_struct.ensures.room ∙ c.loop-i.invariant.size;
    }
