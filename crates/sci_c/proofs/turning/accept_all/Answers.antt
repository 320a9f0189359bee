use Rattle.std.proofs.Common.{rules, arith, ◌≡◌, ℕ, refl, subst}
use Rattle.std.proofs.lemmas.Option.{slice_get-get_or}
use Rattle.sci_c.specs.Turning.{AcceptsAt, UpTo, stage}
use Rattle.sci_c.proofs.Turns.{one_more}
use Rattle.sci_c.proofs.turning.accept_all.Goals as goal

pub loop-i-preserved : goal.loop-i-preserved
loop-i-preserved c = record {
  accepts = λ room used.
      one_more (AcceptsAt c.args.came.now) c.loop-i.i _ (stage c.loop-i.controller c.loop-i.taken room used) _
      (c.loop-i.invariant.accepts room used) (record {
        c = _;
        stands = slice_get-get_or c.args.came.now c.loop-i.i _ c.loop-i-test.true;
        mark = c.accept_struct.result;
        accepts = c.accept_struct.ensures;
        marked = refl;
        none_sent = record { same_room = refl; same_used = refl };
      });
  marks = search rules;
}

pub returns-clause-accepts : goal.returns-clause-accepts
returns-clause-accepts c = λ room used.
    let all : c.loop-i.i ≡ _ = omega (arith, c.loop-i-test.false, c.loop-i.auto.i-end) in
    subst (λ (n : ℕ). UpTo (AcceptsAt c.args.came.now) n (stage c.args.controller.now c.args.taken.now room used)
    (stage c.loop-i.controller c.loop-i.taken room used)) all (c.loop-i.invariant.accepts room used)
