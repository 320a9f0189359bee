use Rattle.std.proofs.{Common.{◌≡◌, true, false, get_or, arith, sym, ◌∙◌}, lemmas.{Bool.Decides.{nat_tests}, Grind.{common_steps}}}
use Rattle.sci_judge.specs.{Access.{is_writing, left_by}, Witness.{writes}}
use Rattle.sci_judge.proofs.Once.{any_more, no_access, once_more}
use Rattle.sci_judge.proofs.checking.are_written_once.Goals as goal

pub loop-access-preserved : goal.loop-access-preserved
loop-access-preserved c =
    let xs = c.args.accesses.now in
    let i = c.loop-access.access-index in
    let a = get_or xs i no_access in
    let writing : is_writing a.kind ≡ true = sym c.is_writing.ensures ∙ c.if-not-is_writing.false in
    let here = c.loop-access.invariant.made (left_by a.kind) in
    record {
      made = λ word.
          let before = c.loop-access.invariant.made word in
          let more = any_more (writes word) xs i no_access c.loop-access-test.true in
          grind (arith, common_steps, nat_tests);
      once = once_more xs i no_access c.loop-access-test.true c.loop-access.invariant.once (record {
        fresh = λ _. grind (arith, common_steps, nat_tests);
        some = λ _. grind (arith, common_steps, nat_tests);
      });
    }

pub loop-access-preserved-then-not-is_writing : goal.loop-access-preserved-then-not-is_writing
loop-access-preserved-then-not-is_writing c =
    let xs = c.args.accesses.now in
    let i = c.loop-access.access-index in
    let a = get_or xs i no_access in
    let off : is_writing a.kind ≡ false = sym c.is_writing.ensures ∙ c.if-not-is_writing.true in
    record {
      made = λ word.
          let before = c.loop-access.invariant.made word in
          let more = any_more (writes word) xs i no_access c.loop-access-test.true in
          grind (arith, common_steps, nat_tests);
      once = once_more xs i no_access c.loop-access-test.true c.loop-access.invariant.once (record {
        fresh = λ on. absurd (let no_ : true ≡ false = sym on ∙ off in cc);
        some = λ on. absurd (let no_ : true ≡ false = sym on ∙ off in cc);
      });
    }
