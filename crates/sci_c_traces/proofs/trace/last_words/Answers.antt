use Rattle.std.proofs.Common.{◌≡◌, false, true, rules, arith, subst}
use Rattle.std.proofs.lemmas.{List.{take_all}}
use Rattle.std.specs.{BTreeMap.{get}, Ordering.{nat_cmp}}
use Rattle.sci_c_traces.specs.Trace.{AreLastWords}
use Rattle.sci_c_traces.specs.declared.trace.SciLastWord.{SciLastWord}
use Rattle.sci_c_traces.proofs.LastWords.{at_odds, learnt_more}
use Rattle.sci_c_traces.proofs.trace.last_words.Goals as goal

abbrev none : SciLastWord
none = record { address = 0; word = 0 }

pub returns-then-not-branch-clause-none : goal.returns-then-not-branch-clause-none
returns-then-not-branch-clause-none c =
    let odd : c.in_ok-learn.field-0 ≡ false = search rules in
    λ e. at_odds c.args.structs.now c.loop-last.last-index none (λ at. get nat_cmp c.loop-last.words at) c.loop-last-test.true c.loop-last.invariant
    (c.in_ok-learn.ensures.odd odd)

pub loop-last-preserved : goal.loop-last-preserved
loop-last-preserved c =
    let free : c.in_ok-learn.field-0 ≡ true = search rules in
    learnt_more c.args.structs.now c.loop-last.last-index none (λ at. get nat_cmp c.loop-last.words at) (λ at. get nat_cmp c.learn.new.words at)
    c.loop-last-test.true c.loop-last.invariant (c.in_ok-learn.ensures.free free)

pub returns-clause-some : goal.returns-clause-some
returns-clause-some c =
    subst (λ xs. AreLastWords xs (λ at. get nat_cmp c.loop-last.words at)) (take_all c.loop-last.last-index c.args.structs.now (omega arith))
    c.loop-last.invariant
