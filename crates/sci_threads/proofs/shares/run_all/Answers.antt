use Rattle.std.proofs.Common.{◌≡◌, List, subst}
use Rattle.std.specs.Prelude.{slice_index_or}
use Rattle.sci_drive.specs.Calls.{Call}
use Rattle.sci_threads.specs.{declared.share.Share.{Share}, Shares.{IsLaterShare}}
use Rattle.sci_threads.proofs.Going.{all_on}
use Rattle.sci_threads.proofs.shares.run_all.Goals as goal

-- a share goes on from what was lent to what was left
went_between : {G : Type 0} (hears : G → List Call → G → Type 0) (lent left old new : Share G) → lent ≡ old → left ≡ new → IsLaterShare hears lent left
    → IsLaterShare hears old new
went_between hears lent left old new first last on =
    subst (λ (s : Share _). IsLaterShare hears s new) first (subst (λ (s : Share _). IsLaterShare hears lent s) last on)

pub returns-clause-gone : goal.returns-clause-gone
returns-clause-gone g c =
    let laws = g.met.G.Gate g.world.𝓛 g.world.𝓜 g.world.𝓡 ((λ s x. x), (λ x. x), (λ x. x), λ x. x) in
    let old = c.args.shares.now in
    let mid = c.for_each_mut.new.s in
    all_on g.G.Gate.hears laws.hears_nothing laws.hears_on old mid c.go_on_in_a_circle.new.shares c.for_each_mut.auto.s
    (λ k d lt.
    let run = (c.for_each_mut.ensures k d lt).1 in
    went_between g.G.Gate.hears run.argument.now run.after_call.now (slice_index_or old k d) (slice_index_or mid k d) run.argument_is run.left run.call.0)
    c.go_on_in_a_circle.ensures.gone
