use Rattle.std.proofs.lemmas.List.Kept.{AllPairs-from_increasing}
use Rattle.sci_judge.specs.Judgement.{addresses_of}
use Rattle.sci_judge.proofs.TraceLogs.{rises}
use Rattle.sci_judge.proofs.logging.are_rising.Goals as goal

pub returns : goal.returns
returns c =
    let sites = c.args.sites.now in
    AllPairs-from_increasing (addresses_of sites) (rises sites c.loop-place.place c.loop-place-test.false c.loop-place.invariant)
