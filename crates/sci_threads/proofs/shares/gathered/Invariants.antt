use Rattle.std.proofs.Common.{◌≡◌, ◌++◌, All, Ok, true, map}
use Rattle.std.specs.Prelude.{◌↔◌, IsOk}
use Rattle.sci_threads.proofs.shares.gathered.Given as goal

abbrev pub invariant-loop-share : goal.invariant-loop-share
invariant-loop-share g l =
    (l.yielded ++ l.share-iterator.rest.items ≡ l.fn.shares.items)
    × (l.stations.items ≡ map (λ share. share.station) l.yielded)
    × ((l.all ≡ true) ↔ All (λ share. share.finished ≡ Ok true) l.yielded)
    × All (λ share. IsOk share.finished) l.yielded
