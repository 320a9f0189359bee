-- A run that memory stops.
use Rattle.std.proofs.{Common.{◌≡◌, ℕ, ◌<◌, List, length, get_or, take, arith}, lemmas.Option.{slice_get-get_or}}
use Rattle.std.specs.declared.alloc.AllocError.{AllocError}
use Rattle.sci_words.specs.declared.event.Event.{Event}
use Rattle.sci_core.specs.declared.fault.ApplyFault.{ApplyFault, TheVariants.{Memory}}
use Rattle.sci_core.specs.{Core.{Core, run_from, stepping}, Fault.{IsFaultOf}, Stopped.{IsStoppedAt}}

pub stopped : (old now new : Core) (events : List Event) (i : ℕ) (d : Event) (fault : ApplyFault) (refused : AllocError) → i < length events
    → now ≡ run_from old (take i events) → new ≡ now
    → IsFaultOf (stepping now (get_or events i d)) (get_or events i d) fault → fault ≡ Memory refused → IsStoppedAt old new events
stopped old now new events i d fault refused below stands same is memory = grind (arith, slice_get-get_or)
