-- A node of a reached state can go on.
use Rattle.std.proofs.Common.{◌≡◌, ℕ, true, false, arith, rules}
use Rattle.sci_cache.specs.{State.{CacheState, Joining, FreshJoining, Telling, is_out, waits}, Cache.{line_of}}
use Rattle.sci_core.specs.{GoingOn.{CanGoOn, goes_on}, Node.{NodeOf}, Reached.{IsReachableNode}}
use Rattle.sci_core.proofs.WellFormed.WellFormedSteps.{any_part}

entry_goes_on : (state : CacheState) → is_out state ≡ false → waits state ≡ false → goes_on state ≡ true
entry_goes_on (Joining p false) entry idle = search rules
entry_goes_on (FreshJoining p false c) entry idle = search rules
entry_goes_on (Telling r w false) entry idle = search rules
entry_goes_on _ entry idle = search rules

pub any_can_go_on : (n : ℕ) (node : NodeOf) → IsReachableNode n node → CanGoOn node
any_can_go_on n node is =
    let part = any_part n node is in
    let slots = part.room in
    let some = is.reached.size.has_slot in
    record { some_slot = omega arith; few = part.few; entries = λ line. entry_goes_on (line_of node.cache line).state }
