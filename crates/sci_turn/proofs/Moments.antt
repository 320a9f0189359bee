-- What was so at a moment of a turn that reports nothing.
use Rattle.std.proofs.Common.{◌≡◌, ◌<◌, ℕ, List, [], None, sym, ap, subst, arith}
use Rattle.std.specs.Prelude.{Result, Ok, Err, IfOk, slice_get}
use Rattle.sci_cache.specs.Cache.{Letter}
use Rattle.sci_core.specs.{declared.lane.LaneKind.TheVariants.{Requests}, Size.{Size}}
use Rattle.sci_policy.specs.{Policy.{PolicyOf, decided}, Turn.{decided_event}}
use Rattle.sci_turn.specs.Posts.{IsFront, IsSamePost, IsStill, PostOf, lane_to, node_in, nodes_in}
use Rattle.sci_turn.specs.{Moves.{taken_next, taking_event}, Idle.{WasSo}}
use Rattle.sci_turn.proofs.Stills.{still_itself, still_then}

pub so_now : (P : PostOf → Type 0) (post : PostOf) → P post → WasSo P post post
so_now P post so = record { mid = post; before = still_itself post; after = still_itself post; so = so }

pub so_after : (P : PostOf → Type 0) (old mid new : PostOf) → IsStill old mid → WasSo P mid new → WasSo P old new
so_after P old mid new still was = record { mid = was.mid; before = still_then old mid was.mid still was.before; after = was.after; so = was.so }

pub so_still : (P : PostOf → Type 0) (old mid new : PostOf) → WasSo P old mid → IsStill mid new → WasSo P old new
so_still P old mid new was still = record { mid = was.mid; before = was.before; after = still_then was.mid mid new was.after still; so = was.so }

-- how many nodes there are stays
pub node_stays : (from : ℕ) (old new : PostOf) → IsSamePost old new → from < nodes_in old → from < nodes_in new
node_stays from old new same lt = subst (λ (size : Size). from < size.nodes) (sym same.size) lt

-- ---- no request was taken

pub none_came : (policy : PolicyOf) (from : ℕ) (post : PostOf) → lane_to post Requests from ≡ [] → taken_next policy post.core from post.me ≡ None
none_came policy from post empty = ap (λ (lane : List Letter). taking_event policy (node_in post) from post.me (slice_get lane 0)) empty

-- the event of a request that has come, when no answer waits
pub taken_event : (policy : PolicyOf) (from : ℕ) (post : PostOf) (request : Letter) → IsFront post Requests from request → (node_in post).waiting ≡ None
    → taken_next policy post.core from post.me ≡ decided_event (decided policy (node_in post) request) from post.me
taken_event policy from post request front free = grind arith

pub if_ok_map : {T E : Type 0} (P Q : T → Type 0) (result : Result T E) → ((x : T) → P x → Q x) → IfOk result P → IfOk result Q
if_ok_map P Q (Ok x) map so = map x so
if_ok_map P Q (Err e) map so = tt
