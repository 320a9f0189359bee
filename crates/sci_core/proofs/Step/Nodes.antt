-- That the parts of a node stay together.
use Rattle.std.proofs.Common.{◌≡◌, ℕ, ◌+◌, ◌/◌, ◌<◌, Some, None, Option, List, [], ◌∷◌, ◌++◌, length, get_or, set, ◌∙◌, arith}
use Rattle.std.proofs.lemmas.List.Folds.{sum_by-replicate}
use Rattle.std.proofs.lemmas.List.{length-replicate, get_or-replicate, length-set, get_or-set_same, get_or-set_other, get_or_past, length_push}
use Rattle.std.proofs.lemmas.{List.Sums.{sum_by-set}, Bool.{cases_eq, cases_lt, and_parts, ltb-true, not-true}}
use Rattle.std.proofs.{lemmas.Nat.{le-div}, Math.Nat.{div-mul-le_self}}
use Rattle.std.specs.Prelude.{IfSome, true}
use Rattle.sci_words.specs.declared.{extent.Extent.{Extent}, operation.Op.{Op}}
use Rattle.sci_history.specs.declared.entry.Entry.{Entry}
use Rattle.sci_home.specs.declared.state.HomeState.{HomeState}
use Rattle.sci_cache.specs.Cache.{CacheOf, Letter}
use Rattle.sci_core.specs.declared.pending.Pending.{Pending}
use Rattle.sci_core.specs.Node.{NodeOf, IsNode, IsPendingOn, pending_on, lines_of, may_issue, node_issued, opening_node}
use Rattle.sci_core.specs.{Inside.{FitsInside}, Size.{Size}}
use Rattle.sci_core.proofs.Step.Caches.{SameSizes}

pub fits_kept : (number : ℕ) (extent : Extent) (old new : CacheOf) (space limit : ℕ) → SameSizes old new → FitsInside number extent old space limit
    → FitsInside number extent new space limit
fits_kept number extent old new space limit same fits = grind arith

-- another cache of the same sizes
pub node_with_cache : (node : NodeOf) (cache : CacheOf) → SameSizes node.cache cache → IsNode node → IsNode (record node { cache = cache })
node_with_cache node cache same is = grind arith

-- an answer waits, or none
pub node_with_waiting : (node : NodeOf) (waiting : Option Letter) → IsNode node → IsNode (record node { waiting = waiting })
node_with_waiting node waiting is =
    record { homes = is.homes; some_node = is.some_node; pending = is.pending; each = is.each; logged = is.logged; issued = is.issued }

-- a home in another state
pub node_with_homes : (node : NodeOf) (homes : List HomeState) → length homes ≡ length node.homes → IsNode node → IsNode (record node { homes = homes })
node_with_homes node homes same is =
    record { homes = same ∙ is.homes; some_node = is.some_node; pending = is.pending; each = is.each; logged = is.logged; issued = is.issued }

-- if something is pending, there is such a line
pub some_below : (pending : List (Option Pending)) (line : ℕ) (p : Pending) → get_or pending line None ≡ Some p → line < length pending
some_below pending line p e = grind (arith, cases_lt, get_or_past)

-- an operation is performed: it is no longer pending, and its entry ends the log
pub node_with_entry : (node : NodeOf) (line : ℕ) (p : Pending) (cache : CacheOf) (entry : Entry) → SameSizes node.cache cache → pending_on node line ≡ Some p
    → IsNode node
    → IsNode (record node { cache = cache; pending = set node.pending line None; log = node.log ++ entry ∷ [] })
node_with_entry node line p cache entry same at is =
    grind (arith, some_below, sum_by-set, length_push, length-set, cases_eq, get_or-set_same, get_or-set_other)

-- the home of a line stands among the homes
pub home_below : (node : NodeOf) (line : ℕ) → line < lines_of node → IsNode node → line / node.cache.nodes < length node.homes
home_below node line below is = grind (arith, le-div, div-mul-le_self)

weaker_serial : (issued line : ℕ) (pending : Option Pending) → IfSome pending (IsPendingOn issued line) → IfSome pending (IsPendingOn (issued + 1) line)
weaker_serial issued line None h = tt
weaker_serial issued line (Some p) h = let serial = h.serial in record { here = h.here; word = h.word; words = h.words; serial = omega arith }

-- an operation is issued: it is pending, with the next serial
pub node_with_issue : (node : NodeOf) (op : Op) → may_issue node op ≡ true → IsNode node → IsNode (node_issued node op)
node_with_issue node op may is =
    grind (arith, and_parts, ltb-true, sum_by-set, not-true, length-set, cases_eq, get_or-set_same, get_or-set_other, weaker_serial)

pub opening_is_node : (me : ℕ) (size : Size) → 0 < size.nodes → IsNode (opening_node me size)
opening_is_node me size some = grind (arith, length-replicate, cases_lt, get_or-replicate, get_or_past, sum_by-replicate)
