-- One line as all nodes have it, and what becomes of it if one request is served.
use Rattle.std.proofs.Common.{◌≡◌, ◌≢◌, ℕ, false, Option, Some, None}
use Rattle.sci_packets.specs.declared.body.Body.{Body}
use Rattle.sci_cache.specs.{State.{CacheState, waits}, Accepting.{settled}, Member.{link_of}}

-- the states of a line in all nodes, and the answers that are under way to them
pub record View : Type 0 where
  pub state : ℕ → CacheState
  pub answer : ℕ → Option Body

-- the state of node n once the answer that is under way to it has come
abbrev pub settled_in : View → ℕ → CacheState
settled_in view n = settled (view.state n) (view.answer n)

abbrev pub link_in : View → ℕ → Option (Option ℕ)
link_in view n = link_of (settled_in view n)

-- node q, whose next state is given, serves the request of node a, and this answer is under way to it
pub record Shift (old new : View) (a q : ℕ) (next : CacheState) (body : Body) : Type 0 where
  pub unanswered : old.answer a ≡ None
  pub answered : new.answer a ≡ Some body
  pub other_answers : (n : ℕ) → n ≢ a → new.answer n ≡ old.answer n
  pub here : new.state q ≡ next
  pub others : (n : ℕ) → n ≢ q → new.state n ≡ old.state n
  pub idle : waits (old.state q) ≡ false → old.answer q ≡ None
