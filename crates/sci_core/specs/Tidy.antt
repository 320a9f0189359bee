-- Who waits has one packet under way, and nobody else has one.
use Rattle.std.specs.Prelude.{◌≡◌, ◌<◌, ◌%◌, ◌⊎◌, ℕ, true, false, List, [], ◌∷◌, Option, IfSome, IsSome}
use Rattle.sci_packets.specs.declared.body.Body.{Body}
use Rattle.sci_packets.specs.declared.body.Body.TheVariants.{Mread, Fread, Cread, Purge, Roll, Wback, Setback, Claim, Clear}
use Rattle.sci_packets.specs.Table.{is_request}
use Rattle.sci_cache.specs.State.{CacheState, Asking, Joining, FreshJoining, Purging, Claiming, Clearing, Returning, Rolling, Telling, Fading, waits}
use Rattle.sci_cache.specs.{Accepting.{accepting}, Line.{LineState, last_control}, Cache.{Letter, line_of}}
use Rattle.sci_core.specs.{Core.{Core, node_at}, Sharing.{packets_of, answer_to}}

-- The request is the one that the state sent, with the identifiers and the contents that the state has. That of a node
-- that leaves may have gone to an entry that was before it.
abbrev pub IsSentIn : ℕ → CacheState → Letter → Type 0
IsSentIn home Asking letter = ((letter.body ≡ Mread) ⊎ (letter.body ≡ Fread)) × (letter.target ≡ home)
IsSentIn home (Joining p true) letter = (letter.body ≡ Cread) × (letter.target ≡ p)
IsSentIn home (FreshJoining p true c) letter = (letter.body ≡ Cread) × (letter.target ≡ p)
IsSentIn home (Purging q c) letter = (letter.body ≡ Purge) × (letter.target ≡ q)
IsSentIn home (Claiming f c) letter = (letter.body ≡ Claim) × (letter.target ≡ home)
IsSentIn home (Clearing c) letter = (letter.body ≡ Clear) × (letter.target ≡ home)
IsSentIn home (Returning c) letter = (letter.body ≡ Wback c) × (letter.target ≡ home)
IsSentIn home (Rolling f b c) letter = letter.body ≡ Roll f
IsSentIn home (Telling r w true) letter = (letter.body ≡ Setback w) × (letter.target ≡ r)
IsSentIn home Fading letter = (f : Option ℕ) × (letter.body ≡ Roll f)
IsSentIn home state letter = ⊥

-- the packet that a waiting line has under way: a request that its state sent, or an answer, with the control number
-- of its last ask
pub record IsAwaited (home : ℕ) (line : LineState) (letter : Letter) : Type 0 where
  pub waiting : waits line.state ≡ true
  pub numbered : letter.control ≡ last_control line
  pub sent : is_request letter.body ≡ true → IsSentIn home line.state letter

abbrev pub HasItsPackets : ℕ → LineState → List Letter → Type 0
HasItsPackets home line [] = waits line.state ≡ false
HasItsPackets home line (letter ∷ []) = IsAwaited home line letter
HasItsPackets home line (letter ∷ another ∷ letters) = ⊥

-- for each node and line: exactly one packet of its asks is under way if it waits, and none if it doesn't
abbrev pub IsTidy : Core → Type 0
IsTidy core = (n line : ℕ) → n < core.size.nodes → line < core.size.lines
    → HasItsPackets (line % core.size.nodes) (line_of (node_at core n).cache line) (packets_of core n line)

-- an answer that is under way is one that the state accepts
abbrev pub IsAccepted : CacheState → Option Body → Type 0
IsAccepted state answer = IfSome answer (λ body. IsSome (accepting state body))

-- no answer comes that its taker doesn't await
abbrev pub AreAccepted : Core → Type 0
AreAccepted core = (n line : ℕ) → line < core.size.lines → IsAccepted (line_of (node_at core n).cache line).state (answer_to core n line)
