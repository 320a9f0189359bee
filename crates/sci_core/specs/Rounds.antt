-- A round: a request is asked, served, answered and accepted, while nothing else is under way. And which rounds bring a
-- line to its home.
use Rattle.std.specs.Prelude.{◌≡◌, ◌≢◌, ◌<◌, ◌⊎◌, ◌%◌, ℕ, Bool, true, false, ◌==◌, Option, Some, None}
use Rattle.std.specs.List.{range_with_len, sum_by}
use Rattle.sci_words.specs.declared.event.AskKind.{AskKind}
use Rattle.sci_packets.specs.declared.body.Body.{Body}
use Rattle.sci_home.specs.{declared.state.HomeState.{HomeState}, Serving.{home_serving}}
use Rattle.sci_cache.specs.State.{CacheState, Out, Joining, FreshJoining, Head, FreshHead, Telling}
use Rattle.sci_cache.specs.{Asking.{Asked, asking}, Accepting.{accepting}, Serving.{serving}}
use Rattle.sci_core.specs.{declared.settle.Wanted.{Wanted, TheVariants.{Teller, Leader, Joiner}}, Core.{Core, node_at}}
use Rattle.sci_core.specs.{Shape.{state_at}, Sharing.{home_at}}
use Rattle.sci_words.specs.declared.event.AskKind.TheVariants as kind

-- ---- rounds

-- who serves a request: the line's home, or the cache that is named
abbrev pub server_of : Core → ℕ → Option ℕ → ℕ
server_of core line None = line % core.size.nodes
server_of core line (Some node) = node

-- the home answers, and the cache beside it stays as it is; or the cache answers, and becomes another
pub data IsServed (core : Core) (n line : ℕ) (request : Body) (old new : CacheState) (answer : Body) : Type 0 where
  At_home : (home : HomeState) → home_serving (home_at core line) n request ≡ Some (home, answer) → new ≡ old → IsServed core n line request old new answer
  In_cache : serving old n request ≡ Some (new, answer) → IsServed core n line request old new answer

-- what node n asks about a line is answered, and the node takes the answer; no other state changes but the server's, and no
-- operation is performed
pub record IsRepliedTo (core new : Core) (n line : ℕ) (asked : Asked) : Type 0 where
  pub server : ℕ
  pub to : server ≡ server_of core line asked.to
  -- the server's state as it serves, and after it; the asker may be the server
  pub old : CacheState
  pub itself : server ≡ n → old ≡ asked.next
  pub another : server ≢ n → old ≡ state_at core line server
  pub served : CacheState
  pub answer : Body
  pub serves : IsServed core n line asked.request old served answer
  -- the asker's state as it takes the answer, and after it
  pub taker : CacheState
  pub taker_itself : server ≡ n → taker ≡ served
  pub taker_another : server ≢ n → taker ≡ asked.next
  pub final : CacheState
  pub accepts : accepting taker answer ≡ Some final
  pub asker : state_at new line n ≡ final
  pub then_ : server ≢ n → state_at new line server ≡ served
  pub others : (m k : ℕ) → (k ≡ line → (m ≡ n) ⊎ (m ≡ server) → ⊥) → state_at new k m ≡ state_at core k m
  pub pending : (m : ℕ) → (node_at new m).pending ≡ (node_at core m).pending
  pub size : new.size ≡ core.size

-- node n asks about a line, and is answered
pub record IsRound (core new : Core) (n line : ℕ) (ask : AskKind) : Type 0 where
  pub asked : Asked
  pub asks : asking (state_at core line n) ask ≡ Some asked
  pub answered : IsRepliedTo core new n line asked

-- ---- which round is next

abbrev pub is_telling : CacheState → Bool
is_telling (Telling r w sent) = true
is_telling _ = false

abbrev pub is_head : CacheState → Bool
is_head (Head f c) = true
is_head (FreshHead f c) = true
is_head _ = false

-- whether it is to join before node a
abbrev pub joins_before : CacheState → ℕ → Bool
joins_before (Joining p sent) a = p == a
joins_before (FreshJoining p sent c) a = p == a
joins_before _ a = false

abbrev pub is_wanted : Wanted → CacheState → Bool
is_wanted Teller state = is_telling state
is_wanted Leader state = is_head state
is_wanted (Joiner before) state = joins_before state before

-- how the head of a list with nobody before it gets rid of the next entry, or leaves
abbrev pub parting : CacheState → AskKind
parting (Head (Some q) c) = kind.Purge
parting (FreshHead (Some q) c) = kind.Claim
parting (FreshHead None c) = kind.Clear
parting _ = kind.Wback

-- A node that has to tell another tells it; else the member before the head joins; else the head purges, claims, clears or
-- writes back.
pub data IsNext (core : Core) (line n : ℕ) (ask : AskKind) : Type 0 where
  Tells : is_telling (state_at core line n) ≡ true → ask ≡ kind.Setback → IsNext core line n ask
  Joins : (a : ℕ) → is_head (state_at core line a) ≡ true → joins_before (state_at core line n) a ≡ true → ask ≡ kind.Cread → IsNext core line n ask
  Parts : is_head (state_at core line n) ≡ true → ((m : ℕ) → m < core.size.nodes → joins_before (state_at core line m) n ≡ false)
      → ask ≡ parting (state_at core line n) → IsNext core line n ask

-- ---- how many rounds are left

abbrev pub entry_rank : CacheState → ℕ
entry_rank Out = 0
entry_rank (Joining p sent) = 2
entry_rank (FreshJoining p sent c) = 2
entry_rank (FreshHead f c) = 2
entry_rank _ = 1

-- at most this many, of all lines in all nodes
abbrev pub rank : Core → ℕ
rank core = sum_by (λ n. sum_by (λ line. entry_rank (state_at core line n)) (range_with_len 0 core.size.lines)) (range_with_len 0 core.size.nodes)

-- no cache has an entry
abbrev pub AreOut : Core → Type 0
AreOut core = (line n : ℕ) → state_at core line n ≡ Out
