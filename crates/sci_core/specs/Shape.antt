-- The shape of a line: its members are one list, in which those that come stand before the one authority, and those that
-- follow behind it; they all have the line's last contents, and know what is fresh.
use Rattle.std.specs.Prelude.{◌≡◌, ◌<◌, ℕ, Bool, true, false, List, [], ◌∷◌, ◌++◌, Option, Some, IfSome, IsSome}
use Rattle.std.specs.List.{AllByRecursion}
use Rattle.sci_words.specs.declared.stamped.Stamped.{Stamped}
use Rattle.sci_packets.specs.declared.body.Body.TheVariants.{Wback, Fdata}
use Rattle.sci_home.specs.{declared.state.HomeState.{HomeState}, Serving.{current_of}}
use Rattle.sci_history.specs.Seen.{IsAmong}
use Rattle.sci_cache.specs.State.{CacheState, FreshJoining, Below, Rolling, contents_of}
use Rattle.sci_cache.specs.{Cache.{line_of}, Kinds.{joins}, Member.{contents_held, is_fresh}}
use Rattle.sci_core.specs.{Core.{Core, node_at}, Sharing.{packets_of, answer_to, settled_at, home_at, last_at}, SharingList.{IsSharingList}}
use Rattle.sci_home.specs.declared.state.HomeState.TheVariants as at

-- ---- members

-- a member that follows another
abbrev pub follows : CacheState → Bool
follows (Below f b c) = true
follows (Rolling f b c) = true
follows _ = false

abbrev pub state_at : Core → ℕ → ℕ → CacheState
state_at core line n = (line_of (node_at core n).cache line).state

abbrev pub is_fresh_at : Core → ℕ → ℕ → Bool
is_fresh_at core line n = is_fresh (settled_at core line n)

abbrev pub AreFresh : Core → ℕ → List ℕ → Type 0
AreFresh core line nodes = AllByRecursion (λ n. is_fresh_at core line n ≡ true) nodes

-- the node that may change the line, or is about to
abbrev pub IsAuthority : Core → ℕ → ℕ → Type 0
IsAuthority core line n = IsSome (contents_held (settled_at core line n))

-- the nodes of a list: those before the authority, the authority, and those after it
pub record IsSplit (core : Core) (line : ℕ) (nodes before : List ℕ) (a : ℕ) (after : List ℕ) : Type 0 where
  pub whole : nodes ≡ before ++ a ∷ after
  pub authority : IsAuthority core line a

-- ---- the clauses, beside that of the list itself

-- one node of the machine, which is in the list, is the authority, and no other is
pub record HasOneAuthority (core : Core) (line : ℕ) (nodes : List ℕ) : Type 0 where
  pub node : ℕ
  pub some : node < core.size.nodes
  pub listed : IsAmong node nodes
  pub authority : IsAuthority core line node
  pub only : (n : ℕ) → IsAuthority core line n → n ≡ node

-- a line that its home has alone has no authority, and any other has exactly one
abbrev pub HasAuthorities : Core → ℕ → List ℕ → HomeState → Type 0
HasAuthorities core line nodes (at.Home c) = (n : ℕ) → IsAuthority core line n → ⊥
HasAuthorities core line nodes (at.Fresh p c) = HasOneAuthority core line nodes
HasAuthorities core line nodes (at.Gone p) = HasOneAuthority core line nodes

-- before the authority stand only members that come, and after it only members that follow
pub record StandInOrder (core : Core) (line : ℕ) (nodes : List ℕ) : Type 0 where
  pub coming : (before after : List ℕ) (a : ℕ) → IsSplit core line nodes before a after → AllByRecursion (λ n. joins (settled_at core line n) ≡ true) before
  pub following : (before after : List ℕ) (a : ℕ) → IsSplit core line nodes before a after → AllByRecursion (λ n. follows (settled_at core line n) ≡ true) after

-- One stamped line: the contents of the authority, of every node after it, of a home that has them, of every Fdata under
-- way, of every node that joins with contents, and of a Wback under way.
pub record HaveContents (core : Core) (line : ℕ) (nodes : List ℕ) (c : Stamped) : Type 0 where
  pub authority : (n : ℕ) → IfSome (contents_held (settled_at core line n)) (λ d. d ≡ c)
  pub following : (before after : List ℕ) (a : ℕ) → IsSplit core line nodes before a after
      → AllByRecursion (λ n. contents_of (settled_at core line n) ≡ Some c) after
  pub home : IfSome (current_of (home_at core line)) (λ d. d ≡ c)
  pub told : (n : ℕ) (p : Option ℕ) (d : Stamped) → answer_to core n line ≡ Some (Fdata p d) → d ≡ c
  pub joining : (n p : ℕ) (sent : Bool) (d : Stamped) → state_at core line n ≡ FreshJoining p sent d → d ≡ c
  pub back : (n : ℕ) → n < core.size.nodes → AllByRecursion (λ letter. (d : Stamped) → letter.body ≡ Wback d → d ≡ c) (packets_of core n line)

abbrev pub is_home_fresh : HomeState → Bool
is_home_fresh (at.Fresh p c) = true
is_home_fresh _ = false

-- if the home is fresh, and below any fresh member that stands before the authority, every member down to the
-- authority is fresh
pub record IsFreshDown (core : Core) (line : ℕ) (nodes : List ℕ) : Type 0 where
  pub home : (before after : List ℕ) (a : ℕ) → IsSplit core line nodes before a after → is_home_fresh (home_at core line) ≡ true
      → AreFresh core line (before ++ a ∷ [])
  pub below : (before middle after : List ℕ) (m a : ℕ) → IsSplit core line nodes (before ++ m ∷ middle) a after → is_fresh_at core line m ≡ true
      → AreFresh core line (middle ++ a ∷ [])

-- if the home's contents are gone, the head of the list isn't fresh
abbrev pub IsGoneStale : Core → ℕ → HomeState → Type 0
IsGoneStale core line (at.Home c) = Unit {0}
IsGoneStale core line (at.Fresh p c) = Unit {0}
IsGoneStale core line (at.Gone p) = is_fresh_at core line p ≡ false

-- ---- the shape

pub record HasShape (core : Core) (line : ℕ) : Type 0 where
  pub nodes : List ℕ
  pub list : IsSharingList core line nodes
  pub authorities : HasAuthorities core line nodes (home_at core line)
  pub order : StandInOrder core line nodes
  pub contents : HaveContents core line nodes (last_at core line)
  pub fresh : IsFreshDown core line nodes
  pub stale : IsGoneStale core line (home_at core line)

abbrev pub HasShapes : Core → Type 0
HasShapes core = (line : ℕ) → line < core.size.lines → HasShape core line
