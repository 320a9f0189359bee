-- The sharing list of a line, from the home's head along the links of its members.
use Rattle.std.specs.Prelude.{◌≡◌, ℕ, List, [], ◌∷◌, Option, Some, None}
use Rattle.sci_history.specs.Seen.{IsAmong}
use Rattle.sci_cache.specs.Member.{link_of}
use Rattle.sci_home.specs.Serving.{head_of}
use Rattle.sci_core.specs.{Core.{Core}, Sharing.{settled_at, home_at}}

-- ---- lists along links

-- no node stands twice
abbrev pub IsOnce : List ℕ → Type 0
IsOnce [] = Unit {0}
IsOnce (n ∷ ns) = (IsAmong n ns → ⊥) × IsOnce ns

-- the nodes stand one behind another along the links, from the first; the last one has none behind it
abbrev pub LinkedFrom : (ℕ → Option (Option ℕ)) → Option ℕ → List ℕ → Type 0
LinkedFrom link first [] = first ≡ None
LinkedFrom link first (n ∷ ns) = (first ≡ Some n) × ((next : Option ℕ) × (link n ≡ Some next) × LinkedFrom link next ns)

-- the nodes are linked from the first, each stands there once, and they are all nodes that have a link
pub record IsListOf (link : ℕ → Option (Option ℕ)) (first : Option ℕ) (nodes : List ℕ) : Type 0 where
  pub linked : LinkedFrom link first nodes
  pub once : IsOnce nodes
  pub all : (n : ℕ) (next : Option ℕ) → link n ≡ Some next → IsAmong n nodes

-- ---- sharing lists

-- the entry behind node n, or none at the list's end; None if n is no member
abbrev pub link_at : Core → ℕ → ℕ → Option (Option ℕ)
link_at core line n = link_of (settled_at core line n)

-- the list of a line: its members are exactly these nodes, each once, from the home's head along their links; the last
-- one's link is none
abbrev pub IsSharingList : Core → ℕ → List ℕ → Type 0
IsSharingList core line nodes = IsListOf (link_at core line) (head_of (home_at core line)) nodes
