-- A walk along the links of a sharing list, from its head.
use Rattle.std.proofs.Common.{◌≡◌, ℕ, ◌<◌, ◌≤◌, List, [], ◌∷◌, ◌++◌, length, Option, Some, None, true, false, sym, ap, subst, ◌∙◌, append_assoc, arith}
use Rattle.std.proofs.{Common.{inl, inr, length-append}, lemmas.{Bool.{cases_eq, ne_eqb}, List.{append-nil}}}
use Rattle.std.proofs.lemmas.Map.Steps.{length-le_from_distinct_below}
use Rattle.std.specs.List.{AllByRecursion, IsDistinct, list_any}
use lib.Dec.{eqb}
use Rattle.sci_history.specs.Seen.{IsAmong}
use Rattle.sci_home.specs.Serving.{head_of}
use Rattle.sci_core.proofs.Shape.{Chains.{linked_has}, ShapeClauses.{member_below}}
use Rattle.sci_core.specs.{Core.{Core}, Sharing.{home_at}, Shape.{HasShape}, WellFormed.{IsWellFormed}}
use Rattle.sci_core.specs.SharingList.{IsOnce, LinkedFrom, IsListOf, link_at}

-- the nodes so far, and what is left of the list, from the next node on
pub record IsWalked (link : ℕ → Option (Option ℕ)) (first : Option ℕ) (so_far : List ℕ) (next : Option ℕ) : Type 0 where
  pub rest : List ℕ
  pub whole : IsListOf link first (so_far ++ rest)
  pub linked : LinkedFrom link next rest

pub walk_begins : (core : Core) (line : ℕ) → HasShape core line → IsWalked (link_at core line) (head_of (home_at core line)) [] (head_of (home_at core line))
walk_begins core line shape = record { rest = shape.nodes; whole = shape.list; linked = shape.list.linked }

-- at the end of the links the list is whole
ended : (link : ℕ → Option (Option ℕ)) (first : Option ℕ) (so_far rest : List ℕ) → LinkedFrom link None rest → IsListOf link first (so_far ++ rest)
    → IsListOf link first so_far
ended link first so_far [] linked whole = subst (IsListOf link first) (append-nil so_far) whole
ended link first so_far (n ∷ ns) linked whole = let no : None ≡ Some n = linked.0 in absurd (cc)

pub walk_ends : (link : ℕ → Option (Option ℕ)) (first : Option ℕ) (so_far : List ℕ) → IsWalked link first so_far None → IsListOf link first so_far
walk_ends link first so_far walked = ended link first so_far walked.rest walked.linked walked.whole

-- the next node has a link
linked_on : (link : ℕ → Option (Option ℕ)) (n : ℕ) (rest : List ℕ) → LinkedFrom link (Some n) rest → link n ≡ None → ⊥
linked_on link n [] linked none = let no : Some n ≡ None = linked in cc
linked_on link n (m ∷ ms) linked none = grind arith

-- one node more
more : (link : ℕ → Option (Option ℕ)) (first : Option ℕ) (so_far : List ℕ) (n : ℕ) (next : Option ℕ) (rest : List ℕ) → LinkedFrom link (Some n) rest
    → IsListOf link first (so_far ++ rest) → link n ≡ Some next → IsWalked link first (so_far ++ n ∷ []) next
more link first so_far n next [] linked whole is = let no : Some n ≡ None = linked in absurd (cc)
more link first so_far n next (m ∷ ms) linked whole is = grind (arith, append_assoc)

pub walks_more : (link : ℕ → Option (Option ℕ)) (first : Option ℕ) (so_far : List ℕ) (n : ℕ) (next : Option ℕ) → IsWalked link first so_far (Some n)
    → link n ≡ Some next → IsWalked link first (so_far ++ n ∷ []) next
walks_more link first so_far n next walked is = more link first so_far n next walked.rest walked.linked walked.whole is

-- ---- how long a list is

apart : (n : ℕ) (ns : List ℕ) → (IsAmong n ns → ⊥) → AllByRecursion (λ m. eqb n m ≡ false) ns
apart n [] other = tt
apart n (m ∷ ms) other = (ne_eqb n m (λ e. other (inl e)), apart n ms (λ h. other (inr h)))

distinct : (ns : List ℕ) → IsOnce ns → IsDistinct eqb ns
unfolding IsDistinct
distinct [] once = tt
distinct (n ∷ ns) once = (apart n ns once.0, distinct ns once.1)

found : (n : ℕ) (ns : List ℕ) → list_any (eqb n) ns ≡ true → IsAmong n ns
found n [] h = absurd (cc)
found n (m ∷ ms) h =
    elim (cases_eq n m) [
      | inl same ↦ inl same
      | inr other ↦ inr (found n ms (let no : eqb n m ≡ false = ne_eqb n m other in rw no at h))
    ]

-- a list of nodes that are all below a number isn't longer
pub lists_are_short : (link : ℕ → Option (Option ℕ)) (first : Option ℕ) (nodes : List ℕ) (size : ℕ)
    → ((n : ℕ) (next : Option ℕ) → link n ≡ Some next → n < size) → IsListOf link first nodes → length nodes ≤ size
lists_are_short link first nodes size below list =
    length-le_from_distinct_below nodes size (distinct nodes list.once) (λ n h.
    let has = linked_has link first nodes n list.linked (found n nodes h) in below n has.0 has.1)

-- the nodes so far and the next one are no more than the machine's
begun : (link : ℕ → Option (Option ℕ)) (first : Option ℕ) (so_far rest : List ℕ) (n size : ℕ) → ((m : ℕ) (next : Option ℕ) → link m ≡ Some next → m < size)
    → LinkedFrom link (Some n) rest → IsListOf link first (so_far ++ rest) → (length so_far < size) × (n < size)
begun link first so_far [] n size below linked whole = let no : Some n ≡ None = linked in absurd (cc)
begun link first so_far (m ∷ ms) n size below linked whole =
    let same : Some n ≡ Some m = linked.0 in
    let here : m ≡ n = cc in
    let few : length (so_far ++ m ∷ ms) ≤ size = lists_are_short link first (so_far ++ m ∷ ms) size below whole in
    let next : m < size = below m linked.1.0 linked.1.1 in
    (omega (arith, length-append so_far (m ∷ ms)), omega arith)

walk_fits : (core : Core) (line : ℕ) (first : Option ℕ) (so_far : List ℕ) (n : ℕ) → IsWellFormed core → IsWalked (link_at core line) first so_far (Some n)
    → (length so_far < core.size.nodes) × (n < core.size.nodes)
walk_fits core line first so_far n well walked =
    begun (link_at core line) first so_far walked.rest n core.size.nodes (λ m next is. member_below core line m next well is) walked.linked walked.whole

-- after as many steps as there are nodes the list is whole
pub walk_done : (core : Core) (line : ℕ) (first : Option ℕ) (so_far : List ℕ) (next : Option ℕ) → IsWellFormed core → length so_far ≡ core.size.nodes
    → IsWalked (link_at core line) first so_far next → IsListOf (link_at core line) first so_far
walk_done core line first so_far None well long walked = walk_ends (link_at core line) first so_far walked
walk_done core line first so_far (Some n) well long walked = let fits = walk_fits core line first so_far n well walked in
    let less : length so_far < core.size.nodes = fits.0 in absurd (omega arith)

-- the walk at a node that is next, by its number: it is one of the machine's, and a member
pub record IsAt (core : Core) (line : ℕ) (so_far : List ℕ) (n : ℕ) : Type 0 where
  pub walked : IsWalked (link_at core line) (head_of (home_at core line)) so_far (Some n)
  pub below : n < core.size.nodes
  pub goes_on : link_at core line n ≡ None → ⊥

pub walked_at : (core : Core) (line : ℕ) (so_far : List ℕ) (next : Option ℕ) (id n : ℕ) → IsWellFormed core → next ≡ Some id → n ≡ id
    → IsWalked (link_at core line) (head_of (home_at core line)) so_far next → IsAt core line so_far n
walked_at core line so_far next id n well is same walked =
    let first = head_of (home_at core line) in
    let at = subst (IsWalked (link_at core line) first so_far) (is ∙ ap (λ (x : ℕ). let o : Option ℕ = Some x in o) (sym same)) walked in
    record { walked = at; below = (walk_fits core line first so_far n well at).1; goes_on = linked_on (link_at core line) n at.rest at.linked }
