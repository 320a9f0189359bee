-- The authority of a line stands in its list. A line in whose list none stands is its home's alone.
use Rattle.std.proofs.Common.{◌≡◌, ◌<◌, ℕ, List, [], ◌∷◌, ◌++◌, Option, Some, None, All, refl, sym, subst, ◌∙◌, inl, inr, arith}
use Rattle.std.proofs.lemmas.List.Elements.{All-nil, All-push, recursion_from_All}
use Rattle.std.specs.{Prelude.{IfSome, IsSome}, List.{AllByRecursion}}
use Rattle.sci_words.specs.declared.stamped.Stamped.{Stamped}
use Rattle.sci_history.specs.Seen.{IsAmong}
use Rattle.sci_home.specs.{declared.state.HomeState.{HomeState}, Serving.{current_of, head_of}}
use Rattle.sci_core.specs.{Core.{Core}, declared.sharing_list.Authority.{Authority}}
use Rattle.sci_core.specs.Sharing.{home_at, last_at, settled_at}
use Rattle.sci_core.specs.Shape.{HasAuthorities, HasOneAuthority, HasShape, IsAuthority}
use Rattle.sci_core.specs.SharingList.{IsSharingList, LinkedFrom, link_at}
use Rattle.sci_core.proofs.Shape.Chains.{linked_has}
use Rattle.sci_cache.specs.Member.{contents_held}
use Rattle.sci_home.specs.declared.state.HomeState.TheVariants as at

abbrev HasNone : Core → ℕ → ℕ → Type 0
HasNone core line n = contents_held (settled_at core line n) ≡ None

among_all : (P : ℕ → Type 0) (xs : List ℕ) (x : ℕ) → AllByRecursion P xs → IsAmong x xs → P x
among_all P [] x all h = absurd h
among_all P (y ∷ ys) x all (inl e) = subst P (sym e) all.0
among_all P (y ∷ ys) x all (inr h) = among_all P ys x all.1 h

not_both : (contents : Option Stamped) → IsSome contents → contents ≡ None → ⊥
not_both None some none = cc
not_both (Some c) some none = cc

some_is : (contents : Option Stamped) (c : Stamped) → contents ≡ Some c → IsSome contents
some_is None c is = absurd (cc)
some_is (Some d) c is = refl

pub is_authority : (core : Core) (line n : ℕ) (c : Stamped) → contents_held (settled_at core line n) ≡ Some c → IsAuthority core line n
is_authority core line n c is = some_is (contents_held (settled_at core line n)) c is

-- the authority has the last contents
same_contents : (contents : Option Stamped) (c last : Stamped) → IfSome contents (λ d. d ≡ last) → contents ≡ Some c → c ≡ last
same_contents None c last if is = absurd (cc)
same_contents (Some d) c last if is = cc

pub has_last : (core : Core) (line n : ℕ) (c : Stamped) → HasShape core line → contents_held (settled_at core line n) ≡ Some c → c ≡ last_at core line
has_last core line n c shape is = same_contents (contents_held (settled_at core line n)) c (last_at core line) (shape.contents.authority n) is

-- one authority of a list would stand in every list of the line
one_is_listed : (core : Core) (line : ℕ) (nodes listed : List ℕ) → LinkedFrom (link_at core line) (head_of (home_at core line)) listed
    → HasOneAuthority core line listed → IsSharingList core line nodes → All (HasNone core line) nodes → ⊥
one_is_listed core line nodes listed linked one list none =
    let link = linked_has (link_at core line) (head_of (home_at core line)) listed one.node linked one.listed in
    let among = list.all one.node link.0 link.1 in
    not_both (contents_held (settled_at core line one.node)) one.authority
    (among_all (HasNone core line) nodes one.node (recursion_from_All (HasNone core line) nodes none) among)

-- if no authority stands in the list, there is none, and the home has the contents
none_if : (core : Core) (line : ℕ) (nodes listed : List ℕ) (home : HomeState) → LinkedFrom (link_at core line) (head_of (home_at core line)) listed
    → HasAuthorities core line listed home → IsSharingList core line nodes → All (HasNone core line) nodes
    → ((n : ℕ) → IsAuthority core line n → ⊥) × (current_of home ≡ None → ⊥)
none_if core line nodes listed (at.Home c) linked may list none = (may, λ (no : Some c ≡ None). cc)
none_if core line nodes listed (at.Fresh p c) linked one list none = absurd (one_is_listed core line nodes listed linked one list none)
none_if core line nodes listed (at.Gone p) linked one list none = absurd (one_is_listed core line nodes listed linked one list none)

pub none_may_change : (core : Core) (line : ℕ) (nodes : List ℕ) → HasShape core line → IsSharingList core line nodes → All (HasNone core line) nodes
    → ((n : ℕ) → IsAuthority core line n → ⊥) × (current_of (home_at core line) ≡ None → ⊥)
none_may_change core line nodes shape list none = none_if core line nodes shape.nodes (home_at core line) shape.list.linked shape.authorities list none

-- ---- the walk for it

-- the authority among the nodes so far, or none
pub record Sought (core : Core) (line : ℕ) (nodes : List ℕ) (found : Option Authority) : Type 0 where
  pub below : IfSome found (λ at. at.node < core.size.nodes)
  pub has : IfSome found (λ at. contents_held (settled_at core line at.node) ≡ Some at.contents)
  pub none : found ≡ None → All (HasNone core line) nodes

pub sought_first : (core : Core) (line : ℕ) → Sought core line [] None
sought_first core line = record { below = tt; has = tt; none = λ e. All-nil (HasNone core line) }

found_here : (core : Core) (line node : ℕ) (nodes : List ℕ) (result : Option Authority) (c : Stamped) → node < core.size.nodes
    → Some c ≡ contents_held (settled_at core line node)
    → IfSome result (λ at. (at.node ≡ node) × (at.contents ≡ c)) → IsSome result → Sought core line nodes result
found_here core line node nodes None c lt is here some = absurd (cc)
found_here core line node nodes (Some at) c lt is here some = grind arith

-- one node more
pub sought_more : (core : Core) (line node : ℕ) (nodes : List ℕ) (found result : Option Authority) (contents : Option Stamped) → Sought core line nodes found
    → node < core.size.nodes → contents ≡ contents_held (settled_at core line node)
    → IfSome contents (λ c. IfSome result (λ at. (at.node ≡ node) × (at.contents ≡ c)) × IsSome result) → (contents ≡ None → result ≡ found)
    → Sought core line (nodes ++ node ∷ []) result
sought_more core line node nodes found result None was lt is here before =
    let same = before refl in record {
      below = subst (λ (o : Option Authority). IfSome o (λ at. at.node < core.size.nodes)) (sym same) was.below;
      has = subst (λ (o : Option Authority). IfSome o (λ at. contents_held (settled_at core line at.node) ≡ Some at.contents)) (sym same) was.has;
      none = λ e. All-push (HasNone core line) nodes node (was.none (sym same ∙ e)) (sym is);
    }
sought_more core line node nodes found result (Some c) was lt is here before = found_here core line node (nodes ++ node ∷ []) result c lt is here.0 here.1
