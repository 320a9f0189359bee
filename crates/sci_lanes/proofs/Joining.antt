-- Joining the ends, one after another in the order of their nodes.
use Rattle.std.proofs.Common.{◌≡◌, ℕ, zero, suc, ◌+◌, ◌<◌, ◌≤◌, ◌⊎◌, inl, inr, List, [], ◌∷◌, ◌++◌, length, get_or, Some, refl, sym, ap, subst, ◌∙◌, arith}
use Rattle.std.proofs.{Common.{map}, lemmas.{Bool.{cases_lt}, List.{length_push, get_or_append_left, get_or_push}}}
use Rattle.std.specs.{Prelude.{Vec, slice_get}, List.{remove}}
use Rattle.atomic_table.specs.Seated.{TableId}
use Rattle.sci_core.specs.Node.{NodeOf, no_node}
use Rattle.sci_lanes.specs.{declared.view.Part.{Part}, Shown.{me_of}, Telling.{no_part}, Ends.{EndOf, nodes_in}}
use Rattle.sci_lanes.specs.Gathering.{HasEndOf, HasTurns, IsJoinedAt, AreJoined, AreKept}
use Rattle.sci_core.proofs.Basics.Options.{same_some}

-- ---- a list with one element less

-- what is left came from the list
from_left : {A : Type 0} (xs : List A) (p j : ℕ) (y : A) → slice_get (remove xs p) j ≡ Some y → (k : ℕ) × (slice_get xs k ≡ Some y)
from_left [] zero j y e = cc
from_left [] (suc p) j y e = cc
from_left (x ∷ xs) zero j y e = (suc j, e)
from_left (x ∷ xs) (suc p) zero y e = (zero, e)
from_left (x ∷ xs) (suc p) (suc j) y e = let h = from_left xs p j y e in (suc h.0, h.1)

-- an element of the list is the one that was taken out, or is left
is_left : {A : Type 0} (xs : List A) (p k : ℕ) (x y : A) → slice_get xs p ≡ Some x → slice_get xs k ≡ Some y
    → (x ≡ y) ⊎ ((j : ℕ) × (slice_get (remove xs p) j ≡ Some y))
is_left [] p k x y e f = cc
is_left (z ∷ xs) zero zero x y e f = inl (same_some x y (sym e ∙ f))
is_left (z ∷ xs) zero (suc k) x y e f = inr (k, f)
is_left (z ∷ xs) (suc p) zero x y e f = inr (zero, f)
is_left (z ∷ xs) (suc p) (suc k) x y e f = elim (is_left xs p k x y e f) [ inl h ↦ inl h | inr h ↦ inr (suc h.0, h.1) ]

one_less : {A : Type 0} (xs : List A) (p : ℕ) (x : A) → slice_get xs p ≡ Some x → length (remove xs p) + 1 ≡ length xs
one_less [] p x e = cc
one_less (z ∷ xs) zero x e = omega arith
one_less (z ∷ xs) (suc p) x e = let less = one_less xs p x e in omega arith

-- ---- what a list's elements have

-- the element of a list at a place has what is there in the list of what they have
pub mapped_at : {A B : Type 0} (f : A → B) (xs : List A) (k : ℕ) (x : A) (y : B) → x ≡ get_or xs k x → slice_get (map f xs) k ≡ Some y → f x ≡ y
mapped_at f [] k x y e h = cc
mapped_at f (z ∷ xs) zero x y e h = same_some (f x) y (ap (λ w. Some (f w)) e ∙ h)
mapped_at f (z ∷ xs) (suc k) x y e h = mapped_at f xs k x y e h

pub mapped_less : {A B : Type 0} (f : A → B) (xs : List A) (p : ℕ) → map f (remove xs p) ≡ remove (map f xs) p
mapped_less f [] zero = refl
mapped_less f [] (suc p) = refl
mapped_less f (x ∷ xs) zero = refl
mapped_less f (x ∷ xs) (suc p) = ap (λ ys. f x ∷ ys) (mapped_less f xs p)

-- ---- joined so far

module _ {Z : Type 0} where
  -- the first nodes are joined, and the ends of the others are left
  pub record AreJoining (table : TableId) (all count : ℕ) (ends left : List EndOf) (parts : List Part) (nodes : List NodeOf)
      (inbox_turns : List (Vec ℕ Z)) : Type 0 where
    pub joined : AreJoined all count parts nodes inbox_turns
    pub kept : AreKept ends left parts
    pub rest : length left + count ≡ all
    pub every : (n : ℕ) → count ≤ n → n < all → HasEndOf left n
    pub own : (place : ℕ) (end : EndOf) → slice_get left place ≡ Some end → (end.table ≡ table) × (nodes_in end.part ≡ all)

  module _ (table : TableId) (all count : ℕ) (ends left : List EndOf) (parts : List Part) (nodes : List NodeOf) (inbox_turns : List (Vec ℕ Z)) (place : ℕ)
      (end : EndOf) (node : NodeOf) (turns : Vec ℕ Z)
      (j : AreJoining table all count ends left parts nodes inbox_turns) (there : slice_get left place ≡ Some end) (numbered : me_of end.part ≡ count)
      (node_is : node ≡ end.part.node) (takes : HasTurns (nodes_in end.part) end.part turns.items) where
    at_new : (n : ℕ) → n < count + 1 → IsJoinedAt all (parts ++ end.part ∷ []) (nodes ++ node ∷ []) (inbox_turns ++ turns ∷ []) n
    at_new n lt = elim (cases_lt n count) [
      | inl less ↦ (
          let was = j.joined.each n less in
          let p : get_or (parts ++ end.part ∷ []) n no_part ≡ get_or parts n no_part =
          get_or_append_left parts (end.part ∷ []) no_part n (let long = j.joined.parts_long in omega arith) in
          let q : get_or (nodes ++ node ∷ []) n no_node ≡ get_or nodes n no_node =
          get_or_append_left nodes (node ∷ []) no_node n (let long = j.joined.nodes_long in omega arith) in
          record {
            numbered = ap me_of p ∙ was.numbered;
            node = q ∙ (was.node ∙ ap (λ (x : Part). x.node) (sym p));
            turns = λ v is. subst (λ (x : Part). HasTurns all x v.items) (sym p)
                (was.turns v (is ∙ get_or_append_left inbox_turns (turns ∷ []) v n (let long = j.joined.inbox_turns_long in omega arith)));
          })
      | inr le ↦ (
          let same : n ≡ count = omega arith in
          let p : get_or (parts ++ end.part ∷ []) n no_part ≡ end.part = get_or_push parts end.part no_part n (j.joined.parts_long ∙ sym same) in
          let q : get_or (nodes ++ node ∷ []) n no_node ≡ node = get_or_push nodes node no_node n (j.joined.nodes_long ∙ sym same) in
          record {
            numbered = ap me_of p ∙ (numbered ∙ sym same);
            node = q ∙ (node_is ∙ ap (λ (x : Part). x.node) (sym p));
            turns = λ v is. subst (λ (x : Part). HasTurns all x v.items) (sym p)
                (subst (λ (w : Vec ℕ Z). HasTurns all end.part w.items) (sym (is ∙ get_or_push inbox_turns turns v n (j.joined.inbox_turns_long ∙ sym same)))
                (subst (λ (m : ℕ). HasTurns m end.part turns.items) (j.own place end there).1 takes));
          })
    ]

    kept_new : AreKept ends (remove left place) (parts ++ end.part ∷ [])
    kept_new k e is =
        let long = j.joined.parts_long in
        let pushed : length (parts ++ end.part ∷ []) ≡ length parts + 1 = length_push parts end.part in
        elim (j.kept k e is) [
          | inl still ↦ elim (is_left left place still.0 end e there still.1) [
            | inl same ↦ (
                let me : me_of e.part ≡ count = ap (λ (x : EndOf). me_of x.part) (sym same) ∙ numbered in
                inr (omega arith, get_or_push parts end.part no_part (me_of e.part) (long ∙ sym me) ∙ ap (λ (x : EndOf). x.part) same))
            | inr more ↦ inl more
          ]
          | inr joined ↦ inr (omega (arith, joined.0, pushed), get_or_append_left parts (end.part ∷ []) no_part (me_of e.part) joined.0 ∙ joined.1)
        ]

    pub one_joined : AreJoining table all (count + 1) ends (remove left place) (parts ++ end.part ∷ []) (nodes ++ node ∷ []) (inbox_turns ++ turns ∷ [])
    one_joined = record {
      joined = record {
        parts_long = length_push parts end.part ∙ ap (λ (n : ℕ). n + 1) j.joined.parts_long;
        nodes_long = length_push nodes node ∙ ap (λ (n : ℕ). n + 1) j.joined.nodes_long;
        inbox_turns_long = length_push inbox_turns turns ∙ ap (λ (n : ℕ). n + 1) j.joined.inbox_turns_long;
        each = at_new;
      };
      kept = kept_new;
      rest = (let less = one_less left place end there in let rest = j.rest in omega arith);
      every = λ n le lt. (
          let h = j.every n (omega arith) lt in
          elim (is_left left place h.place end h.end there h.there) [
            | inl same ↦ absurd (let a = numbered in let b = h.numbered in let c = ap (λ (x : EndOf). me_of x.part) same in omega arith)
            | inr more ↦ record { place = more.0; end = h.end; there = more.1; numbered = h.numbered }
          ]);
      own = λ k e is. (let from = from_left left place k e is in j.own from.0 e from.1);
    }
