-- Lists of nodes along links: what becomes of one if the links change. Nothing here knows the protocol.
use Rattle.std.proofs.Common.{◌≡◌, ◌≢◌, ℕ, Bool, if◌then◌else◌, List, [], ◌∷◌, Option, Some, None, refl, sym, ap, subst, ◌∙◌, inl, inr, arith}
use Rattle.std.proofs.lemmas.Bool.{cases_eq, eq-eqb, ne_eqb}
use Rattle.std.specs.Prelude.{◌==◌}
use Rattle.sci_history.specs.Seen.{IsAmong}
use Rattle.sci_core.specs.SharingList.{IsOnce, LinkedFrom, IsListOf}

-- ---- lists

pub without : ℕ → List ℕ → List ℕ
without y [] = []
without y (n ∷ ns) = if n == y then without y ns else n ∷ without y ns

pub without_this : (y n : ℕ) (ns : List ℕ) → n ≡ y → without y (n ∷ ns) ≡ without y ns
unfolding without
without_this y n ns e = ap (λ (b : Bool). if b then without y ns else n ∷ without y ns) (eq-eqb n y e)

pub without_other : (y n : ℕ) (ns : List ℕ) → n ≢ y → without y (n ∷ ns) ≡ n ∷ without y ns
unfolding without
without_other y n ns ne = ap (λ (b : Bool). if b then without y ns else n ∷ without y ns) (ne_eqb n y ne)

pub without_nil : (y : ℕ) → without y [] ≡ []
unfolding without
without_nil y = refl

-- nothing is taken out if it isn't there
without_absent : (y : ℕ) (ns : List ℕ) → (IsAmong y ns → ⊥) → without y ns ≡ ns
unfolding without
without_absent y [] not = refl
without_absent y (n ∷ ns) not =
    without_other y n ns (λ e. not (inl (sym e))) ∙ ap (λ (xs : List ℕ). n ∷ xs) (without_absent y ns (λ h. not (inr h)))

pub in_without : (y m : ℕ) (ns : List ℕ) → m ≢ y → IsAmong m ns → IsAmong m (without y ns)
unfolding without
in_without y m [] ne h = elim h [ ]
in_without y m (n ∷ ns) ne (inl e) = subst (IsAmong m) (sym (without_other y n ns (λ same. ne (e ∙ same)))) (inl e)
in_without y m (n ∷ ns) ne (inr h) =
    elim (cases_eq n y) [
      | inl same ↦ subst (IsAmong m) (sym (without_this y n ns same)) (in_without y m ns ne h)
      | inr other ↦ subst (IsAmong m) (sym (without_other y n ns other)) (inr (in_without y m ns ne h))
    ]

front_or_behind : (y m n : ℕ) (ns : List ℕ) → n ≢ y → IsAmong m (n ∷ ns) → (IsAmong m ns → m ≢ y) → m ≢ y
front_or_behind y m n ns other (inl e) f = λ same. other (sym e ∙ same)
front_or_behind y m n ns other (inr h) f = f h

pub not_in_without : (y m : ℕ) (ns : List ℕ) → IsAmong m (without y ns) → m ≢ y
unfolding without
not_in_without y m [] h = elim h [ ]
not_in_without y m (n ∷ ns) h =
    elim (cases_eq n y) [
      | inl same ↦ not_in_without y m ns (subst (IsAmong m) (without_this y n ns same) h)
      | inr other ↦ front_or_behind y m n (without y ns) other (subst (IsAmong m) (without_other y n ns other) h) (not_in_without y m ns)
    ]

either_in : (m n : ℕ) (xs ys : List ℕ) → IsAmong m (n ∷ xs) → (IsAmong m xs → IsAmong m ys) → IsAmong m (n ∷ ys)
either_in m n xs ys (inl e) f = inl e
either_in m n xs ys (inr h) f = inr (f h)

pub in_whole : (y m : ℕ) (ns : List ℕ) → IsAmong m (without y ns) → IsAmong m ns
unfolding without
in_whole y m [] h = h
in_whole y m (n ∷ ns) h =
    elim (cases_eq n y) [
      | inl same ↦ inr (in_whole y m ns (subst (IsAmong m) (without_this y n ns same) h))
      | inr other ↦ either_in m n (without y ns) ns (subst (IsAmong m) (without_other y n ns other) h) (in_whole y m ns)
    ]

once_without : (y : ℕ) (ns : List ℕ) → IsOnce ns → IsOnce (without y ns)
unfolding without
once_without y [] once = once
once_without y (n ∷ ns) once =
    elim (cases_eq n y) [
      | inl same ↦ subst IsOnce (sym (without_this y n ns same)) (once_without y ns once.1)
      | inr other ↦ subst IsOnce (sym (without_other y n ns other)) (λ h. once.0 (in_whole y n ns h), once_without y ns once.1)
    ]

-- ---- links

-- the same links
pub linked_same : (old new : ℕ → Option (Option ℕ)) (first : Option ℕ) (ns : List ℕ) → ((n : ℕ) → IsAmong n ns → new n ≡ old n) → LinkedFrom old first ns
    → LinkedFrom new first ns
linked_same old new first [] same linked = linked
linked_same old new first (n ∷ ns) same linked =
    (linked.0, (linked.1.0, same n (inl refl) ∙ linked.1.1, linked_same old new linked.1.0 ns (λ m h. same m (inr h)) linked.1.2))

-- each node of a list has a link
pub linked_has : (link : ℕ → Option (Option ℕ)) (first : Option ℕ) (ns : List ℕ) (n : ℕ) → LinkedFrom link first ns → IsAmong n ns
    → (next : Option ℕ) × (link n ≡ Some next)
linked_has link first [] n linked h = elim h [ ]
linked_has link first (m ∷ ns) n linked (inl e) = (linked.1.0, ap link e ∙ linked.1.1)
linked_has link first (m ∷ ns) n linked (inr h) = linked_has link linked.1.0 ns n linked.1.2 h

first_in : (link : ℕ → Option (Option ℕ)) (first : Option ℕ) (ns : List ℕ) (n : ℕ) → first ≡ Some n → LinkedFrom link first ns → IsAmong n ns
first_in link first [] n e linked = cc
first_in link first (m ∷ ns) n e linked = let same : n ≡ m = cc in inl same

pub next_of : (link : ℕ → Option (Option ℕ)) (n x : ℕ) (next : Option ℕ) (y : ℕ) → x ≡ n → link n ≡ Some next → link x ≡ Some (Some y) → next ≡ Some y
next_of link n x next y same at e = grind arith

-- what a node of a list links to is in the list
pub next_in : (link : ℕ → Option (Option ℕ)) (first : Option ℕ) (ns : List ℕ) (x y : ℕ) → LinkedFrom link first ns → IsAmong x ns → link x ≡ Some (Some y)
    → IsAmong y ns
next_in link first [] x y linked h e = elim h [ ]
next_in link first (n ∷ ns) x y linked (inl same) e = grind (arith, next_of, first_in)
next_in link first (n ∷ ns) x y linked (inr h) e = inr (next_in link linked.1.0 ns x y linked.1.2 h e)

-- ---- one node is taken out, behind the node that links to it

pub record TakenOut (old new : ℕ → Option (Option ℕ)) (x y : ℕ) : Type 0 where
  pub before : old x ≡ Some (Some y)
  pub behind : new x ≡ old y
  pub gone : new y ≡ None
  pub apart : x ≢ y
  pub others : (n : ℕ) → n ≢ x → n ≢ y → new n ≡ old n

-- the node that is taken out isn't before the one that links to it
not_first : (link : ℕ → Option (Option ℕ)) (first : Option ℕ) (x y n : ℕ) (ns : List ℕ) → link x ≡ Some (Some y) → x ≢ y → LinkedFrom link first (n ∷ ns)
    → IsOnce (n ∷ ns) → IsAmong x (n ∷ ns) → n ≢ y
not_first link first x y n ns before apart linked once (inl e) = λ same. apart (e ∙ same)
not_first link first x y n ns before apart linked once (inr h) = λ same.
    once.0 (subst (λ (m : ℕ). IsAmong m ns) (sym same) (next_in link linked.1.0 ns x y linked.1.2 h before))

-- at the node that links to it
behind_taken_out : (old new : ℕ → Option (Option ℕ)) (x y n : ℕ) (ns : List ℕ) → TakenOut old new x y → x ≡ n → LinkedFrom old (Some y) ns → IsOnce (n ∷ ns)
    → (next : Option ℕ) × (new n ≡ Some next) × LinkedFrom new next (without y ns)
behind_taken_out old new x y n [] out at linked once = cc
behind_taken_out old new x y n (m ∷ ns) out at linked once = grind (arith, without, without_this, without_absent, linked_same)

pub linked_taken_out : (old new : ℕ → Option (Option ℕ)) (first : Option ℕ) (x y : ℕ) (ns : List ℕ) → TakenOut old new x y → LinkedFrom old first ns → IsOnce ns
    → IsAmong x ns → LinkedFrom new first (without y ns)
linked_taken_out old new first x y [] out linked once h = elim h [ ]
linked_taken_out old new first x y (n ∷ ns) out linked once (inl e) =
    let other : n ≢ y = not_first old first x y n ns out.before out.apart linked once (inl e) in
    let next = next_of old n x linked.1.0 y e linked.1.1 out.before in
    let then_ = behind_taken_out old new x y n ns out e (subst (λ (f : Option ℕ). LinkedFrom old f ns) next linked.1.2) once in
    subst (LinkedFrom new first) (sym (without_other y n ns other)) (linked.0, then_)
linked_taken_out old new first x y (n ∷ ns) out linked once (inr h) =
    let other : n ≢ y = not_first old first x y n ns out.before out.apart linked once (inr h) in
    let apart : n ≢ x = λ e. once.0 (subst (λ (k : ℕ). IsAmong k ns) (sym e) h) in
    subst (LinkedFrom new first) (sym (without_other y n ns other))
    (linked.0, (linked.1.0, out.others n apart other ∙ linked.1.1, linked_taken_out old new linked.1.0 x y ns out linked.1.2 once.1 h))

-- ---- lists that have all members

pub chain_same : (old new : ℕ → Option (Option ℕ)) (first then_ : Option ℕ) (ns : List ℕ) → then_ ≡ first → ((n : ℕ) → new n ≡ old n) → IsListOf old first ns
    → IsListOf new then_ ns
chain_same old new first then_ ns e same is = grind (arith, linked_same)

-- who has no link isn't in the list
pub not_in : (link : ℕ → Option (Option ℕ)) (first : Option ℕ) (ns : List ℕ) (a : ℕ) → link a ≡ None → IsListOf link first ns → IsAmong a ns → ⊥
not_in link first ns a none is h = let has = linked_has link first ns a is.linked h in let at = has.1 in cc

-- a new front
pub chain_front : (old new : ℕ → Option (Option ℕ)) (first then_ : Option ℕ) (a : ℕ) (ns : List ℕ) → old a ≡ None → new a ≡ Some first → then_ ≡ Some a
    → ((n : ℕ) → n ≢ a → new n ≡ old n) → IsListOf old first ns → IsListOf new then_ (a ∷ ns)
chain_front old new first then_ a ns none joins head others is = grind (arith, not_in, linked_same, cases_eq)

-- a list without a first node is empty
pub none_empty : (link : ℕ → Option (Option ℕ)) (first : Option ℕ) (ns : List ℕ) → first ≡ None → IsListOf link first ns → ns ≡ []
none_empty link first [] e is = refl
none_empty link first (n ∷ ns) e is = let head = is.linked.0 in cc

-- the only one is gone
only_front : (link : ℕ → Option (Option ℕ)) (next : Option ℕ) (ns : List ℕ) (m a n : ℕ) → m ≡ a → next ≡ None → LinkedFrom link next ns → IsAmong n (m ∷ ns)
    → n ≡ a
only_front link next ns m a n same none linked (inl e) = e ∙ same
only_front link next [] m a n same none linked (inr h) = elim h [ ]
only_front link next (k ∷ ns) m a n same none linked (inr h) = let e = linked.0 in cc

only_one : (link : ℕ → Option (Option ℕ)) (first : Option ℕ) (ns : List ℕ) (a n : ℕ) → first ≡ Some a → link a ≡ Some None → LinkedFrom link first ns
    → IsAmong n ns → n ≡ a
only_one link first [] a n head ends linked h = elim h [ ]
only_one link first (m ∷ ns) a n head ends linked h =
    let same : m ≡ a = let e = linked.0 in cc in
    let next : linked.1.0 ≡ None = let here : link m ≡ Some None = ap link same ∙ ends in let at = linked.1.1 in cc in
    only_front link linked.1.0 ns m a n same next linked.1.2 h

pub chain_gone : (old new : ℕ → Option (Option ℕ)) (first then_ : Option ℕ) (a : ℕ) (ns : List ℕ) → first ≡ Some a → old a ≡ Some None → new a ≡ None
    → then_ ≡ None → ((n : ℕ) → n ≢ a → new n ≡ old n) → IsListOf old first ns → IsListOf new then_ []
chain_gone old new first then_ a ns head ends gone none others is = grind (arith, cases_eq, only_one)

-- one is taken out behind the one that links to it
pub chain_taken_out : (old new : ℕ → Option (Option ℕ)) (first then_ : Option ℕ) (x y : ℕ) (ns : List ℕ) → then_ ≡ first → TakenOut old new x y
    → IsListOf old first ns → IsListOf new then_ (without y ns)
chain_taken_out old new first then_ x y ns e out is = grind (arith, without, linked_taken_out, once_without, cases_eq, in_without)

-- what a member links to is a member
pub next_is_member : (link : ℕ → Option (Option ℕ)) (first : Option ℕ) (x y : ℕ) (ns : List ℕ) → IsListOf link first ns → link x ≡ Some (Some y)
    → (next : Option ℕ) × (link y ≡ Some next)
next_is_member link first x y ns is e = linked_has link first ns y is.linked (next_in link first ns x y is.linked (is.all x (Some y) e) e)
