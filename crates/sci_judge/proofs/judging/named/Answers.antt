use Rattle.std.proofs.Common.{◌≡◌, ◌⊎◌, ◌∙◌, ℕ, Bool, true, false, List, [], ◌∷◌, ap, arith, inl, inr, refl, subst, sym}
use Rattle.std.proofs.lemmas.{Bool.{cases_eq}, List.Elements.{Contains-append_left, Contains-append_right}}
use Rattle.std.proofs.lemmas.Map.{Lookups.{exact_unsigned}, Views.{btree_map_contains_key_iff}}
use Rattle.std.specs.{BTreeSet.{contains}, Cmp.{Equal-is, nat_cmp_total}, List.{Contains, list_any}, Ordering.{is_eq, nat_cmp}}
use Rattle.sci_judge.specs.{declared.access.Access.{Access}, Judgement.{is_at}}
use Rattle.sci_judge.proofs.judging.named.Goals as goal

pub loop-address-init : goal.loop-address-init
loop-address-init c = λ q.
    let keys = c.into_iter-address-iterator.ensures.into_iter_gives ∙ c.keys-address-items.ensures.rest in
    let here = c.in_ok-addresses.ensures q ∙ ap (λ (xs : List Access). list_any (is_at q) xs) c.deref.ensures.value in
    let known = btree_map_contains_key_iff nat_cmp_total exact_unsigned c.args.trace.now.last q in (
      (λ names. elim names [
        | inl any ↦ inl (here ∙ any)
        | inr some ↦ inr (subst (λ (ks : List ℕ). Contains ks q) (sym keys) (known.0 some))
      ]),
      (λ had. elim had [
        | inl there ↦ inl (sym here ∙ there)
        | inr comes ↦ inr (known.1 (subst (λ (ks : List ℕ). Contains ks q) keys comes))
      ]),
    )

-- another address
other : (x q : ℕ) (b : Bool) → (q ≡ x → ⊥) → is_eq (nat_cmp x q) ≡ b → is_eq (nat_cmp x q) ≡ false
other x q true isnt e = absurd (isnt (sym (exact_unsigned x q ((Equal-is _).0 e))))
other x q false isnt e = e

-- an address at the front of those that come, or behind it
in_front : (x q : ℕ) (rest : List ℕ) → Contains (x ∷ rest) q → (x ≡ q) ⊎ Contains rest q
in_front x q rest had = grind arith

pub loop-address-preserved : goal.loop-address-preserved
loop-address-preserved c = λ q.
    let x = c.in-Some.address.now in
    let rest = c.next.new.self in
    let steps : c.loop-address.address-iterator ≡ x ∷ rest = c.in-Some.ensures.steps in
    let before = c.loop-address.invariant q in
    let updates = c.in_ok-insert.ensures.updates in
    let coming : Contains (x ∷ rest) q → _ = λ had. before.1 (inr (subst (λ (ks : List ℕ). Contains ks q) (sym steps) had)) in
    elim (cases_eq q x) [
      | inl is ↦ (
        (λ names. inl (ap (contains nat_cmp c.insert.new.self) is ∙ updates.1)),
        (λ had. coming (Contains-append_left (x ∷ []) rest q (0, omega arith, sym is))),
      )
      | inr isnt ↦
          let same = updates.2 q (other x q (is_eq (nat_cmp x q)) isnt refl) in (
            (λ names. elim (before.0 names) [
              | inl there ↦ inl (same ∙ there)
              | inr comes ↦ elim (in_front x q rest (subst (λ (ks : List ℕ). Contains ks q) steps comes)) [
                | inl this ↦ absurd (isnt (sym this))
                | inr later ↦ inr later
              ]
            ]),
            (λ had. elim had [
              | inl there ↦ before.1 (inl (sym same ∙ there))
              | inr later ↦ coming (Contains-append_right (x ∷ []) rest q later)
            ]),
          )
    ]
