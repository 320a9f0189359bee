use Rattle.std.proofs.Common.{◌≡◌, ◌⊎◌, ◌∙◌, ℕ, All, Bool, true, false, List, ◌∷◌, Option, None, Some, ap, if◌then◌else◌, inl, inr, refl, subst, sym, arith}
use Rattle.std.proofs.lemmas.{Bool.{cases_eq, eq-eqb, eqb-true}, Map.{Lookups.{exact_unsigned}, Views.{btree_map_contains_key_iff}}}
use Rattle.std.proofs.lemmas.List.Elements.{All-head, All-tail}
use Rattle.std.specs.{BTreeMap.{get, is_at, keys}, Cmp.{Equal-is, nat_cmp_total}, List.{Contains}, Map.{keys_of, lookup}, Ordering.{is_eq, nat_cmp}}
use Rattle.sci_judge.specs.{declared.trace.Trace.{Trace}, Judgement.{last_at}}
use Rattle.sci_axe.proofs.Parts.{only}
use Rattle.sci_axe.specs.Parts.{is_in_part, last_in, part_of}
use Rattle.sci_axe.proofs.sharing.Share.last.Goals as goal

-- an address in the part with a last word is a key
begun : (cuts : List ℕ) (part : ℕ) (trace : Trace) (q : ℕ) (b : Bool) (known : Option ℕ) → is_in_part cuts part q ≡ b → last_at q trace ≡ known
    → ((is_in_part cuts part q ≡ true) × Contains (keys trace.last) q) ⊎ (None ≡ last_in cuts part trace q)
begun cuts part trace q true (Some word) inside is =
    inl (inside, (btree_map_contains_key_iff nat_cmp_total exact_unsigned trace.last q).0 (rw is refl))
begun cuts part trace q true None inside is = inr (sym (ap (λ (b : Bool). if b then last_at q trace else None) inside ∙ is))
begun cuts part trace q false known outside is = inr (sym (ap (λ (b : Bool). if b then last_at q trace else None) outside))

pub loop-address-init : goal.loop-address-init
loop-address-init c =
    let share = c.args.self.now in
    let trace = share.trace.now in
    let entries = c.into_iter-address-iterator.ensures.into_iter_gives ∙ c.iter-address-items.ensures.rest in
    record {
      found = subst (All (λ e. get nat_cmp trace.last e.0 ≡ Some e.1)) (sym entries) c.iter-address-items.ensures.found;
      each = λ q. elim (begun share.cuts.now c.args.part trace q (is_in_part share.cuts.now c.args.part q) (last_at q trace) refl refl) [
        | inl comes ↦ inl (comes.0, subst (λ (es : List (ℕ × ℕ)). Contains (keys_of es) q) (sym entries) comes.1)
        | inr none ↦ inr (ap (lookup (is_at (nat_cmp q))) c.new-last.ensures.empty ∙ none)
      ];
    }

-- another address
other : (x q : ℕ) (b : Bool) → (q ≡ x → ⊥) → is_eq (nat_cmp x q) ≡ b → is_eq (nat_cmp x q) ≡ false
other x q true isnt e = absurd (isnt (sym (exact_unsigned x q ((Equal-is _).0 e))))
other x q false isnt e = e

later : (x q : ℕ) (rest : List ℕ) → (q ≡ x → ⊥) → Contains (x ∷ rest) q → Contains rest q
later x q rest isnt had = grind (arith, only)

-- what comes behind the first entry
rest_found : (trace : Trace) (old rest : List (ℕ × ℕ)) (e : ℕ × ℕ) → old ≡ e ∷ rest → All (λ e. get nat_cmp trace.last e.0 ≡ Some e.1) old
    → (get nat_cmp trace.last e.0 ≡ Some e.1) × All (λ e. get nat_cmp trace.last e.0 ≡ Some e.1) rest
rest_found trace old rest e is all =
    let found = subst (All (λ e. get nat_cmp trace.last e.0 ≡ Some e.1)) is all in
    (All-head (λ e. get nat_cmp trace.last e.0 ≡ Some e.1) e rest found, All-tail (λ e. get nat_cmp trace.last e.0 ≡ Some e.1) e rest found)

pub loop-address-preserved-in_ok-insert : goal.loop-address-preserved-in_ok-insert
loop-address-preserved-in_ok-insert c =
    let share = c.args.self.now in
    let trace = share.trace.now in
    let x = c.in-Some.address.now in
    let rest = c.next.new.self in
    let steps : c.loop-address.address-iterator ≡ (x, c.in-Some.word.now) ∷ rest = c.in-Some.ensures.steps in
    let found = rest_found trace c.loop-address.address-iterator rest (x, c.in-Some.word.now) steps c.loop-address.invariant.found in
    let updates = c.in_ok-insert.ensures.updates in
    let inside : is_in_part share.cuts.now c.args.part x ≡ true = eq-eqb _ _ (sym c.part_of.ensures ∙ c.if-part_of-part.true) in
    let here : get nat_cmp c.insert.new.self x ≡ last_in share.cuts.now c.args.part trace x =
    updates.1 ∙ (sym found.0 ∙ sym (ap (λ (b : Bool). if b then last_at x trace else None) inside)) in
    record {
      found = found.1;
      each = λ q. elim (cases_eq q x) [
        | inl is ↦ inr (subst (λ (at : ℕ). get nat_cmp c.insert.new.self at ≡ last_in share.cuts.now c.args.part trace at) (sym is) here)
        | inr isnt ↦ elim (c.loop-address.invariant.each q) [
          | inl comes ↦
              inl (comes.0, later x q (keys_of rest) isnt (subst (λ (es : List (ℕ × ℕ)). Contains (keys_of es) q) steps comes.1))
          | inr had ↦ inr (updates.2 q (other x q (is_eq (nat_cmp x q)) isnt refl) ∙ had)
        ]
      ];
    }

pub loop-address-preserved : goal.loop-address-preserved
loop-address-preserved c =
    let share = c.args.self.now in
    let trace = share.trace.now in
    let x = c.in-Some.address.now in
    let rest = c.next.new.self in
    let steps : c.loop-address.address-iterator ≡ (x, c.in-Some.word.now) ∷ rest = c.in-Some.ensures.steps in
    let found = rest_found trace c.loop-address.address-iterator rest (x, c.in-Some.word.now) steps c.loop-address.invariant.found in
    record {
      found = found.1;
      each = λ q. elim (c.loop-address.invariant.each q) [
        | inl comes ↦
            let isnt : q ≡ x → ⊥ = λ is. c.if-part_of-part.false
            (c.part_of.ensures ∙ ap (part_of share.cuts.now) (sym is) ∙ eqb-true _ _ comes.0) in
            inl (comes.0, later x q (keys_of rest) isnt (subst (λ (es : List (ℕ × ℕ)). Contains (keys_of es) q) steps comes.1))
        | inr had ↦ inr had
      ];
    }
