-- Entries that stand one before another in a list.
use Rattle.std.proofs.Common.{◌≡◌, ◌⊎◌, ℕ, zero, suc, ◌+◌, ◌<◌, Bool, true, List, [], ◌∷◌, map, refl, sym, ap, subst, ◌∙◌, arith, inl, inr, Some}
use Rattle.std.proofs.lemmas.Bool.{cases_Bool}
use Rattle.std.specs.{Prelude.{slice_get}, List.{filter}}
use Rattle.sci_words.specs.{declared.stamped.Stamped.{Stamped}, Stamped.{after}}
use Rattle.sci_history.specs.{declared.entry.Entry.{Entry}, History.{IsHistory}, Seen.{IsAmong}}
use Rattle.sci_history.proofs.{Consequences.{among_all, among_filter, among_whole}, Histories.{makers-after, versions-after}, Order.{filter_yes, filter_no}}
use Rattle.sci_versions.specs.Versions.{unversioned}
use Rattle.sci_versions.proofs.Traces.{among_same}
use Rattle.sci_judge.specs.{Coherent.{entries_from, entry_of, StandsBefore}, declared.access.Access.{Access}}

-- one entry stands somewhere before another
abbrev pub IsBefore : Entry → Entry → List Entry → Type 0
IsBefore y x [] = ⊥
IsBefore y x (e ∷ es) = ((y ≡ e) × IsAmong x es) ⊎ IsBefore y x es

pub before_first : (y x : Entry) (es : List Entry) → IsBefore y x es → IsAmong y es
before_first y x [] h = elim h [ ]
before_first y x (e ∷ es) (inl h) = inl h.0
before_first y x (e ∷ es) (inr h) = inr (before_first y x es h)

pub before_second : (y x : Entry) (es : List Entry) → IsBefore y x es → IsAmong x es
before_second y x [] h = elim h [ ]
before_second y x (e ∷ es) (inl h) = inr h.1
before_second y x (e ∷ es) (inr h) = inr (before_second y x es h)

pub before_filter : (p : Entry → Bool) (y x : Entry) (es : List Entry) → p y ≡ true → p x ≡ true → IsBefore y x es → IsBefore y x (filter p es)
before_filter p y x [] at_y at_x h = h
before_filter p y x (e ∷ es) at_y at_x (inl h) =
    subst (IsBefore y x) (sym (filter_yes p e es (ap p (sym h.0) ∙ at_y))) (inl (h.0, among_filter p x es at_x h.1))
before_filter p y x (e ∷ es) at_y at_x (inr h) =
    let more = before_filter p y x es at_y at_x h in
    elim (cases_Bool (p e)) [
      | inl passes ↦ subst (IsBefore y x) (sym (filter_yes p e es passes)) (inr more)
      | inr fails ↦ subst (IsBefore y x) (sym (filter_no p e es fails)) more
    ]

pub before_whole : (p : Entry → Bool) (y x : Entry) (es : List Entry) → IsBefore y x (filter p es) → IsBefore y x es
before_whole p y x [] h = h
before_whole p y x (e ∷ es) h =
    elim (cases_Bool (p e)) [
      | inl passes ↦ elim (subst (IsBefore y x) (filter_yes p e es passes) h) [
        | inl first ↦ inl (first.0, among_whole p x es first.1)
        | inr more ↦ inr (before_whole p y x es more)
      ]
      | inr fails ↦ inr (before_whole p y x es (subst (IsBefore y x) (filter_no p e es fails) h))
    ]

-- in a history what stands before has no higher version, and a lower one if what comes behind is a maker
pub before_rises : (y x : Entry) (es : List Entry) (old new : Stamped) → IsHistory es old new → IsBefore y x es → StandsBefore y x
before_rises y x [] old new history h = elim h [ ]
before_rises y x (e ∷ es) old new history (inl h) = grind (arith, among_all, versions-after, makers-after)
before_rises y x (e ∷ es) old new history (inr h) = before_rises y x es (after old e.op) new history.2 h

-- the twins of two such entries
pub record AreTwins (xs : List Entry) (y x : Entry) : Type 0 where
  pub first : Entry
  pub second : Entry
  pub before : IsBefore first second xs
  pub same_first : unversioned first ≡ unversioned y
  pub same_second : unversioned second ≡ unversioned x

pub before_same : (xs ys : List Entry) (y x : Entry) → map unversioned xs ≡ map unversioned ys → IsBefore y x ys → AreTwins xs y x
before_same xs [] y x same h = elim h [ ]
before_same [] (e ∷ ys) y x same h = absurd cc
before_same (d ∷ xs) (e ∷ ys) y x same (inl h) =
    let tails : map unversioned xs ≡ map unversioned ys = cc in
    let head : unversioned d ≡ unversioned e = cc in
    let twin = among_same xs ys x tails h.1 in
    record {
      first = d;
      second = twin.entry;
      before = inl (refl, twin.among);
      same_first = head ∙ ap unversioned (sym h.0);
      same_second = twin.same;
    }
before_same (d ∷ xs) (e ∷ ys) y x same (inr h) =
    let tails : map unversioned xs ≡ map unversioned ys = cc in
    let more = before_same xs ys y x tails h in
    record { first = more.first; second = more.second; before = inr more.before; same_first = more.same_first; same_second = more.same_second }

-- ---- the entries of operations

pub entry_among : (serial : ℕ) (accesses : List Access) (i : ℕ) (a : Access) → slice_get accesses i ≡ Some a
    → IsAmong (entry_of (serial + i) a) (entries_from serial accesses)
entry_among serial [] i a at = absurd cc
entry_among serial (b ∷ accesses) zero a at = grind arith
entry_among serial (b ∷ accesses) (suc i) a at =
    inr (subst (λ (k : ℕ). IsAmong (entry_of k a) (entries_from (suc serial) accesses)) (omega arith) (entry_among (suc serial) accesses i a at))

pub entry_before : (serial : ℕ) (accesses : List Access) (i j : ℕ) (a b : Access) → i < j → slice_get accesses i ≡ Some a → slice_get accesses j ≡ Some b
    → IsBefore (entry_of (serial + i) a) (entry_of (serial + j) b) (entries_from serial accesses)
entry_before serial [] i j a b lt at_a at_b = absurd cc
entry_before serial (c ∷ accesses) zero zero a b lt at_a at_b = absurd (omega arith)
entry_before serial (c ∷ accesses) zero (suc j) a b lt at_a at_b = grind (arith, entry_among)
entry_before serial (c ∷ accesses) (suc i) zero a b lt at_a at_b = absurd (omega arith)
entry_before serial (c ∷ accesses) (suc i) (suc j) a b lt at_a at_b =
    let more = entry_before (suc serial) accesses i j a b (omega arith) at_a at_b in
    let here : suc serial + i ≡ serial + suc i = omega arith in
    let there : suc serial + j ≡ serial + suc j = omega arith in
    inr (subst (λ (k : ℕ). IsBefore (entry_of (serial + suc i) a) (entry_of k b) (entries_from (suc serial) accesses)) there
    (subst (λ (k : ℕ). IsBefore (entry_of k a) (entry_of (suc serial + j) b) (entries_from (suc serial) accesses)) here more))

-- the operation that an entry is of
pub record IsEntryAt (serial : ℕ) (accesses : List Access) (e : Entry) : Type 0 where
  pub place : ℕ
  pub access : Access
  pub here : slice_get accesses place ≡ Some access
  pub is : e ≡ entry_of (serial + place) access

pub entry_at : (serial : ℕ) (accesses : List Access) (e : Entry) → IsAmong e (entries_from serial accesses) → IsEntryAt serial accesses e
entry_at serial [] e h = elim h [ ]
entry_at serial (a ∷ accesses) e (inl same) =
    record { place = 0; access = a; here = refl; is = same ∙ ap (λ (k : ℕ). entry_of k a) (omega arith) }
entry_at serial (a ∷ accesses) e (inr h) =
    let more = entry_at (suc serial) accesses e h in
    record { place = suc more.place; access = more.access; here = more.here; is = more.is ∙ ap (λ (k : ℕ). entry_of k more.access) (omega arith) }
