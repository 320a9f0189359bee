-- What is shown where runs end are all outcomes of runs, and a sort and a `dedup` keep them.
use Rattle.std.proofs.Common.{◌≡◌, ◌↔◌, ℕ, Bool, true, List, [], ◌∷◌, map, refl, sym, ap, subst, ◌∙◌}
use Rattle.std.proofs.lemmas.List.{Elements.{All-contains, All-contains_itself, All-map, All-weaker}, Folds.{Any-from_list_any, list_any-from_Any}}
use Rattle.std.proofs.lemmas.List.Sorted.{Contains-permutation, IsPermutation-map, IsPermutation-sym}
use Rattle.std.proofs.lemmas.List.Kept.{IsStrictlySortedBy-dedup}
use Rattle.std.specs.{Cmp.{IsEquivalence}, List.{All, Any, Contains, dedup, Sorted.{IsPermutation, IsSorted, IsStrictlySortedBy}}}
use Rattle.sci_words.specs.declared.event.Event.{Event}
use Rattle.sci_text.specs.Script.{ScriptValue}
use Rattle.sci_drive.specs.ScriptLogs.{size_for}
use Rattle.sci_orders.proofs.Keeping.{contains_map, kept, left, map_contains}
use Rattle.sci_orders.specs.{Orders.{HasRun}, Positions.{position_of}, declared.standing.Standing.{Standing}}
use Rattle.sci_allowed.specs.Allowed.{AreAllowed, AreRows, AreSeenAt, HaveRuns, IsAllowed, IsLitmus, is_among, rows_of, seen_at, shares_of}
use Rattle.sci_allowed.specs.Outcome.{IsPlaceWithin, Shown, outcome_cmp, shown_of, written_places}
use Rattle.sci_allowed.specs.declared.{litmus.Litmus.{Litmus}, outcome.Outcome.{Outcome}, rows.AllowedRow.{AllowedRow}}
use Rattle.sci_allowed.proofs.{Sameness.{equal_outcome, same_outcome}, SeenAlike.{shown_same}}
use Rattle.sci_allowed.specs.contracts.outcome.{OutcomeEq.TheImpl.Laws.{laws-law}, OutcomeOrd.TheImpl.Laws.{matches_eq-law, total-law}}
use Rattle.sci_allowed.specs.contracts.outcome.OutcomePartialEq.TheImpl as TheEquality
use Rattle.sci_allowed.specs.contracts.outcome.OutcomeOrd.TheImpl as TheOrder

-- an element of a list of what is seen is seen of an element
contains_any : (outcomes : List Outcome) (shown : Shown) → Contains (map shown_of outcomes) shown → Any (λ o. shown_of o ≡ shown) outcomes
contains_any outcomes shown has =
    let at = map_contains shown_of outcomes shown has in
    (at.1.0, at.0, at.1.1, at.1.2, at.2)

-- what is seen of a run is seen of a standing where runs end
pub seen_at_end : (litmus : Litmus) (window : ℕ) (standings : List Standing) → IsLitmus litmus
    → HaveRuns (size_for litmus.script) (shares_of litmus.script) window (map position_of standings) → (shown : Shown)
    → IsAllowed litmus.script window shown → Contains (map (λ (s : Standing). seen_at litmus.script (position_of s)) standings) shown
seen_at_end litmus window standings good has shown (schedule, way) =
    let among = has.all schedule way.run.runs in
    let at = map_contains position_of standings among.0 among.1 in
    let script = litmus.script in
    let same : shown ≡ seen_at script among.0 =
    way.is ∙ shown_same (size_for script) (shares_of script) _ _ way.position among.0 way.run.outcome among.2 (written_places script.lines script.operations)
    (subst (All (IsPlaceWithin script.lines)) good.places good.within) in
    subst (Contains (map (λ (s : Standing). seen_at script (position_of s)) standings)) (sym (same ∙ ap (seen_at script) (sym at.2)))
    (contains_map (λ (s : Standing). seen_at script (position_of s)) standings at.0 at.1)

module _ (litmus : Litmus) (window : ℕ) (standings : List Standing) (outcomes : List Outcome) (good : IsLitmus litmus)
    (has : HaveRuns (size_for litmus.script) (shares_of litmus.script) window (map position_of standings))
    (seen : AreSeenAt litmus.script standings outcomes) where
  -- what is seen of an outcome is seen of a run
  pub each_seen : (shown : Shown) → Contains (map shown_of outcomes) shown → IsAllowed litmus.script window shown
  each_seen shown there =
      let at = map_contains (λ (s : Standing). seen_at litmus.script (position_of s)) standings shown
      (subst (λ (xs : List Shown). Contains xs shown) seen there) in
      let p = position_of at.0 in
      let way = All-contains (λ q. (schedule : List Event) × HasRun (size_for litmus.script) (shares_of litmus.script) window q schedule)
      (map position_of standings) p has.each (contains_map position_of standings at.0 at.1) in
      (way.0, record { position = p; run = way.1; is = sym at.2 })

  -- and what is seen of a run is seen of an outcome
  pub seen_there : (shown : Shown) → IsAllowed litmus.script window shown → Contains (map shown_of outcomes) shown
  seen_there shown allowed = subst (λ (xs : List Shown). Contains xs shown) (sym seen) (seen_at_end litmus window standings good has shown allowed)

-- a sort and a `dedup` keep what is seen
module _ (E : Outcome → Outcome → Bool) (e : IsEquivalence E) (same : (a b : Outcome) → E a b ≡ true → shown_of a ≡ shown_of b)
    (outcomes sorted final : List Outcome)
    (moved : IsPermutation outcomes sorted) (is : final ≡ dedup E sorted) where
  over : IsPermutation (map shown_of outcomes) (map shown_of sorted)
  over = IsPermutation-map shown_of outcomes sorted moved

  pub still_there : (shown : Shown) → Contains (map shown_of outcomes) shown → Contains (map shown_of final) shown
  still_there shown has =
      subst (λ (os : List Outcome). Contains (map shown_of os) shown) (sym is)
      (kept E shown_of e same sorted shown (Contains-permutation (map shown_of outcomes) (map shown_of sorted) shown over has))

  pub was_there : (shown : Shown) → Contains (map shown_of final) shown → Contains (map shown_of outcomes) shown
  was_there shown has =
      Contains-permutation (map shown_of sorted) (map shown_of outcomes) shown (IsPermutation-sym (map shown_of outcomes) (map shown_of sorted) over)
      (left E shown_of sorted shown (subst (λ (os : List Outcome). Contains (map shown_of os) shown) is has))

-- whether an outcome is among others says whether it is one of them
pub among_is : (script : ScriptValue) (outcomes : List Outcome) (o : Outcome) → AreAllowed script 1 outcomes
    → (is_among outcomes o ≡ true) ↔ IsAllowed script 1 (shown_of o)
among_is script outcomes o all = (
  (λ found. (
      let any = Any-from_list_any (λ other. (TheEquality.ghosts).eq other o) outcomes found in
      let here = All-contains (λ other. IsAllowed script 1 (shown_of other)) outcomes any.1 all.each (any.0, any.2, any.3) in
      subst (IsAllowed script 1) (same_outcome any.1 o any.4) here)),
  (λ allowed. (
      let any = all.all (shown_of o) allowed in
      list_any-from_Any (λ other. (TheEquality.ghosts).eq other o) outcomes (any.0, any.1, any.2, any.3, equal_outcome any.1 o any.4))),
)

-- ---- all outcomes

pub are_allowed : (litmus : Litmus) (window : ℕ) (standings : List Standing) (outcomes sorted final : List Outcome) → IsLitmus litmus
    → HaveRuns (size_for litmus.script) (shares_of litmus.script) window (map position_of standings) → AreSeenAt litmus.script standings outcomes
    → IsPermutation outcomes sorted
    → IsSorted (TheOrder.ghosts).cmp sorted → final ≡ dedup (TheEquality.ghosts).eq sorted → AreAllowed litmus.script window final
are_allowed litmus window standings outcomes sorted final good has seen moved order is = record {
  each = All-weaker (Contains final) (λ o. IsAllowed litmus.script window (shown_of o)) (λ o there.
      each_seen litmus window standings outcomes good has seen (shown_of o)
      (was_there (TheEquality.ghosts).eq laws-law same_outcome outcomes sorted final moved is (shown_of o) (contains_map shown_of final o there)))
      final (All-contains_itself final);
  all = λ shown allowed. contains_any final shown
      (still_there (TheEquality.ghosts).eq laws-law same_outcome outcomes sorted final moved is shown
      (seen_there litmus window standings outcomes good has seen shown allowed));
  sorted = subst (IsStrictlySortedBy outcome_cmp) (sym is) (IsStrictlySortedBy-dedup total-law matches_eq-law sorted order);
}

-- ---- rows

row_outcomes : (tag : Outcome → Bool) (outcomes : List Outcome)
    → map (λ (row : AllowedRow). row.outcome) (map (λ o. record { outcome = o; in_order = tag o }) outcomes) ≡ outcomes
row_outcomes tag [] = refl
row_outcomes tag (o ∷ outcomes) = ap (λ (os : List Outcome). o ∷ os) (row_outcomes tag outcomes)

pub are_rows : (script : ScriptValue) (window : ℕ) (outcomes in_order : List Outcome) → AreAllowed script window outcomes → AreAllowed script 1 in_order
    → AreRows script window (rows_of outcomes in_order)
are_rows script window outcomes in_order all some =
    let tag = is_among in_order in
    record {
      outcomes = subst (AreAllowed script window) (sym (row_outcomes tag outcomes)) all;
      tags = All-map (λ (row : AllowedRow). (row.in_order ≡ true) ↔ IsAllowed script 1 (shown_of row.outcome))
          (λ o. record { outcome = o; in_order = tag o }) outcomes
          (All-weaker (Contains outcomes) (λ o. (tag o ≡ true) ↔ IsAllowed script 1 (shown_of o)) (λ o there. among_is script in_order o some) outcomes
          (All-contains_itself outcomes));
    }
