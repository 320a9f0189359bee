-- What an audit's first two kinds say: the makers' versions are 1 to their number, each once.
use Rattle.std.proofs.Common.{◌≡◌, ℕ, zero, suc, ◌+◌, ◌-◌, ◌<◌, ◌≤◌, ◌⊎◌, Bool, true, false, eqb, ltb, ◌&&◌, List, [], ◌∷◌, ◌++◌, length, Some, None, refl}
use Rattle.std.proofs.Common.{sym, ap, ◌∙◌, subst, append_assoc, arith, inl, inr}
use Rattle.std.proofs.lemmas.Bool.{cases_Bool, cases_eq, cases_lt, eq-eqb, eqb-true, ne_eqb, ltb-false, le-ltb, and_from, and_left, and_right, and_parts}
use Rattle.std.proofs.lemmas.{Bool.{or_parts, or_from, both_ways}, List.{append-nil, length-append}}
use Rattle.std.proofs.lemmas.List.{Elements.{filter-append}, Sums.{length-filter}}
use Rattle.std.specs.{Prelude.{IsTrue}, List.{filter, list_any, AllByRecursion}}
use Rattle.sci_history.specs.{declared.entry.Entry.{Entry}, Placed.{is_making, makes, maker_count, in_order}}
use Rattle.sci_history.specs.Lawful.{HasWholeVersions}
use Rattle.sci_history.specs.Audit.{first_failing, is_version_twice, is_version_missing, first_twice, first_missing}
use Rattle.sci_history.proofs.Order.{HasKeysBelow, filter_yes, filter_no, filter_none, all_weaker, all_both, all-filter, all-passes, length-in_order}

-- ---- none fails

abbrev pub NoneFail : (List Entry → Entry → Bool) → List Entry → List Entry → Type 0
NoneFail fails before [] = Unit {0}
NoneFail fails before (entry ∷ entries) = (fails before entry ≡ false) × NoneFail fails (before ++ entry ∷ []) entries

none_is : (entry : Entry) → Some entry ≡ None → ⊥
none_is entry e = absurd cc

pub none_fail : (fails : List Entry → Entry → Bool) (before entries : List Entry) → first_failing fails before entries ≡ None → NoneFail fails before entries
none_fail fails before [] e = tt
none_fail fails before (entry ∷ entries) e =
    elim (cases_Bool (fails before entry)) [
      | inl passes ↦ absurd (none_is entry (rw passes at e))
      | inr fails_not ↦ (fails_not, none_fail fails (before ++ entry ∷ []) entries (rw fails_not at e))
    ]

pub from_none_fail : (fails : List Entry → Entry → Bool) (before entries : List Entry) → NoneFail fails before entries
    → first_failing fails before entries ≡ None
from_none_fail fails before [] h = refl
from_none_fail fails before (entry ∷ entries) h = rw h.0 (from_none_fail fails (before ++ entry ∷ []) entries h.1)

-- ---- no version twice

any_none : (p : Entry → Bool) (entries : List Entry) → list_any p entries ≡ false → filter p entries ≡ []
any_none p [] e = refl
any_none p (entry ∷ entries) e =
    elim (cases_Bool (p entry)) [
      | inl passes ↦ absurd (both_ways (list_any p (entry ∷ entries)) e (rw passes refl))
      | inr fails_not ↦ filter_no p entry entries fails_not ∙ any_none p entries (rw fails_not at e)
    ]

any_some : (p : Entry → Bool) (entries : List Entry) → list_any p entries ≡ true → 1 ≤ length (filter p entries)
any_some p [] e = absurd cc
any_some p (entry ∷ entries) e =
    elim (cases_Bool (p entry)) [
      | inl passes ↦ rw (filter_yes p entry entries passes) (omega arith)
      | inr fails_not ↦ rw (filter_no p entry entries fails_not) (any_some p entries (rw fails_not at e))
    ]

abbrev pub HasOneEach : List Entry → Type 0
HasOneEach entries = (version : ℕ) → length (filter (makes version) entries) ≤ 1

one_more : (before : List Entry) (entry : Entry) → HasOneEach before → is_version_twice before entry ≡ false → HasOneEach (before ++ entry ∷ [])
one_more before entry one fails_not version = grind (arith, filter-append, cases_Bool, and_parts, eqb-true, any_none, filter_yes, filter_no, append-nil)

pub one_each : (before entries : List Entry) → HasOneEach before → NoneFail is_version_twice before entries → HasOneEach (before ++ entries)
one_each before [] one h = rw (append-nil before) one
one_each before (entry ∷ entries) one h =
    subst HasOneEach (append_assoc before (entry ∷ []) entries) (one_each (before ++ entry ∷ []) entries (one_more before entry one h.0) h.1)

pub from_one_each : (before entries : List Entry) → HasOneEach (before ++ entries) → NoneFail is_version_twice before entries
from_one_each before [] one = tt
from_one_each before (entry ∷ entries) one = (
  elim (cases_Bool (is_making entry)) [
    | inl maker ↦
        elim (cases_Bool (list_any (makes entry.version) before)) [
          | inl twice ↦
              let own : makes entry.version entry ≡ true =
              and_from (is_making entry) (eqb entry.version entry.version) maker (eq-eqb entry.version entry.version refl) in
              let first = any_some (makes entry.version) before twice in
              let all : length (filter (makes entry.version) before ++ filter (makes entry.version) (entry ∷ entries)) ≤ 1 =
              rw (← filter-append (makes entry.version) before (entry ∷ entries)) (one entry.version) in
              let both = length-append (filter (makes entry.version) before) (filter (makes entry.version) (entry ∷ entries)) in
              let longer = ap length (filter_yes (makes entry.version) entry entries own) in
              absurd (omega arith)
          | inr not_twice ↦ and_right (is_making entry) (list_any (makes entry.version) before) not_twice
        ]
    | inr load ↦ and_left (is_making entry) (list_any (makes entry.version) before) load
  ],
  from_one_each (before ++ entry ∷ []) entries (subst HasOneEach (sym (append_assoc before (entry ∷ []) entries)) one),
)

-- ---- no version missing

above_zero : (n : ℕ) → (n ≡ 0 → ⊥) → 1 ≤ n
above_zero n ne = elim (cases_lt n 1) [ inl lt ↦ absurd (ne (omega arith)) | inr le ↦ le ]

pub versions_within : (count : ℕ) (before entries : List Entry) → NoneFail (is_version_missing count) before entries
    → AllByRecursion (λ e. e.version ≤ count) entries × AllByRecursion (λ e. IsTrue (is_making e) → 1 ≤ e.version) entries
versions_within count before [] h = (tt, tt)
versions_within count before (entry ∷ entries) h =
    grind (arith, or_parts, ltb-false, cases_eq, both_ways, and_from, eq-eqb, above_zero, versions_within count (before ++ entry ∷ []) entries h.1)

pub from_versions_within : (count : ℕ) (before entries : List Entry) → AllByRecursion (λ e. e.version ≤ count) entries
    → AllByRecursion (λ e. IsTrue (is_making e) → 1 ≤ e.version) entries → NoneFail (is_version_missing count) before entries
from_versions_within count before [] within makers = tt
from_versions_within count before (entry ∷ entries) within makers = (
  or_from (ltb count entry.version) (is_making entry && eqb entry.version 0) (le-ltb count entry.version within.0) (
      elim (cases_Bool (is_making entry)) [
        | inl maker ↦ let low = makers.0 maker in and_right (is_making entry) (eqb entry.version 0) (ne_eqb entry.version 0 (λ e. absurd (omega arith)))
        | inr load ↦ and_left (is_making entry) (eqb entry.version 0) load
      ]),
  from_versions_within count (before ++ entry ∷ []) entries within.1 makers.1,
)

-- ---- as many versions as makers

filter_both : (p q : Entry → Bool) (entries : List Entry) → filter p (filter q entries) ≡ filter (λ e. q e && p e) entries
filter_both p q [] = refl
filter_both p q (entry ∷ entries) =
    elim (cases_Bool (q entry)) [
      | inl qy ↦
          elim (cases_Bool (p entry)) [
            | inl py ↦ rw (
              filter_yes q entry entries qy,
              filter_yes p entry (filter q entries) py,
              filter_both p q entries,
              filter_yes (λ e. q e && p e) entry entries (and_from (q entry) (p entry) qy py),
            ) refl
            | inr pn ↦ rw (
              filter_yes q entry entries qy,
              filter_no p entry (filter q entries) pn,
              filter_both p q entries,
              filter_no (λ e. q e && p e) entry entries (and_right (q entry) (p entry) pn),
            ) refl
          ]
      | inr qn ↦ rw (filter_no q entry entries qn, filter_both p q entries, filter_no (λ e. q e && p e) entry entries (and_left (q entry) (p entry) qn)) refl
    ]

-- how many makers have a version below the bound
abbrev makers_below : List Entry → ℕ → ℕ
makers_below makers bound = length (in_order (λ e. e.version) bound makers)

one_version_more : (makers : List Entry) (bound : ℕ)
    → makers_below makers (suc bound) ≡ makers_below makers bound + length (filter (λ e. eqb e.version bound) makers)
unfolding in_order
one_version_more makers bound = length-append (in_order (λ e. e.version) bound makers) (filter (λ e. eqb e.version bound) makers)

few_below : (makers : List Entry) → ((version : ℕ) → length (filter (λ e. eqb e.version version) makers) ≤ 1) → filter (λ e. eqb e.version 0) makers ≡ []
    → (bound : ℕ) → makers_below makers (suc bound) ≤ bound
unfolding in_order
few_below makers one none zero = rw none (omega arith)
few_below makers one none (suc bound) =
    let more = one_version_more makers (suc bound) in
    let before = few_below makers one none bound in
    let here = one (suc bound) in
    omega arith

full_below : (makers : List Entry) (count : ℕ) → ((version : ℕ) → length (filter (λ e. eqb e.version version) makers) ≤ 1)
    → filter (λ e. eqb e.version 0) makers ≡ [] → makers_below makers (suc count) ≡ count → (left bound : ℕ) → bound + left ≡ count
    → makers_below makers (suc bound) ≡ bound
full_below makers count one none whole zero bound e = let same : bound ≡ count = omega arith in ap (λ b. makers_below makers (suc b)) same ∙ whole ∙ sym same
full_below makers count one none whole (suc left) bound e =
    grind (arith, one_version_more, few_below, full_below makers count one none whole left (suc bound) (omega arith))

each_once : (makers : List Entry) (count version : ℕ) → ((v : ℕ) → length (filter (λ e. eqb e.version v) makers) ≤ 1)
    → filter (λ e. eqb e.version 0) makers ≡ [] → makers_below makers (suc count) ≡ count → 1 ≤ version → version ≤ count
    → length (filter (λ e. eqb e.version version) makers) ≡ 1
each_once makers count zero one none whole low high = absurd (omega arith)
each_once makers count (suc version) one none whole low high =
    let here = full_below makers count one none whole (count - suc version) (suc version) (omega arith) in
    let below = full_below makers count one none whole (count - version) version (omega arith) in
    let more = one_version_more makers (suc version) in
    omega arith

-- the first two kinds don't fail exactly if the versions are whole
pub whole_versions_found : (entries : List Entry) → first_twice entries ≡ None → first_missing entries ≡ None → HasWholeVersions entries
whole_versions_found entries twice missing =
    let count = maker_count entries in
    let makers = filter is_making entries in
    let one = one_each [] entries (λ v. omega arith) (none_fail is_version_twice [] entries twice) in
    let within = versions_within count [] entries (none_fail (is_version_missing count) [] entries missing) in
    let same : (version : ℕ) → filter (λ e. eqb e.version version) makers ≡ filter (makes version) entries =
    λ version. filter_both (λ e. eqb e.version version) is_making entries in
    let each : (version : ℕ) → length (filter (λ e. eqb e.version version) makers) ≤ 1 = λ version. rw (same version) (one version) in
    let positive : AllByRecursion (λ e. (IsTrue (is_making e) → 1 ≤ e.version) × IsTrue (is_making e)) makers =
    all_both (λ e. IsTrue (is_making e) → 1 ≤ e.version) (λ e. IsTrue (is_making e)) makers
    (all-filter (λ e. IsTrue (is_making e) → 1 ≤ e.version) is_making entries within.1) (all-passes is_making entries) in
    let none : filter (λ e. eqb e.version 0) makers ≡ [] =
    filter_none (λ e. eqb e.version 0) makers
    (all_weaker (λ e. (IsTrue (is_making e) → 1 ≤ e.version) × IsTrue (is_making e)) (λ e. eqb e.version 0 ≡ false) (λ e h. let low = h.0 h.1 in
    ne_eqb e.version 0 (λ is. absurd (omega arith))) makers positive) in
    let below : HasKeysBelow (λ e. e.version) (suc count) makers =
    all-filter (λ e. e.version < suc count) is_making entries
    (all_weaker (λ e. e.version ≤ count) (λ e. e.version < suc count) (λ e le. omega arith) entries within.0) in
    let whole : makers_below makers (suc count) ≡ count = length-in_order (λ e. e.version) (suc count) makers below ∙ length-filter is_making entries in
    record {
      once = λ version low high. sym (length-filter (makes version) entries) ∙ ap length (sym (same version))
          ∙ each_once makers count version each none whole low high;
      makers = within.1;
      within = within.0;
    }

no_such_maker : (entries : List Entry) (version : ℕ) → HasWholeVersions entries → (version ≡ 0) ⊎ (maker_count entries < version)
    → filter (makes version) entries ≡ []
no_such_maker entries version h outside = grind (arith, filter_none, all_weaker, cases_Bool, and_right, ne_eqb, and_left, all_both)

one_from_whole : (entries : List Entry) → HasWholeVersions entries → HasOneEach entries
one_from_whole entries h version =
    elim (cases_lt version 1) [
      | inl low ↦ rw (no_such_maker entries version h (inl (omega arith))) (omega arith)
      | inr some ↦
          elim (cases_lt (maker_count entries) version) [
            | inl above ↦ rw (no_such_maker entries version h (inr above)) (omega arith)
            | inr within ↦ let once = h.once version some within in let length-is = length-filter (makes version) entries in omega arith
          ]
    ]

pub twice_from_whole : (entries : List Entry) → HasWholeVersions entries → first_twice entries ≡ None
twice_from_whole entries h = from_none_fail is_version_twice [] entries (from_one_each [] entries (one_from_whole entries h))

pub missing_from_whole : (entries : List Entry) → HasWholeVersions entries → first_missing entries ≡ None
missing_from_whole entries h = grind (arith, from_none_fail, from_versions_within)
