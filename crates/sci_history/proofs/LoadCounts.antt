-- The number of loads at each version among the first entries.
use Rattle.std.proofs.Common.{◌≡◌, ℕ, ◌+◌, ◌<◌, ◌≤◌, true, false, List, [], ◌∷◌, ◌++◌, length, get_or, set, take, refl, sym, ap, ◌∙◌, arith, inl, inr}
use Rattle.std.proofs.{Math.Seq.{get_or-append_seam}, lemmas.Bool.{cases_eq, eq-eqb, ne_eqb}}
use Rattle.std.proofs.lemmas.List.{get_or_append_left, map-append, length-map, length-set, length-take, get_or-set_same, get_or-set_other}
use Rattle.std.proofs.lemmas.List.Sums.{count_by-le-length}
use Rattle.std.specs.{Global.{Vec}, Prelude.{count_by}}
use denote.Ref.{Bor}
use Rattle.sci_history.specs.{declared.entry.Entry.{Entry}, Audit.{entries_of}, Placed.{is_making, on_line, reads}}
use Rattle.sci_history.specs.Placing.{HasCounts, lists_of_counts}
use Rattle.sci_history.proofs.{AuditFinds.{entry_at, take_entries_more}, Oracles.{count_push}, Placings.{once}}

pub record HasCounted (counts : List ℕ) (refs : List (Bor Entry)) (n makers : ℕ) : Type 0 where
  pub long : length counts ≡ makers + 1
  pub each : (version : ℕ) → version ≤ makers → get_or counts version 0 ≡ count_by (reads version) (take n (entries_of refs))

one_more : (refs : List (Bor Entry)) (n version : ℕ) → n < length refs
    → count_by (reads version) (take (n + 1) (entries_of refs)) ≡ count_by (reads version) (take n (entries_of refs)) + once (reads version (entry_at refs n))
one_more refs n version lt = ap (count_by (reads version)) (take_entries_more refs n lt)
    ∙ count_push (reads version) (take n (entries_of refs)) (entry_at refs n)

pub counted_maker : (counts : List ℕ) (refs : List (Bor Entry)) (n makers : ℕ) → n < length refs → is_making (entry_at refs n) ≡ true
    → HasCounted counts refs n makers → HasCounted counts refs (n + 1) makers
counted_maker counts refs n makers lt maker has = record {
  long = has.long;
  each = λ version le.
      let none : once (reads version (entry_at refs n)) ≡ 0 = rw maker refl in
      let more = one_more refs n version lt in
      let was = has.each version le in
      omega arith;
}

pub counted_load : (counts : List ℕ) (refs : List (Bor Entry)) (n makers : ℕ) → n < length refs → is_making (entry_at refs n) ≡ false
    → (entry_at refs n).version ≤ makers → HasCounted counts refs n makers
    → HasCounted (set counts (entry_at refs n).version (get_or counts (entry_at refs n).version 0 + 1)) refs (n + 1) makers
counted_load counts refs n makers lt load within has =
    let at = (entry_at refs n).version in
    let long = has.long in
    record {
      long = length-set counts at (get_or counts at 0 + 1) ∙ has.long;
      each = λ version le. elim (cases_eq version at) [
        | inl same ↦
            let single : once (reads version (entry_at refs n)) ≡ 1 = rw load (ap once (eq-eqb at version (sym same))) in
            let more = one_more refs n version lt in
            let was = has.each version le in
            let now : get_or (set counts at (get_or counts at 0 + 1)) version 0 ≡ get_or counts at 0 + 1 =
            ap (λ (k : ℕ). get_or (set counts at (get_or counts at 0 + 1)) k 0) same ∙ get_or-set_same counts at (get_or counts at 0 + 1) 0 (omega arith) in
            let here = ap (λ (k : ℕ). get_or counts k 0) same in
            omega arith
        | inr ne ↦
            let none : once (reads version (entry_at refs n)) ≡ 0 = rw load (ap once (ne_eqb at version (λ e. ne (sym e)))) in
            let more = one_more refs n version lt in
            let was = has.each version le in
            let now = get_or-set_other counts at version (get_or counts at 0 + 1) 0 ne in
            omega arith
      ];
    }

-- no count is above the number of entries
pub few_counted : (counts : List ℕ) (refs : List (Bor Entry)) (n makers version : ℕ) → version ≤ makers → HasCounted counts refs n makers
    → get_or counts version 0 ≤ n
few_counted counts refs n makers version le has = grind (arith, count_by-le-length, length-take)

-- ---- one line more

pub counts_more : (loads new : List (Vec ℕ)) (list : Vec ℕ) (n : ℕ) (logs : List (List Entry)) → length loads ≡ n → new ≡ loads ++ list ∷ []
    → ((line : ℕ) → line < n → HasCounts (get_or (lists_of_counts loads) line []) (on_line line logs))
    → HasCounts list.items (on_line n logs) → (line : ℕ) → line < n + 1 → HasCounts (get_or (lists_of_counts new) line []) (on_line line logs)
counts_more loads new list n logs long is before here = grind (arith, map-append, length-map, get_or_append_left, get_or-append_seam)
