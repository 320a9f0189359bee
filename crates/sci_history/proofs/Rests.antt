-- What is left of each log, from a place on.
use Rattle.std.proofs.Common.{◌≡◌, ℕ, suc, ◌+◌, ◌<◌, ◌≤◌, List, [], ◌∷◌, length, get_or, set, drop, sym, ap, ◌∙◌, arith, inl, inr}
use Rattle.std.proofs.lemmas.Bool.{cases_eq}
use Rattle.std.proofs.lemmas.List.{drop_all, ext_get_or, get_or_past, get_or-set_same, get_or-set_other, length-set}
use Rattle.std.proofs.{lemmas.List.FromFn.{get_or-map-range_with_len, length-map-range_with_len}, Math.Seq.{drop-cons}}
use Rattle.sci_words.specs.declared.limits.TheConstants.{MAX_NODES}
use Rattle.sci_history.specs.{declared.entry.Entry.{Entry}, Placed.{log_of}, Placing.{rests_of}}
use Rattle.sci_history.proofs.AuditFinds.{no_entry}

abbrev rest_from : List (List Entry) → List ℕ → ℕ → List Entry
rest_from logs next node = drop (get_or next node 0) (log_of logs node)

pub rests_long : (logs : List (List Entry)) (next : List ℕ) → length (rests_of logs next) ≡ MAX_NODES
unfolding rests_of
rests_long logs next = length-map-range_with_len (rest_from logs next) 0 16

pub rest_at : (logs : List (List Entry)) (next : List ℕ) (n : ℕ) → n < MAX_NODES → log_of (rests_of logs next) n ≡ drop (get_or next n 0) (log_of logs n)
unfolding rests_of
rest_at logs next n lt = get_or-map-range_with_len (rest_from logs next) 0 16 n n [] lt (omega arith)

pub rest_beyond : (logs : List (List Entry)) (next : List ℕ) (n : ℕ) → MAX_NODES ≤ n → log_of (rests_of logs next) n ≡ []
rest_beyond logs next n past = let long = rests_long logs next in get_or_past (rests_of logs next) n [] (omega arith)

next_is : (k : ℕ) → suc k ≡ k + 1
next_is k = omega arith

-- nothing is left at a log's end
pub none_at : (logs : List (List Entry)) (next : List ℕ) (n : ℕ) (log : List Entry) → n < MAX_NODES → log ≡ log_of logs n → length log ≤ get_or next n 0
    → log_of (rests_of logs next) n ≡ []
none_at logs next n log lt is past = rest_at logs next n lt ∙ (ap (drop (get_or next n 0)) (sym is) ∙ drop_all (get_or next n 0) log past)

-- the first that is left, and what is behind it
pub front_at : (logs : List (List Entry)) (next : List ℕ) (n place : ℕ) → n < MAX_NODES → get_or next n 0 ≡ place → place < length (log_of logs n)
    → log_of (rests_of logs next) n ≡ get_or (log_of logs n) place no_entry ∷ drop (place + 1) (log_of logs n)
front_at logs next n place lt at below = grind (arith, rest_at, drop-cons, no_entry, next_is)

-- one log's place moves
pub rests_set : (logs : List (List Entry)) (next : List ℕ) (n k : ℕ) → length next ≡ MAX_NODES → n < MAX_NODES
    → rests_of logs (set next n k) ≡ set (rests_of logs next) n (drop k (log_of logs n))
rests_set logs next n k long lt =
    let before = rests_long logs next in
    let after = rests_long logs (set next n k) in
    ext_get_or [] (rests_of logs (set next n k)) (set (rests_of logs next) n (drop k (log_of logs n)))
    (after ∙ sym (length-set (rests_of logs next) n (drop k (log_of logs n)) ∙ before)) (λ m low. elim (cases_eq m n) [
      | inl same ↦
          ap (λ (j : ℕ). log_of (rests_of logs (set next n k)) j) same
          ∙ (rest_at logs (set next n k) n lt ∙ (ap (λ (j : ℕ). drop j (log_of logs n)) (get_or-set_same next n k 0 (omega arith))
          ∙ (sym (get_or-set_same (rests_of logs next) n (drop k (log_of logs n)) [] (omega arith))
          ∙ ap (λ (j : ℕ). log_of (set (rests_of logs next) n (drop k (log_of logs n))) j) (sym same))))
      | inr ne ↦
          rest_at logs (set next n k) m (omega arith)
          ∙ (ap (λ (j : ℕ). drop j (log_of logs m)) (get_or-set_other next n m k 0 ne)
          ∙ (sym (rest_at logs next m (omega arith)) ∙ sym (get_or-set_other (rests_of logs next) n m (drop k (log_of logs n)) [] ne)))
    ])

-- nothing is placed yet
pub rests_whole : (logs : List (List Entry)) (next : List ℕ) → length logs ≡ MAX_NODES → ((n : ℕ) → get_or next n 0 ≡ 0) → rests_of logs next ≡ logs
rests_whole logs next sixteen none =
    let long = rests_long logs next in
    ext_get_or [] (rests_of logs next) logs (long ∙ sym sixteen) (λ m low. rest_at logs next m (omega arith) ∙ ap (λ (j : ℕ). drop j (log_of logs m)) (none m))
