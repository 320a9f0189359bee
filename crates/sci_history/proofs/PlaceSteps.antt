-- The first entry of a log that is left, as the code reads it.
use Rattle.std.proofs.Common.{◌≡◌, ℕ, zero, suc, ◌+◌, ◌<◌, ◌≤◌, true, false, List, [], ◌∷◌, ◌++◌, length, get_or, set, drop, replicate, refl, sym, ap}
use Rattle.std.proofs.Common.{subst, ◌∙◌, arith, inl, inr}
use Rattle.std.specs.Global.{Vec}
use denote.Ref.{Bor}
use Rattle.std.proofs.lemmas.List.{map-append, get_or-map, length-map, get_or-set_same, get_or-set_other}
use Rattle.std.proofs.lemmas.Bool.{cases_eq, cases_lt}
use Rattle.std.specs.Prelude.{count_by}
use Rattle.sci_words.specs.declared.limits.TheConstants.{MAX_NODES, MAX_LINES}
use Rattle.sci_history.specs.{declared.{entry.Entry.{Entry}, placing.LineState.{LineState}}, Audit.{entries_of}}
use Rattle.sci_history.specs.Placed.{log_of, is_making}
use Rattle.sci_history.specs.Placing.{CanFollow, state_after, state_of, lists_of_counts, rests_of, all_of, IsPlacing, AreOrderable}
use Rattle.sci_history.proofs.AuditFinds.{no_entry}
use Rattle.sci_history.proofs.Placings.{IsFront, count-cons, front_is, placing_more, placing_none}
use Rattle.sci_history.proofs.{PlacingEnds.{one_left_at}, Rests.{front_at, rests_long, rests_set, rests_whole}}

pub counts_long : (loads : List (Vec ℕ)) → length (lists_of_counts loads) ≡ length loads
counts_long loads = length-map loads (λ (list : Vec ℕ). list.items)

-- the counts of a line, as the code reads them
pub counts_read : (loads : List (Vec ℕ)) (line : ℕ) (d list : Vec ℕ) (counts : List ℕ) → line < length loads → list ≡ get_or loads line d → counts ≡ list.items
    → get_or (lists_of_counts loads) line [] ≡ counts
counts_read loads line d list counts lt is items = get_or-map (λ (l : Vec ℕ). l.items) loads line d [] lt ∙ (ap (λ (l : Vec ℕ). l.items) (sym is) ∙ sym items)

-- what is left first in a log
pub record IsFrontAt (logs : List (List Entry)) (loads : List (List ℕ)) (rests : List (List Entry)) (n : ℕ) (entry : Entry) (rest : List Entry) : Type 0 where
  pub is : IsFront logs loads entry
  pub own : entry.node ≡ n
  pub left : log_of rests n ≡ entry ∷ rest

-- the same of a log, as the code reads it
abbrev pub IsFrontRead : List (List Entry) → List (Vec ℕ) → List ℕ → ℕ → List Entry → Type 0
IsFrontRead logs loads next n log =
    IsFrontAt logs (lists_of_counts loads) (rests_of logs next) n (get_or log (get_or next n 0) no_entry) (drop (get_or next n 0 + 1) (log_of logs n))

pub front_read : (logs : List (List Entry)) (loads : List (Vec ℕ)) (lines : List LineState) (next : List ℕ) (order : List Entry) (n : ℕ) (log : List Entry)
    → AreOrderable logs (lists_of_counts loads) → IsPlacing logs (length loads) lines (rests_of logs next) order
    → n < MAX_NODES → log ≡ log_of logs n → get_or next n 0 < length log → IsFrontRead logs loads next n log
front_read logs loads lines next order n log able placing lt is below =
    let place = get_or next n 0 in
    let front : log_of (rests_of logs next) n ≡ get_or log place no_entry ∷ drop (place + 1) (log_of logs n) =
    front_at logs next n place lt refl (subst (λ (xs : List Entry). place < length xs) is below)
    ∙ ap (λ (xs : List Entry). get_or xs place no_entry ∷ drop (place + 1) (log_of logs n)) (sym is) in
    let both = front_is logs (rests_of logs next) (lists_of_counts loads) order n (get_or log place no_entry) (drop (place + 1) (log_of logs n)) able lt
    (placing.logged n) front in
    record { is = both.0; own = both.1; left = front }

-- a load that is left at its line's version is counted
pub load_counted : (logs : List (List Entry)) (loads : List (Vec ℕ)) (lines : List LineState) (rests : List (List Entry)) (order : List Entry) (n : ℕ)
    (entry : Entry) (rest : List Entry) → IsPlacing logs (length loads) lines rests order → n < MAX_NODES
    → IsFrontAt logs (lists_of_counts loads) rests n entry rest → CanFollow (state_of lines entry.op.line) entry → is_making entry ≡ false
    → 1 ≤ (state_of lines entry.op.line).left
load_counted logs loads lines rests order n entry rest placing lt front can load = grind (arith, counts_long, one_left_at)

-- it is placed
pub front_placed : (logs : List (List Entry)) (loads : List (Vec ℕ)) (lines : List LineState) (next : List ℕ) (order : List Entry) (n : ℕ) (entry : Entry)
    → length lines ≡ MAX_LINES → length next ≡ MAX_NODES → length loads ≤ MAX_LINES → n < MAX_NODES
    → IsPlacing logs (length loads) lines (rests_of logs next) order
    → IsFrontAt logs (lists_of_counts loads) (rests_of logs next) n entry (drop (get_or next n 0 + 1) (log_of logs n))
    → CanFollow (state_of lines entry.op.line) entry → (counts : List ℕ)
    → get_or (lists_of_counts loads) entry.op.line [] ≡ counts
    → IsPlacing logs (length loads) (set lines entry.op.line (state_after counts (state_of lines entry.op.line) entry))
    (rests_of logs (set next n (get_or next n 0 + 1))) (order ++ entry ∷ [])
front_placed logs loads lines next order n entry long_lines long_next few lt placing front can counts is =
    let place = get_or next n 0 in
    let long = counts_long loads in
    let sixteen = rests_long logs next in
    let rests = rests_of logs next in
    let same : IsPlacing logs (length (lists_of_counts loads)) lines rests order = subst (λ (k : ℕ). IsPlacing logs k lines rests order) (sym long) placing in
    let more = placing_more logs (lists_of_counts loads) lines rests order n entry (drop (place + 1) (log_of logs n)) (omega arith) front.left front.own
    (omega arith) front.is can same in
    subst (λ (k : ℕ). IsPlacing logs k (set lines entry.op.line (state_after counts (state_of lines entry.op.line) entry))
    (rests_of logs (set next n (place + 1))) (order ++ entry ∷ [])) long
    (subst (λ (rs : List (List Entry)).
    IsPlacing logs (length (lists_of_counts loads)) (set lines entry.op.line (state_after counts (state_of lines entry.op.line) entry)) rs
    (order ++ entry ∷ [])) (sym (rests_set logs next n (place + 1) long_next lt))
    (subst (λ (cs : List ℕ). IsPlacing logs (length (lists_of_counts loads)) (set lines entry.op.line (state_after cs (state_of lines entry.op.line) entry))
    (set rests n (drop (place + 1) (log_of logs n))) (order ++ entry ∷ [])) is more))

-- ---- the beginning, and how many

abbrev pub no_places : ℕ → List ℕ
no_places count = replicate count 0

zeros : (count n : ℕ) → get_or (no_places count) n 0 ≡ 0
zeros zero n = refl
zeros (suc count) zero = refl
zeros (suc count) (suc n) = zeros count n

pub nothing_placed : (logs : List (List Entry)) (loads : List (Vec ℕ)) (lines : List LineState) (order : List Entry) → AreOrderable logs (lists_of_counts loads)
    → order ≡ []
    → ((k : ℕ) → k < length loads → state_of lines k ≡ record { version = 0; left = get_or (get_or (lists_of_counts loads) k []) 0 0 })
    → IsPlacing logs (length loads) lines (rests_of logs (no_places 16)) order
nothing_placed logs loads lines order able none states =
    let long = counts_long loads in
    let whole = rests_whole logs (no_places 16) able.sixteen (zeros 16) in
    let start = placing_none logs (lists_of_counts loads) lines (rests_of logs (no_places 16)) able whole (λ line below. states line (omega arith)) in
    subst (λ (es : List Entry). IsPlacing logs (length loads) lines (rests_of logs (no_places 16)) es) (sym none)
    (subst (λ (k : ℕ). IsPlacing logs k lines (rests_of logs (no_places 16)) []) long start)

not_last : (k line : ℕ) → (k ≡ line → ⊥) → k < line + 1 → k < line
not_last k line ne below = elim (cases_lt k line) [ inl lt ↦ lt | inr past ↦ absurd (ne (omega arith)) ]

-- a line's state at the beginning
pub state_more : (lines : List LineState) (loads : List (Vec ℕ)) (line left : ℕ) → line < length lines
    → get_or (get_or (lists_of_counts loads) line []) 0 0 ≡ left
    → ((k : ℕ) → k < line → state_of lines k ≡ record { version = 0; left = get_or (get_or (lists_of_counts loads) k []) 0 0 }) → (k : ℕ) → k < line + 1
    → state_of (set lines line (record { version = 0; left = left })) k ≡ record { version = 0; left = get_or (get_or (lists_of_counts loads) k []) 0 0 }
state_more lines loads line left lt is before k below = grind (arith, cases_eq, get_or-set_same, get_or-set_other, not_last)

all_counted : (entries : List Entry) → count_by (λ (e : Entry). true) entries ≡ length entries
all_counted [] = refl
all_counted (e ∷ entries) = count-cons (λ (x : Entry). true) e entries ∙ omega (arith, all_counted entries)

-- no more entries are placed than there are
pub order_within : (logs : List (List Entry)) (count : ℕ) (lines : List LineState) (rests : List (List Entry)) (order : List Entry)
    → IsPlacing logs count lines rests order → length order ≤ length (all_of logs)
order_within logs count lines rests order is = grind (arith, all_counted)

-- ---- references to what is placed

pub entries_long : (refs : List (Bor Entry)) → length (entries_of refs) ≡ length refs
entries_long refs = length-map refs (λ (ref : Bor Entry). ref.now)

pub entries_pushed : (refs new : List (Bor Entry)) (ref : Bor Entry) (entry : Entry) → new ≡ refs ++ ref ∷ [] → ref.now ≡ entry
    → entries_of new ≡ entries_of refs ++ entry ∷ []
entries_pushed refs new ref entry is here =
    ap entries_of is ∙ (map-append (λ (r : Bor Entry). r.now) refs (ref ∷ []) ∙ ap (λ (e : Entry). entries_of refs ++ e ∷ []) here)
