-- The rows of a chart, one event after another.
use Rattle.std.proofs.Common.{◌≡◌, ◌<◌, ◌≤◌, ℕ, ◌+◌, List, [], ◌∷◌, ◌++◌, length, drop, get_or, Bool, true, false, Option, Some, None, append_assoc, ◌∙◌}
use Rattle.std.proofs.{Common.{arith, ap, refl, subst, sym}, lemmas.Bool.{ltb-true, lt-leb}}
use Rattle.std.proofs.lemmas.List.{append-nil, drop_all, drop_more}
use Rattle.std.specs.Prelude.{◌&&◌, not, is_none, is_some, nat_le, filter, cond}
use Rattle.sci_words.specs.declared.event.Event.{Event}
use Rattle.sci_core.specs.Core.{Core, step, stepping}
use Rattle.sci_cache.specs.Cache.{Letter}
use Rattle.sci_statistics.specs.About.{letter_sent}
use Rattle.sci_charts.specs.declared.charting.{ChartRequest.{ChartRequest}, TextLines.{TextLines}}
use Rattle.sci_charts.specs.Rows.{AreRows, IsRow, Place, if_enabled, is_past, is_shown, is_within, places}
use Rattle.sci_charts.specs.Drawing.{Adds, AddsBy, IsFramed, chart_begin, chart_end}

-- ---- an event

-- what it adds stands in front of the rows behind it
first_added : (shown : Bool) (place : Place) (rest : List Place) (text after : List ℕ) → AddsBy shown place text → AreRows rest after
    → AreRows (cond shown (place ∷ rest) rest) (text ++ after)
first_added true place rest text after row rows = (text, (after, (row, (rows, refl))))
first_added false place rest text after none rows = rw none rows

not_none : {X : Type 0} (o : Option X) → not (is_none o) ≡ is_some o
not_none None = refl
not_none (Some x) = refl

-- an event that is shown adds its row
pub row_added : (request : ChartRequest) (core : Core) (number : ℕ) (e : Event) (dead : Bool) (letter : Option Letter) (text : List ℕ)
    → is_shown request (record { core = core; number = number; event = e }) ≡ true → dead ≡ is_none (stepping core e)
    → letter ≡ if_enabled (is_some (stepping core e)) (letter_sent core e) → IsRow (not dead) letter number e text
    → Adds request (record { core = core; number = number; event = e }) text
row_added request core number e dead letter text shown is_dead is_letter row =
    let place : Place = record { core = core; number = number; event = e } in
    let live : not dead ≡ is_some (stepping core e) = ap not is_dead ∙ not_none (stepping core e) in
    let sent = if_enabled (is_some (stepping core e)) (letter_sent core e) in
    let lettered : IsRow (not dead) sent number e text = subst (λ (o : Option Letter). IsRow (not dead) o number e text) is_letter row in
    subst (λ (b : Bool). AddsBy b place text) (sym shown) (subst (λ (b : Bool). IsRow b sent number e text) live lettered)

-- ---- behind the lines that are asked for

never_within : (lines : Option TextLines) (k n : ℕ) → is_past lines k ≡ true → k ≤ n → is_within lines n ≡ false
never_within None k n past up = let P = past in cc
never_within (Some lines) k n past up =
    let above : lines.last < k = ltb-true lines.last k past in
    let beyond : lines.last < n = omega (arith, above, up) in
    let out : nat_le n lines.last ≡ false = lt-leb n lines.last beyond in
    ap (λ (b : Bool). nat_le lines.first n && b) out ∙ and_false (nat_le lines.first n)
  where
    and_false : (b : Bool) → (b && false) ≡ false
    and_false true = refl
    and_false false = refl

none_left : (request : ChartRequest) (k : ℕ) → is_past request.events k ≡ true → (core : Core) (n : ℕ) (events : List Event) → k ≤ n
    → filter (is_shown request) (places core n events) ≡ []
none_left request k past core n [] up = refl
none_left request k past core n (e ∷ events) up =
    let place : Place = record { core = core; number = n; event = e } in
    let out = never_within request.events k n past up in
    let hidden : is_shown request place ≡ false = hides _ out in
    let rest = none_left request k past (step core e) (n + 1) events (omega (arith, up)) in
    ap (λ (b : Bool). cond b (place ∷ filter (is_shown request) (places (step core e) (n + 1) events))
    (filter (is_shown request) (places (step core e) (n + 1) events))) hidden ∙ rest
  where
    hides : (asked : Bool) {within : Bool} → within ≡ false → (asked && within) ≡ false
    hides true e = e
    hides false e = refl

-- ---- events one after another

-- whatever rows are left end the rows
pub record IsDrawnTo (request : ChartRequest) (all : List Place) (rows : List ℕ) (core : Core) (number : ℕ) (left : List Event) : Type 0 where
  pub ends : (rest : List ℕ) → AreRows (filter (is_shown request) (places core number left)) rest → AreRows all (rows ++ rest)

-- none yet
pub draws_first : (request : ChartRequest) (core : Core) (number : ℕ) (events : List Event)
    → IsDrawnTo request (filter (is_shown request) (places core number events)) [] core number events
draws_first request core number events = record { ends = λ (rest : List ℕ) rows. rows }

-- one event more
pub draws_more : (request : ChartRequest) (all : List Place) (rows : List ℕ) (core : Core) (number : ℕ) (events : List Event) (k : ℕ) (d : Event)
    (text : List ℕ) → k < length events → Adds request (record { core = core; number = number; event = get_or events k d }) text
    → IsDrawnTo request all rows core number (drop k events)
    → IsDrawnTo request all (rows ++ text) (step core (get_or events k d)) (number + 1) (drop (k + 1) events)
draws_more request all rows core number events k d text lt adds was = record {
  ends = λ (rest : List ℕ) are_rows.
      let e = get_or events k d in
      let place : Place = record { core = core; number = number; event = e } in
      let left = filter (is_shown request) (places (step core e) (number + 1) (drop (k + 1) events)) in
      let next : IsDrawnTo request all rows core number (e ∷ drop (k + 1) events) =
      subst (IsDrawnTo request all rows core number) (drop_more events k d lt) was in
      subst (AreRows all) (sym (append_assoc rows text rest))
      (next.ends (text ++ rest) (first_added (is_shown request place) place left text rest adds are_rows));
}

-- no event more
pub draws_all : (request : ChartRequest) (all : List Place) (rows : List ℕ) (core : Core) (number : ℕ) (events : List Event) (k : ℕ) → length events ≤ k
    → IsDrawnTo request all rows core number (drop k events) → AreRows all rows
draws_all request all rows core number events k past was =
    subst (AreRows all) (append-nil rows)
    (was.ends [] (subst (λ (left : List Event). AreRows (filter (is_shown request) (places core number left)) []) (sym (drop_all k events past)) refl))

-- no event more that is shown
pub draws_up_to : (request : ChartRequest) (all : List Place) (rows : List ℕ) (core : Core) (number : ℕ) (left : List Event)
    → is_past request.events number ≡ true → IsDrawnTo request all rows core number left → AreRows all rows
draws_up_to request all rows core number left past was =
    subst (AreRows all) (append-nil rows)
    (was.ends [] (subst (λ (l : List Place). AreRows l []) (sym (none_left request number past core number left (omega arith))) refl))

-- ---- behind what stands above the rows

pub record IsDrawnBehind (front : List ℕ) (request : ChartRequest) (all : List Place) (text : List ℕ) (core : Core) (number : ℕ) (left : List Event)
    : Type 0 where
  pub rows : List ℕ
  pub written : text ≡ front ++ rows
  pub drawn : IsDrawnTo request all rows core number left

pub behind_first : (front : List ℕ) (request : ChartRequest) (core : Core) (number : ℕ) (events : List Event)
    → IsDrawnBehind front request (filter (is_shown request) (places core number events)) front core number events
behind_first front request core number events =
    record { rows = []; written = sym (append-nil front); drawn = draws_first request core number events }

pub behind_more : (front : List ℕ) (request : ChartRequest) (all : List Place) (text new : List ℕ) (core : Core) (number : ℕ) (events : List Event)
    (k : ℕ) (d : Event) (row : List ℕ) → k < length events → new ≡ text ++ row
    → Adds request (record { core = core; number = number; event = get_or events k d }) row
    → IsDrawnBehind front request all text core number (drop k events)
    → IsDrawnBehind front request all new (step core (get_or events k d)) (number + 1) (drop (k + 1) events)
behind_more front request all text new core number events k d row lt appended adds was = record {
  rows = was.rows ++ row;
  written = appended ∙ (ap (λ (l : List ℕ). l ++ row) was.written ∙ append_assoc front was.rows row);
  drawn = draws_more request all was.rows core number events k d row lt adds was.drawn;
}

-- the chart begins as it began, and ends with its rows
pub framed : (begun : List ℕ) → (front : List ℕ) × (begun ≡ chart_begin ++ front) → (rows text chart : List ℕ) → text ≡ begun ++ rows
    → chart ≡ text ++ chart_end → IsFramed rows chart
framed begun front rows text chart written ended =
    let whole : chart ≡ begun ++ (rows ++ chart_end) = ended ∙ (ap (λ (l : List ℕ). l ++ chart_end) written ∙ append_assoc begun rows chart_end) in record {
      front = front.0;
      written = whole ∙ (ap (λ (l : List ℕ). l ++ (rows ++ chart_end)) front.1 ∙ append_assoc chart_begin front.0 (rows ++ chart_end));
    }
