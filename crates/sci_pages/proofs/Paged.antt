-- The parts of a page, one event after another.
use Rattle.std.proofs.Common.{◌≡◌, ◌<◌, ◌≤◌, ℕ, ◌+◌, List, [], ◌∷◌, ◌++◌, length, drop, get_or, Bool, true, append_assoc, ◌∙◌}
use Rattle.std.proofs.Common.{arith, ap, refl, subst, sym}
use Rattle.std.proofs.lemmas.List.{append-nil, drop_all, drop_more}
use Rattle.std.specs.Prelude.{filter, cond, IfSome, Option, Some, None, unwrap_or}
use Rattle.sci_words.specs.declared.event.Event.{Event}
use Rattle.sci_core.specs.{Core.{Core, step, stepping}, Reached.{IsReached}, Size.{Size}}
use Rattle.sci_core.proofs.WellFormed.WellFormedSteps.{reached_stepping, reached_well, step_well}
use Rattle.sci_charts.specs.{declared.charting.ChartRequest.{ChartRequest}, Rows.{Place, is_shown, places}}
use Rattle.sci_pages.specs.PageAnswer.{AreParts, IsPart}

-- ---- a step of a machine

step_of : (core : Core) (e : Event) (stepped : Option Core) → stepping core e ≡ stepped → IsReached core → IsReached (unwrap_or stepped core)
step_of core e None is reached = reached
step_of core e (Some next) is reached = reached_stepping core next e reached is

pub reached_step : (core : Core) (e : Event) → IsReached core → IsReached (step core e)
reached_step core e reached = step_of core e (stepping core e) refl reached

-- it keeps the lines
pub line_stays : (core new : Core) (e : Event) (line : Option ℕ) → IsReached core → new ≡ step core e → IfSome line (λ l. l < core.size.lines)
    → IfSome line (λ l. l < new.size.lines)
line_stays core new e line reached is inside =
    let same = ap (λ (c : Core). c.size.lines) is ∙ ap (λ (s : Size). s.lines) (step_well core e (reached_well core reached)).same in
    subst (λ (n : ℕ). IfSome line (λ l. l < n)) (sym same) inside

-- ---- what is left, at the next event

abbrev pub left_of : ChartRequest → Core → ℕ → List Event → List Place
left_of request core number events = filter (is_shown request) (places core number events)

abbrev pub place_of : Core → ℕ → Event → Place
place_of core number e = record { core = core; number = number; event = e }

module _ (request : ChartRequest) (core : Core) (number : ℕ) (events : List Event) (k : ℕ) (d : Event) where
  abbrev e : Event
  e = get_or events k d

  abbrev next : List Place
  next = left_of request (step core e) (number + 1) (drop (k + 1) events)

  first_left : (b : Bool) → k < length events → is_shown request (place_of core number e) ≡ b
      → left_of request core number (drop k events) ≡ cond b (place_of core number e ∷ next) next
  first_left b lt is = ap (λ (l : List Event). left_of request core number l) (drop_more events k d lt)
      ∙ ap (λ (b : Bool). cond b (place_of core number e ∷ next) next) is

-- ---- events one after another

-- whatever parts are left end the parts behind what stands in front, and this many are there
pub record IsPagedTo (front : List ℕ) (request : ChartRequest) (all : List Place) (text : List ℕ) (core : Core) (number : ℕ) (left : List Event) (count : ℕ)
    : Type 0 where
  pub parts : List ℕ
  pub written : text ≡ front ++ parts
  pub ends : (rest : List ℕ) → AreParts (left_of request core number left) rest → AreParts all (parts ++ rest)
  pub counted : length all ≡ count + length (left_of request core number left)

-- one event more
pub paged_more : (front : List ℕ) (request : ChartRequest) (all : List Place) (text new : List ℕ) (core : Core) (number : ℕ) (events : List Event) (k : ℕ)
    (d : Event) (count : ℕ) (first : List ℕ) → k < length events → is_shown request (place_of core number (get_or events k d)) ≡ true
    → new ≡ text ++ first → IsPart (place_of core number (get_or events k d)) first
    → IsPagedTo front request all text core number (drop k events) count
    → IsPagedTo front request all new (step core (get_or events k d)) (number + 1) (drop (k + 1) events) (count + 1)
paged_more front request all text new core number events k d count first lt shown appended part was =
    let same = first_left request core number events k d true lt shown in
    let long = ap (λ (ps : List Place). length ps) same in record {
      parts = was.parts ++ first;
      written = appended ∙ (ap (λ (l : List ℕ). l ++ first) was.written ∙ append_assoc front was.parts first);
      ends = λ (rest : List ℕ) parts.
          subst (AreParts all) (sym (append_assoc was.parts first rest))
          (was.ends (first ++ rest) (subst (λ (ps : List Place). AreParts ps (first ++ rest)) (sym same) (first, (rest, (part, (parts, refl))))));
      counted = let counted = was.counted in omega (arith, counted, long);
    }

-- no event more
pub paged_all : (front : List ℕ) (request : ChartRequest) (all : List Place) (text : List ℕ) (core : Core) (number : ℕ) (events : List Event) (k count : ℕ)
    → length events ≤ k → IsPagedTo front request all text core number (drop k events) count
    → (parts : List ℕ) × AreParts all parts × (length all ≡ count) × (text ≡ front ++ parts)
paged_all front request all text core number events k count past was =
    let none = drop_all k events past in
    let counted = was.counted ∙ ap (λ (l : List Event). count + length (left_of request core number l)) none in (
      was.parts,
      subst (AreParts all) (append-nil was.parts)
          (was.ends [] (subst (λ (l : List Event). AreParts (left_of request core number l) []) (sym none) refl)),
      omega (arith, counted),
      was.written,
    )
