-- The Issues and Performs of a node are those of its deeds, which keep to the window and issue its operations.
use Rattle.std.proofs.Common.{◌≡◌, ◌<◌, ◌+◌, ◌-◌, ◌*◌, ℕ, suc, Bool, if◌then◌else◌, List, [], ◌∷◌, ◌++◌, length, drop}
use Rattle.std.proofs.Common.{refl, sym, ap, subst, ◌∙◌, arith}
use Rattle.std.proofs.lemmas.{Bool.{eq-eqb}, List.{append-nil, drop_all}}
use Rattle.std.specs.List.{filter}
use Rattle.sci_history.proofs.Order.{filter-filter}
use Rattle.sci_words.specs.declared.{event.Event.{Event}, operation.Op.{Op}}
use Rattle.sci_policy.specs.Deeds.{Deed, Issues, Performs, Turns}
use Rattle.sci_drive.proofs.Keeping.{KeepTo, Keeps, issued_by}
use Rattle.sci_drive.specs.{declared.driver.Issuing.{Issuing}, Driving.{DriverOf, IsAnswered, opening_driver}, Rounds.{most_pending}}
use Rattle.sci_orders.proofs.ByNode.{IsPart, own_events}
use Rattle.sci_orders.specs.{Orders.{AreFew, issues_at, one_less_at, one_more_at}, Positions.{Operations, own_of}, Witness.{is_seen}}
use Rattle.sci_outcomes.proofs.TurnsAreQuiet.{works}
use Rattle.sci_words.specs.declared.event.Event.TheVariants as event

-- the events by which node n does deeds, but for those of turns
abbrev pub works_by : ℕ → List Deed → List Event
works_by n [] = []
works_by n (Issues op ∷ deeds) = event.Issue n op ∷ works_by n deeds
works_by n (Performs line entry ∷ deeds) = event.Perform n line ∷ works_by n deeds
works_by n (Turns progress ∷ deeds) = works_by n deeds

issues_by : (n : ℕ) (deeds : List Deed) → issues_at n (works_by n deeds) ≡ issued_by deeds
issues_by n [] = refl
issues_by n (Issues op ∷ deeds) =
    ap (λ (b : Bool). if b then op ∷ issues_at n (works_by n deeds) else issues_at n (works_by n deeds)) (eq-eqb n n refl)
    ∙ ap (λ (ops : List Op). op ∷ ops) (issues_by n deeds)
issues_by n (Performs line entry ∷ deeds) = issues_by n deeds
issues_by n (Turns progress ∷ deeds) = issues_by n deeds

few_by : (window n : ℕ) (deeds : List Deed) (waiting : ℕ → ℕ) (now left : ℕ) → waiting n ≡ now → KeepTo window now deeds left
    → AreFew window waiting (works_by n deeds)
few_by window n [] waiting now left is keep = tt
few_by window n (Issues op ∷ deeds) waiting now left is keep =
    let more : one_more_at n waiting n ≡ waiting n + 1 = ap (λ (b : Bool). if b then waiting n + 1 else waiting n) (eq-eqb n n refl) in (
      subst (λ (k : ℕ). k < window) (sym is) keep.0,
      few_by window n deeds (one_more_at n waiting) (suc now) left (omega (arith, more, is)) keep.1,
    )
few_by window n (Performs line entry ∷ deeds) waiting now left is keep =
    let less : one_less_at n waiting n ≡ waiting n - 1 = ap (λ (b : Bool). if b then waiting n - 1 else waiting n) (eq-eqb n n refl) in
    let one = keep.1 in
    few_by window n deeds (one_less_at n waiting) keep.0 left (omega (arith, less, is, one)) keep.2
few_by window n (Turns progress ∷ deeds) waiting now left is keep = few_by window n deeds waiting now left is keep

long_by : (window n : ℕ) (deeds : List Deed) (now left : ℕ) → KeepTo window now deeds left
    → length (works_by n deeds) + left ≡ length (issued_by deeds) * 2 + now
long_by window n [] now left keep = omega (arith, keep)
long_by window n (Issues op ∷ deeds) now left keep = let rest = long_by window n deeds (suc now) left keep.1 in omega (arith, rest)
long_by window n (Performs line entry ∷ deeds) now left keep =
    let rest = long_by window n deeds keep.0 left keep.2 in
    let one = keep.1 in
    omega (arith, rest, one)
long_by window n (Turns progress ∷ deeds) now left keep = long_by window n deeds now left keep

-- a new driver of a node's operations has come to its end by deeds: they issue all, and none waits
pub record IsDriven (issuing : Issuing) (own : List Op) (deeds : List Deed) : Type 0 where
  pub issues : issued_by deeds ≡ own
  pub keep : KeepTo (most_pending issuing) 0 deeds 0

pub driven : (issuing : Issuing) (own : List Op) (deeds : List Deed) (old new : DriverOf) → old ≡ opening_driver own issuing → Keeps old new deeds
    → IsAnswered new → IsDriven issuing own deeds
driven issuing own deeds old new is keeps answered =
    let from = subst (λ (d : DriverOf). Keeps d new deeds) is keeps in
    let none : drop new.next new.script ≡ [] = drop_all new.next new.script (let all = answered.0 in omega (arith, all)) in
    let left : length new.pending ≡ 0 = ap (λ (lines : List ℕ). length lines) answered.1 in
    record {
      issues = sym (from.issues ∙ (ap (λ (ops : List Op). issued_by deeds ++ ops) none ∙ append-nil (issued_by deeds)));
      keep = subst (λ (k : ℕ). KeepTo (most_pending issuing) 0 deeds k) left from.keep;
    }

-- what the node does of a schedule is its part of an order of the script
pub part_of : (operations : Operations) (n : ℕ) (issuing : Issuing) (deeds : List Deed) (schedule : List Event)
    → IsDriven issuing (own_of operations n) deeds → works n schedule ≡ works_by n deeds
    → IsPart operations (most_pending issuing) n (own_events n (filter is_seen schedule))
part_of operations n issuing deeds schedule does is = grind (arith, own_events, filter-filter, long_by, issued_by, issues_by, few_by)
