-- That deeds add up, which a worker and its post owe; no contract of a public function says it.
use Rattle.std.specs.{Prelude.{◌≡◌, ◌≢◌, ◌≤◌, ℕ, List, [], ◌++◌, length, Option, Some, None}, List.{AllByRecursion}}
use Rattle.std.proofs.{Common.{refl, sym, ap, subst, ◌∙◌}, lemmas.List.{append-nil, append_assoc}}
use Rattle.sci_history.proofs.Order.{all-append}
use Rattle.sci_words.specs.declared.{event.Event.{Event}, limits.TheConstants.{MAX_EVENTS}}
use Rattle.sci_text.specs.Schedule.{ScheduleValue}
use Rattle.sci_core.specs.Core.{node_of}
use Rattle.sci_policy.specs.{declared.progress.Progress.{Progress}, Deeds.{Deed}, Policy.{PolicyOf}}
use Rattle.sci_policy.proofs.Deeds.{deeds_on}
use Rattle.sci_runs.specs.{declared.fault.RunFault.{RunFault, TheVariants.{TooMany}}, Recorded.{Course, KeepsLoss, RecorderOf, course_of}}
use Rattle.sci_runs.specs.Deeds.{AddsOwn, Does, Fills, IsDeed, IsTurnSoFar, standing}

-- ---- events

pub adds_itself : (n : ℕ) (events : List Event) → AddsOwn n events events
adds_itself n events = ([], sym (append-nil events), tt)

pub adds_then : (n m : ℕ) (old mid new : List Event) → m ≡ n → AddsOwn n old mid → AddsOwn m mid new → AddsOwn n old new
adds_then n m old mid new same one two = (
  one.0 ++ two.0,
  two.1 ∙ (ap (λ (events : List Event). events ++ two.0) one.1 ∙ append_assoc old one.0 two.0),
  all-append (λ e. node_of e ≡ n) one.0 two.0 one.2 (subst (λ (k : ℕ). AllByRecursion (λ e. node_of e ≡ k) two.0) same two.2),
)

-- ---- what a recorder goes through

-- What deeds of node n do between two moments of a recorder: an event that was lost stays lost, and then nothing more is
-- recorded; if none was lost, they have made all events; and if one was, since there were too many, they have filled the schedule.
pub record DoesDeeds (n : ℕ) (deeds : List Deed) (before : PolicyOf) (old : RecorderOf) (after : PolicyOf) (new : RecorderOf) : Type 0 where
  pub keeps : KeepsLoss old new
  pub does : new.lost ≡ None → Does n deeds before (course_of old) after (course_of new)
  pub fills : old.lost ≡ None → new.lost ≡ Some TooMany → MAX_EVENTS ≤ length new.schedule.events → Fills n deeds before (course_of old)

-- what a turn of node n that is refused does: an event was lost, and the others are those of the turn
pub record Stops (n : ℕ) (before : PolicyOf) (old : RecorderOf) (after : PolicyOf) (new : RecorderOf) : Type 0 where
  pub keeps : KeepsLoss old new
  pub lost : new.lost ≢ None
  pub turn : (progress : Progress) × IsTurnSoFar n before (course_of old) after (course_of new) progress

-- what a node's policy remembers, and the recorder, at one moment
pub record Place : Type 0 where
  pub policy : PolicyOf
  pub recorder : RecorderOf

abbrev pub place : PolicyOf → RecorderOf → Place
place policy recorder = record { policy = policy; recorder = recorder }

abbrev pub DoesDeedsAt : ℕ → Place → List Deed → Place → Type 0
DoesDeedsAt n old deeds new = DoesDeeds n deeds old.policy old.recorder new.policy new.recorder

abbrev pub StopsAt : ℕ → Place → Place → Type 0
StopsAt n old new = Stops n old.policy old.recorder new.policy new.recorder

-- what is lost in the end, was lost by then, or not
pub lost_by : (lost later : Option RunFault) → ((fault : RunFault) → lost ≡ Some fault → later ≡ Some fault) → later ≡ None → lost ≡ None
lost_by None later keeps none = refl
lost_by (Some fault) later keeps none = let gone = keeps fault refl in cc

pub unlost : (n : ℕ) (deeds : List Deed) (p q : PolicyOf) (x y : RecorderOf) → DoesDeeds n deeds p x q y → y.lost ≡ None → x.lost ≡ None
unlost n deeds p q x y goes none = lost_by x.lost y.lost (λ fault is. (goes.keeps fault is).0) none

-- what fills the schedule does so behind other deeds
filled_on : (n : ℕ) (p q : PolicyOf) (x y : Course) (deeds more : List Deed) → Does n deeds p x q y → Fills n more q y → Fills n (deeds ++ more) p x
filled_on n p q x y deeds more one two = record {
  first = deeds ++ two.first;
  rest = two.rest;
  are = ap (λ (ds : List Deed). deeds ++ ds) two.are ∙ sym (append_assoc deeds two.first two.rest);
  policy = two.policy;
  full = two.full;
  does = deeds_on (IsDeed n) deeds two.first (standing p x) (standing q y) (standing two.policy two.full) one two.does;
  many = two.many;
}

-- and before others
filled_before : (n : ℕ) (p : PolicyOf) (x : Course) (deeds more : List Deed) → Fills n deeds p x → Fills n (deeds ++ more) p x
filled_before n p x deeds more one = record {
  first = one.first;
  rest = one.rest ++ more;
  are = ap (λ (ds : List Deed). ds ++ more) one.are ∙ append_assoc one.first one.rest more;
  policy = one.policy;
  full = one.full;
  does = one.does;
  many = one.many;
}

-- the schedule is filled before the second moment, or after it
filled_by : (n : ℕ) (deeds more : List Deed) (p q r : PolicyOf) (x y z : RecorderOf) (lost : Option RunFault) → y.lost ≡ lost → DoesDeeds n deeds p x q y
    → DoesDeeds n more q y r z → x.lost ≡ None → z.lost ≡ Some TooMany → MAX_EVENTS ≤ length z.schedule.events → Fills n (deeds ++ more) p (course_of x)
filled_by n deeds more p q r x y z None is one two none many full =
    filled_on n p q (course_of x) (course_of y) deeds more (one.does is) (two.fills is many full)
filled_by n deeds more p q r x y z (Some fault) is one two none many full =
    let kept = two.keeps fault is in
    filled_before n p (course_of x) deeds more
    (one.fills none (is ∙ (sym kept.0 ∙ many)) (subst (λ (s : ScheduleValue). MAX_EVENTS ≤ length s.events) kept.1 full))

pub goes_itself : (n : ℕ) (p : PolicyOf) (x : RecorderOf) → DoesDeeds n [] p x p x
goes_itself n p x = record {
  keeps = λ fault is. (is, refl);
  does = λ none. refl;
  fills = λ none many full. let other : None ≡ Some TooMany = sym none ∙ many in cc;
}

pub goes_on : (n : ℕ) (deeds more : List Deed) (p q r : PolicyOf) (x y z : RecorderOf) → DoesDeeds n deeds p x q y → DoesDeeds n more q y r z
    → DoesDeeds n (deeds ++ more) p x r z
goes_on n deeds more p q r x y z one two = record {
  keeps = λ fault is. ((two.keeps fault (one.keeps fault is).0).0, (two.keeps fault (one.keeps fault is).0).1 ∙ (one.keeps fault is).1);
  does = λ none.
      deeds_on (IsDeed n) deeds more (standing p (course_of x)) (standing q (course_of y)) (standing r (course_of z))
      (one.does (unlost n more q r y z two none)) (two.does none);
  fills = filled_by n deeds more p q r x y z y.lost refl one two;
}
