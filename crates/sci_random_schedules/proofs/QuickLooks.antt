-- An event that a quick look passes over isn't enabled.
use Rattle.std.proofs.Common.{◌≡◌, ◌<◌, ◌≤◌, ℕ, Bool, true, false, if◌then◌else◌, List, [], ◌∷◌, length}
use Rattle.std.proofs.Common.{Option, Some, None, refl, ap, ◌∙◌, arith, inl, inr}
use Rattle.std.specs.Prelude.{◌⊎◌}
use Rattle.sci_text.specs.Schedule.{IsEventWithin}
use Rattle.std.specs.Prelude.{is_some, not}
use Rattle.sci_words.specs.declared.{event.{AskKind.{AskKind}, Event.{Event}}, operation.Op.{Op}}
use Rattle.sci_cache.specs.{Asking.{asking}, Cache.{Letter, line_of}}
use Rattle.sci_core.specs.declared.lane.LaneKind.{LaneKind, TheVariants.{Answers, Requests}}
use Rattle.sci_core.specs.Core.{Core, Takes, changes, lane_of, lane_place, node_at, node_of, performs, sends, side, stepping, taken_as, taken_from}
use Rattle.sci_core.specs.Node.{NodeOf, node_accepting, node_issuing, node_performing, node_refusing, node_serving}
use Rattle.sci_core.specs.Node.{replied_by}
use Rattle.sci_core.proofs.Step.Stepping.{stepping_idle, stepping_takes}
use Rattle.sci_random_schedules.specs.Walking.{moved_to}
use Rattle.sci_words.specs.declared.event.Event.TheVariants as event

pub none_of : {X : Type 0} (o : Option X) → is_some o ≡ false → o ≡ None
none_of None e = refl
none_of (Some x) e = cc

pub issues_not : (core : Core) (n : ℕ) (op : Op) → n < core.size.nodes → is_some (node_issuing (node_at core n) op) ≡ false
    → stepping core (event.Issue n op) ≡ None
issues_not core n op some not = stepping_idle core (event.Issue n op) some (ap changes (none_of (node_issuing (node_at core n) op) not))

pub performs_not : (core : Core) (n line : ℕ) → n < core.size.nodes → is_some (node_performing (node_at core n) line) ≡ false
    → stepping core (event.Perform n line) ≡ None
performs_not core n line some not =
    stepping_idle core (event.Perform n line) some (ap performs (none_of (node_performing (node_at core n) line) not))

if_either : {X : Type 0} (b : Bool) (x y : X) → x ≡ y → (if b then x else y) ≡ y
if_either true x y same = same
if_either false x y same = refl

pub asks_not : (core : Core) (n line : ℕ) (kind : AskKind) → n < core.size.nodes → asking (line_of (node_at core n).cache line).state kind ≡ None
    → stepping core (event.Ask n line kind) ≡ None
asks_not core n line kind some none_asked = grind (arith, stepping_idle, if_either)

pub replies_not : (core : Core) (n : ℕ) → n < core.size.nodes → is_some (node_at core n).waiting ≡ false → stepping core (event.Reply n) ≡ None
replies_not core n some not =
    stepping_idle core (event.Reply n) some
    (ap (λ (o : Option Letter). sends Answers (replied_by (node_at core n) o)) (none_of (node_at core n).waiting not))

-- ---- events that take a packet

no_packet : (lane : List Letter) → length lane ≤ 0 → lane ≡ []
no_packet [] none = refl
no_packet (letter ∷ lane) none = absurd (omega arith)

takes_none : (core : Core) (n place : ℕ) (taking : Letter → Option NodeOf) (lane : List Letter) → ((letter : Letter) → taking letter ≡ None)
    → taken_from core n place taking lane ≡ None
takes_none core n place taking [] never = refl
takes_none core n place taking (letter ∷ rest) never = ap (taken_as core n place rest) (never letter)

from_empty : (core : Core) (e : Event) (kind : LaneKind) (from : ℕ) (taking : Letter → Option NodeOf) → node_of e < core.size.nodes
    → from < core.size.nodes → side (node_at core (node_of e)) e ≡ Takes kind from taking → length (lane_of core kind from (node_of e)) ≤ 0
    → stepping core e ≡ None
from_empty core e kind from taking some f is none =
    stepping_takes core e kind from taking some f is
    ∙ ap (taken_from core (node_of e) (lane_place core.size.nodes kind from (node_of e)) taking) (no_packet (lane_of core kind from (node_of e)) none)

never_taken : (core : Core) (e : Event) (kind : LaneKind) (from : ℕ) (taking : Letter → Option NodeOf) → node_of e < core.size.nodes
    → from < core.size.nodes → side (node_at core (node_of e)) e ≡ Takes kind from taking → ((letter : Letter) → taking letter ≡ None)
    → stepping core e ≡ None
never_taken core e kind from taking some f is never =
    stepping_takes core e kind from taking some f is
    ∙ takes_none core (node_of e) (lane_place core.size.nodes kind from (node_of e)) taking (lane_of core kind from (node_of e)) never

if_waits : {X : Type 0} (b : Bool) (x : Option X) → b ≡ true → (if b then None else x) ≡ None
if_waits true x is = refl
if_waits false x is = cc

serves_none : (core : Core) (from n : ℕ) → from < core.size.nodes → n < core.size.nodes → length (lane_of core Requests from n) ≤ 0
    → stepping core (event.Serve from n) ≡ None
serves_none core from n f some none = from_empty core (event.Serve from n) Requests from (node_serving (node_at core n)) some f refl none

refuses_none : (core : Core) (from n : ℕ) → from < core.size.nodes → n < core.size.nodes → length (lane_of core Requests from n) ≤ 0
    → stepping core (event.Refuse from n) ≡ None
refuses_none core from n f some none = from_empty core (event.Refuse from n) Requests from (node_refusing (node_at core n)) some f refl none

pub accepts_none : (core : Core) (from n : ℕ) → from < core.size.nodes → n < core.size.nodes → length (lane_of core Answers from n) ≤ 0
    → stepping core (event.Accept from n) ≡ None
accepts_none core from n f some none = from_empty core (event.Accept from n) Answers from (node_accepting (node_at core n)) some f refl none

serves_not : (core : Core) (from n : ℕ) → from < core.size.nodes → n < core.size.nodes → is_some (node_at core n).waiting ≡ true
    → stepping core (event.Serve from n) ≡ None
serves_not core from n f some waits =
    never_taken core (event.Serve from n) Requests from (node_serving (node_at core n)) some f refl
    (λ letter. if_waits (is_some (node_at core n).waiting) _ waits)

refuses_not : (core : Core) (from n : ℕ) → from < core.size.nodes → n < core.size.nodes → is_some (node_at core n).waiting ≡ true
    → stepping core (event.Refuse from n) ≡ None
refuses_not core from n f some waits =
    never_taken core (event.Refuse from n) Requests from (node_refusing (node_at core n)) some f refl
    (λ letter. if_waits (is_some (node_at core n).waiting) _ waits)

-- the event is this one
pub moved_not : (core : Core) (n : ℕ) (e x : Event) → e ≡ x → stepping core (moved_to n x) ≡ None → stepping core (moved_to n e) ≡ None
moved_not core n e x is none = ap (λ (y : Event). stepping core (moved_to n y)) is ∙ none

-- whether there is one is the same of what is made of each
pub seen_same : {X Y : Type 0} (of : Option X → Option Y) → of None ≡ None → ((x : X) → is_some (of (Some x)) ≡ true) → (o : Option X)
    → is_some (of o) ≡ is_some o
seen_same of none some None = ap is_some none
seen_same of none some (Some x) = some x

-- a request isn't taken if none has come or an answer waits
pub takes_not : (core : Core) (e : Event) (from n : ℕ) → IsEventWithin core.size.nodes core.size.lines e → n < core.size.nodes
    → ((m : ℕ) × (e ≡ event.Serve from m)) ⊎ ((m : ℕ) × (e ≡ event.Refuse from m))
    → (length (lane_of core Requests from n) ≤ 0) ⊎ (is_some (node_at core n).waiting ≡ true) → stepping core (moved_to n e) ≡ None
takes_not core e from n within some (inl serves) why = grind (arith, serves_none, serves_not)
takes_not core e from n within some (inr refuses) why = grind (arith, refuses_none, refuses_not)
