-- What steady turns keep of a line: whatever is true of its state, and of what is pending, if each row of the tables that leaves the rank
-- keeps it.
use Rattle.std.proofs.Common.{◌≡◌, ◌==◌, ℕ, Bool, true, false, List, [], ◌∷◌, Option, Some, sym, subst, inl, inr, rules}
use Rattle.std.proofs.lemmas.Bool.{cases_eq}
use Rattle.std.specs.Prelude.{IfSome}
use Rattle.sci_words.specs.declared.event.{AskKind.{AskKind}, Event.{Event}}
use Rattle.sci_packets.specs.declared.body.Body.{Body}
use Rattle.sci_cache.specs.State.{CacheState, Claiming, Clearing, FreshHead, Head, Purging, Returning, Telling}
use Rattle.sci_cache.specs.{Accepting.{accepting}, Asking.{Asked, asking}, Kinds.{joins}, Serving.{serving}}
use Rattle.sci_core.specs.{Core.{Core, node_at}, Node.{NodeOf}}
use Rattle.sci_core.proofs.Basics.Options.{of_some}
use Rattle.sci_policy.specs.{Lines.{can_drain, state_on}, Policy.{PolicyOf, turned}}
use Rattle.sci_fair.specs.{Rank.{can_perform, rank, work_on}, Retries.{is_tried_once}}
use Rattle.sci_fair.specs.Steady.{AreSteadyTurns, Working, WorksByTurns}
use Rattle.sci_fair.proofs.Awaiting.{same_rank, same_work}
use Rattle.sci_fair.proofs.StateSteps.{By_accept, By_ask, By_serve, StateStep, Stays, state_step}
use Rattle.sci_fair.proofs.{Steadied.{IsSteady, Steadily}, SteadyTurns.{Held, steady_turn}}

-- each row of the tables that leaves the rank leaves what a test of a line answers
pub record Keeps (test : Option Bool → CacheState → Bool) (value : Bool) : Type 0 where
  pub accepts : (work : Option Bool) (s : CacheState) (a : Body) → test work s ≡ value
      → IfSome (accepting s a) (λ t. (rank work t == rank work s) ≡ true → test work t ≡ value)
  pub serves : (work : Option Bool) (s : CacheState) (m : ℕ) (r : Body) → test work s ≡ value
      → IfSome (serving s m r) (λ (served : CacheState × Body). (rank work served.0 == rank work s) ≡ true → test work served.0 ≡ value)
  pub asks : (work : Option Bool) (s : CacheState) (k : AskKind) → test work s ≡ value
      → IfSome (asking s k) (λ (asked : Asked). (rank work asked.next == rank work s) ≡ true → test work asked.next ≡ value)

-- a test of a line whose answer is kept
pub record Class : Type 0 where
  pub test : Option Bool → CacheState → Bool
  pub value : Bool
  pub kept : Keeps test value

abbrev pub IsIn : Class → ℕ → ℕ → Core → Type 0
IsIn class n line x = class.test (work_on (node_at x n) line) (state_on (node_at x n) line) ≡ class.value

-- ---- from event to event, and from turn to turn

step_kept : (class : Class) (e : Event) (line : ℕ) (work : Option Bool) (s t : CacheState) → StateStep e line s t → (rank work t == rank work s) ≡ true
    → class.test work s ≡ class.value → class.test work t ≡ class.value
step_kept class e line work s t (Stays same) keeps is = subst (λ (r : CacheState). class.test work r ≡ class.value) (sym same) is
step_kept class e line work s t (By_accept kind a accepts) keeps is =
    of_some (λ (r : CacheState). (rank work r == rank work s) ≡ true → class.test work r ≡ class.value) (accepting s a) t accepts
    (class.kept.accepts work s a is) keeps
step_kept class e line work s t (By_serve kind m r b serves) keeps is =
    of_some (λ (served : CacheState × Body). (rank work served.0 == rank work s) ≡ true → class.test work served.0 ≡ class.value) (serving s m r) (t, b) serves
    (class.kept.serves work s m r is) keeps
step_kept class e line work s t (By_ask kind k asked asks next) keeps is =
    subst (λ (r : CacheState). class.test work r ≡ class.value) next
    (of_some (λ (a : Asked). (rank work a.next == rank work s) ≡ true → class.test work a.next ≡ class.value) (asking s k) asked asks
    (class.kept.asks work s k is) (subst (λ (r : CacheState). (rank work r == rank work s) ≡ true) (sym next) keeps))

pub kept_event : (class : Class) (n line : ℕ) (p : PolicyOf) (x : Core) (e : Event) (q : PolicyOf) (y : Core) → IsSteady n p x e q y → IsIn class n line x
    → IsIn class n line y
kept_event class n line p x e q y steady is =
    subst (λ (w : Option Bool). class.test w (state_on (node_at y n) line) ≡ class.value) (sym (same_work n p x e q y line steady))
    (step_kept class e line (work_on (node_at x n) line) (state_on (node_at x n) line) (state_on (node_at y n) line)
    (state_step n p x q y line e steady) (same_rank n p x e q y line steady) is)

pub kept_events : (class : Class) (n line : ℕ) (p : PolicyOf) (x : Core) (events : List Event) (q : PolicyOf) (y : Core) → Steadily n p x events q y
    → IsIn class n line x → IsIn class n line y
kept_events class n line p x [] q y steady is = subst (IsIn class n line) steady.1 is
kept_events class n line p x (e ∷ events) q y steady is =
    kept_events class n line steady.0 steady.1 events q y steady.3 (kept_event class n line p x e steady.0 steady.1 steady.2 is)

-- when the node has accepted, when it has taken requests, and when its turn has ended
pub record KeptIn (class : Class) (n line : ℕ) (old new : Working) (held : Held n old new) : Type 0 where
  pub accepted : IsIn class n line old.core → IsIn class n line held.trace.c1
  pub taken : IsIn class n line held.trace.c1 → IsIn class n line held.trace.c2
  pub ended : IsIn class n line held.trace.c2 → IsIn class n line new.core

pub kept_in : (class : Class) (n line : ℕ) (old new : Working) (held : Held n old new) → KeptIn class n line old new held
kept_in class n line old new held =
    let t = held.trace in
    record {
      accepted = kept_events class n line (turned (old.policies n)) old.core t.e1 t.p1 t.c1 held.accepts;
      taken = kept_events class n line t.p1 t.c1 t.e2 t.p2 t.c2 held.takes;
      ended = kept_events class n line t.p2 t.c2 t.e3 t.p3 new.core held.asks;
    }

pub kept_turn : (class : Class) (i n line : ℕ) (old new : Working) → (held : Held i old new) → IsIn class n line old.core → IsIn class n line new.core
kept_turn class i n line old new held is = elim (cases_eq n i) [
  | inr other ↦
      subst (λ (part : NodeOf). class.test (work_on part line) (state_on part line) ≡ class.value) (sym (held.trace.asked.since.others n other)) is
  | inl same ↦
      let begun : IsIn class i line old.core = subst (λ (m : ℕ). IsIn class m line old.core) same is in
      let kept = kept_in class i line old new held in
      subst (λ (m : ℕ). IsIn class m line new.core) (sym same) (kept.ended (kept.taken (kept.accepted begun)))
]

pub kept_along : (class : Class) (n line : ℕ) (order : List ℕ) (first last : Working) → WorksByTurns first.core → AreSteadyTurns order first last
    → IsIn class n line first.core → IsIn class n line last.core
kept_along class n line [] first last good turns is = subst (λ (w : Working). IsIn class n line w.core) turns is
kept_along class n line (i ∷ order) first last good turns is =
    let held = steady_turn i first turns.0 good turns.1 in
    kept_along class n line order turns.0 last held.good turns.2 (kept_turn class i n line first turns.0 held is)

-- ---- classes

-- a line that is no head of a list with a next entry, and doesn't purge, doesn't become one of them
pub keeps_drain : Keeps (λ work s. can_drain s) false
keeps_drain = record { accepts = λ work s a is. search rules; serves = λ work s m r is. search rules; asks = λ work s k is. search rules }

abbrev pub not_draining : Class
not_draining = record { test = λ work s. can_drain s; value = false; kept = keeps_drain }

-- nor does one become the head of a fresh list with a next entry, or claim such a list
abbrev pub has_fresh_next : CacheState → Bool
has_fresh_next (FreshHead (Some f) c) = true
has_fresh_next (Claiming (Some f) c) = true
has_fresh_next _ = false

pub keeps_fresh : Keeps (λ work s. has_fresh_next s) false
keeps_fresh = record { accepts = λ work s a is. search rules; serves = λ work s m r is. search rules; asks = λ work s k is. search rules }

-- a line that joins a list, or leaves one and has to tell so, goes on to, and no other begins to
abbrev pub is_needy : CacheState → Bool
is_needy (Telling r w sent) = true
is_needy s = joins s

pub keeps_needy : (b : Bool) → Keeps (λ work s. is_needy s) b
keeps_needy b = record { accepts = λ work s a is. search rules; serves = λ work s m r is. search rules; asks = λ work s k is. search rules }

abbrev pub needy : Bool → Class
needy b = record { test = λ work s. is_needy s; value = b; kept = keeps_needy b }

-- a line that leads its list goes on to lead it
abbrev pub leads : CacheState → Bool
leads (Head f c) = true
leads (FreshHead f c) = true
leads (Purging q c) = true
leads (Claiming f c) = true
leads (Clearing c) = true
leads (Returning c) = true
leads _ = false

pub keeps_leading : Keeps (λ work s. leads s) true
keeps_leading = record { accepts = λ work s a is. search rules; serves = λ work s m r is. search rules; asks = λ work s k is. search rules }

abbrev pub leading : Class
leading = record { test = λ work s. leads s; value = true; kept = keeps_leading }

-- what can be performed stays so
pub keeps_performable : Keeps can_perform true
keeps_performable = record { accepts = λ work s a is. search rules; serves = λ work s m r is. search rules; asks = λ work s k is. search rules }

abbrev pub performable : Class
performable = record { test = can_perform; value = true; kept = keeps_performable }

-- what is tried once, is tried once
pub keeps_once : Keeps (λ work s. is_tried_once s) true
keeps_once = record { accepts = λ work s a is. search rules; serves = λ work s m r is. search rules; asks = λ work s k is. search rules }

abbrev pub once : Class
once = record { test = λ work s. is_tried_once s; value = true; kept = keeps_once }
