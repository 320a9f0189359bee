-- The two kinds of marks of a policy, and which lines have them: draining lines and due lines.
use Rattle.std.proofs.Common.{◌≡◌, ◌<◌, ◌+◌, ℕ, nat_lt, Bool, true, false, List}
use Rattle.std.proofs.Common.{Option, refl, rules}
use Rattle.sci_words.specs.declared.{limits.TheConstants.{MAX_LINES}}
use Rattle.sci_cache.specs.{Kinds.{has_fresh_sharers, has_sharers}}
use Rattle.sci_cache.specs.State.{CacheState, waits}
use Rattle.sci_core.specs.{Node.{NodeOf}}
use Rattle.sci_policy.specs.declared.{policy.TheConstants.{PATIENCE}}
use Rattle.sci_policy.specs.Lines.{can_be_due, can_drain, state_on}
use Rattle.sci_policy.specs.Policy.{PolicyOf, has, next_policy}
use Rattle.sci_policy.specs.Policy.{turned}
use Rattle.sci_policy.proofs.{Patience.{draining_sets, draining_stays, due_sets}, PolicyLaws.{due_stays}}
use Rattle.sci_fair.proofs.Kept.{Class, Keeps, has_fresh_next, keeps_drain, keeps_fresh}

-- ---- marks

-- marks of a policy: those of which lines are kept, and which lines are marked when patience ends
pub record Marking : Type 0 where
  pub marks : PolicyOf → List Bool
  pub class : CacheState → Bool
  pub last : CacheState → Bool
  pub stays : (policy : PolicyOf) (node : NodeOf) (line : ℕ) → line < MAX_LINES → has (marks policy) line ≡ true → class (state_on node line) ≡ true
      → has (marks (next_policy policy node)) line ≡ true
  pub sets : (policy : PolicyOf) (node : NodeOf) (line : ℕ) → line < MAX_LINES → nat_lt (policy.patience + 1) PATIENCE ≡ false
      → last (state_on node line) ≡ true → has (marks (next_policy policy node)) line ≡ true
  pub served : (policy : PolicyOf) (o : Option ℕ) → marks (record policy { served = o }) ≡ marks policy
  pub turns : (policy : PolicyOf) → marks (turned policy) ≡ marks policy
  pub held : (s : CacheState) → class s ≡ true → last s ≡ false → waits s ≡ true
  pub kept : Keeps (λ work s. class s) false

-- the lines that lose their mark
abbrev pub gone : Marking → Class
gone m = record { test = λ work s. m.class s; value = false; kept = m.kept }

-- ---- draining lines

pub purging_waits : (s : CacheState) → can_drain s ≡ true → has_sharers s ≡ false → waits s ≡ true
purging_waits s is none = search rules

abbrev pub draining : Marking
draining = record {
  marks = λ policy. policy.draining;
  class = can_drain;
  last = has_sharers;
  stays = draining_stays;
  sets = draining_sets;
  served = λ policy o. refl;
  turns = λ policy. refl;
  held = purging_waits;
  kept = keeps_drain;
}

-- ---- due lines

pub fresh_due : (s : CacheState) → has_fresh_next s ≡ true → can_be_due s ≡ true
fresh_due s is = search rules

pub claiming_waits : (s : CacheState) → has_fresh_next s ≡ true → has_fresh_sharers s ≡ false → waits s ≡ true
claiming_waits s is none = search rules

abbrev pub due : Marking
due = record {
  marks = λ policy. policy.due;
  class = has_fresh_next;
  last = has_fresh_sharers;
  stays = λ policy node line small marked is. due_stays policy node line small marked (fresh_due (state_on node line) is);
  sets = due_sets;
  served = λ policy o. refl;
  turns = λ policy. refl;
  held = claiming_waits;
  kept = keeps_fresh;
}
