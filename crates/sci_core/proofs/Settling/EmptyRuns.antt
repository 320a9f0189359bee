-- Rounds that bring the lines to their homes, one after another.
use Rattle.std.proofs.{Common.{◌≡◌, ℕ, ◌+◌, ◌*◌, ◌<◌, ◌≤◌, Bool, ◌∙◌, arith}, Math.Nat.{mul-le-mul_left}}
use Rattle.std.proofs.lemmas.{Bool.{cases_lt}, List.{get_or_past}}
use Rattle.sci_words.specs.declared.event.{AskKind.{AskKind}, Event.{Event}}
use Rattle.sci_cache.specs.State.{Out}
use Rattle.sci_core.specs.{Core.{Core}, Draining.{IsDrained}, Reached.{IsReached}}
use Rattle.sci_core.specs.{Rounds.{AreOut, IsNext, IsRound, rank}, Settling.{KeepsPending, Leads, LeadsOn, exchanges, pending_count}}
use Rattle.sci_core.specs.Shape.{state_at}
use Rattle.sci_core.proofs.Settling.{Emptying.{next_lowers}, Leading.{leads_join, leads_on}}
use Rattle.sci_core.proofs.Settling.{Ranks.{few_rounds, sum_over, sum_same}, Resting.{out_beyond}}
use Rattle.sci_core.proofs.WellFormed.WellFormedSteps.{reached_well}

-- rounds so far
pub record Emptied (old new : Core) (count : ℕ) : Type 0 where
  pub leads : Leads exchanges old new count
  pub drained : IsDrained new
  pub few : count + 4 * rank new ≤ 4 * rank old
  pub kept : KeepsPending old new

-- what is pending stays
pub pending_same : (core new : Core) → KeepsPending core new → pending_count new ≡ pending_count core
pending_same core new kept = grind (arith, sum_same, sum_over)

pub emptied_more : (old mid new : Core) (n line : ℕ) (ask : AskKind) (count : ℕ) → Emptied old mid count → IsReached mid → n < mid.size.nodes
    → line < mid.size.lines → IsNext mid line n ask → IsRound mid new n line ask → Leads exchanges mid new 4 → IsDrained new → Emptied old new (count + 4)
emptied_more old mid new n line ask count so reached lt inside next round leads drained =
    let less = (next_lowers mid n line ask reached so.drained lt inside next).lowers new round in
    let few = so.few in
    record {
      leads = leads_join exchanges old mid new count 4 so.leads leads;
      drained = drained;
      few = omega arith;
      kept = record {
        size = round.answered.size ∙ so.kept.size;
        pending = λ m. round.answered.pending m ∙ so.kept.pending m;
      };
    }

-- the rounds are few
pub few_events : (core : Core) → IsReached core → rank core ≤ 2048
few_events core reached = grind (arith, few_rounds, mul-le-mul_left)

-- a line beyond the machine's has no entry
pub all_out_beyond : (core : Core) → IsReached core → ((line n : ℕ) → line < core.size.lines → state_at core line n ≡ Out) → AreOut core
all_out_beyond core reached out line n = grind (arith, cases_lt, reached_well, get_or_past, out_beyond)

-- memory was refused later
pub refused_after : (may : Event → Bool) (old mid new : Core) (count : ℕ) → Leads may old mid count → LeadsOn may mid new → LeadsOn may old new
refused_after may old mid new count leads on = leads_on may old new (count + on.count) (leads_join may old mid new count on.count leads on.leads)
