-- The events of a turn, each made and counted.
use Rattle.std.proofs.Common.{◌≡◌, ◌⊎◌, ℕ, None, Some, refl, sym, ap, subst, ◌∙◌, inl, inr}
use Rattle.sci_words.specs.declared.event.{AskKind.{AskKind}, Event.{Event}}
use Rattle.sci_cache.specs.Cache.{Letter}
use Rattle.sci_core.specs.{declared.lane.LaneKind.TheVariants.{Requests}, Core.{Core, node_at}, Node.{NodeOf}}
use Rattle.sci_core.proofs.Basics.Options.{same_some}
use Rattle.sci_policy.specs.declared.{decision.Decision.{Decision}, progress.Progress.{Progress}}
use Rattle.sci_policy.specs.{declared.want.Want.TheVariants.{Ask}, Policy.{PolicyOf, decided, next_policy, next_wanted}}
use Rattle.sci_policy.specs.Turn.{IsTurnEvent, counted, decided_event}
use Rattle.sci_turn.specs.{Posts.{IsTaken, PostOf, node_in}, Moves.{Decides, IsAsked, Stage, stage, taken_next}, Whole.{Makes}}
use Rattle.sci_turn.proofs.Moments.{taken_event}
use Rattle.sci_words.specs.declared.event.Event.TheVariants as event
use Rattle.sci_policy.specs.declared.decision.Decision.TheVariants as decision

pub take_is_own : (d : Decision) (from n : ℕ) (e : Event) → Some e ≡ decided_event d from n → IsTurnEvent n e
take_is_own decision.Keep from n e is = cc
take_is_own decision.Refuse from n e is = subst (IsTurnEvent n) (sym (same_some _ _ is)) (record { own = refl; kind = refl })
take_is_own decision.Serve from n e is = subst (IsTurnEvent n) (sym (same_some _ _ is)) (record { own = refl; kind = refl })

-- a request is served or refused
pub takes_by : (d : Decision) (from n : ℕ) (e : Event) (old new : Stage) → Some e ≡ decided_event d from n → Makes e old new
    → Makes (event.Serve from n) old new ⊎ Makes (event.Refuse from n) old new
takes_by decision.Keep from n e old new is made = cc
takes_by decision.Refuse from n e old new is made = inr (subst (λ (v : Event). Makes v old new) (same_some _ _ is) made)
takes_by decision.Serve from n e old new is made = inl (subst (λ (v : Event). Makes v old new) (same_some _ _ is) made)

decides_by : (before after : PolicyOf) (core : Core) (n from : ℕ) (d : Decision) (e : Event) → taken_next before core from n ≡ decided_event d from n
    → Some e ≡ decided_event d from n → after ≡ record before { served = Some from } → Decides before core n e after
decides_by before after core n from decision.Keep e taken is noted = cc
decides_by before after core n from decision.Refuse e taken is noted =
    subst (λ (v : Event). Decides before core n v after) (sym (same_some _ _ is)) (taken, noted)
decides_by before after core n from decision.Serve e taken is noted =
    subst (λ (v : Event). Decides before core n v after) (sym (same_some _ _ is)) (taken, noted)

-- a request is taken as the policy decides
pub makes_taken : (before after : PolicyOf) (old new : PostOf) (n from : ℕ) (d : Decision) (e : Event) (letter : Letter) (told tells : Progress) → n ≡ old.me
    → (node_in old).waiting ≡ None → decided before (node_in old) letter ≡ d → Some e ≡ decided_event d from n
    → IsTaken old Requests from letter e new → after ≡ record before { served = Some from } → tells ≡ counted told e
    → Makes e (stage before old told) (stage after new tells)
makes_taken before after old new n from d e letter told tells me free decides event_is taken noted is =
    let mid = taken.made.mid in
    let still = taken.made.still in
    let here : Some e ≡ decided_event d from mid.me = event_is ∙ ap (decided_event d from) (me ∙ sym still.same.me) in
    let free_then : (node_in mid).waiting ≡ None = ap (λ (m : NodeOf). m.waiting) still.node ∙ free in
    let decides_then : decided before (node_in mid) letter ≡ d = ap (λ (m : NodeOf). decided before m letter) still.node ∙ decides in
    let next : taken_next before mid.core from mid.me ≡ decided_event d from mid.me =
    taken_event before from mid letter taken.front free_then ∙ ap (λ (x : Decision). decided_event x from mid.me) decides_then in
    record {
      made = taken.made;
      decides = subst (λ (m : ℕ). Decides before mid.core m e after) still.same.me (decides_by before after mid.core mid.me from d e next here noted);
      counted = is;
    }

-- the policy wants what is asked
pub makes_asked : (before after : PolicyOf) (old new : PostOf) (line : ℕ) (kind : AskKind) (told tells : Progress)
    → next_wanted before (node_in old) ≡ Some (Ask line kind) → after ≡ next_policy before (node_in old)
    → IsAsked (event.Ask old.me line kind) old new told tells → Makes (event.Ask old.me line kind) (stage before old told) (stage after new tells)
makes_asked before after old new line kind told tells wanted noted asked =
    let mid = asked.made.mid in
    let still = asked.made.still in
    let node : node_at mid.core old.me ≡ node_in old = ap (node_at mid.core) (sym still.same.me) ∙ still.node in
    record {
      made = asked.made;
      decides = (ap (next_wanted before) node ∙ wanted, noted ∙ ap (next_policy before) (sym node));
      counted = asked.counted;
    }
