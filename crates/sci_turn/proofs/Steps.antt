-- Steps of a turn, one after another.
use Rattle.std.proofs.Common.{◌≡◌, ◌<◌, ◌≤◌, ◌+◌, ◌-◌, ℕ, zero, suc, arith, List, [], refl, sym, ap, subst, ◌∙◌, inl, inr}
use Rattle.std.specs.List.{range_with_len}
use Rattle.sci_words.specs.declared.event.Event.{Event}
use Rattle.sci_core.specs.declared.lane.LaneKind.TheVariants.{Answers}
use Rattle.sci_policy.specs.{declared.progress.Progress.{Progress}, Policy.{PolicyOf}, Turn.{counted}}
use Rattle.sci_turn.specs.Posts.{IsStill, PostOf, lane_to}
use Rattle.sci_turn.specs.Moves.{Decides, Stage, stage}
use Rattle.sci_turn.specs.Whole.{Accepts, AcceptsFrom, InTurn, Makes, MakesNone, Takes, UpTo}
use Rattle.sci_turn.proofs.Stills.{still_itself, still_then}
use Rattle.sci_words.specs.declared.event.Event.TheVariants as event

pub none_at : (policy : PolicyOf) (report : Progress) (old new : PostOf) → IsStill old new → MakesNone (stage policy old report) (stage policy new report)
none_at policy report old new still = record { still = still; policy = refl; report = refl }

pub none_itself : (now : Stage) → MakesNone now now
none_itself now = record { still = still_itself now.post; policy = refl; report = refl }

pub none_then : (old mid new : Stage) → MakesNone old mid → MakesNone mid new → MakesNone old new
none_then old mid new one two =
    record { still = still_then old.post mid.post new.post one.still two.still; policy = two.policy ∙ one.policy; report = two.report ∙ one.report }

makes_after : (e : Event) (old mid new : Stage) → MakesNone old mid → Makes e mid new → Makes e old new
makes_after e old mid new none makes =
    let at = makes.made.mid in
    record {
      made = record {
        mid = at;
        still = still_then old.post mid.post at none.still makes.made.still;
        made = makes.made.made;
        same = makes.made.same;
        further = makes.made.further;
      };
      decides = subst (λ (p : PolicyOf). Decides p at.core old.post.me e new.policy) none.policy
          (subst (λ (n : ℕ). Decides mid.policy at.core n e new.policy) none.still.same.me makes.decides);
      counted = makes.counted ∙ ap (λ (p : Progress). counted p e) none.report;
    }

pub accepts_after : (from : ℕ) (old mid new : Stage) → MakesNone old mid → Accepts from mid new → Accepts from old new
accepts_after from old mid new none accepts =
    subst (λ (n : ℕ). Makes (event.Accept from n) old new) none.still.same.me (makes_after (event.Accept from mid.post.me) old mid new none accepts)

pub takes_after : (from : ℕ) (old mid new : Stage) → MakesNone old mid → Takes from mid new → Takes from old new
takes_after from old mid new none takes = record {
  taken = takes.taken;
  takes = elim takes.takes [
    | inl serves ↦ inl (subst (λ (n : ℕ). Makes (event.Serve from n) old takes.taken) none.still.same.me
        (makes_after (event.Serve from mid.post.me) old mid takes.taken none serves))
    | inr refuses ↦ inr (subst (λ (n : ℕ). Makes (event.Refuse from n) old takes.taken) none.still.same.me
        (makes_after (event.Refuse from mid.post.me) old mid takes.taken none refuses))
  ];
  replies = takes.replies;
}

-- ---- up to four times

-- a step was made this many times: what comes of the rest comes of all
abbrev pub HasMade : ℕ → (Stage → Stage → Type 0) → (Stage → Stage → Type 0) → Stage → Stage → Type 0
HasMade count Step Ends start now = (end : Stage) → UpTo (4 - count) Step Ends now end → UpTo 4 Step Ends start end

pub made_more : (count : ℕ) (Step Ends : Stage → Stage → Type 0) (start now next : Stage) → count < 4 → HasMade count Step Ends start now → Step now next
    → HasMade (count + 1) Step Ends start next
made_more count Step Ends start now next few made step = λ end rest.
    let left : 4 - count ≡ suc (4 - (count + 1)) = omega arith in
    made end (subst (λ (n : ℕ). UpTo n Step Ends now end) (sym left) (inr (next, step, rest)))

pub made_last : (count : ℕ) (Step Ends : Stage → Stage → Type 0) (start now end : Stage) → count < 4 → HasMade count Step Ends start now → Ends now end
    → UpTo 4 Step Ends start end
made_last count Step Ends start now end few made ends =
    let left : 4 - count ≡ suc (4 - (count + 1)) = omega arith in
    made end (subst (λ (n : ℕ). UpTo n Step Ends now end) (sym left) (inl ends))

pub made_all : (count : ℕ) (Step Ends : Stage → Stage → Type 0) (start now : Stage) → 4 ≤ count → HasMade count Step Ends start now → UpTo 4 Step Ends start now
made_all count Step Ends start now many made = grind arith

-- ---- for each node

-- a step was made for all nodes but these
abbrev pub HasPassed : (ℕ → Stage → Stage → Type 0) → List ℕ → List ℕ → Stage → Stage → Type 0
HasPassed Step others all start now = (end : Stage) → InTurn Step others now end → InTurn Step all start end

-- no answers have come from these nodes
pub passes_empty : (now end : Stage) (from count others : ℕ)
    → ((other : ℕ) → from ≤ other → other < from + count → lane_to now.post Answers other ≡ [])
    → InTurn AcceptsFrom (range_with_len (from + count) others) now end → InTurn AcceptsFrom (range_with_len from (count + others)) now end
passes_empty now end from zero others empty rest = grind arith
passes_empty now end from (suc count) others empty rest =
    let next : from + suc count ≡ from + 1 + count = omega arith in
    let more : suc count + others ≡ suc (count + others) = omega arith in
    subst (λ (k : ℕ). InTurn AcceptsFrom (range_with_len from k) now end) (sym more) (
      now,
      inl (none_itself now, empty from (omega arith) (omega arith)),
      passes_empty now end (from + 1) count others (λ other some few. empty other (omega arith) (omega arith))
          (subst (λ (k : ℕ). InTurn AcceptsFrom (range_with_len k others) now end) next rest),
    )
