-- A turn that reports nothing made no event in any of its steps.
use Rattle.std.proofs.Common.{◌≡◌, ◌<◌, ◌≤◌, ◌+◌, ◌%◌, ℕ, zero, suc, Bool, true, false, if◌then◌else◌, nat_lt}
use Rattle.std.proofs.Common.{arith, List, [], ◌∷◌, Option, Some, None, refl, sym, ap, subst, ◌∙◌, inl, inr}
use Rattle.std.proofs.{lemmas.Bool.{cases_lt, ltb-true}, lemmas.Nat.{mod-mul-add}, Math.Nat.{mod-add-mod, mod-lt}}
use Rattle.std.specs.{Prelude.{IfSome}, List.{AllByRecursion, range_with_len}}
use Rattle.sci_core.specs.declared.lane.LaneKind.TheVariants.{Answers}
use Rattle.sci_policy.specs.declared.{progress.Progress.{Progress}, want.Want.{Want, TheVariants.{Perform, Ask}}}
use Rattle.sci_policy.specs.{Policy.{PolicyOf, after_served, first_sender, next_policy, next_wanted, turned}, Turn.{Counts, MadeNothing}}
use Rattle.sci_policy.proofs.{Circles.{comes_by}, Telling.{tells_something}}
use Rattle.sci_turn.specs.Posts.{IsStill, PostOf, lane_to, node_in, nodes_in}
use Rattle.sci_turn.specs.{Moves.{Stage, stage, taken_next}, Idle.{IsHeldUp, IsIdleTurn, IsReplyHeldUp, TookNone, WasEmpty, WasSo}}
use Rattle.sci_turn.proofs.Moments.{node_stays, so_after, so_now, so_still}
use Rattle.sci_turn.specs.Whole.{Accepts, AcceptsFrom, Asks, AsksNoMore, EndsAt, FindsNoAnswer, FindsNoRequest, InTurn, IsWholeTurn, MakesNone, Replies}
use Rattle.sci_turn.specs.Whole.{Takes, TakesFrom, UpTo, circle, no_progress, reported}
use Rattle.sci_turn.proofs.Steps.{none_itself, none_then}
use Rattle.sci_turn.proofs.Stills.{still_then}
use Rattle.sci_words.specs.declared.event.Event.TheVariants as event

-- the report of no event is that at the start
pub nothing_yet : (report : Progress) → Counts [] report → report.ready ≡ None → report ≡ no_progress
nothing_yet report counts none = grind arith

-- ---- the steps

quiet_reply : (old new : Stage) → Replies old new → MadeNothing new.report → MakesNone old new × IsReplyHeldUp new.post
quiet_reply old new (inl made) nothing =
    absurd (tells_something old.post.me (event.Reply old.post.me) old.report new.report (record { own = refl; kind = refl }) made.counted nothing)
quiet_reply old new (inr held) nothing = held

accepts_something : (from : ℕ) (old new : Stage) → Accepts from old new → MadeNothing new.report → ⊥
accepts_something from old new made nothing =
    tells_something old.post.me (event.Accept from old.post.me) old.report new.report (record { own = refl; kind = refl }) made.counted nothing

takes_something : (from : ℕ) (old new : Stage) → Takes from old new → MadeNothing new.report → ⊥
takes_something from old new takes nothing = grind (arith, quiet_reply, tells_something)

asks_something : (old new : Stage) → Asks old new → MadeNothing new.report → ⊥
asks_something old new asks nothing =
    tells_something old.post.me (event.Ask old.post.me asks.0 asks.1) old.report new.report (record { own = refl; kind = refl }) asks.2.counted nothing

nothing_reported : (report : Progress) (want : Option Want) → MadeNothing (reported report want) → MadeNothing report
nothing_reported report None nothing = nothing
nothing_reported report (Some (Ask line kind)) nothing = nothing
nothing_reported report (Some (Perform line)) nothing =
    record { accepted = nothing.accepted; served = nothing.served; replied = nothing.replied; asked = nothing.asked }

asks_nothing : (old new : Stage) → AsksNoMore old new → MadeNothing new.report → MadeNothing old.report
asks_nothing old new ends nothing =
    nothing_reported old.report (next_wanted old.policy (node_in new.post)) (subst MadeNothing ends.report nothing)

-- ---- up to four times

-- there was nothing before, either
nothing_before : (n : ℕ) (Step Ends : Stage → Stage → Type 0) → ((a b : Stage) → Step a b → MadeNothing b.report → ⊥)
    → ((a b : Stage) → Ends a b → MadeNothing b.report → MadeNothing a.report) → (old new : Stage) → UpTo n Step Ends old new → MadeNothing new.report
    → MadeNothing old.report
nothing_before zero Step Ends some back old new same nothing = subst (λ (s : Stage). MadeNothing s.report) (sym same) nothing
nothing_before (suc n) Step Ends some back old new (inl ends) nothing = back old new ends nothing
nothing_before (suc n) Step Ends some back old new (inr rest) nothing =
    absurd (some old rest.0 rest.1 (nothing_before n Step Ends some back rest.0 new rest.2 nothing))

-- what ends the steps came at once
ends_at_once : (n : ℕ) (Step Ends : Stage → Stage → Type 0) → ((a b : Stage) → Step a b → MadeNothing b.report → ⊥)
    → ((a b : Stage) → Ends a b → MadeNothing b.report → MadeNothing a.report) → (old new : Stage) → UpTo (suc n) Step Ends old new → MadeNothing new.report
    → Ends old new
ends_at_once n Step Ends some back old new (inl ends) nothing = ends
ends_at_once n Step Ends some back old new (inr rest) nothing =
    absurd (some old rest.0 rest.1 (nothing_before n Step Ends some back rest.0 new rest.2 nothing))

-- what a step finds that makes no event
abbrev pub NoneCame : ℕ → PolicyOf → PostOf → Type 0
NoneCame from policy post = lane_to post Answers from ≡ []

abbrev pub NoneTaken : ℕ → PolicyOf → PostOf → Type 0
NoneTaken from policy post = taken_next policy post.core from post.me ≡ None

quiet_accepts : (from : ℕ) (old new : Stage) → AcceptsFrom from old new → MadeNothing new.report → FindsNoAnswer from old new
quiet_accepts from = ends_at_once 3 (Accepts from) (FindsNoAnswer from) (accepts_something from)
    (λ a b none nothing. subst MadeNothing none.0.report nothing)

quiet_takes : (from : ℕ) (old new : Stage) → TakesFrom from old new → MadeNothing new.report → FindsNoRequest from old new
quiet_takes from = ends_at_once 3 (Takes from) (FindsNoRequest from) (takes_something from)
    (λ a b none nothing. subst MadeNothing none.0.report nothing)

-- ---- for each node

-- if each step that reports nothing makes no event, so do all of them
none_in_turn : (Step : ℕ → Stage → Stage → Type 0) (P : ℕ → PolicyOf → PostOf → Type 0)
    → ((from : ℕ) (a b : Stage) → Step from a b → MadeNothing b.report → MakesNone a b × P from b.policy b.post) → (froms : List ℕ) (old new : Stage)
    → InTurn Step froms old new → MadeNothing new.report → MakesNone old new
none_in_turn Step P quiet [] old new same nothing = subst (MakesNone old) same (none_itself old)
none_in_turn Step P quiet (from ∷ froms) old new steps nothing =
    let mid = steps.0 in
    let later = none_in_turn Step P quiet froms mid new steps.2 nothing in
    none_then old mid new (quiet from old mid steps.1 (subst MadeNothing later.report nothing)).0 later

-- and each has found what it says at a moment in between
found_in_turn : (Step : ℕ → Stage → Stage → Type 0) (P : ℕ → PolicyOf → PostOf → Type 0)
    → ((from : ℕ) (a b : Stage) → Step from a b → MadeNothing b.report → MakesNone a b × P from b.policy b.post) → (first : Stage) (froms : List ℕ)
    → (old new : Stage) → MakesNone first old → InTurn Step froms old new → MadeNothing new.report
    → AllByRecursion (λ from. WasSo (P from first.policy) first.post new.post) froms
found_in_turn Step P quiet first [] old new none same nothing = tt
found_in_turn Step P quiet first (from ∷ froms) old new none steps nothing =
    let mid = steps.0 in
    let later = none_in_turn Step P quiet froms mid new steps.2 nothing in
    let here = quiet from old mid steps.1 (subst MadeNothing later.report nothing) in
    let before = none_then first old mid none here.0 in (
      record { mid = mid.post; before = before.still; after = later.still; so = subst (λ (p : PolicyOf). P from p mid.post) before.policy here.1 },
      found_in_turn Step P quiet first froms mid new before steps.2 nothing,
    )

-- ---- all nodes

of_range : (P : ℕ → Type 0) (count first from : ℕ) → first ≤ from → from < first + count → AllByRecursion P (range_with_len first count) → P from
of_range P zero first from some few all = absurd (omega arith)
of_range P (suc count) first from some few all =
    elim (cases_lt first from) [
      | inl later ↦ of_range P count (first + 1) from (omega arith) (omega arith) all.1
      | inr here ↦ let is : first ≡ from = omega arith in subst P is all.0
    ]

first_place : (nodes first : ℕ) → first < nodes → (first + 0) % nodes ≡ first
first_place nodes first below = grind (arith, mod-mul-add)

next_place : (nodes first place : ℕ) → ((first + 1) % nodes + place) % nodes ≡ (first + suc place) % nodes
next_place nodes first place =
    let same : first + 1 + place ≡ first + suc place = omega arith in
    mod-add-mod (first + 1) nodes place ∙ ap (λ (k : ℕ). k % nodes) same

pub of_circle : (P : ℕ → Type 0) (nodes count first place : ℕ) → first < nodes → place < count → AllByRecursion P (circle nodes first count)
    → P ((first + place) % nodes)
of_circle P nodes zero first place below few all = absurd (omega arith)
of_circle P nodes (suc count) first zero below few all = subst P (sym (first_place nodes first below)) all.0
of_circle P nodes (suc count) first (suc place) below few all =
    subst P (next_place nodes first place) (of_circle P nodes count ((first + 1) % nodes) place (mod-lt (first + 1) (omega arith)) (omega arith) all.1)

-- ---- the turn

-- what ended it, if nothing is reported
held_by : (post : PostOf) (report : Progress) (want : Option Want) → (reported report want).ready ≡ None → IfSome want (EndsAt post)
    → IfSome want (IsHeldUp post)
held_by post report None none held = tt
held_by post report (Some (Ask line kind)) none held = held
held_by post report (Some (Perform line)) none held = cc

-- the node whose requests are looked at first is one of them
below_if : (b : Bool) (j nodes : ℕ) → 1 ≤ nodes → nat_lt (j + 1) nodes ≡ b → (if b then j + 1 else 0) < nodes
below_if true j nodes some is = ltb-true (j + 1) nodes is
below_if false j nodes some is = omega arith

pub first_below : (nodes : ℕ) (served : Option ℕ) → 1 ≤ nodes → after_served nodes served < nodes
first_below nodes None some = omega arith
first_below nodes (Some j) some = below_if (nat_lt (j + 1) nodes) j nodes some refl

-- which step has found what
idles_by : (before : PolicyOf) (replied accepted taken : Stage) (old : PostOf) (after : PolicyOf) (new : PostOf) → 1 ≤ nodes_in old
    → MakesNone (stage (turned before) old no_progress) replied → MakesNone replied accepted → MakesNone accepted taken → IsReplyHeldUp replied.post
    → AllByRecursion (λ from. WasEmpty Answers from old accepted.post) (range_with_len 0 (nodes_in replied.post))
    → AllByRecursion (λ from. TookNone (turned before) from old taken.post)
    (circle (nodes_in accepted.post) (first_sender accepted.policy (nodes_in accepted.post)) (nodes_in accepted.post))
    → IsStill taken.post new → after ≡ next_policy taken.policy (node_in new) → IfSome (next_wanted taken.policy (node_in new)) (IsHeldUp new)
    → IsIdleTurn before old after new
idles_by before replied accepted taken old after new some one two three held answers requests last is wants =
    let begun = stage (turned before) old no_progress in
    let first = none_then begun replied accepted one two in
    let all = none_then begun accepted taken first three in
    let nodes : (from : ℕ) → from < nodes_in old → from < nodes_in accepted.post = λ from. node_stays from old accepted.post first.still.same in
    record {
      still = still_then old taken.post new all.still last;
      policy = is ∙ ap (λ (p : PolicyOf). next_policy p (node_in new)) all.policy;
      reply = so_after IsReplyHeldUp old replied.post new one.still
          (so_still IsReplyHeldUp replied.post replied.post new (so_now IsReplyHeldUp replied.post held)
          (still_then replied.post taken.post new (none_then replied accepted taken two three).still last));
      answers = λ from f. so_still (λ (post : PostOf). lane_to post Answers from ≡ []) old accepted.post new
          (of_range (λ (j : ℕ). WasEmpty Answers j old accepted.post) (nodes_in replied.post) 0 from (omega arith)
          (let here = node_stays from old replied.post one.still.same f in omega arith) answers)
          (still_then accepted.post taken.post new three.still last);
      requests = λ from f. (
          let n = nodes_in accepted.post in
          let start = first_sender accepted.policy n in
          let below : start < n = first_below n accepted.policy.served (nodes 0 some) in
          let by = comes_by n start from below (nodes from f) in
          so_still (λ (post : PostOf). taken_next (turned before) post.core from post.me ≡ None) old taken.post new
          (subst (λ (j : ℕ). TookNone (turned before) j old taken.post) by.there
          (of_circle (λ (j : ℕ). TookNone (turned before) j old taken.post) n n start by.place below by.below requests)) last);
      wants = subst (λ (p : PolicyOf). IfSome (next_wanted p (node_in new)) (IsHeldUp new)) all.policy wants;
    }

pub idles : (before : PolicyOf) (old : PostOf) (after : PolicyOf) (new : PostOf) (progress : Progress) → 1 ≤ nodes_in old
    → IsWholeTurn before old after new progress → MadeNothing progress → progress.ready ≡ None → IsIdleTurn before old after new
idles before old after new progress some whole nothing none =
    let begun = stage (turned before) old no_progress in
    let replied = whole.replied in
    let accepted = whole.accepted in
    let taken = whole.taken in
    let asks = ends_at_once 3 Asks AsksNoMore asks_something asks_nothing taken (stage after new progress) whole.asks nothing in
    let before_asks = asks_nothing taken (stage after new progress) asks nothing in
    let third = none_in_turn TakesFrom NoneTaken quiet_takes _ accepted taken whole.takes before_asks in
    let before_takes = subst MadeNothing third.report before_asks in
    let second = none_in_turn AcceptsFrom NoneCame quiet_accepts _ replied accepted whole.accepts before_takes in
    let first = quiet_reply begun replied whole.replies (subst MadeNothing second.report before_takes) in
    idles_by before replied accepted taken old after new some first.0 second third first.1
    (found_in_turn AcceptsFrom NoneCame quiet_accepts begun _ replied accepted first.0 whole.accepts before_takes)
    (found_in_turn TakesFrom NoneTaken quiet_takes begun _ accepted taken (none_then begun replied accepted first.0 second) whole.takes before_asks)
    asks.still asks.policy
    (held_by new taken.report (next_wanted taken.policy (node_in new)) (ap (λ (p : Progress). p.ready) (sym asks.report) ∙ none) asks.wants)
