-- The laws of a network that keeps no order.
use Rattle.std.proofs.Common.{◌≡◌, ℕ, ◌<◌, ◌≤◌, ◌==◌, ◌&&◌, Bool, true, false, List, [], ◌∷◌, ◌++◌, length, filter, drop, set, cond, arith}
use Rattle.std.proofs.Common.{Some, None, zero, suc, refl, sym, ap, subst, ◌∙◌}
use Rattle.std.proofs.lemmas.{Bool.{eq-eqb}, List.{get_or-set_same}, List.Elements.{All-head, All-tail, All-weaker}}
use Rattle.std.proofs.Math.Seq.{drop-append_seam, take-append_seam}
use Rattle.std.specs.{Prelude.{IsSome, option_map, slice_get}, List.{All}}
use Rattle.sci_words.specs.declared.{event.{AskKind.{AskKind}}, operation.Op.{Op}}
use Rattle.sci_history.specs.declared.entry.Entry.{Entry}
use Rattle.sci_cache.specs.Cache.{Letter}
use Rattle.sci_core.specs.declared.lane.LaneKind.{LaneKind, TheVariants.{Requests, Answers}}
use Rattle.sci_core.specs.declared.taking.Taking.{Taking}
use Rattle.sci_core.specs.Core.{Core, lane_at, lane_of, lane_place, node_at, opening, sent_by, with_node}
use Rattle.sci_core.specs.{Sides.{taken_to}, Taking.{IsTakable, lane_kind, node_taking, taking_event}}
use Rattle.sci_core.specs.Network.{Move, Overtakes, brought, moved_from, overtaken}
use Rattle.sci_core.specs.Node.{NodeOf, node_accepting, node_asking, node_issuing, node_performing, node_replying, node_serving}
use Rattle.sci_core.specs.{Reached.{IsReachable}, Sharing.{asker_of, is_about}, Size.{Size, IsSize}}
use Rattle.sci_core.specs.WellFormed.{IsInLane, IsWellFormed}
use Rattle.sci_core.proofs.Step.{Places.{place_answers, place_from, place_requests, place_to}, Steps.{lane_below}}
use Rattle.sci_core.proofs.Step.{Sides.{steps_by_sides}, Stepping.{front_taken}, Takings.{stepping_taking, takable}}
use Rattle.sci_core.proofs.Tidy.{Enabled.{any_accept_enabled, any_request_enabled}, Overtaking.{few_in_lane}, TidyRuns.{any_tidy}}
use Rattle.sci_core.proofs.Tidy.TidySteps.{answer_asker, request_asker}
use Rattle.sci_core.proofs.WellFormed.WellFormedSteps.{any_well, move_well, moves_well, opened, reachable_moved, reachable_stepping}
use Rattle.sci_words.specs.declared.event.Event.TheVariants as event

-- where moves lead is reachable
pub moves_reachable : (size : Size) (moves : List Move) → IsSize size → IsReachable (moved_from (opening size) moves)
moves_reachable size moves sizes = grind (arith, moves_well, opened)

-- ---- any packet of a lane may be the next

brought_at : (before rest : List Letter) (letter : Letter) → brought (length before) (before ++ letter ∷ rest) ≡ letter ∷ (before ++ rest)
brought_at before rest letter = rw (drop-append_seam before (letter ∷ rest), take-append_seam before (letter ∷ rest)) refl

fronted : (core : Core) (kind : LaneKind) (from n : ℕ) (before rest : List Letter) (letter : Letter) → IsWellFormed core → from < core.size.nodes
    → n < core.size.nodes → lane_of core kind from n ≡ before ++ letter ∷ rest
    → lane_of (overtaken core (lane_place core.size.nodes kind from n) (length before)) kind from n ≡ letter ∷ (before ++ rest)
fronted core kind from n before rest letter well f lt here = grind (arith, get_or-set_same, lane_below, brought_at)

pub accepts_any : (core : Core) (from n : ℕ) (before rest : List Letter) (letter : Letter) → IsReachable core → from < core.size.nodes → n < core.size.nodes
    → lane_of core Answers from n ≡ before ++ letter ∷ rest → IsSome (node_accepting (node_at core n) letter)
accepts_any core from n before rest letter reached f lt here =
    let place = lane_place core.size.nodes Answers from n in
    any_accept_enabled (overtaken core place (length before)) from n (reachable_moved core (Overtakes place (length before)) reached) f lt letter
    (before ++ rest) (fronted core Answers from n before rest letter (any_well core reached) f lt here)

pub serves_any : (core : Core) (from n : ℕ) (before rest : List Letter) (letter : Letter) → IsReachable core → from < core.size.nodes → n < core.size.nodes
    → lane_of core Requests from n ≡ before ++ letter ∷ rest → (node_at core n).waiting ≡ None → IsSome (node_serving (node_at core n) letter)
serves_any core from n before rest letter reached f lt here free =
    let place = lane_place core.size.nodes Requests from n in
    (any_request_enabled (overtaken core place (length before)) from n (reachable_moved core (Overtakes place (length before)) reached) f lt).served letter
    (before ++ rest) (fronted core Requests from n before rest letter (any_well core reached) f lt here) free

-- ---- a lane has one packet about a line

and_true : (a b : Bool) → b ≡ true → (a && b) ≡ a
and_true true b e = e
and_true false b e = refl

same_filter : (p q : Letter → Bool) (lane : List Letter) → All (λ letter. p letter ≡ q letter) lane → filter p lane ≡ filter q lane
same_filter p q [] all = refl
same_filter p q (letter ∷ rest) all =
    let more = same_filter p q rest (All-tail (λ (l : Letter). p l ≡ q l) letter rest all) in
    ap (λ (b : Bool). cond b (letter ∷ filter p rest) (filter p rest)) (All-head (λ (l : Letter). p l ≡ q l) letter rest all)
    ∙ ap (λ (ls : List Letter). cond (q letter) (letter ∷ ls) ls) more

-- the node whose ask a packet of a lane makes or answers
asker_in : LaneKind → ℕ → ℕ → ℕ
asker_in Requests from to = from
asker_in Answers from to = to

asks_in : (core : Core) (kind : LaneKind) (from to : ℕ) (letter : Letter) → from < core.size.nodes → to < core.size.nodes
    → IsInLane core.size.nodes core.size.lines (lane_place core.size.nodes kind from to) letter → asker_of letter ≡ asker_in kind from to
unfolding asker_in
asks_in core Requests from to letter f t is =
    request_asker letter (is.request (place_requests core.size.nodes from to f t)).asks ∙ (is.from ∙ place_from core.size.nodes Requests from to f t)
asks_in core Answers from to letter f t is =
    answer_asker letter (is.answer (place_answers core.size.nodes from to)).answers ∙ (is.to ∙ place_to core.size.nodes Answers from to t)

about_is : (n line : ℕ) (letter : Letter) → asker_of letter ≡ n → (letter.line == line) ≡ is_about n line letter
about_is n line letter e = sym (and_true (letter.line == line) (asker_of letter == n) (eq-eqb (asker_of letter) n e))

pub one_about : (core : Core) (kind : LaneKind) (from to line : ℕ) → IsReachable core → from < core.size.nodes → to < core.size.nodes → line < core.size.lines
    → length (filter (λ letter. letter.line == line) (lane_of core kind from to)) ≤ 1
one_about core kind from to line reached f t inside =
    let well = any_well core reached in
    let place = lane_place core.size.nodes kind from to in
    let n = asker_in kind from to in
    let each = All-weaker (IsInLane core.size.nodes core.size.lines place) (λ (l : Letter). (l.line == line) ≡ is_about n line l)
    (λ l h. about_is n line l (asks_in core kind from to l f t h)) (lane_of core kind from to) (well.each_lane place) in
    let same = same_filter (λ (l : Letter). l.line == line) (is_about n line) (lane_of core kind from to) each in
    subst (λ (ls : List Letter). length ls ≤ 1) (sym same)
    (few_in_lane core place n line well (any_tidy core reached) (lane_below core kind from to well f t) inside)

-- ---- the calls of nodes

set_again : {X : Type 0} (xs : List X) (i : ℕ) (a b : X) → set (set xs i a) i b ≡ set xs i b
set_again [] i a b = refl
set_again (x ∷ xs) zero a b = refl
set_again (x ∷ xs) (suc i) a b = ap (λ ys. x ∷ ys) (set_again xs i a b)

pub takes_any : (core : Core) (taking : Taking) (from n : ℕ) (before rest : List Letter) (letter : Letter) (next : NodeOf) → IsReachable core
    → from < core.size.nodes → n < core.size.nodes → lane_of core (lane_kind taking) from n ≡ before ++ letter ∷ rest
    → node_taking taking (node_at core n) letter ≡ Some next
    → IsReachable (taken_to core n (lane_kind taking) from (before ++ rest) next)
takes_any core taking from n before rest letter next reached f lt here takes =
    let kind = lane_kind taking in
    let place = lane_place core.size.nodes kind from n in
    let mid = overtaken core place (length before) in
    let front = fronted core kind from n before rest letter (any_well core reached) f lt here in
    let step = stepping_taking mid taking from n lt f
    ∙ front_taken mid n place (node_taking taking (node_at mid n)) (lane_of mid kind from n) letter (Some next)
    (ap (λ (l : List Letter). slice_get l 0) front) takes in
    let short : drop 1 (lane_of mid kind from n) ≡ before ++ rest = ap (drop 1) front in
    let lanes : set mid.lanes place (drop 1 (lane_of mid kind from n)) ≡ set core.lanes place (before ++ rest) =
    ap (set mid.lanes place) short ∙ set_again core.lanes place (brought (length before) (lane_at core place)) (before ++ rest) in
    subst (λ (ls : List (List Letter)). IsReachable (record core { parts = set core.parts n next; lanes = ls })) lanes
    (reachable_stepping mid _ (taking_event taking from n) (reachable_moved core (Overtakes place (length before)) reached) step)

pub takable_any : (core : Core) (taking : Taking) (from n : ℕ) (before rest : List Letter) (letter : Letter) → IsReachable core → from < core.size.nodes
    → n < core.size.nodes → lane_of core (lane_kind taking) from n ≡ before ++ letter ∷ rest → IsTakable taking (node_at core n) letter
takable_any core taking from n before rest letter reached f lt here =
    let kind = lane_kind taking in
    let place = lane_place core.size.nodes kind from n in
    let well = any_well core reached in
    takable (overtaken core place (length before)) taking from n letter (move_well core (Overtakes place (length before)) well).well f lt
    (ap (λ (l : List Letter). slice_get l 0) (fronted core kind from n before rest letter well f lt here))

pub issues_reach : (core : Core) (n : ℕ) (op : Op) (next : NodeOf) → IsReachable core → n < core.size.nodes → node_issuing (node_at core n) op ≡ Some next
    → IsReachable (with_node core n next)
issues_reach core n op next reached lt is =
    reachable_stepping core (with_node core n next) (event.Issue n op) reached ((steps_by_sides core n lt).issue op ∙ ap (option_map (with_node core n)) is)

pub performs_reach : (core : Core) (n line : ℕ) (next : NodeOf) (entry : Entry) → IsReachable core → n < core.size.nodes
    → node_performing (node_at core n) line ≡ Some (next, entry) → IsReachable (with_node core n next)
performs_reach core n line next entry reached lt is =
    reachable_stepping core (with_node core n next) (event.Perform n line) reached
    ((steps_by_sides core n lt).perform line ∙ ap (option_map (λ (done : NodeOf × Entry). with_node core n done.0)) is)

pub asks_reach : (core : Core) (n line : ℕ) (kind : AskKind) (next : NodeOf) (letter : Letter) → IsReachable core → n < core.size.nodes
    → node_asking (node_at core n) line kind ≡ Some (next, letter) → IsReachable (sent_by core n Requests next letter)
asks_reach core n line kind next letter reached lt is =
    reachable_stepping core (sent_by core n Requests next letter) (event.Ask n line kind) reached
    ((steps_by_sides core n lt).ask line kind ∙ ap (option_map (λ (sent : NodeOf × Letter). sent_by core n Requests sent.0 sent.1)) is)

pub replies_reach : (core : Core) (n : ℕ) (next : NodeOf) (letter : Letter) → IsReachable core → n < core.size.nodes
    → node_replying (node_at core n) ≡ Some (next, letter) → IsReachable (sent_by core n Answers next letter)
replies_reach core n next letter reached lt is =
    reachable_stepping core (sent_by core n Answers next letter) (event.Reply n) reached
    ((steps_by_sides core n lt).reply ∙ ap (option_map (λ (sent : NodeOf × Letter). sent_by core n Answers sent.0 sent.1)) is)
