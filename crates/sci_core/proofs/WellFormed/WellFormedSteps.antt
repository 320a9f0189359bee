-- Every step leaves a state well formed, and keeps the machine's sizes. So every reached state is.
use Rattle.std.proofs.Common.{◌≡◌, ℕ, ◌*◌, ◌<◌, List, [], ◌∷◌, ◌++◌, map, replicate, take, drop, Option, Some, None, refl, sym, ap, subst, ◌∙◌, inl, inr, arith}
use Rattle.std.proofs.lemmas.{Bool.{cases_lt}, List.{length-set, length-replicate, get_or-replicate, get_or_past}}
use Rattle.std.proofs.lemmas.List.{Sums.{fold-append}, Folds.{sum_by-replicate}}
use Rattle.std.proofs.lemmas.List.Elements.{All-nil, All-head, All-tail, All-push, All-append, All-take, All-drop}
use Rattle.std.proofs.lemmas.List.FromFn.{length-map-range_with_len, get_or-map-range_with_len}
use Rattle.std.specs.{Prelude.{IfSome, unwrap_or, Result, Ok, Err, IfOk, IsErr}, List.{All}}
use Rattle.sci_words.specs.declared.event.Event.{Event}
use Rattle.sci_history.specs.declared.entry.Entry.{Entry}
use Rattle.sci_cache.specs.Cache.{Letter}
use Rattle.sci_core.specs.declared.lane.LaneKind.{LaneKind, TheVariants.{Requests, Answers}}
use Rattle.sci_core.specs.Node.{NodeOf, opening_node, node_issuing, node_performing, node_asking, node_replying, no_node}
use Rattle.sci_core.specs.Core.{Core, with_node, lane_place, lane_of, with_lane, Side, Idle, Changes, Sends, Takes, changes, performs, sends, side}
use Rattle.sci_core.specs.Core.{lane_at, node_of, sent_by, taken_as, taken_from, step_by, stepping, step, opening, run_from}
use Rattle.sci_core.specs.Network.{Happens, Move, Overtakes, brought, moved, moved_from, overtaken}
use Rattle.sci_core.specs.Reached.{IsReachable, IsReachableNode, IsReached, IsReachedNode}
use Rattle.sci_core.specs.WellFormed.{IsRequestLetter, IsAnswerLetter, IsInLane, IsPart, IsWellFormed}
use Rattle.sci_core.specs.Size.{Size, IsSize, IsMachineSize}
use Rattle.sci_core.proofs.Step.{Nodes.{opening_is_node}, Places.{place_to, place_from, place_requests, place_answers}}
use Rattle.sci_core.proofs.Basics.{Lists.{at_place_set}, Options.{if_below}}
use Rattle.sci_core.proofs.WellFormed.Parts.{SendsWell, RepliesWell, part_issuing, part_performing, part_asking, part_serving, part_refusing}
use Rattle.sci_core.proofs.WellFormed.Parts.{part_replying, part_accepting}
use Rattle.sci_words.specs.declared.event.Event.TheVariants as event

pub record StepsWell (old new : Core) : Type 0 where
  pub well : IsWellFormed new
  pub same : new.size ≡ old.size

-- ---- one node, one lane

well_with_node : (core : Core) (n : ℕ) (next : NodeOf) → IsPart core.size n next → IsWellFormed core → IsWellFormed (with_node core n next)
well_with_node core n next is well = record {
  sizes = record {
    some_node = well.sizes.some_node;
    parts_long = length-set core.parts n next ∙ well.sizes.parts_long;
    lanes_long = well.sizes.lanes_long;
  };
  each_part = at_place_set (λ (m : ℕ) (part : NodeOf). m < core.size.nodes → IsPart core.size m part) core.parts n next no_node well.each_part (λ _. is);
  each_lane = well.each_lane;
}

pub well_with_lane : (core : Core) (place : ℕ) (lane : List Letter) → All (IsInLane core.size.nodes core.size.lines place) lane → IsWellFormed core
    → IsWellFormed (with_lane core place lane)
well_with_lane core place lane all well = record {
  sizes = record {
    some_node = well.sizes.some_node;
    parts_long = well.sizes.parts_long;
    lanes_long = length-set core.lanes place lane ∙ well.sizes.lanes_long;
  };
  each_part = well.each_part;
  each_lane = at_place_set (λ (p : ℕ) (l : List Letter). All (IsInLane core.size.nodes core.size.lines p) l) core.lanes place lane [] well.each_lane all;
}

-- ---- the four kinds of side

-- a packet of this node that it may send into a lane of this kind
abbrev pub IsSent : Core → ℕ → LaneKind → Letter → Type 0
IsSent core n Requests letter = IsRequestLetter core.size.nodes core.size.lines letter × (letter.source ≡ n)
IsSent core n Answers letter = IsAnswerLetter core.size.nodes core.size.lines letter × (letter.source ≡ n)

-- a packet that comes by a lane of this kind
abbrev pub Comes : Core → ℕ → LaneKind → Letter → Type 0
Comes core n Requests letter = IsRequestLetter core.size.nodes core.size.lines letter × (letter.target ≡ n)
Comes core n Answers letter = IsAnswerLetter core.size.nodes core.size.lines letter × (letter.target ≡ n)

abbrev IsPartOf : Core → ℕ → NodeOf → Type 0
IsPartOf core n part = IsPart core.size n part

abbrev pub IsWellSide : Core → ℕ → Side → Type 0
IsWellSide core n Idle = Unit {0}
IsWellSide core n (Changes next) = IsPartOf core n next
IsWellSide core n (Sends kind next letter) = IsPartOf core n next × IsSent core n kind letter
IsWellSide core n (Takes kind from taking) = (letter : Letter) → Comes core n kind letter → IfSome (taking letter) (IsPartOf core n)

in_lane_sent : (core : Core) (n : ℕ) (kind : LaneKind) (letter : Letter) → n < core.size.nodes → IsSent core n kind letter
    → IsInLane core.size.nodes core.size.lines (lane_place core.size.nodes kind n letter.target) letter
in_lane_sent core n Requests letter lt sent = record {
  from = sent.1 ∙ sym (place_from core.size.nodes Requests n letter.target lt sent.0.letter_ok.target);
  to = sym (place_to core.size.nodes Requests n letter.target sent.0.letter_ok.target);
  request = λ _. sent.0;
  answer = λ above. absurd (let below = place_requests core.size.nodes n letter.target lt sent.0.letter_ok.target in omega arith);
}
in_lane_sent core n Answers letter lt sent = record {
  from = sent.1 ∙ sym (place_from core.size.nodes Answers n letter.target lt sent.0.letter_ok.target);
  to = sym (place_to core.size.nodes Answers n letter.target sent.0.letter_ok.target);
  request = λ below. absurd (let above = place_answers core.size.nodes n letter.target in omega arith);
  answer = λ _. sent.0;
}

pub comes_from_lane : (core : Core) (from n : ℕ) (kind : LaneKind) (letter : Letter) → from < core.size.nodes → n < core.size.nodes
    → IsInLane core.size.nodes core.size.lines (lane_place core.size.nodes kind from n) letter → Comes core n kind letter
comes_from_lane core from n Requests letter f lt is =
    (is.request (place_requests core.size.nodes from n f lt), is.to ∙ place_to core.size.nodes Requests from n lt)
comes_from_lane core from n Answers letter f lt is = (is.answer (place_answers core.size.nodes from n), is.to ∙ place_to core.size.nodes Answers from n lt)

sent_well : (core : Core) (n : ℕ) (kind : LaneKind) (next : NodeOf) (letter : Letter) → n < core.size.nodes → IsPartOf core n next → IsSent core n kind letter
    → IsWellFormed core → IsWellFormed (sent_by core n kind next letter)
sent_well core n kind next letter lt is sent well =
    well_with_lane (with_node core n next) (lane_place core.size.nodes kind n letter.target) (lane_of core kind n letter.target ++ letter ∷ [])
    (All-push (IsInLane core.size.nodes core.size.lines (lane_place core.size.nodes kind n letter.target)) (lane_of core kind n letter.target) letter
    (well.each_lane (lane_place core.size.nodes kind n letter.target)) (in_lane_sent core n kind letter lt sent))
    (well_with_node core n next is well)

taken_as_well : (core : Core) (n place : ℕ) (rest : List Letter) (taken : Option NodeOf) → IfSome taken (IsPartOf core n)
    → All (IsInLane core.size.nodes core.size.lines place) rest → IsWellFormed core
    → IfSome (taken_as core n place rest taken) (StepsWell core)
taken_as_well core n place rest None is all well = tt
taken_as_well core n place rest (Some next) is all well = record {
  well = well_with_lane (with_node core n next) place rest all (well_with_node core n next is well);
  same = refl;
}

taken_from_well : (core : Core) (n place : ℕ) (taking : Letter → Option NodeOf) (lane : List Letter) → All (IsInLane core.size.nodes core.size.lines place) lane
    → ((letter : Letter) → IsInLane core.size.nodes core.size.lines place letter → IfSome (taking letter) (IsPartOf core n)) → IsWellFormed core
    → IfSome (taken_from core n place taking lane) (StepsWell core)
taken_from_well core n place taking [] all takes well = tt
taken_from_well core n place taking (letter ∷ rest) all takes well =
    taken_as_well core n place rest (taking letter) (takes letter (All-head (IsInLane core.size.nodes core.size.lines place) letter rest all))
    (All-tail (IsInLane core.size.nodes core.size.lines place) letter rest all) well

step_by_well : (core : Core) (n : ℕ) (s : Side) → n < core.size.nodes → IsWellSide core n s → IsWellFormed core → IfSome (step_by core n s) (StepsWell core)
step_by_well core n Idle lt is well = tt
step_by_well core n (Changes next) lt is well = record { well = well_with_node core n next is well; same = refl }
step_by_well core n (Sends kind next letter) lt is well = record { well = sent_well core n kind next letter lt is.0 is.1 well; same = refl }
step_by_well core n (Takes kind from taking) lt is well =
    if_below from core.size.nodes (StepsWell core) (taken_from core n (lane_place core.size.nodes kind from n) taking (lane_of core kind from n)) (λ f.
    taken_from_well core n (lane_place core.size.nodes kind from n) taking (lane_of core kind from n) (well.each_lane (lane_place core.size.nodes kind from n))
    (λ letter h. is letter (comes_from_lane core from n kind letter f lt h)) well)

-- ---- each event's side is well

changes_well : (core : Core) (n : ℕ) (next : Option NodeOf) → IfSome next (IsPartOf core n) → IsWellSide core n (changes next)
changes_well core n None is = tt
changes_well core n (Some next) is = is

performs_well : (core : Core) (n : ℕ) (done : Option (NodeOf × Entry)) → IfSome done (λ (x : NodeOf × Entry). IsPartOf core n x.0)
    → IsWellSide core n (performs done)
performs_well core n None is = tt
performs_well core n (Some done) is = is

asks_well : (core : Core) (n : ℕ) (sent : Option (NodeOf × Letter)) → IfSome sent (SendsWell core.size n) → IsWellSide core n (sends Requests sent)
asks_well core n None is = tt
asks_well core n (Some sent) is = (is.next, (is.request, is.from))

replies_well : (core : Core) (n : ℕ) (sent : Option (NodeOf × Letter)) → IfSome sent (RepliesWell core.size n) → IsWellSide core n (sends Answers sent)
replies_well core n None is = tt
replies_well core n (Some sent) is = (is.next, (is.answer, is.from))

pub side_well : (core : Core) (part : NodeOf) (e : Event) → 0 < core.size.nodes → node_of e < core.size.nodes → IsPartOf core (node_of e) part
    → IsWellSide core (node_of e) (side part e)
side_well core part (event.Issue n op) some lt is = changes_well core n (node_issuing part op) (part_issuing core.size n part op is)
side_well core part (event.Perform n line) some lt is = performs_well core n (node_performing part line) (part_performing core.size n part line is)
side_well core part (event.Ask n line kind) some lt is = asks_well core n (node_asking part line kind) (part_asking core.size n part line kind some lt is)
side_well core part (event.Serve from n) some lt is = λ letter comes. part_serving core.size n part letter comes.0 comes.1 is
side_well core part (event.Refuse from n) some lt is = λ letter comes. part_refusing core.size n part letter comes.0 comes.1 is
side_well core part (event.Reply n) some lt is = replies_well core n (node_replying part) (part_replying core.size n part is)
side_well core part (event.Accept from n) some lt is = λ letter comes. part_accepting core.size n part letter comes.0 is

pub stepping_well : (core : Core) (e : Event) → IsWellFormed core → IfSome (stepping core e) (StepsWell core)
unfolding stepping
stepping_well core e well = grind (arith, if_below, step_by_well, side_well)

-- ---- runs

stays : (core : Core) (next : Option Core) → IfSome next (StepsWell core) → IsWellFormed core → StepsWell core (unwrap_or next core)
stays core None h well = record { well = well; same = refl }
stays core (Some next) h well = h

pub step_well : (core : Core) (e : Event) → IsWellFormed core → StepsWell core (step core e)
step_well core e well = stays core (stepping core e) (stepping_well core e well) well

pub run_well : (core : Core) (events : List Event) → IsWellFormed core → StepsWell core (run_from core events)
run_well core [] well = record { well = well; same = refl }
run_well core (e ∷ events) well =
    let one = step_well core e well in
    let rest = run_well (step core e) events one.well in
    record {
      well = rest.well;
      same = rest.same ∙ one.same;
    }

-- ---- a network that keeps no order

all_brought : (P : Letter → Type 0) (k : ℕ) (lane : List Letter) → All P lane → All P (brought k lane)
all_brought P k lane all =
    All-append P (take 1 (drop k lane)) (take k lane ++ drop 1 (drop k lane)) (All-take P 1 (drop k lane) (All-drop P k lane all))
    (All-append P (take k lane) (drop 1 (drop k lane)) (All-take P k lane all) (All-drop P 1 (drop k lane) (All-drop P k lane all)))

overtaken_well : (core : Core) (place k : ℕ) → IsWellFormed core → IsWellFormed (overtaken core place k)
overtaken_well core place k well =
    well_with_lane core place (brought k (lane_at core place))
    (all_brought (IsInLane core.size.nodes core.size.lines place) k (lane_at core place) (well.each_lane place)) well

pub move_well : (core : Core) (move : Move) → IsWellFormed core → StepsWell core (moved core move)
move_well core (Happens e) well = step_well core e well
move_well core (Overtakes place k) well = record { well = overtaken_well core place k well; same = refl }

pub moves_well : (core : Core) (moves : List Move) → IsWellFormed core → StepsWell core (moved_from core moves)
moves_well core [] well = record { well = well; same = refl }
moves_well core (move ∷ moves) well =
    let one = move_well core move well in
    let rest = moves_well (moved core move) moves one.well in
    record { well = rest.well; same = rest.same ∙ one.same }

-- a network that keeps the order is one
pub moved_happens : (core : Core) (events : List Event) → moved_from core (map Happens events) ≡ run_from core events
moved_happens core [] = refl
moved_happens core (e ∷ events) = moved_happens (step core e) events

-- ---- the opening

opening_part : (me : ℕ) (size : Size) → 0 < size.nodes → IsPart size me (opening_node me size)
opening_part me size some = grind (arith, opening_is_node, replicate, sum_by-replicate, length-replicate, cases_lt, get_or-replicate, get_or_past)

pub opening_well : (size : Size) → 0 < size.nodes → IsWellFormed (opening size)
opening_well size some = record {
  sizes = record {
    some_node = some;
    parts_long = length-map-range_with_len (λ (n : ℕ). opening_node n size) 0 size.nodes;
    lanes_long = length-replicate (2 * size.nodes * size.nodes) [];
  };
  each_part = λ n lt. subst (IsPart size n) (sym (get_or-map-range_with_len (λ (m : ℕ). opening_node m size) 0 size.nodes n n no_node lt (omega arith)))
      (opening_part n size some);
  each_lane = λ place. elim (cases_lt place (2 * size.nodes * size.nodes)) [
    | inl below ↦ subst (All (IsInLane size.nodes size.lines place)) (sym (get_or-replicate (2 * size.nodes * size.nodes) place [] [] below))
        (All-nil (IsInLane size.nodes size.lines place))
    | inr past ↦ subst (All (IsInLane size.nodes size.lines place))
        (sym (get_or_past (replicate (2 * size.nodes * size.nodes) []) place [] (rw length-replicate past))) (All-nil (IsInLane size.nodes size.lines place))
  ];
}

-- ---- where a schedule leads

pub is_size : (size : Size) → IsMachineSize size → IsSize size
is_size size sizes = grind arith

abbrev pub reachable : (core : Core) → IsReached core → IsReachable core
reachable core reached = record { size = is_size core.size reached.size; moves = reached.moves; leads = reached.leads }

pub opened : (size : Size) → IsSize size → IsWellFormed (opening size)
opened size sizes = let some = sizes.has_node in opening_well size (omega arith)

pub any_well : (core : Core) → IsReachable core → IsWellFormed core
any_well core reached = subst IsWellFormed reached.leads (moves_well (opening core.size) reached.moves (opened core.size reached.size)).well

pub reached_well : (core : Core) → IsReached core → IsWellFormed core
reached_well core reached = any_well core (reachable core reached)

-- one event more
pub reachable_stepping : (core next : Core) (e : Event) → IsReachable core → stepping core e ≡ Some next → IsReachable next
reachable_stepping core next e reached steps =
    let kept = subst (λ (o : Option Core). IfSome o (StepsWell core)) steps (stepping_well core e (any_well core reached)) in
    let all = reached.moves ++ Happens e ∷ [] in
    let leads : moved_from (opening core.size) all ≡ next =
    fold-append moved (opening core.size) reached.moves (Happens e ∷ [])
    ∙ (ap (λ (k : Core). step k e) reached.leads ∙ ap (λ (o : Option Core). unwrap_or o core) steps) in
    record {
      size = subst IsSize (sym kept.same) reached.size;
      moves = all;
      leads = subst (λ (size : Size). moved_from (opening size) all ≡ next) (sym kept.same) leads;
    }

-- one move more
pub reachable_moved : (core : Core) (move : Move) → IsReachable core → IsReachable (moved core move)
reachable_moved core move reached =
    let kept = move_well core move (any_well core reached) in
    let all = reached.moves ++ move ∷ [] in
    let leads : moved_from (opening core.size) all ≡ moved core move =
    fold-append moved (opening core.size) reached.moves (move ∷ []) ∙ ap (λ (k : Core). moved k move) reached.leads in
    record {
      size = subst IsSize (sym kept.same) reached.size;
      moves = all;
      leads = subst (λ (size : Size). moved_from (opening size) all ≡ moved core move) (sym kept.same) leads;
    }

pub reachable_next : (core : Core) (e : Event) (next : Option Core) → IsReachable core → stepping core e ≡ next → IsReachable (unwrap_or next core)
reachable_next core e None reached is = reached
reachable_next core e (Some new) reached is = reachable_stepping core new e reached is

pub reached_stepping : (core next : Core) (e : Event) → IsReached core → stepping core e ≡ Some next → IsReached next
reached_stepping core next e reached steps =
    let kept = subst (λ (o : Option Core). IfSome o (StepsWell core)) steps (stepping_well core e (reached_well core reached)) in
    let more = reachable_stepping core next e (reachable core reached) steps in
    record { size = subst IsMachineSize (sym kept.same) reached.size; moves = more.moves; leads = more.leads }

pub reached_moved : (core : Core) (move : Move) → IsReached core → IsReached (moved core move)
reached_moved core move reached =
    let more = reachable_moved core move (reachable core reached) in
    let kept = move_well core move (reached_well core reached) in
    record { size = subst IsMachineSize (sym kept.same) reached.size; moves = more.moves; leads = more.leads }

-- a call that steps, or leaves the state as it was
pub reached_either : {T E : Type 0} (result : Result T E) (old new : Core) (e : Event) → IsReached old → IfOk result (λ _. stepping old e ≡ Some new)
    → (IsErr result → new ≡ old) → IsReached new
reached_either (Ok x) old new e reached done same = reached_stepping old new e reached done
reached_either (Err f) old new e reached done same = subst IsReached (sym (same refl)) reached

-- and the machine keeps its size
pub size_either : {T E : Type 0} (result : Result T E) (old new : Core) (e : Event) → IsReached old → IfOk result (λ _. stepping old e ≡ Some new)
    → (IsErr result → new ≡ old) → new.size ≡ old.size
size_either (Ok x) old new e reached done same =
    (subst (λ (o : Option Core). IfSome o (StepsWell old)) done (stepping_well old e (reached_well old reached))).same
size_either (Err f) old new e reached done same = ap (λ (core : Core). core.size) (same refl)

-- the same, where a step that isn't enabled gives nothing
pub reached_maybe : {T : Type 0} (result : Option T) (old new : Core) (e : Event) → IsReached old → IfSome result (λ _. stepping old e ≡ Some new)
    → (result ≡ None → new ≡ old) → IsReached new
reached_maybe (Some x) old new e reached done same = reached_stepping old new e reached done
reached_maybe None old new e reached done same = subst IsReached (sym (same refl)) reached

pub size_maybe : {T : Type 0} (result : Option T) (old new : Core) (e : Event) → IsReached old → IfSome result (λ _. stepping old e ≡ Some new)
    → (result ≡ None → new ≡ old) → new.size ≡ old.size
size_maybe (Some x) old new e reached done same =
    (subst (λ (o : Option Core). IfSome o (StepsWell old)) done (stepping_well old e (reached_well old reached))).same
size_maybe None old new e reached done same = ap (λ (core : Core). core.size) (same refl)

-- a node of a reached state fits its machine
pub any_part : (n : ℕ) (node : NodeOf) (is : IsReachableNode n node) → IsPart is.core.size n node
any_part n node is = subst (IsPart is.core.size n) is.here ((any_well is.core is.reached).each_part n is.some)

abbrev pub reachable_node : (n : ℕ) (node : NodeOf) → IsReachedNode n node → IsReachableNode n node
reachable_node n node is = record { core = is.core; reached = reachable is.core is.reached; some = is.some; here = is.here }
