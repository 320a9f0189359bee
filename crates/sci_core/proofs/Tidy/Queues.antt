-- How many packets are under way to one node. They are of the asks that wait (`Burdens`), each at most once: the lanes to a node
-- are some of all lanes, each at its own place.
use Rattle.std.proofs.Common.{◌≡◌, ℕ, zero, suc, ◌+◌, ◌*◌, ◌<◌, ◌≤◌, List, [], ◌∷◌, ◌++◌, length, map, get_or, filter, take, refl, sym, ap, subst, ◌∙◌, arith}
use Rattle.std.proofs.lemmas.List.{length-append, take-take, Elements.{All-weaker, recursion_from_All, filter-append}}
use Rattle.std.proofs.lemmas.List.FromFn.{get_or-map-range_with_len, length-map-range_with_len, sum_by-map-range_with_len_more}
use Rattle.std.proofs.lemmas.List.{Sums.{sum_by-cons, sum_by-take-le, sum_by_more}}
use Rattle.std.specs.Prelude.{option_to_list}
use Rattle.std.specs.List.{All, AllByRecursion, flat_map, range_with_len, sum_by}
use Rattle.sci_history.proofs.Order.{all-append}
use Rattle.sci_cache.specs.Cache.{Letter}
use Rattle.sci_core.specs.declared.lane.LaneKind.{LaneKind, TheVariants.{Requests, Answers}}
use Rattle.sci_core.specs.{Core.{Core, lane_of, lane_place}, Queues.{FitsQueues, coming, lanes_to}, Reached.{IsReachable}}
use Rattle.sci_core.specs.{Draining.{one_if}, Node.{NodeOf}, Sharing.{asker_of, is_about, packets_of}, WellFormed.{IsInLane, IsWellFormed}}
use Rattle.sci_core.proofs.Step.Places.{place_answers, place_below, place_to}
use Rattle.sci_core.proofs.Tidy.Burdens.{IsOneOf, all_counted, flat_all, in_lane_one, node_lines, node_packets, node_slots, of_node}
use Rattle.sci_core.proofs.Tidy.Burdens.{one_about, one_more, sum_to, sum_to_at, sum_to_less, sum_to_more, sum_to_under}
use Rattle.sci_core.proofs.{Tidy.{TidySteps.{about_from, answer_asker}}, WellFormed.WellFormedSteps.{any_well}}

-- ---- some lanes among all

-- how many packets of a lane are about this
abbrev about_in : ℕ → ℕ → List Letter → ℕ
about_in m line lane = length (filter (is_about m line) lane)

count_flat : (m line : ℕ) (lanes : List (List Letter)) → about_in m line (flat_map (λ (lane : List Letter). lane) lanes) ≡ sum_by (about_in m line) lanes
count_flat m line [] = refl
count_flat m line (lane ∷ lanes) =
    let parts = ap length (filter-append (is_about m line) lane (flat_map (λ (l : List Letter). l) lanes)) in
    let both = length-append (filter (is_about m line) lane) (filter (is_about m line) (flat_map (λ (l : List Letter). l) lanes)) in
    let rest = count_flat m line lanes in
    let sum = sum_by-cons (about_in m line) lane lanes in
    omega arith

-- a longer beginning has no smaller sum
sum_longer : (f : List Letter → ℕ) (lanes : List (List Letter)) (i j : ℕ) → i ≤ j → sum_by f (take i lanes) ≤ sum_by f (take j lanes)
sum_longer f lanes i j le =
    subst (λ (xs : List (List Letter)). sum_by f xs ≤ sum_by f (take j lanes)) (take-take i j lanes le) (sum_by-take-le f (take j lanes) i)

-- lanes at places that rise
spread : (f : List Letter → ℕ) (lanes : List (List Letter)) (place : ℕ → ℕ) (k : ℕ) → ((i : ℕ) → i < k → place i < length lanes)
    → ((i : ℕ) → place i < place (suc i))
    → sum_by f (take (place 0) lanes) + sum_by f (map (λ (i : ℕ). get_or lanes (place i) []) (range_with_len 0 k)) ≤ sum_by f (take (place k) lanes)
spread f lanes place zero within rise = omega arith
spread f lanes place (suc k) within rise =
    let before = spread f lanes place k (λ i lt. within i (omega arith)) rise in
    let lane = λ (i : ℕ). get_or lanes (place i) [] in
    let next : k + 1 ≡ suc k = omega arith in
    let here = subst (λ (m : ℕ). sum_by f (map lane (range_with_len 0 m)) ≡ sum_by f (map lane (range_with_len 0 k)) + f (lane k)) next
    (sum_by-map-range_with_len_more f lane 0 k k (omega arith)) in
    let more = sum_by_more f lanes (place k) [] (within k (omega arith)) in
    let up = rise k in
    let rest = sum_longer f lanes (place k + 1) (place (suc k)) (omega arith) in
    omega arith

place_rises : (nodes : ℕ) (kind : LaneKind) (n i : ℕ) → n < nodes → lane_place nodes kind i n < lane_place nodes kind (suc i) n
place_rises nodes kind n i lt = grind arith

-- the requests' lanes stand before the answers'
place_ends : (nodes n : ℕ) → lane_place nodes Requests nodes n ≡ lane_place nodes Answers 0 n
place_ends nodes n = grind arith

lanes_few : (f : List Letter → ℕ) (core : Core) (n : ℕ) → IsWellFormed core → n < core.size.nodes
    → sum_by f (lanes_to core Requests n) + sum_by f (lanes_to core Answers n) ≤ sum_by f core.lanes
lanes_few f core n well lt =
    let nodes = core.size.nodes in
    let long = well.sizes.lanes_long in
    let within : (kind : LaneKind) (i : ℕ) → i < nodes → lane_place nodes kind i n < length core.lanes =
    λ kind i below. (let inside = place_below nodes kind i n below lt in omega arith) in
    let requests = spread f core.lanes (λ i. lane_place nodes Requests i n) nodes (within Requests) (λ i. place_rises nodes Requests n i lt) in
    let answers = spread f core.lanes (λ i. lane_place nodes Answers i n) nodes (within Answers) (λ i. place_rises nodes Answers n i lt) in
    let seam = ap (λ (k : ℕ). sum_by f (take k core.lanes)) (place_ends nodes n) in
    let all = sum_by-take-le f core.lanes (lane_place nodes Answers nodes n) in
    omega arith

-- ---- the packets to a node, among those under way

-- the packets in the lanes to a node
abbrev all_coming : Core → ℕ → List Letter
all_coming core n = coming core Requests n ++ coming core Answers n

-- the answers that wait to be sent
abbrev waiting_answers : Core → List Letter
waiting_answers core = flat_map (λ (part : NodeOf). option_to_list part.waiting) core.parts

few_about : (core : Core) (n m line : ℕ) → IsWellFormed core → n < core.size.nodes
    → about_in m line (coming core Requests n) + about_in m line (coming core Answers n) ≤ length (packets_of core m line)
few_about core n m line well lt =
    let requests = count_flat m line (lanes_to core Requests n) in
    let answers = count_flat m line (lanes_to core Answers n) in
    let few = lanes_few (about_in m line) core n well lt in
    let lanes = count_flat m line core.lanes in
    let in_lanes = flat_map (λ (lane : List Letter). lane) core.lanes in
    let parts = ap length (filter-append (is_about m line) (waiting_answers core) in_lanes) in
    let both = length-append (filter (is_about m line) (waiting_answers core)) (filter (is_about m line) in_lanes) in
    omega arith

coming_one : (core : Core) (kind : LaneKind) (n : ℕ) (P : Letter → Type 0) → ((from : ℕ) → from < core.size.nodes → All P (lane_of core kind from n))
    → AllByRecursion P (coming core kind n)
coming_one core kind n P each =
    flat_all P (λ (lane : List Letter). lane) (lanes_to core kind n) []
    (λ i below.
    let long = length-map-range_with_len (λ from. lane_of core kind from n) 0 core.size.nodes in
    let lt : i < core.size.nodes = omega arith in
    recursion_from_All P (get_or (lanes_to core kind n) i [])
    (subst (All P) (sym (get_or-map-range_with_len (λ from. lane_of core kind from n) 0 core.size.nodes i i [] lt (omega arith))) (each i lt)))

-- of all nodes and lines
all_few : (core : Core) (n bound : ℕ) → IsReachable core → n < core.size.nodes → ((m : ℕ) → m < core.size.nodes → of_node core m ≤ bound)
    → length (coming core Requests n) + length (coming core Answers n) ≤ core.size.nodes * bound
all_few core n bound reached lt each =
    let well = any_well core reached in
    let P = IsOneOf core.size.nodes core.size.lines in
    let one : (kind : LaneKind) → AllByRecursion P (coming core kind n) =
    λ kind. coming_one core kind n P
    (λ from below. All-weaker (IsInLane core.size.nodes core.size.lines (lane_place core.size.nodes kind from n)) P
    (λ letter is. in_lane_one core.size.nodes core.size.lines (lane_place core.size.nodes kind from n) letter is) (lane_of core kind from n)
    (well.each_lane (lane_place core.size.nodes kind from n))) in
    let counts = all_counted core.size.nodes core.size.lines (all_coming core n)
    (all-append P (coming core Requests n) (coming core Answers n) (one Requests) (one Answers)) in
    let whole = length-append (coming core Requests n) (coming core Answers n) in
    let under = sum_to_under (λ m. sum_to (λ line. about_in m line (all_coming core n)) core.size.lines) (of_node core) core.size.nodes
    (λ m below. sum_to_under (λ line. about_in m line (all_coming core n)) (λ line. length (packets_of core m line)) core.size.lines
    (λ line inside.
    let parts = ap length (filter-append (is_about m line) (coming core Requests n) (coming core Answers n)) in
    let both = length-append (filter (is_about m line) (coming core Requests n)) (filter (is_about m line) (coming core Answers n)) in
    let few = few_about core n m line well lt in
    omega arith)) in
    let most = sum_to_less (of_node core) bound core.size.nodes each in
    omega arith

-- ---- the answers to a node, which are of its own asks

pub record IsTo (n lines : ℕ) (letter : Letter) : Type 0 where
  pub asker : asker_of letter ≡ n
  pub line : letter.line < lines

own_counted : (n lines : ℕ) (letters : List Letter) → AllByRecursion (IsTo n lines) letters → length letters ≤ sum_to (λ line. about_in n line letters) lines
own_counted n lines [] all = omega arith
own_counted n lines (letter ∷ rest) all =
    let here : one_about letter n letter.line ≡ 1 = ap one_if (about_from n letter.line letter refl all.0.asker) in
    let this = sum_to_at (one_about letter n) lines letter.line all.0.line in
    let others = own_counted n lines rest all.1 in
    let more = sum_to_more (λ line. about_in n line (letter ∷ rest)) (one_about letter n) (λ line. about_in n line rest) lines
    (λ line. one_more (is_about n line letter) letter (filter (is_about n line) rest)) in
    omega arith

answer_to_node : (core : Core) (from n : ℕ) → IsWellFormed core → n < core.size.nodes → (letter : Letter)
    → IsInLane core.size.nodes core.size.lines (lane_place core.size.nodes Answers from n) letter → IsTo n core.size.lines letter
answer_to_node core from n well lt letter is =
    let answer = is.answer (place_answers core.size.nodes from n) in
    record { asker = answer_asker letter answer.answers ∙ (is.to ∙ place_to core.size.nodes Answers from n lt); line = answer.letter_ok.about }

answers_few : (core : Core) (n : ℕ) → IsReachable core → n < core.size.nodes → length (coming core Answers n) ≤ of_node core n
answers_few core n reached lt =
    let well = any_well core reached in
    let own = own_counted n core.size.lines (coming core Answers n)
    (coming_one core Answers n (IsTo n core.size.lines)
    (λ from below. All-weaker (IsInLane core.size.nodes core.size.lines (lane_place core.size.nodes Answers from n)) (IsTo n core.size.lines)
    (answer_to_node core from n well lt) (lane_of core Answers from n) (well.each_lane (lane_place core.size.nodes Answers from n)))) in
    let under = sum_to_under (λ line. about_in n line (coming core Answers n)) (λ line. length (packets_of core n line)) core.size.lines
    (λ line inside. (let few = few_about core n n line well lt in omega arith)) in
    omega arith

pub queues_fit : (core : Core) (n : ℕ) → IsReachable core → n < core.size.nodes → FitsQueues core n
queues_fit core n reached lt = grind (arith, of_node, node_packets, node_lines, node_slots, answers_few, all_few)
