-- The answer that is under way to a node about a line waits at the node that answers, or is in the lane from there. By
-- tidiness there is one at most, so the first that is found is it.
use Rattle.std.proofs.Common.{◌≡◌, ◌≢◌, ◌⊎◌, ℕ, suc, ◌+◌, ◌*◌, ◌%◌, ◌<◌, ◌≤◌, ◌&&◌, ◌||◌, not, Bool, true, false, if◌then◌else◌, cond, ◌==◌, List, [], ◌∷◌}
use Rattle.std.proofs.Common.{◌++◌, length, filter, get_or, take, drop, Option, Some, None, append_assoc, length-append, refl, sym, ap, ◌∙◌, subst, arith}
use Rattle.std.proofs.{Common.{inl, inr}, lemmas.{Bool.{cases_Bool, cases_eq, ne_eqb}, List.{take-append-drop}}}
use Rattle.std.proofs.lemmas.List.{Elements.{filter-append, recursion_from_All}, Folds.{list_any-append}}
use Rattle.std.proofs.lemmas.Grind.{flat_map-append}
use Rattle.std.specs.{Prelude.{option_to_list}, Option.{option_or}, List.{flat_map, list_any, AllByRecursion}}
use Rattle.sci_packets.specs.{declared.body.Body.{Body}, Table.{is_request}}
use Rattle.sci_cache.specs.{Cache.{Letter, line_of}, Line.{LineState}}
use Rattle.sci_core.specs.{declared.lane.LaneKind.TheVariants.{Requests, Answers}, Node.{NodeOf, no_node}}
use Rattle.sci_core.specs.Core.{Core, node_at, lane_at, lane_of, lane_place}
use Rattle.sci_core.specs.Sharing.{asker_of, is_about, asks_about, answer_in, packets_of, under_way, answer_to}
use Rattle.sci_core.specs.{Tidy.{HasItsPackets, IsTidy}, WellFormed.{IsInLane, IsWellFormed}}
use Rattle.sci_core.proofs.{Basics.Options.{after_none}, Step.Places.{place_to, place_requests, place_answers}}
use Rattle.sci_core.proofs.{Step.Steps.{lane_below}, Settling.Drains.{IsPlace, place_of}}
use Rattle.sci_core.proofs.Tidy.Seeking.{seek, seek_append, seek_first, seek_second, seek_other, flat_more}

abbrev waiting : NodeOf → List Letter
waiting part = option_to_list part.waiting

abbrev carried : List Letter → List Letter
carried lane = lane

-- ---- the one packet that is found

some_found : (letters : List Letter) (body : Body) → answer_in letters ≡ Some body → 1 ≤ length letters
some_found [] body e = cc
some_found (letter ∷ letters) body e = omega arith

none_long : (letters : List Letter) → length letters ≤ 0 → letters ≡ []
none_long [] none = refl
none_long (letter ∷ letters) none = absurd (omega arith)

-- of the packets of a node and a line there is one at most, so what one part has is what the whole has
found_in : (n line : ℕ) (before here after : List Letter) (body : Body) → length (filter (is_about n line) (before ++ (here ++ after))) ≤ 1
    → seek n line here ≡ Some body → seek n line (before ++ (here ++ after)) ≡ Some body
found_in n line before here after body few is = grind (arith, filter-append, some_found, length-append, seek_second, none_long, seek_first)

few_packets : (home : ℕ) (line : LineState) (letters : List Letter) → HasItsPackets home line letters → length letters ≤ 1
few_packets home line [] has = omega arith
few_packets home line (letter ∷ []) has = omega arith
few_packets home line (letter ∷ another ∷ letters) has = absurd has

split_at : {X : Type 0} (f : X → List Letter) (xs : List X) (i : ℕ) (d : X) → i < length xs
    → flat_map f xs ≡ flat_map f (take i xs) ++ (f (get_or xs i d) ++ flat_map f (drop (i + 1) xs))
split_at f xs i d below =
    ap (flat_map f) (sym (take-append-drop (i + 1) xs)) ∙ flat_map-append f (take (i + 1) xs) (drop (i + 1) xs)
    ∙ ap (λ (letters : List Letter). letters ++ flat_map f (drop (i + 1) xs)) (flat_more f xs i d below)
    ∙ append_assoc (flat_map f (take i xs)) (f (get_or xs i d)) (flat_map f (drop (i + 1) xs))

found_waiting : (core : Core) (from n line : ℕ) (body : Body) → IsWellFormed core → IsTidy core → from < core.size.nodes → n < core.size.nodes
    → line < core.size.lines → seek n line (waiting (node_at core from)) ≡ Some body → answer_to core n line ≡ Some body
found_waiting core from n line body well tidy f lt inside is =
    let few = few_packets (line % core.size.nodes) (line_of (node_at core n).cache line) (packets_of core n line) (tidy n line lt inside) in
    let lanes = flat_map carried core.lanes in
    let before = flat_map waiting (take from core.parts) in
    let here = waiting (node_at core from) in
    let after = flat_map waiting (drop (from + 1) core.parts) in
    let parts : under_way core ≡ before ++ (here ++ (after ++ lanes)) =
    ap (λ (letters : List Letter). letters ++ lanes) (split_at waiting core.parts from no_node (rw well.sizes.parts_long f))
    ∙ append_assoc before (here ++ after) lanes ∙ ap (λ (letters : List Letter). before ++ letters) (append_assoc here after lanes) in
    ap (seek n line) parts ∙ found_in n line before here (after ++ lanes) body
    (subst (λ (letters : List Letter). length (filter (is_about n line) letters) ≤ 1) parts few) is

-- what is so of all packets, with a lane's in their midst and one at most for the node and the line, is so of the answer
among_lanes : (P : Option Body → Type 0) (core : Core) (place n line : ℕ) → IsTidy core → place < length core.lanes → n < core.size.nodes
    → line < core.size.lines → ((before after : List Letter) → length (filter (is_about n line) (before ++ (lane_at core place ++ after))) ≤ 1
    → P (seek n line (before ++ (lane_at core place ++ after)))) → P (answer_to core n line)
among_lanes P core place n line tidy below lt inside so =
    let few = few_packets (line % core.size.nodes) (line_of (node_at core n).cache line) (packets_of core n line) (tidy n line lt inside) in
    let first = flat_map waiting core.parts in
    let before = flat_map carried (take place core.lanes) in
    let here = lane_at core place in
    let after = flat_map carried (drop (place + 1) core.lanes) in
    let parts : under_way core ≡ (first ++ before) ++ (here ++ after) =
    ap (λ (letters : List Letter). first ++ letters) (split_at carried core.lanes place [] below) ∙ sym (append_assoc first before (here ++ after)) in
    subst (λ (letters : List Letter). P (seek n line letters)) (sym parts)
    (so (first ++ before) after (subst (λ (letters : List Letter). length (filter (is_about n line) letters) ≤ 1) parts few))

found_carried : (core : Core) (place n line : ℕ) (body : Body) → IsTidy core → place < length core.lanes → n < core.size.nodes → line < core.size.lines
    → seek n line (lane_at core place) ≡ Some body → answer_to core n line ≡ Some body
found_carried core place n line body tidy below lt inside is =
    among_lanes (λ found. found ≡ Some body) core place n line tidy below lt inside
    (λ before after few. found_in n line before (lane_at core place) after body few is)

-- ---- a request that is under way

abbrev asking : Letter → Bool
asking letter = is_request letter.body

-- a packet that is alone is no answer if it is a request
asked_alone : (letters : List Letter) → length letters ≤ 1 → list_any asking letters ≡ true → answer_in letters ≡ None
asked_alone [] few asks = refl
asked_alone (letter ∷ []) few asks = grind arith
asked_alone (letter ∷ another ∷ letters) few asks = absurd (omega arith)

any_first : (b c : Bool) → b ≡ true → (b || c) ≡ true
any_first true c e = refl
any_first false c e = cc

any_second : (b c : Bool) → c ≡ true → (b || c) ≡ true
any_second true c e = refl
any_second false c e = e

-- one packet more, if it is a request, about the line, from the node, and of its asks
stays : (asks about from mine : Bool) (letter : Letter) (more : Bool) (kept : List Letter) → ((asks && (about && from)) || more) ≡ true
    → (more ≡ true → list_any asking kept ≡ true)
    → asks ≡ is_request letter.body → (asks ≡ true → mine ≡ from) → list_any asking (cond (about && mine) (letter ∷ kept) kept) ≡ true
stays asks about from mine letter more kept any rest is same = grind (arith, any_first, any_second)

-- the requests of a node about a line are among its packets
asks_stay : (n line : ℕ) (letters : List Letter) → list_any (asks_about n line) letters ≡ true → list_any asking (filter (is_about n line) letters) ≡ true
asks_stay n line [] asks = asks
asks_stay n line (letter ∷ letters) asks =
    stays (is_request letter.body) (letter.line == line) (letter.source == n) (asker_of letter == n) letter (list_any (asks_about n line) letters)
    (filter (is_about n line) letters) asks (asks_stay n line letters) refl
    (λ request. ap (λ (b : Bool). (if b then letter.source else letter.target) == n) request)

asked_in : (n line : ℕ) (before here after : List Letter) → length (filter (is_about n line) (before ++ (here ++ after))) ≤ 1
    → list_any (asks_about n line) here ≡ true → seek n line (before ++ (here ++ after)) ≡ None
asked_in n line before here after few asks = grind (arith, list_any-append, any_first, any_second, asked_alone, asks_stay)

-- if the request is still in a lane, no answer is under way
asked_carried : (core : Core) (place n line : ℕ) → IsTidy core → place < length core.lanes → n < core.size.nodes → line < core.size.lines
    → list_any (asks_about n line) (lane_at core place) ≡ true → answer_to core n line ≡ None
asked_carried core place n line tidy below lt inside asks =
    among_lanes (λ found. found ≡ None) core place n line tidy below lt inside
    (λ before after few. asked_in n line before (lane_at core place) after few asks)

-- ---- nothing is found

none_of_first : (first second : Option Body) → option_or first second ≡ None → first ≡ None
none_of_first None second e = refl
none_of_first (Some body) second e = cc

none_of_second : (first second : Option Body) → option_or first second ≡ None → second ≡ None
none_of_second None second e = e
none_of_second (Some body) second e = cc

none_in_parts : {X : Type 0} (n line : ℕ) (f : X → List Letter) (xs : List X) (d : X) → ((i : ℕ) → i < length xs → seek n line (f (get_or xs i d)) ≡ None)
    → seek n line (flat_map f xs) ≡ None
none_in_parts n line f [] d none = refl
none_in_parts n line f (x ∷ xs) d none =
    seek_append n line (f x) (flat_map f xs) ∙ after_none (seek n line (f x)) (seek n line (flat_map f xs)) (none 0 (omega arith))
    ∙ none_in_parts n line f xs d (λ i below. none (suc i) (omega arith))

-- whether a packet answers the node about the line
abbrev is_answer : ℕ → ℕ → Letter → Bool
is_answer n line letter = is_about n line letter && not (is_request letter.body)

none_among : (n line : ℕ) (letters : List Letter) → AllByRecursion (λ letter. is_answer n line letter ≡ false) letters → seek n line letters ≡ None
none_among n line [] all = refl
none_among n line (letter ∷ letters) all =
    seek_append n line (letter ∷ []) letters ∙ after_none (seek n line (letter ∷ [])) (seek n line letters) (seek_other n line letter all.0)
    ∙ none_among n line letters all.1

all_others : (n line place nodes lines : ℕ) → ((letter : Letter) → IsInLane nodes lines place letter → is_answer n line letter ≡ false)
    → (letters : List Letter) → AllByRecursion (IsInLane nodes lines place) letters → AllByRecursion (λ letter. is_answer n line letter ≡ false) letters
all_others n line place nodes lines other [] all = tt
all_others n line place nodes lines other (letter ∷ letters) all = (other letter all.0, all_others n line place nodes lines other letters all.1)

request_is_no_answer : (n line : ℕ) (letter : Letter) → is_request letter.body ≡ true → is_answer n line letter ≡ false
request_is_no_answer n line letter asks = grind (arith, cases_Bool)

other_is_no_answer : (n line : ℕ) (letter : Letter) → is_request letter.body ≡ false → letter.target ≢ n → is_answer n line letter ≡ false
other_is_no_answer n line letter answers other = grind (arith, cases_Bool, ne_eqb)

none_elsewhere : (core : Core) (n line place : ℕ) → IsWellFormed core
    → (((from : ℕ) → from < core.size.nodes → seek n line (lane_of core Answers from n) ≡ None))
    → IsPlace core.size.nodes place Requests ⊎ IsPlace core.size.nodes place Answers → seek n line (lane_at core place) ≡ None
none_elsewhere core n line place well none (inl at) =
    let nodes = core.size.nodes in
    let first : place < nodes * nodes = subst (λ (p : ℕ). p < nodes * nodes) at.here (place_requests nodes at.from at.to at.sender at.receiver) in
    none_among n line (lane_at core place)
    (all_others n line place nodes core.size.lines (λ letter is. request_is_no_answer n line letter (is.request first).asks) (lane_at core place)
    (recursion_from_All (IsInLane nodes core.size.lines place) (lane_at core place) (well.each_lane place)))
none_elsewhere core n line place well none (inr at) =
    let nodes = core.size.nodes in
    elim (cases_eq at.to n) [
      | inl mine ↦ ap (λ (p : ℕ). seek n line (lane_at core p)) (sym at.here ∙ ap (lane_place nodes Answers at.from) mine) ∙ none at.from at.sender
      | inr other ↦
          let second : nodes * nodes ≤ place = subst (λ (p : ℕ). nodes * nodes ≤ p) at.here (place_answers nodes at.from at.to) in
          let to : place % nodes ≡ at.to = ap (λ (p : ℕ). p % nodes) (sym at.here) ∙ place_to nodes Answers at.from at.to at.receiver in
          none_among n line (lane_at core place)
          (all_others n line place nodes core.size.lines
          (λ letter is. other_is_no_answer n line letter (is.answer second).answers (λ e. other (sym (is.to ∙ to) ∙ e))) (lane_at core place)
          (recursion_from_All (IsInLane nodes core.size.lines place) (lane_at core place) (well.each_lane place)))
    ]

-- ---- from one node after another

-- what a node has for another: the answer that waits there, and those in the lane
abbrev pub sent_from : Core → ℕ → ℕ → List Letter
sent_from core from n = waiting (node_at core from) ++ lane_of core Answers from n

found_either : (first second : Option Body) (body : Body) → option_or first second ≡ Some body → (first ≡ Some body) ⊎ (second ≡ Some body)
found_either None second body e = inr e
found_either (Some other) second body e = inl e

pub found_from : (core : Core) (from n line : ℕ) (body : Body) → IsWellFormed core → IsTidy core → from < core.size.nodes → n < core.size.nodes
    → line < core.size.lines → seek n line (sent_from core from n) ≡ Some body → answer_to core n line ≡ Some body
found_from core from n line body well tidy f lt inside is =
    let waits = waiting (node_at core from) in
    let lane = lane_of core Answers from n in
    elim (found_either (seek n line waits) (seek n line lane) body (sym (seek_append n line waits lane) ∙ is)) [
      | inl here ↦ found_waiting core from n line body well tidy f lt inside here
      | inr here ↦ found_carried core (lane_place core.size.nodes Answers from n) n line body tidy (lane_below core Answers from n well f lt) lt inside here
    ]

-- if the request is in the lane to a node, no answer is under way
pub asked_at : (core : Core) (from n line : ℕ) → IsWellFormed core → IsTidy core → from < core.size.nodes → n < core.size.nodes → line < core.size.lines
    → list_any (asks_about n line) (lane_of core Requests n from) ≡ true → answer_to core n line ≡ None
asked_at core from n line well tidy f lt inside asks =
    asked_carried core (lane_place core.size.nodes Requests n from) n line tidy (lane_below core Requests n from well lt f) lt inside asks

pub none_from : (core : Core) (n line : ℕ) → IsWellFormed core → n < core.size.nodes
    → ((from : ℕ) → from < core.size.nodes → seek n line (sent_from core from n) ≡ None) → answer_to core n line ≡ None
none_from core n line well lt none =
    let parted = λ (from : ℕ) (f : from < core.size.nodes). sym (seek_append n line (waiting (node_at core from)) (lane_of core Answers from n))
    ∙ none from f in
    let no_waiting : seek n line (flat_map waiting core.parts) ≡ None =
    none_in_parts n line waiting core.parts no_node
    (λ from f. none_of_first (seek n line (waiting (node_at core from))) (seek n line (lane_of core Answers from n))
    (parted from (rw (← well.sizes.parts_long) f))) in
    let lane_none = λ (from : ℕ) (f : from < core.size.nodes).
    none_of_second (seek n line (waiting (node_at core from))) (seek n line (lane_of core Answers from n)) (parted from f) in
    let no_carried : seek n line (flat_map carried core.lanes) ≡ None =
    none_in_parts n line carried core.lanes []
    (λ place below. none_elsewhere core n line place well lane_none
    (place_of core.size.nodes place (omega (arith, well.sizes.some_node)) (rw (← well.sizes.lanes_long) below))) in
    seek_second n line (flat_map waiting core.parts) (flat_map carried core.lanes) no_waiting ∙ no_carried
