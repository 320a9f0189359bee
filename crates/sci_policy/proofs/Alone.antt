-- A machine of one node.
use Rattle.std.proofs.Common.{◌≡◌, ◌≤◌, ◌<◌, ◌*◌, ◌⊎◌, ℕ, zero, suc, true, false, arith, List, [], ◌∷◌, filter, length, get_or, None, refl, sym, ap, subst}
use Rattle.std.proofs.{Common.{◌∙◌, inl, inr}, lemmas.{Bool.{cases_lt}, List.{get_or_past}}}
use Rattle.std.specs.{Prelude.{option_to_list}, List.{flat_map}}
use Rattle.sci_cache.specs.{State.{waits}, Line.{LineState}, Cache.{Letter, line_of}}
use Rattle.sci_core.specs.declared.lane.LaneKind.TheVariants.{Answers, Requests}
use Rattle.sci_core.specs.{Core.{Core, lane_at, lane_of, lane_place, node_at}, Node.{NodeOf, no_node}}
use Rattle.sci_core.specs.{Reached.{IsReached}, Sharing.{is_about, packets_of, under_way}, Tidy.{HasItsPackets}}
use Rattle.sci_core.proofs.{Tidy.TidyRuns.{reached_tidy}, WellFormed.WellFormedSteps.{reached_well}}
use Rattle.sci_policy.specs.Lines.{state_on}

none_flat : {X : Type 0} (f : X → List Letter) (xs : List X) (d : X) → ((i : ℕ) → i < length xs → f (get_or xs i d) ≡ []) → flat_map f xs ≡ []
none_flat f [] d none = refl
none_flat f (x ∷ xs) d none = rw (none 0 (omega arith), none_flat f xs d (λ i below. none (suc i) (omega arith))) refl

pub first_only : (i n : ℕ) → i < n → n ≡ 1 → i ≡ 0
first_only i n below one = omega arith

two_lanes : (i nodes lanes : ℕ) → i < lanes → lanes ≡ 2 * nodes * nodes → nodes ≡ 1 → i < 2
two_lanes i nodes lanes below long one = let two : lanes ≡ 2 = long ∙ ap (λ (k : ℕ). 2 * k * k) one in omega arith

place_alone : (nodes : ℕ) (i : ℕ) → nodes ≡ 1 → i < 2 → (lane_place nodes Requests 0 0 ≡ i) ⊎ (lane_place nodes Answers 0 0 ≡ i)
place_alone nodes zero one few = inl (rw one refl)
place_alone nodes (suc zero) one few = inr (rw one refl)
place_alone nodes (suc (suc i)) one few = absurd (omega arith)

-- no packet is under way if nothing waits at the node, and both lanes to itself are empty
quiet : (core : Core) → IsReached core → core.size.nodes ≡ 1 → (node_at core 0).waiting ≡ None → lane_of core Requests 0 0 ≡ [] → lane_of core Answers 0 0 ≡ []
    → (line : ℕ) → packets_of core 0 line ≡ []
quiet core reached one free requests answers line =
    let well = reached_well core reached in
    let parts : flat_map (λ (part : NodeOf). option_to_list part.waiting) core.parts ≡ [] =
    none_flat (λ (part : NodeOf). option_to_list part.waiting) core.parts no_node (λ i below.
    let first : i ≡ 0 = first_only i core.size.nodes (let long = well.sizes.parts_long in omega arith) one in
    subst (λ (j : ℕ). option_to_list (node_at core j).waiting ≡ []) (sym first) (ap option_to_list free)) in
    let lanes : flat_map (λ (lane : List Letter). lane) core.lanes ≡ [] = none_flat (λ (lane : List Letter). lane) core.lanes [] (λ i below.
    let two : i < 2 = two_lanes i core.size.nodes (length core.lanes) below well.sizes.lanes_long one in
    elim (place_alone core.size.nodes i one two) [
      | inl is ↦ subst (λ (p : ℕ). lane_at core p ≡ []) is requests
      | inr is ↦ subst (λ (p : ℕ). lane_at core p ≡ []) is answers
    ]) in
    let all : under_way core ≡ [] = rw (parts, lanes) refl in
    ap (filter (is_about 0 line)) all

waits_for_one : (home : ℕ) (line : LineState) (packets : List Letter) → HasItsPackets home line packets → packets ≡ [] → waits line.state ≡ true → ⊥
waits_for_one home line [] has none awaits = let clash : true ≡ false = sym awaits ∙ has in cc
waits_for_one home line (letter ∷ packets) has none awaits = cc

-- ---- any machine

pub beyond_out : (core : Core) (n line : ℕ) → IsReached core → n < core.size.nodes → core.size.lines ≤ line → waits (state_on (node_at core n) line) ≡ true → ⊥
beyond_out core n line reached some past awaits = grind (arith, reached_well, get_or_past)

-- so no line awaits an answer
pub alone_rests : (core : Core) → IsReached core → core.size.nodes ≡ 1 → (node_at core 0).waiting ≡ None → lane_of core Requests 0 0 ≡ []
    → lane_of core Answers 0 0 ≡ [] → (line : ℕ) → waits (state_on (node_at core 0) line) ≡ true → ⊥
alone_rests core reached one free requests answers line awaits =
    let here : 0 < core.size.nodes = omega arith in
    elim (cases_lt line core.size.lines) [
      | inl inside ↦ waits_for_one _ (line_of (node_at core 0).cache line) _ (reached_tidy core reached 0 line here inside)
          (quiet core reached one free requests answers line) awaits
      | inr past ↦ beyond_out core 0 line reached here past awaits
    ]
