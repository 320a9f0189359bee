-- What comes by a lane of a reached state is taken, and is waited for.
use Rattle.std.proofs.Common.{◌≡◌, ℕ, ◌<◌, ◌%◌, Bool, true, false, if◌then◌else◌, List, [], ◌∷◌, Option, Some, None, refl, sym, ap, subst, ◌∙◌, rules}
use Rattle.std.proofs.{Common.{arith}, lemmas.Bool.{eq-eqb}}
use Rattle.std.specs.Prelude.{option_map, ◌==◌, IsSome, slice_get}
use Rattle.sci_packets.specs.{declared.body.Body.{Body}, Table.{IsRequest}}
use Rattle.sci_home.specs.{declared.state.HomeState.{HomeState}, Serving.{is_for_home, home_serving}}
use Rattle.sci_cache.specs.{State.{CacheState, waits}, Serving.{serving}, Accepting.{accepting}}
use Rattle.sci_cache.specs.{Line.{last_control, line_in}, Cache.{Letter, line_of, with_line}}
use Rattle.sci_core.proofs.{Basics.{Lists.{if_cases}, Options.{map_some}}, Step.Applied.{front_holds, front_comes}}
use Rattle.sci_core.proofs.{Step.{Places.{place_from}, Steps.{lane_below}}, Tidy.PacketMoves.{lane_has, packets_accepted}}
use Rattle.sci_core.proofs.Tidy.{TidyRuns.{any_tidy, node_below}, TidySteps.{about_from, request_asker, answer_asker}}
use Rattle.sci_core.proofs.{Tidy.RowWaits.{some_has_one}, ReachedLaws.{any_accepted}}
use Rattle.sci_core.proofs.WellFormed.WellFormedSteps.{any_well, reachable}
use Rattle.sci_core.specs.declared.lane.LaneKind.{LaneKind, TheVariants.{Requests, Answers}}
use Rattle.sci_core.specs.Node.{NodeOf, node_serving, node_refusing, is_setback, accepted_by}
use Rattle.sci_core.specs.{Core.{Core, node_at, lane_place, lane_of}, Enabled.{IsAcceptedAt, AreServedAt}}
use Rattle.sci_core.specs.{Reached.{IsReachable, IsReached}, Sharing.{asker_of, packets_of, answer_in, answer_to}}
use Rattle.sci_core.specs.{Tidy.{IsAccepted}, WellFormed.{IsInLane}}
use Rattle.sci_packets.specs.declared.body.Body.TheVariants as body

-- ---- requests

home_serves : (state : HomeState) (n : ℕ) (request : Body) → is_for_home request ≡ true → IsSome (home_serving state n request)
home_serves state n body.Mread e = search rules
home_serves state n _ e = search rules

cache_serves : (state : CacheState) (n : ℕ) (request : Body) → is_for_home request ≡ false → IsRequest request → IsSome (serving state n request)
cache_serves state n body.Cread e asks = search rules
cache_serves state n _ e asks = search rules

-- a request is served unless an answer waits
pub serve_enabled : (node : NodeOf) (request : Letter) → IsRequest request.body → node.waiting ≡ None → IsSome (node_serving node request)
serve_enabled node request asks free = grind (arith, map_some, if_cases, home_serves, cache_serves)

-- and refused, unless it is a Setback
pub refuse_enabled : (node : NodeOf) (request : Letter) → is_setback request.body ≡ false → node.waiting ≡ None → IsSome (node_refusing node request)
refuse_enabled node request other free = grind arith

-- ---- the packets of a line

-- the front of a lane is the one packet of its asker's line
pub record IsOnly (core : Core) (n : ℕ) (letter : Letter) : Type 0 where
  pub below : n < core.size.nodes
  pub about : letter.line < core.size.lines
  pub one : packets_of core n letter.line ≡ letter ∷ []
  pub waiting : waits (line_of (node_at core n).cache letter.line).state ≡ true
  pub numbered : letter.control ≡ last_control (line_of (node_at core n).cache letter.line)

only_packet : (core : Core) (kind : LaneKind) (from to n : ℕ) (letter : Letter) (rest : List Letter) → IsReachable core → from < core.size.nodes
    → to < core.size.nodes → n < core.size.nodes → letter.line < core.size.lines
    → lane_of core kind from to ≡ letter ∷ rest → asker_of letter ≡ n → IsOnly core n letter
only_packet core kind from to n letter rest reached f t lt about front asker =
    let well = any_well core reached in
    let line = letter.line in
    let place = lane_place core.size.nodes kind from to in
    let within = lane_below core kind from to well f t in
    let about_it = about_from n line letter refl asker in
    let has = some_has_one (line % core.size.nodes) (line_of (node_at core n).cache line) (packets_of core n line)
    (lane_has core place letter rest n line within front about_it) (any_tidy core reached n line lt about) in
    let same = (packets_accepted core n (node_at core n) place letter has.letter rest n line (node_below core n well lt) within front refl about_it
    has.one).same in
    record {
      below = lt;
      about = about;
      one = has.one ∙ ap (λ (l : Letter). l ∷ []) (sym same);
      waiting = has.awaited.waiting;
      numbered = ap (λ (l : Letter). l.control) same ∙ has.awaited.numbered;
    }

-- ---- answers

accepts_it : (node : NodeOf) (line control : ℕ) (answer : Body) → control ≡ last_control (line_of node.cache line)
    → IsSome (accepting (line_of node.cache line).state answer) → (awaited : Bool) → (control == last_control (line_of node.cache line)) ≡ awaited
    → (next : Option CacheState) → accepting (line_of node.cache line).state answer ≡ next
    → IsSome (accepted_by node (option_map (λ s. with_line node.cache line (line_in (line_of node.cache line) s)) (if awaited then next else None)))
accepts_it node line control answer numbered some true e (Some next) is = refl
accepts_it node line control answer numbered some true e None is = let not = subst IsSome is some in cc
accepts_it node line control answer numbered some false e next is = let equal = eq-eqb control (last_control (line_of node.cache line)) numbered in cc

-- an answer at the front of a lane is accepted by its taker
pub any_accept_enabled : (core : Core) (from n : ℕ) → IsReachable core → from < core.size.nodes → n < core.size.nodes → IsAcceptedAt core from n
any_accept_enabled core from n reached f lt letter rest front =
    let well = any_well core reached in
    let comes = front_comes core from n Answers letter well f lt (ap (λ (lane : List Letter). slice_get lane 0) front) in
    let only = only_packet core Answers from n n letter rest reached f lt lt comes.0.letter_ok.about front (answer_asker letter comes.0.answers ∙ comes.1) in
    let node = node_at core n in
    let told : answer_to core n letter.line ≡ Some letter.body =
    ap answer_in only.one ∙ ap (λ (b : Bool). if b then None else Some letter.body) comes.0.answers in
    let accepted = subst (IsAccepted (line_of node.cache letter.line).state) told (any_accepted core reached n letter.line only.about) in
    accepts_it node letter.line letter.control letter.body only.numbered accepted (letter.control == last_control (line_of node.cache letter.line)) refl
    (accepting (line_of node.cache letter.line).state letter.body) refl

-- a request at the front of a lane is served, or refused, and its sender waits
pub any_request_enabled : (core : Core) (from n : ℕ) → IsReachable core → from < core.size.nodes → n < core.size.nodes → AreServedAt core from n
any_request_enabled core from n reached f lt =
    let well = any_well core reached in
    let front_of = λ (letter : Letter) (rest : List Letter) (front : lane_of core Requests from n ≡ letter ∷ rest).
    ap (λ (lane : List Letter). slice_get lane 0) front in
    record {
      served = λ letter rest front free.
          serve_enabled (node_at core n) letter (front_comes core from n Requests letter well f lt (front_of letter rest front)).0.asks free;
      refused = λ letter rest front free other. refuse_enabled (node_at core n) letter other free;
      waited = λ letter rest front. (
          let comes = front_comes core from n Requests letter well f lt (front_of letter rest front) in
          let place = lane_place core.size.nodes Requests from n in
          let in_lane = front_holds (IsInLane core.size.nodes core.size.lines place) (lane_of core Requests from n) letter (front_of letter rest front)
          (well.each_lane place) in
          let source = in_lane.from ∙ place_from core.size.nodes Requests from n f lt in
          let only = only_packet core Requests from n from letter rest reached f lt f comes.0.letter_ok.about front
          (request_asker letter comes.0.asks ∙ source) in
          (only.about, only.waiting));
    }

-- ---- within the limits

pub accept_enabled : (core : Core) (from n : ℕ) → IsReached core → from < core.size.nodes → n < core.size.nodes → IsAcceptedAt core from n
accept_enabled core from n reached f lt = any_accept_enabled core from n (reachable core reached) f lt

pub request_enabled : (core : Core) (from n : ℕ) → IsReached core → from < core.size.nodes → n < core.size.nodes → AreServedAt core from n
request_enabled core from n reached f lt = any_request_enabled core from n (reachable core reached) f lt
