-- What laws of turns say of the turn that comes.
use Rattle.std.proofs.Common.{◌≡◌, ◌<◌, ◌%◌, ℕ, Bool, true, false, if◌then◌else◌, List, [], ◌∷◌, Some, None, sym, ap, ◌∙◌, arith}
use Rattle.sci_history.specs.Seen.{IsAmong}
use Rattle.sci_packets.specs.Table.{is_request}
use Rattle.sci_cache.specs.Cache.{Letter, line_of}
use Rattle.sci_core.specs.declared.lane.LaneKind.TheVariants.{Requests, Answers}
use Rattle.sci_core.specs.{Core.{Core, lane_of, node_at}, Reached.{IsReached}, Sharing.{answer_in, answer_to, is_about, packets_of}}
use Rattle.sci_core.proofs.Tidy.TidyRuns.{reached_tidy}
use Rattle.sci_fair.specs.Steady.{HasTurnBy, Working, WorksByTurns}
use Rattle.sci_fair.proofs.{Descents.{ComesBy}, HomeAnswers.{AnsweredAt}}
use Rattle.sci_fair.proofs.{Whereabouts.{lane_packets, same_packet}, WholeTurns.{sole}}

-- the turn that comes
pub turn_of : (IsTurn : ℕ → Working → Working → Type 0) (n : ℕ) (P : Working → Working → Type 0) (Done : ℕ → Working → Working
    → Type 0) (nodes count : ℕ) (order : List ℕ) (first last : Working)
    → (c : ComesBy IsTurn Done nodes count order first last) → c.node ≡ n → P c.old c.new → HasTurnBy IsTurn n P order first last
turn_of IsTurn n P Done nodes count order first last c same so = grind arith

-- it isn't there when its answer is under way
pub not_there : (core : Core) (n to line : ℕ) (letter : Letter) → WorksByTurns core → n < core.size.nodes → to < core.size.nodes → line < core.size.lines
    → is_request letter.body ≡ true → is_about n line letter ≡ true → AnsweredAt n line core → IsAmong letter (lane_of core Requests n to) → ⊥
not_there core n to line letter good some t inside asks about answered among =
    let same = same_packet core n line letter answered.letter good.reached some inside
    (lane_packets core Requests n to n line letter good.reached some t about among)
    (lane_packets core Answers answered.from n n line answered.letter good.reached answered.sender some answered.about answered.among) in
    let clash : true ≡ false = sym asks ∙ (ap (λ (l : Letter). is_request l.body) same ∙ answered.answers) in cc

some_answer : (letter : Letter) → is_request letter.body ≡ false → answer_in (letter ∷ []) ≡ Some letter.body
some_answer letter answers = ap (λ (b : Bool). if b then None else Some letter.body) answers

-- an answer that is on its way is the one to its line
pub answered_to : (core : Core) (n line : ℕ) → IsReached core → n < core.size.nodes → line < core.size.lines → (answered : AnsweredAt n line core)
    → answer_to core n line ≡ Some answered.letter.body
answered_to core n line reached some inside answered =
    let packet = lane_packets core Answers answered.from n n line answered.letter reached answered.sender some answered.about answered.among in
    let alone = sole (line % core.size.nodes) (line_of (node_at core n).cache line) (packets_of core n line) answered.letter
    (reached_tidy core reached n line some inside) packet in
    ap answer_in alone.one ∙ some_answer answered.letter answered.answers
