-- Every step leaves a state tidy.
use Rattle.std.proofs.Common.{◌≡◌, ℕ, ◌+◌, ◌%◌, ◌<◌, ◌≢◌, Bool, true, false, if◌then◌else◌, List, [], ◌∷◌, ◌++◌, length, filter, Option, refl, sym, ap}
use Rattle.std.proofs.Common.{subst, ◌∙◌, inl, inr, arith}
use Rattle.std.proofs.lemmas.Bool.{cases_Bool, cases_eq, and_parts, and_from, eqb-true, eq-eqb}
use Rattle.std.proofs.lemmas.List.{get_or-set_same, get_or-set_other}
use Rattle.std.specs.Prelude.{◌==◌, option_to_list}
use Rattle.sci_packets.specs.{declared.body.Body.{Body}, Table.{is_request}}
use Rattle.sci_cache.specs.{State.{waits}, Line.{LineState}, Cache.{Letter, line_of}}
use Rattle.sci_core.specs.Node.{NodeOf, lines_of, answering, no_node}
use Rattle.sci_core.specs.Core.{Core, node_at, with_node, lane_at, with_lane}
use Rattle.sci_core.specs.{Sharing.{asker_of, is_about, packets_of}, Tidy.{IsAwaited, HasItsPackets, IsTidy}}
use Rattle.sci_core.specs.WellFormed.{IsWellFormed}
use Rattle.sci_core.proofs.Basics.Lists.{at_place_set}
use Rattle.sci_core.proofs.Tidy.PacketMoves.{packets_changed, packets_same, packets_asked, packets_replied, packets_served, packets_accepted, filter_joined}
use Rattle.sci_core.proofs.Tidy.PacketMoves.{filter_left, filter_one, lane_has, node_has}
use Rattle.sci_core.proofs.Tidy.RowWaits.{Keeps, keeps_itself, keeps_packets, idle_has_none, some_has_one}
use Rattle.sci_core.proofs.Tidy.WaitingNodes.{KeepsLines, Stays, AsksOnce, Answers, Replies, Accepts}

-- what a tidy state says of one node and one line
abbrev TidyAt : Core → ℕ → ℕ → Type 0
TidyAt core m k = HasItsPackets (k % core.size.nodes) (line_of (node_at core m).cache k) (packets_of core m k)

keeps_node : (core : Core) (n : ℕ) (next : NodeOf) → KeepsLines core.size.nodes (node_at core n).cache next.cache → (m k : ℕ)
    → Keeps (k % core.size.nodes) (line_of (node_at core m).cache k) (line_of (node_at (with_node core n next) m).cache k)
keeps_node core n next keeps m k =
    at_place_set (λ (j : ℕ) (part : NodeOf). Keeps (k % core.size.nodes) (line_of (node_at core j).cache k) (line_of part.cache k)) core.parts n next no_node
    (λ j. keeps_itself (k % core.size.nodes) (line_of (node_at core j).cache k)) (keeps k) m

-- ---- what a packet is about

pub about_from : (m k : ℕ) (letter : Letter) → letter.line ≡ k → asker_of letter ≡ m → is_about m k letter ≡ true
about_from m k letter line asker = and_from (letter.line == k) (asker_of letter == m) (eq-eqb letter.line k line) (eq-eqb (asker_of letter) m asker)

pub about_line : (m k : ℕ) (letter : Letter) → is_about m k letter ≡ true → letter.line ≡ k
about_line m k letter e = eqb-true letter.line k (and_parts (letter.line == k) (asker_of letter == m) e).0

pub about_asker : (m k : ℕ) (letter : Letter) → is_about m k letter ≡ true → asker_of letter ≡ m
about_asker m k letter e = eqb-true (asker_of letter) m (and_parts (letter.line == k) (asker_of letter == m) e).1

pub request_asker : (letter : Letter) → is_request letter.body ≡ true → asker_of letter ≡ letter.source
request_asker letter e = ap (λ (b : Bool). if b then letter.source else letter.target) e

pub answer_asker : (letter : Letter) → is_request letter.body ≡ false → asker_of letter ≡ letter.target
answer_asker letter e = ap (λ (b : Bool). if b then letter.source else letter.target) e

-- an answer is about what its request is about
pub about_answer : (m k : ℕ) (request : Letter) (body : Body) → is_request request.body ≡ true → is_request body ≡ false
    → is_about m k (answering request body) ≡ is_about m k request
about_answer m k request body asks answers = grind (arith, answer_asker, request_asker)

-- ---- Issue and Perform

pub changed_tidy : (core : Core) (n : ℕ) (next : NodeOf) → n < core.size.nodes → IsWellFormed core → Stays core.size.nodes (node_at core n) next → IsTidy core
    → IsTidy (with_node core n next)
changed_tidy core n next lt well stays tidy m k below within = grind (arith, packets_changed, keeps_packets, keeps_node)

-- ---- other nodes and other lines, when one line of one node changes

pub same_line : (core : Core) (n line : ℕ) (next : NodeOf) (m k : ℕ) → ((j : ℕ) → j ≢ line → line_of next.cache j ≡ line_of (node_at core n).cache j)
    → n < length core.parts → ((m ≡ n) × (k ≡ line) → ⊥) → line_of (node_at (with_node core n next) m).cache k ≡ line_of (node_at core m).cache k
same_line core n line next m k others below not = grind (arith, cases_eq, get_or-set_same, get_or-set_other)

-- ---- Ask

asked_here : (core : Core) (n line place : ℕ) (next : NodeOf) (letter : Letter) → n < length core.parts → place < length core.lanes
    → is_request letter.body ≡ true → letter.source ≡ n → AsksOnce core.size.nodes line (node_at core n) (next, letter)
    → TidyAt core n line → TidyAt (with_lane (with_node core n next) place (lane_at core place ++ letter ∷ [])) n line
asked_here core n line place next letter below within asks from once tidy =
    grind (arith, about_from, request_asker, idle_has_none, packets_asked, get_or-set_same)

pub asked_tidy : (core : Core) (n line place : ℕ) (next : NodeOf) (letter : Letter) → n < length core.parts → place < length core.lanes
    → is_request letter.body ≡ true → letter.source ≡ n → AsksOnce core.size.nodes line (node_at core n) (next, letter) → IsTidy core
    → IsTidy (with_lane (with_node core n next) place (lane_at core place ++ letter ∷ []))
asked_tidy core n line place next letter below within asks from once tidy m k mb kb =
    let new = with_lane (with_node core n next) place (lane_at core place ++ letter ∷ []) in
    elim (cases_Bool (is_about m k letter)) [
      | inl about ↦
          let node : n ≡ m = sym from ∙ (sym (request_asker letter asks) ∙ about_asker m k letter about) in
          let here : line ≡ k = sym once.about ∙ about_line m k letter about in
          let old : TidyAt core n line = subst (λ (j : ℕ). TidyAt core n j) (sym here) (subst (λ (j : ℕ). TidyAt core j k) (sym node) (tidy m k mb kb)) in
          let then_ = asked_here core n line place next letter below within asks from once old in
          subst (λ (j : ℕ). TidyAt new j k) node (subst (λ (j : ℕ). TidyAt new n j) here then_)
      | inr other ↦
          let packets = packets_same core n next place (lane_at core place ++ letter ∷ []) m k below within
          (ap (λ (w : Option Letter). filter (is_about m k) (option_to_list w)) once.waiting) (filter_joined m k (lane_at core place) letter other) in
          let not : (m ≡ n) × (k ≡ line) → ⊥ =
          λ h. (let yes_it = about_from m k letter (once.about ∙ sym h.1) (request_asker letter asks ∙ (from ∙ sym h.0)) in cc) in
          let same = same_line core n line next m k once.others below not in
          subst (HasItsPackets (k % core.size.nodes) (line_of (node_at (with_node core n next) m).cache k)) (sym packets)
          (subst (λ (l : LineState). HasItsPackets (k % core.size.nodes) l (packets_of core m k)) (sym same) (tidy m k mb kb))
    ]

-- ---- Reply

pub replied_tidy : (core : Core) (n place : ℕ) (next : NodeOf) (letter : Letter) → n < length core.parts → place < length core.lanes
    → Replies core.size.nodes (node_at core n) (next, letter) → IsTidy core
    → IsTidy (with_lane (with_node core n next) place (lane_at core place ++ letter ∷ []))
replied_tidy core n place next letter below within replies tidy m k mb kb =
    grind (arith, keeps_node, cases_Bool, some_has_one, node_has, packets_replied, keeps_packets, filter_one, packets_same, filter_joined)

-- ---- Serve and Refuse

pub served_tidy : (core : Core) (n place : ℕ) (next : NodeOf) (request : Letter) (rest : List Letter) → n < length core.parts → place < length core.lanes
    → lane_at core place ≡ request ∷ rest → is_request request.body ≡ true
    → (answers : Answers core.size.nodes request (node_at core n) next) → is_request answers.body ≡ false → IsTidy core
    → IsTidy (with_lane (with_node core n next) place rest)
served_tidy core n place next request rest below within front asks answers is_answer tidy m k mb kb =
    let keeps = keeps_node core n next answers.lines m k in
    let old = line_of (node_at core m).cache k in
    let line = line_of (node_at (with_node core n next) m).cache k in
    let answer = answering request answers.body in
    elim (cases_Bool (is_about m k request)) [
      | inl about ↦
          let one = some_has_one (k % core.size.nodes) old (packets_of core m k) (lane_has core place request rest m k within front about) (tidy m k mb kb) in
          let then_ = packets_served core n next place request answer one.letter rest m k below within front answers.free answers.waiting about
          (about_answer m k request answers.body asks is_answer ∙ about) one.one in
          let numbered : request.control ≡ (old.asks + 65535) % 65536 = ap (λ (l : Letter). l.control) then_.same ∙ one.awaited.numbered in
          let awaited : IsAwaited (k % core.size.nodes) line answer = record {
            waiting = keeps.wait ∙ one.awaited.waiting;
            numbered = numbered ∙ ap (λ (a : ℕ). (a + 65535) % 65536) (sym keeps.asks);
            sent = λ e. cc;
          } in
          subst (HasItsPackets (k % core.size.nodes) line) (sym then_.then_) awaited
      | inr other ↦
          let answer_other : is_about m k answer ≡ false = about_answer m k request answers.body asks is_answer ∙ other in
          let waits : filter (is_about m k) (option_to_list next.waiting) ≡ filter (is_about m k) (option_to_list (node_at core n).waiting) =
          ap (λ (w : Option Letter). filter (is_about m k) (option_to_list w)) answers.waiting
          ∙ (filter_one m k answer answer_other ∙ ap (λ (w : Option Letter). filter (is_about m k) (option_to_list w)) (sym answers.free)) in
          let packets = packets_same core n next place rest m k below within waits (filter_left m k (lane_at core place) rest request front other) in
          subst (HasItsPackets (k % core.size.nodes) line) (sym packets)
          (keeps_packets (k % core.size.nodes) old line (packets_of core m k) keeps (tidy m k mb kb))
    ]

-- ---- Accept

accepted_here : (core : Core) (n place : ℕ) (next : NodeOf) (answer : Letter) (rest : List Letter) → n < length core.parts → place < length core.lanes
    → lane_at core place ≡ answer ∷ rest → is_request answer.body ≡ false → answer.target ≡ n → answer.line < lines_of (node_at core n)
    → Accepts answer.line (node_at core n) next → TidyAt core n answer.line → TidyAt (with_lane (with_node core n next) place rest) n answer.line
accepted_here core n place next answer rest below within front answers to about_line_below accepts tidy =
    let line = answer.line in
    let about = about_from n line answer refl (answer_asker answer answers ∙ to) in
    let one = some_has_one (line % core.size.nodes) (line_of (node_at core n).cache line) (packets_of core n line)
    (lane_has core place answer rest n line within front about) tidy in
    let then_ = packets_accepted core n next place answer one.letter rest n line below within front accepts.waiting about one.one in
    let at : node_at (with_node core n next) n ≡ next = get_or-set_same core.parts n next no_node below in
    let idle : waits (line_of (node_at (with_node core n next) n).cache line).state ≡ false =
    ap (λ (part : NodeOf). waits (line_of part.cache line).state) at ∙ accepts.idle about_line_below in
    subst (HasItsPackets (line % core.size.nodes) (line_of (node_at (with_node core n next) n).cache line)) (sym then_.then_) idle

pub accepted_tidy : (core : Core) (n place : ℕ) (next : NodeOf) (answer : Letter) (rest : List Letter) → n < length core.parts → place < length core.lanes
    → lane_at core place ≡ answer ∷ rest → is_request answer.body ≡ false → answer.target ≡ n → answer.line < lines_of (node_at core n)
    → Accepts answer.line (node_at core n) next → IsTidy core → IsTidy (with_lane (with_node core n next) place rest)
accepted_tidy core n place next answer rest below within front answers to on_line accepts tidy m k mb kb =
    let new = with_lane (with_node core n next) place rest in
    let line = answer.line in
    elim (cases_Bool (is_about m k answer)) [
      | inl about ↦
          let node : n ≡ m = sym to ∙ (sym (answer_asker answer answers) ∙ about_asker m k answer about) in
          let here : line ≡ k = about_line m k answer about in
          let old : TidyAt core n line = subst (λ (j : ℕ). TidyAt core n j) (sym here) (subst (λ (j : ℕ). TidyAt core j k) (sym node) (tidy m k mb kb)) in
          let then_ = accepted_here core n place next answer rest below within front answers to on_line accepts old in
          subst (λ (j : ℕ). TidyAt new j k) node (subst (λ (j : ℕ). TidyAt new n j) here then_)
      | inr other ↦
          let packets = packets_same core n next place rest m k below within
          (ap (λ (w : Option Letter). filter (is_about m k) (option_to_list w)) accepts.waiting)
          (filter_left m k (lane_at core place) rest answer front other) in
          let not : (m ≡ n) × (k ≡ line) → ⊥ = λ h. (let yes_it = about_from m k answer (sym h.1) (answer_asker answer answers ∙ (to ∙ sym h.0)) in cc) in
          let same = same_line core n line next m k accepts.others below not in
          subst (HasItsPackets (k % core.size.nodes) (line_of (node_at (with_node core n next) m).cache k)) (sym packets)
          (subst (λ (l : LineState). HasItsPackets (k % core.size.nodes) l (packets_of core m k)) (sym same) (tidy m k mb kb))
    ]
