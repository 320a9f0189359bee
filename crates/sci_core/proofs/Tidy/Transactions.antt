-- Transactions alternate, since the packets under way tell how far each is.
use Rattle.std.proofs.Common.{◌≡◌, ℕ, ◌%◌, ◌<◌, Bool, true, false, if◌then◌else◌, List, [], ◌∷◌, ◌++◌, length, filter, map, Option, Some, None, refl, sym, ap}
use Rattle.std.proofs.{Common.{subst, ◌∙◌, inl, inr, arith}, lemmas.{Bool.{cases_Bool}, List.Elements.{All-head}}}
use Rattle.std.specs.{Prelude.{IfSome, unwrap_or, option_to_list, option_map, slice_get}, List.{All}}
use Rattle.sci_core.proofs.Basics.Options.{if_below}
use Rattle.sci_core.proofs.Tidy.PacketMoves.{packets_changed, packets_same, packets_asked, packets_replied, packets_served, packets_accepted, filter_joined}
use Rattle.sci_core.proofs.Tidy.PacketMoves.{filter_left, filter_one, lane_has, node_has}
use Rattle.sci_core.proofs.Tidy.RowWaits.{idle_has_none, some_has_one}
use Rattle.sci_core.proofs.Tidy.WaitingNodes.{Stays, AsksOnce, Answers, Replies, Accepts, issue_stays, perform_stays, ask_once, serve_answers}
use Rattle.sci_core.proofs.Tidy.WaitingNodes.{refuse_answers, reply_replies, accept_accepts}
use Rattle.sci_core.proofs.Tidy.TidySteps.{about_line, about_asker, request_asker, about_answer}
use Rattle.sci_core.proofs.Tidy.{Overtaking.{overtaken_packets}, TidyRuns.{node_below, waiting_answers, move_tidy, opening_none, opening_tidy}}
use Rattle.sci_core.proofs.WellFormed.Parts.{SendsWell, RepliesWell, part_asking, part_serving, part_refusing, part_replying}
use Rattle.sci_core.proofs.WellFormed.WellFormedSteps.{Comes, comes_from_lane, move_well, opened}
use Rattle.sci_core.proofs.Step.Steps.{lane_below}
use Rattle.sci_words.specs.declared.event.Event.{Event}
use Rattle.sci_packets.specs.Table.{is_request}
use Rattle.sci_cache.specs.Cache.{Letter, line_of}
use Rattle.sci_history.specs.declared.entry.Entry.{Entry}
use Rattle.sci_core.specs.declared.lane.LaneKind.TheVariants.{Requests, Answers as AnswerLane}
use Rattle.sci_core.specs.Node.{NodeOf, answering, node_issuing, node_performing, node_accepting}
use Rattle.sci_core.specs.Core.{Core, node_at, with_node, lane_place, lane_at, lane_of, with_lane, changes, performs, sends, side, Takes, node_of}
use Rattle.sci_core.specs.Core.{taken_as, taken_from, step_by, stepping, step, opening}
use Rattle.sci_core.specs.{Sharing.{is_about, packets_of}, Tidy.{IsTidy}, WellFormed.{IsInLane, IsPart, IsWellFormed}}
use Rattle.sci_core.specs.Alternates.{Mark, Asked, Taken, Accepted, mark_of, marks_about, marks_of, trace, Phase, Idle, Sent, Served, IsAlternating}
use Rattle.sci_core.specs.{Alternates.{Alternates}, Size.{Size, IsSize}}
use Rattle.sci_core.specs.Network.{Happens, Move, Overtakes, marks_by, marks_in, moved}
use Rattle.sci_words.specs.declared.event.Event.TheVariants as event

-- how far the transaction is whose packets are under way
abbrev pub phase_of : List Letter → Phase
phase_of [] = Idle
phase_of (letter ∷ letters) = if is_request letter.body then Sent letter.control else Served letter.control

-- marks that lead from one phase to the next
abbrev pub Advances : Phase → List Mark → Phase → Type 0
Advances phase [] next = next ≡ phase
Advances Idle (Asked c ∷ []) next = next ≡ Sent c
Advances (Sent c) (Taken d ∷ []) next = (d ≡ c) × (next ≡ Served c)
Advances (Served c) (Accepted d ∷ []) next = (d ≡ c) × (next ≡ Idle)
Advances phase (mark ∷ marks) next = ⊥

goes_on : (phase next : Phase) (marks rest : List Mark) → Advances phase marks next → IsAlternating next rest → IsAlternating phase (marks ++ rest)
goes_on phase next [] rest step then_ = subst (λ (p : Phase). IsAlternating p rest) step then_
goes_on Idle next (Asked c ∷ []) rest step then_ = subst (λ (p : Phase). IsAlternating p rest) step then_
goes_on (Sent c) next (Taken d ∷ []) rest step then_ = (step.0, subst (λ (p : Phase). IsAlternating p rest) step.1 then_)
goes_on (Served c) next (Accepted d ∷ []) rest step then_ = (step.0, subst (λ (p : Phase). IsAlternating p rest) step.1 then_)
goes_on phase next (mark ∷ marks) rest step then_ = elim step [ ]

none_follows : (phase : Phase) → IsAlternating phase []
none_follows Idle = tt
none_follows (Sent c) = tt
none_follows (Served c) = tt

-- ---- one packet more, or another, or none

still : (phase next : Phase) → next ≡ phase → Advances phase [] next
still Idle next e = e
still (Sent c) next e = e
still (Served c) next e = e

no_mark : (about : Bool) (mark : Mark) (ps qs : List Letter) → about ≡ false → qs ≡ ps → Advances (phase_of ps) (if about then mark ∷ [] else []) (phase_of qs)
no_mark about mark ps qs e same =
    subst (λ (b : Bool). Advances (phase_of ps) (if b then mark ∷ [] else []) (phase_of qs)) (sym e) (still (phase_of ps) (phase_of qs) (ap phase_of same))

taken_mark : (about : Bool) (request answer : Letter) (ps qs : List Letter) → about ≡ true → is_request request.body ≡ true → is_request answer.body ≡ false
    → answer.control ≡ request.control → ps ≡ request ∷ [] → qs ≡ answer ∷ []
    → Advances (phase_of ps) (if about then Taken request.control ∷ [] else []) (phase_of qs)
taken_mark about request answer ps qs e asks answers same before after = grind arith

accepted_mark : (about : Bool) (answer : Letter) (ps qs : List Letter) → about ≡ true → is_request answer.body ≡ false → ps ≡ answer ∷ [] → qs ≡ []
    → Advances (phase_of ps) (if about then Accepted answer.control ∷ [] else []) (phase_of qs)
accepted_mark about answer ps qs e answers before after = grind arith

-- ---- the steps

-- a step to this state advances each transaction, by this mark
abbrev Advanced : Core → Option (Mark × Letter) → Core → Type 0
Advanced core mark new = (n line : ℕ) → n < core.size.nodes → line < core.size.lines
    → Advances (phase_of (packets_of core n line)) (marks_about n line mark) (phase_of (packets_of new n line))

changed_advance : (core : Core) (n : ℕ) (next : NodeOf) → n < core.size.nodes → IsWellFormed core → next.waiting ≡ (node_at core n).waiting
    → Advanced core None (with_node core n next)
changed_advance core n next lt well same m k mb kb = grind (arith, still, packets_changed)

asked_advance : (core : Core) (n line place : ℕ) (next : NodeOf) (letter : Letter) → n < length core.parts → place < length core.lanes
    → is_request letter.body ≡ true → letter.source ≡ n → AsksOnce core.size.nodes line (node_at core n) (next, letter) → IsTidy core
    → Advanced core (Some (Asked letter.control, letter)) (with_lane (with_node core n next) place (lane_at core place ++ letter ∷ []))
asked_advance core n line place next letter below within asks from once tidy m k mb kb =
    grind (arith, cases_Bool, request_asker, about_asker, about_line, idle_has_none, packets_asked, no_mark, packets_same, filter_joined)

replied_advance : (core : Core) (n place : ℕ) (next : NodeOf) (letter : Letter) → n < length core.parts → place < length core.lanes
    → Replies core.size.nodes (node_at core n) (next, letter) → IsTidy core
    → Advanced core None (with_lane (with_node core n next) place (lane_at core place ++ letter ∷ []))
replied_advance core n place next letter below within replies tidy m k mb kb =
    grind (arith, cases_Bool, some_has_one, node_has, packets_replied, packets_same, filter_one, filter_joined, still)

served_advance : (core : Core) (n place : ℕ) (next : NodeOf) (request : Letter) (rest : List Letter) → n < length core.parts → place < length core.lanes
    → lane_at core place ≡ request ∷ rest → is_request request.body ≡ true
    → (answers : Answers core.size.nodes request (node_at core n) next) → is_request answers.body ≡ false → IsTidy core
    → Advanced core (Some (Taken request.control, request)) (with_lane (with_node core n next) place rest)
served_advance core n place next request rest below within front asks answers is_answer tidy m k mb kb =
    let new = with_lane (with_node core n next) place rest in
    let answer = answering request answers.body in
    elim (cases_Bool (is_about m k request)) [
      | inl about ↦
          let one = some_has_one (k % core.size.nodes) (line_of (node_at core m).cache k) (packets_of core m k)
          (lane_has core place request rest m k within front about) (tidy m k mb kb) in
          let then_ = packets_served core n next place request answer one.letter rest m k below within front answers.free answers.waiting about
          (about_answer m k request answers.body asks is_answer ∙ about) one.one in
          taken_mark (is_about m k request) request answer (packets_of core m k) (packets_of new m k) about asks is_answer refl
          (one.one ∙ ap (λ (l : Letter). l ∷ []) (sym then_.same)) then_.then_
      | inr other ↦
          let answer_other : is_about m k answer ≡ false = about_answer m k request answers.body asks is_answer ∙ other in
          no_mark (is_about m k request) (Taken request.control) (packets_of core m k) (packets_of new m k) other
          (packets_same core n next place rest m k below within
          (ap (λ (w : Option Letter). filter (is_about m k) (option_to_list w)) answers.waiting
          ∙ (filter_one m k answer answer_other ∙ ap (λ (w : Option Letter). filter (is_about m k) (option_to_list w)) (sym answers.free)))
          (filter_left m k (lane_at core place) rest request front other))
    ]

accepted_advance : (core : Core) (n place : ℕ) (next : NodeOf) (answer : Letter) (rest : List Letter) → n < length core.parts → place < length core.lanes
    → lane_at core place ≡ answer ∷ rest → is_request answer.body ≡ false
    → Accepts answer.line (node_at core n) next → IsTidy core
    → Advanced core (Some (Accepted answer.control, answer)) (with_lane (with_node core n next) place rest)
accepted_advance core n place next answer rest below within front answers accepts tidy m k mb kb =
    let new = with_lane (with_node core n next) place rest in
    elim (cases_Bool (is_about m k answer)) [
      | inl about ↦
          let one = some_has_one (k % core.size.nodes) (line_of (node_at core m).cache k) (packets_of core m k)
          (lane_has core place answer rest m k within front about) (tidy m k mb kb) in
          let then_ = packets_accepted core n next place answer one.letter rest m k below within front accepts.waiting about one.one in
          accepted_mark (is_about m k answer) answer (packets_of core m k) (packets_of new m k) about answers
          (one.one ∙ ap (λ (l : Letter). l ∷ []) (sym then_.same)) then_.then_
      | inr other ↦
          no_mark (is_about m k answer) (Accepted answer.control) (packets_of core m k) (packets_of new m k) other
          (packets_same core n next place rest m k below within (ap (λ (w : Option Letter). filter (is_about m k) (option_to_list w)) accepts.waiting)
          (filter_left m k (lane_at core place) rest answer front other))
    ]

-- ---- each kind of side

changes_advance : (core : Core) (n : ℕ) (next : Option NodeOf) → n < core.size.nodes → IsWellFormed core → IfSome next (Stays core.size.nodes (node_at core n))
    → IfSome (step_by core n (changes next)) (Advanced core None)
changes_advance core n None lt well stays = tt
changes_advance core n (Some next) lt well stays = changed_advance core n next lt well stays.waiting

performs_advance : (core : Core) (n : ℕ) (done : Option (NodeOf × Entry)) → n < core.size.nodes → IsWellFormed core
    → IfSome done (λ (x : NodeOf × Entry). Stays core.size.nodes (node_at core n) x.0) → IfSome (step_by core n (performs done)) (Advanced core None)
performs_advance core n None lt well stays = tt
performs_advance core n (Some done) lt well stays = changed_advance core n done.0 lt well stays.waiting

asks_advance : (core : Core) (n line : ℕ) (sent : Option (NodeOf × Letter)) → n < core.size.nodes → IsWellFormed core → IsTidy core
    → IfSome sent (AsksOnce core.size.nodes line (node_at core n)) → IfSome sent (SendsWell core.size n)
    → IfSome (step_by core n (sends Requests sent)) (Advanced core (option_map (λ (s : NodeOf × Letter). (Asked s.1.control, s.1)) sent))
asks_advance core n line None lt well tidy once sends_well = tt
asks_advance core n line (Some sent) lt well tidy once sends_well =
    asked_advance core n line (lane_place core.size.nodes Requests n sent.1.target) sent.0 sent.1 (node_below core n well lt)
    (lane_below core Requests n sent.1.target well lt sends_well.request.letter_ok.target) sends_well.request.asks sends_well.from once tidy

replies_advance : (core : Core) (n : ℕ) (sent : Option (NodeOf × Letter)) → n < core.size.nodes → IsWellFormed core → IsTidy core
    → IfSome sent (Replies core.size.nodes (node_at core n)) → IfSome sent (RepliesWell core.size n)
    → IfSome (step_by core n (sends AnswerLane sent)) (Advanced core None)
replies_advance core n None lt well tidy replies sends_well = tt
replies_advance core n (Some sent) lt well tidy replies sends_well =
    replied_advance core n (lane_place core.size.nodes AnswerLane n sent.1.target) sent.0 sent.1 (node_below core n well lt)
    (lane_below core AnswerLane n sent.1.target well lt sends_well.answer.letter_ok.target) replies tidy

took_request : (core : Core) (n place : ℕ) (letter : Letter) (rest : List Letter) (next : Option NodeOf) → n < length core.parts → place < length core.lanes
    → lane_at core place ≡ letter ∷ rest → Comes core n Requests letter
    → IfSome next (Answers core.size.nodes letter (node_at core n)) → IfSome next (IsPart core.size n) → IsTidy core
    → IfSome (taken_as core n place rest next) (Advanced core (Some (Taken letter.control, letter)))
took_request core n place letter rest None below within front comes answers is tidy = tt
took_request core n place letter rest (Some next) below within front comes answers is tidy = grind (arith, served_advance, waiting_answers)

takes_request : (core : Core) (n place : ℕ) (taking : Letter → Option NodeOf) (lane : List Letter) → n < length core.parts → place < length core.lanes
    → lane_at core place ≡ lane → ((letter : Letter) → IsInLane core.size.nodes core.size.lines place letter → Comes core n Requests letter)
    → ((letter : Letter) → IfSome (taking letter) (Answers core.size.nodes letter (node_at core n)))
    → ((letter : Letter) → Comes core n Requests letter → IfSome (taking letter) (IsPart core.size n)) → IsWellFormed core → IsTidy core
    → IfSome (taken_from core n place taking lane) (Advanced core (option_map (λ (l : Letter). (Taken l.control, l)) (slice_get lane 0)))
takes_request core n place taking [] below within front comes answers is well tidy = tt
takes_request core n place taking (letter ∷ rest) below within front comes answers is well tidy =
    let in_lane = All-head (IsInLane core.size.nodes core.size.lines place) letter rest
    (subst (All (IsInLane core.size.nodes core.size.lines place)) front (well.each_lane place)) in
    took_request core n place letter rest (taking letter) below within front (comes letter in_lane) (answers letter) (is letter (comes letter in_lane)) tidy

took_answer : (core : Core) (n place : ℕ) (letter : Letter) (rest : List Letter) (next : Option NodeOf) → n < length core.parts → place < length core.lanes
    → lane_at core place ≡ letter ∷ rest → Comes core n AnswerLane letter
    → IfSome next (Accepts letter.line (node_at core n)) → IsTidy core
    → IfSome (taken_as core n place rest next) (Advanced core (Some (Accepted letter.control, letter)))
took_answer core n place letter rest None below within front comes accepts tidy = tt
took_answer core n place letter rest (Some next) below within front comes accepts tidy =
    accepted_advance core n place next letter rest below within front comes.0.answers accepts tidy

takes_answer : (core : Core) (n place : ℕ) (taking : Letter → Option NodeOf) (lane : List Letter) → n < length core.parts → place < length core.lanes
    → lane_at core place ≡ lane → ((letter : Letter) → IsInLane core.size.nodes core.size.lines place letter → Comes core n AnswerLane letter)
    → ((letter : Letter) → IfSome (taking letter) (Accepts letter.line (node_at core n))) → IsWellFormed core → IsTidy core
    → IfSome (taken_from core n place taking lane) (Advanced core (option_map (λ (l : Letter). (Accepted l.control, l)) (slice_get lane 0)))
takes_answer core n place taking [] below within front comes accepts well tidy = tt
takes_answer core n place taking (letter ∷ rest) below within front comes accepts well tidy =
    let in_lane = All-head (IsInLane core.size.nodes core.size.lines place) letter rest
    (subst (All (IsInLane core.size.nodes core.size.lines place)) front (well.each_lane place)) in
    took_answer core n place letter rest (taking letter) below within front (comes letter in_lane) (accepts letter) tidy

request_taken : (core : Core) (n from : ℕ) (taking : Letter → Option NodeOf) → n < core.size.nodes
    → ((letter : Letter) → IfSome (taking letter) (Answers core.size.nodes letter (node_at core n)))
    → ((letter : Letter) → Comes core n Requests letter → IfSome (taking letter) (IsPart core.size n)) → IsWellFormed core → IsTidy core
    → IfSome (step_by core n (Takes Requests from taking))
    (Advanced core (option_map (λ (l : Letter). (Taken l.control, l)) (slice_get (lane_of core Requests from n) 0)))
request_taken core n from taking lt answers is well tidy =
    if_below from core.size.nodes (Advanced core (option_map (λ (l : Letter). (Taken l.control, l)) (slice_get (lane_of core Requests from n) 0)))
    (taken_from core n (lane_place core.size.nodes Requests from n) taking (lane_of core Requests from n)) (λ f.
    takes_request core n (lane_place core.size.nodes Requests from n) taking (lane_of core Requests from n) (node_below core n well lt)
    (lane_below core Requests from n well f lt) refl
    (λ letter h. comes_from_lane core from n Requests letter f lt h) answers is well tidy)

answer_taken : (core : Core) (n from : ℕ) (taking : Letter → Option NodeOf) → n < core.size.nodes
    → ((letter : Letter) → IfSome (taking letter) (Accepts letter.line (node_at core n))) → IsWellFormed core → IsTidy core
    → IfSome (step_by core n (Takes AnswerLane from taking))
    (Advanced core (option_map (λ (l : Letter). (Accepted l.control, l)) (slice_get (lane_of core AnswerLane from n) 0)))
answer_taken core n from taking lt accepts well tidy =
    if_below from core.size.nodes (Advanced core (option_map (λ (l : Letter). (Accepted l.control, l)) (slice_get (lane_of core AnswerLane from n) 0)))
    (taken_from core n (lane_place core.size.nodes AnswerLane from n) taking (lane_of core AnswerLane from n)) (λ f.
    takes_answer core n (lane_place core.size.nodes AnswerLane from n) taking (lane_of core AnswerLane from n) (node_below core n well lt)
    (lane_below core AnswerLane from n well f lt) refl
    (λ letter h. comes_from_lane core from n AnswerLane letter f lt h) accepts well tidy)

side_advances : (core : Core) (e : Event) → node_of e < core.size.nodes → IsWellFormed core → IsTidy core
    → IfSome (step_by core (node_of e) (side (node_at core (node_of e)) e)) (Advanced core (mark_of core e))
side_advances core (event.Issue n op) lt well tidy =
    changes_advance core n (node_issuing (node_at core n) op) lt well (issue_stays core.size.nodes (node_at core n) op)
side_advances core (event.Perform n line) lt well tidy =
    performs_advance core n (node_performing (node_at core n) line) lt well (perform_stays core.size.nodes (node_at core n) line)
side_advances core (event.Ask n line kind) lt well tidy = grind (arith, asks_advance, ask_once, part_asking)
side_advances core (event.Serve from n) lt well tidy = grind (arith, request_taken, serve_answers, part_serving)
side_advances core (event.Refuse from n) lt well tidy = grind (arith, request_taken, refuse_answers, part_refusing)
side_advances core (event.Reply n) lt well tidy = grind (arith, replies_advance, reply_replies, part_replying)
side_advances core (event.Accept from n) lt well tidy =
    answer_taken core n from (node_accepting (node_at core n)) lt (accept_accepts (node_at core n)) well tidy

stepping_advances : (core : Core) (e : Event) → IsWellFormed core → IsTidy core → IfSome (stepping core e) (Advanced core (mark_of core e))
unfolding stepping
stepping_advances core e well tidy =
    if_below (node_of e) core.size.nodes (Advanced core (mark_of core e)) (step_by core (node_of e) (side (node_at core (node_of e)) e))
    (λ lt. side_advances core e lt well tidy)

-- ---- runs

by_case : (core : Core) (next : Option Core) (mark : Option (Mark × Letter)) (n line : ℕ) → IfSome next (Advanced core mark) → n < core.size.nodes
    → line < core.size.lines
    → Advances (phase_of (packets_of core n line)) (elim next as (λ _. List Mark) [ None ↦ [] | Some new ↦ marks_about n line mark ])
    (phase_of (packets_of (unwrap_or next core) n line))
by_case core None mark n line h lt below = still (phase_of (packets_of core n line)) (phase_of (packets_of core n line)) refl
by_case core (Some new) mark n line h lt below = h n line lt below

move_advances : (core : Core) (move : Move) (n line : ℕ) → IsWellFormed core → IsTidy core → n < core.size.nodes → line < core.size.lines
    → Advances (phase_of (packets_of core n line)) (marks_in core move n line) (phase_of (packets_of (moved core move) n line))
move_advances core (Happens e) n line well tidy lt below =
    by_case core (stepping core e) (mark_of core e) n line (stepping_advances core e well tidy) lt below
move_advances core (Overtakes place k) n line well tidy lt below = ap phase_of (overtaken_packets core place k n line well tidy below)

-- over a network that keeps no order
moves_advance : (core : Core) (moves : List Move) (n line : ℕ) → IsWellFormed core → IsTidy core → n < core.size.nodes → line < core.size.lines
    → IsAlternating (phase_of (packets_of core n line)) (marks_by core moves n line)
moves_advance core [] n line well tidy lt below = none_follows (phase_of (packets_of core n line))
moves_advance core (move ∷ moves) n line well tidy lt below =
    let next = move_well core move well in
    goes_on (phase_of (packets_of core n line)) (phase_of (packets_of (moved core move) n line)) (marks_in core move n line)
    (marks_by (moved core move) moves n line) (move_advances core move n line well tidy lt below)
    (moves_advance (moved core move) moves n line next.well (move_tidy core move well tidy) (subst (λ (size : Size). n < size.nodes) (sym next.same) lt)
    (subst (λ (size : Size). line < size.lines) (sym next.same) below))

pub moves_alternate : (size : Size) (moves : List Move) (n line : ℕ) → IsSize size → n < size.nodes → line < size.lines
    → IsAlternating Idle (marks_by (opening size) moves n line)
moves_alternate size moves n line sizes lt below =
    let core = opening size in
    let none = opening_none size n line in
    subst (λ (ps : List Letter). IsAlternating (phase_of ps) (marks_by core moves n line)) none
    (moves_advance core moves n line (opened size sizes) (opening_tidy size) lt below)

-- of a schedule, whose events are moves
marks_happen : (core : Core) (events : List Event) (n line : ℕ) → marks_by core (map Happens events) n line ≡ trace core events n line
marks_happen core [] n line = refl
marks_happen core (e ∷ events) n line = ap (λ (ms : List Mark). marks_of core e n line ++ ms) (marks_happen (step core e) events n line)

pub runs_alternate : (size : Size) (schedule : List Event) (n line : ℕ) → IsSize size → n < size.nodes → line < size.lines → Alternates size schedule n line
runs_alternate size schedule n line sizes lt below =
    subst (IsAlternating Idle) (marks_happen (opening size) schedule n line) (moves_alternate size (map Happens schedule) n line sizes lt below)
