-- An answer that is on its way keeps the rank of its line: the node accepts it in its next turn.
use Rattle.std.proofs.Common.{◌≡◌, ◌≢◌, ◌<◌, ◌==◌, ℕ, Bool, true, false, List, [], ◌∷◌, if◌then◌else◌, get_or-set_same, get_or-set_other, arith}
use Rattle.std.proofs.Common.{Option, Some, None, refl, sym, ap, subst, ◌∙◌, inl, inr}
use Rattle.std.proofs.lemmas.Bool.{cases_Bool, cases_eq}
use Rattle.std.specs.Prelude.{unwrap_or}
use Rattle.sci_history.specs.Seen.{IsAmong}
use Rattle.sci_words.specs.declared.event.Event.{Event}
use Rattle.sci_packets.specs.{declared.body.Body.{Body}, Table.{is_request}}
use Rattle.sci_cache.specs.{State.{CacheState}, Accepting.{accepting, settled}, Line.{LineState, line_in, untouched}, Cache.{Letter, line_of}}
use Rattle.sci_core.specs.declared.lane.LaneKind.TheVariants.{Requests, Answers}
use Rattle.sci_core.specs.Core.{Core, lane_of, lane_place, node_at}
use Rattle.sci_core.specs.{Node.{NodeOf, lines_of, node_accepting}, Reached.{IsReached}, Sharing.{answer_in, answer_to, is_about, packets_of, settled_at}}
use Rattle.sci_core.specs.{Size.{Size}, Tidy.{IsAccepted}}
use Rattle.sci_core.proofs.{Basics.Options.{found, of_some}, ReachedLaws.{reached_accepted}}
use Rattle.sci_core.proofs.Step.{NodeSides.{AcceptedAs, accept_as}, Places.{place_answers, place_to}}
use Rattle.sci_core.proofs.{Tidy.{TidySteps.{about_from, about_line, answer_asker}}, WellFormed.WellFormedSteps.{reached_well}}
use Rattle.sci_policy.specs.{Lines.{state_on}, Policy.{PolicyOf}, Turn.{is_accept}}
use Rattle.sci_fair.specs.{Rank.{rank, work_on}, Steady.{AreSteadyTurns, IsSteadyTurn, Working, WorksByTurns}}
use Rattle.sci_fair.proofs.{Ahead.{Ahead}, Awaiting.{same_rank, same_work}, Descents.{turns_part}, HomeAnswers.{answers_kept}, LaneTurns.{among_gained}}
use Rattle.sci_fair.proofs.{StateSteps.{accept_one, size_kept}, Steadied.{IsSteady, Steadily}, SteadyTurns.{Held, steady_turn}, Trace.{AreAll}}
use Rattle.sci_fair.proofs.Whereabouts.{Answered_from, Asked_at, Where, among_where, in_lane, lane_packets, same_packet}
use Rattle.sci_words.specs.declared.event.Event.TheVariants as event

-- ---- an answer is accepted

-- what an event that accepts does to each line
pub record AcceptsIt (n : ℕ) (x y : Core) (letter : Letter) : Type 0 where
  pub here : accepting (state_on (node_at x n) letter.line) letter.body ≡ Some (state_on (node_at y n) letter.line)
  pub others : (line : ℕ) → line ≢ letter.line → state_on (node_at y n) line ≡ state_on (node_at x n) line

pub accepts_it : (n from i : ℕ) (p : PolicyOf) (x : Core) (q : PolicyOf) (y : Core) → (st : IsSteady n p x (event.Accept from i) q y)
    → AcceptsIt n x y (accept_one n p x q y from i st).front.letter
accepts_it n from i p x q y st =
    let one = accept_one n p x q y from i st in
    let node = node_at x n in
    let letter = one.front.letter in
    let does = of_some (AcceptedAs node letter) (node_accepting node letter) one.front.next one.front.takes (accept_as node letter) in
    let there = in_lane x (lane_place x.size.nodes Answers from n) letter st.reached (subst (IsAmong letter) (sym one.front.front) (inl refl)) in
    let inside = (there.answer (place_answers x.size.nodes from n)).letter_ok.about in
    let below : letter.line < lines_of node =
    subst (λ (k : ℕ). letter.line < k) (sym ((reached_well x st.reached).each_part n st.some).each) inside in
    let part = line_in (line_of node.cache letter.line) does.state in
    let next : (line : ℕ) → state_on (node_at y n) line ≡ state_on one.front.next line = λ line. ap (λ (m : NodeOf). state_on m line) one.node in
    record {
      here = does.accepts ∙ ap Some (sym (next letter.line ∙ (ap (λ (m : NodeOf). state_on m letter.line) (sym does.then_)
          ∙ ap (λ (l : LineState). l.state) (get_or-set_same node.cache.lines letter.line part untouched below))));
      others = λ line other. next line ∙ (ap (λ (m : NodeOf). state_on m line) (sym does.then_)
          ∙ ap (λ (l : LineState). l.state) (get_or-set_other node.cache.lines letter.line line part untouched other));
    }

-- ---- until then it is on its way

-- an answer that is on its way to a line, and that gives it another rank
pub record OnWay (n line from : ℕ) (letter : Letter) (s t : CacheState) (work : Option Bool) (x : Core) : Type 0 where
  pub state : state_on (node_at x n) line ≡ s
  pub pending : work_on (node_at x n) line ≡ work
  pub sender : from < x.size.nodes
  pub inside : line < x.size.lines
  pub among : IsAmong letter (lane_of x Answers from n)

module _ (n line from : ℕ) (letter : Letter) (s t : CacheState) (work : Option Bool) (answers : is_request letter.body ≡ false)
    (about : is_about n line letter ≡ true) (accepts : accepting s letter.body ≡ Some t) (differs : (rank work t == rank work s) ≡ false) where
  -- it isn't accepted by an event that changes no rank
  accept_on : (p : PolicyOf) (x : Core) (sender i : ℕ) (q : PolicyOf) (y : Core) → IsSteady n p x (event.Accept sender i) q y
      → OnWay n line from letter s t work x → OnWay n line from letter s t work y
  accept_on p x sender i q y st way =
      let one = accept_one n p x q y sender i st in
      let front = one.front.letter in
      let lane : lane_of x Answers sender n ≡ front ∷ one.front.rest = one.front.front in
      let f = one.front.sender in
      let among_front : IsAmong front (lane_of x Answers sender n) = subst (IsAmong front) (sym lane) (inl refl) in
      let does = accepts_it n sender i p x q y st in
      let size = size_kept n p x q y (event.Accept sender i) st in
      let pends : work_on (node_at y n) line ≡ work = same_work n p x (event.Accept sender i) q y line st ∙ way.pending in
      elim (cases_Bool (is_about n line front)) [
        | inl mine ↦
            let same = same_packet x n line front letter st.reached st.some way.inside
            (lane_packets x Answers sender n n line front st.reached f st.some mine among_front)
            (lane_packets x Answers from n n line letter st.reached way.sender st.some about way.among) in
            let here = about_line n line front mine in
            let now : accepting s letter.body ≡ Some (state_on (node_at y n) line) =
            ap (λ (l : Letter). accepting s l.body) (sym same)
            ∙ (ap (λ (r : CacheState). accepting r front.body) (sym (ap (state_on (node_at x n)) here ∙ way.state))
            ∙ (does.here ∙ ap (λ (k : ℕ). Some (state_on (node_at y n) k)) here)) in
            let state : state_on (node_at y n) line ≡ t = (let both : Some (state_on (node_at y n) line) ≡ Some t = sym now ∙ accepts in cc) in
            let keeps = same_rank n p x (event.Accept sender i) q y line st in
            let keeps_s : (rank work t == rank work s) ≡ true =
            subst (λ (r : CacheState). (rank work r == rank work s) ≡ true) state
            (subst (λ (r : CacheState). (rank work (state_on (node_at y n) line) == rank work r) ≡ true) way.state
            (subst (λ (w : Option Bool). (rank w (state_on (node_at y n) line) == rank w (state_on (node_at x n) line)) ≡ true) way.pending keeps)) in
            absurd (let clash : true ≡ false = sym keeps_s ∙ differs in cc)
        | inr other ↦
            let place = lane_place x.size.nodes Answers sender n in
            let is = in_lane x place front st.reached among_front in
            let answered = (is.answer (place_answers x.size.nodes sender n)).answers in
            let target : front.target ≡ n = is.to ∙ place_to x.size.nodes Answers sender n st.some in
            let apart : line ≢ front.line = λ same. (
            let mine = about_from n line front (sym same) (answer_asker front answered ∙ target) in
            let clash : true ≡ false = sym mine ∙ other in cc
            ) in
            record {
              state = does.others line apart ∙ way.state;
              pending = pends;
              sender = subst (λ (z : Size). from < z.nodes) (sym size) way.sender;
              inside = subst (λ (z : Size). line < z.lines) (sym size) way.inside;
              among = elim (cases_eq from sender) [
                | inr else_ ↦ subst (IsAmong letter) (sym (one.sets.rest Answers from n way.sender st.some (λ c d g. else_ d))) way.among
                | inl same ↦
                    let there : IsAmong letter (front ∷ one.front.rest) =
                    subst (IsAmong letter) lane (subst (λ (m : ℕ). IsAmong letter (lane_of x Answers m n)) same way.among) in
                    elim there [
                      | inl is_front ↦ (let mine = ap (is_about n line) (sym is_front) ∙ about in let clash : true ≡ false = sym mine ∙ other in absurd cc)
                      | inr behind ↦ subst (λ (m : ℕ). IsAmong letter (lane_of y Answers m n)) (sym same) (subst (IsAmong letter) (sym one.sets.now) behind)
                    ]
              ];
            }
      ]

  accept_any : (p : PolicyOf) (x : Core) (e : Event) (q : PolicyOf) (y : Core) → IsSteady n p x e q y → is_accept e ≡ true
      → OnWay n line from letter s t work x → OnWay n line from letter s t work y
  accept_any p x (event.Accept sender i) q y st kind way = accept_on p x sender i q y st way
  accept_any p x (event.Serve sender i) q y st kind way = cc
  accept_any p x (event.Refuse sender i) q y st kind way = cc
  accept_any p x (event.Reply i) q y st kind way = cc
  accept_any p x (event.Ask i at k) q y st kind way = cc
  accept_any p x (event.Issue i op) q y st kind way = cc
  accept_any p x (event.Perform i at) q y st kind way = cc

  accept_all : (p : PolicyOf) (x : Core) (events : List Event) (q : PolicyOf) (y : Core) → AreAll is_accept events → Steadily n p x events q y
      → OnWay n line from letter s t work x → OnWay n line from letter s t work y
  accept_all p x [] q y kinds steady way = subst (OnWay n line from letter s t work) steady.1 way
  accept_all p x (e ∷ events) q y kinds steady way =
      accept_all steady.0 steady.1 events q y kinds.1 steady.3 (accept_any p x e steady.0 steady.1 steady.2 kinds.0 way)

  -- but the node's turn leaves none
  own_none : (old new : Working) → (held : Held n old new) → OnWay n line from letter s t work old.core → ⊥
  own_none old new held way = grind (arith, accept_all)

  other_on : (i : ℕ) (old new : Working) → (held : Held i old new) → i ≢ n → i < old.core.size.nodes → n < old.core.size.nodes
      → OnWay n line from letter s t work old.core → OnWay n line from letter s t work new.core
  other_on i old new held other here some way =
      let node = held.trace.asked.since.others n (λ e. other (sym e)) in
      record {
        state = ap (λ (m : NodeOf). state_on m line) node ∙ way.state;
        pending = ap (λ (m : NodeOf). work_on m line) node ∙ way.pending;
        sender = subst (λ (z : Size). from < z.nodes) (sym held.size) way.sender;
        inside = subst (λ (z : Size). line < z.lines) (sym held.size) way.inside;
        among = among_gained letter (lane_of old.core Answers from n) (lane_of new.core Answers from n)
            (answers_kept i n from old new held other here some way.sender) way.among;
      }

  pub never_on : (window : List ℕ) (first last : Working) → WorksByTurns first.core → n < first.core.size.nodes → IsAmong n window
      → AreSteadyTurns window first last → OnWay n line from letter s t work first.core → ⊥
  never_on [] first last good some among turns way = elim among [ ]
  never_on (i ∷ window) first last good some among turns way =
      let next = turns.0 in
      let held = steady_turn i first next good turns.1 in
      elim (cases_eq i n) [
        | inl same ↦ own_none first next (subst (λ (m : ℕ). Held m first next) same held) way
        | inr other ↦ elim among [
          | inl same ↦ absurd (other (sym same))
          | inr later ↦ never_on window next last held.good (subst (λ (z : Size). n < z.nodes) (sym held.size) some) later turns.2
              (other_on i first next held other turns.1.alone.some some way)
        ]
      ]

-- ---- so it keeps the rank

first_answer : (packets : List Letter) (b : Body) → answer_in packets ≡ Some b
    → (letter : Letter) × (is_request letter.body ≡ false) × (letter.body ≡ b) × IsAmong letter packets
first_answer [] b is = cc
first_answer (letter ∷ packets) b is = elim (cases_Bool (is_request letter.body)) [
  | inl asks ↦
      let rest : answer_in packets ≡ Some b = sym (ap (λ (c : Bool). if c then answer_in packets else Some letter.body) asks) ∙ is in
      let found_ = first_answer packets b rest in
      (found_.0, found_.1, found_.2, inr found_.3)
  | inr answers ↦
      let here : Some letter.body ≡ Some b = sym (ap (λ (c : Bool). if c then answer_in packets else Some letter.body) answers) ∙ is in
      (letter, answers, (let same : letter.body ≡ b = cc in same), inl refl)
]

where_answer : (core : Core) (n line : ℕ) (letter : Letter) → IsReached core → n < core.size.nodes → line < core.size.lines
    → is_request letter.body ≡ false → IsAmong letter (packets_of core n line) → Where core n line
    → (from : ℕ) × (from < core.size.nodes) × (is_about n line letter ≡ true) × IsAmong letter (lane_of core Answers from n)
where_answer core n line letter reached some inside answers packet (Asked_at to other t asks about among) =
    let same = same_packet core n line other letter reached some inside (lane_packets core Requests n to n line other reached some t about among) packet in
    let clash : true ≡ false = sym asks ∙ (ap (λ (l : Letter). is_request l.body) same ∙ answers) in cc
where_answer core n line letter reached some inside answers packet (Answered_from from other f is about among) =
    let same = same_packet core n line other letter reached some inside (lane_packets core Answers from n n line other reached f some about among) packet in
    (from, f, subst (λ (l : Letter). is_about n line l ≡ true) same about, subst (λ (l : Letter). IsAmong l (lane_of core Answers from n)) same among)

pub answer_keeps : (n line : ℕ) (w last : Working) (b : Body) (t : CacheState) → n < w.core.size.nodes → line < w.core.size.lines → Ahead 1 w last
    → answer_to w.core n line ≡ Some b → accepting (state_on (node_at w.core n) line) b ≡ Some t
    → (rank (work_on (node_at w.core n) line) t == rank (work_on (node_at w.core n) line) (state_on (node_at w.core n) line)) ≡ true
answer_keeps n line w last b t some inside ahead answered accepts =
    let core = w.core in
    let s = state_on (node_at core n) line in
    let work = work_on (node_at core n) line in
    elim (cases_Bool (rank work t == rank work s)) [
      | inl keeps ↦ keeps
      | inr differs ↦
          let packet = first_answer (packets_of core n line) b answered in
          let letter = packet.0 in
          let at = where_answer core n line letter ahead.good.reached some inside packet.1 packet.3
          (among_where core n line letter ahead.good.reached ahead.good.between.free packet.3) in
          let window = ahead.windows.0 in
          let rest = ahead.windows.1 in
          let cut = turns_part IsSteadyTurn window rest w last (subst (λ (l : List ℕ). AreSteadyTurns l w last) ahead.windows.2 ahead.turns) in
          let accepts_it_ : accepting s letter.body ≡ Some t = ap (accepting s) packet.2 ∙ accepts in
          absurd (never_on n line at.0 letter s t work packet.1 at.2 accepts_it_ differs window w cut.0 ahead.good some (ahead.windows.3 n some) cut.1
          (record { state = refl; pending = refl; sender = at.1; inside = inside; among = at.3 }))
    ]

-- ---- a line's state when its answer has come

-- it is the line's state now, or one that an answer leads to, of the same rank
pub data SettlesTo (work : Option Bool) (s t : CacheState) : Type 0 where
  As_it_is : t ≡ s → SettlesTo work s t
  By_answer : (b : Body) → accepting s b ≡ Some t → (rank work t == rank work s) ≡ true → SettlesTo work s t

settles_by : (n line : ℕ) (w last : Working) (o : Option Body) → n < w.core.size.nodes → line < w.core.size.lines → Ahead 1 w last
    → answer_to w.core n line ≡ o → IsAccepted (state_on (node_at w.core n) line) o
    → SettlesTo (work_on (node_at w.core n) line) (state_on (node_at w.core n) line) (settled (state_on (node_at w.core n) line) o)
settles_by n line w last None some inside ahead is accepted = As_it_is refl
settles_by n line w last (Some b) some inside ahead is accepted =
    let s = state_on (node_at w.core n) line in
    let to = found (accepting s b) accepted in
    let keeps = answer_keeps n line w last b to.0 some inside ahead is to.1 in
    subst (SettlesTo (work_on (node_at w.core n) line) s) (sym (ap (λ (o : Option CacheState). unwrap_or o s) to.1)) (By_answer b to.1 keeps)

pub settles : (n line : ℕ) (w last : Working) → n < w.core.size.nodes → line < w.core.size.lines → Ahead 1 w last
    → SettlesTo (work_on (node_at w.core n) line) (state_on (node_at w.core n) line) (settled_at w.core line n)
settles n line w last some inside ahead =
    subst (SettlesTo (work_on (node_at w.core n) line) (state_on (node_at w.core n) line)) refl
    (settles_by n line w last (answer_to w.core n line) some inside ahead refl (reached_accepted w.core ahead.good.reached n line inside))
