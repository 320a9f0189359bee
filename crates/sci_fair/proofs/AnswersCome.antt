-- When a request was taken, its answer comes within the next windows, and the node accepts it.
use Rattle.std.proofs.Common.{◌≡◌, ◌<◌, ◌+◌, ◌*◌, ◌%◌, ◌⊎◌, ℕ, suc, true, arith, List, [], ◌∷◌}
use Rattle.std.proofs.Common.{refl, sym, ap, subst, ◌∙◌, inl, inr, rules}
use Rattle.std.proofs.lemmas.{Bool.{cases_eq}}
use Rattle.std.specs.Prelude.{IfSome}
use Rattle.sci_history.specs.Seen.{IsAmong}
use Rattle.sci_words.specs.declared.event.Event.{Event}
use Rattle.sci_packets.specs.{declared.body.Body.{Body}}
use Rattle.sci_cache.specs.{State.{CacheState, waits}, Serving.{serving}, Cache.{Letter, line_of}}
use Rattle.sci_core.specs.declared.lane.LaneKind.TheVariants.{Requests, Answers}
use Rattle.sci_core.specs.{Core.{Core, lane_of, lane_place, node_at}, Reached.{IsReached}, Sharing.{is_about, packets_of}, Size.{Size}}
use Rattle.sci_core.proofs.{Basics.Options.{of_some}, Step.Places.{place_to}, Tidy.TidyRuns.{reached_tidy}}
use Rattle.sci_policy.specs.{Lines.{state_on}, Policy.{PolicyOf}}
use Rattle.sci_fair.specs.Steady.{AreSteadyTurns, AreTurns, HasWindows, IsSteadyTurn, Working}
use Rattle.sci_fair.specs.{Steady.{WorksByTurns}}
use Rattle.sci_fair.proofs.{Awaiting.{taking_no_accept, taking_no_ask}, Descents.{Comes, ComesBy, Falls, Stays, comes_later, descend}}
use Rattle.sci_fair.proofs.Descents.{windows_fewer}
use Rattle.sci_fair.proofs.{HomeAnswers.{AnsweredAt, answered_on, answers_kept, free_taken}}
use Rattle.sci_fair.proofs.LaneTurns.{among_gained, among_stands, among_tail, lost_all, no_two}
use Rattle.sci_fair.proofs.{StateSteps.{By_accept, By_ask, By_serve, StateStep, Stays as Remains, state_step}, Steadied.{Change, GoesBy, IsSame}}
use Rattle.sci_fair.proofs.{SteadyTurns.{Held, steady_turn}, Trace.{AreAll, is_taking}, WholeTurns.{sole}}
use Rattle.sci_fair.proofs.Whereabouts.{Answered_from, Asked_at, in_lane, lane_packets, same_packet, where_is}
use Rattle.sci_fair.proofs.Requests.{LetterTakenBy, Parts, Stands_on, comes_behind, stands_in, steady_comes, steady_parts}

-- ---- the answer comes

serving_waits : (s : CacheState) (m : ℕ) (r : Body) → waits s ≡ true → IfSome (serving s m r) (λ (served : CacheState × Body). waits served.0 ≡ true)
serving_waits s m r waiting = search rules

abbrev pub Waits : ℕ → ℕ → Core → Type 0
Waits n line x = waits (state_on (node_at x n) line) ≡ true

step_waits : (e : Event) (line : ℕ) (s t : CacheState) → StateStep e line s t → is_taking e ≡ true → waits s ≡ true → waits t ≡ true
step_waits e line s t (Remains same) kind waiting = subst (λ (r : CacheState). waits r ≡ true) (sym same) waiting
step_waits e line s t (By_serve is m r b serves) kind waiting =
    of_some (λ (served : CacheState × Body). waits served.0 ≡ true) (serving s m r) (t, b) serves (serving_waits s m r waiting)
step_waits e line s t (By_accept is a accepts) kind waiting = absurd (taking_no_accept e kind is)
step_waits e line s t (By_ask is k asked asks next) kind waiting = absurd (taking_no_ask e kind is)

waits_all : (K : Change) (n line : ℕ) (p : PolicyOf) (x : Core) (events : List Event) (q : PolicyOf) (y : Core) → AreAll is_taking events
    → GoesBy K n p x events q y
    → Waits n line x → Waits n line y
waits_all K n line p x [] q y kinds steady waiting = subst (Waits n line) steady.1 waiting
waits_all K n line p x (e ∷ events) q y kinds steady waiting =
    let mid = steady.1 in
    waits_all K n line steady.0 mid events q y kinds.1 steady.3
    (step_waits e line (state_on (node_at x n) line) (state_on (node_at mid n) line) (state_step n p x steady.0 mid line e steady.2) kinds.0 waiting)

-- a line whose request is in a lane waits
asked_waits : (core : Core) (n to line : ℕ) (letter : Letter) → IsReached core → n < core.size.nodes → to < core.size.nodes → line < core.size.lines
    → is_about n line letter ≡ true → IsAmong letter (lane_of core Requests n to) → Waits n line core
asked_waits core n to line letter reached some t inside about among =
    let packet = lane_packets core Requests n to n line letter reached some t about among in
    (sole (line % core.size.nodes) (line_of (node_at core n).cache line) (packets_of core n line) letter (reached_tidy core reached n line some inside)
    packet).awaited.waiting

module _ (K : Change) (i n to line : ℕ) (old new : Working) (letter : Letter) (taken : LetterTakenBy K n to letter i old new) (some : n < old.core.size.nodes)
    (t : to < old.core.size.nodes) (inside : line < old.core.size.lines) (about : is_about n line letter ≡ true) where
  stood_among : IsAmong letter (lane_of old.core Requests n to)
  stood_among = among_stands letter (lane_of old.core Requests n to) taken.stood.at.before taken.stood.after taken.stood.at.lane

  -- the line waits when its request has been taken
  waits_taken : Waits n line taken.held.trace.c2
  waits_taken = grind (arith, cases_eq, taken, asked_waits, stood_among, waits_all)

  -- a request that is under way then was under way before
  was_among : (other : ℕ) (packet : Letter) → other < old.core.size.nodes → IsAmong packet (lane_of taken.held.trace.c2 Requests n other)
      → IsAmong packet (lane_of old.core Requests n other)
  was_among other packet f among = elim (cases_eq other i) [
    | inr apart ↦ subst (IsAmong packet) (taken.held.trace.taken.so.requests n other some f apart) among
    | inl same ↦
        let held = taken.held in
        let c1 = held.trace.c1 in
        let n1 : n < c1.size.nodes = subst (λ (z : Size). n < z.nodes) (sym held.trace.accepted.since.size) some in
        let lost = lost_all K i held.trace.p1 c1 held.trace.e2 held.trace.p2 held.trace.c2 n held.trace.are_takes held.takes n1 in
        let here : IsAmong packet (lane_of held.trace.c2 Requests n i) = subst (λ (m : ℕ). IsAmong packet (lane_of held.trace.c2 Requests n m)) same among in
        let there : IsAmong packet (lane_of c1 Requests n i) =
        subst (IsAmong packet) (sym lost.1) (among_tail packet lost.0 (lane_of held.trace.c2 Requests n i) here) in
        let f_i : i < old.core.size.nodes = subst (λ (m : ℕ). m < old.core.size.nodes) same f in
        subst (λ (m : ℕ). IsAmong packet (lane_of old.core Requests n m)) (sym same)
        (subst (IsAmong packet) (held.trace.accepted.requests n i some f_i) there)
  ]

  never_again : (other : ℕ) (packet : Letter) → other < taken.held.trace.c2.size.nodes → is_about n line packet ≡ true
      → IsAmong packet (lane_of taken.held.trace.c2 Requests n other) → ⊥
  never_again other packet g asked among =
      let c2 = taken.held.trace.c2 in
      let took = taken.took in
      let size = taken.held.trace.taken.so.since.size in
      let f : other < old.core.size.nodes = subst (λ (z : Size). other < z.nodes) size g in
      let was = was_among other packet f among in
      let same = same_packet old.core n line packet letter taken.good.reached some inside
      (lane_packets old.core Requests n other n line packet taken.good.reached some f asked was)
      (lane_packets old.core Requests n to n line letter taken.good.reached some t about stood_among) in
      let is = in_lane old.core (lane_place old.core.size.nodes Requests n other) packet taken.good.reached was in
      let own = in_lane old.core (lane_place old.core.size.nodes Requests n to) letter taken.good.reached stood_among in
      let target : other ≡ to =
      sym (place_to old.core.size.nodes Requests n other f) ∙ (sym is.to ∙ (ap (λ (l : Letter). l.target) same
      ∙ (own.to ∙ place_to old.core.size.nodes Requests n to t))) in
      let here : IsAmong letter (lane_of c2 Requests n to) =
      subst (λ (m : ℕ). IsAmong letter (lane_of c2 Requests n m)) target (subst (λ (l : Letter). IsAmong l (lane_of c2 Requests n other)) same among) in
      let behind : IsAmong letter took.rest = subst (IsAmong letter) (sym took.left) (among_tail letter took.more (lane_of c2 Requests n to) here) in
      let back : took.x.size ≡ old.core.size = sym took.size ∙ size in
      no_two took.x n to line letter letter [] took.rest took.goes.reached (subst (λ (z : Size). n < z.nodes) (sym back) some)
      (subst (λ (z : Size). to < z.nodes) (sym back) t) (subst (λ (z : Size). line < z.lines) (sym back) inside) took.lane about about behind

  -- so its answer is on its way when the turn has ended
  pub taken_answered : AnsweredAt n line new.core
  taken_answered =
      let held = taken.held in
      let c2 = held.trace.c2 in
      let since = held.trace.taken.so.since in
      let n2 : n < c2.size.nodes = subst (λ (z : Size). n < z.nodes) (sym since.size) some in
      let l2 : line < c2.size.lines = subst (λ (z : Size). line < z.lines) (sym since.size) inside in
      elim (where_is c2 n line since.reached (free_taken i old new taken.good held) n2 l2 waits_taken) [
        | Asked_at other packet g asks asked among ↦ absurd (never_again other packet g asked among)
        | Answered_from from packet f answers asked among ↦ answered_on i n line from old new packet held some f answers asked among
      ]

-- ---- the node accepts it

-- in such turns sizes stay, and what is good
module _ (K : Change) (IsTurn : ℕ → Working → Working → Type 0) (parts : (i : ℕ) (old new : Working) → WorksByTurns old.core → IsTurn i old new
    → Parts K i old new) where
  pub turn_size : (i : ℕ) (old new : Working) → WorksByTurns old.core → IsTurn i old new → new.core.size ≡ old.core.size
  turn_size i old new good turn = let part = parts i old new good turn in part.held.size ∙ part.size

  pub size_goes : (order : List ℕ) (first last : Working) → WorksByTurns first.core → AreTurns IsTurn order first last → last.core.size ≡ first.core.size
  size_goes [] first last good turns = ap (λ (w : Working). w.core.size) (sym turns)
  size_goes (i ∷ order) first last good turns =
      size_goes order turns.0 last (parts i first turns.0 good turns.1).held.good turns.2 ∙ turn_size i first turns.0 good turns.1

  -- the turn in which a request is taken
  pub record TakenIn (n to : ℕ) (letter : Letter) (i : ℕ) (old new : Working) : Type 0 where
    pub good : WorksByTurns old.core
    pub turn : IsTurn i old new
    pub taken : LetterTakenBy K n to letter i (parts i old new good turn).begun new

  module _ (most : ℕ) (requests : (n to extra : ℕ) (letter : Letter) (order : List ℕ) (first last : Working) → WorksByTurns first.core
      → n < first.core.size.nodes → to < first.core.size.nodes → Stands_on first.core n to letter 3 → AreTurns IsTurn order first last
      → HasWindows first.core.size.nodes (4 * suc most + extra) order → ComesBy IsTurn (TakenIn n to letter) first.core.size.nodes extra order first last)
      (n line : ℕ) (Done : ℕ → Working → Working → Type 0) (done : (i : ℕ) (old new : Working) → (good : WorksByTurns old.core) → (turn : IsTurn i old new)
      → i ≡ n → AnsweredAt n line (parts i old new good turn).begun.core → Done i old new) where
    record Comes_to (size : Size) (k h : ℕ) (w : Working) : Type 0 where
      none : k ≡ 0
      node : h ≡ n
      good : WorksByTurns w.core
      size_is : w.core.size ≡ size
      answered : AnsweredAt n line w.core

    answer_step : (size : Size) → n < size.nodes → (k h i : ℕ) (old new : Working) → Comes_to size k h old → IsTurn i old new
        → Done i old new ⊎ Falls (Comes_to size) k h i new
    answer_step size some k h i old new at turn =
        let part = parts i old new at.good turn in
        let begun = part.begun in
        let answered : AnsweredAt n line begun.core = record {
          from = at.answered.from;
          sender = subst (λ (z : Size). at.answered.from < z.nodes) (sym part.size) at.answered.sender;
          letter = at.answered.letter;
          answers = at.answered.answers;
          about = at.answered.about;
          among = subst (IsAmong at.answered.letter) (sym (part.lanes Answers at.answered.from n)) at.answered.among;
        } in
        elim (cases_eq i n) [
          | inl same ↦ inl (done i old new at.good turn same answered)
          | inr other ↦
              let held = part.held in
              let n0 : n < begun.core.size.nodes = subst (λ (z : Size). n < z.nodes) (sym (part.size ∙ at.size_is)) some in
              let kept = answers_kept i n answered.from begun new held other part.some n0 answered.sender in
              inr (Stays (λ e. other (e ∙ at.node)) (record {
                none = at.none;
                node = at.node;
                good = held.good;
                size_is = held.size ∙ (part.size ∙ at.size_is);
                answered = record {
                  from = answered.from;
                  sender = subst (λ (z : Size). answered.from < z.nodes) (sym held.size) answered.sender;
                  letter = answered.letter;
                  answers = answered.answers;
                  about = answered.about;
                  among = among_gained answered.letter (lane_of begun.core Answers answered.from n) (lane_of new.core Answers answered.from n) kept
                      answered.among;
                };
              }))
        ]

    answer_comes : (extra : ℕ) (order : List ℕ) (first last : Working) → WorksByTurns first.core → n < first.core.size.nodes → AnsweredAt n line first.core
        → AreTurns IsTurn order first last → HasWindows first.core.size.nodes (suc extra) order
        → ComesBy IsTurn Done first.core.size.nodes extra order first last
    answer_comes extra order first last good some answered turns windows =
        let size = first.core.size in
        descend IsTurn size.nodes Done (Comes_to size) (answer_step size some)
        (λ k h w at. subst (λ (m : ℕ). m < size.nodes) (sym at.node) some) extra last 0 0 n order first (omega arith)
        (record { none = refl; node = refl; good = good; size_is = refl; answered = answered }) turns
        (windows_fewer size.nodes (suc (0 + extra)) (suc extra) order (omega arith) windows)

    -- so a line that waits has its answer within one window more than its request takes
    pub answer_by : (extra : ℕ) (order : List ℕ) (first last : Working) → WorksByTurns first.core → n < first.core.size.nodes → line < first.core.size.lines
        → Waits n line first.core → AreTurns IsTurn order first last → HasWindows first.core.size.nodes (suc (4 * suc most) + extra) order
        → ComesBy IsTurn Done first.core.size.nodes extra order first last
    answer_by extra order first last good some inside waiting turns windows =
        let nodes = first.core.size.nodes in
        elim (where_is first.core n line good.reached good.between.free some inside waiting) [
          | Answered_from from letter f answers about among ↦
              answer_comes extra order first last good some
              (record { from = from; sender = f; letter = letter; answers = answers; about = about; among = among }) turns
              (windows_fewer nodes (suc extra) (suc (4 * suc most) + extra) order (omega arith) windows)
          | Asked_at to letter t asks about among ↦
              let stood = stands_in first.core n to letter good.between among in
              let c = requests n to (suc extra) letter order first last good some t stood turns
              (windows_fewer nodes (4 * suc most + suc extra) (suc (4 * suc most) + extra) order (omega arith) windows) in
              let part = parts c.node c.old c.new c.done.good c.done.turn in
              let before = size_goes c.before first c.old good c.leads in
              let size = part.size ∙ before in
              let n0 : n < part.begun.core.size.nodes = subst (λ (z : Size). n < z.nodes) (sym size) some in
              let t0 : to < part.begun.core.size.nodes = subst (λ (z : Size). to < z.nodes) (sym size) t in
              let l0 : line < part.begun.core.size.lines = subst (λ (z : Size). line < z.lines) (sym size) inside in
              let answered = taken_answered K c.node n to line part.begun c.new letter c.done.taken n0 t0 l0 about in
              let after = turn_size c.node c.old c.new c.done.good c.done.turn ∙ before in
              let n1 : n < c.new.core.size.nodes = subst (λ (z : Size). n < z.nodes) (sym after) some in
              let all : c.new.core.size.nodes ≡ nodes = ap (λ (z : Size). z.nodes) after in
              let later : ComesBy IsTurn Done nodes extra c.after c.new last =
              subst (λ (m : ℕ). ComesBy IsTurn Done m extra c.after c.new last) all
              (answer_comes extra c.after c.new last part.held.good n1 answered c.turns
              (subst (λ (m : ℕ). HasWindows m (suc extra) c.after) (sym all) c.windows)) in
              subst (λ (l : List ℕ). ComesBy IsTurn Done nodes extra l first last) (sym c.whole)
              (comes_behind IsTurn Done nodes extra c.before (c.node ∷ c.after) first c.old last c.leads
              (comes_later IsTurn Done nodes extra c.node c.after c.old c.new last c.turn later))
        ]

-- ---- steady turns

-- the turn in which an answer is accepted
pub record AnswerTurn (n line : ℕ) (i : ℕ) (old new : Working) : Type 0 where
  pub server : i ≡ n
  pub good : WorksByTurns old.core
  pub held : Held i old new
  pub answered : AnsweredAt n line old.core

pub answer_within : (n line extra : ℕ) (order : List ℕ) (first last : Working) → WorksByTurns first.core → n < first.core.size.nodes
    → line < first.core.size.lines
    → Waits n line first.core → AreSteadyTurns order first last → HasWindows first.core.size.nodes (281 + extra) order
    → Comes (AnswerTurn n line) first.core.size.nodes extra order first last
answer_within n line extra order first last good some inside waiting turns windows =
    answer_by IsSame IsSteadyTurn steady_parts 69 (λ a to more letter o w v g s t stood ts ws.
    steady_comes a to letter (TakenIn IsSame IsSteadyTurn steady_parts a to letter)
    (λ i old new good_ turn taken. record { good = good_; turn = turn; taken = taken }) w.core.size s t 3 3 more o w v (omega arith) g refl stood ts ws)
    n line (AnswerTurn n line)
    (λ i old new good_ turn same answered.
    record { server = same; good = good_; held = steady_turn i old new good_ turn; answered = answered })
    extra order first last good some inside waiting turns windows
