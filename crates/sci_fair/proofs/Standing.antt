-- The front of a lane of requests, from turn to turn: the turn of the node that takes it looks at it, and takes or keeps it. In the one turn
-- in which requests are let go it is kept only if its line awaits its home's word, and that word comes.
use Rattle.std.proofs.Common.{◌≡◌, ◌≢◌, ◌<◌, ◌+◌, ◌%◌, ◌⊎◌, ℕ, suc, true, arith}
use Rattle.std.proofs.Common.{List, [], ◌∷◌, ◌++◌, length, refl, sym, ap, subst, ◌∙◌, inl, inr}
use Rattle.std.proofs.lemmas.{List.{length-append}}
use Rattle.std.proofs.Math.Nat.{mod-lt}
use Rattle.sci_words.specs.declared.event.Event.{Event}
use Rattle.sci_packets.specs.declared.body.Body.{TheVariants.{Cread}}
use Rattle.sci_cache.specs.{Cache.{Letter}}
use Rattle.sci_core.specs.declared.{lane.LaneKind.TheVariants.{Requests}}
use Rattle.sci_core.specs.{Core.{Core, lane_of, lane_place, node_at}, Size.{Size}}
use Rattle.sci_policy.specs.Policy.{PolicyOf, kept_by, refused_by, turned}
use Rattle.sci_policy.specs.Turn.{is_ask}
use Rattle.sci_policy.proofs.{Deciding.{kept_if}, PolicyLaws.{kept_awaits_home, kept_is_cread}}
use Rattle.sci_fair.specs.{Steady.{Working}}
use Rattle.sci_fair.specs.Steady.{WorksByTurns}
use Rattle.sci_fair.proofs.Awaiting.{Awaits, ask_no_accept, await_all, taking_no_accept}
use Rattle.sci_fair.proofs.{Descents.{Falls, Less, Stays}}
use Rattle.sci_fair.proofs.{HomeAnswers.{AnsweredAt, AskedAt, answered_turn, asked_turn, where_home}}
use Rattle.sci_fair.proofs.LaneTurns.{Is_kept, Is_taken, front_at}
use Rattle.sci_turn.specs.Moves.{IsOwn}
use Rattle.sci_fair.proofs.StateSteps.{size_kept}
use Rattle.sci_fair.proofs.LaneTurns.{lost_all, take_one}
use Rattle.sci_history.specs.Seen.{IsAmong}
use Rattle.sci_core.proofs.Step.Places.{place_requests}
use Rattle.sci_fair.proofs.HomeAnswers.{gained_by, lane_kept}
use Rattle.sci_fair.proofs.Whereabouts.{in_lane}
use Rattle.sci_fair.proofs.{Steadied.{Change, GoesBy, IsGoing}, SteadyTurns.{HeldBy}, Trace.{AreAll, is_taking}, Vain.{next_turns}}
use Rattle.sci_words.specs.declared.event.Event.TheVariants as event

-- ---- the turns that a policy has counted

own_turns : (n : ℕ) (p : PolicyOf) (x : Core) (e : Event) (q : PolicyOf) → IsOwn n p x e q → q.turns ≡ p.turns
own_turns n p x (event.Serve from i) q own = ap (λ (r : PolicyOf). r.turns) own.decides.1
own_turns n p x (event.Refuse from i) q own = ap (λ (r : PolicyOf). r.turns) own.decides.1
own_turns n p x (event.Accept from i) q own = ap (λ (r : PolicyOf). r.turns) own.decides
own_turns n p x (event.Reply i) q own = ap (λ (r : PolicyOf). r.turns) own.decides
own_turns n p x (event.Ask i line k) q own = ap (λ (r : PolicyOf). r.turns) own.decides.1 ∙ next_turns p (node_at x n)
own_turns n p x (event.Issue i op) q own = let no = own.kind.kind in cc
own_turns n p x (event.Perform i line) q own = let no = own.kind.kind in cc

pub turns_all : (K : Change) (n : ℕ) (p : PolicyOf) (x : Core) (events : List Event) (q : PolicyOf) (y : Core) → GoesBy K n p x events q y → q.turns ≡ p.turns
turns_all K n p x [] q y steady = ap (λ (r : PolicyOf). r.turns) (sym steady.0)
turns_all K n p x (e ∷ events) q y steady = turns_all K n steady.0 steady.1 events q y steady.3 ∙ own_turns n p x e steady.0 steady.2.own

-- ---- the front of a lane is taken, or is there still

pub record TookIt (K : Change) (n j : ℕ) (front : Letter) (rest : List Letter) (last : Core) : Type 0 where
  pub p : PolicyOf
  pub x : Core
  pub e : Event
  pub q : PolicyOf
  pub y : Core
  pub goes : IsGoing K n p x e q y
  pub lane : lane_of x Requests j n ≡ front ∷ rest
  pub takes : (e ≡ event.Serve j n) ⊎ (e ≡ event.Refuse j n)
  pub more : List Letter
  pub left : rest ≡ more ++ lane_of last Requests j n

module _ (K : Change) (n j : ℕ) (front : Letter) (rest : List Letter) where
  took_now : (p : PolicyOf) (x : Core) (e : Event) (events : List Event) (r : PolicyOf) (last : Core) (q : PolicyOf) (y : Core)
      → IsGoing K n p x e q y → (e ≡ event.Serve j n) ⊎ (e ≡ event.Refuse j n) → lane_of x Requests j n ≡ front ∷ rest → lane_of y Requests j n ≡ rest
      → AreAll is_taking events → GoesBy K n q y events r last → j < x.size.nodes → TookIt K n j front rest last
  took_now p x e events r last q y st takes lane now kinds steady f =
      let size = size_kept n p x q y e st in
      let lost = lost_all K n q y events r last j kinds steady (subst (λ (z : Size). j < z.nodes) (sym size) f) in
      record { p = p; x = x; e = e; q = q; y = y; goes = st; lane = lane; takes = takes; more = lost.0; left = sym now ∙ lost.1 }

  pub first_taken : (p : PolicyOf) (x : Core) (events : List Event) (q : PolicyOf) (y : Core) → AreAll is_taking events → GoesBy K n p x events q y
      → j < x.size.nodes → lane_of x Requests j n ≡ front ∷ rest → (lane_of y Requests j n ≡ front ∷ rest) ⊎ TookIt K n j front rest y
  first_taken p x [] q y kinds steady f lane = inl (subst (λ (c : Core). lane_of c Requests j n ≡ front ∷ rest) steady.1 lane)
  first_taken p x (e ∷ events) q y kinds steady f lane =
      let mid = steady.1 in
      let size = size_kept n p x steady.0 mid e steady.2 in
      elim (take_one n j p x steady.0 mid e front rest steady.2 kinds.0 f lane) [
        | inl same ↦ first_taken steady.0 mid events q y kinds.1 steady.3 (subst (λ (z : Size). j < z.nodes) (sym size) f) same
        | inr took ↦ inr (took_now p x e events q y steady.0 mid steady.2 took.0 lane took.1 kinds.1 steady.3 f)
      ]

-- the front of the lane from node j to node n
pub record StandsAt (size : Size) (n j : ℕ) (front : Letter) (w : Working) : Type 0 where
  pub good : WorksByTurns w.core
  pub size_is : w.core.size ≡ size
  pub rest : List Letter
  pub lane : lane_of w.core Requests j n ≡ front ∷ rest

-- the front was taken in this turn
pub record FrontTaken (K : Change) (n j : ℕ) (front : Letter) (i : ℕ) (old new : Working) : Type 0 where
  pub server : i ≡ n
  pub good : WorksByTurns old.core
  pub held : HeldBy K i old new
  pub rest : List Letter
  pub lane : lane_of old.core Requests j n ≡ front ∷ rest
  pub took : TookIt K n j front rest held.trace.c2

-- the front is a Cread about a line that awaits its home's word: its request stands in the lane to the home, or the answer is on its way;
-- it counts down to this number
pub data AwaitsWord (base : ℕ) (size : Size) (n j : ℕ) (front : Letter) (k h : ℕ) (w : Working) : Type 0 where
  Asked_home : StandsAt size n j front w → front.body ≡ Cread → Awaits n front.line w.core → h ≡ front.line % size.nodes → (ahead : ℕ)
      → AskedAt n h front.line ahead w.core → k ≡ base + suc ahead → AwaitsWord base size n j front k h w
  Has_answer : StandsAt size n j front w → front.body ≡ Cread → Awaits n front.line w.core → h ≡ n → AnsweredAt n front.line w.core → k ≡ base
      → AwaitsWord base size n j front k h w

-- ---- a turn of another node, and of the node

pub front_inside : (core : Core) (n j : ℕ) (front : Letter) (rest : List Letter) → WorksByTurns core → n < core.size.nodes → j < core.size.nodes
    → lane_of core Requests j n ≡ front ∷ rest → front.line < core.size.lines
front_inside core n j front rest good some f lane =
    let place = lane_place core.size.nodes Requests j n in
    let is = in_lane core place front good.reached (subst (IsAmong front) (sym lane) (inl refl)) in
    (is.request (place_requests core.size.nodes j n f some)).letter_ok.about

pub never_longer : (front : Letter) (rest more lane : List Letter) → rest ≡ more ++ lane → lane ≡ front ∷ rest → ⊥
never_longer front rest more lane is same =
    let long : length rest ≡ length (more ++ lane) = ap length is in
    let parts = length-append more lane in
    let longer : length lane ≡ suc (length rest) = ap length same in
    absurd (omega (arith, long, parts, longer))

module _ (size : Size) (n j : ℕ) (some : n < size.nodes) (f : j < size.nodes) (front : Letter) where
  pub within : (a : ℕ) (core : Core) → core.size ≡ size → a < size.nodes → a < core.size.nodes
  within a core is below = subst (λ (z : Size). a < z.nodes) (sym is) below

  pub stands_kept : {K : Change} (i : ℕ) (old new : Working) → (held : HeldBy K i old new) → i ≢ n → i < old.core.size.nodes → StandsAt size n j front old
      → StandsAt size n j front new
  stands_kept i old new held other here at =
      let gained = lane_kept i j n old new held here (within j old.core at.size_is f) (within n old.core at.size_is some) other in
      record {
        good = held.good;
        size_is = held.size ∙ at.size_is;
        rest = at.rest ++ gained.0;
        lane = gained.1 ∙ ap (λ (l : List Letter). l ++ gained.0) at.lane;
      }

  pub stands_own : {K : Change} (old new : Working) → (held : HeldBy K n old new) → (at : StandsAt size n j front old)
      → lane_of held.trace.c2 Requests j n ≡ front ∷ at.rest
      → StandsAt size n j front new
  stands_own old new held at lane =
      let gained = gained_by n j n old new held (within j old.core at.size_is f) (within n old.core at.size_is some) in
      record {
        good = held.good;
        size_is = held.size ∙ at.size_is;
        rest = at.rest ++ gained.0;
        lane = gained.1 ∙ ap (λ (l : List Letter). l ++ gained.0) lane;
      }

  -- in the node's own turn the front is taken, or it is kept when it is looked at
  pub own_front : {K : Change} (old new : Working) → (held : HeldBy K n old new) → (at : StandsAt size n j front old)
      → (lane_of held.trace.c2 Requests j n ≡ front ∷ at.rest) ⊎ FrontTaken K n j front n old new
  own_front {K = K} old new held at =
      let f0 = within j old.core at.size_is f in
      let n0 = within n old.core at.size_is some in
      let c1 = held.trace.c1 in
      let f1 : j < c1.size.nodes = subst (λ (z : Size). j < z.nodes) (sym held.trace.accepted.since.size) f0 in
      let lane : lane_of c1 Requests j n ≡ front ∷ at.rest = held.trace.accepted.requests j n f0 n0 ∙ at.lane in
      elim (first_taken K n j front at.rest held.trace.p1 c1 held.trace.e2 held.trace.p2 held.trace.c2 held.trace.are_takes held.takes f1 lane) [
        | inl same ↦ inl same
        | inr took ↦ inr (record { server = refl; good = at.good; held = held; rest = at.rest; lane = at.lane; took = took })
      ]

  pub kept_there : {K : Change} (old new : Working) → (held : HeldBy K n old new) → (at : StandsAt size n j front old)
      → lane_of held.trace.c2 Requests j n ≡ front ∷ at.rest
      → (g : j < old.core.size.nodes) → kept_by (held.trace.looks j g).p (node_at (held.trace.looks j g).c n) front ≡ true
  kept_there old new held at same g = elim (front_at n j old new held g front at.rest at.good (within n old.core at.size_is some) at.lane) [
    | Is_kept keep ↦ kept_if (kept_by (held.trace.looks j g).p (node_at (held.trace.looks j g).c n) front)
        (refused_by (held.trace.looks j g).p (node_at (held.trace.looks j g).c n) front) keep
    | Is_taken more is q next e decides st ↦ absurd (never_longer front at.rest more (lane_of held.trace.c2 Requests j n) is same)
  ]

  -- the policy counts the turn
  pub counts_turn : {K : Change} (old new : Working) → (held : HeldBy K n old new) → (new.policies n).turns ≡ (turned (old.policies n)).turns
  counts_turn {K = K} old new held = grind (arith, turns_all, next_turns)

  pub look_turns : {K : Change} (old new : Working) → (held : HeldBy K n old new) → (g : j < old.core.size.nodes)
      → (held.trace.looks j g).p.turns ≡ (turned (old.policies n)).turns
  look_turns {K = K} old new held g = grind (arith, turns_all)

  -- the turn in which requests are let go: what is kept then is about a line that awaits its home's word
  pub lets_go : {K : Change} (old new : Working) → (held : HeldBy K n old new) → (at : StandsAt size n j front old)
      → lane_of held.trace.c2 Requests j n ≡ front ∷ at.rest
      → (turned (old.policies n)).turns ≡ 0 → (front.body ≡ Cread) × Awaits n front.line new.core
  lets_go {K = K} old new held at same due =
      let g = within j old.core at.size_is f in
      let t = held.trace in
      let look = t.looks j g in
      let kept = kept_there old new held at same g in
      let awaits = kept_awaits_home look.p (node_at look.c n) front (look_turns old new held g ∙ due) kept in
      let second = await_all n front.line K is_taking taking_no_accept look.p look.c look.second t.p2 t.c2 look.second_takes (held.after j g) awaits in (
        (kept_is_cread look.p (node_at look.c n) front kept).0,
        await_all n front.line K is_ask ask_no_accept t.p2 t.c2 t.e3 t.p3 new.core t.are_asks held.asks second,
      )

  -- where its home is asked, or has answered
  pub asks_home : (new : Working) → (at : StandsAt size n j front new) → front.body ≡ Cread → Awaits n front.line new.core → (base k i : ℕ) → base + 5 < k
      → Falls (AwaitsWord base size n j front) k n i new
  asks_home new at cread awaits base k i more =
      let n0 = within n new.core at.size_is some in
      let f0 = within j new.core at.size_is f in
      let home : front.line % new.core.size.nodes ≡ front.line % size.nodes = ap (λ (z : Size). front.line % z.nodes) at.size_is in
      elim (where_home new.core n front.line at.good.reached at.good.between n0 (front_inside new.core n j front at.rest at.good n0 f0 at.lane) awaits) [
        | inl asked ↦ Less (base + 5) (front.line % size.nodes) more
            (Asked_home at cread awaits refl 4 (subst (λ (h : ℕ). AskedAt n h front.line 4 new.core) home asked) (omega arith))
        | inr answered ↦ Less base n (omega (arith, more)) (Has_answer at cread awaits refl answered refl)
      ]

  -- any turn, while the home is asked
  home_step : {K : Change} (base i : ℕ) (old new : Working) (k h : ℕ) → (held : HeldBy K i old new) → i < old.core.size.nodes
      → (at : StandsAt size n j front old)
      → front.body ≡ Cread → Awaits n front.line old.core → h ≡ front.line % size.nodes → (ahead : ℕ) → AskedAt n h front.line ahead old.core
      → k ≡ base + suc ahead
      → StandsAt size n j front new → Falls (AwaitsWord base size n j front) k h i new
  home_step base i old new k h held here at cread awaits home ahead asked is now =
      let n0 = within n old.core at.size_is some in
      let f0 = within j old.core at.size_is f in
      let line = front.line in
      let there : front.line % old.core.size.nodes ≡ h = ap (λ (z : Size). line % z.nodes) at.size_is ∙ sym home in
      let below : line % old.core.size.nodes < old.core.size.nodes = mod-lt line (omega (arith, n0)) in
      let turn = asked_turn i n line ahead old new at.good held here n0 (front_inside old.core n j front at.rest at.good n0 f0 at.lane) below awaits
      (subst (λ (m : ℕ). AskedAt n m line ahead old.core) (sym there) asked) in
      elim turn.1 [
        | inl answered ↦ Less base n (omega (arith, is)) (Has_answer now cread turn.0 refl answered refl)
        | inr asks ↦ elim asks [
          | inl stays ↦ Stays (λ e. stays.0 (e ∙ sym there))
              (Asked_home now cread turn.0 home ahead (subst (λ (m : ℕ). AskedAt n m line ahead new.core) there stays.1) is)
          | inr less ↦ (let lt = less.1 in Less (base + suc less.0) h (omega (arith, lt, is))
              (Asked_home now cread turn.0 home less.0 (subst (λ (m : ℕ). AskedAt n m line less.0 new.core) there less.2) refl))
        ]
      ]

  -- a turn of another node
  pub word_other : {K : Change} (base i : ℕ) (old new : Working) (k h : ℕ) → (held : HeldBy K i old new) → i ≢ n → i < old.core.size.nodes
      → AwaitsWord base size n j front k h old → Falls (AwaitsWord base size n j front) k h i new
  word_other base i old new k h held other here (Has_answer at cread awaits node answered is) =
      let kept = answered_turn i n front.line old new held other here (within n old.core at.size_is some) awaits answered in
      Stays (λ e. other (e ∙ node)) (Has_answer (stands_kept i old new held other here at) cread kept.0 node kept.1 is)
  word_other base i old new k h held other here (Asked_home at cread awaits home ahead asked is) =
      home_step base i old new k h held here at cread awaits home ahead asked is (stands_kept i old new held other here at)

  -- a turn of the node itself, in which the front is kept: the answer comes nearer, or it is accepted
  pub word_own : {K : Change} (base : ℕ) (old new : Working) (k h : ℕ) → (held : HeldBy K n old new) → (at : StandsAt size n j front old)
      → lane_of held.trace.c2 Requests j n ≡ front ∷ at.rest → AwaitsWord base size n j front k h old
      → Falls (AwaitsWord base size n j front) k h n new ⊎ ((k ≡ base) × (h ≡ n) × AnsweredAt n front.line old.core)
  word_own base old new k h held at same (Has_answer stood cread awaits here answered is) = inr (is, here, answered)
  word_own base old new k h held at same (Asked_home stood cread awaits home ahead asked is) =
      inl (home_step base n old new k h held (within n old.core at.size_is some) at cread awaits home ahead asked is (stands_own old new held at same))

pub word_of : (base : ℕ) (size : Size) (n j k h : ℕ) (front : Letter) (w : Working) → AwaitsWord base size n j front k h w
    → StandsAt size n j front w × ((front.body ≡ Cread) × Awaits n front.line w.core)
word_of base size n j k h front w (Asked_home at cread awaits home ahead asked is) = (at, (cread, awaits))
word_of base size n j k h front w (Has_answer at cread awaits here answered is) = (at, (cread, awaits))

pub word_below : (base : ℕ) (size : Size) (n j : ℕ) → n < size.nodes → (front : Letter) (k h : ℕ) (w : Working) → AwaitsWord base size n j front k h w
    → h < size.nodes
word_below base size n j some front k h w (Asked_home at cread awaits home ahead asked is) =
    subst (λ (m : ℕ). m < size.nodes) (sym home) (mod-lt front.line (omega (arith, some)))
word_below base size n j some front k h w (Has_answer at cread awaits here answered is) = subst (λ (m : ℕ). m < size.nodes) (sym here) some
