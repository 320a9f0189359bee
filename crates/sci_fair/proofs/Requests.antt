-- In turns each request is taken before many windows have passed: the front of its lane is, and then it stands nearer.
use Rattle.std.proofs.Common.{◌≡◌, ◌≤◌, ◌<◌, ◌+◌, ◌*◌, ◌⊎◌, ℕ, suc, true, arith, List, [], ◌∷◌, ◌++◌, length}
use Rattle.std.proofs.Common.{refl, sym, ap, subst, ◌∙◌, inl, inr}
use Rattle.std.proofs.lemmas.{Bool.{cases_eq}, List.{append_assoc, length-append}}
use Rattle.std.proofs.Math.Nat.{mul-le-mul_right, suc-mul}
use Rattle.sci_history.specs.Seen.{IsAmong}
use Rattle.sci_words.specs.declared.event.Event.{Event}
use Rattle.sci_cache.specs.{Cache.{Letter}}
use Rattle.sci_core.specs.declared.lane.LaneKind.{LaneKind, TheVariants.{Requests}}
use Rattle.sci_core.specs.{Core.{Core, lane_of}, Size.{Size}}
use Rattle.sci_policy.specs.{Policy.{PolicyOf}}
use Rattle.sci_fair.specs.Steady.{AreSteadyTurns, AreTurns, HasWindows, IsSteadyTurn, Working}
use Rattle.sci_fair.specs.{Between.{IsBetweenTurns}, Steady.{WorksByTurns}}
use Rattle.sci_fair.proofs.{Descents.{Comes, ComesBy, Falls, Less, Stays, comes_later, descend, windows_fewer}}
use Rattle.sci_fair.proofs.Fronts.{Helps, any_step, below_of, good_of, helps_first}
use Rattle.sci_fair.proofs.{Standing.{FrontTaken, StandsAt}, HomeAnswers.{front_of, gained_by, lane_kept}}
use Rattle.sci_fair.proofs.LaneTurns.{HasGained, lost_all, take_one}
use Rattle.sci_fair.proofs.{StateSteps.{size_kept}, Steadied.{Change, GoesBy, IsGoing, IsSame}}
use Rattle.sci_fair.proofs.{SteadyTurns.{HeldBy, steady_turn}, Trace.{AreAll, is_taking}}
use Rattle.sci_fair.proofs.Whereabouts.{stands}
use Rattle.sci_words.specs.declared.event.Event.TheVariants as event

-- ---- a request in a lane

-- it stands in the lane with no more than so many packets before it, and these behind it
pub record StandsIn (core : Core) (n to : ℕ) (letter : Letter) (k : ℕ) (after : List Letter) : Type 0 where
  pub before : List Letter
  pub lane : lane_of core Requests n to ≡ before ++ letter ∷ after
  pub few : length before ≤ k

stands_gained : (old new : Core) (n to k : ℕ) (letter : Letter) (after : List Letter) → StandsIn old n to letter k after
    → (gained : HasGained (lane_of old Requests n to) (lane_of new Requests n to)) → StandsIn new n to letter k (after ++ gained.0)
stands_gained old new n to k letter after at gained = grind (arith, append_assoc)

-- Among these events by which requests are taken, one takes the request, which is the front of its lane. Then no more of the lane is
-- left than at last.
pub record TookLetter (K : Change) (to n : ℕ) (letter : Letter) (p1 : PolicyOf) (c1 : Core) (p2 : PolicyOf) (c2 : Core) : Type 0 where
  pub p : PolicyOf
  pub x : Core
  pub e : Event
  pub q : PolicyOf
  pub y : Core
  pub goes : IsGoing K to p x e q y
  pub earlier : List Event
  pub before : GoesBy K to p1 c1 earlier p x
  pub later : List Event
  pub after : GoesBy K to q y later p2 c2
  pub later_take : AreAll is_taking later
  pub rest : List Letter
  pub lane : lane_of x Requests n to ≡ letter ∷ rest
  pub takes : (e ≡ event.Serve n to) ⊎ (e ≡ event.Refuse n to)
  pub more : List Letter
  pub left : rest ≡ more ++ lane_of c2 Requests n to
  pub size : c2.size ≡ x.size

pub size_all : (K : Change) (n : ℕ) (p : PolicyOf) (x : Core) (events : List Event) (q : PolicyOf) (y : Core) → GoesBy K n p x events q y → y.size ≡ x.size
size_all K n p x [] q y steady = ap (λ (c : Core). c.size) (sym steady.1)
size_all K n p x (e ∷ events) q y steady = size_all K n steady.0 steady.1 events q y steady.3 ∙ size_kept n p x steady.0 steady.1 e steady.2

-- through the events of a turn by which requests are taken
module _ (K : Change) (to n : ℕ) (letter : Letter) (after : List Letter) where
  letter_one : (p : PolicyOf) (x : Core) (e : Event) (events : List Event) (q : PolicyOf) (y : Core) (r : PolicyOf) (last : Core) (k : ℕ)
      → (before : List Letter) → IsGoing K to p x e q y → is_taking e ≡ true → AreAll is_taking events → GoesBy K to q y events r last → n < x.size.nodes
      → lane_of x Requests n to ≡ before ++ letter ∷ after → length before ≤ k → StandsIn y n to letter k after ⊎ TookLetter K to n letter p x r last
  letter_one p x e events q y r last k [] st kind kinds steady f lane few = elim (take_one to n p x q y e letter after st kind f lane) [
    | inl same ↦ inl (record { before = []; lane = same; few = few })
    | inr took ↦
        let size = size_kept to p x q y e st in
        let lost = lost_all K to q y events r last n kinds steady (subst (λ (z : Size). n < z.nodes) (sym size) f) in
        inr (record {
          p = p;
          x = x;
          e = e;
          q = q;
          y = y;
          goes = st;
          earlier = [];
          before = (refl, refl);
          later = events;
          after = steady;
          later_take = kinds;
          rest = after;
          lane = lane;
          takes = took.0;
          more = lost.0;
          left = sym took.1 ∙ lost.1;
          size = size_all K to q y events r last steady ∙ size;
        })
  ]
  letter_one p x e events q y r last k (b ∷ before) st kind kinds steady f lane few =
      elim (take_one to n p x q y e b (before ++ letter ∷ after) st kind f lane) [
        | inl same ↦ inl (record { before = b ∷ before; lane = same; few = few })
        | inr took ↦ inl (record { before = before; lane = took.1; few = omega (arith, few) })
      ]

  took_later : (p : PolicyOf) (x : Core) (e : Event) (q : PolicyOf) (y : Core) (r : PolicyOf) (last : Core) → IsGoing K to p x e q y
      → TookLetter K to n letter q y r last → TookLetter K to n letter p x r last
  took_later p x e q y r last st took = record {
    p = took.p;
    x = took.x;
    e = took.e;
    q = took.q;
    y = took.y;
    goes = took.goes;
    earlier = e ∷ took.earlier;
    before = (q, y, st, took.before);
    later = took.later;
    after = took.after;
    later_take = took.later_take;
    rest = took.rest;
    lane = took.lane;
    takes = took.takes;
    more = took.more;
    left = took.left;
    size = took.size;
  }

  letter_all : (p : PolicyOf) (x : Core) (events : List Event) (q : PolicyOf) (y : Core) (k : ℕ) → AreAll is_taking events
      → GoesBy K to p x events q y → n < x.size.nodes → StandsIn x n to letter k after → StandsIn y n to letter k after ⊎ TookLetter K to n letter p x q y
  letter_all p x [] q y k kinds steady f at = inl (subst (λ (c : Core). StandsIn c n to letter k after) steady.1 at)
  letter_all p x (e ∷ events) q y k kinds steady f at =
      let mid = steady.1 in
      let size = size_kept to p x steady.0 mid e steady.2 in
      elim (letter_one p x e events steady.0 mid q y k at.before steady.2 kinds.0 kinds.1 steady.3 f at.lane at.few) [
        | inl still ↦
            elim (letter_all steady.0 mid events q y k kinds.1 steady.3 (subst (λ (z : Size). n < z.nodes) (sym size) f) still) [
              | inl stands_ ↦ inl stands_
              | inr took ↦ inr (took_later p x e steady.0 mid q y steady.2 took)
            ]
        | inr took ↦ inr took
      ]

-- where its server has taken requests in its turn: it stands there still, with the same behind it, or was taken
server_letter : {K : Change} (i n to k : ℕ) (old new : Working) (letter : Letter) (after : List Letter) → (held : HeldBy K i old new) → i ≡ to
    → i < old.core.size.nodes
    → n < old.core.size.nodes → StandsIn old.core n to letter k after → StandsIn held.trace.c2 n to letter k after
    ⊎ TookLetter K to n letter held.trace.p1 held.trace.c1 held.trace.p2 held.trace.c2
server_letter {K = K} i n to k old new letter after held same here some at =
    let c1 = held.trace.c1 in
    let c2 = held.trace.c2 in
    let t : to < old.core.size.nodes = subst (λ (m : ℕ). m < old.core.size.nodes) same here in
    let begun : StandsIn c1 n to letter k after = record {
      before = at.before;
      lane = held.trace.accepted.requests n to some t ∙ at.lane;
      few = at.few;
    } in
    let n1 : n < c1.size.nodes = subst (λ (z : Size). n < z.nodes) (sym held.trace.accepted.since.size) some in
    let steady = subst (λ (m : ℕ). GoesBy K m held.trace.p1 c1 held.trace.e2 held.trace.p2 c2) same held.takes in
    letter_all K to n letter after held.trace.p1 c1 held.trace.e2 held.trace.p2 c2 k held.trace.are_takes steady n1 begun

-- it stands in the lane, whatever is behind it
pub record Stands_on (core : Core) (n to : ℕ) (letter : Letter) (k : ℕ) : Type 0 where
  pub after : List Letter
  pub at : StandsIn core n to letter k after

-- the turn in which it is taken
pub record LetterTakenBy (K : Change) (n to : ℕ) (letter : Letter) (i : ℕ) (old new : Working) : Type 0 where
  pub server : i ≡ to
  pub good : WorksByTurns old.core
  pub size_is : (m : ℕ) → m < old.core.size.nodes → m < new.core.size.nodes
  pub held : HeldBy K i old new
  pub k : ℕ
  pub stood : Stands_on old.core n to letter k
  pub took : TookLetter K to n letter held.trace.p1 held.trace.c1 held.trace.p2 held.trace.c2

-- the same of a steady turn
abbrev pub LetterTaken : ℕ → ℕ → Letter → ℕ → Working → Working → Type 0
LetterTaken = LetterTakenBy IsSame

-- through a turn of node i: it stands there still, or was taken
pub letter_turn : {K : Change} (i n to k : ℕ) (old new : Working) (letter : Letter) → WorksByTurns old.core → (held : HeldBy K i old new)
    → i < old.core.size.nodes
    → n < old.core.size.nodes → to < old.core.size.nodes → Stands_on old.core n to letter k
    → Stands_on new.core n to letter k ⊎ LetterTakenBy K n to letter i old new
letter_turn i n to k old new letter good held here some t at = elim (cases_eq i to) [
  | inr other ↦
      let gained = lane_kept i n to old new held here some t other in
      inl (record { after = at.after ++ gained.0; at = stands_gained old.core new.core n to k letter at.after at.at gained })
  | inl same ↦ elim (server_letter i n to k old new letter at.after held same here some at.at) [
    | inl still ↦
        let gained = gained_by i n to old new held some t in
        inl (record { after = at.after ++ gained.0; at = stands_gained held.trace.c2 new.core n to k letter at.after still gained })
    | inr took ↦ inr (record {
      server = same;
      good = good;
      size_is = λ m below. subst (λ (z : Size). m < z.nodes) (sym held.size) below;
      held = held;
      k = k;
      stood = at;
      took = took;
    })
  ]
]

-- ---- it is taken

pub three_before : (before after : List Letter) (letter : Letter) (lane : List Letter) → lane ≡ before ++ letter ∷ after → length lane ≤ 4 → length before ≤ 3
three_before before after letter lane is short = grind (arith, length-append)

-- a packet of a lane between turns has three before it at most
pub stands_in : (core : Core) (n to : ℕ) (letter : Letter) → IsBetweenTurns core → IsAmong letter (lane_of core Requests n to)
    → Stands_on core n to letter 3
stands_in core n to letter between among = grind (arith, stands, three_before)

-- turns keep the size, and what is good
pub size_along : (order : List ℕ) (first last : Working) → WorksByTurns first.core → AreSteadyTurns order first last → last.core.size ≡ first.core.size
size_along [] first last good turns = ap (λ (w : Working). w.core.size) (sym turns)
size_along (i ∷ order) first last good turns =
    let held = steady_turn i first turns.0 good turns.1 in
    size_along order turns.0 last held.good turns.2 ∙ held.size

pub good_along : (order : List ℕ) (first last : Working) → WorksByTurns first.core → AreSteadyTurns order first last → WorksByTurns last.core
good_along [] first last good turns = subst (λ (w : Working). WorksByTurns w.core) turns good
good_along (i ∷ order) first last good turns = good_along order turns.0 last (steady_turn i first turns.0 good turns.1).good turns.2

-- where the front is taken, and it stands there still, fewer packets stand before it
fewer_before : (front letter : Letter) (rest before after more left ahead : List Letter) → front ∷ rest ≡ before ++ letter ∷ after → rest ≡ more ++ left
    → left ≡ ahead ++ letter ∷ after → length ahead < length before
fewer_before front letter rest before after more left ahead whole is stands_ =
    let one : suc (length rest) ≡ length (before ++ letter ∷ after) = ap length whole in
    let two = length-append before (letter ∷ after) in
    let three : length rest ≡ length (more ++ left) = ap length is in
    let four = length-append more left in
    let five : length left ≡ length (ahead ++ letter ∷ after) = ap length stands_ in
    let six = length-append ahead (letter ∷ after) in
    omega (arith, one, two, three, four, five, six)

-- ---- a request comes nearer

-- a turn, as it begins when all that comes before it has been done
pub record Parts (K : Change) (i : ℕ) (old new : Working) : Type 0 where
  pub begun : Working
  pub good : WorksByTurns begun.core
  pub size : begun.core.size ≡ old.core.size
  pub lanes : (kind : LaneKind) (from to : ℕ) → lane_of begun.core kind from to ≡ lane_of old.core kind from to
  pub some : i < begun.core.size.nodes
  pub held : HeldBy K i begun new

-- a request that stands further ahead counts less, wherever the fronts are
further : (q p k l most : ℕ) → q < p → k ≤ most → q * suc most + k < p * suc most + l
further q p k l most lt few = grind (arith, mul-le-mul_right, suc-mul)

most_far : (p position k most : ℕ) → position ≤ p → k ≤ most → position * suc most + k ≤ p * suc most + most
most_far p position k most few low = let all = mul-le-mul_right {m = position} {n = p} (suc most) few in omega (arith, all, low)

module _ (K : Change) (IsTurn : ℕ → Working → Working → Type 0) (parts : (i : ℕ) (old new : Working) → WorksByTurns old.core → IsTurn i old new
    → Parts K i old new) (Measure : Size → ℕ → ℕ → Letter → ℕ → ℕ → Working → Type 0) (most : ℕ)
    (at : (size : Size) (n j k h : ℕ) (front : Letter) (w : Working) → Measure size n j front k h w → StandsAt size n j front w)
    (below : (size : Size) (n j : ℕ) → n < size.nodes → (front : Letter) (k h : ℕ) (w : Working) → Measure size n j front k h w → h < size.nodes)
    (begins : (size : Size) (n j : ℕ) (front : Letter) (w : Working) → StandsAt size n j front w
    → (k : ℕ) × (h : ℕ) × (k ≤ most) × Measure size n j front k h w)
    (steps : (size : Size) (n j : ℕ) → n < size.nodes → j < size.nodes → (front : Letter) (k h i : ℕ) (old new : Working) → (good : WorksByTurns old.core)
    → (turn : IsTurn i old new) → Measure size n j front k h old
    → ((i ≡ n) × FrontTaken K n j front i (parts i old new good turn).begun new) ⊎ Falls (Measure size n j front) k h i new)
    (n to : ℕ) (letter : Letter) (Done : ℕ → Working → Working → Type 0)
    (done : (i : ℕ) (old new : Working) → (good : WorksByTurns old.core) → (turn : IsTurn i old new)
    → LetterTakenBy K n to letter i (parts i old new good turn).begun new → Done i old new) where
  -- how far the request has come: how many packets stand before it, and how long the front may still stand
  record Nears (size : Size) (total h : ℕ) (w : Working) : Type 0 where
    front : Letter
    k : ℕ
    measure : Measure size to n front k h w
    low : k ≤ most
    position : ℕ
    stands : Stands_on w.core n to letter position
    total_is : total ≡ position * suc most + k

  nears_from : (size : Size) (w : Working) (position : ℕ) → WorksByTurns w.core → w.core.size ≡ size → Stands_on w.core n to letter position
      → (total : ℕ) × (h : ℕ) × ((p l : ℕ) → position < p → total < p * suc most + l) × ((p : ℕ) → position ≤ p → total ≤ p * suc most + most)
      × Nears size total h w
  nears_from size w position good is stood =
      let front = front_of stood.at.before stood.after letter in
      let begun = begins size to n front.0 w (record { good = good; size_is = is; rest = front.1; lane = stood.at.lane ∙ sym front.2 }) in
      let low = begun.2 in (
        position * suc most + begun.0,
        begun.1,
        λ p l lt. further position p begun.0 l most lt low,
        λ p few. most_far p position begun.0 most few low,
        record { front = front.0; k = begun.0; measure = begun.3; low = low; position = position; stands = stood; total_is = refl },
      )

  module _ (size : Size) (some : n < size.nodes) (t : to < size.nodes) where
    -- where the front is taken, the request is taken too, or comes nearer
    front_gone : (total h i : ℕ) (old new : Working) → (good : WorksByTurns old.core) → (turn : IsTurn i old new) → (near : Nears size total h old)
        → old.core.size ≡ size → Stands_on (parts i old new good turn).begun.core n to letter near.position
        → FrontTaken K to n near.front i (parts i old new good turn).begun new → Done i old new ⊎ Falls (Nears size) total h i new
    front_gone total h i old new good turn near is stood front =
        let part = parts i old new good turn in
        let begun = part.begun in
        let held = front.held in
        let n0 : n < begun.core.size.nodes = subst (λ (z : Size). n < z.nodes) (sym (part.size ∙ is)) some in
        let t0 : to < begun.core.size.nodes = subst (λ (z : Size). to < z.nodes) (sym (part.size ∙ is)) t in
        elim (server_letter i n to near.position begun new letter stood.after held front.server part.some n0 stood.at) [
          | inr took ↦ inl (done i old new good turn (record {
            server = front.server;
            good = part.good;
            size_is = λ m inside. subst (λ (z : Size). m < z.nodes) (sym held.size) inside;
            held = held;
            k = near.position;
            stood = stood;
            took = took;
          }))
          | inl still ↦
              let nearer = fewer_before near.front letter front.rest stood.at.before stood.after front.took.more
              (lane_of held.trace.c2 Requests n to) still.before
              (sym front.lane ∙ stood.at.lane) front.took.left still.lane in
              let few = stood.at.few in
              let gained = gained_by i n to begun new held n0 t0 in
              let here : StandsIn held.trace.c2 n to letter (length still.before) stood.after =
              record { before = still.before; lane = still.lane; few = omega arith } in
              let next = nears_from size new (length still.before) held.good (held.size ∙ (part.size ∙ is)) (record {
                after = stood.after ++ gained.0;
                at = stands_gained held.trace.c2 new.core n to (length still.before) letter stood.after here gained;
              }) in
              let less = next.2 near.position near.k (omega (arith, nearer, few)) in
              inr (Less next.0 next.1 (subst (λ (m : ℕ). next.0 < m) (sym near.total_is) less) next.4)
        ]

    -- where the front's measure goes on, so does the request's
    goes_on : (total h i : ℕ) (old new : Working) → (near : Nears size total h old) → Stands_on new.core n to letter near.position
        → Falls (Measure size to n near.front) near.k h i new → Falls (Nears size) total h i new
    goes_on total h i old new near stood (Less less next lt measure) =
        let low = near.low in
        let is = near.total_is in
        Less (near.position * suc most + less) next (omega (arith, lt, is)) (record {
          front = near.front;
          k = less;
          measure = measure;
          low = omega (arith, lt, low);
          position = near.position;
          stands = stood;
          total_is = refl;
        })
    goes_on total h i old new near stood (Stays other measure) = Stays other (record {
      front = near.front;
      k = near.k;
      measure = measure;
      low = near.low;
      position = near.position;
      stands = stood;
      total_is = near.total_is;
    })

    nears_step : (total h i : ℕ) (old new : Working) → Nears size total h old → IsTurn i old new → Done i old new ⊎ Falls (Nears size) total h i new
    nears_step total h i old new near turn =
        let stands = at size to n near.k h near.front old near.measure in
        let good = stands.good in
        let is = stands.size_is in
        let part = parts i old new good turn in
        let begun = part.begun in
        let stood : Stands_on begun.core n to letter near.position = record {
          after = near.stands.after;
          at = record { before = near.stands.at.before; lane = part.lanes Requests n to ∙ near.stands.at.lane; few = near.stands.at.few };
        } in
        elim (steps size to n t some near.front near.k h i old new good turn near.measure) [
          | inl took ↦ front_gone total h i old new good turn near is stood took.1
          | inr falls ↦
              elim (letter_turn i n to near.position begun new letter part.good part.held part.some (subst (λ (z : Size). n < z.nodes) (sym
              (part.size ∙ is)) some)
              (subst (λ (z : Size). to < z.nodes) (sym (part.size ∙ is)) t) stood) [
                | inl still ↦ inr (goes_on total h i old new near still falls)
                | inr took ↦ inl (done i old new good turn took)
              ]
        ]

    -- so it is taken within one window more than the count for each packet up to it
    pub letter_comes : (p position extra : ℕ) (order : List ℕ) (first last : Working) → position ≤ p → WorksByTurns first.core → first.core.size ≡ size
        → Stands_on first.core n to letter position → AreTurns IsTurn order first last → HasWindows size.nodes (suc p * suc most + extra) order
        → ComesBy IsTurn Done size.nodes extra order first last
    letter_comes p position extra order first last few good is stood turns windows =
        let near = nears_from size first position good is stood in
        let all = suc-mul p (suc most) in
        descend IsTurn size.nodes Done (Nears size) nears_step
        (λ total h w it. below size to n t it.front it.k h w it.measure) extra last
        (p * suc most + most) near.0 near.1 order first (near.3 p few) near.4 turns
        (windows_fewer size.nodes (suc (p * suc most + most + extra)) (suc p * suc most + extra) order (omega (arith, all)) windows)

pub comes_behind : (IsTurn Done : ℕ → Working → Working → Type 0) (nodes count : ℕ) (before order : List ℕ) (first mid last : Working)
    → AreTurns IsTurn before first mid → ComesBy IsTurn Done nodes count order mid last → ComesBy IsTurn Done nodes count (before ++ order) first last
comes_behind IsTurn Done nodes count [] order first mid last leads comes =
    subst (λ (w : Working). ComesBy IsTurn Done nodes count order w last) (sym leads) comes
comes_behind IsTurn Done nodes count (i ∷ before) order first mid last leads comes =
    comes_later IsTurn Done nodes count i (before ++ order) first leads.0 last leads.1
    (comes_behind IsTurn Done nodes count before order leads.0 mid last leads.2 comes)

-- ---- steady turns

abbrev pub steady_parts : (i : ℕ) (old new : Working) → WorksByTurns old.core → IsSteadyTurn i old new → Parts IsSame i old new
steady_parts i old new good turn = record {
  begun = old;
  good = good;
  size = refl;
  lanes = λ kind from to. refl;
  some = turn.alone.some;
  held = steady_turn i old new good turn;
}

-- each request is taken within 70 windows for each packet up to it
pub steady_comes : (n to : ℕ) (letter : Letter) (Done : ℕ → Working → Working → Type 0) → ((i : ℕ) (old new : Working) → WorksByTurns old.core
    → IsSteadyTurn i old new → LetterTaken n to letter i old new → Done i old new) → (size : Size) → n < size.nodes → to < size.nodes
    → (p position extra : ℕ) (order : List ℕ) (first last : Working) → position ≤ p → WorksByTurns first.core → first.core.size ≡ size
    → Stands_on first.core n to letter position → AreSteadyTurns order first last → HasWindows size.nodes (suc p * 70 + extra) order
    → Comes Done size.nodes extra order first last
steady_comes n to letter Done done =
    letter_comes IsSame IsSteadyTurn steady_parts Helps 69 good_of below_of helps_first
    (λ z a b sa sb front l h i old new good turn measure. elim (any_step z a b sa sb front l h i old new measure turn) [
      | inl took ↦ inl (took.server, took)
      | inr falls ↦ inr falls
    ]) n to letter Done done

pub request_taken : (most k nodes n to extra : ℕ) (letter : Letter) (order : List ℕ) (first last : Working) → k ≤ most → WorksByTurns first.core
    → first.core.size.nodes ≡ nodes → n < nodes → to < nodes → Stands_on first.core n to letter k → AreSteadyTurns order first last
    → HasWindows nodes (suc most * 70 + extra) order → Comes (LetterTaken n to letter) nodes extra order first last
request_taken most k nodes n to extra letter order first last few good all some t at turns windows =
    subst (λ (m : ℕ). Comes (LetterTaken n to letter) m extra order first last) all
    (steady_comes n to letter (LetterTaken n to letter) (λ i old new good_ turn taken. taken) first.core.size (subst (λ (m : ℕ). n < m) (sym all) some)
    (subst (λ (m : ℕ). to < m) (sym all) t) most k extra order first last few good refl at turns
    (subst (λ (m : ℕ). HasWindows m (suc most * 70 + extra) order) (sym all) windows))
