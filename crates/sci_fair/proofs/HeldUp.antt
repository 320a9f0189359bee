-- A node that has something to ask asks it before long: while it asks nothing, the lanes from it are emptied.
use Rattle.std.proofs.Common.{◌≡◌, ◌≢◌, ◌≤◌, ◌<◌, ◌+◌, ◌⊎◌, ℕ, suc, arith, List, [], ◌∷◌, ◌++◌, length}
use Rattle.std.proofs.Common.{Option, Some, None, refl, sym, ap, subst, ◌∙◌, inl, inr}
use Rattle.std.proofs.lemmas.{Bool.{cases_eq}, List.{length-append}}
use Rattle.std.specs.Prelude.{IfSome, IsSome}
use Rattle.sci_history.specs.Seen.{IsAmong}
use Rattle.sci_words.specs.declared.event.{AskKind.{AskKind}, Event.{Event}}
use Rattle.sci_cache.specs.Cache.{Letter}
use Rattle.sci_core.specs.declared.lane.LaneKind.TheVariants.{Requests}
use Rattle.sci_core.specs.{Core.{Core, lane_of, lane_place, node_at}, Node.{NodeOf, node_asking}, Size.{Size}}
use Rattle.sci_core.proofs.{Basics.Options.{found, of_some}, WellFormed.WellFormedSteps.{reached_well}}
use Rattle.sci_policy.specs.declared.want.Want.{Want, TheVariants.{Perform, Ask}}
use Rattle.sci_policy.specs.Policy.{IsEnabledWant, next_wanted, ticked}
use Rattle.sci_policy.proofs.{Deciding.{keeps_no_own}, Targets.{asked_target}, Wants.{wanted_enabled}}
use Rattle.sci_turn.specs.{Posts.{post_at}, Whole.{EndsAt}}
use Rattle.sci_fair.specs.Steady.{AreSteadyTurns, AreTurns, HasWindows, IsSteadyTurn, Working, WorksByTurns}
use Rattle.sci_fair.proofs.AnswersGo.{front_source}
use Rattle.sci_fair.proofs.Descents.{Comes, ComesBy, comes_later, turns_join, turns_part, windows_after, windows_fewer, windows_part}
use Rattle.sci_fair.proofs.{Fronts.{front_taken}, Standing.{FrontTaken}, LaneTurns.{Is_kept, Is_taken, asks_keep, front_at, lost_all}}
use Rattle.sci_fair.proofs.{Requests.{comes_behind, good_along}, Steadied.{IsSame}, SteadyTurns.{Held, steady_turn}, Trace.{AsksFirst, Ends_there, Makes_ask}}
use Rattle.sci_words.specs.declared.event.Event.TheVariants as event

-- ---- what a node's turn comes to

-- it asks first what its policy wants; or that is nothing, or to perform an operation
pub data IsFree (n : ℕ) (old new : Working) (held : Held n old new) : Type 0 where
  Asks_it : (line : ℕ) (k : AskKind) (rest : List Event) → next_wanted held.trace.p2 (node_at held.trace.c2 n) ≡ Some (Ask line k)
      → held.trace.e3 ≡ event.Ask n line k ∷ rest → IsFree n old new held
  Wants_none : next_wanted held.trace.p2 (node_at held.trace.c2 n) ≡ None → IsFree n old new held
  Performs_it : (line : ℕ) → next_wanted held.trace.p2 (node_at held.trace.c2 n) ≡ Some (Perform line) → held.trace.c2 ≡ new.core → IsFree n old new held

-- a turn of the node in which no full lane holds it up
pub record FreeTurn (n i : ℕ) (old new : Working) : Type 0 where
  pub own : i ≡ n
  pub good : WorksByTurns old.core
  pub held : Held n old new
  pub free : IsFree n old new held

-- a turn in which the node asks nothing; if it is its own, a lane to another is full
pub record QuietTurn (n i : ℕ) (old new : Working) : Type 0 where
  pub steady : IsSteadyTurn i old new
  pub size : new.core.size ≡ old.core.size
  pub lanes : (b : ℕ) → b < old.core.size.nodes → b ≢ n → length (lane_of new.core Requests n b) ≤ length (lane_of old.core Requests n b)
  pub full : i ≡ n → (b : ℕ) × (b < old.core.size.nodes) × (b ≢ n) × (4 ≤ length (lane_of old.core Requests n b))

lost_shorter : (old new taken : List Letter) → old ≡ taken ++ new → length new ≤ length old
lost_shorter old new taken is = let whole = ap length is in let parts = length-append taken new in omega (arith, whole, parts)

-- another's turn only takes requests
other_lanes : (n i b : ℕ) (old new : Working) → (held : Held i old new) → i < old.core.size.nodes → n < old.core.size.nodes → n ≢ i → b < old.core.size.nodes
    → length (lane_of new.core Requests n b) ≤ length (lane_of old.core Requests n b)
other_lanes n i b old new held here some other t = elim (cases_eq b i) [
  | inl same ↦
      let t_ = held.trace in
      let n1 : n < t_.c1.size.nodes = subst (λ (z : Size). n < z.nodes) (sym t_.accepted.since.size) some in
      let n2 : n < t_.c2.size.nodes = subst (λ (z : Size). n < z.nodes) (sym t_.taken.so.since.size) some in
      let i2 : i < t_.c2.size.nodes = subst (λ (z : Size). i < z.nodes) (sym t_.taken.so.since.size) here in
      let lost = lost_all IsSame i t_.p1 t_.c1 t_.e2 t_.p2 t_.c2 n t_.are_takes held.takes n1 in
      let first : lane_of t_.c1 Requests n i ≡ lane_of old.core Requests n i = t_.accepted.requests n i some here in
      let last : lane_of new.core Requests n i ≡ lane_of t_.c2 Requests n i =
      (asks_keep IsSame i t_.p2 t_.c2 t_.e3 t_.p3 new.core n i t_.are_asks held.asks n2 i2).0 other in
      subst (λ (m : ℕ). length (lane_of new.core Requests n m) ≤ length (lane_of old.core Requests n m)) (sym same)
      (lost_shorter (lane_of old.core Requests n i) (lane_of new.core Requests n i) lost.0
      (sym first ∙ (lost.1 ∙ ap (λ (l : List Letter). lost.0 ++ l) (sym last))))
  | inr apart ↦
      let long : length (lane_of new.core Requests n b) ≡ length (lane_of old.core Requests n b) =
      ap length (held.trace.asked.apart n b some t other apart).0 in
      omega (arith, long)
]

-- a lane from the node to itself is never full when it asks: it takes the front of it in each turn
own_by : (n : ℕ) (old new : Working) (lane : List Letter) → WorksByTurns old.core → (held : Held n old new) → n < old.core.size.nodes
    → lane_of old.core Requests n n ≡ lane → length (lane_of held.trace.c2 Requests n n) ≤ 3
own_by n old new [] good held some is =
    let t = held.trace in
    let n1 : n < t.c1.size.nodes = subst (λ (z : Size). n < z.nodes) (sym t.accepted.since.size) some in
    let lost = lost_all IsSame n t.p1 t.c1 t.e2 t.p2 t.c2 n t.are_takes held.takes n1 in
    let first : lane_of t.c1 Requests n n ≡ [] = t.accepted.requests n n some some ∙ is in
    let none = lost_shorter [] (lane_of t.c2 Requests n n) lost.0 (sym first ∙ lost.1) in
    omega (arith, none)
own_by n old new (front ∷ rest) good held some is =
    let t = held.trace in
    let look = t.looks n some in
    let most : length (front ∷ rest) ≤ 4 =
    subst (λ (l : List Letter). length l ≤ 4) is (good.between.short (lane_place old.core.size.nodes Requests n n)) in
    elim (front_at n n old new held some front rest good some is) [
      | Is_taken more left q next e decides st ↦
          let few = lost_shorter rest (lane_of t.c2 Requests n n) more left in
          omega (arith, most, few)
      | Is_kept keep ↦
          let node = node_at look.c n in
          let since = look.so.so.since in
          let n_look : n < look.c.size.nodes = subst (λ (z : Size). n < z.nodes) (sym since.size) some in
          let me = ((reached_well look.c since.reached).each_part n n_look).me in
          let source = front_source old.core n n front rest good.reached some some is in
          absurd (keeps_no_own look.p node front (source ∙ sym me) keep)
    ]

own_short : (n : ℕ) (old new : Working) → WorksByTurns old.core → (held : Held n old new) → n < old.core.size.nodes
    → length (lane_of held.trace.c2 Requests n n) ≤ 3
own_short n old new good held some = own_by n old new (lane_of old.core Requests n n) good held some refl

-- ---- the node's own turn

enabled_ask : (node : NodeOf) (want : Option Want) → IfSome want (IsEnabledWant node) → (l : ℕ) (k : AskKind) → want ≡ Some (Ask l k)
    → IsSome (node_asking node l k)
enabled_ask node want enabled l k is = of_some (IsEnabledWant node) want (Ask l k) is enabled

-- the lane of what is wanted is full
held_full : (n : ℕ) (old new : Working) (line : ℕ) (k : AskKind) → WorksByTurns old.core → (held : Held n old new) → n < old.core.size.nodes
    → held.trace.c2 ≡ new.core → next_wanted held.trace.p2 (node_at held.trace.c2 n) ≡ Some (Ask line k) → EndsAt (post_at n new.core) (Ask line k)
    → (b : ℕ) × (b < old.core.size.nodes) × (b ≢ n) × (4 ≤ length (lane_of old.core Requests n b))
held_full n old new line k good held some same wants ends =
    let t = held.trace in
    let core = new.core in
    let node = node_at core n in
    let n_new : n < core.size.nodes = subst (λ (z : Size). n < z.nodes) (sym held.size) some in
    let wants_new : next_wanted t.p2 node ≡ Some (Ask line k) = subst (λ (c : Core). next_wanted t.p2 (node_at c n) ≡ Some (Ask line k)) same wants in
    let enabled = enabled_ask node (next_wanted t.p2 node) (wanted_enabled (ticked t.p2 node) node) line k wants_new in
    let sent = found (node_asking node line k) enabled in
    let b = sent.0.1.target in
    let full : 4 ≤ length (lane_of core Requests n b) =
    of_some (λ (s : NodeOf × Letter). 4 ≤ length (lane_of core Requests n s.1.target)) (node_asking node line k) sent.0 sent.1 ends in
    let b_new = asked_target core n line k sent.0 held.good.reached n_new sent.1 in
    let b_old : b < old.core.size.nodes = subst (λ (z : Size). b < z.nodes) held.size b_new in
    elim (cases_eq b n) [
      | inl own ↦
          let here : 4 ≤ length (lane_of core Requests n n) = subst (λ (m : ℕ). 4 ≤ length (lane_of core Requests n m)) own full in
          let short : length (lane_of core Requests n n) ≤ 3 =
          subst (λ (c : Core). length (lane_of c Requests n n) ≤ 3) same (own_short n old new good held some) in
          absurd (omega (arith, here, short))
      | inr other ↦
          let lane : lane_of core Requests n b ≡ lane_of old.core Requests n b =
          subst (λ (c : Core). lane_of c Requests n b ≡ lane_of old.core Requests n b) same (t.taken.so.requests n b some b_old other) in
          (b, b_old, other, subst (λ (l : List Letter). 4 ≤ length l) lane full)
    ]

own_quiet : (n : ℕ) (old new : Working) → IsSteadyTurn n old new → (held : Held n old new) → held.trace.c2 ≡ new.core
    → ((b : ℕ) × (b < old.core.size.nodes) × (b ≢ n) × (4 ≤ length (lane_of old.core Requests n b))) → QuietTurn n n old new
own_quiet n old new turn held same full = grind arith

own_ended : (n : ℕ) (old new : Working) (want : Option Want) → WorksByTurns old.core → IsSteadyTurn n old new → (held : Held n old new)
    → held.trace.c2 ≡ new.core → next_wanted held.trace.p2 (node_at held.trace.c2 n) ≡ want → IfSome want (EndsAt (post_at n new.core))
    → FreeTurn n n old new ⊎ QuietTurn n n old new
own_ended n old new None good turn held same wants ends = inl (record { own = refl; good = good; held = held; free = Wants_none wants })
own_ended n old new (Some (Perform line)) good turn held same wants ends =
    inl (record { own = refl; good = good; held = held; free = Performs_it line wants same })
own_ended n old new (Some (Ask line k)) good turn held same wants ends =
    inr (own_quiet n old new turn held same (held_full n old new line k good held turn.alone.some same wants ends))

own_turn : (n : ℕ) (old new : Working) → WorksByTurns old.core → IsSteadyTurn n old new → (held : Held n old new)
    → AsksFirst n held.trace.p2 held.trace.c2 held.trace.e3 (new.policies n) new.core → FreeTurn n n old new ⊎ QuietTurn n n old new
own_turn n old new good turn held (Makes_ask line k rest wants is) =
    inl (record { own = refl; good = good; held = held; free = Asks_it line k rest wants is })
own_turn n old new good turn held (Ends_there same none policy ends) =
    own_ended n old new (next_wanted held.trace.p2 (node_at held.trace.c2 n)) good turn held same refl ends

any_turn : (n i : ℕ) (old new : Working) → WorksByTurns old.core → n < old.core.size.nodes → IsSteadyTurn i old new
    → FreeTurn n i old new ⊎ QuietTurn n i old new
any_turn n i old new good some turn = elim (cases_eq i n) [
  | inl same ↦
      let mine = subst (λ (m : ℕ). IsSteadyTurn m old new) same turn in
      let held = steady_turn n old new good mine in
      subst (λ (m : ℕ). FreeTurn n m old new ⊎ QuietTurn n m old new) (sym same) (own_turn n old new good mine held held.trace.first)
  | inr other ↦
      let held = steady_turn i old new good turn in
      inr (record {
        steady = turn;
        size = held.size;
        lanes = λ b below apart. other_lanes n i b old new held turn.alone.some some (λ e. other (sym e)) below;
        full = λ same. absurd (other same);
      })
]

-- ---- many turns

free_or_quiet : (n nodes extra : ℕ) (order rest : List ℕ) (first mid last : Working) → WorksByTurns first.core → n < first.core.size.nodes
    → AreSteadyTurns order first mid → AreSteadyTurns rest mid last → HasWindows nodes extra rest
    → Comes (FreeTurn n) nodes extra (order ++ rest) first last ⊎ AreTurns (QuietTurn n) order first mid
free_or_quiet n nodes extra [] rest first mid last good some turns later windows = inr turns
free_or_quiet n nodes extra (i ∷ order) rest first mid last good some turns later windows =
    let next = turns.0 in
    let held = steady_turn i first next good turns.1 in
    elim (any_turn n i first next good some turns.1) [
      | inl free ↦ inl (record {
        before = [];
        node = i;
        after = order ++ rest;
        whole = refl;
        old = first;
        new = next;
        leads = refl;
        turn = turns.1;
        turns = turns_join IsSteadyTurn order rest next mid last turns.2 later;
        done = free;
        windows = windows_after nodes extra order rest windows;
      })
      | inr quiet ↦
          elim (free_or_quiet n nodes extra order rest next mid last held.good (subst (λ (z : Size). n < z.nodes) (sym held.size) some) turns.2 later windows) [
            | inl comes ↦ inl (comes_later IsSteadyTurn (FreeTurn n) nodes extra i (order ++ rest) first next last turns.1 comes)
            | inr all ↦ inr (next, quiet, all)
          ]
    ]

quiet_size : (n : ℕ) (order : List ℕ) (first last : Working) → AreTurns (QuietTurn n) order first last → last.core.size ≡ first.core.size
quiet_size n [] first last turns = ap (λ (w : Working). w.core.size) (sym turns)
quiet_size n (i ∷ order) first last turns = quiet_size n order turns.0 last turns.2 ∙ turns.1.size

quiet_shorter : (n b : ℕ) (order : List ℕ) (first last : Working) → AreTurns (QuietTurn n) order first last → b < first.core.size.nodes → b ≢ n
    → length (lane_of last.core Requests n b) ≤ length (lane_of first.core Requests n b)
quiet_shorter n b [] first last turns t other = grind arith
quiet_shorter n b (i ∷ order) first last turns t other =
    let one = turns.1.lanes b t other in
    let rest = quiet_shorter n b order turns.0 last turns.2 (subst (λ (z : Size). b < z.nodes) (sym turns.1.size) t) other in
    omega (arith, one, rest)

-- after 70 windows of them no lane from the node to another is full
emptied_by : (n b : ℕ) (lane : List Letter) (order : List ℕ) (first last : Working) → WorksByTurns first.core → n < first.core.size.nodes
    → b < first.core.size.nodes → b ≢ n → AreTurns (QuietTurn n) order first last → HasWindows first.core.size.nodes 70 order
    → lane_of first.core Requests n b ≡ lane → length (lane_of last.core Requests n b) ≤ 3
emptied_by n b [] order first last good some t other turns windows is =
    let shorter = quiet_shorter n b order first last turns t other in
    let none : length (lane_of first.core Requests n b) ≡ 0 = ap length is in
    omega (arith, shorter, none)
emptied_by n b (front ∷ rest) order first last good some t other turns windows is =
    let nodes = first.core.size.nodes in
    let c : ComesBy (QuietTurn n) (FrontTaken IsSame b n front) nodes 0 order first last =
    front_taken (QuietTurn n) (λ i o w turn. turn.steady) b n 0 front rest order first last good t some is turns
    (windows_fewer nodes (70 + 0) 70 order (omega arith) windows) in
    let held = c.done.held in
    let c2 = held.trace.c2 in
    let before = quiet_size n c.before first c.old c.leads in
    let n0 : n < c.old.core.size.nodes = subst (λ (z : Size). n < z.nodes) (sym before) some in
    let b0 : b < c.old.core.size.nodes = subst (λ (z : Size). b < z.nodes) (sym before) t in
    let size = held.trace.taken.so.since.size in
    let n2 : n < c2.size.nodes = subst (λ (z : Size). n < z.nodes) (sym size) n0 in
    let b2 : b < c2.size.nodes = subst (λ (z : Size). b < z.nodes) (sym size) b0 in
    let apart : n ≢ c.node = λ same. other (sym (same ∙ c.done.server)) in
    let now : length (lane_of c.new.core Requests n b) ≡ length (lane_of c2 Requests n b) = ap length
    ((asks_keep IsSame c.node held.trace.p2 c2 held.trace.e3 held.trace.p3 c.new.core n b held.trace.are_asks held.asks n2 b2).0 apart) in
    let most : length (front ∷ c.done.rest) ≤ 4 =
    subst (λ (l : List Letter). length l ≤ 4) c.done.lane (c.done.good.between.short (lane_place c.old.core.size.nodes Requests n b)) in
    let few = lost_shorter c.done.rest (lane_of c2 Requests n b) c.done.took.more c.done.took.left in
    let b1 : b < c.new.core.size.nodes = subst (λ (z : Size). b < z.nodes) (sym held.size) b0 in
    let shorter = quiet_shorter n b c.after c.new last c.turns b1 other in
    omega (arith, now, most, few, shorter)

-- then the node isn't held up in its next turn
never_quiet : (n : ℕ) (window : List ℕ) (first last : Working) → IsAmong n window → AreTurns (QuietTurn n) window first last
    → ((b : ℕ) → b < first.core.size.nodes → b ≢ n → length (lane_of first.core Requests n b) ≤ 3) → ⊥
never_quiet n [] first last among turns short = elim among [ ]
never_quiet n (i ∷ window) first last (inl same) turns short = grind arith
never_quiet n (i ∷ window) first last (inr later) turns short =
    never_quiet n window turns.0 last later turns.2 (λ b below other. (
    let was : b < first.core.size.nodes = subst (λ (z : Size). b < z.nodes) turns.1.size below in
    let few = short b was other in
    let less = turns.1.lanes b was other in
    omega (arith, few, less)
    ))

-- so within 71 windows comes a turn of the node in which it isn't
pub free_turn : (n extra : ℕ) (order : List ℕ) (first last : Working) → WorksByTurns first.core → n < first.core.size.nodes → AreSteadyTurns order first last
    → HasWindows first.core.size.nodes (71 + extra) order → Comes (FreeTurn n) first.core.size.nodes extra order first last
free_turn n extra order first last good some turns windows =
    let nodes = first.core.size.nodes in
    let part = windows_part nodes 70 (suc extra) order (windows_fewer nodes (70 + suc extra) (71 + extra) order (omega arith) windows) in
    let window = part.later.0 in
    let rest = part.later.1 in
    let behind : part.rest ≡ window ++ rest = part.later.2 in
    let all : AreSteadyTurns (part.first ++ part.rest) first last = subst (λ (l : List ℕ). AreSteadyTurns l first last) part.whole turns in
    let one = turns_part IsSteadyTurn part.first part.rest first last all in
    let mid = one.0 in
    let tail : AreSteadyTurns (window ++ rest) mid last = subst (λ (l : List ℕ). AreSteadyTurns l mid last) behind one.2 in
    let two = turns_part IsSteadyTurn window rest mid last tail in
    let some_windows : HasWindows nodes extra (window ++ rest) = windows_after nodes extra window rest part.later.4 in
    subst (λ (l : List ℕ). Comes (FreeTurn n) nodes extra l first last) (sym (part.whole ∙ ap (λ (l : List ℕ). part.first ++ l) behind))
    (elim (free_or_quiet n nodes extra part.first (window ++ rest) first mid last good some one.1 tail some_windows) [
      | inl comes ↦ comes
      | inr quiet ↦
          let size = quiet_size n part.first first mid quiet in
          let n_mid : n < mid.core.size.nodes = subst (λ (z : Size). n < z.nodes) (sym size) some in
          comes_behind IsSteadyTurn (FreeTurn n) nodes extra part.first (window ++ rest) first mid last one.1
          (elim (free_or_quiet n nodes extra window rest mid two.0 last (good_along part.first first mid good one.1) n_mid two.1 two.2 part.later.4) [
            | inl comes ↦ comes
            | inr more ↦ absurd (never_quiet n window mid two.0 (part.later.3 n some) more (λ b below other. (
                let b0 : b < first.core.size.nodes = subst (λ (z : Size). b < z.nodes) size below in
                emptied_by n b (lane_of first.core Requests n b) part.first first mid good some b0 other quiet part.windows refl
                )))
          ])
    ])
