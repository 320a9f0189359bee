-- Where nothing is under way and no cache has an entry, each operation that is pending can be performed by itself, and then it is
-- so again.
use Rattle.std.proofs.Common.{◌≡◌, ℕ, ◌%◌, ◌<◌, ◌&&◌, Bool, true, false, if◌then◌else◌, List, [], ◌∷◌, ◌++◌, Option, Some, None, refl, sym, ap, subst, ◌∙◌}
use Rattle.std.proofs.Common.{append_assoc, arith, inl, inr, ◌*◌, nat_lt}
use Rattle.std.proofs.lemmas.{Bool.{cases_eq, ltb-true}, List.Sums.{fold-append}}
use Rattle.std.specs.Prelude.{IsSome, is_some, option_map}
use Rattle.sci_words.specs.declared.{event.{AskKind.{AskKind}, Event.{Event}}, operation.Op.{Op}, stamped.Stamped.{Stamped}}
use Rattle.sci_home.specs.{Serving.{home_serving}, declared.state.HomeState.{HomeState}}
use Rattle.sci_cache.specs.{Asking.{Asked, asking}, Cache.{Letter, line_of, letter_asking}, Line.{LineState, untouched}}
use Rattle.sci_cache.specs.{Member.{is_fresh}, State.{CacheState, Asking, Head, Out, Returning}}
use Rattle.sci_core.proofs.Basics.{Lists.{at_place_set}, Options.{found, of_some, same_some}}
use Rattle.sci_core.proofs.Settling.{Emptying.{home_round, if_same, known, next_lowers}, Leading.{made_append}}
use Rattle.sci_core.proofs.Settling.{PendingRuns.{Read, can_perform, can_read, has_read, performs_one_read}, Resting.{head_first, home_gone, quiet}}
use Rattle.sci_core.proofs.Settling.{RoundSteps.{round_drained}, Rounds.{Rounds, rounds}, Shifts.{AskedAs, asked_as}}
use Rattle.sci_core.proofs.{Shape.ShapeRuns.{each_mapped, replicated}, Step.{Nodes.{some_below}, Sides.{steps_by_sides}}}
use Rattle.sci_core.proofs.WellFormed.WellFormedSteps.{reached_stepping, reached_well, is_size, reachable}
use Rattle.sci_core.specs.{Core.{Core, node_at, run_from, step, stepping, with_node, opening}, Draining.{IsDrained}}
use Rattle.sci_core.specs.{Node.{NodeOf, no_node, node_asking, pending_on, may_issue, node_issued, opening_node}, Reached.{IsReached}}
use Rattle.sci_core.specs.{Rounds.{AreOut, Parts, is_head, joins_before, parting}, Settling.{AreMade}, Shape.{state_at}, Sharing.{home_at}}
use Rattle.sci_core.specs.Size.{Size, IsMachineSize}
use Rattle.sci_orders.proofs.{Plains.{can_issue_is, step_is, waits_is}, Sound.{events_sound, plain_opening}}
use Rattle.sci_orders.specs.Plain.{AreAllowed, Plain, can_issue, opening_plain, plain_of, plain_run, plain_step, plain_stepping, waits_at, with_issued}
use Rattle.sci_orders.specs.Plain.{with_performed}
use Rattle.sci_orders.specs.Witness.{any_event, is_seen, round_of, round_with, schedule_of, seen, seen_from, turn_of}
use Rattle.sci_words.specs.declared.event.Event.TheVariants as event
use Rattle.sci_words.specs.declared.event.AskKind.TheVariants as kind
use Rattle.sci_packets.specs.declared.body.Body.TheVariants as body
use Rattle.sci_home.specs.declared.state.HomeState.TheVariants as at

-- ---- what is seen on the way from one state to another

pub record Passes (core : Core) (events order : List Event) (new : Core) : Type 0 where
  pub seen : seen_from core events ≡ order
  pub leads : run_from core events ≡ new
  -- each event is enabled when it comes
  pub made : AreMade any_event core events

made-cons : (core next : Core) (e : Event) (events : List Event) → stepping core e ≡ Some next → AreMade any_event next events
    → AreMade any_event core (e ∷ events)
made-cons core next e events steps rest =
    (refl, subst IsSome (sym steps) refl, subst (λ (x : Core). AreMade any_event x events) (sym (step_is core next e steps)) rest)

pub passes_none : (core : Core) → Passes core [] [] core
passes_none core = record { seen = refl; leads = refl; made = tt }

pub passes_hidden : (core next new : Core) (e : Event) (events order : List Event) → is_seen e ≡ false → stepping core e ≡ Some next
    → Passes next events order new → Passes core (e ∷ events) order new
passes_hidden core next new e events order hidden steps rest = grind (arith, step_is, made-cons)

pub passes_seen : (core next new : Core) (e : Event) (events order : List Event) → is_seen e ≡ true → stepping core e ≡ Some next
    → Passes next events order new → Passes core (e ∷ events) (e ∷ order) new
passes_seen core next new e events order shown steps rest = grind (arith, step_is, made-cons)

seen-append : (core : Core) (xs ys : List Event) → seen_from core (xs ++ ys) ≡ seen_from core xs ++ seen_from (run_from core xs) ys
seen-append core [] ys = refl
seen-append core (e ∷ xs) ys =
    let first = if is_seen e && is_some (stepping core e) then e ∷ [] else [] in
    ap (λ (es : List Event). first ++ es) (seen-append (step core e) xs ys)
    ∙ sym (append_assoc first (seen_from (step core e) xs) (seen_from (run_from (step core e) xs) ys))

pub passes_append : (core mid new : Core) (xs ys first next : List Event) → Passes core xs first mid → Passes mid ys next new
    → Passes core (xs ++ ys) (first ++ next) new
passes_append core mid new xs ys first next a b = grind (arith, seen-append, fold-append, made_append)

-- ---- a round

pub round_passes : (core : Core) (n line : ℕ) (ask : AskKind) (t : ℕ) → (r : Rounds core n line ask t) → Passes core (round_with t n line ask) [] r.last
round_passes core n line ask t r = grind (arith, passes_hidden, passes_none)

pub round_reached : (core : Core) (n line : ℕ) (ask : AskKind) (t : ℕ) → (r : Rounds core n line ask t) → IsReached core → IsReached r.last
round_reached core n line ask t r reached =
    reached_stepping r.third r.last (event.Accept t n)
    (reached_stepping r.second r.third (event.Reply t)
    (reached_stepping r.first r.second (event.Serve n t) (reached_stepping core r.first (event.Ask n line ask) reached r.ask) r.serve) r.reply) r.accept

pub round_quiet : (core : Core) (n line : ℕ) (ask : AskKind) (t : ℕ) → (r : Rounds core n line ask t) → IsReached core → IsDrained core → IsDrained r.last
round_quiet core n line ask t r reached drained =
    round_drained core n line ask t r.first r.second r.third r.last reached drained (record { ask = r.ask; serve = r.serve; reply = r.reply }) r.accept

-- what is asked of the home goes to the home
home_rounds : (core : Core) (n line : ℕ) (ask : AskKind) (a : Asked) → IsReached core → IsDrained core → n < core.size.nodes → line < core.size.lines
    → IsSome (node_asking (node_at core n) line ask) → asking (state_at core line n) ask ≡ Some a → a.to ≡ None
    → Rounds core n line ask (line % core.size.nodes)
home_rounds core n line ask a reached drained lt inside some asks to =
    let part = node_at core n in
    let sent = found (node_asking part line ask) some in
    let as_ = of_some (AskedAs part line ask) (node_asking part line ask) sent.0 sent.1 (asked_as part line ask) in
    let same : as_.asked ≡ a = same_some as_.asked a (sym as_.asks ∙ asks) in
    let target : sent.0.1.target ≡ line % core.size.nodes =
    ap (λ (l : Letter). l.target) as_.letter
    ∙ (ap (λ (x : Asked). (letter_asking part.cache line x).target) same
    ∙ (ap (λ (o : Option ℕ). (letter_asking part.cache line (record a { to = o })).target) to
    ∙ ap (λ (k : ℕ). line % k) ((reached_well core reached).each_part n lt).all)) in
    rounds core n line ask (line % core.size.nodes) sent.0.0 sent.0.1 reached drained lt inside sent.1 target

-- ---- idle: nothing is under way, and no cache has an entry

pub record IsIdle (core : Core) : Type 0 where
  pub reached : IsReached core
  pub drained : IsDrained core
  pub out : AreOut core

-- one cache alone has an entry, of one line, and has it alone
pub record IsHeld (core : Core) (n line : ℕ) : Type 0 where
  pub reached : IsReached core
  pub drained : IsDrained core
  pub contents : Stamped
  pub here : state_at core line n ≡ Head None contents
  pub others : (m k : ℕ) → ((m ≡ n) × (k ≡ line) → ⊥) → state_at core k m ≡ Out

-- ---- the line is read, performed on, and written back

abbrev reads : Asked
reads = record { to = None; request = body.Mread; next = Asking }

abbrev writes : Stamped → Asked
writes c = record { to = None; request = body.Wback c; next = Returning c }

pub record ReadOf (core new : Core) (n line : ℕ) : Type 0 where
  pub held : IsHeld new n line
  pub read : Read core new n line
  pub passes : Passes core (round_of core.size n line kind.Mread) [] new

read_one : (core : Core) (n line : ℕ) → IsIdle core → n < core.size.nodes → line < core.size.lines → (new : Core) × ReadOf core new n line
read_one core n line idle lt inside =
    let r = home_rounds core n line kind.Mread reads idle.reached idle.drained lt inside
    (can_read core n line idle.reached idle.out lt inside) (ap (λ (s : CacheState). asking s kind.Mread) (idle.out line n)) refl in
    let read = has_read core r.last n line idle.reached idle.drained idle.out inside r.round in (
      r.last,
      record {
        held = record {
          reached = round_reached core n line kind.Mread (line % core.size.nodes) r idle.reached;
          drained = round_quiet core n line kind.Mread (line % core.size.nodes) r idle.reached idle.drained;
          contents = read.contents;
          here = read.shift.here;
          others = λ m k not. read.shift.others m k not ∙ idle.out k m;
        };
        read = read;
        passes = round_passes core n line kind.Mread (line % core.size.nodes) r;
      },
    )

-- no node joins before it
none_joins : (core : Core) (n line : ℕ) → IsHeld core n line → (m : ℕ) → joins_before (state_at core line m) n ≡ false
none_joins core n line held m = grind (arith, cases_eq)

pub record BackOf (core new : Core) (n line : ℕ) : Type 0 where
  pub idle : IsIdle new
  pub size : new.size ≡ core.size
  pub passes : Passes core (round_of core.size n line kind.Wback) [] new

write_one : (core : Core) (n line : ℕ) → IsHeld core n line → n < core.size.nodes → line < core.size.lines → (new : Core) × BackOf core new n line
write_one core n line held lt inside =
    let h = line % core.size.nodes in
    let c = held.contents in
    let q = quiet core line held.reached held.drained inside in
    let head : is_head (state_at core line n) ≡ true = ap is_head held.here in
    let none = none_joins core n line held in
    let first = head_first core line n held.reached q head (λ m below. none m) in
    let gone = home_gone core line n q first (ap is_fresh held.here) in
    let asks = (next_lowers core n line kind.Wback held.reached held.drained lt inside
    (Parts head (λ m below. none m) (sym (ap parting held.here)))).asks in
    let asked = ap (λ (s : CacheState). asking s kind.Wback) held.here in
    let r = home_rounds core n line kind.Wback (writes c) held.reached held.drained lt inside asks asked refl in
    let serves : home_serving (home_at core line) n (body.Wback c) ≡ Some (at.Home c, body.Wbok) =
    ap (λ (x : HomeState). home_serving x n (body.Wback c)) gone ∙ ap Some (if_same n (at.Home c, body.Wbok) (at.Gone n, body.Wbno)) in
    let shift = home_round core r.last n line (writes c) Out (known core r.last n line kind.Wback (writes c) r.round asked)
    (record { home = at.Home c; answer = body.Wbok; serves = serves; alone = λ s. refl; accepts = refl }) in (
      r.last,
      record {
        idle = record {
          reached = round_reached core n line kind.Wback h r held.reached;
          drained = round_quiet core n line kind.Wback h r held.reached held.drained;
          out = λ k m. elim (cases_eq m n) [
            | inl e ↦ elim (cases_eq k line) [
              | inl on ↦ ap (state_at r.last k) e ∙ (ap (λ (j : ℕ). state_at r.last j n) on ∙ shift.here)
              | inr off ↦ shift.others m k (λ both. off both.1) ∙ held.others m k (λ both. off both.1)
            ]
            | inr other ↦ shift.others m k (λ both. other both.0) ∙ held.others m k (λ both. other both.0)
          ];
        };
        size = shift.size;
        passes = round_passes core n line kind.Wback h r;
      },
    )

-- ---- a turn for each event that one memory may do

pub record TurnOf (core new : Core) (e : Event) : Type 0 where
  pub idle : IsIdle new
  pub size : new.size ≡ core.size
  pub passes : Passes core (turn_of core.size e) (e ∷ []) new

perform_turn : (core : Core) (n line : ℕ) → IsIdle core → n < core.size.nodes → IsSome (pending_on (node_at core n) line)
    → (new : Core) × TurnOf core new (event.Perform n line)
perform_turn core n line idle lt some =
    let part = (reached_well core idle.reached).each_part n lt in
    let pending = found (pending_on (node_at core n) line) some in
    let inside : line < core.size.lines = (
    let below = some_below (node_at core n).pending line pending.0 pending.1 in
    let long = part.fits.pending in
    let lines = part.each in
    omega arith) in
    let e = event.Perform n line in
    let read = read_one core n line idle lt inside in
    let mid = read.0 in
    let enabled = can_perform core mid n line read.1.held.reached read.1.read lt inside some in
    let next = found (stepping mid e) enabled in
    let one = performs_one_read core mid next.0 n line read.1.held.reached read.1.held.drained lt inside read.1.read next.1 in
    let mid_size : mid.size ≡ core.size = read.1.read.shift.size in
    let size : next.0.size ≡ core.size = one.size ∙ mid_size in
    let held : IsHeld next.0 n line = record {
      reached = reached_stepping mid next.0 e read.1.held.reached next.1;
      drained = one.drained;
      contents = one.sole.contents;
      here = one.sole.here;
      others = λ m k not. one.sole.others m k not ∙ read.1.held.others m k not;
    } in
    let back = write_one next.0 n line held (subst (λ (s : Size). n < s.nodes) (sym size) lt) (subst (λ (s : Size). line < s.lines) (sym size) inside) in
    let last : Passes next.0 (round_of core.size n line kind.Wback) [] back.0 =
    subst (λ (s : Size). Passes next.0 (round_of s n line kind.Wback) [] back.0) size back.1.passes in (
      back.0,
      record {
        idle = back.1.idle;
        size = back.1.size ∙ size;
        passes = passes_append core mid back.0 (round_of core.size n line kind.Mread) (e ∷ round_of core.size n line kind.Wback) [] (e ∷ []) read.1.passes
            (passes_seen mid next.0 back.0 e (round_of core.size n line kind.Wback) [] refl next.1 last);
      },
    )

issue_turn : (core : Core) (n : ℕ) (op : Op) → IsIdle core → n < core.size.nodes → may_issue (node_at core n) op ≡ true
    → (new : Core) × TurnOf core new (event.Issue n op)
issue_turn core n op idle lt may_ =
    let part = node_at core n in
    let e = event.Issue n op in
    let next = node_issued part op in
    let new = with_node core n next in
    let steps : stepping core e ≡ Some new =
    (steps_by_sides core n lt).issue op ∙ ap (λ (b : Bool). option_map (with_node core n) (if b then Some next else None)) may_ in (
      new,
      record {
        idle = record {
          reached = reached_stepping core new e idle.reached steps;
          drained = record {
            waiting = at_place_set (λ (m : ℕ) (p : NodeOf). p.waiting ≡ None) core.parts n next no_node idle.drained.waiting (idle.drained.waiting n);
            lanes = idle.drained.lanes;
          };
          out = λ line m. at_place_set (λ (j : ℕ) (p : NodeOf). (line_of p.cache line).state ≡ Out) core.parts n next no_node (λ j. idle.out line j)
              (idle.out line n) m;
        };
        size = refl;
        passes = passes_seen core new new e [] [] refl steps (passes_none new);
      },
    )

-- what is possible for the memory
pub both_tests : {X : Type 0} (a b : Bool) (x : X) → IsSome (if a then (if b then Some x else None) else None) → (a ≡ true) × (b ≡ true)
both_tests true true x some = (refl, refl)
both_tests true false x some = cc
both_tests false b x some = cc

pub one_test : {X Y : Type 0} (a : Bool) (f : X → Y) (o : Option X) → IsSome (if a then option_map f o else None) → (a ≡ true) × IsSome o
one_test true f None some = cc
one_test true f (Some x) some = (refl, refl)
one_test false f o some = cc

pub no_test : {Y : Type 0} (a : Bool) (o : Option Plain) → o ≡ None → IsSome (if a then o else None) → Y
no_test true o none some = let clash : IsSome {T = Plain} None = subst IsSome none some in cc
no_test false o none some = cc

event_turn : (core : Core) (e : Event) → IsIdle core → IsSome (plain_stepping (plain_of core) e) → (new : Core) × TurnOf core new e
unfolding plain_stepping
event_turn core (event.Issue n op) idle some =
    let tests = both_tests (nat_lt n core.size.nodes) (can_issue (plain_of core) n op) (with_issued (plain_of core) n op) some in
    let lt = ltb-true n core.size.nodes tests.0 in
    issue_turn core n op idle lt (sym (can_issue_is core n op (reached_well core idle.reached) lt) ∙ tests.1)
event_turn core (event.Perform n line) idle some =
    let tests = one_test (nat_lt n core.size.nodes) (with_performed (plain_of core) n line) (waits_at (plain_of core) n line) some in
    perform_turn core n line idle (ltb-true n core.size.nodes tests.0) (subst IsSome (waits_is core n line) tests.1)
event_turn core (event.Ask n line ask) idle some = no_test (nat_lt n core.size.nodes) None refl some
event_turn core (event.Serve from n) idle some = no_test (nat_lt n core.size.nodes) None refl some
event_turn core (event.Refuse from n) idle some = no_test (nat_lt n core.size.nodes) None refl some
event_turn core (event.Reply n) idle some = no_test (nat_lt n core.size.nodes) None refl some
event_turn core (event.Accept from n) idle some = no_test (nat_lt n core.size.nodes) None refl some

-- ---- and for each order

pub record OrderOf (core new : Core) (order : List Event) : Type 0 where
  pub idle : IsIdle new
  pub passes : Passes core (schedule_of core.size order) order new

-- the memory after a turn
turn_plain : (core new : Core) (e : Event) → IsReached core → TurnOf core new e → plain_step (plain_of core) e ≡ plain_of new
turn_plain core new e reached turn =
    let sound = events_sound core (turn_of core.size e) (reachable core reached) in
    ap (plain_run (plain_of core)) (sym turn.passes.seen) ∙ (sym sound.plain ∙ ap plain_of turn.passes.leads)

pub order_passes : (core : Core) (order : List Event) → IsIdle core → AreAllowed (plain_of core) order → (new : Core) × OrderOf core new order
order_passes core [] idle allowed = (core, record { idle = idle; passes = passes_none core })
order_passes core (e ∷ order) idle allowed =
    let turn = event_turn core e idle allowed.0 in
    let mid = turn.0 in
    let plain = turn_plain core mid e idle.reached turn.1 in
    let rest = order_passes mid order turn.1.idle (subst (λ (p : Plain). AreAllowed p order) plain allowed.1) in
    let more : Passes mid (schedule_of core.size order) order rest.0 =
    subst (λ (s : Size). Passes mid (schedule_of s order) order rest.0) turn.1.size rest.1.passes in (
      rest.0,
      record {
        idle = rest.1.idle;
        passes = passes_append core mid rest.0 (turn_of core.size e) (schedule_of core.size order) (e ∷ []) order turn.1.passes more;
      },
    )

-- ---- from the opening on

pub opening_idle : (size : Size) → IsMachineSize size → IsIdle (opening size)
opening_idle size sizes = record {
  reached = record { size = sizes; moves = []; leads = refl };
  drained = record {
    waiting = λ n. each_mapped (λ (p : NodeOf). p.waiting ≡ None) (λ (m : ℕ). opening_node m size) no_node 0 size.nodes n (λ m. refl) refl;
    lanes = λ place. replicated [] (2 * size.nodes * size.nodes) place;
  };
  out = λ line n. each_mapped (λ (p : NodeOf). (line_of p.cache line).state ≡ Out) (λ (m : ℕ). opening_node m size) no_node 0 size.nodes n
      (λ m. ap (λ (l : LineState). l.state) (replicated untouched size.lines line)) refl;
}

pub order_made : (size : Size) (order : List Event) → IsMachineSize size → AreAllowed (opening_plain size) order
    → AreMade any_event (opening size) (schedule_of size order)
order_made size order sizes allowed =
    let first = plain_opening size (is_size size sizes) in
    (order_passes (opening size) order (opening_idle size sizes) (subst (λ (p : Plain). AreAllowed p order) (sym first) allowed)).1.passes.made

pub order_seen : (size : Size) (order : List Event) → IsMachineSize size → AreAllowed (opening_plain size) order → seen size (schedule_of size order) ≡ order
order_seen size order sizes allowed =
    let first = plain_opening size (is_size size sizes) in
    let all = order_passes (opening size) order (opening_idle size sizes) (subst (λ (p : Plain). AreAllowed p order) (sym first) allowed) in
    all.1.passes.seen
