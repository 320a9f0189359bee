-- Pending operations: each is performed by one read, the operation itself and one write-back.
use Rattle.std.proofs.Common.{◌≡◌, ◌≢◌, ℕ, ◌+◌, ◌*◌, ◌<◌, ◌≤◌, not, true, List, [], ◌∷◌, length, Option, Some, None, refl, sym, ap, subst, ◌∙◌, arith, inl}
use Rattle.std.proofs.{Common.{inr}, Math.Nat.{mul-le-mul_left}, lemmas.Bool.{cases_eq, cases_lt, lt-ltb}}
use Rattle.std.proofs.lemmas.List.{get_or_past, get_or-set_other, get_or-set_same, length-append}
use Rattle.std.proofs.lemmas.List.Sums.{count_by-le-length}
use Rattle.std.specs.Prelude.{IsSome, slice_index_or, count_by, is_some, option_map, unwrap_or}
use Rattle.sci_words.specs.declared.{stamped.Stamped.{Stamped}, operation.Op.{Op}, event.Event.{Event}}
use Rattle.sci_words.specs.Stamped.{after}
use Rattle.sci_history.specs.declared.entry.Entry.{Entry}
use Rattle.sci_home.specs.Serving.{home_serving}
use Rattle.sci_cache.specs.{State.{CacheState, Asking, Head, is_out}, Asking.{Asked, asking}, Performing.{performing}}
use Rattle.sci_cache.specs.{Line.{LineState, untouched}, Cache.{Letter, has_slot, line_of, slots_taken}}
use Rattle.sci_core.proofs.Settling.{Rest.{counted_none}, Drains.{drained, made_by, some_node, took_from, weighs}}
use Rattle.sci_core.proofs.Settling.{Emptying.{asks_if, home_round, known}, EmptyRuns.{pending_same}}
use Rattle.sci_core.proofs.Settling.{Leading.{leads_join, leads_more, leads_on, leads_weaker}, Moves.{drained_weighs}}
use Rattle.sci_core.proofs.Settling.Ranks.{few_rounds, none_left, rank_one, rank_shift, sum_less, sum_one, sum_over}
use Rattle.sci_core.proofs.{Settling.{Resting.{home_alone, line_known, quiet}, Shifts.{Shifts}}, Tidy.Burdens.{light}}
use Rattle.sci_core.proofs.Basics.{Lists.{at_place_set}, Options.{found, of_some}}
use Rattle.sci_core.proofs.Step.NodeSides.{AcceptedAs, At_home, In_cache, PerformedAs, ServedAs, accept_as, perform_as, reply_as, serve_as}
use Rattle.sci_core.proofs.{Step.Sides.{steps_by_sides}, History.Pendings.{sole_performs}}
use Rattle.sci_core.proofs.Shape.{ShapeRuns.{operates_so}, Standings.{Leaves, Makes, Performs, Reads, performing_does}}
use Rattle.sci_core.proofs.WellFormed.WellFormedSteps.{reachable, reached_stepping, reached_well, step_well}
use Rattle.sci_core.specs.declared.{lane.LaneKind.TheVariants.{Requests, Answers}, pending.Pending.{Pending}}
use Rattle.sci_core.specs.Core.{Core, IsEnabled, node_at, run_from, step, stepping, with_node}
use Rattle.sci_core.specs.Draining.{IsDrained, brings_on, weight}
use Rattle.sci_core.specs.Node.{IsPendingOn, NodeOf, entry_of, no_node, node_accepting, node_asking, node_performing, node_serving, pending_on}
use Rattle.sci_core.specs.{Reached.{IsReached}, Rounds.{AreOut, IsRound, entry_rank, rank}}
use Rattle.sci_core.specs.Settling.{AreMade, IsPerformedNext, IsSettled, IsWithin, KeepsPending, Leads, LeadsOn, exchanges, pending_count, settles}
use Rattle.sci_core.specs.{Shape.{state_at}, Size.{Size}, Work.{IsLogged}}
use Rattle.sci_words.specs.declared.event.AskKind.TheVariants as kind
use Rattle.sci_words.specs.declared.event.Event.TheVariants as event
use Rattle.sci_packets.specs.declared.body.Body.TheVariants as body
use Rattle.sci_home.specs.declared.state.HomeState.TheVariants as at

-- ---- moves leave what is pending

served_pending : (part : NodeOf) (request : Letter) (next : NodeOf) → ServedAs part request next → next.pending ≡ part.pending
served_pending part request next (At_home served asks serves e) = ap (λ (p : NodeOf). p.pending) (sym e)
served_pending part request next (In_cache served serves e) = ap (λ (p : NodeOf). p.pending) (sym e)

-- one node of a state becomes another, with the same operations pending
one_pending : (core : Core) (n : ℕ) (next : NodeOf) → next.pending ≡ (node_at core n).pending → (m : ℕ)
    → (node_at (with_node core n next) m).pending ≡ (node_at core m).pending
one_pending core n next same m = at_place_set (λ (j : ℕ) (part : NodeOf). part.pending ≡ (node_at core j).pending) core.parts n next no_node (λ j. refl) same m

move_pending : (core new : Core) (e : Event) → brings_on e ≡ true → stepping core e ≡ Some new → (m : ℕ) → (node_at new m).pending ≡ (node_at core m).pending
move_pending core new (event.Serve from n) is steps m =
    let took = (took_from core new Requests from node_serving (event.Serve from n) refl steps).took in
    let as_ = of_some (ServedAs (node_at core n) took.letter) (node_serving (node_at core n) took.letter) took.next took.takes
    (serve_as (node_at core n) took.letter) in
    ap (λ (x : Core). (node_at x m).pending) took.then_ ∙ one_pending core n took.next (served_pending (node_at core n) took.letter took.next as_) m
move_pending core new (event.Reply n) is steps m = grind (arith, some_node, made_by, steps_by_sides, of_some, reply_as, one_pending)
move_pending core new (event.Accept from n) is steps m =
    let took = (took_from core new Answers from node_accepting (event.Accept from n) refl steps).took in
    let as_ = of_some (AcceptedAs (node_at core n) took.letter) (node_accepting (node_at core n) took.letter) took.next took.takes
    (accept_as (node_at core n) took.letter) in
    ap (λ (x : Core). (node_at x m).pending) took.then_ ∙ one_pending core n took.next (ap (λ (p : NodeOf). p.pending) (sym as_.then_)) m
move_pending core new _ is steps m = cc

moved_kept : (core : Core) (events : List Event) → IsReached core → AreMade brings_on core events → KeepsPending core (run_from core events)
moved_kept core [] reached made = record { size = refl; pending = λ m. refl }
moved_kept core (e ∷ events) reached made =
    let next = found (stepping core e) made.1 in
    let is : step core e ≡ next.0 = ap (λ (o : Option Core). unwrap_or o core) next.1 in
    let reached_next = subst IsReached (sym is) (reached_stepping core next.0 e reached next.1) in
    let rest = moved_kept (step core e) events reached_next made.2 in
    let size = (step_well core e (reached_well core reached)).same in
    let pending : (m : ℕ) → (node_at (step core e) m).pending ≡ (node_at core m).pending =
    λ m. ap (λ (x : Core). (node_at x m).pending) is ∙ move_pending core next.0 e made.0 next.1 m in
    record { size = rest.size ∙ size; pending = λ m. rest.pending m ∙ pending m }

pub drained_kept : (old new : Core) (count : ℕ) → IsReached old → Leads brings_on old new count → KeepsPending old new
drained_kept old new count reached leads = subst (KeepsPending old) leads.then_ (moved_kept old leads.events reached leads.made)

brings_settles : (e : Event) → brings_on e ≡ true → settles e ≡ true
brings_settles (event.Serve from n) is = refl
brings_settles (event.Reply n) is = refl
brings_settles (event.Accept from n) is = refl
brings_settles _ is = cc

pub moves_settle : (old new : Core) (count : ℕ) → Leads brings_on old new count → Leads settles old new count
moves_settle old new count leads = leads_weaker brings_on settles old new count brings_settles leads

pub moves_settle_on : (old new : Core) → LeadsOn brings_on old new → LeadsOn settles old new
moves_settle_on old new on = leads_on settles old new on.count (moves_settle old new on.count on.leads)

exchange_settles : (e : Event) → exchanges e ≡ true → settles e ≡ true
exchange_settles (event.Ask n line kind) is = refl
exchange_settles (event.Serve from n) is = refl
exchange_settles (event.Reply n) is = refl
exchange_settles (event.Accept from n) is = refl
exchange_settles _ is = cc

pub exchanges_settle : (old new : Core) (count : ℕ) → Leads exchanges old new count → Leads settles old new count
exchanges_settle old new count leads = leads_weaker exchanges settles old new count exchange_settles leads

pub exchanges_settle_on : (old new : Core) → LeadsOn exchanges old new → LeadsOn settles old new
exchanges_settle_on old new on = leads_on settles old new on.count (exchanges_settle old new on.count on.leads)

brings_exchanges : (e : Event) → brings_on e ≡ true → exchanges e ≡ true
brings_exchanges (event.Serve from n) is = refl
brings_exchanges (event.Reply n) is = refl
brings_exchanges (event.Accept from n) is = refl
brings_exchanges _ is = cc

pub moves_exchange : (old new : Core) (count : ℕ) → Leads brings_on old new count → Leads exchanges old new count
moves_exchange old new count leads = leads_weaker brings_on exchanges old new count brings_exchanges leads

pub moves_exchange_on : (old new : Core) → LeadsOn brings_on old new → LeadsOn exchanges old new
moves_exchange_on old new on = leads_on exchanges old new on.count (moves_exchange old new on.count on.leads)

-- ---- the line is read

-- a node with no entry has a slot
slot_free : (core : Core) (n : ℕ) → IsReached core → AreOut core → n < core.size.nodes → has_slot (node_at core n).cache ≡ true
slot_free core n reached out lt =
    let part = (reached_well core reached).each_part n lt in
    let none : slots_taken (node_at core n).cache.lines ≡ 0 =
    counted_none (λ (line : LineState). not (is_out line.state)) (node_at core n).cache.lines untouched
    (λ i. ap (λ (s : CacheState). not (is_out s)) (out i n)) in
    let room = part.room in
    let some = reached.size.extent.has_slot in
    lt-ltb (slots_taken (node_at core n).cache.lines) (node_at core n).cache.slots (omega arith)

abbrev reads : Asked
reads = record { to = None; request = body.Mread; next = Asking }

pub can_read : (core : Core) (n line : ℕ) → IsReached core → AreOut core → n < core.size.nodes → line < core.size.lines
    → IsSome (node_asking (node_at core n) line kind.Mread)
can_read core n line reached out lt inside = grind (arith, slot_free, asks_if, line_known)

-- the node has the line alone
pub record Read (core new : Core) (n line : ℕ) : Type 0 where
  pub contents : Stamped
  pub shift : Shifts core new n line (Head None contents)

pub has_read : (core new : Core) (n line : ℕ) → IsReached core → IsDrained core → AreOut core → line < core.size.lines → IsRound core new n line kind.Mread
    → Read core new n line
has_read core new n line reached none out inside round =
    let home = home_alone core line (quiet core line reached none inside) (λ m. out line m) in
    let d = home.0 in
    let k = known core new n line kind.Mread reads round (ap (λ (s : CacheState). asking s kind.Mread) (out line n)) in
    let serves = ap (λ h. home_serving h n body.Mread) home.1 in
    record {
      contents = d;
      shift =
          home_round core new n line reads (Head None d) k
          (record { home = at.Gone n; answer = body.Mdata d; serves = serves; alone = λ s. refl; accepts = refl });
    }

-- ---- and the operation is performed

pub can_perform : (core new : Core) (n line : ℕ) → IsReached new → Read core new n line → n < core.size.nodes → line < core.size.lines
    → IsSome (pending_on (node_at core n) line) → IsEnabled new (event.Perform n line)
can_perform core new n line reached read lt inside some =
    let pending = found (pending_on (node_at core n) line) some in
    let below : n < new.size.nodes = subst (λ (s : Size). n < s.nodes) (sym read.shift.size) lt in
    let here : line < new.size.lines = subst (λ (s : Size). line < s.lines) (sym read.shift.size) inside in
    let still : pending_on (node_at new n) line ≡ Some pending.0 =
    ap (λ (ps : List (Option Pending)). slice_index_or ps line None) (read.shift.pending n) ∙ pending.1 in
    let performs = found (node_performing (node_at new n) line) (sole_performs new n line pending.0 read.contents reached below here still read.shift.here) in
    subst IsSome (sym ((steps_by_sides new n below).perform line ∙ ap (option_map (λ (done : NodeOf × Entry). with_node new n done.0)) performs.1)) refl

-- an operation at the only copy leaves the only copy
left_alone : (s : CacheState) (op : Op) (c d : Stamped) (next : CacheState) → s ≡ Head None d → Leaves s op c next → (e : Stamped) × (next ≡ Head None e)
left_alone s op c d next is (Reads load same) = (d, same ∙ is)
left_alone s op c d next is (Makes was then_) = (after c op, then_)

-- the node's copy of the line is the only one, and no other state changed
pub record StaysSole (core new : Core) (n line : ℕ) : Type 0 where
  pub contents : Stamped
  pub here : state_at new line n ≡ Head None contents
  pub others : (m k : ℕ) → ((m ≡ n) × (k ≡ line) → ⊥) → state_at new k m ≡ state_at core k m

-- where one node's line was the only copy, it is so still, and no other state changes
stays_sole : (core new : Core) (n line : ℕ) (c : Stamped) (done : NodeOf × Entry) (does : PerformedAs (node_at core n) line done) → IsReached core
    → n < core.size.nodes → state_at core line n ≡ Head None c → new ≡ with_node core n done.0 → does.pending.op.line ≡ line → StaysSole core new n line
stays_sole core new n line c done does reached lt sole is here =
    let op = does.pending.op in
    let operates = operates_so core n line done does lt (reached_well core reached) in
    let state = (line_of (node_at core n).cache op.line).state in
    let performs = of_some (Performs state op) (performing state op) does.did does.performs (performing_does state op) in
    let left = left_alone state op performs.contents c does.did.next (ap (λ (k : ℕ). (line_of (node_at core n).cache k).state) here ∙ sole) performs.leaves in
    let at : node_at new n ≡ done.0 = ap (λ (x : Core). node_at x n) is ∙ get_or-set_same core.parts n done.0 no_node operates.below in
    record {
      contents = left.0;
      here = ap (λ (p : NodeOf). (line_of p.cache line).state) at
          ∙ (ap (λ (k : ℕ). (line_of done.0.cache k).state) (sym here) ∙ (operates.state ∙ left.1));
      others = λ m k not. elim (cases_eq m n) [
        | inl e ↦ ap (state_at new k) e
            ∙ (ap (λ (p : NodeOf). (line_of p.cache k).state) at
            ∙ (ap (λ (l : LineState). l.state) (operates.others k (λ on. not (e, on ∙ here))) ∙ ap (state_at core k) (sym e)))
        | inr other ↦
            ap (λ (x : Core). (line_of (node_at x m).cache k).state) is
            ∙ ap (λ (p : NodeOf). (line_of p.cache k).state) (get_or-set_other core.parts n m done.0 no_node other)
      ];
    }

pub record Performs_one (core new : Core) (n line : ℕ) : Type 0 where
  pub drained : IsDrained new
  pub rank : rank new ≡ rank core
  pub pending : pending_count core ≡ pending_count new + 1
  pub size : new.size ≡ core.size
  pub sole : StaysSole core new n line

-- and one operation less is pending
performed_one : (core new : Core) (n line : ℕ) (c : Stamped) (done : NodeOf × Entry) (does : PerformedAs (node_at core n) line done) → IsReached core
    → IsReached new → IsDrained core → n < core.size.nodes → line < core.size.lines → state_at core line n ≡ Head None c → new ≡ with_node core n done.0
    → stepping core (event.Perform n line) ≡ Some new
    → does.pending.op.line ≡ line → Performs_one core new n line
performed_one core new n line c done does reached next none lt inside sole is steps here =
    let well = reached_well core reached in
    let part = node_at core n in
    let operates = operates_so core n line done does lt well in
    let stays = stays_sole core new n line c done does reached lt sole is here in
    let at : node_at new n ≡ done.0 = ap (λ (x : Core). node_at x n) is ∙ get_or-set_same core.parts n done.0 no_node operates.below in
    let apart : (m : ℕ) → m ≢ n → node_at new m ≡ node_at core m =
    λ m other. ap (λ (x : Core). node_at x m) is ∙ get_or-set_other core.parts n m done.0 no_node other in
    let size : new.size ≡ core.size = ap (λ (x : Core). x.size) is in
    let ranked = rank_one core new n line (Head None stays.contents) lt inside stays.here stays.others size in
    let before = ap entry_rank sole in
    let light_ = weighs core new (event.Perform n line) well steps refl in
    let zero_ = drained_weighs core none in
    let old_fits = (well.each_part n lt).fits in
    let new_fits = ((reached_well new next).each_part n (subst (λ (s : Size). n < s.nodes) (sym size) lt)).fits in
    let log : length (node_at new n).log ≡ length part.log + 1 =
    ap (λ (p : NodeOf). length p.log) at
    ∙ (ap (λ (p : NodeOf). length p.log) (sym does.next) ∙ length-append part.log (entry_of part does.pending does.did.reply does.did.version ∷ [])) in
    let issued : (node_at new n).issued ≡ part.issued = ap (λ (p : NodeOf). p.issued) at ∙ ap (λ (p : NodeOf). p.issued) (sym does.next) in
    let was = old_fits.logged in
    let now_logged = new_fits.logged in
    let one : count_by is_some part.pending ≡ count_by is_some (node_at new n).pending + 1 = omega arith in
    let sum = sum_one (λ m. count_by is_some (node_at core m).pending) (λ m. count_by is_some (node_at new m).pending) 0 core.size.nodes n (omega arith)
    (omega arith) (λ m other. ap (λ (p : NodeOf). count_by is_some p.pending) (apart m other)) in
    let whole : pending_count new ≡ sum_over (λ m. count_by is_some (node_at new m).pending) 0 core.size.nodes =
    ap (λ (s : Size). sum_over (λ m. count_by is_some (node_at new m).pending) 0 s.nodes) size in
    record { drained = drained new (omega arith); rank = omega arith; pending = omega arith; size = size; sole = stays }

pub performs_one : (core new : Core) (n line : ℕ) (c : Stamped) → IsReached core → IsDrained core → n < core.size.nodes → line < core.size.lines
    → state_at core line n ≡ Head None c → stepping core (event.Perform n line) ≡ Some new → Performs_one core new n line
performs_one core new n line c reached none lt inside sole steps =
    let made = made_by (λ (done : NodeOf × Entry). with_node core n done.0) (node_performing (node_at core n) line) new
    (sym ((steps_by_sides core n lt).perform line) ∙ steps) in
    let does = of_some (PerformedAs (node_at core n) line) (node_performing (node_at core n) line) made.0 made.1 (perform_as (node_at core n) line) in
    let each = ((reached_well core reached).each_part n lt).fits.each line in
    let here = (of_some (IsPendingOn (node_at core n).issued line) (pending_on (node_at core n) line) does.pending does.here each).here in
    performed_one core new n line c made.0 does reached (reached_stepping core new (event.Perform n line) reached steps) none lt inside sole made.2 steps here

pub performs_one_read : (old core new : Core) (n line : ℕ) → IsReached core → IsDrained core → n < old.size.nodes → line < old.size.lines
    → (read : Read old core n line) → stepping core (event.Perform n line) ≡ Some new → Performs_one core new n line
performs_one_read old core new n line reached none lt inside read steps =
    performs_one core new n line read.contents reached none (subst (λ (s : Size). n < s.nodes) (sym read.shift.size) lt)
    (subst (λ (s : Size). line < s.lines) (sym read.shift.size) inside) read.shift.here steps

-- the events so far
pub after_perform : (old mid new : Core) (n line : ℕ) → Leads exchanges old mid 4 → stepping mid (event.Perform n line) ≡ Some new → Leads settles old new 5
after_perform old mid new n line leads steps =
    leads_more settles old mid new (event.Perform n line) 4 (exchanges_settle old mid 4 leads) refl steps

pub worked_one : (old mid after_ new : Core) (n line rest : ℕ) → Leads exchanges old mid 4 → stepping mid (event.Perform n line) ≡ Some after_
    → Leads exchanges after_ new rest → Leads settles old new (rest + 5)
worked_one old mid after_ new n line rest leads steps last =
    let sum : 5 + rest ≡ rest + 5 = omega arith in
    subst (Leads settles old new) sum (leads_join settles old after_ new 5 rest (after_perform old mid after_ n line leads steps)
    (exchanges_settle after_ new rest last))

-- memory was refused, and the state stands
pub stands_after : (old mid new : Core) (count : ℕ) → Leads exchanges old mid count → new ≡ mid → LeadsOn settles old new
stands_after old mid new count leads same =
    leads_on settles old new count (subst (λ (x : Core). Leads settles old x count) (sym same) (exchanges_settle old mid count leads))

-- the read, the operation, and what is left: one round
pub record Done (old new : Core) (rest : ℕ) : Type 0 where
  pub few : rest + 5 ≤ 9
  pub pending : pending_count old ≡ pending_count new + 1

pub done_so : (old mid after_ new : Core) (n line : ℕ) (rest : ℕ) → AreOut old → n < old.size.nodes → line < old.size.lines → Read old mid n line
    → Performs_one mid after_ n line → rest ≤ 4 * rank after_ → KeepsPending after_ new → Done old new rest
done_so old mid after_ new n line rest out lt inside read one few rests =
    let none = none_left old out in
    let was = ap entry_rank (out line n) in
    let ranked = rank_shift old mid n line (Head None read.contents) lt inside read.shift in
    let same = one.rank in
    let kept = pending_same old mid (record { size = read.shift.size; pending = read.shift.pending }) in
    let pending = pending_same after_ new rests in
    let less = one.pending in
    record { few = omega arith; pending = omega arith }

-- ---- the whole

-- so far
pub record Worked (old new : Core) (count : ℕ) : Type 0 where
  pub leads : Leads settles old new count
  pub drained : IsDrained new
  pub out : AreOut new
  pub lines : count + 9 * pending_count new ≤ 11 * (old.size.nodes * old.size.lines) + 9 * pending_count old
  pub slots : count + 9 * pending_count new ≤ 11 * (old.size.nodes * old.size.slots) + 9 * pending_count old

pub worked_first : (old mid new : Core) (a b : ℕ) → IsReached old → IsReached mid → Leads brings_on old mid a → a ≡ weight old → Leads exchanges mid new b
    → b ≤ 4 * rank mid → KeepsPending mid new → IsDrained new → AreOut new → Worked old new (a + b)
worked_first old mid new a b reached next drains weighs_ empties few rests none out =
    let kept = drained_kept old mid a reached drains in
    let first = light old (reachable old reached) in
    let then_ = few_rounds mid next in
    let same = pending_same old mid kept in
    let pending = pending_same mid new rests in
    let nodes : mid.size.nodes ≡ old.size.nodes = ap (λ (s : Size). s.nodes) kept.size in
    let by_lines : mid.size.nodes * mid.size.lines ≡ old.size.nodes * old.size.lines = ap (λ (s : Size). s.nodes * s.lines) kept.size in
    let by_slots : mid.size.nodes * mid.size.slots ≡ old.size.nodes * old.size.slots = ap (λ (s : Size). s.nodes * s.slots) kept.size in
    let first_lines = first.lines in
    let first_slots = first.slots in
    let then_lines = then_.lines in
    let then_slots = then_.slots in
    record {
      leads = leads_join settles old mid new a b (moves_settle old mid a drains) (exchanges_settle mid new b empties);
      drained = none;
      out = out;
      lines = omega arith;
      slots = omega arith;
    }

pub worked_more : (old mid new : Core) (count k : ℕ) → Worked old mid count → Leads settles mid new k → k ≤ 9 → pending_count mid ≡ pending_count new + 1
    → IsDrained new → AreOut new → Worked old new (count + k)
worked_more old mid new count k so leads few pending none out = grind (arith, leads_join, drained)

-- small numbers
pub few_pending : (core : Core) → IsReached core → pending_count core ≤ 1024
few_pending core reached =
    let well = reached_well core reached in
    let nodes = reached.size.extent.few_nodes in
    let lines = reached.size.extent.few_lines in
    let each = sum_less (λ n. count_by is_some (node_at core n).pending) core.size.lines core.size.nodes (λ n below. (
    let fits = (well.each_part n (omega arith)).fits in
    let all = (well.each_part n (omega arith)).each in
    let long = fits.pending in
    let less = count_by-le-length is_some (node_at core n).pending in
    omega arith)) in
    let product = mul-le-mul_left core.size.nodes lines in
    omega arith

pub few_worked : (old new : Core) (count : ℕ) → IsReached old → Worked old new count → count ≤ 20480
few_worked old new count reached so = grind (arith, few_pending, mul-le-mul_left)

-- a line of a node where nothing is pending
none_pending : (core : Core) (n line : ℕ) → IsReached core → ((m k : ℕ) → m < core.size.nodes → k < core.size.lines → pending_on (node_at core m) k ≡ None)
    → pending_on (node_at core n) line ≡ None
none_pending core n line reached none = grind (arith, reached_well, cases_lt, get_or_past)

-- at rest
pub settled_so : (core : Core) → IsReached core → IsDrained core → AreOut core
    → ((m k : ℕ) → m < core.size.nodes → k < core.size.lines → pending_on (node_at core m) k ≡ None) → IsSettled core
settled_so core reached none out pending = record {
  drained = none;
  rest = λ n. record { none_pending = λ line. none_pending core n line reached pending; none_held = λ line. ap is_out (out line n) };
  homes = λ line inside. home_alone core line (quiet core line reached none inside) (λ m. out line m);
}

pub within_so : (old new : Core) (count : ℕ) → Worked old new count → IsWithin old count
within_so old new count so = grind arith

-- ---- one operation before all others

-- an event that is enabled leads on
pub none_made : (next : Option Core) → next ≡ None → IsSome next → ⊥
none_made None is some = cc
none_made (Some core) is some = cc

-- all lines are at home, and the operation is still pending
pub record IsHomeFor (old home : Core) (n line : ℕ) : Type 0 where
  pub below : n < home.size.nodes
  pub inside : line < home.size.lines
  pub asks : IsSome (node_asking (node_at home n) line kind.Mread)
  pub pending : IsSome (pending_on (node_at home n) line)

pub home_for : (old mid home : Core) (n line a : ℕ) → IsReached old → IsReached home → Leads brings_on old mid a → KeepsPending mid home → AreOut home
    → n < old.size.nodes → line < old.size.lines → IsSome (pending_on (node_at old n) line) → IsHomeFor old home n line
home_for old mid home n line a reached then_ drains rests out lt in_ some =
    let kept = drained_kept old mid a reached drains in
    let size : home.size ≡ old.size = rests.size ∙ kept.size in
    let below : n < home.size.nodes = subst (λ (s : Size). n < s.nodes) (sym size) lt in
    let inside : line < home.size.lines = subst (λ (s : Size). line < s.lines) (sym size) in_ in record {
      below = below;
      inside = inside;
      asks = can_read home n line then_ out below inside;
      pending = subst (λ (ps : List (Option Pending)). IsSome (slice_index_or ps line None)) (sym (rests.pending n ∙ kept.pending n)) some;
    }

-- the line is read, and the operation is performed
pub performed_next : (old mid home read new : Core) (n line a b : ℕ) (entry : Entry) → IsReached old → Leads brings_on old mid a → Worked old home (a + b)
    → Leads exchanges mid home b → KeepsPending mid home → Leads exchanges home read 4 → stepping read (event.Perform n line) ≡ Some new
    → IsLogged (node_at read n) (node_at new n) line entry → IsPerformedNext old new n line entry
performed_next old mid home read new n line a b entry reached drains worked empties rests reads steps logged =
    let drained_pending = pending_same old mid (drained_kept old mid a reached drains) in
    let home_pending = pending_same mid home rests in
    let lines = worked.lines in
    let slots = worked.slots in record {
      before = read;
      count = a + b + 4;
      leads = leads_join exchanges old home read (a + b) 4 (leads_join exchanges old mid home a b (moves_exchange old mid a drains) empties) reads;
      lines = omega arith;
      slots = omega arith;
      performs = steps;
      logged = logged;
    }
