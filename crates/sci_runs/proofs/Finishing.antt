-- A run in a circle ends in time: its rounds are turns between which operations are issued and performed, few of them; and where nothing
-- changes in 1,253 windows, nothing is pending, so that each operation has its entry.
use Rattle.std.proofs.Common.{◌≡◌, ◌≢◌, ◌≤◌, ◌<◌, ◌+◌, ◌-◌, ◌*◌, ◌==◌, ◌⊎◌, ℕ, zero, suc, Bool, true, false, arith, cond, if◌then◌else◌, List, [], ◌∷◌, ◌++◌}
use Rattle.std.proofs.Common.{length, map, All}
use Rattle.std.proofs.Common.{Option, Some, None, Ok, refl, sym, ap, subst, ◌∙◌, inl, inr}
use Rattle.std.proofs.Math.Nat.{suc-mul}
use Rattle.std.proofs.lemmas.{Bool.{cases_eq, cases_lt, eq-eqb, ne_eqb}, List.{append_assoc, append_cancel_left, length_push}}
use Rattle.std.proofs.lemmas.{List.{Sums.{sum_by-cons}}, Option.{slice_get_within}}
use Rattle.std.specs.{Prelude.{IsSome, count_by, get_or, slice_index_or}, List.{AllByRecursion, Contains}}
use Rattle.sci_history.specs.{declared.entry.Entry.{Entry}, Seen.{IsAmong}}
use Rattle.sci_words.specs.declared.{event.Event.{Event}, operation.Op.{Op}}
use Rattle.sci_text.specs.{Script.{IsScript, ScriptValue, operations_of}}
use Rattle.sci_core.specs.{Core.{Core, node_at, node_of, stepping}, Node.{NodeOf, lines_of, node_performing, pending_on, performing_pending}}
use Rattle.sci_core.specs.{declared.{pending.Pending.{Pending}, submit.SubmitFault.{SubmitFault}}, Obstacles.{submit_fault}, Reached.{IsReached}, Size.{Size}}
use Rattle.sci_core.proofs.WellFormed.WellFormedSteps.{reached_well, size_either}
use Rattle.sci_policy.specs.{Deeds.{Deed, DoesBy, Issues, Performs, Turns}, Policy.{PolicyOf, opening_policy}}
use Rattle.sci_locked.specs.Lent.{KeepsRoom}
use Rattle.sci_turn.specs.{Posts.{post_at}, Whole.{IsWholeTurn}}
use Rattle.sci_fair.specs.{Between.{AreShort}, Lanes.{IsWork}, Later.{IsLaterTurn, NothingPends}, Rank.{CannotPerform}}
use Rattle.sci_fair.specs.{Steady.{AreTurns, HasWindows, IsTurnAlone, Working, WorksByTurns}, Steps.{most_changes}}
use Rattle.sci_fair.proofs.{Sums.{sum_least, sum_less, sum_to}, Stretches.{Advances, Changes, Tries, has_still}, Works.{turn_works, work_good}}
use Rattle.sci_fair.proofs.{Descents.{turns_join}, Standstill.{steady_none}, SteadyTurns.{turned_alone}, Suits.{cannot_by}}
use Rattle.sci_drive.specs.{Calls.{Call, IsOpen, reports}, Driving.{DriverOf, IsAnswered, IsDriven}, ScriptLogs.{size_for}}
use Rattle.sci_drive.specs.Rounds.{AllSubmitted, IsHeldBack, LineIsTaken, NoRoom, NoneNow, NotAllowed, OneMore, Refused, Submits, performed}
use Rattle.sci_runs.specs.{declared.order.Order.{Order}, Deeds.{IsDeed, IsTurnDone, Standing, post_on, standing}}
use Rattle.sci_runs.specs.Played.{AwaitsEntries, IsRound, Moment, Played, course_at, driver_at, policy_at}
use Rattle.sci_runs.specs.Turns.{next_node, order_after, turns_in}
use Rattle.sci_runs.proofs.Ending.{Stands, no_driver, played_order, played_stands, round_stands, within_node}
use Rattle.sci_runs.proofs.Circles.{IsCircle, circle_after, circle_has, turns_both}
use Rattle.sci_runs.proofs.{InVain.{IsOnNode, IsStalled, never_forbids, stalled_answered, tried_none}, Stripping.{strip_whole}}
use Rattle.sci_words.specs.declared.event.Event.TheVariants as event

-- ---- a turn of a run, as one of a node that has the machine for itself

-- what policies remember, but for node n's
abbrev policies_but : ℕ → PolicyOf → (ℕ → PolicyOf) → ℕ → PolicyOf
policies_but n p others m = if m == n then p else others m

its_own : (n : ℕ) (p : PolicyOf) (others : ℕ → PolicyOf) → policies_but n p others n ≡ p
its_own n p others = ap (λ (b : Bool). if b then p else others n) (eq-eqb n n refl)

short_after : (old new : Core) → AreShort old → KeepsRoom old new → AreShort new
short_after old new short room place = grind (arith, cases_lt)

whole_alone : (n : ℕ) (before after : PolicyOf) (x y : Standing) (progress : _) → (did : IsTurnDone n before x.course after y.course progress)
    → IsWholeTurn before (post_at n x.course.core) after (post_at n y.course.core) progress
whole_alone n before after x y progress did =
    let own = did.so_far.own in
    let bare = strip_whole n x.course.events before after (post_on n x.course) (post_on n y.course) progress refl refl did.whole in
    let known : bare.knows ≡ y.course.events = (let both : Some y.course.events ≡ Some bare.knows = bare.known in cc) in
    let same : bare.more ≡ own.0 = append_cancel_left x.course.events bare.more own.0 (sym bare.grows ∙ (known ∙ own.1)) in
    bare.so (subst (AllByRecursion (λ e. node_of e ≡ n)) (sym same) own.2)

-- it leaves a machine that works by turns
turned_works : (n : ℕ) (x y : Standing) (progress : _) → n < x.course.core.size.nodes → WorksByTurns x.course.core
    → IsTurnDone n x.policy x.course y.policy y.course progress → WorksByTurns y.course.core
turned_works n x y progress some good did =
    let old : Working = record { core = x.course.core; policies = policies_but n x.policy (λ m. opening_policy) } in
    let new : Working = record { core = y.course.core; policies = policies_but n y.policy (λ m. opening_policy) } in
    let whole = whole_alone n x.policy y.policy x y progress did in
    turn_works n old new good (record {
      some = some;
      progress = progress;
      whole = subst (λ (p : PolicyOf). IsWholeTurn p (post_at n old.core) (new.policies n) (post_at n new.core) progress)
          (sym (its_own n x.policy (λ m. opening_policy)))
          (subst (λ (q : PolicyOf). IsWholeTurn x.policy (post_at n old.core) q (post_at n new.core) progress) (sym (its_own n y.policy (λ m. opening_policy)))
          whole);
      others = λ m apart. ap (λ (b : Bool). if b then y.policy else opening_policy) (ne_eqb m n apart)
          ∙ sym (ap (λ (b : Bool). if b then x.policy else opening_policy) (ne_eqb m n apart));
      short = short_after x.course.core y.course.core good.between.short did.room;
    })

record StillWorks (old new : Core) : Type 0 where
  good : WorksByTurns new
  size : new.size ≡ old.size

event_works : (old new : Core) (e : Event) → WorksByTurns old → IsWork e → stepping old e ≡ Some new → StillWorks old new
event_works old new e good work steps = record {
  good = work_good old new e good work steps;
  size = size_either {T = ℕ} {E = ℕ} (Ok 0) old new e good.reached steps (λ refused. (let clash : false ≡ true = refused in cc));
}

deed_works : (n : ℕ) (deed : Deed) (x y : Standing) → n < x.course.core.size.nodes → WorksByTurns x.course.core → IsDeed n deed x y
    → StillWorks x.course.core y.course.core
deed_works n (Issues op) x y some good did = event_works x.course.core y.course.core (event.Issue n op) good tt did.stepped
deed_works n (Performs line entry) x y some good did = event_works x.course.core y.course.core (event.Perform n line) good tt did.stepped
deed_works n (Turns progress) x y some good did = record {
  good = turned_works n x y progress some good did;
  size = did.so_far.turn.moved.same.size;
}

deeds_work : (n : ℕ) (deeds : List Deed) (x y : Standing) → n < x.course.core.size.nodes → WorksByTurns x.course.core → DoesBy (IsDeed n) deeds x y
    → StillWorks x.course.core y.course.core
deeds_work n [] x y some good did = record {
  good = subst (λ (s : Standing). WorksByTurns s.course.core) did good;
  size = ap (λ (s : Standing). s.course.core.size) (sym did);
}
deeds_work n (deed ∷ deeds) x y some good did =
    let one = deed_works n deed x did.0 some good did.1 in
    let rest = deeds_work n deeds did.0 y (subst (λ (z : Size). n < z.nodes) (sym one.size) some) one.good did.2 in
    record { good = rest.good; size = rest.size ∙ one.size }

-- ---- a round in which nothing is issued or performed

same_fault : (a b : NodeOf) (op : Op) → lines_of b ≡ lines_of a → b.pending ≡ a.pending → b.issued ≡ a.issued → b.limit ≡ a.limit
    → submit_fault b op ≡ submit_fault a op
same_fault a b op lines pending issued limit = rw (lines, pending, issued, limit) refl

-- what holds a driver back at a node does so at one with the same work
held_same : (driver : DriverOf) (a b : NodeOf) (calls : List Call) → ((op : Op) → submit_fault b op ≡ submit_fault a op) → IsHeldBack driver a calls
    → IsHeldBack driver b calls
held_same driver a b calls same (NoRoom full asked) = NoRoom full asked
held_same driver a b calls same (AllSubmitted all asked) = AllSubmitted all asked
held_same driver a b calls same (LineIsTaken op is taken asked) = LineIsTaken op is taken asked
held_same driver a b calls same (NotAllowed asked) = NotAllowed asked
held_same driver a b calls same (Refused op is fault asked) =
    Refused op is (subst (λ (o : Option SubmitFault). IsSome o) (sym (same op)) fault) asked

-- nothing is performed where each line of the driver was tried in vain
performs_nothing : (driver : DriverOf) (node now : NodeOf) (line : ℕ) (o : Option Pending) → IsDriven driver now → now.pending ≡ node.pending
    → pending_on node line ≡ o → ((l : ℕ) → Contains driver.pending l → node_performing node l ≡ None) → node_performing node line ≡ None
performs_nothing driver node now line None driven same is tried = ap (performing_pending node line) is
performs_nothing driver node now line (Some p) driven same is tried =
    let there : pending_on now line ≡ Some p = ap (λ (ps : List (Option Pending)). get_or ps line None) same ∙ is in
    tried line (driven.pending line p there).known

module _ (n : ℕ) (old new : Moment) (round : IsRound n old new) (d : DriverOf) where
  -- what a round in which nothing was submitted or performed is
  record IsTrying : Type 0 where
    held : IsHeldBack (driver_at old n d) (node_at old.core n) (round.goes d).worked.asked
    driver_is : (round.goes d).worked.driver ≡ driver_at old n d
    node_is : (round.goes d).worked.node ≡ node_at old.core n
    none : (round.goes d).worked.first ≡ []
    no_entry : (round.goes d).worked.entries ≡ []

  trying_deeds : IsTrying → DoesBy (IsDeed n) (Turns round.round.progress ∷ []) (standing (policy_at old n) (course_at old))
      (standing (policy_at new n) (course_at new))
  trying_deeds is =
      let goes = round.goes d in
      let worked = goes.worked in
      let all : DoesBy (IsDeed n) (worked.first ++ (map performed worked.entries ++ Turns round.round.progress ∷ []))
      (standing (policy_at old n) (course_at old))
      (standing (policy_at new n) (course_at new)) =
      subst (λ (deeds : List Deed). DoesBy (IsDeed n) deeds (standing (policy_at old n) (course_at old)) (standing (policy_at new n) (course_at new)))
      (goes.deeds_are ∙ (ap (λ (works : List Deed). works ++ Turns round.round.progress ∷ []) worked.deeds_are
      ∙ append_assoc worked.first (map performed worked.entries) (Turns round.round.progress ∷ []))) round.does in
      subst (λ (entries : List Entry). DoesBy (IsDeed n) (map performed entries ++ Turns round.round.progress ∷ []) (standing (policy_at old n) (course_at old))
      (standing (policy_at new n) (course_at new))) is.no_entry
      (subst (λ (deeds : List Deed). DoesBy (IsDeed n) (deeds ++ (map performed worked.entries ++ Turns round.round.progress ∷ []))
      (standing (policy_at old n) (course_at old)) (standing (policy_at new n) (course_at new))) is.none all)

  trying_turn : IsTrying → IsTurnDone n (policy_at old n) (course_at old) (policy_at new n) (course_at new) round.round.progress
  trying_turn is =
      let did = trying_deeds is in
      subst (λ (s : Standing). IsTurnDone n (policy_at old n) (course_at old) s.policy s.course round.round.progress) did.2 did.1

  trying_node : IsTrying → (round.goes d).node ≡ node_at old.core n
  trying_node is = grind (arith, round)

  trying_cannot : IsTrying → IsReached old.core → CannotPerform (node_at old.core n)
  trying_cannot is reached =
      let goes = round.goes d in
      let node = node_at old.core n in
      let here = trying_node is in
      let same : goes.worked.node ≡ goes.node = is.node_is ∙ sym here in
      cannot_by n node (record { core = old.core; reached = reached; some = round.some; here = refl }) (λ line.
      performs_nothing (driver_at new n d) node (node_at new.core n) line (pending_on node line) (round.driven d)
      (goes.same.pending ∙ ap (λ (m : NodeOf). m.pending) here) refl
      (λ l known. subst (λ (m : NodeOf). node_performing m l ≡ None) here (tried_none l goes.worked.node goes.node same (goes.worked.tried l known))))

  trying_alone : IsTrying → WorksByTurns old.core
      → IsTurnAlone n (record { core = old.core; policies = policy_at old }) (record { core = new.core; policies = policy_at new })
  trying_alone is good =
      let did = trying_turn is in
      record {
        some = round.some;
        progress = round.round.progress;
        whole = whole_alone n (policy_at old n) (policy_at new n) (standing (policy_at old n) (course_at old)) (standing (policy_at new n) (course_at new))
            round.round.progress did;
        others = λ m apart. round.policies m opening_policy apart;
        short = short_after old.core new.core good.between.short did.room;
      }

  trying_later : IsTrying → WorksByTurns old.core → IsLaterTurn 0 n (record { core = old.core; policies = policy_at old })
      (record { core = new.core; policies = policy_at new })
  trying_later is good = record {
    works = [];
    mid = old.core;
    worked = refl;
    many = refl;
    cannot = trying_cannot is good.reached;
    turn = trying_alone is good;
  }

  -- the driver was held back
  trying_stalled : IsTrying → lines_of (node_at new.core n) ≡ lines_of (node_at old.core n) → IsStalled (driver_at new n d) (node_at new.core n)
  trying_stalled is lines =
      let goes = round.goes d in
      let worked = goes.worked in
      let here = trying_node is in
      let fault = λ (op : Op). same_fault (node_at old.core n) (node_at new.core n) op lines (goes.same.pending ∙ ap (λ (m : NodeOf). m.pending) here)
      (goes.same.issued ∙ ap (λ (m : NodeOf). m.issued) here) (goes.same.limit ∙ ap (λ (m : NodeOf). m.limit) here) in
      record {
        was = driver_at old n d;
        calls = worked.asked;
        held = held_same (driver_at old n d) (node_at old.core n) (node_at new.core n) worked.asked fault is.held;
        allowed = λ index asked.
            never_forbids worked.asked (reports worked.entries (driver_at old n d).was_done (driver_at new n d).was_done) index
            (subst (All IsOpen) goes.calls_are goes.heard.heard) asked;
        script = worked.left.script ∙ ap (λ (x : DriverOf). x.script) is.driver_is;
        next = worked.left.next ∙ ap (λ (x : DriverOf). x.next) is.driver_is;
        pending =
            let same : length worked.driver.pending ≡ length (driver_at old n d).pending = ap (λ (x : DriverOf). length x.pending) is.driver_is in
            let fewer = worked.left.fewer in
            let none : length worked.entries ≡ 0 = ap length is.no_entry in
            omega (arith, same, fewer, none);
        driven = round.driven d;
      }

-- ---- windows

-- each node is among the turns of some windows
among_before : (n : ℕ) (xs ys : List ℕ) → IsAmong n xs → IsAmong n (xs ++ ys)
among_before n [] ys among = elim among [ ]
among_before n (x ∷ xs) ys (inl same) = inl same
among_before n (x ∷ xs) ys (inr among) = inr (among_before n xs ys among)

one_among : (nodes : ℕ) (order : List ℕ) (count : ℕ) → HasWindows nodes count order → (n : ℕ) → n < nodes → 0 < count → IsAmong n order
one_among nodes order zero windows n some none = absurd (omega (arith, none))
one_among nodes order (suc count) windows n some none =
    subst (IsAmong n) (sym windows.2) (among_before n windows.0 windows.1 (windows.3 n some))

count_among : (n : ℕ) (xs : List ℕ) → 1 ≤ count_by (λ m. m == n) xs → IsAmong n xs
count_among n [] some = absurd (omega (arith, some))
count_among n (x ∷ xs) some = elim (cases_eq x n) [
  | inl same ↦ inl (sym same)
  | inr other ↦
      let parts = sum_by-cons (λ (m : ℕ). cond {A = ℕ} (m == n) 1 0) x xs in
      let none : cond {A = ℕ} (x == n) 1 0 ≡ 0 = ap (λ (b : Bool). cond {A = ℕ} b 1 0) (ne_eqb x n other) in
      inr (count_among n xs (omega (arith, some, parts, none)))
]

pub circle_windows : (nodes count : ℕ) (order : Order) → IsCircle order → HasWindows nodes count (turns_in nodes (count * nodes) order)
circle_windows nodes zero order is = tt
circle_windows nodes (suc count) order is =
    let more = suc-mul count nodes in
    let next = order_after nodes nodes order in (
      turns_in nodes nodes order,
      turns_in nodes (count * nodes) next,
      turns_both nodes (count * nodes) nodes (suc count * nodes) order (omega (arith, more)),
      λ n some. count_among n (turns_in nodes nodes order) (circle_has nodes n order some is),
      circle_windows nodes count next (circle_after nodes nodes order is),
    )

-- an element of a list is the same, whatever stands for one that isn't there
get_or_any : {A : Type 0} (xs : List A) (k : ℕ) (d e : A) → k < length xs → slice_index_or xs k d ≡ slice_index_or xs k e
get_or_any [] k d e lt = absurd (omega (arith, lt))
get_or_any (x ∷ xs) zero d e lt = refl
get_or_any (x ∷ xs) (suc k) d e lt = get_or_any xs k d e (omega (arith, lt))

-- ---- what is left to do

-- what is left of a node's operations: two for each that isn't submitted, and one for each that is pending
abbrev pub todo : ℕ → DriverOf → ℕ
todo all driver = 2 * (all - driver.next) + length driver.pending

module _ (script : ScriptValue) (good : IsScript script) (limit : ℕ)
    (room : (node : ℕ) → node < script.nodes → length (operations_of node script.operations) ≤ limit) where
  abbrev pub at : Moment → Working
  at m = record { core = m.core; policies = policy_at m }

  abbrev pub own_todo : Moment → ℕ → ℕ
  own_todo m n = todo (length (operations_of n script.operations)) (driver_at m n no_driver)

  abbrev pub left : Moment → ℕ
  left m = sum_to (own_todo m) script.nodes

  -- a round of a run that goes on
  pub record Goes_on (n : ℕ) (a b : Moment) : Type 0 where
    stands : Stands script limit a
    works : WorksByTurns a.core
    awaits : AwaitsEntries a
    round : IsRound n a b

  nodes_are : (a : Moment) → Stands script limit a → a.core.size.nodes ≡ script.nodes
  nodes_are a stands = ap (λ (z : Size). z.nodes) stands.size

  -- a round does some of it, or tries
  data Rounds_do (n : ℕ) (a b : Moment) (round : IsRound n a b) : Type 0 where
    Does_some : own_todo b n < own_todo a n → Rounds_do n a b round
    Only_tries : IsTrying n a b round no_driver → own_todo b n ≡ own_todo a n → Rounds_do n a b round

  does_by : (n : ℕ) (a b : Moment) → Stands script limit a → (round : IsRound n a b) → n < script.nodes
      → Submits (driver_at a n no_driver) (round.goes no_driver).worked.driver (node_at a.core n) (round.goes no_driver).worked.node
      (round.goes no_driver).worked.asked (round.goes no_driver).worked.first → (entries : List Entry) → (round.goes no_driver).worked.entries ≡ entries
      → Rounds_do n a b round
  does_by n a b stands round some (OneMore op full next is asked issued deeds) entries has =
      let old = driver_at a n no_driver in
      let new = driver_at b n no_driver in
      let worked = (round.goes no_driver).worked in
      let within = slice_get_within old.script old.next op next in
      let own : length old.script ≡ length (operations_of n script.operations) = ap length (stands.scripts n no_driver some) in
      let more : length worked.driver.pending ≡ length old.pending + 1 = ap (λ (x : DriverOf). length x.pending) is ∙ length_push old.pending op.line in
      let later : new.next ≡ old.next + 1 = worked.left.next ∙ ap (λ (x : DriverOf). x.next) is in
      let fewer = worked.left.fewer in
      Does_some (omega (arith, within, own, more, later, fewer))
  does_by n a b stands round some (NoneNow held is same none) (entry ∷ entries) has =
      let old = driver_at a n no_driver in
      let new = driver_at b n no_driver in
      let worked = (round.goes no_driver).worked in
      let pends : length worked.driver.pending ≡ length old.pending = ap (λ (x : DriverOf). length x.pending) is in
      let later : new.next ≡ old.next = worked.left.next ∙ ap (λ (x : DriverOf). x.next) is in
      let fewer = worked.left.fewer in
      let some_entry : length worked.entries ≡ suc (length entries) = ap length has in
      Does_some (omega (arith, pends, later, fewer, some_entry))
  does_by n a b stands round some (NoneNow held is same none) [] has =
      let old = driver_at a n no_driver in
      let new = driver_at b n no_driver in
      let worked = (round.goes no_driver).worked in
      let pends : length worked.driver.pending ≡ length old.pending = ap (λ (x : DriverOf). length x.pending) is in
      let later : new.next ≡ old.next = worked.left.next ∙ ap (λ (x : DriverOf). x.next) is in
      let fewer = worked.left.fewer in
      let no_entry : length worked.entries ≡ 0 = ap length has in
      Only_tries (record { held = held; driver_is = is; node_is = same; none = none; no_entry = has }) (omega (arith, pends, later, fewer, no_entry))

  round_does : (n : ℕ) (a b : Moment) → Stands script limit a → (round : IsRound n a b) → n < script.nodes → Rounds_do n a b round
  round_does n a b stands round some =
      does_by n a b stands round some (round.goes no_driver).worked.submits (round.goes no_driver).worked.entries refl

  -- ---- what a round leaves of it

  others_todo : (n m : ℕ) (a b : Moment) → IsRound n a b → m ≢ n → own_todo b m ≡ own_todo a m
  others_todo n m a b round apart = ap (todo (length (operations_of m script.operations))) (round.drivers m no_driver apart)

  left_less : (n : ℕ) (a b : Moment) → IsRound n a b → n < script.nodes → own_todo b n < own_todo a n → left b < left a
  left_less n a b round some less = sum_less (own_todo b) (own_todo a) script.nodes n (λ m _. elim (cases_eq m n) [
    | inl same ↦ subst (λ (k : ℕ). own_todo b k ≤ own_todo a k) (sym same) (omega (arith, less))
    | inr apart ↦ (let is = others_todo n m a b round apart in omega (arith, is))
  ]) some less

  left_least : (n : ℕ) (a b : Moment) → IsRound n a b → own_todo b n ≤ own_todo a n → left b ≤ left a
  left_least n a b round least = grind (arith, sum_least, cases_eq, others_todo)

  some_node : (n : ℕ) (a b : Moment) → Goes_on n a b → n < script.nodes
  some_node n a b go = (let some = go.round.some in let same = nodes_are a go.stands in omega (arith, some, same))

  round_works : (n : ℕ) (a b : Moment) → Goes_on n a b → StillWorks a.core b.core
  round_works n a b go =
      deeds_work n go.round.deeds (standing (policy_at a n) (course_at a)) (standing (policy_at b n) (course_at b)) go.round.some go.works go.round.does

  advances : (n : ℕ) (a b : Moment) → WorksByTurns a.core → Goes_on n a b → Advances at left n a b
  advances n a b works go =
      let some = some_node n a b go in
      elim (round_does n a b go.stands go.round some) [
        | Does_some less ↦ (let still = round_works n a b go in Changes still.good still.size (left_less n a b go.round some less))
        | Only_tries is same ↦ Tries (trying_later n a b go.round no_driver is works) (left_least n a b go.round (omega (arith, same)))
      ]

  left_falls : (n : ℕ) (a b : Moment) → Goes_on n a b → left b ≤ left a
  left_falls n a b go =
      let some = some_node n a b go in
      elim (round_does n a b go.stands go.round some) [
        | Does_some less ↦ (let falls = left_less n a b go.round some less in omega (arith, falls))
        | Only_tries is same ↦ left_least n a b go.round (omega (arith, same))
      ]

  left_along : (order : List ℕ) (a b : Moment) → AreTurns Goes_on order a b → left b ≤ left a
  left_along [] a b turns = (let same = ap left turns in omega (arith, same))
  left_along (i ∷ order) a b turns =
      (let first = left_falls i a turns.0 turns.1 in let rest = left_along order turns.0 b turns.2 in omega (arith, first, rest))

  -- ---- where nothing is left to do, and nothing is pending

  trying_rests : (n : ℕ) (a b : Moment) (go : Goes_on n a b) → IsTrying n a b go.round no_driver → NothingPends a.core → NothingPends b.core
  trying_rests n a b go is rests m line some =
      let ended = (turned_alone n (at a) (at b) go.works (trying_cannot n a b go.round no_driver is go.stands.reached)
      (trying_alone n a b go.round no_driver is go.works)).ended in
      let below : m < a.core.size.nodes = subst (λ (z : Size). m < z.nodes) ended.size some in
      elim (cases_eq m n) [
        | inl same ↦ subst (λ (k : ℕ). pending_on (node_at b.core k) line ≡ None) (sym same)
            (ended.work line ∙ rests n line (subst (λ (k : ℕ). k < a.core.size.nodes) same below))
        | inr apart ↦ ap (λ (part : NodeOf). pending_on part line) (ended.others m apart) ∙ rests m line below
      ]

  trying_answered : (n : ℕ) (a b : Moment) (go : Goes_on n a b) → IsTrying n a b go.round no_driver → NothingPends b.core → IsAnswered (driver_at b n no_driver)
  trying_answered n a b go is rests =
      let some = some_node n a b go in
      let after = round_stands script limit n a b go.stands go.round in
      let there : n < b.core.size.nodes = (let same = nodes_are b after in omega (arith, some, same)) in
      let part = (reached_well b.core after.reached).each_part n there in
      let was = (reached_well a.core go.stands.reached).each_part n go.round.some in
      let node = node_at b.core n in
      let lines : lines_of node ≡ script.lines = part.each ∙ ap (λ (z : Size). z.lines) after.size in
      let same : lines_of node ≡ lines_of (node_at a.core n) = lines ∙ sym (was.each ∙ ap (λ (z : Size). z.lines) go.stands.size) in
      let own : (driver_at b n no_driver).script ≡ operations_of n script.operations = after.scripts n no_driver some in
      stalled_answered (driver_at b n no_driver) node (trying_stalled n a b go.round no_driver is same) (λ line. rests n line there)
      (subst (All (IsOnNode node)) (sym own) (within_node script good limit room n node lines))
      (let long : length (driver_at b n no_driver).script ≡ length (operations_of n script.operations) = ap length own in
      let few = room n some in
      let most : node.limit ≡ limit = part.most ∙ ap (λ (z : Size). z.limit) after.size in
      omega (arith, long, few, most))

  record Stopped_at (order : List ℕ) (a b : Moment) : Type 0 where
    rests : NothingPends b.core
    answered : (n : ℕ) → IsAmong n order ⊎ IsAnswered (driver_at a n no_driver) → IsAnswered (driver_at b n no_driver)

  stops : (order : List ℕ) (a b : Moment) → AreTurns Goes_on order a b → left b ≡ left a → NothingPends a.core → Stopped_at order a b
  stops [] a b turns same rests = record {
    rests = subst (λ (m : Moment). NothingPends m.core) turns rests;
    answered = λ n either. elim either [
      | inl among ↦ elim among [ ]
      | inr is ↦ subst (λ (m : Moment). IsAnswered (driver_at m n no_driver)) turns is
    ];
  }
  stops (i ∷ order) a b turns same rests =
      let mid = turns.0 in
      let go = turns.1 in
      let some = some_node i a mid go in
      let first = left_falls i a mid go in
      let last = left_along order mid b turns.2 in
      elim (round_does i a mid go.stands go.round some) [
        | Does_some less ↦ (let falls = left_less i a mid go.round some less in absurd (omega (arith, falls, last, same)))
        | Only_tries is equal ↦
            let rests_mid = trying_rests i a mid go is rests in
            let done = trying_answered i a mid go is rests_mid in
            let rest = stops order mid b turns.2 (omega (arith, first, last, same)) rests_mid in
            record {
              rests = rest.rests;
              answered = λ n either. elim (cases_eq n i) [
                | inl here ↦ rest.answered n (inr (subst (λ (k : ℕ). IsAnswered (driver_at mid k no_driver)) (sym here) done))
                | inr apart ↦ elim either [
                  | inr was ↦ rest.answered n (inr (subst IsAnswered (sym (go.round.drivers n no_driver apart)) was))
                  | inl among ↦ elim among [
                    | inl here ↦ absurd (apart here)
                    | inr later ↦ rest.answered n (inl later)
                  ]
                ]
              ];
            }
      ]

  -- ---- a run that goes on

  works_along : (order : List ℕ) (a b : Moment) → AreTurns Goes_on order a b → WorksByTurns a.core → WorksByTurns b.core
  works_along [] a b turns works = subst (λ (m : Moment). WorksByTurns m.core) turns works
  works_along (i ∷ order) a b turns works = works_along order turns.0 b turns.2 (round_works i a turns.0 turns.1).good

  pub played_turns : (rounds : ℕ) (order later : Order) (old new : Moment) → Stands script limit old → WorksByTurns old.core
      → Played script.nodes rounds order old later new → AreTurns Goes_on (turns_in script.nodes rounds order) old new
  played_turns zero order later old new stands works played = played.1
  played_turns (suc rounds) order later old new stands works played =
      let nodes = script.nodes in
      let mid = played.0 in
      let before = played_turns rounds order played.1 old mid stands works played.2 in
      let n = next_node nodes (order_after nodes rounds order) in
      let round : IsRound n mid new =
      subst (λ (o : Order). IsRound (next_node nodes o) mid new) (played_order nodes rounds order played.1 old mid played.2) played.5 in
      let go : Goes_on n mid new = record {
        stands = played_stands script limit rounds order played.1 old mid stands played.2;
        works = works_along (turns_in nodes rounds order) old mid before works;
        awaits = played.3;
        round = round;
      } in
      turns_join Goes_on (turns_in nodes rounds order) (n ∷ []) old mid new before (new, go, refl)

  stands_along : (order : List ℕ) (a b : Moment) → AreTurns Goes_on order a b → Stands script limit a → Stands script limit b
  stands_along [] a b turns stands = subst (Stands script limit) turns stands
  stands_along (i ∷ order) a b turns stands =
      stands_along order turns.0 b turns.2 (round_stands script limit i a turns.0 turns.1.stands turns.1.round)

  still_awaits : (order : List ℕ) (a b : Moment) → AreTurns Goes_on order a b → AwaitsEntries b → AwaitsEntries a
  still_awaits [] a b turns awaits = subst AwaitsEntries (sym turns) awaits
  still_awaits (i ∷ order) a b turns awaits = turns.1.awaits

  -- among this many windows is a stretch in which nothing is left to do
  pub ends_before : (order : List ℕ) (first last : Moment) → Stands script limit first → WorksByTurns first.core → AreTurns Goes_on order first last
      → HasWindows script.nodes ((left first + 1) * (most_changes (size_for script) + 1) * 1253) order → AwaitsEntries last → ⊥
  ends_before order first last stands works turns windows awaits =
      let size = first.core.size in
      let nodes = nodes_are first stands in
      let all : HasWindows size.nodes ((left first + 1) * (most_changes size + 1) * 1253) order =
      subst (λ (z : Size). HasWindows z.nodes ((left first + 1) * (most_changes z + 1) * 1253) order) (sym stands.size) windows in
      let still = has_still 1253 steady_none at left Goes_on advances order first last works turns all in
      let end = still.end in
      let stopped = stops still.still still.begin end still.turns still.kept still.rests in
      still_awaits still.after end last still.later awaits (λ n d below. (
      let there : Stands script limit end = stands_along still.still still.begin end still.turns
      (stands_along still.before first still.begin still.leads stands) in
      let some : n < script.nodes = (let many = there.many in omega (arith, below, many)) in
      let among = one_among size.nodes still.still 1253 still.windows n (let same = nodes in omega (arith, some, same)) (omega arith) in
      subst IsAnswered (get_or_any end.drivers n no_driver d below) (stopped.answered n (inl among))
      ))
