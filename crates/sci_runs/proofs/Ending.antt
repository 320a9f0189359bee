-- While some operation has no entry, a stretch in which each node takes 64 turns makes an event. For else all turns of the stretch
-- are in vain, and nothing is pending; then no driver is held back but at the end of its script, and each operation has its entry.
-- So a run that isn't done has made an event in each stretch.
use Rattle.std.proofs.Common.{◌≡◌, ◌≢◌, ◌≤◌, ◌<◌, ◌+◌, ◌-◌, ◌*◌, ◌==◌, ◌↔◌, ℕ, zero, suc, Bool, true, false, arith, cond, List, [], ◌∷◌, ◌++◌, length, All}
use Rattle.std.proofs.Common.{Option, Some, None, Ok, refl, sym, ap, subst, ◌∙◌, inl, inr}
use Rattle.std.proofs.Math.Nat.{le-mul_of_pos_right, mul-le-mul_left, mul-suc}
use Rattle.std.proofs.lemmas.{Bool.{cases_eq, cases_lt, ne_eqb}, List.{append_cancel_left, length_push}}
use Rattle.std.proofs.lemmas.List.{Elements.{All-filter, All-map, All-weaker}, Sums.{count_by-le-length, sum_by-append}}
use Rattle.std.specs.{Prelude.{count_by}, List.{AllByRecursion}}
use Rattle.sci_words.specs.declared.{event.Event.{Event}, limits.TheConstants.{MAX_EVENTS}, operation.Op.{Op}}
use Rattle.sci_text.specs.{Schedule.{IsSchedule, ScheduleValue}, Script.{IsScript, IsWithin, ScriptValue, operations_of}}
use Rattle.sci_core.specs.{Core.{Core, node_at, node_of, stepping}, Node.{NodeOf, lines_of, pending_on}, Reached.{IsReached}}
use Rattle.sci_core.specs.Size.{IsMachineSize, Size}
use Rattle.sci_core.proofs.{Tidy.TidyRuns.{run_reached}, WellFormed.WellFormedSteps.{reached_stepping, reached_well, size_either}}
use Rattle.sci_policy.specs.{Deeds.{Deed, DoesBy, Issues, Performs, Turns}, Policy.{PolicyOf}}
use Rattle.sci_turn.specs.Moves.{Leads}
use Rattle.sci_fair.specs.{Lanes.{AreOpen, IsWork}, Vain.{AreInVain, IsInVain}}
use Rattle.sci_fair.proofs.{Opens.{opening_open, turn_open, work_open}, Vain.{vain_has_none}}
use Rattle.sci_drive.specs.{declared.driver.Issuing.{Issuing, TheVariants.{Ahead}}, Calls.{Call}, Driving.{DriverOf, IsAnswered, opening_driver}}
use Rattle.sci_drive.specs.{Rounds.{NoneNow, OneMore, Submits}, ScriptLogs.{size_for}}
use Rattle.sci_runs.specs.{declared.order.Order.{Order}, Deeds.{IsDeed, Standing, Works, standing}, Recorded.{with_limit}}
use Rattle.sci_runs.specs.Played.{AwaitsEntries, Begins, IsPlayed, IsRound, Moment, Played, course_at, driver_at, policy_at}
use Rattle.sci_runs.specs.Turns.{GivesTurns, circle_turns, first_order, next_node, next_order, order_after, turns_in}
use Rattle.sci_runs.proofs.Circles.{circle_gives}
use Rattle.sci_runs.proofs.InVain.{IsOnNode, IsStalled, core_stays, deeds_grow, is_stalled, is_vain, stalled_answered}
use Rattle.sci_words.specs.declared.event.Event.TheVariants as event

-- ---- what deeds keep of the machine

record HasGone (old new : Core) : Type 0 where
  reached : IsReached new
  opened : AreOpen new
  size : new.size ≡ old.size

gone_by : (old new : Core) (e : Event) → IsReached old → stepping old e ≡ Some new → AreOpen new → HasGone old new
gone_by old new e reached steps opened = record {
  reached = reached_stepping old new e reached steps;
  opened = opened;
  size = size_either {T = ℕ} {E = ℕ} (Ok 0) old new e reached steps (λ refused. (let clash : false ≡ true = refused in cc));
}

gone_on : (old mid new : Core) → HasGone old mid → HasGone mid new → HasGone old new
gone_on old mid new one two = record { reached = two.reached; opened = two.opened; size = two.size ∙ one.size }

leads_on : (n : ℕ) (more : List Event) (before after : PolicyOf) (old new : Core) → n < old.size.nodes → IsReached old → AreOpen old
    → AllByRecursion (λ e. node_of e ≡ n) more → Leads n before old more after new → HasGone old new
leads_on n [] before after old new some reached opened own leads =
    subst (HasGone old) leads.1 (record { reached = reached; opened = opened; size = refl })
leads_on n (e ∷ more) before after old new some reached opened own leads = elim leads.3 [
  | inl is ↦
      let one = gone_by old leads.0 e reached leads.2 (turn_open old leads.0 before leads.1 n e reached opened some is leads.2) in
      let here : n < leads.0.size.nodes = subst (λ (s : Size). n < s.nodes) (sym one.size) some in
      gone_on old leads.0 new one (leads_on n more leads.1 after leads.0 new here one.reached one.opened own.1 leads.4)
  | inr other ↦ absurd (other.apart own.0)
]

works_on : (e : Event) (x y : Standing) → IsWork e → IsReached x.course.core → AreOpen x.course.core → Works e x y → HasGone x.course.core y.course.core
works_on e x y work reached opened works =
    gone_by x.course.core y.course.core e reached works.stepped (work_open x.course.core y.course.core e reached opened work works.stepped)

deed_on : (n : ℕ) (deed : Deed) (x y : Standing) → n < x.course.core.size.nodes → IsReached x.course.core → AreOpen x.course.core → IsDeed n deed x y
    → HasGone x.course.core y.course.core
deed_on n (Issues op) x y some reached opened did = works_on (event.Issue n op) x y tt reached opened did
deed_on n (Performs line entry) x y some reached opened did = works_on (event.Perform n line) x y tt reached opened did
deed_on n (Turns progress) x y some reached opened did = grind (arith, append_cancel_left, leads_on)

deeds_on : (n : ℕ) (deeds : List Deed) (x y : Standing) → n < x.course.core.size.nodes → IsReached x.course.core → AreOpen x.course.core
    → DoesBy (IsDeed n) deeds x y → HasGone x.course.core y.course.core
deeds_on n [] x y some reached opened did =
    subst (λ (s : Standing). HasGone x.course.core s.course.core) did (record { reached = reached; opened = opened; size = refl })
deeds_on n (deed ∷ deeds) x y some reached opened did =
    let one = deed_on n deed x did.0 some reached opened did.1 in
    let here : n < did.0.course.core.size.nodes = subst (λ (s : Size). n < s.nodes) (sym one.size) some in
    gone_on x.course.core did.0.course.core y.course.core one (deeds_on n deeds did.0 y here one.reached one.opened did.2)

-- ---- what holds at each moment of a run

pub record Stands (script : ScriptValue) (limit : ℕ) (moment : Moment) : Type 0 where
  pub reached : IsReached moment.core
  pub opened : AreOpen moment.core
  pub size : moment.core.size ≡ with_limit limit (size_for script)
  pub many : length moment.drivers ≡ script.nodes
  pub scripts : (n : ℕ) (d : DriverOf) → n < script.nodes → (driver_at moment n d).script ≡ operations_of n script.operations

pub first_stands : (script : ScriptValue) (issuing : Issuing) (first : Moment) → IsScript script → (begins : Begins script issuing first)
    → Stands script begins.limit first
first_stands script issuing first good begins =
    let size = with_limit begins.limit (size_for script) in
    let sized : IsMachineSize size = record { extent = good.size; some_operation = begins.some; few_operations = begins.most } in
    record {
      reached = subst IsReached (sym begins.core) (run_reached size [] sized);
      opened = subst AreOpen (sym begins.core) (opening_open size);
      size = ap (λ (c : Core). c.size) begins.core;
      many = begins.many;
      scripts = λ n d lt. ap (λ (driver : DriverOf). driver.script) (begins.drivers n d lt);
    }

submits_script : (old new : DriverOf) (before after : NodeOf) (calls : List Call) (deeds : List Deed) → Submits old new before after calls deeds
    → new.script ≡ old.script
submits_script old new before after calls deeds (OneMore op room next is asked issued done) = ap (λ (driver : DriverOf). driver.script) is
submits_script old new before after calls deeds (NoneNow held is same done) = ap (λ (driver : DriverOf). driver.script) is

module _ (script : ScriptValue) (limit : ℕ) where
  pub round_stands : (n : ℕ) (old new : Moment) → Stands script limit old → IsRound n old new → Stands script limit new
  round_stands n old new stands round =
      let gone = deeds_on n round.deeds (standing (policy_at old n) (course_at old)) (standing (policy_at new n) (course_at new)) round.some
      stands.reached stands.opened round.does in
      record {
        reached = gone.reached;
        opened = gone.opened;
        size = gone.size ∙ stands.size;
        many = round.many ∙ stands.many;
        scripts = λ m d lt. elim (cases_eq m n) [
          | inl same ↦
              let worked = (round.goes d).worked in
              let here : (driver_at new n d).script ≡ (driver_at old n d).script =
              worked.left.script ∙ submits_script (driver_at old n d) worked.driver (node_at old.core n) worked.node worked.asked worked.first worked.submits
              in
              subst (λ (k : ℕ). (driver_at new k d).script ≡ (driver_at old k d).script) (sym same) here ∙ stands.scripts m d lt
          | inr other ↦ ap (λ (driver : DriverOf). driver.script) (round.drivers m d other) ∙ stands.scripts m d lt
        ];
      }

  pub played_stands : (rounds : ℕ) (order later : Order) (old new : Moment) → Stands script limit old → Played script.nodes rounds order old later new
      → Stands script limit new
  played_stands zero order later old new stands played = subst (Stands script limit) played.1 stands
  played_stands (suc rounds) order later old new stands played =
      round_stands (next_node script.nodes played.1) played.0 new (played_stands rounds order played.1 old played.0 stands played.2) played.5

-- ---- rounds one after another

played_grows : (nodes rounds : ℕ) (order later : Order) (old new : Moment) → Played nodes rounds order old later new → length old.events ≤ length new.events
played_grows nodes zero order later old new played =
    let same : length old.events ≡ length new.events = ap (λ (m : Moment). length m.events) played.1 in omega (arith, same)
played_grows nodes (suc rounds) order later old new played =
    let first = played_grows nodes rounds order played.1 old played.0 played.2 in
    let round = played.5 in
    let n = next_node nodes played.1 in
    let last = deeds_grow n round.deeds (standing (policy_at played.0 n) (course_at played.0)) (standing (policy_at new n) (course_at new)) round.does in
    omega (arith, first, last)

pub played_order : (nodes rounds : ℕ) (order later : Order) (old new : Moment) → Played nodes rounds order old later new
    → later ≡ order_after nodes rounds order
played_order nodes zero order later old new played = sym played.0
played_order nodes (suc rounds) order later old new played =
    played.4 ∙ ap (next_order nodes) (played_order nodes rounds order played.1 old played.0 played.2)

-- the first of some rounds, and the others
split : (nodes second first all : ℕ) (order later : Order) (old new : Moment) → all ≡ second + first → Played nodes all order old later new
    → (mid : Moment) × Played nodes first order old (order_after nodes first order) mid
    × Played nodes second (order_after nodes first order) mid later new
split nodes zero first all order later old new sum played = grind (arith, played_order)
split nodes (suc second) first zero order later old new sum played = absurd (omega (arith, sum))
split nodes (suc second) first (suc all) order later old new sum played =
    let parts = split nodes second first all order played.1 old played.0 (omega (arith, sum)) played.2 in
    (parts.0, parts.1, (played.0, played.1, parts.2, played.3, played.4, played.5))

pub begins_awaiting : (nodes rounds : ℕ) (order later : Order) (old new : Moment) → Played nodes (suc rounds) order old later new → AwaitsEntries old
begins_awaiting nodes zero order later old new played = subst AwaitsEntries (sym played.2.1) played.3
begins_awaiting nodes (suc rounds) order later old new played = begins_awaiting nodes rounds order played.1 old played.0 played.2

-- ---- a stretch in which no event is made

vain_on : (core : Core) (order : List ℕ) (n : ℕ) (f g h : ℕ → PolicyOf) → AreInVain core order f g → IsInVain core n g h
    → AreInVain core (order ++ n ∷ []) f h
vain_on core [] n f g h vain last = (h, subst (λ (p : ℕ → PolicyOf). IsInVain core n p h) (sym vain) last, refl)
vain_on core (m ∷ order) n f g h vain last = (vain.0, vain.1, vain_on core order n vain.0 g h vain.2 last)

count_last : (n m : ℕ) (order : List ℕ) → count_by (λ k. k == n) (order ++ m ∷ []) ≡ count_by (λ k. k == n) order + cond (m == n) 1 0
count_last n m order = omega (arith, sum_by-append (λ (k : ℕ). cond (k == n) 1 0) order (m ∷ []))

count_past : (n m : ℕ) (order : List ℕ) → m ≢ n → count_by (λ k. k == n) (order ++ m ∷ []) ≡ count_by (λ k. k == n) order
count_past n m order other =
    let more = count_last n m order ∙ ap (λ (b : Bool). count_by (λ k. k == n) order + cond b 1 0) (ne_eqb m n other) in
    omega (arith, more)

-- what comes of it: the machine is as it was, all turns were in vain, and the driver of each node that had one was held back
record Quiet (nodes rounds : ℕ) (order : Order) (old new : Moment) : Type 0 where
  same : new.core ≡ old.core
  vain : AreInVain old.core (turns_in nodes rounds order) (policy_at old) (policy_at new)
  stalled : (n : ℕ) (d : DriverOf) → 1 ≤ count_by (λ m. m == n) (turns_in nodes rounds order) → IsStalled (driver_at new n d) (node_at new.core n)

-- some driver: none is looked at
pub no_driver : DriverOf
no_driver = opening_driver [] Ahead

quiet_on : (nodes rounds : ℕ) (order : Order) (old mid new : Moment) → Quiet nodes rounds order old mid
    → IsRound (next_node nodes (order_after nodes rounds order)) mid new → length new.events ≤ length mid.events → Quiet nodes (suc rounds) order old new
quiet_on nodes rounds order old mid new before round few =
    let n = next_node nodes (order_after nodes rounds order) in
    let here = core_stays n mid new round few no_driver in
    record {
      same = here ∙ before.same;
      vain = vain_on old.core (turns_in nodes rounds order) n (policy_at old) (policy_at mid) (policy_at new) before.vain
          (subst (λ (c : Core). IsInVain c n (policy_at mid) (policy_at new)) before.same (is_vain n mid new round few no_driver round.some));
      stalled = λ m d some. elim (cases_eq m n) [
        | inl same ↦
            subst (λ (k : ℕ). IsStalled (driver_at new k d) (node_at new.core k)) (sym same) (is_stalled n mid new round few d)
        | inr other ↦
            let counted = count_past m n (turns_in nodes rounds order) (λ is. other (sym is)) in
            subst (λ (driver : DriverOf). IsStalled driver (node_at new.core m)) (sym (round.drivers m d other))
            (subst (λ (c : Core). IsStalled (driver_at mid m d) (node_at c m)) (sym here) (before.stalled m d (omega (arith, counted, some))))
      ];
    }

quiet : (nodes rounds : ℕ) (order later : Order) (old new : Moment) → Played nodes rounds order old later new → length new.events ≤ length old.events
    → Quiet nodes rounds order old new
quiet nodes zero order later old new played few = record {
  same = ap (λ (m : Moment). m.core) (sym played.1);
  vain = ap policy_at played.1;
  stalled = λ n d some. absurd (omega (arith, some));
}
quiet nodes (suc rounds) order later old new played few =
    let first = played_grows nodes rounds order played.1 old played.0 played.2 in
    let round : IsRound (next_node nodes (order_after nodes rounds order)) played.0 new =
    subst (λ (o : Order). IsRound (next_node nodes o) played.0 new) (played_order nodes rounds order played.1 old played.0 played.2) played.5 in
    let n = next_node nodes (order_after nodes rounds order) in
    let last = deeds_grow n round.deeds (standing (policy_at played.0 n) (course_at played.0)) (standing (policy_at new n) (course_at new)) round.does in
    quiet_on nodes rounds order old played.0 new (quiet nodes rounds order played.1 old played.0 played.2 (omega (arith, last, few)))
    round (omega (arith, first, few))

-- ---- a stretch in which each node takes 64 turns

module _ (script : ScriptValue) (good : IsScript script) (limit : ℕ)
    (room : (node : ℕ) → node < script.nodes → length (operations_of node script.operations) ≤ limit) where
  pub within_node : (n : ℕ) (node : NodeOf) → lines_of node ≡ script.lines → All (IsOnNode node) (operations_of n script.operations)
  within_node n node lines =
      All-map (IsOnNode node) (λ (p : ℕ × Op). p.1) _ (All-filter (λ (p : ℕ × Op). p.0 == n) (λ (p : ℕ × Op). IsOnNode node p.1) script.operations
      (All-weaker (λ (p : ℕ × Op). IsWithin script.nodes script.lines p.0 p.1) (λ (p : ℕ × Op). IsOnNode node p.1)
      (λ p is. (subst (λ (k : ℕ). p.1.line < k) (sym lines) is.known_line, is.known_word)) script.operations good.within))

  quiet_answered : (rounds : ℕ) (order : Order) (old new : Moment) → Stands script limit old → Stands script limit new
      → Quiet script.nodes rounds order old new → ((n : ℕ) → n < script.nodes → 64 ≤ count_by (λ m. m == n) (turns_in script.nodes rounds order))
      → All IsAnswered new.drivers
  quiet_answered rounds order old new before after silent turns = λ n d below.
      let many = after.many in
      let some : n < script.nodes = omega (arith, below, many) in
      let size : old.core.size.nodes ≡ script.nodes = ap (λ (s : Size). s.nodes) before.size in
      let there : n < old.core.size.nodes = omega (arith, some, size) in
      let now : n < new.core.size.nodes = subst (λ (c : Core). n < c.size.nodes) (sym silent.same) there in
      let part = (reached_well new.core after.reached).each_part n now in
      let node = node_at new.core n in
      let enough = turns n some in
      let own : (driver_at new n d).script ≡ operations_of n script.operations = after.scripts n d some in
      stalled_answered (driver_at new n d) node (silent.stalled n d (omega (arith, enough)))
      (λ line. subst (λ (c : Core). pending_on (node_at c n) line ≡ None) (sym silent.same)
      (vain_has_none old.core (turns_in script.nodes rounds order) (policy_at old) (policy_at new) before.reached before.opened silent.vain
      (λ m lt. turns m (omega (arith, lt, size))) n line there))
      (subst (All (IsOnNode node)) (sym own) (within_node n node (part.each ∙ ap (λ (s : Size). s.lines) after.size)))
      (let long : length (driver_at new n d).script ≡ length (operations_of n script.operations) = ap length own in
      let few = room n some in
      let most : node.limit ≡ limit = part.most ∙ ap (λ (s : Size). s.limit) after.size in
      omega (arith, long, few, most))

  stretch_grows : (rounds : ℕ) (order later : Order) (old new : Moment) → Stands script limit old → Played script.nodes rounds order old later new
      → ((n : ℕ) → n < script.nodes → 64 ≤ count_by (λ m. m == n) (turns_in script.nodes rounds order)) → AwaitsEntries new
      → length old.events < length new.events
  stretch_grows rounds order later old new stands played turns awaits = elim (cases_lt (length old.events) (length new.events)) [
    | inl lt ↦ lt
    | inr le ↦
        absurd (awaits (quiet_answered rounds order old new stands (played_stands script limit rounds order later old new stands played)
        (quiet script.nodes rounds order later old new played le) turns))
  ]

-- ---- a run

pub turns_long : (nodes rounds : ℕ) (order : Order) → length (turns_in nodes rounds order) ≡ rounds
turns_long nodes zero order = refl
turns_long nodes (suc rounds) order =
    let more = length_push (turns_in nodes rounds order) (next_node nodes (order_after nodes rounds order)) in
    let rest = turns_long nodes rounds order in
    omega (arith, more, rest)

some_window : (nodes window : ℕ) (order : Order) → 0 < nodes → GivesTurns nodes window order → 0 < window
some_window nodes window order some gives = grind (arith, count_by-le-length, turns_long)

one_stretch : (window rounds events : ℕ) → rounds < window → rounds < window * (events + 1)
one_stretch window rounds events lt = let more = le-mul_of_pos_right {m = events + 1} window (omega arith) in omega (arith, lt, more)

-- one more than some
one_more : (window rounds before after : ℕ) → rounds < window * (before + 1) → before < after → window + rounds < window * (after + 1)
one_more window rounds before after lt more = grind (arith, mul-suc, mul-le-mul_left)

module _ (script : ScriptValue) (good : IsScript script) (limit : ℕ)
    (room : (node : ℕ) → node < script.nodes → length (operations_of node script.operations) ≤ limit)
    (window : ℕ) (order : Order) (gives : GivesTurns script.nodes window order) (first : Moment) (stands : Stands script limit first) where
  -- some rounds, and then a stretch
  one_more_stretch : (before : ℕ) (later : Order) (last : Moment) → Played script.nodes (window + before) order first later last → AwaitsEntries last
      → ((mid : Moment) → Played script.nodes before order first (order_after script.nodes before order) mid → AwaitsEntries mid
      → before < window * (length mid.events + 1))
      → window + before < window * (length last.events + 1)
  one_more_stretch before later last played awaits first_ends =
      let between = order_after script.nodes before order in
      let parts = split script.nodes window before (window + before) order later first last refl played in
      let some = some_window script.nodes window order good.size.has_node gives in
      let mid_stands = played_stands script limit before order between first parts.0 stands parts.1 in
      let grows = stretch_grows script good limit room window between later parts.0 last mid_stands parts.2 (gives before) awaits in
      let one : window ≡ suc (window - 1) = omega (arith, some) in
      let waits = begins_awaiting script.nodes (window - 1) between later parts.0 last
      (subst (λ (k : ℕ). Played script.nodes k between parts.0 later last) one parts.2) in
      one_more window before (length parts.0.events) (length last.events) (first_ends parts.0 parts.1 waits) grows

  ends_by : (fuel rounds : ℕ) (later : Order) (last : Moment) → rounds ≤ fuel → Played script.nodes rounds order first later last → AwaitsEntries last
      → rounds < window * (length last.events + 1)
  ends_by zero rounds later last le played awaits = grind (arith, some_window, one_stretch)
  ends_by (suc fuel) rounds later last le played awaits = elim (cases_lt rounds window) [
    | inl lt ↦ one_stretch window rounds (length last.events) lt
    | inr long ↦
        let some = some_window script.nodes window order good.size.has_node gives in
        let before = rounds - window in
        let is : rounds ≡ window + before = omega (arith, long) in
        let all = one_more_stretch before later last (subst (λ (k : ℕ). Played script.nodes k order first later last) is played) awaits
        (λ mid first_part waits.
        ends_by fuel before (order_after script.nodes before order) mid (omega (arith, is, le, some)) first_part waits) in
        subst (λ (k : ℕ). k < window * (length last.events + 1)) (sym is) all
  ]

-- a run that isn't done
pub not_done : (done : Bool) (last : Moment) → (done ≡ true) ↔ All IsAnswered last.drivers → done ≡ false → AwaitsEntries last
not_done done last ends is all = let both : false ≡ true = sym is ∙ ends.1 all in cc

pub has_ended : (script : ScriptValue) (issuing : Issuing) (seed : Option ℕ) (rounds : ℕ) (done : Bool) (schedule : ScheduleValue) → IsScript script
    → IsPlayed script issuing seed rounds done schedule → (window : ℕ) → GivesTurns script.nodes window (first_order seed) → done ≡ false
    → rounds < window * (length schedule.events + 1)
has_ended script issuing seed rounds done schedule good played window gives is =
    let stands = first_stands script issuing played.first good played.begins in
    let bound = ends_by script good played.begins.limit played.begins.room window (first_order seed) gives played.first stands rounds rounds played.order
    played.last (omega arith) played.played (not_done done played.last played.ends is) in
    subst (λ (events : List Event). rounds < window * (length events + 1)) (sym played.events) bound

-- a run in a circle that may take as many turns as that is done
pub circle_done : (script : ScriptValue) (issuing : Issuing) (seed : Option ℕ) (rounds turns : ℕ) (done : Bool) (schedule : ScheduleValue) → IsScript script
    → IsSchedule schedule → IsPlayed script issuing seed rounds done schedule → seed ≡ None → circle_turns script.nodes ≤ turns
    → (done ≡ false → rounds ≡ turns) → done ≡ true
circle_done script issuing seed rounds turns true schedule good is played none enough all = refl
circle_done script issuing seed rounds turns false schedule good is played none enough all =
    let window = 64 * script.nodes in
    let gives : GivesTurns script.nodes window (first_order seed) =
    subst (λ (s : Option ℕ). GivesTurns script.nodes window (first_order s)) (sym none) (circle_gives script.nodes) in
    let bound = has_ended script issuing seed rounds false schedule good played window gives refl in
    let few = is.few in
    let within = mul-le-mul_left {m = length schedule.events + 1} {n = MAX_EVENTS + 1} window (omega (arith, few)) in
    let used = all refl in
    absurd (omega (arith, bound, within, used, enough))
