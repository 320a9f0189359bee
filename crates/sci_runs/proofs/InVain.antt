-- A round that makes no event: its node has submitted and performed nothing, and its turn was in vain.
use Rattle.std.proofs.Common.{◌≡◌, ◌==◌, zero, suc, cond, All, ◌≤◌, ◌<◌, ◌+◌, ℕ, true, false, arith, List, [], ◌∷◌, ◌++◌, length, map, Option, Some, None}
use Rattle.std.proofs.Common.{refl, sym, ap, subst, ◌∙◌, inl, inr}
use Rattle.std.proofs.lemmas.{Bool.{cases_eq, cases_lt}, List.{append_assoc, length-append, length_push, nil_from_length}}
use Rattle.std.proofs.lemmas.{List.{Elements.{All-head}, Sums.{count_by-le-length, sum_by-cons}}, Option.{slice_get_within, slice_get_cases}}
use Rattle.std.specs.{Prelude.{IfSome, IsSome, count_by, nat_lt, slice_get}, List.{Contains}}
use Rattle.sci_words.specs.declared.{event.Event.{Event}, limits.TheConstants.{WORDS_PER_LINE}, operation.Op.{Op}}
use Rattle.sci_history.specs.declared.entry.Entry.{Entry}
use Rattle.sci_core.specs.declared.{lane.LaneKind.TheVariants.{Answers}, pending.Pending.{Pending}, submit.SubmitFault.{SubmitFault}}
use Rattle.sci_core.specs.{Core.{Core, lane_of, node_at}, Node.{NodeOf, lines_of, node_performing, pending_on}, Obstacles.{submit_fault}}
use Rattle.sci_policy.specs.declared.{progress.Progress.{Progress}, want.Want.{Want, TheVariants.{Perform, Ask}}}
use Rattle.sci_policy.specs.{Deeds.{Deed, DoesBy, Issues, Performs, Turns}, Policy.{PolicyOf, next_policy, next_wanted, opening_policy, turned}}
use Rattle.sci_policy.specs.Turn.{Counts, MadeNothing, MayPerform, is_idle}
use Rattle.sci_turn.specs.{Idle.{IsHeldUp, IsIdleTurn, WasSo}, Moves.{HasMoved, Leads, own_of, taken_next}}
use Rattle.sci_turn.specs.Posts.{IsFurther, IsStill, OthersLead, PostOf, post_at}
use Rattle.sci_turn.proofs.Stills.{still_itself}
use Rattle.sci_drive.specs.{declared.driver.{Issuing.{Issuing, TheVariants.{Ahead, InOrder}}}, Calls.{Call, IsOpen, MayIssue, reports}}
use Rattle.sci_drive.specs.{Driving.{DriverOf, IsAnswered, IsAnsweredOrPending, IsDriven}, Script.{times_answered}}
use Rattle.sci_drive.proofs.Drives.{never_both}
use Rattle.sci_drive.specs.Rounds.{AllSubmitted, ArePerformed, IsHeldBack, IsTried, LineIsTaken, NoRoom, NoneNow, NotAllowed, OneMore, Refused}
use Rattle.sci_drive.specs.Rounds.{Submits, most_pending, performed}
use Rattle.sci_fair.specs.Vain.{IsInVain}
use Rattle.sci_runs.specs.Deeds.{IsDeed, IsTurnDone, Standing, Works, post_on, standing}
use Rattle.sci_runs.specs.Played.{IsRound, Moment, course_at, driver_at, policy_at}
use Rattle.sci_runs.specs.Recorded.{Course}
use Rattle.sci_words.specs.declared.event.Event.TheVariants as event

-- ---- deeds add events

works_more : (e : Event) (x y : Standing) → Works e x y → length y.course.events ≡ length x.course.events + 1
works_more e x y works = ap length works.more ∙ length_push x.course.events e

deed_grows : (n : ℕ) (deed : Deed) (x y : Standing) → IsDeed n deed x y → length x.course.events ≤ length y.course.events
deed_grows n (Issues op) x y did = let more = works_more (event.Issue n op) x y did in omega (arith, more)
deed_grows n (Performs line entry) x y did = let more = works_more (event.Perform n line) x y did in omega (arith, more)
deed_grows n (Turns progress) x y did = grind (arith, length-append)

pub deeds_grow : (n : ℕ) (deeds : List Deed) (x y : Standing) → DoesBy (IsDeed n) deeds x y → length x.course.events ≤ length y.course.events
deeds_grow n [] x y did = let same : length x.course.events ≡ length y.course.events = ap (λ (s : Standing). length s.course.events) did in omega (arith, same)
deeds_grow n (deed ∷ deeds) x y did =
    let first = deed_grows n deed x did.0 did.1 in
    let rest = deeds_grow n deeds did.0 y did.2 in
    omega (arith, first, rest)

-- so nothing was performed where none was added
none_performed : (n : ℕ) (entries : List Entry) (last : List Deed) (x y : Standing) → DoesBy (IsDeed n) (map performed entries ++ last) x y
    → length y.course.events ≤ length x.course.events → entries ≡ []
none_performed n [] last x y did few = refl
none_performed n (entry ∷ entries) last x y did few =
    let more = works_more (event.Perform n entry.op.line) x did.0 did.1 in
    let grows = deeds_grow n (map performed entries ++ last) did.0 y did.2 in
    absurd (omega (arith, more, grows, few))

-- and nothing was submitted
pub record IsHeld (old driver : DriverOf) (before node : NodeOf) (calls : List Call) (first : List Deed) : Type 0 where
  held : IsHeldBack old before calls
  driver_is : driver ≡ old
  node_is : node ≡ before
  none : first ≡ []

none_submitted : (n : ℕ) (old driver : DriverOf) (before node : NodeOf) (calls : List Call) (first rest : List Deed) (x y : Standing)
    → Submits old driver before node calls first → DoesBy (IsDeed n) (first ++ rest) x y → length y.course.events ≤ length x.course.events
    → IsHeld old driver before node calls first
none_submitted n old driver before node calls first rest x y (OneMore op room next is asked issued deeds) did few =
    let made : DoesBy (IsDeed n) (Issues op ∷ rest) x y = subst (λ (ds : List Deed). DoesBy (IsDeed n) (ds ++ rest) x y) deeds did in
    let more = works_more (event.Issue n op) x made.0 made.1 in
    let grows = deeds_grow n rest made.0 y made.2 in
    absurd (omega (arith, more, grows, few))
none_submitted n old driver before node calls first rest x y (NoneNow held is same none) did few =
    record { held = held; driver_is = is; node_is = same; none = none }

-- ---- a turn that adds no event

moved_none : (n : ℕ) (before after : PolicyOf) (old new : Course) (progress : Progress) → HasMoved before (post_on n old) after (post_on n new) progress
    → length new.events ≤ length old.events → (new.core ≡ old.core) × MadeNothing progress
moved_none n before after old new progress moved few = at moved.more refl
  where
    at : (more : List Event) → moved.more ≡ more → (new.core ≡ old.core) × MadeNothing progress
    at [] is = (
      sym (subst (λ (es : List Event). Leads n before old.core es after new.core) is moved.leads).1,
      let counts = subst (λ (es : List Event). Counts (own_of n es) progress) is moved.counts in
          record { accepted = counts.accepted; served = counts.served; replied = counts.replied; asked = counts.asked },
    )
    at (e ∷ more) is =
        let further : new.events ≡ old.events ++ moved.more = moved.further in
        let long : length new.events ≡ length old.events + length moved.more = ap length further ∙ length-append old.events moved.more in
        let some : length moved.more ≡ suc (length more) = ap length is in
        absurd (omega (arith, long, some, few))

-- what was known at a moment of it
mid_known : (n : ℕ) (known : List Event) (others : List Event) (knows : Option (List Event)) → IsFurther n (Some known) others knows
    → (events : List Event) × (knows ≡ Some events) × (events ≡ known ++ others)
mid_known n known others (Some events) further = (events, refl, further)
mid_known n known others None further = elim further [ ]

record WasHere (n : ℕ) (old : Course) (mid : PostOf) : Type 0 where
  me : mid.me ≡ n
  core : mid.core ≡ old.core

was_here : (n : ℕ) (old new : Course) (mid : PostOf) → length new.events ≤ length old.events → IsStill (post_on n old) mid
    → IsStill mid (post_on n new) → WasHere n old mid
was_here n old new mid few before after =
    let known = mid_known n old.events before.others mid.schedule before.further in
    let further : new.events ≡ known.0 ++ after.others =
    subst (λ (s : Option (List Event)). IsFurther mid.me s after.others (Some new.events)) known.1 after.further in
    let first : length known.0 ≡ length old.events + length before.others = ap length known.2 ∙ length-append old.events before.others in
    let second : length new.events ≡ length known.0 + length after.others = ap length further ∙ length-append known.0 after.others in
    let none : before.others ≡ [] = nil_from_length before.others (omega (arith, first, second, few)) in
    record { me = before.same.me; core = sym (subst (λ (es : List Event). OthersLead n old.core es mid.core) none before.lead) }

so_alone : (P : Core → ℕ → Type 0) (n : ℕ) (old new : Course) → length new.events ≤ length old.events
    → WasSo (λ post. P post.core post.me) (post_on n old) (post_on n new) → WasSo (λ post. P post.core post.me) (post_at n old.core) (post_at n old.core)
so_alone P n old new few was =
    let here = was_here n old new was.mid few was.before was.after in
    record {
      mid = post_at n old.core;
      before = still_itself (post_at n old.core);
      after = still_itself (post_at n old.core);
      so = subst (λ (c : Core). P c n) here.core (subst (P was.mid.core) here.me was.so);
    }

held_alone : (n : ℕ) (course : Course) (want : Option Want) → IfSome want (IsHeldUp (post_on n course)) → IfSome want (IsHeldUp (post_at n course.core))
held_alone n course None held = tt
held_alone n course (Some (Perform line)) held = held
held_alone n course (Some (Ask line kind)) held = held

-- a node that has the machine for itself has taken it
idle_alone : (n : ℕ) (before after : PolicyOf) (old new : Course) → length new.events ≤ length old.events → new.core ≡ old.core
    → IsIdleTurn before (post_on n old) after (post_on n new) → IsIdleTurn before (post_at n old.core) after (post_at n old.core)
idle_alone n before after old new few same idle = record {
  still = still_itself (post_at n old.core);
  policy = subst (λ (c : Core). after ≡ next_policy (turned before) (node_at c n)) same idle.policy;
  reply = so_alone (λ c m. IfSome (node_at c m).waiting (λ answer. 4 ≤ length (lane_of c Answers m answer.target))) n old new few idle.reply;
  answers = λ from f. so_alone (λ c m. lane_of c Answers from m ≡ []) n old new few
      (idle.answers from f);
  requests = λ from f. so_alone (λ c m. taken_next (turned before) c from m ≡ None) n old new few (idle.requests from f);
  wants = subst (λ (c : Core). IfSome (next_wanted (turned before) (node_at c n)) (IsHeldUp (post_at n c))) same
      (held_alone n new (next_wanted (turned before) (node_at new.core n)) idle.wants);
}

-- ---- nothing can be performed where each line was tried in vain

pub performed_long : (x : NodeOf) (entries : List Entry) (y : NodeOf) → ArePerformed x entries y → length y.log ≡ length x.log + length entries
performed_long x [] y are = let same : length x.log ≡ length y.log = ap (λ (node : NodeOf). length node.log) are in omega (arith, same)
performed_long x (entry ∷ entries) y are =
    let more : length are.0.log ≡ length x.log + 1 = ap length are.1.log ∙ length_push x.log entry in
    let rest = performed_long are.0 entries y are.2 in
    omega (arith, more, rest)

pub tried_none : (line : ℕ) (x y : NodeOf) → x ≡ y → IsTried line x y → node_performing y line ≡ None
tried_none line x y same tried = grind (arith, performed_long, nil_from_length)

performs_none : (driver : DriverOf) (node : NodeOf) (line : ℕ) (o : Option Pending) → IsDriven driver node → pending_on node line ≡ o
    → ((l : ℕ) → Contains driver.pending l → node_performing node l ≡ None) → node_performing node line ≡ None
performs_none driver node line None driven is tried = grind (arith, is)
performs_none driver node line (Some pending) driven is tried = tried line (driven.pending line pending is).known

not_ready : (node : NodeOf) (ready : Option ℕ) → ((line : ℕ) → node_performing node line ≡ None) → MayPerform node ready → ready ≡ None
not_ready node None none may = refl
not_ready node (Some line) none may =
    let clash : IsSome {T = NodeOf × Entry} None = subst (λ (o : Option (NodeOf × Entry)). IsSome o) (none line) may in cc

nothing_idle : (progress : Progress) → MadeNothing progress → progress.ready ≡ None → is_idle progress ≡ true
nothing_idle progress made none = grind (arith, made.accepted, made.served, made.replied, made.asked, none)

-- ---- the round

-- a driver at the end of a round in vain: it was held back, and is as it was
pub record IsStalled (driver : DriverOf) (node : NodeOf) : Type 0 where
  pub was : DriverOf
  pub calls : List Call
  pub held : IsHeldBack was node calls
  pub allowed : (index : ℕ) → calls ≡ MayIssue index false ∷ [] → ⊥
  pub script : driver.script ≡ was.script
  pub next : driver.next ≡ was.next
  pub pending : length was.pending ≡ length driver.pending
  pub driven : IsDriven driver node

-- an open gate forbids nothing
pub never_forbids : (asked rest : List Call) (index : ℕ) → All IsOpen (asked ++ rest) → asked ≡ MayIssue index false ∷ [] → ⊥
never_forbids asked rest index all is =
    let first : false ≡ true = All-head IsOpen (MayIssue index false) rest (subst (λ (calls : List Call). All IsOpen (calls ++ rest)) is all) in
    cc

module _ (n : ℕ) (old new : Moment) (round : IsRound n old new) (few : length new.events ≤ length old.events) (d : DriverOf) where
  abbrev before : Standing
  before = standing (policy_at old n) (course_at old)

  abbrev after : Standing
  after = standing (policy_at new n) (course_at new)

  abbrev turning : List Deed
  turning = Turns round.round.progress ∷ []

  all_deeds : DoesBy (IsDeed n) ((round.goes d).worked.first ++ (map performed (round.goes d).worked.entries ++ turning)) before after
  all_deeds = grind (arith, append_assoc)

  held : IsHeld (driver_at old n d) (round.goes d).worked.driver (node_at old.core n) (round.goes d).worked.node (round.goes d).worked.asked
      (round.goes d).worked.first
  held =
      let worked = (round.goes d).worked in
      none_submitted n (driver_at old n d) worked.driver (node_at old.core n) worked.node worked.asked worked.first
      (map performed worked.entries ++ turning) before after worked.submits all_deeds few

  no_entry : (round.goes d).worked.entries ≡ []
  no_entry =
      let worked = (round.goes d).worked in
      none_performed n worked.entries turning before after
      (subst (λ (deeds : List Deed). DoesBy (IsDeed n) (deeds ++ (map performed worked.entries ++ turning)) before after) held.none all_deeds) few

  turned_alone : DoesBy (IsDeed n) turning before after
  turned_alone = grind (arith, no_entry, held, all_deeds)

  turn : IsTurnDone n (policy_at old n) (course_at old) (policy_at new n) (course_at new) round.round.progress
  turn =
      subst (λ (s : Standing). IsTurnDone n (policy_at old n) (course_at old) s.policy s.course round.round.progress) turned_alone.2 turned_alone.1

  quiet : (new.core ≡ old.core) × MadeNothing round.round.progress
  quiet =
      let ended = turn.so_far.turn in
      moved_none n (turned (policy_at old n)) ended.policy (course_at old) (course_at new) round.round.progress ended.moved few

  pub core_stays : new.core ≡ old.core
  core_stays = quiet.0

  -- what comes before the turn leaves the node as it was
  worked_none : (round.goes d).worked.node ≡ (round.goes d).node
  worked_none = grind (arith, no_entry)

  node_stays : (round.goes d).node ≡ node_at new.core n
  node_stays = sym worked_none ∙ (held.node_is ∙ ap (λ (c : Core). node_at c n) (sym core_stays))

  cannot : (line : ℕ) → node_performing (node_at new.core n) line ≡ None
  cannot line = grind (arith, performs_none, node_stays, tried_none, worked_none)

  pub is_vain : n < old.core.size.nodes → IsInVain old.core n (policy_at old) (policy_at new)
  is_vain some = record {
    some = some;
    idle = idle_alone n (policy_at old n) (policy_at new n) (course_at old) (course_at new) few core_stays
        (turn.idle (nothing_idle round.round.progress quiet.1
        (not_ready (node_at new.core n) round.round.progress.ready cannot (round.goes d).turn.ready)));
    others = λ m apart. round.policies m opening_policy apart;
  }

  pub is_stalled : IsStalled (driver_at new n d) (node_at new.core n)
  is_stalled =
      let goes = round.goes d in
      let worked = goes.worked in
      record {
        was = driver_at old n d;
        calls = worked.asked;
        held = subst (λ (c : Core). IsHeldBack (driver_at old n d) (node_at c n) worked.asked) (sym core_stays) held.held;
        allowed = λ index is.
            never_forbids worked.asked (reports worked.entries (driver_at old n d).was_done (driver_at new n d).was_done) index
            (subst (All IsOpen) goes.calls_are goes.heard.heard) is;
        script = worked.left.script ∙ ap (λ (x : DriverOf). x.script) held.driver_is;
        next = worked.left.next ∙ ap (λ (x : DriverOf). x.next) held.driver_is;
        pending =
            let same : length worked.driver.pending ≡ length (driver_at old n d).pending = ap (λ (x : DriverOf). length x.pending) held.driver_is in
            let fewer = worked.left.fewer in
            let none : length worked.entries ≡ 0 = ap length no_entry in
            omega (arith, same, fewer, none);
        driven = round.driven d;
      }

-- ---- where nothing is pending, a driver isn't held back but at the end of its script

one_below : (serial k : ℕ) → cond (nat_lt serial (suc k)) 1 0 ≡ cond (nat_lt serial k) 1 0 + cond (serial == k) 1 0
one_below serial k = grind (arith, cases_lt, cases_eq)

below_more : (k : ℕ) (log : List Entry)
    → count_by (λ e. nat_lt e.serial (suc k)) log ≡ count_by (λ e. nat_lt e.serial k) log + times_answered k log
below_more k [] = refl
below_more k (e ∷ log) =
    let more = sum_by-cons (λ (x : Entry). cond (nat_lt x.serial (suc k)) 1 0) e log in
    let low = sum_by-cons (λ (x : Entry). cond (nat_lt x.serial k) 1 0) e log in
    let here = sum_by-cons (λ (x : Entry). cond (x.serial == k) 1 0) e log in
    let one = one_below e.serial k in
    let rest = below_more k log in
    omega (arith, more, low, here, one, rest)

-- a log that answers each of so many operations once is as long
answered_long : (k : ℕ) (log : List Entry) → ((serial : ℕ) → serial < k → times_answered serial log ≡ 1) → k ≤ count_by (λ e. nat_lt e.serial k) log
answered_long zero log each = omega arith
answered_long (suc k) log each =
    let before = answered_long k log (λ serial lt. each serial (omega (arith, lt))) in
    let here = each k (omega arith) in
    let more = below_more k log in
    omega (arith, before, here, more)

answered_once : (node : NodeOf) (serial : ℕ) → ((line : ℕ) → pending_on node line ≡ None) → IsAnsweredOrPending node serial
    → times_answered serial node.log ≡ 1
answered_once node serial none (inl once) = once
answered_once node serial none (inr pends) =
    absurd (never_both (pending_on node pends.0.line) (record { serial = serial; op = pends.0 }) (none pends.0.line) pends.1)

pub none_pends : (driver : DriverOf) (node : NodeOf) → IsDriven driver node → ((line : ℕ) → pending_on node line ≡ None) → driver.pending ≡ []
none_pends driver node driven none =
    let long = answered_long driver.next node.log (λ serial lt. answered_once node serial none (driven.submitted serial lt)) in
    let within = count_by-le-length (λ (e : Entry). nat_lt e.serial driver.next) node.log in
    let counted = driven.counted in
    nil_from_length driver.pending (omega (arith, long, within, counted))

some_most : (issuing : Issuing) → 1 ≤ most_pending issuing
some_most Ahead = omega arith
some_most InOrder = omega arith

-- an operation within the node's lines
abbrev pub IsOnNode : NodeOf → Op → Type 0
IsOnNode node op = (op.line < lines_of node) × (op.word < WORDS_PER_LINE)

no_fault : (node : NodeOf) (op : Op) → IsOnNode node op → pending_on node op.line ≡ None → node.issued < node.limit → submit_fault node op ≡ None
no_fault node op on none room = grind (arith, on.0, on.1, none, room)

no_line : (lines : List ℕ) (line : ℕ) → lines ≡ [] → Contains lines line → ⊥
no_line lines line none has = grind arith

op_at : (script : List Op) (k : ℕ) (op : Op) (node : NodeOf) → All (IsOnNode node) script → slice_get script k ≡ Some op → IsOnNode node op
op_at script k op node all is = grind (arith, slice_get_cases)

next_past : (script : List Op) (k : ℕ) → slice_get script k ≡ None → length script ≤ k
next_past script k is = grind (arith, slice_get_cases)

pub stalled_answered : (driver : DriverOf) (node : NodeOf) → IsStalled driver node → ((line : ℕ) → pending_on node line ≡ None)
    → All (IsOnNode node) driver.script → length driver.script ≤ node.limit → IsAnswered driver
stalled_answered driver node stalled none on room = by stalled.held
  where
    pends : driver.pending ≡ []
    pends = none_pends driver node stalled.driven none

    few : length stalled.was.pending ≡ 0
    few = stalled.pending ∙ ap length pends

    by : IsHeldBack stalled.was node stalled.calls → IsAnswered driver
    by (NoRoom full asked) = let some = some_most stalled.was.issuing in absurd (omega (arith, full, few, some))
    by (AllSubmitted all asked) =
        let next = stalled.next in
        let within = stalled.driven.within in
        let past = next_past stalled.was.script stalled.was.next all in
        let long : length driver.script ≡ length stalled.was.script = ap length stalled.script in
        (omega (arith, next, within, past, long), pends)
    by (LineIsTaken op is taken asked) = absurd (no_line stalled.was.pending op.line (nil_from_length stalled.was.pending few) taken)
    by (NotAllowed asked) = absurd (stalled.allowed stalled.was.next asked)
    by (Refused op is fault asked) =
        let at : slice_get driver.script stalled.was.next ≡ Some op = subst (λ (s : List Op). slice_get s stalled.was.next ≡ Some op) (sym stalled.script) is in
        let issued = stalled.driven.issued in
        let next = stalled.next in
        let within = slice_get_within driver.script stalled.was.next op at in
        let clear = no_fault node op (op_at driver.script stalled.was.next op node on at) (none op.line) (omega (arith, issued, next, within, room)) in
        let clash : IsSome {T = SubmitFault} None = subst (λ (o : Option SubmitFault). IsSome o) clear fault in
        cc
