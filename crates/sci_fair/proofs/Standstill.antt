-- Steady turns don't go on while something is pending: no list has two entries for long; then no line awaits an answer, and what is pending
-- asks for something.
use Rattle.std.proofs.Common.{◌≡◌, ◌<◌, ◌≤◌, ◌+◌, ◌==◌, ◌&&◌, ◌||◌, ◌⊎◌, ℕ, Bool, true, false, arith, List, [], ◌∷◌, ◌++◌}
use Rattle.std.proofs.Common.{Option, Some, None, refl, sym, ap, subst, ◌∙◌, inl, inr, rules}
use Rattle.std.proofs.lemmas.{Bool.{and_parts, cases_Bool, cases_lt}, List.{get_or_past}}
use Rattle.std.specs.Prelude.{IfSome, is_some}
use Rattle.sci_history.specs.Seen.{IsAmong}
use Rattle.sci_words.specs.declared.{stamped.Stamped.{Stamped}}
use Rattle.sci_packets.specs.declared.body.Body.{Body}
use Rattle.sci_cache.specs.{State.{Below, CacheState, Claiming, FreshHead, Head, Purging, Rolling, waits}, Accepting.{accepting}, Asking.{Asked, asking}}
use Rattle.sci_cache.specs.Kinds.{has_fresh_sharers, joins, must_send}
use Rattle.sci_cache.specs.{Member.{link_of}, Serving.{serving}}
use Rattle.sci_core.specs.{Core.{Core, node_at}, Node.{NodeOf, lines_of, pending_on}, Reached.{IsReached}, Shape.{follows}, Sharing.{home_at, settled_at}}
use Rattle.sci_core.specs.{declared.pending.Pending.{Pending}, SharingList.{LinkedFrom}, Size.{Size}}
use Rattle.sci_core.proofs.{Basics.Options.{of_some}, FirstCome.Turns.{led_of}, ReachedLaws.{any_shaped}}
use Rattle.sci_core.proofs.Shape.{Led.{IsLed, role_in, roles_differ}, ShapeClauses.{member_below}, ShapeSteps.{view_of}}
use Rattle.sci_core.proofs.Shape.{Standings.{Coming, Following, Leading, role_of}, Views.{View, link_in}}
use Rattle.sci_core.proofs.WellFormed.WellFormedSteps.{reachable, reached_well}
use Rattle.sci_policy.specs.Lines.{can_be_due, can_drain, state_on}
use Rattle.sci_policy.specs.{Policy.{awaits_home, has, is_claimed, ticked}, Rest.{Awaits, MayRest, NothingPending}}
use Rattle.sci_policy.proofs.AlwaysWants.{may_rest}
use Rattle.sci_policy.proofs.Patience.{still_due_marked}
use Rattle.sci_fair.specs.{Rank.{rank, work_in, work_on}, Retries.{is_tried_once}, Steady.{AreSteadyTurns, HasWindows, IsSteadyTurn, Working, WorksByTurns}}
use Rattle.sci_fair.proofs.Ahead.{Ahead, Amid, after_it, asked_waits, earlier, fewer, firm, firm_asked, firm_before, lines_inside, on_from, performs_none}
use Rattle.sci_fair.proofs.Ahead.{windows_on}
use Rattle.sci_fair.proofs.{Descents.{turns_join, turns_part, windows_fewer, windows_part}, FirstWants.{wants_claim}}
use Rattle.sci_fair.proofs.HeldUp.{Asks_it, FreeTurn, IsFree, Performs_it, Wants_none, free_turn}
use Rattle.sci_fair.proofs.{Homes.{none_changes}, Joins.{none_needy}}
use Rattle.sci_fair.proofs.Kept.{Class, Keeps, has_fresh_next, is_needy, kept_along, kept_in, needy, not_draining, once}
use Rattle.sci_fair.proofs.Markings.{due, fresh_due}
use Rattle.sci_fair.proofs.{Patience.{MarkedTurn, Stopped, marked_turn}, Promised.{As_it_is, By_answer, SettlesTo, settles}}
use Rattle.sci_fair.proofs.{Requests.{good_along, size_along}, Retries.{never_once}}
use Rattle.sci_fair.proofs.{Sharers.{asks_it, lines_small, no_sharers, none_purged, performs_not}, SteadyTurns.{Held}}
use Rattle.sci_words.specs.declared.event.AskKind.TheVariants as kind

-- ---- fresh lists

-- a machine whose steady turns go on, and 135 windows of them lie between it and one amid them
pub record Late (count : ℕ) (w last : Working) : Type 0 where
  pub base : Working
  pub amid : Amid 912 base last
  pub order : List ℕ
  pub came : AreSteadyTurns order base w
  pub windows : HasWindows base.core.size.nodes 135 order
  pub ahead : Ahead count w last

-- so it is amid them
pub amid_of : (count : ℕ) (w last : Working) → Late count w last → Amid count w last
amid_of count w last late = on_from 912 count late.order late.base w last late.amid late.came late.ahead

amid_fewer : (few many : ℕ) (w last : Working) → few ≤ many → Amid many w last → Amid few w last
amid_fewer few many w last le amid = grind (arith, fewer)

fresh_inside : (core : Core) (n line : ℕ) → IsReached core → n < core.size.nodes → has_fresh_next (state_on (node_at core n) line) ≡ true
    → line < core.size.lines
fresh_inside core n line reached some shares = grind (arith, cases_lt, reached_well, get_or_past, has_fresh_next)

claiming_firm : (s : CacheState) → has_fresh_next s ≡ true → has_fresh_sharers s ≡ false → (firm s && awaits_home s) ≡ true
claiming_firm s shares none = search rules

claimed_by : (shares marked : Bool) → shares ≡ true → marked ≡ true → (shares && marked) ≡ true
claimed_by shares marked one two = search rules

-- no node awaits its home when its turn has ended
pub none_await : (n line : ℕ) (old new last : Working) → IsSteadyTurn n old new → (held : Held n old new) → Amid 912 old last → Amid 912 new last
    → (firm (state_on (node_at new.core n) line) && awaits_home (state_on (node_at new.core n) line)) ≡ true → ⊥
none_await n line old new last turn held amid_old amid is =
    let s = state_on (node_at new.core n) line in
    let parts = and_parts (firm s) (awaits_home s) is in
    elim (firm_asked n line old new amid_old.ahead.good held turn.alone.some parts.0) [
      | inl before ↦ none_changes n line s old last turn.alone.some amid_old parts.1 before
      | inr now ↦ none_changes n line s new last (subst (λ (z : Size). n < z.nodes) (sym held.size) turn.alone.some) amid parts.1 now
    ]

claim_next : (s : CacheState) → IfSome (asking s kind.Claim) (λ (asked : Asked). (firm asked.next && awaits_home asked.next) ≡ true)
claim_next s = search rules

quiet_sends : (s : CacheState) → is_needy s ≡ false → must_send s ≡ false
quiet_sends s none = search rules

quiet_joins : (s : CacheState) → is_needy s ≡ false → joins s ≡ false
quiet_joins s none = search rules

-- what is due is claimed in a free turn
claimed_never : (n line : ℕ) (old new last : Working) → IsSteadyTurn n old new → (held : Held n old new) → IsFree n old new held → Amid 912 old last
    → Amid 912 new last → has held.trace.p2.due line ≡ true → has_fresh_next (state_on (node_at held.trace.c2 n) line) ≡ true
    → has_fresh_sharers (state_on (node_at held.trace.c2 n) line) ≡ true → ⊥
claimed_never n line old new last turn held free amid_old amid due_ next shares =
    let t = held.trace in
    let node = node_at t.c2 n in
    let since = t.taken.so.since in
    let good = amid_old.ahead.good in
    let some = turn.alone.some in
    let n2 : n < t.c2.size.nodes = subst (λ (z : Size). n < z.nodes) (sym since.size) some in
    let inside = fresh_inside t.c2 n line since.reached n2 next in
    let all = ((reached_well t.c2 since.reached).each_part n n2).each in
    let below : line < lines_of node = omega (arith, inside, all) in
    let policy = ticked t.p2 node in
    let still : (has t.p2.due line && can_be_due (state_on node line)) ≡ true = rw (due_, fresh_due (state_on node line) next) refl in
    let mark = still_due_marked t.p2 node line _ (lines_small t.c2 line since.reached inside) still in
    let claims : is_claimed policy node line ≡ true = claimed_by (has_fresh_sharers (state_on node line)) (has policy.due line) shares mark in
    let quiet : (l : ℕ) → is_needy (state_on node l) ≡ false = λ l. (
    let kept = kept_in (needy false) n l old new held in
    kept.taken (kept.accepted (none_needy l n old last (amid_fewer 632 912 old last (omega arith) amid_old) some))
    ) in
    let wants = wants_claim policy node line below claims (none_purged n old new last held good some free (fewer 280 912 new last (omega arith) amid.ahead))
    (λ l at_l. quiet_sends (state_on node l) (quiet l)) (λ l at_l. quiet_joins (state_on node l) (quiet l))
    (performs_not n old new last held some free (fewer 1 912 new last (omega arith) amid.ahead)) in
    let at = wants.0 in
    let asked = asks_it n old new held at kind.Claim free wants.1 in
    let next_ = of_some (λ (a : Asked). (firm a.next && awaits_home a.next) ≡ true) (asking (state_on node at) kind.Claim) asked.0 asked.1
    (claim_next (state_on node at)) in
    none_await n at old new last turn held amid_old amid (subst (λ (s : CacheState). (firm s && awaits_home s) ≡ true) (sym asked.2) next_)

-- on the way from a machine amid steady turns to a late one, all are amid them
amid_between : (base mid w last : Working) (before later : List ℕ) → Amid 912 base last → AreSteadyTurns before base mid → AreSteadyTurns later mid w
    → Ahead 912 w last → Amid 912 mid last
amid_between base mid w last before later amid came goes ahead =
    on_from 912 912 before base mid last amid came (earlier 912 later mid w last (good_along before base mid amid.ahead.good came) goes ahead)

fresh_stopped : (n line : ℕ) (order : List ℕ) (base w last : Working) → Amid 912 base last → Stopped due n line order base w → Ahead 912 w last → ⊥
fresh_stopped n line order base w last amid stopped ahead =
    let old = stopped.old in
    let new = stopped.new in
    let turn = stopped.turn in
    let amid_old = amid_between base old w last stopped.before (n ∷ stopped.after) amid stopped.leads (new, turn, stopped.turns) ahead in
    let to_new : AreSteadyTurns (stopped.before ++ n ∷ []) base new = turns_join IsSteadyTurn stopped.before (n ∷ []) base old new stopped.leads
    (new, turn, refl) in
    let amid_new = amid_between base new w last (stopped.before ++ n ∷ []) stopped.after amid to_new stopped.turns ahead in
    elim stopped.stops [
      | inl held ↦ none_await n line old new last turn stopped.held amid_old amid_new (claiming_firm (state_on (node_at new.core n) line) held.0 held.1)
      | inr works ↦ performs_none n works.0 new last (subst (λ (z : Size). n < z.nodes) (sym stopped.held.size) turn.alone.some)
          (fewer 1 912 new last (omega arith) amid_new.ahead) works.1
    ]

fresh_marked : (n line : ℕ) (base w last : Working) → Amid 912 base last → MarkedTurn due n line base w → Ahead 912 w last → ⊥
fresh_marked n line base w last amid marked ahead =
    let old = marked.old in
    let new = marked.new in
    let turn = marked.turn in
    let held = marked.held in
    let s = state_on (node_at held.trace.c2 n) line in
    let amid_old = amid_between base old w last marked.before (n ∷ marked.later) amid marked.leads (new, turn, marked.turns) ahead in
    let to_new : AreSteadyTurns (marked.before ++ n ∷ []) base new = turns_join IsSteadyTurn marked.before (n ∷ []) base old new marked.leads
    (new, turn, refl) in
    let amid_new = amid_between base new w last (marked.before ++ n ∷ []) marked.later amid to_new marked.turns ahead in
    elim (cases_Bool (has_fresh_sharers s)) [
      | inl shares ↦ claimed_never n line old new last turn held marked.free amid_old amid_new marked.marked marked.is shares
      | inr none ↦
          let parts = and_parts (firm s) (awaits_home s) (claiming_firm s marked.is none) in
          none_changes n line s old last turn.alone.some amid_old parts.1 (firm_before n line old new marked.good held turn.alone.some parts.0)
    ]

-- late in steady turns no fresh list has two entries
pub no_fresh_sharers : (n line : ℕ) (w last : Working) → n < w.core.size.nodes → Late 912 w last → has_fresh_next (state_on (node_at w.core n) line) ≡ false
no_fresh_sharers n line w last some late = elim (cases_Bool (has_fresh_next (state_on (node_at w.core n) line))) [
  | inr out ↦ out
  | inl shares ↦
      let base = late.base in
      let good = late.amid.ahead.good in
      let size = size_along late.order base w good late.came in
      let n_base : n < base.core.size.nodes = subst (λ (z : Size). n < z.nodes) size some in
      let inside = fresh_inside w.core n line late.ahead.good.reached some shares in
      let small = lines_small w.core line late.ahead.good.reached inside in
      absurd (elim (marked_turn due n line small late.order base w good n_base late.came late.windows shares) [
        | inl marked ↦ fresh_marked n line base w last late.amid marked late.ahead
        | inr stopped ↦ fresh_stopped n line late.order base w last late.amid stopped late.ahead
      ])
]

-- ---- so lists have one entry

follows_role : (s : CacheState) → follows s ≡ true → role_of s ≡ Some Following
follows_role (Below f b c) is = refl
follows_role (Rolling f b c) is = refl
follows_role _ is = cc

follows_on : (work : Option Bool) (s : CacheState) (b : Body) → follows s ≡ true
    → IfSome (accepting s b) (λ t. (rank work t == rank work s) ≡ true → follows t ≡ true)
follows_on work s b is = search rules

settled_follows : (work : Option Bool) (s t : CacheState) → SettlesTo work s t → follows s ≡ true → follows t ≡ true
settled_follows work s t (As_it_is same) is = ap follows same ∙ is
settled_follows work s t (By_answer b accepts keeps) is =
    of_some (λ r. (rank work r == rank work s) ≡ true → follows r ≡ true) (accepting s b) t accepts (follows_on work s b is) keeps

-- a line that leads its list and has a next entry
abbrev has_next : CacheState → Bool
has_next s = can_drain s || has_fresh_next s

next_linked : (t : CacheState) (a : ℕ) → role_of t ≡ Some Leading → link_of t ≡ Some (Some a) → has_next t ≡ true
next_linked (Head (Some f) c) a role link = refl
next_linked (FreshHead (Some f) c) a role link = refl
next_linked (Purging q c) a role link = refl
next_linked (Claiming (Some f) c) a role link = refl
next_linked _ a role link = cc

next_before : (work : Option Bool) (s : CacheState) (b : Body)
    → IfSome (accepting s b) (λ t. (rank work t == rank work s) ≡ true → has_next t ≡ true → has_next s ≡ true)
next_before work s b = search rules

settled_next : (work : Option Bool) (s t : CacheState) → SettlesTo work s t → has_next t ≡ true → has_next s ≡ true
settled_next work s t (As_it_is same) is = ap has_next (sym same) ∙ is
settled_next work s t (By_answer b accepts keeps) is =
    of_some (λ r. (rank work r == rank work s) ≡ true → has_next r ≡ true → has_next s ≡ true) (accepting s b) t accepts (next_before work s b) keeps is

-- where a node follows, the one that leads has a next entry
record LeadsOn (view : View) : Type 0 where
  leader : ℕ
  next : ℕ
  role : role_in view leader ≡ Some Leading
  link : link_in view leader ≡ Some (Some next)

leads_on : (view : View) (c : Stamped) (must : Bool) (first : Option ℕ) (ns : List ℕ) (n : ℕ) → IsLed view c must ns → LinkedFrom (link_in view) first ns
    → IsAmong n ns → role_in view n ≡ Some Following → LeadsOn view
leads_on view c must first [] n led linked among role = absurd led
leads_on view c must first (x ∷ xs) n (front, inl ahead) linked (inl same) role =
    absurd (roles_differ Leading Following (role_in view x) ahead.0 (ap (role_in view) (sym same) ∙ role) (λ e. cc))
leads_on view c must first (x ∷ []) n (front, inl ahead) linked (inr among) role = elim among [ ]
leads_on view c must first (x ∷ (y ∷ ys)) n (front, inl ahead) linked (inr among) role =
    record { leader = x; next = y; role = ahead.0; link = linked.1.1 ∙ ap Some linked.1.2.0 }
leads_on view c must first (x ∷ xs) n (front, inr comes) linked (inl same) role =
    absurd (roles_differ Coming Following (role_in view x) comes.0 (ap (role_in view) (sym same) ∙ role) (λ e. cc))
leads_on view c must first (x ∷ xs) n (front, inr comes) linked (inr among) role = leads_on view c _ linked.1.0 xs n comes.1 linked.1.2 among role

follows_inside : (core : Core) (n line : ℕ) → IsReached core → n < core.size.nodes → follows (state_on (node_at core n) line) ≡ true → line < core.size.lines
follows_inside core n line reached some is = grind (arith, cases_lt, reached_well, get_or_past)

following_links : (t : CacheState) → role_of t ≡ Some Following → (next : Option ℕ) × (link_of t ≡ Some next)
following_links (Below f b c) role = (f, refl)
following_links (Rolling f b c) role = (f, refl)
following_links _ role = cc

neither : (a b : Bool) → a ≡ false → b ≡ false → (a || b) ≡ false
neither a b one two = search rules

-- late in steady turns no entry follows another
pub no_follower : (n line : ℕ) (w last : Working) → n < w.core.size.nodes → Late 912 w last → follows (state_on (node_at w.core n) line) ≡ false
no_follower n line w last some late = elim (cases_Bool (follows (state_on (node_at w.core n) line))) [
  | inr out ↦ out
  | inl is ↦
      let core = w.core in
      let reached = late.ahead.good.reached in
      let ahead = fewer 1 912 w last (omega arith) late.ahead in
      let inside = follows_inside core n line reached some is in
      let view = view_of core line in
      let shaped = any_shaped core (reachable core reached) line inside in
      let ns = shaped.1.0 in
      let settled_ = settled_follows (work_on (node_at core n) line) (state_on (node_at core n) line) (settled_at core line n)
      (settles n line w last some inside ahead) is in
      let role = follows_role (settled_at core line n) settled_ in
      let links = following_links (settled_at core line n) role in
      let among = shaped.1.1.list.all n links.0 links.1 in
      let led = led_of view (home_at core line) shaped.0 ns n shaped.1.1 among in
      let on = leads_on view shaped.0 led.0 _ ns n led.1 shaped.1.1.list.linked among role in
      let a = on.leader in
      let a_below = member_below core line a (Some on.next) (reached_well core reached) on.link in
      let next = next_linked (settled_at core line a) on.next on.role on.link in
      let there = settled_next (work_on (node_at core a) line) (state_on (node_at core a) line) (settled_at core line a)
      (settles a line w last a_below inside ahead)
      next in
      let none = neither (can_drain (state_on (node_at core a) line)) (has_fresh_next (state_on (node_at core a) line))
      (no_sharers a line w last a_below (amid_fewer 280 912 w last (omega arith) (amid_of 912 w last late))) (no_fresh_sharers a line w last a_below late) in
      let clash : true ≡ false = sym there ∙ none in cc
]

-- ---- no line awaits an answer

keeps_not_following : Keeps (λ work s. follows s) false
keeps_not_following = record { accepts = λ work s a is. search rules; serves = λ work s m r is. search rules; asks = λ work s k is. search rules }

abbrev not_following : Class
not_following = record { test = λ work s. follows s; value = false; kept = keeps_not_following }

-- why a line waits
waits_for : (s : CacheState) → waits s ≡ true
    → (is_tried_once s || (is_needy s || (can_drain s || (follows s || (firm s && awaits_home s))))) ≡ true
waits_for s waiting = search rules

last_of : (b c d e : Bool) → (b || (c || (d || e))) ≡ true → b ≡ false → c ≡ false → d ≡ false → e ≡ true
last_of b c d e is two three four = search rules

or_five : (a b c d e : Bool) → (a || (b || (c || (d || e)))) ≡ true → b ≡ false → c ≡ false → d ≡ false → (a ≡ true) ⊎ (e ≡ true)
or_five true b c d e is two three four = inl refl
or_five false b c d e is two three four = inr (last_of b c d e is two three four)

tried_waits : (s : CacheState) → is_tried_once s ≡ true → waits s ≡ true
tried_waits s is = search rules

if_any : {A : Type 0} (o : Option A) (P : A → Type 0) → ((x : A) → P x) → IfSome o P
if_any None P all = tt
if_any (Some x) P all = all x

-- what is pending stays so
abbrev pends : Class
pends = record {
  test = λ work s. is_some work;
  value = true;
  kept = record {
    accepts = λ work s a is. if_any (accepting s a) (λ t. (rank work t == rank work s) ≡ true → is_some work ≡ true) (λ t keeps. is);
    serves = λ work s m r is. if_any (serving s m r) (λ (served : CacheState × Body). (rank work served.0 == rank work s) ≡ true → is_some work ≡ true)
        (λ served keeps. is);
    asks = λ work s k is. if_any (asking s k) (λ (asked : Asked). (rank work asked.next == rank work s) ≡ true → is_some work ≡ true) (λ asked keeps. is);
  };
}

none_works : (o : Option Pending) → o ≡ None → is_some (work_in o) ≡ true → ⊥
none_works None none is = cc
none_works (Some p) none is = cc

rests_never : (node : NodeOf) (line : ℕ) → MayRest node → ((at : ℕ) → waits (state_on node at) ≡ true → ⊥) → is_some (work_on node line) ≡ true → ⊥
rests_never node line (NothingPending none) never pending = none_works (pending_on node line) (none line) pending
rests_never node line (Awaits at waiting) never pending = never at waiting

-- a turn of a node late in steady turns
record LateTurn (n : ℕ) (old new last : Working) : Type 0 where
  turn : IsSteadyTurn n old new
  held : Held n old new
  was : Late 912 old last
  is : Late 912 new last

module _ (n : ℕ) (old new last : Working) (t : LateTurn n old new last) where
  some_new : n < new.core.size.nodes
  some_new = subst (λ (z : Size). n < z.nodes) (sym t.held.size) t.turn.alone.some

  never_tried : (line : ℕ) → is_tried_once (state_on (node_at new.core n) line) ≡ true → ⊥
  never_tried line once_ =
      let ahead = fewer 281 912 new last (omega arith) t.is.ahead in
      let inside = lines_inside new.core n line ahead.good.reached some_new (tried_waits (state_on (node_at new.core n) line) once_) in
      never_once n line ahead.order new last ahead.good some_new inside ahead.turns ahead.windows once_

  -- when it has ended
  none_waits : (line : ℕ) → waits (state_on (node_at new.core n) line) ≡ true → ⊥
  none_waits line waiting =
      let s = state_on (node_at new.core n) line in
      let amid = amid_of 912 new last t.is in
      elim (or_five (is_tried_once s) (is_needy s) (can_drain s) (follows s) (firm s && awaits_home s) (waits_for s waiting)
      (none_needy line n new last (amid_fewer 632 912 new last (omega arith) amid) some_new)
      (no_sharers n line new last some_new (amid_fewer 280 912 new last (omega arith) amid)) (no_follower n line new last some_new t.is)) [
        | inl once_ ↦ never_tried line once_
        | inr awaits ↦ none_await n line old new last t.turn t.held (amid_of 912 old last t.was) amid awaits
      ]

  -- when the node begins to ask
  none_waits_then : (line : ℕ) → waits (state_on (node_at t.held.trace.c2 n) line) ≡ true → ⊥
  none_waits_then line waiting =
      let s = state_on (node_at t.held.trace.c2 n) line in
      let some = t.turn.alone.some in
      let amid = amid_of 912 old last t.was in
      let needs = kept_in (needy false) n line old new t.held in
      let drains = kept_in not_draining n line old new t.held in
      let follow = kept_in not_following n line old new t.held in
      let tried = kept_in once n line old new t.held in
      elim (or_five (is_tried_once s) (is_needy s) (can_drain s) (follows s) (firm s && awaits_home s) (waits_for s waiting)
      (needs.taken (needs.accepted (none_needy line n old last (amid_fewer 632 912 old last (omega arith) amid) some)))
      (drains.taken (drains.accepted (no_sharers n line old last some (amid_fewer 280 912 old last (omega arith) amid))))
      (follow.taken (follow.accepted (no_follower n line old last some t.was)))) [
        | inl once_ ↦ never_tried line (tried.ended once_)
        | inr awaits ↦
            let parts = and_parts (firm s) (awaits_home s) awaits in
            none_changes n line s old last some amid parts.1 (firm_before n line old new t.was.ahead.good t.held some parts.0)
      ]

  -- so a free turn finds nothing pending
  free_none : (line : ℕ) → IsFree n old new t.held → is_some (work_on (node_at old.core n) line) ≡ true → ⊥
  free_none line (Performs_it at performs same) pending =
      performs_not n old new last t.held t.turn.alone.some (Performs_it at performs same) (fewer 1 912 new last (omega arith) t.is.ahead) at performs
  free_none line (Asks_it at k rest wants events) pending =
      let s = state_on (node_at t.held.trace.c2 n) at in
      let asked = asks_it n old new t.held at k (Asks_it at k rest wants events) wants in
      none_waits at (ap waits asked.2 ∙ of_some (λ (a : Asked). waits a.next ≡ true) (asking s k) asked.0 asked.1 (asked_waits s k))
  free_none line (Wants_none none) pending =
      let c2 = t.held.trace.c2 in
      let node = node_at c2 n in
      let since = t.held.trace.taken.so.since in
      let n2 : n < c2.size.nodes = subst (λ (z : Size). n < z.nodes) (sym since.size) t.turn.alone.some in
      let kept = kept_in pends n line old new t.held in
      let there = kept.taken (kept.accepted pending) in
      rests_never node line (may_rest (ticked t.held.trace.p2 node) node n (record { core = c2; reached = since.reached; some = n2; here = refl }) none)
      none_waits_then there

-- ---- the law

on_late : (count : ℕ) (order : List ℕ) (w mid last : Working) → Late count w last → AreSteadyTurns order w mid → Ahead 912 mid last → Late 912 mid last
on_late count order w mid last late turns ahead = record {
  base = late.base;
  amid = late.amid;
  order = late.order ++ order;
  came = turns_join IsSteadyTurn late.order order late.base w mid late.came turns;
  windows = windows_on late.base.core.size.nodes 135 late.order order late.windows;
  ahead = ahead;
}

late_none : (n line : ℕ) (w last : Working) → n < w.core.size.nodes → Late 983 w last → is_some (work_on (node_at w.core n) line) ≡ true → ⊥
late_none n line w last some late pending =
    let ahead = late.ahead in
    let c = free_turn n 912 ahead.order w last ahead.good some ahead.turns
    (windows_fewer w.core.size.nodes (71 + 912) 983 ahead.order (omega arith) ahead.windows) in
    let end = after_it (FreeTurn n) 912 ahead.order w last ahead.good c in
    let turn : IsSteadyTurn n c.old c.new = subst (λ (i : ℕ). IsSteadyTurn i c.old c.new) c.done.own c.turn in
    let back = earlier 912 (n ∷ []) c.old c.new last c.done.good (c.new, turn, refl) end in
    let to_new : AreSteadyTurns (c.before ++ n ∷ []) w c.new = turns_join IsSteadyTurn c.before (n ∷ []) w c.old c.new c.leads (c.new, turn, refl) in
    free_none n c.old c.new last (record {
      turn = turn;
      held = c.done.held;
      was = on_late 983 c.before w c.old last late c.leads back;
      is = on_late 983 (c.before ++ n ∷ []) w c.new last late to_new end;
    }) line c.done.free (kept_along pends n line c.before w c.old ahead.good c.leads pending)

none_if : (o : Option Pending) → is_some (work_in o) ≡ false → o ≡ None
none_if None is = refl
none_if (Some p) is = cc

-- steady turns in which there are 1,253 windows find nothing pending
pub steady_none : (order : List ℕ) (first last : Working) → WorksByTurns first.core → AreSteadyTurns order first last
    → HasWindows first.core.size.nodes 1253 order → (n line : ℕ) → n < first.core.size.nodes → pending_on (node_at first.core n) line ≡ None
steady_none order first last good turns windows n line some = elim (cases_Bool (is_some (work_on (node_at first.core n) line))) [
  | inr none ↦ none_if (pending_on (node_at first.core n) line) none
  | inl pending ↦
      let nodes = first.core.size.nodes in
      let one = windows_part nodes 135 1118 order (windows_fewer nodes (135 + 1118) 1253 order (omega arith) windows) in
      let cut = turns_part IsSteadyTurn one.first one.rest first last (subst (λ (l : List ℕ). AreSteadyTurns l first last) one.whole turns) in
      let base = cut.0 in
      let good_base = good_along one.first first base good cut.1 in
      let size = size_along one.first first base good cut.1 in
      let ahead : Ahead 1118 base last = record {
        good = good_base;
        order = one.rest;
        turns = cut.2;
        windows = subst (λ (z : Size). HasWindows z.nodes 1118 one.rest) (sym size) one.later;
      } in
      let amid : Amid 912 base last = record {
        first = first;
        good = good;
        behind = one.first;
        came = cut.1;
        windows = one.windows;
        ahead = fewer 912 1118 base last (omega arith) ahead;
      } in
      let two = windows_part base.core.size.nodes 135 983 one.rest
      (windows_fewer base.core.size.nodes (135 + 983) 1118 one.rest (omega arith) ahead.windows) in
      let cut_two = turns_part IsSteadyTurn two.first two.rest base last (subst (λ (l : List ℕ). AreSteadyTurns l base last) two.whole cut.2) in
      let w = cut_two.0 in
      let good_w = good_along two.first base w good_base cut_two.1 in
      let size_w = size_along two.first base w good_base cut_two.1 in
      let late : Late 983 w last = record {
        base = base;
        amid = amid;
        order = two.first;
        came = cut_two.1;
        windows = two.windows;
        ahead = record {
          good = good_w;
          order = two.rest;
          turns = cut_two.2;
          windows = subst (λ (z : Size). HasWindows z.nodes 983 two.rest) (sym size_w) two.later;
        };
      } in
      absurd (late_none n line w last (subst (λ (z : Size). n < z.nodes) (sym (size_w ∙ size)) some) late
      (kept_along pends n line two.first base w good_base cut_two.1 (kept_along pends n line one.first first base good cut.1 pending)))
]
