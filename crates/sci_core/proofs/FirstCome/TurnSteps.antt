-- Of every line, the node that is let in waits last, and the first of those who wait becomes the authority: of every step, and of
-- every schedule.
use Rattle.std.proofs.Common.{◌≡◌, ◌≢◌, ℕ, zero, suc, ◌+◌, ◌%◌, ◌<◌, ◌≤◌, not, ◌&&◌, Bool, true, false, if◌then◌else◌, List, [], ◌∷◌, ◌++◌, filter}
use Rattle.std.proofs.Common.{map, reverse, Option, Some, None, refl, sym, ap, subst, ◌∙◌, arith, inl, inr}
use Rattle.std.proofs.lemmas.Bool.{cases_Bool, cases_eq, eq-eqb, ne_eqb}
use Rattle.std.proofs.lemmas.List.{append_assoc, get_or-set_other, append-nil, reverse-append, reverse-reverse}
use Rattle.std.specs.{Prelude.{IfSome, slice_get, unwrap_or, ◌==◌}, List.{AllByRecursion, range_with_len}}
use Rattle.sci_words.specs.declared.{event.Event.{Event}, operation.Op.{Op}, stamped.Stamped.{Stamped}}
use Rattle.sci_history.specs.declared.entry.Entry.{Entry}
use Rattle.sci_packets.specs.declared.body.Body.{Body}
use Rattle.sci_home.specs.{declared.state.HomeState.{HomeState}, Serving.{head_of, home_serving as at_home}}
use Rattle.sci_cache.specs.{State.{CacheState}, Performing.{performing}, Serving.{serving}, Cache.{Letter, line_of}}
use Rattle.sci_core.specs.declared.lane.LaneKind.{LaneKind, TheVariants.{Requests, Answers}}
use Rattle.sci_core.specs.Core.{Core, lane_of, lane_place, node_at, opening, run, sent_by, step, stepping, with_lane, with_node}
use Rattle.sci_core.specs.FirstCome.{AreInTurn, AreWaiting, Before, IsInTurn, Nobody, entered, enters, entrant_by, entrants, is_authority, succeeded}
use Rattle.sci_core.specs.FirstCome.{successors}
use Rattle.sci_core.specs.Network.{Happens, Move, Overtakes, entered_by, entrants_in, moved, moved_from, overtaken, succeeded_by}
use Rattle.sci_core.specs.Node.{NodeOf, home_of, node_accepting, node_asking, node_issuing, node_performing, node_refusing, node_replying, node_serving}
use Rattle.sci_core.specs.{Reached.{IsReachable}, Sharing.{home_at}, SharingList.{IsListOf, IsSharingList, LinkedFrom}}
use Rattle.sci_core.specs.{Size.{IsSize, Size}, Tidy.{IsTidy}, WellFormed.{IsPart, IsWellFormed}}
use Rattle.sci_core.proofs.Step.Applied.{front_comes}
use Rattle.sci_core.proofs.Step.NodeSides.{At_home, In_cache, PerformedAs, ServedAs, perform_as}
use Rattle.sci_core.proofs.Step.{Sides.{steps_by_sides}, Steps.{Sent, Taken, lane_below}}
use Rattle.sci_core.proofs.Shape.{CacheShapes.{ServesAs, cache_serves}, Led.{IsLed, alike_same, role_in}}
use Rattle.sci_core.proofs.Shape.PerformShapes.{Moves, made_links, made_view}
use Rattle.sci_core.proofs.Shape.ShapeClauses.{authority_leads, leads_authority, leads_member, member_below, split_parts}
use Rattle.sci_core.proofs.Shape.Chains.{none_empty}
use Rattle.sci_core.proofs.Shape.ShapeRuns.{accept_stands, answered, ask_stands, issue_stands, opening_at_home, opening_shaped, operates_so, pending_known}
use Rattle.sci_core.proofs.Shape.ShapeRuns.{refuse_stands, reply_stands, serve_does}
use Rattle.sci_core.proofs.Shape.ShapeServes.{Answered, home_turns, other_line, served_shift, told_here, with_home, with_served}
use Rattle.sci_core.proofs.Shape.ShapeSteps.{SameLine, homes_same, overtaken_line, performed_moves, performed_same, view_of}
use Rattle.sci_core.proofs.Shape.Shapes.{IsShaped}
use Rattle.sci_core.proofs.Shape.Standings.{Coming, Leading, Leaves, Makes, Performs, Reads, performing_does}
use Rattle.sci_core.proofs.{Shape.Views.{View, link_in}, Settling.Drains.{TookFrom, made_by, some_node, took_from}}
use Rattle.sci_core.proofs.Basics.Options.{of_some}
use Rattle.sci_core.proofs.WellFormed.Parts.{RepliesWell, SendsWell, part_asking, part_replying}
use Rattle.sci_core.proofs.WellFormed.WellFormedSteps.{any_well, reachable_stepping, step_well, move_well, moved_happens, reachable_moved}
use Rattle.sci_core.proofs.{ReachedLaws.{any_shaped}, Tidy.TidyRuns.{any_tidy, run_reachable}}
use Rattle.sci_core.proofs.Tidy.WaitingNodes.{Answers as AnswersTo, serve_answers}
use Rattle.sci_core.proofs.FirstCome.Turns.{HomeTurns, One, Nobody as Unsucceeded, Succeeds, Turned, arrival_by, cache_turned, coming_ends, coming_in}
use Rattle.sci_core.proofs.FirstCome.Turns.{coming_more, home_turned, led_of, turned_alike, turned_same}
use Rattle.sci_words.specs.declared.event.Event.TheVariants as event
use Rattle.sci_packets.specs.declared.body.Body.TheVariants as body

-- ---- one list, one queue

-- links make one list
linked_once : (link : ℕ → Option (Option ℕ)) (first : Option ℕ) (ns ms : List ℕ) → LinkedFrom link first ns → LinkedFrom link first ms → ns ≡ ms
linked_once link first [] [] l k = refl
linked_once link first [] (m ∷ ms) l k = let e = k.0 in cc
linked_once link first (n ∷ ns) [] l k = let e = l.0 in cc
linked_once link first (n ∷ ns) (m ∷ ms) l k =
    let same : m ≡ n = (let e = l.0 in let f = k.0 in cc) in
    let next : k.1.0 ≡ l.1.0 = (let here : link n ≡ Some k.1.0 = ap link (sym same) ∙ k.1.1 in let there = l.1.1 in cc) in
    let rest = linked_once link l.1.0 ns ms l.1.2 (subst (λ (f : Option ℕ). LinkedFrom link f ms) next k.1.2) in
    ap (λ (i : ℕ). i ∷ ns) (sym same) ∙ ap (λ (xs : List ℕ). m ∷ xs) rest

-- a list that is led: those who come, the one that leads, and the rest
record Split (view : View) (ns : List ℕ) : Type 0 where
  pub leader : ℕ
  pub after : List ℕ
  pub whole : ns ≡ coming_in view ns ++ leader ∷ after
  pub leads : role_in view leader ≡ Some Leading

led_split : (view : View) (c : Stamped) (must : Bool) (ns : List ℕ) → IsLed view c must ns → Split view ns
led_split view c must [] led = elim led [ ]
led_split view c must (n ∷ ns) (front, inl leads) =
    record { leader = n; after = ns; whole = ap (λ (xs : List ℕ). xs ++ n ∷ ns) (sym (coming_ends view n ns leads.0)); leads = leads.0 }
led_split view c must (n ∷ ns) (front, inr comes) =
    let rest = led_split view c _ ns comes.1 in
    let more = coming_more view n ns comes.0 in
    record {
      leader = rest.leader;
      after = rest.after;
      whole = ap (λ (xs : List ℕ). n ∷ xs) rest.whole ∙ ap (λ (xs : List ℕ). xs ++ rest.leader ∷ rest.after) (sym more);
      leads = rest.leads;
    }

-- those who come before one that leads
coming_before : (view : View) (before : List ℕ) (a : ℕ) (after : List ℕ) → AllByRecursion (λ n. role_in view n ≡ Some Coming) before
    → role_in view a ≡ Some Leading → coming_in view (before ++ a ∷ after) ≡ before
coming_before view [] a after comes leads = coming_ends view a after leads
coming_before view (n ∷ before) a after comes leads = let rest = coming_before view before a after comes.1 leads in let here = comes.0 in cc

waiting_of : (core : Core) (line : ℕ) (home : HomeState) (c : Stamped) (ns : List ℕ) → home_at core line ≡ home → IsShaped (view_of core line) home c ns
    → AreWaiting core line (reverse (coming_in (view_of core line) ns))
waiting_of core line home c [] e is = Nobody (subst (λ (h : HomeState). IsListOf (link_in (view_of core line)) (head_of h) []) (sym e) is.list) refl
waiting_of core line home c (n ∷ ns) e is =
    let view = view_of core line in
    let led = led_of view home c (n ∷ ns) n is (inl refl) in
    let split = led_split view c led.0 (n ∷ ns) led.1 in
    let coming = coming_in view (n ∷ ns) in
    let list = subst (λ (h : HomeState). IsListOf (link_in view) (head_of h) (n ∷ ns)) (sym e) is.list in
    let whole : n ∷ ns ≡ reverse (reverse coming) ++ split.leader ∷ split.after =
    split.whole ∙ ap (λ (xs : List ℕ). xs ++ split.leader ∷ split.after) (sym (reverse-reverse coming)) in
    Before split.leader split.after (subst (IsSharingList core line) whole list) (leads_authority core line split.leader split.leads)

-- who waits is one list
waiting_are : (core : Core) (line : ℕ) (c : Stamped) (ns waiting : List ℕ) → IsShaped (view_of core line) (home_at core line) c ns
    → AreWaiting core line waiting → waiting ≡ reverse (coming_in (view_of core line) ns)
waiting_are core line c ns waiting is (Nobody list none) =
    let empty = linked_once (link_in (view_of core line)) (head_of (home_at core line)) ns [] is.list.linked list.linked in
    none ∙ ap (λ (xs : List ℕ). reverse (coming_in (view_of core line) xs)) (sym empty)
waiting_are core line c ns waiting is (Before a after list authority) =
    let view = view_of core line in
    let whole = linked_once (link_in view) (head_of (home_at core line)) ns (reverse waiting ++ a ∷ after) is.list.linked list.linked in
    let parts = split_parts core line (home_at core line) c ns (reverse waiting) a after is (record { whole = whole; authority = authority }) in
    let coming = ap (coming_in view) whole ∙ coming_before view (reverse waiting) a after parts.coming (authority_leads core line a authority) in
    sym (reverse-reverse waiting) ∙ ap reverse (sym coming)

-- ---- who becomes the authority

filter_none : (p : ℕ → Bool) (from count : ℕ) → ((n : ℕ) → p n ≡ false) → filter p (range_with_len from count) ≡ []
filter_none p from zero none = refl
filter_none p from (suc count) none =
    ap (λ (b : Bool). if b then from ∷ filter p (range_with_len (from + 1) count) else filter p (range_with_len (from + 1) count)) (none from)
    ∙ filter_none p (from + 1) count none

filter_past : (p : ℕ → Bool) (from count a : ℕ) → a < from → ((n : ℕ) → n ≢ a → p n ≡ false) → filter p (range_with_len from count) ≡ []
filter_past p from zero a past others = refl
filter_past p from (suc count) a past others =
    ap (λ (b : Bool). if b then from ∷ filter p (range_with_len (from + 1) count) else filter p (range_with_len (from + 1) count))
    (others from (λ e. absurd (omega arith))) ∙ filter_past p (from + 1) count a (omega arith) others

filter_only : (p : ℕ → Bool) (from count a : ℕ) → from ≤ a → a < from + count → p a ≡ true → ((n : ℕ) → n ≢ a → p n ≡ false)
    → filter p (range_with_len from count) ≡ a ∷ []
filter_only p from zero a low below here others = absurd (omega arith)
filter_only p from (suc count) a low below here others =
    let rest = filter p (range_with_len (from + 1) count) in
    elim (cases_eq from a) [
      | inl e ↦
          let none = filter_past p (from + 1) count a (omega arith) others in
          ap (λ (b : Bool). if b then from ∷ rest else rest) (ap p e ∙ here) ∙ (ap (λ (xs : List ℕ). from ∷ xs) none ∙ ap (λ (m : ℕ). m ∷ []) e)
      | inr ne ↦ ap (λ (b : Bool). if b then from ∷ rest else rest) (others from ne) ∙ filter_only p (from + 1) count a (omega arith) (omega arith) here others
    ]

-- a test that is true of leaders alone
test_of : (core : Core) (line n : ℕ) → (role_in (view_of core line) n ≡ Some Leading → ⊥) → is_authority core line n ≡ false
test_of core line n not = grind (arith, cases_Bool, authority_leads)

never : (b : Bool) → (b && false) ≡ false
never true = refl
never false = refl

not_new : (core new : Core) (line n : ℕ) → (role_in (view_of new line) n ≡ Some Leading → role_in (view_of core line) n ≡ Some Leading)
    → (not (is_authority core line n) && is_authority new line n) ≡ false
not_new core new line n so = grind (arith, cases_Bool, leads_authority, authority_leads, never)

successors_are : (core new : Core) (line : ℕ) (who : List ℕ) → IsWellFormed new → new.size ≡ core.size → Succeeds (view_of core line) (view_of new line) who
    → successors core new line ≡ who
successors_are core new line who well same (Unsucceeded none so) =
    filter_none (λ n. not (is_authority core line n) && is_authority new line n) 0 core.size.nodes (λ n. not_new core new line n (so n)) ∙ sym none
successors_are core new line who well same (One a one was now so) =
    let member = leads_member new line a now in
    let below : a < core.size.nodes = subst (λ (size : Size). a < size.nodes) same (member_below new line a member.0 well member.1) in
    let before : is_authority core line a ≡ false = test_of core line a was in
    let after : is_authority new line a ≡ true = leads_authority new line a now in
    let test : (not (is_authority core line a) && is_authority new line a) ≡ true = ap (λ (b : Bool). not b && is_authority new line a) before ∙ after in
    filter_only (λ n. not (is_authority core line n) && is_authority new line n) 0 core.size.nodes a (omega arith) (omega arith) test
    (λ n other. not_new core new line n (so n other)) ∙ sym one

-- ---- one event, of one line

abbrev TurnedAt : Core → Core → ℕ → List ℕ → List ℕ → Type 0
TurnedAt core new line ns arrival = Turned (view_of core line) (view_of new line) (head_of (home_at new line)) ns arrival

stood_turned : (core new : Core) (line : ℕ) (c : Stamped) (ns : List ℕ) → SameLine core new line → IsShaped (view_of core line) (home_at core line) c ns
    → TurnedAt core new line ns []
stood_turned core new line c ns same is = grind (arith, view_of, turned_alike)

-- an operation
left_turned : (old new : View) (first : Option ℕ) (ns : List ℕ) (q : ℕ) (op : Op) (c : Stamped) (next : CacheState) → Moves old new q next
    → Leaves (old.state q) op c next → IsListOf (link_in old) first ns → Turned old new first ns []
left_turned old new first ns q op c next moves (Reads load same) list =
    turned_alike old new first ns (λ n. alike_same old new n (elim (cases_eq n q) [
      | inl here ↦ ap new.state here ∙ (moves.here ∙ (same ∙ ap old.state (sym here)))
      | inr other ↦ moves.others n other
    ]) (moves.answers n)) list
left_turned old new first ns q op c next moves (Makes was is) list =
    let made = made_view old new q c _ next moves was is in
    turned_same old new first ns (made_links old new q c _ next moves was is) (λ n. elim (cases_eq n q) [
      | inl here ↦ ap (role_in new) here ∙ (made.leads ∙ (sym made.leading ∙ ap (role_in old) (sym here)))
      | inr other ↦ let state = moves.others n other in let answer = moves.answers n in cc
    ]) list

performed_turned : (core : Core) (n at : ℕ) (done : NodeOf × Entry) (does : PerformedAs (node_at core n) at done) → IsWellFormed core → IsTidy core
    → n < core.size.nodes → (line : ℕ) (c : Stamped) (ns : List ℕ) → IsShaped (view_of core line) (home_at core line) c ns
    → TurnedAt core (with_node core n done.0) line ns []
performed_turned core n at done does well tidy lt line c ns is =
    let new = with_node core n done.0 in
    let operates = operates_so core n at done does lt well in
    let op = does.pending.op in
    let state = (line_of (node_at core n).cache op.line).state in
    elim (cases_eq line op.line) [
      | inl here ↦
          let performs = of_some (Performs state op) (performing state op) does.did does.performs (performing_does state op) in
          let moves = performed_moves core n op.line op done.0 does.did operates performs lt (pending_known core n at done does lt well) tidy in
          let list = subst (λ (k : ℕ). IsListOf (link_in (view_of core k)) (head_of (home_at core k)) ns) here is.list in
          let turned = left_turned (view_of core op.line) (view_of new op.line) (head_of (home_at core op.line)) ns n op performs.contents does.did.next moves
          performs.leaves list in
          subst (λ (k : ℕ). TurnedAt core new k ns []) (sym here)
          (subst (λ (h : HomeState). Turned (view_of core op.line) (view_of new op.line) (head_of h) ns [])
          (sym (homes_same core n done.0 operates.homes op.line)) turned)
      | inr other ↦ stood_turned core new line c ns (performed_same core n op.line done.0 does.did operates line other) is
    ]

-- a request about another line lets nobody in
other_entrant : (line : ℕ) (request : Letter) → line ≢ request.line → entrant_by line (Some request) ≡ []
other_entrant line request other =
    ap (λ (b : Bool). if b && enters request.body then request.source ∷ [] else []) (ne_eqb request.line line (λ e. other (sym e)))

-- and so does one that a cache serves
cache_entrant : (state : CacheState) (n : ℕ) (request : Body) (served : CacheState × Body) → serving state n request ≡ Some served → enters request ≡ false
cache_entrant state n body.Mread served e = cc
cache_entrant state n body.Fread served e = cc
cache_entrant state n _ served e = refl

no_entrant : (line : ℕ) (request : Letter) → enters request.body ≡ false → entrant_by line (Some request) ≡ []
no_entrant line request not = ap (λ (b : Bool). if (request.line == line) && b then request.source ∷ [] else []) not
    ∙ ap (λ (b : Bool). if b then request.source ∷ [] else []) (never (request.line == line))

this_entrant : (line : ℕ) (request : Letter) → line ≡ request.line → entrant_by line (Some request) ≡ arrival_by request.source request.body
this_entrant line request here = ap (λ (b : Bool). if b && enters request.body then request.source ∷ [] else []) (eq-eqb request.line line (sym here))

-- a home serves
home_turned_at : (core : Core) (n place : ℕ) (request : Letter) (rest : List Letter) (served : HomeState × Body) → IsPart core.size n (node_at core n)
    → request.line % core.size.nodes ≡ n → Answered core n place (with_home (node_at core n) request served.0 served.1) request rest served.1
    → at_home (home_of (node_at core n) request.line) request.source request.body ≡ Some served → IsTidy core → (line : ℕ) (c : Stamped) (ns : List ℕ)
    → IsShaped (view_of core line) (home_at core line) c ns
    → TurnedAt core (with_lane (with_node core n (with_home (node_at core n) request served.0 served.1)) place rest) line ns (entrant_by line (Some request))
home_turned_at core n place request rest served part at is serves tidy line c ns shaped =
    let new = with_lane (with_node core n (with_home (node_at core n) request served.0 served.1)) place rest in
    let turn = home_turns core n place request rest served part at is tidy in
    let a = request.source in
    let on = request.line in
    elim (cases_eq line on) [
      | inl here ↦
          let home = home_of (node_at core n) on in
          let asker = (view_of core on).state a in
          let row = home_turned (on % core.size.nodes) a home (view_of core on) (view_of new on) asker request turn.sent in
          let turns = subst (λ (o : Option (HomeState × Body)).
          IfSome o (HomeTurns (view_of core on) (view_of new on) a asker home (arrival_by a request.body))) serves row in
          let list : IsListOf (link_in (view_of core on)) (head_of home) ns =
          subst (λ (h : HomeState). IsListOf (link_in (view_of core on)) (head_of h) ns) turn.was
          (subst (λ (k : ℕ). IsListOf (link_in (view_of core k)) (head_of (home_at core k)) ns) here shaped.list) in
          let then_ = turns turn.asks ns list in
          let moved : TurnedAt core new on ns (arrival_by a request.body) =
          subst (λ (h : HomeState). Turned (view_of core on) (view_of new on) (head_of h) ns (arrival_by a request.body)) (sym turn.now) then_ in
          subst (λ (xs : List ℕ). TurnedAt core new line ns xs) (sym (this_entrant line request here))
          (subst (λ (k : ℕ). TurnedAt core new k ns (arrival_by a request.body)) (sym here) moved)
      | inr other ↦ subst (λ (xs : List ℕ). TurnedAt core new line ns xs) (sym (other_entrant line request other))
          (stood_turned core new line c ns (turn.others line other) shaped)
    ]

-- a cache serves
served_apart : (core : Core) (n : ℕ) (request : Letter) (served : CacheState × Body) (j : ℕ) → j ≢ request.line
    → (line_of (with_served (node_at core n) request served.0 served.1).cache j).state ≡ (line_of (node_at core n).cache j).state
served_apart core n request served j apart = grind (arith, get_or-set_other)

cache_turned_at : (core : Core) (n place : ℕ) (request : Letter) (rest : List Letter) (served : CacheState × Body) → IsPart core.size n (node_at core n)
    → Answered core n place (with_served (node_at core n) request served.0 served.1) request rest served.1
    → serving (line_of (node_at core n).cache request.line).state request.source request.body ≡ Some served → IsTidy core
    → (line : ℕ) (c : Stamped) (ns : List ℕ) → IsShaped (view_of core line) (home_at core line) c ns
    → TurnedAt core (with_lane (with_node core n (with_served (node_at core n) request served.0 served.1)) place rest) line ns []
cache_turned_at core n place request rest served part is serves tidy line c ns shaped =
    let old = node_at core n in
    let next = with_served old request served.0 served.1 in
    let new = with_lane (with_node core n next) place rest in
    let on = request.line in
    let homes = homes_same core n next (record { homes = refl; nodes = refl }) in
    elim (cases_eq line on) [
      | inl here ↦
          let told_a = told_here core n place next request rest served.1 is tidy in
          let asker = (view_of core on).state request.source in
          let row = cache_serves (on % core.size.nodes) request.source n ((view_of core on).state n) asker request told_a.sent is.to in
          let serves_as = subst (λ (o : Option (CacheState × Body)). IfSome o (ServesAs request.source n asker ((view_of core on).state n))) serves row in
          let shift = served_shift core n place request rest served part is tidy in
          let shaped_on = subst (λ (k : ℕ). IsShaped (view_of core k) (home_at core k) c ns) here shaped in
          let then_ = cache_turned (view_of core on) (view_of new on) request.source n served (home_at core on) c ns shift serves_as shaped_on in
          subst (λ (k : ℕ). TurnedAt core new k ns []) (sym here)
          (subst (λ (h : HomeState). Turned (view_of core on) (view_of new on) (head_of h) ns []) (sym (homes on)) then_)
      | inr other ↦ stood_turned core new line c ns
          (other_line core n place next request rest served.1 is (served_apart core n request served) (λ j apart. homes j) line other) shaped
    ]

served_turned : (core new : Core) (t : Taken core new Requests node_serving) → IsWellFormed core → IsTidy core → IsPart core.size t.node t.next
    → ServedAs (node_at core t.node) t.letter t.next → (line : ℕ) (c : Stamped) (ns : List ℕ) → IsShaped (view_of core line) (home_at core line) c ns
    → TurnedAt core (with_lane (with_node core t.node t.next) t.place t.rest) line ns (entrant_by line (Some t.letter))
served_turned core new t well tidy is (At_home served asks serves e) line c ns shaped = grind (arith, of_some, serve_answers, home_turned_at, answered)
served_turned core new t well tidy is (In_cache served serves e) line c ns shaped =
    let part = node_at core t.node in
    let answers = of_some (AnswersTo core.size.nodes t.letter part) (node_serving part t.letter) t.next t.takes (serve_answers core.size.nodes part t.letter) in
    let next = subst (IsPart core.size t.node) (sym e) is in
    let none = no_entrant line t.letter (cache_entrant (line_of part.cache t.letter.line).state t.letter.source t.letter.body served serves) in
    subst (λ (x : NodeOf). TurnedAt core (with_lane (with_node core t.node x) t.place t.rest) line ns (entrant_by line (Some t.letter))) e
    (subst (λ (xs : List ℕ). TurnedAt core (with_lane (with_node core t.node (with_served part t.letter served.0 served.1)) t.place t.rest) line ns xs)
    (sym none)
    (cache_turned_at core t.node t.place t.letter t.rest served (well.each_part t.node t.some)
    (answered core new node_serving t _ served.1 well answers.free refl next) serves tidy line c ns shaped))

-- ---- every event

abbrev taken_of : (core new : Core) (kind : LaneKind) (n from : ℕ) (taking : NodeOf → Letter → Option NodeOf) → IsWellFormed core
    → TookFrom core new kind n from taking → Taken core new kind taking
taken_of core new kind n from taking well t = record {
  node = n;
  place = lane_place core.size.nodes kind from n;
  letter = t.took.letter;
  rest = t.took.rest;
  next = t.took.next;
  some = t.some;
  within = lane_below core kind from n well t.sender t.some;
  front = t.took.front;
  comes = front_comes core from n kind t.took.letter well t.sender t.some (ap (λ (lane : List Letter). slice_get lane 0) t.took.front);
  takes = t.took.takes;
  then_ = sym t.took.then_;
}

turned : (core new : Core) (e : Event) → IsWellFormed core → IsTidy core → stepping core e ≡ Some new → (line : ℕ) → line < core.size.lines
    → (c : Stamped) (ns : List ℕ) → IsShaped (view_of core line) (home_at core line) c ns → TurnedAt core new line ns (entrants core e line)
turned core new (event.Issue n op) well tidy steps line inside c ns is =
    let lt = some_node core new (event.Issue n op) steps in
    let made = made_by (with_node core n) (node_issuing (node_at core n) op) new (sym ((steps_by_sides core n lt).issue op) ∙ steps) in
    stood_turned core new line c ns (subst (λ (x : Core). SameLine core x line) (sym made.2) (issue_stands core n op made.0 well lt made.1 line)) is
turned core new (event.Perform n at) well tidy steps line inside c ns is =
    let lt = some_node core new (event.Perform n at) steps in
    let made = made_by (λ (done : NodeOf × Entry). with_node core n done.0) (node_performing (node_at core n) at) new
    (sym ((steps_by_sides core n lt).perform at) ∙ steps) in
    let does = of_some (PerformedAs (node_at core n) at) (node_performing (node_at core n) at) made.0 made.1 (perform_as (node_at core n) at) in
    subst (λ (x : Core). TurnedAt core x line ns []) (sym made.2) (performed_turned core n at made.0 does well tidy lt line c ns is)
turned core new (event.Ask n at kind) well tidy steps line inside c ns is =
    let lt = some_node core new (event.Ask n at kind) steps in
    let made = made_by (λ (s : NodeOf × Letter). sent_by core n Requests s.0 s.1) (node_asking (node_at core n) at kind) new
    (sym ((steps_by_sides core n lt).ask at kind) ∙ steps) in
    let sends_well = of_some (SendsWell core.size n) (node_asking (node_at core n) at kind) made.0 made.1
    (part_asking core.size n (node_at core n) at kind well.sizes.some_node lt (well.each_part n lt)) in
    let sent : Sent core new Requests n made.0 =
    record { some = lt; within = lane_below core Requests n made.0.1.target well lt sends_well.request.letter_ok.target; then_ = sym made.2 } in
    stood_turned core new line c ns (ask_stands core new n at kind made.0 well tidy made.1 sends_well sent line) is
turned core new (event.Serve from n) well tidy steps line inside c ns is =
    let from_ = took_from core new Requests from node_serving (event.Serve from n) refl steps in
    let took = from_.took in
    let t = taken_of core new Requests n from node_serving well from_ in
    let does = serve_does core new t well in
    let then_ = served_turned core new t well tidy does.0 does.1 line c ns is in
    let enabled : entrants core (event.Serve from n) line ≡ entrant_by line (slice_get (lane_of core Requests from n) 0) =
    ap (λ (o : Option Core). elim o as (λ _. List ℕ) [ None ↦ [] | Some x ↦ entrant_by line (slice_get (lane_of core Requests from n) 0) ]) steps in
    let who : entrants core (event.Serve from n) line ≡ entrant_by line (Some took.letter) =
    enabled ∙ ap (λ (lane : List Letter). entrant_by line (slice_get lane 0)) took.front in
    subst (λ (xs : List ℕ). TurnedAt core new line ns xs) (sym who)
    (subst (λ (x : Core). TurnedAt core x line ns (entrant_by line (Some took.letter))) (sym took.then_) then_)
turned core new (event.Refuse from n) well tidy steps line inside c ns is =
    let took = took_from core new Requests from node_refusing (event.Refuse from n) refl steps in
    stood_turned core new line c ns (refuse_stands core new (taken_of core new Requests n from node_refusing well took) well tidy line) is
turned core new (event.Reply n) well tidy steps line inside c ns is =
    let lt = some_node core new (event.Reply n) steps in
    let made = made_by (λ (s : NodeOf × Letter). sent_by core n Answers s.0 s.1) (node_replying (node_at core n)) new
    (sym (steps_by_sides core n lt).reply ∙ steps) in
    let sends_well = of_some (RepliesWell core.size n) (node_replying (node_at core n)) made.0 made.1
    (part_replying core.size n (node_at core n) (well.each_part n lt)) in
    let sent : Sent core new Answers n made.0 =
    record { some = lt; within = lane_below core Answers n made.0.1.target well lt sends_well.answer.letter_ok.target; then_ = sym made.2 } in
    stood_turned core new line c ns (reply_stands core new n made.0 well tidy made.1 sends_well sent line inside) is
turned core new (event.Accept from n) well tidy steps line inside c ns is =
    let took = took_from core new Answers from node_accepting (event.Accept from n) refl steps in
    stood_turned core new line c ns (accept_stands core new (taken_of core new Answers n from node_accepting well took) well tidy line) is

-- ---- steps

either : (b : Bool) (n : ℕ) → reverse (if b then n ∷ [] else []) ≡ (if b then n ∷ [] else [])
either true n = refl
either false n = refl

reverse_arrival : (line : ℕ) (letter : Option Letter) → reverse (entrant_by line letter) ≡ entrant_by line letter
reverse_arrival line None = refl
reverse_arrival line (Some request) = either ((request.line == line) && enters request.body) request.source

reverse_served : (next : Option Core) (line : ℕ) (letter : Option Letter)
    → reverse (elim next as (λ _. List ℕ) [ None ↦ [] | Some new ↦ entrant_by line letter ])
    ≡ (elim next as (λ _. List ℕ) [ None ↦ [] | Some new ↦ entrant_by line letter ])
reverse_served None line letter = refl
reverse_served (Some new) line letter = reverse_arrival line letter

reverse_entrants : (core : Core) (e : Event) (line : ℕ) → reverse (entrants core e line) ≡ entrants core e line
reverse_entrants core (event.Serve from n) line = reverse_served (stepping core (event.Serve from n)) line (slice_get (lane_of core Requests from n) 0)
reverse_entrants core (event.Issue n op) line = refl
reverse_entrants core (event.Perform n at) line = refl
reverse_entrants core (event.Ask n at kind) line = refl
reverse_entrants core (event.Refuse from n) line = refl
reverse_entrants core (event.Reply n) line = refl
reverse_entrants core (event.Accept from n) line = refl

reverse_successor : (old new : View) (who : List ℕ) → Succeeds old new who → reverse who ≡ who
reverse_successor old new who (Unsucceeded none so) = ap (λ (xs : List ℕ). reverse xs) none ∙ sym none
reverse_successor old new who (One a one was now so) = ap (λ (xs : List ℕ). reverse xs) one ∙ sym one

-- the queue, its first first
turned_round : (old new : View) (first : Option ℕ) (ns arrival : List ℕ) (t : Turned old new first ns arrival) → reverse arrival ≡ arrival
    → reverse (coming_in old ns) ++ arrival ≡ t.successor ++ reverse (coming_in new t.nodes)
turned_round old new first ns arrival t single = grind (arith, reverse-append, coming_in, reverse_successor)

-- from how a line's list has turned, with the node that arrives
turned_so : (core new : Core) (line : ℕ) (waiting then_ arrival : List ℕ) → IsReachable core → IsReachable new → line < core.size.lines
    → new.size ≡ core.size → reverse arrival ≡ arrival
    → ((c : Stamped) (ns : List ℕ) → IsShaped (view_of core line) (home_at core line) c ns → TurnedAt core new line ns arrival)
    → AreWaiting core line waiting → AreWaiting new line then_ → waiting ++ arrival ≡ successors core new line ++ then_
turned_so core new line waiting then_ arrival reached next inside same single turns are now =
    let was = any_shaped core reached line inside in
    let is = any_shaped new next line (subst (λ (size : Size). line < size.lines) (sym same) inside) in
    let t = turns was.0 was.1.0 was.1.1 in
    let round = turned_round (view_of core line) (view_of new line) (head_of (home_at new line)) was.1.0 arrival t single in
    let one = linked_once (link_in (view_of new line)) (head_of (home_at new line)) is.1.0 t.nodes is.1.1.list.linked t.list.linked in
    let before = waiting_are core line was.0 was.1.0 waiting was.1.1 are in
    let after = waiting_are new line is.0 is.1.0 then_ is.1.1 now in
    let who = successors_are core new line t.successor (any_well new next) same t.succeeds in
    let there : then_ ≡ reverse (coming_in (view_of new line) t.nodes) = after ∙ ap (λ (xs : List ℕ). reverse (coming_in (view_of new line) xs)) one in
    ap (λ (xs : List ℕ). xs ++ arrival) before
    ∙ (round ∙ (ap (λ (xs : List ℕ). xs ++ reverse (coming_in (view_of new line) t.nodes)) (sym who)
    ∙ ap (λ (xs : List ℕ). successors core new line ++ xs) (sym there)))

stepped_turn : (core new : Core) (e : Event) (line : ℕ) (waiting then_ : List ℕ) → IsReachable core → stepping core e ≡ Some new → IsReachable new
    → line < core.size.lines → new.size ≡ core.size → AreWaiting core line waiting → AreWaiting new line then_
    → waiting ++ entrants core e line ≡ successors core new line ++ then_
stepped_turn core new e line waiting then_ reached steps next inside same are now =
    turned_so core new line waiting then_ (entrants core e line) reached next inside same (reverse_entrants core e line)
    (λ c ns is. turned core new e (any_well core reached) (any_tidy core reached) steps line inside c ns is) are now

-- an event that isn't enabled lets nobody in
unmoved_entrants : (core : Core) (e : Event) (line : ℕ) → stepping core e ≡ None → entrants core e line ≡ []
unmoved_entrants core (event.Serve from n) line none =
    ap (λ (o : Option Core). elim o as (λ _. List ℕ) [ None ↦ [] | Some x ↦ entrant_by line (slice_get (lane_of core Requests from n) 0) ]) none
unmoved_entrants core (event.Issue n op) line none = refl
unmoved_entrants core (event.Perform n at) line none = refl
unmoved_entrants core (event.Ask n at kind) line none = refl
unmoved_entrants core (event.Refuse from n) line none = refl
unmoved_entrants core (event.Reply n) line none = refl
unmoved_entrants core (event.Accept from n) line none = refl

unmoved_turn : (core : Core) (e : Event) (line : ℕ) (waiting then_ : List ℕ) → IsReachable core → stepping core e ≡ None → line < core.size.lines
    → AreWaiting core line waiting → AreWaiting core line then_ → waiting ++ entrants core e line ≡ successors core core line ++ then_
unmoved_turn core e line waiting then_ reached none inside are now =
    let shaped = any_shaped core reached line inside in
    let before = waiting_are core line shaped.0 shaped.1.0 waiting shaped.1.1 are in
    let after = waiting_are core line shaped.0 shaped.1.0 then_ shaped.1.1 now in
    let who = successors_are core core line [] (any_well core reached) refl (Unsucceeded refl (λ n leads. leads)) in
    ap (λ (xs : List ℕ). waiting ++ xs) (unmoved_entrants core e line none)
    ∙ (append-nil waiting ∙ (before ∙ (sym after ∙ ap (λ (xs : List ℕ). xs ++ then_) (sym who))))

any_turn : (core : Core) (e : Event) (line : ℕ) (waiting then_ : List ℕ) (next : Option Core) → IsReachable core → stepping core e ≡ next
    → line < core.size.lines → AreWaiting core line waiting → AreWaiting (unwrap_or next core) line then_
    → waiting ++ entrants core e line ≡ successors core (unwrap_or next core) line ++ then_
any_turn core e line waiting then_ None reached is inside are now = unmoved_turn core e line waiting then_ reached is inside are now
any_turn core e line waiting then_ (Some new) reached is inside are now =
    let kept = step_well core e (any_well core reached) in
    let same : new.size ≡ core.size = ap (λ (o : Option Core). (unwrap_or o core).size) (sym is) ∙ kept.same in
    stepped_turn core new e line waiting then_ reached is (reachable_stepping core new e reached is) inside same are now

pub step_turns : (core : Core) (e : Event) (line : ℕ) (waiting then_ : List ℕ) → IsReachable core → line < core.size.lines → AreWaiting core line waiting
    → AreWaiting (step core e) line then_ → IsInTurn core e line waiting then_
step_turns core e line waiting then_ reached inside are now = any_turn core e line waiting then_ (stepping core e) reached refl inside are now

-- ---- schedules

-- those who wait on a line of a reached state
pub any_waiting : (core : Core) (line : ℕ) → IsReachable core → line < core.size.lines → (waiting : List ℕ) × AreWaiting core line waiting
any_waiting core line reached inside =
    let shaped = any_shaped core reached line inside in
    (reverse (coming_in (view_of core line) shaped.1.0), waiting_of core line (home_at core line) shaped.0 shaped.1.0 refl shaped.1.1)

-- over a network that keeps no order
move_turns : (core : Core) (move : Move) (line : ℕ) (waiting then_ : List ℕ) → IsReachable core → IsReachable (moved core move) → line < core.size.lines
    → AreWaiting core line waiting → AreWaiting (moved core move) line then_
    → waiting ++ entrants_in core move line ≡ successors core (moved core move) line ++ then_
move_turns core (Happens e) line waiting then_ reached next inside are now = step_turns core e line waiting then_ reached inside are now
move_turns core (Overtakes place k) line waiting then_ reached next inside are now =
    turned_so core (overtaken core place k) line waiting then_ [] reached next inside refl refl
    (λ c ns is. stood_turned core (overtaken core place k) line c ns
    (overtaken_line core place k line (any_well core reached) (any_tidy core reached) inside) is)
    are now

-- from any state on
moves_turn : (core : Core) (moves : List Move) (line : ℕ) (waiting then_ : List ℕ) → IsReachable core → line < core.size.lines
    → AreWaiting core line waiting → AreWaiting (moved_from core moves) line then_
    → waiting ++ entered_by core moves line ≡ succeeded_by core moves line ++ then_
moves_turn core [] line waiting then_ reached inside are now =
    let shaped = any_shaped core reached line inside in
    append-nil waiting ∙ (waiting_are core line shaped.0 shaped.1.0 waiting shaped.1.1 are
    ∙ sym (waiting_are core line shaped.0 shaped.1.0 then_ shaped.1.1 now))
moves_turn core (move ∷ moves) line waiting then_ reached inside are now =
    let next = reachable_moved core move reached in
    let kept = move_well core move (any_well core reached) in
    let below : line < (moved core move).size.lines = subst (λ (size : Size). line < size.lines) (sym kept.same) inside in
    let mid = any_waiting (moved core move) line next below in
    let first = move_turns core move line waiting mid.0 reached next inside are mid.1 in
    let rest = moves_turn (moved core move) moves line mid.0 then_ next below mid.1 now in
    let who = successors core (moved core move) line in
    sym (append_assoc waiting (entrants_in core move line) (entered_by (moved core move) moves line))
    ∙ (ap (λ (xs : List ℕ). xs ++ entered_by (moved core move) moves line) first
    ∙ (append_assoc who mid.0 (entered_by (moved core move) moves line)
    ∙ (ap (λ (xs : List ℕ). who ++ xs) rest ∙ sym (append_assoc who (succeeded_by (moved core move) moves line) then_))))

-- from the opening on
pub moves_in_turn : (size : Size) (moves : List Move) (line : ℕ) (waiting : List ℕ) → IsSize size → line < size.lines
    → AreWaiting (moved_from (opening size) moves) line waiting
    → entered_by (opening size) moves line ≡ succeeded_by (opening size) moves line ++ waiting
moves_in_turn size moves line waiting sizes inside now =
    let shaped = opening_shaped size line in
    let empty = none_empty (link_in (view_of (opening size) line)) (head_of (home_at (opening size) line)) shaped.0
    (ap head_of (opening_at_home size (line % size.nodes) line)) shaped.1.list in
    moves_turn (opening size) moves line [] waiting (run_reachable size [] sizes) inside
    (Nobody (subst (IsSharingList (opening size) line) empty shaped.1.list) refl) now

-- of a schedule, whose events are moves
entered_happen : (core : Core) (events : List Event) (line : ℕ) → entered_by core (map Happens events) line ≡ entered core events line
entered_happen core [] line = refl
entered_happen core (e ∷ events) line = ap (λ (xs : List ℕ). entrants core e line ++ xs) (entered_happen (step core e) events line)

succeeded_happen : (core : Core) (events : List Event) (line : ℕ) → succeeded_by core (map Happens events) line ≡ succeeded core events line
succeeded_happen core [] line = refl
succeeded_happen core (e ∷ events) line = ap (λ (xs : List ℕ). successors core (step core e) line ++ xs) (succeeded_happen (step core e) events line)

pub all_turns : (size : Size) (schedule : List Event) (line : ℕ) (waiting : List ℕ) → IsSize size → line < size.lines
    → AreWaiting (run size schedule) line waiting → AreInTurn size schedule line waiting
all_turns size schedule line waiting sizes inside now =
    let moves = map Happens schedule in
    let there = subst (λ (core : Core). AreWaiting core line waiting) (sym (moved_happens (opening size) schedule)) now in
    sym (entered_happen (opening size) schedule line)
    ∙ (moves_in_turn size moves line waiting sizes inside there ∙ ap (λ (xs : List ℕ). xs ++ waiting) (succeeded_happen (opening size) schedule line))
