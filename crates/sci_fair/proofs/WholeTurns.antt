-- A whole turn of a node raises no level, if nothing could be performed at the node when it began. Of the events of the turn only a
-- Purge of a load may raise it. The node that purges the line has asked before the turn began, so the line followed then: it was
-- Below, where the load could be performed, or Rolling, which has a higher rank than what is left in the end.
use Rattle.std.proofs.Common.{◌≡◌, ◌≢◌, ◌≤◌, ◌<◌, ◌/◌, ◌%◌, ◌⊎◌, ℕ, zero, suc, Bool, true, false, ◌||◌, ◌&&◌, ◌+◌, if◌then◌else◌, cond}
use Rattle.std.proofs.Common.{arith, List, [], ◌∷◌, ◌++◌, filter, get_or, length}
use Rattle.std.proofs.Common.{Ok, Option, Some, None, refl, sym, ap, subst, ◌∙◌, inl, inr, rules, get_or-set_same, All}
use Rattle.std.proofs.lemmas.{Bool.{cases_eq, leb-true}, List.{append_assoc, Elements.{All-head}}}
use Rattle.std.specs.{Prelude.{IfSome, nat_le, option_to_list}, List.{AllByRecursion, flat_map}}
use Rattle.sci_history.specs.Seen.{IsAmong}
use Rattle.sci_words.specs.declared.event.{AskKind.{AskKind}, Event.{Event}}
use Rattle.sci_words.specs.declared.stamped.Stamped.{Stamped}
use Rattle.sci_packets.specs.{declared.body.Body.{Body, TheVariants.{Purge}}, Table.{is_request}}
use Rattle.sci_cache.specs.{State.{CacheState, Out, Below, Purging, waits}, Accepting.{accepting}, Asking.{Asked, asking}, Serving.{serving}}
use Rattle.sci_cache.specs.{Line.{LineState, untouched}, Cache.{Letter, line_of, with_line}}
use Rattle.sci_core.specs.declared.lane.LaneKind.{TheVariants.{Answers, Requests}}
use Rattle.sci_core.specs.Core.{Core, lane_at, lane_of, lane_place, node_at, node_of, side, stepping, with_lane, with_node}
use Rattle.sci_core.specs.Node.{NodeOf, node_accepting, node_asking, node_refusing, node_replying, node_serving, pending_on}
use Rattle.sci_core.specs.{Reached.{IsReached}, Shape.{follows, state_at}, Sharing.{answer_in, answer_to, is_about, packets_of, under_way}, Size.{Size}}
use Rattle.sci_core.specs.{Tidy.{HasItsPackets, IsAwaited, IsSentIn}, WellFormed.{IsInLane}}
use Rattle.sci_core.proofs.Basics.{Lists.{at_place_set}, Options.{of_some}}
use Rattle.sci_core.proofs.Step.NodeSides.{AcceptedAs, At_home, In_cache, RefusedAs, ServedAs, accept_as, refuse_as, reply_as, serve_as}
use Rattle.sci_core.proofs.Step.Places.{place_from, place_requests, place_to}
use Rattle.sci_core.proofs.{Step.Steps.{lane_below}, Tidy.{TidyRuns.{reached_tidy}, TidySteps.{about_from, request_asker}}}
use Rattle.sci_core.proofs.WellFormed.WellFormedSteps.{reached_stepping, reached_well, size_either}
use Rattle.sci_policy.specs.{Lines.{state_on}, Policy.{PolicyOf, has}}
use Rattle.sci_policy.proofs.Targets.{asked_target}
use Rattle.sci_turn.{specs.Moves.{IsOwn, Leads}, proofs.Working.{other_stays, stepped}}
use Rattle.sci_fair.specs.{Rank.{CannotPerform, can_perform, counts_use, is_excepted, level, level_on, rank, work_in, work_on}, Reads.{ReadsFit}}
use Rattle.sci_fair.proofs.{Followers.{purge_finds}, Looks.{Spared, SparesFrom, set_spares, step_spares}, RankSteps.{event_kept}}
use Rattle.sci_fair.proofs.ReadCarries.{AsksAs, ask_as, changed_by}
use Rattle.sci_fair.proofs.ReadSteps.{turn_reads}
use Rattle.sci_fair.proofs.{Taking.{TookFront, sent_out, took}}
use Rattle.sci_words.specs.declared.event.Event.TheVariants as event

-- ---- the tables

abbrev is_below : CacheState → Bool
is_below (Below f b c) = true
is_below _ = false

pub excepted_load : (work : Option Bool) (old new : CacheState) → is_excepted work old new ≡ true → work ≡ Some false
excepted_load work old new is = search rules

pub excepted_below : (work : Option Bool) (old new : CacheState) → is_excepted work old new ≡ true → is_below old ≡ true
excepted_below work old new is = search rules

pub excepted_out : (work : Option Bool) (old new : CacheState) → is_excepted work old new ≡ true → new ≡ Out
excepted_out work old new is = search rules

below_stays : (state : CacheState) → is_below state ≡ true → state ≡ Out → ⊥
below_stays state below out = search rules

below_idle : (state : CacheState) → is_below state ≡ true → waits state ≡ false
below_idle state below = search rules

below_served : (state : CacheState) (n : ℕ) (body : Body) → is_below state ≡ true
    → IfSome (serving state n body) (λ (served : CacheState × Body). served.0 ≡ Out → body ≡ Purge)
below_served state n body below = search rules

below_accepts : (state : CacheState) (answer : Body) → is_below state ≡ true → accepting state answer ≡ None
below_accepts state answer below = search rules

asks_out : (state : CacheState) (k : AskKind) → IfSome (asking state k) (λ (asked : Asked). asked.next ≡ Out → ⊥)
asks_out state k = search rules

-- a load that follows, and can't be performed, is on a line with a rank above that of a line with no entry
follows_high : (state : CacheState) → follows state ≡ true → can_perform (Some false) state ≡ false → nat_le 6 (rank (Some false) state) ≡ true
follows_high state is cannot = search rules

-- ---- how a line that is Below comes to be Out

-- the front of a lane of requests asks node n to leave the list of a line
pub record IsPurged (core : Core) (n line : ℕ) : Type 0 where
  pub from : ℕ
  pub sender : from < core.size.nodes
  pub letter : Letter
  pub rest : List Letter
  pub front : lane_of core Requests from n ≡ letter ∷ rest
  pub about : letter.line ≡ line
  pub purge : letter.body ≡ Purge

-- only the line that has changed
line_out : (node : NodeOf) (at : ℕ) (part : LineState) (k : ℕ) → is_below (state_on node k) ≡ true → (line_of (with_line node.cache at part) k).state ≡ Out
    → (k ≡ at) × (part.state ≡ Out)
line_out node at part =
    at_place_set (λ (k : ℕ) (l : LineState). is_below (state_on node k) ≡ true → l.state ≡ Out → (k ≡ at) ×
    (part.state ≡ Out)) node.cache.lines at part untouched
    (λ k below out. absurd (below_stays (state_on node k) below out)) (λ below out. (refl, out))

same_below : (node next : NodeOf) (line : ℕ) → state_on next line ≡ state_on node line → is_below (state_on node line) ≡ true → state_on next line ≡ Out → ⊥
same_below node next line same below out = below_stays (state_on node line) below (sym same ∙ out)

served_out : (node next : NodeOf) (request : Letter) (line : ℕ) → ServedAs node request next → is_below (state_on node line) ≡ true → state_on next line ≡ Out
    → (line ≡ request.line) × (request.body ≡ Purge)
served_out node next request line (At_home served home is made) below out =
    absurd (same_below node next line (ap (λ (part : NodeOf). state_on part line) (sym made)) below out)
served_out node next request line (In_cache served is made) below out = grind (arith, line_out, of_some, below_served)

accepted_out : (node next : NodeOf) (answer : Letter) (line : ℕ) → AcceptedAs node answer next → is_below (state_on node line) ≡ true → state_on next line ≡ Out
    → ⊥
accepted_out node next answer line does below out = grind (arith, line_out, below_accepts)

asked_out : (node : NodeOf) (at : ℕ) (k : AskKind) (sent : NodeOf × Letter) (line : ℕ) → AsksAs node at k sent → is_below (state_on node line) ≡ true
    → state_on sent.0 line ≡ Out → ⊥
asked_out node at k sent line told below out = grind (arith, line_out, of_some, asks_out)

pub purged_by : (core new : Core) (n : ℕ) (before after : PolicyOf) (e : Event) → IsReached core → n < core.size.nodes → IsOwn n before core e after
    → stepping core e ≡ Some new → (line : ℕ) → is_below (state_on (node_at core n) line) ≡ true → state_on (node_at new n) line ≡ Out → IsPurged core n line
purged_by core new n before after (event.Serve from i) reached some own steps line below out =
    let node = node_at core n in
    let front = took core new n from Requests (node_serving node)
    (stepped core new n (event.Serve from i) (side node (event.Serve from i)) some own.kind.own refl steps)
    in
    let does = of_some (ServedAs node front.letter) (node_serving node front.letter) front.next front.takes (serve_as node front.letter) in
    let changed = changed_by core new n front.next reached some (λ k. ap (λ (c : Core). node_at c k) (sym front.made)) in
    let purge = served_out node front.next front.letter line does below (ap (λ (part : NodeOf). state_on part line) (sym changed.own) ∙ out) in
    record { from = from; sender = front.sender; letter = front.letter; rest = front.rest; front = front.front; about = sym purge.0; purge = purge.1 }
purged_by core new n before after (event.Refuse from i) reached some own steps line below out =
    let node = node_at core n in
    let front = took core new n from Requests (node_refusing node)
    (stepped core new n (event.Refuse from i) (side node (event.Refuse from i)) some own.kind.own refl steps)
    in
    let does = of_some (RefusedAs node front.letter) (node_refusing node front.letter) front.next front.takes (refuse_as node front.letter) in
    let changed = changed_by core new n front.next reached some (λ k. ap (λ (c : Core). node_at c k) (sym front.made)) in
    absurd (same_below node (node_at new n) line (ap (λ (part : NodeOf). state_on part line) (changed.own ∙ sym does.then_)) below out)
purged_by core new n before after (event.Accept from i) reached some own steps line below out =
    let node = node_at core n in
    let front = took core new n from Answers (node_accepting node)
    (stepped core new n (event.Accept from i) (side node (event.Accept from i)) some own.kind.own refl steps)
    in
    let does = of_some (AcceptedAs node front.letter) (node_accepting node front.letter) front.next front.takes (accept_as node front.letter) in
    let changed = changed_by core new n front.next reached some (λ k. ap (λ (c : Core). node_at c k) (sym front.made)) in
    absurd (accepted_out node front.next front.letter line does below (ap (λ (part : NodeOf). state_on part line) (sym changed.own) ∙ out))
purged_by core new n before after (event.Reply i) reached some own steps line below out =
    let node = node_at core n in
    let sent = sent_out core new n Answers (node_replying node) (stepped core new n (event.Reply i) (side node (event.Reply i)) some own.kind.own refl steps) in
    let does = of_some (λ (s : NodeOf × Letter). (record node { waiting = None }) ≡ s.0) (node_replying node) sent.sent sent.there (reply_as node) in
    let changed = changed_by core new n sent.sent.0 reached some (λ k. ap (λ (c : Core). node_at c k) (sym sent.made)) in
    absurd (same_below node (node_at new n) line (ap (λ (part : NodeOf). state_on part line) (changed.own ∙ sym does)) below out)
purged_by core new n before after (event.Ask i at k) reached some own steps line below out =
    let node = node_at core n in
    let sent = sent_out core new n Requests (node_asking node at k)
    (stepped core new n (event.Ask i at k) (side node (event.Ask i at k)) some own.kind.own refl steps) in
    let made = of_some (AsksAs node at k) (node_asking node at k) sent.sent sent.there (ask_as node at k) in
    let changed = changed_by core new n sent.sent.0 reached some (λ j. ap (λ (c : Core). node_at c j) (sym sent.made)) in
    absurd (asked_out node at k sent.sent line made below (ap (λ (part : NodeOf). state_on part line) (sym changed.own) ∙ out))
purged_by core new n before after (event.Issue i op) reached some own steps line below out = let no = own.kind.kind in cc
purged_by core new n before after (event.Perform i at) reached some own steps line below out = let no = own.kind.kind in cc

-- ---- a packet that is under way is among its line's

pub among_left : {X : Type 0} (x : X) (xs ys : List X) → IsAmong x xs → IsAmong x (xs ++ ys)
among_left x [] ys among = elim among [ ]
among_left x (y ∷ xs) ys (inl same) = inl same
among_left x (y ∷ xs) ys (inr among) = inr (among_left x xs ys among)

pub among_right : {X : Type 0} (x : X) (xs ys : List X) → IsAmong x ys → IsAmong x (xs ++ ys)
among_right x [] ys among = among
among_right x (y ∷ xs) ys among = inr (among_right x xs ys among)

pub among_flat : {X Y : Type 0} (f : X → List Y) (xs : List X) (i : ℕ) (d : X) (y : Y) → i < length xs → IsAmong y (f (get_or xs i d))
    → IsAmong y (flat_map f xs)
among_flat f [] i d y below among = absurd (omega (arith, below))
among_flat f (x ∷ xs) zero d y below among = among_left y (f x) (flat_map f xs) among
among_flat f (x ∷ xs) (suc i) d y below among = among_right y (f x) (flat_map f xs) (among_flat f xs i d y (omega (arith, below)) among)

among_if : {X : Type 0} (x y : X) (b : Bool) (xs : List X) → (x ≡ y → b ≡ true) → (x ≡ y) ⊎ IsAmong x xs → IsAmong x (cond b (y ∷ xs) xs)
among_if x y true xs keeps (inl same) = inl same
among_if x y true xs keeps (inr among) = inr among
among_if x y false xs keeps (inl same) = let clash : false ≡ true = keeps same in cc
among_if x y false xs keeps (inr among) = among

pub among_kept : {X : Type 0} (p : X → Bool) (x : X) (xs : List X) → p x ≡ true → IsAmong x xs → IsAmong x (filter p xs)
among_kept p x [] keeps among = elim among [ ]
among_kept p x (y ∷ xs) keeps (inl same) = among_if x y (p y) (filter p xs) (λ is. ap p (sym is) ∙ keeps) (inl same)
among_kept p x (y ∷ xs) keeps (inr among) = among_if x y (p y) (filter p xs) (λ is. ap p (sym is) ∙ keeps) (inr (among_kept p x xs keeps among))

-- what waits has one packet under way
pub record IsSole (home : ℕ) (line : LineState) (packets : List Letter) (letter : Letter) : Type 0 where
  pub one : packets ≡ letter ∷ []
  pub awaited : IsAwaited home line letter

pub sole : (home : ℕ) (line : LineState) (packets : List Letter) (letter : Letter) → HasItsPackets home line packets → IsAmong letter packets
    → IsSole home line packets letter
sole home line [] letter has among = elim among [ ]
sole home line (x ∷ []) letter has (inl same) = grind arith
sole home line (x ∷ []) letter has (inr among) = elim among [ ]
sole home line (x ∷ y ∷ packets) letter has among = elim has [ ]

pub sent_purge : (home : ℕ) (state : CacheState) (letter : Letter) → IsSentIn home state letter → letter.body ≡ Purge → (c : Stamped) ×
    (state ≡ Purging letter.target c)
sent_purge home (Purging q c) letter sent purge = (c, ap (λ (k : ℕ). Purging k c) (sym sent.1))
sent_purge home state letter sent purge = absurd (grind arith)

pub request_alone : (letter : Letter) → is_request letter.body ≡ true → answer_in (letter ∷ []) ≡ None
request_alone letter asks = ap (λ (b : Bool). cond b None (Some letter.body)) asks

-- ---- lanes of requests to the node only lose their fronts

askers_apart : (nodes j n to : ℕ) → j < nodes → n < nodes → to < nodes → j ≢ n → lane_place nodes Requests j n ≢ lane_place nodes Requests n to
askers_apart nodes j n to f t below other = λ same.
    other (sym (place_from nodes Requests j n f t) ∙ (ap (λ (p : ℕ). p / nodes % nodes) same ∙ place_from nodes Requests n to t below))

-- what a lane has lost
abbrev pub HasLost : List Letter → List Letter → Type 0
HasLost old new = (taken : List Letter) × (old ≡ taken ++ new)

spared_lost : (old new : Core) (j n : ℕ) → Spared old new (lane_place old.size.nodes Requests j n) → HasLost (lane_of old Requests j n)
    (lane_of new Requests j n)
spared_lost old new j n spared =
    ([], sym (ap (λ (z : Size). lane_at new (lane_place z.nodes Requests j n)) spared.size ∙ spared.lane))

pub front_lost : (core new : Core) (j n : ℕ) (next : NodeOf) (letter : Letter) (rest : List Letter) → IsReached core → j < core.size.nodes → n < core.size.nodes
    → lane_of core Requests j n ≡ letter ∷ rest → with_lane (with_node core n next) (lane_place core.size.nodes Requests j n) rest ≡ new
    → HasLost (lane_of core Requests j n) (lane_of new Requests j n)
front_lost core new j n next letter rest reached f t front made =
    let place = lane_place core.size.nodes Requests j n in
    let here : lane_of new Requests j n ≡ rest =
    ap (λ (c : Core). lane_of c Requests j n) (sym made)
    ∙ get_or-set_same core.lanes place rest [] (lane_below core Requests j n (reached_well core reached) f t) in
    (letter ∷ [], front ∙ ap (λ (l : List Letter). letter ∷ l) (sym here))

module _ (core new : Core) (n j : ℕ) (reached : IsReached core) (some : n < core.size.nodes) (f : j < core.size.nodes) (apart : j ≢ n) where
  taken_lost : (e : Event) (from : ℕ) (taking : Letter → Option NodeOf) → node_of e ≡ n → (from ≢ j → SparesFrom j e) → stepping core e ≡ Some new
      → TookFront core new n from Requests taking → HasLost (lane_of core Requests j n) (lane_of new Requests j n)
  taken_lost e from taking own spares steps front = elim (cases_eq from j) [
    | inl same ↦
        front_lost core new j n front.next front.letter front.rest reached f some
        (subst (λ (i : ℕ). lane_of core Requests i n ≡ front.letter ∷ front.rest) same front.front)
        (subst (λ (i : ℕ). with_lane (with_node core n front.next) (lane_place core.size.nodes Requests i n) front.rest ≡ new) same front.made)
    | inr other ↦ spared_lost core new j n (step_spares core new n j e f some own (spares other) steps)
  ]

  lost_by : (before after : PolicyOf) (e : Event) → IsOwn n before core e after → stepping core e ≡ Some new
      → HasLost (lane_of core Requests j n) (lane_of new Requests j n)
  lost_by before after (event.Serve from i) own steps =
      let node = node_at core n in
      taken_lost (event.Serve from i) from (node_serving node) own.kind.own (λ other. other) steps
      (took core new n from Requests (node_serving node)
      (stepped core new n (event.Serve from i) (side node (event.Serve from i)) some own.kind.own refl steps))
  lost_by before after (event.Refuse from i) own steps =
      let node = node_at core n in
      taken_lost (event.Refuse from i) from (node_refusing node) own.kind.own (λ other. other) steps
      (took core new n from Requests (node_refusing node)
      (stepped core new n (event.Refuse from i) (side node (event.Refuse from i)) some own.kind.own refl steps))
  lost_by before after (event.Accept from i) own steps = spared_lost core new j n (step_spares core new n j (event.Accept from i) f some own.kind.own tt steps)
  lost_by before after (event.Reply i) own steps = spared_lost core new j n (step_spares core new n j (event.Reply i) f some own.kind.own tt steps)
  lost_by before after (event.Ask i line k) own steps =
      let node = node_at core n in
      let s = stepped core new n (event.Ask i line k) (side node (event.Ask i line k)) some own.kind.own refl steps in
      let sent = sent_out core new n Requests (node_asking node line k) s in
      let to = asked_target core n line k sent.sent reached some sent.there in
      spared_lost core new j n
      (subst (λ (c : Core). Spared core c (lane_place core.size.nodes Requests j n)) sent.made
      (set_spares core n (lane_place core.size.nodes Requests n sent.sent.1.target) (lane_place core.size.nodes Requests j n) sent.sent.0
      (lane_of core Requests n sent.sent.1.target ++ sent.sent.1 ∷ []) (askers_apart core.size.nodes j n sent.sent.1.target f some to apart)))
  lost_by before after (event.Issue i op) own steps = let no = own.kind.kind in cc
  lost_by before after (event.Perform i line) own steps = let no = own.kind.kind in cc

-- ---- so far in a turn

-- the level of node n's line for what was pending there when the turn began
abbrev pub level_in : Core → ℕ → ℕ → PolicyOf → Core → ℕ
level_in old n line policy core = level (has policy.used line) (work_on (node_at old n) line) (state_on (node_at core n) line)

-- a turn of node n has come this far, and led its policy to here
pub record HasTurned (n : ℕ) (before : PolicyOf) (old : Core) (policy : PolicyOf) (core : Core) : Type 0 where
  pub reached : IsReached core
  pub fit : ReadsFit core
  pub size : core.size ≡ old.size
  pub others : (m : ℕ) → m ≢ n → node_at core m ≡ node_at old m
  pub work : (line : ℕ) → pending_on (node_at core n) line ≡ pending_on (node_at old n) line
  pub lower : (line : ℕ) → level_in old n line policy core ≤ level_in old n line before old
  pub lost : (j : ℕ) → j < old.size.nodes → j ≢ n → HasLost (lane_of old Requests j n) (lane_of core Requests j n)

-- the request of a node's ask is among its packets
pub lane_among : (core : Core) (k n line : ℕ) (taken rest : List Letter) (letter : Letter) → IsReached core → k < core.size.nodes → n < core.size.nodes
    → lane_of core Requests k n ≡ taken ++ letter ∷ rest → is_about k line letter ≡ true → IsAmong letter (packets_of core k line)
lane_among core k n line taken rest letter reached f t lane about =
    let place = lane_place core.size.nodes Requests k n in
    let here : IsAmong letter (lane_at core place) = subst (IsAmong letter) (sym lane) (among_right letter taken (letter ∷ rest) (inl refl)) in
    among_kept (is_about k line) letter (under_way core) about
    (among_right letter (flat_map (λ (part : NodeOf). option_to_list part.waiting) core.parts) (flat_map (λ (l : List Letter). l) core.lanes)
    (among_flat (λ (l : List Letter). l) core.lanes place [] letter (lane_below core Requests k n (reached_well core reached) f t) here))

-- a load that is purged in the turn was on a line that followed when the turn began
pub purged_high : (n : ℕ) (before policy : PolicyOf) (old core : Core) (line : ℕ) → IsReached old → n < old.size.nodes
    → HasTurned n before old policy core → is_below (state_on (node_at core n) line) ≡ true
    → (purged : IsPurged core n line) → CannotPerform (node_at old n) → work_on (node_at old n) line ≡ Some false
    → nat_le 6 (rank (Some false) (state_on (node_at old n) line)) ≡ true
purged_high n before policy old core line reached some turned below purged cannot load =
    let k = purged.from in
    let letter = purged.letter in
    let sender : k < old.size.nodes = subst (λ (z : Size). k < z.nodes) turned.size purged.sender in
    let here : n < core.size.nodes = subst (λ (z : Size). n < z.nodes) (sym turned.size) some in
    let place = lane_place core.size.nodes Requests k n in
    let first = All-head (IsInLane core.size.nodes core.size.lines place) letter purged.rest
    (subst (All (IsInLane core.size.nodes core.size.lines place)) purged.front ((reached_well core turned.reached).each_lane place)) in
    let asks = first.request (place_requests core.size.nodes k n purged.sender here) in
    let source : letter.source ≡ k = first.from ∙ place_from core.size.nodes Requests k n purged.sender here in
    let target : letter.target ≡ n = first.to ∙ place_to core.size.nodes Requests k n here in
    let about : is_about k line letter ≡ true = about_from k line letter purged.about (request_asker letter asks.asks ∙ source) in
    let inside : line < core.size.lines = subst (λ (l : ℕ). l < core.size.lines) purged.about asks.letter_ok.about in
    elim (cases_eq k n) [
      | inl own ↦
          let there : lane_of core Requests k n ≡ [] ++ letter ∷ purged.rest = purged.front in
          let among = lane_among core k n line [] purged.rest letter turned.reached purged.sender here there about in
          let alone = sole (line % core.size.nodes) (line_of (node_at core k).cache line) (packets_of core k line) letter
          (reached_tidy core turned.reached k line purged.sender inside) among in
          let idle : waits (state_on (node_at core k) line) ≡ false =
          below_idle (state_on (node_at core k) line) (subst (λ (m : ℕ). is_below (state_on (node_at core m) line) ≡ true) (sym own) below) in
          absurd (let clash : true ≡ false = sym alone.awaited.waiting ∙ idle in cc)
      | inr other ↦
          let lost = turned.lost k sender other in
          let lane : lane_of old Requests k n ≡ lost.0 ++ letter ∷ purged.rest = lost.1 ∙ ap (λ (l : List Letter). lost.0 ++ l) purged.front in
          let was_inside : line < old.size.lines = subst (λ (z : Size). line < z.lines) turned.size inside in
          let among = lane_among old k n line lost.0 purged.rest letter reached sender some lane about in
          let alone = sole (line % old.size.nodes) (line_of (node_at old k).cache line) (packets_of old k line) letter
          (reached_tidy old reached k line sender was_inside) among in
          let state = sent_purge (line % old.size.nodes) (state_on (node_at old k) line) letter (alone.awaited.sent asks.asks) purged.purge in
          let purging : state_at old line k ≡ Purging n state.0 = state.1 ∙ ap (λ (q : ℕ). Purging q state.0) target in
          let none : answer_to old k line ≡ None = ap answer_in alone.one ∙ request_alone letter asks.asks in
          follows_high (state_on (node_at old n) line) (purge_finds old line k n state.0 reached was_inside purging none)
          (subst (λ (work : Option Bool). can_perform work (state_on (node_at old n) line) ≡ false) load (cannot line))
    ]

-- the level doesn't rise, or a load is purged
pub lower_or : (b : Bool) (excepted : Bool) → (b || excepted) ≡ true → (b ≡ true) ⊎ (excepted ≡ true)
lower_or true excepted is = inl refl
lower_or false excepted is = inr is

-- with no entry the use of a line doesn't count
pub out_level : (used : Bool) (work : Option Bool) (s : CacheState) → s ≡ Out → level used work s ≡ rank work Out
out_level used work s is = ap (level used work) is ∙ omega arith

above_rank : (b : Bool) (r : ℕ) → r ≤ (if b then 47 else 0) + r
above_rank true r = omega arith
above_rank false r = omega arith

-- an event lowers the level or keeps it, or it purges a load on a line that stood higher when the turn began
pub data Lowers (n : ℕ) (before : PolicyOf) (old : Core) (line : ℕ) (policy : PolicyOf) (core : Core) (then_ : PolicyOf) (new : Core) : Type 0 where
  Keeps : level_in old n line then_ new ≤ level_in old n line policy core → Lowers n before old line policy core then_ new
  Purges : level_in old n line then_ new ≡ 4 → 6 ≤ level_in old n line before old → Lowers n before old line policy core then_ new

module _ (n : ℕ) (start : PolicyOf) (old : Core) (reached : IsReached old) (some : n < old.size.nodes) (cannot : CannotPerform (node_at old n)) where
  pub lowers_on : (core new : Core) (line : ℕ) (before after : PolicyOf) (e : Event) → HasTurned n start old before core → IsOwn n before core e after
      → stepping core e ≡ Some new → Lowers n start old line before core after new
  lowers_on core new line before after e turned own steps =
      let here : n < core.size.nodes = subst (λ (z : Size). n < z.nodes) (sym turned.size) some in
      let keeps = (event_kept core new n before after e turned.reached turned.fit here own steps).level line in
      let work : work_on (node_at core n) line ≡ work_on (node_at old n) line = ap work_in (turned.work line) in
      let was = state_on (node_at core n) line in
      let then_ = state_on (node_at new n) line in
      let u = has before.used line in
      let v = has after.used line in
      elim (lower_or (nat_le (level v (work_on (node_at core n) line) then_) (level u (work_on (node_at core n) line) was))
      (is_excepted (work_on (node_at core n) line) was then_) keeps) [
        | inl low ↦ Keeps (leb-true (level_in old n line after new) (level_in old n line before core)
            (subst (λ (w : Option Bool). nat_le (level v w then_) (level u w was) ≡ true) work low))
        | inr excepted ↦
            let below = excepted_below (work_on (node_at core n) line) was then_ excepted in
            let out = excepted_out (work_on (node_at core n) line) was then_ excepted in
            let load : work_on (node_at old n) line ≡ Some false =
            sym work ∙ excepted_load (work_on (node_at core n) line) was then_ excepted in
            let purged = purged_by core new n before after e turned.reached here own steps line below out in
            let high = leb-true 6 (rank (Some false) (state_on (node_at old n) line))
            (purged_high n start before old core line reached some turned below purged cannot load) in
            let low : level_in old n line after new ≡ 4 = out_level v (work_on (node_at old n) line) then_ out ∙ ap (λ (w : Option Bool). rank w Out) load in
            let rank_is : rank (work_on (node_at old n) line) (state_on (node_at old n) line) ≡ rank (Some false) (state_on (node_at old n) line) =
            ap (λ (w : Option Bool). rank w (state_on (node_at old n) line)) load in
            let above = above_rank (counts_use (state_on (node_at old n) line) && has start.used line)
            (rank (work_on (node_at old n) line) (state_on (node_at old n) line)) in
            Purges low (omega (arith, high, rank_is, above))
      ]

  lower_then : (core new : Core) (line : ℕ) (before after : PolicyOf) → level_in old n line before core ≤ level_in old n line start old
      → Lowers n start old line before core after new → level_in old n line after new ≤ level_in old n line start old
  lower_then core new line before after low (Keeps lower) = omega (arith, low, lower)
  lower_then core new line before after low (Purges four six) = omega (arith, four, six)

  pub turns_on : (core new : Core) (before after : PolicyOf) (e : Event) → HasTurned n start old before core → IsOwn n before core e after
      → stepping core e ≡ Some new → HasTurned n start old after new
  turns_on core new before after e turned own steps =
      let here : n < core.size.nodes = subst (λ (z : Size). n < z.nodes) (sym turned.size) some in
      let same = size_either {T = ℕ} {E = ℕ} (Ok 0) core new e turned.reached steps (λ refused. (let clash : false ≡ true = refused in cc)) in
      let kept = event_kept core new n before after e turned.reached turned.fit here own steps in
      record {
        reached = reached_stepping core new e turned.reached steps;
        fit = turn_reads core new n before after e turned.reached turned.fit here own steps;
        size = same ∙ turned.size;
        others = λ m other. other_stays core new e m (λ is. other (sym is ∙ own.kind.own)) steps ∙ turned.others m other;
        work = λ line. kept.work line ∙ turned.work line;
        lower = λ line. lower_then core new line before after (turned.lower line) (lowers_on core new line before after e turned own steps);
        lost = λ j f other.
            let now : j < core.size.nodes = subst (λ (z : Size). j < z.nodes) (sym turned.size) f in
            let first = turned.lost j f other in
            let second = lost_by core new n j turned.reached here now other before after e own steps in (
              first.0 ++ second.0,
              first.1 ∙ (ap (λ (l : List Letter). first.0 ++ l) second.1 ∙ sym (append_assoc first.0 second.0 (lane_of new Requests j n))),
            );
      }

  pub leads_turned : (core new : Core) (before after : PolicyOf) (more : List Event) → HasTurned n start old before core
      → AllByRecursion (λ e. node_of e ≡ n) more → Leads n before core more after new → HasTurned n start old after new
  leads_turned core new before after [] turned own leads =
      subst (λ (p : PolicyOf). HasTurned n start old p new) leads.0 (subst (HasTurned n start old before) leads.1 turned)
  leads_turned core new before after (e ∷ more) turned own leads = elim leads.3 [
    | inl is ↦ leads_turned leads.0 new leads.1 after more (turns_on core leads.0 before leads.1 e turned is leads.2) own.1 leads.4
    | inr other ↦ absurd (other.apart own.0)
  ]

-- a turn that begins
pub turn_begins : (n : ℕ) (policy : PolicyOf) (core : Core) → IsReached core → ReadsFit core → HasTurned n policy core policy core
turn_begins n policy core reached fit = grind arith

-- ---- a whole turn

-- what a node has pending stays, and no level of its lines rises
pub turn_kept : (n : ℕ) (old new : Core) (before after : PolicyOf) (more : List Event) → IsReached old → ReadsFit old → n < old.size.nodes
    → CannotPerform (node_at old n) → AllByRecursion (λ e. node_of e ≡ n) more → Leads n before old more after new → HasTurned n before old after new
turn_kept n old new before after more reached fit some cannot own leads =
    leads_turned n before old reached some cannot old new before after more (turn_begins n before old reached fit) own leads

-- the level that a line has then
pub turned_level : (n : ℕ) (before policy : PolicyOf) (old core : Core) (line : ℕ) → HasTurned n before old policy core
    → level_on policy (node_at core n) line ≡ level_in old n line policy core
turned_level n before policy old core line turned =
    ap (λ (w : Option Bool). level (has policy.used line) w (state_on (node_at core n) line)) (ap work_in (turned.work line))
