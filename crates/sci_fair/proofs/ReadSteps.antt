-- In a machine that works by turns no read is refused, and a maker's read has no fresh answer: what a node is asked for, and what a home
-- answers, fit.
use Rattle.std.proofs.Common.{◌≡◌, ◌<◌, ℕ, Bool, true, false, if◌then◌else◌, arith, List, [], ◌∷◌, ◌++◌}
use Rattle.std.proofs.Common.{All, Option, Some, None, refl, sym, ap, subst, ◌∙◌, inl, inr, rules, get_or-set_same, ◌&&◌, ◌*◌}
use Rattle.std.proofs.lemmas.{Bool.{cases_lt}, List.{get_or_past, length-map, Elements.{All-head}, FromFn.{length-range_with_len}}}
use Rattle.std.specs.{Prelude.{IfSome, is_some, option_map, slice_get}, List.{AllByRecursion, range_with_len}}
use Rattle.sci_history.proofs.Order.{all-append}
use Rattle.sci_words.specs.declared.{event.{AskKind.{AskKind}, Event.{Event}}}
use Rattle.sci_history.specs.declared.entry.Entry.{Entry}
use Rattle.sci_packets.specs.{Table.{is_request}}
use Rattle.sci_cache.specs.{State.{Asking, waits}, Asking.{Asked, asking}}
use Rattle.sci_cache.specs.Line.{LineState, line_asked, untouched}
use Rattle.sci_cache.specs.Cache.{Letter, letter_asking}
use Rattle.sci_cache.specs.Cache.{line_of, with_line}
use Rattle.sci_core.specs.declared.{lane.LaneKind.{LaneKind, TheVariants.{Answers, Requests}}}
use Rattle.sci_core.specs.Core.{Core, changes, lane_at, lane_of, lane_place, node_at, opening, performs, sent_by, side, step_by, stepping, with_lane, with_node}
use Rattle.sci_core.specs.Node.{NodeOf, may_issue, no_node, opening_node, node_accepting}
use Rattle.sci_core.specs.Node.{node_asking, node_issuing, node_performing, node_refusing}
use Rattle.sci_core.specs.Node.{node_replying, node_serving}
use Rattle.sci_core.specs.{Draining.{IsDrained}, Reached.{IsReached}, Sharing.{asker_of}, Size.{Size}}
use Rattle.sci_core.specs.{WellFormed.{IsInLane}}
use Rattle.sci_core.proofs.{Schedules.{node_opened}, Settling.Drains.{some_node}, Step.Places.{place_requests}}
use Rattle.sci_core.proofs.WellFormed.WellFormedSteps.{reached_well}
use Rattle.sci_core.proofs.Basics.{Options.{of_some}}
use Rattle.sci_core.proofs.Step.NodeSides.{AcceptedAs, PerformedAs, RefusedAs, ServedAs, accept_as, perform_as, refuse_as, reply_as}
use Rattle.sci_core.proofs.Step.NodeSides.{serve_as}
use Rattle.sci_core.proofs.Tidy.{TidySteps.{request_asker}}
use Rattle.sci_policy.specs.declared.decision.Decision.{Decision}
use Rattle.sci_policy.specs.{Lines.{state_on}, Policy.{PolicyOf, decided, is_cread, kept_by, refused_by}, Turn.{decided_event}}
use Rattle.sci_turn.{specs.Moves.{IsOwn, taking_event}, proofs.Working.{stepped}}
use Rattle.sci_fair.specs.{Lanes.{IsWork}, Rank.{fits_read, suits, work_on}, Reads.{FitsRead, ReadsFit}}
use Rattle.sci_fair.proofs.{Opens.{none_there}, Suits.{wanted_suits}, Taking.{sent_out, took}}
use Rattle.sci_policy.specs.declared.decision.Decision.TheVariants as decision
use Rattle.sci_words.specs.declared.event.Event.TheVariants as event
use Rattle.sci_fair.proofs.ReadCarries.{AsksAs, Carries, CarriesAll, Changed, accept_carries, ask_as, ask_carries, asked_fits, asks_free, asks_request}
use Rattle.sci_fair.proofs.ReadCarries.{changed_by, each_line, issue_carries, issued_waiting, lane_fits, perform_carries, refused_waiting}
use Rattle.sci_fair.proofs.ReadCarries.{serve_carries, served_waiting, step_fits, still_fits, waiting_fits}

-- ---- each event of a turn

-- what an ask sends
ask_sends : (core new : Core) (n line : ℕ) (k : AskKind) (sent : NodeOf × Letter) → IsReached core → n < core.size.nodes
    → Changed core new n sent.0 → AsksAs (node_at core n) line k sent → suits (work_on (node_at core n) line) k ≡ true → FitsRead new sent.1
ask_sends core new n line k sent reached some changed told suit =
    subst (FitsRead new) told.letter (λ asking_now.
    let node = node_at core n in
    let asks = of_some (λ (a : Asked). is_request a.request ≡ true) (asking (state_on node line) k) told.asked told.asks
    (asks_request (state_on node line) k) in
    let letter = letter_asking node.cache line told.asked in
    let me : node.cache.me ≡ n = ((reached_well core reached).each_part n some).me in
    let asker : asker_of letter ≡ n = request_asker letter asks ∙ me in
    let here : node_at new n ≡ (record node { cache = with_line node.cache line (line_asked (line_of node.cache line) told.asked) }) =
    changed.own ∙ sym told.next in
    let now : told.asked.next ≡ Asking =
    ap (λ (l : LineState). l.state) (sym (get_or-set_same node.cache.lines line (line_asked (line_of node.cache line) told.asked) untouched told.below))
    ∙ (ap (λ (part : NodeOf). state_on part line) (sym here) ∙ subst (λ (m : ℕ). state_on (node_at new m) line ≡ Asking) asker asking_now) in
    let fits : fits_read (work_on node line) told.asked.request ≡ true =
    of_some (λ (a : Asked). a.next ≡ Asking → fits_read (work_on node line) a.request ≡ true) (asking (state_on node line) k) told.asked told.asks
    (asked_fits (work_on node line) (state_on node line) k suit) now in
    subst (λ (m : ℕ). fits_read (work_on (node_at new m) line) told.asked.request ≡ true) (sym asker)
    (subst (λ (part : NodeOf). fits_read (work_on part line) told.asked.request ≡ true) (sym here) fits))

-- the front of a lane of requests is one
front_asks : (core : Core) (from n : ℕ) (letter : Letter) (rest : List Letter) → IsReached core → from < core.size.nodes → n < core.size.nodes
    → lane_of core Requests from n ≡ letter ∷ rest → is_request letter.body ≡ true
front_asks core from n letter rest reached f t is =
    let place = lane_place core.size.nodes Requests from n in
    let within = place_requests core.size.nodes from n f t in
    let first = All-head (IsInLane core.size.nodes core.size.lines place) letter rest
    (subst (All (IsInLane core.size.nodes core.size.lines place)) is ((reached_well core reached).each_lane place)) in
    (first.request within).asks

decided_refuse : (d : Decision) (from n : ℕ) → decided_event d from n ≡ Some (event.Refuse from n) → d ≡ decision.Refuse
decided_refuse d from n is = search rules

pub refuses_it : (policy : PolicyOf) (node : NodeOf) (from n : ℕ) (letter : Letter) (waiting : Bool)
    → (if waiting then None else decided_event (decided policy node letter) from n) ≡ Some (event.Refuse from n) → decided policy node letter ≡ decision.Refuse
refuses_it policy node from n letter true is = cc
refuses_it policy node from n letter false is = decided_refuse (decided policy node letter) from n is

-- a policy refuses a Cread alone
refused_if : (keep refuse : Bool) → (if keep then decision.Keep else if refuse then decision.Refuse else decision.Serve) ≡ decision.Refuse → refuse ≡ true
refused_if keep refuse is = search rules

cread_bit : (cread rest : Bool) → (cread && rest) ≡ true → cread ≡ true
cread_bit cread rest is = search rules

pub refuses_cread : (policy : PolicyOf) (node : NodeOf) (letter : Letter) → decided policy node letter ≡ decision.Refuse → is_cread letter.body ≡ true
refuses_cread policy node letter is = cread_bit (is_cread letter.body) _ (refused_if (kept_by policy node letter) (refused_by policy node letter) is)

module _ (core new : Core) (n : ℕ) (reached : IsReached core) (some : n < core.size.nodes) (fit : ReadsFit core) where
  -- a request is taken, and its answer waits
  request_fits : (from : ℕ) (letter : Letter) (rest : List Letter) (next : NodeOf) → from < core.size.nodes
      → lane_of core Requests from n ≡ letter ∷ rest
      → with_lane (with_node core n next) (lane_place core.size.nodes Requests from n) rest ≡ new
      → ((line : ℕ) → Carries (node_at core n) next line) → (FitsRead new letter → IfSome next.waiting (FitsRead new)) → ReadsFit new
  request_fits from letter rest next sender front made carries waits =
      let place = lane_place core.size.nodes Requests from n in
      let changed = changed_by core new n next reached some (λ k. ap (λ (c : Core). node_at c k) (sym made)) in
      let all = each_line core n next carries in
      let lane : AllByRecursion (FitsRead new) (letter ∷ rest) =
      subst (AllByRecursion (FitsRead new)) front (lane_fits core new n next changed fit all place) in
      step_fits core new n next changed fit all place rest (waits lane.0) (ap (λ (c : Core). c.lanes) (sym made)) lane.1

  -- an answer is taken
  answer_taken : (from : ℕ) (letter : Letter) (rest : List Letter) (next : NodeOf) → lane_of core Answers from n ≡ letter ∷ rest
      → with_lane (with_node core n next) (lane_place core.size.nodes Answers from n) rest ≡ new → next.waiting ≡ (node_at core n).waiting
      → ((line : ℕ) → Carries (node_at core n) next line) → ReadsFit new
  answer_taken from letter rest next front made waits carries =
      let place = lane_place core.size.nodes Answers from n in
      let changed = changed_by core new n next reached some (λ k. ap (λ (c : Core). node_at c k) (sym made)) in
      let all = each_line core n next carries in
      let lane : AllByRecursion (FitsRead new) (letter ∷ rest) =
      subst (AllByRecursion (FitsRead new)) front (lane_fits core new n next changed fit all place) in
      step_fits core new n next changed fit all place rest
      (subst (λ (o : Option Letter). IfSome o (FitsRead new)) (sym waits) (waiting_fits core new n next changed fit all n))
      (ap (λ (c : Core). c.lanes) (sym made)) lane.1

  -- a packet is sent
  packet_sent : (kind : LaneKind) (letter : Letter) (next : NodeOf) → sent_by core n kind next letter ≡ new → CarriesAll core n next
      → IfSome next.waiting (FitsRead new) → FitsRead new letter → ReadsFit new
  packet_sent kind letter next made carries waits fits =
      let place = lane_place core.size.nodes kind n letter.target in
      let changed = changed_by core new n next reached some (λ k. ap (λ (c : Core). node_at c k) (sym made)) in
      step_fits core new n next changed fit carries place (lane_at core place ++ letter ∷ []) waits (ap (λ (c : Core). c.lanes) (sym made))
      (all-append (FitsRead new) (lane_at core place) (letter ∷ []) (lane_fits core new n next changed fit carries place) (fits, tt))

  -- nothing is
  node_changed : (next : NodeOf) → with_node core n next ≡ new → next.waiting ≡ (node_at core n).waiting → ((line : ℕ) → Carries (node_at core n) next line)
      → ReadsFit new
  node_changed next made waits carries =
      let changed = changed_by core new n next reached some (λ k. ap (λ (c : Core). node_at c k) (sym made)) in
      let all = each_line core n next carries in
      still_fits core new n next changed fit all
      (subst (λ (o : Option Letter). IfSome o (FitsRead new)) (sym waits) (waiting_fits core new n next changed fit all n))
      (ap (λ (c : Core). c.lanes) (sym made))

-- the answer that waited is the one that is sent
pub replied_sent : (node : NodeOf) (o : Option Letter) (sent : NodeOf × Letter) → node.waiting ≡ o → option_map
    (λ answer. (record node { waiting = None }, answer)) o ≡ Some sent
    → node.waiting ≡ Some sent.1
replied_sent node None sent waits is = cc
replied_sent node (Some answer) sent waits is = waits ∙ ap Some
    (let same : (record node { waiting = None }, answer) ≡ sent = cc in ap (λ (s : NodeOf × Letter). s.1) same)

pub turn_reads : (core new : Core) (n : ℕ) (before after : PolicyOf) (e : Event) → IsReached core → ReadsFit core → n < core.size.nodes
    → IsOwn n before core e after → stepping core e ≡ Some new → ReadsFit new
turn_reads core new n before after (event.Serve from i) reached fit some own steps =
    let node = node_at core n in
    let front = took core new n from Requests (node_serving node)
    (stepped core new n (event.Serve from i) (side node (event.Serve from i)) some own.kind.own refl steps)
    in
    let does = of_some (ServedAs node front.letter) (node_serving node front.letter) front.next front.takes (serve_as node front.letter) in
    let asks = front_asks core from n front.letter front.rest reached front.sender some front.front in
    request_fits core new n reached some fit from front.letter front.rest front.next front.sender front.front front.made
    (serve_carries node front.next front.letter does) (λ fits. served_waiting new node front.next front.letter asks fits does)
turn_reads core new n before after (event.Refuse from i) reached fit some own steps =
    let node = node_at core n in
    let front = took core new n from Requests (node_refusing node)
    (stepped core new n (event.Refuse from i) (side node (event.Refuse from i)) some own.kind.own refl steps)
    in
    let does = of_some (RefusedAs node front.letter) (node_refusing node front.letter) front.next front.takes (refuse_as node front.letter) in
    let asks = front_asks core from n front.letter front.rest reached front.sender some front.front in
    let decides : taking_event before node from n (Some front.letter) ≡ Some (event.Refuse from n) =
    subst (λ (lane : List Letter). taking_event before node from n (slice_get lane 0) ≡ Some (event.Refuse from n)) front.front own.decides.0 in
    let cread = refuses_cread before node front.letter (refuses_it before node from n front.letter (is_some node.waiting) decides) in
    request_fits core new n reached some fit from front.letter front.rest front.next front.sender front.front front.made
    (λ line. subst (λ (part : NodeOf). Carries node part line) does.then_ (λ asking. (asking, inl refl)))
    (λ fits. refused_waiting new node front.next front.letter asks cread fits does)
turn_reads core new n before after (event.Accept from i) reached fit some own steps =
    let node = node_at core n in
    let front = took core new n from Answers (node_accepting node)
    (stepped core new n (event.Accept from i) (side node (event.Accept from i)) some own.kind.own refl steps)
    in
    let does = of_some (AcceptedAs node front.letter) (node_accepting node front.letter) front.next front.takes (accept_as node front.letter) in
    answer_taken core new n reached some fit from front.letter front.rest front.next front.front front.made
    (ap (λ (part : NodeOf). part.waiting) (sym does.then_)) (accept_carries node front.next front.letter does)
turn_reads core new n before after (event.Reply i) reached fit some own steps =
    let node = node_at core n in
    let out = sent_out core new n Answers (node_replying node) (stepped core new n (event.Reply i) (side node (event.Reply i)) some own.kind.own refl steps) in
    let does = of_some (λ (sent : NodeOf × Letter). (record node { waiting = None }) ≡ sent.0) (node_replying node) out.sent out.there (reply_as node) in
    let carries : (line : ℕ) → Carries node out.sent.0 line =
    λ line. subst (λ (part : NodeOf). Carries node part line) does (λ asking. (asking, inl refl)) in
    let all = each_line core n out.sent.0 carries in
    let changed = changed_by core new n out.sent.0 reached some (λ k. ap (λ (c : Core). node_at c k) (sym out.made)) in
    packet_sent core new n reached some fit Answers out.sent.1 out.sent.0 out.made all
    (subst (λ (part : NodeOf). IfSome part.waiting (FitsRead new)) does tt)
    (of_some (FitsRead new) node.waiting out.sent.1 (replied_sent node node.waiting out.sent refl out.there)
    (waiting_fits core new n out.sent.0 changed fit all n))
turn_reads core new n before after (event.Ask i line k) reached fit some own steps =
    let node = node_at core n in
    let out = sent_out core new n Requests (node_asking node line k)
    (stepped core new n (event.Ask i line k) (side node (event.Ask i line k)) some own.kind.own refl steps)
    in
    let told = of_some (AsksAs node line k) (node_asking node line k) out.sent out.there (ask_as node line k) in
    let suit = (wanted_suits before n node line k (record { core = core; reached = reached; some = some; here = refl }) own.decides.0).asks in
    let idle = of_some (λ (a : Asked). waits (state_on node line) ≡ false) (asking (state_on node line) k) told.asked told.asks
    (asks_free (state_on node line) k) in
    let inside : line < core.size.lines =
    subst (λ (l : ℕ). line < l) ((reached_well core reached).each_part n some).each told.below in
    let carries = ask_carries core n line (line_asked (line_of node.cache line) told.asked) reached some inside idle in
    let all : CarriesAll core n out.sent.0 = subst (CarriesAll core n) told.next carries in
    let changed = changed_by core new n out.sent.0 reached some (λ j. ap (λ (c : Core). node_at c j) (sym out.made)) in
    packet_sent core new n reached some fit Requests out.sent.1 out.sent.0 out.made all
    (subst (λ (part : NodeOf). IfSome part.waiting (FitsRead new)) told.next (waiting_fits core new n out.sent.0 changed fit all n))
    (ask_sends core new n line k out.sent reached some changed told suit)
turn_reads core new n before after (event.Issue i op) reached fit some own steps = let no = own.kind.kind in cc
turn_reads core new n before after (event.Perform i line) reached fit some own steps = let no = own.kind.kind in cc

-- ---- where it begins, and what is issued and performed

pub drained_reads : (core : Core) → IsDrained core → ReadsFit core
drained_reads core drained = grind arith

-- a machine that opens is drained
pub opening_waits : (size : Size) (n : ℕ) → (node_at (opening size) n).waiting ≡ None
opening_waits size n = elim (cases_lt n size.nodes) [
  | inl lt ↦ ap (λ (part : NodeOf). part.waiting) (node_opened size n lt)
  | inr past ↦
      let long = length-map (range_with_len 0 size.nodes) (λ (m : ℕ). opening_node m size) in
      let count = length-range_with_len 0 size.nodes in
      ap (λ (part : NodeOf). part.waiting) (get_or_past (opening size).parts n no_node (omega (arith, past, long, count)))
]

pub opening_reads : (size : Size) → ReadsFit (opening size)
opening_reads size =
    drained_reads (opening size) (record { waiting = opening_waits size; lanes = none_there (2 * size.nodes * size.nodes) })

pub changed_out : (core new : Core) (n : ℕ) (o : Option NodeOf) → step_by core n (changes o) ≡ Some new
    → (next : NodeOf) × (o ≡ Some next) × (with_node core n next ≡ new)
changed_out core new n None is = cc
changed_out core new n (Some next) is = (next, refl, cc)

pub performed_out : (core new : Core) (n : ℕ) (o : Option (NodeOf × Entry)) → step_by core n (performs o) ≡ Some new
    → (done : NodeOf × Entry) × (o ≡ Some done) × (with_node core n done.0 ≡ new)
performed_out core new n None is = cc
performed_out core new n (Some done) is = (done, refl, cc)

pub work_reads : (core new : Core) (e : Event) → IsReached core → ReadsFit core → IsWork e → stepping core e ≡ Some new → ReadsFit new
work_reads core new (event.Issue n op) reached fit work steps =
    let node = node_at core n in
    let some : n < core.size.nodes = some_node core new (event.Issue n op) steps in
    let fits = ((reached_well core reached).each_part n some).fits in
    let out = changed_out core new n (node_issuing node op) (stepped core new n (event.Issue n op) (side node (event.Issue n op)) some refl refl steps) in
    let issues : IfSome (node_issuing node op) (λ next. next.waiting ≡ node.waiting) = issued_waiting (may_issue node op) node op in
    node_changed core new n reached some fit out.0 out.2 (of_some (λ (part : NodeOf). part.waiting ≡ node.waiting) (node_issuing node op) out.0 out.1 issues)
    (issue_carries node out.0 op fits out.1)
work_reads core new (event.Perform n line) reached fit work steps =
    let node = node_at core n in
    let some : n < core.size.nodes = some_node core new (event.Perform n line) steps in
    let fits = ((reached_well core reached).each_part n some).fits in
    let out = performed_out core new n (node_performing node line)
    (stepped core new n (event.Perform n line) (side node (event.Perform n line)) some refl refl steps)
    in
    let told = of_some (PerformedAs node line) (node_performing node line) out.0 out.1 (perform_as node line) in
    node_changed core new n reached some fit out.0.0 out.2 (ap (λ (part : NodeOf). part.waiting) (sym told.next))
    (perform_carries node line out.0 fits out.1)
work_reads core new _ reached fit work steps = elim work [ ]
