-- No two nodes ask one node for the same line: of a line's list one entry alone stands directly before another.
use Rattle.std.proofs.Common.{◌≡◌, ◌<◌, ◌%◌, ℕ, true, List, [], ◌∷◌, Option, Some, None, sym, ap, subst, ◌∙◌, inl, inr, arith}
use Rattle.sci_history.specs.Seen.{IsAmong}
use Rattle.sci_packets.specs.declared.body.Body.TheVariants.{Cread}
use Rattle.sci_cache.specs.{State.{CacheState, Joining, FreshJoining}, Accepting.{settled}, Cache.{Letter, line_of}, Member.{link_of}}
use Rattle.sci_core.specs.declared.lane.LaneKind.TheVariants.{Requests}
use Rattle.sci_core.specs.{Core.{Core, lane_of, lane_place, node_at}, Reached.{IsReached}, Sharing.{answer_in, answer_to, packets_of}}
use Rattle.sci_core.specs.{SharingList.{IsOnce, LinkedFrom}, Tidy.{IsSentIn}}
use Rattle.sci_core.proofs.{ReachedLaws.{any_shaped}, Shape.{ShapeSteps.{view_of}, Views.{link_in}}, Step.Places.{place_to}, Tidy.{TidyRuns.{reached_tidy}}}
use Rattle.sci_core.proofs.WellFormed.WellFormedSteps.{reachable}
use Rattle.sci_policy.specs.Lines.{state_on}
use Rattle.sci_fair.proofs.{Whereabouts.{in_lane, lane_packets, request_about}, WholeTurns.{request_alone, sole}}

-- ---- links

-- a linked list goes on behind each entry that has a next one
next_behind : (link : ℕ → Option (Option ℕ)) (first : Option ℕ) (a : ℕ) (ns : List ℕ) (x n : ℕ) → LinkedFrom link first (a ∷ ns) → IsAmong x (a ∷ ns)
    → link x ≡ Some (Some n) → IsAmong n ns
next_behind link first a [] x n linked (inl same) is = grind arith
next_behind link first a [] x n linked (inr among) is = elim among [ ]
next_behind link first a (b ∷ ns) x n linked (inl same) is = grind arith
next_behind link first a (b ∷ ns) x n linked (inr among) is = inr (next_behind link linked.1.0 b ns x n linked.1.2 among is)

-- behind the front stands nobody with the same next entry
front_alone : (link : ℕ → Option (Option ℕ)) (first : Option ℕ) (a : ℕ) (ns : List ℕ) (y n : ℕ) → LinkedFrom link first (a ∷ ns) → IsOnce ns
    → link a ≡ Some (Some n) → IsAmong y ns → link y ≡ Some (Some n) → ⊥
front_alone link first a [] y n linked once one among two = elim among [ ]
front_alone link first a (b ∷ ns) y n linked once one among two =
    let next : linked.1.0 ≡ Some n = (let at : Some linked.1.0 ≡ Some (Some n) = sym linked.1.1 ∙ one in cc) in
    let here : n ≡ b = (let at : Some n ≡ Some b = sym next ∙ linked.1.2.0 in cc) in
    once.0 (subst (λ (m : ℕ). IsAmong m ns) here (next_behind link linked.1.0 b ns y n linked.1.2 among two))

before_once : (link : ℕ → Option (Option ℕ)) (first : Option ℕ) (ns : List ℕ) (x y n : ℕ) → LinkedFrom link first ns → IsOnce ns → IsAmong x ns → IsAmong y ns
    → link x ≡ Some (Some n) → link y ≡ Some (Some n) → x ≡ y
before_once link first [] x y n linked once one two here there = elim one [ ]
before_once link first (a ∷ ns) x y n linked once (inl one) (inl two) here there = one ∙ sym two
before_once link first (a ∷ ns) x y n linked once (inl one) (inr two) here there =
    absurd (front_alone link first a ns y n linked once.1 (ap link (sym one) ∙ here) two there)
before_once link first (a ∷ ns) x y n linked once (inr one) (inl two) here there =
    absurd (front_alone link first a ns x n linked once.1 (ap link (sym two) ∙ there) one here)
before_once link first (a ∷ ns) x y n linked once (inr one) (inr two) here there =
    before_once link linked.1.0 ns x y n linked.1.2 once.1 one two here there

-- ---- who asks

sent_cread : (home : ℕ) (s : CacheState) (letter : Letter) → IsSentIn home s letter → letter.body ≡ Cread → link_of s ≡ Some (Some letter.target)
sent_cread home (Joining p true) letter sent cread = ap (λ (m : ℕ). Some (Some m)) (sym sent.1)
sent_cread home (FreshJoining p true c) letter sent cread = ap (λ (m : ℕ). Some (Some m)) (sym sent.1)
sent_cread home s letter sent cread = absurd (grind arith)

-- a node whose Cread is in a lane comes to stand before the lane's receiver
cread_links : (core : Core) (j n : ℕ) (letter : Letter) → IsReached core → j < core.size.nodes → n < core.size.nodes
    → IsAmong letter (lane_of core Requests j n) → letter.body ≡ Cread → link_in (view_of core letter.line) j ≡ Some (Some n)
cread_links core j n letter reached some t among cread =
    let line = letter.line in
    let is = request_about core j n letter reached some t among in
    let packet = lane_packets core Requests j n j line letter reached some t is.2 among in
    let alone = sole (line % core.size.nodes) (line_of (node_at core j).cache line) (packets_of core j line) letter (reached_tidy core reached j line some is.1)
    packet in
    let sent = sent_cread (line % core.size.nodes) (state_on (node_at core j) line) letter (alone.awaited.sent is.0) cread in
    let placed = in_lane core (lane_place core.size.nodes Requests j n) letter reached among in
    let target : letter.target ≡ n = placed.to ∙ place_to core.size.nodes Requests j n t in
    let none : answer_to core j line ≡ None = ap answer_in alone.one ∙ request_alone letter is.0 in
    ap (λ (o : _). link_of (settled (state_on (node_at core j) line) o)) none ∙ (sent ∙ ap (λ (m : ℕ). Some (Some m)) target)

pub one_asks : (core : Core) (j k n : ℕ) (one two : Letter) → IsReached core → j < core.size.nodes → k < core.size.nodes → n < core.size.nodes
    → IsAmong one (lane_of core Requests j n) → IsAmong two (lane_of core Requests k n) → one.body ≡ Cread → two.body ≡ Cread → two.line ≡ one.line → j ≡ k
one_asks core j k n one two reached some f t first second cread again same =
    let line = one.line in
    let inside = (request_about core j n one reached some t first).1 in
    let shaped = any_shaped core (reachable core reached) line inside in
    let link = link_in (view_of core line) in
    let here : link j ≡ Some (Some n) = cread_links core j n one reached some t first cread in
    let there : link k ≡ Some (Some n) =
    subst (λ (l : ℕ). link_in (view_of core l) k ≡ Some (Some n)) same (cread_links core k n two reached f t second again) in
    let list = shaped.1.1.list in
    before_once link _ shaped.1.0 j k n list.linked list.once (list.all j (Some n) here) (list.all k (Some n) there) here there
