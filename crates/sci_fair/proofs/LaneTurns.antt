-- What a steady turn of a node does to a lane of requests to it, and to one from it.
use Rattle.std.proofs.Common.{◌≡◌, ◌≢◌, ◌≤◌, ◌<◌, ◌+◌, ◌%◌, ℕ, suc, Bool, true, false, cond, if◌then◌else◌, arith, List, [], ◌∷◌, ◌++◌, filter, length}
use Rattle.std.proofs.Common.{Option, Some, None, refl, sym, ap, subst, ◌∙◌, ◌⊎◌, inl, inr}
use Rattle.std.proofs.lemmas.{Bool.{cases_eq}, List.{append-nil, append_assoc, length-append, Elements.{filter-append}}}
use Rattle.std.specs.{Prelude.{is_some, option_to_list, slice_get}, List.{flat_map}}
use Rattle.sci_history.specs.Seen.{IsAmong}
use Rattle.sci_words.specs.declared.event.{Event.{Event}}
use Rattle.sci_cache.specs.Cache.{Letter, line_of}
use Rattle.sci_core.specs.declared.lane.LaneKind.{LaneKind, TheVariants.{Requests, Answers}}
use Rattle.sci_core.specs.Core.{Core, lane_at, lane_of, lane_place, node_at}
use Rattle.sci_core.specs.{Node.{NodeOf, node_refusing, node_serving}, Reached.{IsReached}, Sharing.{is_about, packets_of}, Size.{Size}}
use Rattle.sci_core.proofs.{Basics.FlatMaps.{around}, Step.Steps.{lane_below}, Tidy.TidyRuns.{reached_tidy}, WellFormed.WellFormedSteps.{reached_well}}
use Rattle.sci_policy.specs.declared.decision.Decision.{Decision}
use Rattle.sci_policy.specs.{Policy.{PolicyOf, decided}, Turn.{decided_event, is_ask}}
use Rattle.sci_policy.proofs.Deciding.{keep_of}
use Rattle.sci_turn.specs.Moves.{taken_next, taking_event}
use Rattle.sci_fair.specs.Steady.{Working}
use Rattle.sci_fair.specs.Steady.{WorksByTurns}
use Rattle.sci_fair.proofs.{StateSteps.{IsTaken, ask_one, refuse_one, reply_one, serve_one, size_kept, take_lost}, Steadied.{Change, GoesBy, IsGoing}}
use Rattle.sci_fair.proofs.{SteadyTurns.{HeldBy}, Trace.{AreAll, is_taking}, Whereabouts.{lane_packets}, WholeTurns.{sole}}
use Rattle.sci_fair.proofs.OneStep.{TakesOne}
use Rattle.sci_policy.specs.declared.decision.Decision.TheVariants as decision
use Rattle.sci_words.specs.declared.event.Event.TheVariants as event

-- ---- lists

-- what is left of a list in which an element stands: it stands there still, no farther behind; or it was taken
pub suffix_cases : {X : Type 0} (taken left before : List X) (x : X) (after : List X) → taken ++ left ≡ before ++ x ∷ after
    → ((ahead : List X) × (left ≡ ahead ++ x ∷ after) × (length ahead ≤ length before)) ⊎ ((more : List X) × (after ≡ more ++ left))
suffix_cases [] left before x after is = inl (before, is, omega arith)
suffix_cases (y ∷ taken) left [] x after is =
    let same : taken ++ left ≡ after = (let both : y ∷ (taken ++ left) ≡ x ∷ after = is in cc) in inr (taken, sym same)
suffix_cases (y ∷ taken) left (z ∷ before) x after is =
    let rest : taken ++ left ≡ before ++ x ∷ after = (let both : y ∷ (taken ++ left) ≡ z ∷ (before ++ x ∷ after) = is in cc) in
    elim (suffix_cases taken left before x after rest) [
      | inl stands ↦ inl (stands.0, stands.1, (let few = stands.2 in omega (arith, few)))
      | inr gone ↦ inr gone
    ]

pub among_tail : {X : Type 0} (x : X) (more left : List X) → IsAmong x left → IsAmong x (more ++ left)
among_tail x [] left among = among
among_tail x (y ∷ more) left among = inr (among_tail x more left among)

among_front : {X : Type 0} (x : X) (before after : List X) → IsAmong x (before ++ x ∷ after)
among_front x [] after = inl refl
among_front x (y ∷ before) after = inr (among_front x before after)

pub among_stands : {X : Type 0} (x : X) (xs before after : List X) → xs ≡ before ++ x ∷ after → IsAmong x xs
among_stands x xs before after is = subst (IsAmong x) (sym is) (among_front x before after)

-- ---- a line has no two packets in a lane

kept_one : {X : Type 0} (b : Bool) (x : X) (xs : List X) → b ≡ true → length (cond b (x ∷ xs) xs) ≡ suc (length xs)
kept_one true x xs is = refl
kept_one false x xs is = cc

kept_some : {X : Type 0} (b : Bool) (x : X) (xs : List X) → length xs ≤ length (cond b (x ∷ xs) xs)
kept_some true x xs = omega arith
kept_some false x xs = omega arith

some_kept : {X : Type 0} (p : X → Bool) (x : X) (xs : List X) → p x ≡ true → IsAmong x xs → 1 ≤ length (filter p xs)
some_kept p x [] is among = elim among [ ]
some_kept p x (y ∷ xs) is (inl same) = let one = kept_one (p y) y (filter p xs) (ap p (sym same) ∙ is) in omega (arith, one)
some_kept p x (y ∷ xs) is (inr among) =
    let more = kept_some (p y) y (filter p xs) in let some = some_kept p x xs is among in omega (arith, more, some)

filtered_long : {X : Type 0} (p : X → Bool) (xs ys : List X) → length (filter p (xs ++ ys)) ≡ length (filter p xs) + length (filter p ys)
filtered_long p xs ys = ap length (filter-append p xs ys) ∙ length-append (filter p xs) (filter p ys)

two_kept : {X : Type 0} (p : X → Bool) (x y : X) (before after : List X) → p x ≡ true → p y ≡ true → IsAmong y after
    → 2 ≤ length (filter p (before ++ x ∷ after))
two_kept p x y before after one two among = grind (arith, filtered_long, kept_one, some_kept)

pub no_two : (core : Core) (n to line : ℕ) (one two : Letter) (before after : List Letter) → IsReached core → n < core.size.nodes → to < core.size.nodes
    → line < core.size.lines → lane_of core Requests n to ≡ before ++ one ∷ after → is_about n line one ≡ true → is_about n line two ≡ true → IsAmong two after
    → ⊥
no_two core n to line one two before after reached some t inside lane first second among =
    let p = is_about n line in
    let place = lane_place core.size.nodes Requests n to in
    let at = around (λ (l : List Letter). l) core.lanes place [] (lane_below core Requests n to (reached_well core reached) some t) in
    let waiting = flat_map (λ (part : NodeOf). option_to_list part.waiting) core.parts in
    let packet = lane_packets core Requests n to n line one reached some t first (among_stands one (lane_of core Requests n to) before after lane) in
    let alone = sole (line % core.size.nodes) (line_of (node_at core n).cache line) (packets_of core n line) one (reached_tidy core reached n line some inside)
    packet in
    let single : length (packets_of core n line) ≡ 1 = ap length alone.one in
    let whole : length (packets_of core n line) ≡ length (filter p waiting) + length (filter p (flat_map (λ (l : List Letter). l) core.lanes)) =
    filtered_long p waiting (flat_map (λ (l : List Letter). l) core.lanes) in
    let parted : length (filter p (flat_map (λ (l : List Letter). l) core.lanes)) ≡ length (filter p (at.before ++ (lane_at core place ++ at.after))) =
    ap (λ (ls : List Letter). length (filter p ls)) at.now in
    let split = filtered_long p at.before (lane_at core place ++ at.after) in
    let again = filtered_long p (lane_at core place) at.after in
    let many : 2 ≤ length (filter p (lane_at core place)) =
    subst (λ (ls : List Letter). 2 ≤ length (filter p ls)) (sym lane) (two_kept p one two before after first second among) in
    absurd (omega (arith, single, whole, parted, split, again, many))

-- ---- requests are taken

pub lost_all : (K : Change) (n : ℕ) (p : PolicyOf) (x : Core) (events : List Event) (q : PolicyOf) (y : Core) (j : ℕ) → AreAll is_taking events
    → GoesBy K n p x events q y
    → j < x.size.nodes → IsTaken x y j n
lost_all K n p x [] q y j kinds steady f = ([], ap (λ (c : Core). lane_of c Requests j n) steady.1)
lost_all K n p x (e ∷ events) q y j kinds steady f =
    let mid = steady.1 in
    let first = take_lost n p x steady.0 mid j e steady.2 kinds.0 f in
    let size = size_kept n p x steady.0 mid e steady.2 in
    let second = lost_all K n steady.0 mid events q y j kinds.1 steady.3 (subst (λ (z : Size). j < z.nodes) (sym size) f) in
    (first.0 ++ second.0, first.1 ∙ (ap (λ (l : List Letter). first.0 ++ l) second.1 ∙ sym (append_assoc first.0 second.0 (lane_of y Requests j n))))

-- a request that is taken leaves a lane, or is its front
left_or_taken : (n j from : ℕ) (x y : Core) (taking : Letter → Option NodeOf) (front : Letter) (rest : List Letter) → j < x.size.nodes → n < x.size.nodes
    → TakesOne x y n from Requests taking → lane_of x Requests j n ≡ front ∷ rest
    → (lane_of y Requests j n ≡ front ∷ rest) ⊎ ((from ≡ j) × (lane_of y Requests j n ≡ rest))
left_or_taken n j from x y taking front rest f some one lane = elim (cases_eq j from) [
  | inl same ↦
      let front_is : lane_of x Requests j n ≡ one.front.letter ∷ one.front.rest =
      subst (λ (k : ℕ). lane_of x Requests k n ≡ one.front.letter ∷ one.front.rest) (sym same) one.front.front in
      let now : lane_of y Requests j n ≡ one.front.rest = subst (λ (k : ℕ). lane_of y Requests k n ≡ one.front.rest) (sym same) one.sets.now in
      let left : one.front.rest ≡ rest = (let both : one.front.letter ∷ one.front.rest ≡ front ∷ rest = sym front_is ∙ lane in cc) in
      inr (sym same, now ∙ left)
  | inr other ↦ inl (one.sets.rest Requests j n f some (λ c d g. other d) ∙ lane)
]

-- an event that takes requests leaves a lane, or takes its front
pub take_one : {K : Change} (n j : ℕ) (p : PolicyOf) (x : Core) (q : PolicyOf) (y : Core) (e : Event) (front : Letter) (rest : List Letter)
    → IsGoing K n p x e q y
    → is_taking e ≡ true → j < x.size.nodes → lane_of x Requests j n ≡ front ∷ rest
    → (lane_of y Requests j n ≡ front ∷ rest) ⊎ (((e ≡ event.Serve j n) ⊎ (e ≡ event.Refuse j n)) × (lane_of y Requests j n ≡ rest))
take_one n j p x q y (event.Serve from i) front rest st kind f lane =
    elim (left_or_taken n j from x y (node_serving (node_at x n)) front rest f st.some (serve_one n p x q y from i st) lane) [
      | inl left ↦ inl left
      | inr taken ↦ inr (inl (ap (λ (k : ℕ). event.Serve k i) taken.0 ∙ ap (λ (k : ℕ). event.Serve j k) st.own.kind.own), taken.1)
    ]
take_one n j p x q y (event.Refuse from i) front rest st kind f lane =
    elim (left_or_taken n j from x y (node_refusing (node_at x n)) front rest f st.some (refuse_one n p x q y from i st) lane) [
      | inl left ↦ inl left
      | inr taken ↦ inr (inr (ap (λ (k : ℕ). event.Refuse k i) taken.0 ∙ ap (λ (k : ℕ). event.Refuse j k) st.own.kind.own), taken.1)
    ]
take_one n j p x q y (event.Reply i) front rest st kind f lane = inl ((reply_one n p x q y i st).sets.rest Requests j n f st.some (λ k. cc) ∙ lane)
take_one n j p x q y (event.Accept from i) front rest st kind f lane = cc
take_one n j p x q y (event.Ask i line k) front rest st kind f lane = cc
take_one n j p x q y (event.Issue i op) front rest st kind f lane = cc
take_one n j p x q y (event.Perform i line) front rest st kind f lane = cc

-- the front is kept; or it is taken, and perhaps more behind it
pub data FrontAt {K : Change} (n j : ℕ) (old new : Working) (held : HeldBy K n old new) (f : j < old.core.size.nodes) (front : Letter)
    (rest : List Letter) : Type 0 where
  Is_kept : decided (held.trace.looks j f).p (node_at (held.trace.looks j f).c n) front ≡ decision.Keep → FrontAt n j old new held f front rest
  Is_taken : (more : List Letter) → rest ≡ more ++ lane_of held.trace.c2 Requests j n → (q : PolicyOf) (next : Core) (e : Event)
      → decided_event (decided (held.trace.looks j f).p (node_at (held.trace.looks j f).c n) front) j n ≡ Some e
      → IsGoing K n (held.trace.looks j f).p (held.trace.looks j f).c e q next → FrontAt n j old new held f front rest

decides_at : (policy : PolicyOf) (node : NodeOf) (j n : ℕ) (front : Letter) (o : Option Event) → node.waiting ≡ None
    → taking_event policy node j n (Some front) ≡ o → decided_event (decided policy node front) j n ≡ o
decides_at policy node j n front o free is =
    subst (λ (w : Option Letter). (if is_some w then None else decided_event (decided policy node front) j n) ≡ o) free is

-- an event that takes a request leaves the rest of the lane
taken_rest : {K : Change} (n j : ℕ) (p : PolicyOf) (x : Core) (q : PolicyOf) (y : Core) (d : Decision) (e : Event) (front : Letter) (rest : List Letter)
    → decided_event d j n ≡ Some e → IsGoing K n p x e q y → lane_of x Requests j n ≡ front ∷ rest → lane_of y Requests j n ≡ rest
taken_rest {K = K} n j p x q y decision.Keep e front rest is st lane = cc
taken_rest {K = K} n j p x q y decision.Serve e front rest is st lane =
    let event_is : event.Serve j n ≡ e = (let both : Some (event.Serve j n) ≡ Some e = is in cc) in
    let one = serve_one n p x q y j n (subst (λ (o : Event). IsGoing K n p x o q y) (sym event_is) st) in
    let same : one.front.rest ≡ rest = (let both : one.front.letter ∷ one.front.rest ≡ front ∷ rest = sym one.front.front ∙ lane in cc) in
    one.sets.now ∙ same
taken_rest {K = K} n j p x q y decision.Refuse e front rest is st lane =
    let event_is : event.Refuse j n ≡ e = (let both : Some (event.Refuse j n) ≡ Some e = is in cc) in
    let one = refuse_one n p x q y j n (subst (λ (o : Event). IsGoing K n p x o q y) (sym event_is) st) in
    let same : one.front.rest ≡ rest = (let both : one.front.letter ∷ one.front.rest ≡ front ∷ rest = sym one.front.front ∙ lane in cc) in
    one.sets.now ∙ same

front_in : {K : Change} (n j : ℕ) (old new : Working) (held : HeldBy K n old new) (f : j < old.core.size.nodes) (front : Letter) (rest : List Letter)
    → WorksByTurns old.core → n < old.core.size.nodes → lane_of (held.trace.looks j f).c Requests j n ≡ front ∷ rest
    → (taken_next (held.trace.looks j f).p (held.trace.looks j f).c j n ≡ None)
    ⊎ ((e : Event) × (events : List Event) × ((held.trace.looks j f).second ≡ e ∷ events)
    × (taken_next (held.trace.looks j f).p (held.trace.looks j f).c j n ≡ Some e)) → FrontAt n j old new held f front rest
front_in {K = K} n j old new held f front rest good some lane (inl none) =
    let look = held.trace.looks j f in
    let takes = subst (λ (l : List Letter). taking_event look.p (node_at look.c n) j n (slice_get l 0) ≡ None) lane none in
    Is_kept (keep_of (decided look.p (node_at look.c n) front) j n (decides_at look.p (node_at look.c n) j n front None look.so.free takes))
front_in {K = K} n j old new held f front rest good some lane (inr took) =
    let look = held.trace.looks j f in
    let e = took.0 in
    let events = took.1 in
    let takes = subst (λ (l : List Letter). taking_event look.p (node_at look.c n) j n (slice_get l 0) ≡ Some e) lane took.3 in
    let decides = decides_at look.p (node_at look.c n) j n front (Some e) look.so.free takes in
    let steady = subst (λ (es : List Event). GoesBy K n look.p look.c es held.trace.p2 held.trace.c2) took.2 (held.after j f) in
    let kinds = subst (AreAll is_taking) took.2 look.second_takes in
    let st = steady.2 in
    let mid = steady.1 in
    let left = taken_rest n j look.p look.c steady.0 mid (decided look.p (node_at look.c n) front) e front rest decides st lane in
    let size = size_kept n look.p look.c steady.0 mid e st in
    let below : j < look.c.size.nodes = subst (λ (z : Size). j < z.nodes) (sym look.so.so.since.size) f in
    let lost = lost_all K n steady.0 mid events held.trace.p2 held.trace.c2 j kinds.1 steady.3 (subst (λ (z : Size). j < z.nodes) (sym size) below) in
    Is_taken lost.0 (sym left ∙ lost.1) steady.0 mid e decides st

pub front_at : {K : Change} (n j : ℕ) (old new : Working) (held : HeldBy K n old new) (f : j < old.core.size.nodes) (front : Letter) (rest : List Letter)
    → WorksByTurns old.core → n < old.core.size.nodes → lane_of old.core Requests j n ≡ front ∷ rest → FrontAt n j old new held f front rest
front_at n j old new held f front rest good some lane =
    let look = held.trace.looks j f in
    front_in n j old new held f front rest good some (look.lane ∙ (held.trace.accepted.requests j n f some ∙ lane)) look.did

-- ---- requests are asked

-- a lane has gained something at its end, or nothing
abbrev pub HasGained : List Letter → List Letter → Type 0
HasGained old new = (more : List Letter) × (new ≡ old ++ more)

gained_none : (lane : List Letter) → HasGained lane lane
gained_none lane = ([], sym (append-nil lane))

gained_then : (a b c : List Letter) → HasGained a b → HasGained b c → HasGained a c
gained_then a b c one two = (one.0 ++ two.0, two.1 ∙ (ap (λ (l : List Letter). l ++ two.0) one.1 ∙ append_assoc a one.0 two.0))

ask_gains : {K : Change} (n : ℕ) (p : PolicyOf) (x : Core) (q : PolicyOf) (y : Core) (b : ℕ) (e : Event) → IsGoing K n p x e q y → is_ask e ≡ true
    → b < x.size.nodes
    → HasGained (lane_of x Requests n b) (lane_of y Requests n b)
ask_gains n p x q y b (event.Ask i line k) st kind f =
    let one = ask_one n p x q y i line k st in
    elim (cases_eq b one.out.sent.1.target) [
      | inl same ↦ subst (λ (t : ℕ). HasGained (lane_of x Requests n t) (lane_of y Requests n t)) (sym same) (one.out.sent.1 ∷ [], one.sets.now)
      | inr other ↦ subst (λ (l : List Letter). HasGained (lane_of x Requests n b) l)
          (sym (one.sets.rest Requests n b st.some f (λ c d g. other g))) (gained_none (lane_of x Requests n b))
    ]
ask_gains n p x q y b (event.Serve from i) st kind f = cc
ask_gains n p x q y b (event.Refuse from i) st kind f = cc
ask_gains n p x q y b (event.Accept from i) st kind f = cc
ask_gains n p x q y b (event.Reply i) st kind f = cc
ask_gains n p x q y b (event.Issue i op) st kind f = cc
ask_gains n p x q y b (event.Perform i line) st kind f = cc

gained_along : (K : Change) (n b : ℕ) (is_one : Event → Bool) (kind : LaneKind)
    → ((p : PolicyOf) (x : Core) (e : Event) (q : PolicyOf) (y : Core) → IsGoing K n p x e q y → is_one e ≡ true → b < x.size.nodes
    → HasGained (lane_of x kind n b) (lane_of y kind n b)) → (p : PolicyOf) (x : Core) (events : List Event) (q : PolicyOf) (y : Core)
    → AreAll is_one events → GoesBy K n p x events q y → b < x.size.nodes → HasGained (lane_of x kind n b) (lane_of y kind n b)
gained_along K n b is_one kind gains p x [] q y kinds steady f =
    subst (λ (c : Core). HasGained (lane_of x kind n b) (lane_of c kind n b)) steady.1 (gained_none (lane_of x kind n b))
gained_along K n b is_one kind gains p x (e ∷ events) q y kinds steady f =
    let mid = steady.1 in
    let size = size_kept n p x steady.0 mid e steady.2 in
    gained_then (lane_of x kind n b) (lane_of mid kind n b) (lane_of y kind n b) (gains p x e steady.0 mid steady.2 kinds.0 f)
    (gained_along K n b is_one kind gains steady.0 mid events q y kinds.1 steady.3 (subst (λ (z : Size). b < z.nodes) (sym size) f))

pub gains_all : (K : Change) (n : ℕ) (p : PolicyOf) (x : Core) (events : List Event) (q : PolicyOf) (y : Core) (b : ℕ) → AreAll is_ask events
    → GoesBy K n p x events q y → b < x.size.nodes → HasGained (lane_of x Requests n b) (lane_of y Requests n b)
gains_all K n p x events q y b = gained_along K n b is_ask Requests (λ p x e q y. ask_gains n p x q y b e) p x events q y

-- ---- lanes that stay

among_ahead : {X : Type 0} (x : X) (xs more : List X) → IsAmong x xs → IsAmong x (xs ++ more)
among_ahead x [] more among = elim among [ ]
among_ahead x (y ∷ xs) more (inl same) = inl same
among_ahead x (y ∷ xs) more (inr among) = inr (among_ahead x xs more among)

ask_keeps : {K : Change} (n : ℕ) (p : PolicyOf) (x : Core) (q : PolicyOf) (y : Core) (a b : ℕ) (e : Event) → IsGoing K n p x e q y → is_ask e ≡ true
    → a < x.size.nodes → b < x.size.nodes → (a ≢ n → lane_of y Requests a b ≡ lane_of x Requests a b) × (lane_of y Answers a b ≡ lane_of x Answers a b)
ask_keeps n p x q y a b (event.Ask i line k) st kind f t =
    let one = ask_one n p x q y i line k st in
    (λ other. one.sets.rest Requests a b f t (λ c d g. other d), one.sets.rest Answers a b f t (λ c. cc))
ask_keeps n p x q y a b (event.Serve from i) st kind f t = cc
ask_keeps n p x q y a b (event.Refuse from i) st kind f t = cc
ask_keeps n p x q y a b (event.Accept from i) st kind f t = cc
ask_keeps n p x q y a b (event.Reply i) st kind f t = cc
ask_keeps n p x q y a b (event.Issue i op) st kind f t = cc
ask_keeps n p x q y a b (event.Perform i line) st kind f t = cc

pub asks_keep : (K : Change) (n : ℕ) (p : PolicyOf) (x : Core) (events : List Event) (q : PolicyOf) (y : Core) (a b : ℕ) → AreAll is_ask events
    → GoesBy K n p x events q y
    → a < x.size.nodes → b < x.size.nodes → (a ≢ n → lane_of y Requests a b ≡ lane_of x Requests a b) × (lane_of y Answers a b ≡ lane_of x Answers a b)
asks_keep K n p x [] q y a b kinds steady f t =
    (λ other. ap (λ (c : Core). lane_of c Requests a b) (sym steady.1), ap (λ (c : Core). lane_of c Answers a b) (sym steady.1))
asks_keep K n p x (e ∷ events) q y a b kinds steady f t =
    let mid = steady.1 in
    let size = size_kept n p x steady.0 mid e steady.2 in
    let first = ask_keeps n p x steady.0 mid a b e steady.2 kinds.0 f t in
    let rest = asks_keep K n steady.0 mid events q y a b kinds.1 steady.3 (subst (λ (z : Size). a < z.nodes) (sym size) f)
    (subst (λ (z : Size). b < z.nodes) (sym size) t) in
    (λ other. rest.0 other ∙ first.0 other, rest.1 ∙ first.1)

-- answers to a node are only sent, by another that takes requests
pub take_answers : {K : Change} (n : ℕ) (p : PolicyOf) (x : Core) (q : PolicyOf) (y : Core) (b : ℕ) (e : Event) → IsGoing K n p x e q y → is_taking e ≡ true
    → b < x.size.nodes
    → HasGained (lane_of x Answers n b) (lane_of y Answers n b)
take_answers n p x q y b (event.Reply i) st kind f =
    let one = reply_one n p x q y i st in
    elim (cases_eq b one.out.sent.1.target) [
      | inl same ↦ subst (λ (t : ℕ). HasGained (lane_of x Answers n t) (lane_of y Answers n t)) (sym same) (one.out.sent.1 ∷ [], one.sets.now)
      | inr other ↦ subst (λ (l : List Letter). HasGained (lane_of x Answers n b) l)
          (sym (one.sets.rest Answers n b st.some f (λ c d g. other g))) (gained_none (lane_of x Answers n b))
    ]
take_answers n p x q y b (event.Serve from i) st kind f =
    subst (λ (l : List Letter). HasGained (lane_of x Answers n b) l) (sym ((serve_one n p x q y from i st).sets.rest Answers n b st.some f (λ c. cc)))
    (gained_none (lane_of x Answers n b))
take_answers n p x q y b (event.Refuse from i) st kind f =
    subst (λ (l : List Letter). HasGained (lane_of x Answers n b) l) (sym ((refuse_one n p x q y from i st).sets.rest Answers n b st.some f (λ c. cc)))
    (gained_none (lane_of x Answers n b))
take_answers n p x q y b (event.Accept from i) st kind f = cc
take_answers n p x q y b (event.Ask i line k) st kind f = cc
take_answers n p x q y b (event.Issue i op) st kind f = cc
take_answers n p x q y b (event.Perform i line) st kind f = cc

pub takes_answers : (K : Change) (n : ℕ) (p : PolicyOf) (x : Core) (events : List Event) (q : PolicyOf) (y : Core) (b : ℕ) → AreAll is_taking events
    → GoesBy K n p x events q y → b < x.size.nodes → HasGained (lane_of x Answers n b) (lane_of y Answers n b)
takes_answers K n p x events q y b = gained_along K n b is_taking Answers (λ p x e q y. take_answers n p x q y b e) p x events q y

pub among_gained : (x : Letter) (old new : List Letter) → HasGained old new → IsAmong x old → IsAmong x new
among_gained x old new gained among = subst (IsAmong x) (sym gained.1) (among_ahead x old gained.0 among)
