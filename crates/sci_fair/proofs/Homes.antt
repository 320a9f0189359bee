-- In steady turns no request changes a list at its home: where nobody joins, the home keeps the node that asks as the head, and answers
-- wbok; and that changes the node's rank.
use Rattle.std.proofs.Common.{◌≡◌, ◌≢◌, ◌<◌, ◌+◌, ◌==◌, ◌⊎◌, ◌%◌, ◌*◌, ℕ, Bool, true, false, if◌then◌else◌, arith, List, [], ◌∷◌, ◌++◌}
use Rattle.std.proofs.Common.{Option, Some, None, refl, sym, ap, subst, ◌∙◌, inl, inr, rules}
use Rattle.std.proofs.lemmas.Bool.{cases_Bool, cases_eq, eq-eqb}
use Rattle.std.specs.Prelude.{IfSome, is_some, slice_get, unwrap_or}
use Rattle.sci_history.specs.Seen.{IsAmong}
use Rattle.sci_words.specs.declared.{event.{Event.{Event}}, stamped.Stamped.{Stamped}}
use Rattle.sci_packets.specs.{declared.body.Body.{Body, TheVariants.{Claim, Clear, Wback, Wbno, Wbok}}, Table.{is_request}}
use Rattle.sci_home.specs.{declared.state.HomeState.{HomeState}, Serving.{head_of, home_serving}}
use Rattle.sci_cache.specs.State.{CacheState, Asking, Below, Claiming, Clearing, Fading, FreshHead, FreshJoining, Head, Joining, Out, Purging, Returning}
use Rattle.sci_cache.specs.State.{Rolling, Telling}
use Rattle.sci_cache.specs.{Accepting.{accepting, settled}}
use Rattle.sci_cache.specs.{Kinds.{joins}, Member.{is_fresh}, Serving.{serving}, Cache.{Letter, line_of}}
use Rattle.sci_core.specs.declared.lane.LaneKind.TheVariants.{Requests, Answers}
use Rattle.sci_core.specs.Core.{Core, lane_of, lane_place, node_at}
use Rattle.sci_core.specs.{Node.{NodeOf, answering, home_of, node_serving}, Reached.{IsReached}, Shape.{IsGoneStale, is_home_fresh}}
use Rattle.sci_core.specs.Sharing.{answer_in, answer_to, home_at, is_about, packets_of, settled_at}
use Rattle.sci_core.specs.{SharingList.{LinkedFrom}, Size.{Size}, Tidy.{IsSentIn}}
use Rattle.sci_core.proofs.{Basics.Options.{found, of_some}, FirstCome.Turns.{led_of}, ReachedLaws.{any_shaped}}
use Rattle.sci_core.proofs.Shape.{Led.{IsLed, following_in, fresh_in, role_in, roles_differ}, ShapeClauses.{member_below}, ShapeSteps.{view_of}}
use Rattle.sci_core.proofs.Shape.{Shapes.{IsShaped}, Standings.{Coming, Following, Leading, role_of}, StaleFronts.{any_stale}, Views.{View, link_in}}
use Rattle.sci_core.proofs.Step.{NodeSides.{At_home, In_cache, ServedAs, serve_as}, Places.{place_requests, place_to}}
use Rattle.sci_core.proofs.Tidy.{TidyRuns.{reached_tidy}, TidySteps.{about_asker, about_from, about_line, answer_asker, request_asker}}
use Rattle.sci_core.proofs.WellFormed.WellFormedSteps.{reachable, reached_well}
use Rattle.sci_policy.specs.{Lines.{state_on}, Policy.{PolicyOf, awaits_home, is_cread}, Turn.{is_ask}}
use Rattle.sci_turn.specs.Moves.{taking_event}
use Rattle.sci_fair.specs.{Lanes.{changes_list}, Rank.{rank, work_on}, Retries.{is_tried_once}, Steady.{AreSteadyTurns, IsSteadyTurn, Working}}
use Rattle.sci_fair.proofs.Ahead.{Ahead, Amid, InLane, after_it, earlier, fewer, on_from}
use Rattle.sci_fair.proofs.{Descents.{turns_part, windows_fewer}, HomeAnswers.{awaits_sent}}
use Rattle.sci_fair.proofs.{AnswersGo.{Since, since_step}, Awaiting.{Awaits, ask_no_accept, await_all, taking_no_accept}}
use Rattle.sci_fair.proofs.{Comers.{coming_is, coming_links, leading_links}, Joins.{none_needy, taker_keeps}, Kept.{Class, IsIn, Keeps, is_needy, needy}}
use Rattle.sci_fair.proofs.LaneTurns.{among_gained, among_tail, asks_keep, take_answers}
use Rattle.sci_fair.proofs.{Promised.{never_on}, ReadSteps.{refuses_cread, refuses_it, replied_sent}}
use Rattle.sci_fair.proofs.Requests.{LetterTaken, request_taken, size_along, stands_in}
use Rattle.sci_fair.proofs.{Retries.{never_once}, StateSteps.{reply_one, serve_one, size_kept}, Steadied.{IsSame, IsSteady, Steadily}}
use Rattle.sci_fair.proofs.Trace.{AreAll, is_taking}
use Rattle.sci_fair.proofs.{Whereabouts.{in_lane, lane_packets}, WholeTurns.{request_alone, sole}}
use Rattle.sci_home.specs.declared.state.HomeState.TheVariants as at
use Rattle.sci_packets.specs.declared.body.Body.TheVariants as body
use Rattle.sci_words.specs.declared.event.Event.TheVariants as event

-- ---- the first of a list

-- where nobody comes, the one that leads is the first
led_first : (view : View) (c : Stamped) (must : Bool) (first : Option ℕ) (ns : List ℕ) (n : ℕ) → IsLed view c must ns → LinkedFrom (link_in view) first ns
    → IsAmong n ns → role_in view n ≡ Some Leading → ((m : ℕ) → IsAmong m ns → role_in view m ≡ Some Coming → ⊥)
    → (first ≡ Some n) × (must ≡ true → fresh_in view n ≡ true)
led_first view c must first [] n led linked among leads_ none = absurd led
led_first view c must first (x ∷ xs) n (front, inl ahead) linked (inl same) leads_ none =
    (linked.0 ∙ ap Some (sym same), λ is. ap (fresh_in view) same ∙ front.0 is)
led_first view c must first (x ∷ xs) n (front, inl ahead) linked (inr among) leads_ none =
    absurd (roles_differ Following Leading (role_in view n) (following_in view c xs n ahead.1 among) leads_ (λ e. cc))
led_first view c must first (x ∷ xs) n (front, inr comes) linked among leads_ none = absurd (none x (inl refl) comes.0)

-- so the home has it as the head, and is fresh exactly if the node's line is
heads_so : (core : Core) (line n : ℕ) (home : HomeState) (c : Stamped) (ns : List ℕ) (s : CacheState) → IsShaped (view_of core line) home c ns → IsAmong n ns
    → settled_at core line n ≡ s → role_of s ≡ Some Leading → ((m : ℕ) → role_in (view_of core line) m ≡ Some Coming → ⊥) → IsGoneStale core line home
    → (head_of home ≡ Some n) × (is_home_fresh home ≡ is_fresh s)
heads_so core line n (at.Home d) c ns s is among settled_ leads_ none stale =
    let view = view_of core line in
    let led = led_of view (at.Home d) c ns n is among in
    let first = led_first view c led.0 None ns n led.1 is.list.linked among (ap role_of settled_ ∙ leads_) (λ m there comes. none m comes) in
    let clash : None ≡ Some n = first.0 in cc
heads_so core line n (at.Fresh p d) c ns s is among settled_ leads_ none stale =
    let view = view_of core line in
    let first = led_first view c true (Some p) ns n is.led.1 is.list.linked among (ap role_of settled_ ∙ leads_) (λ m there comes. none m comes) in
    (first.0, sym (first.1 refl) ∙ ap is_fresh settled_)
heads_so core line n (at.Gone p) c ns s is among settled_ leads_ none stale =
    let view = view_of core line in
    let first = led_first view c false (Some p) ns n is.led is.list.linked among (ap role_of settled_ ∙ leads_) (λ m there comes. none m comes) in
    let same : p ≡ n = (let both : Some p ≡ Some n = first.0 in cc) in
    (first.0, sym stale ∙ (ap (λ (m : ℕ). is_fresh (settled_at core line m)) same ∙ ap is_fresh settled_))

wbok_if : (b : Bool) (one other : HomeState) → b ≡ true
    → IfSome (Some (if b then (one, Wbok) else (other, Wbno))) (λ (served : HomeState × Body). served.1 ≡ Wbok)
wbok_if true one other is = refl
wbok_if false one other is = cc

-- and then it answers wbok
home_word : (home : HomeState) (s : CacheState) (n at_home : ℕ) (letter : Letter) → awaits_home s ≡ true → IsSentIn at_home s letter → head_of home ≡ Some n
    → is_home_fresh home ≡ is_fresh s → IfSome (home_serving home n letter.body) (λ (served : HomeState × Body). served.1 ≡ Wbok)
home_word (at.Home d) s n at_home letter awaits sent head fresh = let clash : None ≡ Some n = head in cc
home_word (at.Fresh p d) (Claiming f c) n at_home letter awaits sent head fresh = grind (arith, wbok_if, eq-eqb)
home_word (at.Fresh p d) (Clearing c) n at_home letter awaits sent head fresh = grind (arith, wbok_if, eq-eqb)
home_word (at.Fresh p d) (Returning c) n at_home letter awaits sent head fresh = cc
home_word (at.Gone p) (Returning c) n at_home letter awaits sent head fresh = grind (arith, wbok_if, eq-eqb)
home_word (at.Gone p) (Claiming f c) n at_home letter awaits sent head fresh = cc
home_word (at.Gone p) (Clearing c) n at_home letter awaits sent head fresh = cc
home_word home s n at_home letter awaits sent head fresh = absurd (grind arith)

-- ---- nobody joins

is_asking : CacheState → Bool
is_asking Asking = true
is_asking _ = false

keeps_not_asking : Keeps (λ work s. is_asking s) false
unfolding is_asking
keeps_not_asking = record { accepts = λ work s a is. search rules; serves = λ work s m r is. search rules; asks = λ work s k is. search rules }

not_asking : Class
not_asking = record { test = λ work s. is_asking s; value = false; kept = keeps_not_asking }

asking_once : (s : CacheState) → is_tried_once s ≡ false → is_asking s ≡ false
unfolding is_asking
asking_once s none = search rules

comes_before : (s : CacheState) (b : Body) → is_needy s ≡ false → is_asking s ≡ false → IfSome (accepting s b) (λ t. joins t ≡ false)
unfolding is_asking
comes_before s b needs asks = search rules

joins_needy : (s : CacheState) → is_needy s ≡ false → joins s ≡ false
joins_needy s none = search rules

settled_some : (s : CacheState) (b : Body) (o : Option CacheState) → accepting s b ≡ o → is_needy s ≡ false → IfSome o (λ t. joins t ≡ false)
    → joins (settled s (Some b)) ≡ false
settled_some s b None is needs never = ap (λ (o : Option CacheState). joins (unwrap_or o s)) is ∙ joins_needy s needs
settled_some s b (Some t) is needs never = ap (λ (o : Option CacheState). joins (unwrap_or o s)) is ∙ never

settled_comes : (s : CacheState) (o : Option Body) → is_needy s ≡ false → is_asking s ≡ false → joins (settled s o) ≡ false
settled_comes s None needs asks = joins_needy s needs
settled_comes s (Some b) needs asks = settled_some s b (accepting s b) refl needs (comes_before s b needs asks)

-- at a moment of a turn nobody joins the list of a line, or reads it
abbrev NobodyJoins : ℕ → Core → Type 0
NobodyJoins line x = (m : ℕ) → m < x.size.nodes → (is_needy (state_on (node_at x m) line) ≡ false) × (is_asking (state_on (node_at x m) line) ≡ false)

none_comes : (line : ℕ) (x : Core) → IsReached x → NobodyJoins line x → (m : ℕ) → role_in (view_of x line) m ≡ Some Coming → ⊥
none_comes line x reached nobody m comes =
    let linked = coming_links (settled_at x line m) comes in
    let below = member_below x line m linked.0 (reached_well x reached) linked.1 in
    let none = nobody m below in
    let clash : true ≡ false = sym (coming_is (settled_at x line m) comes)
    ∙ settled_comes (state_on (node_at x m) line) (answer_to x m line) none.0 none.1 in cc

-- ---- the answer goes out, and comes

-- the answer waits at the node that served, or is on its way
data Replying (h n : ℕ) (reply : Letter) (x : Core) : Type 0 where
  Waits_there : (node_at x h).waiting ≡ Some reply → Replying h n reply x
  Has_gone : IsAmong reply (lane_of x Answers h n) → Replying h n reply x

takes_none : (policy : PolicyOf) (node : NodeOf) (from n : ℕ) (o : Option Letter) (reply : Letter) → node.waiting ≡ Some reply
    → taking_event policy node from n o ≡ None
takes_none policy node from n None reply waiting = refl
takes_none policy node from n (Some request) reply waiting = rw waiting refl

reply_on : (h n : ℕ) (reply : Letter) (p : PolicyOf) (x : Core) (e : Event) (q : PolicyOf) (y : Core) → IsSteady h p x e q y → is_taking e ≡ true
    → reply.target ≡ n → n < x.size.nodes → Replying h n reply x → Replying h n reply y
reply_on h n reply p x e q y st kind target some (Has_gone among) =
    Has_gone (among_gained reply (lane_of x Answers h n) (lane_of y Answers h n) (take_answers h p x q y n e st kind some) among)
reply_on h n reply p x (event.Serve from i) q y st kind target some (Waits_there waiting) =
    let none = takes_none p (node_at x h) from h (slice_get (lane_of x Requests from h) 0) reply waiting in
    let clash : None ≡ Some (event.Serve from h) = sym none ∙ st.own.decides.0 in cc
reply_on h n reply p x (event.Refuse from i) q y st kind target some (Waits_there waiting) =
    let none = takes_none p (node_at x h) from h (slice_get (lane_of x Requests from h) 0) reply waiting in
    let clash : None ≡ Some (event.Refuse from h) = sym none ∙ st.own.decides.0 in cc
reply_on h n reply p x (event.Reply i) q y st kind target some (Waits_there waiting) =
    let node = node_at x h in
    let one = reply_one h p x q y i st in
    let sent = replied_sent node node.waiting one.out.sent refl one.out.there in
    let same : one.out.sent.1 ≡ reply = (let both : Some one.out.sent.1 ≡ Some reply = sym sent ∙ waiting in cc) in
    let to : one.out.sent.1.target ≡ n = ap (λ (l : Letter). l.target) same ∙ target in
    let now : lane_of y Answers h n ≡ lane_of x Answers h one.out.sent.1.target ++ one.out.sent.1 ∷ [] =
    subst (λ (m : ℕ). lane_of y Answers h m ≡ lane_of x Answers h one.out.sent.1.target ++ one.out.sent.1 ∷ []) to one.sets.now in
    Has_gone (subst (IsAmong reply) (sym now) (among_tail reply (lane_of x Answers h one.out.sent.1.target) (one.out.sent.1 ∷ []) (inl (sym same))))
reply_on h n reply p x (event.Accept from i) q y st kind target some (Waits_there waiting) = cc
reply_on h n reply p x (event.Ask i line k) q y st kind target some (Waits_there waiting) = cc
reply_on h n reply p x (event.Issue i op) q y st kind target some (Waits_there waiting) = cc
reply_on h n reply p x (event.Perform i line) q y st kind target some (Waits_there waiting) = cc

reply_all : (h n : ℕ) (reply : Letter) (p : PolicyOf) (x : Core) (events : List Event) (q : PolicyOf) (y : Core) → AreAll is_taking events
    → Steadily h p x events q y → reply.target ≡ n → n < x.size.nodes → Replying h n reply x → Replying h n reply y
reply_all h n reply p x [] q y kinds steady target some replying = subst (Replying h n reply) steady.1 replying
reply_all h n reply p x (e ∷ events) q y kinds steady target some replying =
    let size = size_kept h p x steady.0 steady.1 e steady.2 in
    reply_all h n reply steady.0 steady.1 events q y kinds.1 steady.3 target (subst (λ (z : Size). n < z.nodes) (sym size) some)
    (reply_on h n reply p x e steady.0 steady.1 steady.2 kinds.0 target some replying)

-- ---- the request is served

plain_cread : (b : Body) → is_cread b ≡ true → changes_list b ≡ true → ⊥
plain_cread b cread changes = search rules

no_cache : (s : CacheState) (m : ℕ) (b : Body) → changes_list b ≡ true → serving s m b ≡ None
no_cache s m b changes = search rules

awaits_leads : (s : CacheState) → awaits_home s ≡ true → role_of s ≡ Some Leading
awaits_leads (Claiming f c) awaits = refl
awaits_leads (Clearing c) awaits = refl
awaits_leads (Returning c) awaits = refl
awaits_leads _ awaits = absurd (grind arith)

word_waits : (node : NodeOf) (letter : Letter) (next : NodeOf) → changes_list letter.body ≡ true → ServedAs node letter next
    → IfSome (home_serving (home_of node letter.line) letter.source letter.body) (λ (served : HomeState × Body). served.1 ≡ Wbok)
    → next.waiting ≡ Some (answering letter Wbok)
word_waits node letter next changes (At_home served is serves made) word = grind (arith, of_some)
word_waits node letter next changes (In_cache served serves made) word =
    let clash : None ≡ Some served = sym (no_cache (state_on node letter.line) letter.source letter.body changes) ∙ serves in cc

-- a wbok waits then
served_word : (h n : ℕ) (p : PolicyOf) (x : Core) (e : Event) (q : PolicyOf) (y : Core) (letter : Letter) (rest : List Letter) (s : CacheState)
    → IsSteady h p x e q y → n < x.size.nodes → lane_of x Requests n h ≡ letter ∷ rest → (e ≡ event.Serve n h) ⊎ (e ≡ event.Refuse n h)
    → letter.line < x.size.lines → is_request letter.body ≡ true → is_about n letter.line letter ≡ true → changes_list letter.body ≡ true
    → awaits_home s ≡ true → IsSentIn (letter.line % x.size.nodes) s letter → state_on (node_at x n) letter.line ≡ s → NobodyJoins letter.line x
    → answer_to x n letter.line ≡ None → h ≡ letter.line % x.size.nodes → Replying h n (answering letter Wbok) y
served_word h n p x e q y letter rest s st f lane (inr refuse) inside asks about changes awaits sent state nobody none home = grind (
  arith,
  plain_cread,
  refuses_cread,
  refuses_it,
)
served_word h n p x e q y letter rest s st f lane (inl serve) inside asks about changes awaits sent state nobody none home =
    let own = subst (λ (o : Event). IsSteady h p x o q y) serve st in
    let node = node_at x h in
    let line = letter.line in
    let one = serve_one h p x q y n h own in
    let same : one.front.letter ≡ letter = (let both : one.front.letter ∷ one.front.rest ≡ letter ∷ rest = sym one.front.front ∙ lane in cc) in
    let takes : node_serving node letter ≡ Some one.front.next = subst (λ (l : Letter). node_serving node l ≡ Some one.front.next) same one.front.takes in
    let does = of_some (ServedAs node letter) (node_serving node letter) one.front.next takes (serve_as node letter) in
    let reached = st.reached in
    let shaped = any_shaped x (reachable x reached) line inside in
    let settled_ : settled_at x line n ≡ s = ap (settled (state_on (node_at x n) line)) none ∙ state in
    let leads_ = awaits_leads s awaits in
    let links = leading_links (settled_at x line n) (ap role_of settled_ ∙ leads_) in
    let among = shaped.1.1.list.all n links.0 links.1 in
    let heads = heads_so x line n (home_at x line) shaped.0 shaped.1.0 s shaped.1.1 among settled_ leads_ (none_comes line x reached nobody)
    (any_stale x line (reachable x reached) inside) in
    let source : letter.source ≡ n = sym (request_asker letter asks) ∙ about_asker n line letter about in
    let word = home_word (home_at x line) s n (line % x.size.nodes) letter awaits sent heads.0 heads.1 in
    let word_here : IfSome (home_serving (home_of node line) letter.source letter.body) (λ (served : HomeState × Body). served.1 ≡ Wbok) =
    subst (λ (m : ℕ). IfSome (home_serving (home_of (node_at x m) line) letter.source letter.body) (λ (served : HomeState × Body). served.1 ≡ Wbok)) (sym home)
    (subst (λ (m : ℕ). IfSome (home_serving (home_at x line) m letter.body) (λ (served : HomeState × Body). served.1 ≡ Wbok)) (sym source) word) in
    Waits_there (ap (λ (part : NodeOf). part.waiting) one.node ∙ word_waits node letter one.front.next changes does word_here)

-- ---- so the node's line gets another rank

wbok_some : (s : CacheState) → awaits_home s ≡ true → is_some (accepting s Wbok) ≡ true
wbok_some s awaits = search rules

wbok_changes : (work : Option Bool) (s : CacheState) → awaits_home s ≡ true → IfSome (accepting s Wbok) (λ t. (rank work t == rank work s) ≡ false)
wbok_changes work s awaits = search rules

body_clash : (b c : Body) → b ≡ c → changes_list b ≡ true → changes_list c ≡ false → ⊥
body_clash b c is one two = let clash : true ≡ false = sym one ∙ (ap changes_list is ∙ two) in cc

sent_awaits : (home : ℕ) (s : CacheState) (letter : Letter) → changes_list letter.body ≡ true → IsSentIn home s letter → awaits_home s ≡ true
sent_awaits home (Claiming f c) letter changes sent = refl
sent_awaits home (Clearing c) letter changes sent = refl
sent_awaits home (Returning c) letter changes sent = refl
sent_awaits home Asking letter changes (inl read, to) = absurd (body_clash letter.body body.Mread read changes refl)
sent_awaits home Asking letter changes (inr read, to) = absurd (body_clash letter.body body.Fread read changes refl)
sent_awaits home (Joining p true) letter changes sent = absurd (body_clash letter.body body.Cread sent.0 changes refl)
sent_awaits home (FreshJoining p true c) letter changes sent = absurd (body_clash letter.body body.Cread sent.0 changes refl)
sent_awaits home (Purging q c) letter changes sent = absurd (body_clash letter.body body.Purge sent.0 changes refl)
sent_awaits home (Rolling f b c) letter changes sent = absurd (body_clash letter.body (body.Roll f) sent changes refl)
sent_awaits home (Telling r w true) letter changes sent = absurd (body_clash letter.body (body.Setback w) sent.0 changes refl)
sent_awaits home Fading letter changes sent = absurd (body_clash letter.body (body.Roll sent.0) sent.1 changes refl)
sent_awaits home (Joining p false) letter changes sent = absurd sent
sent_awaits home (FreshJoining p false c) letter changes sent = absurd sent
sent_awaits home (Telling r w false) letter changes sent = absurd sent
sent_awaits home Out letter changes sent = absurd sent
sent_awaits home (Head f c) letter changes sent = absurd sent
sent_awaits home (FreshHead f c) letter changes sent = absurd sent
sent_awaits home (Below f b c) letter changes sent = absurd sent

since_all : (n : ℕ) (old : Core) (p : PolicyOf) (x : Core) (events : List Event) (q : PolicyOf) (y : Core) → Steadily n p x events q y → Since n old x
    → Since n old y
since_all n old p x [] q y steady since = subst (Since n old) steady.1 since
since_all n old p x (e ∷ events) q y steady since =
    since_all n old steady.0 steady.1 events q y steady.3 (since_step n old x steady.1 e since steady.2.own.kind.own steady.2.steps)

module _ (n h i : ℕ) (old new last : Working) (letter : Letter) (taken : LetterTaken n h letter i old new) where
  -- another node is as it was when the turn began
  taker_since : Since h old.core taken.took.x
  taker_since =
      let t = taken.held.trace in
      let took = taken.took in
      since_all h old.core t.p1 t.c1 took.earlier took.p took.x took.before (subst (λ (m : ℕ). Since m old.core t.c1) taken.server t.accepted.since)

  kept_any : (class : Class) (m line : ℕ) → IsIn class m line old.core → IsIn class m line taken.took.x
  kept_any class m line is = elim (cases_eq m h) [
    | inl same ↦
        subst (λ (k : ℕ). IsIn class k line taken.took.x) (sym same)
        (taker_keeps class n h line i old new letter taken (subst (λ (k : ℕ). IsIn class k line old.core) same is))
    | inr other ↦ subst (λ (part : NodeOf). class.test (work_on part line) (state_on part line) ≡ class.value) (sym (taker_since.others m other)) is
  ]

  nobody_then : (line : ℕ) → line < old.core.size.lines → Amid 632 old last → NobodyJoins line taken.took.x
  unfolding not_asking
  nobody_then line inside amid = λ m below. (
      let old_m : m < old.core.size.nodes = subst (λ (z : Size). m < z.nodes) taker_since.size below in
      let ahead = fewer 281 632 old last (omega arith) amid.ahead in
      let once_none : is_tried_once (state_on (node_at old.core m) line) ≡ false = elim (cases_Bool (is_tried_once (state_on (node_at old.core m) line))) [
        | inr none ↦ none
        | inl once_ ↦ absurd (never_once m line ahead.order old last ahead.good old_m inside ahead.turns ahead.windows once_)
      ] in (
        kept_any (needy false) m line (none_needy line m old last amid old_m),
        kept_any not_asking m line (asking_once (state_on (node_at old.core m) line) once_none),
      )
      )

  -- the line that asked awaits its home still when the turn has ended
  awaits_then : (line : ℕ) → awaits_home (state_on (node_at taken.took.x n) line) ≡ true → Awaits n line new.core
  awaits_then line awaits =
      let t = taken.held.trace in
      let took = taken.took in
      elim (cases_eq n h) [
        | inr other ↦
            let apart : n ≢ i = λ same. other (same ∙ taken.server) in
            let then_ = t.asked.since.others n apart in
            subst (λ (part : NodeOf). awaits_home (state_on part line) ≡ true) (taker_since.others n other ∙ sym then_) awaits
        | inl same ↦
            let kind : is_taking took.e ≡ true = elim took.takes [ inl serve ↦ ap is_taking serve | inr refuse ↦ ap is_taking refuse ] in
            let begun : Awaits h line took.x = subst (λ (m : ℕ). Awaits m line took.x) same awaits in
            let second = await_all h line IsSame is_taking taking_no_accept took.p took.x (took.e ∷ took.later) t.p2 t.c2 (kind, took.later_take)
            (took.q, took.y, took.goes, took.after) begun in
            let third = await_all i line IsSame is_ask ask_no_accept t.p2 t.c2 t.e3 t.p3 new.core t.are_asks taken.held.asks
            (subst (λ (m : ℕ). Awaits m line t.c2) (sym taken.server) second) in
            subst (λ (m : ℕ). Awaits m line new.core) (taken.server ∙ sym same) third
      ]

  -- the wbok is on its way when the turn has ended
  word_goes : n < old.core.size.nodes → Replying h n (answering letter Wbok) taken.took.y → letter.source ≡ n
      → IsAmong (answering letter Wbok) (lane_of new.core Answers h n)
  word_goes some replying source =
      let t = taken.held.trace in
      let took = taken.took in
      let reply = answering letter Wbok in
      let since = t.taken.so.since in
      let size_x : took.x.size ≡ old.core.size = taker_since.size in
      let size_y = size_kept h took.p took.x took.q took.y took.e took.goes in
      let n_y : n < took.y.size.nodes = subst (λ (z : Size). n < z.nodes) (sym (size_y ∙ size_x)) some in
      let at_c2 = reply_all h n reply took.q took.y took.later t.p2 t.c2 took.later_take took.after source n_y replying in
      let n2 : n < t.c2.size.nodes = subst (λ (z : Size). n < z.nodes) (sym since.size) some in
      let h2 : h < t.c2.size.nodes = subst (λ (z : Size). h < z.nodes) (sym since.size) (subst (λ (z : Size). h < z.nodes) size_x took.goes.some) in
      let keeps = asks_keep IsSame i t.p2 t.c2 t.e3 t.p3 new.core h n t.are_asks taken.held.asks h2 n2 in
      elim at_c2 [
        | Has_gone among ↦ subst (IsAmong reply) (sym keeps.1) among
        | Waits_there waiting ↦
            let free : (node_at t.c2 h).waiting ≡ None = subst (λ (m : ℕ). (node_at t.c2 m).waiting ≡ None) taken.server t.taken.free in
            let clash : None ≡ Some reply = sym free ∙ waiting in cc
      ]

  word_never : n < old.core.size.nodes → h < old.core.size.nodes → Amid 632 old last → Ahead 1 new last → changes_list letter.body ≡ true
      → is_request letter.body ≡ true → is_about n letter.line letter ≡ true → letter.line < old.core.size.lines → h ≡ letter.line % old.core.size.nodes → ⊥
  word_never some to amid ahead changes asks about inside home =
      let took = taken.took in
      let x = took.x in
      let line = letter.line in
      let size : x.size ≡ old.core.size = taker_since.size in
      let n_x : n < x.size.nodes = subst (λ (z : Size). n < z.nodes) (sym size) some in
      let h_x : h < x.size.nodes = subst (λ (z : Size). h < z.nodes) (sym size) to in
      let l_x : line < x.size.lines = subst (λ (z : Size). line < z.lines) (sym size) inside in
      let among : IsAmong letter (lane_of x Requests n h) = subst (IsAmong letter) (sym took.lane) (inl refl) in
      let packet = lane_packets x Requests n h n line letter took.goes.reached n_x h_x about among in
      let alone = sole (line % x.size.nodes) (line_of (node_at x n).cache line) (packets_of x n line) letter (reached_tidy x took.goes.reached n line n_x l_x)
      packet in
      let s = state_on (node_at x n) line in
      let sent = alone.awaited.sent asks in
      let awaits = sent_awaits (line % x.size.nodes) s letter changes sent in
      let none : answer_to x n line ≡ None = ap answer_in alone.one ∙ request_alone letter asks in
      let home_x : h ≡ line % x.size.nodes = home ∙ ap (λ (z : Size). line % z.nodes) (sym size) in
      let replying = served_word h n took.p x took.e took.q took.y letter took.rest s took.goes n_x took.lane took.takes l_x asks about changes awaits sent
      refl (nobody_then line inside amid) none home_x in
      let source : letter.source ≡ n = sym (request_asker letter asks) ∙ about_asker n line letter about in
      let goes = word_goes some replying source in
      let core = new.core in
      let t = state_on (node_at core n) line in
      let work = work_on (node_at core n) line in
      let awaits_new = awaits_then line awaits in
      let to_ = found (accepting t Wbok) (wbok_some t awaits_new) in
      let differs = of_some (λ (r : CacheState). (rank work r == rank work t) ≡ false) (accepting t Wbok) to_.0 to_.1 (wbok_changes work t awaits_new) in
      let reply = answering letter Wbok in
      let held = taken.held in
      let n_new : n < core.size.nodes = subst (λ (z : Size). n < z.nodes) (sym held.size) some in
      let h_new : h < core.size.nodes = subst (λ (z : Size). h < z.nodes) (sym held.size) to in
      let l_new : line < core.size.lines = subst (λ (z : Size). line < z.lines) (sym held.size) inside in
      let window = ahead.windows.0 in
      let rest = ahead.windows.1 in
      let cut = turns_part IsSteadyTurn window rest new last (subst (λ (l : List ℕ). AreSteadyTurns l new last) ahead.windows.2 ahead.turns) in
      never_on n line h reply t to_.0 work refl (about_from n line reply refl (answer_asker reply refl ∙ source)) to_.1 differs window new cut.0 ahead.good
      n_new
      (ahead.windows.3 n n_new) cut.1 (record { state = refl; pending = refl; sender = h_new; inside = l_new; among = goes })

-- so amid steady turns no node has asked its home to change a list
pub none_changes : (n line : ℕ) (s : CacheState) (w last : Working) → n < w.core.size.nodes → Amid 912 w last → awaits_home s ≡ true → InLane n line s w.core
    → ⊥
none_changes n line s w last some amid awaits at =
    let ahead = amid.ahead in
    let nodes = w.core.size.nodes in
    let letter = at.letter in
    let sent = awaits_sent (line % nodes) s letter awaits at.sent in
    let place = lane_place nodes Requests n at.to in
    let is = in_lane w.core place letter ahead.good.reached at.among in
    let inside = (is.request (place_requests nodes n at.to some at.receiver)).letter_ok.about in
    let here : letter.line ≡ line = about_line n line letter at.about in
    let to : at.to ≡ letter.line % nodes =
    sym (is.to ∙ place_to nodes Requests n at.to at.receiver) ∙ (sent.1 ∙ ap (λ (l : ℕ). l % nodes) (sym here)) in
    let c = request_taken 3 3 nodes n at.to 632 letter ahead.order w last (omega arith) ahead.good refl some at.receiver
    (stands_in w.core n at.to letter ahead.good.between at.among) ahead.turns
    (windows_fewer nodes (70 * 4 + 632) 912 ahead.order (omega arith) ahead.windows) in
    let end = after_it (LetterTaken n at.to letter) 632 ahead.order w last ahead.good c in
    let back = earlier 632 (c.node ∷ []) c.old c.new last c.done.good (c.new, c.turn, refl) end in
    let amid_c = on_from 912 632 c.before w c.old last amid c.leads back in
    let size = size_along c.before w c.old ahead.good c.leads in
    word_never n at.to c.node c.old c.new last letter c.done (subst (λ (z : Size). n < z.nodes) (sym size) some)
    (subst (λ (z : Size). at.to < z.nodes) (sym size) at.receiver) amid_c (fewer 1 632 c.new last (omega arith) end) sent.0 at.asks
    (subst (λ (l : ℕ). is_about n l letter ≡ true) (sym here) at.about) (subst (λ (z : Size). letter.line < z.lines) (sym size) inside)
    (to ∙ ap (λ (z : Size). letter.line % z.nodes) (sym size))
