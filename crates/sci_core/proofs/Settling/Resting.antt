-- A line of a state where nothing is under way: who leads its list, and what its home has.
use Rattle.std.proofs.Common.{◌≡◌, ℕ, ◌%◌, ◌<◌, ◌≤◌, ◌⊎◌, Bool, true, false, List, [], ◌∷◌, ◌++◌, filter, get_or, suc, Option, Some, None, refl, sym, ap}
use Rattle.std.proofs.{Common.{subst, rules, ◌∙◌, arith, inl, inr}, lemmas.Bool.{cases_lt, eq-eqb}}
use Rattle.std.proofs.lemmas.List.{get_or_past}
use Rattle.std.specs.{Prelude.{option_to_list, IsSome}, List.{flat_map}}
use Rattle.sci_words.specs.declared.stamped.Stamped.{Stamped}
use Rattle.sci_home.specs.{declared.state.HomeState.{HomeState}, Serving.{head_of}}
use Rattle.sci_cache.specs.State.{CacheState, Out, Joining, FreshJoining, Head, FreshHead, Below, Rolling, waits}
use Rattle.sci_cache.specs.{Member.{link_of}, Cache.{Letter, line_of}}
use Rattle.sci_history.specs.Seen.{IsAmong}
use Rattle.sci_core.proofs.{Basics.Options.{found}, Shape.Chains.{next_of}}
use Rattle.sci_core.proofs.Shape.Led.{IsLed, following_in, fresh_in, role_in, roles_differ}
use Rattle.sci_core.proofs.Shape.{ShapeClauses.{led_leader, leads_member, member_below}, ShapeSteps.{view_of}}
use Rattle.sci_core.proofs.Shape.{Shapes.{IsShaped}, Standings.{Coming, Following, Leading, role_of}}
use Rattle.sci_core.proofs.{Shape.{StaleFronts.{any_stale}, Views.{View, link_in, settled_in}}, ReachedLaws.{any_shaped}}
use Rattle.sci_core.proofs.{Tidy.TidyRuns.{reached_tidy}, FirstCome.Turns.{led_of}}
use Rattle.sci_core.proofs.WellFormed.WellFormedSteps.{reachable, reached_well}
use Rattle.sci_core.specs.{Core.{Core, node_at}, Draining.{IsDrained}}
use Rattle.sci_core.specs.{Node.{NodeOf, lines_of, no_node}, Reached.{IsReached}}
use Rattle.sci_core.specs.{Rounds.{is_head, is_telling, joins_before}, Shape.{IsGoneStale, state_at}}
use Rattle.sci_core.specs.Sharing.{answer_in, home_at, is_about, packets_of, under_way, answer_to as told}
use Rattle.sci_core.specs.{SharingList.{LinkedFrom}, Tidy.{HasItsPackets}}
use Rattle.sci_cache.specs.Accepting.{settled}
use Rattle.sci_cache.specs.Member.{is_fresh}
use Rattle.sci_home.specs.declared.state.HomeState.TheVariants as at

-- ---- nothing is under way

flat_none : {X : Type 0} (f : X → List Letter) (xs : List X) (d : X) → ((i : ℕ) → f (get_or xs i d) ≡ []) → flat_map f xs ≡ []
flat_none f [] d none = refl
flat_none f (x ∷ xs) d none = ap (λ (l : List Letter). l ++ flat_map f xs) (none 0) ∙ flat_none f xs d (λ i. none (suc i))

nothing_way : (core : Core) → IsDrained core → under_way core ≡ []
nothing_way core drained =
    ap (λ (l : List Letter). l ++ flat_map (λ (lane : List Letter). lane) core.lanes)
    (flat_none (λ (part : NodeOf). option_to_list part.waiting) core.parts no_node (λ n. ap option_to_list (drained.waiting n)))
    ∙ flat_none (λ (lane : List Letter). lane) core.lanes [] drained.lanes

no_packets : (core : Core) (n line : ℕ) → IsDrained core → packets_of core n line ≡ []
no_packets core n line drained = ap (filter (is_about n line)) (nothing_way core drained)

pub unanswered : (core : Core) (n line : ℕ) → IsDrained core → told core n line ≡ None
unanswered core n line drained = ap answer_in (no_packets core n line drained)

-- nodes beyond the machine's have no entry
pub out_beyond : (core : Core) (line n : ℕ) → IsReached core → core.size.nodes ≤ n → state_at core line n ≡ Out
out_beyond core line n reached past = grind (arith, reached_well, get_or_past)

pub idle : (core : Core) (line n : ℕ) → IsReached core → IsDrained core → line < core.size.lines → waits (state_at core line n) ≡ false
idle core line n reached drained inside =
    elim (cases_lt n core.size.nodes) [
      | inl below ↦ subst (HasItsPackets (line % core.size.nodes) (line_of (node_at core n).cache line)) (no_packets core n line drained)
          (reached_tidy core reached n line below inside)
      | inr past ↦ ap waits (out_beyond core line n reached past)
    ]

-- ---- one line at rest

pub record Quiet (core : Core) (line : ℕ) : Type 0 where
  pub contents : Stamped
  pub nodes : List ℕ
  pub is : IsShaped (view_of core line) (home_at core line) contents nodes
  pub none : (n : ℕ) → told core n line ≡ None
  pub waits : (n : ℕ) → waits (state_at core line n) ≡ false
  pub stale : IsGoneStale core line (home_at core line)

pub quiet : (core : Core) (line : ℕ) → IsReached core → IsDrained core → line < core.size.lines → Quiet core line
quiet core line reached drained inside =
    let shaped = any_shaped core (reachable core reached) line inside in
    record {
      contents = shaped.0;
      nodes = shaped.1.0;
      is = shaped.1.1;
      none = λ n. unanswered core n line drained;
      waits = λ n. idle core line n reached drained inside;
      stale = any_stale core line (reachable core reached) inside;
    }

-- what a function of the settled state gives
pub seen : {X : Type 0} (f : CacheState → X) (core : Core) (line n : ℕ) (s : CacheState) → Quiet core line → state_at core line n ≡ s
    → f (settled_in (view_of core line) n) ≡ f s
seen f core line n s q is = ap f (ap (settled (state_at core line n)) (q.none n) ∙ is)

-- ---- lists

-- the node that leads is the first, if none that comes links to it
first_leads : (view : View) (c : Stamped) (must : Bool) (first : Option ℕ) (ns : List ℕ) (n : ℕ) → IsLed view c must ns → LinkedFrom (link_in view) first ns
    → IsAmong n ns → role_in view n ≡ Some Leading → ((m : ℕ) → role_in view m ≡ Some Coming → link_in view m ≡ Some (Some n) → ⊥) → first ≡ Some n
first_leads view c must first [] n led linked h leads none = elim led [ ]
first_leads view c must first (x ∷ xs) n led linked (inl e) leads none = linked.0 ∙ ap Some (sym e)
first_leads view c must first (x ∷ xs) n (front, inl ahead) linked (inr h) leads none =
    absurd (roles_differ Following Leading (role_in view n) (following_in view c xs n ahead.1 h) leads (λ s. cc))
first_leads view c must first (x ∷ xs) n (front, inr comes) linked (inr h) leads none =
    let rest = first_leads view c _ linked.1.0 xs n comes.1 linked.1.2 h leads none in
    absurd (none x comes.0 (linked.1.1 ∙ ap Some rest))

-- a node behind the one that leads follows
after_leader : (view : View) (c : Stamped) (must : Bool) (first : Option ℕ) (ns : List ℕ) (n q : ℕ) → IsLed view c must ns → LinkedFrom (link_in view) first ns
    → IsAmong n ns → role_in view n ≡ Some Leading → link_in view n ≡ Some (Some q) → role_in view q ≡ Some Following
after_leader view c must first [] n q led linked h leads link = elim led [ ]
after_leader view c must first (x ∷ []) n q (front, inl ahead) linked (inl e) leads link =
    let next = next_of (link_in view) x n linked.1.0 q e linked.1.1 link in let none = linked.1.2 in cc
after_leader view c must first (x ∷ (y ∷ ys)) n q (front, inl ahead) linked (inl e) leads link = grind (arith, next_of, link_in, role_in)
after_leader view c must first (x ∷ xs) n q (front, inl ahead) linked (inr h) leads link =
    absurd (roles_differ Following Leading (role_in view n) (following_in view c xs n ahead.1 h) leads (λ s. cc))
after_leader view c must first (x ∷ xs) n q (front, inr comes) linked (inl e) leads link =
    absurd (roles_differ Coming Leading (role_in view x) comes.0 (ap (role_in view) (sym e) ∙ leads) (λ s. cc))
after_leader view c must first (x ∷ xs) n q (front, inr comes) linked (inr h) leads link =
    after_leader view c _ linked.1.0 xs n q comes.1 linked.1.2 h leads link

-- a node behind a fresh one that comes is fresh
fresh_behind : (view : View) (c : Stamped) (must : Bool) (first : Option ℕ) (ns : List ℕ) (n q : ℕ) → IsLed view c must ns → LinkedFrom (link_in view) first ns
    → IsAmong n ns → role_in view n ≡ Some Coming → fresh_in view n ≡ true → link_in view n ≡ Some (Some q) → fresh_in view q ≡ true
fresh_behind view c must first [] n q led linked h coming fresh link = elim led [ ]
fresh_behind view c must first (x ∷ xs) n q (front, inl ahead) linked (inl e) coming fresh link =
    absurd (roles_differ Leading Coming (role_in view x) ahead.0 (ap (role_in view) (sym e) ∙ coming) (λ s. cc))
fresh_behind view c must first (x ∷ xs) n q (front, inl ahead) linked (inr h) coming fresh link =
    absurd (roles_differ Following Coming (role_in view n) (following_in view c xs n ahead.1 h) coming (λ s. cc))
fresh_behind view c must first (x ∷ []) n q (front, inr comes) linked (inl e) coming fresh link = elim comes.1 [ ]
fresh_behind view c must first (x ∷ (y ∷ ys)) n q (front, inr comes) linked (inl e) coming fresh link = grind (arith, next_of, link_in, fresh_in)
fresh_behind view c must first (x ∷ xs) n q (front, inr comes) linked (inr h) coming fresh link =
    fresh_behind view c _ linked.1.0 xs n q comes.1 linked.1.2 h coming fresh link

-- ---- of a line at rest

-- a member that comes and waits for nothing is to join before the next entry
coming_joins : (s : CacheState) (n : ℕ) → role_of s ≡ Some Coming → link_of s ≡ Some (Some n) → joins_before s n ≡ true
coming_joins (Joining p sent) n role link = (let same : p ≡ n = cc in eq-eqb p n same)
coming_joins (FreshJoining p sent c) n role link = (let same : p ≡ n = cc in eq-eqb p n same)
coming_joins _ n role link = cc

leading_is : (s : CacheState) → role_of s ≡ Some Leading → waits s ≡ false → is_head s ≡ true
leading_is (Head f c) role quiet = refl
leading_is (FreshHead f c) role quiet = refl
leading_is _ role quiet = cc

pub head_leads : (s : CacheState) → is_head s ≡ true → role_of s ≡ Some Leading
head_leads (Head f c) is = refl
head_leads (FreshHead f c) is = refl
head_leads _ is = cc

linked_if : (s : CacheState) → waits s ≡ false → is_telling s ≡ false → (s ≡ Out) ⊎ IsSome (link_of s)
linked_if Out quiet not = search rules
linked_if _ quiet not = search rules

-- if nobody tells and nobody leads, no node has an entry
pub all_out : (core : Core) (line : ℕ) → IsReached core → IsDrained core → line < core.size.lines
    → ((n : ℕ) → n < core.size.nodes → is_telling (state_at core line n) ≡ false) → ((n : ℕ) → n < core.size.nodes → is_head (state_at core line n) ≡ false)
    → (n : ℕ) → state_at core line n ≡ Out
all_out core line reached drained inside tellers heads n =
    let q = quiet core line reached drained inside in
    let view = view_of core line in
    elim (cases_lt n core.size.nodes) [
      | inl below ↦ elim (linked_if (state_at core line n) (q.waits n) (tellers n below)) [
        | inl out ↦ out
        | inr some ↦
            let linked = found (link_of (state_at core line n)) some in
            let link : link_in view n ≡ Some linked.0 = seen link_of core line n (state_at core line n) q refl ∙ linked.1 in
            let led = led_of view (home_at core line) q.contents q.nodes n q.is (q.is.list.all n linked.0 link) in
            let leader = led_leader view q.contents led.0 q.nodes led.1 in
            let member = leads_member core line leader.0 leader.1 in
            let below_ = member_below core line leader.0 member.0 (reached_well core reached) member.1 in
            let head = leading_is (state_at core line leader.0) (sym (seen role_of core line leader.0 (state_at core line leader.0) q refl) ∙ leader.1)
            (q.waits leader.0) in
            let none = heads leader.0 below_ in
            let clash : true ≡ false = sym head ∙ none in
            cc
      ]
      | inr past ↦ out_beyond core line n reached past
    ]

-- the head of a list with nobody before it is what the home keeps
pub head_first : (core : Core) (line n : ℕ) → IsReached core → Quiet core line → is_head (state_at core line n) ≡ true
    → ((m : ℕ) → m < core.size.nodes → joins_before (state_at core line m) n ≡ false) → head_of (home_at core line) ≡ Some n
head_first core line n reached q head none =
    let view = view_of core line in
    let leads : role_in view n ≡ Some Leading = seen role_of core line n (state_at core line n) q refl ∙ head_leads (state_at core line n) head in
    let member = leads_member core line n leads in
    let among = q.is.list.all n member.0 member.1 in
    let led = led_of view (home_at core line) q.contents q.nodes n q.is among in
    first_leads view q.contents led.0 (head_of (home_at core line)) q.nodes n led.1 q.is.list.linked among leads (λ m comes link. (
    let state = state_at core line m in
    let some = member_below core line m (Some n) (reached_well core reached) link in
    let joins = coming_joins state n (sym (seen role_of core line m state q refl) ∙ comes) (sym (seen link_of core line m state q refl) ∙ link) in
    let not = none m some in
    let clash : true ≡ false = sym joins ∙ not in
    cc))

-- the next after a head is below it
below_is : (s : CacheState) → role_of s ≡ Some Following → waits s ≡ false → (f : Option ℕ) × (b : ℕ) × (c : Stamped) × (s ≡ Below f b c)
below_is (Below f b c) role quiet = (f, b, c, refl)
below_is (Rolling f b c) role quiet = cc
below_is _ role quiet = cc

pub next_below : (core : Core) (line n m : ℕ) → Quiet core line → role_of (state_at core line n) ≡ Some Leading
    → link_of (state_at core line n) ≡ Some (Some m) → (f : Option ℕ) × (b : ℕ) × (c : Stamped) × (state_at core line m ≡ Below f b c)
next_below core line n m q role link =
    let view = view_of core line in
    let leads : role_in view n ≡ Some Leading = seen role_of core line n (state_at core line n) q refl ∙ role in
    let links : link_in view n ≡ Some (Some m) = seen link_of core line n (state_at core line n) q refl ∙ link in
    let among = q.is.list.all n (Some m) links in
    let led = led_of view (home_at core line) q.contents q.nodes n q.is among in
    let follows = after_leader view q.contents led.0 (head_of (home_at core line)) q.nodes n m led.1 q.is.list.linked among leads links in
    below_is (state_at core line m) (sym (seen role_of core line m (state_at core line m) q refl) ∙ follows) (q.waits m)

-- the next after a fresh member that comes is fresh
pub next_fresh : (core : Core) (line n m : ℕ) → Quiet core line → role_of (state_at core line n) ≡ Some Coming
    → link_of (state_at core line n) ≡ Some (Some m) → is_fresh (state_at core line n) ≡ true → is_fresh (state_at core line m) ≡ true
next_fresh core line n m q role link fresh =
    let view = view_of core line in
    let comes : role_in view n ≡ Some Coming = seen role_of core line n (state_at core line n) q refl ∙ role in
    let links : link_in view n ≡ Some (Some m) = seen link_of core line n (state_at core line n) q refl ∙ link in
    let is : fresh_in view n ≡ true = seen is_fresh core line n (state_at core line n) q refl ∙ fresh in
    let among = q.is.list.all n (Some m) links in
    let led = led_of view (home_at core line) q.contents q.nodes n q.is among in
    sym (seen is_fresh core line m (state_at core line m) q refl)
    ∙ fresh_behind view q.contents led.0 (head_of (home_at core line)) q.nodes n m led.1 q.is.list.linked among comes is links

-- ---- the home of a line whose head is known

front_fresh : (view : View) (c : Stamped) (p n : ℕ) (first : Option ℕ) (ns : List ℕ) → first ≡ Some n → IsLed view c true ns
    → LinkedFrom (link_in view) first ns → fresh_in view n ≡ true
front_fresh view c p n first [] head led linked = elim led [ ]
front_fresh view c p n first (x ∷ xs) head led linked = (let here : x ≡ n = (let e = linked.0 in cc) in ap (fresh_in view) (sym here) ∙ led.0.0 refl)

-- a head that isn't fresh, under a home whose contents are gone
gone_so : (core : Core) (line n : ℕ) (home : HomeState) → Quiet core line → home_at core line ≡ home → head_of home ≡ Some n
    → is_fresh (state_at core line n) ≡ false → home ≡ at.Gone n
gone_so core line n (at.Home d) q is head stale = cc
gone_so core line n (at.Fresh p d) q is head stale =
    let view = view_of core line in
    let shaped = subst (λ (h : HomeState). IsShaped view h q.contents q.nodes) is q.is in
    let fresh = front_fresh view q.contents p n (Some p) q.nodes head shaped.led.1 shaped.list.linked in
    let now : is_fresh (state_at core line n) ≡ true = sym (seen is_fresh core line n (state_at core line n) q refl) ∙ fresh in
    let clash : true ≡ false = sym now ∙ stale in
    cc
gone_so core line n (at.Gone p) q is head stale = (let same : p ≡ n = cc in ap at.Gone same)

pub home_gone : (core : Core) (line n : ℕ) → Quiet core line → head_of (home_at core line) ≡ Some n → is_fresh (state_at core line n) ≡ false
    → home_at core line ≡ at.Gone n
home_gone core line n q head stale = gone_so core line n (home_at core line) q refl head stale

-- a fresh head, under a fresh home
fresh_so : (core : Core) (line n : ℕ) (home : HomeState) → Quiet core line → home_at core line ≡ home → head_of home ≡ Some n
    → is_fresh (state_at core line n) ≡ true → (d : Stamped) × (home ≡ at.Fresh n d)
fresh_so core line n (at.Home d) q is head fresh = cc
fresh_so core line n (at.Fresh p d) q is head fresh = (let same : p ≡ n = cc in (d, ap (λ (k : ℕ). at.Fresh k d) same))
fresh_so core line n (at.Gone p) q is head fresh = grind (arith, seen, fresh_in, view_of)

pub home_fresh : (core : Core) (line n : ℕ) → Quiet core line → head_of (home_at core line) ≡ Some n → is_fresh (state_at core line n) ≡ true
    → (d : Stamped) × (home_at core line ≡ at.Fresh n d)
home_fresh core line n q head fresh = fresh_so core line n (home_at core line) q refl head fresh

-- if no node has an entry, the home has the line alone
alone_so : (core : Core) (line : ℕ) (home : HomeState) → Quiet core line → home_at core line ≡ home → ((n : ℕ) → state_at core line n ≡ Out)
    → (d : Stamped) × (home ≡ at.Home d)
alone_so core line (at.Home d) q is out = (d, refl)
alone_so core line (at.Fresh p d) q is out = grind (arith, view_of, led_leader, seen, role_of)
alone_so core line (at.Gone p) q is out = grind (arith, view_of, led_leader, seen, role_of)

pub home_alone : (core : Core) (line : ℕ) → Quiet core line → ((n : ℕ) → state_at core line n ≡ Out) → (d : Stamped) × (home_at core line ≡ at.Home d)
home_alone core line q out = alone_so core line (home_at core line) q refl out

-- a line of the machine is a line of each node
pub line_known : (core : Core) (n line : ℕ) (node : NodeOf) → IsReached core → n < core.size.nodes → line < core.size.lines → node ≡ node_at core n
    → line < lines_of node
line_known core n line node reached lt inside here =
    let lines = ((reached_well core reached).each_part n lt).each in
    subst (λ (p : NodeOf). line < lines_of p) (sym here) (omega arith)
