-- What a line's shape says, clause by clause, from its list that is led.
use Rattle.std.proofs.Common.{◌≡◌, ◌⊎◌, ℕ, zero, suc, ◌%◌, ◌<◌, Bool, true, false, List, [], ◌∷◌, ◌++◌, length, get_or, Option, Some, None, refl, sym, ap}
use Rattle.std.proofs.{Common.{subst, ◌∙◌, arith, inl, inr, rules}, lemmas.Bool.{cases_lt}}
use Rattle.std.proofs.lemmas.List.{append_assoc, get_or_past}
use Rattle.std.proofs.lemmas.List.FromFn.{get_or-map-range_with_len, length-map-range_with_len}
use Rattle.std.specs.{Prelude.{IfSome, IsSome, is_some, unwrap_or}, Option.{option_or}, List.{AllByRecursion}}
use Rattle.sci_words.specs.{declared.stamped.Stamped.{Stamped}, Stamped.{zero_stamped}}
use Rattle.sci_packets.specs.{declared.body.Body.{Body}, Table.{is_request}}
use Rattle.sci_home.specs.{declared.state.HomeState.{HomeState}, Serving.{current_of}}
use Rattle.sci_cache.specs.State.{CacheState, Asking, Joining, FreshJoining, Returning, Rolling, Telling, contents_of}
use Rattle.sci_cache.specs.{Accepting.{accepting}, Kinds.{joins}, Member.{link_of}, Cache.{Letter, line_of}}
use Rattle.sci_core.specs.Core.{Core, node_at}
use Rattle.sci_core.specs.Shape.{follows, state_at, IsAuthority, IsSplit, HasOneAuthority, HasAuthorities, HaveContents, is_home_fresh, IsGoneStale}
use Rattle.sci_core.specs.Shape.{HasShape}
use Rattle.sci_core.specs.Sharing.{packets_of, answer_in, settled_at, all_settled, home_at, first_authority, last_at}
use Rattle.sci_core.specs.{Sharing.{answer_to as told}, Tidy.{IsSentIn, HasItsPackets, IsTidy, IsAccepted}}
use Rattle.sci_core.specs.WellFormed.{IsWellFormed}
use Rattle.sci_history.specs.Seen.{IsAmong}
use Rattle.sci_core.proofs.Shape.{LastContents.{last_home}, Views.{View, link_in}}
use Rattle.sci_core.proofs.Shape.Standings.{Role, Coming, Leading, Following, role_of, Agrees}
use Rattle.sci_core.proofs.Shape.Led.{role_in, fresh_in, AreFollowing, IsLed, following_in, roles_differ}
use Rattle.sci_core.proofs.Shape.Shapes.{IsLedFrom, IsShaped, Shaped}
use Rattle.sci_core.proofs.Shape.PerformShapes.{no_members, member_agrees, has_last}
use Rattle.sci_core.proofs.{Shape.ShapeSteps.{view_of, ShapedAt, request_tells}, Basics.Options.{found, same_some}}
use Rattle.sci_cache.specs.Accepting.{settled}
use Rattle.sci_cache.specs.Member.{contents_held}
use Rattle.sci_packets.specs.declared.body.Body.TheVariants as body
use Rattle.sci_home.specs.declared.state.HomeState.TheVariants as at

-- ---- standings and states

-- a node that holds contents as the authority leads
record Holds (state : CacheState) (d : Stamped) : Type 0 where
  pub leads : role_of state ≡ Some Leading
  pub same : (c : Stamped) → Agrees c state → d ≡ c

held : (state : CacheState) → IfSome (contents_held state) (Holds state)
held _ = search rules

-- the node that leads is the authority, and a member
pub record Leader (state : CacheState) : Type 0 where
  pub holds : IsSome (contents_held state)
  pub member : IsSome (link_of state)

-- a member that follows has contents
pub record Follower (state : CacheState) : Type 0 where
  pub follows_one : follows state ≡ true
  pub has : (c : Stamped) → Agrees c state → contents_of state ≡ Some c

-- what a role says of a state
abbrev pub Standing : Option Role → CacheState → Type 0
Standing None state = Unit {0}
Standing (Some Coming) state = joins state ≡ true
Standing (Some Leading) state = Leader state
Standing (Some Following) state = Follower state

standing : (state : CacheState) → Standing (role_of state) state
standing _ = search rules

pub stands_as : (state : CacheState) (role : Option Role) → role_of state ≡ role → Standing role state
stands_as state role e = subst (λ (r : Option Role). Standing r state) e (standing state)

-- contents that come from a home, or that a joining member has, stay the same once the answer has come
fdata_settles : (p : Option ℕ) (d : Stamped)
    → (link_of (settled Asking (Some (body.Fdata p d))) ≡ Some p) × (contents_of (settled Asking (Some (body.Fdata p d))) ≡ Some d)
fdata_settles None d = (refl, refl)
fdata_settles (Some p) d = (refl, refl)

joining_settles : (p : ℕ) (sent : Bool) (d : Stamped) (answer : Option Body)
    → (link_of (settled (FreshJoining p sent d) answer) ≡ Some (Some p)) × (contents_of (settled (FreshJoining p sent d) answer) ≡ Some d)
joining_settles p sent d None = (refl, refl)
joining_settles p true d (Some _) = search rules
joining_settles p false d (Some _) = search rules

-- who takes contents from a home asks for them
fdata_asks : (state : CacheState) (p : Option ℕ) (d : Stamped) → IsSome (accepting state (body.Fdata p d)) → state ≡ Asking
fdata_asks (Joining q true) p d h = search rules
fdata_asks (FreshJoining q true c) p d h = search rules
fdata_asks (Rolling None b c) p d h = search rules
fdata_asks (Telling r w true) p d h = search rules
fdata_asks _ p d h = search rules

-- who writes back contents has them
sent_back : (h : ℕ) (state : CacheState) (letter : Letter) (d : Stamped) → IsSentIn h state letter → letter.body ≡ body.Wback d → state ≡ Returning d
sent_back h Asking letter d (inl e, to) is = cc
sent_back h Asking letter d (inr e, to) is = cc
sent_back h (Joining p true) letter d sent is = search rules
sent_back h (FreshJoining p true c) letter d sent is = search rules
sent_back h (Returning c) letter d sent is = let both : body.Wback c ≡ body.Wback d = sym sent.0 ∙ is in let same : c ≡ d = cc in ap Returning same
sent_back h (Telling r w true) letter d sent is = search rules
sent_back h _ letter d sent is = search rules

-- ---- the one that leads

pub led_leader : (view : View) (c : Stamped) (must : Bool) (ns : List ℕ) → IsLed view c must ns → (a : ℕ) × (role_in view a ≡ Some Leading)
led_leader view c must [] led = elim led [ ]
led_leader view c must (n ∷ ns) (front, inl leads) = (n, leads.0)
led_leader view c must (n ∷ ns) (front, inr comes) = led_leader view c (fresh_in view n) ns comes.1

led_only : (view : View) (c : Stamped) (must : Bool) (ns : List ℕ) (a b : ℕ) → IsLed view c must ns → role_in view a ≡ Some Leading
    → role_in view b ≡ Some Leading → IsAmong a ns → IsAmong b ns → b ≡ a
led_only view c must [] a b led la lb ha hb = elim led [ ]
led_only view c must (n ∷ ns) a b (front, inl leads) la lb (inl ea) (inl eb) = eb ∙ sym ea
led_only view c must (n ∷ ns) a b (front, inl leads) la lb (inr ha) hb =
    absurd (roles_differ Following Leading (role_in view a) (following_in view c ns a leads.1 ha) la (λ s. cc))
led_only view c must (n ∷ ns) a b (front, inl leads) la lb (inl ea) (inr hb) =
    absurd (roles_differ Following Leading (role_in view b) (following_in view c ns b leads.1 hb) lb (λ s. cc))
led_only view c must (n ∷ ns) a b (front, inr comes) la lb (inl ea) hb =
    absurd (roles_differ Coming Leading (role_in view a) (ap (role_in view) ea ∙ comes.0) la (λ s. cc))
led_only view c must (n ∷ ns) a b (front, inr comes) la lb (inr ha) (inl eb) =
    absurd (roles_differ Coming Leading (role_in view b) (ap (role_in view) eb ∙ comes.0) lb (λ s. cc))
led_only view c must (n ∷ ns) a b (front, inr comes) la lb (inr ha) (inr hb) = led_only view c (fresh_in view n) ns a b comes.1 la lb ha hb

-- ---- what stands before and behind it

pub record Parts (view : View) (c : Stamped) (must : Bool) (before : List ℕ) (a : ℕ) (after : List ℕ) : Type 0 where
  pub coming : AllByRecursion (λ n. role_in view n ≡ Some Coming) before
  pub following : AreFollowing view c after
  pub fresh : must ≡ true → AllByRecursion (λ n. fresh_in view n ≡ true) (before ++ a ∷ [])

behind : (before : List ℕ) (a : ℕ) (after : List ℕ) → IsAmong a (before ++ a ∷ after)
behind [] a after = inl refl
behind (n ∷ before) a after = inr (behind before a after)

led_parts : (view : View) (c : Stamped) (must : Bool) (before : List ℕ) (a : ℕ) (after : List ℕ) → role_in view a ≡ Some Leading
    → IsLed view c must (before ++ a ∷ after) → Parts view c must before a after
led_parts view c must [] a after leading (front, inl leads) = record { coming = tt; following = leads.1; fresh = λ e. (front.0 e, tt) }
led_parts view c must [] a after leading (front, inr comes) = absurd (roles_differ Coming Leading (role_in view a) comes.0 leading (λ s. cc))
led_parts view c must (n ∷ before) a after leading (front, inl leads) =
    absurd (roles_differ Following Leading (role_in view a) (following_in view c (before ++ a ∷ after) a leads.1 (behind before a after)) leading (λ s. cc))
led_parts view c must (n ∷ before) a after leading (front, inr comes) =
    grind (arith, fresh_in, led_parts view c (fresh_in view n) before a after leading comes.1)

-- below a fresh member
led_below : (view : View) (c : Stamped) (must : Bool) (before : List ℕ) (m : ℕ) (middle : List ℕ) (a : ℕ) (after : List ℕ) → role_in view a ≡ Some Leading
    → fresh_in view m ≡ true → IsLed view c must (before ++ m ∷ (middle ++ a ∷ after)) → AllByRecursion (λ n. fresh_in view n ≡ true) (middle ++ a ∷ [])
led_below view c must [] m middle a after leading fresh (front, inl leads) =
    absurd (roles_differ Following Leading (role_in view a) (following_in view c (middle ++ a ∷ after) a leads.1 (behind middle a after)) leading (λ s. cc))
led_below view c must [] m middle a after leading fresh (front, inr comes) = (led_parts view c (fresh_in view m) middle a after leading comes.1).fresh fresh
led_below view c must (n ∷ before) m middle a after leading fresh (front, inl leads) =
    let there : IsAmong a (before ++ m ∷ (middle ++ a ∷ after)) =
    subst (IsAmong a) (append_assoc before (m ∷ middle) (a ∷ after)) (behind (before ++ m ∷ middle) a after) in
    absurd (roles_differ Following Leading (role_in view a) (following_in view c (before ++ m ∷ (middle ++ a ∷ after)) a leads.1 there) leading (λ s. cc))
led_below view c must (n ∷ before) m middle a after leading fresh (front, inr comes) =
    led_below view c (fresh_in view n) before m middle a after leading fresh comes.1

-- ---- a line of a machine

-- nodes beyond the machine's are no members
pub member_below : (core : Core) (line n : ℕ) (f : Option ℕ) → IsWellFormed core → link_in (view_of core line) n ≡ Some f → n < core.size.nodes
member_below core line n f well member = grind (arith, cases_lt, get_or_past, link_in, view_of)

-- an authority's contents, and that it leads
record Authority (core : Core) (line n : ℕ) : Type 0 where
  pub contents : Stamped
  pub are : contents_held (settled_at core line n) ≡ Some contents
  pub holds : Holds (settled_at core line n) contents

authority_so : (core : Core) (line n : ℕ) (o : Option Stamped) → contents_held (settled_at core line n) ≡ o
    → IfSome o (Holds (settled_at core line n)) → IsSome o → Authority core line n
authority_so core line n None is holds some = cc
authority_so core line n (Some d) is holds some = record { contents = d; are = is; holds = holds }

authority_of : (core : Core) (line n : ℕ) → IsAuthority core line n → Authority core line n
authority_of core line n authority =
    authority_so core line n (contents_held (settled_at core line n)) refl (held (settled_at core line n)) authority

pub authority_leads : (core : Core) (line n : ℕ) → IsAuthority core line n → role_in (view_of core line) n ≡ Some Leading
authority_leads core line n authority = (authority_of core line n authority).holds.leads

pub leads_authority : (core : Core) (line n : ℕ) → role_in (view_of core line) n ≡ Some Leading → IsAuthority core line n
leads_authority core line n leads = (stands_as (settled_at core line n) (Some Leading) leads).holds

pub leads_member : (core : Core) (line n : ℕ) → role_in (view_of core line) n ≡ Some Leading → (f : Option ℕ) × (link_in (view_of core line) n ≡ Some f)
leads_member core line n leads =
    found (link_in (view_of core line) n) (stands_as (settled_at core line n) (Some Leading) leads).member

same_if : (o : Option Stamped) (c : Stamped) → ((d : Stamped) → o ≡ Some d → d ≡ c) → IfSome o (λ d. d ≡ c)
same_if None c h = tt
same_if (Some d) c h = h d refl

-- every authority has the last contents
authority_same : (core : Core) (line : ℕ) (home : HomeState) (c : Stamped) (ns : List ℕ) (n : ℕ) → IsShaped (view_of core line) home c ns
    → IfSome (contents_held (settled_at core line n)) (λ d. d ≡ c)
authority_same core line home c ns n is =
    same_if (contents_held (settled_at core line n)) c (λ d e. (
    let some : IsAuthority core line n = ap (λ (o : Option Stamped). is_some o) e in
    let leads = authority_leads core line n some in
    let member = leads_member core line n leads in
    let agrees = member_agrees (view_of core line) home c ns n member.0 member.1 is in
    let has = authority_of core line n some in
    let same : d ≡ has.contents = same_some d has.contents (sym e ∙ has.are) in
    same ∙ has.holds.same c agrees))

-- ---- the last contents

-- one authority in some list of all_settled, if all have the same contents
first_or : (o rest : Option Stamped) (c : Stamped) → IfSome o (λ d. d ≡ c) → IsSome o ⊎ (rest ≡ Some c) → option_or o rest ≡ Some c
first_or (Some d) rest c same some = ap Some same
first_or None rest c same (inl some) = cc
first_or None rest c same (inr there) = there

first_held : (xs : List CacheState) (c : Stamped) (d : CacheState) (i : ℕ) → ((j : ℕ) → j < length xs → IfSome (contents_held (get_or xs j d)) (λ e. e ≡ c))
    → i < length xs → IsSome (contents_held (get_or xs i d)) → first_authority xs ≡ Some c
first_held [] c d i all within some = absurd (omega arith)
first_held (x ∷ xs) c d zero all within some = first_or (contents_held x) (first_authority xs) c (all 0 within) (inl some)
first_held (x ∷ xs) c d (suc i) all within some =
    let rest = first_held xs c d i (λ j lt. all (suc j) (omega arith)) (omega arith) some in
    first_or (contents_held x) (first_authority xs) c (all 0 (omega arith)) (inr rest)

last_led : (core : Core) (line : ℕ) (home : HomeState) (c : Stamped) (ns : List ℕ) (a : ℕ) → IsWellFormed core → current_of (home_at core line) ≡ None
    → IsShaped (view_of core line) home c ns → role_in (view_of core line) a ≡ Some Leading → last_at core line ≡ c
last_led core line home c ns a well none is leads =
    let d = settled_at core line a in
    let member = leads_member core line a leads in
    let below = member_below core line a member.0 well member.1 in
    let all = length-map-range_with_len (settled_at core line) 0 core.size.nodes in
    let at : (j : ℕ) → j < core.size.nodes → get_or (all_settled core line) j d ≡ settled_at core line j =
    λ j lt. get_or-map-range_with_len (settled_at core line) 0 core.size.nodes j j d lt (omega arith) in
    let same : (j : ℕ) → j < length (all_settled core line) → IfSome (contents_held (get_or (all_settled core line) j d)) (λ e. e ≡ c) =
    λ j lt. subst (λ (s : CacheState). IfSome (contents_held s) (λ e. e ≡ c)) (sym (at j (omega arith))) (authority_same core line home c ns j is) in
    let some : IsSome (contents_held (get_or (all_settled core line) a d)) =
    subst (λ (s : CacheState). IsSome (contents_held s)) (sym (at a below)) (leads_authority core line a leads) in
    let first = first_held (all_settled core line) c d a same (omega arith) some in
    ap (λ (o : Option Stamped). unwrap_or (option_or o (first_authority (all_settled core line))) zero_stamped) none
    ∙ ap (λ (o : Option Stamped). unwrap_or o zero_stamped) first

last_so : (core : Core) (line : ℕ) (home : HomeState) (c : Stamped) → IsWellFormed core → home_at core line ≡ home → Shaped (view_of core line) home c
    → last_at core line ≡ c
last_so core line (at.Home d) c well is (ns, shaped) = sym (last_home core line d (ap current_of is)) ∙ shaped.led
last_so core line (at.Fresh p d) c well is (ns, shaped) = sym (last_home core line d (ap current_of is)) ∙ shaped.led.0
last_so core line (at.Gone p) c well is (ns, shaped) =
    let first = led_leader (view_of core line) c false ns shaped.led in
    last_led core line (at.Gone p) c ns first.0 well (ap current_of is) shaped first.1

-- the contents of a line that has its shape are its last ones
pub last_is : (core : Core) (line : ℕ) (c : Stamped) → IsWellFormed core → ShapedAt core line c → last_at core line ≡ c
last_is core line c well shaped = last_so core line (home_at core line) c well refl shaped

-- ---- the clauses

no_authority : (core : Core) (line : ℕ) (d c : Stamped) (ns : List ℕ) → IsShaped (view_of core line) (at.Home d) c ns → (n : ℕ) → IsAuthority core line n → ⊥
no_authority core line d c ns is n authority =
    let member = leads_member core line n (authority_leads core line n authority) in
    no_members (view_of core line) d ns n member.0 member.1 c is

one_authority : (core : Core) (line : ℕ) (home : HomeState) (c : Stamped) (must : Bool) (ns : List ℕ) → IsWellFormed core
    → IsShaped (view_of core line) home c ns → IsLed (view_of core line) c must ns → HasOneAuthority core line ns
one_authority core line home c must ns well is led = grind (arith, view_of, led_leader, leads_member, member_below, leads_authority, authority_leads, led_only)

authorities_so : (core : Core) (line : ℕ) (home : HomeState) (c : Stamped) (ns : List ℕ) → IsWellFormed core → IsShaped (view_of core line) home c ns
    → HasAuthorities core line ns home
authorities_so core line (at.Home d) c ns well is = no_authority core line d c ns is
authorities_so core line (at.Fresh p d) c ns well is = one_authority core line (at.Fresh p d) c true ns well is is.led.1
authorities_so core line (at.Gone p) c ns well is = one_authority core line (at.Gone p) c false ns well is is.led

-- a list with an authority is led: from the front on by fresh members if the home is fresh
split_led : (core : Core) (line : ℕ) (home : HomeState) (c : Stamped) (ns : List ℕ) (a : ℕ) → IsAuthority core line a → IsShaped (view_of core line) home c ns
    → IsLed (view_of core line) c (is_home_fresh home) ns
split_led core line (at.Home d) c ns a authority is = absurd (no_authority core line d c ns is a authority)
split_led core line (at.Fresh p d) c ns a authority is = is.led.1
split_led core line (at.Gone p) c ns a authority is = is.led

pub split_parts : (core : Core) (line : ℕ) (home : HomeState) (c : Stamped) (ns before : List ℕ) (a : ℕ) (after : List ℕ)
    → IsShaped (view_of core line) home c ns → IsSplit core line ns before a after → Parts (view_of core line) c (is_home_fresh home) before a after
split_parts core line home c ns before a after is split =
    led_parts (view_of core line) c (is_home_fresh home) before a after (authority_leads core line a split.authority)
    (subst (IsLed (view_of core line) c (is_home_fresh home)) split.whole (split_led core line home c ns a split.authority is))

all_coming : (core : Core) (line : ℕ) (ns : List ℕ) → AllByRecursion (λ n. role_in (view_of core line) n ≡ Some Coming) ns
    → AllByRecursion (λ n. joins (settled_at core line n) ≡ true) ns
all_coming core line [] all = tt
all_coming core line (n ∷ ns) all = (stands_as (settled_at core line n) (Some Coming) all.0, all_coming core line ns all.1)

all_following : (core : Core) (line : ℕ) (c : Stamped) (ns : List ℕ) → AreFollowing (view_of core line) c ns
    → AllByRecursion (λ n. follows (settled_at core line n) ≡ true) ns × AllByRecursion (λ n. contents_of (settled_at core line n) ≡ Some c) ns
all_following core line c [] all = (tt, tt)
all_following core line c (n ∷ ns) all = grind (arith, stands_as, all_following core line c ns all.2)

-- ---- contents under way

told_same : (core : Core) (line : ℕ) (home : HomeState) (c : Stamped) (ns : List ℕ) (n : ℕ) (p : Option ℕ) (d : Stamped)
    → IsShaped (view_of core line) home c ns → told core n line ≡ Some (body.Fdata p d) → d ≡ c
told_same core line home c ns n p d is e =
    let asks = fdata_asks (state_at core line n) p d (subst (IsAccepted (state_at core line n)) e (is.accepts n)) in
    let here : settled_at core line n ≡ settled Asking (Some (body.Fdata p d)) =
    ap (settled (state_at core line n)) e ∙ ap (λ (s : CacheState). settled s (Some (body.Fdata p d))) asks in
    let settles = fdata_settles p d in
    let agrees = member_agrees (view_of core line) home c ns n p (ap link_of here ∙ settles.0) is in
    has_last c d (settled_at core line n) (ap contents_of here ∙ settles.1) agrees

joining_same : (core : Core) (line : ℕ) (home : HomeState) (c : Stamped) (ns : List ℕ) (n p : ℕ) (sent : Bool) (d : Stamped)
    → IsShaped (view_of core line) home c ns → state_at core line n ≡ FreshJoining p sent d → d ≡ c
joining_same core line home c ns n p sent d is e =
    let here : settled_at core line n ≡ settled (FreshJoining p sent d) (told core n line) = ap (λ (s : CacheState). settled s (told core n line)) e in
    let settles = joining_settles p sent d (told core n line) in
    let agrees = member_agrees (view_of core line) home c ns n (Some p) (ap link_of here ∙ settles.0) is in
    has_last c d (settled_at core line n) (ap contents_of here ∙ settles.1) agrees

returning_same : (core : Core) (line : ℕ) (home : HomeState) (c : Stamped) (ns : List ℕ) (n : ℕ) (d : Stamped) → IsShaped (view_of core line) home c ns
    → state_at core line n ≡ Returning d → told core n line ≡ None → d ≡ c
returning_same core line home c ns n d is e none =
    let here : settled_at core line n ≡ Returning d = ap (settled (state_at core line n)) none ∙ e in
    let agrees = member_agrees (view_of core line) home c ns n None (ap link_of here) is in
    has_last c d (settled_at core line n) (ap contents_of here) agrees

back_same : (core : Core) (line : ℕ) (home : HomeState) (c : Stamped) (ns : List ℕ) (n : ℕ) (letters : List Letter) → IsShaped (view_of core line) home c ns
    → packets_of core n line ≡ letters → HasItsPackets (line % core.size.nodes) (line_of (node_at core n).cache line) letters
    → AllByRecursion (λ letter. (d : Stamped) → letter.body ≡ body.Wback d → d ≡ c) letters
back_same core line home c ns n [] is are has = tt
back_same core line home c ns n (letter ∷ []) is are has = (
  λ d e. (
      let asks : is_request letter.body ≡ true = ap is_request e in
      let returning = sent_back (line % core.size.nodes) (state_at core line n) letter d (has.sent asks) e in
      returning_same core line home c ns n d is returning (ap answer_in are ∙ request_tells letter asks)),
  tt,
)
back_same core line home c ns n (letter ∷ another ∷ letters) is are has = elim has [ ]

home_same : (view : View) (home : HomeState) (c : Stamped) (ns : List ℕ) → IsLedFrom view home c ns → IfSome (current_of home) (λ d. d ≡ c)
home_same view (at.Home d) c ns led = led
home_same view (at.Fresh p d) c ns led = led.0
home_same view (at.Gone p) c ns led = tt

pub shape_of : (core : Core) (line : ℕ) (c : Stamped) → IsWellFormed core → IsTidy core → line < core.size.lines → ShapedAt core line c
    → IsGoneStale core line (home_at core line) → HasShape core line
shape_of core line c well tidy inside (ns, is) stale =
    let home = home_at core line in
    let last = last_is core line c well (ns, is) in
    let contents : HaveContents core line ns c = record {
      authority = λ n. authority_same core line home c ns n is;
      following = λ before after a split. (all_following core line c after (split_parts core line home c ns before a after is split).following).1;
      home = home_same (view_of core line) home c ns is.led;
      told = λ n p d. told_same core line home c ns n p d is;
      joining = λ n p sent d. joining_same core line home c ns n p sent d is;
      back = λ n below. back_same core line home c ns n (packets_of core n line) is refl (tidy n line below inside);
    } in
    record {
      nodes = ns;
      list = is.list;
      authorities = authorities_so core line home c ns well is;
      order = record {
        coming = λ before after a split. all_coming core line before (split_parts core line home c ns before a after is split).coming;
        following = λ before after a split. (all_following core line c after (split_parts core line home c ns before a after is split).following).0;
      };
      contents = subst (HaveContents core line ns) (sym last) contents;
      fresh = record {
        home = λ before after a split fresh. (split_parts core line home c ns before a after is split).fresh fresh;
        below = λ before middle after m a split fresh.
            led_below (view_of core line) c (is_home_fresh home) before m middle a after (authority_leads core line a split.authority) fresh
            (subst (IsLed (view_of core line) c (is_home_fresh home)) (split.whole ∙ append_assoc before (m ∷ middle) (a ∷ after))
            (split_led core line home c ns a split.authority is));
      };
      stale = stale;
    }
