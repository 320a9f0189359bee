-- One line's list and what stands where in it, as a cache serves a request.
use Rattle.std.proofs.Common.{◌≡◌, ◌≢◌, ℕ, Bool, true, false, if◌then◌else◌, List, Option, Some, None, refl, sym, ap, subst, ◌∙◌, inl, inr, rules, arith}
use Rattle.std.proofs.lemmas.Bool.{cases_eq}
use Rattle.std.specs.Prelude.{IfSome, IsSome}
use Rattle.sci_words.specs.declared.stamped.Stamped.{Stamped}
use Rattle.sci_packets.specs.declared.body.Body.{Body}
use Rattle.sci_home.specs.{declared.state.HomeState.{HomeState}, Serving.{head_of}}
use Rattle.sci_cache.specs.State.{CacheState, Out, Asking, Joining, FreshJoining, Head, FreshHead, Below, Purging, Claiming, Clearing, Returning, Rolling}
use Rattle.sci_cache.specs.{State.{Telling, Fading, waits}, Accepting.{accepting}}
use Rattle.sci_cache.specs.Serving.{serving, is_next, serving_cread, serving_purge, serving_roll, serving_setback}
use Rattle.sci_cache.specs.{Member.{link_of}, Cache.{Letter}}
use Rattle.sci_core.specs.{Tidy.{IsSentIn, IsAccepted}}
use Rattle.sci_history.specs.Seen.{IsAmong}
use Rattle.sci_core.proofs.Shape.Chains.{TakenOut, without, not_in_without, chain_same, chain_taken_out, next_is_member}
use Rattle.sci_core.proofs.Shape.{Heads.{if_head, next_either}, Views.{View, link_in, settled_in, Shift}}
use Rattle.sci_core.proofs.Shape.Standings.{Coming, Leading, Following, role_of, Agrees, Alike, alike_itself}
use Rattle.sci_core.proofs.Shape.Led.{role_in, AgreesIn, IsLed, AlikeIn, alike_moved, same_link, Stands, alike_stands, led_stands, led_without, Joins}
use Rattle.sci_core.proofs.Shape.{Led.{led_joins}, Shapes.{AcceptsIn, IsLedFrom, IsShaped, Shaped, shaped_alike}}
use Rattle.sci_cache.specs.Accepting.{settled}
use Rattle.sci_cache.specs.Member.{is_fresh}
use Rattle.sci_packets.specs.declared.body.Body.TheVariants as body
use Rattle.sci_home.specs.declared.state.HomeState.TheVariants as at

-- stands as it stood, but for the link
pub record Stood (old : CacheState) (was : Option Body) (new : CacheState) (now : Option Body) : Type 0 where
  pub role : role_of (settled new now) ≡ role_of (settled old was)
  pub fresh : is_fresh (settled new now) ≡ is_fresh (settled old was)
  pub agrees : (c : Stamped) → Agrees c (settled old was) → Agrees c (settled new now)

-- a cache joins before another, which follows it now
pub record JoinsAs (a q : ℕ) (asker old : CacheState) (served : CacheState × Body) : Type 0 where
  pub idle : waits old ≡ false
  pub before : link_of asker ≡ Some (Some q)
  pub still : link_of (settled asker (Some served.1)) ≡ Some (Some q)
  pub coming : role_of asker ≡ Some Coming
  pub leads : role_of (settled asker (Some served.1)) ≡ Some Leading
  pub leading : role_of old ≡ Some Leading
  pub follows : role_of served.0 ≡ Some Following
  pub link : link_of served.0 ≡ link_of old
  pub fresh : is_fresh (settled asker (Some served.1)) ≡ is_fresh asker
  pub keeps : (c : Stamped) → Agrees c old → Agrees c served.0
  pub takes : (c : Stamped) → Agrees c old → Agrees c asker → Agrees c (settled asker (Some served.1))
  pub accepted : IsSome (accepting asker served.1)
  pub differ : asker ≡ old → ⊥

-- a purged cache, which followed, is no member any more; the asker links to whom it linked
pub record PurgesAs (q : ℕ) (asker old : CacheState) (served : CacheState × Body) : Type 0 where
  pub next : Option ℕ
  pub before : link_of asker ≡ Some (Some q)
  pub behind : link_of (settled asker (Some served.1)) ≡ Some next
  pub link : (answer : Option Body) (f : Option ℕ) → IsAccepted old answer → link_of (settled old answer) ≡ Some f → f ≡ next
  pub follows : (answer : Option Body) (f : Option ℕ) → IsAccepted old answer → link_of (settled old answer) ≡ Some f
      → role_of (settled old answer) ≡ Some Following
  pub gone : (answer : Option Body) → link_of (settled served.0 answer) ≡ None
  pub stood : Stood asker None asker (Some served.1)
  pub accepted : IsSome (accepting asker served.1)
  pub still : (answer : Option Body) (f : Option ℕ) → IsAccepted old answer → link_of (settled old answer) ≡ Some f → IsAccepted served.0 answer
  pub differ : asker ≡ old → ⊥

-- the asker, which followed, is no member any more; this cache links to whom it linked
pub record RollsAs (a : ℕ) (asker old : CacheState) (served : CacheState × Body) : Type 0 where
  pub next : Option ℕ
  pub idle : waits old ≡ false
  pub before : link_of old ≡ Some (Some a)
  pub behind : link_of served.0 ≡ Some next
  pub link : (f : Option ℕ) → link_of asker ≡ Some f → f ≡ next
  pub follows : (f : Option ℕ) → link_of asker ≡ Some f → role_of asker ≡ Some Following
  pub gone : link_of (settled asker (Some served.1)) ≡ None
  pub stood : Stood old None served.0 None
  pub accepted : (f : Option ℕ) → link_of asker ≡ Some f → IsSome (accepting asker served.1)
  pub differ : asker ≡ old → ⊥

-- what a cache does to its own standing and the asker's, whose state is given
pub data ServesAs (a q : ℕ) (asker old : CacheState) (served : CacheState × Body) : Type 0 where
  Keeps : ((answer : Option Body) → Alike old answer served.0 answer) → Alike asker None asker (Some served.1) → ServesAs a q asker old served
  Joined : JoinsAs a q asker old served → ServesAs a q asker old served
  Purged : PurgesAs q asker old served → ServesAs a q asker old served
  Rolled : RollsAs a asker old served → ServesAs a q asker old served

refuses : (a q : ℕ) (asker old : CacheState) → Alike asker None asker (Some body.Busy) → ServesAs a q asker old (old, body.Busy)
refuses a q asker old busy = Keeps (alike_itself old) busy

-- ---- Cread

-- an asker that joins before the old head p
record Joiner (asker : CacheState) (p : ℕ) : Type 0 where
  pub link : (answer : Option Body) → link_of (settled asker answer) ≡ Some (Some p)
  pub coming : role_of asker ≡ Some Coming
  pub leads : (d : Stamped) → role_of (settled asker (Some (body.Cdata d))) ≡ Some Leading
  pub fresh : (d : Stamped) → is_fresh (settled asker (Some (body.Cdata d))) ≡ is_fresh asker
  pub takes : (c d : Stamped) → d ≡ c → Agrees c asker → Agrees c (settled asker (Some (body.Cdata d)))
  pub accepted : (d : Stamped) → IsSome (accepting asker (body.Cdata d))
  pub refused : Alike asker None asker (Some body.Busy)
  pub waiting : waits asker ≡ true

joining : (p : ℕ) → Joiner (Joining p true) p
joining p = grind arith

joined_before : (a q : ℕ) (asker old : CacheState) (f : Option ℕ) (d : Stamped) → Joiner asker q → waits old ≡ false → role_of old ≡ Some Leading
    → Some f ≡ link_of old → ((c : Stamped) → Agrees c old → Agrees c (Below f a d)) → ServesAs a q asker old (Below f a d, body.Cdata d)
joined_before a q asker old f d joins idle leading link keeps = Joined (record {
  idle = idle;
  before = joins.link None;
  still = joins.link (Some (body.Cdata d));
  coming = joins.coming;
  leads = joins.leads d;
  leading = leading;
  follows = refl;
  link = link;
  fresh = joins.fresh d;
  keeps = keeps;
  takes = λ c h k. joins.takes c d (keeps c h) k;
  accepted = joins.accepted d;
  differ = λ e. (let waits_too = ap waits e in let waiting = joins.waiting in cc);
})

cread_as : (a q : ℕ) (asker old : CacheState) → Joiner asker q → ServesAs a q asker old (serving_cread old a)
cread_as a q asker (Head f d) joins = joined_before a q asker (Head f d) f d joins refl refl refl (λ c h. h)
cread_as a q asker (FreshHead f d) joins = joined_before a q asker (FreshHead f d) f d joins refl refl refl (λ c h. h)
cread_as a q asker old joins = refuses a q asker old joins.refused

-- ---- Purge

-- an entry that follows, if it is a member, and is purged
record Purgeable (old next : CacheState) (f : Option ℕ) (answer : Option Body) : Type 0 where
  pub link : (m : Option ℕ) → IsAccepted old answer → link_of (settled old answer) ≡ Some m → m ≡ f
  pub follows : (m : Option ℕ) → IsAccepted old answer → link_of (settled old answer) ≡ Some m → role_of (settled old answer) ≡ Some Following
  pub gone : link_of (settled next answer) ≡ None
  pub still : (m : Option ℕ) → IsAccepted old answer → link_of (settled old answer) ≡ Some m → IsAccepted next answer

below_purged : (f : Option ℕ) (b : ℕ) (c : Stamped) (answer : Option Body) → Purgeable (Below f b c) Out f answer
below_purged f b c None = search rules
below_purged f b c _ = search rules

rolling_purged : (f : Option ℕ) (b : ℕ) (c : Stamped) (answer : Option Body) → Purgeable (Rolling f b c) Fading f answer
rolling_purged None b c (Some body.Rolled) = search rules
rolling_purged (Some r) b c (Some body.Rolled) = search rules
rolling_purged f b c (Some body.Busy) = search rules
rolling_purged f b c _ = search rules

purges : (a q : ℕ) (d : Stamped) (old next : CacheState) (f : Option ℕ) → ((answer : Option Body) → Purgeable old next f answer) → (Purging q d ≡ old → ⊥)
    → ServesAs a q (Purging q d) old (next, body.Purged f)
purges a q d old next f is differ = Purged (record {
  next = f;
  before = refl;
  behind = refl;
  link = λ answer. (is answer).link;
  follows = λ answer. (is answer).follows;
  gone = λ answer. (is answer).gone;
  stood = record { role = refl; fresh = refl; agrees = λ c h. h };
  accepted = refl;
  still = λ answer. (is answer).still;
  differ = differ;
})

purge_as : (a q : ℕ) (d : Stamped) (old : CacheState) → ServesAs a q (Purging q d) old (serving_purge old)
purge_as a q d (Below f b c) = purges a q d (Below f b c) Out f (below_purged f b c) (λ e. cc)
purge_as a q d (Rolling f b c) = purges a q d (Rolling f b c) Fading f (rolling_purged f b c) (λ e. cc)
purge_as a q d old = refuses a q (Purging q d) old (record { sight = refl; agrees = λ c_ h. h; accepts = λ h. refl })

-- ---- Roll

-- an asker that leaves, and what it passes on: its link, if it is a member, and then it followed
record Leaver (asker : CacheState) (m : Option ℕ) : Type 0 where
  pub link : (f : Option ℕ) → link_of asker ≡ Some f → f ≡ m
  pub follows : (f : Option ℕ) → link_of asker ≡ Some f → role_of asker ≡ Some Following
  pub gone : link_of (settled asker (Some body.Rolled)) ≡ None
  pub ends : (f : Option ℕ) → link_of asker ≡ Some f → IsSome (accepting asker body.Rolled)
  pub refused : Alike asker None asker (Some body.Busy)
  pub waiting : waits asker ≡ true

rolling_busy : (f : Option ℕ) (b : ℕ) (c : Stamped) → Alike (Rolling f b c) None (Rolling f b c) (Some body.Busy)
rolling_busy None b c = record { sight = refl; agrees = λ c_ h. h; accepts = λ h. refl }
rolling_busy (Some r) b c = record { sight = refl; agrees = λ c_ h. h; accepts = λ h. refl }

rolling_ends : (f : Option ℕ) (b : ℕ) (c : Stamped) → IsSome (accepting (Rolling f b c) body.Rolled)
rolling_ends None b c = refl
rolling_ends (Some r) b c = refl

rolling : (f : Option ℕ) (b : ℕ) (c : Stamped) → Leaver (Rolling f b c) f
rolling f b c = grind (arith, rolling_ends, rolling_busy)

fading : (f : Option ℕ) → Leaver Fading f
fading f = grind arith

rolls_as : (a q : ℕ) (m : Option ℕ) (asker old next : CacheState) (f : Option ℕ) → Leaver asker m → waits old ≡ false → link_of old ≡ Some f
    → link_of next ≡ Some m → Stood old None next None → ServesAs a q asker old (if is_next f a then (next, body.Rolled) else (old, body.Busy))
rolls_as a q m asker old next f leaves idle here then_ stood = grind (arith, next_either, refuses)

roll_as : (a q : ℕ) (m : Option ℕ) (asker old : CacheState) → Leaver asker m → ServesAs a q asker old (serving_roll old a m)
roll_as a q m asker (Head f c) leaves =
    rolls_as a q m asker (Head f c) (Head m c) f leaves refl refl refl (record { role = refl; fresh = refl; agrees = λ c_ h. h })
roll_as a q m asker (FreshHead f c) leaves =
    rolls_as a q m asker (FreshHead f c) (FreshHead m c) f leaves refl refl refl (record { role = refl; fresh = refl; agrees = λ c_ h. h })
roll_as a q m asker (Below f b c) leaves =
    rolls_as a q m asker (Below f b c) (Below m b c) f leaves refl refl refl (record { role = refl; fresh = refl; agrees = λ c_ h. h })
roll_as a q m asker old leaves = refuses a q asker old leaves.refused

-- ---- Setback

tells : (a q r v : ℕ) (old next : CacheState) → ((answer : Option Body) → Alike old answer next answer) → ServesAs a q (Telling r v true) old (next, body.Told)
tells a q r v old next alike = Keeps alike (record { sight = refl; agrees = λ c h. h; accepts = λ h. refl })

below_told : (f : Option ℕ) (b w : ℕ) (d : Stamped) (answer : Option Body) → Alike (Below f b d) answer (Below f w d) answer
below_told f b w d None = search rules
below_told f b w d _ = search rules

rolling_told : (f : Option ℕ) (b w : ℕ) (d : Stamped) (answer : Option Body) → Alike (Rolling f b d) answer (Rolling f w d) answer
rolling_told None b w d (Some body.Busy) = search rules
rolling_told f b w d (Some body.Busy) = search rules
rolling_told f b w d _ = search rules

setback_as : (a q r v w : ℕ) (old : CacheState) → ServesAs a q (Telling r v true) old (serving_setback old a w)
setback_as a q r v w (Below f b c) = grind (arith, if_head, tells, below_told, alike_itself)
setback_as a q r v w (Rolling f b c) = grind (arith, if_head, tells, rolling_told, alike_itself)
setback_as a q r v w old = tells a q r v old old (alike_itself old)

-- ---- every request that comes to a cache

abbrev CacheServes : ℕ → ℕ → CacheState → CacheState → Body → Type 0
CacheServes a q asker old request = IfSome (serving old a request) (ServesAs a q asker old)

pub cache_serves : (h a q : ℕ) (old asker : CacheState) (letter : Letter) → IsSentIn h asker letter → letter.target ≡ q → CacheServes a q asker old letter.body
cache_serves h a q old Asking letter (inl e, to) here = subst (CacheServes a q Asking old) (sym e) tt
cache_serves h a q old Asking letter (inr e, to) here = subst (CacheServes a q Asking old) (sym e) tt
cache_serves h a q old (Joining p true) letter (e, to) here =
    subst (CacheServes a q (Joining p true) old) (sym e) (cread_as a q (Joining p true) old (subst (Joiner (Joining p true)) (sym to ∙ here) (joining p)))
cache_serves h a q old (FreshJoining p true c) letter (e, to) here = grind (arith, cread_as)
cache_serves h a q old (Purging r c) letter (e, to) here = grind (arith, purge_as)
cache_serves h a q old (Claiming f c) letter (e, to) here = subst (CacheServes a q (Claiming f c) old) (sym e) tt
cache_serves h a q old (Clearing c) letter (e, to) here = subst (CacheServes a q (Clearing c) old) (sym e) tt
cache_serves h a q old (Returning c) letter (e, to) here = subst (CacheServes a q (Returning c) old) (sym e) tt
cache_serves h a q old (Rolling f b c) letter e here = subst (CacheServes a q (Rolling f b c) old) (sym e) (roll_as a q f (Rolling f b c) old (rolling f b c))
cache_serves h a q old (Telling r w true) letter (e, to) here = subst (CacheServes a q (Telling r w true) old) (sym e) (setback_as a q r w w old)
cache_serves h a q old Fading letter (f, e) here = subst (CacheServes a q Fading old) (sym e) (roll_as a q f Fading old (fading f))
cache_serves h a q old _ letter sent here = elim sent [ ]

-- ---- one line, before and after

-- neither asker nor server
pub other_alike : (old new : View) (a q : ℕ) (next : CacheState) (body : Body) → Shift old new a q next body → (n : ℕ) → n ≢ a → n ≢ q → AlikeIn old new n
other_alike old new a q next body shift n not_asker not_server = grind (arith, alike_moved, alike_itself)

asker_alike : (old new : View) (a q : ℕ) (served : CacheState × Body) → Shift old new a q served.0 served.1
    → ((answer : Option Body) → Alike (old.state q) answer served.0 answer) → Alike (old.state a) None (old.state a) (Some served.1) → AlikeIn old new a
asker_alike old new a q served shift keeps asks =
    elim (cases_eq a q) [
      | inl here ↦
          let now : Alike (old.state a) (Some served.1) served.0 (Some served.1) =
          subst (λ (n : ℕ). Alike (old.state n) (Some served.1) served.0 (Some served.1)) (sym here) (keeps (Some served.1)) in
          alike_moved old new a None served.0 (Some served.1) shift.unanswered (ap new.state here ∙ shift.here) shift.answered
          (record { sight = now.sight ∙ asks.sight; agrees = λ c h. now.agrees c (asks.agrees c h); accepts = λ h. now.accepts (asks.accepts h) })
      | inr apart ↦ alike_moved old new a None (old.state a) (Some served.1) shift.unanswered (shift.others a apart) shift.answered asks
    ]

pub kept_alike : (old new : View) (a q : ℕ) (served : CacheState × Body) → Shift old new a q served.0 served.1
    → ((answer : Option Body) → Alike (old.state q) answer served.0 answer) → Alike (old.state a) None (old.state a) (Some served.1) → (n : ℕ)
    → AlikeIn old new n
kept_alike old new a q served shift keeps asks n =
    elim (cases_eq n a) [
      | inl asker ↦ subst (AlikeIn old new) (sym asker) (asker_alike old new a q served shift keeps asks)
      | inr not_asker ↦ elim (cases_eq n q) [
        | inl server ↦
            let apart : q ≢ a = λ e. not_asker (server ∙ e) in
            subst (AlikeIn old new) (sym server)
            (alike_moved old new q (old.answer q) served.0 (old.answer q) refl shift.here (shift.other_answers q apart) (keeps (old.answer q)))
        | inr other ↦ other_alike old new a q served.0 served.1 shift n not_asker other
      ]
    ]

-- what a function of the settled state gives at the asker and at the server, if they are two
record Sights (old new : View) (a q : ℕ) (served : CacheState × Body) : Type 1 where
  pub asker_was : {X : Type 0} (f : CacheState → X) → f (settled_in old a) ≡ f (old.state a)
  pub asker_is : {X : Type 0} (f : CacheState → X) → f (settled_in new a) ≡ f (settled (old.state a) (Some served.1))
  pub server_is : {X : Type 0} (f : CacheState → X) → f (settled_in new q) ≡ f (settled served.0 (old.answer q))

sights : (old new : View) (a q : ℕ) (served : CacheState × Body) → Shift old new a q served.0 served.1 → a ≢ q → Sights old new a q served
sights old new a q served shift apart = grind arith

-- the server has no answer under way to it
settled_none : (view : View) (q : ℕ) (state : CacheState) → view.answer q ≡ None → settled state (view.answer q) ≡ state
settled_none view q state none = ap (settled state) none

asker_agrees : (old new : View) (a q : ℕ) (served : CacheState × Body) (c : Stamped) → Shift old new a q served.0 served.1 → a ≢ q
    → Agrees c (settled (old.state a) (Some served.1)) → AgreesIn c new a
asker_agrees old new a q served c shift apart h = subst (Agrees c) (sym ((sights old new a q served shift apart).asker_is (λ s. s))) h

server_agrees : (old new : View) (a q : ℕ) (served : CacheState × Body) (c : Stamped) → Shift old new a q served.0 served.1 → a ≢ q
    → Agrees c (settled served.0 (old.answer q)) → AgreesIn c new q
server_agrees old new a q served c shift apart h = subst (Agrees c) (sym ((sights old new a q served shift apart).server_is (λ s. s))) h

asker_agreed : (old : View) (a : ℕ) (c : Stamped) → old.answer a ≡ None → AgreesIn c old a → Agrees c (old.state a)
asker_agreed old a c none h = subst (Agrees c) (settled_none old a (old.state a) none) h

-- a list that is led stays so
map_led : (old new : View) (home : HomeState) (c : Stamped) (ns ms : List ℕ) → ((must : Bool) → IsLed old c must ns → IsLed new c must ms)
    → IsLedFrom old home c ns → IsLedFrom new home c ms
map_led old new (at.Home d) c ns ms f led = led
map_led old new (at.Fresh p d) c ns ms f led = (led.0, f true led.1)
map_led old new (at.Gone p) c ns ms f led = f false led

-- the asker takes its answer, and the server takes what it took
accepts_both : (old new : View) (a q : ℕ) (served : CacheState × Body) → Shift old new a q served.0 served.1 → a ≢ q → IsSome (accepting (old.state a) served.1)
    → IsAccepted served.0 (old.answer q) → ((n : ℕ) → AcceptsIn old n) → (n : ℕ) → AcceptsIn new n
accepts_both old new a q served shift apart accepted still all n =
    elim (cases_eq n a) [
      | inl asker ↦ subst (AcceptsIn new) (sym asker)
          (subst (IsAccepted (new.state a)) (sym shift.answered)
          (subst (λ (s : CacheState). IsSome (accepting s served.1)) (sym (shift.others a apart)) accepted))
      | inr not_asker ↦ elim (cases_eq n q) [
        | inl server ↦ subst (AcceptsIn new) (sym server)
            (subst (IsAccepted (new.state q)) (sym (shift.other_answers q (λ e. apart (sym e))))
            (subst (λ (s : CacheState). IsAccepted s (old.answer q)) (sym shift.here) still))
        | inr other ↦ (other_alike old new a q served.0 served.1 shift n not_asker other).accepts (all n)
      ]
    ]

-- one joins before another, and every link stays
pub record JoinedAt (old new : View) (a q : ℕ) : Type 0 where
  pub joins : Joins old new a q
  pub links : (n : ℕ) → link_in new n ≡ link_in old n

pub joined_at : (old new : View) (a q : ℕ) (served : CacheState × Body) → Shift old new a q served.0 served.1 → JoinsAs a q (old.state a) (old.state q) served
    → JoinedAt old new a q
joined_at old new a q served shift joins =
    let apart : a ≢ q = λ e. joins.differ (ap old.state e) in
    let see = sights old new a q served shift apart in
    let none = shift.idle joins.idle in
    let was : link_in old a ≡ Some (Some q) = see.asker_was link_of ∙ joins.before in
    let was_at = settled_none old q (old.state q) none in
    let is_at = settled_none old q served.0 none in
    let server_same : link_in new q ≡ link_in old q = see.server_is link_of ∙ (ap link_of is_at ∙ (joins.link ∙ ap link_of (sym was_at))) in
    let server_agreed : (d : Stamped) → AgreesIn d old q → Agrees d (old.state q) = λ d h. asker_agreed old q d none h in
    record {
      links = λ n. elim (cases_eq n a) [
        | inl asker ↦ ap (link_in new) asker ∙ (see.asker_is link_of ∙ (joins.still ∙ (sym was ∙ ap (link_in old) (sym asker))))
        | inr not_asker ↦ elim (cases_eq n q) [
          | inl server ↦ ap (link_in new) server ∙ (server_same ∙ ap (link_in old) (sym server))
          | inr other ↦ same_link old new n (other_alike old new a q served.0 served.1 shift n not_asker other)
        ]
      ];
      joins = record {
        link = was;
        coming = see.asker_was role_of ∙ joins.coming;
        leading = ap role_of was_at ∙ joins.leading;
        leads = see.asker_is role_of ∙ joins.leads;
        follows = see.server_is role_of ∙ (ap role_of is_at ∙ joins.follows);
        fresh = see.asker_is is_fresh ∙ (joins.fresh ∙ sym (see.asker_was is_fresh));
        keeps = λ d h. server_agrees old new a q served d shift apart (subst (Agrees d) (sym is_at) (joins.keeps d (server_agreed d h)));
        takes = λ d h k. asker_agrees old new a q served d shift apart (joins.takes d (server_agreed d h) (asker_agreed old a d shift.unanswered k));
        others = λ n not_asker not_server. alike_stands old new n (other_alike old new a q served.0 served.1 shift n not_asker not_server);
      };
    }

joined_shaped : (old new : View) (a q : ℕ) (served : CacheState × Body) (home : HomeState) (c : Stamped) → Shift old new a q served.0 served.1
    → JoinsAs a q (old.state a) (old.state q) served → Shaped old home c → Shaped new home c
joined_shaped old new a q served home c shift joins (ns, is) =
    let apart : a ≢ q = λ e. joins.differ (ap old.state e) in
    let none = shift.idle joins.idle in
    let joined = joined_at old new a q served shift joins in
    let at = is.list.all a (Some q) joined.joins.link in (
      ns,
      record {
        list = chain_same (link_in old) (link_in new) (head_of home) (head_of home) ns refl joined.links is.list;
        led = map_led old new home c ns ns (λ must led. led_joins old new a q c must (head_of home) ns joined.joins is.list.linked is.list.once at led) is.led;
        accepts = accepts_both old new a q served shift apart joins.accepted (subst (IsAccepted served.0) (sym none) tt) is.accepts;
      },
    )

-- one that follows leaves, behind the one that links to it, and every other stands as it stood
pub record LeftAt (old new : View) (x y : ℕ) : Type 0 where
  pub out : TakenOut (link_in old) (link_in new) x y
  pub follows : role_in old y ≡ Some Following
  pub stand : (n : ℕ) → n ≢ y → Stands old new n

-- a list without the one that left
left_shaped : (old new : View) (x y : ℕ) (home : HomeState) (c : Stamped) (ns : List ℕ) → LeftAt old new x y → IsShaped old home c ns
    → ((n : ℕ) → AcceptsIn new n) → Shaped new home c
left_shaped old new x y home c ns left is accepts =
    let stand : (n : ℕ) → IsAmong n (without y ns) → Stands old new n = λ n h. left.stand n (not_in_without y n ns h) in (
      without y ns,
      record {
        list = chain_taken_out (link_in old) (link_in new) (head_of home) (head_of home) x y ns refl left.out is.list;
        led = map_led old new home c ns (without y ns)
            (λ must led. led_stands old new c must (without y ns) stand (led_without old c must y ns left.follows led)) is.led;
        accepts = accepts;
      },
    )

-- the next after the one that is purged
purged_next : (old new : View) (a q : ℕ) (served : CacheState × Body) (home : HomeState) (c : Stamped) (ns : List ℕ) → Shift old new a q served.0 served.1
    → PurgesAs q (old.state a) (old.state q) served → IsShaped old home c ns → (f : Option ℕ) × (link_in old q ≡ Some f)
purged_next old new a q served home c ns shift purges is =
    let see = sights old new a q served shift (λ e. purges.differ (ap old.state e)) in
    next_is_member (link_in old) (head_of home) a q ns is.list (see.asker_was link_of ∙ purges.before)

pub purged_at : (old new : View) (a q : ℕ) (served : CacheState × Body) (home : HomeState) (c : Stamped) (ns : List ℕ) → Shift old new a q served.0 served.1
    → PurgesAs q (old.state a) (old.state q) served → IsShaped old home c ns → LeftAt old new a q
purged_at old new a q served home c ns shift purges is =
    let apart : a ≢ q = λ e. purges.differ (ap old.state e) in
    let see = sights old new a q served shift apart in
    let next = purged_next old new a q served home c ns shift purges is in
    let same : next.0 ≡ purges.next = purges.link (old.answer q) next.0 (is.accepts q) next.1 in
    let asker : Stands old new a = record {
      role = see.asker_is role_of ∙ (purges.stood.role ∙ sym (see.asker_was role_of));
      fresh = see.asker_is is_fresh ∙ (purges.stood.fresh ∙ sym (see.asker_was is_fresh));
      agrees = λ d h. asker_agrees old new a q served d shift apart (purges.stood.agrees d (asker_agreed old a d shift.unanswered h));
    } in
    record {
      out = record {
        before = see.asker_was link_of ∙ purges.before;
        behind = see.asker_is link_of ∙ (purges.behind ∙ (ap Some (sym same) ∙ sym next.1));
        gone = see.server_is link_of ∙ purges.gone (old.answer q);
        apart = apart;
        others = λ n not_asker not_server. same_link old new n (other_alike old new a q served.0 served.1 shift n not_asker not_server);
      };
      follows = purges.follows (old.answer q) next.0 (is.accepts q) next.1;
      stand = λ n not_server. elim (cases_eq n a) [
        | inl e ↦ subst (Stands old new) (sym e) asker
        | inr other ↦ alike_stands old new n (other_alike old new a q served.0 served.1 shift n other not_server)
      ];
    }

purged_shaped : (old new : View) (a q : ℕ) (served : CacheState × Body) (home : HomeState) (c : Stamped) → Shift old new a q served.0 served.1
    → PurgesAs q (old.state a) (old.state q) served → Shaped old home c → Shaped new home c
purged_shaped old new a q served home c shift purges (ns, is) =
    let apart : a ≢ q = λ e. purges.differ (ap old.state e) in
    let next = purged_next old new a q served home c ns shift purges is in
    left_shaped old new a q home c ns (purged_at old new a q served home c ns shift purges is) is
    (accepts_both old new a q served shift apart purges.accepted (purges.still (old.answer q) next.0 (is.accepts q) next.1) is.accepts)

-- the next after the one that rolls out
rolled_next : (old new : View) (a q : ℕ) (served : CacheState × Body) (home : HomeState) (c : Stamped) (ns : List ℕ) → Shift old new a q served.0 served.1
    → RollsAs a (old.state a) (old.state q) served → IsShaped old home c ns → (f : Option ℕ) × (link_in old a ≡ Some f)
rolled_next old new a q served home c ns shift rolls is =
    next_is_member (link_in old) (head_of home) q a ns is.list (ap link_of (settled_none old q (old.state q) (shift.idle rolls.idle)) ∙ rolls.before)

pub rolled_at : (old new : View) (a q : ℕ) (served : CacheState × Body) (home : HomeState) (c : Stamped) (ns : List ℕ) → Shift old new a q served.0 served.1
    → RollsAs a (old.state a) (old.state q) served → IsShaped old home c ns → LeftAt old new q a
rolled_at old new a q served home c ns shift rolls is =
    let apart : a ≢ q = λ e. rolls.differ (ap old.state e) in
    let see = sights old new a q served shift apart in
    let none = shift.idle rolls.idle in
    let was_at = settled_none old q (old.state q) none in
    let is_at = settled_none old q served.0 none in
    let next = rolled_next old new a q served home c ns shift rolls is in
    let asker_link : link_of (old.state a) ≡ Some next.0 = sym (see.asker_was link_of) ∙ next.1 in
    let same : next.0 ≡ rolls.next = rolls.link next.0 asker_link in
    let server : Stands old new q = record {
      role = see.server_is role_of ∙ (ap role_of is_at ∙ (rolls.stood.role ∙ ap role_of (sym was_at)));
      fresh = see.server_is is_fresh ∙ (ap is_fresh is_at ∙ (rolls.stood.fresh ∙ ap is_fresh (sym was_at)));
      agrees = λ d h. server_agrees old new a q served d shift apart (subst (Agrees d) (sym is_at) (rolls.stood.agrees d (asker_agreed old q d none h)));
    } in
    record {
      out = record {
        before = ap link_of was_at ∙ rolls.before;
        behind = see.server_is link_of ∙ (ap link_of is_at ∙ (rolls.behind ∙ (ap Some (sym same) ∙ sym next.1)));
        gone = see.asker_is link_of ∙ rolls.gone;
        apart = λ e. apart (sym e);
        others = λ n not_server not_asker. same_link old new n (other_alike old new a q served.0 served.1 shift n not_asker not_server);
      };
      follows = see.asker_was role_of ∙ rolls.follows next.0 asker_link;
      stand = λ n not_asker. elim (cases_eq n q) [
        | inl e ↦ subst (Stands old new) (sym e) server
        | inr other ↦ alike_stands old new n (other_alike old new a q served.0 served.1 shift n not_asker other)
      ];
    }

rolled_shaped : (old new : View) (a q : ℕ) (served : CacheState × Body) (home : HomeState) (c : Stamped) → Shift old new a q served.0 served.1
    → RollsAs a (old.state a) (old.state q) served → Shaped old home c → Shaped new home c
rolled_shaped old new a q served home c shift rolls (ns, is) =
    let apart : a ≢ q = λ e. rolls.differ (ap old.state e) in
    let see = sights old new a q served shift apart in
    let next = rolled_next old new a q served home c ns shift rolls is in
    left_shaped old new q a home c ns (rolled_at old new a q served home c ns shift rolls is) is
    (accepts_both old new a q served shift apart (rolls.accepted next.0 (sym (see.asker_was link_of) ∙ next.1))
    (subst (IsAccepted served.0) (sym (shift.idle rolls.idle)) tt) is.accepts)

pub cache_shaped : (old new : View) (a q : ℕ) (served : CacheState × Body) (home : HomeState) (c : Stamped) → Shift old new a q served.0 served.1
    → ServesAs a q (old.state a) (old.state q) served → Shaped old home c → Shaped new home c
cache_shaped old new a q served home c shift (Keeps keeps asks) shaped = shaped_alike old new home c (kept_alike old new a q served shift keeps asks) shaped
cache_shaped old new a q served home c shift (Joined joins) shaped = joined_shaped old new a q served home c shift joins shaped
cache_shaped old new a q served home c shift (Purged purges) shaped = purged_shaped old new a q served home c shift purges shaped
cache_shaped old new a q served home c shift (Rolled rolls) shaped = rolled_shaped old new a q served home c shift rolls shaped
