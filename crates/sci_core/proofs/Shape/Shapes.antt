-- One line's list and what stands where in it, as its home serves a request.
use Rattle.std.proofs.Common.{◌≡◌, ◌≢◌, ℕ, Bool, true, false, List, [], ◌∷◌, Option, Some, None, refl, sym, ap, subst, ◌∙◌, inl, inr, arith}
use Rattle.std.proofs.lemmas.Bool.{cases_eq}
use Rattle.std.specs.Prelude.{IfSome, IsSome}
use Rattle.sci_words.specs.declared.stamped.Stamped.{Stamped}
use Rattle.sci_packets.specs.declared.body.Body.{Body}
use Rattle.sci_home.specs.declared.state.HomeState.{HomeState}
use Rattle.sci_home.specs.Serving.{head_of, serving_mread, serving_fread, serving_claim, serving_clear, serving_wback, home_serving as at_home}
use Rattle.sci_cache.specs.State.{CacheState, Asking, Joining, FreshJoining, Purging, Claiming, Clearing, Returning, Rolling, Telling, Fading}
use Rattle.sci_cache.specs.{Accepting.{accepting}, Member.{link_of}, Cache.{Letter}}
use Rattle.sci_core.specs.{SharingList.{IsListOf}, Tidy.{IsSentIn, IsAccepted}}
use Rattle.sci_history.specs.Seen.{IsAmong}
use Rattle.sci_core.proofs.Shape.{Chains.{chain_same, chain_front, chain_gone, none_empty, not_in}, Heads.{if_head}}
use Rattle.sci_core.proofs.Shape.{Views.{View, link_in, settled_in}, Standings.{Coming, Leading, role_of, Agrees, sight_of, Alike}}
use Rattle.sci_core.proofs.Shape.Led.{role_in, AgreesIn, IsLed, AlikeIn, same_link, Stands, alike_stands, following_stand, led_weaker, led_stands}
use Rattle.sci_core.proofs.Shape.Led.{led_agrees}
use Rattle.sci_cache.specs.Accepting.{settled}
use Rattle.sci_cache.specs.Member.{is_fresh}
use Rattle.sci_packets.specs.declared.body.Body.TheVariants as body
use Rattle.sci_home.specs.declared.state.HomeState.TheVariants as at

-- ---- shapes

abbrev pub AcceptsIn : View → ℕ → Type 0
AcceptsIn view n = IsAccepted (view.state n) (view.answer n)

-- A line whose home has it alone has no list to be led. The list's contents are the line's last contents, and so are
-- the home's if it has them.
abbrev pub IsLedFrom : View → HomeState → Stamped → List ℕ → Type 0
IsLedFrom view (at.Home d) c ns = d ≡ c
IsLedFrom view (at.Fresh p d) c ns = (d ≡ c) × IsLed view c true ns
IsLedFrom view (at.Gone p) c ns = IsLed view c false ns

pub record IsShaped (view : View) (home : HomeState) (c : Stamped) (ns : List ℕ) : Type 0 where
  pub list : IsListOf (link_in view) (head_of home) ns
  pub led : IsLedFrom view home c ns
  pub accepts : (n : ℕ) → AcceptsIn view n

-- the line has its shape, and these are its last contents
abbrev pub Shaped : View → HomeState → Stamped → Type 0
Shaped view home c = (ns : List ℕ) × IsShaped view home c ns

led_from_stands : (old new : View) (home : HomeState) (c : Stamped) (ns : List ℕ) → ((n : ℕ) → IsAmong n ns → Stands old new n) → IsLedFrom old home c ns
    → IsLedFrom new home c ns
led_from_stands old new (at.Home d) c ns stands led = led
led_from_stands old new (at.Fresh p d) c ns stands led = (led.0, led_stands old new c true ns stands led.1)
led_from_stands old new (at.Gone p) c ns stands led = led_stands old new c false ns stands led

-- if every node stands as it stood, nothing changes
pub shaped_alike : (old new : View) (home : HomeState) (c : Stamped) → ((n : ℕ) → AlikeIn old new n) → Shaped old home c → Shaped new home c
shaped_alike old new home c alike (ns, is) = (
  ns,
  record {
    list = chain_same (link_in old) (link_in new) (head_of home) (head_of home) ns refl (λ n. same_link old new n (alike n)) is.list;
    led = led_from_stands old new home c ns (λ n h. alike_stands old new n (alike n)) is.led;
    accepts = λ n. (alike n).accepts (is.accepts n);
  },
)

-- ---- an asker whose state stays, and whose answer comes

pub record Asks (old new : View) (a : ℕ) (asker : CacheState) (body : Body) : Type 0 where
  pub was : old.state a ≡ asker
  pub state : new.state a ≡ asker
  pub unanswered : old.answer a ≡ None
  pub answered : new.answer a ≡ Some body
  pub others : (n : ℕ) → n ≢ a → AlikeIn old new n

pub before : {X : Type 0} (f : CacheState → X) (old new : View) (a : ℕ) (asker : CacheState) (body : Body) → Asks old new a asker body
    → f (settled_in old a) ≡ f asker
before f old new a asker body asks = ap f (ap (settled (old.state a)) asks.unanswered ∙ asks.was)

pub after : {X : Type 0} (f : CacheState → X) (old new : View) (a : ℕ) (asker : CacheState) (body : Body) → Asks old new a asker body
    → f (settled_in new a) ≡ f (settled asker (Some body))
after f old new a asker body asks = ap f (ap (settled (new.state a)) asks.answered ∙ ap (λ (s : CacheState). settled s (Some body)) asks.state)

agrees_before : (c : Stamped) (old new : View) (a : ℕ) (asker : CacheState) (body : Body) → Asks old new a asker body → AgreesIn c old a → Agrees c asker
agrees_before c old new a asker body asks h = subst (Agrees c) (before (λ (s : CacheState). s) old new a asker body asks) h

agrees_after : (c : Stamped) (old new : View) (a : ℕ) (asker : CacheState) (body : Body) → Asks old new a asker body → Agrees c (settled asker (Some body))
    → AgreesIn c new a
agrees_after c old new a asker body asks h = subst (Agrees c) (sym (after (λ (s : CacheState). s) old new a asker body asks)) h

-- the answer is one that the asker takes
accepts_after : (old new : View) (a : ℕ) (asker : CacheState) (body : Body) → Asks old new a asker body → IsSome (accepting asker body)
    → ((n : ℕ) → AcceptsIn old n) → (n : ℕ) → AcceptsIn new n
accepts_after old new a asker body asks accepted all n =
    elim (cases_eq n a) [
      | inl here ↦ subst (AcceptsIn new) (sym here)
          (subst (IsAccepted (new.state a)) (sym asks.answered) (subst (λ (s : CacheState). IsSome (accepting s body)) (sym asks.state) accepted))
      | inr other ↦ (asks.others n other).accepts (all n)
    ]

-- refused by the home: the asker stands as it stood
pub stays_alike : (old new : View) (a : ℕ) (asker : CacheState) (body : Body) → Asks old new a asker body → Alike asker None asker (Some body) → (n : ℕ)
    → AlikeIn old new n
stays_alike old new a asker body asks alike n =
    elim (cases_eq n a) [
      | inl here ↦ subst (λ (m : ℕ). AlikeIn old new m) (sym here) (record {
        sight = after sight_of old new a asker body asks ∙ (alike.sight ∙ sym (before sight_of old new a asker body asks));
        agrees = λ d h. agrees_after d old new a asker body asks (alike.agrees d (agrees_before d old new a asker body asks h));
        accepts = λ h. (
            let accepted = alike.accepts tt in
            subst (IsAccepted (new.state a)) (sym asks.answered) (subst (λ (s : CacheState). IsAccepted s (Some body)) (sym asks.state) accepted));
      })
      | inr other ↦ asks.others n other
    ]

stays : (old new : View) (home : HomeState) (c : Stamped) (a : ℕ) (asker : CacheState) (body : Body) → Asks old new a asker body
    → Alike asker None asker (Some body) → Shaped old home c → Shaped new home c
stays old new home c a asker body asks alike shaped = shaped_alike old new home c (stays_alike old new a asker body asks alike) shaped

-- ---- a new front

-- the asker, which was no member, is the front now
pub fronts_list : (old new : View) (home home' : HomeState) (a : ℕ) (asker : CacheState) (body : Body) (ns : List ℕ) → Asks old new a asker body
    → link_of asker ≡ None → link_of (settled asker (Some body)) ≡ Some (head_of home) → head_of home' ≡ Some a
    → IsListOf (link_in old) (head_of home) ns → IsListOf (link_in new) (head_of home') (a ∷ ns)
fronts_list old new home home' a asker body ns asks none joins head list =
    chain_front (link_in old) (link_in new) (head_of home) (head_of home') a ns (before link_of old new a asker body asks ∙ none)
    (after link_of old new a asker body asks ∙ joins) head
    (λ n other. same_link old new n (asks.others n other)) list

others_stand : (old new : View) (first : Option ℕ) (a : ℕ) (asker : CacheState) (body : Body) (ns : List ℕ) → Asks old new a asker body
    → link_of asker ≡ None → IsListOf (link_in old) first ns → (n : ℕ) → IsAmong n ns → Stands old new n
others_stand old new first a asker body ns asks none list n h =
    alike_stands old new n (asks.others n
    (λ e. not_in (link_in old) first ns a (before link_of old new a asker body asks ∙ none) list (subst (λ (m : ℕ). IsAmong m ns) e h)))

-- it comes before the old head
comes_first : (old new : View) (first : Option ℕ) (a : ℕ) (asker : CacheState) (body : Body) (c : Stamped) (must : Bool) (ns : List ℕ)
    → Asks old new a asker body → link_of asker ≡ None → IsListOf (link_in old) first ns
    → role_of (settled asker (Some body)) ≡ Some Coming → (must ≡ true → is_fresh (settled asker (Some body)) ≡ true) → Agrees c (settled asker (Some body))
    → IsLed old c (is_fresh (settled asker (Some body))) ns → IsLed new c must (a ∷ ns)
comes_first old new first a asker body c must ns asks none list role fresh agrees led =
    let fresh_now = after is_fresh old new a asker body asks in
    let rest = led_stands old new c (is_fresh (settled asker (Some body))) ns (others_stand old new first a asker body ns asks none list) led in (
      (λ e. fresh_now ∙ fresh e, agrees_after c old new a asker body asks agrees),
      inr (after role_of old new a asker body asks ∙ role, subst (λ (b : Bool). IsLed new c b ns) (sym fresh_now) rest),
    )

-- it is the only one, and leads
leads_alone : (old new : View) (a : ℕ) (asker : CacheState) (body : Body) (c : Stamped) (must : Bool) (ns : List ℕ) → Asks old new a asker body → ns ≡ []
    → role_of (settled asker (Some body)) ≡ Some Leading → (must ≡ true → is_fresh (settled asker (Some body)) ≡ true) → Agrees c (settled asker (Some body))
    → IsLed new c must (a ∷ ns)
leads_alone old new a asker body c must ns asks empty role fresh agrees = grind (arith, after, agrees_after, role_of)

-- the asker is in front of the list
fronted : (old new : View) (home next : HomeState) (a : ℕ) (body : Body) (c : Stamped) (ns : List ℕ) → Asks old new a Asking body → IsShaped old home c ns
    → link_of (settled Asking (Some body)) ≡ Some (head_of home) → head_of next ≡ Some a → IsSome (accepting Asking body) → IsLedFrom new next c (a ∷ ns)
    → Shaped new next c
fronted old new home next a body c ns asks is joins head accepted led = (
  a ∷ ns,
  record {
    list = fronts_list old new home next a Asking body ns asks refl joins head is.list;
    led = led;
    accepts = accepts_after old new a Asking body asks accepted is.accepts;
  },
)

-- it is told the old head, p
told_front : (old new : View) (home : HomeState) (p a : ℕ) (c : Stamped) (ns : List ℕ) → head_of home ≡ Some p → Asks old new a Asking (body.Mgone p)
    → IsShaped old home c ns → IsLed old c false ns → Shaped new (at.Gone a) c
told_front old new home p a c ns head asks is led =
    fronted old new home (at.Gone a) a (body.Mgone p) c ns asks is (ap Some (sym head)) refl refl
    (comes_first old new (head_of home) a Asking (body.Mgone p) c false ns asks refl is.list refl (λ e. cc) tt led)

mread_shaped : (old new : View) (home : HomeState) (c : Stamped) (a : ℕ) → Asks old new a Asking (serving_mread home a).1 → Shaped old home c
    → Shaped new (serving_mread home a).0 c
mread_shaped old new (at.Home d) c a asks (ns, is) =
    fronted old new (at.Home d) (at.Gone a) a (body.Mdata d) c ns asks is refl refl refl
    (leads_alone old new a Asking (body.Mdata d) c false ns asks (none_empty (link_in old) None ns refl is.list) refl (λ e. cc) is.led)
mread_shaped old new (at.Fresh p d) c a asks (ns, is) = told_front old new (at.Fresh p d) p a c ns refl asks is (led_weaker old c true ns is.led.1)
mread_shaped old new (at.Gone p) c a asks (ns, is) = told_front old new (at.Gone p) p a c ns refl asks is is.led

fread_shaped : (old new : View) (home : HomeState) (c : Stamped) (a : ℕ) → Asks old new a Asking (serving_fread home a).1 → Shaped old home c
    → Shaped new (serving_fread home a).0 c
fread_shaped old new (at.Home d) c a asks (ns, is) =
    fronted old new (at.Home d) (at.Fresh a d) a (body.Fdata None d) c ns asks is refl refl refl
    (is.led, leads_alone old new a Asking (body.Fdata None d) c true ns asks (none_empty (link_in old) None ns refl is.list) refl (λ e. refl) is.led)
fread_shaped old new (at.Fresh p d) c a asks (ns, is) =
    let body = (serving_fread (at.Fresh p d) a).1 in
    fronted old new (at.Fresh p d) (at.Fresh a d) a body c ns asks is refl refl refl
    (is.led.0, comes_first old new (Some p) a Asking body c true ns asks refl is.list refl (λ e. refl) is.led.0 is.led.1)
fread_shaped old new (at.Gone p) c a asks (ns, is) = told_front old new (at.Gone p) p a c ns refl asks is is.led

-- ---- claims, clears and write-backs

abbrev pub HomeShapes : View → View → ℕ → CacheState → HomeState → Stamped → HomeState × Body → Type 0
HomeShapes old new a asker home c served = Asks old new a asker served.1 → Shaped old home c → Shaped new served.0 c

-- the front of a fresh list comes to write, and need not be fresh any more
claimed_led : (old new : View) (a n : ℕ) (f : Option ℕ) (c d : Stamped) (ns : List ℕ) → Asks old new a (Claiming f d) body.Wbok → n ≡ a → (IsAmong n ns → ⊥)
    → IsLed old c true (n ∷ ns) → IsLed new c false (n ∷ ns)
claimed_led old new a n f c d ns asks here absent (front, inl leads) =
    let agrees = agrees_after c old new a (Claiming f d) body.Wbok asks
    (agrees_before c old new a (Claiming f d) body.Wbok asks (subst (AgreesIn c old) here front.1)) in
    let role : role_in new a ≡ Some Leading = after role_of old new a (Claiming f d) body.Wbok asks in
    let stand : (m : ℕ) → IsAmong m ns → Stands old new m =
    λ m h. alike_stands old new m (asks.others m (λ e. absent (subst (λ (k : ℕ). IsAmong k ns) (e ∙ sym here) h))) in
    ((λ e. cc, subst (AgreesIn c new) (sym here) agrees), inl (ap (role_in new) here ∙ role, following_stand old new c ns stand leads.1))
claimed_led old new a n f c d ns asks here absent (front, inr comes) = grind (arith, role_in, before, role_of)

pub claimed_list : (old new : View) (a p : ℕ) (f : Option ℕ) (d : Stamped) (ns : List ℕ) → Asks old new a (Claiming f d) body.Wbok → p ≡ a
    → IsListOf (link_in old) (Some p) ns → IsListOf (link_in new) (Some a) ns
claimed_list old new a p f d ns asks same list =
    chain_same (link_in old) (link_in new) (Some p) (Some a) ns (ap Some (sym same)) (λ n. elim (cases_eq n a) [
      | inl here ↦ ap (link_in new) here
          ∙ (after link_of old new a (Claiming f d) body.Wbok asks
          ∙ (sym (before link_of old new a (Claiming f d) body.Wbok asks) ∙ ap (link_in old) (sym here)))
      | inr other ↦ same_link old new n (asks.others n other)
    ]) list

claimed_shaped : (old new : View) (a p : ℕ) (f : Option ℕ) (c d : Stamped) (ns : List ℕ) → Asks old new a (Claiming f d) body.Wbok → p ≡ a
    → IsListOf (link_in old) (Some p) ns → IsLed old c true ns → IsLed new c false ns
claimed_shaped old new a p f c d [] asks same list led = elim led [ ]
claimed_shaped old new a p f c d (n ∷ ns) asks same list led =
    let front : n ≡ a = (let e = list.linked.0 in let here : n ≡ p = cc in here ∙ same) in
    claimed_led old new a n f c d ns asks front list.once.0 led

claim_shaped : (old new : View) (home : HomeState) (c : Stamped) (a : ℕ) (f : Option ℕ) (d : Stamped) → Asks old new a (Claiming f d) (serving_claim home a).1
    → Shaped old home c → Shaped new (serving_claim home a).0 c
claim_shaped old new (at.Fresh p e) c a f d asks shaped =
    if_head (HomeShapes old new a (Claiming f d) (at.Fresh p e) c) p a (at.Gone a, body.Wbok) (at.Fresh p e, body.Wbno)
    (λ head is fresh. (
      fresh.0,
      record {
        list = claimed_list old new a p f d fresh.0 is head fresh.1.list;
        led = claimed_shaped old new a p f c d fresh.0 is head fresh.1.list fresh.1.led.1;
        accepts = accepts_after old new a (Claiming f d) body.Wbok is refl fresh.1.accepts;
      },
    ))
    (λ is fresh. stays old new (at.Fresh p e) c a (Claiming f d) body.Wbno is (record { sight = refl; agrees = λ c_ h. h; accepts = λ h. refl }) fresh) asks
    shaped
claim_shaped old new home c a f d asks shaped =
    stays old new home c a (Claiming f d) body.Wbno asks (record { sight = refl; agrees = λ c_ h. h; accepts = λ h. refl }) shaped

-- the only one leaves, and the home has the line alone
leaves_shaped : (old new : View) (home : HomeState) (c : Stamped) (p a : ℕ) (asker : CacheState) (back : Stamped) → head_of home ≡ Some p → p ≡ a
    → Asks old new a asker body.Wbok → link_of asker ≡ Some None → link_of (settled asker (Some body.Wbok)) ≡ None
    → IsSome (accepting asker body.Wbok) → ((ns : List ℕ) → IsShaped old home c ns → back ≡ c) → Shaped old home c → Shaped new (at.Home back) c
leaves_shaped old new home c p a asker back head same asks ends gone accepted contents (ns, is) = (
  [],
  record {
    list = chain_gone (link_in old) (link_in new) (head_of home) None a ns (head ∙ ap Some same) (before link_of old new a asker body.Wbok asks ∙ ends)
        (after link_of old new a asker body.Wbok asks ∙ gone) refl
        (λ n other. same_link old new n (asks.others n other)) is.list;
    led = contents ns is;
    accepts = accepts_after old new a asker body.Wbok asks accepted is.accepts;
  },
)

clear_shaped : (old new : View) (home : HomeState) (c : Stamped) (a : ℕ) (d : Stamped) → Asks old new a (Clearing d) (serving_clear home a).1
    → Shaped old home c → Shaped new (serving_clear home a).0 c
clear_shaped old new (at.Fresh p e) c a d asks shaped =
    if_head (HomeShapes old new a (Clearing d) (at.Fresh p e) c) p a (at.Home e, body.Wbok) (at.Fresh p e, body.Wbno)
    (λ head is fresh. leaves_shaped old new (at.Fresh p e) c p a (Clearing d) e refl head is refl refl refl (λ ns h. h.led.0) fresh)
    (λ is fresh. stays old new (at.Fresh p e) c a (Clearing d) body.Wbno is (record { sight = refl; agrees = λ c_ h. h; accepts = λ h. refl }) fresh) asks
    shaped
clear_shaped old new home c a d asks shaped =
    stays old new home c a (Clearing d) body.Wbno asks (record { sight = refl; agrees = λ c_ h. h; accepts = λ h. refl }) shaped

-- what the front of a list writes back are the last contents
returned : (old new : View) (c : Stamped) (p a : ℕ) (d : Stamped) → Asks old new a (Returning d) body.Wbok → (ns : List ℕ) → IsShaped old (at.Gone p) c ns
    → d ≡ c
returned old new c p a d asks ns is =
    let member = is.list.all a None (before link_of old new a (Returning d) body.Wbok asks) in
    let agrees = agrees_before c old new a (Returning d) body.Wbok asks (led_agrees old c false ns a is.led member) in
    agrees

wback_shaped : (old new : View) (home : HomeState) (c : Stamped) (a : ℕ) (d : Stamped) → Asks old new a (Returning d) (serving_wback home a d).1
    → Shaped old home c → Shaped new (serving_wback home a d).0 c
wback_shaped old new (at.Gone p) c a d asks shaped =
    if_head (HomeShapes old new a (Returning d) (at.Gone p) c) p a (at.Home d, body.Wbok) (at.Gone p, body.Wbno)
    (λ head is gone. leaves_shaped old new (at.Gone p) c p a (Returning d) d refl head is refl refl refl (returned old new c p a d is) gone)
    (λ is gone. stays old new (at.Gone p) c a (Returning d) body.Wbno is (record { sight = refl; agrees = λ c_ h. h; accepts = λ h. refl }) gone) asks shaped
wback_shaped old new home c a d asks shaped =
    stays old new home c a (Returning d) body.Wbno asks (record { sight = refl; agrees = λ c_ h. h; accepts = λ h. refl }) shaped

-- ---- every request that comes to a home

-- what a home serves, by who asks for it
abbrev pub ServedSo : (CacheState → Body → HomeState × Body → Type 0) → ℕ → HomeState → CacheState → Body → Type 0
ServedSo P a home asker request = IfSome (at_home home a request) (P asker request)

pub home_sent : (P : CacheState → Body → HomeState × Body → Type 0) (h a : ℕ) (home : HomeState) → P Asking body.Mread (serving_mread home a)
    → P Asking body.Fread (serving_fread home a) → ((f : Option ℕ) (d : Stamped) → P (Claiming f d) body.Claim (serving_claim home a))
    → ((d : Stamped) → P (Clearing d) body.Clear (serving_clear home a)) → ((d : Stamped) → P (Returning d) (body.Wback d) (serving_wback home a d))
    → (asker : CacheState) (letter : Letter) → IsSentIn h asker letter → ServedSo P a home asker letter.body
home_sent P h a home mread fread claim clear wback Asking letter (inl e, to) = subst (ServedSo P a home Asking) (sym e) mread
home_sent P h a home mread fread claim clear wback Asking letter (inr e, to) = subst (ServedSo P a home Asking) (sym e) fread
home_sent P h a home mread fread claim clear wback (Joining p true) letter (e, to) = subst (ServedSo P a home _) (sym e) tt
home_sent P h a home mread fread claim clear wback (FreshJoining p true d) letter (e, to) = subst (ServedSo P a home _) (sym e) tt
home_sent P h a home mread fread claim clear wback (Purging q d) letter (e, to) = subst (ServedSo P a home _) (sym e) tt
home_sent P h a home mread fread claim clear wback (Claiming f d) letter (e, to) = subst (ServedSo P a home _) (sym e) (claim f d)
home_sent P h a home mread fread claim clear wback (Clearing d) letter (e, to) = subst (ServedSo P a home _) (sym e) (clear d)
home_sent P h a home mread fread claim clear wback (Returning d) letter (e, to) = subst (ServedSo P a home _) (sym e) (wback d)
home_sent P h a home mread fread claim clear wback (Rolling f b d) letter e = subst (ServedSo P a home _) (sym e) tt
home_sent P h a home mread fread claim clear wback (Telling r w true) letter (e, to) = subst (ServedSo P a home _) (sym e) tt
home_sent P h a home mread fread claim clear wback Fading letter (f, e) = subst (ServedSo P a home _) (sym e) tt
home_sent P h a home mread fread claim clear wback _ letter sent = elim sent [ ]

pub home_shaped : (h a : ℕ) (home : HomeState) (c : Stamped) (old new : View) (asker : CacheState) (letter : Letter) → IsSentIn h asker letter
    → IfSome (at_home home a letter.body) (HomeShapes old new a asker home c)
home_shaped h a home c old new =
    home_sent (λ asker request. HomeShapes old new a asker home c) h a home (mread_shaped old new home c a) (fread_shaped old new home c a)
    (claim_shaped old new home c a) (clear_shaped old new home c a) (wback_shaped old new home c a)
