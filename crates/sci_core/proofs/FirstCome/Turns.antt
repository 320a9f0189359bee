-- One line's list, as a queue: what each row of the tables does to the members before the one that leads.
use Rattle.std.proofs.Common.{◌≡◌, ◌≢◌, ℕ, Bool, true, false, if◌then◌else◌, List, [], ◌∷◌, ◌++◌, Option, Some, None, refl, sym, ap, subst, ◌∙◌, inl, inr}
use Rattle.std.proofs.{Common.{arith}, lemmas.{Bool.{cases_eq}, List.{append-nil}}}
use Rattle.std.specs.Prelude.{IfSome}
use Rattle.sci_words.specs.declared.stamped.Stamped.{Stamped}
use Rattle.sci_packets.specs.declared.body.Body.{Body}
use Rattle.sci_home.specs.declared.state.HomeState.{HomeState}
use Rattle.sci_home.specs.Serving.{head_of, serving_mread, serving_fread, serving_claim, serving_clear, serving_wback, home_serving as at_home}
use Rattle.sci_cache.specs.{State.{CacheState, Asking, Claiming, Clearing, Returning}, Member.{link_of}, Cache.{Letter}}
use Rattle.sci_history.specs.Seen.{IsAmong}
use Rattle.sci_core.specs.{FirstCome.{enters}, SharingList.{IsListOf, IsOnce, LinkedFrom}, Tidy.{IsSentIn}}
use Rattle.sci_core.proofs.Shape.CacheShapes.{Joined, JoinedAt, Keeps, LeftAt, Purged, Rolled, ServesAs, joined_at, kept_alike, purged_at, rolled_at}
use Rattle.sci_core.proofs.Shape.Chains.{chain_gone, chain_same, chain_taken_out, next_of, none_empty, not_in, without, without_other}
use Rattle.sci_core.proofs.Shape.Heads.{if_head}
use Rattle.sci_core.proofs.Shape.Led.{AlikeIn, IsLed, Joins, following_in, role_in, roles_differ, same_link, same_role}
use Rattle.sci_core.proofs.Shape.ShapeClauses.{stands_as}
use Rattle.sci_core.proofs.Shape.Shapes.{Asks, IsShaped, after, before, claimed_list, fronts_list, home_sent, stays_alike}
use Rattle.sci_core.proofs.Shape.Standings.{Alike, Coming, Following, Leading, Role, role_of}
use Rattle.sci_core.proofs.Shape.Views.{Shift, View, link_in}
use Rattle.sci_cache.specs.Accepting.{settled}
use Rattle.sci_core.proofs.Shape.Views.{settled_in}
use Rattle.sci_packets.specs.declared.body.Body.TheVariants as body
use Rattle.sci_home.specs.declared.state.HomeState.TheVariants as at

-- ---- the members before the one that leads

abbrev is_coming : Option Role → Bool
is_coming (Some Coming) = true
is_coming _ = false

-- the front of a list, as far as its members come
abbrev pub coming_in : View → List ℕ → List ℕ
coming_in view [] = []
coming_in view (n ∷ ns) = if is_coming (role_in view n) then n ∷ coming_in view ns else []

pub coming_more : (view : View) (n : ℕ) (ns : List ℕ) → role_in view n ≡ Some Coming → coming_in view (n ∷ ns) ≡ n ∷ coming_in view ns
coming_more view n ns comes = ap (λ (r : Option Role). if is_coming r then n ∷ coming_in view ns else []) comes

pub coming_ends : (view : View) (n : ℕ) (ns : List ℕ) → role_in view n ≡ Some Leading → coming_in view (n ∷ ns) ≡ []
coming_ends view n ns leads = ap (λ (r : Option Role). if is_coming r then n ∷ coming_in view ns else []) leads

coming_same : (old new : View) (ns : List ℕ) → ((n : ℕ) → IsAmong n ns → role_in new n ≡ role_in old n) → coming_in new ns ≡ coming_in old ns
coming_same old new [] same = refl
coming_same old new (n ∷ ns) same =
    ap (λ (r : Option Role). if is_coming r then n ∷ coming_in new ns else []) (same n (inl refl))
    ∙ ap (λ (xs : List ℕ). if is_coming (role_in old n) then n ∷ xs else []) (coming_same old new ns (λ m h. same m (inr h)))

-- ---- what one event does

-- who leads now and did not before
pub data Succeeds (old new : View) (who : List ℕ) : Type 0 where
  Nobody : who ≡ [] → ((n : ℕ) → role_in new n ≡ Some Leading → role_in old n ≡ Some Leading) → Succeeds old new who
  One : (a : ℕ) → who ≡ a ∷ [] → (role_in old a ≡ Some Leading → ⊥) → role_in new a ≡ Some Leading
      → ((n : ℕ) → n ≢ a → role_in new n ≡ Some Leading → role_in old n ≡ Some Leading) → Succeeds old new who

-- a list becomes another: the node that arrives is at its front, and the one that succeeds was the last of those that came
pub record Turned (old new : View) (first : Option ℕ) (ns arrival : List ℕ) : Type 0 where
  pub nodes : List ℕ
  pub list : IsListOf (link_in new) first nodes
  pub successor : List ℕ
  pub succeeds : Succeeds old new successor
  pub turn : arrival ++ coming_in old ns ≡ coming_in new nodes ++ successor

-- the same links and the same standings
pub turned_same : (old new : View) (first : Option ℕ) (ns : List ℕ) → ((n : ℕ) → link_in new n ≡ link_in old n) → ((n : ℕ) → role_in new n ≡ role_in old n)
    → IsListOf (link_in old) first ns → Turned old new first ns []
turned_same old new first ns links roles list = grind (arith, chain_same, link_in, coming_same, append-nil)

pub turned_alike : (old new : View) (first : Option ℕ) (ns : List ℕ) → ((n : ℕ) → AlikeIn old new n) → IsListOf (link_in old) first ns
    → Turned old new first ns []
turned_alike old new first ns alike list = turned_same old new first ns (λ n. same_link old new n (alike n)) (λ n. same_role old new n (alike n)) list

-- ---- a home serves

-- the asker's role, if it gets one that doesn't lead, and every other's
others_lead : (old new : View) (a : ℕ) (asker : CacheState) (body : Body) → Asks old new a asker body
    → (role_of (settled asker (Some body)) ≡ Some Leading → role_of asker ≡ Some Leading) → (n : ℕ) → role_in new n ≡ Some Leading
    → role_in old n ≡ Some Leading
others_lead old new a asker body asks so n leads =
    elim (cases_eq n a) [
      | inl here ↦ ap (role_in old) here
          ∙ (before role_of old new a asker body asks ∙ so (sym (after role_of old new a asker body asks) ∙ (ap (role_in new) (sym here) ∙ leads)))
      | inr other ↦ sym (same_role old new n (asks.others n other)) ∙ leads
    ]

-- the asker enters a list that is led, at its front
enters_front : (old new : View) (home home' : HomeState) (a : ℕ) (asker : CacheState) (body : Body) (ns : List ℕ) → Asks old new a asker body
    → link_of asker ≡ None → link_of (settled asker (Some body)) ≡ Some (head_of home) → head_of home' ≡ Some a
    → role_of (settled asker (Some body)) ≡ Some Coming → IsListOf (link_in old) (head_of home) ns → Turned old new (head_of home') ns (a ∷ [])
enters_front old new home home' a asker body ns asks none joins head comes list =
    let absent : IsAmong a ns → ⊥ = not_in (link_in old) (head_of home) ns a (before link_of old new a asker body asks ∙ none) list in
    let same = coming_same old new ns (λ n h. same_role old new n (asks.others n (λ e. absent (subst (λ (m : ℕ). IsAmong m ns) e h)))) in
    let now : coming_in new (a ∷ ns) ≡ a ∷ coming_in old ns =
    coming_more new a ns (after role_of old new a asker body asks ∙ comes) ∙ ap (λ (xs : List ℕ). a ∷ xs) same in
    record {
      nodes = a ∷ ns;
      list = fronts_list old new home home' a asker body ns asks none joins head list;
      successor = [];
      succeeds = Nobody refl (others_lead old new a asker body asks
          (λ e. absurd (roles_differ Coming Leading (role_of (settled asker (Some body))) comes e (λ s. cc))));
      turn = sym now ∙ sym (append-nil (coming_in new (a ∷ ns)));
    }

-- the asker is the only one, and leads
enters_alone : (old new : View) (home' : HomeState) (c : Stamped) (a : ℕ) (asker : CacheState) (body : Body) (ns : List ℕ) → Asks old new a asker body
    → link_of asker ≡ None → link_of (settled asker (Some body)) ≡ Some None → head_of home' ≡ Some a
    → role_of (settled asker (Some body)) ≡ Some Leading → (role_of asker ≡ Some Leading → ⊥) → IsListOf (link_in old) None ns
    → Turned old new (head_of home') ns (a ∷ [])
enters_alone old new home' c a asker body ns asks none joins head leads not list =
    let empty : coming_in old ns ≡ [] = ap (coming_in old) (none_empty (link_in old) None ns refl list) in
    let now = after role_of old new a asker body asks ∙ leads in
    let ends : coming_in new (a ∷ ns) ≡ [] = coming_ends new a ns now in
    record {
      nodes = a ∷ ns;
      list = fronts_list old new (at.Home c) home' a asker body ns asks none joins head list;
      successor = a ∷ [];
      succeeds = One a refl (λ was. not (sym (before role_of old new a asker body asks) ∙ was)) now
          (λ n other is. sym (same_role old new n (asks.others n other)) ∙ is);
      turn = ap (λ (xs : List ℕ). a ∷ xs) empty ∙ ap (λ (xs : List ℕ). xs ++ a ∷ []) (sym ends);
    }

-- what a home's answer makes of a list
abbrev pub HomeTurns : View → View → ℕ → CacheState → HomeState → List ℕ → HomeState × Body → Type 0
HomeTurns old new a asker home arrival served =
    Asks old new a asker served.1 → (ns : List ℕ) → IsListOf (link_in old) (head_of home) ns → Turned old new (head_of served.0) ns arrival

mread_turns : (old new : View) (home : HomeState) (a : ℕ) → HomeTurns old new a Asking home (a ∷ []) (serving_mread home a)
mread_turns old new (at.Home d) a asks ns list = enters_alone old new (at.Gone a) d a Asking (body.Mdata d) ns asks refl refl refl refl (λ e. cc) list
mread_turns old new home a asks ns list = enters_front old new home (at.Gone a) a Asking _ ns asks refl refl refl refl list

fread_turns : (old new : View) (home : HomeState) (a : ℕ) → HomeTurns old new a Asking home (a ∷ []) (serving_fread home a)
fread_turns old new (at.Home d) a asks ns list = enters_alone old new (at.Fresh a d) d a Asking (body.Fdata None d) ns asks refl refl refl refl (λ e. cc) list
fread_turns old new (at.Fresh p d) a asks ns list =
    enters_front old new (at.Fresh p d) (at.Fresh a d) a Asking (body.Fdata (Some p) d) ns asks refl refl refl refl list
fread_turns old new (at.Gone p) a asks ns list = enters_front old new (at.Gone p) (at.Gone a) a Asking (body.Mgone p) ns asks refl refl refl refl list

-- the asker stands as it stood
answers_alike : (old new : View) (home : HomeState) (a : ℕ) (asker : CacheState) (body : Body) → Alike asker None asker (Some body)
    → HomeTurns old new a asker home [] (home, body)
answers_alike old new home a asker body alike asks ns list = turned_alike old new (head_of home) ns (stays_alike old new a asker body asks alike) list

claimed_turns : (old new : View) (a p : ℕ) (c : Stamped) (f : Option ℕ) (d : Stamped) → p ≡ a
    → HomeTurns old new a (Claiming f d) (at.Fresh p c) [] (at.Gone a, body.Wbok)
claimed_turns old new a p c f d head asks ns list =
    let roles : (n : ℕ) → role_in new n ≡ role_in old n = λ n. elim (cases_eq n a) [
      | inl here ↦ ap (role_in new) here
          ∙ (after role_of old new a (Claiming f d) body.Wbok asks
          ∙ (sym (before role_of old new a (Claiming f d) body.Wbok asks) ∙ ap (role_in old) (sym here)))
      | inr other ↦ same_role old new n (asks.others n other)
    ] in
    record {
      nodes = ns;
      list = claimed_list old new a p f d ns asks head list;
      successor = [];
      succeeds = Nobody refl (λ n leads. sym (roles n) ∙ leads);
      turn = sym (coming_same old new ns (λ n h. roles n)) ∙ sym (append-nil (coming_in new ns));
    }

claim_turns : (old new : View) (home : HomeState) (a : ℕ) (f : Option ℕ) (d : Stamped) → HomeTurns old new a (Claiming f d) home [] (serving_claim home a)
claim_turns old new (at.Fresh p e) a f d =
    if_head (HomeTurns old new a (Claiming f d) (at.Fresh p e) []) p a (at.Gone a, body.Wbok) (at.Fresh p e, body.Wbno)
    (λ head. claimed_turns old new a p e f d head)
    (answers_alike old new (at.Fresh p e) a (Claiming f d) body.Wbno (record { sight = refl; agrees = λ c_ h. h; accepts = λ h. refl }))
claim_turns old new home a f d = answers_alike old new home a (Claiming f d) body.Wbno (record { sight = refl; agrees = λ c_ h. h; accepts = λ h. refl })

-- nobody comes before a front that leads
front_leads : (view : View) (first : Option ℕ) (a : ℕ) (ns : List ℕ) → first ≡ Some a → role_in view a ≡ Some Leading → LinkedFrom (link_in view) first ns
    → coming_in view ns ≡ []
front_leads view first a [] head leads linked = refl
front_leads view first a (n ∷ ns) head leads linked = grind (arith, coming_ends, role_in)

-- the only one leaves
leaves_turns : (old new : View) (home : HomeState) (back : Stamped) (p a : ℕ) (asker : CacheState) → head_of home ≡ Some p → p ≡ a
    → link_of asker ≡ Some None → link_of (settled asker (Some body.Wbok)) ≡ None
    → role_of asker ≡ Some Leading → (role_of (settled asker (Some body.Wbok)) ≡ Some Leading → ⊥) → HomeTurns old new a asker home [] (at.Home back, body.Wbok)
leaves_turns old new home back p a asker head same ends gone leads not asks ns list = record {
  nodes = [];
  list = chain_gone (link_in old) (link_in new) (head_of home) None a ns (head ∙ ap Some same) (before link_of old new a asker body.Wbok asks ∙ ends)
      (after link_of old new a asker body.Wbok asks ∙ gone) refl (λ n other. same_link old new n (asks.others n other)) list;
  successor = [];
  succeeds = Nobody refl (others_lead old new a asker body.Wbok asks (λ e. absurd (not e)));
  turn = front_leads old (head_of home) a ns (head ∙ ap Some same) (before role_of old new a asker body.Wbok asks ∙ leads) list.linked;
}

clear_turns : (old new : View) (home : HomeState) (a : ℕ) (d : Stamped) → HomeTurns old new a (Clearing d) home [] (serving_clear home a)
clear_turns old new (at.Fresh p e) a d =
    if_head (HomeTurns old new a (Clearing d) (at.Fresh p e) []) p a (at.Home e, body.Wbok) (at.Fresh p e, body.Wbno)
    (λ head. leaves_turns old new (at.Fresh p e) e p a (Clearing d) refl head refl refl refl (λ e_. cc))
    (answers_alike old new (at.Fresh p e) a (Clearing d) body.Wbno (record { sight = refl; agrees = λ c_ h. h; accepts = λ h. refl }))
clear_turns old new home a d = answers_alike old new home a (Clearing d) body.Wbno (record { sight = refl; agrees = λ c_ h. h; accepts = λ h. refl })

wback_turns : (old new : View) (home : HomeState) (a : ℕ) (d : Stamped) → HomeTurns old new a (Returning d) home [] (serving_wback home a d)
wback_turns old new (at.Gone p) a d =
    if_head (HomeTurns old new a (Returning d) (at.Gone p) []) p a (at.Home d, body.Wbok) (at.Gone p, body.Wbno)
    (λ head. leaves_turns old new (at.Gone p) d p a (Returning d) refl head refl refl refl (λ e_. cc))
    (answers_alike old new (at.Gone p) a (Returning d) body.Wbno (record { sight = refl; agrees = λ c_ h. h; accepts = λ h. refl }))
wback_turns old new home a d = answers_alike old new home a (Returning d) body.Wbno (record { sight = refl; agrees = λ c_ h. h; accepts = λ h. refl })

-- who arrives by a request
abbrev pub arrival_by : ℕ → Body → List ℕ
arrival_by a request = if enters request then a ∷ [] else []

pub home_turned : (h a : ℕ) (home : HomeState) (old new : View) (asker : CacheState) (letter : Letter) → IsSentIn h asker letter
    → IfSome (at_home home a letter.body) (HomeTurns old new a asker home (arrival_by a letter.body))
home_turned h a home old new = grind (arith, home_sent, mread_turns, fread_turns, claim_turns, clear_turns, wback_turns)

-- ---- a cache serves

-- one that follows is taken out: nobody who comes changes
coming_without : (old new : View) (c : Stamped) (must : Bool) (y : ℕ) (ns : List ℕ) → role_in old y ≡ Some Following
    → ((n : ℕ) → n ≢ y → role_in new n ≡ role_in old n) → IsLed old c must ns → coming_in new (without y ns) ≡ coming_in old ns
coming_without old new c must y [] follows same led = elim led [ ]
coming_without old new c must y (n ∷ ns) follows same (front, inl leads) = grind (arith, roles_differ, role_in, without_other, coming_ends, without)
coming_without old new c must y (n ∷ ns) follows same (front, inr comes) =
    let other : n ≢ y = λ e. roles_differ Coming Following (role_in old n) comes.0 (ap (role_in old) e ∙ follows) (λ s. cc) in
    let rest = coming_without old new c _ y ns follows same comes.1 in
    ap (coming_in new) (without_other y n ns other)
    ∙ (coming_more new n (without y ns) (same n other ∙ comes.0) ∙ (ap (λ (xs : List ℕ). n ∷ xs) rest ∙ sym (coming_more old n ns comes.0)))

coming_less : (old new : View) (a q : ℕ) (c : Stamped) (must : Bool) (first : Option ℕ) (ns : List ℕ) → Joins old new a q → LinkedFrom (link_in old) first ns
    → IsOnce ns → IsAmong a ns → IsLed old c must ns → coming_in old ns ≡ coming_in new ns ++ a ∷ []
coming_less old new a q c must first [] hands linked once h led = elim led [ ]
coming_less old new a q c must first (n ∷ ns) hands linked once (inl e) (front, inl leads) =
    absurd (roles_differ Leading Coming (role_in old n) leads.0 (ap (role_in old) (sym e) ∙ hands.coming) (λ s. cc))
coming_less old new a q c must first (n ∷ ns) hands linked once (inr h) (front, inl leads) =
    absurd (roles_differ Following Coming (role_in old a) (following_in old c ns a leads.1 h) hands.coming (λ s. cc))
coming_less old new a q c must first (n ∷ ns) hands linked once (inl e) (front, inr comes) =
    grind (arith, next_of, link_in, front_leads, coming_ends, role_in, coming_more)
coming_less old new a q c must first (n ∷ ns) hands linked once (inr h) (front, inr comes) =
    let not_asker : n ≢ a = λ s. once.0 (subst (λ (k : ℕ). IsAmong k ns) (sym s) h) in
    let not_server : n ≢ q = λ s. roles_differ Coming Leading (role_in old n) comes.0 (ap (role_in old) s ∙ hands.leading) (λ t. cc) in
    let rest = coming_less old new a q c _ linked.1.0 ns hands linked.1.2 once.1 h comes.1 in
    coming_more old n ns comes.0 ∙ (ap (λ (xs : List ℕ). n ∷ xs) rest
    ∙ ap (λ (xs : List ℕ). xs ++ a ∷ []) (sym (coming_more new n ns ((hands.others n not_asker not_server).role ∙ comes.0))))

-- a list that isn't empty is led
pub led_of : (view : View) (home : HomeState) (c : Stamped) (ns : List ℕ) (n : ℕ) → IsShaped view home c ns → IsAmong n ns
    → (must : Bool) × IsLed view c must ns
led_of view (at.Home d) c ns n is h = let empty = none_empty (link_in view) None ns refl is.list in absurd (subst (IsAmong n) empty h)
led_of view (at.Fresh p d) c ns n is h = (true, is.led.1)
led_of view (at.Gone p) c ns n is h = (false, is.led)

joined_turned : (old new : View) (a q : ℕ) (home : HomeState) (c : Stamped) (ns : List ℕ) → JoinedAt old new a q → IsShaped old home c ns
    → Turned old new (head_of home) ns []
joined_turned old new a q home c ns joined is =
    let joins = joined.joins in
    let at = is.list.all a (Some q) joins.link in
    let led = led_of old home c ns a is at in
    record {
      nodes = ns;
      list = chain_same (link_in old) (link_in new) (head_of home) (head_of home) ns refl joined.links is.list;
      successor = a ∷ [];
      succeeds = One a refl (λ e. roles_differ Coming Leading (role_in old a) joins.coming e (λ s. cc)) joins.leads (λ n not_asker leads. elim (cases_eq n q) [
        | inl server ↦ ap (role_in old) server ∙ joins.leading
        | inr other ↦ sym (joins.others n not_asker other).role ∙ leads
      ]);
      turn = coming_less old new a q c led.0 (head_of home) ns joins is.list.linked is.list.once at led.1;
    }

-- the node that leads is a member
leading_linked : (view : View) (n : ℕ) → link_in view n ≡ None → role_in view n ≡ Some Leading → ⊥
leading_linked view n none leads = let member = (stands_as (settled_in view n) (Some Leading) leads).member in cc

-- one that follows leaves
left_turned : (old new : View) (x y : ℕ) (home : HomeState) (c : Stamped) (ns : List ℕ) → LeftAt old new x y → IsShaped old home c ns
    → Turned old new (head_of home) ns []
left_turned old new x y home c ns left is =
    let led = led_of old home c ns x is (is.list.all x (Some y) left.out.before) in
    record {
      nodes = without y ns;
      list = chain_taken_out (link_in old) (link_in new) (head_of home) (head_of home) x y ns refl left.out is.list;
      successor = [];
      succeeds = Nobody refl (λ n leads. elim (cases_eq n y) [
        | inl here ↦ absurd (leading_linked new y left.out.gone (ap (role_in new) (sym here) ∙ leads))
        | inr other ↦ sym (left.stand n other).role ∙ leads
      ]);
      turn = sym (coming_without old new c led.0 y ns left.follows (λ n other. (left.stand n other).role) led.1)
          ∙ sym (append-nil (coming_in new (without y ns)));
    }

pub cache_turned : (old new : View) (a q : ℕ) (served : CacheState × Body) (home : HomeState) (c : Stamped) (ns : List ℕ) → Shift old new a q served.0 served.1
    → ServesAs a q (old.state a) (old.state q) served → IsShaped old home c ns → Turned old new (head_of home) ns []
cache_turned old new a q served home c ns shift (Keeps keeps asks) is =
    turned_alike old new (head_of home) ns (kept_alike old new a q served shift keeps asks) is.list
cache_turned old new a q served home c ns shift (Joined joins) is = joined_turned old new a q home c ns (joined_at old new a q served shift joins) is
cache_turned old new a q served home c ns shift (Purged purges) is =
    left_turned old new a q home c ns (purged_at old new a q served home c ns shift purges is) is
cache_turned old new a q served home c ns shift (Rolled rolls) is = left_turned old new q a home c ns (rolled_at old new a q served home c ns shift rolls is) is
