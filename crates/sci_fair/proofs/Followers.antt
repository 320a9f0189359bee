-- A Purge that is under way finds an entry that follows: the node that purges leads its list, and the next one follows.
use Rattle.std.proofs.Common.{◌≡◌, ◌<◌, ℕ, Bool, true, List, [], ◌∷◌, Option, Some, None, sym, ap, ◌∙◌, inl, inr, arith}
use Rattle.sci_words.specs.declared.stamped.Stamped.{Stamped}
use Rattle.sci_packets.specs.declared.body.Body.{Body}
use Rattle.sci_home.specs.declared.state.HomeState.{HomeState}
use Rattle.sci_cache.specs.{State.{CacheState, Purging}, Accepting.{settled}, Member.{link_of}}
use Rattle.sci_history.specs.Seen.{IsAmong}
use Rattle.sci_core.specs.{Core.{Core}, Reached.{IsReached}, Shape.{follows, state_at}, SharingList.{LinkedFrom}}
use Rattle.sci_core.specs.Sharing.{home_at, answer_to as told}
use Rattle.sci_core.proofs.{ReachedLaws.{any_shaped}, WellFormed.WellFormedSteps.{reachable}}
use Rattle.sci_core.proofs.Shape.{Chains.{next_of}, Shapes.{IsShaped}, ShapeSteps.{view_of}, Standings.{Coming, Following, Leading, role_of}}
use Rattle.sci_core.proofs.Shape.{Led.{AreFollowing, IsLed, following_in, fresh_in, role_in, roles_differ}, Views.{View, link_in, settled_in}}
use Rattle.sci_home.specs.declared.state.HomeState.TheVariants as at

-- ---- behind the leader stands one that follows

first_follows : (view : View) (c : Stamped) (next : Option ℕ) (ns : List ℕ) (y : ℕ) → next ≡ Some y → LinkedFrom (link_in view) next ns → AreFollowing view c ns
    → role_in view y ≡ Some Following
first_follows view c next [] y is linked follow = let none : None ≡ Some y = sym linked ∙ is in cc
first_follows view c next (n ∷ ns) y is linked follow = let same : n ≡ y = (let at = linked.0 in cc) in ap (role_in view) (sym same) ∙ follow.0

led_next : (view : View) (c : Stamped) (must : Bool) (first : Option ℕ) (ns : List ℕ) (x y : ℕ) → LinkedFrom (link_in view) first ns → IsLed view c must ns
    → IsAmong x ns → role_in view x ≡ Some Leading → link_in view x ≡ Some (Some y) → role_in view y ≡ Some Following
led_next view c must first [] x y linked led among leads link = elim led [ ]
led_next view c must first (n ∷ ns) x y linked (front, inl led) (inl same) leads link =
    first_follows view c linked.1.0 ns y (next_of (link_in view) n x linked.1.0 y same linked.1.1 link) linked.1.2 led.1
led_next view c must first (n ∷ ns) x y linked (front, inl led) (inr among) leads link =
    absurd (roles_differ Following Leading (role_in view x) (following_in view c ns x led.1 among) leads (λ e. cc))
led_next view c must first (n ∷ ns) x y linked (front, inr comes) (inl same) leads link =
    absurd (roles_differ Coming Leading (role_in view n) comes.0 (ap (role_in view) (sym same) ∙ leads) (λ e. cc))
led_next view c must first (n ∷ ns) x y linked (front, inr comes) (inr among) leads link =
    led_next view c (fresh_in view n) linked.1.0 ns x y linked.1.2 comes.1 among leads link

-- a home that has the line alone has no list
empty_among : (link : ℕ → Option (Option ℕ)) (ns : List ℕ) (x : ℕ) → LinkedFrom link None ns → IsAmong x ns → ⊥
empty_among link [] x linked among = elim among [ ]
empty_among link (n ∷ ns) x linked among = let at = linked.0 in cc

shaped_next : (view : View) (home : HomeState) (c : Stamped) (ns : List ℕ) (x y : ℕ) → IsShaped view home c ns → role_in view x ≡ Some Leading
    → link_in view x ≡ Some (Some y) → role_in view y ≡ Some Following
shaped_next view (at.Home d) c ns x y is leads link =
    absurd (empty_among (link_in view) ns x is.list.linked (is.list.all x (Some y) link))
shaped_next view (at.Fresh p d) c ns x y is leads link =
    led_next view c true (Some p) ns x y is.list.linked is.led.1 (is.list.all x (Some y) link) leads link
shaped_next view (at.Gone p) c ns x y is leads link = grind (arith, led_next)

follower_state : (state : CacheState) (answer : Option Body) → role_of (settled state answer) ≡ Some Following → follows state ≡ true
follower_state state answer is = grind arith

pub purge_finds : (core : Core) (line k q : ℕ) (c : Stamped) → IsReached core → line < core.size.lines → state_at core line k ≡ Purging q c
    → told core k line ≡ None → follows (state_at core line q) ≡ true
purge_finds core line k q c reached inside purges none =
    let shaped = any_shaped core (reachable core reached) line inside in
    let view = view_of core line in
    let here : settled_in view k ≡ Purging q c = ap (settled (state_at core line k)) none ∙ purges in
    let leads : role_in view k ≡ Some Leading = ap role_of here in
    let link : link_in view k ≡ Some (Some q) = ap link_of here in
    follower_state (state_at core line q) (told core q line) (shaped_next view (home_at core line) shaped.0 shaped.1.0 k q shaped.1.1 leads link)
