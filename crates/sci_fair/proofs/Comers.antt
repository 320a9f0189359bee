-- The node directly before the one that leads a list, and who joins when an answer has come.
use Rattle.std.proofs.Common.{◌≡◌, ◌<◌, ◌==◌, ℕ, Bool, true, List, [], ◌∷◌, arith}
use Rattle.std.proofs.Common.{Option, Some, None, refl, sym, ap, ◌∙◌, inl, inr, rules}
use Rattle.std.proofs.lemmas.Bool.{eq-eqb}
use Rattle.std.specs.Prelude.{IfSome}
use Rattle.sci_history.specs.Seen.{IsAmong}
use Rattle.sci_words.specs.declared.{stamped.Stamped.{Stamped}}
use Rattle.sci_packets.specs.{declared.body.Body.{Body}}
use Rattle.sci_cache.specs.State.{CacheState, Claiming, Clearing, FreshHead, FreshJoining, Head, Joining, Purging, Returning}
use Rattle.sci_cache.specs.{Accepting.{accepting}}
use Rattle.sci_cache.specs.{Kinds.{joins}, Member.{link_of}}
use Rattle.sci_core.specs.Core.{Core, node_at}
use Rattle.sci_core.specs.{Rounds.{joins_before}, Sharing.{home_at, settled_at}}
use Rattle.sci_core.specs.{SharingList.{LinkedFrom}}
use Rattle.sci_core.proofs.{Basics.Options.{of_some}, FirstCome.Turns.{led_of}, ReachedLaws.{any_shaped}}
use Rattle.sci_core.proofs.Shape.{Led.{IsLed, following_in, role_in, roles_differ}, ShapeClauses.{member_below}, ShapeSteps.{view_of}}
use Rattle.sci_core.proofs.Shape.{Standings.{Coming, Following, Leading, role_of}, Views.{View, link_in}}
use Rattle.sci_core.proofs.{WellFormed.WellFormedSteps.{reachable, reached_well}}
use Rattle.sci_policy.specs.Lines.{state_on}
use Rattle.sci_fair.specs.{Rank.{rank, work_on}, Steady.{Working}}
use Rattle.sci_fair.proofs.Ahead.{Ahead}
use Rattle.sci_fair.proofs.Kept.{leads}
use Rattle.sci_fair.proofs.{Promised.{As_it_is, By_answer, SettlesTo, settles}}

-- ---- the node directly before the one that leads

-- of a list that is led, and in which a node comes, one that comes is directly before the one that leads
pub record Pair (view : View) : Type 0 where
  pub comer : ℕ
  pub leader : ℕ
  pub comes : role_in view comer ≡ Some Coming
  pub link : link_in view comer ≡ Some (Some leader)
  pub leading : role_in view leader ≡ Some Leading

led_pair : (view : View) (c : Stamped) (must : Bool) (first : Option ℕ) (ns : List ℕ) (n : ℕ) → IsLed view c must ns → LinkedFrom (link_in view) first ns
    → IsAmong n ns → role_in view n ≡ Some Coming → Pair view
led_pair view c must first [] n led linked among comes = absurd led
led_pair view c must first (x ∷ xs) n (front, inl ahead) linked (inl same) comes =
    absurd (roles_differ Leading Coming (role_in view x) ahead.0 (ap (role_in view) (sym same) ∙ comes) (λ e. cc))
led_pair view c must first (x ∷ xs) n (front, inl ahead) linked (inr among) comes =
    absurd (roles_differ Following Coming (role_in view n) (following_in view c xs n ahead.1 among) comes (λ e. cc))
led_pair view c must first (x ∷ []) n (front, inr coming) linked among comes = absurd coming.1
led_pair view c must first (x ∷ (y ∷ ys)) n (front, inr (role, (front_y, inl ahead))) linked among comes = record {
  comer = x;
  leader = y;
  comes = role;
  link = linked.1.1 ∙ ap Some linked.1.2.0;
  leading = ahead.0;
}
led_pair view c must first (x ∷ (y ∷ ys)) n (front, inr (role, (front_y, inr coming))) linked among comes =
    led_pair view c _ linked.1.0 (y ∷ ys) y (front_y, inr coming) linked.1.2 (inl refl) coming.0

-- ---- what joins now, joins when its answer has come

pub coming_is : (t : CacheState) → role_of t ≡ Some Coming → joins t ≡ true
coming_is (Joining p sent) is = refl
coming_is (FreshJoining p sent c) is = refl
coming_is _ is = cc

joins_role : (t : CacheState) → joins t ≡ true → role_of t ≡ Some Coming
joins_role (Joining p sent) is = refl
joins_role (FreshJoining p sent c) is = refl
joins_role _ is = cc

leading_is : (t : CacheState) → role_of t ≡ Some Leading → leads t ≡ true
leading_is t is = search rules

joins_on : (work : Option Bool) (s : CacheState) (b : Body) → joins s ≡ true
    → IfSome (accepting s b) (λ t. (rank work t == rank work s) ≡ true → joins t ≡ true)
joins_on work s b is = search rules

joined_before : (work : Option Bool) (s : CacheState) (b : Body)
    → IfSome (accepting s b) (λ t. (rank work t == rank work s) ≡ true → joins t ≡ true → joins s ≡ true)
joined_before work s b = search rules

joined_link : (work : Option Bool) (s : CacheState) (b : Body)
    → IfSome (accepting s b) (λ t. (rank work t == rank work s) ≡ true → joins t ≡ true → link_of s ≡ link_of t)
joined_link work s b = search rules

led_before : (work : Option Bool) (s : CacheState) (b : Body)
    → IfSome (accepting s b) (λ t. (rank work t == rank work s) ≡ true → leads t ≡ true → leads s ≡ true)
led_before work s b = search rules

settled_joins : (work : Option Bool) (s t : CacheState) → SettlesTo work s t → joins s ≡ true → joins t ≡ true
settled_joins work s t (As_it_is same) is = ap joins same ∙ is
settled_joins work s t (By_answer b accepts keeps) is =
    of_some (λ r. (rank work r == rank work s) ≡ true → joins r ≡ true) (accepting s b) t accepts (joins_on work s b is) keeps

joining_settled : (work : Option Bool) (s t : CacheState) → SettlesTo work s t → joins t ≡ true → (joins s ≡ true) × (link_of s ≡ link_of t)
joining_settled work s t (As_it_is same) is = (ap joins (sym same) ∙ is, ap link_of (sym same))
joining_settled work s t (By_answer b accepts keeps) is = grind (arith, of_some, joined_before, joined_link)

leading_settled : (work : Option Bool) (s t : CacheState) → SettlesTo work s t → leads t ≡ true → leads s ≡ true
leading_settled work s t (As_it_is same) is = ap leads (sym same) ∙ is
leading_settled work s t (By_answer b accepts keeps) is =
    of_some (λ r. (rank work r == rank work s) ≡ true → leads r ≡ true → leads s ≡ true) (accepting s b) t accepts (led_before work s b) keeps is

links_join : (s : CacheState) (a : ℕ) → joins s ≡ true → link_of s ≡ Some (Some a) → joins_before s a ≡ true
links_join (Joining p sent) a is link = let same : p ≡ a = cc in eq-eqb p a same
links_join (FreshJoining p sent c) a is link = let same : p ≡ a = cc in eq-eqb p a same
links_join _ a is link = cc

pub coming_links : (t : CacheState) → role_of t ≡ Some Coming → (next : Option ℕ) × (link_of t ≡ Some next)
coming_links (Joining p sent) is = (Some p, refl)
coming_links (FreshJoining p sent c) is = (Some p, refl)
coming_links _ is = cc

pub leading_links : (t : CacheState) → role_of t ≡ Some Leading → (next : Option ℕ) × (link_of t ≡ Some next)
leading_links (Head f c) is = (f, refl)
leading_links (FreshHead f c) is = (f, refl)
leading_links (Purging q c) is = (Some q, refl)
leading_links (Claiming f c) is = (f, refl)
leading_links (Clearing c) is = (None, refl)
leading_links (Returning c) is = (None, refl)
leading_links _ is = cc

-- where a node joins, some node joins directly before one that leads
pub record Joined (core : Core) (line : ℕ) : Type 0 where
  pub comer : ℕ
  pub leader : ℕ
  pub some_comer : comer < core.size.nodes
  pub some_leader : leader < core.size.nodes
  pub joins : joins_before (state_on (node_at core comer) line) leader ≡ true
  pub leading : leads (state_on (node_at core leader) line) ≡ true

pub joined : (n line : ℕ) (w last : Working) → n < w.core.size.nodes → line < w.core.size.lines → Ahead 1 w last
    → joins (state_on (node_at w.core n) line) ≡ true → Joined w.core line
joined n line w last some inside ahead joins_now =
    let core = w.core in
    let reached = ahead.good.reached in
    let view = view_of core line in
    let shaped = any_shaped core (reachable core reached) line inside in
    let ns = shaped.1.0 in
    let comes : role_in view n ≡ Some Coming = joins_role (settled_at core line n)
    (settled_joins (work_on (node_at core n) line) (state_on (node_at core n) line) (settled_at core line n) (settles n line w last some inside ahead)
    joins_now) in
    let linked = coming_links (settled_at core line n) comes in
    let among = shaped.1.1.list.all n linked.0 linked.1 in
    let led = led_of view (home_at core line) shaped.0 ns n shaped.1.1 among in
    let pair = led_pair view shaped.0 led.0 _ ns n led.1 shaped.1.1.list.linked among comes in
    let j = pair.comer in
    let a = pair.leader in
    let well = reached_well core reached in
    let j_below = member_below core line j (Some a) well pair.link in
    let a_links = leading_links (settled_at core line a) pair.leading in
    let a_below = member_below core line a a_links.0 well a_links.1 in
    let j_joins = joining_settled (work_on (node_at core j) line) (state_on (node_at core j) line) (settled_at core line j)
    (settles j line w last j_below inside ahead) (coming_is (settled_at core line j) pair.comes) in
    record {
      comer = j;
      leader = a;
      some_comer = j_below;
      some_leader = a_below;
      joins = links_join (state_on (node_at core j) line) a j_joins.0 (j_joins.1 ∙ pair.link);
      leading = leading_settled (work_on (node_at core a) line) (state_on (node_at core a) line) (settled_at core line a)
          (settles a line w last a_below inside ahead) (leading_is (settled_at core line a) pair.leading);
    }
