-- One line's list and its last contents, as an operation is performed on it.
use Rattle.std.proofs.Common.{◌≡◌, ◌≢◌, ℕ, true, false, List, get_or, set, Option, Some, None, refl, sym, ap, subst, ◌∙◌, inl, inr, arith}
use Rattle.std.proofs.lemmas.{Bool.{cases_eq}, List.{set-get_or}}
use Rattle.std.specs.Prelude.{IfSome}
use Rattle.sci_words.specs.declared.{stamped.Stamped.{Stamped}, operation.Act.{Act, TheVariants.{Load, Store, Lock}}}
use Rattle.sci_words.specs.{declared.operation.Op.{Op}, Operation.{effect_of_act, is_maker, makes_version}}
use Rattle.sci_words.specs.Stamped.{after, reply_of}
use Rattle.sci_home.specs.{declared.state.HomeState.{HomeState}, Serving.{head_of}}
use Rattle.sci_cache.specs.{State.{CacheState, Head, contents_of}, Performing.{Performed}, Member.{link_of}}
use Rattle.sci_core.proofs.Shape.{Chains.{chain_same, none_empty}, Views.{View, link_in, settled_in}}
use Rattle.sci_core.proofs.Shape.Standings.{role_of, Agrees, Leaves, Reads, Makes, Performs}
use Rattle.sci_core.proofs.Shape.Led.{AgreesIn, alike_same, led_agrees, Made, led_made}
use Rattle.sci_core.proofs.Shape.Shapes.{AcceptsIn, IsLedFrom, IsShaped, Shaped, shaped_alike}
use Rattle.sci_cache.specs.Accepting.{settled}
use Rattle.sci_home.specs.declared.state.HomeState.TheVariants as at

-- ---- a load

-- a load leaves the line
act_leaves : (words : List ℕ) (word : ℕ) (act : Act) → makes_version act ≡ false → set words word (effect_of_act act (get_or words word 0)).0 ≡ words
act_leaves words word Load e = set-get_or words word 0
act_leaves words word (Store x) e = cc
act_leaves words word (Lock l) e = cc

pub load_leaves : (c : Stamped) (op : Op) → is_maker op ≡ false → after c op ≡ c
load_leaves c op e = grind (arith, act_leaves)

-- ---- a member's contents

-- a line whose home has it alone has no members
pub no_members : (view : View) (d : Stamped) (ns : List ℕ) (n : ℕ) (behind : Option ℕ) → link_in view n ≡ Some behind → (c : Stamped)
    → IsShaped view (at.Home d) c ns → ⊥
no_members view d ns n behind member c is = grind (arith, none_empty, link_in)

-- every member has the last contents, and has them coming
pub member_agrees : (view : View) (home : HomeState) (c : Stamped) (ns : List ℕ) (n : ℕ) (behind : Option ℕ) → link_in view n ≡ Some behind
    → IsShaped view home c ns → AgreesIn c view n
member_agrees view (at.Home d) c ns n behind member is = absurd (no_members view d ns n behind member c is)
member_agrees view (at.Fresh p d) c ns n behind member is = led_agrees view c true ns n is.led.1 (is.list.all n behind member)
member_agrees view (at.Gone p) c ns n behind member is = led_agrees view c false ns n is.led (is.list.all n behind member)

pub has_last : (c d : Stamped) (state : CacheState) → contents_of state ≡ Some d → Agrees c state → d ≡ c
has_last c d state has agrees = subst (λ (o : Option Stamped). IfSome o (λ e. e ≡ c)) has agrees

-- ---- an operation

-- node q performs an operation, and no other node's state changes
pub record Moves (old new : View) (q : ℕ) (next : CacheState) : Type 0 where
  pub none : old.answer q ≡ None
  pub here : new.state q ≡ next
  pub others : (n : ℕ) → n ≢ q → new.state n ≡ old.state n
  pub answers : (n : ℕ) → new.answer n ≡ old.answer n

-- its reply and its version are those of the last contents, and the contents that it leaves are the last ones
pub record Did (new : View) (home : HomeState) (c : Stamped) (op : Op) (done : Performed) : Type 0 where
  pub reply : done.reply ≡ reply_of c.line op
  pub version : done.version ≡ (after c op).version
  pub shaped : Shaped new home (after c op)

read_shaped : (old new : View) (home : HomeState) (c : Stamped) (q : ℕ) (next : CacheState) → Moves old new q next → next ≡ old.state q → Shaped old home c
    → Shaped new home c
read_shaped old new home c q next moves e shaped =
    shaped_alike old new home c (λ n. alike_same old new n (elim (cases_eq n q) [
      | inl here ↦ ap new.state here ∙ (moves.here ∙ (e ∙ ap old.state (sym here)))
      | inr other ↦ moves.others n other
    ]) (moves.answers n)) shaped

-- the maker's settled state, before and after
seen_before : (old new : View) (q : ℕ) (state next : CacheState) → Moves old new q next → old.state q ≡ state → settled_in old q ≡ state
seen_before old new q state next moves is = ap (settled (old.state q)) moves.none ∙ is

seen_after : (old new : View) (q : ℕ) (state next : CacheState) → Moves old new q state → state ≡ next → settled_in new q ≡ next
seen_after old new q state next moves is = ap (settled (new.state q)) (moves.answers q ∙ moves.none) ∙ (moves.here ∙ is)

pub made_view : (old new : View) (q : ℕ) (c d : Stamped) (next : CacheState) → Moves old new q next → old.state q ≡ Head None c → next ≡ Head None d
    → Made old new q d
made_view old new q c d next moves was is = grind (arith, seen_before, role_of, seen_after)

pub made_links : (old new : View) (q : ℕ) (c d : Stamped) (next : CacheState) → Moves old new q next → old.state q ≡ Head None c → next ≡ Head None d → (n : ℕ)
    → link_in new n ≡ link_in old n
made_links old new q c d next moves was is n =
    elim (cases_eq n q) [
      | inl here ↦ ap (link_in new) here
          ∙ (ap link_of (seen_after old new q next (Head None d) moves is)
          ∙ (sym (ap link_of (seen_before old new q (Head None c) next moves was)) ∙ ap (link_in old) (sym here)))
      | inr other ↦ ap link_of (ap (settled (new.state n)) (moves.answers n) ∙ ap (λ (s : CacheState). settled s (old.answer n)) (moves.others n other))
    ]

made_accepts : (old new : View) (q : ℕ) (next : CacheState) → Moves old new q next → ((n : ℕ) → AcceptsIn old n) → (n : ℕ) → AcceptsIn new n
made_accepts old new q next moves all n = grind (arith, cases_eq)

-- a maker makes contents only if no home has the old ones
made_led : (old new : View) (home : HomeState) (q : ℕ) (c d : Stamped) (ns : List ℕ) → Made old new q d → IsShaped old home c ns → IsLedFrom new home d ns
made_led old new (at.Home e) q c d ns made is = absurd (no_members old e ns q None made.ends c is)
made_led old new (at.Fresh p e) q c d ns made is =
    let led = led_made old new q c d true (Some p) ns made is.list.linked (is.list.all q None made.ends) is.led.1 in
    absurd (led.0 refl)
made_led old new (at.Gone p) q c d ns made is = (led_made old new q c d false (Some p) ns made is.list.linked (is.list.all q None made.ends) is.led).1

made_shaped : (old new : View) (home : HomeState) (c b d : Stamped) (q : ℕ) (next : CacheState) → Moves old new q next → old.state q ≡ Head None b
    → next ≡ Head None d → Shaped old home c → Shaped new home d
made_shaped old new home c b d q next moves was is (ns, shaped) = (
  ns,
  record {
    list = chain_same (link_in old) (link_in new) (head_of home) (head_of home) ns refl (made_links old new q b d next moves was is) shaped.list;
    led = made_led old new home q c d ns (made_view old new q b d next moves was is) shaped;
    accepts = made_accepts old new q next moves shaped.accepts;
  },
)

left_shaped : (old new : View) (home : HomeState) (c : Stamped) (q : ℕ) (op : Op) (next : CacheState) → Moves old new q next → Leaves (old.state q) op c next
    → Shaped old home c → Shaped new home (after c op)
left_shaped old new home c q op next moves (Reads load same) shaped =
    subst (Shaped new home) (sym (load_leaves c op load)) (read_shaped old new home c q next moves same shaped)
left_shaped old new home c q op next moves (Makes was is) shaped = made_shaped old new home c c (after c op) q next moves was is shaped

pub performed_shaped : (old new : View) (home : HomeState) (c : Stamped) (q : ℕ) (op : Op) (done : Performed) → Performs (old.state q) op done
    → Moves old new q done.next → Shaped old home c → Did new home c op done
performed_shaped old new home c q op done performs moves shaped =
    let here : settled_in old q ≡ old.state q = ap (settled (old.state q)) moves.none in
    let member : link_in old q ≡ Some performs.behind = ap link_of here ∙ performs.member in
    let agrees = member_agrees old home c shaped.0 q performs.behind member shaped.1 in
    let same : performs.contents ≡ c = has_last c performs.contents (settled_in old q) (ap contents_of here ∙ performs.has) agrees in
    record {
      reply = performs.reply ∙ ap (λ (d : Stamped). reply_of d.line op) same;
      version = performs.version ∙ ap (λ (d : Stamped). (after d op).version) same;
      shaped = left_shaped old new home c q op done.next moves (subst (λ (d : Stamped). Leaves (old.state q) op d done.next) same performs.leaves) shaped;
    }
