-- Lists that are led: from the front, members that come, the one that leads, and members that follow; all their
-- contents are the same, and from a fresh member on all are fresh down to the one that leads.
use Rattle.std.proofs.Common.{◌≡◌, ◌≢◌, ℕ, Bool, true, false, List, [], ◌∷◌, Option, Some, None, refl, sym, ap, subst, ◌∙◌, ◌⊎◌, inl, inr, arith}
use Rattle.std.proofs.lemmas.Bool.{cases_eq}
use Rattle.sci_words.specs.declared.stamped.Stamped.{Stamped}
use Rattle.sci_packets.specs.declared.body.Body.{Body}
use Rattle.sci_cache.specs.State.{CacheState}
use Rattle.sci_core.specs.{SharingList.{IsOnce, LinkedFrom}}
use Rattle.sci_history.specs.Seen.{IsAmong}
use Rattle.sci_core.proofs.Shape.Chains.{without, without_nil, without_this, without_other, next_of}
use Rattle.sci_core.proofs.Shape.Views.{View, link_in, settled_in}
use Rattle.sci_core.proofs.Shape.Standings.{Role, Coming, Leading, Following, role_of, Agrees, Alike, alike_itself, coming_empty}
use Rattle.sci_cache.specs.Member.{is_fresh}

abbrev pub role_in : View → ℕ → Option Role
role_in view n = role_of (settled_in view n)

abbrev pub fresh_in : View → ℕ → Bool
fresh_in view n = is_fresh (settled_in view n)

abbrev pub AgreesIn : Stamped → View → ℕ → Type 0
AgreesIn c view n = Agrees c (settled_in view n)

abbrev pub AreFollowing : View → Stamped → List ℕ → Type 0
AreFollowing view c [] = Unit {0}
AreFollowing view c (n ∷ ns) = (role_in view n ≡ Some Following) × AgreesIn c view n × AreFollowing view c ns

-- led; `must` says whether it is to be fresh from the front on
abbrev pub IsLed : View → Stamped → Bool → List ℕ → Type 0
IsLed view c must [] = ⊥
IsLed view c must (n ∷ ns) =
    ((must ≡ true → fresh_in view n ≡ true) × AgreesIn c view n)
    × (((role_in view n ≡ Some Leading) × AreFollowing view c ns) ⊎ ((role_in view n ≡ Some Coming) × IsLed view c (fresh_in view n) ns))

-- ---- every member of a list that is led has its contents

following_agrees : (view : View) (c : Stamped) (ns : List ℕ) (n : ℕ) → AreFollowing view c ns → IsAmong n ns → AgreesIn c view n
following_agrees view c [] n f h = elim h [ ]
following_agrees view c (m ∷ ns) n f (inl e) = subst (AgreesIn c view) (sym e) f.1
following_agrees view c (m ∷ ns) n f (inr h) = following_agrees view c ns n f.2 h

pub led_agrees : (view : View) (c : Stamped) (must : Bool) (ns : List ℕ) (n : ℕ) → IsLed view c must ns → IsAmong n ns → AgreesIn c view n
led_agrees view c must [] n led h = elim h [ ]
led_agrees view c must (m ∷ ns) n led (inl e) = subst (AgreesIn c view) (sym e) led.0.1
led_agrees view c must (m ∷ ns) n (front, inl leads) (inr h) = following_agrees view c ns n leads.1 h
led_agrees view c must (m ∷ ns) n (front, inr comes) (inr h) = led_agrees view c (fresh_in view m) ns n comes.1 h

-- ---- what stands as it stood

abbrev pub AlikeIn : View → View → ℕ → Type 0
AlikeIn old new n = Alike (old.state n) (old.answer n) (new.state n) (new.answer n)

pub alike_moved : (old new : View) (n : ℕ) (was : Option Body) (state : CacheState) (now : Option Body) → old.answer n ≡ was → new.state n ≡ state
    → new.answer n ≡ now → Alike (old.state n) was state now → AlikeIn old new n
alike_moved old new n was state now e f g alike = grind arith

-- its state and what is under way to it are the same
pub alike_same : (old new : View) (n : ℕ) → new.state n ≡ old.state n → new.answer n ≡ old.answer n → AlikeIn old new n
alike_same old new n e f = alike_moved old new n (old.answer n) (old.state n) (old.answer n) refl e f (alike_itself (old.state n) (old.answer n))

pub same_role : (old new : View) (n : ℕ) → AlikeIn old new n → role_in new n ≡ role_in old n
same_role old new n alike = ap (λ (s : Option (Option ℕ) × Option Role × Bool). s.1) alike.sight

pub same_fresh : (old new : View) (n : ℕ) → AlikeIn old new n → fresh_in new n ≡ fresh_in old n
same_fresh old new n alike = ap (λ (s : Option (Option ℕ) × Option Role × Bool). s.2) alike.sight

pub same_link : (old new : View) (n : ℕ) → AlikeIn old new n → link_in new n ≡ link_in old n
same_link old new n alike = ap (λ (s : Option (Option ℕ) × Option Role × Bool). s.0) alike.sight

-- a member stands as it stood, but for its link
pub record Stands (old new : View) (n : ℕ) : Type 0 where
  pub role : role_in new n ≡ role_in old n
  pub fresh : fresh_in new n ≡ fresh_in old n
  pub agrees : (c : Stamped) → AgreesIn c old n → AgreesIn c new n

pub alike_stands : (old new : View) (n : ℕ) → AlikeIn old new n → Stands old new n
alike_stands old new n alike = record { role = same_role old new n alike; fresh = same_fresh old new n alike; agrees = alike.agrees }

pub following_stand : (old new : View) (c : Stamped) (ns : List ℕ) → ((n : ℕ) → IsAmong n ns → Stands old new n) → AreFollowing old c ns → AreFollowing new c ns
following_stand old new c [] stands f = tt
following_stand old new c (n ∷ ns) stands f =
    let this = stands n (inl refl) in
    (this.role ∙ f.0, this.agrees c f.1, following_stand old new c ns (λ m h. stands m (inr h)) f.2)

-- less may have to be fresh
pub led_weaker : (view : View) (c : Stamped) (must : Bool) (ns : List ℕ) → IsLed view c must ns → IsLed view c false ns
led_weaker view c must [] led = led
led_weaker view c must (n ∷ ns) led = ((λ e. cc, led.0.1), led.1)

front_stands : (old new : View) (c : Stamped) (must : Bool) (n : ℕ) → Stands old new n → (must ≡ true → fresh_in old n ≡ true) × AgreesIn c old n
    → (must ≡ true → fresh_in new n ≡ true) × AgreesIn c new n
front_stands old new c must n this h = (λ e. this.fresh ∙ h.0 e, this.agrees c h.1)

pub led_stands : (old new : View) (c : Stamped) (must : Bool) (ns : List ℕ) → ((n : ℕ) → IsAmong n ns → Stands old new n) → IsLed old c must ns
    → IsLed new c must ns
led_stands old new c must [] stands led = led
led_stands old new c must (n ∷ ns) stands (front, inl leads) = grind (arith, front_stands, following_stand)
led_stands old new c must (n ∷ ns) stands (front, inr comes) =
    let this = stands n (inl refl) in
    let rest = led_stands old new c (fresh_in old n) ns (λ m h. stands m (inr h)) comes.1 in
    (front_stands old new c must n this front, inr (this.role ∙ comes.0, subst (λ (b : Bool). IsLed new c b ns) (sym this.fresh) rest))

-- ---- one that follows is taken out

pub following_without : (view : View) (c : Stamped) (y : ℕ) (ns : List ℕ) → AreFollowing view c ns → AreFollowing view c (without y ns)
following_without view c y [] f = subst (AreFollowing view c) (sym (without_nil y)) tt
following_without view c y (n ∷ ns) f =
    elim (cases_eq n y) [
      | inl same ↦ subst (AreFollowing view c) (sym (without_this y n ns same)) (following_without view c y ns f.2)
      | inr other ↦ subst (AreFollowing view c) (sym (without_other y n ns other)) (f.0, f.1, following_without view c y ns f.2)
    ]

another : (view : View) (y n : ℕ) (r : Role) → role_in view y ≡ Some Following → role_in view n ≡ Some r → (r ≡ Following → ⊥) → n ≢ y
another view y n r follows is not e = let both : Some r ≡ Some Following = sym is ∙ (ap (role_in view) e ∙ follows) in not cc

pub led_without : (view : View) (c : Stamped) (must : Bool) (y : ℕ) (ns : List ℕ) → role_in view y ≡ Some Following → IsLed view c must ns
    → IsLed view c must (without y ns)
led_without view c must y [] follows led = elim led [ ]
led_without view c must y (n ∷ ns) follows (front, inl leads) = grind (arith, another, without_other, following_without)
led_without view c must y (n ∷ ns) follows (front, inr comes) =
    let other : n ≢ y = another view y n Coming follows comes.0 (λ e. cc) in
    subst (IsLed view c must) (sym (without_other y n ns other)) (front, inr (comes.0, led_without view c (fresh_in view n) y ns follows comes.1))

-- ---- one comes to lead, before the one that led

pub record Joins (old new : View) (a q : ℕ) : Type 0 where
  pub link : link_in old a ≡ Some (Some q)
  pub coming : role_in old a ≡ Some Coming
  pub leading : role_in old q ≡ Some Leading
  pub leads : role_in new a ≡ Some Leading
  pub follows : role_in new q ≡ Some Following
  pub fresh : fresh_in new a ≡ fresh_in old a
  pub keeps : (c : Stamped) → AgreesIn c old q → AgreesIn c new q
  pub takes : (c : Stamped) → AgreesIn c old q → AgreesIn c old a → AgreesIn c new a
  pub others : (n : ℕ) → n ≢ a → n ≢ q → Stands old new n

pub following_in : (view : View) (c : Stamped) (ns : List ℕ) (n : ℕ) → AreFollowing view c ns → IsAmong n ns → role_in view n ≡ Some Following
following_in view c [] n f h = elim h [ ]
following_in view c (m ∷ ns) n f (inl e) = ap (role_in view) e ∙ f.0
following_in view c (m ∷ ns) n f (inr h) = following_in view c ns n f.2 h

pub roles_differ : (r s : Role) (role : Option Role) → role ≡ Some r → role ≡ Some s → (r ≡ s → ⊥) → ⊥
roles_differ r s role is also not = let both : Some r ≡ Some s = sym is ∙ also in not cc

-- the one that led stands directly behind
led_behind : (old new : View) (a q : ℕ) (c : Stamped) (b : Bool) (next : Option ℕ) (ns : List ℕ) → Joins old new a q → next ≡ Some q
    → LinkedFrom (link_in old) next ns → IsOnce ns → (IsAmong a ns → ⊥) → IsLed old c b ns → AgreesIn c old q × AreFollowing new c ns
led_behind old new a q c b next [] joins e linked once absent led = elim led [ ]
led_behind old new a q c b next (m ∷ ns) joins e linked once absent (front, inl leads) =
    let here : m ≡ q = (let at = linked.0 in cc) in
    let agrees = subst (AgreesIn c old) here front.1 in
    let rest = following_stand old new c ns
    (λ n h. joins.others n (λ s. absent (inr (subst (λ (k : ℕ). IsAmong k ns) s h))) (λ s. once.0 (subst (λ (k : ℕ). IsAmong k ns) (s ∙ sym here) h)))
    leads.1 in
    (agrees, (ap (role_in new) here ∙ joins.follows, subst (AgreesIn c new) (sym here) (joins.keeps c agrees), rest))
led_behind old new a q c b next (m ∷ ns) joins e linked once absent (front, inr comes) = grind (arith, roles_differ)

pub led_joins : (old new : View) (a q : ℕ) (c : Stamped) (must : Bool) (first : Option ℕ) (ns : List ℕ) → Joins old new a q → LinkedFrom (link_in old) first ns
    → IsOnce ns → IsAmong a ns → IsLed old c must ns → IsLed new c must ns
led_joins old new a q c must first [] joins linked once h led = elim led [ ]
led_joins old new a q c must first (n ∷ ns) joins linked once (inl e) (front, inl leads) =
    absurd (roles_differ Leading Coming (role_in old n) leads.0 (ap (role_in old) (sym e) ∙ joins.coming) (λ s. cc))
led_joins old new a q c must first (n ∷ ns) joins linked once (inr h) (front, inl leads) =
    absurd (roles_differ Following Coming (role_in old a) (following_in old c ns a leads.1 h) joins.coming (λ s. cc))
led_joins old new a q c must first (n ∷ ns) joins linked once (inl e) (front, inr comes) =
    let next = next_of (link_in old) n a linked.1.0 q e linked.1.1 joins.link in
    let absent : IsAmong a ns → ⊥ = λ h. once.0 (subst (λ (k : ℕ). IsAmong k ns) e h) in
    let behind = led_behind old new a q c (fresh_in old n) linked.1.0 ns joins next linked.1.2 once.1 absent comes.1 in
    let agrees = joins.takes c behind.0 (subst (AgreesIn c old) (sym e) front.1) in
    let fresh : fresh_in new n ≡ fresh_in old n = ap (fresh_in new) (sym e) ∙ (joins.fresh ∙ ap (fresh_in old) e) in
    ((λ m. fresh ∙ front.0 m, subst (AgreesIn c new) e agrees), inl (ap (role_in new) (sym e) ∙ joins.leads, behind.1))
led_joins old new a q c must first (n ∷ ns) joins linked once (inr h) (front, inr comes) =
    let not_asker : n ≢ a = λ s. once.0 (subst (λ (k : ℕ). IsAmong k ns) (sym s) h) in
    let not_server : n ≢ q = λ s. roles_differ Coming Leading (role_in old n) comes.0 (ap (role_in old) s ∙ joins.leading) (λ t. cc) in
    let this = joins.others n not_asker not_server in
    let rest = led_joins old new a q c (fresh_in old n) linked.1.0 ns joins linked.1.2 once.1 h comes.1 in
    (front_stands old new c must n this front, inr (this.role ∙ comes.0, subst (λ (b : Bool). IsLed new c b ns) (sym this.fresh) rest))

-- ---- contents are made, at the head of a list of one that is led from there

-- node q has other contents now, and every other member stands as it stood
pub record Made (old new : View) (q : ℕ) (c : Stamped) : Type 0 where
  pub ends : link_in old q ≡ Some None
  pub leading : role_in old q ≡ Some Leading
  pub leads : role_in new q ≡ Some Leading
  pub stale : fresh_in old q ≡ false
  pub agrees : AgreesIn c new q
  pub same_state : (n : ℕ) → n ≢ q → new.state n ≡ old.state n
  pub same_answer : (n : ℕ) → n ≢ q → new.answer n ≡ old.answer n

ends_empty : (link : ℕ → Option (Option ℕ)) (next : Option ℕ) (ns : List ℕ) → next ≡ None → LinkedFrom link next ns → ns ≡ []
ends_empty link next [] e linked = refl
ends_empty link next (n ∷ ns) e linked = let at = linked.0 in cc

settled_same : (old new : View) (q n : ℕ) (c : Stamped) → Made old new q c → n ≢ q → settled_in new n ≡ settled_in old n
settled_same old new q n c made apart = grind arith

-- who comes before is not fresh, so has no contents
empty_agrees : (old new : View) (q n : ℕ) (c : Stamped) → Made old new q c → n ≢ q → role_in old n ≡ Some Coming → fresh_in old n ≡ false → AgreesIn c new n
empty_agrees old new q n c made apart comes stale =
    subst (Agrees c) (sym (settled_same old new q n c made apart)) (coming_empty (settled_in old n) c comes stale)

not_true : (b : Bool) → (b ≡ true → ⊥) → b ≡ false
not_true true not = absurd (not refl)
not_true false not = refl

pub led_made : (old new : View) (q : ℕ) (b c : Stamped) (must : Bool) (first : Option ℕ) (ns : List ℕ) → Made old new q c → LinkedFrom (link_in old) first ns
    → IsAmong q ns → IsLed old b must ns → (must ≡ true → ⊥) × IsLed new c must ns
led_made old new q b c must first [] made linked h led = elim led [ ]
led_made old new q b c must first (n ∷ ns) made linked (inl e) (front, inl leads) = grind (arith, link_in, ends_empty)
led_made old new q b c must first (n ∷ ns) made linked (inr h) (front, inl leads) =
    absurd (roles_differ Following Leading (role_in old q) (following_in old b ns q leads.1 h) made.leading (λ s. cc))
led_made old new q b c must first (n ∷ ns) made linked (inl e) (front, inr comes) =
    absurd (roles_differ Coming Leading (role_in old n) comes.0 (ap (role_in old) (sym e) ∙ made.leading) (λ s. cc))
led_made old new q b c must first (n ∷ ns) made linked (inr h) (front, inr comes) =
    let apart : n ≢ q = λ s. roles_differ Coming Leading (role_in old n) comes.0 (ap (role_in old) s ∙ made.leading) (λ t. cc) in
    let rest = led_made old new q b c (fresh_in old n) linked.1.0 ns made linked.1.2 h comes.1 in
    let stale : fresh_in old n ≡ false = not_true (fresh_in old n) rest.0 in
    let not : must ≡ true → ⊥ = λ m. rest.0 (front.0 m) in
    let fresh : fresh_in new n ≡ fresh_in old n = ap is_fresh (settled_same old new q n c made apart) in (
      not,
      (
        (λ m. absurd (not m), empty_agrees old new q n c made apart comes.0 stale),
        inr (ap role_of (settled_same old new q n c made apart) ∙ comes.0, subst (λ (f : Bool). IsLed new c f ns) (sym fresh) rest.1),
      ),
    )
