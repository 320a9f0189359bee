-- Ways to a position, from its end on.
use Rattle.std.proofs.Common.{◌≡◌, ◌↔◌, ℕ, suc, Bool, true, false, List, [], ◌∷◌, ◌++◌, length, Option, None, Some, reverse, refl, sym, ap, subst, ◌∙◌}
use Rattle.std.proofs.Common.{◌+◌, ◌<◌, map, take, get_or, append_assoc, arith, inl, inr}
use Rattle.std.proofs.Math.Seq.{get_or-append_seam}
use Rattle.std.proofs.lemmas.Bool.{cases_lt}
use Rattle.std.proofs.lemmas.List.{append-nil, get_or_append_left, get_or_default, get_or-map, length-map, length_push, map-append, reverse-append, take_more}
use Rattle.std.proofs.lemmas.List.Elements.{All-get_or}
use Rattle.std.specs.{List.{All, Contains}, Prelude.{Vec}}
use Rattle.sci_words.specs.declared.event.Event.{Event}
use Rattle.sci_core.{specs.Size.{Size}}
use Rattle.sci_orders.proofs.{Changes.{list_below}, Keeping.{contains_none}, Sameness.{equal_standing, same_standing}}
use Rattle.sci_orders.specs.{Eager.{AreFoundIn, IsFoundIn}, Positions.{IsStep, Operations, Position, own_of, position_of, step_at}}
use Rattle.sci_orders.specs.{Ways.{AreLevels, IsStepBy, LeadsTo, levels_of}, Witness.{round_of, schedule_of, turn_of}}
use Rattle.sci_orders.specs.declared.standing.Standing.{Standing}
use Rattle.sci_words.specs.declared.event.AskKind.TheVariants as kind
use Rattle.sci_words.specs.declared.event.Event.TheVariants as event
use Rattle.sci_orders.specs.contracts.standing.StandingPartialEq.TheImpl as TheEquality

-- a step leads to a standing exactly if what it gives is found equal to it
pub leads_some : (next to : Standing) (o : Option Position) (b : Bool) → Some (position_of next) ≡ o → b ≡ (TheEquality.ghosts).eq next to
    → (b ≡ true) ↔ (o ≡ Some (position_of to))
leads_some next to o b is same = grind (arith, same_standing, equal_standing)

pub leads_none : (to : Position) (o : Option Position) → None ≡ o → (false ≡ true) ↔ (o ≡ Some to)
leads_none to o is = ((λ found. cc), (λ leads. (let clash : None ≡ Some to = is ∙ leads in cc)))

-- no step leads there if none of a node does
pub no_step : (operations : Operations) (window : ℕ) (p q : Position) → ((m : ℕ) → m < length operations → (i : ℕ) → i < length (own_of operations m)
    → step_at operations window p m i ≡ Some q → ⊥) → IsStep operations window p q → ⊥
no_step operations window p q none s = none s.node (list_below operations s.node s.place s.below) s.place s.below s.step

-- a position that is found by a step more is found from one of the level before it
pub step_before : (lines : ℕ) (operations : Operations) (window count : ℕ) (level : List Position) (p : Position)
    → AreFoundIn lines operations window count level → IsFoundIn lines operations window (suc count) p
    → (q : Position) × Contains level q × IsStep operations window q p
step_before lines operations window count level p so (q, found, step) = (q, so.all q found, step.taken)

-- one event more at the beginning of a way
pub leads_more : (operations : Operations) (window : ℕ) (p q last : Position) (e : Event) (order : List Event) → IsStepBy operations window p q e
    → LeadsTo operations window q (reverse order) last → LeadsTo operations window p (reverse (order ++ e ∷ [])) last
leads_more operations window p q last e order step leads =
    subst (λ (es : List Event). LeadsTo operations window p es last) (sym (reverse-append order (e ∷ []))) (q, step, leads)

-- ---- the schedule of an order

pub schedule-append : (size : Size) (xs ys : List Event) → schedule_of size (xs ++ ys) ≡ schedule_of size xs ++ schedule_of size ys
schedule-append size [] ys = refl
schedule-append size (x ∷ xs) ys =
    ap (λ (es : List Event). turn_of size x ++ es) (schedule-append size xs ys)
    ∙ sym (append_assoc (turn_of size x) (schedule_of size xs) (schedule_of size ys))

-- ---- levels

-- the levels from none on, with one more
pub level_more : (lines : ℕ) (operations : Operations) (window count : ℕ) (levels : List (List Position)) (level : List Position) → count ≡ length levels
    → AreLevels lines operations window levels → AreFoundIn lines operations window count level → AreLevels lines operations window (levels ++ level ∷ [])
level_more lines operations window count levels level is all reached k below = elim (cases_lt k (length levels)) [
  | inl lt ↦ subst (AreFoundIn lines operations window k) (sym (get_or_append_left levels (level ∷ []) [] k lt)) (all k lt)
  | inr past ↦
      let long = length_push levels level in
      let last : k ≡ length levels = omega arith in
      let here : get_or (levels ++ level ∷ []) k [] ≡ level =
      ap (λ (i : ℕ). get_or (levels ++ level ∷ []) i []) last ∙ get_or-append_seam levels level [] [] in
      subst (AreFoundIn lines operations window k) (sym here)
      (subst (λ (i : ℕ). AreFoundIn lines operations window i level) (is ∙ sym last) reached)
]

-- and with two more
pub levels_more : {Z : Type 0} (lines : ℕ) (operations : Operations) (window count : ℕ) (old new : List (Vec Standing Z)) (first second : Vec Standing Z)
    → count ≡ length old → new ≡ old ++ first ∷ second ∷ [] → AreLevels lines operations window (levels_of old)
    → AreFoundIn lines operations window count (map position_of first.items) → AreFoundIn lines operations window (count + 1) (map position_of second.items)
    → AreLevels lines operations window (levels_of new)
levels_more {Z = Z} lines operations window count old new first second is added all one two =
    let positions = λ (level : Vec Standing Z). map position_of level.items in
    let long = length-map old positions in
    let more = level_more lines operations window count (levels_of old) (map position_of first.items) (omega arith) all one in
    let longer = length_push (levels_of old) (map position_of first.items) in
    let most = level_more lines operations window (count + 1) (levels_of old ++ map position_of first.items ∷ []) (map position_of second.items) (omega arith)
    more two in
    let joined : levels_of new ≡ (levels_of old ++ map position_of first.items ∷ []) ++ map position_of second.items ∷ [] =
    ap levels_of added ∙ (map-append positions old (first ∷ second ∷ [])
    ∙ sym (append_assoc (levels_of old) (map position_of first.items ∷ []) (map position_of second.items ∷ []))) in
    subst (AreLevels lines operations window) (sym joined) most

-- ---- what stands at a place

pub item_at : {X : Type 0} (xs : List X) (i j : ℕ) (item d : X) → i < length xs → j ≡ i → item ≡ get_or xs i item → get_or xs j d ≡ item
item_at xs i j item d below same is = ap (λ (k : ℕ). get_or xs k d) same ∙ (get_or_default xs i d item below ∙ sym is)

-- what holds of all positions of a level holds of a standing of it
pub holds_at : (P : Position → Type 0) (level : List Standing) (i : ℕ) (item : Standing) → i < length level → item ≡ get_or level i item
    → All P (map position_of level) → P (position_of item)
holds_at P level i item below is all =
    let long = length-map level position_of in
    subst P (get_or-map position_of level i item (position_of item) below ∙ ap position_of (sym is))
    (All-get_or P (map position_of level) i (position_of item) (omega arith) all)

-- what holds of no standing holds of no position
pub none_holds : (P : Position → Type 0) (level : List Standing) → ((k : ℕ) (d : Standing) → k < length level → P (position_of (get_or level k d)) → ⊥)
    → (p : Position) → Contains (map position_of level) p → P p → ⊥
none_holds P [] none p has holds = contains_none p has
none_holds P (s ∷ ss) none p (k, below, at) holds =
    let long = length-map (s ∷ ss) position_of in
    let lt : k < length (s ∷ ss) = omega arith in
    none k s lt (subst P (sym (sym (get_or-map position_of (s ∷ ss) k s p lt) ∙ at)) holds)

-- a level is what its number of steps leads to
pub level_at : {Z : Type 0} (lines : ℕ) (operations : Operations) (window : ℕ) (levels : List (Vec Standing Z)) (i : ℕ) (item : Vec Standing Z)
    (standings : List Standing) → i < length levels → item ≡ get_or levels i item → standings ≡ item.items
    → AreLevels lines operations window (levels_of levels) → AreFoundIn lines operations window i (map position_of standings)
level_at {Z = Z} lines operations window levels i item standings low is same all =
    let f = λ (level : Vec Standing Z). map position_of level.items in
    let long = length-map levels f in
    subst (AreFoundIn lines operations window i) (get_or-map f levels i item [] low ∙ (ap f (sym is) ∙ ap (map position_of) (sym same)))
    (all i (omega arith))

-- ---- one turn

pub turn_made : (size : Size) (n line : ℕ) (e : Event) (old a b new first second : List Event) → e ≡ event.Perform n line → a ≡ old ++ first
    → b ≡ a ++ e ∷ [] → new ≡ b ++ second → first ≡ round_of size n line kind.Mread → second ≡ round_of size n line kind.Wback
    → new ≡ old ++ turn_of size e
turn_made size n line e old a b new first second is one two three here there = grind (arith, append_assoc)

pub schedule_take : (size : Size) (order : List Event) (k : ℕ) (d : Event) → k < length order
    → schedule_of size (take (k + 1) order) ≡ schedule_of size (take k order) ++ turn_of size (get_or order k d)
schedule_take size order k d low =
    ap (schedule_of size) (take_more order k d low)
    ∙ (schedule-append size (take k order) (get_or order k d ∷ [])
    ∙ ap (λ (es : List Event). schedule_of size (take k order) ++ es) (append-nil (turn_of size (get_or order k d))))
