-- How each kind of event moves the packets of a node's asks about a line.
use Rattle.std.proofs.Common.{◌≡◌, ℕ, ◌<◌, Bool, true, false, cond, List, [], ◌∷◌, ◌++◌, length, get_or, set, filter, Option, Some, None, refl, sym, ap}
use Rattle.std.proofs.{Common.{◌∙◌, arith, append-nil, append_assoc}, lemmas.List.Elements.{filter-append}}
use Rattle.std.specs.{Prelude.{option_to_list}, List.{flat_map}}
use Rattle.sci_cache.specs.Cache.{Letter}
use Rattle.sci_core.specs.{Node.{NodeOf, no_node}, Core.{Core, node_at, with_node, lane_at, with_lane}}
use Rattle.sci_core.specs.Sharing.{is_about, packets_of}
use Rattle.sci_core.proofs.Basics.FlatMaps.{around, flat_same, flat_from_none, flat_from_one, nothing_before, nothing_after}

abbrev pub waits_in : (Letter → Bool) → NodeOf → List Letter
waits_in q part = filter q (option_to_list part.waiting)

filter_flat : {X : Type 0} (q : Letter → Bool) (f : X → List Letter) (xs : List X) → filter q (flat_map f xs) ≡ flat_map (λ x. filter q (f x)) xs
filter_flat q f [] = refl
filter_flat q f (x ∷ xs) = filter-append q (f x) (flat_map f xs) ∙ ap (λ ys. filter q (f x) ++ ys) (filter_flat q f xs)

-- the packets that wait, and those in lanes
abbrev pub two_parts : (Letter → Bool) → List NodeOf → List (List Letter) → List Letter
two_parts q parts lanes = flat_map (waits_in q) parts ++ flat_map (filter q) lanes

pub packets_are : (core : Core) (m k : ℕ) → packets_of core m k ≡ two_parts (is_about m k) core.parts core.lanes
packets_are core m k = grind (arith, filter-append, filter_flat)

-- ---- filters

kept : (q : Letter → Bool) (letter : Letter) (letters : List Letter) → q letter ≡ true → filter q (letter ∷ letters) ≡ letter ∷ filter q letters
kept q letter letters e = ap (λ (b : Bool). cond b (letter ∷ filter q letters) (filter q letters)) e

dropped : (q : Letter → Bool) (letter : Letter) (letters : List Letter) → q letter ≡ false → filter q (letter ∷ letters) ≡ filter q letters
dropped q letter letters e = ap (λ (b : Bool). cond b (letter ∷ filter q letters) (filter q letters)) e

-- ---- one thing alone

middle_alone : {Y : Type 0} (xs ys : List Y) (x z : Y) → xs ++ (z ∷ ys) ≡ x ∷ [] → xs ≡ []
middle_alone [] ys x z e = refl
middle_alone (y ∷ xs) ys x z e = grind (arith, nothing_after)

first_alone : {Y : Type 0} (xs ys zs : List Y) (x z : Y) → xs ≡ z ∷ zs → xs ++ ys ≡ x ∷ [] → ys ≡ []
first_alone [] ys zs x z e f = cc
first_alone (y ∷ xs) ys zs x z e f = grind (arith, nothing_after)

-- the only packet is in this lane
pub record LaneAlone (q : Letter → Bool) (parts : List NodeOf) (lanes : List (List Letter)) (place : ℕ) (v : List Letter) (x z : Letter)
    (zs : List Letter) : Type 0 where
  pub waits : flat_map (waits_in q) parts ≡ []
  pub lanes_then : flat_map (filter q) (set lanes place v) ≡ filter q v
  pub rest : zs ≡ []
  pub same : z ≡ x

lane_alone : (q : Letter → Bool) (parts : List NodeOf) (lanes : List (List Letter)) (place : ℕ) (v : List Letter) (x z : Letter) (zs : List Letter)
    → place < length lanes
    → two_parts q parts lanes ≡ x ∷ [] → filter q (get_or lanes place []) ≡ z ∷ zs → LaneAlone q parts lanes place v x z zs
lane_alone q parts lanes place v x z zs below one this =
    let a = around (filter q) lanes place [] below in
    let here : flat_map (filter q) lanes ≡ a.before ++ (z ∷ zs ++ a.after) = a.now ∙ ap (λ ys. a.before ++ (ys ++ a.after)) this in
    let all : (flat_map (waits_in q) parts ++ a.before) ++ (z ∷ zs ++ a.after) ≡ x ∷ [] =
    append_assoc (flat_map (waits_in q) parts) a.before _ ∙ (ap (λ ys. flat_map (waits_in q) parts ++ ys) (sym here) ∙ one) in
    let before = middle_alone (flat_map (waits_in q) parts ++ a.before) (zs ++ a.after) x z all in
    let none = nothing_before (flat_map (waits_in q) parts) a.before before in
    let only : flat_map (filter q) lanes ≡ x ∷ [] = ap (λ ys. ys ++ flat_map (filter q) lanes) (sym none) ∙ one in
    let then_ = flat_from_one (filter q) lanes place [] v x z zs below only this in
    record { waits = none; lanes_then = then_.0; rest = then_.1; same = then_.2 }

-- the only packet waits at this node
pub record NodeAlone (q : Letter → Bool) (parts : List NodeOf) (lanes : List (List Letter)) (n : ℕ) (v : NodeOf) (x z : Letter) : Type 0 where
  pub carried : flat_map (filter q) lanes ≡ []
  pub parts_then : flat_map (waits_in q) (set parts n v) ≡ waits_in q v
  pub same : z ≡ x

node_alone : (q : Letter → Bool) (parts : List NodeOf) (lanes : List (List Letter)) (n : ℕ) (v : NodeOf) (x z : Letter) → n < length parts
    → two_parts q parts lanes ≡ x ∷ [] → waits_in q (get_or parts n no_node) ≡ z ∷ [] → NodeAlone q parts lanes n v x z
node_alone q parts lanes n v x z below one this =
    let d = no_node in
    let a = around (waits_in q) parts n d below in
    let here : flat_map (waits_in q) parts ≡ a.before ++ (z ∷ a.after) = a.now ∙ ap (λ ys. a.before ++ (ys ++ a.after)) this in
    let all : a.before ++ (z ∷ (a.after ++ flat_map (filter q) lanes)) ≡ x ∷ [] =
    sym (append_assoc a.before (z ∷ a.after) (flat_map (filter q) lanes)) ∙ (ap (λ ys. ys ++ flat_map (filter q) lanes) (sym here) ∙ one) in
    let before = middle_alone a.before (a.after ++ flat_map (filter q) lanes) x z all in
    let starts : flat_map (waits_in q) parts ≡ z ∷ a.after = here ∙ ap (λ ys. ys ++ (z ∷ a.after)) before in
    let carried = first_alone (flat_map (waits_in q) parts) (flat_map (filter q) lanes) a.after x z starts one in
    let only : flat_map (waits_in q) parts ≡ x ∷ [] =
    sym (append-nil (flat_map (waits_in q) parts)) ∙ (ap (λ ys. flat_map (waits_in q) parts ++ ys) (sym carried) ∙ one) in
    let then_ = flat_from_one (waits_in q) parts n d v x z [] below only this in
    record { carried = carried; parts_then = then_.0; same = then_.2 }

-- ---- the moves

-- a node changes, and what waits at it doesn't
pub packets_changed : (core : Core) (n : ℕ) (next : NodeOf) (m k : ℕ) → n < length core.parts → next.waiting ≡ (node_at core n).waiting
    → packets_of (with_node core n next) m k ≡ packets_of core m k
packets_changed core n next m k below same = grind (arith, packets_are, flat_same)

-- a node and a lane change
abbrev moved : Core → ℕ → NodeOf → ℕ → List Letter → Core
moved core n next place lane = with_lane (with_node core n next) place lane

-- what gives the same packets, of those that are looked for
pub packets_same : (core : Core) (n : ℕ) (next : NodeOf) (place : ℕ) (lane : List Letter) (m k : ℕ) → n < length core.parts → place < length core.lanes
    → filter (is_about m k) (option_to_list next.waiting) ≡ filter (is_about m k) (option_to_list (node_at core n).waiting)
    → filter (is_about m k) lane ≡ filter (is_about m k) (lane_at core place)
    → packets_of (with_lane (with_node core n next) place lane) m k ≡ packets_of core m k
packets_same core n next place lane m k below within same along =
    let q = is_about m k in
    packets_are (moved core n next place lane) m k ∙
    (ap (λ ys. ys ++ flat_map (filter q) (set core.lanes place lane)) (flat_same (waits_in q) core.parts n no_node next below same) ∙
    (ap (λ ys. flat_map (waits_in q) core.parts ++ ys) (flat_same (filter q) core.lanes place [] lane within along) ∙ sym (packets_are core m k)))

-- a request is sent, if nothing was under way
pub packets_asked : (core : Core) (n : ℕ) (next : NodeOf) (place : ℕ) (letter : Letter) (m k : ℕ) → n < length core.parts → place < length core.lanes
    → next.waiting ≡ (node_at core n).waiting
    → is_about m k letter ≡ true → packets_of core m k ≡ []
    → packets_of (with_lane (with_node core n next) place (lane_at core place ++ letter ∷ [])) m k ≡ letter ∷ []
packets_asked core n next place letter m k below within same about none =
    let q = is_about m k in
    let both = sym (packets_are core m k) ∙ none in
    let waits = nothing_before (flat_map (waits_in q) core.parts) _ both in
    let lanes = nothing_after (flat_map (waits_in q) core.parts) _ both in
    let a = around (filter q) core.lanes place [] within in
    let middle = nothing_after a.before _ (sym a.now ∙ lanes) in
    let here : filter q (lane_at core place) ≡ [] = nothing_before (filter q (lane_at core place)) a.after middle in
    let lane = lane_at core place ++ letter ∷ [] in
    let last : filter q lane ≡ letter ∷ [] =
    filter-append q (lane_at core place) (letter ∷ []) ∙ (ap (λ ys. ys ++ filter q (letter ∷ [])) here ∙ kept q letter [] about) in
    packets_are (moved core n next place lane) m k ∙
    (ap (λ ys. ys ++ flat_map (filter q) (set core.lanes place lane))
    (flat_same (waits_in q) core.parts n no_node next below (ap (λ (w : Option Letter). filter q (option_to_list w)) same) ∙ waits) ∙
    (flat_from_none (filter q) core.lanes place [] lane within lanes ∙ last))

-- the answer that waited is sent
pub packets_replied : (core : Core) (n : ℕ) (next : NodeOf) (place : ℕ) (letter x : Letter) (m k : ℕ) → n < length core.parts → place < length core.lanes
    → (node_at core n).waiting ≡ Some letter → next.waiting ≡ None
    → is_about m k letter ≡ true → packets_of core m k ≡ x ∷ []
    → packets_of (with_lane (with_node core n next) place (lane_at core place ++ letter ∷ [])) m k ≡ x ∷ []
packets_replied core n next place letter x m k below within waited gone about one =
    let q = is_about m k in
    let this : waits_in q (node_at core n) ≡ letter ∷ [] = ap (λ (w : Option Letter). filter q (option_to_list w)) waited ∙ kept q letter [] about in
    let alone = node_alone q core.parts core.lanes n next x letter below (sym (packets_are core m k) ∙ one) this in
    let a = around (filter q) core.lanes place [] within in
    let middle = nothing_after a.before _ (sym a.now ∙ alone.carried) in
    let here : filter q (lane_at core place) ≡ [] = nothing_before (filter q (lane_at core place)) a.after middle in
    let lane = lane_at core place ++ letter ∷ [] in
    let last : filter q lane ≡ letter ∷ [] =
    filter-append q (lane_at core place) (letter ∷ []) ∙ (ap (λ ys. ys ++ filter q (letter ∷ [])) here ∙ kept q letter [] about) in
    let empty : waits_in q next ≡ [] = ap (λ (w : Option Letter). filter q (option_to_list w)) gone in
    packets_are (moved core n next place lane) m k ∙
    (ap (λ ys. ys ++ flat_map (filter q) (set core.lanes place lane)) (alone.parts_then ∙ empty) ∙
    (flat_from_none (filter q) core.lanes place [] lane within alone.carried ∙ (last ∙ ap (λ (l : Letter). l ∷ []) alone.same)))

pub record Served (core new : Core) (m k : ℕ) (request answer x : Letter) : Type 0 where
  pub then_ : packets_of new m k ≡ answer ∷ []
  pub same : request ≡ x

-- a request is taken, and its answer waits
pub packets_served : (core : Core) (n : ℕ) (next : NodeOf) (place : ℕ) (request answer x : Letter) (rest : List Letter) (m k : ℕ) → n < length core.parts
    → place < length core.lanes → lane_at core place ≡ request ∷ rest → (node_at core n).waiting ≡ None → next.waiting ≡ Some answer
    → is_about m k request ≡ true → is_about m k answer ≡ true → packets_of core m k ≡ x ∷ []
    → Served core (with_lane (with_node core n next) place rest) m k request answer x
packets_served core n next place request answer x rest m k below within front free waits about about_answer one =
    let q = is_about m k in
    let this : filter q (lane_at core place) ≡ request ∷ filter q rest = ap (filter q) front ∙ kept q request rest about in
    let alone = lane_alone q core.parts core.lanes place rest x request (filter q rest) within (sym (packets_are core m k) ∙ one) this in
    let here : waits_in q next ≡ answer ∷ [] = ap (λ (w : Option Letter). filter q (option_to_list w)) waits ∙ kept q answer [] about_answer in
    record {
      then_ =
          packets_are (moved core n next place rest) m k ∙
          (ap (λ ys. ys ++ flat_map (filter q) (set core.lanes place rest)) (flat_from_none (waits_in q) core.parts n no_node next below alone.waits ∙ here) ∙
          ap (λ ys. (answer ∷ []) ++ ys) (alone.lanes_then ∙ alone.rest));
      same = alone.same;
    }

pub record Accepted (core new : Core) (m k : ℕ) (answer x : Letter) : Type 0 where
  pub then_ : packets_of new m k ≡ []
  pub same : answer ≡ x

-- an answer is accepted
pub packets_accepted : (core : Core) (n : ℕ) (next : NodeOf) (place : ℕ) (answer x : Letter) (rest : List Letter) (m k : ℕ) → n < length core.parts
    → place < length core.lanes → lane_at core place ≡ answer ∷ rest → next.waiting ≡ (node_at core n).waiting
    → is_about m k answer ≡ true → packets_of core m k ≡ x ∷ [] → Accepted core (with_lane (with_node core n next) place rest) m k answer x
packets_accepted core n next place answer x rest m k below within front same about one =
    let q = is_about m k in
    let this : filter q (lane_at core place) ≡ answer ∷ filter q rest = ap (filter q) front ∙ kept q answer rest about in
    let alone = lane_alone q core.parts core.lanes place rest x answer (filter q rest) within (sym (packets_are core m k) ∙ one) this in
    record {
      then_ =
          packets_are (moved core n next place rest) m k ∙
          (ap (λ ys. ys ++ flat_map (filter q) (set core.lanes place rest))
          (flat_same (waits_in q) core.parts n no_node next below (ap (λ (w : Option Letter). filter q (option_to_list w)) same) ∙ alone.waits) ∙
          (alone.lanes_then ∙ alone.rest));
      same = alone.same;
    }

-- a packet that isn't looked for joins or leaves a lane
pub filter_joined : (m k : ℕ) (lane : List Letter) (letter : Letter) → is_about m k letter ≡ false
    → filter (is_about m k) (lane ++ letter ∷ []) ≡ filter (is_about m k) lane
filter_joined m k lane letter other =
    filter-append (is_about m k) lane (letter ∷ []) ∙ (ap (λ ys. filter (is_about m k) lane ++ ys) (dropped (is_about m k) letter [] other) ∙ append-nil _)

pub filter_left : (m k : ℕ) (lane rest : List Letter) (letter : Letter) → lane ≡ letter ∷ rest → is_about m k letter ≡ false
    → filter (is_about m k) rest ≡ filter (is_about m k) lane
filter_left m k lane rest letter front other = sym (ap (filter (is_about m k)) front ∙ dropped (is_about m k) letter rest other)

pub filter_one : (m k : ℕ) (letter : Letter) → is_about m k letter ≡ false → filter (is_about m k) (letter ∷ []) ≡ []
filter_one m k letter other = dropped (is_about m k) letter [] other

-- ---- packets that are there

pub lane_has : (core : Core) (place : ℕ) (letter : Letter) (rest : List Letter) (m k : ℕ) → place < length core.lanes → lane_at core place ≡ letter ∷ rest
    → is_about m k letter ≡ true → packets_of core m k ≡ [] → ⊥
lane_has core place letter rest m k within front about none =
    let q = is_about m k in
    let lanes = nothing_after (flat_map (waits_in q) core.parts) _ (sym (packets_are core m k) ∙ none) in
    let a = around (filter q) core.lanes place [] within in
    let here = nothing_before (filter q (lane_at core place)) a.after (nothing_after a.before _ (sym a.now ∙ lanes)) in
    let this : filter q (lane_at core place) ≡ letter ∷ filter q rest = ap (filter q) front ∙ kept q letter rest about in
    cc

pub node_has : (core : Core) (n : ℕ) (letter : Letter) (m k : ℕ) → n < length core.parts → (node_at core n).waiting ≡ Some letter → is_about m k letter ≡ true
    → packets_of core m k ≡ [] → ⊥
node_has core n letter m k below waited about none =
    let q = is_about m k in
    let parts = nothing_before (flat_map (waits_in q) core.parts) _ (sym (packets_are core m k) ∙ none) in
    let a = around (waits_in q) core.parts n no_node below in
    let here = nothing_before (waits_in q (node_at core n)) a.after (nothing_after a.before _ (sym a.now ∙ parts)) in
    let this : waits_in q (node_at core n) ≡ letter ∷ [] = ap (λ (w : Option Letter). filter q (option_to_list w)) waited ∙ kept q letter [] about in
    cc
