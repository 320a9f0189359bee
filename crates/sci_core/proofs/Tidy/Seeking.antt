-- Finding the first answer among packets, part by part.
use Rattle.std.proofs.Common.{◌≡◌, ℕ, ◌+◌, ◌<◌, ◌&&◌, not, Bool, true, false, if◌then◌else◌, cond, List, [], ◌∷◌, ◌++◌, length, map, filter, get_or, take}
use Rattle.std.proofs.Common.{drop, Option, Some, None, append-nil, refl, sym, ap, ◌∙◌}
use Rattle.std.proofs.lemmas.List.{take_more, map-append, take-append-drop, Elements.{filter-append}}
use Rattle.std.proofs.lemmas.Grind.{flat_map-append}
use Rattle.std.specs.{Option.{option_or}, List.{flat_map}}
use Rattle.sci_core.proofs.Basics.Options.{after_none, found_first}
use Rattle.sci_packets.specs.{declared.{body.Body.{Body}, packet.Packet.{Packet}}, Table.{is_request}}
use Rattle.sci_cache.specs.Cache.{Letter, letter_of}
use Rattle.sci_core.specs.Sharing.{is_about, answer_in}

abbrev pub seek : ℕ → ℕ → List Letter → Option Body
seek n line letters = answer_in (filter (is_about n line) letters)

or_if : (b : Bool) (x : Body) (xs : Option Body) (ys : Option Body) → (if b then option_or xs ys else Some x) ≡ option_or (if b then xs else Some x) ys
or_if true x xs ys = refl
or_if false x xs ys = refl

answer_in_append : (xs ys : List Letter) → answer_in (xs ++ ys) ≡ option_or (answer_in xs) (answer_in ys)
answer_in_append [] ys = refl
answer_in_append (x ∷ xs) ys =
    ap (λ (o : Option Body). if is_request x.body then o else Some x.body) (answer_in_append xs ys)
    ∙ or_if (is_request x.body) x.body (answer_in xs) (answer_in ys)

pub seek_append : (n line : ℕ) (xs ys : List Letter) → seek n line (xs ++ ys) ≡ option_or (seek n line xs) (seek n line ys)
seek_append n line xs ys = ap answer_in (filter-append (is_about n line) xs ys) ∙ answer_in_append (filter (is_about n line) xs) (filter (is_about n line) ys)

one_of : (about asks : Bool) (letter : Letter)
    → answer_in (cond about (letter ∷ []) []) ≡ (if about then (if is_request letter.body then None else Some letter.body) else None)
one_of true asks letter = refl
one_of false asks letter = refl

seek_one : (n line : ℕ) (letter : Letter)
    → seek n line (letter ∷ []) ≡ (if is_about n line letter then (if is_request letter.body then None else Some letter.body) else None)
seek_one n line letter = one_of (is_about n line letter) (is_request letter.body) letter

no_answer : (about asks : Bool) (x : Option Body) → (about && not asks) ≡ false → (if about then (if asks then None else x) else None) ≡ None
no_answer true true x e = refl
no_answer true false x e = cc
no_answer false asks x e = refl

an_answer : (about asks : Bool) (x : Option Body) → (about && not asks) ≡ true → (if about then (if asks then None else x) else None) ≡ x
an_answer true true x e = cc
an_answer true false x e = refl
an_answer false asks x e = cc

pub seek_other : (n line : ℕ) (letter : Letter) → (is_about n line letter && not (is_request letter.body)) ≡ false → seek n line (letter ∷ []) ≡ None
seek_other n line letter e = seek_one n line letter ∙ no_answer (is_about n line letter) (is_request letter.body) (Some letter.body) e

pub seek_this : (n line : ℕ) (letter : Letter) → (is_about n line letter && not (is_request letter.body)) ≡ true → seek n line (letter ∷ []) ≡ Some letter.body
seek_this n line letter e = seek_one n line letter ∙ an_answer (is_about n line letter) (is_request letter.body) (Some letter.body) e

-- the packets so far, and one more
pub seek_more : (n line : ℕ) (packets : List Packet) (i : ℕ) (item : Packet) → item ≡ get_or packets i item → i < length packets
    → seek n line (map letter_of (take i packets)) ≡ None → seek n line (map letter_of (take (i + 1) packets)) ≡ seek n line (letter_of item ∷ [])
seek_more n line packets i item is below none =
    ap (λ (ps : List Packet). seek n line (map letter_of ps)) (take_more packets i item below) ∙
    (ap (seek n line) (map-append letter_of (take i packets) (get_or packets i item ∷ [])) ∙
    (seek_append n line (map letter_of (take i packets)) (letter_of (get_or packets i item) ∷ [])
    ∙ (after_none (seek n line (map letter_of (take i packets))) _ none ∙ ap (λ (p : Packet). seek n line (letter_of p ∷ [])) (sym is))))

-- what is found in a front is found in the whole
pub seek_whole : (n line : ℕ) (packets : List Packet) (i : ℕ) (b : Body) → seek n line (map letter_of (take i packets)) ≡ Some b
    → seek n line (map letter_of packets) ≡ Some b
seek_whole n line packets i b e =
    ap (λ (ps : List Packet). seek n line (map letter_of ps)) (sym (take-append-drop i packets)) ∙
    (ap (seek n line) (map-append letter_of (take i packets) (drop i packets)) ∙
    (seek_append n line (map letter_of (take i packets)) (map letter_of (drop i packets)) ∙ found_first (seek n line (map letter_of (take i packets))) _ b e))

-- ---- packets in parts

pub flat_more : {X : Type 0} (f : X → List Letter) (xs : List X) (i : ℕ) (d : X) → i < length xs
    → flat_map f (take (i + 1) xs) ≡ flat_map f (take i xs) ++ f (get_or xs i d)
flat_more f xs i d below =
    ap (flat_map f) (take_more xs i d below)
    ∙ (flat_map-append f (take i xs) (get_or xs i d ∷ []) ∙ ap (λ (ys : List Letter). flat_map f (take i xs) ++ ys) (append-nil (f (get_or xs i d))))

pub seek_first : (n line : ℕ) (xs ys : List Letter) (b : Body) → seek n line xs ≡ Some b → seek n line (xs ++ ys) ≡ Some b
seek_first n line xs ys b e = seek_append n line xs ys ∙ found_first (seek n line xs) (seek n line ys) b e

pub seek_second : (n line : ℕ) (xs ys : List Letter) → seek n line xs ≡ None → seek n line (xs ++ ys) ≡ seek n line ys
seek_second n line xs ys e = seek_append n line xs ys ∙ after_none (seek n line xs) (seek n line ys) e
