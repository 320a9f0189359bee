-- The values that words say, from their numbers.
use Rattle.std.proofs.Common.{◌≡◌, ◌↔◌, ◌<◌, ◌≤◌, ◌^◌, ℕ, List, [], ◌∷◌, map, Option, Some, None, sym, ap, subst, ◌∙◌, arith}
use Rattle.sci_text.specs.Number.{number}
use Rattle.sci_options.specs.declared.argument.Argument.{Argument}
use Rattle.sci_options.specs.declared.argument.Argument.TheVariants as arguments
use Rattle.sci_options.specs.declared.argument.Value.{Value}
use Rattle.sci_options.specs.declared.argument.Value.TheVariants as values
use Rattle.sci_options.specs.Options.{FollowsInOne, FollowsInTwo, Says}

pub place_is_said : (said : Option ℕ) (word : List ℕ) (count p : ℕ) → said ≡ Some p
    → ((n : ℕ) → (said ≡ Some n) ↔ ((word ≡ number n) × (n < count))) → (value : Value)
    → (let one : Option Value = Some (values.Place p) in one ≡ Some value) ↔ Says (arguments.Place count) value word
place_is_said said word count p is says value = (
  λ same. let there = (says p).0 is in let here : value ≡ values.Place p = cc in (p, here, there.0, there.1),
  λ h. let there : said ≡ Some h.0 = (says h.0).1 (h.2, h.3) in let here : value ≡ values.Place h.0 = h.1 in cc,
)

pub number_is_said : (said : Option ℕ) (word : List ℕ) (least greatest p : ℕ) → said ≡ Some p
    → ((n : ℕ) → (said ≡ Some n) ↔ ((word ≡ number n) × (least ≤ n) × (n ≤ greatest))) → (value : Value)
    → (let one : Option Value = Some (values.Number p) in one ≡ Some value) ↔ Says (arguments.Number least greatest) value word
number_is_said said word least greatest p is says value = (
  λ same. let there = (says p).0 is in let here : value ≡ values.Number p = cc in (p, here, there.0, there.1, there.2),
  λ h. let there : said ≡ Some h.0 = (says h.0).1 (h.2, h.3, h.4) in let here : value ≡ values.Number h.0 = h.1 in cc,
)

-- ---- words in front

abbrev value_in : Value → Option (Value × ℕ) → Value
value_in other None = other
value_in other (Some read) = read.0

abbrev count_in : Option (Value × ℕ) → ℕ
count_in None = 0
count_in (Some read) = read.1

abbrev head : List (List ℕ) → List ℕ
head [] = []
head (word ∷ words) = word

abbrev second : List (List ℕ) → List ℕ
second [] = []
second (word ∷ words) = head words

-- what is read is this value, from this count of words
pub just_read : (there value : Value) (n count : ℕ) → value ≡ there → count ≡ n
    → (let one : Option (Value × ℕ) = Some (there, n) in one ≡ Some (value, count))
just_read there value n count is many =
    let first : Some (there, n) ≡ Some (value, n) = ap (λ (v : Value). Some (v, n)) (sym is) in
    first ∙ ap (λ (m : ℕ). Some (value, m)) (sym many)

pub one_read : {X : Type 0} (f : X → List ℕ) (words : List X) (word : X) (rest : List X) (argument : Argument) (said : Option Value) (there : Value)
    → words ≡ word ∷ rest → said ≡ Some there → ((value : Value) → (said ≡ Some value) ↔ Says argument value (f word)) → (value : Value) (count : ℕ)
    → (let one : Option (Value × ℕ) = Some (there, 1) in one ≡ Some (value, count)) ↔ FollowsInOne argument value (map f words) count
one_read f words word rest argument said there are is says value count = (
  λ same.
      let here : there ≡ value = ap (value_in there) same in
      let many : 1 ≡ count = ap count_in same in
      (f word, map f rest, ap (map f) are, subst (λ (v : Value). Says argument v (f word)) here ((says there).0 is), sym many),
  λ h.
      let first : h.0 ≡ f word = ap head (sym h.2 ∙ ap (map f) are) in
      let found : said ≡ Some value = (says value).1 (subst (λ (w : List ℕ). Says argument value w) first h.3) in
      let here : value ≡ there = cc in
      just_read there value 1 count here h.4,
)

pub none_read : {X : Type 0} (f : X → List ℕ) (words : List X) (word : X) (rest : List X) (argument : Argument) (said : Option Value)
    (result : Option (Value × ℕ)) → words ≡ word ∷ rest → said ≡ None → result ≡ None
    → ((value : Value) → (said ≡ Some value) ↔ Says argument value (f word)) → (value : Value) (count : ℕ)
    → (result ≡ Some (value, count)) ↔ FollowsInOne argument value (map f words) count
none_read f words word rest argument said result are is none says value count = grind arith

abbrev first_in : Option (ℕ × ℕ) → ℕ
first_in None = 0
first_in (Some two) = two.0

abbrev last_in : Option (ℕ × ℕ) → ℕ
last_in None = 0
last_in (Some two) = two.1

pub two_read : {X : Type 0} (f : X → List ℕ) (words more rest : List X) (w v : X) (said : Option (ℕ × ℕ)) (a b : ℕ) → words ≡ w ∷ more → more ≡ v ∷ rest
    → said ≡ Some (a, b)
    → ((m n : ℕ) → (said ≡ Some (m, n)) ↔ ((f w ≡ number m) × (f v ≡ number n) × (m ≤ n) × (n < 2 ^ 64))) → (value : Value) (count : ℕ)
    → (let one : Option (Value × ℕ) = Some (values.TwoNumbers a b, 2) in one ≡ Some (value, count)) ↔ FollowsInTwo value (map f words) count
two_read f words more rest w v said a b are are_more is says value count = (
  λ same.
      let here : values.TwoNumbers a b ≡ value = ap (value_in (values.TwoNumbers a b)) same in
      let many : 2 ≡ count = ap count_in same in
      let there = (says a b).0 is in
      let spelled : map f words ≡ number a ∷ number b ∷ map f rest =
      ap (map f) are ∙ ap (λ (ws : List (List ℕ)). f w ∷ ws) (ap (map f) are_more)
      ∙ ap (λ (t : List ℕ). t ∷ f v ∷ map f rest) there.0 ∙ ap (λ (t : List ℕ). number a ∷ t ∷ map f rest) there.1 in
      (a, b, map f rest, sym here, spelled, there.2, there.3, sym many),
  λ h.
      let whole : map f words ≡ f w ∷ f v ∷ map f rest = ap (map f) are ∙ ap (λ (ws : List (List ℕ)). f w ∷ ws) (ap (map f) are_more) in
      let first : f w ≡ number h.0 = ap head (sym whole ∙ h.4) in
      let last : f v ≡ number h.1 = ap second (sym whole ∙ h.4) in
      let found : said ≡ Some (h.0, h.1) = (says h.0 h.1).1 (first, last, h.5, h.6) in
      let both : Some (a, b) ≡ Some (h.0, h.1) = sym is ∙ found in
      let one : a ≡ h.0 = ap first_in both in
      let other : b ≡ h.1 = ap last_in both in
      let there : values.TwoNumbers h.0 h.1 ≡ values.TwoNumbers a b =
      ap (λ (n : ℕ). values.TwoNumbers n h.1) (sym one) ∙ ap (λ (n : ℕ). values.TwoNumbers a n) (sym other) in
      just_read (values.TwoNumbers a b) value 2 count (h.3 ∙ there) h.7,
)
