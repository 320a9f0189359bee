-- The words that operations may write, one after another and line after line.
use Rattle.std.proofs.Common.{◌≡◌, ◌≤◌, ◌<◌, ℕ, zero, suc, ◌+◌, true, false, cond, arith, List, [], ◌∷◌, ◌++◌, map, All, refl, sym, ap, subst, ◌∙◌}
use Rattle.std.proofs.{Common.{append_assoc, add-one}, lemmas.List.{append-nil, Concat.{flat_map-append}}}
use Rattle.std.proofs.lemmas.List.FromFn.{filter_of_map_range_with_len_more, get_or-map-range_with_len, length-map-range_with_len, map-range_with_len_more}
use Rattle.std.proofs.lemmas.List.Elements.{All-append, All-filter}
use Rattle.std.proofs.{Math.Bool.{or-false}, lemmas.List.Folds.{list_any_more}}
use Rattle.std.specs.{Prelude.{filter, length, take, get_or, ◌==◌, ◌&&◌, ◌||◌, Bool}, List.{flat_map, range_with_len}, BTreeSet.{BTreeSet, contains}}
use Rattle.std.specs.Ordering.{is_eq, ordering_then}
use Rattle.std.specs.declared.cmp.Ordering.{Ordering, TheVariants.{Less, Equal, Greater}}
use Rattle.sci_words.specs.{Operation.{is_maker}, declared.{limits.TheConstants.{WORDS_PER_LINE}, operation.Op.{Op}}}
use Rattle.sci_allowed.specs.declared.place.Place.{Place}
use Rattle.sci_allowed.specs.Outcome.{IsPlaceWithin, IsWritten, is_written, may_write, place_cmp, written_on, written_places}

map_same : {A : Type 0} (xs : List A) → map (λ x. x) xs ≡ xs
map_same [] = refl
map_same (x ∷ xs) = ap (λ (ys : List _). x ∷ ys) (map_same xs)

-- ---- words

-- the words of a line from the first on that are written
abbrev pub first_written : List (ℕ × Op) → ℕ → ℕ → List Place
first_written operations line words = filter (is_written operations) (map (λ word. record { line = line; word = word }) (range_with_len 0 words))

pub written_more : (operations : List (ℕ × Op)) (line word : ℕ) (before old : List Place) → old ≡ before ++ first_written operations line word
    → is_written operations (record { line = line; word = word }) ≡ true
    → old ++ (record { line = line; word = word }) ∷ [] ≡ before ++ first_written operations line (word + 1)
written_more operations line word before old so_far is =
    let place = λ (w : ℕ). let p : Place = record { line = line; word = w } in p in
    ap (λ (ps : List Place). ps ++ place word ∷ []) so_far
    ∙ (append_assoc before (first_written operations line word) (place word ∷ []) ∙ ap (λ (ps : List Place). before ++ ps)
    (sym (filter_of_map_range_with_len_more (is_written operations) place 0 word word (omega arith)
    ∙ ap (λ b. first_written operations line word ++ cond b (place word ∷ []) []) is)))

pub written_same : (operations : List (ℕ × Op)) (line word : ℕ) (before old : List Place) → old ≡ before ++ first_written operations line word
    → is_written operations (record { line = line; word = word }) ≡ false → old ≡ before ++ first_written operations line (word + 1)
written_same operations line word before old so_far is =
    let place = λ (w : ℕ). let p : Place = record { line = line; word = w } in p in
    so_far ∙ ap (λ (ps : List Place). before ++ ps)
    (sym (filter_of_map_range_with_len_more (is_written operations) place 0 word word (omega arith)
    ∙ (ap (λ b. first_written operations line word ++ cond b (place word ∷ []) []) is ∙ append-nil (first_written operations line word))))

-- ---- lines

one_line : (operations : List (ℕ × Op)) (line : ℕ) → flat_map (written_on operations) (line ∷ []) ≡ written_on operations line
one_line operations line = append-nil (written_on operations line)

pub places_more : (operations : List (ℕ × Op)) (line : ℕ) (old new : List Place) → old ≡ written_places line operations
    → new ≡ old ++ written_on operations line → new ≡ written_places (line + 1) operations
places_more operations line old new before added =
    let lines : range_with_len 0 (line + 1) ≡ range_with_len 0 line ++ line ∷ [] =
    sym (map_same _) ∙ (map-range_with_len_more (λ n. n) 0 line line (omega arith)
    ∙ ap (λ (ns : List ℕ). ns ++ line ∷ []) (map_same (range_with_len 0 line))) in
    added ∙ (ap (λ (ps : List Place). ps ++ written_on operations line) before
    ∙ sym (ap (flat_map (written_on operations)) lines
    ∙ (flat_map-append (written_on operations) (range_with_len 0 line) (line ∷ [])
    ∙ ap (λ (ps : List Place). written_places line operations ++ ps) (one_line operations line))))

-- the words of a line are within it
word_within : (line lines words : ℕ) → line < lines → words ≤ WORDS_PER_LINE
    → All (IsPlaceWithin lines) (map (λ word. record { line = line; word = word }) (range_with_len 0 words))
word_within line lines words below few = grind (arith, length-map-range_with_len, get_or-map-range_with_len)

line_within : (operations : List (ℕ × Op)) (line lines : ℕ) → line < lines → All (IsPlaceWithin lines) (written_on operations line)
line_within operations line lines below =
    All-filter (is_written operations) (IsPlaceWithin lines) (map (λ word. record { line = line; word = word }) (range_with_len 0 WORDS_PER_LINE))
    (word_within line lines WORDS_PER_LINE below (omega arith))

pub places_within : (operations : List (ℕ × Op)) (line lines : ℕ) (places : List Place) → line ≤ lines → places ≡ written_places line operations
    → All (IsPlaceWithin lines) places
places_within operations zero lines places le are = subst (All (IsPlaceWithin lines)) (sym are) (λ k d lt. absurd (omega (arith, lt)))
places_within operations (suc line) lines places le are =
    let before = places_within operations line lines (written_places line operations) (omega (arith, le)) refl in
    subst (All (IsPlaceWithin lines))
    (sym (are ∙ (ap (λ n. written_places n operations) (sym (add-one line)) ∙ sym (places_more operations line _ _ refl refl))))
    (All-append (IsPlaceWithin lines) _ _ before (line_within operations line lines (omega (arith, le))))

-- ---- the set of written words

eq_then : (a b : Ordering) → is_eq (ordering_then a b) ≡ (is_eq a && is_eq b)
eq_then Less b = refl
eq_then Equal b = refl
eq_then Greater b = refl

same_place : (a b : Place) → is_eq (place_cmp a b) ≡ ((a.line == b.line) && (a.word == b.word))
same_place a b = grind (arith, eq_then)

or_from : (same there : Bool) → cond same true there ≡ (there || same)
or_from true true = refl
or_from true false = refl
or_from false true = refl
or_from false false = refl

module _ (operations : List (ℕ × Op)) (i : ℕ) (d : ℕ × Op) (lt : i < length operations) (old : BTreeSet Place)
    (so_far : IsWritten (take i operations) old) where
  abbrev op : Op
  op = (get_or operations i d).1

  more : (place : Place) → (contains place_cmp old place || may_write place op) ≡ is_written (take (i + 1) operations) place
  more place = ap (λ b. b || may_write place op) (so_far place) ∙ sym (list_any_more (λ p. may_write place p.1) operations i d lt)

  -- the place of one more operation that writes is put into the set
  pub one_put : (new : BTreeSet Place) → is_maker op ≡ true
      → ((place : Place)
      → contains place_cmp new place ≡ cond (is_eq (place_cmp (record { line = op.line; word = op.word }) place)) true (contains place_cmp old place))
      → IsWritten (take (i + 1) operations) new
  one_put new is puts = λ place.
      let own : Place = record { line = op.line; word = op.word } in
      puts place
      ∙ (or_from (is_eq (place_cmp own place)) (contains place_cmp old place)
      ∙ (ap (λ b. contains place_cmp old place || b) (same_place own place)
      ∙ (ap (λ b. contains place_cmp old place || (b && ((op.line == place.line) && (op.word == place.word)))) (sym is) ∙ more place)))

  -- one that doesn't write is passed over
  pub one_passed : is_maker op ≡ false → IsWritten (take (i + 1) operations) old
  one_passed isnt = λ place.
      sym (or-false (contains place_cmp old place))
      ∙ (ap (λ b. contains place_cmp old place || (b && ((op.line == place.line) && (op.word == place.word)))) (sym isnt) ∙ more place)
