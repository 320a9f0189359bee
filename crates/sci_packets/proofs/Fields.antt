-- A field that is read is the one that was written, and what was written is read again.
use Rattle.std.proofs.Common.{◌≡◌, ℕ, zero, suc, ◌+◌, ◌-◌, ◌*◌, ◌^◌, ◌<◌, ◌≤◌, List, [], ◌∷◌, ◌++◌, length, get_or, take, drop, refl, sym, ap, ◌∙◌}
use Rattle.std.proofs.{Common.{append_assoc, add-zero, arith, inl, inr}, lemmas.Bool.{cases_lt}}
use Rattle.std.proofs.lemmas.List.{take_at, drop_at, drop_all, drop-take, drop-drop, take-append-drop, length-append, length-take, length-drop}
use Rattle.std.proofs.lemmas.{List.{get_or-drop, get_or-take, get_or_past, append-nil}, Nat.{be_bytes_2, be_bytes_8}}
use Rattle.std.specs.List.{between}
use borrow.Rule.Slice.PartMut.{put_mid}
use Rattle.byteorder.specs.Endian.{big_number}
use Rattle.byteorder.specs.Numbers.{big_from-take, big_from-lt, big_number-reads_back, length-bytes_high_first}
use Rattle.sci_words.specs.declared.stamped.Stamped.{Stamped}
use Rattle.sci_packets.specs.Fields.{field, field_at, word_bytes, words_at, contents_in}

abbrev pub IsBytes : List ℕ → Type 0
IsBytes bytes = (i : ℕ) → get_or bytes i 0 < 256

IsBytes-drop : (n : ℕ) (bytes : List ℕ) → IsBytes bytes → IsBytes (drop n bytes)
IsBytes-drop n bytes h i = rw get_or-drop (h (n + i))

IsBytes-take : (n : ℕ) (bytes : List ℕ) → IsBytes bytes → IsBytes (take n bytes)
IsBytes-take n bytes h i =
    elim (cases_lt i n) [
      | inl lt ↦ rw (get_or-take n bytes i 0 lt) (h i)
      | inr le ↦ rw (get_or_past (take n bytes) i 0 (omega (arith, length-take n bytes))) (omega arith)
    ]

pub IsBytes-between : (i j : ℕ) (bytes : List ℕ) → IsBytes bytes → IsBytes (between i j bytes)
IsBytes-between i j bytes h = IsBytes-take (j - i) (drop i bytes) (IsBytes-drop i bytes h)

-- ---- one field

pub length-field : (n x : ℕ) → length (field n x) ≡ n
unfolding field
length-field n x = length-bytes_high_first n x

pub field_again : (n x : ℕ) (rest : List ℕ) → x < 256 ^ n → big_number n (field n x ++ rest) ≡ x
unfolding field
field_again n x rest h = big_number-reads_back n x rest h

-- two spellings that begin with fields of one width begin with one number
pub field_cancel : (n x y : ℕ) (r s : List ℕ) → x < 256 ^ n → y < 256 ^ n → field n x ++ r ≡ field n y ++ s → (x ≡ y) × (r ≡ s)
field_cancel n x y r s hx hy e = (
  sym (field_again n x r hx) ∙ ap (λ (bytes : List ℕ). big_number n bytes) e ∙ field_again n y s hy,
  sym (drop_at (field n x) r n (length-field n x)) ∙ ap (λ (bytes : List ℕ). drop n bytes) e ∙ drop_at (field n y) s n (length-field n y),
)

-- bytes of a width are the field of their number
abbrev pub IsWidth : ℕ → Type 0
IsWidth n = (bytes : List ℕ) → length bytes ≡ n → IsBytes bytes → field n (big_number n bytes) ≡ bytes

pub two : IsWidth 2
unfolding field
two bytes len fits = be_bytes_2 bytes (big_number 2 bytes) len fits (omega arith)

pub eight : IsWidth 8
unfolding field
eight bytes len fits = be_bytes_8 bytes (big_number 8 bytes) len fits (omega arith)

fits_behind : (bytes : List ℕ) → IsBytes bytes → IsBytes (0 ∷ 0 ∷ bytes)
fits_behind bytes h zero = omega arith
fits_behind bytes h (suc zero) = omega arith
fits_behind bytes h (suc (suc i)) = h i

pub six : IsWidth 6
unfolding field
six bytes len fits =
    let whole = be_bytes_8 (0 ∷ 0 ∷ bytes) (big_number 6 bytes) (ap (λ (n : ℕ). suc (suc n)) len) (fits_behind bytes fits) (omega arith) in
    ap (λ (bytes : List ℕ). drop 2 bytes) whole

-- what stands from place k on begins with the field that is read there
pub field_takes : (k n : ℕ) (bytes : List ℕ) → IsWidth n → IsBytes bytes → k + n ≤ length bytes
    → drop k bytes ≡ field n (field_at k n bytes) ++ drop (k + n) bytes
unfolding field_at
field_takes k n bytes wide fits le =
    let rest = drop k bytes in
    let len : length (take n rest) ≡ n = omega (arith, length-take n rest, length-drop k bytes) in
    let same : field n (big_number n rest) ≡ take n rest =
    ap (λ (x : ℕ). field n x) (sym (big_from-take 0 n n rest (omega arith))) ∙ wide (take n rest) len (IsBytes-take n rest (IsBytes-drop k bytes fits)) in
    rw same (rw (← drop-drop n k bytes) (sym (take-append-drop n rest)))

pub field_at-lt : (k n : ℕ) (bytes : List ℕ) → IsBytes bytes → field_at k n bytes < 256 ^ n
unfolding field_at
field_at-lt k n bytes fits = big_from-lt 0 n (drop k bytes) (IsBytes-drop k bytes fits)

-- ---- words

pub length-word_bytes : (words : List ℕ) → length (word_bytes words) ≡ 8 * length words
length-word_bytes [] = refl
length-word_bytes (w ∷ words) = omega (arith, length-append (field 8 w) (word_bytes words), length-field 8 w, length-word_bytes words)

pub words_takes : (k n e : ℕ) (bytes : List ℕ) → IsBytes bytes → e ≡ k + 8 * n → e ≤ length bytes
    → drop k bytes ≡ word_bytes (words_at k n bytes) ++ drop e bytes
words_takes k zero e bytes fits is le = let same : k ≡ e = omega arith in ap (λ (i : ℕ). drop i bytes) same
words_takes k (suc n) e bytes fits is le =
    let first = field_takes k 8 bytes eight fits (omega arith) in
    let others = words_takes (k + 8) n e bytes fits (omega arith) le in
    first ∙ ap (λ (r : List ℕ). field 8 (field_at k 8 bytes) ++ r) others
    ∙ sym (append_assoc (field 8 (field_at k 8 bytes)) (word_bytes (words_at (k + 8) n bytes)) (drop e bytes))

pub words_at-lt : (k n : ℕ) (bytes : List ℕ) → IsBytes bytes → (i : ℕ) → get_or (words_at k n bytes) i 0 < 2 ^ 64
words_at-lt k zero bytes fits i = omega arith
words_at-lt k (suc n) bytes fits zero = omega (arith, field_at-lt k 8 bytes fits)
words_at-lt k (suc n) bytes fits (suc i) = words_at-lt (k + 8) n bytes fits i

pub length-words_at : (k n : ℕ) (bytes : List ℕ) → length (words_at k n bytes) ≡ n
length-words_at k zero bytes = refl
length-words_at k (suc n) bytes = ap suc (length-words_at (k + 8) n bytes)

-- as many words with one spelling, whatever follows, are the same words
pub words_cancel : (xs ys r s : List ℕ) → length xs ≡ length ys → ((i : ℕ) → get_or xs i 0 < 2 ^ 64) → ((i : ℕ) → get_or ys i 0 < 2 ^ 64)
    → word_bytes xs ++ r ≡ word_bytes ys ++ s → (xs ≡ ys) × (r ≡ s)
words_cancel [] [] r s len hx hy e = (refl, e)
words_cancel [] (y ∷ ys) r s len hx hy e = absurd (omega arith)
words_cancel (x ∷ xs) [] r s len hx hy e = absurd (omega arith)
words_cancel (x ∷ xs) (y ∷ ys) r s len hx hy e =
    let shown = sym (append_assoc (field 8 x) (word_bytes xs) r) ∙ e ∙ append_assoc (field 8 y) (word_bytes ys) s in
    let first = field_cancel 8 x y (word_bytes xs ++ r) (word_bytes ys ++ s) (omega (arith, hx 0)) (omega (arith, hy 0)) shown in
    let others = words_cancel xs ys r s (omega arith) (λ i. hx (suc i)) (λ i. hy (suc i)) first.1 in
    (cc (first.0, others.0), others.1)

-- words that are read one by one
pub words_at_is : (k n : ℕ) (bytes words : List ℕ) → length words ≡ n → ((i : ℕ) → i < n → get_or words i 0 ≡ field_at (k + 8 * i) 8 bytes)
    → words ≡ words_at k n bytes
words_at_is k zero bytes [] len each = refl
words_at_is k zero bytes (w ∷ words) len each = absurd (omega arith)
words_at_is k (suc n) bytes [] len each = absurd (omega arith)
words_at_is k (suc n) bytes (w ∷ words) len each =
    let first : w ≡ field_at k 8 bytes = each 0 (omega arith) ∙ ap (λ (i : ℕ). field_at i 8 bytes) (add-zero k) in
    let others = words_at_is (k + 8) n bytes words (omega arith)
    (λ i lt. each (suc i) (omega arith) ∙ (let p : k + 8 * suc i ≡ k + 8 + 8 * i = omega arith in ap (λ (i : ℕ). field_at i 8 bytes) p)) in
    cc

-- the words that `read_u64_into` gives
pub words_read : (bytes words : List ℕ) → 88 ≤ length bytes → length words ≡ 8
    → ((i : ℕ) → i < length words → get_or words i 0 ≡ big_number 8 (drop (8 * i) (between 24 88 bytes))) → words ≡ words_at 24 8 bytes
unfolding field_at
words_read bytes words long len each =
    words_at_is 24 8 bytes words len (λ i lt.
    let split : 64 ≡ 8 * i + (64 - 8 * i) = omega arith in
    let cut : drop (8 * i) (between 24 88 bytes) ≡ take (64 - 8 * i) (drop (8 * i) (drop 24 bytes)) =
    ap (λ (n : ℕ). drop (8 * i) (take n (drop 24 bytes))) split ∙ drop-take (8 * i) (64 - 8 * i) (drop 24 bytes) in
    each i (omega arith)
    ∙ ap (λ (b : List ℕ). big_number 8 b) cut
    ∙ big_from-take 0 8 (64 - 8 * i) (drop (8 * i) (drop 24 bytes)) (omega arith)
    ∙ ap (λ (b : List ℕ). big_number 8 b) (drop-drop (8 * i) 24 bytes))

-- a number written over place 16 and then words over place 24
pub words_written : (to first second rest words : List ℕ) (v : ℕ) → length to ≡ 88 → first ≡ field 8 v ++ rest → second ≡ word_bytes words → length first ≡ 72
    → length second ≡ 64
    → put_mid 24 64 (put_mid 16 72 to first) second ≡ take 16 to ++ (field 8 v ++ word_bytes words)
words_written to first second rest words v len e f len-first len-second =
    let front = take 16 to ++ field 8 v in
    let len-front : length front ≡ 24 = omega (arith, length-append (take 16 to) (field 8 v), length-take 16 to, length-field 8 v) in
    let past : drop 72 (drop 16 to) ≡ [] = drop_all 72 (drop 16 to) (omega (arith, length-drop 16 to)) in
    let once : put_mid 16 72 to first ≡ front ++ rest =
    rw past (ap (λ (x : List ℕ). take 16 to ++ x) (append-nil first ∙ e) ∙ sym (append_assoc (take 16 to) (field 8 v) rest)) in
    let len-rest : length rest ≡ 64 = omega (arith, length-append (field 8 v) rest, length-field 8 v, ap (λ (x : List ℕ). length x) e) in
    let past2 : drop 64 (drop 24 (front ++ rest)) ≡ [] = rw (drop_at front rest 24 len-front) (drop_all 64 rest (omega arith)) in
    ap (λ (x : List ℕ). put_mid 24 64 x second) once
    ∙ (rw (take_at front rest 24 len-front, past2)
    (ap (λ (x : List ℕ). front ++ x) (append-nil second ∙ f) ∙ append_assoc (take 16 to) (field 8 v) (word_bytes words)))

pub contents_read : (bytes words line : List ℕ) (version : ℕ) → 88 ≤ length bytes → length words ≡ 8
    → ((i : ℕ) → i < length words → get_or words i 0 ≡ big_number 8 (drop (8 * i) (between 24 88 bytes))) → line ≡ words → version ≡ field_at 16 8 bytes
    → (let stamped : Stamped = record { line = line; version = version } in stamped ≡ contents_in bytes)
unfolding contents_in
contents_read bytes words line version long len each e f = grind (arith, words_read)
