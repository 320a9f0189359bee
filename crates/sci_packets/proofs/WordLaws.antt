-- Packets and their words.
use Rattle.std.proofs.Common.{◌≡◌, ℕ, zero, suc, ◌+◌, ◌*◌, ◌/◌, ◌%◌, ◌^◌, ◌<◌, ◌≤◌, Bool, true, false, cond, ltb, List, [], ◌∷◌, ◌++◌, length, get_or}
use Rattle.std.proofs.Common.{take, drop, Option, Some, None, refl, sym, ap, ◌∙◌, append_assoc, arith, ◌⊎◌, inl, inr}
use Rattle.std.proofs.{Math.Nat.{mod-lt}, lemmas.{Bool.{cases_lt, le-ltb, lt-ltb}, Nat.{be_bytes_8}}}
use Rattle.std.proofs.lemmas.List.{append-nil, drop_all, length-take, length-take-le, take_at, drop_at, take-append-drop, length-drop, get_or-drop}
use Rattle.std.proofs.lemmas.List.{get_or-take, get_or_past, Concat.{flat_map-append}}
use Rattle.std.specs.{Prelude.{IfSome, slice_set}, Option.{is_some}, Int.{byte_at, bytes_high_first}}
use borrow.Rule.Slice.PartMut.{put_mid}
use Rattle.sci_words.specs.declared.stamped.Stamped.{Stamped}
use Rattle.sci_packets.specs.declared.{header.Header.{Header}, packet.Packet.{Packet}}
use Rattle.sci_packets.specs.Fields.{field, field_at, spelled, word_bytes, words_at, contents_words, contents_in, header_in}
use Rattle.sci_packets.specs.Spelling.{IsContents, IsPacket, header_of, spelling, Spells, SpellsInWords, CountsWords, first_word, second_word, words_of}
use Rattle.sci_packets.specs.Table.{carries, command_number, command_of, command_with, parts_of}
use Rattle.sci_packets.proofs.Bodies.{number-above, number_carries}
use Rattle.sci_packets.proofs.Fields.{IsBytes, length-word_bytes, words_takes, words_at-lt, length-words_at, words_cancel}
use Rattle.sci_packets.proofs.{Headers.{IsHeader, header_takes, header_cancel, header_in-fits}, Packets.{header_fits}}

IsBytes-append : (xs ys : List ℕ) → IsBytes xs → IsBytes ys → IsBytes (xs ++ ys)
IsBytes-append [] ys h k i = k i
IsBytes-append (x ∷ xs) ys h k zero = h 0
IsBytes-append (x ∷ xs) ys h k (suc i) = IsBytes-append xs ys (λ j. h (suc j)) k i

byte_at-lt : (n x : ℕ) → byte_at n x < 256
byte_at-lt zero x = omega arith
byte_at-lt (suc n) x = mod-lt (x / 256 ^ suc n) (omega arith)

high_first-fits : (n x : ℕ) → IsBytes (bytes_high_first n x)
high_first-fits zero x i = omega arith
high_first-fits (suc n) x zero = byte_at-lt n x
high_first-fits (suc n) x (suc i) = high_first-fits n x i

pub field-fits : (n x : ℕ) → IsBytes (field n x)
unfolding field
field-fits n x = high_first-fits n x

first_bytes : (t c s k : ℕ) → t < 2 ^ 16 → c < 2 ^ 16 → s < 2 ^ 16 → k < 2 ^ 16
    → field 8 (((t * 2 ^ 16 + c) * 2 ^ 16 + s) * 2 ^ 16 + k) ≡ field 2 t ++ (field 2 c ++ (field 2 s ++ field 2 k))
unfolding field
first_bytes t c s k ht hc hs hk = grind (arith, be_bytes_8, field-fits)

second_bytes : (o i : ℕ) → o < 2 ^ 48 → i < 2 ^ 16 → field 8 (o * 2 ^ 16 + i) ≡ field 6 o ++ field 2 i
unfolding field
second_bytes o i ho hi = grind (arith, be_bytes_8, field-fits)

header_words : (h : Header) (rest : List ℕ) → IsHeader h → field 8 (first_word h) ++ (field 8 (second_word h) ++ rest) ≡ spelled h rest
unfolding spelled
header_words h rest fits = grind (arith, first_bytes, second_bytes, append_assoc)

-- the bytes of a packet's words are its spelling
pub word_bytes-words_of : (p : Packet) → IsPacket p → word_bytes (words_of p) ≡ spelling p
unfolding spelling words_of
word_bytes-words_of p h = header_words (header_of p) (word_bytes (contents_words (parts_of p.body).contents)) (header_fits p h)

pub word_bytes-fits : (words : List ℕ) → IsBytes (word_bytes words)
word_bytes-fits [] i = omega arith
word_bytes-fits (w ∷ words) i = IsBytes-append (field 8 w) (word_bytes words) (field-fits 8 w) (word_bytes-fits words) i

take_fits : (n : ℕ) (words : List ℕ) → ((i : ℕ) → get_or words i 0 < 2 ^ 64) → (i : ℕ) → get_or (take n words) i 0 < 2 ^ 64
take_fits n words h i = grind (arith, cases_lt, get_or-take, get_or_past, length-take)

-- ---- the words of a packet

contents_words-lt : (a : Option Stamped) → IfSome a IsContents → (i : ℕ) → get_or (contents_words a) i 0 < 2 ^ 64
contents_words-lt None h i = omega arith
contents_words-lt (Some stamped) h zero = h.version
contents_words-lt (Some stamped) h (suc i) = h.words i

pub words_of-lt : (p : Packet) → IsPacket p → (i : ℕ) → get_or (words_of p) i 0 < 2 ^ 64
unfolding words_of
words_of-lt p h zero = let f = header_fits p h in omega (arith, f.target, f.command, f.source, f.control)
words_of-lt p h (suc zero) = let f = header_fits p h in omega (arith, f.offset, f.identifier)
words_of-lt p h (suc (suc i)) = contents_words-lt (parts_of p.body).contents h.contents i

length-contents_words : (a : Option Stamped) → IfSome a IsContents → length (contents_words a) ≡ cond (is_some a) 9 0
length-contents_words None h = refl
length-contents_words (Some stamped) h = ap suc h.width

eleven : (b : Bool) → suc (suc (cond b 9 0)) ≡ cond b 11 2
eleven true = refl
eleven false = refl

pub length-words_of : (p : Packet) → IsPacket p → length (words_of p) ≡ cond (is_some (parts_of p.body).contents) 11 2
unfolding words_of
length-words_of p h = ap (λ (n : ℕ). suc (suc n)) (length-contents_words (parts_of p.body).contents h.contents) ∙ eleven (is_some (parts_of p.body).contents)

pub first_word-above : (p : Packet) → 0 < get_or (words_of p) 0 0
unfolding words_of
first_word-above p = omega (arith, number-above (command_of p.body))

at_most : (b : Bool) → cond b 11 2 ≤ 11
at_most true = omega arith
at_most false = omega arith

two_or_eleven : (b : Bool) (n : ℕ) → n ≡ cond b 11 2 → (n ≡ 2) ⊎ (n ≡ 11)
two_or_eleven true n e = inr e
two_or_eleven false n e = inl e

pub count_of : (p : Packet) → IsPacket p → (length (words_of p) ≡ 2) ⊎ (length (words_of p) ≡ 11)
count_of p h = two_or_eleven (is_some (parts_of p.body).contents) (length (words_of p)) (length-words_of p h)

count_of_command : (p : Packet) → IsPacket p → (n : ℕ) → n ≡ command_number (command_of p.body) → cond (carries (command_with n)) 11 2 ≡ length (words_of p)
count_of_command p h n is = grind (arith, number_carries, length-words_of)

-- the count that a packet's first word tells
pub counts_words : (first count : ℕ) → count ≡ cond (carries (command_with (first / 2 ^ 32 % 2 ^ 16))) 11 2 → CountsWords first count
unfolding words_of
counts_words first count told = grind (arith, header_fits, count_of_command)

pub few_words : (p : Packet) → IsPacket p → length (words_of p) ≤ 11
few_words p h = omega (arith, length-words_of p h, at_most (is_some (parts_of p.body).contents))

pub length-spelling_words : (p : Packet) → IsPacket p → length (spelling p) ≡ 8 * length (words_of p)
length-spelling_words p h = ap (λ (b : List ℕ). length b) (sym (word_bytes-words_of p h)) ∙ length-word_bytes (words_of p)

-- ---- what is read from words

word_bytes-split : (k : ℕ) (words : List ℕ) → word_bytes words ≡ word_bytes (take k words) ++ word_bytes (drop k words)
word_bytes-split k words = ap (λ (w : List ℕ). word_bytes w) (sym (take-append-drop k words)) ∙ flat_map-append (field 8) (take k words) (drop k words)

-- the header that two words spell
pub header_read : (words : List ℕ) → ((i : ℕ) → get_or words i 0 < 2 ^ 64) → 2 ≤ length words
    → (let h : Header = record {
      target = get_or words 0 0 / 281474976710656 % 65536;
      command = get_or words 0 0 / 4294967296 % 65536;
      source = get_or words 0 0 / 65536 % 65536;
      control = get_or words 0 0 % 65536;
      offset = get_or words 1 0 / 65536;
      identifier =
          get_or words 1 0 % 65536;
    } in h ≡ header_in (word_bytes words))
header_read [] fits long = absurd (omega arith)
header_read (v ∷ []) fits long = absurd (omega arith)
header_read (v ∷ w ∷ more) fits long =
    let h : Header = record {
      target = v / 281474976710656 % 65536;
      command = v / 4294967296 % 65536;
      source = v / 65536 % 65536;
      control = v % 65536;
      offset = w / 65536;
      identifier = w % 65536;
    } in
    let below : IsHeader h = record {
      target = omega arith;
      command = omega arith;
      source = omega arith;
      control = omega arith;
      offset = omega (arith, fits 1);
      identifier = omega arith;
    } in
    let first : v ≡ first_word h = omega (arith, fits 0) in
    let second : w ≡ second_word h = omega (arith, fits 1) in
    let bytes = word_bytes (v ∷ w ∷ more) in
    let rest = word_bytes more in
    let text : bytes ≡ spelled h rest =
    ap (λ (x : ℕ). field 8 x ++ (field 8 w ++ rest)) first ∙ ap (λ (x : ℕ). field 8 (first_word h) ++ (field 8 x ++ rest)) second
    ∙ header_words h rest below in
    let size : 16 ≤ length bytes = omega (arith, length-word_bytes (v ∷ w ∷ more)) in
    let are : IsBytes bytes = word_bytes-fits (v ∷ w ∷ more) in
    sym (header_cancel (header_in bytes) h (drop 16 bytes) rest (header_in-fits bytes are) below (sym (header_takes bytes are size) ∙ text)).0

-- the nine words behind two
nine_read : (words : List ℕ) → ((i : ℕ) → get_or words i 0 < 2 ^ 64) → 11 ≤ length words → take 9 (drop 2 words) ≡ words_at 16 9 (word_bytes words)
nine_read words fits long =
    let bytes = word_bytes words in
    let nine = take 9 (drop 2 words) in
    let len : length nine ≡ 9 = omega (arith, length-take 9 (drop 2 words), length-drop 2 words) in
    let two : length (word_bytes (take 2 words)) ≡ 16 = omega (arith, length-word_bytes (take 2 words), length-take 2 words) in
    let behind : drop 16 bytes ≡ word_bytes nine ++ word_bytes (drop 9 (drop 2 words)) =
    ap (λ (b : List ℕ). drop 16 b) (word_bytes-split 2 words) ∙ drop_at (word_bytes (take 2 words)) (word_bytes (drop 2 words)) 16 two
    ∙ word_bytes-split 9 (drop 2 words) in
    let are : IsBytes bytes = word_bytes-fits words in
    let read = words_takes 16 9 88 bytes are refl (omega (arith, length-word_bytes words)) in
    let below : (i : ℕ) → get_or nine i 0 < 2 ^ 64 = take_fits 9 (drop 2 words) (λ i. rw get_or-drop (fits (2 + i))) in
    (words_cancel nine (words_at 16 9 bytes) _ _ (len ∙ sym (length-words_at 16 9 bytes)) below (words_at-lt 16 9 bytes are) (sym behind ∙ read)).0

same_contents : (made : ℕ → List ℕ → Stamped) (v w : ℕ) (xs ys : List ℕ) → v ∷ xs ≡ w ∷ ys → made v xs ≡ made w ys
same_contents made v w xs ys e = cc

-- the contents that words spell behind a header
pub contents_read : (words line : List ℕ) → ((i : ℕ) → get_or words i 0 < 2 ^ 64) → 11 ≤ length words → line ≡ take 8 (drop 3 words)
    → (let stamped : Stamped = record { line = line; version = get_or words 2 0 } in stamped ≡ contents_in (word_bytes words))
unfolding contents_in
contents_read [] line fits long e = absurd (omega arith)
contents_read (a ∷ []) line fits long e = absurd (omega arith)
contents_read (a ∷ b ∷ []) line fits long e = absurd (omega arith)
contents_read (a ∷ b ∷ v ∷ more) line fits long e =
    let bytes = word_bytes (a ∷ b ∷ v ∷ more) in
    same_contents (λ version line. record { line = line; version = version }) v (field_at 16 8 bytes) line (words_at 24 8 bytes)
    (ap (λ (l : List ℕ). v ∷ l) e ∙ nine_read (a ∷ b ∷ v ∷ more) fits long)

-- whether there are eleven words
pub short_words : (words : List ℕ) (n : ℕ) → length words < n → ltb (length (word_bytes words)) (8 * n) ≡ true
short_words words n lt = lt-ltb (length (word_bytes words)) (8 * n) (omega (arith, length-word_bytes words))

pub long_words : (words : List ℕ) (n : ℕ) → n ≤ length words → ltb (length (word_bytes words)) (8 * n) ≡ false
long_words words n le = le-ltb (length (word_bytes words)) (8 * n) (omega (arith, length-word_bytes words))

-- ---- the words that are written

-- contents behind two words
pub contents_written : (old line : List ℕ) (version : ℕ) → length old ≡ 11 → length line ≡ 8
    → put_mid 3 8 (slice_set old 2 version) line ≡ take 2 old ++ (version ∷ line)
contents_written [] line version len width = absurd (omega arith)
contents_written (a ∷ []) line version len width = absurd (omega arith)
contents_written (a ∷ b ∷ []) line version len width = absurd (omega arith)
contents_written (a ∷ b ∷ d ∷ more) line version len width =
    let past : drop 8 more ≡ [] = drop_all 8 more (omega arith) in
    rw past (rw (append-nil line) refl)

-- the header over the first two words
pub words_written : (p : Packet) (h : Header) (old mid : List ℕ) (n v w : ℕ) → h ≡ header_of p → length old ≡ 11 → v ≡ first_word h → w ≡ second_word h
    → mid ≡ take 2 old ++ (contents_words (parts_of p.body).contents ++ drop n old) → slice_set (slice_set mid 0 v) 1 w ≡ words_of p ++ drop n old
unfolding words_of
words_written p h [] mid n v w e len first second rest = absurd (omega arith)
words_written p h (a ∷ []) mid n v w e len first second rest = absurd (omega arith)
words_written p h (a ∷ b ∷ more) mid n v w e len first second rest = rw rest (rw (first, second) (rw e refl))

-- ---- a packet that begins the words begins their bytes, and the other way round

pub take-word_bytes : (k : ℕ) (words : List ℕ) → k ≤ length words → take (8 * k) (word_bytes words) ≡ word_bytes (take k words)
take-word_bytes k words le =
    ap (λ (b : List ℕ). take (8 * k) b) (word_bytes-split k words)
    ∙ take_at (word_bytes (take k words)) (word_bytes (drop k words)) (8 * k)
    (length-word_bytes (take k words) ∙ ap (λ (n : ℕ). 8 * n) (length-take-le k words le))

-- a packet that begins the words begins the bytes
pub record Begins (p : Packet) (k : ℕ) (bytes : List ℕ) : Type 0 where
  pub spells : Spells p (take (8 * k) bytes)
  pub within : 8 * k ≤ length bytes

pub begins_bytes : (p : Packet) (k : ℕ) (words : List ℕ) → k ≤ length words → SpellsInWords p (take k words) → Begins p k (word_bytes words)
begins_bytes p k words le h = grind (arith, take-word_bytes, word_bytes-words_of, length-word_bytes)

-- a packet that begins the bytes begins the words
pub record BeginsWords (p : Packet) (k : ℕ) (words : List ℕ) : Type 0 where
  pub spells : SpellsInWords p (take k words)
  pub within : k ≤ length words

pub begins_words : (p : Packet) (len : ℕ) (words : List ℕ) → ((i : ℕ) → get_or words i 0 < 2 ^ 64) → len ≤ length (word_bytes words)
    → Spells p (take len (word_bytes words)) → BeginsWords p (len / 8) words
begins_words p len words fits le h =
    let bytes = word_bytes words in
    let m = length (words_of p) in
    let len-is : len ≡ 8 * m = sym (length-take-le len bytes le) ∙ ap (λ (b : List ℕ). length b) h.spelled_so ∙ length-spelling_words p h.packet in
    let k-is : len / 8 ≡ m = omega arith in
    let few : m ≤ length words = omega (arith, length-word_bytes words) in
    let shown : word_bytes (take m words) ++ word_bytes (drop m words) ≡ word_bytes (words_of p) ++ drop len bytes =
    sym (word_bytes-split m words) ∙ sym (take-append-drop len bytes)
    ∙ ap (λ (b : List ℕ). b ++ drop len bytes) (h.spelled_so ∙ sym (word_bytes-words_of p h.packet)) in
    let same = words_cancel (take m words) (words_of p) _ _ (length-take-le m words few) (take_fits m words fits) (words_of-lt p h.packet) shown in
    record { spells = record { packet = h.packet; spelled_so = ap (λ (k : ℕ). take k words) k-is ∙ same.0 }; within = omega arith }
