-- Two fronts of the same bytes are one, or one of them goes on with the next line of the other, which is right there.
use Rattle.std.proofs.Common.{◌≡◌, ℕ, zero, suc, ◌+◌, ◌<◌, ◌≤◌, ◌^◌, List, [], ◌∷◌, ◌++◌, length, Option, Some, None, refl, sym, ap, subst, ◌∙◌}
use Rattle.std.proofs.{Common.{append_assoc, arith, inl, inr, ◌⊎◌}, lemmas.Bool.{eq-eqb}}
use Rattle.std.proofs.lemmas.List.{append-nil, length-append, Elements.{recursion_from_All, filter-append}}
use Rattle.std.proofs.lemmas.Option.{some_pair_parts}
use Rattle.std.specs.{Prelude.{codes, All}, List.{flat_map, filter, AllByRecursion}}
use Rattle.sci_words.specs.declared.{limits.TheConstants.{MAX_NODES, MAX_LINES}, stamped.Stamped.{Stamped}}
use Rattle.sci_history.specs.{declared.entry.Entry.{Entry}, Placed.{log_of, AreOwn, is_of_node}}
use Rattle.sci_text.specs.declared.{log_form.Form.{Form}, fault.TextFaultKind.{TextFaultKind}}
use Rattle.sci_text.specs.Log.{last_line, last_lines, entry_line, entry_lines}
use Rattle.sci_text.specs.LogValue.{StampedFits, EntryFits, Front, front_of, IsFront, HasAllLines, HasRoom, HasNoExtra, IsForm, entry_count}
use Rattle.sci_text.specs.LogReading.{BeginsLast, last_line_read, entry_line_read}
use Rattle.sci_text.specs.LogFault.{SaysLast, SaysEntry, IsEntryPlace, LogLine, SaysNext, NextFits, HasNoRoomFor, LogLineFault}
use Rattle.sci_text.specs.Reading.{fitting}
use Rattle.sci_text.proofs.FirstFaults.{IsFaultless, SaysOne, no_line_fault}
use Rattle.sci_text.proofs.LogReads.{LastSaid, last_line_again, EntrySaid, EntryReads, entry_line_again}
use Rattle.sci_text.proofs.LogFaults.{fits_reads, entry_not_last}
use Rattle.sci_text.proofs.LogFronts.{GoodLast, last_begins, entry_nonempty, node_below}
use Rattle.sci_text.proofs.LogShort.{last_short, entry_short}
use Rattle.sci_text.proofs.LogUnique.{both_same, same_last, same_log, GoodEntry, all_in, all_lines, good_entries}

-- ---- lists that go on

-- the contents ys are xs with more, and what stands behind the lines of xs begins with the next one's
record NextLast (line : ℕ) (xs ys : List Stamped) (after : List ℕ) : Type 0 where
  stamped : Stamped
  more : List Stamped
  tail : List ℕ
  parts : ys ≡ xs ++ stamped ∷ more
  left : after ≡ last_line (line + length xs) stamped ++ tail
  good : GoodLast stamped

abbrev MeetsLast : ℕ → List Stamped → List Stamped → List ℕ → List ℕ → Type 0
MeetsLast line xs ys r u = ((xs ≡ ys) × (r ≡ u)) ⊎ (NextLast line xs ys r ⊎ NextLast line ys xs u)

next_first : (line : ℕ) (y : Stamped) (ys : List Stamped) (r u : List ℕ) → GoodLast y → r ≡ last_lines line (y ∷ ys) ++ u → NextLast line [] (y ∷ ys) r
next_first line y ys r u good e =
    let here : line ≡ line + 0 = omega arith in
    let tail = last_lines (line + 1) ys ++ u in
    record {
      stamped = y;
      more = ys;
      tail = tail;
      parts = refl;
      left = e ∙ append_assoc (last_line line y) (last_lines (line + 1) ys) u ∙ ap (λ (n : ℕ). last_line n y ++ tail) here;
      good = good;
    }

next_more : (line : ℕ) (x y : Stamped) (xs ys : List Stamped) (r : List ℕ) → x ≡ y → NextLast (line + 1) xs ys r → NextLast line (x ∷ xs) (y ∷ ys) r
next_more line x y xs ys r one next = grind arith

lasts_more : (line : ℕ) (x y : Stamped) (xs ys : List Stamped) (r u : List ℕ) → x ≡ y → MeetsLast (line + 1) xs ys r u → MeetsLast line (x ∷ xs) (y ∷ ys) r u
lasts_more line x y xs ys r u one (inl same) = inl (ap (λ (s : Stamped). s ∷ xs) one ∙ ap (λ (l : List Stamped). y ∷ l) same.0, same.1)
lasts_more line x y xs ys r u one (inr (inl next)) = inr (inl (next_more line x y xs ys r one next))
lasts_more line x y xs ys r u one (inr (inr next)) = inr (inr (next_more line y x ys xs u (sym one) next))

meet_lasts : (line : ℕ) (xs ys : List Stamped) (r u : List ℕ) → AllByRecursion GoodLast xs → AllByRecursion GoodLast ys
    → last_lines line xs ++ r ≡ last_lines line ys ++ u → MeetsLast line xs ys r u
meet_lasts line [] [] r u good other e = inl (refl, e)
meet_lasts line [] (y ∷ ys) r u good other e = inr (inl (next_first line y ys r u other.0 e))
meet_lasts line (x ∷ xs) [] r u good other e = inr (inr (next_first line x xs u r good.0 (sym e)))
meet_lasts line (x ∷ xs) (y ∷ ys) r u good other e =
    let grouped = sym (append_assoc (last_line line x) (last_lines (line + 1) xs) r) ∙ (e ∙ append_assoc (last_line line y) (last_lines (line + 1) ys) u) in
    let one = same_last line x y (last_lines (line + 1) xs ++ r) (last_lines (line + 1) ys ++ u) good.0 other.0 grouped in
    lasts_more line x y xs ys r u one.0 (meet_lasts (line + 1) xs ys r u good.1 other.1 one.1)

-- the one entries are the other's with more of them
record MeetsEntries (long short : List Entry) (after rest : List ℕ) : Type 0 where
  more : List Entry
  parts : long ≡ short ++ more
  left : rest ≡ flat_map entry_line more ++ after

meet_entries : (xs ys : List Entry) (r t : List ℕ) → AllByRecursion GoodEntry xs → AllByRecursion GoodEntry ys
    → flat_map entry_line xs ++ r ≡ flat_map entry_line ys ++ t → MeetsEntries xs ys r t ⊎ MeetsEntries ys xs t r
meet_entries xs [] r t good other e = inl (record { more = xs; parts = refl; left = sym e })
meet_entries [] (y ∷ ys) r t good other e = inr (record { more = y ∷ ys; parts = refl; left = e })
meet_entries (x ∷ xs) (y ∷ ys) r t good other e =
    let a = entry_line_again x (flat_map entry_line xs ++ r) good.0.0 in
    let b = entry_line_again y (flat_map entry_line ys ++ t) other.0.0 in
    let grouped = sym (append_assoc (entry_line x) (flat_map entry_line xs) r) ∙ e ∙ append_assoc (entry_line y) (flat_map entry_line ys) t in
    let parts = some_pair_parts {A = EntrySaid} (fitting x.node, a.0) (fitting y.node, b.0) (flat_map entry_line xs ++ r) (flat_map entry_line ys ++ t)
    (sym a.1 ∙ (ap entry_line_read grouped ∙ b.1)) in
    let first = both_same a.0 b.0 (EntryReads x) (EntryReads y) x y good.0.1 a.2 b.2 (ap (λ (t : EntrySaid). t.1) parts.0) in
    elim (meet_entries xs ys r t good.1 other.1 parts.1) [
      | inl m ↦ inl (record { more = m.more; parts = ap (λ (s : Entry). s ∷ xs) first ∙ ap (λ (l : List Entry). y ∷ l) m.parts; left = m.left })
      | inr m ↦ inr (record { more = m.more; parts = ap (λ (s : Entry). s ∷ ys) (sym first) ∙ ap (λ (l : List Entry). x ∷ l) m.parts; left = m.left })
    ]

-- ---- a line says one thing

last_is : (front : Front) (bytes : List ℕ) (x y : ℕ × Stamped) → SaysLast front bytes x.0 x.1 → StampedFits x.1 → SaysLast front bytes y.0 y.1 → x ≡ y
last_is front bytes x y said fits other =
    let a = last_line_again x.0 x.1 said.says.rest said.eight in
    let b = last_line_again y.0 y.1 other.says.rest other.eight in
    let parts = some_pair_parts {A = LastSaid} (fitting x.0, a.0) (fitting y.0, b.0) said.says.rest other.says.rest
    (sym a.1 ∙ (ap last_line_read (sym said.says.parts ∙ other.says.parts) ∙ b.1)) in
    let same : x.1 ≡ y.1 = both_same a.0 b.0 (StampedFits x.1) (StampedFits y.1) x.1 y.1 fits a.2 b.2 (ap (λ (t : LastSaid). t.1) parts.0) in
    ap (λ (n : ℕ). (n, x.1)) (said.place.next ∙ sym other.place.next) ∙ ap (λ (s : Stamped). (y.0, s)) same

entry_is : (front : Front) (bytes : List ℕ) (entry other : Entry) → SaysEntry front bytes entry → EntryReads entry → SaysEntry front bytes other → entry ≡ other
entry_is front bytes entry other said reads also =
    let a = entry_line_again entry said.says.rest said.answers in
    let b = entry_line_again other also.says.rest also.answers in
    let parts = some_pair_parts {A = EntrySaid} (fitting entry.node, a.0) (fitting other.node, b.0) said.says.rest also.says.rest
    (sym a.1 ∙ (ap entry_line_read (sym said.says.parts ∙ also.says.parts) ∙ b.1)) in
    both_same a.0 b.0 (EntryReads entry) (EntryReads other) entry other reads a.2 b.2 (ap (λ (t : EntrySaid). t.1) parts.0)

not_both : (front : Front) (bytes : List ℕ) (line : ℕ) (stamped : Stamped) (entry : Entry) → SaysLast front bytes line stamped → SaysEntry front bytes entry → ⊥
not_both front bytes line stamped entry last said =
    entry_not_last entry said.says.rest (subst BeginsLast (sym last.says.parts ∙ said.says.parts) (last_begins line stamped last.says.rest))

abbrev of_last : ℕ × Stamped → LogLine
of_last last = inl last

abbrev of_entry : Entry → LogLine
of_entry entry = inr entry

pub one_log_line : (front : Front) (bytes : List ℕ) → IsForm front.form → length front.last ≤ MAX_LINES → SaysOne (SaysNext front bytes) (NextFits front)
one_log_line front bytes good few (inl x) (inl y) says fits other = ap of_last (last_is front bytes x y says fits.1 other)
one_log_line front bytes good few (inl x) (inr y) says fits other = absurd (not_both front bytes x.0 x.1 y says other)
one_log_line front bytes good few (inr x) (inl y) says fits other = absurd (not_both front bytes y.0 y.1 x other says)
one_log_line front bytes good few (inr x) (inr y) says fits other = ap of_entry (entry_is front bytes x y says (fits_reads front x good few fits) other)

-- ---- a right line has no fault

last_is_right : (front : Front) (rest tail : List ℕ) (s : Stamped) (kind : TextFaultKind) → IsForm front.form → GoodLast s → length front.last < MAX_LINES
    → HasRoom front.form.lines (length front.last) → entry_count front.logs ≡ 0
    → rest ≡ last_line (length front.last) s ++ tail → LogLineFault front rest kind → ⊥
last_is_right front rest tail s kind form good few room none is fault =
    let count = length front.last in
    let low : count < 2 ^ 64 = omega arith in
    let says : SaysLast front rest count s =
    record {
      place = record { first = none; next = refl; room = room };
      says = record { rest = tail; parts = is; short = last_short count s low good };
      eight = good.0;
    } in
    no_line_fault (SaysNext front rest) (NextFits front) (HasNoRoomFor front) (one_log_line front rest form (omega arith)) (of_last (count, s)) says (
      few,
      good.1,
    ) (λ full. full) kind fault

entry_is_right : (front : Front) (rest tail : List ℕ) (entry : Entry) (kind : TextFaultKind) → IsForm front.form → length front.last ≤ MAX_LINES
    → GoodEntry entry → EntryFits front.form (length front.last) entry → IsEntryPlace front entry.node
    → length (log_of front.logs entry.node) < front.form.entries
    → rest ≡ entry_line entry ++ tail → LogLineFault front rest kind → ⊥
entry_is_right front rest tail entry kind form few good fits place room is fault =
    let says : SaysEntry front rest entry =
    record { place = place; says = record { rest = tail; parts = is; short = entry_short entry good.1 }; answers = good.0 } in
    no_line_fault (SaysNext front rest) (NextFits front) (HasNoRoomFor front) (one_log_line front rest form few) (of_entry entry) says fits
    (λ full. absurd (omega arith)) kind fault

-- ---- the order of nodes

all_append : (P : Entry → Type 0) (xs ys : List Entry) → AllByRecursion P xs → AllByRecursion P ys → AllByRecursion P (xs ++ ys)
all_append P [] ys a b = b
all_append P (x ∷ xs) ys a b = (a.0, all_append P xs ys a.1 b)

all_front : (P : Entry → Type 0) (xs ys : List Entry) → AllByRecursion P (xs ++ ys) → AllByRecursion P xs
all_front P [] ys h = tt
all_front P (x ∷ xs) ys h = (h.0, all_front P xs ys h.1)

all_back : (P : Entry → Type 0) (xs ys : List Entry) → AllByRecursion P (xs ++ ys) → AllByRecursion P ys
all_back P [] ys h = h
all_back P (x ∷ xs) ys h = all_back P xs ys h.1

all_as : (P Q : Entry → Type 0) → ((e : Entry) → P e → Q e) → (es : List Entry) → AllByRecursion P es → AllByRecursion Q es
all_as P Q f [] h = tt
all_as P Q f (e ∷ es) h = (f e h.0, all_as P Q f es h.1)

abbrev InOrder : List Entry → Type 0
InOrder [] = Unit {0}
InOrder (x ∷ xs) = AllByRecursion (λ y. x.node ≤ y.node) xs × InOrder xs

order_append : (n : ℕ) (xs ys : List Entry) → InOrder xs → InOrder ys → AllByRecursion (λ x. x.node ≤ n) xs → AllByRecursion (λ y. n ≤ y.node) ys
    → InOrder (xs ++ ys)
order_append n [] ys a b low high = b
order_append n (x ∷ xs) ys a b low high =
    let here = low.0 in (
      all_append (λ y. x.node ≤ y.node) xs ys a.0 (all_as (λ y. n ≤ y.node) (λ y. x.node ≤ y.node) (λ y le. omega arith) ys high),
      order_append n xs ys a.1 b low.1 high,
    )

same_order : (n : ℕ) (xs : List Entry) → AllByRecursion (λ x. x.node ≡ n) xs → InOrder xs
same_order n [] h = tt
same_order n (x ∷ xs) h = let here = h.0 in (all_as (λ y. y.node ≡ n) (λ y. x.node ≤ y.node) (λ y e. omega arith) xs h.1, same_order n xs h.1)

own_order : (k : ℕ) (logs : List (List Entry)) → ((node : ℕ) → All (λ e. e.node ≡ k + node) (log_of logs node))
    → InOrder (flat_map same_log logs) × AllByRecursion (λ e. k ≤ e.node) (flat_map same_log logs)
own_order k [] h = (tt, tt)
own_order k (log ∷ logs) h =
    let here : AllByRecursion (λ e. e.node ≡ k) log =
    all_as (λ e. e.node ≡ k + 0) (λ e. e.node ≡ k) (λ e is. omega arith) log (recursion_from_All (λ e. e.node ≡ k + 0) log (h 0)) in
    let rest = own_order (k + 1) logs (λ node i d lt. let is = h (suc node) i d lt in omega arith) in
    let after = all_as (λ e. k + 1 ≤ e.node) (λ e. k ≤ e.node) (λ e le. omega arith) (flat_map same_log logs) rest.1 in (
      order_append k log (flat_map same_log logs) (same_order k log here) rest.0 (all_as (λ e. e.node ≡ k) (λ e. e.node ≤ k) (λ e is. omega arith) log here)
          after,
      all_append (λ e. k ≤ e.node) log (flat_map same_log logs) (all_as (λ e. e.node ≡ k) (λ e. k ≤ e.node) (λ e is. omega arith) log here) after,
    )

before_order : (xs : List Entry) (e : Entry) (more : List Entry) → InOrder (xs ++ e ∷ more) → AllByRecursion (λ x. x.node ≤ e.node) xs
before_order [] e more h = tt
before_order (x ∷ xs) e more h = ((all_back (λ y. x.node ≤ y.node) xs (e ∷ more) h.0).0, before_order xs e more h.1)

all_of_log : (P : Entry → Type 0) (logs : List (List Entry)) (node : ℕ) → AllByRecursion P (flat_map same_log logs) → AllByRecursion P (log_of logs node)
all_of_log P [] node h = tt
all_of_log P (log ∷ logs) zero h = all_front P log (flat_map same_log logs) h
all_of_log P (log ∷ logs) (suc node) h = all_of_log P logs node (all_back P log (flat_map same_log logs) h)

none_of : (n m : ℕ) (log : List Entry) → AllByRecursion (λ x. x.node ≤ n) log → AllByRecursion (λ x. x.node ≡ m) log → n < m → log ≡ []
none_of n m [] low is lt = refl
none_of n m (x ∷ log) low is lt = let a = low.0 in let b = is.0 in absurd (omega arith)

-- ---- logs that go on with an entry

abbrev pub OwnEntries : Type 0
OwnEntries = (logs : List (List Entry)) (node : ℕ) → AreOwn logs → length logs ≡ MAX_NODES → node < MAX_NODES
    → filter (is_of_node node) (flat_map same_log logs) ≡ log_of logs node

place_of : (f : Form) (last : List Stamped) (old logs : List (List Entry)) (e : Entry) (more : List Entry) → HasAllLines f.lines (length last) → AreOwn old
    → AreOwn logs → flat_map same_log logs ≡ flat_map same_log old ++ e ∷ more → IsEntryPlace (front_of f last old) e.node
place_of f last old logs e more whole mine own parts =
    let ordered : InOrder (flat_map same_log logs) = (own_order 0 logs (λ node i d lt. let is = own node i d lt in omega arith)).0 in
    let low = before_order (flat_map same_log old) e more (subst InOrder parts ordered) in
    record {
      whole = whole;
      none_above =
          λ other lt. none_of e.node other (log_of old other) (all_of_log (λ x. x.node ≤ e.node) old other low)
          (recursion_from_All (λ x. x.node ≡ other) (log_of old other) (mine other)) lt;
    }

room_for : OwnEntries → (f : Form) (x y : List Stamped) (old logs : List (List Entry)) (e : Entry) (more : List Entry) → IsFront (front_of f x old)
    → IsFront (front_of f y logs) → e.node < MAX_NODES → flat_map same_log logs ≡ flat_map same_log old ++ e ∷ more → length (log_of old e.node) < f.entries
room_for own f x y old logs e more good other low parts =
    let p = is_of_node e.node in
    let mine = ap length (own old e.node good.own good.sixteen low) in
    let all = ap length (sym (own logs e.node other.own other.sixteen low) ∙ (ap (filter p) parts ∙ filter-append p (flat_map same_log old) (e ∷ more))) in
    let first : filter p (e ∷ more) ≡ e ∷ filter p more = rw (eq-eqb e.node e.node refl) refl in
    let few = other.few_entries e.node in
    omega (arith, mine, all, few, length-append (filter p (flat_map same_log old)) (filter p (e ∷ more)), ap length first)

-- ---- fronts that go on

entry_goes_right : OwnEntries → (f : Form) (last : List Stamped) (old logs : List (List Entry)) (rest tail : List ℕ) (e : Entry) (more : List Entry)
    → IsFront (front_of f last old) → IsFront (front_of f last logs)
    → flat_map same_log logs ≡ flat_map same_log old ++ e ∷ more → rest ≡ flat_map entry_line (e ∷ more) ++ tail
    → IsFaultless LogLineFault (front_of f last old) rest
entry_goes_right own f last old logs rest tail e more good other parts left =
    let fits = (all_back (EntryFits f (length last)) (flat_map same_log old) (e ∷ more)
    (subst (AllByRecursion (EntryFits f (length last))) parts (all_in (EntryFits f (length last)) logs other.entries))).0 in
    let reads = fits_reads (front_of f last logs) e other.form other.few_lines fits in
    let node = fits.numbers.node in
    let few = node_below f good.form in
    let whole = other.last_first (omega (arith, ap length parts, length-append (flat_map same_log old) (e ∷ more))) in
    let is : rest ≡ entry_line e ++ (flat_map entry_line more ++ tail) = left ∙ append_assoc (entry_line e) (flat_map entry_line more) tail in
    record {
      some = omega (arith, ap length is, length-append (entry_line e) (flat_map entry_line more ++ tail), entry_nonempty e);
      right = λ kind fault. entry_is_right (front_of f last old) rest (flat_map entry_line more ++ tail) e kind good.form good.few_lines (fits.answers, reads)
          fits (place_of f last old logs e more whole good.own other.own parts) (room_for own f last last old logs e more good other (omega arith) parts) is
          fault;
    }

none_before : (es : List Entry) (rest tail : List ℕ) (n : ℕ) (s : Stamped) → flat_map entry_line es ++ rest ≡ last_line n s ++ tail → es ≡ []
none_before [] rest tail n s e = refl
none_before (x ∷ es) rest tail n s e =
    absurd (entry_not_last x (flat_map entry_line es ++ rest)
    (subst BeginsLast (sym (sym (append_assoc (entry_line x) (flat_map entry_line es) rest) ∙ e)) (last_begins n s tail)))

room_of : (lines : Option ℕ) (n m : ℕ) → HasNoExtra lines m → n < m → HasRoom lines n
room_of None n m few lt = tt
room_of (Some lines) n m few lt = omega arith

last_goes_right : (f : Form) (x y : List Stamped) (old logs : List (List Entry)) (rest : List ℕ) → IsFront (front_of f y logs)
    → NextLast 0 x y (entry_lines old ++ rest) → IsFaultless LogLineFault (front_of f x old) rest
last_goes_right f x y old logs rest other next =
    let s = next.stamped in
    let front : flat_map entry_line (flat_map same_log old) ++ rest ≡ last_line (0 + length x) s ++ next.tail =
    ap (λ (t : List ℕ). t ++ rest) (sym (all_lines old)) ∙ next.left in
    let none = none_before (flat_map same_log old) rest next.tail (0 + length x) s front in
    let here : 0 + length x ≡ length x = omega arith in
    let is : rest ≡ last_line (length x) s ++ next.tail =
    subst (λ (es : List Entry). flat_map entry_line es ++ rest ≡ last_line (0 + length x) s ++ next.tail) none front
    ∙ ap (λ (n : ℕ). last_line n s ++ next.tail) here in
    let few = other.few_lines in
    let low : length x < length y = omega (arith, ap length next.parts, length-append x (s ∷ next.more)) in
    let begins = last_begins (length x) s next.tail in
    record {
      some = omega (arith, ap length (is ∙ begins.1), length-append (codes "last") begins.0);
      right = λ kind fault. last_is_right (front_of f x old) rest next.tail s kind other.form next.good (omega arith)
          (room_of f.lines (length x) (length y) other.no_extra low) (ap length none) is fault;
    }

-- the same lines, and the same bytes behind them
pub record SameFront (x y : List Stamped) (old logs : List (List Entry)) (r t : List ℕ) : Type 0 where
  pub last : x ≡ y
  pub entries : flat_map same_log old ≡ flat_map same_log logs
  pub rest : r ≡ t

abbrev pub MeetsFront : Form → List Stamped → List Stamped → List (List Entry) → List (List Entry) → List ℕ → List ℕ → Type 0
MeetsFront f x y old logs r t = SameFront x y old logs r t ⊎ (IsFaultless LogLineFault (front_of f x old) r ⊎ IsFaultless LogLineFault (front_of f y logs) t)

longer : OwnEntries → (f : Form) (last : List Stamped) (long short : List (List Entry)) (after rest : List ℕ) (more : List Entry)
    → IsFront (front_of f last long) → IsFront (front_of f last short)
    → flat_map same_log long ≡ flat_map same_log short ++ more → rest ≡ flat_map entry_line more ++ after
    → ((flat_map same_log long ≡ flat_map same_log short) × (after ≡ rest)) ⊎ IsFaultless LogLineFault (front_of f last short) rest
longer own f last long short after rest [] good other parts left = inl (parts ∙ append-nil (flat_map same_log short), sym left)
longer own f last long short after rest (e ∷ more) good other parts left = inr (entry_goes_right own f last short long rest after e more other good parts left)

meet_behind : OwnEntries → (f : Form) (last : List Stamped) (old logs : List (List Entry)) (r t : List ℕ) → IsFront (front_of f last old)
    → IsFront (front_of f last logs) → entry_lines old ++ r ≡ entry_lines logs ++ t → MeetsFront f last last old logs r t
meet_behind own f last old logs r t good other e =
    let lines : flat_map entry_line (flat_map same_log old) ++ r ≡ flat_map entry_line (flat_map same_log logs) ++ t =
    ap (λ (l : List ℕ). l ++ r) (sym (all_lines old)) ∙ e ∙ ap (λ (l : List ℕ). l ++ t) (all_lines logs) in
    elim (meet_entries (flat_map same_log old) (flat_map same_log logs) r t (good_entries f old last good) (good_entries f logs last other) lines) [
      | inl m ↦
          elim (longer own f last old logs r t m.more good other m.parts m.left) [
            | inl same ↦ inl (record { last = refl; entries = same.0; rest = same.1 })
            | inr right ↦ inr (inr right)
          ]
      | inr m ↦
          elim (longer own f last logs old t r m.more other good m.parts m.left) [
            | inl same ↦ inl (record { last = refl; entries = sym same.0; rest = sym same.1 })
            | inr right ↦ inr (inl right)
          ]
    ]

pub meet_fronts : OwnEntries → (f : Form) (x y : List Stamped) (old logs : List (List Entry)) (r t : List ℕ) → IsFront (front_of f x old)
    → IsFront (front_of f y logs) → (last_lines 0 x ++ entry_lines old) ++ r ≡ (last_lines 0 y ++ entry_lines logs) ++ t
    → MeetsFront f x y old logs r t
meet_fronts own f x y old logs r t good other e =
    let grouped = sym (append_assoc (last_lines 0 x) (entry_lines old) r) ∙ e ∙ append_assoc (last_lines 0 y) (entry_lines logs) t in
    elim (meet_lasts 0 x y (entry_lines old ++ r) (entry_lines logs ++ t) (recursion_from_All GoodLast x good.last) (recursion_from_All GoodLast y other.last)
    grouped) [
      | inl same ↦
          subst (λ (l : List Stamped). MeetsFront f x l old logs r t) same.0
          (meet_behind own f x old logs r t good (subst (λ (l : List Stamped). IsFront (front_of f l logs)) (sym same.0) other) same.1)
      | inr next ↦
          elim next [
            | inl n ↦ inr (inl (last_goes_right f x y old logs r other n))
            | inr n ↦ inr (inr (last_goes_right f y x logs old t good n))
          ]
    ]
