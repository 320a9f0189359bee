-- The faults of a log's lines, from what was read of them.
use Rattle.std.proofs.Common.{◌≡◌, ℕ, ◌+◌, ◌^◌, ◌<◌, ◌≤◌, List, [], ◌∷◌, ◌++◌, length, Option, Some, None, refl, sym, ap, subst, ◌∙◌, append_assoc, arith}
use Rattle.std.proofs.Common.{inl, inr, ◌⊎◌}
use Rattle.std.specs.{Prelude.{codes, true, false}, Option.{is_some}}
use denote.Ref.{Bor}
use Rattle.std.proofs.{Math.ListN.{set}, lemmas.{Bool.{cases_lt}, Option.{none-some, some_pair_parts}}}
use Rattle.sci_history.specs.{Placed.{log_of}, declared.entry.Entry.{Entry}}
use Rattle.std.specs.Option.{SomeIff}
use Rattle.sci_words.specs.declared.limits.TheConstants.{MAX_TEXT_LINE_BYTES, MAX_LINES, WORDS_PER_LINE}
use Rattle.sci_words.specs.declared.stamped.Stamped.{Stamped}
use Rattle.sci_text.specs.declared.{log_form.Form.{Form}, fault.TextFaultKind.TheVariants.{Syntax, Range, TooMany}}
use Rattle.sci_text.specs.{FirstFault.{Says}, Number.{number, field}, Operation.{operation}}
use Rattle.sci_text.specs.Log.{log_line, last_line, entry_line, issue_text, outcome_text}
use Rattle.sci_text.specs.LogValue.{IsSize, BeginsLog, Front, HasRoom, StampedFits, Answers, IsForm, HasAllLines, EntryFits, AreNumbersWithin, entry_count}
use Rattle.sci_text.specs.LogFault.{SizeFault, SaysEntry, LogLineFault}
use Rattle.sci_text.specs.LogReading.{BeginsLast, NoLast, AddsLast, AddsEntry, IsLatest, log_line_read, last_line_read, entry_line_read}
use Rattle.sci_text.specs.Reading.{Gives, fitting, after, number_read}
use Rattle.sci_text.proofs.Numbers.{fitting_below, Ends, number_again, ends_field, fitting_some}
use Rattle.sci_text.proofs.{Words.{after_again, after_found}, LineLengths.{line_short, line_long}}
use Rattle.sci_text.proofs.LogReads.{SizeSaid, log_line_again, log_line_found, LastSaid, last_line_again, last_line_found, EntrySaid, EntryReads}
use Rattle.sci_text.proofs.LogReads.{entry_line_again, entry_line_found}

-- ---- the line of the size

said_size : (bytes : List ℕ) (n m : ℕ) (says : Says bytes (log_line n m)) → log_line_read bytes ≡ Some ((fitting n, fitting m), says.rest)
said_size bytes n m says = ap log_line_read says.parts ∙ log_line_again n m says.rest

begins_found : (bytes : List ℕ) (read : Option (List ℕ)) → after (codes "log ") bytes ≡ read → (read ≡ None → ⊥) → BeginsLog bytes
begins_found bytes None e h = absurd (h refl)
begins_found bytes (Some rest) e h = (rest, after_found (codes "log ") bytes rest e)

pub begins_not : (bytes : List ℕ) → after (codes "log ") bytes ≡ None → BeginsLog bytes → ⊥
begins_not bytes e h = none-some h.0 (sym e ∙ (ap (after (codes "log ")) h.1 ∙ after_again (codes "log ") h.0))

pub size_none : (bytes : List ℕ) → (after (codes "log ") bytes ≡ None → ⊥) → log_line_read bytes ≡ None → SizeFault bytes Syntax
size_none bytes begins e = (
  begins_found bytes (after (codes "log ") bytes) refl begins,
  λ size says. none-some ((fitting size.0, fitting size.1), says.rest) (sym e ∙ said_size bytes size.0 size.1 says),
)

pub size_long : (bytes : List ℕ) (sizes : SizeSaid) (rest : List ℕ) → (after (codes "log ") bytes ≡ None → ⊥) → log_line_read bytes ≡ Some (sizes, rest)
    → length rest + MAX_TEXT_LINE_BYTES + 1 < length bytes → SizeFault bytes Syntax
size_long bytes sizes rest begins e long = (
  begins_found bytes (after (codes "log ") bytes) refl begins,
  λ size says.
      let line = log_line size.0 size.1 in
      let same = some_pair_parts (fitting size.0, fitting size.1) sizes says.rest rest (sym (said_size bytes size.0 size.1 says) ∙ e) in
      line_long bytes line rest (says.parts ∙ ap (λ (l : List ℕ). line ++ l) same.1) long says.short,
)

pub size_range : (bytes : List ℕ) (a b : Option ℕ) (rest : List ℕ) → (after (codes "log ") bytes ≡ None → ⊥) → log_line_read bytes ≡ Some ((a, b), rest)
    → length bytes ≤ length rest + MAX_TEXT_LINE_BYTES + 1
    → ((n m : ℕ) → a ≡ Some n → b ≡ Some m → IsSize n m → ⊥) → SizeFault bytes Range
size_range bytes a b rest begins e short outside =
    let f = log_line_found bytes a b rest e in (
      begins_found bytes (after (codes "log ") bytes) refl begins,
      (
        (f.0, f.1),
        record { rest = rest; parts = f.2; short = line_short bytes (log_line f.0 f.1) rest f.2 short },
        λ size. outside f.0 f.1 (f.3 ∙ fitting_below f.0 (omega (arith, size.few_nodes))) (f.4 ∙ fitting_below f.1 (omega (arith, size.few_lines))) size,
      ),
    )

pub size_ok : (bytes : List ℕ) (a b : Option ℕ) (rest : List ℕ) (n m : ℕ) → log_line_read bytes ≡ Some ((a, b), rest) → a ≡ Some n → b ≡ Some m
    → bytes ≡ log_line n m ++ rest
size_ok bytes a b rest n m e an bm = grind (arith, log_line_found, fitting_some)

-- ---- whether a word was found

pub gives_none : (r : Option (Bor (List ℕ))) (read : Option (List ℕ)) → Gives (λ x. x.now) r read → is_some r ≡ false → read ≡ None
gives_none None read h e = h
gives_none (Some x) read h e = absurd cc

pub gives_some : (r : Option (Bor (List ℕ))) (read : Option (List ℕ)) → Gives (λ x. x.now) r read → is_some r ≡ true → read ≡ None → ⊥
gives_some None read h e f = absurd cc
gives_some (Some x) read h e f = none-some x.now (sym f ∙ h)

-- ---- what can't stand there

-- the bytes begin with no entry that can stand next
abbrev pub NoEntry : Front → List ℕ → Type 0
NoEntry front bytes = (entry : Entry) → SaysEntry front bytes entry → ⊥

pub neither : (front : Front) (bytes : List ℕ) → NoLast front bytes → NoEntry front bytes → LogLineFault front bytes Syntax
neither front bytes no_last no_entry = grind arith

-- ---- `last` lines

last_said : (bytes : List ℕ) (l : Option ℕ) (o : Option Stamped) (rest : List ℕ) (line : ℕ) (stamped : Stamped) → last_line_read bytes ≡ Some ((l, o), rest)
    → length stamped.line ≡ WORDS_PER_LINE → (says : Says bytes (last_line line stamped))
    → (l ≡ fitting line) × (says.rest ≡ rest) × SomeIff o (StampedFits stamped) stamped
last_said bytes l o rest line stamped e eight says =
    let again = last_line_again line stamped says.rest eight in
    let same = some_pair_parts {A = LastSaid} (fitting line, again.0) (l, o) says.rest rest (sym again.1 ∙ (sym (ap last_line_read says.parts) ∙ e)) in (
      sym (ap (λ (t : LastSaid). t.0) same.0),
      same.1,
      subst (λ (v : Option Stamped). SomeIff v (StampedFits stamped) stamped) (ap (λ (t : LastSaid). t.1) same.0) again.2,
    )

pub last_none : (front : Front) (bytes : List ℕ) → last_line_read bytes ≡ None → NoLast front bytes
last_none front bytes e = λ line stamped h.
    let again = last_line_again line stamped h.says.rest h.eight in
    none-some ((fitting line, again.0), h.says.rest) (sym e ∙ (ap last_line_read h.says.parts ∙ again.1))

pub last_long : (front : Front) (bytes : List ℕ) (l : Option ℕ) (o : Option Stamped) (rest : List ℕ) → last_line_read bytes ≡ Some ((l, o), rest)
    → length rest + MAX_TEXT_LINE_BYTES + 1 < length bytes → NoLast front bytes
last_long front bytes l o rest e long = λ line stamped h.
    let same = last_said bytes l o rest line stamped e h.eight h.says in
    line_long bytes (last_line line stamped) rest (h.says.parts ∙ ap (λ (t : List ℕ). last_line line stamped ++ t) same.1) long h.says.short

-- another number than the next
pub last_other : (front : Front) (bytes : List ℕ) (l : Option ℕ) (o : Option Stamped) (rest : List ℕ) → last_line_read bytes ≡ Some ((l, o), rest)
    → length front.last < 2 ^ 64 → (l ≡ Some (length front.last) → ⊥) → NoLast front bytes
last_other front bytes l o rest e few other = λ line stamped h.
    let same = last_said bytes l o rest line stamped e h.eight h.says in
    other (same.0 ∙ ap fitting h.place.next ∙ fitting_below (length front.last) few)

pub last_no_room : (front : Front) (bytes : List ℕ) → (HasRoom front.form.lines (length front.last) → ⊥) → NoLast front bytes
last_no_room front bytes none = λ line stamped h. none h.place.room

-- bytes that begin with `last` are no entry
last_is_no_number : (rest : List ℕ) → number_read (codes "last" ++ rest) ≡ None
unfolding number_read
last_is_no_number rest = refl

entry_begins : (entry : Entry) (rest : List ℕ) → (more : List ℕ) × (entry_line entry ++ rest ≡ number entry.node ++ more) × Ends more
unfolding entry_line issue_text
entry_begins entry rest = (
  field entry.serial ++ (codes " " ++ (operation entry.op ++ ((outcome_text entry ++ 10 ∷ []) ++ rest))),
  simp append_assoc,
  ends_field entry.serial (codes " " ++ (operation entry.op ++ ((outcome_text entry ++ 10 ∷ []) ++ rest))),
)

pub last_no_entry : (front : Front) (bytes : List ℕ) → BeginsLast bytes → NoEntry front bytes
last_no_entry front bytes begins = λ entry h.
    let first = entry_begins entry h.says.rest in
    none-some (fitting entry.node, first.0)
    (sym (last_is_no_number begins.0) ∙ ap number_read (sym begins.1 ∙ h.says.parts ∙ first.1) ∙ number_again entry.node first.0 first.2)

pub last_is : (bytes : List ℕ) (l : Option ℕ) (o : Option Stamped) (rest : List ℕ) (count : ℕ) → last_line_read bytes ≡ Some ((l, o), rest) → l ≡ Some count
    → (stamped : Stamped) × (length stamped.line ≡ WORDS_PER_LINE) × (bytes ≡ last_line count stamped ++ rest) × SomeIff o (StampedFits stamped) stamped
last_is bytes l o rest count e is = grind (arith, last_line_found, fitting_some)

-- a `last` line whose numbers are out of range
pub last_range : (front : Front) (bytes : List ℕ) (l : Option ℕ) (o : Option Stamped) (rest : List ℕ) → entry_count front.logs ≡ 0
    → HasRoom front.form.lines (length front.last) → last_line_read bytes ≡ Some ((l, o), rest) → l ≡ Some (length front.last)
    → length bytes ≤ length rest + MAX_TEXT_LINE_BYTES + 1 → ((MAX_LINES ≤ length front.last) ⊎ (o ≡ None)) → LogLineFault front bytes Range
last_range front bytes l o rest none room e is short outside =
    let f = last_is bytes l o rest (length front.last) e is in
    let count = length front.last in (
      inl (count, f.0),
      record {
        place = record { first = none; next = refl; room = room };
        says = record { rest = rest; parts = f.2; short = line_short bytes (last_line count f.0) rest f.2 short };
        eight = f.1;
      },
      λ fits. elim outside [
        | inl many ↦ let low = fits.0 in absurd (omega arith)
        | inr unfit ↦ let no : StampedFits f.0 → ⊥ = subst (λ (v : Option Stamped). SomeIff v (StampedFits f.0) f.0) unfit f.3 in no fits.1
      ],
    )

pub last_ok : (form : Form) (old : List Stamped) (bytes : List ℕ) (l : Option ℕ) (stamped : Stamped) (rest : List ℕ)
    → last_line_read bytes ≡ Some ((l, Some stamped), rest) → l ≡ Some (length old) → length old < MAX_LINES → HasRoom form.lines (length old)
    → AddsLast form old (old ++ stamped ∷ []) bytes rest
last_ok form old bytes l stamped rest e is few room =
    let f = last_is bytes l (Some stamped) rest (length old) e is in
    let same : stamped ≡ f.0 = f.3.1 in
    record {
      stamped = stamped;
      parts = f.2 ∙ ap (λ (s : Stamped). last_line (length old) s ++ rest) (sym same);
      eight = subst (λ (s : Stamped). length s.line ≡ WORDS_PER_LINE) (sym same) f.1;
      fits = subst StampedFits (sym same) f.3.0;
      few = few;
      room = room;
      added = refl;
    }

-- ---- entries

entry_said : (bytes : List ℕ) (l : Option ℕ) (o : Option Entry) (rest : List ℕ) (entry : Entry) → entry_line_read bytes ≡ Some ((l, o), rest)
    → Answers entry.op.act entry.reply → (says : Says bytes (entry_line entry))
    → (l ≡ fitting entry.node) × (says.rest ≡ rest) × SomeIff o (EntryReads entry) entry
entry_said bytes l o rest entry e answers says =
    let again = entry_line_again entry says.rest answers in
    let same = some_pair_parts {A = EntrySaid} (fitting entry.node, again.0) (l, o) says.rest rest
    (sym again.1 ∙ (sym (ap entry_line_read says.parts) ∙ e)) in (
      sym (ap (λ (t : EntrySaid). t.0) same.0),
      same.1,
      subst (λ (v : Option Entry). SomeIff v (EntryReads entry) entry) (ap (λ (t : EntrySaid). t.1) same.0) again.2,
    )

pub entry_none : (front : Front) (bytes : List ℕ) → entry_line_read bytes ≡ None → NoEntry front bytes
entry_none front bytes e = λ entry h.
    let again = entry_line_again entry h.says.rest h.answers in
    none-some ((fitting entry.node, again.0), h.says.rest) (sym e ∙ (ap entry_line_read h.says.parts ∙ again.1))

pub entry_long : (front : Front) (bytes : List ℕ) (l : Option ℕ) (o : Option Entry) (rest : List ℕ) → entry_line_read bytes ≡ Some ((l, o), rest)
    → length rest + MAX_TEXT_LINE_BYTES + 1 < length bytes → NoEntry front bytes
entry_long front bytes l o rest e long = λ entry h.
    let same = entry_said bytes l o rest entry e h.answers h.says in
    line_long bytes (entry_line entry) rest (h.says.parts ∙ ap (λ (t : List ℕ). entry_line entry ++ t) same.1) long h.says.short

-- a node below the latest
pub entry_lower : (front : Front) (bytes : List ℕ) (l : Option ℕ) (o : Option Entry) (rest : List ℕ) (latest : ℕ) → IsLatest front.logs latest
    → entry_line_read bytes ≡ Some ((l, o), rest) → (n : ℕ) × (l ≡ Some n) × (n < latest) → NoEntry front bytes
entry_lower front bytes l o rest latest is e lower = λ entry h.
    let same = entry_said bytes l o rest entry e h.answers h.says in
    let node : entry.node ≡ lower.0 = fitting_some entry.node lower.0 (sym same.0 ∙ lower.1) in
    let low = lower.2 in
    let empty = h.place.none_above latest (omega arith) in
    let some = is.some (omega arith) in
    absurd (omega (arith, ap length empty))

not_lower : (l : Option ℕ) (node latest : ℕ) → l ≡ fitting node → latest < 2 ^ 64 → ((m : ℕ) → l ≡ Some m → latest ≤ m) → latest ≤ node
not_lower l node latest e few above = grind (arith, cases_lt, fitting_below)

-- the line that was read, at its place
says_entry : (front : Front) (bytes : List ℕ) (l : Option ℕ) (o : Option Entry) (rest : List ℕ) (latest : ℕ) → HasAllLines front.form.lines (length front.last)
    → IsLatest front.logs latest → latest < 2 ^ 64
    → entry_line_read bytes ≡ Some ((l, o), rest) → length bytes ≤ length rest + MAX_TEXT_LINE_BYTES + 1 → ((m : ℕ) → l ≡ Some m → latest ≤ m)
    → (entry : Entry) × SaysEntry front bytes entry × SomeIff o (EntryReads entry) entry × (bytes ≡ entry_line entry ++ rest) × (latest ≤ entry.node)
says_entry front bytes l o rest latest whole is few e short above = grind (arith, entry_line_found, not_lower, line_short)

form_small : (form : Form) → IsForm form → (form.nodes ≤ 16) × (form.serials ≤ 65536)
form_small form (inl e) = (rw e (omega arith), rw e (omega arith))
form_small form (inr h) = let few = h.2.few_nodes in (omega arith, rw h.1 (omega arith))

pub fits_reads : (front : Front) (entry : Entry) → IsForm front.form → length front.last ≤ MAX_LINES → EntryFits front.form (length front.last) entry
    → EntryReads entry
fits_reads front entry good few h = grind (arith, form_small)

pub entry_unfit : (front : Front) (bytes : List ℕ) (l : Option ℕ) (o : Option Entry) (rest : List ℕ) (latest : ℕ) → IsForm front.form
    → length front.last ≤ MAX_LINES → HasAllLines front.form.lines (length front.last) → IsLatest front.logs latest → latest < 2 ^ 64
    → entry_line_read bytes ≡ Some ((l, o), rest) → length bytes ≤ length rest + MAX_TEXT_LINE_BYTES + 1 → ((m : ℕ) → l ≡ Some m → latest ≤ m) → o ≡ None
    → LogLineFault front bytes Range
entry_unfit front bytes l o rest latest good few_lines whole is few e short above unfit =
    let s = says_entry front bytes l o rest latest whole is few e short above in
    let no : EntryReads s.0 → ⊥ = subst (λ (v : Option Entry). SomeIff v (EntryReads s.0) s.0) unfit s.2 in
    (inr s.0, s.1, λ fits. no (fits_reads front s.0 good few_lines fits))

-- the entry that was read, at its place
pub record IsSaid (front : Front) (bytes : List ℕ) (entry : Entry) (rest : List ℕ) (latest : ℕ) : Type 0 where
  pub says : SaysEntry front bytes entry
  pub reads : EntryReads entry
  pub parts : bytes ≡ entry_line entry ++ rest
  pub later : latest ≤ entry.node

pub is_said : (front : Front) (bytes : List ℕ) (l : Option ℕ) (o : Option Entry) (entry : Entry) (rest : List ℕ) (latest : ℕ)
    → HasAllLines front.form.lines (length front.last) → IsLatest front.logs latest → latest < 2 ^ 64
    → entry_line_read bytes ≡ Some ((l, o), rest) → o ≡ Some entry → length bytes ≤ length rest + MAX_TEXT_LINE_BYTES + 1
    → ((m : ℕ) → l ≡ Some m → latest ≤ m) → IsSaid front bytes entry rest latest
is_said front bytes l o entry rest latest whole is few e some short above = grind (arith, says_entry)

pub entry_outside : (front : Front) (bytes : List ℕ) (entry : Entry) (rest : List ℕ) (latest : ℕ) → IsSaid front bytes entry rest latest
    → (AreNumbersWithin front.form (length front.last) entry → ⊥) → LogLineFault front bytes Range
entry_outside front bytes entry rest latest said outside = (inr entry, said.says, λ fits. outside fits.numbers)

-- it fits
said_fits : (front : Front) (bytes : List ℕ) (entry : Entry) (rest : List ℕ) (latest : ℕ) → IsSaid front bytes entry rest latest
    → AreNumbersWithin front.form (length front.last) entry → EntryFits front.form (length front.last) entry
said_fits front bytes entry rest latest said within = grind arith

pub entry_too_many : (front : Front) (bytes : List ℕ) (entry : Entry) (rest : List ℕ) (latest : ℕ) → IsSaid front bytes entry rest latest
    → AreNumbersWithin front.form (length front.last) entry → front.form.entries ≤ length (log_of front.logs entry.node) → LogLineFault front bytes TooMany
entry_too_many front bytes entry rest latest said within full = (inr entry, said.says, said_fits front bytes entry rest latest said within, full)

pub entry_ok : (front : Front) (bytes : List ℕ) (entry : Entry) (rest : List ℕ) (latest : ℕ) → IsSaid front bytes entry rest latest
    → AreNumbersWithin front.form (length front.last) entry → length (log_of front.logs entry.node) < front.form.entries → (new : List (List Entry))
    → new ≡ set front.logs entry.node (log_of front.logs entry.node ++ entry ∷ [])
    → AddsEntry front.form (length front.last) front.logs new latest entry.node bytes rest
entry_ok front bytes entry rest latest said within room new added = grind (arith, said_fits)

found_by : (word bytes : List ℕ) (read : Option (List ℕ)) → after word bytes ≡ read → (read ≡ None → ⊥) → (rest : List ℕ) × (bytes ≡ word ++ rest)
found_by word bytes None e h = absurd (h refl)
found_by word bytes (Some rest) e h = (rest, after_found word bytes rest e)

-- the bytes begin with the word that was found
pub gives_front : (word bytes : List ℕ) (r : Option (Bor (List ℕ))) → Gives (λ x. x.now) r (after word bytes) → is_some r ≡ true
    → (rest : List ℕ) × (bytes ≡ word ++ rest)
gives_front word bytes r h e = found_by word bytes (after word bytes) refl (gives_some r (after word bytes) h e)

pub gives_no_front : (word bytes : List ℕ) (r : Option (Bor (List ℕ))) → Gives (λ x. x.now) r (after word bytes) → is_some r ≡ false
    → (rest : List ℕ) × (bytes ≡ word ++ rest) → ⊥
gives_no_front word bytes r h e begins = none-some begins.0 (sym (gives_none r (after word bytes) h e) ∙ ap (after word) begins.1 ∙ after_again word begins.0)

-- bytes that begin with an entry don't begin with `last`
pub entry_not_last : (entry : Entry) (rest : List ℕ) → BeginsLast (entry_line entry ++ rest) → ⊥
entry_not_last entry rest begins =
    let first = entry_begins entry rest in
    none-some (fitting entry.node, first.0)
    (sym (last_is_no_number begins.0) ∙ ap number_read (sym begins.1 ∙ first.1) ∙ number_again entry.node first.0 first.2)
