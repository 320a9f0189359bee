-- A line of a log that is written is read again, and what is read as one was written so.
use Rattle.std.proofs.Common.{◌≡◌, ℕ, ◌*◌, ◌^◌, ◌<◌, ◌≤◌, zero, suc, List, [], ◌∷◌, ◌++◌, length, Option, Some, None, refl, sym, ap, subst, ◌∙◌, append_assoc}
use Rattle.std.proofs.Common.{arith}
use Rattle.std.proofs.lemmas.{Bool.{cases_lt, lt-ltb, le-ltb}, List.Elements.{All-from_recursion, recursion_from_All}}
use Rattle.std.proofs.lemmas.Option.{some_pair_parts}
use Rattle.std.specs.{Prelude.{codes, option_map}, List.{flat_map, AllByRecursion}, Option.{SomeIff}}
use Rattle.sci_words.specs.declared.{limits.TheConstants.{WORDS_PER_LINE}, operation.LockOp.TheVariants.{MaskSwap}}
use Rattle.sci_words.specs.declared.operation.{Act.{Act, TheVariants.{Load, Store, Lock}}, Op.{Op}, Reply.{Reply}}
use Rattle.sci_words.specs.declared.{operation.Reply.TheVariants.{Stored, Got}, stamped.Stamped.{Stamped}}
use Rattle.sci_history.specs.declared.entry.Entry.{Entry}
use Rattle.sci_text.specs.{declared.operation.Command.{Command}, Number.{number, field}}
use Rattle.sci_text.specs.Operation.{act_word, act_operands, operation}
use Rattle.sci_text.specs.Log.{reply_text, version_text, log_line, last_line, issue_text, outcome_text, entry_line}
use Rattle.sci_text.specs.LogValue.{StampedFits, Answers, ReplyFits}
use Rattle.sci_text.specs.Reading.{◌>>=◌, both, fitting, field_read, number_read, after, byte, command_read, pair_read, operation_read}
use Rattle.sci_text.specs.LogReading.{version_read, pair_and, words_read, stamped_of, last_line_read, reply_read, serial_of, entry_of, issue_read}
use Rattle.sci_text.specs.LogReading.{outcome_read, entry_line_read, log_line_read}
use Rattle.sci_text.proofs.Numbers.{fitting_below, fitting_above, Ends, number_again, number_found, field_again, ends_field, field_found}
use Rattle.sci_text.proofs.Words.{after_again, after_found}
use Rattle.sci_text.proofs.Operations.{fitting_is, mapped, number_as, number_made, both_is, byte_is, bind_some, pair_again, pair_found, command_of}
use Rattle.sci_text.proofs.Operations.{command_again, OpFits, operation_again, operation_found}

-- ---- versions

pub ends_version : (version : ℕ) (rest : List ℕ) → Ends (version_text version ++ rest)
unfolding version_text
ends_version version rest = refl

version_again : (version : ℕ) (rest : List ℕ) → Ends rest → version_read (version_text version ++ rest) ≡ Some (fitting version, rest)
unfolding version_read version_text
version_again version rest ends =
    rw (append_assoc (codes " @") (number version) rest, after_again (codes " @") (number version ++ rest)) (number_again version rest ends)

version_found : (bytes : List ℕ) (value : Option ℕ) (rest : List ℕ) → version_read bytes ≡ Some (value, rest)
    → (n : ℕ) × (bytes ≡ version_text n ++ rest) × (value ≡ fitting n)
unfolding version_read version_text
version_found bytes value rest e =
    let first = bind_some (after (codes " @") bytes) number_read (value, rest) e in
    let n = number_found first.0 value rest first.2 in
    (n.0, after_found (codes " @") bytes first.0 first.1 ∙ ap (λ (l : List ℕ). codes " @" ++ l) n.1 ∙ sym (append_assoc (codes " @") (number n.0) rest), n.2)

-- ---- eight words

abbrev AreWords : List ℕ → Type 0
AreWords words = AllByRecursion (λ word. word < 2 ^ 64) words

joined : (pair : Option (ℕ × ℕ)) (more : Option (List ℕ)) (a b : ℕ) (words : List ℕ) → SomeIff pair ((a < 2 ^ 64) × (b < 2 ^ 64)) (a, b)
    → SomeIff more (AreWords words) words → SomeIff (pair_and pair more) (AreWords (a ∷ b ∷ words)) (a ∷ b ∷ words)
unfolding pair_and
joined None more a b words h k = λ all. h (all.0, all.1.0)
joined (Some pair) None a b words h k = λ all. k all.1.1
joined (Some pair) (Some line) a b words h k = ((h.0.0, (h.0.1, k.0)), cc (h.1, k.1))

pair_is : (a b : ℕ) (words : List ℕ) (more : Option (List ℕ)) → SomeIff more (AreWords words) words
    → SomeIff (pair_and (both (fitting a) (fitting b)) more) (AreWords (a ∷ b ∷ words)) (a ∷ b ∷ words)
pair_is a b words more = joined _ more a b words (both_is (a < 2 ^ 64) (b < 2 ^ 64) (fitting a) (fitting b) a b (fitting_is a) (fitting_is b))

ends_words : (words : List ℕ) (rest : List ℕ) → Ends rest → Ends (flat_map field words ++ rest)
ends_words [] rest ends = ends
ends_words (w ∷ words) rest ends = rw (append_assoc (field w) (flat_map field words) rest) (ends_field w (flat_map field words ++ rest))

two_text : (a b : ℕ) (words rest : List ℕ) → flat_map field (a ∷ b ∷ words) ++ rest ≡ (field a ++ field b) ++ (flat_map field words ++ rest)
two_text a b words rest = simp append_assoc

words_again : (pairs : ℕ) (words rest : List ℕ) → length words ≡ pairs * 2 → Ends rest
    → (o : Option (List ℕ)) × (words_read pairs (flat_map field words ++ rest) ≡ Some (o, rest)) × SomeIff o (AreWords words) words
unfolding words_read
words_again zero [] rest long ends = (Some [], refl, (tt, refl))
words_again zero (a ∷ words) rest long ends = absurd (omega arith)
words_again (suc pairs) [] rest long ends = absurd (omega arith)
words_again (suc pairs) (a ∷ []) rest long ends = absurd (omega arith)
words_again (suc pairs) (a ∷ b ∷ words) rest long ends =
    let more = words_again pairs words rest (omega arith) ends in (
      pair_and (both (fitting a) (fitting b)) more.0,
      rw (two_text a b words rest, pair_again a b (flat_map field words ++ rest) (ends_words words rest ends), more.1) refl,
      pair_is a b words more.0 more.2,
    )

words_found : (pairs : ℕ) (bytes : List ℕ) (o : Option (List ℕ)) (rest : List ℕ) → words_read pairs bytes ≡ Some (o, rest)
    → (words : List ℕ) × (length words ≡ pairs * 2) × (bytes ≡ flat_map field words ++ rest) × SomeIff o (AreWords words) words
unfolding words_read
words_found zero bytes o rest e =
    let parts = some_pair_parts (Some []) o bytes rest e in
    ([], refl, parts.1, subst (λ (v : Option (List ℕ)). SomeIff v (AreWords []) []) parts.0 (tt, refl))
words_found (suc pairs) bytes o rest e =
    let p = bind_some (pair_read bytes) (λ p. words_read pairs p.1 >>= λ r. Some (pair_and p.0 r.0, r.1)) (o, rest) e in
    let r = bind_some (words_read pairs p.0.1) (λ r. Some (pair_and p.0.0 r.0, r.1)) (o, rest) p.2 in
    let parts = some_pair_parts (pair_and p.0.0 r.0.0) o r.0.1 rest r.2 in
    let two = pair_found bytes p.0.0 p.0.1 p.1 in
    let more = words_found pairs p.0.1 r.0.0 r.0.1 r.1 in
    let behind : p.0.1 ≡ flat_map field more.0 ++ rest = more.2 ∙ ap (λ (l : List ℕ). flat_map field more.0 ++ l) parts.1 in
    let said : pair_and (both (fitting two.0) (fitting two.1)) r.0.0 ≡ o = rw (← two.3) parts.0 in (
      two.0 ∷ two.1 ∷ more.0,
      omega (arith, more.1),
      two.2 ∙ ap (λ (l : List ℕ). (field two.0 ++ field two.1) ++ l) behind ∙ sym (two_text two.0 two.1 more.0 rest),
      subst (λ (v : Option (List ℕ)). SomeIff v (AreWords (two.0 ∷ two.1 ∷ more.0)) (two.0 ∷ two.1 ∷ more.0)) said
          (pair_is two.0 two.1 more.0 r.0.0 more.3),
    )

-- ---- `last` lines

with_line : ℕ → List ℕ → Stamped
with_line v l = record { line = l; version = v }

same_parts : (line : List ℕ) (version : ℕ) (s : Stamped) → line ≡ s.line → version ≡ s.version → record { line = line; version = version } ≡ s
unfolding with_line
same_parts line version s e f = ap (with_line version) e ∙ ap (λ (v : ℕ). with_line v s.line) f

stamped_is : (o : Option (List ℕ)) (p : Option ℕ) (stamped : Stamped) → SomeIff o (AreWords stamped.line) stamped.line
    → SomeIff p (stamped.version < 2 ^ 64) stamped.version → SomeIff (stamped_of o p) (StampedFits stamped) stamped
unfolding stamped_of
stamped_is None p stamped h k = λ fits. h (recursion_from_All (λ word. word < 2 ^ 64) stamped.line fits.words)
stamped_is (Some line) None stamped h k = λ fits. k fits.version
stamped_is (Some line) (Some version) stamped h k =
    (record { words = All-from_recursion (λ word. word < 2 ^ 64) stamped.line h.0; version = k.0 }, same_parts line version stamped h.1 k.1)

abbrev pub LastSaid : Type 0
LastSaid = Option ℕ × Option Stamped

pub last_line_again : (line : ℕ) (stamped : Stamped) (rest : List ℕ) → length stamped.line ≡ WORDS_PER_LINE
    → (o : Option Stamped) × (last_line_read (last_line line stamped ++ rest) ≡ Some ((fitting line, o), rest)) × SomeIff o (StampedFits stamped) stamped
unfolding last_line last_line_read
last_line_again line stamped rest long =
    let end = 10 ∷ rest in
    let texts = flat_map field stamped.line ++ end in
    let tail = version_text stamped.version ++ texts in
    let regrouped : (codes "last" ++ (field line ++ (version_text stamped.version ++ (flat_map field stamped.line ++ 10 ∷ [])))) ++ rest ≡ codes "last"
    ++ (field line ++ tail) = simp append_assoc in
    let words = words_again 4 stamped.line end long refl in (
      stamped_of words.0 (fitting stamped.version),
      rw (
        regrouped,
        after_again (codes "last") (field line ++ tail),
        field_again line tail (ends_version stamped.version texts),
        version_again stamped.version texts (ends_words stamped.line end refl),
        words.1,
        after_again (10 ∷ []) rest,
      ) refl,
      stamped_is words.0 (fitting stamped.version) stamped words.2 (fitting_is stamped.version),
    )

pub last_line_found : (bytes : List ℕ) (l : Option ℕ) (o : Option Stamped) (rest : List ℕ) → last_line_read bytes ≡ Some ((l, o), rest)
    → (line : ℕ) × (stamped : Stamped) × (length stamped.line ≡ WORDS_PER_LINE) × (bytes ≡ last_line line stamped ++ rest) × (l ≡ fitting line)
    × SomeIff o (StampedFits stamped) stamped
unfolding last_line last_line_read
last_line_found bytes l o rest e =
    let end : Option ℕ → Option ℕ → Option (List ℕ) → List ℕ → Option (LastSaid × List ℕ) =
    λ x v w t. after (10 ∷ []) t >>= λ r. Some ((x, stamped_of w v), r) in
    let first = bind_some (after (codes "last") bytes) (λ t. field_read t >>= λ x. version_read x.1 >>= λ v. words_read 4 v.1 >>= λ w. end x.0 v.0 w.0 w.1)
    ((l, o), rest) e in
    let x = bind_some (field_read first.0) (λ x. version_read x.1 >>= λ v. words_read 4 v.1 >>= λ w. end x.0 v.0 w.0 w.1) ((l, o), rest) first.2 in
    let v = bind_some (version_read x.0.1) (λ v. words_read 4 v.1 >>= λ w. end x.0.0 v.0 w.0 w.1) ((l, o), rest) x.2 in
    let w = bind_some (words_read 4 v.0.1) (λ w. end x.0.0 v.0.0 w.0 w.1) ((l, o), rest) v.2 in
    let r = bind_some (after (10 ∷ []) w.0.1) (λ r. Some ((x.0.0, stamped_of w.0.0 v.0.0), r)) ((l, o), rest) w.2 in
    let line = field_found first.0 x.0.0 x.0.1 x.1 in
    let version = version_found x.0.1 v.0.0 v.0.1 v.1 in
    let words = words_found 4 v.0.1 w.0.0 w.0.1 w.1 in
    let parts = some_pair_parts {A = LastSaid} (x.0.0, stamped_of w.0.0 v.0.0) (l, o) r.0 rest r.2 in
    let last : w.0.1 ≡ 10 ∷ rest = after_found (10 ∷ []) w.0.1 r.0 r.1 ∙ ap (λ (t : List ℕ). 10 ∷ t) parts.1 in
    let third : v.0.1 ≡ flat_map field words.0 ++ 10 ∷ rest = words.2 ∙ ap (λ (t : List ℕ). flat_map field words.0 ++ t) last in
    let second : x.0.1 ≡ version_text version.0 ++ (flat_map field words.0 ++ 10 ∷ rest) = version.1 ∙ ap (λ (t : List ℕ). version_text version.0 ++ t) third in
    let front : first.0 ≡ field line.0 ++ (version_text version.0 ++ (flat_map field words.0 ++ 10 ∷ rest)) =
    line.1 ∙ ap (λ (t : List ℕ). field line.0 ++ t) second in
    let regrouped : (codes "last" ++ (field line.0 ++ (version_text version.0 ++ (flat_map field words.0 ++ 10 ∷ [])))) ++ rest ≡ codes "last"
    ++ (field line.0 ++ (version_text version.0 ++ (flat_map field words.0 ++ 10 ∷ rest))) = simp append_assoc in
    let stamped : Stamped = record { line = words.0; version = version.0 } in
    let seen : stamped_of w.0.0 (fitting version.0) ≡ o = ap (λ (n : Option ℕ). stamped_of w.0.0 n) (sym version.2) ∙ ap (λ (t : LastSaid). t.1) parts.0 in (
      line.0,
      stamped,
      words.1,
      after_found (codes "last") bytes first.0 first.1 ∙ ap (λ (t : List ℕ). codes "last" ++ t) front ∙ sym regrouped,
      sym (ap (λ (t : LastSaid). t.0) parts.0) ∙ line.2,
      subst (λ (s : Option Stamped). SomeIff s (StampedFits stamped) stamped) seen
          (stamped_is w.0.0 (fitting version.0) stamped words.3 (fitting_is version.0)),
    )

-- ---- replies

got_again : (word : ℕ) (rest : List ℕ) → Ends rest
    → (o : Option Reply) × ((number_read (number word ++ rest) >>= number_as Got) ≡ Some (o, rest)) × SomeIff o (word < 2 ^ 64) (Got word)
got_again word rest ends =
    (option_map Got (fitting word), rw (number_again word rest ends) refl, mapped (word < 2 ^ 64) Got (fitting word) word (fitting_is word))

reply_again : (act : Act) (reply : Reply) (rest : List ℕ) → Answers act reply → Ends rest
    → (o : Option Reply) × (reply_read (command_of act) (reply_text reply ++ rest) ≡ Some (o, rest)) × SomeIff o (ReplyFits reply) reply
unfolding reply_read after
reply_again Load Stored rest h ends = absurd h
reply_again (Store word) Stored rest h ends = (Some Stored, refl, (tt, refl))
reply_again (Store word) (Got other) rest h ends = absurd h
reply_again (Lock lock) Stored rest h ends = absurd h
reply_again (Lock (MaskSwap arg datum)) (Got word) rest h ends = got_again word rest ends
reply_again _ (Got word) rest h ends = got_again word rest ends

-- what bytes begin with as the reply of an operation
abbrev ReplyFound : Act → List ℕ → Option Reply → List ℕ → Type 0
ReplyFound act bytes o rest = (reply : Reply) × (bytes ≡ reply_text reply ++ rest) × SomeIff o (ReplyFits reply) reply × Answers act reply

stored_found : (bytes : List ℕ) (o : Option Reply) (rest : List ℕ) (read : Option (List ℕ)) → after (codes "-") bytes ≡ read
    → ◌≡◌ {A = Option (Option Reply × List ℕ)} (option_map (λ r. (Some Stored, r)) read) (Some (o, rest))
    → (bytes ≡ codes "-" ++ rest) × SomeIff o (Unit {0}) Stored
stored_found bytes o rest None a e = absurd cc
stored_found bytes o rest (Some r) a e =
    let parts = some_pair_parts (Some Stored) o r rest e in (
      after_found (codes "-") bytes r a ∙ ap (λ (l : List ℕ). codes "-" ++ l) parts.1,
      subst (λ (v : Option Reply). SomeIff v (Unit {0}) Stored) parts.0 (tt, refl),
    )

reply_found : (act : Act) (bytes : List ℕ) (o : Option Reply) (rest : List ℕ) → reply_read (command_of act) bytes ≡ Some (o, rest) → ReplyFound act bytes o rest
unfolding reply_read
reply_found (Store word) bytes o rest e = let s = stored_found bytes o rest (after (codes "-") bytes) refl e in (Stored, s.0, s.1, tt)
reply_found (Lock (MaskSwap arg datum)) bytes o rest e = let s = number_made Got number number_read number_found bytes o rest e in (Got s.0, s.1, s.2, tt)
reply_found _ bytes o rest e = let s = number_made Got number number_read number_found bytes o rest e in (Got s.0, s.1, s.2, tt)

-- ---- entries

serial_below : (n : ℕ) → n < 2 ^ 32 → serial_of (Some n) ≡ Some n
unfolding serial_of
serial_below n below = rw (lt-ltb n (2 ^ 32) below) refl

serial_above : (n : ℕ) → 2 ^ 32 ≤ n → serial_of (Some n) ≡ None
unfolding serial_of
serial_above n above = rw (le-ltb n (2 ^ 32) above) refl

serial_none : serial_of None ≡ None
unfolding serial_of
serial_none = refl

serial_is : (n : ℕ) → SomeIff (serial_of (fitting n)) (n < 2 ^ 32) n
serial_is n = grind (arith, cases_lt, fitting_below, serial_below, serial_above, fitting_above, serial_none)

-- each number fits its place in an `Entry`
pub record EntryReads (entry : Entry) : Type 0 where
  pub node : entry.node < 256
  pub serial : entry.serial < 2 ^ 32
  pub op : OpFits entry.op
  pub reply : ReplyFits entry.reply
  pub version : entry.version < 2 ^ 64

entry_with : ℕ → ℕ → Op → Reply → ℕ → Entry
entry_with n s o r v = record { node = n; serial = s; op = o; reply = r; version = v }

same_entry : (n s : ℕ) (o : Op) (r : Reply) (v : ℕ) (e : Entry) → n ≡ e.node → s ≡ e.serial → o ≡ e.op → r ≡ e.reply → v ≡ e.version
    → record { node = n; serial = s; op = o; reply = r; version = v } ≡ e
unfolding entry_with
same_entry n s o r v e a b c d f = grind (arith, entry_with)

entry_is : (n s : Option ℕ) (o : Option Op) (r : Option Reply) (v : Option ℕ) (entry : Entry) → SomeIff (byte n) (entry.node < 256) entry.node
    → SomeIff (serial_of s) (entry.serial < 2 ^ 32) entry.serial
    → SomeIff o (OpFits entry.op) entry.op → SomeIff r (ReplyFits entry.reply) entry.reply → SomeIff v (entry.version < 2 ^ 64) entry.version
    → SomeIff (entry_of n s o r v) (EntryReads entry) entry
unfolding entry_of
entry_is n s o r v entry a b c d e = grind (arith, same_entry)

command_again_of : (op : Op) (rest : List ℕ) → (more : List ℕ) × (command_read (operation op ++ rest) ≡ Some (command_of op.act, more))
unfolding operation
command_again_of op rest =
    let more = field op.line ++ (field op.word ++ (act_operands op.act ++ rest)) in
    let regrouped : (act_word op.act ++ (field op.line ++ (field op.word ++ act_operands op.act))) ++ rest ≡ act_word op.act ++ more = simp append_assoc in
    (more, ap command_read regrouped ∙ command_again op.act more)

-- `n serial OP`
abbrev IssueSaid : Type 0
IssueSaid = Option ℕ × Option ℕ × Command × Option Op

issue_part : (node serial : ℕ) (op : Op) (rest : List ℕ)
    → (number node ++ (field serial ++ (codes " " ++ operation op))) ++ rest ≡ number node ++ (field serial ++ (codes " " ++ (operation op ++ rest)))
issue_part node serial op rest = simp append_assoc

issue_again : (node serial : ℕ) (op : Op) (rest : List ℕ) → Ends rest
    → (o : Option Op) × (issue_read ((number node ++ (field serial ++ (codes " " ++ operation op))) ++ rest) ≡ Some
    ((fitting node, fitting serial, command_of op.act, o), rest)) × SomeIff o (OpFits op) op
unfolding issue_read
issue_again node serial op rest ends =
    let ops = operation op ++ rest in
    let gap = codes " " ++ ops in
    let command = command_again_of op rest in
    let again = operation_again op rest ends in (
      again.0,
      rw (
        issue_part node serial op rest,
        number_again node (field serial ++ gap) (ends_field serial gap),
        field_again serial gap refl,
        after_again (codes " ") ops,
        command.1,
        again.1,
      ) refl,
      again.2,
    )

issue_found : (bytes : List ℕ) (a b : Option ℕ) (k : Command) (o : Option Op) (rest : List ℕ) → issue_read bytes ≡ Some ((a, b, k, o), rest)
    → (node : ℕ) × (serial : ℕ) × (op : Op) × (bytes ≡ (number node ++ (field serial ++ (codes " " ++ operation op))) ++ rest) × (a ≡ fitting node)
    × (b ≡ fitting serial) × (command_of op.act ≡ k) × SomeIff o (OpFits op) op
unfolding issue_read
issue_found bytes a b k o rest e =
    let n = bind_some (number_read bytes)
    (λ n. field_read n.1 >>= λ s. after (codes " ") s.1 >>= λ g. command_read g >>= λ c. operation_read g >>= λ p. Some ((n.0, s.0, c.0, p.0), p.1))
    ((a, b, k, o), rest) e in
    let s = bind_some (field_read n.0.1)
    (λ s. after (codes " ") s.1 >>= λ g. command_read g >>= λ c. operation_read g >>= λ p. Some ((n.0.0, s.0, c.0, p.0), p.1)) ((a, b, k, o), rest) n.2 in
    let g = bind_some (after (codes " ") s.0.1) (λ g. command_read g >>= λ c. operation_read g >>= λ p. Some ((n.0.0, s.0.0, c.0, p.0), p.1)) (
      (a, b, k, o),
      rest,
    ) s.2 in
    let c = bind_some (command_read g.0) (λ c. operation_read g.0 >>= λ p. Some ((n.0.0, s.0.0, c.0, p.0), p.1)) ((a, b, k, o), rest) g.2 in
    let p = bind_some (operation_read g.0) (λ p. Some ((n.0.0, s.0.0, c.0.0, p.0), p.1)) ((a, b, k, o), rest) c.2 in
    issue_parts bytes a b k o rest n.0.0 n.0.1 n.1 s.0.0 s.0.1 s.1 g.0 g.1 c.0.0 c.0.1 c.1 p.0.0 p.0.1 p.1
    (some_pair_parts {A = IssueSaid} (n.0.0, s.0.0, c.0.0, p.0.0) (a, b, k, o) p.0.1 rest p.2)
  where
    issue_parts : (bytes : List ℕ) (a b : Option ℕ) (k : Command) (o : Option Op) (rest : List ℕ) (n : Option ℕ) (after_n : List ℕ)
        → number_read bytes ≡ Some (n, after_n) → (s : Option ℕ) (after_s : List ℕ) → field_read after_n ≡ Some (s, after_s)
        → (gap : List ℕ) → after (codes " ") after_s ≡ Some gap → (c : Command) (after_c : List ℕ) → command_read gap ≡ Some (c, after_c)
        → (p : Option Op) (after_p : List ℕ) → operation_read gap ≡ Some (p, after_p)
        → (◌≡◌ {A = IssueSaid} (n, s, c, p) (a, b, k, o)) × (after_p ≡ rest)
        → (node : ℕ) × (serial : ℕ) × (op : Op) × (bytes ≡ (number node ++ (field serial ++ (codes " " ++ operation op))) ++ rest) × (a ≡ fitting node)
        × (b ≡ fitting serial) × (command_of op.act ≡ k) × SomeIff o (OpFits op) op
    issue_parts bytes a b k o rest n after_n en s after_s es gap eg c after_c ec p after_p ep same =
        let node = number_found bytes n after_n en in
        let serial = field_found after_n s after_s es in
        let op = operation_found gap p after_p ep in
        let again = command_again_of op.0 after_p in
        let command = some_pair_parts (command_of op.0.act) c again.0 after_c (sym again.1 ∙ (sym (ap command_read op.1) ∙ ec)) in
        let d : gap ≡ operation op.0 ++ rest = op.1 ∙ ap (λ (x : List ℕ). operation op.0 ++ x) same.1 in
        let f : after_s ≡ codes " " ++ (operation op.0 ++ rest) = after_found (codes " ") after_s gap eg ∙ ap (λ (x : List ℕ). codes " " ++ x) d in
        let g : after_n ≡ field serial.0 ++ (codes " " ++ (operation op.0 ++ rest)) = serial.1 ∙ ap (λ (x : List ℕ). field serial.0 ++ x) f in (
          node.0,
          serial.0,
          op.0,
          node.1 ∙ ap (λ (x : List ℕ). number node.0 ++ x) g ∙ sym (issue_part node.0 serial.0 op.0 rest),
          sym (ap (λ (x : IssueSaid). x.0) same.0) ∙ node.2,
          sym (ap (λ (x : IssueSaid). x.1) same.0) ∙ serial.2,
          command.0 ∙ ap (λ (x : IssueSaid). x.2) same.0,
          subst (λ (x : Option Op). SomeIff x (OpFits op.0) op.0) (ap (λ (x : IssueSaid). x.3) same.0) op.2,
        )

-- ` = REPLY @V`
abbrev OutcomeSaid : Type 0
OutcomeSaid = Option Reply × Option ℕ

outcome_part : (reply : Reply) (version : ℕ) (rest : List ℕ)
    → (codes " = " ++ (reply_text reply ++ version_text version)) ++ rest ≡ codes " = " ++ (reply_text reply ++ (version_text version ++ rest))
outcome_part reply version rest = simp append_assoc

outcome_again : (act : Act) (reply : Reply) (version : ℕ) (rest : List ℕ) → Answers act reply → Ends rest
    → (o : Option Reply) × (outcome_read (command_of act) ((codes " = " ++ (reply_text reply ++ version_text version)) ++ rest) ≡ Some (
      (o, fitting version),
      rest,
    )) × SomeIff o (ReplyFits reply) reply
unfolding outcome_read
outcome_again act reply version rest answers ends =
    let versions = version_text version ++ rest in
    let again = reply_again act reply versions answers (ends_version version rest) in (
      again.0,
      rw (outcome_part reply version rest, after_again (codes " = ") (reply_text reply ++ versions), again.1, version_again version rest ends) refl,
      again.2,
    )

outcome_found : (act : Act) (bytes : List ℕ) (o : Option Reply) (v : Option ℕ) (rest : List ℕ) → outcome_read (command_of act) bytes ≡ Some ((o, v), rest)
    → (reply : Reply) × (version : ℕ) × (bytes ≡ (codes " = " ++ (reply_text reply ++ version_text version)) ++ rest) × SomeIff o (ReplyFits reply) reply
    × Answers act reply × (v ≡ fitting version)
unfolding outcome_read
outcome_found act bytes o v rest e =
    let t = bind_some (after (codes " = ") bytes) (λ t. reply_read (command_of act) t >>= λ r. version_read r.1 >>= λ w. Some ((r.0, w.0), w.1)) ((o, v), rest)
    e in
    let r = bind_some (reply_read (command_of act) t.0) (λ r. version_read r.1 >>= λ w. Some ((r.0, w.0), w.1)) ((o, v), rest) t.2 in
    let w = bind_some (version_read r.0.1) (λ w. Some ((r.0.0, w.0), w.1)) ((o, v), rest) r.2 in
    let parts = some_pair_parts {A = OutcomeSaid} (r.0.0, w.0.0) (o, v) w.0.1 rest w.2 in
    let reply = reply_found act t.0 r.0.0 r.0.1 r.1 in
    let version = version_found r.0.1 w.0.0 w.0.1 w.1 in
    let b : r.0.1 ≡ version_text version.0 ++ rest = version.1 ∙ ap (λ (x : List ℕ). version_text version.0 ++ x) parts.1 in
    let c : t.0 ≡ reply_text reply.0 ++ (version_text version.0 ++ rest) = reply.1 ∙ ap (λ (x : List ℕ). reply_text reply.0 ++ x) b in (
      reply.0,
      version.0,
      after_found (codes " = ") bytes t.0 t.1 ∙ ap (λ (x : List ℕ). codes " = " ++ x) c ∙ sym (outcome_part reply.0 version.0 rest),
      subst (λ (x : Option Reply). SomeIff x (ReplyFits reply.0) reply.0) (ap (λ (x : OutcomeSaid). x.0) parts.0) reply.2,
      reply.3,
      sym (ap (λ (x : OutcomeSaid). x.1) parts.0) ∙ version.2,
    )

abbrev pub EntrySaid : Type 0
EntrySaid = Option ℕ × Option Entry

entry_text : (entry : Entry) (rest : List ℕ) → entry_line entry ++ rest
    ≡ (number entry.node ++ (field entry.serial ++ (codes " " ++ operation entry.op)))
    ++ ((codes " = " ++ (reply_text entry.reply ++ version_text entry.version)) ++ 10 ∷ rest)
unfolding entry_line issue_text outcome_text
entry_text entry rest = simp append_assoc

pub entry_line_again : (entry : Entry) (rest : List ℕ) → Answers entry.op.act entry.reply
    → (o : Option Entry) × (entry_line_read (entry_line entry ++ rest) ≡ Some ((fitting entry.node, o), rest)) × SomeIff o (EntryReads entry) entry
unfolding entry_line_read
entry_line_again entry rest answers =
    let tail = (codes " = " ++ (reply_text entry.reply ++ version_text entry.version)) ++ 10 ∷ rest in
    let issue = issue_again entry.node entry.serial entry.op tail refl in
    let outcome = outcome_again entry.op.act entry.reply entry.version (10 ∷ rest) answers refl in (
      entry_of (fitting entry.node) (fitting entry.serial) issue.0 outcome.0 (fitting entry.version),
      rw (entry_text entry rest, issue.1, outcome.1, after_again (10 ∷ []) rest) refl,
      entry_is (fitting entry.node) (fitting entry.serial) issue.0 outcome.0 (fitting entry.version) entry (byte_is entry.node) (serial_is entry.serial) issue.2
          outcome.2 (fitting_is entry.version),
    )

pub entry_line_found : (bytes : List ℕ) (l : Option ℕ) (o : Option Entry) (rest : List ℕ) → entry_line_read bytes ≡ Some ((l, o), rest)
    → (entry : Entry) × Answers entry.op.act entry.reply × (bytes ≡ entry_line entry ++ rest) × (l ≡ fitting entry.node) × SomeIff o (EntryReads entry) entry
unfolding entry_line_read
entry_line_found bytes l o rest e =
    let i = bind_some (issue_read bytes)
    (λ i. outcome_read i.0.2 i.1 >>= λ u. after (10 ∷ []) u.1 >>= λ r. Some ((i.0.0, entry_of i.0.0 i.0.1 i.0.3 u.0.0 u.0.1), r)) ((l, o), rest) e in
    let u = bind_some (outcome_read i.0.0.2 i.0.1) (λ u. after (10 ∷ []) u.1 >>= λ r. Some ((i.0.0.0, entry_of i.0.0.0 i.0.0.1 i.0.0.3 u.0.0 u.0.1), r))
    ((l, o), rest) i.2 in
    let r = bind_some (after (10 ∷ []) u.0.1) (λ r. Some ((i.0.0.0, entry_of i.0.0.0 i.0.0.1 i.0.0.3 u.0.0.0 u.0.0.1), r)) ((l, o), rest) u.2 in
    entry_parts bytes l o rest i.0.0.0 i.0.0.1 i.0.0.2 i.0.0.3 i.0.1 i.1 u.0.0.0 u.0.0.1 u.0.1 u.1 r.0 r.1
    (some_pair_parts {A = EntrySaid} (i.0.0.0, entry_of i.0.0.0 i.0.0.1 i.0.0.3 u.0.0.0 u.0.0.1) (l, o) r.0 rest r.2)
  where
    entry_parts : (bytes : List ℕ) (l : Option ℕ) (o : Option Entry) (rest : List ℕ) (n s : Option ℕ) (k : Command) (p : Option Op) (after_p : List ℕ)
        → issue_read bytes ≡ Some ((n, s, k, p), after_p)
        → (q : Option Reply) (v : Option ℕ) (after_v : List ℕ) → outcome_read k after_p ≡ Some ((q, v), after_v) → (end : List ℕ)
        → after (10 ∷ []) after_v ≡ Some end
        → (◌≡◌ {A = EntrySaid} (n, entry_of n s p q v) (l, o)) × (end ≡ rest)
        → (entry : Entry) × Answers entry.op.act entry.reply × (bytes ≡ entry_line entry ++ rest) × (l ≡ fitting entry.node)
        × SomeIff o (EntryReads entry) entry
    entry_parts bytes l o rest n s k p after_p ei q v after_v eo end ee same =
        let issue = issue_found bytes n s k p after_p ei in
        let outcome = outcome_found issue.2.act after_p q v after_v (ap (λ (c : Command). outcome_read c after_p) issue.6 ∙ eo) in
        let entry : Entry = record { node = issue.0; serial = issue.1; op = issue.2; reply = outcome.0; version = outcome.1 } in
        let a : after_v ≡ 10 ∷ rest = after_found (10 ∷ []) after_v end ee ∙ ap (λ (x : List ℕ). 10 ∷ x) same.1 in
        let b : after_p ≡ (codes " = " ++ (reply_text entry.reply ++ version_text entry.version)) ++ 10 ∷ rest =
        outcome.2 ∙ ap (λ (x : List ℕ). (codes " = " ++ (reply_text entry.reply ++ version_text entry.version)) ++ x) a in
        let seen : entry_of (fitting issue.0) (fitting issue.1) p q (fitting outcome.1) ≡ o =
        rw (← issue.4, ← issue.5, ← outcome.5) (ap (λ (x : EntrySaid). x.1) same.0) in (
          entry,
          outcome.4,
          issue.3 ∙ ap (λ (x : List ℕ). (number entry.node ++ (field entry.serial ++ (codes " " ++ operation entry.op))) ++ x) b ∙ sym (entry_text entry rest),
          sym (ap (λ (x : EntrySaid). x.0) same.0) ∙ issue.4,
          subst (λ (x : Option Entry). SomeIff x (EntryReads entry) entry) seen
              (entry_is (fitting issue.0) (fitting issue.1) p q (fitting outcome.1) entry (byte_is issue.0) (serial_is issue.1) issue.7 outcome.3
              (fitting_is outcome.1)),
        )

-- ---- the line of the size

abbrev pub SizeSaid : Type 0
SizeSaid = Option ℕ × Option ℕ

pub log_line_again : (nodes lines : ℕ) (rest : List ℕ) → log_line_read (log_line nodes lines ++ rest) ≡ Some ((fitting nodes, fitting lines), rest)
unfolding log_line log_line_read
log_line_again nodes lines rest =
    let regrouped : (codes "log 2" ++ (field nodes ++ (field lines ++ 10 ∷ []))) ++ rest ≡ codes "log 2" ++ (field nodes ++ (field lines ++ 10 ∷ rest)) =
    simp append_assoc in
    rw (
      regrouped,
      after_again (codes "log 2") (field nodes ++ (field lines ++ 10 ∷ rest)),
      field_again nodes (field lines ++ 10 ∷ rest) (ends_field lines (10 ∷ rest)),
      field_again lines (10 ∷ rest) refl,
      after_again (10 ∷ []) rest,
    ) refl

pub log_line_found : (bytes : List ℕ) (a b : Option ℕ) (rest : List ℕ) → log_line_read bytes ≡ Some ((a, b), rest)
    → (nodes : ℕ) × (lines : ℕ) × (bytes ≡ log_line nodes lines ++ rest) × (a ≡ fitting nodes) × (b ≡ fitting lines)
unfolding log_line log_line_read
log_line_found bytes a b rest e =
    let end : Option ℕ → Option ℕ → List ℕ → Option (SizeSaid × List ℕ) = λ x y l. after (10 ∷ []) l >>= λ r. Some ((x, y), r) in
    let first = bind_some (after (codes "log 2") bytes) (λ l. field_read l >>= λ x. field_read x.1 >>= λ y. end x.0 y.0 y.1) ((a, b), rest) e in
    let x = bind_some (field_read first.0) (λ x. field_read x.1 >>= λ y. end x.0 y.0 y.1) ((a, b), rest) first.2 in
    let y = bind_some (field_read x.0.1) (λ y. end x.0.0 y.0 y.1) ((a, b), rest) x.2 in
    let r = bind_some (after (10 ∷ []) y.0.1) (λ r. Some ((x.0.0, y.0.0), r)) ((a, b), rest) y.2 in
    let n = field_found first.0 x.0.0 x.0.1 x.1 in
    let m = field_found x.0.1 y.0.0 y.0.1 y.1 in
    let parts = some_pair_parts {A = SizeSaid} (x.0.0, y.0.0) (a, b) r.0 rest r.2 in
    let last : y.0.1 ≡ 10 ∷ rest = after_found (10 ∷ []) y.0.1 r.0 r.1 ∙ ap (λ (l : List ℕ). 10 ∷ l) parts.1 in
    let lines : x.0.1 ≡ field m.0 ++ 10 ∷ rest = m.1 ∙ ap (λ (l : List ℕ). field m.0 ++ l) last in
    let nodes : first.0 ≡ field n.0 ++ (field m.0 ++ 10 ∷ rest) = n.1 ∙ ap (λ (l : List ℕ). field n.0 ++ l) lines in
    let regrouped : (codes "log 2" ++ (field n.0 ++ (field m.0 ++ 10 ∷ []))) ++ rest ≡ codes "log 2" ++ (field n.0 ++ (field m.0 ++ 10 ∷ rest)) =
    simp append_assoc in (
      n.0,
      m.0,
      after_found (codes "log 2") bytes first.0 first.1 ∙ ap (λ (l : List ℕ). codes "log 2" ++ l) nodes ∙ sym regrouped,
      sym (ap (λ (t : SizeSaid). t.0) parts.0) ∙ n.2,
      sym (ap (λ (t : SizeSaid). t.1) parts.0) ∙ m.2,
    )
