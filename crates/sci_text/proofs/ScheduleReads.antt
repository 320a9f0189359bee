-- An event's line that is written is read again, and what is read as one was written so.
use Rattle.std.proofs.Common.{◌≡◌, ℕ, ◌<◌, List, [], ◌∷◌, ◌++◌, Option, Some, refl, sym, ap, subst, ◌∙◌, append_assoc, ◌≤◌, length, arith}
use Rattle.std.proofs.lemmas.{Option.{some_pair_parts}, List.{length-append}}
use Rattle.std.specs.{Prelude.{codes, option_map}, Option.{SomeIff}}
use Rattle.sci_words.specs.declared.event.{AskKind.{AskKind, TheVariants.{Mread}}, TheConstants.AskKind.{ALL}}
use Rattle.sci_words.specs.declared.event.Event.{Event, TheVariants.{Issue, Perform, Ask, Serve, Refuse, Reply, Accept}}
use Rattle.sci_words.specs.{declared.{operation.Op.{Op}, event.EventKind.{EventKind}}, Event.{kind_word}}
use Rattle.sci_words.specs.Event.{kind_of, word_of_kind}
use Rattle.sci_text.specs.{FirstFault.{IsShort}, Number.{field}}
use Rattle.sci_text.specs.Operation.{operation}
use Rattle.sci_text.specs.Reading.{◌>>=◌, fitting, field_read, after, byte, both, spelled, operation_read}
use Rattle.sci_text.specs.Schedule.{event_word, first_node, event_details, event_line}
use Rattle.sci_text.specs.ScheduleReading.{all_kinds, kind_read, verb_read, numbered_read, details_read, event_line_read}
use Rattle.sci_text.proofs.Lines.{Line}
use Rattle.sci_text.proofs.Operations.{operation_short, mapped, byte_is, both_is, bind_some, OpFits, operation_again, operation_found}
use Rattle.sci_text.proofs.Numbers.{field_short, Ends, field_again, ends_field, field_found}
use Rattle.sci_text.proofs.Words.{after_again, after_found, spelled_found}
use Rattle.sci_words.specs.declared.event.EventKind.TheVariants as kinds

-- ---- words

kind_again : (kind : AskKind) (rest : List ℕ) → kind_read (kind_word kind ++ rest) ≡ Some (kind, rest)
unfolding after kind_read
kind_again Mread rest = refl
kind_again _ rest = refl

verb_again : (event : Event) (rest : List ℕ) → verb_read (event_word event ++ rest) ≡ Some (kind_of event, rest)
unfolding after verb_read
verb_again (Issue node op) rest = refl
verb_again _ rest = refl

-- ---- the details

-- each number fits its place in an `Event`
abbrev pub EventFits : Event → Type 0
EventFits (Issue node op) = (node < 256) × OpFits op
EventFits (Perform node line) = (node < 256) × (line < 256)
EventFits (Ask node line kind) = (node < 256) × (line < 256)
EventFits (Serve from node) = (from < 256) × (node < 256)
EventFits (Refuse from node) = (from < 256) × (node < 256)
EventFits (Reply node) = node < 256
EventFits (Accept from node) = (from < 256) × (node < 256)

-- what is read is the event if it fits
abbrev ReadAs : Event → Option (Option Event × List ℕ) → List ℕ → Type 0
ReadAs event read rest = (o : Option Event) × (read ≡ Some (o, rest)) × SomeIff o (EventFits event) event

pair_is : (f : ℕ → ℕ → Event) (a b : ℕ) → SomeIff (option_map (λ p. f p.0 p.1) (both (byte (fitting a)) (byte (fitting b)))) ((a < 256) × (b < 256)) (f a b)
pair_is f a b =
    mapped ((a < 256) × (b < 256)) (λ p. f p.0 p.1) (both (byte (fitting a)) (byte (fitting b))) (a, b)
    (both_is (a < 256) (b < 256) (byte (fitting a)) (byte (fitting b)) a b (byte_is a) (byte_is b))

numbered_again : (f : ℕ → ℕ → Event) (a b : ℕ) (rest : List ℕ) → Ends rest
    → (o : Option Event) × (numbered_read f (fitting a) (field b ++ rest) ≡ Some (o, rest)) × SomeIff o ((a < 256) × (b < 256)) (f a b)
unfolding numbered_read
numbered_again f a b rest ends = (option_map (λ p. f p.0 p.1) (both (byte (fitting a)) (byte (fitting b))), rw (field_again b rest ends) refl, pair_is f a b)

ask_again : (node line : ℕ) (kind : AskKind) (rest : List ℕ) → Ends rest
    → ReadAs (Ask node line kind) (details_read kinds.Ask (fitting node) ((field line ++ (codes " " ++ kind_word kind)) ++ rest)) rest
unfolding details_read
ask_again node line kind rest ends =
    let gap = codes " " ++ (kind_word kind ++ rest) in
    let regrouped : (field line ++ (codes " " ++ kind_word kind)) ++ rest ≡ field line ++ gap = simp append_assoc in (
      option_map (λ p. Ask p.0 p.1 kind) (both (byte (fitting node)) (byte (fitting line))),
      rw (regrouped, field_again line gap refl, after_again (codes " ") (kind_word kind ++ rest), kind_again kind rest) refl,
      pair_is (λ n l. Ask n l kind) node line,
    )

issue_again : (node : ℕ) (op : Op) (rest : List ℕ) → Ends rest
    → ReadAs (Issue node op) (details_read kinds.Issue (fitting node) ((codes " " ++ operation op) ++ rest)) rest
unfolding details_read
issue_again node op rest ends =
    let regrouped : (codes " " ++ operation op) ++ rest ≡ codes " " ++ (operation op ++ rest) = simp append_assoc in
    let read = operation_again op rest ends in (
      option_map (λ p. Issue p.0 p.1) (both (byte (fitting node)) read.0),
      rw (regrouped, after_again (codes " ") (operation op ++ rest), read.1) refl,
      mapped ((node < 256) × OpFits op) (λ p. Issue p.0 p.1) (both (byte (fitting node)) read.0) (node, op)
          (both_is (node < 256) (OpFits op) (byte (fitting node)) read.0 node op (byte_is node) read.2),
    )

details_again : (event : Event) (rest : List ℕ) → Ends rest
    → ReadAs event (details_read (kind_of event) (fitting (first_node event)) (event_details event ++ rest)) rest
unfolding details_read
details_again (Issue node op) rest ends = issue_again node op rest ends
details_again (Perform node line) rest ends = numbered_again Perform node line rest ends
details_again (Ask node line kind) rest ends = ask_again node line kind rest ends
details_again (Serve from node) rest ends = numbered_again Serve from node rest ends
details_again (Refuse from node) rest ends = numbered_again Refuse from node rest ends
details_again (Reply node) rest ends =
    (option_map (λ n. Reply n) (byte (fitting node)), refl, mapped (node < 256) (λ n. Reply n) (byte (fitting node)) node (byte_is node))
details_again (Accept from node) rest ends = numbered_again Accept from node rest ends

ends_details : (event : Event) (rest : List ℕ) → Ends rest → Ends (event_details event ++ rest)
ends_details (Issue node op) rest ends = refl
ends_details (Perform node line) rest ends = ends_field line rest
ends_details (Ask node line kind) rest ends = rw append_assoc (ends_field line ((codes " " ++ kind_word kind) ++ rest))
ends_details (Serve from node) rest ends = ends_field node rest
ends_details (Refuse from node) rest ends = ends_field node rest
ends_details (Reply node) rest ends = ends
ends_details (Accept from node) rest ends = ends_field node rest

-- what bytes begin with as the details of an event of this word and first node
abbrev FoundAs : EventKind → ℕ → List ℕ → Option Event → List ℕ → Type 0
FoundAs verb first bytes o rest =
    (event : Event) × (kind_of event ≡ verb) × (first_node event ≡ first) × (bytes ≡ event_details event ++ rest) × SomeIff o (EventFits event) event

numbered_found : (f : ℕ → ℕ → Event) (a : ℕ) (bytes : List ℕ) (o : Option Event) (rest : List ℕ) → numbered_read f (fitting a) bytes ≡ Some (o, rest)
    → (b : ℕ) × (bytes ≡ field b ++ rest) × SomeIff o ((a < 256) × (b < 256)) (f a b)
unfolding numbered_read
numbered_found f a bytes o rest e =
    let event : Option ℕ → Option Event = λ x. option_map (λ p. f p.0 p.1) (both (byte (fitting a)) (byte x)) in
    let s = bind_some (field_read bytes) (λ x. Some (event x.0, x.1)) (o, rest) e in
    let b = field_found bytes s.0.0 s.0.1 s.1 in
    let parts = some_pair_parts (event s.0.0) o s.0.1 rest s.2 in (
      b.0,
      b.1 ∙ ap (λ (l : List ℕ). field b.0 ++ l) parts.1,
      subst (λ (v : Option Event). SomeIff v ((a < 256) × (b.0 < 256)) (f a b.0)) (ap event (sym b.2) ∙ parts.0) (pair_is f a b.0),
    )

ask_found : (a : ℕ) (bytes : List ℕ) (o : Option Event) (rest : List ℕ) → details_read kinds.Ask (fitting a) bytes ≡ Some (o, rest)
    → FoundAs kinds.Ask a bytes o rest
unfolding details_read kind_read
ask_found a bytes o rest e =
    let event : Option ℕ → AskKind → Option Event = λ x kind. option_map (λ p. Ask p.0 p.1 kind) (both (byte (fitting a)) (byte x)) in
    let s = bind_some (field_read bytes) (λ x. after (codes " ") x.1 >>= λ g. spelled kind_word ALL g >>= λ k. Some (event x.0 k.0, k.1)) (o, rest) e in
    let g = bind_some (after (codes " ") s.0.1) (λ g. spelled kind_word ALL g >>= λ k. Some (event s.0.0 k.0, k.1)) (o, rest) s.2 in
    let k = bind_some (spelled kind_word ALL g.0) (λ k. Some (event s.0.0 k.0, k.1)) (o, rest) g.2 in
    let line = field_found bytes s.0.0 s.0.1 s.1 in
    let kind = k.0.0 in
    let parts = some_pair_parts (event s.0.0 kind) o k.0.1 rest k.2 in
    let word : g.0 ≡ kind_word kind ++ rest = spelled_found kind_word ALL g.0 kind k.0.1 k.1 ∙ ap (λ (l : List ℕ). kind_word kind ++ l) parts.1 in
    let gap : s.0.1 ≡ codes " " ++ (kind_word kind ++ rest) = after_found (codes " ") s.0.1 g.0 g.1 ∙ ap (λ (l : List ℕ). codes " " ++ l) word in
    let regrouped : (field line.0 ++ (codes " " ++ kind_word kind)) ++ rest ≡ field line.0 ++ (codes " " ++ (kind_word kind ++ rest)) = simp append_assoc in (
      Ask a line.0 kind,
      refl,
      refl,
      line.1 ∙ ap (λ (l : List ℕ). field line.0 ++ l) gap ∙ sym regrouped,
      subst (λ (v : Option Event). SomeIff v ((a < 256) × (line.0 < 256)) (Ask a line.0 kind)) (ap (λ (x : Option ℕ). event x kind) (sym line.2) ∙ parts.0)
          (pair_is (λ n l. Ask n l kind) a line.0),
    )

issue_found : (a : ℕ) (bytes : List ℕ) (o : Option Event) (rest : List ℕ) → details_read kinds.Issue (fitting a) bytes ≡ Some (o, rest)
    → FoundAs kinds.Issue a bytes o rest
unfolding details_read
issue_found a bytes o rest e =
    let event : Option Op → Option Event = λ x. option_map (λ p. Issue p.0 p.1) (both (byte (fitting a)) x) in
    let g = bind_some (after (codes " ") bytes) (λ g. operation_read g >>= λ y. Some (event y.0, y.1)) (o, rest) e in
    let y = bind_some (operation_read g.0) (λ y. Some (event y.0, y.1)) (o, rest) g.2 in
    let op = operation_found g.0 y.0.0 y.0.1 y.1 in
    let parts = some_pair_parts (event y.0.0) o y.0.1 rest y.2 in
    let said : g.0 ≡ operation op.0 ++ rest = op.1 ∙ ap (λ (l : List ℕ). operation op.0 ++ l) parts.1 in
    let regrouped : (codes " " ++ operation op.0) ++ rest ≡ codes " " ++ (operation op.0 ++ rest) = simp append_assoc in (
      Issue a op.0,
      refl,
      refl,
      after_found (codes " ") bytes g.0 g.1 ∙ ap (λ (l : List ℕ). codes " " ++ l) said ∙ sym regrouped,
      subst (λ (v : Option Event). SomeIff v ((a < 256) × OpFits op.0) (Issue a op.0)) parts.0
          (mapped ((a < 256) × OpFits op.0) (λ p. Issue p.0 p.1) (both (byte (fitting a)) y.0.0) (a, op.0)
          (both_is (a < 256) (OpFits op.0) (byte (fitting a)) y.0.0 a op.0 (byte_is a) op.2)),
    )

reply_found : (a : ℕ) (bytes : List ℕ) (o : Option Event) (rest : List ℕ) → details_read kinds.Reply (fitting a) bytes ≡ Some (o, rest)
    → FoundAs kinds.Reply a bytes o rest
unfolding details_read
reply_found a bytes o rest e =
    let event : Option Event = option_map (λ n. Reply n) (byte (fitting a)) in
    let parts = some_pair_parts event o bytes rest e in (
      Reply a,
      refl,
      refl,
      parts.1,
      subst (λ (v : Option Event). SomeIff v (a < 256) (Reply a)) parts.0 (mapped (a < 256) (λ n. Reply n) (byte (fitting a)) a (byte_is a)),
    )

details_found : (verb : EventKind) (a : ℕ) (bytes : List ℕ) (o : Option Event) (rest : List ℕ) → details_read verb (fitting a) bytes ≡ Some (o, rest)
    → FoundAs verb a bytes o rest
unfolding details_read
details_found kinds.Issue a bytes o rest e = issue_found a bytes o rest e
details_found kinds.Perform a bytes o rest e = let s = numbered_found Perform a bytes o rest e in (Perform a s.0, refl, refl, s.1, s.2)
details_found kinds.Ask a bytes o rest e = ask_found a bytes o rest e
details_found kinds.Serve a bytes o rest e = let s = numbered_found Serve a bytes o rest e in (Serve a s.0, refl, refl, s.1, s.2)
details_found kinds.Refuse a bytes o rest e = let s = numbered_found Refuse a bytes o rest e in (Refuse a s.0, refl, refl, s.1, s.2)
details_found kinds.Reply a bytes o rest e = reply_found a bytes o rest e
details_found kinds.Accept a bytes o rest e = let s = numbered_found Accept a bytes o rest e in (Accept a s.0, refl, refl, s.1, s.2)

-- ---- the line

pub event_line_again : (event : Event) (rest : List ℕ) → ReadAs event (event_line_read (event_line event ++ rest)) rest
unfolding event_line event_line_read
event_line_again event rest =
    let last = 10 ∷ rest in
    let details = event_details event ++ last in
    let regrouped : (event_word event ++ (field (first_node event) ++ (event_details event ++ 10 ∷ []))) ++ rest ≡ event_word event
    ++ (field (first_node event) ++ details) = simp append_assoc in
    let read = details_again event last refl in (
      read.0,
      rw (
        regrouped,
        verb_again event (field (first_node event) ++ details),
        field_again (first_node event) details (ends_details event last refl),
        read.1,
        after_again (10 ∷ []) rest,
      ) refl,
      read.2,
    )

pub event_line_found : (bytes : List ℕ) (o : Option Event) (rest : List ℕ) → event_line_read bytes ≡ Some (o, rest)
    → (event : Event) × (bytes ≡ event_line event ++ rest) × SomeIff o (EventFits event) event
unfolding event_line event_line_read verb_read
event_line_found bytes o rest e =
    let end : Option Event → List ℕ → Option (Option Event × List ℕ) = λ y l. after (10 ∷ []) l >>= λ r. Some (y, r) in
    let v = bind_some (spelled word_of_kind all_kinds bytes) (λ v. field_read v.1 >>= λ x. details_read v.0 x.0 x.1 >>= λ y. end y.0 y.1) (o, rest) e in
    let x = bind_some (field_read v.0.1) (λ x. details_read v.0.0 x.0 x.1 >>= λ y. end y.0 y.1) (o, rest) v.2 in
    let y = bind_some (details_read v.0.0 x.0.0 x.0.1) (λ y. end y.0 y.1) (o, rest) x.2 in
    let r = bind_some (after (10 ∷ []) y.0.1) (λ r. Some (y.0.0, r)) (o, rest) y.2 in
    let n = field_found v.0.1 x.0.0 x.0.1 x.1 in
    let found = details_found v.0.0 n.0 x.0.1 y.0.0 y.0.1 (ap (λ (z : Option ℕ). details_read v.0.0 z x.0.1) (sym n.2) ∙ y.1) in
    let event = found.0 in
    let parts = some_pair_parts y.0.0 o r.0 rest r.2 in
    let last : y.0.1 ≡ 10 ∷ rest = after_found (10 ∷ []) y.0.1 r.0 r.1 ∙ ap (λ (l : List ℕ). 10 ∷ l) parts.1 in
    let details : x.0.1 ≡ event_details event ++ 10 ∷ rest = found.3 ∙ ap (λ (l : List ℕ). event_details event ++ l) last in
    let node : v.0.1 ≡ field (first_node event) ++ (event_details event ++ 10 ∷ rest) =
    n.1 ∙ ap (λ (l : List ℕ). field n.0 ++ l) details ∙ ap (λ (k : ℕ). field k ++ (event_details event ++ 10 ∷ rest)) (sym found.2) in
    let word : word_of_kind v.0.0 ≡ event_word event = ap word_of_kind (sym found.1) in
    let regrouped : (event_word event ++ (field (first_node event) ++ (event_details event ++ 10 ∷ []))) ++ rest ≡ event_word event
    ++ (field (first_node event) ++ (event_details event ++ 10 ∷ rest)) = simp append_assoc in (
      event,
      spelled_found word_of_kind all_kinds bytes v.0.0 v.0.1 v.1 ∙ ap (λ (w : List ℕ). w ++ v.0.1) word
          ∙ ap (λ (l : List ℕ). event_word event ++ l) node ∙ sym regrouped,
      subst (λ (z : Option Event). SomeIff z (EventFits event) event) parts.0 found.4,
    )

pub line_nonempty : (event : Event) → 0 < length (event_line event)
unfolding event_line
line_nonempty (Issue node op) = omega arith
line_nonempty _ = omega arith

kind_short : (kind : AskKind) → length (kind_word kind) ≤ 7
kind_short Mread = omega arith
kind_short _ = omega arith

line_of_numbers : (word : List ℕ) (a b : ℕ) → length word ≤ 7 → (a < 256) × (b < 256) → IsShort (word ++ (field a ++ (field b ++ 10 ∷ [])))
line_of_numbers word a b short fit = grind (arith, length-append, field_short)

pub line_is_short : (event : Event) → EventFits event → IsShort (event_line event)
unfolding event_line
line_is_short (Issue node op) fit = grind (arith, length-append, field_short, operation_short)
line_is_short (Perform node line) fit = line_of_numbers (codes "perform") node line (omega arith) fit
line_is_short (Ask node line kind) fit = grind (arith, length-append, field_short, kind_short)
line_is_short (Serve from node) fit = line_of_numbers (codes "serve") from node (omega arith) fit
line_is_short (Refuse from node) fit = line_of_numbers (codes "refuse") from node (omega arith) fit
line_is_short (Reply node) fit =
    omega (arith, length-append (codes "reply") (field node ++ 10 ∷ []), length-append (field node) (10 ∷ []), field_short node (omega (arith, fit)))
line_is_short (Accept from node) fit = line_of_numbers (codes "accept") from node (omega arith) fit

abbrev pub event_line_format : Line Event
event_line_format = record {
  print = event_line;
  read = event_line_read;
  Fits = EventFits;
  again = event_line_again;
  found = event_line_found;
  nonempty = line_nonempty;
  short = line_is_short;
}
