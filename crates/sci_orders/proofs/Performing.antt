-- An operation that waits is performed, in a position and in the memory that stands there.
use Rattle.std.proofs.Common.{◌≡◌, ◌≢◌, ℕ, ◌+◌, ◌*◌, ◌<◌, List, [], ◌∷◌, ◌++◌, length, sym, ap, subst, ◌∙◌, arith, inl, inr}
use Rattle.std.proofs.lemmas.Bool.{cases_eq}
use Rattle.std.proofs.lemmas.List.{get_or-set_same, get_or-set_other, length-set, Elements.{Contains-append_left, Contains-push, Contains-push_cases}}
use Rattle.std.specs.{List.{Contains}, Prelude.{Option, Some, None, option_map, option_to_list, slice_index, slice_index_or}}
use Rattle.sci_words.specs.{Operation.{effect}, Stamped.{after, zero_stamped}}
use Rattle.sci_words.specs.declared.{limits.TheConstants.{WORDS_PER_LINE}, operation.Op.{Op}, stamped.Stamped.{Stamped}}
use Rattle.sci_history.specs.{Memory.{stamped_at}, declared.entry.Entry.{Entry}}
use Rattle.sci_core.{specs.{Size.{Size}, declared.pending.Pending.{Pending}}}
use Rattle.sci_orders.proofs.Changes.{list_below, performed_fits, performed_here, performed_length, performed_other, performed_rest, performed_waits}
use Rattle.sci_orders.proofs.Changes.{reply_done, waiting_below}
use Rattle.sci_orders.proofs.{Issuing.{MakesStep}, Plains.{memory_performs, plain_makes}, Ports.{perform_changes, performed_waits_here, performed_waits_other}}
use Rattle.sci_orders.proofs.Stands.{IsAnswered, Stands, Waiter, pending_of}
use Rattle.sci_orders.specs.{Orders.{HasEntry, IsScriptOf}, Plain.{Plain, Port, entry_at, plain_made, port_at, waits_at, with_performed}}
use Rattle.sci_orders.specs.Positions.{Operations, Position, answer_at, answer_of, answers_of, operation_at, own_of, with_performed_at, word_place}
use Rattle.sci_words.specs.declared.event.Event.TheVariants as event
use Rattle.sci_orders.specs.declared.standing.Answer.TheVariants as answer

-- two words of memory
other_place : (a b x y : ℕ) → x < 8 → y < 8 → a * 8 + x ≡ b * 8 + y → (a ≡ b) × (x ≡ y)
other_place a b x y low high same = ((omega arith), (omega arith))

module _ (size : Size) (operations : Operations) (plain : Plain) (done : List Entry) (p : Position) (n i : ℕ)
    (stands : Stands size operations plain done p) (known : IsScriptOf size operations) (waits : answer_at p n i ≡ answer.Waiting) where
  abbrev op : Op
  op = operation_at operations n i

  abbrev new : Plain
  new = with_performed plain n op.line (pending_of operations n i)

  abbrev after_ : Position
  after_ = with_performed_at op p n i

  -- the entry that it makes
  abbrev entry : Entry
  entry = entry_at plain n (pending_of operations n i)

  issued_below : i < length (answers_of p n)
  issued_below = waiting_below p n i waits

  own_below : i < length (own_of operations n)
  own_below = let few = stands.fits.issued n in let low = issued_below in omega arith

  has_answers : n < length p.answers
  has_answers = list_below p.answers n i issued_below

  is_node : n < size.nodes
  is_node = (known.each n i own_below).node

  has_port : n < length plain.ports
  has_port = let long = stands.nodes in let low = is_node in omega arith

  line_known : op.line < size.lines
  line_known = (known.each n i own_below).line

  waits_none : waits_at new n op.line ≡ None
  waits_none =
      let lines = stands.lines n is_node in
      let low = line_known in
      performed_waits_here plain n op.line (pending_of operations n i) has_port (omega arith)

  other_waits : (m k : ℕ) → ((m ≡ n) × (k ≡ op.line) → ⊥) → waits_at new m k ≡ waits_at plain m k
  other_waits m k not_ = performed_waits_other plain n op.line m k (pending_of operations n i) has_port not_

  -- it alone waited on its line
  alone : (j : ℕ) → answer_at p n j ≡ answer.Waiting → (operation_at operations n j).line ≡ op.line → j ≡ i
  alone j is on = grind (arith, pending_of)

  -- its answer is the reply of the entry
  performed_answer : answer_at after_ n i ≡ answer_of entry.reply
  performed_answer = grind (arith, own_below, performed_here, has_answers, issued_below)

  answered : (m j : ℕ) → answer_at after_ m j ≡ answer.Waiting → (m ≡ n) × (j ≡ i) → ⊥
  answered m j is both = grind (arith, reply_done, performed_answer)

  perform_waits : (m k : ℕ) (pending : Pending) → waits_at new m k ≡ Some pending → Waiter operations after_ m k
  perform_waits m k pending is = grind (arith, other_waits, performed_other, has_answers, cases_eq, waits_none)

  perform_held : (m j : ℕ) → answer_at after_ m j ≡ answer.Waiting → waits_at new m (operation_at operations m j).line ≡ Some (pending_of operations m j)
  perform_held m j is = grind (arith, answered, performed_other, has_answers, other_waits, alone)

  -- ---- entries

  is_entry : IsAnswered operations after_ entry
  is_entry = grind (arith, performed_length, has_answers, issued_below, own_below, performed_answer)

  perform_each : (e : Entry) → Contains (done ++ entry ∷ []) e → IsAnswered operations after_ e
  perform_each e has = elim (Contains-push_cases done entry e has) [
    | inl before ↦
        let was = stands.each e before in
        let not_ : (e.node ≡ n) × (e.serial ≡ i) → ⊥ = λ both. reply_done e.reply (sym was.is.reply
        ∙ (ap (λ (k : ℕ). answer_at p e.node k) both.1 ∙ (ap (λ (k : ℕ). answer_at p k i) both.0 ∙ waits))) in
        record {
          issued = (let same = performed_length op p n i e.node has_answers in let low = was.issued in omega arith);
          is = record { below = was.is.below; op = was.is.op; reply = performed_other op p n i e.node e.serial has_answers not_ ∙ was.is.reply };
        }
    | inr is ↦ subst (IsAnswered operations after_) is is_entry
  ]

  perform_all : (m j : ℕ) → j < length (answers_of after_ m) → (answer_at after_ m j ≡ answer.Waiting → ⊥) → HasEntry (done ++ entry ∷ []) m j
  perform_all m j low done_ =
      let old : ((m ≡ n) × (j ≡ i) → ⊥) → HasEntry (done ++ entry ∷ []) m j = λ not_. (
      let same = performed_length op p n i m has_answers in
      let from = stands.all m j (omega arith) (λ is. done_ (performed_other op p n i m j has_answers not_ ∙ is)) in
      (from.0, Contains-append_left done (entry ∷ []) from.0 from.1, from.2, from.3)) in
      elim (cases_eq m n) [
        | inl e ↦ elim (cases_eq j i) [
          | inl at ↦ (entry, Contains-push done entry, sym e, sym at)
          | inr off ↦ old (λ both. off both.1)
        ]
        | inr other ↦ old (λ both. other both.0)
      ]

  -- ---- words

  abbrev old_line : Stamped
  old_line = stamped_at plain.contents op.line

  line_here : stamped_at new.contents op.line ≡ after old_line op
  line_here =
      let long = stands.contents in
      let low = line_known in
      get_or-set_same plain.contents op.line (after old_line op) zero_stamped (omega arith)

  line_other : (k : ℕ) → k ≢ op.line → stamped_at new.contents k ≡ stamped_at plain.contents k
  line_other k other = get_or-set_other plain.contents op.line k (after old_line op) zero_stamped other

  perform_words : (line word : ℕ) → line < size.lines → word < WORDS_PER_LINE
      → slice_index_or after_.words (line * WORDS_PER_LINE + word) 0 ≡ slice_index (stamped_at new.contents line).line word
  perform_words line word low high =
      let is = known.each n i own_below in
      let word_low = is.word in
      let place = word_place op in
      let was = stands.words op.line op.word is.line is.word in
      let written = (effect op (slice_index old_line.line op.word)).0 in
      let eight = stands.eight op.line is.line in
      elim (cases_eq line op.line) [
        | inl e ↦ elim (cases_eq word op.word) [
          | inl f ↦
              let spot : line * WORDS_PER_LINE + word ≡ place = omega arith in
              ap (λ (k : ℕ). slice_index_or after_.words k 0) spot
              ∙ (get_or-set_same p.words place _ 0 (stands.fits.words n i own_below)
              ∙ (ap (λ (x : ℕ). (effect op x).0) was
              ∙ sym (ap (λ (k : ℕ). slice_index (stamped_at new.contents k).line word) e
              ∙ (ap (λ (s : Stamped). slice_index s.line word) line_here
              ∙ (ap (λ (k : ℕ). slice_index (after old_line op).line k) f ∙ get_or-set_same old_line.line op.word written 0 (omega arith))))))
          | inr off ↦
              let spot : line * WORDS_PER_LINE + word ≢ place = λ same. off (other_place line op.line word op.word high word_low same).1 in
              get_or-set_other p.words place (line * WORDS_PER_LINE + word) _ 0 spot
              ∙ (stands.words line word low high
              ∙ (ap (λ (k : ℕ). slice_index (stamped_at plain.contents k).line word) e
              ∙ sym (ap (λ (k : ℕ). slice_index (stamped_at new.contents k).line word) e
              ∙ (ap (λ (s : Stamped). slice_index s.line word) line_here ∙ get_or-set_other old_line.line op.word word written 0 off))))
        ]
        | inr other ↦
            let spot : line * WORDS_PER_LINE + word ≢ place = λ same. other (other_place line op.line word op.word high word_low same).0 in
            get_or-set_other p.words place (line * WORDS_PER_LINE + word) _ 0 spot
            ∙ (stands.words line word low high ∙ sym (ap (λ (s : Stamped). slice_index s.line word) (line_other line other)))
      ]

  perform_eight : (k : ℕ) → k < size.lines → length (stamped_at new.contents k).line ≡ WORDS_PER_LINE
  perform_eight k low = elim (cases_eq k op.line) [
    | inl e ↦ ap (λ (j : ℕ). length (stamped_at new.contents j).line) e
        ∙ (ap (λ (s : Stamped). length s.line) line_here
        ∙ (length-set old_line.line op.word (effect op (slice_index old_line.line op.word)).0 ∙ stands.eight op.line line_known))
    | inr other ↦ ap (λ (s : Stamped). length s.line) (line_other k other) ∙ stands.eight k low
  ]

  perform_stands : Stands size operations new (done ++ entry ∷ []) after_
  perform_stands =
      let changes = perform_changes plain n op.line (pending_of operations n i) has_port in
      record {
        size_is = stands.size_is;
        nodes = changes.nodes ∙ stands.nodes;
        lines = λ m low. changes.lines m ∙ stands.lines m low;
        contents = length-set plain.contents op.line (after old_line op) ∙ stands.contents;
        eight = perform_eight;
        fits = performed_fits operations op p n i stands.fits has_answers;
        issued = λ m low. elim (cases_eq m n) [
          | inl e ↦ ap (λ (k : ℕ). (port_at new k).issued) e
              ∙ (changes.here ∙ (ap (λ (k : ℕ). (port_at plain k).issued) (sym e) ∙ (stands.issued m low ∙ sym (performed_length op p n i m has_answers))))
          | inr other ↦ ap (λ (x : Port). x.issued) (changes.apart m other) ∙ (stands.issued m low ∙ sym (performed_length op p n i m has_answers))
        ];
        waits = perform_waits;
        held = perform_held;
        each = perform_each;
        all = perform_all;
        words = perform_words;
      }

  pub perform_goes : MakesStep size operations plain done p (with_performed_at (operation_at operations n i) p n i)
      (event.Perform n (operation_at operations n i).line)
  perform_goes =
      let e = event.Perform n op.line in
      let lt : n < plain.size.nodes = subst (λ (s : Size). n < s.nodes) (sym stands.size_is) is_node in
      let held = stands.held n i waits in
      let steps = memory_performs plain n op.line (pending_of operations n i) lt held in
      let made : plain_made plain e ≡ Some entry = plain_makes plain new e steps ∙ ap (option_map (entry_at plain n)) held in
      let same : done ++ entry ∷ [] ≡ done ++ option_to_list (plain_made plain e) = ap (λ (m : Option Entry). done ++ option_to_list m) (sym made) in
      record {
        new = new;
        steps = steps;
        stands = subst (λ (es : List Entry). Stands size operations new es after_) same perform_stands;
        rest = λ m. performed_rest operations op p n i m has_answers;
        waits = λ m. performed_waits op p n i m has_answers waits;
      }
