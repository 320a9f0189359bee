-- One memory stands where a position says: what is issued, what waits, what was answered, and each word.
use Rattle.std.proofs.Common.{◌≡◌, ℕ, ◌*◌, ◌+◌, ◌<◌, List, [], length, get_or, replicate, refl, sym, ap, ◌∙◌, arith}
use Rattle.std.proofs.lemmas.List.{get_or-replicate, length-replicate}
use Rattle.std.specs.{List.{Contains}, Prelude.{Some, None, slice_index, slice_index_or}}
use Rattle.sci_words.specs.{Stamped.{zero_stamped}, declared.{limits.TheConstants.{WORDS_PER_LINE}, stamped.Stamped.{Stamped}}}
use Rattle.sci_history.specs.{Memory.{stamped_at}, declared.entry.Entry.{Entry}}
use Rattle.sci_core.{proofs.Shape.ShapeRuns.{replicated}, specs.{Size.{Size}, declared.pending.Pending.{Pending}}}
use Rattle.sci_orders.proofs.{Keeping.{contains_none}, Scripts.{free_at}}
use Rattle.sci_orders.specs.{Orders.{HasEntry, IsEntryAt, IsScriptOf}, Plain.{Plain, Port, no_port, opening_plain, port_at, waits_at}}
use Rattle.sci_orders.specs.Positions.{AreWithin, Fits, Operations, Position, answer_at, answers_of, opening_position, operation_at}
use Rattle.sci_orders.specs.declared.standing.Answer.{Answer}
use Rattle.sci_orders.specs.declared.standing.Answer.TheVariants as answer

abbrev pub pending_of : Operations → (n i : ℕ) → Pending
pending_of operations n i = record { serial = i; op = operation_at operations n i }

-- an operation that waits at a node on a line
abbrev pub Waiter : Operations → Position → (n line : ℕ) → Type 0
Waiter operations p n line = (i : ℕ) × (answer_at p n i ≡ answer.Waiting) × ((operation_at operations n i).line ≡ line)

-- an entry of an operation that is issued
pub record IsAnswered (operations : Operations) (p : Position) (entry : Entry) : Type 0 where
  pub issued : entry.serial < length (answers_of p entry.node)
  pub is : IsEntryAt operations p entry

pub record Stands (size : Size) (operations : Operations) (plain : Plain) (done : List Entry) (p : Position) : Type 0 where
  pub size_is : plain.size ≡ size
  pub nodes : length plain.ports ≡ size.nodes
  pub lines : (n : ℕ) → n < size.nodes → length (port_at plain n).pending ≡ size.lines
  pub contents : length plain.contents ≡ size.lines
  pub eight : (line : ℕ) → line < size.lines → length (stamped_at plain.contents line).line ≡ WORDS_PER_LINE
  pub fits : Fits operations p
  pub issued : (n : ℕ) → n < size.nodes → (port_at plain n).issued ≡ length (answers_of p n)
  pub waits : (n line : ℕ) (pending : Pending) → waits_at plain n line ≡ Some pending → Waiter operations p n line
  pub held : (n i : ℕ) → answer_at p n i ≡ answer.Waiting → waits_at plain n (operation_at operations n i).line ≡ Some (pending_of operations n i)
  pub each : (e : Entry) → Contains done e → IsAnswered operations p e
  pub all : (n i : ℕ) → i < length (answers_of p n) → (answer_at p n i ≡ answer.Waiting → ⊥) → HasEntry done n i
  pub words : (line word : ℕ) → line < size.lines → word < WORDS_PER_LINE
      → slice_index_or p.words (line * WORDS_PER_LINE + word) 0 ≡ slice_index (stamped_at plain.contents line).line word

-- ---- at the opening

pub none_first : (lines : ℕ) (operations : Operations) (n : ℕ) → answers_of (opening_position lines operations) n ≡ []
none_first lines operations n = replicated [] (length operations) n

pub opening_fits : (lines : ℕ) (operations : Operations) → AreWithin lines operations → Fits operations (opening_position lines operations)
opening_fits lines operations within =
    let first = opening_position lines operations in
    let long : length first.words ≡ lines * WORDS_PER_LINE = length-replicate (lines * WORDS_PER_LINE) 0 in
    record {
      nodes = length-replicate {A = List Answer} (length operations) [];
      issued = λ n. (
          let none : length (answers_of first n) ≡ 0 = ap (λ (as_ : List Answer). length as_) (none_first lines operations n) in
          omega arith);
      words = λ n i below. (let line = (within n i below).0 in let word = (within n i below).1 in omega arith);
    }

-- a script of the machine is on its lines
pub within : (size : Size) (operations : Operations) → IsScriptOf size operations → AreWithin size.lines operations
within size operations known n i below = ((known.each n i below).line, (known.each n i below).word)

pub opening_stands : (size : Size) (operations : Operations) → IsScriptOf size operations
    → Stands size operations (opening_plain size) [] (opening_position size.lines operations)
opening_stands size operations known =
    let p = opening_position size.lines operations in
    let port : Port = record { pending = replicate size.lines None; issued = 0 } in
    let at : (n : ℕ) → n < size.nodes → port_at (opening_plain size) n ≡ port = λ n lt. get_or-replicate size.nodes n port no_port lt in
    let none : (n : ℕ) → length (answers_of p n) ≡ 0 = λ n. ap (λ (as_ : List Answer). length as_) (none_first size.lines operations n) in
    record {
      size_is = refl;
      nodes = length-replicate size.nodes port;
      lines = λ n lt. ap (λ (x : Port). length x.pending) (at n lt) ∙ length-replicate size.lines None;
      contents = length-replicate size.lines zero_stamped;
      eight = λ line low. ap (λ (s : Stamped). length s.line) (get_or-replicate size.lines line zero_stamped zero_stamped low)
          ∙ length-replicate {A = ℕ} WORDS_PER_LINE 0;
      fits = opening_fits size.lines operations (within size operations known);
      issued = λ n lt. ap (λ (x : Port). x.issued) (at n lt) ∙ sym (none n);
      waits = λ n line pending is. (let clash : None ≡ Some pending = sym (free_at size.nodes n line size.lines) ∙ is in cc);
      held = λ n i is. (
          let clash : answer.Stored ≡ answer.Waiting = sym (ap (λ (as_ : List Answer). get_or as_ i answer.Stored) (none_first size.lines operations n)) ∙ is in
          cc);
      each = λ e has. contains_none e has;
      all = λ n i low done_. (let first = none n in absurd (omega arith));
      words = λ line word low high. replicated 0 (size.lines * WORDS_PER_LINE) (line * WORDS_PER_LINE + word)
          ∙ sym (ap (λ (s : Stamped). slice_index s.line word) (get_or-replicate size.lines line zero_stamped zero_stamped low)
          ∙ replicated 0 WORDS_PER_LINE word);
    }
