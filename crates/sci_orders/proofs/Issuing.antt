-- The next operation of a node is issued, in a position and in the memory that stands there.
use Rattle.std.proofs.Common.{◌≡◌, true, [], ◌∷◌, ℕ, ◌+◌, ◌<◌, List, ◌++◌, length, refl, sym, ap, subst, ◌∙◌, arith, inl, inr}
use Rattle.std.proofs.lemmas.{Bool.{cases_eq}, List.{append-nil}}
use Rattle.std.specs.Prelude.{Option, Some, None, option_to_list}
use Rattle.sci_words.specs.declared.{event.Event.{Event}, operation.Op.{Op}}
use Rattle.sci_history.specs.declared.entry.Entry.{Entry}
use Rattle.sci_core.specs.{Size.{Size}, declared.pending.Pending.{Pending}}
use Rattle.sci_orders.proofs.Changes.{issued_apart, issued_fits, issued_here, issued_length, issued_other, issued_rest, issued_waits, list_below, rest_of}
use Rattle.sci_orders.proofs.Changes.{waiting_before}
use Rattle.sci_orders.proofs.{Plains.{can_issue_by, memory_issues, plain_makes}, Ports.{issue_changes, issued_waits_here, issued_waits_other}}
use Rattle.sci_orders.proofs.Stands.{Stands, Waiter, pending_of}
use Rattle.sci_orders.specs.Orders.{IsScriptOf, issues_at, one_less_at, one_more_at}
use Rattle.sci_orders.specs.Plain.{Plain, Port, can_issue, plain_made, plain_stepping, port_at, waits_at, with_issued}
use Rattle.sci_orders.specs.Positions.{Operations, Position, answer_at, answers_of, operation_at, own_of, waiting_at, with_issued_at}
use Rattle.sci_orders.specs.declared.standing.Answer.{Answer}
use Rattle.sci_words.specs.declared.event.Event.TheVariants as event
use Rattle.sci_orders.specs.declared.standing.Answer.TheVariants as answer

-- how many wait after events
abbrev pub waiting_after : List Event → (ℕ → ℕ) → ℕ → ℕ
waiting_after [] waiting = waiting
waiting_after (event.Issue n op ∷ order) waiting = waiting_after order (one_more_at n waiting)
waiting_after (event.Perform n line ∷ order) waiting = waiting_after order (one_less_at n waiting)
waiting_after (_ ∷ order) waiting = waiting_after order waiting

-- an event of the memory that goes with a step from one position to another
pub record MakesStep (size : Size) (operations : Operations) (plain : Plain) (done : List Entry) (p q : Position) (e : Event) : Type 0 where
  pub new : Plain
  pub steps : plain_stepping plain e ≡ Some new
  pub stands : Stands size operations new (done ++ option_to_list (plain_made plain e)) q
  pub rest : (m : ℕ) → rest_of operations p m ≡ issues_at m (e ∷ []) ++ rest_of operations q m
  pub waits : (m : ℕ) → waiting_at q m ≡ waiting_after (e ∷ []) (waiting_at p) m

-- no operation waits on its line
abbrev pub IsFree : Operations → Position → (n i : ℕ) → Type 0
IsFree operations p n i = (j : ℕ) → answer_at p n j ≡ answer.Waiting → (operation_at operations n j).line ≡ (operation_at operations n i).line → ⊥

module _ (size : Size) (operations : Operations) (plain : Plain) (done : List Entry) (p : Position) (n : ℕ)
    (stands : Stands size operations plain done p) (known : IsScriptOf size operations) (below : length (answers_of p n) < length (own_of operations n))
    (free : IsFree operations p n (length (answers_of p n))) where
  abbrev next : ℕ
  next = length (answers_of p n)

  abbrev op : Op
  op = operation_at operations n next

  is_node : n < size.nodes
  is_node = (known.each n next below).node

  has_answers : n < length p.answers
  has_answers = let long = stands.fits.nodes in let low = list_below operations n next below in omega arith

  has_port : n < length plain.ports
  has_port = let long = stands.nodes in let low = is_node in omega arith

  none_waits : (o : Option Pending) → waits_at plain n op.line ≡ o → o ≡ None
  none_waits None is = refl
  none_waits (Some pending) is = let from = stands.waits n op.line pending is in absurd (free from.0 from.1 from.2)

  can_issue_next : can_issue plain n op ≡ true
  can_issue_next = grind (arith, stands, is_node, can_issue_by, none_waits)

  issue_waits : (m k : ℕ) (pending : Pending) → waits_at (with_issued plain n op) m k ≡ Some pending → Waiter operations (with_issued_at p n) m k
  issue_waits m k pending is = grind (arith, stands, issued_other, has_answers, waiting_before, cases_eq, issued_here, issued_waits_other, has_port)

  issue_held : (m j : ℕ) → answer_at (with_issued_at p n) m j ≡ answer.Waiting
      → waits_at (with_issued plain n op) m (operation_at operations m j).line ≡ Some (pending_of operations m j)
  issue_held m j is = grind (arith, stands, is_node, pending_of, issued_waits_here, has_port, issued_other, has_answers, issued_waits_other, cases_eq)

  issue_stands : Stands size operations (with_issued plain n op) done (with_issued_at p n)
  issue_stands =
      let changes = issue_changes plain n op has_port in
      let q = with_issued_at p n in
      record {
        size_is = stands.size_is;
        nodes = changes.nodes ∙ stands.nodes;
        lines = λ m low. changes.lines m ∙ stands.lines m low;
        contents = stands.contents;
        eight = stands.eight;
        fits = issued_fits operations p n stands.fits below;
        issued = λ m low. elim (cases_eq m n) [
          | inl e ↦ ap (λ (k : ℕ). (port_at (with_issued plain n op) k).issued) e
              ∙ (changes.here ∙ (ap (λ (k : ℕ). k + 1) (stands.issued n is_node)
              ∙ (sym (issued_length p n has_answers) ∙ ap (λ (k : ℕ). length (answers_of q k)) (sym e))))
          | inr other ↦ ap (λ (x : Port). x.issued) (changes.apart m other)
              ∙ (stands.issued m low ∙ ap (λ (as_ : List Answer). length as_) (sym (issued_apart p n m other)))
        ];
        waits = issue_waits;
        held = issue_held;
        each = λ e has.
            let was = stands.each e has in
            let not_ : (e.node ≡ n) × (e.serial ≡ next) → ⊥ = λ both. (
            let same : length (answers_of p e.node) ≡ next = ap (λ (k : ℕ). length (answers_of p k)) both.0 in
            let at = both.1 in
            let low = was.issued in
            absurd (omega arith)) in
            record {
              issued = elim (cases_eq e.node n) [
                | inl same ↦
                    let long = issued_length p n has_answers in
                    let here : length (answers_of q e.node) ≡ length (answers_of q n) = ap (λ (k : ℕ). length (answers_of q k)) same in
                    let there : length (answers_of p e.node) ≡ next = ap (λ (k : ℕ). length (answers_of p k)) same in
                    let low = was.issued in
                    omega arith
                | inr other ↦ subst (λ (as_ : List Answer). e.serial < length as_) (sym (issued_apart p n e.node other)) was.issued
              ];
              is = record { below = was.is.below; op = was.is.op; reply = issued_other p n e.node e.serial has_answers not_ ∙ was.is.reply };
            };
        all = λ m j low done_. elim (cases_eq m n) [
          | inl e ↦ elim (cases_eq j next) [
            | inl at ↦ absurd (done_ (ap (λ (k : ℕ). answer_at q k j) e ∙ (ap (λ (k : ℕ). answer_at q n k) at ∙ issued_here p n has_answers)))
            | inr off ↦
                let long = issued_length p n has_answers in
                let here : length (answers_of q m) ≡ length (answers_of q n) = ap (λ (k : ℕ). length (answers_of q k)) e in
                let there : length (answers_of p m) ≡ next = ap (λ (k : ℕ). length (answers_of p k)) e in
                stands.all m j (omega arith) (λ is. done_ (issued_other p n m j has_answers (λ both. off both.1) ∙ is))
          ]
          | inr other ↦ stands.all m j (subst (λ (as_ : List Answer). j < length as_) (issued_apart p n m other) low)
              (λ is. done_ (issued_other p n m j has_answers (λ both. other both.0) ∙ is))
        ];
        words = stands.words;
      }

  pub issue_goes : MakesStep size operations plain done p (with_issued_at p n) (event.Issue n op)
  issue_goes =
      let e = event.Issue n op in
      let lt : n < plain.size.nodes = subst (λ (s : Size). n < s.nodes) (sym stands.size_is) is_node in
      let steps = memory_issues plain n op lt can_issue_next in
      let made : plain_made plain e ≡ None = plain_makes plain (with_issued plain n op) e steps in
      let same : done ≡ done ++ option_to_list (plain_made plain e) = sym (append-nil done) ∙ ap (λ (m : Option Entry). done ++ option_to_list m) (sym made) in
      record {
        new = with_issued plain n op;
        steps = steps;
        stands = subst (λ (es : List Entry). Stands size operations (with_issued plain n op) es (with_issued_at p n)) same issue_stands;
        rest = λ m. issued_rest operations p n m has_answers below;
        waits = λ m. issued_waits p n m has_answers;
      }
