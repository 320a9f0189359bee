-- The text of a log has no line with a fault, and bytes have one first line that is faulty in a log, and one fault there.
use Rattle.std.proofs.Common.{◌≡◌, ℕ, ◌<◌, List, [], length, Result, Ok, Err, sym, ap, subst, ◌∙◌, arith, inl, inr, ◌⊎◌}
use Rattle.std.proofs.lemmas.List.{append-nil}
use Rattle.std.specs.Prelude.{IfOk, IfErr}
use Rattle.sci_words.specs.declared.stamped.Stamped.{Stamped}
use Rattle.sci_history.specs.declared.entry.Entry.{Entry}
use Rattle.sci_text.specs.declared.{log_form.Form.{Form}, fault.{TextFault.{TextFault}, TextFaultKind.{TextFaultKind}}}
use Rattle.sci_text.specs.FirstFault.{IsRefusal, GivesOnly, HasNoFault}
use Rattle.sci_text.specs.LogValue.{Front, front_of, IsFront, HasAllLines, IsLogs}
use Rattle.sci_text.specs.LogFault.{BeginsFront, HasMore, line_count, SaysNext, NextFits, HasNoRoomFor, LogLineFault, SizeFault, IsLogFault}
use Rattle.sci_text.proofs.FirstFaults.{IsFaultless, Meets, IsGrammar, one_line_fault, one_first_fault, no_first_fault, read_as}
use Rattle.sci_text.proofs.{LogUnique.{OnePartition}, LogMeets.{OwnEntries, meet_fronts, one_log_line}}
use Rattle.sci_text.proofs.LogForms.{one_size_fault, size_right, same_forms, whole_first}

-- ---- one fault of a line

one_fault_here : (front : Front) (bytes : List ℕ) (k j : TextFaultKind) → IsFront front → LogLineFault front bytes k → LogLineFault front bytes j → k ≡ j
one_fault_here front bytes k j good f g =
    one_line_fault (SaysNext front bytes) (NextFits front) (HasNoRoomFor front) (one_log_line front bytes good.form good.few_lines) k j f g

-- ---- the first faulty line

-- two fronts of the same bytes are one, or one goes on from the other
log_meets : OnePartition → OwnEntries → (input : List ℕ) (v w : Front) (r t : List ℕ) → BeginsFront input v r → BeginsFront input w t
    → Meets LogLineFault v w r t
log_meets one own input v w r t f g =
    let same = same_forms v.form w.form v.last w.last v.logs w.logs input r t f.good.form g.good.form f.first g.first f.parts g.parts in
    let here : IsFront (front_of w.form v.last v.logs) = subst (λ (h : Form). IsFront (front_of h v.last v.logs)) same.0 f.good in
    elim (meet_fronts own w.form v.last w.last v.logs w.logs r t here g.good same.1) [
      | inl is ↦
          let entries : v.logs ≡ w.logs = one v.logs w.logs f.good.own g.good.own f.good.sixteen g.good.sixteen is.entries in
          inl (
            ap (λ (h : Form). front_of h v.last v.logs) same.0 ∙ ap (λ (l : List Stamped). front_of w.form l v.logs) is.last
                ∙ ap (λ (ls : List (List Entry)). front_of w.form w.last ls) entries,
            is.rest,
          )
      | inr goes ↦
          elim goes [
            | inl right ↦ inr (inl (subst (λ (h : Form). IsFaultless LogLineFault (front_of h v.last v.logs) r) (sym same.0) right))
            | inr right ↦ inr (inr right)
          ]
    ]

grammar : OnePartition → OwnEntries → IsGrammar SizeFault BeginsFront LogLineFault
grammar one own = record {
  one_opening = one_size_fault;
  opened = λ input k v r fault h. size_right v.form v.last v.logs input r k h.good.form h.first h.parts fault;
  one_fault = λ input v r k j h f g. one_fault_here v r k j h.good f g;
  meets = log_meets one own;
}

-- the input is the lines of a front, and nothing else
whole_text : (input : List ℕ) (nodes : ℕ) (logs : List (List Entry)) (last : List Stamped) → (h : IsLogs input nodes logs last)
    → BeginsFront input (front_of h.0 last logs) []
whole_text input nodes logs last h = grind (arith, append-nil, whole_first)

pub one_log : OnePartition → OwnEntries → (input : List ℕ) (n m : ℕ) (a b : List (List Entry)) (x y : List Stamped) → IsLogs input n a x → IsLogs input m b y
    → (n ≡ m) × (a ≡ b) × (x ≡ y)
one_log one own input n m a b x y h k =
    elim (log_meets one own input (front_of h.0 x a) (front_of k.0 y b) [] [] (whole_text input n a x h) (whole_text input m b y k)) [
      | inl same ↦ (
        sym h.1.nodes_is ∙ ap (λ (f : Front). f.form.nodes) same.0 ∙ k.1.nodes_is,
        ap (λ (f : Front). f.logs) same.0,
        ap (λ (f : Front). f.last) same.0,
      )
      | inr goes ↦
          elim goes [
            | inl right ↦ absurd (none_behind right.some)
            | inr right ↦ absurd (none_behind right.some)
          ]
    ]
  where
    none_behind : 0 < length {A = ℕ} [] → ⊥
    none_behind some = absurd (omega arith)

pub one_log_fault : OnePartition → OwnEntries → (input : List ℕ) (l m : ℕ) (k j : TextFaultKind) → IsLogFault input l k → IsLogFault input m j
    → (l ≡ m) × (k ≡ j)
one_log_fault one own input l m k j f g = one_first_fault SizeFault BeginsFront HasMore line_count LogLineFault (grammar one own) input l m k j f g

pub no_log_fault : OnePartition → OwnEntries → (input : List ℕ) (nodes : ℕ) (logs : List (List Entry)) (last : List Stamped) (line : ℕ) (kind : TextFaultKind)
    → IsLogs input nodes logs last → IsLogFault input line kind → ⊥
no_log_fault one own input nodes logs last line kind h fault =
    no_first_fault SizeFault BeginsFront HasMore line_count LogLineFault (grammar one own) input (front_of h.0 last logs) (whole_text input nodes logs last h)
    (ended h.0 last h.1.whole) line kind fault
  where
    ended : (f : Form) (last : List Stamped) → HasAllLines f.lines (length last) → (0 < length {A = ℕ} []) ⊎ (HasAllLines f.lines (length last) → ⊥) → ⊥
    ended f last whole (inl some) = absurd (omega arith)
    ended f last whole (inr few) = few whole

-- what comes of a log's text in memory
abbrev Log : Type 0
Log = ℕ × List (List Entry) × List Stamped

abbrev OneLog : Type 0
OneLog = (input : List ℕ) (n m : ℕ) (a b : List (List Entry)) (x y : List Stamped) → IsLogs input n a x → IsLogs input m b y → (n ≡ m) × (a ≡ b) × (x ≡ y)

abbrev NoLogFault : Type 0
NoLogFault = (input : List ℕ) (nodes : ℕ) (logs : List (List Entry)) (last : List Stamped) → IsLogs input nodes logs last → HasNoFault IsLogFault input

pub log_read_as : OneLog → NoLogFault
    → (input bytes : List ℕ) (nodes : ℕ) (logs : List (List Entry)) (last : List Stamped) (result : Result (ℕ × List (List Entry) × List Stamped) TextFault)
    → IsLogs input nodes logs last → bytes ≡ input
    → IfOk result (λ x. IsLogs bytes x.0 x.1 x.2) → IfErr result (IsRefusal IsLogFault bytes)
    → GivesOnly {T = ℕ × List (List Entry) × List Stamped} (nodes, logs, last) result
log_read_as one none input bytes nodes logs last result is same text fault =
    read_as IsLogFault bytes (λ line kind f. none bytes nodes logs last here line kind f) (nodes, logs, last) result (read_is result text) fault
  where
    here : IsLogs bytes nodes logs last
    here = subst (λ (l : List ℕ). IsLogs l nodes logs last) (sym same) is

    value_of : ℕ → List (List Entry) → List Stamped → Log
    value_of n ls l = (n, ls, l)

    read_is : (result : Result Log TextFault) → IfOk result (λ x. IsLogs bytes x.0 x.1 x.2) → IfOk {T = Log} result (λ read. read ≡ (nodes, logs, last))
    read_is (Ok read) text =
        let is_one = one bytes read.0 nodes read.1 logs read.2 last text here in
        ap (λ (n : ℕ). value_of n read.1 read.2) is_one.0 ∙ ap (λ (ls : List (List Entry)). value_of nodes ls read.2) is_one.1
        ∙ ap (value_of nodes logs) is_one.2
    read_is (Err f) text = tt
