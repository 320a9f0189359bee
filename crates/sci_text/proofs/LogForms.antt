-- The first line of a log: it has one fault, and two fronts of the same bytes have one form.
use Rattle.std.proofs.Common.{◌≡◌, ℕ, ◌<◌, ◌≤◌, ◌^◌, List, ◌++◌, length, get_or, None, refl, sym, ap, subst, ◌∙◌, append_assoc, arith, inl, inr}
use Rattle.std.proofs.lemmas.Option.{none-some, some_pair_parts}
use Rattle.sci_words.specs.declared.stamped.Stamped.{Stamped}
use Rattle.sci_history.specs.declared.entry.Entry.{Entry}
use Rattle.sci_text.specs.declared.{log_form.Form.{Form}, fault.TextFaultKind.{TextFaultKind}}
use Rattle.sci_text.specs.Log.{log_line, last_lines, entry_lines}
use Rattle.sci_text.specs.LogValue.{format_1, format_2, IsSize, IsForm, HasAllLines, BeginsLog}
use Rattle.sci_text.specs.{LogReading.{BeginsLast, log_line_read}, LogFault.{SizeFault}, FirstFault.{Says}}
use Rattle.sci_text.specs.Reading.{fitting}
use Rattle.sci_text.proofs.{FirstFaults.{SaysOne, one_line_fault, no_line_fault}, Numbers.{fitting_some, fitting_below}}
use Rattle.sci_text.proofs.{LogReads.{SizeSaid, log_line_again}, LogShort.{size_short}}
use Rattle.sci_text.proofs.LogUnique.{begins_last, text_of, apart}

-- ---- the first line

log_or_last : (bytes : List ℕ) → BeginsLog bytes → BeginsLast bytes → ⊥
log_or_last bytes a b = apart 111 97 (ap (λ (l : List ℕ). get_or l 1 0) (sym a.1 ∙ b.1)) (omega arith)

pub log_begins : (n m : ℕ) (r : List ℕ) → BeginsLog (log_line n m ++ r)
unfolding log_line
log_begins n m r = (_, refl)

record SameSizes (n m k l : ℕ) (r u : List ℕ) : Type 0 where
  nodes : n ≡ k
  lines : m ≡ l
  rest : r ≡ u

-- a size that is read where a size within the limits is written
same_sizes : (n m k l : ℕ) (r u : List ℕ) → IsSize k l → log_line n m ++ r ≡ log_line k l ++ u → SameSizes n m k l r u
same_sizes n m k l r u size e =
    let parts = some_pair_parts {A = SizeSaid} (fitting n, fitting m) (fitting k, fitting l) r u
    (sym (log_line_again n m r) ∙ (ap log_line_read e ∙ log_line_again k l u)) in
    let nodes : k < 2 ^ 64 = omega (arith, size.few_nodes) in
    let lines : l < 2 ^ 64 = omega (arith, size.few_lines) in
    record {
      nodes = fitting_some n k (ap (λ (t : SizeSaid). t.0) parts.0 ∙ fitting_below k nodes);
      lines = fitting_some m l (ap (λ (t : SizeSaid). t.1) parts.0 ∙ fitting_below l lines);
      rest = parts.1;
    }

text_last : (f : Form) (last : List Stamped) (logs : List (List Entry)) → f ≡ format_1 → HasAllLines f.lines (length last) → BeginsLast (text_of f last logs)
text_last f last logs q whole =
    let some : 1 ≤ length last = subst (λ (h : Form). HasAllLines h.lines (length last)) q whole in
    subst (λ (h : Form). BeginsLast (text_of h last logs)) (sym q) (begins_last last (entry_lines logs) some)

abbrev pub behind : List Stamped → List (List Entry) → List ℕ → List ℕ
behind last logs rest = (last_lines 0 last ++ entry_lines logs) ++ rest

text_log : (f : Form) (lines : ℕ) (last : List Stamped) (logs : List (List Entry)) (input rest : List ℕ) → f ≡ format_2 f.nodes lines
    → input ≡ text_of f last logs ++ rest → input ≡ log_line f.nodes lines ++ behind last logs rest
text_log f lines last logs input rest q is =
    is ∙ ap (λ (h : Form). text_of h last logs ++ rest) q ∙ append_assoc (log_line f.nodes lines) (last_lines 0 last ++ entry_lines logs) rest

-- in format 1 there is no first line
abbrev pub IsFirst : Form → List ℕ → Type 0
IsFirst f input = f.lines ≡ None → BeginsLog input → ⊥

abbrev says_size : List ℕ → ℕ × ℕ → Type 0
says_size bytes size = Says bytes (log_line size.0 size.1)

abbrev is_size : ℕ × ℕ → Type 0
is_size size = IsSize size.0 size.1

one_size : (bytes : List ℕ) → SaysOne (says_size bytes) is_size
one_size bytes a b f size g = grind (arith, same_sizes)

-- the line of a size within the limits has no fault
size_of_2 : (n m : ℕ) (input rest : List ℕ) (kind : TextFaultKind) → IsSize n m → input ≡ log_line n m ++ rest → SizeFault input kind → ⊥
size_of_2 n m input rest kind size is fault =
    no_line_fault (says_size input) is_size (λ s. ⊥) (one_size input) (n, m) (record { rest = rest; parts = is; short = size_short n m size }) size (λ no. no)
    kind fault.1

pub size_right : (f : Form) (last : List Stamped) (logs : List (List Entry)) (input rest : List ℕ) (kind : TextFaultKind) → IsForm f → IsFirst f input
    → input ≡ text_of f last logs ++ rest → SizeFault input kind → ⊥
size_right f last logs input rest kind (inl q) first is fault = first (ap (λ (h : Form). h.lines) q) fault.0
size_right f last logs input rest kind (inr q) first is fault =
    size_of_2 f.nodes q.0 input (behind last logs rest) kind q.2 (text_log f q.0 last logs input rest q.1 is) fault

-- two fronts of the same bytes have one form
pub same_forms : (f g : Form) (x y : List Stamped) (old logs : List (List Entry)) (input r t : List ℕ) → IsForm f → IsForm g → IsFirst f input → IsFirst g input
    → input ≡ text_of f x old ++ r → input ≡ text_of g y logs ++ t
    → (f ≡ g) × (behind x old r ≡ behind y logs t)
same_forms f g x y old logs input r t (inl p) (inl q) first other before is =
    (p ∙ sym q, ap (λ (h : Form). text_of h x old ++ r) (sym p) ∙ (sym before ∙ (is ∙ ap (λ (h : Form). text_of h y logs ++ t) q)))
same_forms f g x y old logs input r t (inl p) (inr q) first other before is =
    absurd (first (ap (λ (h : Form). h.lines) p) (subst BeginsLog (sym (text_log g q.0 y logs input t q.1 is)) (log_begins g.nodes q.0 (behind y logs t))))
same_forms f g x y old logs input r t (inr p) (inl q) first other before is =
    absurd (other (ap (λ (h : Form). h.lines) q) (subst BeginsLog (sym (text_log f p.0 x old input r p.1 before)) (log_begins f.nodes p.0 (behind x old r))))
same_forms f g x y old logs input r t (inr p) (inr q) first other before is =
    let same = same_sizes f.nodes p.0 g.nodes q.0 (behind x old r) (behind y logs t) q.2
    (sym (text_log f p.0 x old input r p.1 before) ∙ text_log g q.0 y logs input t q.1 is) in
    (p.1 ∙ ap (λ (n : ℕ). format_2 n p.0) same.nodes ∙ ap (λ (m : ℕ). format_2 g.nodes m) same.lines ∙ sym q.1, same.rest)

pub whole_first : (f : Form) (last : List Stamped) (logs : List (List Entry)) (input : List ℕ) → IsForm f → HasAllLines f.lines (length last)
    → input ≡ text_of f last logs → IsFirst f input
whole_first f last logs input (inl q) whole is = λ none begins. log_or_last input begins (subst BeginsLast (sym is) (text_last f last logs q whole))
whole_first f last logs input (inr q) whole is = λ none begins. none-some q.0 (sym none ∙ ap (λ (h : Form). h.lines) q.1)

pub one_size_fault : (bytes : List ℕ) (k j : TextFaultKind) → SizeFault bytes k → SizeFault bytes j → k ≡ j
one_size_fault bytes k j f g = one_line_fault (says_size bytes) is_size (λ s. ⊥) (one_size bytes) k j f.1 g.1
