-- Entries that are put into the lists of their lines.
use Rattle.std.proofs.Common.{◌≡◌, ℕ, ◌+◌, ◌<◌, List, [], ◌∷◌, ◌++◌, length, get_or, set, take, sym, ap, ◌∙◌, append_assoc, arith, inl, inr}
use Rattle.std.proofs.lemmas.Bool.{cases_eq, eq-eqb, ne_eqb}
use Rattle.std.proofs.lemmas.List.{append-nil, length-map, map-append, map-set, get_or-map, get_or-set_same, get_or-set_other, take_more}
use Rattle.std.proofs.lemmas.List.Elements.{filter-append}
use Rattle.std.specs.{List.{filter, flat_map}, Global.{Vec}}
use denote.Ref.{Bor}
use Rattle.sci_history.specs.{declared.entry.Entry.{Entry}, Placed.{is_on_line, on_line}, Audit.{entries_of, lists_of}}
use Rattle.sci_history.proofs.{Order.{filter_yes, filter_no}, AuditFinds.{no_entry}}

abbrev same_log : List Entry → List Entry
same_log log = log

-- the front of a log is one entry longer
front_more : (log : List Entry) (i line : ℕ) → i < length log
    → filter (is_on_line line) (take (i + 1) log) ≡ filter (is_on_line line) (take i log) ++ filter (is_on_line line) (get_or log i no_entry ∷ [])
front_more log i line lt =
    ap (filter (is_on_line line)) (take_more log i no_entry lt) ∙ filter-append (is_on_line line) (take i log) (get_or log i no_entry ∷ [])

-- the list of the entry's line ends with it, and every other list stays
pub list_more : (lists : List (Vec (Bor Entry))) (log base : List Entry) (i line : ℕ) (old new : Vec (Bor Entry)) (ref : Bor Entry) → i < length log
    → ref.now ≡ get_or log i no_entry → ref.now.op.line < length lists
    → old ≡ get_or lists ref.now.op.line old → new.items ≡ old.items ++ ref ∷ []
    → get_or (lists_of lists) line [] ≡ base ++ filter (is_on_line line) (take i log)
    → get_or (lists_of (set lists ref.now.op.line new)) line [] ≡ base ++ filter (is_on_line line) (take (i + 1) log)
list_more lists log base i line old new ref lt at below was pushed h =
    let entry = ref.now in
    let at_line = entry.op.line in
    let f : Vec (Bor Entry) → List Entry = λ list. entries_of list.items in
    let there : at_line < length (lists_of lists) = rw length-map below in
    let more = front_more log i line lt ∙ ap (λ (e : Entry). filter (is_on_line line) (take i log) ++ filter (is_on_line line) (e ∷ [])) (sym at) in
    rw (map-set f lists at_line new, more) (
    elim (cases_eq at_line line) [
      | inl own ↦
          let grown : f new ≡ get_or (lists_of lists) line [] ++ entry ∷ [] =
          ap entries_of pushed ∙ map-append (λ (r : Bor Entry). r.now) old.items (ref ∷ [])
          ∙ ap (λ (es : List Entry). es ++ entry ∷ [])
          (ap f was ∙ sym (get_or-map f lists at_line old [] below) ∙ ap (λ (n : ℕ). get_or (lists_of lists) n []) own) in
          let here : get_or (set (lists_of lists) at_line (f new)) line [] ≡ f new =
          ap (λ (n : ℕ). get_or (set (lists_of lists) at_line (f new)) n []) (sym own) ∙ get_or-set_same (lists_of lists) at_line (f new) [] there in
          let one : filter (is_on_line line) (entry ∷ []) ≡ entry ∷ [] = filter_yes (is_on_line line) entry [] (eq-eqb at_line line own) in
          here ∙ grown ∙ ap (λ (es : List Entry). es ++ entry ∷ []) h ∙ append_assoc base (filter (is_on_line line) (take i log)) (entry ∷ [])
          ∙ ap (λ (es : List Entry). base ++ (filter (is_on_line line) (take i log) ++ es)) (sym one)
      | inr other ↦
          let none : filter (is_on_line line) (entry ∷ []) ≡ [] = filter_no (is_on_line line) entry [] (ne_eqb at_line line other) in
          get_or-set_other (lists_of lists) at_line line (f new) [] (λ is. other (sym is)) ∙ h
          ∙ ap (λ (es : List Entry). base ++ es) (sym (append-nil (filter (is_on_line line) (take i log))))
          ∙ ap (λ (es : List Entry). base ++ (filter (is_on_line line) (take i log) ++ es)) (sym none)
    ])

-- ---- all logs

-- the entries on a line of the first logs
abbrev pub front_on_line : ℕ → ℕ → List (List Entry) → List Entry
front_on_line line nodes logs = filter (is_on_line line) (flat_map same_log (take nodes logs))

-- the list of a line, as the code reads it from the lists of all lines
pub list_at : (lists : List (Vec (Bor Entry))) (logs : List (List Entry)) (line lines : ℕ) (list : Vec (Bor Entry)) (refs : List (Bor Entry))
    → length lists ≡ lines → line < lines → list ≡ get_or lists line list → refs ≡ list.items
    → ((l : ℕ) → l < lines → get_or (lists_of lists) l [] ≡ on_line l logs) → entries_of refs ≡ on_line line logs
list_at lists logs line lines list refs long lt at is each = grind (arith, get_or-map)
