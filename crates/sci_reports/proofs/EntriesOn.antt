-- The entries of logs on a line of memory, with their lines of the text.
use Rattle.std.proofs.Common.{◌≡◌, ◌<◌, ℕ, ◌+◌, List, [], ◌∷◌, ◌++◌, length, set, take, get_or, Bool, true, false, cond, append_assoc, ◌∙◌, arith, ap}
use Rattle.std.proofs.Common.{inl, inr, refl, sym}
use Rattle.std.proofs.lemmas.Bool.{cases_eq, eq-eqb, ne_eqb}
use Rattle.std.proofs.lemmas.List.{append-nil, length-map, length-take-le, take_more, map-append, map-set, Concat.{flat_map-append}}
use Rattle.std.proofs.lemmas.List.{get_or-map, get_or-set_same, get_or-set_other}
use Rattle.std.proofs.lemmas.List.Elements.{filter-append}
use Rattle.std.proofs.lemmas.Simd.{map-map}
use Rattle.std.specs.{Prelude.{filter, map}, List.{enumerate_from, flat_map}, Global.{Vec}}
use Rattle.sci_history.specs.{declared.entry.Entry.{Entry}, Placed.{is_on_line, log_of, on_line}}
use Rattle.sci_history.proofs.AuditFinds.{no_entry}
use Rattle.sci_text.specs.LogValue.{entry_count}
use Rattle.sci_reports.specs.declared.numbered.Numbered.{Numbered}
use Rattle.sci_reports.specs.EntryLines.{entries_in, numbered_lists, numbered_on, numbering, numberings, on_line_from}

enumerate_append : {X : Type 0} (n : ℕ) (xs ys : List X) → enumerate_from n (xs ++ ys) ≡ enumerate_from n xs ++ enumerate_from (n + length xs) ys
enumerate_append n [] ys = let same : n ≡ n + 0 = omega arith in ap (λ m. enumerate_from m ys) same
enumerate_append n (x ∷ xs) ys =
    let same : n + 1 + length xs ≡ n + length (x ∷ xs) = omega arith in
    ap (λ l. (n, x) ∷ l) (enumerate_append (n + 1) xs ys ∙ ap (λ m. enumerate_from (n + 1) xs ++ enumerate_from m ys) same)

pub on_line_append : (line first : ℕ) (xs ys : List Entry)
    → on_line_from line first (xs ++ ys) ≡ on_line_from line first xs ++ on_line_from line (first + length xs) ys
on_line_append line first xs ys = grind (arith, enumerate_append, filter-append)

-- ---- a log

one_more : (line first : ℕ) (log : List Entry) (k : ℕ) (d : Entry) → k < length log
    → on_line_from line first (take (k + 1) log) ≡ on_line_from line first (take k log) ++ on_line_from line (first + k) (get_or log k d ∷ [])
one_more line first log k d lt =
    let long : length (take k log) ≡ k = length-take-le k log (omega (arith, lt)) in
    ap (on_line_from line first) (take_more log k d lt)
    ∙ (on_line_append line first (take k log) (get_or log k d ∷ [])
    ∙ ap (λ (n : ℕ). on_line_from line first (take k log) ++ on_line_from line (first + n) (get_or log k d ∷ [])) long)

-- one entry more, which is on the line
entry_more : (line first text_line : ℕ) (log : List Entry) (k : ℕ) (d : Entry) (old : List (ℕ × Entry)) (list : List Numbered) (it : Numbered)
    → k < length log → text_line ≡ first + k → numbering it ≡ (text_line, get_or log k d) → is_on_line line (get_or log k d) ≡ true
    → numberings list ≡ old ++ on_line_from line first (take k log)
    → numberings (list ++ it ∷ []) ≡ old ++ on_line_from line first (take (k + 1) log)
entry_more line first text_line log k d old list it lt counted is on was =
    let e = get_or log k d in
    let there : on_line_from line (first + k) (e ∷ []) ≡ (first + k, e) ∷ [] = ap (λ (b : Bool). cond b ((first + k, e) ∷ []) []) on in
    let same : numbering it ≡ (first + k, e) = is ∙ ap (λ (n : ℕ). (n, e)) counted in
    let whole : on_line_from line first (take (k + 1) log) ≡ on_line_from line first (take k log) ++ (first + k, e) ∷ [] =
    one_more line first log k d lt ∙ ap (λ (l : List (ℕ × Entry)). on_line_from line first (take k log) ++ l) there in
    map-append numbering list (it ∷ [])
    ∙ (ap (λ (p : ℕ × Entry). numberings list ++ p ∷ []) same
    ∙ (ap (λ (l : List (ℕ × Entry)). l ++ (first + k, e) ∷ []) was
    ∙ (append_assoc old (on_line_from line first (take k log)) ((first + k, e) ∷ []) ∙ ap (λ (l : List (ℕ × Entry)). old ++ l) (sym whole))))

-- one entry more, which isn't
past : (line first : ℕ) (log : List Entry) (k : ℕ) (old list : List (ℕ × Entry)) → k < length log
    → is_on_line line (get_or log k no_entry) ≡ false → list ≡ old ++ on_line_from line first (take k log)
    → list ≡ old ++ on_line_from line first (take (k + 1) log)
past line first log k old list lt off was =
    let d = no_entry in
    let e = get_or log k d in
    let there : on_line_from line (first + k) (e ∷ []) ≡ [] = ap (λ (b : Bool). cond b ((first + k, e) ∷ []) []) off in
    let whole : on_line_from line first (take (k + 1) log) ≡ on_line_from line first (take k log) =
    one_more line first log k d lt
    ∙ (ap (λ (l : List (ℕ × Entry)). on_line_from line first (take k log) ++ l) there ∙ append-nil (on_line_from line first (take k log))) in
    was ∙ ap (λ (l : List (ℕ × Entry)). old ++ l) (sym whole)

-- the list of the entry's line ends with it, and every other list stays
pub list_more : (lists : List (Vec Numbered)) (log : List Entry) (base : List (ℕ × Entry)) (first text_line k line : ℕ) (old new : Vec Numbered) (it : Numbered)
    → k < length log → text_line ≡ first + k → numbering it ≡ (text_line, get_or log k no_entry) → (get_or log k no_entry).op.line < length lists
    → old ≡ get_or lists (get_or log k no_entry).op.line old → new.items ≡ old.items ++ it ∷ []
    → get_or (numbered_lists lists) line [] ≡ base ++ on_line_from line first (take k log)
    → get_or (numbered_lists (set lists (get_or log k no_entry).op.line new)) line [] ≡ base ++ on_line_from line first (take (k + 1) log)
list_more lists log base first text_line k line old new it lt counted is below was pushed so_far =
    let at_line = (get_or log k no_entry).op.line in
    let f : Vec Numbered → List (ℕ × Entry) = λ list. numberings list.items in
    let there : at_line < length (numbered_lists lists) = rw length-map below in
    rw (map-set f lists at_line new) (
    elim (cases_eq at_line line) [
      | inl own ↦
          let before : f old ≡ base ++ on_line_from line first (take k log) =
          ap f was ∙ sym (get_or-map f lists at_line old [] below) ∙ ap (λ (n : ℕ). get_or (numbered_lists lists) n []) own ∙ so_far in
          let here : get_or (set (numbered_lists lists) at_line (f new)) line [] ≡ f new =
          ap (λ (n : ℕ). get_or (set (numbered_lists lists) at_line (f new)) n []) (sym own)
          ∙ get_or-set_same (numbered_lists lists) at_line (f new) [] there in
          here ∙ ap numberings pushed ∙ entry_more line first text_line log k no_entry base old.items it lt counted is (eq-eqb at_line line own) before
      | inr other ↦
          get_or-set_other (numbered_lists lists) at_line line (f new) [] (λ same. other (sym same))
          ∙ past line first log k base (get_or (numbered_lists lists) line []) lt (ne_eqb at_line line other) so_far
    ])

-- ---- logs

-- the log of one node more
pub log_more : (line before first : ℕ) (logs : List (List Entry)) (n : ℕ) (old new : List (ℕ × Entry)) → n < length logs
    → first ≡ before + entry_count (take n logs) + 1 → old ≡ numbered_on line before (take n logs)
    → new ≡ old ++ on_line_from line first (log_of logs n) → new ≡ numbered_on line before (take (n + 1) logs)
log_more line before first logs n old new lt counted was is =
    let so_far = flat_map (λ log. log) (take n logs) in
    let all : flat_map (λ log. log) (take (n + 1) logs) ≡ so_far ++ log_of logs n =
    ap (flat_map (λ log. log)) (take_more logs n [] lt)
    ∙ (flat_map-append (λ log. log) (take n logs) (get_or logs n [] ∷ []) ∙ ap (λ (l : List Entry). so_far ++ l) (append-nil (get_or logs n []))) in
    let place : first ≡ before + 1 + length so_far = omega (arith, counted) in
    is
    ∙ (ap (λ (l : List (ℕ × Entry)). l ++ on_line_from line first (log_of logs n)) was
    ∙ (ap (λ (k : ℕ). on_line_from line (before + 1) so_far ++ on_line_from line k (log_of logs n)) place
    ∙ (sym (on_line_append line (before + 1) so_far (log_of logs n)) ∙ ap (on_line_from line (before + 1)) (sym all))))

-- the list of a line, as the code takes it from the lists of all lines
pub list_taken : (lists : List (Vec Numbered)) (line : ℕ) (list : Vec Numbered) (is : List (ℕ × Entry)) → line < length lists
    → list ≡ get_or lists line list → get_or (numbered_lists lists) line [] ≡ is → numberings list.items ≡ is
list_taken lists line list is lt at there = grind (arith, get_or-map)

-- the lists of higher lines stay
pub list_stays : (lists : List (Vec Numbered)) (line other : ℕ) (new : Vec Numbered) (is : List (ℕ × Entry)) → line < other
    → get_or (numbered_lists lists) other [] ≡ is → get_or (numbered_lists (set lists line new)) other [] ≡ is
list_stays lists line other new is lt there =
    let f : Vec Numbered → List (ℕ × Entry) = λ list. numberings list.items in
    rw (map-set f lists line new) (get_or-set_other (numbered_lists lists) line other (f new) [] (λ same. absurd (omega (arith, lt, same))) ∙ there)

-- ---- the entries alone

entries_numbered : (p : Entry → Bool) (first : ℕ) (entries : List Entry)
    → map (λ it. it.1) (filter (λ (it : ℕ × Entry). p it.1) (enumerate_from first entries)) ≡ filter p entries
entries_numbered p first [] = refl
entries_numbered p first (e ∷ es) = or_next (p e) (entries_numbered p (first + 1) es)
  where
    or_next : (b : Bool) → map (λ it. it.1) (filter (λ (it : ℕ × Entry). p it.1) (enumerate_from (first + 1) es)) ≡ filter p es
        → map (λ it. it.1) (cond b ((first, e) ∷ filter (λ (it : ℕ × Entry). p it.1) (enumerate_from (first + 1) es))
        (filter (λ (it : ℕ × Entry). p it.1) (enumerate_from (first + 1) es)))
        ≡ cond b (e ∷ filter p es) (filter p es)
    or_next true h = ap (λ l. e ∷ l) h
    or_next false h = h

-- they are the entries on the line of memory
pub entries_on_line : (line before : ℕ) (logs : List (List Entry)) (list : List Numbered) → numberings list ≡ numbered_on line before logs
    → entries_in list ≡ on_line line logs
entries_on_line line before logs list is =
    map-map (λ ref. ref.now) (λ it. it.entry) list ∙ sym (map-map (λ it. it.1) numbering list)
    ∙ ap (map (λ it. it.1)) is ∙ entries_numbered (is_on_line line) (before + 1) (flat_map (λ log. log) logs)
