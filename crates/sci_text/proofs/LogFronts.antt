-- The front of a log grows by the lines that are read.
use Rattle.std.proofs.Common.{◌≡◌, ℕ, zero, suc, ◌+◌, ◌<◌, ◌≤◌, List, [], ◌∷◌, ◌++◌, length, Option, Some, None, refl, sym, ap, subst, ◌∙◌, append_assoc}
use Rattle.std.proofs.{Common.{arith, inl, inr, ◌⊎◌}, Math.ListN.{set}, lemmas.Bool.{cases_eq}}
use Rattle.std.proofs.lemmas.List.{append-nil, length-append, length-set, get_or-set_same, get_or-set_other}
use Rattle.std.proofs.lemmas.List.{Elements.{All-push, All-same}, Concat.{flat_map-append}}
use Rattle.std.specs.{Prelude.{codes, All}, List.{flat_map}}
use Rattle.sci_words.specs.declared.limits.TheConstants.{MAX_NODES, MAX_LINES, WORDS_PER_LINE}
use Rattle.sci_words.specs.declared.stamped.Stamped.{Stamped}
use Rattle.sci_history.specs.{declared.entry.Entry.{Entry}, Placed.{log_of}}
use Rattle.sci_text.specs.declared.{log_form.Form.{Form}, fault.{TextFault.{TextFault}, TextFaultKind.{TextFaultKind}}}
use Rattle.sci_text.specs.{declared.fault.TextFaultKind.TheVariants.{Syntax, Memory}, FirstFault.{IsRefusal, IsToldAt}}
use Rattle.sci_text.specs.{Number.{number, field}, Log.{last_line, last_lines, issue_text, entry_line, entry_lines}}
use Rattle.sci_text.specs.LogValue.{StampedFits, EntryFits, Front, front_of, IsFront, IsForm, HasAllLines, HasRoom, HasNoExtra, first_line, front_text}
use Rattle.sci_text.specs.{LogValue.{entry_count, BeginsLog}, LogFault.{first_lines, LogLineFault, IsLogFault}}
use Rattle.sci_text.specs.LogReading.{BeginsLast, NoLast, IsRefusalAfter, AddsLast, AddsEntry, IsLatest, no_logs}
use Rattle.sci_text.proofs.{FirstFaults.{line_fault_is, told_at}, LogFaults.{neither}}

-- ---- `last` lines

last_lines-push : (first : ℕ) (last : List Stamped) (stamped : Stamped)
    → last_lines first (last ++ stamped ∷ []) ≡ last_lines first last ++ last_line (first + length last) stamped
last_lines-push first [] stamped = let same : first + 0 ≡ first = omega arith in
    append-nil (last_line first stamped) ∙ ap (λ (n : ℕ). last_line n stamped) (sym same)
last_lines-push first (s ∷ last) stamped =
    let same : first + 1 + length last ≡ first + suc (length last) = omega arith in
    ap (λ (t : List ℕ). last_line first s ++ t) (last_lines-push (first + 1) last stamped)
    ∙ sym (append_assoc (last_line first s) (last_lines (first + 1) last) (last_line (first + 1 + length last) stamped))
    ∙ ap (λ (n : ℕ). (last_line first s ++ last_lines (first + 1) last) ++ last_line n stamped) same

last_nonempty : (line : ℕ) (stamped : Stamped) → 4 ≤ length (last_line line stamped)
unfolding last_line
last_nonempty line stamped = omega arith

pub last_shrinks : (form : Form) (old new : List Stamped) (bytes rest : List ℕ) → AddsLast form old new bytes rest → length rest < length bytes
last_shrinks form old new bytes rest h =
    omega (arith, ap length h.parts, length-append (last_line (length old) h.stamped) rest, last_nonempty (length old) h.stamped)

pub last_goes_on : (form : Form) (all : List ℕ) (old new : List Stamped) (bytes rest : List ℕ) → all ≡ last_lines 0 old ++ bytes
    → AddsLast form old new bytes rest → all ≡ last_lines 0 new ++ rest
last_goes_on form all old new bytes rest so_far h = grind (arith, append_assoc, last_lines-push)

abbrev pub GoodLast : Stamped → Type 0
GoodLast stamped = (length stamped.line ≡ WORDS_PER_LINE) × StampedFits stamped

-- a form with no entries
pub record IsFrontOf (form : Form) (contents : List Stamped) : Type 0 where
  pub last : All GoodLast contents
  pub few : length contents ≤ MAX_LINES
  pub no_extra : HasNoExtra form.lines (length contents)

no_log : (node : ℕ) → log_of no_logs node ≡ []
no_log node = grind arith

all_none : (P : Entry → Type 0) (log : List Entry) → log ≡ [] → All P log
all_none P log e = λ k d lt. absurd (omega (arith, ap length e))

pub front_of_last : (form : Form) (last : List Stamped) → IsForm form → IsFrontOf form last → IsFront (front_of form last no_logs)
front_of_last form last good h = grind (arith, all_none, no_log)

one_more : (lines : Option ℕ) (old new : ℕ) → HasRoom lines old → new ≡ old + 1 → HasNoExtra lines new
one_more None old new room more = tt
one_more (Some lines) old new room more = omega arith

pub last_front_more : (form : Form) (old new : List Stamped) (bytes rest : List ℕ) → IsFrontOf form old → AddsLast form old new bytes rest → IsFrontOf form new
last_front_more form old new bytes rest h a = rw a.added (record {
  last = All-push GoodLast old a.stamped h.last (a.eight, a.fits);
  few = let few = a.few in omega (arith, length-append old (a.stamped ∷ []));
  no_extra = one_more form.lines (length old) (length (old ++ a.stamped ∷ [])) a.room (length-append old (a.stamped ∷ []));
})

-- ---- faults

pub refusal_at : (kind : TextFaultKind) (input : List ℕ) (fault : TextFault) (line : ℕ) (front : Front) (rest : List ℕ) → IsToldAt line kind fault
    → IsFront front → input ≡ front_text front ++ rest → (front.form.lines ≡ None → BeginsLog input → ⊥)
    → (0 < length rest) ⊎ (HasAllLines front.form.lines (length front.last) → ⊥)
    → line ≡ first_lines front.form.lines + length front.last + entry_count front.logs + 1 → (kind ≡ Memory) ⊎ LogLineFault front rest kind
    → IsRefusal IsLogFault input fault
refusal_at kind input fault line front rest at good parts first goes_on place faulty = grind (arith, told_at, line_fault_is)

-- a faulty `last` line
pub last_refused : (form : Form) (last : List Stamped) (bytes rest : List ℕ) (kind : TextFaultKind) (line : ℕ) (fault : TextFault) → IsForm form
    → IsFrontOf form last → bytes ≡ last_lines 0 last ++ rest → BeginsLast rest → IsToldAt line kind fault
    → (kind ≡ Memory) ⊎ LogLineFault (front_of form last no_logs) rest kind → line ≡ first_lines form.lines + length last + 1 → IsRefusalAfter form bytes fault
last_refused form last bytes rest kind line fault good h parts begins at faulty place = λ input is first.
    let front = front_of form last no_logs in
    let some : 0 < length rest = omega (arith, ap length begins.1, length-append (codes "last") begins.0) in
    let whole : input ≡ front_text front ++ rest = is ∙ ap (λ (t : List ℕ). first_line form ++ t) parts ∙ simp (append_assoc, append-nil) in
    refusal_at kind input fault line front rest at (front_of_last form last good h) whole first (inl some) (omega (arith, place)) faulty

pub last_begins : (line : ℕ) (stamped : Stamped) (rest : List ℕ) → BeginsLast (last_line line stamped ++ rest)
unfolding last_line
last_begins line stamped rest = (_, append_assoc (codes "last") _ rest)

pub no_last_here : (front : Front) (bytes : List ℕ) → (BeginsLast bytes → ⊥) → NoLast front bytes
no_last_here front bytes no_more = λ line stamped h. no_more (subst BeginsLast (sym h.says.parts) (last_begins line stamped h.says.rest))

-- too few `last` lines
pub few_refused : (form : Form) (last : List Stamped) (bytes rest : List ℕ) (line : ℕ) (fault : TextFault) → IsForm form → IsFrontOf form last
    → bytes ≡ last_lines 0 last ++ rest → (BeginsLast rest → ⊥) → (HasAllLines form.lines (length last) → ⊥)
    → IsToldAt line Syntax fault → line ≡ first_lines form.lines + length last + 1 → IsRefusalAfter form bytes fault
few_refused form last bytes rest line fault good h parts no_more few at place = λ input is first.
    let front = front_of form last no_logs in
    let whole : input ≡ front_text front ++ rest = is ∙ ap (λ (t : List ℕ). first_line form ++ t) parts ∙ simp (append_assoc, append-nil) in
    refusal_at Syntax input fault line front rest at (front_of_last form last good h) whole first (inr few) (omega (arith, place))
    (inr (neither front rest (no_last_here front rest no_more) (λ entry s. few s.place.whole)))

-- ---- entries

none_after : (logs : List (List Entry)) → ((node : ℕ) → log_of logs node ≡ []) → flat_map (λ log. log) logs ≡ []
none_after [] h = refl
none_after (log ∷ logs) h = rw (h 0) (none_after logs (λ node. h (suc node)))

entry_lines-none : (logs : List (List Entry)) → ((node : ℕ) → log_of logs node ≡ []) → entry_lines logs ≡ []
entry_lines-none [] h = refl
entry_lines-none (log ∷ logs) h = rw (h 0) (entry_lines-none logs (λ node. h (suc node)))

pub entry_lines-push : (logs : List (List Entry)) (node : ℕ) (entry : Entry) → node < length logs → ((other : ℕ) → node < other → log_of logs other ≡ [])
    → entry_lines (set logs node (log_of logs node ++ entry ∷ [])) ≡ entry_lines logs ++ entry_line entry
entry_lines-push [] node entry lt none = absurd (omega arith)
entry_lines-push (log ∷ logs) zero entry lt none =
    let after = entry_lines-none logs (λ node. none (suc node) (omega arith)) in
    let own : flat_map entry_line (log ++ entry ∷ []) ≡ flat_map entry_line log ++ entry_line entry =
    flat_map-append entry_line log (entry ∷ []) ∙ ap (λ (t : List ℕ). flat_map entry_line log ++ t) (append-nil (entry_line entry)) in
    rw (own, after) (simp append-nil)
entry_lines-push (log ∷ logs) (suc node) entry lt none =
    rw (entry_lines-push logs node entry (omega arith) (λ other above. none (suc other) (omega arith)))
    (sym (append_assoc (flat_map entry_line log) (entry_lines logs) (entry_line entry)))

pub entry_count-push : (logs : List (List Entry)) (node : ℕ) (entry : Entry) → node < length logs
    → entry_count (set logs node (log_of logs node ++ entry ∷ [])) ≡ entry_count logs + 1
entry_count-push [] node entry lt = absurd (omega arith)
entry_count-push (log ∷ logs) zero entry lt = grind (arith, length-append)
entry_count-push (log ∷ logs) (suc node) entry lt =
    let more = entry_count-push logs node entry (omega arith) in
    let new = flat_map (λ (l : List Entry). l) (set logs node (log_of logs node ++ entry ∷ [])) in
    let old = flat_map (λ (l : List Entry). l) logs in
    omega (arith, more, length-append log new, length-append log old)

some_between : (a b c : List ℕ) (x : ℕ) → 1 ≤ length ((a ++ x ∷ b) ++ c)
some_between a b c x = omega (arith, length-append (a ++ x ∷ b) c, length-append a (x ∷ b))

pub entry_nonempty : (entry : Entry) → 1 ≤ length (entry_line entry)
unfolding entry_line issue_text field
entry_nonempty entry = some_between (number entry.node) _ _ 32

pub entry_shrinks : (form : Form) (lines : ℕ) (old new : List (List Entry)) (latest now : ℕ) (bytes rest : List ℕ)
    → AddsEntry form lines old new latest now bytes rest → length rest < length bytes
entry_shrinks form lines old new latest now bytes rest h = omega (arith, ap length h.parts, length-append (entry_line h.entry) rest, entry_nonempty h.entry)

pub front_none : (form : Form) (last : List Stamped) → IsFront (front_of form last no_logs) → IsLatest no_logs 0
front_none form last h = record { none_above = λ other lt. no_log other; some = λ lt. absurd (omega arith) }

pub node_below : (form : Form) → IsForm form → form.nodes ≤ MAX_NODES
node_below form (inl e) = rw e (omega arith)
node_below form (inr h) = h.2.few_nodes

pub few_below : (form : Form) (last : List Stamped) (logs : List (List Entry)) (entry : Entry) → IsFront (front_of form last logs)
    → EntryFits form (length last) entry → entry.node < length logs
few_below form last logs entry h fits = let few = node_below form h.form in let node = fits.numbers.node in let sixteen = h.sixteen in omega arith

-- the front with one entry more
pub front_more : (form : Form) (last : List Stamped) (old new : List (List Entry)) (latest now : ℕ) (bytes rest : List ℕ) → IsFront (front_of form last old)
    → HasAllLines form.lines (length last) → AddsEntry form (length last) old new latest now bytes rest
    → IsFront (front_of form last new)
front_more form last old new latest now bytes rest h whole a =
    let node = a.entry.node in
    let log = log_of old node in
    let below = few_below form last old a.entry h a.fits in
    let same : (n : ℕ) → n ≡ node → log_of new n ≡ log ++ a.entry ∷ [] =
    λ n e. ap (λ (ls : List (List Entry)). log_of ls n) a.added ∙ ap (log_of (set old node (log ++ a.entry ∷ []))) e
    ∙ get_or-set_same old node (log ++ a.entry ∷ []) [] below in
    let other : (n : ℕ) → (n ≡ node → ⊥) → log_of new n ≡ log_of old n =
    λ n ne. ap (λ (ls : List (List Entry)). log_of ls n) a.added ∙ get_or-set_other old node n (log ++ a.entry ∷ []) [] ne in
    record {
      form = h.form;
      last = h.last;
      few_lines = h.few_lines;
      no_extra = h.no_extra;
      last_first = λ some. whole;
      sixteen = ap length a.added ∙ length-set old node (log ++ a.entry ∷ []) ∙ h.sixteen;
      own = λ n. elim (cases_eq n node) [
        | inl e ↦ All-same (λ x. x.node ≡ n) (log_of new n) (log ++ a.entry ∷ []) (same n e)
            (All-push (λ x. x.node ≡ n) log a.entry (subst (λ (m : ℕ). All (λ x. x.node ≡ n) (log_of old m)) e (h.own n)) (sym e))
        | inr ne ↦ All-same (λ x. x.node ≡ n) (log_of new n) (log_of old n) (other n ne) (h.own n)
      ];
      entries = λ n. elim (cases_eq n node) [
        | inl e ↦ All-same (EntryFits form (length last)) (log_of new n) (log ++ a.entry ∷ []) (same n e)
            (All-push (EntryFits form (length last)) log a.entry (h.entries node) a.fits)
        | inr ne ↦ All-same (EntryFits form (length last)) (log_of new n) (log_of old n) (other n ne) (h.entries n)
      ];
      few_entries = λ n. elim (cases_eq n node) [
        | inl e ↦ let room = a.room in omega (arith, ap length (same n e), length-append log (a.entry ∷ []))
        | inr ne ↦ let few = h.few_entries n in omega (arith, ap length (other n ne))
      ];
    }

pub latest_more : (form : Form) (last : List Stamped) (old new : List (List Entry)) (latest now : ℕ) (bytes rest : List ℕ) → IsFront (front_of form last old)
    → IsLatest old latest → AddsEntry form (length last) old new latest now bytes rest → IsLatest new now
latest_more form last old new latest now bytes rest h is a = grind (arith, few_below, get_or-set_same, get_or-set_other, length-append)

pub count_more : (form : Form) (last : List Stamped) (old new : List (List Entry)) (latest now : ℕ) (bytes rest : List ℕ) → IsFront (front_of form last old)
    → AddsEntry form (length last) old new latest now bytes rest → entry_count new ≡ entry_count old + 1
count_more form last old new latest now bytes rest h a =
    ap entry_count a.added ∙ entry_count-push old a.entry.node a.entry (few_below form last old a.entry h a.fits)

pub no_last_after : (front : Front) (bytes : List ℕ) (count : ℕ) → entry_count front.logs ≡ count + 1 → NoLast front bytes
no_last_after front bytes count e = λ line stamped h. let first = h.place.first in absurd (omega arith)
