-- A text is of one log.
use Rattle.std.proofs.Common.{◌≡◌, ℕ, suc, ◌<◌, ◌≤◌, List, [], ◌∷◌, ◌++◌, length, Option, Some, None, refl, sym, ap, subst, ◌∙◌, append_assoc, arith}
use Rattle.std.proofs.lemmas.List.{Concat.{flat_map-append}, Elements.{recursion_from_All}}
use Rattle.std.proofs.lemmas.Option.{some_pair_parts, same_Some}
use Rattle.std.specs.{Prelude.{All}, List.{flat_map, AllByRecursion}, Option.{SomeIff}}
use Rattle.sci_words.specs.declared.{limits.TheConstants.{MAX_NODES}, stamped.Stamped.{Stamped}}
use Rattle.sci_history.specs.{declared.entry.Entry.{Entry}, Placed.{log_of, AreOwn}}
use Rattle.sci_text.specs.{declared.log_form.Form.{Form}, Log.{last_line, last_lines, entry_line, entry_lines}}
use Rattle.sci_text.specs.LogValue.{StampedFits, Answers, EntryFits, front_of, IsFront, front_text}
use Rattle.sci_text.specs.{LogReading.{BeginsLast, last_line_read}, Reading.{fitting}}
use Rattle.sci_text.proofs.{LogReads.{LastSaid, last_line_again, EntryReads}, LogFaults.{fits_reads}}
use Rattle.sci_text.proofs.LogFronts.{GoodLast, last_begins}

-- two values of which the first fits, if the same was read of them
pub both_same : {A : Type 0} (o p : Option A) (P Q : Type 0) (x y : A) → P → SomeIff o P x → SomeIff p Q y → o ≡ p → x ≡ y
both_same None p P Q x y h a b e = absurd (a h)
both_same (Some w) None P Q x y h a b e = absurd cc
both_same (Some w) (Some z) P Q x y h a b e = sym a.1 ∙ same_Some w z e ∙ b.1

-- ---- the last contents

pub same_last : (line : ℕ) (s t : Stamped) (r u : List ℕ) → GoodLast s → GoodLast t → last_line line s ++ r ≡ last_line line t ++ u → (s ≡ t) × (r ≡ u)
same_last line s t r u good other e =
    let a = last_line_again line s r good.0 in
    let b = last_line_again line t u other.0 in
    let parts = some_pair_parts {A = LastSaid} (fitting line, a.0) (fitting line, b.0) r u (sym a.1 ∙ (ap last_line_read e ∙ b.1)) in
    (both_same a.0 b.0 (StampedFits s) (StampedFits t) s t good.1 a.2 b.2 (ap (λ (x : LastSaid). x.1) parts.0), parts.1)

-- ---- the entries

abbrev pub same_log : List Entry → List Entry
same_log log = log

abbrev pub GoodEntry : Entry → Type 0
GoodEntry entry = Answers entry.op.act entry.reply × EntryReads entry

pub all_in : (P : Entry → Type 0) (logs : List (List Entry)) → ((node : ℕ) → All P (log_of logs node)) → AllByRecursion P (flat_map same_log logs)
all_in P [] h = tt
all_in P (log ∷ logs) h = joined log (flat_map same_log logs) (recursion_from_All P log (h 0)) (all_in P logs (λ node. h (suc node)))
  where
    joined : (xs ys : List Entry) → AllByRecursion P xs → AllByRecursion P ys → AllByRecursion P (xs ++ ys)
    joined [] ys a b = b
    joined (x ∷ xs) ys a b = (a.0, joined xs ys a.1 b)

pub all_lines : (logs : List (List Entry)) → entry_lines logs ≡ flat_map entry_line (flat_map same_log logs)
all_lines [] = refl
all_lines (log ∷ logs) = ap (λ (t : List ℕ). flat_map entry_line log ++ t) (all_lines logs) ∙ sym (flat_map-append entry_line log (flat_map same_log logs))

pub weaker : (P Q : Entry → Type 0) → ((e : Entry) → P e → Q e) → (es : List Entry) → AllByRecursion P es → AllByRecursion Q es
weaker P Q f [] h = tt
weaker P Q f (e ∷ es) h = (f e h.0, weaker P Q f es h.1)

pub good_entries : (form : Form) (logs : List (List Entry)) (last : List Stamped) → IsFront (front_of form last logs)
    → AllByRecursion GoodEntry (flat_map same_log logs)
good_entries form logs last h =
    weaker (EntryFits form (length last)) GoodEntry (λ e fits. (fits.answers, fits_reads (front_of form last logs) e h.form h.few_lines fits))
    (flat_map same_log logs) (all_in (EntryFits form (length last)) logs h.entries)

-- what stands behind the first line
abbrev pub OnePartition : Type 0
OnePartition = (a b : List (List Entry)) → AreOwn a → AreOwn b → length a ≡ MAX_NODES → length b ≡ MAX_NODES → flat_map same_log a ≡ flat_map same_log b → a ≡ b

-- ---- the first line

pub begins_last : (x : List Stamped) (r : List ℕ) → 1 ≤ length x → BeginsLast (last_lines 0 x ++ r)
begins_last [] r some = absurd (omega arith)
begins_last (s ∷ x) r some = subst BeginsLast (sym (append_assoc (last_line 0 s) (last_lines 1 x) r)) (last_begins 0 s (last_lines 1 x ++ r))

pub apart : (n m : ℕ) → n ≡ m → m < n → ⊥
apart n m e lt = absurd (omega arith)

abbrev pub text_of : Form → List Stamped → List (List Entry) → List ℕ
text_of form last logs = front_text (front_of form last logs)
