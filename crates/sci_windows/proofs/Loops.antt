-- Steps of the loops that make a window's relative logs and contents.
use Rattle.std.proofs.Common.{◌≡◌, ◌↔◌, ℕ, suc, ◌+◌, ◌<◌, ◌≤◌, List, [], ◌∷◌, length, map, get_or, set, refl, sym, ap, subst, ◌∙◌, arith}
use Rattle.std.proofs.lemmas.{Bool.{cases_eq, cases_lt}, List.{ext_get_or, get_or_past, get_or-set_same, get_or-set_other, length-map}}
use Rattle.std.specs.Prelude.{All, IfOk, Result, Ok, Err}
use Rattle.sci_words.specs.declared.{limits.TheConstants.{WORDS_PER_LINE}, stamped.Stamped.{Stamped}}
use Rattle.sci_words.specs.Stamped.{zero_stamped}
use Rattle.sci_history.specs.{declared.entry.Entry.{Entry}, declared.verdict.Verdict.{Verdict}, Audit.{AreWithin, IsVerdict}, Lawful.{Lawful}}
use Rattle.sci_history.specs.{Memory.{stamped_at}, Placed.{AreOwn, log_of}}
use Rattle.sci_history.specs.declared.verdict.Verdict.TheVariants as verdicts
use Rattle.sci_windows.specs.Relative.{AreFew, AreLines, relative_contents, relative_entry, relative_line, relative_logs, relative_stamped, swapped}
use Rattle.sci_windows.specs.{Fault.{IsVerdictFrom}, Window.{LawfulFrom}}
use Rattle.sci_windows.proofs.Reductions.{log_at, own_relative, within_relative}
use Rattle.sci_windows.proofs.Relatives as relatives
use Rattle.sci_windows.proofs.Swaps as swaps
use Rattle.sci_windows.proofs.Verdicts.{IsWindow, window_lawful, window_verdict}

-- one element more is as wanted
pub set_next : {X : Type 0} (xs : List X) (i : ℕ) (x d : X) (f : ℕ → X) → i < length xs → x ≡ f i → ((k : ℕ) → k < i → get_or xs k d ≡ f k)
    → (k : ℕ) → k < i + 1 → get_or (set xs i x) k d ≡ f k
set_next xs i x d f there is before k lt = grind (arith, cases_eq, get_or-set_same, get_or-set_other)

-- of one number more it holds
pub holds_next : (P : ℕ → Type 0) (i : ℕ) → P i → ((k : ℕ) → k < i → P k) → (k : ℕ) → k < i + 1 → P k
holds_next P i here before k lt = grind (arith, cases_eq)

line_long : (first words : List ℕ) → length (relative_line first words) ≡ length words
line_long [] words = refl
line_long (f ∷ first) [] = refl
line_long (f ∷ first) (w ∷ words) = ap suc (line_long first words)

pub line_is : (first words made : List ℕ) → length first ≡ WORDS_PER_LINE → length words ≡ WORDS_PER_LINE → length made ≡ length words
    → ((k : ℕ) → k < WORDS_PER_LINE → get_or made k 0 ≡ swapped (get_or first k 0) (get_or words k 0)) → made ≡ relative_line first words
line_is first words made long_first long_words long each =
    ext_get_or 0 made (relative_line first words) (long ∙ sym (line_long first words))
    (λ k lt. each k (omega arith) ∙ sym (swaps.relative_at first words k (long_first ∙ sym long_words)))

pub contents_are : (first contents made : List Stamped) → length first ≡ length contents → length made ≡ length contents
    → ((k : ℕ) → k < length contents → stamped_at made k ≡ relative_stamped (stamped_at first k) (stamped_at contents k))
    → made ≡ relative_contents first contents
contents_are first contents made long same each =
    ext_get_or zero_stamped made (relative_contents first contents) (same ∙ sym (relatives.relative_long first contents long))
    (λ k lt. each k (omega arith) ∙ sym (relatives.relative_at first contents k long))

-- each line has its words, those that there are and the zero line
pub lines_are : (contents : List Stamped) (lines : ℕ) → lines ≡ length contents
    → ((k : ℕ) → k < lines → length (stamped_at contents k).line ≡ WORDS_PER_LINE) → AreLines contents
lines_are contents lines long each line = grind (arith, cases_lt, get_or_past)

pub logs_are : (first : List Stamped) (logs made : List (List Entry)) → length made ≡ length logs
    → ((node : ℕ) → node < length logs → log_of made node ≡ map (relative_entry first) (log_of logs node)) → made ≡ relative_logs first logs
logs_are first logs made long each =
    ext_get_or [] made (relative_logs first logs) (long ∙ sym (length-map logs (map (relative_entry first))))
    (λ node lt. each node (omega arith) ∙ sym (log_at first logs node))

pub own_log : (first : List Stamped) (logs : List (List Entry)) (node : ℕ) → AreOwn logs
    → All (λ (e : Entry). e.node ≡ node) (map (relative_entry first) (log_of logs node))
own_log first logs node own = subst (All (λ (e : Entry). e.node ≡ node)) (log_at first logs node) (own_relative first logs own node)

pub few_all : (logs : List (List Entry)) (nodes : ℕ) → nodes ≡ length logs → ((node : ℕ) → node < nodes → length (log_of logs node) ≤ 4294967296) → AreFew logs
few_all logs nodes many each node = grind (arith, cases_lt, get_or_past)

-- ---- what an audit is given, and what it answers

pub audit_within : (first last : List Stamped) (logs relative : List (List Entry)) (contents : List Stamped) → relative ≡ relative_logs first logs
    → contents ≡ relative_contents first last → length first ≡ length last → AreWithin (length last) logs → AreWithin (length contents) relative
audit_within first last logs relative contents is are long within =
    let lines : length contents ≡ length last = ap length are ∙ relatives.relative_long first last long in
    subst (λ (n : ℕ). AreWithin n relative) (sym lines) (subst (AreWithin (length last)) (sym is) (within_relative first (length last) logs within))

pub verdict_is : {E : Type 0} (first last : List Stamped) (logs relative : List (List Entry)) (contents : List Stamped) (found : Result Verdict E)
    → IsWindow logs first last → relative ≡ relative_logs first logs → contents ≡ relative_contents first last
    → IfOk found (IsVerdict relative contents) → IfOk found (IsVerdictFrom logs first last)
verdict_is first last logs relative contents (Ok verdict) w is are h = grind (arith, window_verdict)
verdict_is first last logs relative contents (Err e) w is are h = h

pub lawful_is : {E : Type 0} (first last : List Stamped) (logs relative : List (List Entry)) (contents : List Stamped) (found : Result Verdict E)
    → IsWindow logs first last → relative ≡ relative_logs first logs → contents ≡ relative_contents first last
    → IfOk found (λ verdict. (verdict ≡ verdicts.Lawful) ↔ Lawful relative contents)
    → IfOk found (λ verdict. (verdict ≡ verdicts.Lawful) ↔ LawfulFrom logs first last)
lawful_is first last logs relative contents (Ok verdict) w is are h =
    window_lawful logs first last (verdict ≡ verdicts.Lawful) w
    (subst (λ (cs : List Stamped). (verdict ≡ verdicts.Lawful) ↔ Lawful (relative_logs first logs) cs) are
    (subst (λ (ls : List (List Entry)). (verdict ≡ verdicts.Lawful) ↔ Lawful ls contents) is h))
lawful_is first last logs relative contents (Err e) w is are h = h
