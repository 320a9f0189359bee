-- A history in a window, and that of the same entries in a memory that begins with zeros.
use Rattle.std.proofs.Common.{◌≡◌, ℕ, zero, suc, ◌+◌, ◌<◌, ◌≤◌, List, [], ◌∷◌, length, map, refl, sym, ap, subst, ◌∙◌, arith}
use Rattle.std.proofs.lemmas.Bool.{cases_lt}
use Rattle.sci_words.specs.{declared.stamped.Stamped.{Stamped}, Stamped.{after}}
use Rattle.sci_history.specs.{declared.entry.Entry.{Entry}, History.{IsHistory}, Memory.{stamped_at}}
use Rattle.sci_history.proofs.{Histories.{version-end, version-grows}, Runs.{same_stamped}}
use Rattle.sci_windows.specs.Relative.{relative_to, relative_stamped, relative_contents, counted_from}
use Rattle.sci_windows.proofs.Swaps.{right_step, back_step, after_step, long_after, counted_after, counted_before, relative_line_same}

pub to_relative : (first : Stamped) (es : List Entry) (old new : Stamped) → IsHistory es old new → first.version ≤ old.version
    → length first.line ≡ length old.line → IsHistory (map (relative_to first) es) (relative_stamped first old) (relative_stamped first new)
to_relative first [] old new h le long = ap (relative_stamped first) h
to_relative first (e ∷ es) old new h le long =
    let mid = after old e.op in
    let step = after_step first old e le long h.0 in
    let grows = version-grows old e.op in
    let rest = to_relative first es mid new h.2 (omega arith) (long ∙ sym (long_after old e)) in (
      right_step first old.line e long h.0,
      ap (counted_from first.version) h.1 ∙ sym (ap (λ (s : Stamped). s.version) step),
      subst (λ (s : Stamped). IsHistory (map (relative_to first) es) s (relative_stamped first new)) (sym step) rest,
    )

-- the end of a history whose relative one ends so
pub record IsBack (first : Stamped) (es : List Entry) (old end : Stamped) : Type 0 where
  pub new : Stamped
  pub history : IsHistory es old new
  pub same : relative_stamped first new ≡ end
  pub long : length first.line ≡ length new.line
  pub low : first.version ≤ new.version

-- a version that is counted low is none before the first
back_version : (first version counted : ℕ) → counted_from first version ≡ counted → counted + first < 18446744073709551616
    → version ≡ counted + first
back_version first version counted e low = grind (arith, cases_lt, counted_before, counted_after)

pub from_relative : (first : Stamped) (es : List Entry) (old end : Stamped) → IsHistory (map (relative_to first) es) (relative_stamped first old) end
    → first.version ≤ old.version → length first.line ≡ length old.line → end.version + first.version < 18446744073709551616 → IsBack first es old end
from_relative first [] old end h le long low = record { new = old; history = refl; same = sym h; long = long; low = le }
from_relative first (e ∷ es) old end h le long low =
    let mid = after old e.op in
    let right = back_step first old.line e long h.0 in
    let step = after_step first old e le long right in
    let grows = version-grows old e.op in
    let rest : IsHistory (map (relative_to first) es) (relative_stamped first mid) end =
    subst (λ (s : Stamped). IsHistory (map (relative_to first) es) s end) step h.2 in
    let below = version-end (map (relative_to first) es) (relative_stamped first mid) end rest in
    let more = from_relative first es mid end rest (omega arith) (long ∙ sym (long_after old e)) low in
    let at_mid = counted_after first.version mid.version (omega arith) in
    let counted : counted_from first.version e.version ≡ counted_from first.version mid.version = h.1 ∙ ap (λ (s : Stamped). s.version) step in
    let is = back_version first.version e.version (counted_from first.version mid.version) counted (omega arith) in
    let version : e.version ≡ mid.version = omega arith in
    record { new = more.new; history = (right, version, more.history); same = more.same; long = more.long; low = more.low }

-- contents whose relative ones are the same
pub same_contents : (first a b : Stamped) → relative_stamped first a ≡ relative_stamped first b → length first.line ≡ length a.line
    → length first.line ≡ length b.line → first.version ≤ a.version → (relative_stamped first b).version + first.version < 18446744073709551616 → a ≡ b
same_contents first a b e long_a long_b low few = grind (arith, counted_after, back_version, same_stamped, relative_line_same)

pub relative_at : (first contents : List Stamped) (line : ℕ) → length first ≡ length contents
    → stamped_at (relative_contents first contents) line ≡ relative_stamped (stamped_at first line) (stamped_at contents line)
relative_at [] [] line long = refl
relative_at [] (s ∷ contents) line long = absurd (omega arith)
relative_at (f ∷ first) [] line long = absurd (omega arith)
relative_at (f ∷ first) (s ∷ contents) zero long = refl
relative_at (f ∷ first) (s ∷ contents) (suc line) long = relative_at first contents line (omega arith)

pub relative_long : (first contents : List Stamped) → length first ≡ length contents → length (relative_contents first contents) ≡ length contents
relative_long [] contents long = refl
relative_long (f ∷ first) [] long = refl
relative_long (f ∷ first) (s ∷ contents) long = let rest = relative_long first contents (omega arith) in omega arith
