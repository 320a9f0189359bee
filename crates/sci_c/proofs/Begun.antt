-- Logs that begin with zeros, and logs that begin with contents that were given.
use Rattle.std.proofs.Common.{◌≡◌, ◌↔◌, ℕ, ◌+◌, ◌<◌, ◌≤◌, List, Option, Some, None, length, replicate, get_or, set, sym, subst, ap, ◌∙◌, arith, inl, inr}
use Rattle.std.proofs.lemmas.{Bool.{cases_eq, cases_lt}, List.{get_or_past, get_or-set_other, get_or-set_same}}
use Rattle.std.specs.Prelude.{IfOk, Result, Ok, Err}
use Rattle.sci_words.specs.{declared.stamped.Stamped.{Stamped}, Stamped.{zero_stamped}}
use Rattle.sci_history.specs.{declared.entry.Entry.{Entry}, declared.verdict.Verdict.{Verdict}, Lawful.{Lawful}, Memory.{stamped_at}}
use Rattle.sci_history.specs.declared.verdict.Verdict.TheVariants as verdicts
use Rattle.sci_history.specs.Sequential.{IsSequentialOrder}
use Rattle.sci_windows.specs.{declared.window_order.WindowOrder.{WindowOrder}, Order.{IsOrderFrom}, Relative.{AreEarly}, Window.{LawfulFrom}}
use Rattle.sci_windows.specs.declared.window_order.WindowOrder.TheVariants as orders
use Rattle.sci_history.specs.declared.verdict.FaultKind.{FaultKind}
use Rattle.sci_windows.specs.CutOff.{IsVerdictCutOff}
use Rattle.sci_c.specs.{Begun.{AreLawfulIn, IsOrderIn}, Journal.{first_or}}

pub lawful_zeros : (first : Option (List Stamped)) (logs : List (List Entry)) (last : List Stamped) → first ≡ None → AreLawfulIn first logs last
    → Lawful logs last
lawful_zeros first logs last is h = subst (λ (f : Option (List Stamped)). AreLawfulIn f logs last) is h

pub lawful_begun : (first : Option (List Stamped)) (logs : List (List Entry)) (last from : List Stamped) → first ≡ Some from → AreLawfulIn first logs last
    → LawfulFrom logs from last
lawful_begun first logs last from is h = subst (λ (f : Option (List Stamped)). AreLawfulIn f logs last) is h

pub order_zeros : (first : Option (List Stamped)) (logs : List (List Entry)) (last : List Stamped) (order : List Entry) → first ≡ None
    → IsSequentialOrder logs last order → IsOrderIn first logs last order
order_zeros first logs last order is h = subst (λ (f : Option (List Stamped)). IsOrderIn f logs last order) (sym is) h

-- what an audit answers of the logs that were asked for
pub audit_zeros : {E : Type 0} (first : Option (List Stamped)) (logs seen : List (List Entry)) (last kept : List Stamped) (found : Result Verdict E)
    → first ≡ None → seen ≡ logs → kept ≡ last → IfOk found (λ verdict. (verdict ≡ verdicts.Lawful) ↔ Lawful seen kept)
    → IfOk found (λ verdict. (verdict ≡ verdicts.Lawful) ↔ AreLawfulIn first logs last)
audit_zeros first logs seen last kept (Ok verdict) is p q h =
    subst (λ (f : Option (List Stamped)). (verdict ≡ verdicts.Lawful) ↔ AreLawfulIn f logs last) (sym is)
    (subst (λ (l : List Stamped). (verdict ≡ verdicts.Lawful) ↔ Lawful logs l) q
    (subst (λ (ls : List (List Entry)). (verdict ≡ verdicts.Lawful) ↔ Lawful ls kept) p h))
audit_zeros first logs seen last kept (Err e) is p q h = h

pub audit_begun : {E : Type 0} (first : Option (List Stamped)) (logs seen : List (List Entry)) (last kept from : List Stamped) (found : Result Verdict E)
    → Some from ≡ first → seen ≡ logs → kept ≡ last → IfOk found (λ verdict. (verdict ≡ verdicts.Lawful) ↔ LawfulFrom seen from kept)
    → IfOk found (λ verdict. (verdict ≡ verdicts.Lawful) ↔ AreLawfulIn first logs last)
audit_begun first logs seen last kept from (Ok verdict) is p q h =
    subst (λ (f : Option (List Stamped)). (verdict ≡ verdicts.Lawful) ↔ AreLawfulIn f logs last) is
    (subst (λ (l : List Stamped). (verdict ≡ verdicts.Lawful) ↔ LawfulFrom logs from l) q
    (subst (λ (ls : List (List Entry)). (verdict ≡ verdicts.Lawful) ↔ LawfulFrom ls from kept) p h))
audit_begun first logs seen last kept from (Err e) is p q h = h

-- logs in which a look for an order finds a fault aren't lawful
pub faulty_begun : (logs seen : List (List Entry)) (first last kept : List Stamped) (found : WindowOrder) (line : ℕ) (kind : FaultKind) (at : Option (ℕ × ℕ))
    → seen ≡ logs → kept ≡ last → found ≡ orders.Fault line kind at → IsOrderFrom seen first kept found → LawfulFrom logs first last → ⊥
faulty_begun logs seen first last kept found line kind at p q r h lawful =
    let fault : IsOrderFrom seen first kept (orders.Fault line kind at) = subst (IsOrderFrom seen first kept) r h in
    fault.unlawful (subst (λ (ls : List (List Entry)). LawfulFrom ls first kept) (sym p) (subst (LawfulFrom logs first) (sym q) lawful) line)

-- what is found of logs that begin with zeros, whatever their last contents are
pub cut_off_zeros : {E : Type 0} (first : Option (List Stamped)) (logs seen : List (List Entry)) (last from : List Stamped) (lines : ℕ)
    (found : Result Verdict E) → None ≡ first → seen ≡ logs → lines ≡ length last → from ≡ replicate lines zero_stamped
    → IfOk found (IsVerdictCutOff seen from) → IfOk found (IsVerdictCutOff logs (first_or (length last) first))
cut_off_zeros first logs seen last from lines (Ok verdict) none is long zeros h =
    subst (λ (f : Option (List Stamped)). IsVerdictCutOff logs (first_or (length last) f) verdict) none
    (subst (λ (n : ℕ). IsVerdictCutOff logs (replicate n zero_stamped) verdict) long
    (subst (λ (fs : List Stamped). IsVerdictCutOff logs fs verdict) zeros
    (subst (λ (ls : List (List Entry)). IsVerdictCutOff ls from verdict) is h)))
cut_off_zeros first logs seen last from lines (Err e) none is long zeros h = h

-- ---- contents line by line

pub early_next : (contents : List Stamped) (i version : ℕ) → version ≡ (stamped_at contents i).version → version ≤ 9223372036854775808
    → ((k : ℕ) → k < i → (stamped_at contents k).version ≤ 9223372036854775808) → (k : ℕ) → k < i + 1
    → (stamped_at contents k).version ≤ 9223372036854775808
early_next contents i version is low before k lt = elim (cases_eq k i) [
  | inl here ↦
      let same : (stamped_at contents k).version ≡ version = ap (λ (n : ℕ). (stamped_at contents n).version) here ∙ sym is in
      omega arith
  | inr other ↦ before k (omega arith)
]

pub early_all : (contents : List Stamped) (lines : ℕ) → lines ≡ length contents
    → ((k : ℕ) → k < lines → (stamped_at contents k).version ≤ 9223372036854775808) → AreEarly contents
early_all contents lines many each line = elim (cases_lt line lines) [
  | inl lt ↦ each line lt
  | inr past ↦
      let none : (stamped_at contents line).version ≡ 0 = ap (λ (s : Stamped). s.version) (get_or_past contents line zero_stamped (omega arith)) in
      omega arith
]

pub copied_next : (contents made : List Stamped) (i : ℕ) (x : Stamped) → i < length made → x ≡ stamped_at contents i
    → ((k : ℕ) → k < i → stamped_at made k ≡ stamped_at contents k) → (k : ℕ) → k < i + 1 → stamped_at (set made i x) k ≡ stamped_at contents k
copied_next contents made i x there is before k lt = elim (cases_eq k i) [
  | inl here ↦
      ap (λ (n : ℕ). get_or (set made i x) n zero_stamped) here ∙ get_or-set_same made i x zero_stamped there ∙ is
      ∙ ap (λ (n : ℕ). stamped_at contents n) (sym here)
  | inr other ↦ get_or-set_other made i k x zero_stamped other ∙ before k (omega arith)
]
