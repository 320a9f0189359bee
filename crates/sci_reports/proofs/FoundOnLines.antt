-- What is found on lines, one after another.
use Rattle.std.proofs.Common.{◌≡◌, ◌<◌, ℕ, suc, ◌+◌, List, [], ◌∷◌, ◌++◌, length, take, get_or, Option, None, refl, sym, ap, ◌∙◌, subst, arith}
use Rattle.std.proofs.{Common.{append_assoc}, Math.Seq.{take-suc}, lemmas.List.{append-nil, length-take-le}}
use Rattle.sci_words.specs.declared.stamped.Stamped.{Stamped}
use Rattle.sci_history.specs.declared.{entry.Entry.{Entry}, faults.LineFault.{LineFault}}
use Rattle.sci_reports.specs.{declared.finding.Finding.{Finding}, Finding.{AreFindings, AreFoundOn}}

module _ (before : ℕ) (logs : List (List Entry)) (last : List Stamped) where
  abbrev On : ℕ → Option LineFault → List Finding → Type 0
  On = AreFoundOn before logs last

  abbrev All : ℕ → List (Option LineFault) → List Finding → Type 0
  All = AreFindings before logs last

  and_on : (line : ℕ) (faults : List (Option LineFault)) (fault : Option LineFault) (found more : List Finding) → All line faults found
      → On (line + length faults) fault more → All line (faults ++ fault ∷ []) (found ++ more)
  and_on line [] fault found more is on =
      (more, [], subst (λ (n : ℕ). On n fault more) (omega arith) on, refl, ap (λ (l : List Finding). l ++ more) is ∙ sym (append-nil more))
  and_on line (f ∷ fs) fault found more h on = (
    h.0,
    h.1 ++ more,
    h.2,
    and_on (line + 1) fs fault h.1 more h.3 (subst (λ (n : ℕ). On n fault more) (omega arith) on),
    ap (λ (l : List Finding). l ++ more) h.4 ∙ append_assoc h.0 h.1 more,
  )

  -- one line more
  pub line_more : (faults : List (Option LineFault)) (line : ℕ) (fault : Option LineFault) (found more new : List Finding) → line < length faults
      → All 0 (take line faults) found → fault ≡ get_or faults line fault → On line fault more → new ≡ found ++ more
      → All 0 (take (line + 1) faults) new
  line_more faults line fault found more new lt was at on is =
      let taken_so_far : length (take line faults) ≡ line = length-take-le line faults (omega (arith, lt)) in
      let long : 0 + length (take line faults) ≡ line = omega (arith, taken_so_far) in
      let next : line + 1 ≡ suc line = omega arith in
      let taken : take (line + 1) faults ≡ take line faults ++ fault ∷ [] =
      ap (λ (n : ℕ). take n faults) next ∙ take-suc faults line fault lt ∙ ap (λ (f : Option LineFault). take line faults ++ f ∷ []) (sym at) in
      subst (λ (l : List Finding). All 0 (take (line + 1) faults) l) (sym is)
      (subst (λ (fs : List (Option LineFault)). All 0 fs (found ++ more)) (sym taken)
      (and_on 0 (take line faults) fault found more was (subst (λ (n : ℕ). On n fault more) (sym long) on)))

  -- one line more, which has no fault
  pub line_past : (faults : List (Option LineFault)) (line : ℕ) (found : List Finding) → line < length faults → All 0 (take line faults) found
      → None ≡ get_or faults line None → All 0 (take (line + 1) faults) found
  line_past faults line found lt was at =
      line_more faults line None found [] found lt was at refl (sym (append-nil found))
