-- What comes of a result whose fault is told of a line.
use Rattle.std.proofs.{Common.{◌≡◌, ℕ, Result, Ok, Err, sym, ap, subst, ◌∙◌}, lemmas.Option.{none-some, same_Some}}
use Rattle.std.specs.Result.{IfOk, IfErr, IsErrAnd, MatchResult, result_ok, result_err}
use Rattle.sci_text.specs.{declared.fault.{TextFault.{TextFault}, TextFaultKind.{TextFaultKind}}, FirstFault.{IsToldAt}}

-- the contract of `at_line`
abbrev pub IsAtLine : {T : Type 0} → ℕ → Result T TextFaultKind → Result T TextFault → Type 0
IsAtLine line read told = MatchResult read (λ x. told ≡ Ok x) (λ kind. IsErrAnd told (IsToldAt line kind))

pub ok_then : {T : Type 0} (line : ℕ) (read : Result T TextFaultKind) (told : Result T TextFault) (P : T → Type 0) (y : T) → IsAtLine line read told
    → told ≡ Ok y → IfOk read P → P y
ok_then line (Ok x) told P y at is holds = subst P (same_Some x y (ap result_ok (sym at ∙ is))) holds
ok_then line (Err kind) (Ok z) P y at is holds = absurd at
ok_then line (Err kind) (Err fault) P y at is holds = absurd (none-some y (ap result_ok is))

-- the fault is of a kind of which P holds
pub err_then : {T : Type 0} (line : ℕ) (read : Result T TextFaultKind) (told : Result T TextFault) (P : TextFaultKind → Type 0) (fault : TextFault)
    → IsAtLine line read told → told ≡ Err fault → IfErr read P → (kind : TextFaultKind) × P kind × IsToldAt line kind fault
err_then line (Ok x) told P fault at is holds = absurd (none-some fault (ap result_err (sym at ∙ is)))
err_then line (Err kind) (Ok z) P fault at is holds = absurd at
err_then line (Err kind) (Err other) P fault at is holds = (kind, holds, subst (IsToldAt line kind) (same_Some other fault (ap result_err is)) at)
