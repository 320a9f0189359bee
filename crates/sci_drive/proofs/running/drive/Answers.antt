use Rattle.std.proofs.Common.{arith}
use Rattle.std.specs.Prelude.{Result, Ok, Err, IfOk}
use Rattle.sci_drive.proofs.{GateCalls.{calls_of, told_once}, Drives.{log_of, whole_of}}
use Rattle.sci_drive.proofs.running.drive.Goals as goal

pub returns-clause-named : goal.returns-clause-named
returns-clause-named g c = grind (arith, log_of)

pub returns-clause-whole : goal.returns-clause-whole
returns-clause-whole g c = grind (arith, whole_of)

-- what holds of a run, and of one that has finished from two facts of one
both : {A E : Type 0} (r : Result A E) (f R : A → Type 0) (P D T : Type 0) → IfOk r (λ a. (f a → P) × R a) → IfOk r (λ a. f a → D) → (D → T)
    → IfOk r (λ a. (f a → T × P) × R a)
both (Ok a) f R P D T p d t = (λ h. (t (d h), p.0 h), p.1)
both (Err e) f R P D T p d t = tt

pub returns-clause-calls : goal.returns-clause-calls
returns-clause-calls g c = grind (arith, calls_of, both, told_once)

pub returns-clause-rounds : goal.returns-clause-rounds
returns-clause-rounds g c = grind arith
