-- One thing more in a turn, and stages that are the same.
use Rattle.std.proofs.Common.{◌≡◌, ◌+◌, ℕ, suc, List, arith, subst}
use Rattle.sci_c_values.specs.declared.packet.SciPacket.{SciPacket}
use Rattle.sci_c.specs.{declared.controller.Controller.{Controller}, Turning.{Stage, UpTo, stage}}

pub one_more : (One : ℕ → Stage → Stage → Type 0) (i : ℕ) (old mid new : Stage) → UpTo One i old mid → One i mid new → UpTo One (i + 1) old new
one_more One i old mid new far step =
    let next : suc i ≡ i + 1 = omega arith in
    subst (λ (n : ℕ). UpTo One n old new) next (mid, far, step)

pub same_stage : {c d : Controller} {marks others : List ℕ} {room rest : List SciPacket} {used n : ℕ} → c ≡ d → marks ≡ others → room ≡ rest → used ≡ n
    → stage c marks room used ≡ stage d others rest n
same_stage p q r s = cc
