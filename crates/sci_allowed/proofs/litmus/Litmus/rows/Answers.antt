-- The outcomes with one window, with those of runs in order to compare.
use Rattle.std.proofs.Common.{ℕ, sym, subst}
use Rattle.sci_allowed.{proofs.Allowing.{are_rows}, specs.Allowed.{AreAllowed, AreRows}}
use Rattle.sci_drive.specs.Rounds.{most_pending}
use Rattle.sci_allowed.proofs.litmus.Litmus.rows.Goals as goal

pub returns-clause-rows : goal.returns-clause-rows
returns-clause-rows c =
    let script = c.args.self.now.script in
    let window = most_pending c.args.issuing in
    let all = subst (λ (w : ℕ). AreAllowed script w c.in_ok-outcomes.outcomes.items) c.window_of.ensures c.in_ok-outcomes.ensures.allowed in
    let some = subst (AreAllowed script 1) (sym c.deref.ensures.value) c.in_ok-in_order.ensures.allowed in
    subst (AreRows script window) (sym c.in_ok-tagged.ensures) (are_rows script window c.in_ok-outcomes.outcomes.items c.deref.result.now all some)
