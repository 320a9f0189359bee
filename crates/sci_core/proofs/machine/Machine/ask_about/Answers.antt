-- If nobody tells and nobody leads, no node has an entry; else somebody's ask is next.
use Rattle.std.proofs.Common.{refl, arith}
use Rattle.sci_core.specs.Rounds.{Joins}
use Rattle.sci_core.proofs.Settling.Resting.{all_out}
use Rattle.sci_core.proofs.machine.Machine.ask_about.Goals as goal

pub returns-in_default-find-clause-none : goal.returns-in_default-find-clause-none
returns-in_default-find-clause-none c = grind (arith, all_out)

pub returns-in-Some-find-2-clause-next : goal.returns-in-Some-find-2-clause-next
returns-in-Some-find-2-clause-next c = Joins c.in-Some-find.head c.in-Some-find.ensures.some c.in-Some-find-2.ensures.some refl
