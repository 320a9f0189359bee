use Rattle.std.proofs.Common.{◌≡◌, ◌++◌, drop}
use Rattle.sci_axe.specs.Telling.{turn_text}
use Rattle.sci_axe.proofs.telling.push_round.Given as goal

-- the lines so far, and those from the place on, are all lines
abbrev pub invariant-loop-next : goal.invariant-loop-next
invariant-loop-next l =
    l.out.items ++ turn_text l.accesses l.place (drop l.next-index l.through) l.maker ≡ l.fn.out.items ++ turn_text l.accesses l.maker l.through l.maker
