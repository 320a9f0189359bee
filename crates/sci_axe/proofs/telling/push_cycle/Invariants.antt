use Rattle.std.proofs.Common.{◌≡◌, ◌++◌, drop}
use Rattle.sci_axe.specs.Telling.{links_text}
use Rattle.sci_axe.proofs.telling.push_cycle.Given as goal

-- the lines so far, and those from the link on, are all lines
abbrev pub invariant-loop-next : goal.invariant-loop-next
invariant-loop-next l =
    l.out.items ++ links_text l.accesses l.link (drop l.next-index l.others) l.first.place
    ≡ l.fn.out.items ++ links_text l.accesses l.first l.others l.first.place
