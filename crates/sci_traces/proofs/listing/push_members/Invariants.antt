use Rattle.std.proofs.Common.{◌≡◌, ◌++◌, take}
use Rattle.std.specs.List.{flat_map}
use Rattle.sci_traces.specs.ListsAnswer.{member_text}
use Rattle.sci_traces.proofs.listing.push_members.Given as goal

-- the members so far
abbrev pub invariant-loop-n : goal.invariant-loop-n
invariant-loop-n l = l.out.items ≡ l.fn.out.items ++ flat_map (member_text l.machine l.line) (take l.n-index l.nodes)
