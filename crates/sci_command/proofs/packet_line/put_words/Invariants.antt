use Rattle.std.proofs.Common.{◌≡◌, ◌≤◌, ◌+◌, ◌-◌, ◌*◌, ◌++◌, drop, length}
use Rattle.std.specs.List.{flat_map}
use Rattle.sci_text.specs.Number.{field}
use Rattle.sci_command.proofs.packet_line.put_words.Given as goal

-- the last words so far
abbrev pub invariant-loop-done : goal.invariant-loop-done
invariant-loop-done l = record {
  written : l.end ≡ flat_map field (drop (8 - l.done) l.words) ++ l.initial.end;
  short : length l.end ≤ 21 * l.done + length l.initial.end;
}
