use Rattle.std.proofs.Common.{◌≡◌, List, ℕ, length}
use Rattle.sci_text.specs.Tap.{has_failed, is_called_again, tapped}
use Rattle.sci_command.specs.Writing.{IsPrinted}
use Rattle.scimem.proofs.PacketRuns.{Reads}
use Rattle.scimem.proofs.decode.print_packets.Given as goal

-- the packets that were read, whose lines are printed
abbrev pub invariant-loop-rest : goal.invariant-loop-rest
invariant-loop-rest g l = record {
  printed : (text : List ℕ) × Reads l.input l.rest text
      × IsPrinted (g.W.Write.contents (tapped l.fn.writer)) (g.W.Write.contents (tapped l.writer)) (has_failed l.writer) l.waiting.items text;
  again : is_called_again l.writer ≡ is_called_again l.fn.writer;
}

abbrev pub decreases-loop-rest : goal.decreases-loop-rest
decreases-loop-rest g l = length l.rest
