use Rattle.std.proofs.lemmas.Result.{on_ok_weaker}
use Rattle.sci_statistics.specs.StatsAnswer.{packets_text}
use Rattle.sci_command.proofs.Joined.{joined}
use Rattle.sci_statistics.proofs.figures.push_packets.Goals as goal

pub returns : goal.returns
unfolding packets_text
returns c =
    let rows = rw c.packet_rows.ensures at c.in_ok-push_figures.ensures in
    on_ok_weaker c.push_commands.result (λ rest. joined c.args.out.now.items _ _ _ _ rows rest) c.push_commands.ensures
