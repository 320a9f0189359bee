-- The figures by name.
use denote.Ref.{Bor}
use Rattle.std.specs.Prelude.{ℕ, List, [], ◌∷◌, codes, count_by, Option, Some, None}
use Rattle.std.specs.List.{range_with_len, sum_by}
use Rattle.sci_packets.specs.{declared.command.Command.{Command}, Table.{command_name}}
use Rattle.sci_statistics.specs.declared.{event_figures.EventFigures.{EventFigures}, levels.Level.TheVariants.{Packets}}
use Rattle.sci_statistics.specs.declared.{line_figures.LineFigures.{LineFigures}, node_figures.NodeFigures.{NodeFigures}, passage.Passage.{Passage}}
use Rattle.sci_statistics.specs.{Levels.{level_figures}, Measures.{has_sent, sends, sent_bytes}}

-- a figure's name, and its value
abbrev pub named : Bor (List ℕ) × ℕ → List ℕ × ℕ
named figure = (figure.0.now, figure.1)

unfoldable pub event_rows : EventFigures → List (List ℕ × ℕ)
event_rows figures =
    (codes "enabled", figures.all.enabled) ∷
    (codes "not_enabled", figures.all.not_enabled) ∷
    (codes "issue.enabled", figures.issue.enabled) ∷
    (codes "issue.not_enabled", figures.issue.not_enabled) ∷
    (codes "perform.enabled", figures.perform.enabled) ∷
    (codes "perform.not_enabled", figures.perform.not_enabled) ∷
    (codes "ask.enabled", figures.ask.enabled) ∷
    (codes "ask.not_enabled", figures.ask.not_enabled) ∷
    (codes "serve.enabled", figures.serve.enabled) ∷
    (codes "serve.not_enabled", figures.serve.not_enabled) ∷
    (codes "refuse.enabled", figures.refuse.enabled) ∷
    (codes "refuse.not_enabled", figures.refuse.not_enabled) ∷
    (codes "reply.enabled", figures.reply.enabled) ∷
    (codes "reply.not_enabled", figures.reply.not_enabled) ∷
    (codes "accept.enabled", figures.accept.enabled) ∷
    (codes "accept.not_enabled", figures.accept.not_enabled) ∷ []

-- a command, and how many packets with it
abbrev pub command_row : List Passage → Command → List ℕ × ℕ
command_row passages command = (command_name command, count_by (sends command) passages)

abbrev pub packet_rows : List Passage → List (List ℕ × ℕ)
packet_rows passages =
    (codes "sent", count_by has_sent passages) ∷
    (codes "bytes", sum_by sent_bytes passages) ∷
    (codes "most_under_way", (level_figures Packets passages).greatest) ∷ []

unfoldable pub line_rows : LineFigures → List (List ℕ × ℕ)
line_rows figures =
    (codes "loads", figures.loads) ∷
    (codes "makers", figures.makers) ∷
    (codes "joins", figures.joins) ∷
    (codes "purges", figures.purges) ∷
    (codes "rollouts", figures.rollouts) ∷
    (codes "write_backs", figures.write_backs) ∷
    (codes "clears", figures.clears) ∷
    (codes "claims", figures.claims) ∷
    (codes "hand_overs", figures.hand_overs) ∷
    (codes "longest_list", figures.members.greatest) ∷ []

unfoldable pub node_rows : NodeFigures → List (List ℕ × ℕ)
node_rows figures =
    (codes "issued", figures.issued) ∷
    (codes "performed", figures.performed) ∷
    (codes "pending", figures.pending) ∷
    (codes "sent", figures.sent) ∷
    (codes "served", figures.served) ∷ []

-- the one that is asked for, or all of this many
abbrev pub shown : Option ℕ → ℕ → List ℕ
shown None count = range_with_len 0 count
shown (Some n) count = n ∷ []
