use Rattle.std.proofs.Common.{◌≡◌, None}
use Rattle.sci_runs.specs.{Played.{Played}, Players.{moment_of}}
use Rattle.sci_runs.proofs.table.Table.go_on.Given as goal

abbrev pub invariant-loop-turn : goal.invariant-loop-turn
invariant-loop-turn l = record {
  recorded : l.self.recorder.lost ≡ None;
  script : l.self.script ≡ l.fn.self.script;
  issuing : l.self.issuing ≡ l.fn.self.issuing;
  played : Played l.fn.self.script.nodes l.turn l.fn.order (moment_of l.fn.self) l.order (moment_of l.self);
}
