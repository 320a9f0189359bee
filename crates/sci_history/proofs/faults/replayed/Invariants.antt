use Rattle.std.proofs.Common.{◌≡◌, take}
use Rattle.sci_history.specs.Audit.{entries_of, is_reply_wrong, words_after}
use Rattle.sci_history.proofs.AuditFinds.{FailsLater}
use Rattle.sci_history.proofs.faults.replayed.Given as goal

-- the words are those after the entries so far, whose replies are right
abbrev pub invariant-loop-entry : goal.invariant-loop-entry
invariant-loop-entry l = record {
  words : l.line ≡ words_after (take l.entry-index (entries_of l.placed));
  right : FailsLater is_reply_wrong l.placed l.entry-index;
}
