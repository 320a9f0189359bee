use Rattle.sci_fair.proofs.ReadSteps.{drained_reads, opening_reads, turn_reads, work_reads}
use Rattle.sci_fair.proofs.turns.turns_answer_reads.Goals as goal

pub returns : goal.returns
returns c = record {
  first = opening_reads;
  drained = drained_reads;
  turns = λ core new before after n e reached fit some own steps. turn_reads core new n before after e reached fit some own steps;
  works = work_reads;
}
