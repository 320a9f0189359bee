use Rattle.std.proofs.Common.{ℕ, [], ap, ◌∙◌, ◌<◌}
use Rattle.sci_words.specs.declared.limits.TheConstants.{WORDS_PER_LINE}
use Rattle.sci_history.specs.Audit.{entries_of, first_failing, is_version_missing}
use Rattle.sci_history.proofs.AuditLines.{versions_low, all_placed}
use Rattle.sci_history.proofs.faults.fault_among.Goals as goal

pub placed-requires-clause-versions : goal.placed-requires-clause-versions
placed-requires-clause-versions c = versions_low (entries_of c.args.entries.now)
    (c.in_default-missing.ensures ∙ ap (λ (n : ℕ). first_failing (is_version_missing n) [] (entries_of c.args.entries.now)) c.makers-makers.ensures)

pub replayed-requires : goal.replayed-requires
replayed-requires c =
    all_placed (λ entry. entry.op.word < WORDS_PER_LINE) (entries_of c.args.entries.now) (entries_of c.deref.result.now)
    (ap entries_of c.deref.ensures.value ∙ c.in_ok-placed.ensures) c.requires.words
