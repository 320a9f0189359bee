use Rattle.std.proofs.Common.{sym, ap, subst, ◌∙◌}
use Rattle.sci_windows.specs.Relative.{AreEarly}
use Rattle.sci_c.specs.Journal.{JournalOf}
use Rattle.sci_c.proofs.journal.Journal.go_on.Goals as goal

pub returns-then-not-are_early-clause-late : goal.returns-then-not-are_early-clause-late
returns-then-not-are_early-clause-late c = λ e early.
    let here = c.are_early.ensures.1 (subst AreEarly (sym (c.deref.ensures ∙ ap (λ (journal : JournalOf). journal.last) c.self.view_is)) early) in
    let not_ = c.if-not-are_early.true in
    absurd cc
