use Rattle.std.proofs.Common.{◌≡◌, ℕ, List, length, ap, subst, sym, ◌∙◌}
use Rattle.std.proofs.lemmas.List.FromFn.{length-map-range_with_len}
use Rattle.sci_history.specs.{declared.entry.Entry.{Entry}, Audit.{AreWithin}, Lawful.{Lawful}}
use Rattle.sci_core.specs.Sharing.{last_at, last_of}
use Rattle.sci_c.proofs.machine.journal_in.Goals as goal

pub of-requires-clause-within : goal.of-requires-clause-within
of-requires-clause-within c =
    let core = c.args.machine.now in
    let long : length c.put_last.new.last ≡ core.size.lines =
    ap length c.put_last.ensures ∙ length-map-range_with_len (last_at core) 0 core.size.lines in
    subst (λ (n : ℕ). AreWithin n c.in_ok-logs.logs) (sym long) c.in_ok-logs.ensures.within

pub returns-clause-lawful : goal.returns-clause-lawful
returns-clause-lawful c =
    subst (λ (logs : List (List Entry)). Lawful logs (last_of c.args.machine.now)) c.in_ok-logs.ensures.logs c.in_ok-logs.ensures.lawful
