-- The text of logs within the limits is one of them.
use Rattle.std.proofs.Common.{◌≡◌, List, ℕ, rules, sym, subst, append_assoc}
use Rattle.sci_text.specs.{Log.{log_text}, LogValue.{IsLogs}}
use Rattle.sci_text.proofs.log_writing.logs_text.Goals as goal

pub returns-clause-says : goal.returns-clause-says
returns-clause-says c = λ are.
    let nodes = c.args.nodes in
    let logs = c.args.logs.now in
    let last = c.args.last.now in
    let written : c.push_logs.new.out.items ≡ log_text nodes logs last = search (rules, append_assoc) in
    subst (λ (text : List ℕ). IsLogs text nodes logs last) (sym written) (c.written_again.ensures nodes logs last are)
