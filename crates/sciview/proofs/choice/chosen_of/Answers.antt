use Rattle.std.proofs.Common.{◌≡◌, true, false, map, Ok, Err}
use Rattle.sciview.specs.declared.complaint.Complaint.TheVariants as complaints
use Rattle.sciview.proofs.Chosen.{by_table, none_asked, none_read, some_asked}
use Rattle.sciview.proofs.choice.chosen_of.Goals as goal

apart : false ≡ true → ⊥
apart e = cc

pub returns-in-Err : goal.returns-in-Err
returns-in-Err c =
    let words = map (λ word. word.now) c.args.words.now in
    let reading = by_table c.args.verb c.options.result.now words c.read_words.result (Err c.in-Err.wrong) c.options.ensures c.in-Err.is
    c.read_words.ensures in
    none_read c.args.verb words c.in-Err.wrong c.of_word.result (λ help. apart (rw c.if-asks_help.false at (c.asks_help.ensures.1 help))) reading
    c.of_word.ensures

pub returns-in-Some : goal.returns-in-Some
returns-in-Some c =
    let words = map (λ word. word.now) c.args.words.now in
    let reading = by_table c.args.verb c.options.result.now words c.read_words.result (Ok c.in-Ok.given) c.options.ensures c.in-Ok.is
    c.read_words.ensures in
    some_asked c.args.verb words c.in-Ok.given c.asked_of.result (λ help. apart (rw c.if-asks_help.false at (c.asks_help.ensures.1 help))) reading
    c.asked_of.ensures c.in-Some.choice c.in-Some.is

pub returns-in-None : goal.returns-in-None
returns-in-None c =
    let words = map (λ word. word.now) c.args.words.now in
    let reading = by_table c.args.verb c.options.result.now words c.read_words.result (Ok c.in-Ok.given) c.options.ensures c.in-Ok.is
    c.read_words.ensures in
    none_asked c.args.verb words c.in-Ok.given c.asked_of.result (λ help. apart (rw c.if-asks_help.false at (c.asks_help.ensures.1 help))) reading
    c.asked_of.ensures (complaints.Words c.args.verb c.of-problem.result) c.in-None.is
