use Rattle.sci_text.proofs.LogReaders.{at_end}
use Rattle.sci_text.proofs.log_lines.logs_of.Goals as goal

pub finish-requires : goal.finish-requires
finish-requires c =
    let input = c.args.input.now in
    (input, at_end input c.in_ok-_end._end.now c.read.new.self (c.in_ok-_end.ensures.ok input c.in_ok-reader.ensures.ok) c.in_ok-_end.ensures.left)

pub returns-clause-ok : goal.returns-clause-ok
returns-clause-ok c =
    let input = c.args.input.now in
    c.in_ok-finish.ensures.logs input
    (at_end input c.in_ok-_end._end.now c.read.new.self (c.in_ok-_end.ensures.ok input c.in_ok-reader.ensures.ok) c.in_ok-_end.ensures.left)
