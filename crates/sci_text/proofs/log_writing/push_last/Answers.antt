use Rattle.std.proofs.Common.{◌<◌, length, append_assoc, arith, rules}
use Rattle.sci_words.specs.Stamped.{zero_stamped}
use Rattle.sci_text.proofs.LogLines.{last_lines_more}
use Rattle.sci_text.proofs.log_writing.push_last.Goals as goal

pub loop-line-preserved : goal.loop-line-preserved
loop-line-preserved c =
    let last = c.args.last.now in
    let line = c.loop-line.line in
    let below : line < length last = omega arith in
    let more = last_lines_more 0 line last zero_stamped below in
    search (rules, more, append_assoc)
