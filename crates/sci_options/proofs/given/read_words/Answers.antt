use Rattle.std.proofs.Common.{◌≤◌, length, arith}
use Rattle.sci_options.proofs.Steps.{all_at, none_at, read_on}
use Rattle.sci_options.proofs.given.read_words.Goals as goal

pub returns-in-Err : goal.returns-in-Err
returns-in-Err c =
    none_at c.args.options.now c.args.words.now c.loop-at.given c.take.new.self c.loop-at.at c.in-Err.wrong c.loop-at.invariant.1 c.in-Err.ensures

pub loop-at-preserved : goal.loop-at-preserved
loop-at-preserved c =
    read_on c.args.options.now c.args.words.now c.loop-at.given c.take.new.self c.loop-at.at c.in-Ok.count c.loop-at.invariant.0 c.loop-at.invariant.1
    c.in-Ok.ensures

pub returns : goal.returns
returns c =
    let over : length c.args.words.now ≤ c.loop-at.at = omega arith in
    all_at c.args.options.now c.args.words.now c.loop-at.given c.loop-at.at over c.loop-at.invariant.1
