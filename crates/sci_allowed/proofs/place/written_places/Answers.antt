use Rattle.std.proofs.Common.{arith}
use Rattle.sci_allowed.proofs.WrittenWords.{places_more, places_within}
use Rattle.sci_allowed.proofs.place.written_places.Goals as goal

pub loop-line-preserved : goal.loop-line-preserved
loop-line-preserved c = places_more c.args.operations.now c.loop-line.line c.loop-line.places.items c.push_written.new.places.items c.loop-line.invariant
    (c.in_ok-push_written.ensures c.args.operations.now c.in_ok-written.ensures)

pub returns-clause-within : goal.returns-clause-within
returns-clause-within c = places_within c.args.operations.now c.loop-line.line c.args.lines c.loop-line.places.items (omega arith) c.loop-line.invariant
