use Rattle.std.proofs.Common.{arith, ◌<◌, length, None, false}
use Rattle.sci_statistics.specs.declared.passage.Passage.{Passage}
use Rattle.sci_words.specs.declared.event.EventKind.TheVariants.{Issue}
use Rattle.sci_statistics.proofs.Rising.{flagged, rises_more}
use Rattle.sci_statistics.proofs.levels.LevelFigures.of.Goals as goal

pub loop-it-preserved : goal.loop-it-preserved
loop-it-preserved c =
    let passages = c.args.passages.now in
    let i = c.loop-it.it-index in
    let d : Passage = record { event = Issue; enabled = false; node = 0; line = None; made = None; sent = None; taken = None; answer = None } in
    let test = c.loop-it-test.true in
    let within : i < length passages = omega (arith, test) in
    let up = flagged c.from-begun.result c.begins.result _ c.from-begun.ensures c.begins.ensures in
    let down = flagged c.from-ended.result c.ends.result _ c.from-ended.ensures c.ends.ensures in
    rises_more c.args.level passages i d c.loop-it.begun c.loop-it.ended c.loop-it.figures.greatest c.loop-it.figures.total c.from-begun.result
    c.from-ended.result c.saturating_sub-there.result c.max.result within c.requires up down c.saturating_sub-there.ensures c.max.ensures
    c.loop-it.invariant
