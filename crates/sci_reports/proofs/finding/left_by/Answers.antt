use Rattle.std.proofs.Common.{◌≡◌, List, arith}
use Rattle.sci_words.specs.declared.stamped.Stamped.{Stamped}
use Rattle.sci_history.specs.{declared.entry.Entry.{Entry}, Audit.{words_after}, Placed.{maker_count}}
use Rattle.sci_reports.specs.{EntryLines.{entries_in}, Faulty.{contents_left}}
use Rattle.sci_reports.proofs.finding.left_by.Goals as goal

left_is : (left : Stamped) (placed : List Entry) → left.line ≡ words_after placed → left.version ≡ maker_count placed → left ≡ contents_left placed
left_is left placed words makers = grind arith

pub returns : goal.returns
returns c = λ within. left_is c.contents_after.result (entries_in c.args.placed.now) (c.contents_after.ensures.words within) c.contents_after.ensures.makers
