use Rattle.std.proofs.Common.{◌∙◌, arith, refl}
use Rattle.sci_packets.proofs.WordLaws.{contents_read, short_words, long_words}
use Rattle.sci_packets.proofs.contents.contents_of.Goals as goal

pub returns-then-words-lt-LONG_WORDS-clause-fault : goal.returns-then-words-lt-LONG_WORDS-clause-fault
returns-then-words-lt-LONG_WORDS-clause-fault c = rw (short_words c.args.words.now 11 (omega arith)) refl

pub returns-clause-contents : goal.returns-clause-contents
returns-clause-contents c = grind (arith, contents_read)

pub returns-clause-fault : goal.returns-clause-fault
returns-clause-fault c = rw (long_words c.args.words.now 11 (omega arith)) refl
