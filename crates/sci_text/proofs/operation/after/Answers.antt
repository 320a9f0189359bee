use Rattle.std.proofs.lemmas.{Bool.Decides.{Decides-eqb}, Slice.Eq.{strip_prefix_is}}
use Rattle.sci_text.proofs.Words.{strips}
use Rattle.sci_text.proofs.operation.after.Goals as goal

pub returns : goal.returns
returns c =
    strips c.args.word.now c.args.bytes.now c.strip_prefix.result
    (strip_prefix_is Decides-eqb c.args.bytes.now c.args.word.now c.strip_prefix.result c.strip_prefix.ensures.cases)
