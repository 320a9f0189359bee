use Rattle.std.proofs.lemmas.{Bool.Decides.{Decides-eqb}, Slice.Eq.{strip_prefix_is}}
use Rattle.sci_text.proofs.Words.{strips}
use Rattle.sci_axe.proofs.notation.after.Goals as goal

pub returns : goal.returns
returns c =
    strips c.args.mark.now c.args.bytes.now c.strip_prefix.result
    (strip_prefix_is Decides-eqb c.args.bytes.now c.args.mark.now c.strip_prefix.result c.strip_prefix.ensures.cases)
