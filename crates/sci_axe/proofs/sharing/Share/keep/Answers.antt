use Rattle.std.proofs.Common.{rules}
use Rattle.std.proofs.lemmas.Fn.{filter_same}
use Rattle.sci_axe.proofs.sharing.Share.keep.Goals as goal

pub returns : goal.returns
returns c = filter_same _ _ _ (λ x b f t. search rules) _ _ c.retain.ensures.filtered
