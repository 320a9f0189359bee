-- Deeds that follow one another.
use Rattle.std.proofs.Common.{List, [], ◌∷◌, ◌++◌, refl, sym, subst}
use Rattle.sci_policy.specs.Deeds.{Deed, DoesBy}

module _ {S : Type 0} (Step : Deed → S → S → Type 0) where
  -- deeds, and then more of them
  pub deeds_on : (deeds more : List Deed) (x y z : S) → DoesBy Step deeds x y → DoesBy Step more y z → DoesBy Step (deeds ++ more) x z
  deeds_on [] more x y z one two = subst (λ (s : S). DoesBy Step more s z) (sym one) two
  deeds_on (deed ∷ deeds) more x y z one two = (one.0, one.1, deeds_on deeds more one.0 y z one.2 two)

  -- one deed
  pub one_deed : (deed : Deed) (x y : S) → Step deed x y → DoesBy Step (deed ∷ []) x y
  one_deed deed x y is = (y, is, refl)
