-- The machine value of a `Loose`, which is its pointer alone.
use Rattle.std.proofs.Common.{◌≡◌, ℕ, List, [], ◌∷◌, ◌++◌, refl, subst}
use seplogic.Ra.Ura.{Ura}
use mir.Raw.{raw as bare}
use mir.Val.{Val, vptr, vstruct, vcons, vnil, of_list}
use base.Logic.{never, fst∗}
use types.Logic.{Logic, sem}
use types.Kit.{Item, Goal, Seq, Step, step, ‵, ◌$◌, drop, fsplit, fjoin, fpick, fpack, feq_i, feq_l}
use denote.RattleType.{RattleType, Valss}
use denote.Builtin.{RawPtr}
use denote.Memory.{lone}
use denote.RawPtr.{Ptr, block_ptr, null_ptr, ptr_val, in_a_block}
use denote.Steps.{nothing}
use denote.Struct.Struct.{within}
use denote.Struct.Owning.{shape}
use Rattle.std.specs.Box.Ownership.{box_owns}
use Rattle.sci_c.specs.Object.{chunk}
use Rattle.sci_c.specs.contracts.loose.Loose as loose

abbrev pub pointed : ℕ → ℕ → Val
pointed b o = vstruct (vcons (vptr b o) vnil)

module _ (R : RattleType) {M : Type 1} {𝓤 : Ura M} {𝓛 : Logic 𝓤} {K : Type 0} {Γ : List (Item 𝓤)} {G : Goal 𝓤 𝓛.H} where
  -- a loose value is what a box owns, at the pointer
  pub loose_out : K → (d : (loose.the_row R).Denot) (vs : List Val)
      → ((b o : ℕ) → d.at ≡ block_ptr b o → vs ≡ pointed b o ∷ [] → Seq K 𝓛 (‵ (box_owns chunk R (block_ptr b o) d.value) ∷ Γ) G)
      → Seq K 𝓛 (‵ ((loose.the_row R).own_val d vs) ∷ Γ) G
  loose_out t d vs k =
      fsplit t $ fpick t (λ vss. fsplit t $ feq_l t (λ whole. fsplit t $ feq_l t (λ first. drop t $
      in_a_block t d.at (λ p. box_owns chunk R p d.value) (fst∗ 𝓤 (never 𝓤) (sem 𝓛 (chunk (bare (lone R.mir)) null_ptr))) (λ b o e. k b o e
      (subst (λ (p : Ptr). vs ≡ vstruct (of_list (ptr_val p ∷ [])) ∷ []) e (subst (λ (ps : List Val). vs ≡ vstruct (of_list (ps ++ [])) ∷ []) first whole))))))

  pub loose_in : K → (b o : ℕ) (x : R.Denot)
      → Step K 𝓛 (‵ ((loose.the_row R).own_val (record { at = block_ptr b o; value = x }) (pointed b o ∷ [])) ∷ Γ) G (‵ (box_owns chunk R
      (block_ptr b o) x) ∷ Γ) G
  loose_in t b o x = step (λ s.
      nothing t $ feq_i t (List Val) (vptr b o ∷ []) (vptr b o ∷ []) refl $ fjoin t $ feq_i t (List Val) (pointed b o ∷ []) (pointed b o ∷ []) refl $ fjoin t $
      fpack t (Valss (RawPtr ∷ [])) (within (shape (loose.the_type R)) (block_ptr b o, tt) (pointed b o ∷ [])) (vptr b o ∷ [], tt) $ fjoin t $ s)
