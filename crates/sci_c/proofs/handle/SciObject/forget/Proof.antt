-- `forget` writes the null pointer into an object that owns nothing.
use Rattle.std.proofs.Common.{◌≡◌, ℕ, List, [], ◌∷◌, ◌++◌, refl, sym, ap, ◌∙◌, subst, lit<, w32}
use base.Fraction.{full_share}
use base.Logic.{SProp, ent, id⊢}
use base.Fml.{ftrue, flft}
use mir.Syntax.{named}
use mir.Val.{Val, vptr, vint, vunit, vstruct, vcons, vnil}
use prog.Wp.{WpFn}
use contract.Monad.{fact}
use contract.Running.{tables}
use types.Kit.{‵, raw, ◌⊛◌, ◌$◌, ◌∵◌, !, qed, move, keep, drop, split, join, fsplit, fsplit3, fjoin, fpack, suffices, feq_i, feq_l, rewrite, frame, group, done}
use types.Run.{stop, fld, of_opd, lit, unit_lit, assigns, returns, enter}
use types.ByLocal.{alloc_all, pass_all, free_all, look_at, through, sets}
use types.Part.{sub, whole, store_in}
use denote.Builtin.{RawPtr, u32}
use denote.Plain.{uint_Makes}
use denote.RattleType.{Valss, owns}
use denote.Memory.{cell_at}
use denote.Laws.{shows}
use denote.Ref.{mut_Tells}
use denote.Signature.{types_at, plain}
use denote.RawPtr.{null_ptr, ptr_val}
use denote.Steps.{nothing, owned, opens, closes, peeks, heard}
use denote.Struct.Struct.{within}
use denote.Struct.Owning.{shape}
use denote.Triple.Walked.{Stays, stay_ref, walk_of, Goes-ref, ends_at}
use Rattle.std.proofs.{mem.Facts.{says_two}, raw_atomic.Walks.{proved_at}}
use Rattle.std.specs.Prelude.{Option, None}
use Rattle.sci_c.proofs.handle.SciObject.TheLaws.{lowers}
use Rattle.sci_c.proofs.handle.SciObject.forget.Statement.{statement}
use Rattle.sci_c.specs.{Object.{object_owns}, declared.{thing.Thing.{Thing}, handle.SciObject.{SciObject}}}
use Rattle.sci_c.specs.contracts.handle.SciObject.{the_row as R, the_type}
use Rattle.sci_c.specs.contracts.handle.SciObject.forget.Key.{name as #self}
use Rattle.sci_c.specs.contracts.handle.SciObject.forget as f
use Rattle.sci_c.proofs.handle.SciObject.forget.Code as code

pub forget_spec : {M : Type 1} → statement M
forget_spec 𝓤 𝓛 𝓜 𝓡 wired =
    let H = 𝓛.H in let 𝓣 = tables 𝓤 H 𝓜 𝓡 𝓡.env in let En = f.ended in let c = f.clauses 𝓛 𝓜.mem 𝓡.returns in
    let fn = code.function in
    let hs : Stays En.signature.params En.kept = (stay_ref (0 ∷ []) tt (plain (λ _. R)), tt) in
    proved_at 𝓛 En hs c 𝓜 𝓡 (Goes-ref 𝓛 1 0 tt (plain (λ _. R)), tt) #self fn (code.unfolded 𝓤 H 𝓜 𝓡 wired) (λ z are.
    let κ = z.0.0.0 in let q = z.0.1.0 in let a = z.0.3.0 in let rb = a.ref_ptr.0 in let ro = a.ref_ptr.1 in let h : SciObject = a.now in
    let Post : Val → SProp 𝓤 = (walk_of 𝓛 En hs c).post z in let Run : List Val → SProp 𝓤 = λ ws. WpFn 𝓤 H 𝓣.C 𝓣.Λ fn ws Post in
    let at_ref : z.0.4.0 ≡ vptr rb ro ∷ [] = mut_Tells (named 0) κ R a z.0.4.0 are.0 in
    qed 𝓛 (((‵ (flft κ q) ⊛ ‵ ftrue) ⊛ ‵ (owns (types_at En.signature.params z.0.0) z.0.3 z.0.4)) ∷ raw (fact 𝓤 (h.value ≡ None)) ∷ []) ∵
    move ! (1 ∷ []) $ heard ! _ (λ none.
    split ! $ split ! $ move ! (2 ∷ []) $ fsplit ! $ keep ! (0 ∷ 2 ∷ []) $
    -- [the reference; the token]
    let n : Val = ptr_val null_ptr in let w' : Val = vstruct (vcons n (vcons (vint w32 0) vnil)) in
    let h' : SciObject = record { at = null_ptr; live = 0; value = None } in
    suffices ! (Run (vptr rb ro ∷ [])) (subst (λ (us : List Val). ent 𝓤 (Run (vptr rb ro ∷ [])) (Run (us ++ []))) (sym at_ref)
    (id⊢ 𝓤 (Run (vptr rb ro ∷ [])))) $
    enter ! 𝓣.C 𝓣.Λ fn (vptr rb ro ∷ []) Post $ alloc_all ! (λ l. pass_all ! refl ((tt, tt), tt) $
    fsplit3 ! $ move ! (1 ∷ 2 ∷ 3 ∷ []) $ opens ! tt R rb ro (λ us.
    move ! (1 ∷ []) $ peeks ! R _ (shows 𝓛 R) h us (λ is. fsplit ! $ drop ! $
    rewrite ! 0 (λ (v : Option Thing). ‵ (object_owns h.at h.live v)) none refl $ feq_l ! (λ zero.
    rewrite ! 0 (λ (xs : List Val). ‵ (cell_at full_share R.mir xs rb ro)) (lowers.val_is h us is ∙
    ap (λ (k : ℕ). lowers.lowered (record h { live = k }) ∷ []) zero) refl $
    -- [the struct's cell; the open borrow, in three entries; the reference's first part]
    assigns ! (of_opd ! (lit ! tt)) (through ! refl (fld ! refl (stop !))) (store_in ! 0 (sub ! 0 refl (whole !)) (tt, record { fits = lit< tt })) $
    sets ! (of_opd ! (unit_lit !)) refl (tt, tt) $
    nothing ! $ owned ! u32 _ (uint_Makes 𝓛 w32) 0 _ (refl, lit< tt) $ fjoin ! $ feq_i ! (List Val) (n ∷ []) (n ∷ []) refl $ fjoin ! $
    feq_i ! (List Val) (w' ∷ []) (w' ∷ []) refl $ fjoin ! $
    fpack ! (Valss (RawPtr ∷ u32 ∷ [])) (within (shape the_type) (null_ptr, (0, tt)) (w' ∷ [])) (n ∷ [], (vint w32 0 ∷ [], tt)) $
    feq_i ! ℕ 0 0 refl $ move ! (1 ∷ 0 ∷ []) $ fjoin ! $ move ! (1 ∷ []) $ closes ! tt R h' (w' ∷ []) rb ro $
    returns ! (look_at ! 0 refl) $ free_all ! refl $ move ! (3 ∷ []) $
    suffices ! _ (ends_at 𝓛 En hs c z vunit tt (h', tt) (tt, tt)) $ says_two ! (refl, refl) $
    group ! 3 $ nothing ! $ move ! (1 ∷ 0 ∷ []) $ join ! $ nothing ! $ move ! (2 ∷ 0 ∷ []) $ join ! $ frame ! $ frame ! $
    feq_i ! _ (vunit ∷ []) _ refl $ done !))))))
