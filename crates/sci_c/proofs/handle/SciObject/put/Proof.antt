-- `put` moves the pointer in, and what lies behind it with it.
use Rattle.std.proofs.Common.{◌≡◌, ℕ, List, [], ◌∷◌, ◌++◌, refl, sym, subst, lit<, w32}
use base.Fraction.{full_share}
use base.Logic.{SProp, ent, id⊢}
use base.Fml.{ftrue, flft}
use mir.Syntax.{named}
use mir.Val.{Val, vptr, vint, vunit, vstruct, vcons, vnil}
use prog.Wp.{WpFn}
use contract.Monad.{fact}
use contract.Running.{tables}
use types.Kit.{‵, raw, ◌⊛◌, ◌$◌, ◌∵◌, !, qed, move, keep, drop, split, join, fsplit, fsplit3, fjoin, fpack, suffices, feq_i, rewrite, frame, group, done}
use types.Run.{stop, fld, of_opd, lit, unit_lit, assigns, returns, enter}
use types.ByLocal.{alloc_all, pass_all, free_all, look_at, get, get_in, through, sets}
use types.Part.{sub, whole, store_in}
use denote.Exit.{yes}
use denote.Builtin.{RawPtr, u32}
use denote.Plain.{uint_Makes}
use denote.RattleType.{Valss, owns}
use denote.Memory.{cell_at}
use denote.Laws.{shows}
use denote.Ref.{mut_Tells}
use denote.Signature.{types_at, plain}
use denote.RawPtr.{block_ptr}
use denote.Steps.{nothing, owned, opens, closes, peeks}
use denote.Struct.Struct.{within}
use denote.Struct.Owning.{shape}
use denote.Triple.Walked.{says, Stays, stay_dropped, stay_ref, walk_of, Goes-ref, ends_at}
use Rattle.std.proofs.{alloc.Calls.{Goes-blank}, raw_atomic.Walks.{proved_at}}
use Rattle.std.specs.Prelude.{Some, None}
use Rattle.sci_c.proofs.{LooseValues.{pointed, loose_out}, handle.SciObject.TheLaws.{lowers}}
use Rattle.sci_c.proofs.handle.SciObject.put.Statement.{statement}
use Rattle.sci_c.specs.{declared.handle.SciObject.{SciObject}, contracts.handle.SciObject.{the_row as R, the_type}}
use Rattle.sci_c.specs.contracts.{thing.Thing.{the_row as T}, handle.SciObject.put.Key.{name as #self}}
use Rattle.sci_c.specs.contracts.loose.Loose as loose
use Rattle.sci_c.specs.contracts.handle.SciObject.put as f
use Rattle.sci_c.proofs.handle.SciObject.put.Code as code

pub put_spec : {M : Type 1} → statement M
put_spec 𝓤 𝓛 𝓜 𝓡 wired =
    let H = 𝓛.H in let 𝓣 = tables 𝓤 H 𝓜 𝓡 𝓡.env in let En = f.ended in let c = f.clauses 𝓛 𝓜.mem 𝓡.returns in
    let fn = code.function in let L = loose.the_row T in
    let hs : Stays En.signature.params En.kept = (stay_ref (0 ∷ []) tt (plain (λ _. R)), (stay_dropped (plain (λ _. L)) yes, tt)) in
    proved_at 𝓛 En hs c 𝓜 𝓡 (Goes-ref 𝓛 1 0 tt (plain (λ _. R)), (Goes-blank 𝓛 1 (plain (λ _. L)) yes (λ κs x f. tt), tt)) #self fn
    (code.unfolded 𝓤 H 𝓜 𝓡 wired) (λ z are.
    let κ = z.0.0.0 in let q = z.0.1.0 in let a = z.0.3.0 in let rb = a.ref_ptr.0 in let ro = a.ref_ptr.1 in let h : SciObject = a.now in
    let v = z.0.3.1.0 in let Post : Val → SProp 𝓤 = (walk_of 𝓛 En hs c).post z in let Run : List Val → SProp 𝓤 = λ ws. WpFn 𝓤 H 𝓣.C 𝓣.Λ fn ws Post in
    let at_ref : z.0.4.0 ≡ vptr rb ro ∷ [] = mut_Tells (named 0) κ R a z.0.4.0 are.0 in
    qed 𝓛 (((‵ (flft κ q) ⊛ ‵ ftrue) ⊛ ‵ (owns (types_at En.signature.params z.0.0) z.0.3 z.0.4)) ∷ raw (fact 𝓤 (h.value ≡ None)) ∷ []) ∵ move ! (1 ∷ []) $
    drop ! $
    split ! $ split ! $ move ! (2 ∷ []) $ fsplit ! $ move ! (1 ∷ []) $ fsplit ! $
    loose_out T ! v z.0.4.1.0 (λ b o e ws. keep ! (0 ∷ 2 ∷ 3 ∷ []) $
    -- [what the box owned; the reference; the token]
    let w : Val = pointed b o in let w' : Val = vstruct (vcons (vptr b o) (vcons (vint w32 1) vnil)) in
    let h' : SciObject = record { at = block_ptr b o; live = 1; value = Some v.value } in
    suffices ! (Run (vptr rb ro ∷ w ∷ [])) (subst (λ (us : List Val). ent 𝓤 (Run (vptr rb ro ∷ w ∷ [])) (Run (us ++ (z.0.4.1.0 ++ [])))) (sym at_ref) (subst
    (λ (us : List Val). ent 𝓤 (Run (vptr rb ro ∷ w ∷ [])) (Run (vptr rb ro ∷ (us ++ [])))) (sym ws) (id⊢ 𝓤 (Run (vptr rb ro ∷ w ∷ []))))) $
    enter ! 𝓣.C 𝓣.Λ fn (vptr rb ro ∷ w ∷ []) Post $ alloc_all ! (λ l. pass_all ! refl ((tt, tt), ((tt, (tt, tt)), tt)) $
    move ! (1 ∷ []) $ fsplit3 ! $ move ! (1 ∷ 2 ∷ 4 ∷ []) $ opens ! tt R rb ro (λ us.
    move ! (1 ∷ []) $ peeks ! R _ (shows 𝓛 R) h us (λ is. drop ! $
    rewrite ! 0 (λ (xs : List Val). ‵ (cell_at full_share R.mir xs rb ro)) (lowers.val_is h us is) refl $
    -- [the struct's cell; the open borrow, in three entries; the reference's first part; what the box owned]
    sets ! (of_opd ! (get_in ! (fld ! refl (stop !)) (sub ! 0 refl (whole !)))) refl (tt, tt) $
    sets ! (of_opd ! (get ! refl)) refl (tt, tt) $
    assigns ! (of_opd ! (get ! refl)) (through ! refl (fld ! refl (stop !))) (store_in ! 0 (sub ! 0 refl (whole !)) (tt, tt)) $
    assigns ! (of_opd ! (lit ! tt)) (through ! refl (fld ! refl (stop !))) (store_in ! 0 (sub ! 1 refl (whole !)) (tt, record { fits = lit< tt })) $
    sets ! (of_opd ! (unit_lit !)) refl (tt, tt) $
    nothing ! $ owned ! u32 _ (uint_Makes 𝓛 w32) 1 _ (refl, lit< tt) $ fjoin ! $ feq_i ! (List Val) (vptr b o ∷ []) (vptr b o ∷ []) refl $ fjoin ! $
    feq_i ! (List Val) (w' ∷ []) (w' ∷ []) refl $ fjoin ! $
    fpack ! (Valss (RawPtr ∷ u32 ∷ [])) (within (shape the_type) (block_ptr b o, (1, tt)) (w' ∷ [])) (vptr b o ∷ [], (vint w32 1 ∷ [], tt)) $
    move ! (6 ∷ []) $ feq_i ! ℕ 1 1 refl $ fjoin ! $ move ! (1 ∷ 0 ∷ []) $ fjoin ! $ move ! (1 ∷ []) $ closes ! tt R h' (w' ∷ []) rb ro $
    returns ! (look_at ! 0 refl) $ free_all ! refl $ move ! (3 ∷ []) $
    suffices ! _ (ends_at 𝓛 En hs c z vunit tt (h', (tt, tt)) (tt, (tt, tt))) $ says ! refl $
    group ! 3 $ nothing ! $ nothing ! $ join ! $ move ! (1 ∷ 0 ∷ []) $ join ! $ nothing ! $ move ! (2 ∷ 0 ∷ []) $ join ! $ frame ! $ frame ! $
    feq_i ! _ (vunit ∷ []) _ refl $ done !)))))
