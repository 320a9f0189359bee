-- `loosened` hands on what the box owned.
use Rattle.std.proofs.Common.{List, [], ◌∷◌, ◌++◌, refl, sym, ap, ◌∙◌, subst}
use base.Fraction.{full_share}
use base.Logic.{SProp, ent, emp, never, id⊢, fst∗}
use base.Fml.{ftrue, flft}
use mir.MapTy.{inst_fn}
use mir.Raw.{raw as bare}
use mir.Syntax.{a_type, tcons, tnil, dcons, dnil, impl}
use mir.Val.{Val}
use prog.Wp.{WpFn}
use types.Logic.{sem}
use types.Kit.{‵, raw, ◌⊛◌, some, later, ◌$◌, ◌∵◌, !, qed, move, drop, keep, split, split3, join, fsplit, fjoin, pick, suffices, use0, use1, await, feq_l, done}
use types.Run.{of_opd, no_more, and_then, returns, enter}
use types.ByLocal.{alloc_all, pass_all, free_all, look_at, get, sets, lands_as}
use types.Part.{agg}
use contract.Monad.{fact, fact_i}
use contract.BorrowLft.{◌⊑◌}
use contract.Running.{tables}
use denote.Builtin.{RawPtr}
use denote.Exit.{no}
use denote.Memory.{lone}
use denote.Param.{param, layout, arg, bounded}
use denote.Param.Laws.{Laws, arg_laws}
use denote.Param.NoDrop.{glues}
use denote.RattleType.{RattleType, owns}
use denote.RawPtr.{Ptr, block_ptr, null_ptr, ptr_val, in_a_block}
use denote.Signature.{types_at, plain}
use denote.Steps.{nothing, only}
use denote.Triple.Call.{calls_at}
use denote.Triple.Clauses.{Lasts, lasts}
use denote.Triple.Spec.{triple_of}
use denote.Triple.Table.{framed}
use denote.Triple.Walked.{says, Stays, stay_dropped, walk_of, ends_at}
use Rattle.std.proofs.alloc.{Calls.{Goes-blank}, Global.TheLaws.{the_row_laws as G-laws, the_within as G-within}}
use Rattle.std.proofs.{BoxSteps.Steps.{box_out, box_in}, raw_atomic.Walks.{proved_at}}
use Rattle.std.proofs.{impls.GlobalAllocator.TheImpl.Met.{passed}, boxed.Box.into_raw.Met.{met}}
use Rattle.std.specs.{Box.Ownership.{box_owns}, contracts.alloc.Global.{the_row as G}}
use Rattle.std.specs.contracts.impls.GlobalAllocator.TheImpl.{ghosts, dict}
use Rattle.sci_c.specs.{Object.{chunk}, contracts.loose.loosened.Key.{name as #self}}
use Rattle.sci_c.proofs.{LooseValues.{pointed, loose_in}, loose.loosened.Statement.{statement}}
use Rattle.std.proofs.BoxSteps.Form as box
use Rattle.std.specs.contracts.boxed.Box as boxes
use Rattle.std.specs.contracts.boxed.Box.into_raw as callee
use Rattle.sci_c.specs.contracts.loose.loosened as f
use Rattle.sci_c.proofs.loose.loosened.Code as code

-- the allocator as the call passes it
abbrev AG : RattleType
AG = arg (bare (layout G)) no G

AG-laws : Laws AG
AG-laws = arg_laws (bare (layout G)) no G G-laws refl

pub loosened_spec : {M : Type 1} → statement M
unfolding Rattle.sci_c.proofs.Destruct++none.drop.Code.code
loosened_spec {M} 𝓤 𝓛 𝓜 𝓡 wired T L dx glue =
    let H = 𝓛.H in let 𝓣 = tables 𝓤 H 𝓜 𝓡 𝓡.env in let R : RattleType = param 0 T in let En = f.ended T dx in let c = f.clauses T dx 𝓛 𝓜.mem 𝓡.returns in
    let key = bounded (a_type ∷ []) (T, tt) (dcons dx dnil) in let fn = inst_fn key code.function in
    let dd = impl ("sci_c::Destruct++none::drop" ∷ []) (tcons (layout AG) tnil) dnil in
    let E : box.Bx = record { row = T; laws = L; al = record { row = AG; laws = AG-laws; g = ghosts; d = dict; drops = dd } } in
    let hs : Stays En.signature.params En.kept = (stay_dropped (plain (λ _. boxes.the_row R G ghosts)) no, tt) in
    proved_at 𝓛 En hs c 𝓜 𝓡 (Goes-blank 𝓛 1 (plain (λ _. boxes.the_row R G ghosts)) no (λ κs x f. tt), tt) (#self key) fn (code.unfolded 𝓤 H 𝓜 𝓡 wired
    (T, tt) dx) (λ z are.
    let κ = z.0.0.0 in let q = z.0.1.0 in let v = z.0.3.0 in let Post : Val → SProp 𝓤 = (walk_of 𝓛 En hs c).post z in
    let Run : List Val → SProp 𝓤 = λ ws. WpFn 𝓤 H 𝓣.C 𝓣.Λ fn ws Post in
    let asked = raw ((c z.0.0 z.0.3).requires z.1) in
    qed 𝓛 (((‵ (flft κ q) ⊛ ‵ ftrue) ⊛ ‵ (owns (types_at En.signature.params z.0.0) z.0.3 z.0.4)) ∷ asked ∷ []) ∵ split ! $ move ! (1 ∷ []) $ fsplit ! $
    box_out E ! v z.0.4.0 (λ b o hv e ws fits. box_in E ! v b o v.value e refl $
    -- [the box; nothing; the token; what is asked]
    let w : Val = box.word E hv b o in let typed = box.box_typed E hv b o fits in
    let k = triple_of 𝓛 (callee.signature T AG ghosts dict dd dx) (callee.spec T AG ghosts dict dd dx 𝓛 𝓜.mem 𝓡.returns) in
    let y : k.Ghost = (((κ, ([], tt)), (q, (full_share, tt)), tt, (v, tt), (w ∷ [], tt)), tt) in
    fjoin ! $ move ! (2 ∷ []) $ use1 𝓛 (raw (fact 𝓤 (κ ⊑ T.lives)) ⊛ ‵ ftrue) (id⊢ 𝓤 _) $ split ! $ move ! (1 ∷ 0 ∷ []) $
    use0 𝓛 (raw (fact 𝓤 ([] ⊑ G.lives))) (fact_i 𝓤 ([] ⊑ G.lives) (emp 𝓤) (G-within [])) $ join ! $ move ! (1 ∷ 0 ∷ []) $ join ! $
    -- [what the call asks; the box; the token]
    move ! (2 ∷ []) $ split ! $ use0 𝓛 (‵ (flft [] full_share)) (𝓛.lfts.lft-nil full_share) $ move ! (0 ∷ 2 ∷ []) $ join ! $ move ! (1 ∷ 0 ∷ []) $ join ! $
    move ! (0 ∷ 2 ∷ []) $ join ! $ join ! $ use1 𝓛 (raw (k.pre y)) (id⊢ 𝓤 _) $
    suffices ! (Run (w ∷ [])) (subst (λ (us : List Val). ent 𝓤 (Run (w ∷ [])) (Run us)) (sym (λ i. ws i ++ [])) (id⊢ 𝓤 (Run (w ∷ [])))) $
    enter ! 𝓣.C 𝓣.Λ fn (w ∷ []) Post $ alloc_all ! (λ l. pass_all ! refl (typed, tt) $ sets ! (of_opd ! (get ! refl)) refl typed $
    calls_at ! (framed 𝓤 H 𝓜 𝓣) k (met 𝓤 𝓛 𝓜 𝓡 (code.calls-std_alloc::boxed::Box::into_raw 𝓡.env wired) T AG L AG-laws ghosts dict dd dx
    (passed 𝓡.env (code.calls-std_heap::GlobalAllocator::allocate 𝓡.env wired) (code.calls-std_heap::GlobalAllocator::deallocate 𝓡.env wired)
    (code.calls-std_heap::GlobalAllocator::grow 𝓡.env wired) (code.calls-std_heap::GlobalAllocator::shrink 𝓡.env wired) M 𝓤 𝓛 𝓜 𝓡)
    (glues "sci_c::Destruct++none::drop" 𝓡.env (code.calls-sci_c::Destruct++none::drop 𝓡.env wired) AG AG-laws M 𝓤 𝓛 𝓜 𝓡) glue) y (and_then ! (get ! refl)
    (no_more !)) (λ u.
    use1 𝓛 (later (some (λ (r : Ptr). ((‵ (flft κ q) ⊛ ‵ (flft [] full_share) ⊛ ‵ ftrue) ⊛ ‵ (RawPtr.own_val r (u ∷ []))) ⊛ some (λ (ls : Lasts
    (callee.ended T AG ghosts dict dd dx) y.0.0 y.0.3). ‵ (lasts (callee.ended T AG ghosts dict dd dx) y.0.0 y.0.3 ls) ⊛ ‵ (box_owns chunk R r v.value)))))
    (id⊢ 𝓤 (k.post y u)) $
    await ! tt $ pick ! (λ r. split ! $ move ! (1 ∷ []) $ pick ! (λ _. split ! $ drop ! $
    in_a_block ! r (λ p. box_owns chunk R p v.value) (fst∗ 𝓤 (never 𝓤) (sem 𝓛 (chunk (bare (lone R.mir)) null_ptr))) (λ b' o' at.
    move ! (1 ∷ []) $ split ! $ move ! (1 ∷ []) $ feq_l ! (λ eu.
    lands_as ! (ap only (eu ∙ ap (λ (p : Ptr). ptr_val p ∷ []) at)) refl (tt, tt) $ sets ! (agg ! (and_then ! (get ! refl) (no_more !))) refl (tt, (tt, tt)) $
    move ! (1 ∷ []) $ loose_in R ! b' o' v.value $
    returns ! (look_at ! 0 refl) $ free_all ! refl $
    suffices ! _ (ends_at 𝓛 En hs c z (pointed b' o') (record { at = block_ptr b' o'; value = v.value }) (tt, tt) (tt, tt)) $ says ! refl $
    move ! (1 ∷ []) $ split3 ! $ move ! (1 ∷ []) $ drop ! $ nothing ! $ nothing ! $ join ! $ move ! (1 ∷ 2 ∷ []) $ join ! $ keep ! (0 ∷ 1 ∷ 2 ∷ []) $
    done !))))))))
