use Rattle.std.proofs.Common.{◌≡◌, ◌++◌, [], ◌∷◌, List, Ok, Some, true, sym, ap, ◌∙◌, append_assoc, All, subst, refl, arith}
use Rattle.std.proofs.lemmas.List.{map-append, Elements.{All-pop, All-push}}
use Rattle.std.specs.Prelude.{◌↔◌, IsOk}
use Rattle.sci_threads.specs.declared.share.Share.{Share}
use Rattle.sci_threads.proofs.{Going.{is_value}, RunStations.{all_in_front}}
use Rattle.sci_threads.proofs.shares.gathered.Goals.{then-not-branch, else-not-branch}
use Rattle.sci_threads.proofs.shares.gathered.Goals as goal

pub loop-share-preserved : goal.loop-share-preserved
loop-share-preserved g c =
    let inv = c.loop-share.invariant in
    let done = c.loop-share.yielded in
    let rest = c.next.new.self.rest.items in
    let one = c.in-Some.share in
    let apart = append_assoc done (one ∷ []) rest in (
      apart ∙ (ap (λ (xs : List _). done ++ xs) (sym c.in-Some.ensures.steps.0) ∙ inv.0),
      c.in_ok-push.ensures.items ∙ (ap (λ xs. xs ++ one.station ∷ []) inv.1 ∙ sym (map-append (λ share. share.station) done (one ∷ []))),
      (
        λ all. (elim c.if-not-branch.branch [
          | then-not-branch w ↦ absurd cc
          | else-not-branch w ↦
              let was = c.in_ok-finished.was in
              let test = w.if-not-branch in
              let stays = w.all-is in
              All-push (λ share. share.finished ≡ Ok true) done one (inv.2.0 cc) cc
        ]),
        λ each.
            let all = All-pop (λ share. share.finished ≡ Ok true) (done ++ one ∷ []) done (Some one) refl each in
            let here : one.finished ≡ Ok true = all.1 in
            (elim c.if-not-branch.branch [
              | then-not-branch w ↦ absurd (let was = c.in_ok-finished.was in let no = w.if-not-branch in cc)
              | else-not-branch w ↦ let stays = w.all-is in let before = inv.2.1 all.0 in cc
            ]),
      ),
      All-push (λ share. IsOk share.finished) done one inv.3 (is_value one.finished c.in_ok-finished.field-0 c.in_ok-finished.was),
    )

-- all shares came out
all_out : (g : _) (c : goal.After-drop-share-iterator-2 g) → c.loop-share.yielded ≡ c.args.shares.items
all_out g c =
    let rest = c.loop-share.share-iterator.rest in
    let fits = rest.ok.0 in
    let none = c.in-None.ensures.steps.0 in
    all_in_front c.loop-share.yielded rest.items c.args.shares.items (omega (arith, fits, none)) c.loop-share.invariant.0

pub returns-clause-finished : goal.returns-clause-finished
returns-clause-finished g c =
    subst (λ (xs : List (Share g.row.G.Denot)). (c.loop-share.all ≡ true) ↔ All (λ share. share.finished ≡ Ok true) xs) (all_out g c)
    c.loop-share.invariant.2

pub returns-clause-unrefused : goal.returns-clause-unrefused
returns-clause-unrefused g c = subst (All (λ (share : Share g.row.G.Denot). IsOk share.finished)) (all_out g c) c.loop-share.invariant.3
