use Rattle.std.proofs.{Common.{◌≡◌, ◌<◌, ◌≤◌, ◌+◌, arith, length, subst}, lemmas.List.Elements.{All-set}}
use Rattle.std.proofs.lemmas.List.{get_or-set_same}
use Rattle.std.specs.Prelude.{◌⊎◌, slice_index_or}
use Rattle.sci_threads.specs.{Shares.{HasEnded, IsWell}, declared.share.Share.{Share}}
use Rattle.sci_threads.proofs.Going.{all_stay, any_other, one_fewer, one_more_is, one_on}
use Rattle.sci_threads.proofs.shares.go_round.Goals.{then-not-has_ended, else-not-has_ended}
use Rattle.sci_threads.proofs.shares.go_round.Goals as goal

pub loop-n-init : goal.loop-n-init
loop-n-init g c = grind (arith, all_stay)

pub go_on-requires : goal.go_on-requires
go_on-requires g c = grind arith

pub loop-n-preserved : goal.loop-n-preserved
loop-n-preserved g c =
    let hears = g.G.Gate.hears in
    let old = c.args.shares.now in
    let shares = c.loop-n.shares in
    let n = c.loop-n.n in
    let new = c.go_on.new.self in
    let now = c.index-shares-n.result in
    let long = c.loop-n.auto.shares in
    let test = c.loop-n-test.true in
    let inside : n < length shares = omega (arith, long, test) in
    let inv = c.loop-n.invariant in
    let Fewer : Share g.row.G.Denot → Share g.row.G.Denot → Type 0 = λ o s. HasEnded s ⊎ (s.left < o.left) in (
      All-set (λ (s : Share g.row.G.Denot). IsWell s.driver s.station.end s.finished) shares n new c.go_on.ensures.well inv.0,
      one_on hears g.met.G.Gate.hears_nothing g.met.G.Gate.hears_on old shares n now new inside c.go_on.ensures.gone inv.1,
      one_more_is Fewer old shares n new inside (λ d.
          let at : slice_index_or shares n now ≡ slice_index_or shares n d = any_other shares n now d inside in
          one_fewer hears (slice_index_or old n d) (slice_index_or shares n d) new (inv.1 n d test)
          (subst (λ (s : Share g.row.G.Denot). HasEnded new ⊎ (new.left + 1 ≤ s.left)) at c.go_on.ensures.fewer))
          inv.2,
      λ none. elim c.if-not-has_ended.branch [
        | then-not-has_ended w ↦ absurd (let some = w.more-is in cc)
        | else-not-has_ended w ↦
            let no = w.if-not-has_ended.false in
            let ended : HasEnded new =
            subst HasEnded (get_or-set_same shares n new c.index-shares-n-in-loop-n.result inside) (c.has_ended.ensures.0 cc) in
            one_more_is (λ o s. HasEnded s) old shares n new inside (λ d. ended) (inv.3 (let same = w.more-is in cc))
      ],
    )
