use Rattle.std.proofs.Common.{ℕ, ◌<◌, sym, subst, arith}
use Rattle.std.proofs.lemmas.List.{length_push}
use mathlib.Core.Option.{none}
use Rattle.atomic_table.specs.Table.{Me, Allows, step}
use Rattle.sci_core.specs.Size.{size_of}
use Rattle.sci_lanes.specs.{declared.view.View.{View}, Shown.{IsKept}, Gathering.{Gathers, HasNodes}}
use Rattle.sci_lanes.specs.Cells.{word_count}
use Rattle.sci_lanes.proofs.Gathering.{gathers}
use Rattle.sci_lanes.proofs.gather.read_words.Goals as goal

pub load-requires : goal.load-requires
load-requires c =
    let i = c.loop-place.invariant in
    let t = c.args.table.now in
    let size = size_of t.shared.key.0 t.shared.key.1 in
    let slots = t.shared.table_id.slots in
    let place = c.loop-place.place in
    let less = c.loop-place-test.true in
    let end = c.own_word-place-end.ensures in
    let long = c.requires.long in
    let parts = c.args.seat.now.me.0.parts in
    let few : place < word_count c.args.nodes = omega arith in (
      i.0,
      omega arith,
      subst (λ (me : Me (Unit {0}) View). Allows (IsKept size) slots c.loop-place.seat.id me place (λ n. n) (Gathers (step slots place 0 0 none) me)) (sym i.1)
          (gathers size slots c.loop-place.seat.id place (record { parts = parts; words = c.loop-place.words.items })
          (subst (λ (n : ℕ). HasNodes n parts) (sym c.requires.sized) c.requires.every) (sym i.2)
          (subst (λ (n : ℕ). place < word_count n) (sym c.requires.sized) few)),
    )

pub loop-place-preserved : goal.loop-place-preserved
loop-place-preserved c = grind (arith, length_push)

pub returns-clause-read : goal.returns-clause-read
returns-clause-read c = let end = c.own_word-place-end.ensures in let some = c.requires.some in let not = c.loop-place-test.false in
    c.loop-place.invariant.4 (omega arith)
