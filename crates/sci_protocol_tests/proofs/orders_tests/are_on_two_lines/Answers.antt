-- Each operation is looked at.
use Rattle.std.proofs.Common.{◌≡◌, ℕ, ◌<◌, List, length, get_or, sym, ap, subst, ◌∙◌, arith, inl, inr}
use Rattle.std.proofs.lemmas.{Bool.{cases_eq}, List.{get_or_default, length-map}}
use Rattle.sci_words.specs.declared.operation.Op.{Op}
use Rattle.sci_orders.specs.Positions.{lists_of, no_operation, operation_at, own_of}
use Rattle.sci_orders.proofs.{Changes.{list_below}, Copies.{own_is}}
use Rattle.sci_protocol_tests.proofs.orders_tests.are_on_two_lines.Goals as goal

pub returns : goal.returns
returns c = λ yes_ n i below. (
    let operations = lists_of c.args.operations.now in
    let lt = list_below operations n i below in
    let long = length-map c.args.operations.now (λ (v : _). v.items) in
    c.loop-own.invariant n i (omega arith) below)

pub loop-op-preserved : goal.loop-op-preserved
loop-op-preserved c = λ i below. elim (cases_eq i c.loop-op.op-index) [
  | inl e ↦
      let k = c.loop-own.own-index in
      let operations = lists_of c.args.operations.now in
      let j = c.loop-op.op-index in
      let own : own_of operations k ≡ c.deref-op-items.result.now =
      own_is c.args.operations.now k c.own-item.result c.loop-own-test.true c.own-item.is ∙ sym c.deref-op-items.ensures.value in
      let at : operation_at operations k i ≡ get_or c.deref-op-items.result.now j no_operation =
      ap (λ (n : ℕ). operation_at operations k n) e ∙ ap (λ (ops : List Op). get_or ops j no_operation) own in
      let xs = c.deref-op-items.result.now in (
        subst (λ (o : Op). o.line < 2) (sym (at ∙ get_or_default xs j no_operation _ c.loop-op-test.true)) c.if-op-ge2.false,
        subst (λ (o : Op). o.word < 8) (sym (at ∙ get_or_default xs j no_operation _ c.loop-op-test.true))
            (subst (λ (n : ℕ). n < 8) c.from.ensures c.if-from-ge-WORDS_PER_LINE.false),
      )
  | inr other ↦ c.loop-op.invariant i (omega arith)
]

pub loop-own-preserved : goal.loop-own-preserved
loop-own-preserved c = λ m i below inside. elim (cases_eq m c.loop-own.own-index) [
  | inl e ↦
      let operations = lists_of c.args.operations.now in
      let k = c.loop-own.own-index in
      let own : own_of operations k ≡ c.deref-op-items.result.now =
      own_is c.args.operations.now k c.own-item.result c.loop-own-test.true c.own-item.is ∙ sym c.deref-op-items.ensures.value in
      let same : length (own_of operations m) ≡ length c.deref-op-items.result.now =
      ap (λ (n : ℕ). length (own_of operations n)) e ∙ ap (λ (ops : List Op). length ops) own in
      subst (λ (n : ℕ). ((operation_at operations n i).line < 2) × ((operation_at operations n i).word < 8)) (sym e) (c.loop-op.invariant i (omega arith))
  | inr other ↦ c.loop-own.invariant m i (omega arith) inside
]
