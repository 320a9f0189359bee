-- One node more, and at the end all nodes and lanes.
use Rattle.std.proofs.Common.{◌≡◌, ℕ, ◌*◌, List, [], ◌∷◌, ◌++◌, length, map, refl, sym, ap, ◌∙◌, arith}
use Rattle.std.proofs.lemmas.List.{length-replicate, FromFn.{map-range_with_len_more, length-map-range_with_len}}
use Rattle.std.specs.List.{range_with_len}
use Rattle.sci_core.specs.{Node.{NodeOf, opening_node}, Size.{size_of}}
use Rattle.sci_core.proofs.state.State.new.Goals as goal

pub loop-me-preserved : goal.loop-me-preserved
loop-me-preserved c =
    let extent = c.args.extent in
    let f : ℕ → NodeOf = λ n. opening_node n (size_of extent c.args.limit) in
    let more = map-range_with_len_more f 0 c.loop-me.me c.loop-me.me (omega arith) in
    let pushed = ap (λ (xs : List NodeOf). xs ++ c.in_ok-new.field-0 ∷ []) c.loop-me.invariant in
    let node = ap (λ (x : NodeOf). map f (range_with_len 0 c.loop-me.me) ++ x ∷ []) c.in_ok-new.ensures in
    c.in_ok-push.ensures.items ∙ (pushed ∙ (node ∙ sym more))

pub invariant_of-result : goal.invariant_of-result
invariant_of-result c =
    let extent = c.args.extent in
    let some = extent.has_node in
    let f : ℕ → NodeOf = λ n. opening_node n (size_of extent c.args.limit) in
    let product : 2 * c.from-2.result * c.from-3.result ≡ 2 * extent.nodes * extent.nodes = rw (c.from-2.ensures, c.from-3.ensures) refl in
    record {
      some_node = omega arith;
      parts_long = ap length c.loop-me.invariant ∙ length-map-range_with_len f 0 c.loop-me.me ∙ omega arith;
      lanes_long = ap length c.loop-place.invariant ∙ length-replicate c.loop-place._place [] ∙ omega arith;
    }
