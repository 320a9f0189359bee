-- One of sixteen logs is longer, and the fifteen others stand.
use Rattle.std.proofs.lemmas.List.{map-set, length-map, length-set, get_or-map, Elements.{All-same}}
use Rattle.std.proofs.lemmas.Result.{on_ok_weaker, on_err_weaker}
use Rattle.std.proofs.Common.{◌≡◌, ◌<◌, ◌∙◌, [], get_or, length, map, sym, refl, arith}
use Rattle.std.specs.Prelude.{All}
use Rattle.sci_history.proofs.Pushes.{pushed, unpushed, all_pushed, own_set}
use Rattle.sci_history.specs.Placed.{log_of}
use Rattle.sci_history.proofs.logs.Logs.push.Goals as goal

pub returns-clause-ok : goal.returns-clause-ok
returns-clause-ok c =
    rw (map-set, ← c.self.view_is) (on_ok_weaker c.push_entry.result
    (λ e. pushed (λ log. log.items) c.self.inside.lists c.args.entry.node c.index-self-entry.result c.push_entry.new.log.items c.args.entry (omega arith) e)
    c.push_entry.ensures.ok)

pub returns-clause-err : goal.returns-clause-err
returns-clause-err c =
    rw (map-set, ← c.self.view_is) (on_err_weaker c.push_entry.result
    (λ e. unpushed (λ log. log.items) c.self.inside.lists c.args.entry.node c.index-self-entry.result c.push_entry.new.log.items (omega arith) e)
    c.push_entry.ensures.err)

pub invariant_of-self : goal.invariant_of-self
invariant_of-self c =
    let lists = c.self.inside.lists in
    let node = c.args.entry.node in
    let below : node < length (map (λ log. log.items) lists) = rw length-map (omega arith) in
    let old = (get_or lists node c.index-self-entry.result).items in
    let was : log_of (map (λ log. log.items) lists) node ≡ old = get_or-map (λ log. log.items) lists node c.index-self-entry.result [] (omega arith) in
    let own_old : All (λ e. e.node ≡ node) old =
    All-same (λ e. e.node ≡ node) old (log_of (map (λ log. log.items) lists) node) (sym was) (c.self.invariant.1 node) in
    let new : All (λ e. e.node ≡ node) c.push_entry.new.log.items =
    all_pushed (λ e. e.node ≡ node) c.push_entry.result old c.push_entry.new.log.items c.args.entry c.push_entry.ensures.ok c.push_entry.ensures.err own_old
    refl in (
      length-set lists node _ ∙ c.self.invariant.0,
      rw map-set (own_set (map (λ log. log.items) lists) node c.push_entry.new.log.items c.self.invariant.1 below new),
    )
