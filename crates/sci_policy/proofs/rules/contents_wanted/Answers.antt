use Rattle.std.proofs.Common.{rules, ◌≡◌, ◌&&◌, None, sym, ap, ◌∙◌}
use Rattle.std.specs.{Prelude.{is_some}, Option.{option_and_then}}
use Rattle.sci_cache.specs.LineSet.{is_in}
use Rattle.sci_policy.specs.{Lines.{oldest}, Policy.{operation_asks}}
use Rattle.sci_policy.proofs.Oldest.{oldest_in_set}
use Rattle.sci_policy.proofs.rules.contents_wanted.Goals as goal

pub returns-in_err-line : goal.returns-in_err-line
returns-in_err-line c =
    let node = c.args.node.now in
    let found : c.oldest.result ≡ oldest node (λ line. is_in c.lines_that_ask.result line && is_some (operation_asks node line)) =
    c.oldest.ensures (λ line. is_some (operation_asks node line)) (search rules) in
    let same = oldest_in_set node c.lines_that_ask.result (λ line. is_some (operation_asks node line)) c.lines_that_ask.ensures.all in
    let none : c.from_residual.result ≡ None = search rules in
    none ∙ ap (option_and_then (operation_asks node)) (sym c.in_err-line.was ∙ (found ∙ same))

pub returns : goal.returns
returns c =
    let node = c.args.node.now in
    let found : c.oldest.result ≡ oldest node (λ line. is_in c.lines_that_ask.result line && is_some (operation_asks node line)) =
    c.oldest.ensures (λ line. is_some (operation_asks node line)) (search rules) in
    let same = oldest_in_set node c.lines_that_ask.result (λ line. is_some (operation_asks node line)) c.lines_that_ask.ensures.all in
    c.operation_asks.ensures ∙ ap (option_and_then (operation_asks node)) (sym c.in_ok-line.was ∙ (found ∙ same))
