use Rattle.std.proofs.Common.{rules, ◌≡◌, ◌&&◌, ap, ◌∙◌}
use Rattle.std.specs.Prelude.{is_some, option_map}
use Rattle.sci_cache.specs.LineSet.{is_in}
use Rattle.sci_core.specs.Node.{node_performing}
use Rattle.sci_policy.specs.{declared.want.Want.TheVariants.{Perform}, Lines.{oldest}}
use Rattle.sci_policy.proofs.Oldest.{in_both, oldest_in_set}
use Rattle.sci_policy.proofs.rules.perform_wanted.Goals as goal

pub returns : goal.returns
returns c =
    let node = c.args.node.now in
    let mapped : c.map.result ≡ option_map Perform c.oldest-line.result = search rules in
    let found : c.oldest-line.result ≡ oldest node (λ line. is_in c.intersection-lines.result line && is_some (node_performing node line)) =
    c.oldest-line.ensures (λ line. is_some (node_performing node line)) (search rules) in
    mapped ∙ ap (option_map Perform) (found
    ∙ oldest_in_set node c.intersection-lines.result (λ line. is_some (node_performing node line))
    (λ line pending performs. in_both _ _ _ (c.intersection-lines.ensures line) (c.pending_lines.ensures.each line ∙ pending)
    (c.lines_of.ensures.each line ∙ c.performs_on_lines_with_contents.ensures line performs)))
