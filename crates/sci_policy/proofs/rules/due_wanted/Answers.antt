use Rattle.std.proofs.Common.{rules, ◌≡◌, ap, ◌∙◌}
use Rattle.std.specs.Prelude.{option_map}
use Rattle.sci_words.specs.declared.event.AskKind.TheVariants.{Claim}
use Rattle.sci_policy.specs.declared.want.Want.TheVariants.{Ask}
use Rattle.sci_policy.proofs.LeastAmong.{least_of_both}
use Rattle.sci_policy.proofs.rules.due_wanted.Goals as goal

pub returns : goal.returns
returns c =
    let mapped : c.map.result ≡ option_map (λ line. Ask line Claim) c.next_from-line.result = search rules in
    mapped ∙ ap (option_map (λ line. Ask line Claim))
    (least_of_both c.args.node.now c.lines_of.result c.due.result _ _ _ c.next_from-line.result c.lines_of.ensures.each c.lines_of.ensures.here
    c.lines_of.ensures.small c.intersection.ensures c.due.ensures c.next_from-line.ensures.found c.next_from-line.ensures.between)
