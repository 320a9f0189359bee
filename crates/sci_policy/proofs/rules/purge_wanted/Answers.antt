use Rattle.std.proofs.Common.{rules, ◌≡◌, ◌<◌, ◌||◌, ℕ, ap, ◌∙◌}
use Rattle.std.specs.Prelude.{option_map}
use Rattle.sci_words.specs.declared.{limits.TheConstants.{MAX_LINES}, event.AskKind.TheVariants.{Purge}}
use Rattle.sci_cache.specs.LineSet.{is_in}
use Rattle.sci_policy.specs.{declared.want.Want.TheVariants.{Ask}, Policy.{has}}
use Rattle.sci_policy.proofs.LeastAmong.{least_of_both}
use Rattle.sci_policy.proofs.rules.purge_wanted.Goals as goal

pub returns : goal.returns
returns c =
    let policy = c.args.policy.now in
    let node = c.args.node.now in
    let mapped : c.map.result ≡ option_map (λ line. Ask line Purge) c.next_from-line.result = search rules in
    let wanted = λ (line : ℕ) (small : line < MAX_LINES). c.union-wanted.ensures line
    ∙ (ap (λ b. b || is_in c.pending_lines.result line) (c.draining.ensures line small)
    ∙ ap (λ b. has policy.draining line || b) (c.pending_lines.ensures.each line)) in
    mapped ∙ ap (option_map (λ line. Ask line Purge))
    (least_of_both node c.lines_of.result c.union-wanted.result _ _ _ c.next_from-line.result c.lines_of.ensures.each c.lines_of.ensures.here
    c.lines_of.ensures.small c.intersection.ensures wanted c.next_from-line.ensures.found c.next_from-line.ensures.between)
