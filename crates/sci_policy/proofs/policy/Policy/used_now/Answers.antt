use Rattle.std.proofs.Common.{rules, ◌≡◌, ◌<◌, ◌&&◌, ◌||◌, ℕ, Bool, true, false, List, Option, None, Some, ap, refl, ◌∙◌}
use Rattle.std.specs.Prelude.{is_some}
use Rattle.sci_words.specs.declared.limits.TheConstants.{MAX_LINES}
use Rattle.sci_cache.specs.LineSet.{is_in}
use Rattle.sci_core.specs.{declared.pending.Pending.{Pending}, Node.{NodeOf, node_performing, pending_on, performing_pending}}
use Rattle.sci_policy.specs.{Lines.{has_pending, is_head, state_on}, Policy.{PolicyOf, has, used_now}}
use Rattle.sci_policy.proofs.Marks.{in_set, set_same}
use Rattle.sci_policy.proofs.policy.Policy.used_now.Goals as goal

performs_pends : (node : NodeOf) (line : ℕ) (o : Option Pending) (h : Bool) → (is_some o && (h && is_some (performing_pending node line o)))
    ≡ (h && is_some (performing_pending node line o))
performs_pends node line None true = refl
performs_pends node line None false = refl
performs_pends node line (Some p) h = refl

pub returns : goal.returns
returns c =
    let node = c.args.node.now in
    let tested : ℕ → Bool = λ line. is_head (state_on node line) && is_some (node_performing node line) in
    let found = c.filter-ready.ensures tested (search rules) in
    let pends : (line : ℕ) → line < MAX_LINES → has c.of.result line ≡ has_pending node line =
    λ line small. ap (λ (marks : List Bool). has marks line) c.of.ensures
    ∙ (in_set (is_in c.pending_lines.result) line small ∙ c.pending_lines.ensures.each line) in
    c.union.ensures ∙ set_same _ (used_now c.args.self.now node) (λ line small.
    ap (λ (p : PolicyOf). has p.used line || is_in c.lines.result line) c.self.view_is
    ∙ ap (λ (b : Bool). has c.args.self.now.used line || b)
    (c.lines.ensures line small ∙ (ap (λ (marks : List Bool). has marks line) found
    ∙ (in_set (λ (l : ℕ). has c.of.result l && tested l) line small
    ∙ (ap (λ (b : Bool). b && tested line) (pends line small)
    ∙ performs_pends node line (pending_on node line) (is_head (state_on node line)))))))
