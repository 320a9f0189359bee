use Rattle.std.proofs.Common.{◌≡◌, ◌<◌, ◌≤◌, ℕ, true, sym, ap, subst, ◌∙◌, refl, inl, inr, arith}
use Rattle.std.proofs.lemmas.Bool.{ltb-false}
use Rattle.std.specs.Prelude.{is_some, not, option_copied, option_map}
use Rattle.sci_cache.specs.{Cache.{letter_of}}
use Rattle.sci_core.specs.{Core.{node_at}, Node.{NodeOf, lines_of}}
use Rattle.sci_core.proofs.WellFormed.WellFormedSteps.{reached_well}
use Rattle.sci_text.specs.Schedule.{IsEventWithin}
use Rattle.sci_random_schedules.proofs.QuickLooks.{accepts_none, asks_not, issues_not, performs_not, replies_not, moved_not, seen_same, takes_not}
use Rattle.sci_random_schedules.proofs.walking.may_happen.Goals as goal

pub returns-in-Issue : goal.returns-in-Issue
returns-in-Issue c = grind (arith, moved_not, issues_not)

pub returns-in-Perform : goal.returns-in-Perform
returns-in-Perform c = grind (arith, moved_not, performs_not)

pub returns-in-Ask : goal.returns-in-Ask
returns-in-Ask c = grind (arith, moved_not, asks_not)

pub returns-in-Reply : goal.returns-in-Reply
returns-in-Reply c = grind (arith, moved_not, replies_not, seen_same)

pub returns-in-Accept : goal.returns-in-Accept
returns-in-Accept c = grind (arith, moved_not, accepts_none, ltb-false)

pub held-requires : goal.held-requires
held-requires c =
    let core = c.args.machine.now in
    let within = subst (IsEventWithin core.size.nodes core.size.lines) c.in-Ask.is c.requires.within in
    let part = (reached_well core c.node-node.ensures.reached).each_part c.args.n c.requires.node in
    subst (λ (m : NodeOf). c.in-Ask.line < lines_of m) (sym c.node-node.ensures.node) (subst (λ (k : ℕ). c.in-Ask.line < k) (sym part.each) within.1)

pub returns-then-is_none : goal.returns-then-is_none
returns-then-is_none c = λ no.
    takes_not c.args.machine.now c.args.event.now c.in-Serve.from c.args.n c.requires.within c.requires.node c.in-Serve.is
    (inl (subst (λ (k : ℕ). k ≤ 0) c.count-then-is_none.ensures (ltb-false 0 c.count-then-is_none.result no)))

pub returns-else-is_none : goal.returns-else-is_none
returns-else-is_none c = λ no.
    let waits : is_some (node_at c.args.machine.now c.args.n).waiting ≡ true =
    ap (λ (m : NodeOf). is_some m.waiting) (sym c.node-node.ensures.node)
    ∙ (ap is_some (sym c.waiting-in-Serve.ensures) ∙ (seen_same (λ o. option_map letter_of (option_copied o)) refl (λ x. refl) c.waiting-in-Serve.result
    ∙ (c.is_none.ensures ∙ ap not no))) in
    takes_not c.args.machine.now c.args.event.now c.in-Serve.from c.args.n c.requires.within c.requires.node c.in-Serve.is (inr waits)
