-- A slot is wanted for the oldest operation.
use Rattle.std.proofs.Common.{rules, ◌≡◌, ◌&&◌, ℕ, not, Bool, true, false, if◌then◌else◌, Some, None, refl, sym, ap, ◌∙◌}
use Rattle.std.specs.{Prelude.{is_some}, Option.{option_and_then}}
use Rattle.sci_cache.specs.{Kinds.{could_give_way, gives_way}, State.{is_out}, Cache.{has_slot}}
use Rattle.sci_cache.specs.LineSet.{is_in}
use Rattle.sci_core.specs.Node.{NodeOf}
use Rattle.sci_policy.specs.{Lines.{least, oldest, some_line, state_on}, Policy.{ask_of, lacks_slot, slot_for}}
use Rattle.sci_policy.proofs.Oldest.{oldest_in_set}
use Rattle.sci_policy.proofs.rules.slot_wanted.Goals as goal

-- whom the oldest operation's line has to give way, if it lacks a slot
slot_by : (node : NodeOf) (line : ℕ) (lacks : Bool) → lacks_slot node line ≡ lacks
    → slot_for node line ≡ (if lacks then option_and_then (ask_of node) (least node (λ other. could_give_way (state_on node other))) else None)
slot_by node line lacks e = ap (λ (b : Bool). if b then option_and_then (ask_of node) (least node (λ other. could_give_way (state_on node other))) else None) e

lacks : (out slot giving : Bool) → out ≡ true → slot ≡ false → giving ≡ false → ((out && not slot) && not giving) ≡ true
lacks out slot giving a b c = rw (a, b, c) refl

has_one : (out slot giving : Bool) → out ≡ false → ((out && not slot) && not giving) ≡ false
has_one out slot giving a = rw a refl

pub returns-in_err-line : goal.returns-in_err-line
returns-in_err-line c =
    let node = c.args.node.now in
    let pending : c.oldest.result ≡ oldest node (λ l. is_in c.pending_lines.result l && true) = c.oldest.ensures (λ l. true) (search rules) in
    let found = pending ∙ oldest_in_set node c.pending_lines.result (λ l. true) (λ l is _. c.pending_lines.ensures.each l ∙ is) in
    let none : c.from_residual.result ≡ None = search rules in
    none ∙ ap (option_and_then (slot_for node)) (sym c.in_err-line.was ∙ found)

pub returns-then-not-is_out : goal.returns-then-not-is_out
returns-then-not-is_out c =
    let node = c.args.node.now in
    let line = c.in_ok-line.line in
    let pending : c.oldest.result ≡ oldest node (λ l. is_in c.pending_lines.result l && true) = c.oldest.ensures (λ l. true) (search rules) in
    let found = pending ∙ oldest_in_set node c.pending_lines.result (λ l. true) (λ l is _. c.pending_lines.ensures.each l ∙ is) in
    let entry : is_out (state_on node line) ≡ false = sym c.is_out.ensures ∙ c.if-not-is_out.true in
    let none : slot_for node line ≡ None =
    slot_by node line false (has_one (is_out (state_on node line)) (has_slot node.cache) (some_line node (λ other. gives_way (state_on node other)))
    entry) in
    sym none ∙ ap (option_and_then (slot_for node)) (sym c.in_ok-line.was ∙ found)

pub returns : goal.returns
returns c =
    let node = c.args.node.now in
    let line = c.in_ok-line.line in
    let pending : c.oldest.result ≡ oldest node (λ l. is_in c.pending_lines.result l && true) = c.oldest.ensures (λ l. true) (search rules) in
    let found = pending ∙ oldest_in_set node c.pending_lines.result (λ l. true) (λ l is _. c.pending_lines.ensures.each l ∙ is) in
    let out : is_out (state_on node line) ≡ true = sym c.is_out.ensures ∙ c.if-not-is_out.false in
    let full : has_slot node.cache ≡ false = sym c.has_slot.ensures ∙ c.if-has_slot.false in
    let stays : some_line node (λ other. gives_way (state_on node other)) ≡ false =
    ap is_some (sym c.least_of.ensures) ∙ (sym c.is_some.ensures ∙ c.if-is_some.false) in
    let lacking = lacks (is_out (state_on node line)) (has_slot node.cache) (some_line node (λ other. gives_way (state_on node other))) out full stays in
    let other : Some c.in_ok-other.other ≡ least node (λ l. could_give_way (state_on node l)) = sym c.in_ok-other.was ∙ c.least_of-2.ensures in
    c.ask_of.ensures
    ∙ (ap (option_and_then (ask_of node)) other
    ∙ (sym (slot_by node line true lacking)
    ∙ ap (option_and_then (slot_for node)) (sym c.in_ok-line.was ∙ found)))
