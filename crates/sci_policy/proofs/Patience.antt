-- What a call of the policy leaves marked, and what it marks when patience ends.
use Rattle.std.proofs.Common.{◌≡◌, ◌<◌, ◌+◌, ◌%◌, ◌||◌, ℕ, nat_lt, Bool, true, false, List, length, arith}
use Rattle.std.proofs.Common.{Option, Some, None, refl, sym, ap, subst, ◌∙◌, rules, get_or-set_same, get_or-set_other}
use Rattle.std.proofs.lemmas.{Bool.{cases_Bool, cases_eq, ltb-true, ltb-false}}
use Rattle.std.proofs.lemmas.List.FromFn.{length-map-range_with_len}
use Rattle.sci_words.specs.declared.{limits.TheConstants.{MAX_LINES}}
use Rattle.sci_cache.specs.{Kinds.{has_fresh_sharers, has_sharers}}
use Rattle.sci_core.specs.{Node.{NodeOf}}
use Rattle.sci_policy.specs.declared.{policy.TheConstants.{PATIENCE}, want.Want.{Want, TheVariants.{Perform, Ask}}}
use Rattle.sci_policy.specs.Lines.{can_drain, state_on}
use Rattle.sci_policy.specs.Policy.{PolicyOf, draining_at_last, due_at_last, has, next_policy, next_wanted, noted, still_draining, still_due, ticked}
use Rattle.sci_policy.proofs.{Marks.{in_set}, PolicyLaws.{noted_due, ticked_if}}
use Rattle.sci_words.specs.declared.event.AskKind.TheVariants as kind

-- ---- draining lines

noted_draining : (policy : PolicyOf) (node : NodeOf) (want : Option Want) (line : ℕ) → line < length policy.draining → has policy.draining line ≡ true
    → has (noted policy node want).draining line ≡ true
noted_draining policy node None line below marked = marked
noted_draining policy node (Some (Perform other)) line below marked = marked
noted_draining policy node (Some (Ask other kind.Purge)) line below marked = grind (arith, cases_eq, get_or-set_same, get_or-set_other)
noted_draining policy node (Some (Ask other kind.Mread)) line below marked = marked
noted_draining policy node (Some (Ask other kind.Fread)) line below marked = marked
noted_draining policy node (Some (Ask other _)) line below marked = marked

pub still_marked : (policy : PolicyOf) (node : NodeOf) (line : ℕ) (b : Bool) → line < MAX_LINES → still_draining policy node line ≡ true
    → has (ticked_if policy node b).draining line ≡ true
still_marked policy node line true small still = in_set (still_draining policy node) line small ∙ still
still_marked policy node line false small still =
    in_set (draining_at_last policy node) line small ∙ ap (λ (b : Bool). b || has_sharers (state_on node line)) still

ticked_long : (policy : PolicyOf) (node : NodeOf) (b : Bool) → length (ticked_if policy node b).draining ≡ MAX_LINES
ticked_long policy node true = length-map-range_with_len (still_draining policy node) 0 MAX_LINES
ticked_long policy node false = length-map-range_with_len (draining_at_last policy node) 0 MAX_LINES

pub draining_stays : (policy : PolicyOf) (node : NodeOf) (line : ℕ) → line < MAX_LINES → has policy.draining line ≡ true → can_drain (state_on node line) ≡ true
    → has (next_policy policy node).draining line ≡ true
draining_stays policy node line small marked drains =
    let still : still_draining policy node line ≡ true = rw (marked, drains) refl in
    let b = nat_lt (policy.patience + 1) PATIENCE in
    noted_draining (ticked policy node) node (next_wanted policy node) line (subst (λ (long : ℕ). line < long) (sym (ticked_long policy node b)) small)
    (still_marked policy node line b small still)

or_last : (a b : Bool) → b ≡ true → (a || b) ≡ true
or_last a b is = search rules

pub draining_sets : (policy : PolicyOf) (node : NodeOf) (line : ℕ) → line < MAX_LINES → nat_lt (policy.patience + 1) PATIENCE ≡ false
    → has_sharers (state_on node line) ≡ true → has (next_policy policy node).draining line ≡ true
draining_sets policy node line small ends shared =
    let marked : has (ticked_if policy node false).draining line ≡ true =
    in_set (draining_at_last policy node) line small ∙ or_last (still_draining policy node line) (has_sharers (state_on node line)) shared in
    let ticks : has (ticked policy node).draining line ≡ true = subst (λ (b : Bool). has (ticked_if policy node b).draining line ≡ true) (sym ends) marked in
    noted_draining (ticked policy node) node (next_wanted policy node) line
    (subst (λ (long : ℕ). line < long) (sym (ticked_long policy node (nat_lt (policy.patience + 1) PATIENCE))) small) ticks

-- ---- due lines

pub still_due_marked : (policy : PolicyOf) (node : NodeOf) (line : ℕ) (b : Bool) → line < MAX_LINES → still_due policy node line ≡ true
    → has (ticked_if policy node b).due line ≡ true
still_due_marked policy node line true small still = in_set (still_due policy node) line small ∙ still
still_due_marked policy node line false small still =
    in_set (due_at_last policy node) line small ∙ ap (λ (b : Bool). b || has_fresh_sharers (state_on node line)) still

pub due_sets : (policy : PolicyOf) (node : NodeOf) (line : ℕ) → line < MAX_LINES → nat_lt (policy.patience + 1) PATIENCE ≡ false
    → has_fresh_sharers (state_on node line) ≡ true → has (next_policy policy node).due line ≡ true
due_sets policy node line small ends shared =
    let marked : has (ticked_if policy node false).due line ≡ true =
    in_set (due_at_last policy node) line small ∙ or_last (still_due policy node line) (has_fresh_sharers (state_on node line)) shared in
    let ticks : has (ticked policy node).due line ≡ true = subst (λ (b : Bool). has (ticked_if policy node b).due line ≡ true) (sym ends) marked in
    subst (λ (marks : List Bool). has marks line ≡ true) (sym (noted_due (ticked policy node) node (next_wanted policy node))) ticks

-- ---- how patience is counted

noted_patience : (policy : PolicyOf) (node : NodeOf) (want : Option Want) → (noted policy node want).patience ≡ policy.patience
noted_patience policy node None = refl
noted_patience policy node (Some (Perform line)) = refl
noted_patience policy node (Some (Ask line kind.Purge)) = refl
noted_patience policy node (Some (Ask line kind.Mread)) = refl
noted_patience policy node (Some (Ask line kind.Fread)) = refl
noted_patience policy node (Some (Ask line _)) = refl

pub next_patience : (policy : PolicyOf) (node : NodeOf) → nat_lt (policy.patience + 1) PATIENCE ≡ true
    → (next_policy policy node).patience ≡ policy.patience + 1
next_patience policy node lasts =
    noted_patience (ticked policy node) node (next_wanted policy node) ∙ ap (λ (b : Bool). (ticked_if policy node b).patience) lasts

last_patience : (policy : PolicyOf) (node : NodeOf) → nat_lt (policy.patience + 1) PATIENCE ≡ false → (next_policy policy node).patience ≡ 0
last_patience policy node ends =
    noted_patience (ticked policy node) node (next_wanted policy node) ∙ ap (λ (b : Bool). (ticked_if policy node b).patience) ends

pub patience_counts : (policy : PolicyOf) (node : NodeOf) → policy.patience < PATIENCE → (next_policy policy node).patience ≡ (policy.patience + 1) % PATIENCE
patience_counts policy node low = grind (arith, cases_Bool, ltb-true, next_patience, ltb-false, last_patience)

pub ended : (policy : PolicyOf) → policy.patience + 1 ≡ PATIENCE → nat_lt (policy.patience + 1) PATIENCE ≡ false
ended policy is = ap (λ (k : ℕ). nat_lt k PATIENCE) is
