-- What a policy wants, by the first rule that fits: where nothing can be performed, to purge; then to send what must be sent; and then to
-- claim what is due.
use Rattle.std.proofs.Common.{◌≡◌, ◌<◌, ◌&&◌, ℕ, Bool, true, false, if◌then◌else◌, Option, Some, None, arith}
use Rattle.std.proofs.Common.{refl, sym, ap, subst, ◌∙◌}
use Rattle.std.specs.{Prelude.{is_some, option_map}, Option.{option_and_then, option_or}}
use Rattle.sci_words.specs.{declared.{event.AskKind.{AskKind}, operation.Op.{Op}}, Operation.{is_maker}}
use Rattle.sci_cache.specs.{Kinds.{joins, must_send}, Performing.{Performed, performing}, State.{CacheState, FreshHead, Head, Below}}
use Rattle.sci_core.specs.{declared.pending.Pending.{Pending}, Reached.{IsReachedNode}}
use Rattle.sci_core.specs.Node.{IsPendingOn, NodeOf, lines_of, node_performing, pending_on, performing_pending}
use Rattle.sci_core.proofs.{Basics.Options.{of_some}, WellFormed.WellFormedSteps.{any_part, reachable_node}}
use Rattle.sci_policy.specs.declared.want.Want.{Want, TheVariants.{Perform, Ask}}
use Rattle.sci_policy.specs.Lines.{has_maker, least, oldest, own_ask, some_line, state_on}
use Rattle.sci_policy.specs.Policy.{PolicyOf, ask_of, asks_home_to_change, due_wanted, held_back, is_claimed, is_purged, operation_wanted}
use Rattle.sci_policy.specs.Policy.{perform_wanted, purge_wanted, ruled, send_wanted, wanted}
use Rattle.sci_policy.proofs.{Found.{least_some, none_passes}}
use Rattle.sci_fair.specs.Rank.{can_perform, work_in, work_on}
use Rattle.sci_fair.proofs.Suits.{at_line}
use Rattle.sci_words.specs.declared.event.AskKind.TheVariants as kind

-- ---- what is wanted isn't held back

kept_want : (joining : Bool) (want : Want) → asks_home_to_change want ≡ false → held_back joining (Some want) ≡ Some want
kept_want true want is = ap (λ (b : Bool). if b then None else Some want) is
kept_want false want is = refl

no_join : (joining : Bool) (want : Option Want) → joining ≡ false → held_back joining want ≡ want
no_join joining None is = refl
no_join joining (Some want) is = ap (λ (b : Bool). if b && asks_home_to_change want then None else Some want) is

-- what is wanted is no Perform
abbrev pub PerformsNot : Option Want → Type 0
PerformsNot want = (line : ℕ) → want ≡ Some (Perform line) → ⊥

module _ (policy : PolicyOf) (node : NodeOf) where
  abbrev joining : Bool
  joining = some_line node (λ line. joins (state_on node line))

  performs_first : (o : Option ℕ) → oldest node (λ line. is_some (node_performing node line)) ≡ o → PerformsNot (wanted policy node)
      → perform_wanted node ≡ None
  performs_first None is other = ap (option_map Perform) is
  performs_first (Some line) is other = grind (arith, kept_want)

  no_perform : PerformsNot (wanted policy node) → perform_wanted node ≡ None
  no_perform = performs_first (oldest node (λ line. is_some (node_performing node line))) refl

  -- ---- purges

  purges_by : (o : Option ℕ) → least node (is_purged policy node) ≡ o → is_some o ≡ true → PerformsNot (wanted policy node)
      → (line : ℕ) × (wanted policy node ≡ Some (Ask line kind.Purge))
  purges_by None is some other = cc
  purges_by (Some line) is some other =
      let first : ruled policy node ≡ Some (Ask line kind.Purge) =
      ap (λ (w : Option Want). option_or w (option_or (purge_wanted policy node) (option_or (send_wanted node)
      (option_or (due_wanted policy node) (operation_wanted node))))) (no_perform other)
      ∙ ap (λ (q : Option ℕ). option_or (option_map (λ at. Ask at kind.Purge) q) (option_or (send_wanted node)
      (option_or (due_wanted policy node) (operation_wanted node)))) is in
      (line, ap (held_back joining) first ∙ kept_want joining (Ask line kind.Purge) refl)

  -- where a line is to be purged, that or another is
  pub wants_purge : (line : ℕ) → line < lines_of node → is_purged policy node line ≡ true → PerformsNot (wanted policy node)
      → (at : ℕ) × (wanted policy node ≡ Some (Ask at kind.Purge))
  wants_purge line below is other = purges_by (least node (is_purged policy node)) refl (least_some node (is_purged policy node) line below is) other

  -- ---- what must be sent

  purges_none : (o : Option ℕ) → is_some o ≡ false → option_map (λ at. Ask at kind.Purge) o ≡ None
  purges_none None is = refl
  purges_none (Some at) is = cc

  no_purge : ((line : ℕ) → line < lines_of node → is_purged policy node line ≡ false) → purge_wanted policy node ≡ None
  no_purge never = purges_none (least node (is_purged policy node)) (none_passes node (is_purged policy node) never)

  abbrev sends : ℕ → Bool
  sends line = must_send (state_on node line)

  pub wants_send : (line : ℕ) (k : AskKind) → ((at : ℕ) → at < lines_of node → is_purged policy node at ≡ false)
      → least node (λ at. must_send (state_on node at)) ≡ Some line → own_ask (has_maker node line) (state_on node line) ≡ Some k
      → asks_home_to_change (Ask line k) ≡ false → PerformsNot (wanted policy node) → wanted policy node ≡ Some (Ask line k)
  wants_send line k never first own plain other = grind (arith, no_perform, no_purge, kept_want)

  -- ---- what is due

  sends_none : (o : Option ℕ) → is_some o ≡ false → option_and_then (ask_of node) o ≡ None
  sends_none None is = refl
  sends_none (Some at) is = cc

  no_send : ((line : ℕ) → line < lines_of node → must_send (state_on node line) ≡ false) → send_wanted node ≡ None
  no_send never = sends_none (least node sends) (none_passes node sends never)

  claims_by : (o : Option ℕ) → least node (is_claimed policy node) ≡ o → is_some o ≡ true
      → ((line : ℕ) → line < lines_of node → is_purged policy node line ≡ false) → ((line : ℕ) → line < lines_of node → must_send (state_on node line) ≡ false)
      → ((line : ℕ) → line < lines_of node → joins (state_on node line) ≡ false) → PerformsNot (wanted policy node)
      → (line : ℕ) × (wanted policy node ≡ Some (Ask line kind.Claim))
  claims_by None is some purges sends_ joins_ other = cc
  claims_by (Some line) is some purges sends_ joins_ other =
      let rule : ruled policy node ≡ Some (Ask line kind.Claim) =
      ap (λ (w : Option Want). option_or w (option_or (purge_wanted policy node) (option_or (send_wanted node)
      (option_or (due_wanted policy node) (operation_wanted node))))) (no_perform other)
      ∙ (ap (λ (w : Option Want). option_or w (option_or (send_wanted node) (option_or (due_wanted policy node) (operation_wanted node)))) (no_purge purges)
      ∙ (ap (λ (w : Option Want). option_or w (option_or (due_wanted policy node) (operation_wanted node))) (no_send sends_)
      ∙ ap (λ (q : Option ℕ). option_or (option_map (λ at. Ask at kind.Claim) q) (operation_wanted node)) is)) in
      (line, ap (held_back joining) rule ∙ no_join joining (Some (Ask line kind.Claim)) (none_passes node (λ at. joins (state_on node at)) joins_))

  pub wants_claim : (line : ℕ) → line < lines_of node → is_claimed policy node line ≡ true
      → ((at : ℕ) → at < lines_of node → is_purged policy node at ≡ false) → ((at : ℕ) → at < lines_of node → must_send (state_on node at) ≡ false)
      → ((at : ℕ) → at < lines_of node → joins (state_on node at) ≡ false) → PerformsNot (wanted policy node)
      → (at : ℕ) × (wanted policy node ≡ Some (Ask at kind.Claim))
  wants_claim line below is purges sends_ joins_ other =
      claims_by (least node (is_claimed policy node)) refl (least_some node (is_claimed policy node) line below is) purges sends_ joins_ other

-- ---- what can be performed

only_can : (b : Bool) (c : _) → can_perform (Some b) (Head None c) ≡ true
only_can true c = refl
only_can false c = refl

-- contents that have other copies can be read alone
load_only : (b : Bool) (s : CacheState) (done : Performed) → can_perform (Some false) s ≡ true → is_some (if b then None else Some done) ≡ true
    → can_perform (Some b) s ≡ true
load_only true s done can is = cc
load_only false s done can is = can

state_can : (s : CacheState) (op : Op) → is_some (performing s op) ≡ true → can_perform (Some (is_maker op)) s ≡ true
state_can (Head None c) op is = only_can (is_maker op) c
state_can (Head (Some q) c) op is = load_only (is_maker op) (Head (Some q) c) _ refl is
state_can (FreshHead f c) op is = load_only (is_maker op) (FreshHead f c) _ refl is
state_can (Below f b c) op is = load_only (is_maker op) (Below f b c) _ refl is
state_can _ op is = cc

pending_can : (n : ℕ) (node : NodeOf) (line : ℕ) (o : Option Pending) → IsReachedNode n node → pending_on node line ≡ o
    → is_some (performing_pending node line o) ≡ true → can_perform (work_in o) (state_on node line) ≡ true
pending_can n node line None is at performs = cc
pending_can n node line (Some p) is at performs =
    let part = any_part n node (reachable_node n node is) in
    let here : p.op.line ≡ line = (of_some (IsPendingOn node.issued line) (pending_on node line) p at (part.fits.each line)).here in
    let done = sym (at_line node line p line refl here) ∙ performs in
    subst (λ (l : ℕ). can_perform (Some (is_maker p.op)) (state_on node l) ≡ true) here (state_can (state_on node p.op.line) p.op done)

-- what the node would perform can be performed
pub performs_can : (n : ℕ) (node : NodeOf) (line : ℕ) → IsReachedNode n node → is_some (node_performing node line) ≡ true
    → can_perform (work_on node line) (state_on node line) ≡ true
performs_can n node line is performs = pending_can n node line (pending_on node line) is refl performs
