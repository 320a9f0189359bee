-- What a policy asks for suits what is pending on its line, and that can't be performed.
use Rattle.std.proofs.Common.{◌≡◌, ◌<◌, ◌⊎◌, ℕ, Bool, true, false, if◌then◌else◌, Option, Some, None, refl, sym, ap, subst, ◌∙◌, inl, inr, arith, rules}
use Rattle.std.proofs.lemmas.{Bool.{and_parts, cases_Bool, cases_lt}, List.{get_or_past}}
use Rattle.std.specs.{Prelude.{IfSome, IsSome, is_some, option_map, unwrap_or}, Option.{option_or, option_and_then}}
use Rattle.sci_words.specs.{declared.{event.AskKind.{AskKind}, operation.Op.{Op}}, Operation.{is_maker}}
use Rattle.sci_words.specs.declared.stamped.Stamped.{Stamped}
use Rattle.sci_cache.specs.State.{CacheState, Out, Head, FreshHead, Below}
use Rattle.sci_cache.specs.{Cache.{has_slot}, Kinds.{joins}, Line.{LineState, untouched}, Performing.{Performed, performing}}
use Rattle.sci_core.specs.{declared.pending.Pending.{Pending}, Reached.{IsReachedNode}}
use Rattle.sci_core.specs.Node.{IsPendingOn, NodeOf, lines_of, node_performing, pending_on, performing_pending}
use Rattle.sci_core.proofs.{Basics.Options.{of_some}, History.Pendings.{sole_performs}}
use Rattle.sci_core.proofs.WellFormed.WellFormedSteps.{any_part, reachable_node}
use Rattle.sci_policy.specs.declared.want.Want.{Want, TheVariants.{Perform, Ask}}
use Rattle.sci_policy.specs.Lines.{has_maker, has_pending, is_maker_of, oldest, own_ask, some_line, state_on}
use Rattle.sci_policy.specs.Policy.{PolicyOf, ask_of, asked_in, contents_wanted, due_wanted, held_back, lacks_slot, next_wanted, operation_asks}
use Rattle.sci_policy.specs.Policy.{perform_wanted, purge_wanted, read_kind, ruled, send_wanted, slot_for, slot_wanted, ticked}
use Rattle.sci_policy.proofs.{Found.{oldest_fits, oldest_some}, Wants.{and_then, either, held_enabled, mapped}}
use Rattle.sci_fair.specs.Rank.{CannotPerform, can_perform, suits, work_in, work_on}
use Rattle.sci_words.specs.declared.event.AskKind.TheVariants as kind

-- ---- what suits

purge_suits : (work : Option Bool) → suits work kind.Purge ≡ true
purge_suits work = search rules

claim_suits : (work : Option Bool) → suits work kind.Claim ≡ true
claim_suits work = search rules

-- what is wanted suits what is pending on its line
abbrev SuitsWant : NodeOf → Want → Type 0
SuitsWant node (Perform line) = Unit {0}
SuitsWant node (Ask line k) = suits (work_on node line) k ≡ true

own_with : (work : Option Bool) (s : CacheState) → IfSome (own_ask (unwrap_or work false) s) (λ k. suits work k ≡ true)
own_with work s = search rules

own_suits : (pending : Option Pending) (s : CacheState) → IfSome (own_ask (is_maker_of pending) s) (λ k. suits (work_in pending) k ≡ true)
own_suits None s = own_with None s
own_suits (Some p) s = own_with (Some (is_maker p.op)) s

ask_suits : (node : NodeOf) (line : ℕ) → IfSome (ask_of node line) (SuitsWant node)
ask_suits node line = grind (arith, mapped, own_suits)

-- a line with an operation is read
read_with : (maker : Bool) → suits (Some maker) (read_kind maker) ≡ true
read_with maker = search rules

read_suits : (pending : Option Pending) → is_some pending ≡ true → suits (work_in pending) (read_kind (is_maker_of pending)) ≡ true
read_suits None some = cc
read_suits (Some p) some = read_with (is_maker p.op)

read_if : (node : NodeOf) (line : ℕ) (free : Bool) → has_pending node line ≡ true
    → IfSome (if free then Some (Ask line (read_kind (has_maker node line))) else None) (SuitsWant node)
read_if node line true some = read_suits (pending_on node line) some
read_if node line false some = tt

asked_suits : (node : NodeOf) (line : ℕ) (s : CacheState) → has_pending node line ≡ true → IfSome (asked_in node line s) (SuitsWant node)
asked_suits node line Out some = read_if node line (has_slot node.cache) some
asked_suits node line (FreshHead f c) some = ask_suits node line
asked_suits node line (Below f b c) some = ask_suits node line
asked_suits node line _ some = tt

any_line : (o : Option ℕ) → IfSome o (λ line. Unit {0})
any_line None = tt
any_line (Some line) = tt

slot_suits : (node : NodeOf) (lacks : Bool) (o : Option ℕ) → IfSome (if lacks then option_and_then (ask_of node) o else None) (SuitsWant node)
slot_suits node true o = and_then (ask_of node) o _ (SuitsWant node) (any_line o) (λ line _. ask_suits node line)
slot_suits node false o = tt

-- ---- what the rules want

rules_suit : (policy : PolicyOf) (node : NodeOf) → IfSome (ruled policy node) (SuitsWant node)
rules_suit policy node =
    either (perform_wanted node) _ (SuitsWant node) (mapped Perform _ _ (SuitsWant node) (any_line _) (λ line _. tt))
    (either (purge_wanted policy node) _ (SuitsWant node)
    (mapped (λ line. Ask line kind.Purge) _ _ (SuitsWant node) (any_line _) (λ line _. purge_suits (work_on node line)))
    (either (send_wanted node) _ (SuitsWant node) (and_then (ask_of node) _ _ (SuitsWant node) (any_line _) (λ line _. ask_suits node line))
    (either (due_wanted policy node) _ (SuitsWant node)
    (mapped (λ line. Ask line kind.Claim) _ _ (SuitsWant node) (any_line _) (λ line _. claim_suits (work_on node line)))
    (either (slot_wanted node) (contents_wanted node) (SuitsWant node)
    (and_then (slot_for node) _ _ (SuitsWant node) (any_line _) (λ line _. slot_suits node (lacks_slot node line) _))
    (and_then (operation_asks node) _ _ (SuitsWant node) (oldest_fits node (λ line. is_some (operation_asks node line)))
    (λ line fits. asked_suits node line (state_on node line) (and_parts (has_pending node line) (is_some (operation_asks node line)) fits.1).0))))))

-- where an ask is wanted, nothing can be performed
asks_last : (joining : Bool) (o : Option ℕ) (rest : Option Want) (line : ℕ) (k : AskKind)
    → held_back joining (option_or (option_map Perform o) rest) ≡ Some (Ask line k) → option_map Perform o ≡ None
asks_last joining None rest line k is = refl
asks_last true (Some l) rest line k is = cc
asks_last false (Some l) rest line k is = cc

is_mapped : {A B : Type 0} (f : A → B) (o : Option A) → is_some (option_map f o) ≡ is_some o
is_mapped f None = refl
is_mapped f (Some x) = refl

-- ---- what can be performed

none_performs : (node : NodeOf) (line : ℕ) → line < lines_of node → has_pending node line ≡ true → perform_wanted node ≡ None
    → is_some (node_performing node line) ≡ true → ⊥
none_performs node line below some none performs =
    let found = oldest_some node (λ l. is_some (node_performing node l)) line below some performs in
    let wanted : is_some (perform_wanted node) ≡ true = is_mapped Perform (oldest node (λ l. is_some (node_performing node l))) ∙ found in
    let clash : true ≡ false = sym wanted ∙ ap is_some none in
    cc

loads_if : (b : Bool) (done : Performed) → b ≡ false → is_some (if b then None else Some done) ≡ true
loads_if true done is = cc
loads_if false done is = refl

-- a load can be performed where there are contents; a maker has only the case of an only copy
state_performs : (s : CacheState) (op : Op) (b : Bool) → is_maker op ≡ b → can_perform (Some b) s ≡ true → ((c : Stamped) → s ≡ Head None c → ⊥)
    → is_some (performing s op) ≡ true
state_performs (Head None c) op b is can other = absurd (other c refl)
state_performs (Head (Some q) c) op false is can other = loads_if (is_maker op) _ is
state_performs (FreshHead f c) op false is can other = loads_if (is_maker op) _ is
state_performs (Below f b c) op false is can other = loads_if (is_maker op) _ is
state_performs (Head (Some q) c) op true is can other = cc
state_performs _ op true is can other = cc
state_performs _ op false is can other = cc

pub at_line : (node : NodeOf) (line : ℕ) (p : Pending) (at : ℕ) → at ≡ line → p.op.line ≡ at → is_some (performing_pending node line (Some p))
    ≡ is_some (performing (state_on node p.op.line) p.op)
at_line node line p at here is = is_mapped _ _ ∙ is_mapped _ (performing (state_on node p.op.line) p.op)

is_only : (s : CacheState) → ((c : Stamped) × (s ≡ Head None c)) ⊎ ((c : Stamped) → s ≡ Head None c → ⊥)
is_only (Head None c) = inl (c, refl)
is_only _ = inr (λ c is. cc)

pending_performs : (n : ℕ) (node : NodeOf) (line : ℕ) (o : Option Pending) → IsReachedNode n node → line < lines_of node → pending_on node line ≡ o
    → can_perform (work_in o) (state_on node line) ≡ true → is_some (node_performing node line) ≡ true
pending_performs n node line None is below at can = cc
pending_performs n node line (Some p) is below at can =
    let part = any_part n node (reachable_node n node is) in
    elim (is_only (state_on node line)) [
      | inl only ↦
          let inside : line < is.core.size.lines = let all = part.each in omega arith in
          subst (λ (m : NodeOf). IsSome (node_performing m line)) is.here
          (sole_performs is.core n line p only.0 is.reached is.some inside (subst (λ (m : NodeOf). pending_on m line ≡ Some p) (sym is.here) at)
          (subst (λ (m : NodeOf). state_on m line ≡ Head None only.0) (sym is.here) only.1))
      | inr other ↦
          let here : p.op.line ≡ line = (of_some (IsPendingOn node.issued line) (pending_on node line) p at (part.fits.each line)).here in
          let done : is_some (performing (state_on node line) p.op) ≡ true = state_performs (state_on node line) p.op (is_maker p.op) refl can other in
          ap (λ (q : Option Pending). is_some (performing_pending node line q)) at
          ∙ (at_line node line p line refl here ∙ (ap (λ (l : ℕ). is_some (performing (state_on node l) p.op)) here ∙ done))
    ]

-- ---- what is asked

pub record AskSuits (node : NodeOf) (line : ℕ) (k : AskKind) : Type 0 where
  pub asks : suits (work_on node line) k ≡ true
  pub idle : can_perform (work_on node line) (state_on node line) ≡ false

some_works : (o : Option Pending) (s : CacheState) → can_perform (work_in o) s ≡ true → is_some o ≡ true
some_works None s can = cc
some_works (Some p) s can = refl

none_out : (work : Option Bool) → can_perform work Out ≡ false
none_out work = search rules

out_idle : (work : Option Bool) (s : CacheState) → s ≡ Out → can_perform work s ≡ false
out_idle work s is = ap (can_perform work) is ∙ none_out work

not_ready : (n : ℕ) (node : NodeOf) (line : ℕ) → IsReachedNode n node → perform_wanted node ≡ None
    → can_perform (work_on node line) (state_on node line) ≡ false
not_ready n node line is none = elim (cases_Bool (can_perform (work_on node line) (state_on node line))) [
  | inl can ↦ elim (cases_lt line (lines_of node)) [
    | inl below ↦ absurd (none_performs node line below (some_works (pending_on node line) (state_on node line) can) none
        (pending_performs n node line (pending_on node line) is below refl can))
    | inr past ↦ (let out : state_on node line ≡ Out = ap (λ (l : LineState). l.state) (get_or_past node.cache.lines line untouched past) in
        out_idle (work_on node line) (state_on node line) out)
  ]
  | inr idle ↦ idle
]

-- where no line is performed, none can be
pub cannot_by : (n : ℕ) (node : NodeOf) → IsReachedNode n node → ((line : ℕ) → node_performing node line ≡ None) → CannotPerform node
cannot_by n node is none line = elim (cases_Bool (can_perform (work_on node line) (state_on node line))) [
  | inr idle ↦ idle
  | inl can ↦ elim (cases_lt line (lines_of node)) [
    | inl below ↦
        let performs = pending_performs n node line (pending_on node line) is below refl can in
        let clash : true ≡ false = sym performs ∙ ap is_some (none line) in cc
    | inr past ↦ (let out : state_on node line ≡ Out = ap (λ (l : LineState). l.state) (get_or_past node.cache.lines line untouched past) in
        out_idle (work_on node line) (state_on node line) out)
  ]
]

pub wanted_suits : (policy : PolicyOf) (n : ℕ) (node : NodeOf) (line : ℕ) (k : AskKind) → IsReachedNode n node → next_wanted policy node ≡ Some (Ask line k)
    → AskSuits node line k
wanted_suits policy n node line k is wants =
    let after = ticked policy node in
    let joining = some_line node (λ other. joins (state_on node other)) in
    let suit = held_enabled joining (ruled after node) (SuitsWant node) (rules_suit after node) in
    record {
      asks = of_some (SuitsWant node) (next_wanted policy node) (Ask line k) wants suit;
      idle = not_ready n node line is (asks_last joining (oldest node (λ l. is_some (node_performing node l))) _ line k wants);
    }
