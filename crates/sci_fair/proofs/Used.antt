-- Which lines were used, from event to event of a turn: a read begins anew, and where the policy wants to perform something, each Head on
-- which it can is used. By no other event does it change.
use Rattle.std.proofs.Common.{◌≡◌, ◌≢◌, ◌<◌, ◌⊎◌, ℕ, ◌+◌, Bool, true, false, ◌&&◌, if◌then◌else◌, List, [], ◌∷◌, length, set, Ok, Option, Some, None}
use Rattle.std.proofs.Common.{rules, arith}
use Rattle.std.proofs.Common.{refl, sym, ap, subst, ◌∙◌, inl, inr, get_or-set_other, get_or-set_same, length-set}
use Rattle.std.proofs.lemmas.{Bool.{and_parts, cases_eq, cases_lt, or_cases}, List.{get_or_past}}
use Rattle.std.specs.Prelude.{IfSome, is_some, nat_lt}
use Rattle.sci_words.specs.declared.limits.TheConstants.{MAX_LINES}
use Rattle.sci_words.specs.declared.event.{AskKind.{AskKind}, Event.{Event}}
use Rattle.sci_cache.specs.{State.{CacheState}, Asking.{Asked, asking}, Line.{LineState, line_asked, untouched}, Cache.{line_of, with_line}}
use Rattle.sci_core.specs.declared.lane.LaneKind.TheVariants.{Requests}
use Rattle.sci_core.specs.{Core.{Core, node_at, side, stepping}, Node.{NodeOf, node_asking, node_performing}, Reached.{IsReached}, Size.{Size}}
use Rattle.sci_core.proofs.{Basics.Options.{of_some}, WellFormed.WellFormedSteps.{reached_stepping, size_either}}
use Rattle.sci_policy.specs.declared.{policy.TheConstants.{PATIENCE}, want.Want.{Want, TheVariants.{Perform, Ask}}}
use Rattle.sci_policy.specs.{Lines.{is_head, state_on}, Policy.{PolicyOf, has, next_policy, next_wanted, noted, ticked, used_now}, Turn.{is_ask}}
use Rattle.sci_policy.proofs.Marks.{in_set, past_set}
use Rattle.sci_turn.{specs.Moves.{IsOwn}, proofs.Working.{stepped}}
use Rattle.sci_fair.specs.Rank.{used_after}
use Rattle.sci_fair.proofs.{ReadCarries.{AsksAs, ask_as, changed_by}, Taking.{sent_out}, Trace.{AreAll, Does}}
use Rattle.sci_words.specs.declared.event.AskKind.TheVariants as kind
use Rattle.sci_words.specs.declared.event.Event.TheVariants as event

-- ---- an ask

-- the marks of used lines after an ask about a line
pub record UsedAsk (line : ℕ) (kind : AskKind) (before after : List Bool) : Type 0 where
  pub own : has after line ≡ used_after kind (has before line)
  pub others : (k : ℕ) → k ≢ line → has after k ≡ has before k

taken_out : (marks : List Bool) (line : ℕ) → has (set marks line false) line ≡ false
taken_out marks line = grind (arith, cases_lt, get_or-set_same, get_or_past, length-set)

same_used : (line : ℕ) (kind : AskKind) (marks : List Bool) → has marks line ≡ used_after kind (has marks line) → UsedAsk line kind marks marks
same_used line kind marks own = record { own = own; others = λ k other. refl }

read_used : (line : ℕ) (kind : AskKind) (marks : List Bool) → used_after kind (has marks line) ≡ false → UsedAsk line kind marks (set marks line false)
read_used line kind marks none = grind (arith, taken_out, get_or-set_other)

noted_used : (policy : PolicyOf) (node : NodeOf) (line : ℕ) (kind : AskKind) → UsedAsk line kind policy.used (noted policy node (Some (Ask line kind))).used
noted_used policy node line kind.Mread = read_used line kind.Mread policy.used refl
noted_used policy node line kind.Fread = read_used line kind.Fread policy.used refl
noted_used policy node line kind.Purge = same_used line kind.Purge policy.used refl
noted_used policy node line kind.Cread = same_used line kind.Cread policy.used refl
noted_used policy node line kind.Claim = same_used line kind.Claim policy.used refl
noted_used policy node line kind.Clear = same_used line kind.Clear policy.used refl
noted_used policy node line kind.Wback = same_used line kind.Wback policy.used refl
noted_used policy node line kind.Roll = same_used line kind.Roll policy.used refl
noted_used policy node line kind.Setback = same_used line kind.Setback policy.used refl

either_used : (one two : PolicyOf) (b : Bool) → one.used ≡ two.used → (if b then one else two).used ≡ two.used
either_used one two true same = same
either_used one two false same = refl

pub ticked_used : (policy : PolicyOf) (node : NodeOf) → (ticked policy node).used ≡ policy.used
ticked_used policy node = either_used _ _ (nat_lt (policy.patience + 1) PATIENCE) refl

pub asked_used : (policy : PolicyOf) (node : NodeOf) (line : ℕ) (kind : AskKind) → next_wanted policy node ≡ Some (Ask line kind)
    → UsedAsk line kind policy.used (next_policy policy node).used
asked_used policy node line kind wants =
    let ticks = ticked policy node in
    subst (λ (marks : List Bool). UsedAsk line kind marks (next_policy policy node).used) (ticked_used policy node)
    (subst (λ (want : Option Want). UsedAsk line kind ticks.used (noted ticks node want).used) (sym wants) (noted_used ticks node line kind))

-- ---- what the policy remembers when it was asked once more

pub fewer_after : (line : ℕ) (kind : AskKind) (before after : List Bool) → UsedAsk line kind before after → (k : ℕ) → has after k ≡ true → has before k ≡ true
fewer_after line kind before after used k is = grind (arith, cases_eq)

ticks_used : (policy : PolicyOf) (node : NodeOf) (k : ℕ) → has (ticked policy node).used k ≡ has policy.used k
ticks_used policy node k = ap (λ (marks : List Bool). has marks k) (ticked_used policy node)

-- what can be performed on a line that is Head
abbrev pub IsReadyHead : NodeOf → ℕ → Type 0
IsReadyHead node line = (is_head (state_on node line) ≡ true) × (is_some (node_performing node line) ≡ true)

noted_marks : (policy : PolicyOf) (node : NodeOf) (want : Option Want) (k : ℕ) → has (noted (ticked policy node) node want).used k ≡ true
    → (has policy.used k ≡ true) ⊎ IsReadyHead node k
noted_marks policy node None k is = inl (sym (ticks_used policy node k) ∙ is)
noted_marks policy node (Some (Perform line)) k is = elim (cases_lt k MAX_LINES) [
  | inr past ↦ (let none = past_set (used_now (ticked policy node) node) k past in cc)
  | inl small ↦ elim (or_cases (has (ticked policy node).used k) (is_head (state_on node k) && is_some (node_performing node k))
      (sym (in_set (used_now (ticked policy node) node) k small) ∙ is)) [
        | inl was ↦ inl (sym (ticks_used policy node k) ∙ was)
        | inr ready ↦ inr (and_parts (is_head (state_on node k)) (is_some (node_performing node k)) ready)
      ]
]
noted_marks policy node (Some (Ask line kind)) k is =
    inl (sym (ticks_used policy node k)
    ∙ fewer_after line kind (ticked policy node).used (noted (ticked policy node) node (Some (Ask line kind))).used
    (noted_used (ticked policy node) node line kind) k is)

-- a line that is used then was used before; or it is Head, and its operation can be performed
pub next_marks : (policy : PolicyOf) (node : NodeOf) (k : ℕ) → has (next_policy policy node).used k ≡ true
    → (has policy.used k ≡ true) ⊎ IsReadyHead node k
next_marks policy node = noted_marks policy node (next_wanted policy node)

-- ---- along a turn

-- an event that asks nothing changes nothing of it
own_used : (n : ℕ) (p : PolicyOf) (x : Core) (e : Event) (q : PolicyOf) → IsOwn n p x e q → is_ask e ≡ false → q.used ≡ p.used
own_used n p x (event.Serve from i) q own none = ap (λ (r : PolicyOf). r.used) own.decides.1
own_used n p x (event.Refuse from i) q own none = ap (λ (r : PolicyOf). r.used) own.decides.1
own_used n p x (event.Accept from i) q own none = ap (λ (r : PolicyOf). r.used) own.decides
own_used n p x (event.Reply i) q own none = ap (λ (r : PolicyOf). r.used) own.decides
own_used n p x (event.Ask i line k) q own none = cc
own_used n p x (event.Issue i op) q own none = let no = own.kind.kind in cc
own_used n p x (event.Perform i line) q own none = let no = own.kind.kind in cc

pub used_stays : (kinds : Event → Bool) → ((e : Event) → kinds e ≡ true → is_ask e ≡ false) → (n : ℕ) (p : PolicyOf) (x : Core) (events : List Event)
    (q : PolicyOf) (y : Core) → Does n p x events q y → AreAll kinds events → q.used ≡ p.used
used_stays kinds asks n p x [] q y does are = ap (λ (r : PolicyOf). r.used) (sym does.0)
used_stays kinds asks n p x (e ∷ events) q y does are =
    used_stays kinds asks n does.0 does.1 events q y does.4 are.1 ∙ own_used n p x e does.0 does.2 (asks e are.0)

-- a line that is asked about isn't Head then
asked_apart : (s : CacheState) (k : AskKind) → IfSome (asking s k) (λ (asked : Asked). is_head asked.next ≡ false)
asked_apart s k = search rules

-- since the policy remembered this, the line wasn't read, or it isn't Head
abbrev pub IsUsedStill : List Bool → ℕ → ℕ → PolicyOf → Core → Type 0
IsUsedStill before n line policy core = (has policy.used line ≡ has before line) ⊎ (is_head (state_on (node_at core n) line) ≡ false)

ask_still : (before : List Bool) (n line : ℕ) (p : PolicyOf) (x : Core) (e : Event) (q : PolicyOf) (y : Core) → IsReached x → n < x.size.nodes
    → IsOwn n p x e q → stepping x e ≡ Some y → is_ask e ≡ true → IsUsedStill before n line p x → IsUsedStill before n line q y
ask_still before n line p x (event.Ask i at k) q y reached some own steps asks still =
    let node = node_at x n in
    let sent = sent_out x y n Requests (node_asking node at k)
    (stepped x y n (event.Ask i at k) (side node (event.Ask i at k)) some own.kind.own refl steps) in
    let made = of_some (AsksAs node at k) (node_asking node at k) sent.sent sent.there (ask_as node at k) in
    let changed = changed_by x y n sent.sent.0 reached some (λ j. ap (λ (c : Core). node_at c j) (sym sent.made)) in
    let there : node_at y n ≡ record node { cache = with_line node.cache at (line_asked (line_of node.cache at) made.asked) } = changed.own ∙ sym made.next in
    let used = asked_used p node at k own.decides.0 in
    let apart : is_head made.asked.next ≡ false =
    of_some (λ (a : Asked). is_head a.next ≡ false) (asking (state_on node at) k) made.asked made.asks (asked_apart (state_on node at) k) in
    elim (cases_eq line at) [
      | inl here ↦
          inr (sole_line node at made.asked apart line here (node_at y n) there)
      | inr other ↦ elim still [
        | inl same ↦
            inl (ap (λ (r : PolicyOf). has r.used line) own.decides.1 ∙ (used.others line other ∙ same))
        | inr not_head ↦ inr (ap is_head (other_line node at (line_asked (line_of node.cache at) made.asked) line other (node_at y n) there) ∙ not_head)
      ]
    ]
  where
    other_line : (node : NodeOf) (at : ℕ) (part : LineState) (line : ℕ) → line ≢ at → (next : NodeOf)
        → next ≡ record node { cache = with_line node.cache at part } → state_on next line ≡ state_on node line
    other_line node at part line other next is =
        ap (λ (m : NodeOf). state_on m line) is ∙ ap (λ (l : LineState). l.state) (get_or-set_other node.cache.lines at line part untouched other)

    sole_line : (node : NodeOf) (at : ℕ) (asked : Asked) → is_head asked.next ≡ false → (line : ℕ) → line ≡ at → (next : NodeOf)
        → next ≡ record node { cache = with_line node.cache at (line_asked (line_of node.cache at) asked) } → is_head (state_on next line) ≡ false
    sole_line node at asked apart line here next is =
        elim (cases_lt at (length node.cache.lines)) [
          | inl below ↦
              ap (λ (m : NodeOf). is_head (state_on m line)) is
              ∙ (ap (λ (j : ℕ). is_head (line_of (with_line node.cache at (line_asked (line_of node.cache at) asked)) j).state) here
              ∙ (ap (λ (l : LineState). is_head l.state)
              (get_or-set_same node.cache.lines at (line_asked (line_of node.cache at) asked) untouched below) ∙ apart))
          | inr past ↦
              ap (λ (m : NodeOf). is_head (state_on m line)) is
              ∙ (ap (λ (j : ℕ). is_head (line_of (with_line node.cache at (line_asked (line_of node.cache at) asked)) j).state) here
              ∙ ap (λ (l : LineState). is_head l.state)
              (get_or_past (set node.cache.lines at (line_asked (line_of node.cache at) asked)) at untouched
              (let long = length-set node.cache.lines at (line_asked (line_of node.cache at) asked) in omega (arith, long, past))))
        ]
ask_still before n line p x _ q y reached some own steps asks still = cc

pub asks_still : (before : List Bool) (n line : ℕ) (p : PolicyOf) (x : Core) (events : List Event) (q : PolicyOf) (y : Core) → IsReached x → n < x.size.nodes
    → Does n p x events q y → AreAll is_ask events → IsUsedStill before n line p x → IsUsedStill before n line q y
asks_still before n line p x [] q y reached some does are still =
    subst (λ (r : PolicyOf). IsUsedStill before n line r y) does.0 (subst (IsUsedStill before n line p) does.1 still)
asks_still before n line p x (e ∷ events) q y reached some does are still =
    let next = does.1 in
    let size = size_either {T = ℕ} {E = ℕ} (Ok 0) x next e reached does.3 (λ refused. (let clash : false ≡ true = refused in cc)) in
    asks_still before n line does.0 next events q y (reached_stepping x next e reached does.3) (subst (λ (z : Size). n < z.nodes) (sym size) some) does.4 are.1
    (ask_still before n line p x e does.0 next reached some does.2 does.3 are.0 still)
