-- What the machine does at a step, seen from outside, is what one memory does.
use Rattle.std.proofs.Common.{◌≡◌, ℕ, ◌+◌, ◌<◌, nat_lt, ◌&&◌, Bool, true, false, if◌then◌else◌, length, map, set, Option, Some, None, refl, sym, ap, subst}
use Rattle.std.proofs.Common.{◌∙◌, arith, inl, inr}
use Rattle.std.proofs.Math.{ListN.{get_or-map}, Seq.{map-set_same}}
use Rattle.std.proofs.lemmas.Bool.{cases_eq, lt-ltb}
use Rattle.std.proofs.lemmas.List.{map-set, length-set, get_or-set_same, get_or-set_other, FromFn.{fill_by_all, length-map-range_with_len}}
use Rattle.std.specs.Prelude.{IfSome, is_none, option_map, slice_index_or, unwrap_or}
use Rattle.sci_words.specs.{Operation.{has_words}, Stamped.{after, reply_of, zero_stamped}}
use Rattle.sci_words.specs.declared.{event.Event.{Event}, limits.TheConstants.{WORDS_PER_LINE}, operation.Op.{Op}, stamped.Stamped.{Stamped}}
use Rattle.sci_history.specs.{Memory.{contents_after, stamped_at}, declared.entry.Entry.{Entry}}
use Rattle.sci_core.proofs.{Basics.Options.{of_some}, History.Works.{SameWork, ask_work, serve_work, accept_work}, ReachedLaws.{any_effects, last_within}}
use Rattle.sci_core.proofs.{Settling.Drains.{some_node, made_by as made_one}, Shape.ShapeRuns.{pending_known}}
use Rattle.sci_core.proofs.Step.{NodeSides.{PerformedAs, perform_as, serve_as, refuse_as, reply_as}, Sides.{steps_by_sides}}
use Rattle.sci_core.proofs.Step.Steps.{Stepped, By_issue, By_perform, By_ask, By_serve, By_refuse, By_reply, By_accept, stepping_stepped}
use Rattle.sci_core.proofs.WellFormed.WellFormedSteps.{any_well, step_well}
use Rattle.sci_core.specs.{Core.{Core, node_at, step, stepping, with_node}, Done.{Changes, ChangesBy, made_by, performed}}
use Rattle.sci_core.specs.Node.{NodeOf, may_issue, no_node, node_issued, node_issuing, node_performing, pending_on}
use Rattle.sci_core.specs.{Reached.{IsReachable}, Sharing.{last_at, last_of}, Size.{Size}, WellFormed.{IsWellFormed}, declared.pending.Pending.{Pending}}
use Rattle.sci_orders.specs.Plain.{Plain, Port, can_issue, entry_at, plain_made, plain_of, plain_performed, plain_stepping, port_at, port_of, waits_at}
use Rattle.sci_orders.specs.Plain.{with_issued, with_performed}
use Rattle.sci_orders.specs.Witness.{is_seen}
use Rattle.sci_words.specs.declared.event.Event.TheVariants as event

pub same_plain : (a b : Plain) → a.size ≡ b.size → a.ports ≡ b.ports → a.contents ≡ b.contents → a ≡ b
same_plain a b size ports contents = grind arith

-- a test that is known
pub if_is : {X : Type 0} (b c : Bool) (x y : X) → b ≡ c → (if b then x else y) ≡ (if c then x else y)
if_is b c x y is = ap (λ (t : Bool). if t then x else y) is

-- ---- steps of the memory

pub memory_issues : (plain : Plain) (n : ℕ) (op : Op) → n < plain.size.nodes → can_issue plain n op ≡ true
    → plain_stepping plain (event.Issue n op) ≡ Some (with_issued plain n op)
unfolding plain_stepping
memory_issues plain n op lt may = grind (arith, if_is, lt-ltb)

pub memory_performs : (plain : Plain) (n line : ℕ) (pending : Pending) → n < plain.size.nodes → waits_at plain n line ≡ Some pending
    → plain_stepping plain (event.Perform n line) ≡ Some (with_performed plain n line pending)
unfolding plain_stepping
memory_performs plain n line pending lt here = grind (arith, if_is, lt-ltb)

pub can_issue_by : (plain : Plain) (n : ℕ) (op : Op) → op.line < plain.size.lines → op.word < WORDS_PER_LINE → has_words op.act ≡ true
    → waits_at plain n op.line ≡ None → (port_at plain n).issued < plain.size.limit → can_issue plain n op ≡ true
can_issue_by plain n op line word words free room = grind (arith, lt-ltb)

-- ---- a node's port, and the last contents

pub port_is : (core : Core) (n : ℕ) → port_at (plain_of core) n ≡ port_of (node_at core n)
port_is core n = get_or-map port_of core.parts n no_node

pub waits_is : (core : Core) (n line : ℕ) → waits_at (plain_of core) n line ≡ pending_on (node_at core n) line
waits_is core n line = ap (λ (p : Port). slice_index_or p.pending line None) (port_is core n)

last_same : (core new : Core) → new.size ≡ core.size → ((line : ℕ) → line < core.size.lines → last_at new line ≡ last_at core line) → last_of new ≡ last_of core
last_same core new size same =
    let lines : new.size.lines ≡ core.size.lines = ap (λ (s : Size). s.lines) size in
    fill_by_all (last_at core) (last_of new) core.size.lines zero_stamped (length-map-range_with_len (last_at new) 0 new.size.lines ∙ lines)
    (λ k below. last_within new k (omega arith) ∙ same k below)

last_changed : (core new : Core) (entry : Entry) → new.size ≡ core.size → entry.op.line < core.size.lines
    → ((line : ℕ) → line < core.size.lines → Changes entry line (last_at core line) (last_at new line)) → last_of new ≡ contents_after (last_of core) entry.op
last_changed core new entry size inside changes =
    let lines : new.size.lines ≡ core.size.lines = ap (λ (s : Size). s.lines) size in
    let line = entry.op.line in
    let old = last_of core in
    let made = after (stamped_at old line) entry.op in
    let long : length old ≡ core.size.lines = length-map-range_with_len (last_at core) 0 core.size.lines in
    sym (fill_by_all (last_at new) (contents_after old entry.op) new.size.lines zero_stamped (length-set old line made ∙ long ∙ sym lines) (λ k below.
    elim (cases_eq k line) [
      | inl is ↦
          let known : k < core.size.lines = omega arith in
          ap (λ (j : ℕ). stamped_at (set old line made) j) is
          ∙ (get_or-set_same old line made zero_stamped (omega arith)
          ∙ (ap (λ (s : Stamped). after s entry.op) (last_within core line inside ∙ ap (last_at core) (sym is))
          ∙ sym ((changes k known).here (sym is)).contents))
      | inr other ↦
          let known : k < core.size.lines = omega arith in
          get_or-set_other old line k made zero_stamped other ∙ (last_within core k known ∙ sym ((changes k known).elsewhere (λ e. other (sym e))))
    ]))

-- ---- an event that isn't seen

same_port : (part next : NodeOf) → SameWork part next → port_of next ≡ port_of part
same_port part next same = let pending = same.pending in let issued = same.issued in grind arith

ports_same : (core : Core) (n : ℕ) (next : NodeOf) → SameWork (node_at core n) next → map port_of (set core.parts n next) ≡ map port_of core.parts
ports_same core n next same = map-set_same port_of core.parts n next no_node (same_port (node_at core n) next same)

stepped_ports : (core new : Core) (e : Event) (made : Option Entry) → is_seen e ≡ false → made ≡ None → Stepped core e made new
    → map port_of new.parts ≡ map port_of core.parts
stepped_ports core new e made hidden nothing (By_issue n op next event lt is then_ none) = let clash : true ≡ false = ap is_seen (sym event) ∙ hidden in cc
stepped_ports core new e made hidden nothing (By_perform n line done lt is then_ some) = cc
stepped_ports core new e made hidden nothing (By_ask n line kind sent is sends_well s none) = grind (arith, ports_same, of_some, ask_work)
stepped_ports core new e made hidden nothing (By_serve t none) = grind (arith, ports_same, serve_work, of_some, serve_as)
stepped_ports core new e made hidden nothing (By_refuse t none) = grind (arith, of_some, refuse_as, ports_same)
stepped_ports core new e made hidden nothing (By_reply n sent is sends_well s none) = grind (arith, of_some, reply_as, ports_same)
stepped_ports core new e made hidden nothing (By_accept t none) = grind (arith, ports_same, of_some, accept_work)

-- no entry is made
hidden_none : (core : Core) (e : Event) → is_seen e ≡ false → performed core e ≡ None
hidden_none core (event.Issue n op) hidden = refl
hidden_none core (event.Perform n line) hidden = cc
hidden_none core _ hidden = refl

-- what a step leaves as it was
pub record Stays (core new : Core) (made : Option Entry) : Type 0 where
  pub none : made ≡ None
  pub plain : plain_of new ≡ plain_of core

after_hidden : (core : Core) (e : Event) (next : Option Core) → is_seen e ≡ false → stepping core e ≡ next → IfSome next (Stepped core e (performed core e))
    → map port_of (unwrap_or next core).parts ≡ map port_of core.parts
after_hidden core e None hidden is stepped = refl
after_hidden core e (Some new) hidden is stepped = stepped_ports core new e (performed core e) hidden (hidden_none core e hidden) stepped

made_none : (core : Core) (e : Event) (next : Option Core) → performed core e ≡ None
    → (elim next as (λ _. Option Entry) [ None ↦ None | Some new ↦ performed core e ]) ≡ None
made_none core e None none = refl
made_none core e (Some new) none = none

pub hidden_stays : (core : Core) (e : Event) → IsReachable core → is_seen e ≡ false → Stays core (step core e) (made_by core e)
hidden_stays core e reached hidden =
    let well = any_well core reached in
    let none : made_by core e ≡ None = made_none core e (stepping core e) (hidden_none core e hidden) in
    let size = (step_well core e well).same in
    let effects = any_effects core e reached in
    let same : last_of (step core e) ≡ last_of core =
    last_same core (step core e) size
    (λ line below. subst (λ (m : Option Entry). ChangesBy m line (last_at core line) (last_at (step core e) line)) none (effects line below)) in
    record {
      none = none;
      plain = same_plain (plain_of (step core e)) (plain_of core) size (after_hidden core e (stepping core e) hidden refl (stepping_stepped core e well)) same;
    }

-- ---- an Issue

abbrev may : ℕ → ℕ → Port → Op → Bool
may lines limit port op =
    ((nat_lt op.line lines && nat_lt op.word WORDS_PER_LINE) && has_words op.act)
    && (is_none (slice_index_or port.pending op.line None) && nat_lt port.issued limit)

pub can_issue_is : (core : Core) (n : ℕ) (op : Op) → IsWellFormed core → n < core.size.nodes → can_issue (plain_of core) n op ≡ may_issue (node_at core n) op
can_issue_is core n op well lt = grind (arith, port_is)

issued_plain : (core : Core) (n : ℕ) (op : Op) → IsReachable core → stepping core (event.Issue n op) ≡ Some (with_node core n (node_issued (node_at core n) op))
    → last_of (with_node core n (node_issued (node_at core n) op)) ≡ last_of core
    → plain_of (with_node core n (node_issued (node_at core n) op)) ≡ with_issued (plain_of core) n op
issued_plain core n op reached steps last =
    let new = with_node core n (node_issued (node_at core n) op) in
    let port = λ (p : Port). set (map port_of core.parts) n
    (record { pending = set p.pending op.line (Some (record { serial = p.issued; op = op })); issued = p.issued + 1 }) in
    same_plain (plain_of new) (with_issued (plain_of core) n op) refl
    (map-set port_of core.parts n (node_issued (node_at core n) op) ∙ ap port (sym (port_is core n))) last

-- ---- what is seen

-- an event that is seen is possible for the memory, which becomes what is seen then
pub record SeenAs (core new : Core) (e : Event) : Type 0 where
  pub steps : plain_stepping (plain_of core) e ≡ Some (plain_of new)
  pub made : plain_made (plain_of core) e ≡ made_by core e

may_be : (part next : NodeOf) (op : Op) (b : Bool) → may_issue part op ≡ b → (if b then Some (node_issued part op) else None) ≡ Some next
    → (may_issue part op ≡ true) × (node_issued part op ≡ next)
may_be part next op true is some = (is, let same : Some (node_issued part op) ≡ Some next = some in cc)
may_be part next op false is some = cc

-- what is made is what was performed, if the step is possible
pub plain_makes : (plain next : Plain) (e : Event) → plain_stepping plain e ≡ Some next
    → plain_made plain e ≡ (elim (Some next) as (λ _. Option Entry) [ None ↦ None | Some x ↦ plain_performed plain e ])
plain_makes plain next e steps =
    ap (λ (o : Option Plain). elim o as (λ _. Option Entry) [ None ↦ None | Some x ↦ plain_performed plain e ]) steps

pub core_makes : (core new : Core) (e : Event) → stepping core e ≡ Some new → made_by core e ≡ performed core e
core_makes core new e steps = ap (λ (o : Option Core). elim o as (λ _. Option Entry) [ None ↦ None | Some x ↦ performed core e ]) steps

pub step_is : (core new : Core) (e : Event) → stepping core e ≡ Some new → step core e ≡ new
step_is core new e steps = ap (λ (o : Option Core). unwrap_or o core) steps

issue_seen : (core new : Core) (n : ℕ) (op : Op) → IsReachable core → stepping core (event.Issue n op) ≡ Some new → SeenAs core new (event.Issue n op)
issue_seen core new n op reached steps =
    let well = any_well core reached in
    let e = event.Issue n op in
    let lt = some_node core new e steps in
    let part = node_at core n in
    let made = made_one (with_node core n) (node_issuing part op) new (sym ((steps_by_sides core n lt).issue op) ∙ steps) in
    let may_ = may_be part made.0 op (may_issue part op) refl made.1 in
    let is : new ≡ with_node core n (node_issued part op) = made.2 ∙ ap (with_node core n) (sym may_.1) in
    let to = steps ∙ ap Some is in
    let effects = any_effects core e reached in
    let none : made_by core e ≡ None = core_makes core new e steps in
    let stepped : step core e ≡ with_node core n (node_issued part op) = step_is core new e steps ∙ is in
    let last : last_of (with_node core n (node_issued part op)) ≡ last_of core =
    last_same core (with_node core n (node_issued part op)) refl (λ line below.
    subst (λ (x : Core). last_at x line ≡ last_at core line) stepped
    (subst (λ (m : Option Entry). ChangesBy m line (last_at core line) (last_at (step core e) line)) none (effects line below))) in
    let after_ : plain_stepping (plain_of core) e ≡ Some (plain_of new) =
    memory_issues (plain_of core) n op lt (can_issue_is core n op well lt ∙ may_.0)
    ∙ ap Some (sym (issued_plain core n op reached to last) ∙ ap plain_of (sym is)) in
    record { steps = after_; made = plain_makes (plain_of core) (plain_of new) e after_ ∙ sym none }

-- ---- a Perform

pub same_entry : (a b : Entry) → a.node ≡ b.node → a.serial ≡ b.serial → a.op ≡ b.op → a.reply ≡ b.reply → a.version ≡ b.version → a ≡ b
same_entry a b node serial op reply version = grind arith

perform_seen : (core new : Core) (n line : ℕ) → IsReachable core → stepping core (event.Perform n line) ≡ Some new → SeenAs core new (event.Perform n line)
perform_seen core new n line reached steps =
    let well = any_well core reached in
    let e = event.Perform n line in
    let lt = some_node core new e steps in
    let part = node_at core n in
    let plain = plain_of core in
    let made = made_one (λ (done : NodeOf × Entry). with_node core n done.0) (node_performing part line) new
    (sym ((steps_by_sides core n lt).perform line) ∙ steps) in
    let done = made.0 in
    let does = of_some (PerformedAs part line) (node_performing part line) done made.1 (perform_as part line) in
    let pending = does.pending in
    let is : new ≡ with_node core n done.0 = made.2 in
    let some : made_by core e ≡ Some done.1 = core_makes core new e steps ∙ ap (option_map (λ (d : NodeOf × Entry). d.1)) made.1 in
    let op : done.1.op ≡ pending.op = ap (λ (x : Entry). x.op) (sym does.entry) in
    let known : done.1.op.line < core.size.lines = subst (λ (o : Op). o.line < core.size.lines) (sym op) (pending_known core n line done does lt well) in
    let effects = any_effects core e reached in
    let changes : (k : ℕ) → k < core.size.lines → Changes done.1 k (last_at core k) (last_at new k) = λ k below.
    subst (λ (x : Core). Changes done.1 k (last_at core k) (last_at x k)) (step_is core new e steps)
    (subst (λ (m : Option Entry). ChangesBy m k (last_at core k) (last_at (step core e) k)) some (effects k below)) in
    let effect = (changes done.1.op.line known).here refl in
    let old : stamped_at (last_of core) pending.op.line ≡ last_at core done.1.op.line =
    ap (λ (o : Op). stamped_at (last_of core) o.line) (sym op) ∙ last_within core done.1.op.line known in
    let entry : entry_at plain n pending ≡ done.1 = same_entry (entry_at plain n pending) done.1
    (sym (well.each_part n lt).me ∙ ap (λ (x : Entry). x.node) does.entry)
    (ap (λ (x : Entry). x.serial) does.entry)
    (sym op)
    (ap (λ (s : Stamped). reply_of s.line pending.op) old ∙ (ap (reply_of (last_at core done.1.op.line).line) (sym op) ∙ sym effect.reply))
    (ap (λ (s : Stamped). (after s pending.op).version) old
    ∙ (ap (λ (o : Op). (after (last_at core done.1.op.line) o).version) (sym op) ∙ sym effect.version)) in
    let size : new.size ≡ core.size = ap (λ (x : Core). x.size) is in
    let port = λ (p : Port). set (map port_of core.parts) n (record p { pending = set p.pending line None }) in
    let ports : map port_of new.parts ≡ (with_performed plain n line pending).ports =
    ap (λ (x : Core). map port_of x.parts) is
    ∙ (map-set port_of core.parts n done.0
    ∙ (ap (λ (x : NodeOf). set (map port_of core.parts) n (port_of x)) (sym does.next) ∙ ap port (sym (port_is core n)))) in
    let contents : last_of new ≡ contents_after (last_of core) pending.op =
    last_changed core new done.1 size known changes ∙ ap (contents_after (last_of core)) op in
    let next : plain_of new ≡ with_performed plain n line pending = same_plain (plain_of new) (with_performed plain n line pending) size ports contents in
    let after_ : plain_stepping plain e ≡ Some (plain_of new) =
    memory_performs plain n line pending lt (waits_is core n line ∙ does.here) ∙ ap Some (sym next) in
    record {
      steps = after_;
      made = plain_makes plain (plain_of new) e after_ ∙ (ap (option_map (entry_at plain n)) (waits_is core n line ∙ does.here) ∙ (ap Some entry ∙ sym some));
    }

pub event_seen : (core new : Core) (e : Event) → IsReachable core → is_seen e ≡ true → stepping core e ≡ Some new → SeenAs core new e
event_seen core new (event.Issue n op) reached seen steps = issue_seen core new n op reached steps
event_seen core new (event.Perform n line) reached seen steps = perform_seen core new n line reached steps
event_seen core new _ reached seen steps = cc
