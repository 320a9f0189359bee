-- Where an Issue and a Perform put an operation and its entry, and which operations can be performed.
use Rattle.std.proofs.Common.{◌≡◌, ℕ, ◌-◌, ◌^◌, ◌%◌, ◌<◌, nat_lt, Bool, true, false, if◌then◌else◌, Option, Some, None, refl, ap, ◌∙◌, arith}
use Rattle.std.proofs.lemmas.{Bool.{and_parts, ltb-true, lt-ltb}, List.{get_or-set_same, get_or-set_other}}
use Rattle.std.specs.Prelude.{option_map, IsSome, is_some, is_none}
use Rattle.sci_words.specs.{declared.{operation.Op.{Op}, stamped.Stamped.{Stamped}}, Operation.{is_maker}}
use Rattle.sci_history.specs.declared.entry.Entry.{Entry}
use Rattle.sci_cache.specs.{State.{CacheState, Head, waits}, Performing.{Performed, performing}, Line.{line_in}}
use Rattle.sci_cache.specs.Cache.{line_of, with_line}
use Rattle.sci_core.specs.declared.pending.Pending.{Pending}
use Rattle.sci_core.specs.Node.{NodeOf, IsNode, IsPendingOn, pending_on, may_issue, node_issued, node_issuing, performed_by, node_performing}
use Rattle.sci_core.specs.{Core.{Core, node_at}, Reached.{IsReached}}
use Rattle.sci_core.specs.Sharing.{packets_of, answer_in, answer_to, settled_at, last_at}
use Rattle.sci_core.specs.Work.{IsIssued, IsLogged}
use Rattle.sci_core.proofs.{Step.{NodeSides.{perform_as}, Nodes.{some_below}}, Basics.Options.{of_some}}
use Rattle.sci_core.proofs.WellFormed.{Ranges.{reached_contents}, WellFormedSteps.{reached_well}}
use Rattle.sci_core.proofs.{ReachedLaws.{reached_shapes}, Tidy.{TidyRuns.{reached_tidy}, RowWaits.{idle_has_none}}}
use Rattle.sci_cache.specs.Accepting.{settled}
use Rattle.sci_cache.specs.Member.{contents_held}

-- ---- Issue

none_is : (pending : Option Pending) → is_none pending ≡ true → pending ≡ None
none_is None e = refl
none_is (Some p) e = cc

issued_if : (node next : NodeOf) (op : Op) (may : Bool) → may_issue node op ≡ may → IsNode node → (if may then Some (node_issued node op) else None) ≡ Some next
    → IsIssued node next op
issued_if node next op false e is some = cc
issued_if node next op true e is some = grind (arith, and_parts, ltb-true, none_is, get_or-set_same, get_or-set_other)

-- an operation that is issued is pending, with the next serial
pub issue_puts : (node next : NodeOf) (op : Op) → IsNode node → node_issuing node op ≡ Some next → IsIssued node next op
issue_puts node next op is some = issued_if node next op (may_issue node op) refl is some

-- ---- Perform

-- an entry ends the log, with the operation and the serial that were pending
pub perform_puts : (node next : NodeOf) (line : ℕ) (entry : Entry) → IsNode node → node_performing node line ≡ Some (next, entry)
    → IsLogged node next line entry
perform_puts node next line entry is some = grind (arith, of_some, perform_as, some_below, get_or-set_same, get_or-set_other)

is_done : (node : NodeOf) (line : ℕ) (pending : Pending) (done : Option Performed)
    → is_some (performed_by node line pending
    (option_map (λ d. (with_line node.cache pending.op.line (line_in (line_of node.cache pending.op.line) d.next), d.reply, d.version)) done)) ≡ is_some
    done
is_done node line pending None = refl
is_done node line pending (Some done) = refl

-- whether a pending operation can be performed is for its line's state to say
pub performs_where : (node : NodeOf) (line : ℕ) (pending : Pending) → pending_on node line ≡ Some pending
    → is_some (node_performing node line) ≡ is_some (performing (line_of node.cache pending.op.line).state pending.op)
performs_where node line pending at = grind (arith, is_done)

-- ---- a node that has a line alone

made_or_read : (makes room : Bool) (made read : Performed) → room ≡ true → IsSome (if makes then (if room then Some made else None) else Some read)
made_or_read true true made read e = refl
made_or_read true false made read e = cc
made_or_read false room made read e = refl

-- any operation that is pending on a line of which the node has the only copy can be performed
pub sole_performs : (core : Core) (n line : ℕ) (pending : Pending) (c : Stamped) → IsReached core → n < core.size.nodes → line < core.size.lines
    → pending_on (node_at core n) line ≡ Some pending → (line_of (node_at core n).cache line).state ≡ Head None c
    → IsSome (node_performing (node_at core n) line)
sole_performs core n line pending c reached lt inside at sole =
    let node = node_at core n in
    let here = (of_some (IsPendingOn node.issued line) (pending_on node line) pending at (((reached_well core reached).each_part n lt).fits.each line)).here in
    let quiet = idle_has_none (line % core.size.nodes) (line_of node.cache line) (packets_of core n line) (ap waits sole)
    (reached_tidy core reached n line lt inside) in
    let told : answer_to core n line ≡ None = ap answer_in quiet in
    let held : contents_held (settled_at core line n) ≡ Some c =
    ap contents_held (ap (settled (line_of node.cache line).state) told ∙ sole) in
    let last : c ≡ last_at core line =
    of_some (λ (d : Stamped). d ≡ last_at core line) (contents_held (settled_at core line n)) c held
    ((reached_shapes core reached line inside).contents.authority n) in
    let few = (reached_contents core line reached inside).version in
    let version = ap (λ (s : Stamped). s.version) last in
    let room : nat_lt c.version (2 ^ 64 - 1) ≡ true = lt-ltb c.version (2 ^ 64 - 1) (omega arith) in
    let state : (line_of node.cache pending.op.line).state ≡ Head None c = ap (λ (l : ℕ). (line_of node.cache l).state) here ∙ sole in
    let done : IsSome (performing (Head None c) pending.op) = made_or_read (is_maker pending.op) (nat_lt c.version (2 ^ 64 - 1)) _ _ room in
    performs_where node line pending at ∙ (ap (λ (s : CacheState). is_some (performing s pending.op)) state ∙ done)
