-- What versions that explain operations say of each of them.
use Rattle.std.proofs.Common.{◌≡◌, ℕ, suc, ◌+◌, ◌-◌, ◌<◌, ◌≤◌, Bool, true, List, get_or, refl, sym, ap, subst, ◌∙◌, arith, inl, inr}
use Rattle.std.proofs.Common.{Option}
use Rattle.std.proofs.lemmas.{Bool.{eq-eqb, ne_eqb, cases_eq}, Option.{slice_get_within, get_or_from_slice_get}}
use Rattle.std.specs.{Prelude.{IsTrue}, List.{filter}}
use Rattle.sci_words.specs.{declared.{limits.TheConstants.{MAX_NODES}, stamped.Stamped.{Stamped}}, Stamped.{zero_stamped}}
use Rattle.sci_words.specs.declared.operation.Reply.TheVariants.{Got}
use Rattle.sci_history.specs.{declared.entry.Entry.{Entry}, Memory.{stamped_at}, Seen.{DidOn, IsAmong}}
use Rattle.sci_history.specs.Placed.{is_making as makes_entry, is_of_node, is_on_line, log_of, placed}
use Rattle.sci_history.proofs.{Consequences.{agreed, among_all, among_filter, among_whole, line_words, placed_history}, Histories.{makers-after}}
use Rattle.sci_history.proofs.Oracles.{log_of-logs_of}
use Rattle.sci_versions.specs.{Stretches.{IsWriter, IsWrittenOnce, left_by as left_by_entry}, Versions.{unversioned}}
use Rattle.sci_versions.proofs.Traces.{AreSame, HasDone, at_node, did_same, one_entry}
use Rattle.sci_versions.proofs.Words.{IsLine, got_old, is_placed, leaves_at, word_at}
use Rattle.sci_judge.specs.declared.access.{Access.{Access}, Kind.{Kind, TheVariants.{Load, Store, Atomic}}}
use Rattle.sci_judge.specs.Access.{AreKnown, is_making, is_writing, left_by}
use Rattle.sci_judge.specs.Coherent.{Explains, StandsBefore, entries_from, entry_of, logs_of, reply_of}
use Rattle.sci_judge.specs.Witness.{AreWrittenOnce, ComesBefore, IsAt}
use Rattle.sci_judge.proofs.Pairs.{IsBefore, before_filter, before_rises, before_same, before_whole}
use Rattle.sci_judge.proofs.Pairs.{before_first, before_second, entry_among, entry_at, entry_before}

-- the operations, and versions that explain them
pub record Explanation : Type 1 where
  pub timed : Bool
  pub accesses : List Access
  pub last : Option ℕ
  pub logs : List (List Entry)
  pub contents : List Stamped
  pub known : AreKnown accesses
  pub explains : Explains timed accesses last logs contents

abbrev pub end_of : Explanation → Stamped
end_of e = stamped_at e.contents 0

abbrev pub top_of : Explanation → ℕ
top_of e = (end_of e).version

-- the word at a version
abbrev pub word_in : Explanation → ℕ → ℕ
word_in e version = word_at e.logs 0 0 version

pub is_line : (e : Explanation) → IsLine e.logs 0 0 (end_of e)
is_line e = record {
  own = e.explains.versions.own;
  sixteen = e.explains.versions.sixteen;
  lawful = e.explains.versions.lawful 0;
  small = omega arith;
}

pub are_same : (e : Explanation) → AreSame e.logs (logs_of e.accesses)
are_same e = λ node.
    sym (at_node e.logs node) ∙ (ap (λ (all : List (List Entry)). log_of all node) e.explains.versions.same ∙ at_node (logs_of e.accesses) node)

pub processor_known : (e : Explanation) (i : ℕ) (a : Access) → IsAt e.accesses i a → a.processor < MAX_NODES
processor_known e i a at =
    subst (λ (b : Access). b.processor < MAX_NODES) (get_or_from_slice_get e.accesses i a a at) (e.known i a (slice_get_within e.accesses i a at))

log_here : (accesses : List Access) (node : ℕ) → node < MAX_NODES
    → log_of (logs_of accesses) node ≡ filter (is_of_node node) (entries_from 0 accesses)
log_here accesses node lt = log_of-logs_of (entries_from 0 accesses) node lt

of_own : (a : Access) (k : ℕ) → is_of_node a.processor (entry_of k a) ≡ true
of_own a k = eq-eqb a.processor a.processor refl

-- an operation's entry, with its version
pub entry_in : (e : Explanation) (i : ℕ) (a : Access) → IsAt e.accesses i a → HasDone e.logs 0 a.processor (entry_of i a)
entry_in e i a at =
    let small = processor_known e i a at in
    let among = among_filter (is_of_node a.processor) (entry_of i a) (entries_from 0 e.accesses) (of_own a i)
    (subst (λ (k : ℕ). IsAmong (entry_of k a) (entries_from 0 e.accesses)) (omega arith) (entry_among 0 e.accesses i a at)) in
    did_same e.logs (logs_of e.accesses) 0 a.processor (entry_of i a) (are_same e)
    (record { known = small; among = subst (IsAmong (entry_of i a)) (sym (log_here e.accesses a.processor small)) among; on = refl })

-- the operation of an entry
pub record IsOf (e : Explanation) (x : Entry) : Type 0 where
  pub place : ℕ
  pub access : Access
  pub here : IsAt e.accesses place access
  pub same : unversioned x ≡ entry_of place access

pub operation_of : (e : Explanation) (node : ℕ) (x : Entry) → DidOn e.logs 0 node x → IsOf e x
operation_of e node x did =
    let back : AreSame (logs_of e.accesses) e.logs = λ k. sym (are_same e k) in
    let twin = did_same (logs_of e.accesses) e.logs 0 node x back did in
    let among = among_whole (is_of_node node) twin.entry (entries_from 0 e.accesses)
    (subst (IsAmong twin.entry) (log_here e.accesses node did.known) twin.did.among) in
    let found = entry_at 0 e.accesses twin.entry among in
    let is : twin.entry ≡ entry_of found.place found.access = found.is ∙ ap (λ (k : ℕ). entry_of k found.access) (omega arith) in
    record { place = found.place; access = found.access; here = found.here; same = sym twin.same ∙ ap unversioned is }

-- there is one such entry
pub same_entry : (e : Explanation) (n m : ℕ) (x y : Entry) → DidOn e.logs 0 n x → DidOn e.logs 0 m y → unversioned x ≡ unversioned y → x ≡ y
same_entry e n m x y did_x did_y same =
    let is = is_line e in
    one_entry e.logs 0 n m (end_of e) x y is.own is.lawful did_x did_y same

-- ---- versions

-- the version of an operation
abbrev pub version_in : (e : Explanation) (i : ℕ) (a : Access) → IsAt e.accesses i a → ℕ
version_in e i a at = (entry_in e i a at).entry.version

left_same : (kind : Kind) → (k : ℕ) (a : Access) → a.kind ≡ kind → left_by_entry (entry_of k a) ≡ left_by kind
left_same (Load read) k a is = rw is refl
left_same (Store wrote) k a is = rw is refl
left_same (Atomic read wrote) k a is = rw (is, eq-eqb read read refl) refl

pub entry_leaves : (x : Entry) (k : ℕ) (a : Access) → unversioned x ≡ entry_of k a → left_by_entry x ≡ left_by a.kind
entry_leaves x k a same = ap left_by_entry same ∙ left_same a.kind k a refl

making_same : (kind : Kind) → (k : ℕ) (a : Access) → a.kind ≡ kind → makes_entry (entry_of k a) ≡ is_making kind
making_same (Load read) k a is = rw is refl
making_same (Store wrote) k a is = rw is refl
making_same (Atomic read wrote) k a is = rw is refl

pub entry_makes : (x : Entry) (k : ℕ) (a : Access) → unversioned x ≡ entry_of k a → makes_entry x ≡ is_making a.kind
entry_makes x k a same = ap makes_entry same ∙ making_same a.kind k a refl

-- it is within the versions of the line, and the word there is the one that the operation leaves
pub record IsPlacedIn (e : Explanation) (version : ℕ) (kind : Kind) : Type 0 where
  pub within : version ≤ top_of e
  pub leaves : word_in e version ≡ left_by kind

pub placed_in : (e : Explanation) (i : ℕ) (a : Access) (at : IsAt e.accesses i a) → IsPlacedIn e (entry_in e i a at).entry.version a.kind
placed_in e i a at =
    let has = entry_in e i a at in
    let is = is_line e in
    let here = is_placed e.logs 0 a.processor (end_of e) has.entry is.own is.sixteen is.lawful has.did in
    record {
      within = here.within;
      leaves = leaves_at e.logs 0 0 (end_of e) has.entry is here.among (ap (λ (x : Entry). x.op.word) has.same)
          ∙ entry_leaves has.entry i a has.same;
    }

-- before an atomic the word is the one that it read
pub record HasReadAt (e : Explanation) (version read : ℕ) : Type 0 where
  pub before : ℕ
  pub next : version ≡ suc before
  pub word : word_in e before ≡ read

pub read_at : (e : Explanation) (i : ℕ) (a : Access) (at : IsAt e.accesses i a) (read wrote : ℕ) → a.kind ≡ Atomic read wrote
    → HasReadAt e (entry_in e i a at).entry.version read
read_at e i a at read wrote kind =
    let has = entry_in e i a at in
    let x = has.entry in
    let is = is_line e in
    let here = is_placed e.logs 0 a.processor (end_of e) x is.own is.sixteen is.lawful has.did in
    let making : makes_entry x ≡ true = entry_makes x i a has.same ∙ ap is_making kind in
    let history = placed_history e.logs 0 (end_of e) is.own is.sixteen is.lawful in
    let above = among_all (λ z. IsTrue (makes_entry z) → 0 < z.version) x (placed e.logs 0) (makers-after (placed e.logs 0) zero_stamped (end_of e) history)
    here.among making in
    let before = x.version - 1 in
    let next : x.version ≡ suc before = omega arith in
    let step = (agreed e.logs 0 (end_of e) x is.own is.sixteen is.lawful here.among).made before making next in
    let reply : x.reply ≡ Got read = ap (λ (z : Entry). z.reply) has.same ∙ ap reply_of kind in
    let word : x.op.word ≡ 0 = ap (λ (z : Entry). z.op.word) has.same in
    record {
      before = before;
      next = next;
      word = ap (λ (w : ℕ). get_or (line_words e.logs 0 before) w 0) (sym word)
          ∙ got_old x.op.act (get_or (line_words e.logs 0 before) x.op.word 0) read (sym step.0 ∙ reply);
    }

-- ---- the order of two operations

in_program : (e : Explanation) (i j : ℕ) (y x : Access) (at_y : IsAt e.accesses i y) (at_x : IsAt e.accesses j x) → y.processor ≡ x.processor → i < j
    → StandsBefore (entry_in e i y at_y).entry (entry_in e j x at_x).entry
in_program e i j y x at_y at_x processor lt =
    let node = x.processor in
    let small = processor_known e j x at_x in
    let is = is_line e in
    let among : IsBefore (entry_of i y) (entry_of j x) (entries_from 0 e.accesses) =
    subst (λ (k : ℕ). IsBefore (entry_of k y) (entry_of j x) (entries_from 0 e.accesses)) (omega arith)
    (subst (λ (k : ℕ). IsBefore (entry_of (0 + i) y) (entry_of k x) (entries_from 0 e.accesses)) (omega arith)
    (entry_before 0 e.accesses i j y x lt at_y at_x)) in
    let own_y : is_of_node node (entry_of i y) ≡ true = eq-eqb y.processor x.processor processor in
    let in_log = before_filter (is_of_node node) (entry_of i y) (entry_of j x) (entries_from 0 e.accesses) own_y (of_own x j) among in
    let there = subst (IsBefore (entry_of i y) (entry_of j x)) (sym (log_here e.accesses node small)) in_log in
    let twins = before_same (log_of e.logs node) (log_of (logs_of e.accesses) node) (entry_of i y) (entry_of j x) (are_same e node) there in
    let did_y : DidOn e.logs 0 node twins.first = record {
      known = small;
      among = before_first twins.first twins.second (log_of e.logs node) twins.before;
      on = ap (λ (z : Entry). z.op.line) twins.same_first;
    } in
    let did_x : DidOn e.logs 0 node twins.second = record {
      known = small;
      among = before_second twins.first twins.second (log_of e.logs node) twins.before;
      on = ap (λ (z : Entry). z.op.line) twins.same_second;
    } in
    let on_line = before_filter (is_on_line 0) twins.first twins.second (log_of e.logs node) (eq-eqb twins.first.op.line 0 did_y.on)
    (eq-eqb twins.second.op.line 0 did_x.on) twins.before in
    let placed_so = before_whole (is_of_node node) twins.first twins.second (placed e.logs 0)
    (subst (IsBefore twins.first twins.second) (sym (is.lawful.order node small).order) on_line) in
    let rises = before_rises twins.first twins.second (placed e.logs 0) zero_stamped (end_of e) (placed_history e.logs 0 (end_of e) is.own is.sixteen is.lawful)
    placed_so in
    let has_y = entry_in e i y at_y in
    let has_x = entry_in e j x at_x in
    let same_y : twins.first ≡ has_y.entry = same_entry e node y.processor twins.first has_y.entry did_y has_y.did (twins.same_first ∙ sym has_y.same) in
    let same_x : twins.second ≡ has_x.entry = same_entry e node x.processor twins.second has_x.entry did_x has_x.did (twins.same_second ∙ sym has_x.same) in
    subst (λ (z : Entry). StandsBefore z has_x.entry) same_y (subst (λ (z : Entry). StandsBefore twins.first z) same_x rises)

pub in_order : (e : Explanation) (i j : ℕ) (y x : Access) (at_y : IsAt e.accesses i y) (at_x : IsAt e.accesses j x) → ComesBefore e.timed i j y x
    → StandsBefore (entry_in e i y at_y).entry (entry_in e j x at_x).entry
in_order e i j y x at_y at_x (inl program) = in_program e i j y x at_y at_x program.0 program.1
in_order e i j y x at_y at_x (inr times) =
    let has_y = entry_in e i y at_y in
    let has_x = entry_in e j x at_x in
    e.explains.times times.0 i j y x has_y.entry has_x.entry at_y at_x times.1 has_y.did (ap (λ (z : Entry). z.serial) has_y.same) has_x.did
    (ap (λ (z : Entry). z.serial) has_x.same)

-- ---- words that are written once

-- an atomic that left what it read is no writer
writing_kind : (kind : Kind) (k : ℕ) (a : Access) → a.kind ≡ kind → makes_entry (entry_of k a) ≡ true
    → ((entry_of k a).reply ≡ Got (left_by kind) → ⊥) → is_writing kind ≡ true
writing_kind (Load read) k a is making changes = absurd (let yes_ = sym making ∙ making_same (Load read) k a is in cc)
writing_kind (Store wrote) k a is making changes = refl
writing_kind (Atomic read wrote) k a is making changes = elim (cases_eq read wrote) [
  | inl same ↦ absurd (changes (ap reply_of is ∙ ap Got same))
  | inr differs ↦ rw (ne_eqb read wrote differs) refl
]

-- the writer of a word, as an operation
pub record IsWrittenAt (e : Explanation) (value : ℕ) (x : Entry) : Type 0 where
  pub of : IsOf e x
  pub writing : is_writing of.access.kind ≡ true
  pub leaves : left_by of.access.kind ≡ value

pub written_at : (e : Explanation) (value node : ℕ) (x : Entry) → IsWriter e.logs 0 0 value node x → IsWrittenAt e value x
written_at e value node x writer =
    let of = operation_of e node x writer.did in
    let kind = of.access.kind in
    let leaves : left_by kind ≡ value = sym (entry_leaves x of.place of.access of.same) ∙ writer.leaves in
    record {
      of = of;
      writing = writing_kind kind of.place of.access refl (ap makes_entry (sym of.same) ∙ writer.making)
          (λ got. writer.changes (ap (λ (z : Entry). z.reply) of.same ∙ (got ∙ ap Got leaves)));
      leaves = leaves;
    }

pub written_once : (e : Explanation) (value : ℕ) → AreWrittenOnce e.accesses → IsWrittenOnce e.logs 0 0 value
written_once e value once = record {
  once = λ n m x y writes_x writes_y.
      let a = written_at e value n x writes_x in
      let b = written_at e value m y writes_y in
      let place : a.of.place ≡ b.of.place =
      once.once a.of.place b.of.place a.of.access b.of.access a.of.here b.of.here a.writing b.writing (a.leaves ∙ sym b.leaves) in
      let access : a.of.access ≡ b.of.access =
      sym (get_or_from_slice_get e.accesses a.of.place a.of.access a.of.access a.of.here)
      ∙ (ap (λ (k : ℕ). get_or e.accesses k a.of.access) place ∙ get_or_from_slice_get e.accesses b.of.place b.of.access a.of.access b.of.here) in
      same_entry e n m x y writes_x.did writes_y.did
      (a.of.same ∙ (ap (λ (k : ℕ). entry_of k a.of.access) place ∙ (ap (entry_of b.of.place) access ∙ sym b.of.same)));
  never_zero = λ zero n x writes.
      let a = written_at e value n x writes in
      once.never_zero a.of.place a.of.access a.of.here a.writing (a.leaves ∙ zero);
}
