-- Versions that are forced.
use Rattle.std.proofs.Common.{◌≡◌, ℕ, zero, suc, ◌+◌, ◌-◌, ◌<◌, ◌≤◌, Bool, true, false, List, length, Some, None, Option, eqb, get_or}
use Rattle.std.proofs.Common.{refl, sym, ap, subst, ◌∙◌, arith, inl, inr}
use Rattle.std.proofs.lemmas.{Bool.{cases_Bool, cases_eq, cases_lt, eq-eqb, eqb-true, ne_eqb, and_parts}, Option.{slice_get-get_or, slice_get_within}}
use Rattle.std.specs.Prelude.{IsTrue, slice_get}
use Rattle.sci_words.specs.{Stamped.{zero_stamped}, declared.operation.Reply.TheVariants.{Got}}
use Rattle.sci_history.specs.{declared.entry.Entry.{Entry}, Placed.{is_making as makes_entry, placed}}
use Rattle.sci_history.proofs.{Consequences.{among_all, made_at, placed_did, placed_history}, Histories.{makers-after}}
use Rattle.sci_versions.specs.Stretches.{IsWriter}
use Rattle.sci_versions.proofs.{Cycles.{change_between}, Words.{is_placed, zero_at_start}}
use Rattle.sci_judge.specs.declared.{access.{Access.{Access}, Kind.{Kind, TheVariants.{Load, Store, Atomic}}}, forcing.Maker.{Maker}}
use Rattle.sci_judge.specs.Access.{AreKnown, is_making, is_writing, left_by}
use Rattle.sci_judge.specs.{Coherent.{reply_of}, Stamped.{IsExplainedBy}, Witness.{AreWrittenOnce, ComesBefore, IsAt}}
use Rattle.sci_judge.specs.Forced.{AreForced, AreHeld, AreParted, IsAbove, IsMaker, IsRanked, IsUnder, IsWordBefore}
use Rattle.sci_judge.proofs.Explained.{Explanation, end_of, entry_in, entry_leaves, entry_makes, in_order, is_line, operation_of, placed_in, read_at}
use Rattle.sci_judge.proofs.Explained.{same_entry, top_of, version_in, word_in, written_once}
use Rattle.sci_judge.proofs.{Once.{no_access}, Refuted.{path, stored_not_got}, Stamps.{among_logs}}

-- ---- versions of operations that others explain

abbrev pub explanation : (timed : Bool) (accesses : List Access) (last : Option ℕ) (others : List ℕ) → AreKnown accesses
    → IsExplainedBy timed accesses last others → Explanation
explanation timed accesses last others known is = record {
  timed = timed;
  accesses = accesses;
  last = last;
  logs = is.logs;
  contents = is.contents;
  known = known;
  explains = is.explains;
}

-- an operation has this version
abbrev At : List ℕ → (place version : ℕ) → Type 0
At others place version = slice_get others place ≡ Some version

-- the versions of an explanation are these
abbrev pub AreOf : Explanation → List ℕ → Type 0
AreOf e others = (i : ℕ) (a : Access) (at : IsAt e.accesses i a) → At others i (version_in e i a at)

pub are_of : (timed : Bool) (accesses : List Access) (last : Option ℕ) (others : List ℕ) (known : AreKnown accesses)
    (is : IsExplainedBy timed accesses last others) → AreOf (explanation timed accesses last others known is) others
are_of timed accesses last others known is = λ i a at.
    let e = explanation timed accesses last others known is in
    let has = entry_in e i a at in
    let serial : has.entry.serial ≡ i = ap (λ (x : Entry). x.serial) has.same in
    ap (slice_get others) (sym serial) ∙ is.stamped.at has.entry (among_logs accesses others is.logs a.processor has.entry is.stamped has.did)

-- ---- makers

-- a maker's version isn't 0
maker_some : (e : Explanation) (i : ℕ) (a : Access) (at : IsAt e.accesses i a) → is_making a.kind ≡ true → 0 < version_in e i a at
maker_some e i a at making =
    let has = entry_in e i a at in
    let is = is_line e in
    let here = is_placed e.logs 0 a.processor (end_of e) has.entry is.own is.sixteen is.lawful has.did in
    among_all (λ z. IsTrue (makes_entry z) → 0 < z.version) has.entry (placed e.logs 0)
    (makers-after (placed e.logs 0) zero_stamped (end_of e) (placed_history e.logs 0 (end_of e) is.own is.sixteen is.lawful)) here.among
    (entry_makes has.entry i a has.same ∙ making)

-- the maker of a version
record IsMadeBy (e : Explanation) (made : ℕ) : Type 0 where
  place : ℕ
  access : Access
  here : IsAt e.accesses place access
  making : is_making access.kind ≡ true
  version : version_in e place access here ≡ made

made_by : (e : Explanation) (version : ℕ) → 0 < version → version ≤ top_of e → IsMadeBy e version
made_by e version some within =
    let is = is_line e in
    let made = made_at e.logs 0 version (end_of e) is.own is.sixteen is.lawful some within in
    let z = made.0 in
    let parts = and_parts (makes_entry z) (eqb z.version version) made.2 in
    let did = placed_did e.logs 0 (end_of e) z is.own is.sixteen is.lawful made.1 in
    let of = operation_of e z.node z did in
    let has = entry_in e of.place of.access of.here in
    let same = same_entry e z.node of.access.processor z has.entry did has.did (of.same ∙ sym has.same) in
    record {
      place = of.place;
      access = of.access;
      here = of.here;
      making = sym (entry_makes z of.place of.access of.same) ∙ parts.0;
      version = sym (ap (λ (x : Entry). x.version) same) ∙ eqb-true z.version version parts.1;
    }

-- an operation that changes the word writes it
writing_changes : (kind : Kind) (value : ℕ) → is_writing kind ≡ true → left_by kind ≡ value → reply_of kind ≡ Got value → ⊥
writing_changes (Load read) value writing leaves got = absurd (let no_ : true ≡ false = sym writing in cc)
writing_changes (Store wrote) value writing leaves got = stored_not_got (Store wrote) wrote refl (got ∙ ap Got (sym leaves))
writing_changes (Atomic read wrote) value writing leaves got = grind (arith, cases_eq, eq-eqb)

pub writing_makes : (kind : Kind) → is_writing kind ≡ true → is_making kind ≡ true
writing_makes (Load read) writing = writing
writing_makes (Store wrote) writing = refl
writing_makes (Atomic read wrote) writing = refl

pub writer_in : (e : Explanation) (i : ℕ) (a : Access) (at : IsAt e.accesses i a) → is_writing a.kind ≡ true
    → IsWriter e.logs 0 0 (left_by a.kind) a.processor (entry_in e i a at).entry
writer_in e i a at writing =
    let has = entry_in e i a at in
    record {
      did = has.did;
      making = entry_makes has.entry i a has.same ∙ writing_makes a.kind writing;
      there = ap (λ (z : Entry). z.op.word) has.same;
      leaves = entry_leaves has.entry i a has.same;
      changes = λ got. writing_changes a.kind (left_by a.kind) writing refl (sym (ap (λ (z : Entry). z.reply) has.same) ∙ got);
    }

-- a word is there from the version on that wrote it
from_writer : (e : Explanation) → AreWrittenOnce e.accesses → (i version : ℕ) (a : Access) (at_a : IsAt e.accesses i a) → is_writing a.kind ≡ true
    → version ≤ top_of e → word_in e version ≡ left_by a.kind → version_in e i a at_a ≤ version
from_writer e once i version a at_a writing within has =
    let word = left_by a.kind in
    let start = zero_at_start e.logs 0 0 (end_of e) (is_line e) in
    let change = change_between e.logs 0 0 word 0 version (end_of e) (is_line e) (omega arith)
    (λ zero. once.never_zero i a at_a writing (sym zero ∙ start)) (ap (word_in e) (omega arith) ∙ has) in
    let one = (written_once e word once).once change.node a.processor change.entry (entry_in e i a at_a).entry change.writer (writer_in e i a at_a writing) in
    let version = ap (λ (z : Entry). z.version) one in
    let low = change.within in
    omega arith

-- what leaves a word stands behind the one that wrote it
pub behind_writer : (e : Explanation) → AreWrittenOnce e.accesses → (i j : ℕ) (a b : Access) (at_a : IsAt e.accesses i a) (at_b : IsAt e.accesses j b)
    → is_writing a.kind ≡ true → left_by a.kind ≡ left_by b.kind → version_in e i a at_a ≤ version_in e j b at_b
behind_writer e once i j a b at_a at_b writing same = grind (arith, placed_in, from_writer, version_in)

-- and a maker that leaves the word as it was stands behind the one that wrote it
pub reads_same : (e : Explanation) → AreWrittenOnce e.accesses → (i j : ℕ) (a b : Access) (at_a : IsAt e.accesses i a) (at_b : IsAt e.accesses j b)
    (kind : Kind) → b.kind ≡ kind → is_writing a.kind ≡ true → is_writing kind ≡ false → is_making kind ≡ true → left_by a.kind ≡ left_by kind
    → version_in e i a at_a < version_in e j b at_b
reads_same e once i j a b at_a at_b (Load read) is writing kept making same = absurd (let no_ : true ≡ false = sym making in cc)
reads_same e once i j a b at_a at_b (Store wrote) is writing kept making same = absurd (let no_ : true ≡ false = kept in cc)
reads_same e once i j a b at_a at_b (Atomic read wrote) is writing kept making same = elim (cases_eq read wrote) [
  | inr differs ↦ absurd (let no_ : true ≡ false = sym (rw (ne_eqb read wrote differs) refl) ∙ kept in cc)
  | inl equal ↦
      let here = placed_in e j b at_b in
      let within = here.within in
      let reads = read_at e j b at_b read wrote is in
      let next = reads.next in
      let low = from_writer e once i reads.before a at_a writing (omega arith) (reads.word ∙ (equal ∙ sym same)) in
      omega arith
]

-- words that are parted
pub below : (e : Explanation) → AreWrittenOnce e.accesses → (i j word : ℕ) (a b : Access) (at_a : IsAt e.accesses i a) (at_b : IsAt e.accesses j b)
    → left_by a.kind ≡ word → AreParted e.timed e.accesses e.last word (left_by b.kind) → version_in e i a at_a < version_in e j b at_b
below e once i j word a b at_a at_b leaves parted =
    let shown = path e once parted.0 None (record { low = word; high = left_by b.kind }) tt parted.1 in
    let low = placed_in e i a at_a in
    let high = placed_in e j b at_b in
    shown.holds (version_in e i a at_a) (version_in e j b at_b) low.within high.within (low.leaves ∙ leaves) high.leaves

-- ---- the order of the makers

-- all that is known of the versions and the makers
record IsShownBy (e : Explanation) (others versions : List ℕ) (makers : List Maker) : Type 0 where
  of : AreOf e others
  once : AreWrittenOnce e.accesses
  ranked : (index : ℕ) → index < length makers → IsRanked e.timed e.accesses e.last versions makers index
  held : AreHeld e.timed e.accesses versions makers

-- a maker in the order is there once
one_maker : (accesses : List Access) (makers : List Maker) (index p q : ℕ) (a b : Access) → IsMaker accesses makers index p a
    → IsMaker accesses makers index q b
    → (p ≡ q) × (a ≡ b)
one_maker accesses makers index p q a b is_p is_q = grind arith

-- nor has it two words before it
one_word : (accesses : List Access) (makers : List Maker) (index v w : ℕ) → IsWordBefore accesses makers index v → IsWordBefore accesses makers index w → v ≡ w
one_word accesses makers zero v w is_v is_w = is_v ∙ sym is_w
one_word accesses makers (suc index) v w is_v is_w = grind (arith, one_maker)

inside : (accesses : List Access) (makers : List Maker) (index p : ℕ) (a : Access) → IsMaker accesses makers index p a → index < length makers
inside accesses makers index p a is = slice_get_within makers index is.0 is.1

-- ranked operations rise
rises : (e : Explanation) (others versions : List ℕ) (makers : List Maker) → IsShownBy e others versions makers → (index p q : ℕ) (a b : Access)
    (at_a : IsAt e.accesses p a) (at_b : IsAt e.accesses q b) → IsMaker e.accesses makers index p a → IsMaker e.accesses makers (suc index) q b
    → version_in e p a at_a < version_in e q b at_b
rises e others versions makers shown index p q a b at_a at_b is_p is_q =
    let h = shown.ranked (suc index) (inside e.accesses makers (suc index) q b is_q) in
    let here = one_maker e.accesses makers (suc index) h.0 q h.1 b h.3 is_q in
    let there = one_maker e.accesses makers index h.4.0 p h.4.1 a h.4.2 is_p in
    let word : left_by a.kind ≡ h.2 = ap (λ (x : Access). left_by x.kind) (sym there.1) ∙ h.4.3 in
    elim h.7 [
      | inl same ↦
          let before = same.1 in
          let previous = one_maker e.accesses makers index before.0 p before.1 a before.2 is_p in
          let making = subst (λ (x : Access). is_making x.kind ≡ true) here.1 h.5 in
          elim before.3 [
            | inl writes ↦
                reads_same e shown.once p q a b at_a at_b b.kind refl (subst (λ (x : Access). is_writing x.kind ≡ true) previous.1 writes.0)
                (subst (λ (x : Access). is_writing x.kind ≡ false) here.1 writes.1) making
                (word ∙ (sym same.0 ∙ ap (λ (x : Access). left_by x.kind) here.1))
            | inr earlier ↦
                let comes : ComesBefore e.timed p q a b =
                subst (λ (x : Access). ComesBefore e.timed p q x b) previous.1 (subst (λ (x : Access). ComesBefore e.timed p q before.1 x) here.1
                (subst (λ (k : ℕ). ComesBefore e.timed p k before.1 h.1) here.0
                (subst (λ (k : ℕ). ComesBefore e.timed k h.0 before.1 h.1) previous.0 earlier))) in
                let has = entry_in e q b at_b in
                (in_order e p q a b at_a at_b comes).1 (entry_makes has.entry q b has.same ∙ making)
          ]
      | inr parted ↦
          below e shown.once p q h.2 a b at_a at_b word
          (subst (λ (x : Access). AreParted e.timed e.accesses e.last h.2 (left_by x.kind)) here.1 parted)
    ]

-- the maker at a place of the order
maker_there : (e : Explanation) (others versions : List ℕ) (makers : List Maker) → IsShownBy e others versions makers → (index : ℕ) → index < length makers
    → (p : ℕ) × (a : Access) × IsMaker e.accesses makers index p a
maker_there e others versions makers shown index lt = let h = shown.ranked index lt in (h.0, h.1, h.3)

climbs : (e : Explanation) (others versions : List ℕ) (makers : List Maker) → IsShownBy e others versions makers → (index more p q : ℕ) (a b : Access)
    (at_a : IsAt e.accesses p a) (at_b : IsAt e.accesses q b) → IsMaker e.accesses makers index p a → IsMaker e.accesses makers (suc index + more) q b
    → version_in e p a at_a < version_in e q b at_b
climbs e others versions makers shown index zero p q a b at_a at_b is_p is_q =
    rises e others versions makers shown index p q a b at_a at_b is_p (subst (λ (k : ℕ). IsMaker e.accesses makers k q b) (omega arith) is_q)
climbs e others versions makers shown index (suc more) p q a b at_a at_b is_p is_q =
    let last : suc index + suc more ≡ suc (suc index + more) = omega arith in
    let is_last : IsMaker e.accesses makers (suc (suc index + more)) q b = subst (λ (k : ℕ). IsMaker e.accesses makers k q b) last is_q in
    let lt = inside e.accesses makers (suc (suc index + more)) q b is_last in
    let mid = maker_there e others versions makers shown (suc index + more) (omega arith) in
    let at_mid : IsAt e.accesses mid.0 mid.1 = mid.2.3 in
    let first = climbs e others versions makers shown index more p mid.0 a mid.1 at_a at_mid is_p mid.2 in
    let second = rises e others versions makers shown (suc index + more) mid.0 q mid.1 b at_mid at_b mid.2 is_last in
    omega arith

-- two versions of one operation
one_version : (others : List ℕ) (place v w : ℕ) → At others place v → At others place w → v ≡ w
one_version others place v w is_v is_w = let same : Some v ≡ Some w = sym is_v ∙ is_w in cc

-- each maker is in the order
in_the_order : (e : Explanation) (others versions : List ℕ) (makers : List Maker) → IsShownBy e others versions makers → (p : ℕ) (a : Access)
    → IsAt e.accesses p a → is_making a.kind ≡ true → (index : ℕ) × IsMaker e.accesses makers index p a
in_the_order e others versions makers shown p a at making =
    let h = shown.held p a at in
    let is = h.2.maker making in
    let there = is.2 in
    let same : Some is.1 ≡ Some a = sym there.3 ∙ at in
    (h.0 - 1, subst (IsMaker e.accesses makers (h.0 - 1) p) (cc) there)

-- no maker of this version stands elsewhere in the order
not_past : (e : Explanation) (others versions : List ℕ) (makers : List Maker) → IsShownBy e others versions makers → (index p : ℕ) (a : Access)
    (at : IsAt e.accesses p a) → IsMaker e.accesses makers index p a
    → ((k : ℕ) → k < index → (q : ℕ) (b : Access) (at_b : IsAt e.accesses q b) → IsMaker e.accesses makers k q b → version_in e q b at_b ≡ suc k)
    → version_in e p a at ≤ suc index
not_past e others versions makers shown index p a at is before = elim (cases_lt (suc index) (version_in e p a at)) [
  | inr low ↦ low
  | inl past ↦
      let here = placed_in e p a at in
      let within = here.within in
      let made = made_by e (suc index) (omega arith) (omega arith) in
      let at_q = made.here in
      let order = in_the_order e others versions makers shown made.place made.access at_q made.making in
      let version = made.version in
      elim (cases_lt order.0 index) [
        | inl less ↦ let low = before order.0 less made.place made.access at_q order.1 in absurd (omega arith)
        | inr more ↦ elim (cases_eq order.0 index) [
          | inl same ↦
              let one = one_maker e.accesses makers index made.place p made.access a
              (subst (λ (k : ℕ). IsMaker e.accesses makers k made.place made.access) same order.1) is in
              let v = shown.of made.place made.access at_q in
              let w = shown.of p a at in
              let equal = one_version others p (version_in e made.place made.access at_q) (version_in e p a at)
              (subst (λ (k : ℕ). At others k (version_in e made.place made.access at_q)) one.0 v) w in
              absurd (omega arith)
          | inr other ↦
              let place : order.0 ≡ suc index + (order.0 - suc index) = omega arith in
              let lt = climbs e others versions makers shown index (order.0 - suc index) p made.place a made.access at at_q is
              (subst (λ (k : ℕ). IsMaker e.accesses makers k made.place made.access) place order.1) in
              absurd (omega arith)
        ]
      ]
]

-- nor has a maker a lower one
at_least : (e : Explanation) (others versions : List ℕ) (makers : List Maker) → IsShownBy e others versions makers → (index p : ℕ) (a : Access)
    (at : IsAt e.accesses p a) → IsMaker e.accesses makers index p a
    → ((k : ℕ) → k < index → (q : ℕ) (b : Access) (at_b : IsAt e.accesses q b) → IsMaker e.accesses makers k q b → version_in e q b at_b ≡ suc k)
    → suc index ≤ version_in e p a at
at_least e others versions makers shown zero p a at is before =
    let h = shown.ranked 0 (inside e.accesses makers 0 p a is) in
    let one = one_maker e.accesses makers 0 h.0 p h.1 a h.3 is in
    let some = maker_some e p a at (subst (λ (x : Access). is_making x.kind ≡ true) one.1 h.5) in
    omega arith
at_least e others versions makers shown (suc index) p a at is before =
    let lt = inside e.accesses makers (suc index) p a is in
    let mid = maker_there e others versions makers shown index (omega arith) in
    let version = before index (omega arith) mid.0 mid.1 mid.2.3 mid.2 in
    let less = rises e others versions makers shown index mid.0 p mid.1 a mid.2.3 at mid.2 is in
    omega arith

-- a maker's version is by its place in the order
made_to : (e : Explanation) (others versions : List ℕ) (makers : List Maker) → IsShownBy e others versions makers → (bound k : ℕ) → k < bound
    → (p : ℕ) (a : Access) (at : IsAt e.accesses p a) → IsMaker e.accesses makers k p a → version_in e p a at ≡ suc k
made_to e others versions makers shown zero k lt p a at is = absurd (omega arith)
made_to e others versions makers shown (suc bound) k lt p a at is = elim (cases_lt k bound) [
  | inl less ↦ made_to e others versions makers shown bound k less p a at is
  | inr past ↦
      let before : (j : ℕ) → j < k → (q : ℕ) (b : Access) (at_b : IsAt e.accesses q b) → IsMaker e.accesses makers j q b → version_in e q b at_b ≡ suc j =
      λ j less q b at_b is_b. made_to e others versions makers shown bound j (omega arith) q b at_b is_b in
      let high = not_past e others versions makers shown k p a at is before in
      let low = at_least e others versions makers shown k p a at is before in
      omega arith
]

made : (e : Explanation) (others versions : List ℕ) (makers : List Maker) → IsShownBy e others versions makers → (k p : ℕ) (a : Access)
    (at : IsAt e.accesses p a) → IsMaker e.accesses makers k p a → version_in e p a at ≡ suc k
made e others versions makers shown k p a at is = made_to e others versions makers shown (suc k) k (omega arith) p a at is

-- ---- loads

load_above : (e : Explanation) (others versions : List ℕ) (makers : List Maker) → IsShownBy e others versions makers → (place version : ℕ) (a : Access)
    (at : IsAt e.accesses place a) → IsAbove e.timed e.accesses makers place version a → version ≤ version_in e place a at
load_above e others versions makers shown place zero a at is = omega arith
load_above e others versions makers shown place (suc index) a at is =
    let at_maker : IsAt e.accesses is.0 is.1 = is.2.3 in
    let version = made e others versions makers shown index is.0 is.1 at_maker is.2 in
    elim is.3 [
      | inl wrote ↦ let le = behind_writer e shown.once is.0 place is.1 a at_maker at wrote.0 wrote.1 in omega arith
      | inr comes ↦ let le = (in_order e is.0 place is.1 a at_maker at comes).0 in omega arith
    ]

load_under : (e : Explanation) (others versions : List ℕ) (makers : List Maker) → IsShownBy e others versions makers → (place version : ℕ) (a : Access)
    (at : IsAt e.accesses place a) → IsUnder e.timed e.accesses makers place version a → version_in e place a at ≤ version
load_under e others versions makers shown place version a at (inl all) = elim (cases_lt version (version_in e place a at)) [
  | inr low ↦ low
  | inl past ↦
      let here = placed_in e place a at in
      let within = here.within in
      let by = made_by e (suc version) (omega arith) (omega arith) in
      let order = in_the_order e others versions makers shown by.place by.access by.here by.making in
      let at_order = made e others versions makers shown order.0 by.place by.access by.here order.1 in
      let is = by.version in
      let lt = inside e.accesses makers order.0 by.place by.access order.1 in
      absurd (omega arith)
]
load_under e others versions makers shown place version a at (inr h) =
    let there = h.0 in
    let other = h.1 in
    let word = h.2 in
    let at_maker : IsAt e.accesses there other = h.3.3 in
    let next = made e others versions makers shown version there other at_maker h.3 in
    let ranked = shown.ranked version (inside e.accesses makers version there other h.3) in
    let one = one_maker e.accesses makers version ranked.0 there ranked.1 other ranked.3 h.3 in
    let words = one_word e.accesses makers version ranked.2 word ranked.4 h.4 in
    let making = subst (λ (x : Access). is_making x.kind ≡ true) one.1 ranked.5 in
    elim h.6 [
      | inr comes ↦
          let has = entry_in e there other at_maker in
          let lt = (in_order e place there a other at at_maker comes).1 (entry_makes has.entry there other has.same ∙ making) in
          omega arith
      | inl differ ↦ elim ranked.7 [
        | inl same ↦ absurd (differ (ap (λ (x : Access). left_by x.kind) (sym one.1) ∙ (same.0 ∙ words)))
        | inr parted ↦
            let lt = below e shown.once place there ranked.2 a other at at_maker (h.5 ∙ sym words)
            (subst (λ (x : Access). AreParted e.timed e.accesses e.last ranked.2 (left_by x.kind)) one.1 parted) in
            omega arith
      ]
    ]

-- ---- all operations

held_here : (e : Explanation) (others versions : List ℕ) (makers : List Maker) → IsShownBy e others versions makers → (place : ℕ) (a : Access)
    (at : IsAt e.accesses place a) → slice_get others place ≡ slice_get versions place
held_here e others versions makers shown place a at =
    let h = shown.held place a at in
    let version = h.0 in
    let is : version_in e place a at ≡ version = elim (cases_Bool (is_making a.kind)) [
      | inl making ↦
          let maker = h.2.maker making in
          let some = maker.0 in
          let same : Some maker.1 ≡ Some a = sym maker.2.3 ∙ at in
          let here = made e others versions makers shown (version - 1) place a at (subst (IsMaker e.accesses makers (version - 1) place) (cc) maker.2) in
          omega arith
      | inr load ↦
          let between = h.2.load load in
          let low = load_above e others versions makers shown place version a at between.0 in
          let high = load_under e others versions makers shown place version a at between.1 in
          omega arith
    ] in
    shown.of place a at ∙ (ap (λ (v : ℕ). Some v) is ∙ sym h.1)

pub forced : (timed : Bool) (accesses : List Access) (last : Option ℕ) (versions : List ℕ) (makers : List Maker) → AreKnown accesses → AreWrittenOnce accesses
    → ((index : ℕ) → index < length makers → IsRanked timed accesses last versions makers index) → AreHeld timed accesses versions makers
    → AreForced timed accesses last versions
forced timed accesses last versions makers known once ranked held = λ others is i lt.
    let e = explanation timed accesses last others known is in
    let shown : IsShownBy e others versions makers = record { of = are_of timed accesses last others known is; once = once; ranked = ranked; held = held } in
    let there = slice_get-get_or accesses i no_access lt in
    held_here e others versions makers shown i (get_or accesses i no_access) there
