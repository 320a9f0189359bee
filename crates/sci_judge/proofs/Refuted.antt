-- A witness rules out all versions.
use Rattle.std.proofs.Common.{◌≡◌, ℕ, zero, suc, ◌<◌, ◌≤◌, Bool, true, false, List, [], ◌∷◌, get_or, refl, sym, ap, subst, ◌∙◌, arith, inl, inr}
use Rattle.std.proofs.Common.{Some, None, Option, eqb}
use Rattle.std.proofs.lemmas.Bool.{cases_eq, cases_Bool, and_from, eq-eqb}
use Rattle.std.specs.{List.{list_any}}
use Rattle.sci_words.specs.{Stamped.{zero_stamped}}
use Rattle.sci_words.specs.declared.operation.Reply.TheVariants.{Got, Stored}
use Rattle.sci_history.specs.{declared.entry.Entry.{Entry}, Placed.{placed}}
use Rattle.sci_history.proofs.{Consequences.{placed_history}, Histories.{words_at-end}}
use Rattle.sci_versions.specs.Stretches.{IsWriter}
use Rattle.sci_versions.proofs.{Cycles.{apart, change_between}, Words.{zero_at_start}}
use Rattle.sci_judge.specs.declared.access.{Access.{Access}, Kind.{Kind, TheVariants.{Load, Store, Atomic}}}
use Rattle.sci_judge.specs.declared.witness.{Claim.{Claim}, Step.{Step, TheVariants.{Follows, Swaps, Falls, Rises, Starts, Ends}}}
use Rattle.sci_judge.specs.declared.witness.Witness.{Witness, TheVariants.{Unwritten, UnwrittenLast, Early, Circle, Round}}
use Rattle.sci_judge.specs.Access.{AreKnown, found_by, is_making, is_writing, left_by}
use Rattle.sci_judge.specs.Coherent.{IsCoherent, StandsBefore, reply_of}
use Rattle.sci_judge.specs.Witness.{AreInTurn, AreWrittenOnce, ComesBefore, ExtendsClaim, IsAt, IsCircle, IsPath, IsRound, IsUnwritten, IsWitness, Leads}
use Rattle.sci_judge.specs.Witness.{writes}
use Rattle.sci_judge.proofs.Explained.{Explanation, end_of, entry_in, entry_leaves, entry_makes, in_order, is_line, placed_in, read_at, top_of, word_in}
use Rattle.sci_judge.proofs.Explained.{written_at, written_once}

-- ---- claims

-- all versions with the one word are below all with the other
abbrev pub Holds : Explanation → Claim → Type 0
Holds e claim = (i j : ℕ) → i ≤ top_of e → j ≤ top_of e → word_in e i ≡ claim.low → word_in e j ≡ claim.high → i < j

-- and there is a version with the other
pub record IsShown (e : Explanation) (claim : Claim) : Type 0 where
  pub holds : Holds e claim
  pub place : ℕ
  pub within : place ≤ top_of e
  pub there : word_in e place ≡ claim.high

abbrev pub IsShownSoFar : Explanation → Option Claim → Type 0
IsShownSoFar e None = Unit {0}
IsShownSoFar e (Some claim) = IsShown e claim

-- two versions decide how two words stand
from_two : (e : Explanation) → AreWrittenOnce e.accesses → (low high there here : ℕ) → (low ≡ high → ⊥) → there < here → here ≤ top_of e
    → word_in e there ≡ low → word_in e here ≡ high → Holds e (record { low = low; high = high })
from_two e once low high there here differ less within at_low at_high = λ i j low_i low_j at_i at_j.
    apart e.logs 0 0 high low j i here there (end_of e) (is_line e) (written_once e high once) (written_once e low once) (λ same. differ (sym same)) less within
    low_j low_i at_high at_low at_j at_i

below : (e : Explanation) (a b there here : ℕ) → (a ≡ b → ⊥) → there ≤ here → word_in e there ≡ a → word_in e here ≡ b → there < here
below e a b there here differ le at_a at_b = grind (arith, cases_eq, word_in)

goes_on : (e : Explanation) → AreWrittenOnce e.accesses → (from : Option Claim) (word next there here : ℕ) (to : Claim) → IsShownSoFar e from → there ≤ here
    → here ≤ top_of e → word_in e there ≡ word → word_in e here ≡ next → ExtendsClaim from word next to → IsShown e to
goes_on e once None word next there here to shown le within at_word at_next goes =
    let less = below e word next there here goes.0 le at_word at_next in
    subst (IsShown e) (sym goes.1) (record {
      holds = from_two e once word next there here goes.0 less within at_word at_next;
      place = here;
      within = within;
      there = at_next;
    })
goes_on e once (Some from) word next there here to shown le within at_word at_next goes =
    let less = below e word next there here goes.0 le at_word at_next in
    let more = from_two e once word next there here goes.0 less within at_word at_next in
    subst (IsShown e) (sym goes.2) (record {
      holds = λ i j low_i low_j at_i at_j.
          let first = shown.holds i there low_i (omega arith) at_i (at_word ∙ sym goes.1) in
          let second = more there j (omega arith) low_j at_word at_j in
          omega arith;
      place = here;
      within = within;
      there = at_next;
    })

-- ---- where an operation finds its word

record IsFound (e : Explanation) (least : ℕ) (kind : Kind) : Type 0 where
  place : ℕ
  behind : least ≤ place
  within : place ≤ top_of e
  word : word_in e place ≡ found_by kind

found_kind : (e : Explanation) (i : ℕ) (x : Access) (at : IsAt e.accesses i x) (y : Entry) → (kind : Kind) → x.kind ≡ kind
    → StandsBefore y (entry_in e i x at).entry → IsFound e y.version kind
found_kind e i x at y (Load read) is before =
    let here = placed_in e i x at in
    record { place = (entry_in e i x at).entry.version; behind = before.0; within = here.within; word = here.leaves ∙ ap left_by is }
found_kind e i x at y (Store wrote) is before =
    let here = placed_in e i x at in
    record { place = (entry_in e i x at).entry.version; behind = before.0; within = here.within; word = here.leaves ∙ ap left_by is }
found_kind e i x at y (Atomic read wrote) is before =
    let here = placed_in e i x at in
    let within = here.within in
    let reads = read_at e i x at read wrote is in
    let has = entry_in e i x at in
    let less = before.1 (entry_makes has.entry i x has.same ∙ ap is_making is) in
    let next = reads.next in
    record { place = reads.before; behind = omega arith; within = omega arith; word = reads.word }

finds : (e : Explanation) (i : ℕ) (x : Access) (at : IsAt e.accesses i x) → (kind : Kind) → x.kind ≡ kind → IsFound e 0 kind
finds e i x at (Atomic read wrote) is =
    let here = placed_in e i x at in
    let within = here.within in
    let reads = read_at e i x at read wrote is in
    let next = reads.next in
    record { place = reads.before; behind = omega arith; within = omega arith; word = reads.word }
finds e i x at (Load read) is =
    let here = placed_in e i x at in
    record { place = (entry_in e i x at).entry.version; behind = omega arith; within = here.within; word = here.leaves ∙ ap left_by is }
finds e i x at (Store wrote) is =
    let here = placed_in e i x at in
    record { place = (entry_in e i x at).entry.version; behind = omega arith; within = here.within; word = here.leaves ∙ ap left_by is }

-- the last word is known
at_top : (e : Explanation) (word : ℕ) → e.last ≡ Some word → word_in e (top_of e) ≡ word
at_top e word known =
    let is = is_line e in
    ap (λ (ws : List ℕ). get_or ws 0 0)
    (words_at-end (placed e.logs 0) zero_stamped (end_of e) (top_of e) (placed_history e.logs 0 (end_of e) is.own is.sixteen is.lawful) (omega arith))
    ∙ e.explains.versions.agrees 0 0 word known

-- ---- steps

leads : (e : Explanation) → AreWrittenOnce e.accesses → (step : Step) (from : Option Claim) (to : Claim) → IsShownSoFar e from
    → Leads e.timed e.accesses e.last step from to → IsShown e to
leads e once (Follows earlier later) from to shown h =
    let y = h.0 in
    let x = h.1 in
    let before = in_order e earlier later y x h.2 h.3 h.4 in
    let found = found_kind e later x h.3 (entry_in e earlier y h.2).entry x.kind refl before in
    goes_on e once from (left_by y.kind) (found_by x.kind) (entry_in e earlier y h.2).entry.version found.place to shown found.behind found.within
    (placed_in e earlier y h.2).leaves found.word h.5
leads e once (Swaps place) from to shown h =
    let reads = read_at e place h.0 h.3 h.1 h.2 h.4 in
    let next = reads.next in
    let here = placed_in e place h.0 h.3 in
    goes_on e once from h.1 h.2 reads.before (entry_in e place h.0 h.3).entry.version to shown (omega arith) here.within reads.word
    (here.leaves ∙ ap left_by h.4) h.5
leads e once (Falls place) from to shown h =
    let z = h.0 in
    let read = h.1 in
    let wrote = h.2 in
    let claim = h.3 in
    let reads = read_at e place z h.4 read wrote h.5 in
    let next = reads.next in
    let here = placed_in e place z h.4 in
    let version = (entry_in e place z h.4).entry.version in
    let within = here.within in
    let before = subst (IsShownSoFar e) h.6 shown in
    subst (IsShown e) (sym h.10) (record {
      holds = λ i j low_i low_j at_i at_j.
          let high = before.holds i version low_i within at_i (here.leaves ∙ (ap left_by h.5 ∙ sym h.7)) in
          let less = below e claim.low read i reads.before h.9 (omega arith) at_i reads.word in
          from_two e once claim.low read i reads.before h.9 less (omega arith) at_i reads.word i j low_i low_j at_i at_j;
      place = reads.before;
      within = omega arith;
      there = reads.word;
    })
leads e once (Rises place) from to shown h =
    let z = h.0 in
    let read = h.1 in
    let wrote = h.2 in
    let claim = h.3 in
    let reads = read_at e place z h.4 read wrote h.5 in
    let next = reads.next in
    let here = placed_in e place z h.4 in
    let version = (entry_in e place z h.4).entry.version in
    let within = here.within in
    let before = subst (IsShownSoFar e) h.6 shown in
    let leaves = here.leaves ∙ ap left_by h.5 in
    subst (IsShown e) (sym h.10) (record {
      holds = λ i j low_i low_j at_i at_j.
          let low = before.holds reads.before j (omega arith) low_j (reads.word ∙ sym h.7) at_j in
          let less = below e wrote claim.high version j (λ same. h.9 (sym same)) (omega arith) leaves at_j in
          from_two e once wrote claim.high version j (λ same. h.9 (sym same)) less low_j leaves at_j i j low_i low_j at_i at_j;
      place = before.place;
      within = before.within;
      there = before.there;
    })
leads e once (Starts place) from to shown h =
    let here = placed_in e place h.0 h.1 in
    goes_on e once from 0 (left_by h.0.kind) 0 (entry_in e place h.0 h.1).entry.version to shown (omega arith) here.within
    (zero_at_start e.logs 0 0 (end_of e) (is_line e)) here.leaves h.2
leads e once (Ends place) from to shown h =
    let here = placed_in e place h.0 h.2 in
    goes_on e once from (left_by h.0.kind) h.1 (entry_in e place h.0 h.2).entry.version (top_of e) to shown here.within (omega arith) here.leaves
    (at_top e h.1 h.3) h.4

pub path : (e : Explanation) → AreWrittenOnce e.accesses → (steps : List Step) (from : Option Claim) (end : Claim) → IsShownSoFar e from
    → IsPath e.timed e.accesses e.last from steps end → IsShown e end
path e once [] from end shown is = subst (IsShownSoFar e) is shown
path e once (step ∷ steps) from end shown is = path e once steps (Some is.0) end (leads e once step from is.0 shown is.1) is.2

circle : (e : Explanation) → AreWrittenOnce e.accesses → (steps : List Step) → IsCircle e.timed e.accesses e.last steps → ⊥
circle e once steps is = grind (arith, path)

-- ---- words that nobody wrote

pub none_passes : (p : Access → Bool) (accesses : List Access) (i : ℕ) (x : Access) → list_any p accesses ≡ false → IsAt accesses i x → p x ≡ true → ⊥
none_passes p [] i x none at passes = absurd cc
none_passes p (a ∷ accesses) zero x none at passes = grind (arith, cases_Bool)
none_passes p (a ∷ accesses) (suc i) x none at passes =
    elim (cases_Bool (p a)) [
      | inl yes_ ↦ absurd (let no_ : true ≡ false = sym (rw yes_ refl) ∙ none in cc)
      | inr no_ ↦ none_passes p accesses i x (rw no_ at none) at passes
    ]

unwritten : (e : Explanation) (word place : ℕ) → place ≤ top_of e → word_in e place ≡ word → IsUnwritten e.accesses word → ⊥
unwritten e word place within at none =
    let change = change_between e.logs 0 0 word 0 place (end_of e) (is_line e) (omega arith)
    (λ same. none.0 (sym same ∙ zero_at_start e.logs 0 0 (end_of e) (is_line e))) (ap (word_in e) (omega arith) ∙ at) in
    let writer = written_at e word change.node change.entry change.writer in
    let access = writer.of.access in
    none_passes (writes word) e.accesses writer.of.place access none.1 writer.of.here
    (and_from (is_writing access.kind) (eqb (left_by access.kind) word) writer.writing (eq-eqb (left_by access.kind) word writer.leaves))

-- ---- a word that is left before it is written

pub stored_not_got : (kind : Kind) (word : ℕ) → kind ≡ Store word → reply_of kind ≡ Got word → ⊥
stored_not_got kind word stores got = let is : Stored ≡ Got word = sym (ap reply_of stores) ∙ got in absurd cc

early : (e : Explanation) (reader writer word : ℕ) (y x : Access) (at_y : IsAt e.accesses reader y) (at_x : IsAt e.accesses writer x)
    → left_by y.kind ≡ word → x.kind ≡ Store word → ComesBefore e.timed reader writer y x → AreWrittenOnce e.accesses → ⊥
early e reader writer word y x at_y at_x leaves stores before once =
    let has_y = entry_in e reader y at_y in
    let has_x = entry_in e writer x at_x in
    let making = entry_makes has_x.entry writer x has_x.same ∙ ap is_making stores in
    let less = (in_order e reader writer y x at_y at_x before).1 making in
    let here = placed_in e reader y at_y in
    let start = zero_at_start e.logs 0 0 (end_of e) (is_line e) in
    let some : word ≡ 0 → ⊥ = λ none. once.never_zero writer x at_x (ap is_writing stores) (ap left_by stores ∙ none) in
    let within_y = here.within in
    let change = change_between e.logs 0 0 word 0 has_y.entry.version (end_of e) (is_line e) (omega arith) (λ same. some (sym same ∙ start))
    (ap (word_in e) (omega arith) ∙ (here.leaves ∙ leaves)) in
    let writes_x : IsWriter e.logs 0 0 word x.processor has_x.entry = record {
      did = has_x.did;
      making = making;
      there = ap (λ (z : Entry). z.op.word) has_x.same;
      leaves = entry_leaves has_x.entry writer x has_x.same ∙ ap left_by stores;
      changes = λ got. stored_not_got x.kind word stores (sym (ap (λ (z : Entry). z.reply) has_x.same) ∙ got);
    } in
    let same = (written_once e word once).once change.node x.processor change.entry has_x.entry change.writer writes_x in
    let version = ap (λ (z : Entry). z.version) same in
    let within = change.within in
    absurd (omega arith)

-- ---- a round

in_turn : (e : Explanation) (from : ℕ) (y : Access) (at_y : IsAt e.accesses from y) (through : List ℕ) (to : ℕ) (x : Access) (at_x : IsAt e.accesses to x)
    → AreInTurn e.timed e.accesses from y through to x → StandsBefore (entry_in e from y at_y).entry (entry_in e to x at_x).entry
in_turn e from y at_y [] to x at_x is = in_order e from to y x at_y at_x is
in_turn e from y at_y (next ∷ through) to x at_x is =
    let first = in_order e from next y is.0 at_y is.1 is.2 in
    let others = in_turn e next is.0 is.1 through to x at_x is.3 in
    let behind = first.0 in
    let not_before = others.0 in
    (omega arith, λ making. let less = others.1 making in omega arith)

round : (e : Explanation) (maker : ℕ) (through : List ℕ) → IsRound e.timed e.accesses maker through → ⊥
round e maker through is =
    let has = entry_in e maker is.0 is.1 in
    let less = (in_turn e maker is.0 is.1 through maker is.0 is.1 is.3).1 (entry_makes has.entry maker is.0 has.same ∙ is.2) in
    absurd (omega arith)

-- ---- a witness

pub refuted : (e : Explanation) (witness : Witness) → IsWitness e.timed e.accesses e.last witness → ⊥
refuted e (Unwritten reader) is =
    let x = is.0 in
    let found = finds e reader x is.1 x.kind refl in
    unwritten e (found_by x.kind) found.place found.within found.word is.2
refuted e UnwrittenLast is = unwritten e is.0 (top_of e) (omega arith) (at_top e is.0 is.1) is.2
refuted e (Early reader writer) is = let h = is.1 in early e reader writer h.2 h.0 h.1 h.3 h.4 h.5 h.6 h.7 is.0
refuted e (Circle steps) is = circle e is.0 steps.items is.1
refuted e (Round maker through) is = round e maker through.items is

pub rules_out : (timed : Bool) (accesses : List Access) (last : Option ℕ) (witness : Witness) → AreKnown accesses → IsWitness timed accesses last witness
    → IsCoherent timed accesses last → ⊥
rules_out timed accesses last witness known is coherent =
    refuted (record {
      timed = timed;
      accesses = accesses;
      last = last;
      logs = coherent.0;
      contents = coherent.1;
      known = known;
      explains = coherent.2;
    }) witness is
