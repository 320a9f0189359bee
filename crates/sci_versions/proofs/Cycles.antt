-- Stretches of a word: from a value's writer to the next one's. They can't go round in a cycle.
use Rattle.std.proofs.{Common.{◌≡◌, ℕ, zero, suc, ◌+◌, ◌-◌, ◌<◌, ◌≤◌, List, [], ◌∷◌, length, sym, ap, ◌∙◌, arith, inl, inr}, lemmas.Bool.{cases_eq, cases_lt}}
use Rattle.sci_words.specs.declared.{limits.TheConstants.{MAX_NODES, WORDS_PER_LINE}, stamped.Stamped.{Stamped}}
use Rattle.sci_history.proofs.{Consequences.{among_all}, LawLemmas.{not_stale}}
use Rattle.sci_history.specs.{Lawful.{Lawful}, Memory.{stamped_at}, Placed.{AreOwn}, declared.entry.Entry.{Entry}}
use Rattle.sci_versions.proofs.Words.{IsLine, got_old, is_placed, leaves_at, word_at, word_step, zero_at_start}
use Rattle.sci_versions.specs.Stretches.{left_by, IsWriter, IsWrittenOnce, FollowsIn, IsChain, IsCycle}

-- a writer of this value between two versions
pub record IsBetween (logs : List (List Entry)) (line word value low high : ℕ) : Type 0 where
  pub node : ℕ
  pub entry : Entry
  pub writer : IsWriter logs line word value node entry
  pub above : low < entry.version
  pub within : entry.version ≤ high

one_change : (logs : List (List Entry)) (line word value version : ℕ) (last : Stamped) → IsLine logs line word last → suc version ≤ last.version
    → (word_at logs line word version ≡ value → ⊥) → word_at logs line word (suc version) ≡ value
    → IsBetween logs line word value version (suc version)
one_change logs line word value version last is within was becomes = elim (word_step logs line word version last is within) [
  | inl (z, made) ↦
      let at = made.at in
      record {
        node = z.node;
        entry = z;
        writer = record {
          did = made.did;
          making = made.making;
          there = made.there;
          leaves = made.leaves ∙ becomes;
          changes = λ e. was (got_old z.op.act (word_at logs line word version) value (sym made.replied ∙ e));
        };
        above = omega arith;
        within = omega arith;
      }
  | inr kept ↦ absurd (was (sym kept ∙ becomes))
]

pub change_between : (logs : List (List Entry)) (line word value low more : ℕ) (last : Stamped) → IsLine logs line word last → low + more ≤ last.version
    → (word_at logs line word low ≡ value → ⊥) → word_at logs line word (low + more) ≡ value → IsBetween logs line word value low (low + more)
change_between logs line word value low zero last is within was becomes =
    absurd (was (ap (λ (v : ℕ). word_at logs line word v) (omega arith) ∙ becomes))
change_between logs line word value low (suc more) last is within was becomes = elim (cases_eq (word_at logs line word (low + more)) value) [
  | inl same ↦
      let x = change_between logs line word value low more last is (omega arith) was same in
      let above = x.above in
      let below = x.within in
      record { node = x.node; entry = x.entry; writer = x.writer; above = omega arith; within = omega arith }
  | inr differs ↦
      let there : word_at logs line word (suc (low + more)) ≡ value = ap (λ (v : ℕ). word_at logs line word v) (omega arith) ∙ becomes in
      let x = one_change logs line word value (low + more) last is (omega arith) differs there in
      let above = x.above in
      let below = x.within in
      record { node = x.node; entry = x.entry; writer = x.writer; above = omega arith; within = omega arith }
]

-- a value that is written once stands in one stretch
one_stretch : (logs : List (List Entry)) (line word value i j k : ℕ) (last : Stamped) → IsLine logs line word last → IsWrittenOnce logs line word value
    → i < j → j < k → k ≤ last.version → word_at logs line word i ≡ value → word_at logs line word k ≡ value → (word_at logs line word j ≡ value → ⊥) → ⊥
one_stretch logs line word value i j k last is once less more within first third second =
    let y = change_between logs line word value j (k - j) last is (omega arith) second (ap (λ (v : ℕ). word_at logs line word v) (omega arith) ∙ third) in
    elim (cases_eq (word_at logs line word 0) value) [
      | inl start ↦ once.never_zero (sym start ∙ zero_at_start logs line word last is) y.node y.entry y.writer
      | inr later ↦
          let x = change_between logs line word value 0 i last is (omega arith) later (ap (λ (v : ℕ). word_at logs line word v) (omega arith) ∙ first) in
          let same = ap (λ (e : Entry). e.version) (once.once x.node y.node x.entry y.entry x.writer y.writer) in
          let low = x.within in
          let high = y.above in
          absurd (omega arith)
    ]

-- so two stretches stand one behind the other
pub apart : (logs : List (List Entry)) (line word a b p q here there : ℕ) (last : Stamped) → IsLine logs line word last → IsWrittenOnce logs line word a
    → IsWrittenOnce logs line word b → (a ≡ b → ⊥) → there < here → here ≤ last.version → p ≤ last.version → q ≤ last.version
    → word_at logs line word here ≡ a → word_at logs line word there ≡ b → word_at logs line word p ≡ a → word_at logs line word q ≡ b → q < p
apart logs line word a b p q here there last is once_a once_b differ less low_here low_p low_q at_here at_there at_p at_q = elim (cases_lt q p) [
  | inl lt ↦ lt
  | inr not_less ↦ elim (cases_eq p q) [
    | inl same ↦ absurd (differ (sym at_p ∙ (ap (λ (v : ℕ). word_at logs line word v) same ∙ at_q)))
    | inr off ↦ elim (cases_lt q here) [
      | inl lt ↦ absurd (one_stretch logs line word a p q here last is once_a (omega arith) lt low_here at_p at_here (λ e. differ (sym e ∙ at_q)))
      | inr past ↦ elim (cases_eq q here) [
        | inl same ↦ absurd (differ (sym at_here ∙ (ap (λ (v : ℕ). word_at logs line word v) (sym same) ∙ at_q)))
        | inr away ↦ absurd (one_stretch logs line word b there here q last is once_b less (omega arith) low_q at_there at_q (λ e. differ (sym at_here ∙ e)))
      ]
    ]
  ]
]

-- ---- round the cycle

-- the entry that follows has the greater version
falls : (logs : List (List Entry)) (line word : ℕ) (last : Stamped) (x y : Entry) → IsLine logs line word last → FollowsIn logs line word x y
    → y.version < x.version
falls logs line word last x y is follows =
    let a = is_placed logs line follows.node last x is.own is.sixteen is.lawful follows.did_here in
    let b = is_placed logs line follows.node last y is.own is.sixteen is.lawful follows.did_there in
    let at_x = leaves_at logs line word last x is a.among follows.here in
    let at_y = leaves_at logs line word last y is b.among follows.there in
    let most = among_all (λ e. e.version ≤ x.version) y follows.before
    (not_stale logs line follows.node last follows.before follows.after x follows.known is.lawful follows.logged) follows.earlier in
    elim (cases_eq y.version x.version) [
      | inl same ↦ absurd (follows.differ (sym at_x ∙ (ap (λ (v : ℕ). word_at logs line word v) (sym same) ∙ at_y)))
      | inr off ↦ omega arith
    ]

-- each version with the first value of a step is above each version with its second one
steps_down : (logs : List (List Entry)) (line word b here there : ℕ) (last : Stamped) (x y : Entry) → IsLine logs line word last
    → FollowsIn logs line word x y → left_by y ≡ b → IsWrittenOnce logs line word b → here ≤ last.version → there ≤ last.version
    → word_at logs line word here ≡ left_by x → word_at logs line word there ≡ b → there < here
steps_down logs line word b here there last x y is follows leaves once low_here low_there at_here at_there =
    let p = is_placed logs line follows.node last x is.own is.sixteen is.lawful follows.did_here in
    let q = is_placed logs line follows.node last y is.own is.sixteen is.lawful follows.did_there in
    apart logs line word (left_by x) b here there x.version y.version last is follows.once once (λ e. follows.differ (e ∙ sym leaves))
    (falls logs line word last x y is follows) p.within low_here low_there (leaves_at logs line word last x is p.among follows.here)
    (leaves_at logs line word last y is q.among follows.there ∙ leaves) at_here at_there

first_of : (logs : List (List Entry)) (line word end : ℕ) (p : Entry × Entry) (ps : List (Entry × Entry)) → IsChain logs line word (p ∷ ps) end
    → FollowsIn logs line word p.0 p.1
first_of logs line word end p [] way = way.0
first_of logs line word end p (q ∷ ps) way = way.0

chain_down : (logs : List (List Entry)) (line word end here there : ℕ) (last : Stamped) (p : Entry × Entry) (ps : List (Entry × Entry))
    → IsLine logs line word last → IsChain logs line word (p ∷ ps) end → IsWrittenOnce logs line word end → here ≤ last.version → there ≤ last.version
    → word_at logs line word here ≡ left_by p.0 → word_at logs line word there ≡ end → there < here
chain_down logs line word end here there last p [] is way once low_here low_there at_here at_there =
    steps_down logs line word end here there last p.0 p.1 is way.0 way.1 once low_here low_there at_here at_there
chain_down logs line word end here there last p (q ∷ ps) is way once low_here low_there at_here at_there =
    let next = first_of logs line word end q ps way.2 in
    let mid = is_placed logs line next.node last q.0 is.own is.sixteen is.lawful next.did_here in
    let at_mid = leaves_at logs line word last q.0 is mid.among next.here in
    let high = steps_down logs line word (left_by q.0) here q.0.version last p.0 p.1 is way.0 way.1 next.once low_here mid.within at_here at_mid in
    let low = chain_down logs line word end q.0.version there last q ps is way.2 once mid.within low_there at_mid at_there in
    omega arith

pub no_cycle : (logs : List (List Entry)) (last : List Stamped) (line word : ℕ) (steps : List (Entry × Entry)) → AreOwn logs
    → length logs ≡ MAX_NODES → Lawful logs last → word < WORDS_PER_LINE → IsCycle logs line word steps → ⊥
no_cycle logs last line word [] own sixteen lawful small cycle = cycle
no_cycle logs last line word (p ∷ ps) own sixteen lawful small cycle =
    let end = stamped_at last line in
    let is : IsLine logs line word end = record { own = own; sixteen = sixteen; lawful = lawful line; small = small } in
    let first = first_of logs line word (left_by p.0) p ps cycle in
    let at = is_placed logs line first.node end p.0 own sixteen (lawful line) first.did_here in
    let here = leaves_at logs line word end p.0 is at.among first.here in
    let less = chain_down logs line word (left_by p.0) p.0.version p.0.version end p ps is cycle first.once at.within at.within here here in
    omega arith
