-- What a driver does in a round, step by step.
use Rattle.std.proofs.Common.{◌≡◌, ◌+◌, ◌<◌, ℕ, Bool, true, false, List, [], ◌∷◌, ◌++◌, length, map, Some, add-one, refl, sym, ap, subst}
use Rattle.std.proofs.Common.{◌∙◌, arith, inl, inr}
use Rattle.std.proofs.lemmas.List.{length_push}
use Rattle.std.specs.{Prelude.{◌↔◌, Result, Ok, IfOk, IsErr}, List.{Contains}, declared.alloc.AllocError.{AllocError}}
use Rattle.sci_words.specs.declared.operation.Op.{Op}
use Rattle.sci_history.specs.declared.entry.Entry.{Entry}
use Rattle.sci_core.specs.{Node.{NodeOf}, Work.{IsIssued, IsLogged}}
use Rattle.sci_policy.specs.{Deeds.{Deed, Issues}, Worker.{HasSameWork, IsNodeTurn}}
use Rattle.sci_drive.specs.{declared.driver.Round.{Round}, Calls.{AllDone, Answered, Call, HasHeard, MayIssue, Rest, end_told, reports}}
use Rattle.sci_drive.specs.Driving.{DriverOf, IsAnswered, IsDriven}
use Rattle.sci_drive.specs.Resting.{AllAreDone, AreBehind, IsAsked, NotAsked, NotYet, in_a_row, is_rest_due, rests_if, row_after}
use Rattle.sci_drive.specs.Rounds.{ArePerformed, AreDrivenRounds, IsDrivenRound, HasPerformed, IsHeldBack, IsTried, NoneNow, OneMore, Submits, most_pending}
use Rattle.sci_drive.specs.Rounds.{next_op}
use Rattle.sci_drive.specs.Rounds.{performed}
use Rattle.sci_drive.specs.Rounds.{turn_of, with_submitted}
use Rattle.sci_drive.proofs.GateCalls.{heard_on, no_calls, one_call, submit_call}

-- ---- performed

pub one_more_performed : (before node after : NodeOf) (entries : List Entry) (entry : Entry) → ArePerformed before entries node
    → IsLogged node after entry.op.line entry → ArePerformed before (entries ++ entry ∷ []) after
one_more_performed before node after [] entry is logged = (after, subst (λ (n : NodeOf). IsLogged n after entry.op.line entry) (sym is) logged, refl)
one_more_performed before node after (e ∷ entries) entry is logged = (is.0, is.1, one_more_performed is.0 node after entries entry is.2 logged)

pub tried_on : (line : ℕ) (before node after : NodeOf) (entry : Entry) → IsTried line before node → IsLogged node after entry.op.line entry
    → IsTried line before after
tried_on line before node after entry was logged = record {
  node = was.node;
  earlier = was.earlier;
  first = was.first;
  cannot = was.cannot;
  later = was.later ++ entry ∷ [];
  rest = one_more_performed was.node node after was.later entry was.rest logged;
}

performed_issued : (before after : NodeOf) (entries : List Entry) → ArePerformed before entries after → after.issued ≡ before.issued
performed_issued before after [] is = ap (λ (n : NodeOf). n.issued) (sym is)
performed_issued before after (e ∷ entries) is = performed_issued is.0 after entries is.2 ∙ is.1.issued

performed_log : (before after : NodeOf) (entries : List Entry) → ArePerformed before entries after → length after.log ≡ length before.log + length entries
performed_log before after [] is = let same = ap (λ (n : NodeOf). length n.log) is in omega (arith, same)
performed_log before after (e ∷ entries) is =
    let rest = performed_log is.0 after entries is.2 in
    let one : length is.0.log ≡ length before.log + 1 = ap (λ (l : List Entry). length l) is.1.log ∙ length_push before.log e in
    omega (arith, rest, one)

-- the driver is the same, but for what is pending
pub has_performed : (old new : DriverOf) (before after : NodeOf) (entries : List Entry) → IsDriven old before → IsDriven new after
    → ArePerformed before entries after → new.script ≡ old.script → new.issuing ≡ old.issuing → HasPerformed old new entries
has_performed old new before after entries was is performs script issuing = grind (arith, performed_issued, performed_log)

-- ---- the calls of what is submitted

module _ {G : Type 0} (hears : G → List Call → G → Type 0) (hears_nothing : (g : G) → hears g [] g) where
  -- nothing is submitted, and the gate isn't asked
  pub holds_back : (g : G) (a : DriverOf) (x : NodeOf) → IsHeldBack a x [] → Submits a a x x [] [] × HasHeard hears g g a a x x []
  holds_back g a x held = (NoneNow held refl refl refl, (hears_nothing g, no_calls a a x x refl refl refl))

  -- nothing is submitted, and the gate is asked
  pub asks : (g h : G) (may : Bool) (a : DriverOf) (x y : NodeOf) → hears g (MayIssue a.next may ∷ []) h → y ≡ x → IsHeldBack a x (MayIssue a.next may ∷ [])
      → Submits a a x y (MayIssue a.next may ∷ []) [] × HasHeard hears g h a a x y (MayIssue a.next may ∷ [])
  asks g h may a x y is same held =
      (NoneNow held refl same refl, (is, one_call a a x y (MayIssue a.next may) refl refl refl refl (ap (λ (n : NodeOf). n.log) same)))

  -- the next operation is submitted, as it was allowed
  pub submits_one : (g h : G) (a : DriverOf) (x y : NodeOf) (op : Op) → hears g (MayIssue a.next true ∷ []) h
      → length a.pending < most_pending a.issuing → next_op a ≡ Some op → IsIssued x y op
      → Submits a (with_submitted a op) x y (MayIssue a.next true ∷ []) (Issues op ∷ [])
      × HasHeard hears g h a (with_submitted a op) x y (MayIssue a.next true ∷ [])
  submits_one g h a x y op is room next issued =
      (OneMore op room next refl refl issued refl, (is, submit_call a (with_submitted a op) x y refl refl issued.log))

-- ---- a round

module _ {G E : Type 0} (hears : G → List Call → G → Type 0) (hears_on : (g h k : G) (calls more : List Call)
    → hears g calls h → hears h more k → hears g (calls ++ more) k) where
  -- it submits, performs, takes a turn, and tells the gate of the end, if it does
  pub goes : (g h k l : G) (a b c d : DriverOf) (x y z w : NodeOf) (result : Result Round E) (asked : List Call) (first : List Deed) (entries : List Entry)
      → Submits a b x y asked first → HasHeard hears g h a b x y asked
      → ArePerformed y entries z → HasHeard hears h k b c y z (map Answered entries)
      → HasPerformed b d entries → ((line : ℕ) → Contains d.pending line → IsTried line y z)
      → HasSameWork z w → IfOk result (λ round. IsNodeTurn z w round.progress)
      → HasHeard hears k l c d z w (end_told a.was_done d.was_done) → IfOk result (λ round. (d.was_done ≡ true) ↔ IsAnswered d)
      → (IsErr result → d.was_done ≡ a.was_done)
      → IsDrivenRound hears ((first ++ map performed entries) ++ turn_of result) g l a d x w result
  goes g h k l a b c d x y z w result asked first entries submits submitting performs performing left tried work turn ending done stopped =
      let behind = heard_on hears hears_on h k l b c d y z w (map Answered entries) (end_told a.was_done d.was_done) performing ending in
      let whole = heard_on hears hears_on g h l a b d x y w asked (reports entries a.was_done d.was_done) submitting behind in record {
        heard = record { calls = asked ++ reports entries a.was_done d.was_done; heard = whole.0; are = whole.1 };
        node = z;
        works = first ++ map performed entries;
        worked = record {
          driver = b;
          node = y;
          asked = asked;
          first = first;
          submits = submits;
          entries = entries;
          performs = performs;
          left = left;
          deeds_are = refl;
          tried = tried;
        };
        calls_are = refl;
        deeds_are = refl;
        same = work;
        turn = turn;
        done = done;
        stopped = stopped;
      }

-- ---- many rounds

-- the gate has had the calls behind a round
abbrev pub IsBehind : {G : Type 0} → (G → List Call → G → Type 0) → DriverOf → G → G → Round → ℕ → ℕ → Bool → Type 0
IsBehind hears driver gate later round row next finished = (calls : List Call) × hears gate calls later × AreBehind driver round row next calls finished

module _ {G : Type 0} (hears : G → List Call → G → Type 0) (hears_nothing : (g : G) → hears g [] g) (hears_on : (g h k : G) (calls more : List Call)
    → hears g calls h → hears h more k → hears g (calls ++ more) k) where
  -- it rests if that is due
  behind : (g h : G) (due : Bool) (round : Round) (row next : ℕ) → is_rest_due round row ≡ due → (due ≡ true → hears g (Rest ∷ []) h × (next ≡ 0))
      → (due ≡ false → hears g [] h × (next ≡ in_a_row round row))
      → hears g (rests_if (is_rest_due round row)) h × (next ≡ row_after round row)
  behind g h true round row next is rests on = grind arith
  behind g h false round row next is rests on = grind arith

  -- the gate is asked whether all are done, or not asked, and they aren't
  pub behind_round : (driver : DriverOf) (g h k : G) (all : Bool) (round : Round) (row next : ℕ) → all ≡ false → IsAsked hears driver g h all
      → (is_rest_due round row ≡ true → hears h (Rest ∷ []) k × (next ≡ 0)) → (is_rest_due round row ≡ false → hears h [] k × (next ≡ in_a_row round row))
      → IsBehind hears driver g k round row next false
  behind_round driver g h k true round row next isnt asked rests on = absurd (cc)
  behind_round driver g h k false round row next isnt (inl not) rests on =
      let last = behind h k (is_rest_due round row) round row next refl rests on in
      (rests_if (is_rest_due round row), hears_on g h k [] (rests_if (is_rest_due round row)) not.1 last.0, NotAsked not.0 refl last.1 refl)
  behind_round driver g h k false round row next isnt (inr is) rests on =
      let last = behind h k (is_rest_due round row) round row next refl rests on in (
        AllDone false ∷ rests_if (is_rest_due round row),
        hears_on g h k (AllDone false ∷ []) (rests_if (is_rest_due round row)) is.1 last.0,
        NotYet is.0 refl last.1 refl,
      )

  -- all are done
  pub behind_last : (driver : DriverOf) (g h : G) (all : Bool) (round : Round) (row : ℕ) → all ≡ true → IsAsked hears driver g h all
      → IsBehind hears driver g h round row (in_a_row round row) true
  behind_last driver g h false round row done asked = absurd (cc)
  behind_last driver g h true round row done (inl not) = absurd (let never : true ≡ false = not.2 in cc)
  behind_last driver g h true round row done (inr is) = (AllDone true ∷ [], is.1, AllAreDone is.0 refl refl refl)

  pub one_round_more : (g h k l : G) (a b c : DriverOf) (x y z : NodeOf) (turns row next : ℕ) (round : Round) (finished : Bool) (deeds more : List Deed)
      → AreDrivenRounds hears turns false row deeds g h a b x y → IsDrivenRound {E = AllocError} hears more h k b c y z (Ok round)
      → IsBehind hears c k l round row next finished → AreDrivenRounds hears (turns + 1) finished next (deeds ++ more) g l a c x z
  one_round_more g h k l a b c x y z turns row next round finished deeds more was goes last =
      rw add-one (h, k, b, y, round, row, last.0, deeds, more, refl, was, goes, last.1, last.2)
