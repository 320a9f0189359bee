-- What the deeds of a driver issue, and that they keep to its window.
use Rattle.std.proofs.Common.{◌≡◌, ◌+◌, ◌<◌, ℕ, zero, suc, Bool, List, [], ◌∷◌, ◌++◌, length, map, drop, Some, Ok, refl, sym, ap, subst, ◌∙◌, arith}
use Rattle.std.proofs.Common.{append_assoc, drop-cons}
use Rattle.std.proofs.lemmas.{List.{length_push}, Option.{get_or_from_slice_get, slice_get_within}}
use Rattle.std.specs.{Prelude.{slice_get}, declared.alloc.AllocError.{AllocError}}
use Rattle.sci_words.specs.declared.operation.Op.{Op}
use Rattle.sci_history.specs.declared.entry.Entry.{Entry}
use Rattle.sci_core.specs.Node.{NodeOf}
use Rattle.sci_policy.specs.Deeds.{Deed, Issues, Performs, Turns}
use Rattle.sci_drive.specs.{declared.driver.{Issuing.{Issuing}, Round.{Round}}, Calls.{Call}, Driving.{DriverOf}}
use Rattle.sci_drive.specs.Rounds.{AreDrivenRounds, IsDrivenRound, HasPerformed, NoneNow, OneMore, Submits, most_pending, performed, with_submitted}

-- the operations that deeds issue, in their order
abbrev pub issued_by : List Deed → List Op
issued_by [] = []
issued_by (Issues op ∷ deeds) = op ∷ issued_by deeds
issued_by (Performs line entry ∷ deeds) = issued_by deeds
issued_by (Turns progress ∷ deeds) = issued_by deeds

-- Deeds issue only while fewer operations wait than the window, and perform only while one waits. So many wait before them, and
-- behind them.
abbrev pub KeepTo : ℕ → ℕ → List Deed → ℕ → Type 0
KeepTo window waiting [] left = waiting ≡ left
KeepTo window waiting (Issues op ∷ deeds) left = (waiting < window) × KeepTo window (suc waiting) deeds left
KeepTo window waiting (Performs line entry ∷ deeds) left = (fewer : ℕ) × (waiting ≡ suc fewer) × KeepTo window fewer deeds left
KeepTo window waiting (Turns progress ∷ deeds) left = KeepTo window waiting deeds left

keep_on : (window a b c : ℕ) (deeds more : List Deed) → KeepTo window a deeds b → KeepTo window b more c → KeepTo window a (deeds ++ more) c
keep_on window a b c [] more one two = subst (λ (k : ℕ). KeepTo window k more c) (sym one) two
keep_on window a b c (Issues op ∷ deeds) more one two = (one.0, keep_on window (suc a) b c deeds more one.1 two)
keep_on window a b c (Performs line entry ∷ deeds) more one two = (one.0, one.1, keep_on window one.0 b c deeds more one.2 two)
keep_on window a b c (Turns progress ∷ deeds) more one two = keep_on window a b c deeds more one two

issued_on : (deeds more : List Deed) → issued_by (deeds ++ more) ≡ issued_by deeds ++ issued_by more
issued_on [] more = refl
issued_on (Issues op ∷ deeds) more = ap (λ (ops : List Op). op ∷ ops) (issued_on deeds more)
issued_on (Performs line entry ∷ deeds) more = issued_on deeds more
issued_on (Turns progress ∷ deeds) more = issued_on deeds more

-- A driver has come further by these deeds: they issue the next operations of its script, and keep to its window.
pub record Keeps (old new : DriverOf) (deeds : List Deed) : Type 0 where
  pub script : new.script ≡ old.script
  pub issuing : new.issuing ≡ old.issuing
  pub issues : drop old.next old.script ≡ issued_by deeds ++ drop new.next new.script
  pub keep : KeepTo (most_pending old.issuing) (length old.pending) deeds (length new.pending)

pub keeps_itself : (a : DriverOf) → Keeps a a []
keeps_itself a = record { script = refl; issuing = refl; issues = refl; keep = refl }

pub keeps_then : (a b c : DriverOf) (deeds more : List Deed) → Keeps a b deeds → Keeps b c more → Keeps a c (deeds ++ more)
keeps_then a b c deeds more one two = record {
  script = two.script ∙ one.script;
  issuing = two.issuing ∙ one.issuing;
  issues = one.issues ∙ (ap (λ (ops : List Op). issued_by deeds ++ ops) two.issues
      ∙ (sym (append_assoc (issued_by deeds) (issued_by more) (drop c.next c.script))
      ∙ ap (λ (ops : List Op). ops ++ drop c.next c.script) (sym (issued_on deeds more))));
  keep = keep_on (most_pending a.issuing) (length a.pending) (length b.pending) (length c.pending) deeds more one.keep
      (subst (λ (i : Issuing). KeepTo (most_pending i) (length b.pending) more (length c.pending)) one.issuing two.keep);
}

-- ---- a round

next_left : (script : List Op) (n : ℕ) (op : Op) → slice_get script n ≡ Some op → drop n script ≡ op ∷ drop (n + 1) script
next_left script n op is =
    let one : n + 1 ≡ suc n = omega arith in
    drop-cons script n op (slice_get_within script n op is)
    ∙ (ap (λ (x : Op). x ∷ drop (suc n) script) (get_or_from_slice_get script n op op is)
    ∙ ap (λ (k : ℕ). op ∷ drop k script) (sym one))

submits_keep : (a b : DriverOf) (x y : NodeOf) (calls : List Call) (deeds : List Deed) → Submits a b x y calls deeds → Keeps a b deeds
submits_keep a b x y calls deeds (OneMore op room next is asked issued deeds_are) =
    let long = length_push a.pending op.line in
    subst (λ (d : DriverOf). Keeps a d deeds) (sym is) (subst (Keeps a (with_submitted a op)) (sym deeds_are) (record {
      script = refl;
      issuing = refl;
      issues = next_left a.script a.next op next;
      keep = (room, omega (arith, long));
    }))
submits_keep a b x y calls deeds (NoneNow held is same deeds_are) =
    subst (λ (d : DriverOf). Keeps a d deeds) (sym is) (subst (Keeps a a) (sym deeds_are) (keeps_itself a))

performed_keep : (window waiting left : ℕ) (entries : List Entry) → waiting ≡ left + length entries → KeepTo window waiting (map performed entries) left
performed_keep window waiting left [] is = omega (arith, is)
performed_keep window waiting left (e ∷ entries) is =
    (left + length entries, omega (arith, is), performed_keep window (left + length entries) left entries refl)

performed_issue : (entries : List Entry) → issued_by (map performed entries) ≡ []
performed_issue [] = refl
performed_issue (e ∷ entries) = performed_issue entries

performs_keep : (a b : DriverOf) (entries : List Entry) → HasPerformed a b entries → Keeps a b (map performed entries)
performs_keep a b entries left = record {
  script = left.script;
  issuing = left.issuing;
  issues = ap (λ (ops : List Op). drop a.next ops) (sym left.script) ∙ (ap (λ (n : ℕ). drop n b.script) (sym left.next)
      ∙ ap (λ (ops : List Op). ops ++ drop b.next b.script) (sym (performed_issue entries)));
  keep = performed_keep (most_pending a.issuing) (length a.pending) (length b.pending) entries left.fewer;
}

turn_keeps : (a : DriverOf) (round : Round) → Keeps a a (Turns round.progress ∷ [])
turn_keeps a round = record { script = refl; issuing = refl; issues = refl; keep = refl }

pub round_keeps : {G : Type 0} (hears : G → List Call → G → Type 0) (deeds : List Deed) (g h : G) (a b : DriverOf) (x y : NodeOf) (round : Round)
    → IsDrivenRound {E = AllocError} hears deeds g h a b x y (Ok round) → Keeps a b deeds
round_keeps hears deeds g h a b x y round goes =
    let worked = goes.worked in
    let first = submits_keep a worked.driver x worked.node worked.asked worked.first worked.submits in
    let then_ = keeps_then a worked.driver b worked.first (map performed worked.entries) first (performs_keep worked.driver b worked.entries worked.left) in
    let all = keeps_then a b b goes.works (Turns round.progress ∷ []) (subst (Keeps a b) (sym worked.deeds_are) then_) (turn_keeps b round) in
    subst (Keeps a b) (sym goes.deeds_are) all

-- ---- many rounds

pub rounds_keep : {G : Type 0} (hears : G → List Call → G → Type 0) (turns : ℕ) (finished : Bool) (restless : ℕ) (deeds : List Deed) (g h : G)
    (a b : DriverOf) (x y : NodeOf) → AreDrivenRounds hears turns finished restless deeds g h a b x y → Keeps a b deeds
rounds_keep hears zero finished restless deeds g h a b x y goes =
    subst (λ (d : DriverOf). Keeps a d deeds) goes.4 (subst (Keeps a a) (sym goes.2) (keeps_itself a))
rounds_keep hears (suc turns) finished restless deeds g h a b x y goes =
    let earlier = rounds_keep hears turns _ goes.5 goes.7 g goes.0 a goes.2 x goes.3 goes.10 in
    let last = round_keeps hears goes.8 goes.0 goes.1 goes.2 b goes.3 y goes.4 goes.11 in
    subst (Keeps a b) (sym goes.9) (keeps_then a goes.2 b goes.7 goes.8 earlier last)
