-- How the calls of a gate come one after another.
use Rattle.std.proofs.Common.{◌≡◌, ◌≤◌, ◌<◌, ◌+◌, ℕ, arith, true, false, Bool, List, [], ◌∷◌, ◌++◌, Some, None, cond, if◌then◌else◌, append-nil}
use Rattle.std.proofs.{Common.{append_assoc, refl, sym, ap, subst, ◌∙◌, inl, inr}, lemmas.Bool.{cases_lt}}
use Rattle.std.proofs.lemmas.List.Elements.{Contains-append_left, Contains-append_right, filter_map-append}
use Rattle.std.proofs.lemmas.List.Sums.{sum_by-append}
use Rattle.std.specs.{Prelude.{◌⊎◌}, List.{Contains}}
use Rattle.sci_history.specs.declared.entry.Entry.{Entry}
use Rattle.sci_core.specs.Node.{NodeOf}
use Rattle.sci_words.specs.declared.operation.Op.{Op}
use Rattle.sci_drive.specs.declared.driver.Issuing.{Issuing}
use Rattle.sci_drive.specs.Calls.{Answered, AreAllowed, AreCalls, AreCallsOf, Call, Done, EndWithDone, HasHeard, MayIssue, entry_told, is_done}
use Rattle.sci_drive.specs.{Calls.{times_before, times_done, told}, Driving.{DriverOf, IsDriven, opening_driver}}

-- ---- where a call stands in two lists

-- it stands in the first, or in the second
split : {X : Type 0} (xs ys front back : List X) (x : X) → xs ++ ys ≡ front ++ x ∷ back
    → ((rest : List X) × (xs ≡ front ++ x ∷ rest) × (back ≡ rest ++ ys)) ⊎ ((rest : List X) × (front ≡ xs ++ rest) × (ys ≡ rest ++ x ∷ back))
split [] ys front back x e = inr (front, refl, e)
split (z ∷ xs) ys [] back x e = grind arith
split (z ∷ xs) ys (f ∷ front) back x e =
    let same : z ≡ f = cc in
    let rest : xs ++ ys ≡ front ++ x ∷ back = cc in
    elim (split xs ys front back x rest) [
      | inl first ↦ inl (first.0, ap (λ l. z ∷ l) first.1 ∙ ap (λ y. y ∷ (front ++ x ∷ first.0)) same, first.2)
      | inr second ↦ inr (second.0, ap (λ l. f ∷ l) second.1 ∙ ap (λ y. y ∷ (xs ++ second.0)) (sym same), second.2)
    ]

-- of a list of one it is that one
alone : {X : Type 0} (c x : X) (front back : List X) → c ∷ [] ≡ front ++ x ∷ back → (front ≡ []) × (c ≡ x) × (back ≡ [])
alone c x [] back e = (refl, cc, cc)
alone c x (f ∷ []) back e = absurd (cc)
alone c x (f ∷ g ∷ front) back e = absurd (cc)

none : {X : Type 0} (x : X) (front back : List X) → [] ≡ front ++ x ∷ back → ⊥
none x [] back e = cc
none x (f ∷ front) back e = cc

-- ---- what two lists tell

told_append : (first second : List Call) → told (first ++ second) ≡ told first ++ told second
told_append first second = filter_map-append entry_told first second

times_append : (first second : List Call) → times_done (first ++ second) ≡ times_done first + times_done second
times_append first second = sum_by-append (λ (c : Call). cond (is_done c) 1 0) first second

-- how often the gate was told, for a driver that told it
was_told : (done : Bool) (k : ℕ) → k + 1 ≡ (if done then 1 else 0) → done ≡ true
was_told true k e = refl
was_told false k e = absurd (omega arith)

-- if the gate is told among the first calls, it was told before the second ones
told_first : (front rest : List Call) (before : ℕ) (b : DriverOf) → times_done (front ++ Done ∷ rest) + before ≡ times_before b → b.was_done ≡ true
told_first front rest before b once =
    let parts = times_append front (Done ∷ rest) in
    let one : times_done (Done ∷ rest) ≡ 1 + times_done rest = times_append (Done ∷ []) rest in
    was_told b.was_done (times_done front + times_done rest + before) (omega arith)

still_told : (a b : DriverOf) (calls : List Call) → times_done calls + times_before a ≡ times_before b → a.was_done ≡ true → b.was_done ≡ true
still_told a b calls once was = grind (arith, was_told)

-- ---- calls, and then more

module _ (a b c : DriverOf) (x y z : NodeOf) (first second : List Call) (f : AreCalls a b x y first) (s : AreCalls b c y z second) where
  told_on : z.log ≡ x.log ++ told (first ++ second)
  told_on = s.told_all ∙ (ap (λ (l : List Entry). l ++ told second) f.told_all
      ∙ (append_assoc x.log (told first) (told second) ∙ ap (λ (l : List Entry). x.log ++ l) (sym (told_append first second))))

  submitted_on : (index : ℕ) → a.next ≤ index → index < c.next → Contains (first ++ second) (MayIssue index true)
  submitted_on index low high = elim (cases_lt index b.next) [
    | inl early ↦ Contains-append_left first second (MayIssue index true) (f.submitted index low early)
    | inr late ↦ Contains-append_right first second (MayIssue index true) (s.submitted index late high)
  ]

  -- what was allowed before the second calls was allowed before all of them, or by the first
  earlier : (index : ℕ) (rest : List Call) → index < b.next → (index < a.next) ⊎ Contains (first ++ rest) (MayIssue index true)
  earlier index rest lt = elim (cases_lt index a.next) [
    | inl low ↦ inl low
    | inr high ↦ inr (Contains-append_left first rest (MayIssue index true) (f.submitted index high lt))
  ]

  allowed_on : AreAllowed a.next (first ++ second)
  allowed_on front back entry e = elim (split first second front back (Answered entry) e) [
    | inl here ↦ f.allowed front here.0 entry here.1
    | inr there ↦ subst (λ (l : List Call). (entry.serial < a.next) ⊎ Contains l (MayIssue entry.serial true)) (sym there.1)
        (elim (s.allowed there.0 back entry there.2) [
          | inl low ↦ earlier entry.serial there.0 low
          | inr among ↦ inr (Contains-append_right first there.0 (MayIssue entry.serial true) among)
        ])
  ]

  once_on : times_done (first ++ second) + times_before a ≡ times_before c
  once_on = omega (arith, times_append first second, f.once, s.once)

  last_on : EndWithDone (first ++ second)
  last_on front back e = elim (split first second front back Done e) [
    | inl here ↦
        let was = told_first front here.0 (times_before a) b (subst (λ (l : List Call). times_done l + times_before a ≡ times_before b) here.1 f.once) in
        let early : told here.0 ≡ [] = f.last front here.0 here.1 in
        let late : told second ≡ [] = s.quiet was in
        ap told here.2 ∙ (told_append here.0 second ∙ (ap (λ (l : List Entry). l ++ told second) early ∙ late))
    | inr there ↦ s.last there.0 back there.2
  ]

  quiet_on : a.was_done ≡ true → told (first ++ second) ≡ []
  quiet_on was = grind (arith, still_told, told_append)

  pub calls_on : AreCalls a c x z (first ++ second)
  calls_on = grind (arith, told_on, submitted_on, allowed_on, once_on, last_on, quiet_on)

-- ---- one call, or none

same_before : (a b : DriverOf) → b.was_done ≡ a.was_done → times_before a ≡ times_before b
same_before a b same = ap (λ (done : Bool). if done then 1 else 0) (sym same)

pub no_calls : (a b : DriverOf) (x y : NodeOf) → b.next ≡ a.next → b.was_done ≡ a.was_done → y.log ≡ x.log → AreCalls a b x y []
no_calls a b x y next done log = grind (arith, append-nil, none, same_before)

-- a question or a rest
pub one_call : (a b : DriverOf) (x y : NodeOf) (call : Call) → entry_told call ≡ None → is_done call ≡ false → b.next ≡ a.next → b.was_done ≡ a.was_done
    → y.log ≡ x.log → AreCalls a b x y (call ∷ [])
one_call a b x y call silent other next done log = record {
  told_all = log ∙ (sym (append-nil x.log) ∙ ap (λ (l : List Entry). x.log ++ l) (sym (told_none call silent)));
  submitted = λ index low high. absurd (omega arith);
  allowed = λ front back entry e. absurd (not_answered call entry silent ((alone call (Answered entry) front back e).1));
  once = omega (arith, not_done call other, same_before a b done);
  last = λ front back e. ap told ((alone call Done front back e).2);
  quiet = λ was. told_none call silent;
}
  where
    told_none : (c : Call) → entry_told c ≡ None → told (c ∷ []) ≡ []
    told_none (Answered entry) s = absurd (cc)
    told_none _ s = refl

    not_answered : (c : Call) (entry : Entry) → entry_told c ≡ None → c ≡ Answered entry → ⊥
    not_answered c entry s e = let some : entry_told c ≡ Some entry = ap entry_told e in cc

    not_done : (c : Call) → is_done c ≡ false → times_done (c ∷ []) ≡ 0
    not_done Done s = absurd (cc)
    not_done _ s = refl

-- an operation is submitted, as it was allowed
pub submit_call : (a b : DriverOf) (x y : NodeOf) → b.next ≡ a.next + 1 → b.was_done ≡ a.was_done → y.log ≡ x.log → AreCalls a b x y (MayIssue a.next true ∷ [])
submit_call a b x y next done log = grind (arith, append-nil, alone, same_before)

-- an operation is performed
pub answer_call : (a b : DriverOf) (x y : NodeOf) (entry : Entry) → b.next ≡ a.next → b.was_done ≡ a.was_done → (a.was_done ≡ true → ⊥) → entry.serial < a.next
    → y.log ≡ x.log ++ entry ∷ [] → AreCalls a b x y (Answered entry ∷ [])
answer_call a b x y entry next done undone low log = grind (arith, alone, same_before)

-- the gate is told that the whole script is answered
pub done_call : (a b : DriverOf) (x y : NodeOf) → b.next ≡ a.next → a.was_done ≡ false → b.was_done ≡ true → y.log ≡ x.log → AreCalls a b x y (Done ∷ [])
done_call a b x y next not_yet now log = record {
  told_all = log ∙ sym (append-nil x.log);
  submitted = λ index low high. absurd (omega arith);
  allowed = λ front back entry e. absurd (not_told entry ((alone Done (Answered entry) front back e).1));
  once = told_now a.was_done b.was_done not_yet now;
  last = λ front back e. ap told ((alone Done Done front back e).2);
  quiet = λ was. refl;
}
  where
    not_told : (entry : Entry) → Done ≡ Answered entry → ⊥
    not_told entry e = cc

    told_now : (was is : Bool) → was ≡ false → is ≡ true → 1 + (if was then 1 else 0) ≡ (if is then 1 else 0)
    told_now true is e f = absurd (cc)
    told_now false true e f = refl
    told_now false false e f = absurd (cc)

-- ---- what a gate has heard

module _ {G : Type 0} (hears : G → List Call → G → Type 0) (hears_on : (g h k : G) (calls more : List Call)
    → hears g calls h → hears h more k → hears g (calls ++ more) k) where
  pub heard_on : (g h k : G) (a b c : DriverOf) (x y z : NodeOf) (calls more : List Call) → HasHeard hears g h a b x y calls → HasHeard hears h k b c y z more
      → HasHeard hears g k a c x z (calls ++ more)
  heard_on g h k a b c x y z calls more first second = (hears_on g h k calls more first.0 second.0, calls_on a b c x y z calls more first.1 second.1)

-- ---- a whole run

pub calls_of : (script : List Op) (issuing : Issuing) (new : DriverOf) (x y : NodeOf) (calls : List Call) → x.log ≡ [] → IsDriven new y
    → AreCalls (opening_driver script issuing) new x y calls → AreCallsOf y calls
calls_of script issuing new x y calls empty driven are = grind arith

pub told_once : (script : List Op) (issuing : Issuing) (new : DriverOf) (x y : NodeOf) (calls : List Call) → new.was_done ≡ true
    → AreCalls (opening_driver script issuing) new x y calls → times_done calls ≡ 1
told_once script issuing new x y calls done are = grind arith
