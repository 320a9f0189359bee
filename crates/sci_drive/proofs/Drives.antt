-- What the calls of a worker make of a driver and its node.
use Rattle.std.proofs.Common.{◌≡◌, ◌≢◌, ◌≤◌, ◌<◌, ◌+◌, ◌-◌, ℕ, arith, true, false, Bool, List, [], ◌∷◌, ◌++◌, length, All, Option, Some, None, cond, ◌==◌}
use Rattle.std.proofs.Common.{refl, rules, sym, ap, subst, ◌∙◌, inl, inr}
use Rattle.std.proofs.lemmas.{Bool.{cases_eq, cases_lt, eq-eqb, ne_eqb}, List.{get_or_default, length_push}}
use Rattle.std.proofs.lemmas.Option.{slice_get_within}
use Rattle.std.proofs.lemmas.List.Edits.{get_or-remove_below, get_or-remove_above, length-remove}
use Rattle.std.proofs.lemmas.List.{Elements.{All-push, Contains-append_left, Contains-push}, Sums.{sum_by-append}}
use Rattle.std.specs.{Prelude.{slice_get, slice_index_or}, List.{Contains, remove}}
use Rattle.sci_words.specs.declared.operation.Op.{Op}
use Rattle.sci_history.specs.declared.entry.Entry.{Entry}
use Rattle.sci_core.specs.{Node.{NodeOf, pending_on}, Work.{IsIssued, IsLogged}, declared.pending.Pending.{Pending}}
use Rattle.sci_policy.specs.Worker.{HasSameWork}
use Rattle.sci_drive.specs.Script.{IsLogOf, IsNamedBy, IsWholeLogOf, times_answered}
use Rattle.sci_drive.specs.declared.driver.Issuing.{Issuing}
use Rattle.sci_drive.specs.Driving.{DriverOf, HasSubmittedNothing, IsAnsweredOrPending, IsAwaited, IsDriven, opening_driver}

-- ---- equations, options and counts

-- the left side of an equation
abbrev pub left_of : {A : Type 0} {x y : A} → x ≡ y → A
left_of {x = x} e = x

pub never_both : {A : Type 0} (o : Option A) (x : A) → o ≡ None → o ≡ Some x → ⊥
never_both None x e f = cc
never_both (Some y) x e f = cc

pub same_some : {A : Type 0} (o : Option A) (x y : A) → o ≡ Some x → o ≡ Some y → x ≡ y
same_some None x y e f = cc
same_some (Some z) x y e f = cc

times_more : (serial : ℕ) (log : List Entry) (e : Entry) → times_answered serial (log ++ e ∷ []) ≡ times_answered serial log + cond (e.serial == serial) 1 0
times_more serial log e = omega (arith, sum_by-append (λ (x : Entry). cond (x.serial == serial) 1 0) log (e ∷ []))

times_same : (serial : ℕ) (log : List Entry) (e : Entry) → e.serial ≡ serial → times_answered serial (log ++ e ∷ []) ≡ times_answered serial log + 1
times_same serial log e is = times_more serial log e ∙ ap (λ (b : Bool). times_answered serial log + cond b 1 0) (eq-eqb e.serial serial is)

times_other : (serial : ℕ) (log : List Entry) (e : Entry) → e.serial ≢ serial → times_answered serial (log ++ e ∷ []) ≡ times_answered serial log
times_other serial log e other =
    let more = times_more serial log e ∙ ap (λ (b : Bool). times_answered serial log + cond b 1 0) (ne_eqb e.serial serial other) in
    omega (arith, more)

-- ---- the first moment

pub opens : (script : List Op) (issuing : Issuing) (node : NodeOf) → HasSubmittedNothing node → IsDriven (opening_driver script issuing) node
opens script issuing node none = grind (arith, never_both)

-- ---- an operation is submitted

module _ (driver : DriverOf) (old new : NodeOf) (op : Op) (d : IsDriven driver old) (i : IsIssued old new op)
    (at : slice_get driver.script driver.next ≡ Some op) where
  abbrev after : DriverOf
  after = record driver { next = driver.next + 1; pending = driver.pending ++ op.line ∷ [] }

  times_stay : (serial : ℕ) → times_answered serial new.log ≡ times_answered serial old.log
  times_stay serial = ap (times_answered serial) i.log

  pending_here : pending_on new op.line ≡ Some (record { serial = driver.next; op = op })
  pending_here = subst (λ (n : ℕ). pending_on new op.line ≡ Some (record { serial = n; op = op })) d.issued i.pending

  answered_or_pending : (serial : ℕ) → IsAnsweredOrPending old serial → IsAnsweredOrPending new serial
  answered_or_pending serial (inl one) = inl (times_stay serial ∙ one)
  answered_or_pending serial (inr waits) = grind (arith, never_both)

  submitted_now : (serial : ℕ) → serial < driver.next + 1 → IsAnsweredOrPending new serial
  submitted_now serial lt = elim (cases_lt serial driver.next) [
    | inl low ↦ answered_or_pending serial (d.submitted serial low)
    | inr high ↦
        let same : serial ≡ driver.next = omega arith in
        inr (op, pending_here ∙ ap (λ (n : ℕ). Some (record { serial = n; op = op })) (sym same))
  ]

  awaited_now : (line : ℕ) (p : Pending) → pending_on new line ≡ Some p → IsAwaited after new line p
  awaited_now line p is = elim (cases_eq line op.line) [
    | inl here ↦
        let same : record { serial = driver.next; op = op } ≡ p =
        same_some (pending_on new line) (record { serial = driver.next; op = op }) p (ap (pending_on new) here ∙ pending_here) is in
        subst (λ (q : Pending). IsAwaited after new line q) same (record {
          on = sym here;
          named = at;
          submitted = omega arith;
          unanswered = times_stay driver.next ∙ d.later driver.next (omega arith);
          known = subst (Contains (driver.pending ++ op.line ∷ [])) (sym here) (Contains-push driver.pending op.line);
        })
    | inr other ↦
        let was = d.pending line p (sym (i.others line other) ∙ is) in
        let low = was.submitted in record {
          on = was.on;
          named = was.named;
          submitted = omega arith;
          unanswered = times_stay p.serial ∙ was.unanswered;
          known = Contains-append_left driver.pending (op.line ∷ []) line was.known;
        }
  ]

  pub submits : IsDriven (record driver { next = driver.next + 1; pending = driver.pending ++ op.line ∷ [] }) new
  submits = record {
    issued = i.issued ∙ ap (λ (n : ℕ). n + 1) d.issued;
    within = let some = slice_get_within driver.script driver.next op at in omega arith;
    named = subst (All (IsNamedBy driver.script)) (sym i.log) d.named;
    submitted = submitted_now;
    later = λ serial le. times_stay serial ∙ d.later serial (omega arith);
    pending = awaited_now;
    counted =
        let all : driver.next ≡ length old.log + length driver.pending = d.counted in
        let same : length new.log ≡ length old.log = ap (λ (l : List Entry). length l) i.log in
        omega (arith, length_push driver.pending op.line);
  }

-- ---- an operation is performed

-- what stood elsewhere in a list is still there when one element is taken out
still_there : (items : List ℕ) (place line d : ℕ) → place < length items → slice_index_or items place d ≢ line → Contains items line
    → Contains (remove items place) line
still_there items place line d within other there =
    let short = length-remove items place within in
    let lt = there.1 in
    elim (cases_lt there.0 place) [
      | inl low ↦ (there.0, omega arith, get_or-remove_below items place line there.0 low within ∙ there.2)
      | inr high ↦ elim (cases_eq there.0 place) [
        | inl same ↦ absurd (other (get_or_default items place d line within ∙ (ap (λ (k : ℕ). slice_index_or items k line) (sym same) ∙ there.2)))
        | inr apart ↦
            let above : place < there.0 = omega (arith, apart) in (
              there.0 - 1,
              omega arith,
              get_or-remove_above items place line (there.0 - 1) (omega arith) within
                  ∙ (ap (λ (k : ℕ). slice_index_or items k line) (omega arith) ∙ there.2),
            )
      ]
    ]

module _ (driver : DriverOf) (old new : NodeOf) (place line : ℕ) (entry : Entry) (d : IsDriven driver old) (i : IsLogged old new line entry)
    (within : place < length driver.pending) (here : slice_index_or driver.pending place line ≡ line) where
  was : IsAwaited driver old line (record { serial = entry.serial; op = entry.op })
  was = d.pending line (record { serial = entry.serial; op = entry.op }) i.pending

  same_times : (serial : ℕ) → entry.serial ≡ serial → times_answered serial new.log ≡ times_answered serial old.log + 1
  same_times serial is = ap (times_answered serial) i.log ∙ times_same serial old.log entry is

  other_times : (serial : ℕ) → entry.serial ≢ serial → times_answered serial new.log ≡ times_answered serial old.log
  other_times serial other = ap (times_answered serial) i.log ∙ times_other serial old.log entry other

  one_now : (serial : ℕ) → entry.serial ≡ serial → times_answered serial new.log ≡ 1
  one_now serial is = same_times serial is ∙ ap (λ (n : ℕ). n + 1) (ap (λ (s : ℕ). times_answered s old.log) (sym is) ∙ was.unanswered)

  -- an operation that is pending on another line has another serial
  other_serial : (line' : ℕ) (p : Pending) → line' ≢ line → pending_on old line' ≡ Some p → entry.serial ≢ p.serial
  other_serial line' p other is same = grind (arith, same_some, was)

  answered_or_pending' : (serial : ℕ) → entry.serial ≢ serial → IsAnsweredOrPending old serial → IsAnsweredOrPending new serial
  answered_or_pending' serial other (inl one) = inl (other_times serial other ∙ one)
  answered_or_pending' serial other (inr waits) = grind (arith, same_some)

  submitted_then : (serial : ℕ) → serial < driver.next → IsAnsweredOrPending new serial
  submitted_then serial lt = elim (cases_eq entry.serial serial) [
    | inl same ↦ inl (one_now serial same)
    | inr other ↦ answered_or_pending' serial other (d.submitted serial lt)
  ]

  awaited_then : (line' : ℕ) (p : Pending) → pending_on new line' ≡ Some p → IsAwaited (record driver { pending = remove driver.pending place }) new line' p
  awaited_then line' p is = elim (cases_eq line' line) [
    | inl same ↦ absurd (never_both (pending_on new line) p i.done (ap (pending_on new) (sym same) ∙ is))
    | inr other ↦
        let before = sym (i.others line' other) ∙ is in
        let its = d.pending line' p before in record {
          on = its.on;
          named = its.named;
          submitted = its.submitted;
          unanswered = other_times p.serial (other_serial line' p other before) ∙ its.unanswered;
          known = still_there driver.pending place line' line within (λ same. other (sym same ∙ here)) its.known;
        }
  ]

  later_then : (serial : ℕ) → driver.next ≤ serial → times_answered serial new.log ≡ 0
  later_then serial le =
      let low = was.submitted in
      let other : entry.serial ≢ serial = λ same. absurd (omega (arith, same)) in
      other_times serial other ∙ d.later serial le

  pub performs : IsDriven (record driver { pending = remove driver.pending place }) new
  performs = record {
    issued = i.issued ∙ d.issued;
    within = d.within;
    named = subst (All (IsNamedBy driver.script)) (sym i.log) (All-push (IsNamedBy driver.script) old.log entry d.named was.named);
    submitted = submitted_then;
    later = later_then;
    pending = awaited_then;
    counted =
        let all : driver.next ≡ length old.log + length driver.pending = d.counted in
        let longer : length new.log ≡ length old.log + 1 = ap (λ (l : List Entry). length l) i.log ∙ length_push old.log entry in
        let short = length-remove driver.pending place within in
        omega arith;
  }

-- ---- a turn

pub turns : (driver : DriverOf) (old new : NodeOf) → HasSameWork old new → IsDriven driver old → IsDriven driver new
turns driver old new work d =
    let on : (line : ℕ) → pending_on new line ≡ pending_on old line = λ line. ap (λ (l : List (Option Pending)). slice_index_or l line None) work.pending in
    let times : (serial : ℕ) → times_answered serial new.log ≡ times_answered serial old.log = λ serial. ap (times_answered serial) work.log in record {
      issued = work.issued ∙ d.issued;
      within = d.within;
      named = subst (All (IsNamedBy driver.script)) (sym work.log) d.named;
      submitted = λ serial lt. (elim (d.submitted serial lt) [ inl one ↦ inl (times serial ∙ one) | inr waits ↦ inr (waits.0, on waits.0.line ∙ waits.1) ]);
      later = λ serial le. times serial ∙ d.later serial le;
      pending = λ line p is. let was = d.pending line p (sym (on line) ∙ is) in record {
        on = was.on;
        named = was.named;
        submitted = was.submitted;
        unanswered = times p.serial ∙ was.unanswered;
        known = was.known;
      };
      counted = d.counted ∙ ap (λ (l : List Entry). length l + length driver.pending) (sym work.log);
    }

-- ---- the log

at_most_once : (driver : DriverOf) (node : NodeOf) → IsDriven driver node → (serial : ℕ) → times_answered serial node.log ≤ 1
at_most_once driver node d serial = elim (cases_lt serial driver.next) [
  | inl low ↦ elim (d.submitted serial low) [
    | inl one ↦ omega (arith, one)
    | inr waits ↦ let none = (d.pending waits.0.line (record { serial = serial; op = waits.0 }) waits.1).unanswered in omega (arith, none)
  ]
  | inr high ↦ let none = d.later serial high in omega (arith, none)
]

pub log_of : (driver : DriverOf) (node : NodeOf) → IsDriven driver node → IsLogOf driver.script node.log
log_of driver node d = record { named = d.named; once = at_most_once driver node d }

-- when everything was submitted and nothing is pending, each operation has its entry
pub whole_of : (driver : DriverOf) (node : NodeOf) → driver.next ≡ length driver.script → driver.pending ≡ [] → IsDriven driver node
    → IsWholeLogOf driver.script node.log
whole_of driver node all none d = record {
  named = d.named;
  each = λ serial lt. elim (d.submitted serial (omega (arith, all))) [
    | inl one ↦ one
    | inr waits ↦
        let known : Contains driver.pending waits.0.line = (d.pending waits.0.line (record { serial = serial; op = waits.0 }) waits.1).known in
        let empty : Contains [] waits.0.line = subst (λ (l : List ℕ). Contains l waits.0.line) none known in
        let lt' = empty.1 in absurd (omega arith)
  ];
}

-- ---- how the log grows

-- the log is longer than it was, or the same, and one entry comes: it is longer
pub grows : (first old new : List Entry) (e : Entry) (answered : Bool) → (answered ≡ true → length first < length old) → (answered ≡ false → old ≡ first)
    → new ≡ old ++ e ∷ [] → length first < length new
grows first old new e true longer same is = let long = length_push old e in let more = longer refl in omega (arith, ap length is)
grows first old new e false longer same is = let long = length_push old e in let equal = ap length (same refl) in omega (arith, ap length is)

-- ---- the gate is told

-- nothing of this depends on what the gate was told
pub tells : (driver : DriverOf) (node : NodeOf) → IsDriven driver node → IsDriven (record driver { was_done = true }) node
tells driver node d = record {
  issued = d.issued;
  within = d.within;
  named = d.named;
  submitted = d.submitted;
  later = d.later;
  pending = λ line p is. let was = d.pending line p is in search rules;
  counted = d.counted;
}
