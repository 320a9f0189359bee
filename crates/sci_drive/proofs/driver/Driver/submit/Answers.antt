use Rattle.std.proofs.Common.{arith, ◌≡◌, ◌+◌, ◌<◌, ◌≤◌, Option, ℕ, Bool, true, false, List, [], ◌∷◌, length, Some, None, refl, sym, subst, ◌∙◌}
use Rattle.std.proofs.lemmas.{Bool.{cases_lt, eqb-true, ltb-false, ltb-true}, List.Folds.{Any-from_list_any}}
use Rattle.std.proofs.lemmas.Option.{slice_get_past, slice_get_read}
use Rattle.std.specs.Prelude.{nat_eq, nat_lt, slice_get, Result, Ok, Err, IfErr, IsErr, IsSome}
use Rattle.std.specs.List.{Contains, list_any}
use Rattle.sci_words.specs.declared.operation.Op.{Op}
use Rattle.sci_core.specs.{Obstacles.{submit_fault}, Work.{IsIssued}}
use Rattle.sci_policy.specs.Deeds.{Issues}
use Rattle.sci_drive.specs.{Calls.{MayIssue}, Driving.{DriverOf, IsDriven}}
use Rattle.sci_drive.specs.Rounds.{AllSubmitted, LineIsTaken, NoRoom, NotAllowed, Refused, most_pending, next_op}
use Rattle.sci_drive.proofs.{Drives.{left_of, submits}, DriverRounds.{asks, holds_back, submits_one}}
use Rattle.sci_drive.proofs.driver.Driver.submit.Goals.{In-Some}
use Rattle.sci_drive.proofs.driver.Driver.submit.Goals as goal

-- the next operation of the script
next_is : (g : _) (c : In-Some g) → next_op (left_of c.self.view_is) ≡ Some c.in-Some.op.now
next_is g c = grind (arith, left_of, slice_get_read, ltb-true)

pub returns-in-Ok-clause-driven : goal.returns-in-Ok-clause-driven
returns-in-Ok-clause-driven g c =
    let driver : DriverOf = left_of c.self.view_is in
    let old = g.W.Worker.node c.args.worker.now in
    let new = g.W.Worker.node c.submit.new.self in
    let d : IsDriven driver old = rw c.self.view_is c.requires.driven in
    let issued : IsIssued old new c.in-Some.op.now = c.in-Ok.ensures.issued in
    let at = next_is g (goal.at.returns-in-Ok-clause-driven g c).In-Some in
    let made = submits driver old new c.in-Some.op.now d issued at in
    subst (λ (lines : List ℕ). IsDriven (record driver { next = driver.next + 1; pending = lines }) new) (sym c.push.ensures.items) made

-- what a slice says that it contains
is_contained : (line : ℕ) (lines : List ℕ) → list_any (λ y. nat_eq y line) lines ≡ true → Contains lines line
is_contained line lines is = let any = Any-from_list_any (λ (y : ℕ). nat_eq y line) lines is in
    subst (Contains lines) (eqb-true any.1 line any.4) (any.0, any.2, any.3)

not_below : (a b : ℕ) (below : Bool) → (a < b → below ≡ true) → below ≡ false → b ≤ a
not_below a b below is not = grind (arith, cases_lt)

past : (script : List Op) (next : ℕ) → false ≡ nat_lt next (length script) → slice_get script next ≡ None
past script next not = slice_get_past script next (ltb-false next (length script) (sym not))

pub returns-then-not-has_room-clause-submits : goal.returns-then-not-has_room-clause-submits
returns-then-not-has_room-clause-submits g c =
    let self = c.args.self.now in
    let made = holds_back g.G.Gate.hears g.met.G.Gate.hears_nothing c.args.gate.now self (g.W.Worker.node c.args.worker.now)
    (NoRoom (not_below (length self.pending) (most_pending self.issuing) c.has_room.result c.has_room.ensures.1 c.if-not-has_room.true) refl) in
    ([], [], made.0, made.1, g.met.W.Worker.does_nothing c.args.worker.now)

pub returns-in_default-clause-submits : goal.returns-in_default-clause-submits
returns-in_default-clause-submits g c =
    let driver : DriverOf = left_of c.self.view_is in
    let made = holds_back g.G.Gate.hears g.met.G.Gate.hears_nothing c.args.gate.now driver (g.W.Worker.node c.args.worker.now)
    (AllSubmitted (past driver.script driver.next c.in_default.ensures.lookup.0) refl) in
    rw (← c.self.view_is) ([], [], made.0, made.1, g.met.W.Worker.does_nothing c.args.worker.now)

pub returns-then-contains-clause-submits : goal.returns-then-contains-clause-submits
returns-then-contains-clause-submits g c =
    let driver : DriverOf = left_of c.self.view_is in
    let op = c.in-Some.op.now in
    let at = next_is g (goal.at.returns-then-contains-clause-submits g c).In-Some in
    let taken : Contains c.deref.result.now op.line = is_contained op.line c.deref.result.now (sym c.contains.ensures.value ∙ c.if-contains.true) in
    let there : Contains driver.pending op.line = subst (λ (lines : List ℕ). Contains lines op.line) c.deref.ensures.0 taken in
    let made = holds_back g.G.Gate.hears g.met.G.Gate.hears_nothing c.args.gate.now driver (g.W.Worker.node c.args.worker.now) (LineIsTaken op at there refl) in
    rw (← c.self.view_is) ([], [], made.0, made.1, g.met.W.Worker.does_nothing c.args.worker.now)

pub returns-then-not-may_issue-clause-submits : goal.returns-then-not-may_issue-clause-submits
returns-then-not-may_issue-clause-submits g c =
    let driver : DriverOf = left_of c.self.view_is in
    let node = g.W.Worker.node c.args.worker.now in
    let hears = g.G.Gate.hears in
    let gate = c.args.gate.now in
    let asked : hears gate (MayIssue driver.next false ∷ []) c.may_issue.new.self = rw (← c.if-not-may_issue.true) c.may_issue.ensures in
    let made = asks hears g.met.G.Gate.hears_nothing gate c.may_issue.new.self false driver node node asked refl (NotAllowed refl) in
    rw (← c.self.view_is) (MayIssue driver.next false ∷ [], [], made.0, made.1, g.met.W.Worker.does_nothing c.args.worker.now)

pub returns-in-Ok-clause-submits : goal.returns-in-Ok-clause-submits
returns-in-Ok-clause-submits g c =
    let driver : DriverOf = left_of c.self.view_is in
    let hears = g.G.Gate.hears in
    let asked : hears c.args.gate.now (MayIssue driver.next true ∷ []) c.may_issue.new.self = rw (← c.if-not-may_issue.false) c.may_issue.ensures in
    let at = next_is g (goal.at.returns-in-Ok-clause-submits g c).In-Some in
    let made = submits_one hears g.met.G.Gate.hears_nothing c.args.gate.now c.may_issue.new.self driver (g.W.Worker.node c.args.worker.now)
    (g.W.Worker.node c.submit.new.self) c.in-Some.op.now asked
    (subst (λ (d : DriverOf). length d.pending < most_pending d.issuing) (sym c.self.view_is)
    (c.has_room.ensures.0 (rw (← c.if-not-has_room.false) refl))) at c.in-Ok.ensures.issued in
    rw (← c.self.view_is, c.push.ensures.items)
    (MayIssue driver.next true ∷ [], Issues c.in-Some.op.now ∷ [], made.0, made.1, c.in-Ok.ensures.does)

not_ok : {A E : Type 0} (r : Result A E) → ((x : A) → r ≡ Ok x → ⊥) → IsErr r
not_ok (Ok x) isnt = absurd (isnt x refl)
not_ok (Err e) isnt = refl

-- a worker that gives a fault of its own refuses
has_fault : {A E : Type 0} (r : Result A E) (fault : Option E) → IsErr r → IfErr r (λ e. fault ≡ Some e) → IsSome fault
has_fault (Ok x) fault is told = absurd (cc)
has_fault (Err e) None is told = absurd (cc)
has_fault (Err e) (Some f) is told = refl

pub returns-in_default-submit-clause-submits : goal.returns-in_default-submit-clause-submits
returns-in_default-submit-clause-submits g c =
    let driver : DriverOf = left_of c.self.view_is in
    let old = g.W.Worker.node c.args.worker.now in
    let at = next_is g (goal.at.returns-in_default-submit-clause-submits g c).In-Some in
    let err = not_ok c.submit.result c.in_default-submit.not-Ok in
    let fault : IsSome (submit_fault old c.in-Some.op.now) = has_fault c.submit.result (submit_fault old c.in-Some.op.now) err c.submit.ensures.fault in
    let asked : g.G.Gate.hears c.args.gate.now (MayIssue driver.next true ∷ []) c.may_issue.new.self =
    rw (← c.if-not-may_issue.false) c.may_issue.ensures in
    let made = asks g.G.Gate.hears g.met.G.Gate.hears_nothing c.args.gate.now c.may_issue.new.self true driver old (g.W.Worker.node c.submit.new.self)
    asked (c.submit.ensures.same err) (Refused c.in-Some.op.now at fault refl) in
    rw (← c.self.view_is) (MayIssue driver.next true ∷ [], [], made.0, made.1, c.submit.ensures.idle err)
