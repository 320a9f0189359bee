-- What the calls of a worker make of a driver that issues in order, and its node.
use Rattle.std.proofs.Common.{true, ◌≡◌, ◌≤◌, ◌<◌, ℕ, arith, List, [], ◌∷◌, ◌++◌, length, take, All, Some, sym, ap, subst, ◌∙◌, inl, inr, rules}
use Rattle.std.proofs.lemmas.{Bool.{cases_eq}, List.{get_or_default, length_push, map-append, take_more}}
use Rattle.std.proofs.lemmas.{Option.{get_or_from_slice_get, slice_get_within}, List.Edits.{length-remove}}
use Rattle.std.proofs.lemmas.List.{Elements.{All-push}, Quantifiers.{all_pairs_push}}
use Rattle.std.specs.{Prelude.{slice_get, slice_index_or}, List.{Contains, remove}}
use Rattle.sci_words.specs.declared.operation.Op.{Op}
use Rattle.sci_history.specs.{declared.entry.Entry.{Entry}, Sequential.{IsInProgramOrder}}
use Rattle.sci_core.specs.{Node.{NodeOf, pending_on}, Work.{IsLogged}, declared.pending.Pending.{Pending}}
use Rattle.sci_policy.specs.Worker.{HasSameWork}
use Rattle.sci_drive.specs.declared.driver.Issuing.TheVariants.{InOrder}
use Rattle.sci_drive.specs.Driving.{DriverOf, HasSubmittedNothing, IsDriven, IsInOrder, opening_driver}
use Rattle.sci_drive.specs.Script.{IsFrontOf}
use Rattle.sci_drive.proofs.Drives.{never_both}

-- ---- the first moment

pub opens_in_order : (script : List Op) (node : NodeOf) → HasSubmittedNothing node → IsInOrder (opening_driver script InOrder) node
opens_in_order script node none = grind (arith, never_both)

-- ---- an operation is performed

-- the next operation of the script joins the log
front_more : (script : List Op) (log : List Entry) (e : Entry) → e.serial ≡ length log → slice_get script e.serial ≡ Some e.op → IsFrontOf script log
    → IsFrontOf script (log ++ e ∷ [])
front_more script log e next named front =
    let at : slice_get script (length log) ≡ Some e.op = ap (slice_get script) (sym next) ∙ named in
    let within = slice_get_within script (length log) e.op at in
    let here = get_or_from_slice_get script (length log) e.op e.op at in
    let more = take_more script (length log) e.op within in
    map-append (λ (x : Entry). x.op) log (e ∷ [])
    ∙ (ap (λ (l : List Op). l ++ e.op ∷ []) front
    ∙ (ap (λ (o : Op). take (length log) script ++ o ∷ []) (sym here) ∙ (sym more ∙ ap (λ (k : ℕ). take k script) (sym (length_push log e)))))

-- in a list of one, what stands at a place is all that it contains
only_one : (items : List ℕ) (place line other : ℕ) → length items ≤ 1 → place < length items → slice_index_or items place line ≡ line → Contains items other
    → other ≡ line
only_one items place line other one within here there = grind (arith, get_or_default)

module _ (driver : DriverOf) (old new : NodeOf) (place line : ℕ) (entry : Entry) (d : IsDriven driver old) (i : IsLogged old new line entry)
    (within : place < length driver.pending) (here : slice_index_or driver.pending place line ≡ line) (o : IsInOrder driver old) where
  -- nothing is pending now
  is_free : (other : ℕ) (p : Pending) → pending_on new other ≡ Some p → ⊥
  is_free other p is = elim (cases_eq other line) [
    | inl same ↦ never_both (pending_on new line) p i.done (ap (pending_on new) (sym same) ∙ is)
    | inr apart ↦ apart (only_one driver.pending place line other o.one within here (d.pending other p (sym (i.others other apart) ∙ is)).known)
  ]

  pub performs_in_order : IsInOrder (record driver { pending = remove driver.pending place }) new
  performs_in_order =
      let p : Pending = record { serial = entry.serial; op = entry.op } in
      let was = d.pending line p i.pending in
      let short = length-remove driver.pending place within in
      let few = o.one in record {
        issues = o.issues;
        one = omega arith;
        ordered = subst IsInProgramOrder (sym i.log) (all_pairs_push (λ x y. x.serial < y.serial) old.log entry o.ordered (o.behind line p i.pending));
        before = subst (All (λ e. e.serial < driver.next)) (sym i.log) (All-push (λ (e : Entry). e.serial < driver.next) old.log entry o.before was.submitted);
        behind = λ other q is. absurd (is_free other q is);
        next_one = λ other q is. absurd (is_free other q is);
        front = subst (IsFrontOf driver.script) (sym i.log) (front_more driver.script old.log entry (o.next_one line p i.pending) was.named o.front);
      }

-- ---- a turn

pub turns_in_order : (driver : DriverOf) (old new : NodeOf) → HasSameWork old new → IsInOrder driver old → IsInOrder driver new
turns_in_order driver old new work o = grind arith

-- ---- the gate is told

pub tells_in_order : (driver : DriverOf) (node : NodeOf) → IsInOrder driver node → IsInOrder (record driver { was_done = true }) node
tells_in_order driver node o = search rules
