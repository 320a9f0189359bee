-- Each order of a script leads to a position that is reached, and each such position is that of an order.
use Rattle.std.proofs.Common.{◌≡◌, ℕ, zero, suc, ◌+◌, ◌<◌, ◌==◌, ◌&&◌, nat_lt, not, Bool, true, false, if◌then◌else◌, List, [], ◌∷◌, ◌++◌, length, drop}
use Rattle.std.proofs.Common.{get_or, Option, Some, None, refl, sym, ap, subst, ◌∙◌, append_assoc, arith, inl, inr}
use Rattle.std.proofs.Math.Seq.{drop-cons}
use Rattle.std.proofs.lemmas.Bool.{and_parts, cases_lt, eq-eqb, eqb-true, lt-ltb, ltb-true, ne_eqb}
use Rattle.std.proofs.lemmas.List.{append-nil, append_cancel_left, length_push, length-drop, Sums.{fold-append}}
use Rattle.std.proofs.lemmas.Option.{get_or_from_slice_get, slice_get-get_or, slice_get_past}
use Rattle.std.specs.Prelude.{IsSome, count_by, is_none, option_to_list, slice_get, unwrap_or}
use Rattle.sci_words.specs.{declared.{event.Event.{Event}, operation.Op.{Op}}}
use Rattle.sci_history.specs.declared.entry.Entry.{Entry}
use Rattle.sci_core.{proofs.Basics.Options.{found, same_some}, specs.{Size.{Size}, declared.pending.Pending.{Pending}}}
use Rattle.sci_orders.proofs.{Changes.{rest_of, waiting_below, waiting_is}, Issuing.{MakesStep, IsFree, issue_goes, waiting_after}}
use Rattle.sci_orders.proofs.{ScriptOrders.{after-append, after_same, allowed_more, done_more, few-append, issues-append}, Performing.{perform_goes}}
use Rattle.sci_orders.proofs.{Places.{any_found, none_any}, Stands.{Stands, none_first, opening_stands, pending_of}, Turns.{both_tests, no_test, one_test}}
use Rattle.sci_orders.specs.{Orders.{AreFew, IsScriptOf, issues_at}, Ways.{LeadsTo, event_at}}
use Rattle.sci_orders.specs.Plain.{AreAllowed, Plain, can_issue, opening_plain, plain_done, plain_made, plain_run, plain_step, plain_stepping}
use Rattle.sci_orders.specs.Plain.{waits_at, with_issued, with_performed}
use Rattle.sci_orders.specs.Positions.{IsReachedIn, Operations, Position, answer_at, answers_of, blocks, is_blocked, is_waiting, may_issue_next, no_operation}
use Rattle.sci_orders.specs.Positions.{opening_position, operation_at, own_of, step_as, step_at, waiting_at, with_issued_at, with_performed_at}
use Rattle.sci_orders.specs.{Witness.{is_seen}, declared.standing.Answer.{Answer}}
use Rattle.sci_words.specs.declared.event.Event.TheVariants as event
use Rattle.sci_orders.specs.declared.standing.Answer.TheVariants as answer

-- ---- nothing blocks an operation

both : (a b : Bool) → a ≡ true → b ≡ true → (a && b) ≡ true
both a b is also = ap (λ (x : Bool). x && b) is ∙ also

false_unless : (b : Bool) → (b ≡ true → ⊥) → b ≡ false
false_unless true not_ = absurd (not_ refl)
false_unless false not_ = refl

pub not_true : (b : Bool) → not b ≡ true → b ≡ false
not_true true is = cc
not_true false is = refl

pub free_of : (operations : Operations) (p : Position) (n i : ℕ) → is_blocked (own_of operations n) (answers_of p n) i ≡ false
    → IsFree operations p n i
free_of operations p n i none j is on =
    let here = both (is_waiting (answer_at p n j)) ((operation_at operations n j).line == (operation_at operations n i).line)
    (ap is_waiting is) (eq-eqb (operation_at operations n j).line (operation_at operations n i).line on) in
    let any = any_found (blocks (own_of operations n) (answers_of p n) i) (length (answers_of p n)) j (waiting_below p n j is) here in
    let clash : true ≡ false = sym any ∙ none in
    cc

none_blocks : (operations : Operations) (p : Position) (n i : ℕ) → IsFree operations p n i
    → is_blocked (own_of operations n) (answers_of p n) i ≡ false
none_blocks operations p n i free = grind (arith, none_any, false_unless, and_parts, waiting_is, eqb-true)

-- the next operation of a node can be issued if none waits on its line, and few enough wait
pub may_if : (operations : Operations) (window : ℕ) (p : Position) (n : ℕ) → IsFree operations p n (length (answers_of p n)) → waiting_at p n < window
    → may_issue_next (own_of operations n) (answers_of p n) window (length (answers_of p n)) ≡ true
may_if operations window p n free few = grind (arith, eq-eqb, none_blocks, lt-ltb)

-- ---- a step of a position is an event of the memory

pub record Steps (size : Size) (operations : Operations) (window : ℕ) (plain : Plain) (done : List Entry) (p q : Position) (e : Event) : Type 0 where
  pub goes : MakesStep size operations plain done p q e
  pub few : AreFew window (waiting_at p) (e ∷ [])

-- of an operation that isn't issued the event is its Issue, and else its Perform
issue_at : (operations : Operations) (p : Position) (n i : ℕ) → (length (answers_of p n) == i) ≡ true
    → event.Issue n (operation_at operations n (length (answers_of p n))) ≡ event_at operations p n i
issue_at operations p n i is = grind (arith, eqb-true)

perform_at : (operations : Operations) (p : Position) (n i : ℕ) → i < length (answers_of p n)
    → event.Perform n (operation_at operations n i).line ≡ event_at operations p n i
perform_at operations p n i below = grind (arith, ne_eqb)

module _ (size : Size) (operations : Operations) (window : ℕ) (plain : Plain) (done : List Entry) (p q : Position) (n i : ℕ)
    (stands : Stands size operations plain done p) (known : IsScriptOf size operations) (below : i < length (own_of operations n)) where
  issue_steps : (may : Bool) → may_issue_next (own_of operations n) (answers_of p n) window i ≡ may → (if may then Some (with_issued_at p n) else None) ≡ Some q
      → Steps size operations window plain done p q (event_at operations p n i)
  issue_steps false may is = cc
  issue_steps true may is =
      let free_ = not (is_blocked (own_of operations n) (answers_of p n) i) in
      let parts = and_parts (length (answers_of p n) == i) (free_ && nat_lt (waiting_at p n) window) may in
      let more = and_parts free_ (nat_lt (waiting_at p n) window) parts.1 in
      let next : length (answers_of p n) ≡ i = eqb-true (length (answers_of p n)) i parts.0 in
      let free = free_of operations p n i (not_true (is_blocked (own_of operations n) (answers_of p n) i) more.0) in
      subst (Steps size operations window plain done p q) (issue_at operations p n i parts.0)
      (subst (λ (r : Position). Steps size operations window plain done p r (event.Issue n (operation_at operations n (length (answers_of p n)))))
      (same_some (with_issued_at p n) q is) (record {
        goes = issue_goes size operations plain done p n stands known (subst (λ (k : ℕ). k < length (own_of operations n)) (sym next) below)
            (subst (IsFree operations p n) (sym next) free);
        few = (ltb-true (waiting_at p n) window more.1, tt);
      }))

  as_steps : (o : Option Answer) → slice_get (answers_of p n) i ≡ o → step_as operations window p n i o ≡ Some q
      → Steps size operations window plain done p q (event_at operations p n i)
  as_steps None is step = issue_steps (may_issue_next (own_of operations n) (answers_of p n) window i) refl step
  as_steps (Some answer.Waiting) is step =
      let waits = get_or_from_slice_get (answers_of p n) i answer.Waiting answer.Stored is in
      subst (Steps size operations window plain done p q) (perform_at operations p n i (waiting_below p n i waits))
      (subst (λ (r : Position). Steps size operations window plain done p r (event.Perform n (operation_at operations n i).line))
      (same_some (with_performed_at (operation_at operations n i) p n i) q step) (record {
        goes = perform_goes size operations plain done p n i stands known waits;
        few = tt;
      }))
  as_steps (Some answer.Stored) is step = cc
  as_steps (Some (answer.Got w)) is step = cc

  pub position_steps : step_at operations window p n i ≡ Some q → Steps size operations window plain done p q (event_at operations p n i)
  unfolding step_at
  position_steps step = as_steps (slice_get (answers_of p n) i) refl step

-- ---- each position that is reached is that of an order

pub record IsOrderFor (size : Size) (operations : Operations) (window count : ℕ) (p : Position) (order : List Event) : Type 0 where
  pub issued : (n : ℕ) → issues_at n order ++ rest_of operations p n ≡ own_of operations n
  pub few : AreFew window (λ n. 0) order
  pub waits : (n : ℕ) → waiting_after order (λ m. 0) n ≡ waiting_at p n
  pub long : length order ≡ count
  pub allowed : AreAllowed (opening_plain size) order
  pub stands : Stands size operations (plain_run (opening_plain size) order) (plain_done (opening_plain size) order) p

-- an order has few waiting if as many wait as in another
few_same : (window : ℕ) (e : Event) (f g : ℕ → ℕ) → ((n : ℕ) → f n ≡ g n) → AreFew window g (e ∷ []) → AreFew window f (e ∷ [])
few_same window (event.Issue n op) f g same few = (subst (λ (k : ℕ). k < window) (sym (same n)) few.0, tt)
few_same window (event.Perform n line) f g same few = tt
few_same window (event.Ask n line kind) f g same few = tt
few_same window (event.Serve from n) f g same few = tt
few_same window (event.Refuse from n) f g same few = tt
few_same window (event.Reply n) f g same few = tt
few_same window (event.Accept from n) f g same few = tt

pub opening_order : (size : Size) (operations : Operations) (window : ℕ) → IsScriptOf size operations
    → IsOrderFor size operations window 0 (opening_position size.lines operations) []
opening_order size operations window known = record {
  issued = λ n. ap (λ (as_ : List Answer). drop (length as_) (own_of operations n)) (none_first size.lines operations n);
  few = tt;
  waits = λ n. sym (ap (λ (as_ : List Answer). count_by is_waiting as_) (none_first size.lines operations n));
  long = refl;
  allowed = tt;
  stands = opening_stands size operations known;
}

pub order_more : (size : Size) (operations : Operations) (window count : ℕ) (q p : Position) (order : List Event) (n i : ℕ) → IsScriptOf size operations
    → IsOrderFor size operations window count q order → i < length (own_of operations n) → step_at operations window q n i ≡ Some p
    → IsOrderFor size operations window (suc count) p (order ++ event_at operations q n i ∷ [])
order_more size operations window count q p order n i known before below step =
    let first = opening_plain size in
    let plain = plain_run first order in
    let s = position_steps size operations window plain (plain_done first order) q p n i before.stands known below step in
    let e = event_at operations q n i in
    let to : plain_run first (order ++ e ∷ []) ≡ s.goes.new =
    fold-append plain_step first order (e ∷ []) ∙ ap (λ (o : Option Plain). unwrap_or o plain) s.goes.steps in
    let waiting = waiting_after order (λ m. 0) in
    record {
      issued = λ m. ap (λ (ops : List Op). ops ++ rest_of operations p m) (issues-append m order e)
          ∙ (append_assoc (issues_at m order) (issues_at m (e ∷ [])) (rest_of operations p m)
          ∙ (ap (λ (ops : List Op). issues_at m order ++ ops) (sym (s.goes.rest m)) ∙ before.issued m));
      few = few-append window (λ m. 0) order e before.few (few_same window e waiting (waiting_at q) before.waits s.few);
      waits = λ m. ap (λ (f : ℕ → ℕ). f m) (after-append (λ m. 0) order e)
          ∙ (after_same e waiting (waiting_at q) before.waits m ∙ sym (s.goes.waits m));
      long = length_push order e ∙ (let before_ = before.long in let sum : length order + 1 ≡ suc count = omega arith in sum);
      allowed = allowed_more first order e before.allowed (subst IsSome (sym s.goes.steps) refl);
      stands = subst (λ (x : Plain). Stands size operations x (plain_done first (order ++ e ∷ [])) p) (sym to)
          (subst (λ (es : List Entry). Stands size operations s.goes.new es p) (sym (done_more first order e)) s.goes.stands);
    }

pub order_for : (size : Size) (operations : Operations) (window count : ℕ) (p : Position) → IsScriptOf size operations
    → IsReachedIn size.lines operations window count p → (order : List Event) × IsOrderFor size operations window count p order
order_for size operations window zero p known is =
    subst (λ (q : Position). (order : List Event) × IsOrderFor size operations window zero q order) (sym is)
    ([], opening_order size operations window known)
order_for size operations window (suc count) p known (q, reached, s) =
    let before = order_for size operations window count q known reached in
    (before.0 ++ event_at operations q s.node s.place ∷ [], order_more size operations window count q p before.0 s.node s.place known before.1 s.below s.step)

-- an order goes on with the events of a way
pub order_leads : (size : Size) (operations : Operations) (window count : ℕ) (q p : Position) (before order : List Event) → IsScriptOf size operations
    → IsOrderFor size operations window count q before → LeadsTo operations window q order p
    → IsOrderFor size operations window (count + length order) p (before ++ order)
order_leads size operations window count q p before [] known is leads =
    subst (λ (r : Position). IsOrderFor size operations window (count + 0) r (before ++ [])) leads
    (subst (λ (es : List Event). IsOrderFor size operations window (count + 0) q es) (sym (append-nil before))
    (subst (λ (k : ℕ). IsOrderFor size operations window k q before) (let same : count ≡ count + 0 = omega arith in same) is))
order_leads size operations window count q p before (e ∷ order) known is (r, step, leads) =
    let more = order_more size operations window count q r before step.taken.node step.taken.place known is step.taken.below step.taken.step in
    let here = subst (λ (f : Event). IsOrderFor size operations window (suc count) r (before ++ f ∷ [])) (sym step.is) more in
    let all = order_leads size operations window (suc count) r p (before ++ e ∷ []) order known here leads in
    subst (λ (k : ℕ). IsOrderFor size operations window k p (before ++ e ∷ order)) (
    let same : suc count + length order ≡ count + length (e ∷ order) = omega arith in same)
    (subst (λ (es : List Event). IsOrderFor size operations window (suc count + length order) p es) (append_assoc before (e ∷ []) order) all)

-- ---- an event of an order is a step of a position

none_there : (o : Option Pending) → is_none o ≡ true → o ≡ None
none_there None is = refl
none_there (Some x) is = cc

-- no operation waits where the memory lets one be issued
free_line : (plain : Plain) (n : ℕ) (op : Op) → can_issue plain n op ≡ true → waits_at plain n op.line ≡ None
free_line plain n op may = grind (arith, and_parts, none_there)

issue_tests : (plain : Plain) (n : ℕ) (op : Op) → IsSome (plain_stepping plain (event.Issue n op)) → can_issue plain n op ≡ true
unfolding plain_stepping
issue_tests plain n op some = (both_tests (nat_lt n plain.size.nodes) (can_issue plain n op) (with_issued plain n op) some).1

perform_tests : (plain : Plain) (n line : ℕ) → IsSome (plain_stepping plain (event.Perform n line)) → IsSome (waits_at plain n line)
unfolding plain_stepping
perform_tests plain n line some = (one_test (nat_lt n plain.size.nodes) (with_performed plain n line) (waits_at plain n line) some).1

no_event : {Y : Type 0} (plain : Plain) (e : Event) → is_seen e ≡ false → IsSome (plain_stepping plain e) → Y
unfolding plain_stepping
no_event plain (event.Issue n op) hidden some = cc
no_event plain (event.Perform n line) hidden some = cc
no_event plain (event.Ask n line kind) hidden some = no_test (nat_lt n plain.size.nodes) None refl some
no_event plain (event.Serve from n) hidden some = no_test (nat_lt n plain.size.nodes) None refl some
no_event plain (event.Refuse from n) hidden some = no_test (nat_lt n plain.size.nodes) None refl some
no_event plain (event.Reply n) hidden some = no_test (nat_lt n plain.size.nodes) None refl some
no_event plain (event.Accept from n) hidden some = no_test (nat_lt n plain.size.nodes) None refl some

-- the first operation that isn't issued is the next one
pub record IsNextOp (operations : Operations) (p : Position) (n : ℕ) (op : Op) : Type 0 where
  pub below : length (answers_of p n) < length (own_of operations n)
  pub is : operation_at operations n (length (answers_of p n)) ≡ op

next_op : (operations : Operations) (p : Position) (n : ℕ) (op : Op) (rest : List Op) → rest_of operations p n ≡ op ∷ rest → IsNextOp operations p n op
next_op operations p n op rest is = elim (cases_lt (length (answers_of p n)) (length (own_of operations n))) [
  | inl lt ↦
      let whole : get_or (own_of operations n) (length (answers_of p n)) no_operation ∷ drop (suc (length (answers_of p n))) (own_of operations n) ≡ op ∷ rest =
      sym (drop-cons (own_of operations n) (length (answers_of p n)) no_operation lt) ∙ is in
      record { below = lt; is = cc }
  | inr past ↦
      let long = length-drop (length (answers_of p n)) (own_of operations n) in
      let same : length (rest_of operations p n) ≡ length (op ∷ rest) = ap (λ (ops : List Op). length ops) is in
      absurd (omega arith)
]

pub record Follows (size : Size) (operations : Operations) (window : ℕ) (plain : Plain) (done : List Entry) (count : ℕ) (order : List Event) : Type 0 where
  pub last : Position
  pub reached : IsReachedIn size.lines operations window (count + length order) last
  pub stands : Stands size operations (plain_run plain order) (done ++ plain_done plain order) last

follows_more : (size : Size) (operations : Operations) (window : ℕ) (plain mid : Plain) (done : List Entry) (count : ℕ) (e : Event) (order : List Event)
    → plain_step plain e ≡ mid → Follows size operations window mid (done ++ option_to_list (plain_made plain e)) (suc count) order
    → Follows size operations window plain done count (e ∷ order)
follows_more size operations window plain mid done count e order to rest = grind (arith, append_assoc)

-- the steps of a position that go with an event
pub record StepFor (size : Size) (operations : Operations) (window : ℕ) (plain : Plain) (done : List Entry) (p : Position) (e : Event) : Type 0 where
  pub position : Position
  pub node : ℕ
  pub place : ℕ
  pub below : place < length (own_of operations node)
  pub step : step_at operations window p node place ≡ Some position
  pub goes : MakesStep size operations plain done p position e

module _ (size : Size) (operations : Operations) (window : ℕ) (plain : Plain) (done : List Entry) (p : Position)
    (stands : Stands size operations plain done p) (known : IsScriptOf size operations) where
  step_issues : (n : ℕ) → length (answers_of p n) < length (own_of operations n) → IsFree operations p n (length (answers_of p n)) → waiting_at p n < window
      → step_at operations window p n (length (answers_of p n)) ≡ Some (with_issued_at p n)
  unfolding step_at
  step_issues n below free few = grind (arith, may_if, slice_get_past)

  step_performs : (n i : ℕ) → answer_at p n i ≡ answer.Waiting
      → step_at operations window p n i ≡ Some (with_performed_at (operation_at operations n i) p n i)
  unfolding step_at
  step_performs n i waits =
      ap (step_as operations window p n i) (slice_get-get_or (answers_of p n) i answer.Stored (waiting_below p n i waits) ∙ ap Some waits)

  issue_for : (n : ℕ) (op : Op) (rest : List Op) → IsSome (plain_stepping plain (event.Issue n op)) → rest_of operations p n ≡ op ∷ rest
      → waiting_at p n < window → StepFor size operations window plain done p (event.Issue n op)
  issue_for n op rest some is few =
      let next = next_op operations p n op rest is in
      let none = free_line plain n op (issue_tests plain n op some) in
      let free : IsFree operations p n (length (answers_of p n)) = λ j waits on. (
      let clash : None ≡ Some (pending_of operations n j) =
      sym none ∙ (ap (λ (o : Op). waits_at plain n o.line) (sym next.is) ∙ (ap (waits_at plain n) (sym on) ∙ stands.held n j waits)) in
      cc) in
      record {
        position = with_issued_at p n;
        node = n;
        place = length (answers_of p n);
        below = next.below;
        step = step_issues n next.below free few;
        goes = subst (λ (o : Op). MakesStep size operations plain done p (with_issued_at p n) (event.Issue n o)) next.is
            (issue_goes size operations plain done p n stands known next.below free);
      }

  perform_for : (n line : ℕ) → IsSome (plain_stepping plain (event.Perform n line)) → StepFor size operations window plain done p (event.Perform n line)
  perform_for n line some =
      let pending = found (waits_at plain n line) (perform_tests plain n line some) in
      let from = stands.waits n line pending.0 pending.1 in
      let i = from.0 in
      record {
        position = with_performed_at (operation_at operations n i) p n i;
        node = n;
        place = i;
        below = (let low = waiting_below p n i from.1 in let few = stands.fits.issued n in omega arith);
        step = step_performs n i from.1;
        goes = subst (λ (k : ℕ). MakesStep size operations plain done p (with_performed_at (operation_at operations n i) p n i) (event.Perform n k)) from.2
            (perform_goes size operations plain done p n i stands known from.1);
      }

-- what follows an event, of whatever state it begins with
abbrev FollowsAll : Size → Operations → ℕ → List Event → Type 0
FollowsAll size operations window order =
    (plain : Plain) (done : List Entry) (p : Position) (count : ℕ) (waiting : ℕ → ℕ) → Stands size operations plain done p → AreAllowed plain order
    → ((n : ℕ) → issues_at n order ≡ rest_of operations p n) → AreFew window waiting order → ((n : ℕ) → waiting n ≡ waiting_at p n)
    → IsReachedIn size.lines operations window count p → Follows size operations window plain done count order

go_on : (size : Size) (operations : Operations) (window : ℕ) (e : Event) (order : List Event) (plain : Plain) (done : List Entry) (p : Position) (count : ℕ)
    (waiting : ℕ → ℕ) → FollowsAll size operations window order → StepFor size operations window plain done p e → AreAllowed (plain_step plain e) order
    → ((n : ℕ) → issues_at n (e ∷ []) ++ issues_at n order ≡ rest_of operations p n) → AreFew window (waiting_after (e ∷ []) waiting) order
    → ((n : ℕ) → waiting n ≡ waiting_at p n) → IsReachedIn size.lines operations window count p → Follows size operations window plain done count (e ∷ order)
go_on size operations window e order plain done p count waiting rest s allowed issued few same reached =
    let to : plain_step plain e ≡ s.goes.new = ap (λ (o : Option Plain). unwrap_or o plain) s.goes.steps in
    follows_more size operations window plain s.goes.new done count e order to
    (rest s.goes.new (done ++ option_to_list (plain_made plain e)) s.position (suc count) (waiting_after (e ∷ []) waiting) s.goes.stands
    (subst (λ (x : Plain). AreAllowed x order) to allowed)
    (λ m. append_cancel_left (issues_at m (e ∷ [])) (issues_at m order) (rest_of operations s.position m) (issued m ∙ s.goes.rest m))
    few (λ m. after_same e waiting (waiting_at p) same m ∙ sym (s.goes.waits m))
    (p, reached, record { node = s.node; place = s.place; below = s.below; step = s.step }))

issue_split : (op : Op) (ops : List Op) (b : Bool) → (if b then op ∷ [] else []) ++ ops ≡ (if b then op ∷ ops else ops)
issue_split op ops true = refl
issue_split op ops false = refl

pub follows : (size : Size) (operations : Operations) (window : ℕ) (order : List Event) → IsScriptOf size operations
    → FollowsAll size operations window order
follows size operations window [] known plain done p count waiting stands allowed issued few same reached = record {
  last = p;
  reached = (let none : count ≡ count + 0 = omega arith in subst (λ (k : ℕ). IsReachedIn size.lines operations window k p) none reached);
  stands = subst (λ (es : List Entry). Stands size operations plain es p) (sym (append-nil done)) stands;
}
follows size operations window (event.Issue n op ∷ order) known plain done p count waiting stands allowed issued few same reached =
    let mine : issues_at n (event.Issue n op ∷ order) ≡ op ∷ issues_at n order =
    ap (λ (b : Bool). if b then op ∷ issues_at n order else issues_at n order) (eq-eqb n n refl) in
    let s = issue_for size operations window plain done p stands known n op (issues_at n order) allowed.0 (sym (issued n) ∙ mine)
    (subst (λ (k : ℕ). k < window) (same n) few.0) in
    go_on size operations window (event.Issue n op) order plain done p count waiting (follows size operations window order known) s allowed.1
    (λ m. issue_split op (issues_at m order) (n == m) ∙ issued m) few.1 same reached
follows size operations window (event.Perform n line ∷ order) known plain done p count waiting stands allowed issued few same reached =
    go_on size operations window (event.Perform n line) order plain done p count waiting (follows size operations window order known)
    (perform_for size operations window plain done p stands known n line allowed.0) allowed.1 issued few same reached
follows size operations window (event.Ask n line kind ∷ order) known plain done p count waiting stands allowed issued few same reached =
    no_event plain (event.Ask n line kind) refl allowed.0
follows size operations window (event.Serve from n ∷ order) known plain done p count waiting stands allowed issued few same reached =
    no_event plain (event.Serve from n) refl allowed.0
follows size operations window (event.Refuse from n ∷ order) known plain done p count waiting stands allowed issued few same reached =
    no_event plain (event.Refuse from n) refl allowed.0
follows size operations window (event.Reply n ∷ order) known plain done p count waiting stands allowed issued few same reached =
    no_event plain (event.Reply n) refl allowed.0
follows size operations window (event.Accept from n ∷ order) known plain done p count waiting stands allowed issued few same reached =
    no_event plain (event.Accept from n) refl allowed.0
