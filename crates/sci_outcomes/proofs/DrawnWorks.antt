-- What each node does in a run whose turns are drawn.
use Rattle.std.proofs.Common.{◌≡◌, ◌≢◌, ◌<◌, ℕ, zero, suc, true, List, [], ◌∷◌, ◌++◌, append_assoc, length}
use Rattle.std.proofs.Common.{All, refl, sym, ap, subst, ◌∙◌, inl, inr, arith}
use Rattle.std.proofs.lemmas.{Bool.{cases_eq, cases_lt, eq-eqb}, List.{append-nil, get_or_past}}
use Rattle.std.specs.{List.{AllByRecursion}, Prelude.{Option, Some, slice_index_or}}
use Rattle.sci_history.proofs.Order.{filter_yes}
use Rattle.sci_words.specs.declared.{event.Event.{Event}}
use Rattle.sci_core.specs.Core.{node_at, node_of}
use Rattle.sci_policy.specs.{declared.progress.Progress.{Progress}, Deeds.{Deed, DoesBy, Issues, Performs, Turns}}
use Rattle.sci_text.specs.{Script.{ScriptValue, operations_of}, Schedule.{ScheduleValue}}
use Rattle.sci_drive.proofs.Keeping.{Keeps, keeps_itself, keeps_then, round_keeps}
use Rattle.sci_drive.specs.{declared.driver.Issuing.{Issuing}, Driving.{DriverOf, IsAnswered}}
use Rattle.sci_orders.specs.Witness.{is_seen}
use Rattle.sci_runs.specs.{Deeds.{AddsOwn, IsDeed, Standing, post_on, standing}, Turns.{next_node}}
use Rattle.sci_runs.specs.Played.{IsPlayed, IsRound, Moment, Played, course_at, driver_at, policy_at}
use Rattle.sci_outcomes.proofs.{NodeWorks.{IsDriven, driven, works_by}, TurnsAreQuiet.{other_works, turn_quiet, works, works-append}}
use Rattle.sci_words.specs.declared.event.Event.TheVariants as event

-- ---- deeds

-- an event of a node more
own_work : (n : ℕ) (e : Event) (old new : List Event) → node_of e ≡ n → is_seen e ≡ true → new ≡ old ++ e ∷ [] → works n new ≡ works n old ++ e ∷ []
own_work n e old new own seen is = grind (arith, works, filter_yes, eq-eqb, works-append)

other_work : (n : ℕ) (e : Event) (old new : List Event) → node_of e ≢ n → new ≡ old ++ e ∷ [] → works n new ≡ works n old
other_work n e old new apart is =
    ap (works n) is ∙ (works-append n old (e ∷ []) ∙ (ap (λ (es : List Event). works n old ++ es) (other_works n e [] apart) ∙ append-nil (works n old)))

then_works : (n : ℕ) (old mid new : List Event) (e : Event) (more : List Event) → works n mid ≡ works n old ++ e ∷ [] → works n new ≡ works n mid ++ more
    → works n new ≡ works n old ++ e ∷ more
then_works n old mid new e more one two =
    two ∙ (ap (λ (es : List Event). es ++ more) one ∙ append_assoc (works n old) (e ∷ []) more)

-- a turn adds no Issue and no Perform
turn_works : (n : ℕ) (s t : Standing) (deed : Deed) (progress : Progress) → deed ≡ Turns progress → IsDeed n deed s t
    → works n t.course.events ≡ works n s.course.events
turn_works n s t deed progress is does =
    let done = subst (λ (d : Deed). IsDeed n d s t) is does in
    let adds = (turn_quiet s.policy t.policy (post_on n s.course) (post_on n t.course) progress done.whole).adds s.course.events refl in
    let same : t.course.events ≡ s.course.events ++ adds.0 = let eq : Some t.course.events ≡ Some (s.course.events ++ adds.0) = adds.1 in cc in
    ap (works n) same ∙ (works-append n s.course.events adds.0
    ∙ (ap (λ (es : List Event). works n s.course.events ++ es) adds.2 ∙ append-nil (works n s.course.events)))

deeds_work : (n : ℕ) (deeds : List Deed) (s t : Standing) → DoesBy (IsDeed n) deeds s t
    → works n t.course.events ≡ works n s.course.events ++ works_by n deeds
deeds_work n [] s t does =
    ap (λ (x : Standing). works n x.course.events) (sym does) ∙ sym (append-nil (works n s.course.events))
deeds_work n (Issues op ∷ deeds) s t does =
    then_works n s.course.events does.0.course.events t.course.events (event.Issue n op) (works_by n deeds)
    (own_work n (event.Issue n op) s.course.events does.0.course.events refl refl does.1.more) (deeds_work n deeds does.0 t does.2)
deeds_work n (Performs line entry ∷ deeds) s t does =
    then_works n s.course.events does.0.course.events t.course.events (event.Perform n line) (works_by n deeds)
    (own_work n (event.Perform n line) s.course.events does.0.course.events refl refl does.1.more) (deeds_work n deeds does.0 t does.2)
deeds_work n (Turns progress ∷ deeds) s t does =
    deeds_work n deeds does.0 t does.2
    ∙ ap (λ (es : List Event). es ++ works_by n deeds) (turn_works n s does.0 (Turns progress) progress refl does.1)

-- deeds of one node are no events of another
adds_none : (n m : ℕ) (more : List Event) → m ≢ n → AllByRecursion (λ e. node_of e ≡ n) more → works m more ≡ []
adds_none n m [] apart own = refl
adds_none n m (e ∷ more) apart own =
    other_works m e more (λ is. apart (sym is ∙ own.0)) ∙ adds_none n m more apart own.1

others_stay : (n m : ℕ) (old new : List Event) → m ≢ n → AddsOwn n old new → works m new ≡ works m old
others_stay n m old new apart adds =
    ap (works m) adds.1 ∙ (works-append m old adds.0
    ∙ (ap (λ (es : List Event). works m old ++ es) (adds_none n m adds.0 apart adds.2) ∙ append-nil (works m old)))

other_deeds : (n m : ℕ) (deeds : List Deed) (s t : Standing) → m ≢ n → DoesBy (IsDeed n) deeds s t → works m t.course.events ≡ works m s.course.events
other_deeds n m [] s t apart does = ap (λ (x : Standing). works m x.course.events) (sym does)
other_deeds n m (Issues op ∷ deeds) s t apart does =
    other_deeds n m deeds does.0 t apart does.2
    ∙ other_work m (event.Issue n op) s.course.events does.0.course.events (λ is. apart (sym is)) does.1.more
other_deeds n m (Performs line entry ∷ deeds) s t apart does =
    other_deeds n m deeds does.0 t apart does.2
    ∙ other_work m (event.Perform n line) s.course.events does.0.course.events (λ is. apart (sym is)) does.1.more
other_deeds n m (Turns progress ∷ deeds) s t apart does =
    other_deeds n m deeds does.0 t apart does.2 ∙ others_stay n m s.course.events does.0.course.events apart does.1.so_far.own

-- ---- rounds

-- what a node has done between two moments
record HasDone (n : ℕ) (old new : Moment) : Type 0 where
  deeds : List Deed
  keeps : (d : DriverOf) → Keeps (driver_at old n d) (driver_at new n d) deeds
  made : works n new.events ≡ works n old.events ++ works_by n deeds

done_itself : (n : ℕ) (moment : Moment) → HasDone n moment moment
done_itself n moment = record { deeds = []; keeps = λ d. keeps_itself (driver_at moment n d); made = sym (append-nil (works n moment.events)) }

works_on : (n : ℕ) (deeds more : List Deed) → works_by n (deeds ++ more) ≡ works_by n deeds ++ works_by n more
works_on n [] more = refl
works_on n (Issues op ∷ deeds) more = ap (λ (es : List Event). event.Issue n op ∷ es) (works_on n deeds more)
works_on n (Performs line entry ∷ deeds) more = ap (λ (es : List Event). event.Perform n line ∷ es) (works_on n deeds more)
works_on n (Turns progress ∷ deeds) more = works_on n deeds more

done_then : (n : ℕ) (a b c : Moment) → HasDone n a b → HasDone n b c → HasDone n a c
done_then n a b c one two = record {
  deeds = one.deeds ++ two.deeds;
  keeps = λ d. keeps_then (driver_at a n d) (driver_at b n d) (driver_at c n d) one.deeds two.deeds (one.keeps d) (two.keeps d);
  made = two.made ∙ (ap (λ (es : List Event). es ++ works_by n two.deeds) one.made
      ∙ (append_assoc (works n a.events) (works_by n one.deeds) (works_by n two.deeds)
      ∙ ap (λ (es : List Event). works n a.events ++ es) (sym (works_on n one.deeds two.deeds))));
}

round_done : (n m : ℕ) (old new : Moment) → IsRound m old new → HasDone n old new
round_done n m old new round = elim (cases_eq m n) [
  | inl here ↦ subst (λ (k : ℕ). HasDone k old new) here (record {
    deeds = round.deeds;
    keeps = λ d. round_keeps _ round.deeds tt tt (driver_at old m d) (driver_at new m d) (node_at old.core m) (node_at new.core m) round.round (round.goes d);
    made = deeds_work m round.deeds (standing (policy_at old m) (course_at old)) (standing (policy_at new m) (course_at new)) round.does;
  })
  | inr apart ↦ record {
    deeds = [];
    keeps = λ d. subst (λ (x : DriverOf). Keeps (driver_at old n d) x []) (sym (round.drivers n d (λ is. apart (sym is)))) (keeps_itself (driver_at old n d));
    made = other_deeds m n round.deeds (standing (policy_at old m) (course_at old)) (standing (policy_at new m) (course_at new))
        (λ is. apart (sym is)) round.does
        ∙ sym (append-nil (works n old.events));
  }
]

played_done : (n nodes rounds : ℕ) (order later : _) (old new : Moment) → Played nodes rounds order old later new → HasDone n old new
played_done n nodes zero order later old new played = subst (HasDone n old) played.1 (done_itself n old)
played_done n nodes (suc rounds) order later old new played =
    done_then n old played.0 new (played_done n nodes rounds order played.1 old played.0 played.2)
    (round_done n (next_node nodes played.1) played.0 new played.5)

-- ---- the run

-- a driver that is answered, wherever it stands
answered_at : (drivers : List DriverOf) (n : ℕ) (d : DriverOf) → All IsAnswered drivers → IsAnswered d → IsAnswered (slice_index_or drivers n d)
answered_at drivers n d all own = grind (arith, cases_lt, get_or_past)

-- each node has gone through its operations
pub drawn_works : (script : ScriptValue) (issuing : Issuing) (seed : Option ℕ) (rounds n : ℕ) (schedule : ScheduleValue) → n < script.nodes
    → IsPlayed script issuing seed rounds true schedule
    → (deeds : List Deed) × IsDriven issuing (operations_of n script.operations) deeds × (works n schedule.events ≡ works_by n deeds)
drawn_works script issuing seed rounds n schedule lt played =
    let own = operations_of n script.operations in
    let done = played_done n script.nodes rounds _ played.order played.first played.last played.played in
    let d : DriverOf = record { script = own; issuing = issuing; next = length own; pending = []; was_done = true } in
    let first = played.begins.drivers n d lt in
    let answered = answered_at played.last.drivers n d (played.ends.0 refl) (refl, refl) in (
      done.deeds,
      driven issuing own done.deeds (driver_at played.first n d) (driver_at played.last n d) first (done.keeps d) answered,
      ap (works n) played.events ∙ (done.made ∙ ap (λ (es : List Event). works n es ++ works_by n done.deeds) played.begins.none),
    )
