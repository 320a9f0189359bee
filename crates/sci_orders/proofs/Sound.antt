-- What is seen of a schedule is possible for one memory, with the same entries and the same last contents.
use Rattle.std.proofs.Common.{◌≡◌, ℕ, zero, suc, ◌+◌, ◌&&◌, Bool, true, false, if◌then◌else◌, List, [], ◌∷◌, ◌++◌, map, replicate, Option, Some, None, refl}
use Rattle.std.proofs.Common.{arith}
use Rattle.std.proofs.Common.{sym, ap, subst, ◌∙◌}
use Rattle.std.proofs.lemmas.List.{get_or-replicate, length-replicate, FromFn.{fill_by_all}}
use Rattle.std.specs.{List.{range_with_len}, Prelude.{is_some}}
use Rattle.sci_words.specs.{Stamped.{zero_stamped}, declared.event.Event.{Event}}
use Rattle.sci_core.proofs.{ReachedLaws.{schedule_history}, WellFormed.WellFormedSteps.{reachable_next}}
use Rattle.sci_core.specs.{Core.{Core, opening, run_from, step, stepping}, Done.{done_from, made_by}, Node.{opening_node}, Reached.{IsReachable}}
use Rattle.sci_core.specs.{Sharing.{last_at}, Size.{Size, IsSize}}
use Rattle.sci_orders.proofs.Plains.{SeenAs, Stays, event_seen, hidden_stays, same_plain, step_is}
use Rattle.sci_orders.specs.Plain.{AreAllowed, Plain, Port, opening_plain, plain_done, plain_of, plain_run, port_of}
use Rattle.sci_orders.specs.Witness.{IsExplainedBy, is_seen, seen, seen_from}

-- what is seen of events, and the memory beside it
pub record Sound (core : Core) (events order : List Event) : Type 0 where
  pub allowed : AreAllowed (plain_of core) order
  pub done : done_from core events ≡ plain_done (plain_of core) order
  pub plain : plain_of (run_from core events) ≡ plain_run (plain_of core) order

sound_stays : (core : Core) (e : Event) (events order : List Event) → Stays core (step core e) (made_by core e) → Sound (step core e) events order
    → Sound core (e ∷ events) order
sound_stays core e events order stays rest = grind arith

sound_seen : (core new : Core) (e : Event) (events order : List Event) → stepping core e ≡ Some new → SeenAs core new e → Sound (step core e) events order
    → Sound core (e ∷ events) (e ∷ order)
sound_seen core new e events order steps as_ rest = grind (arith, step_is)

-- an event that is not enabled changes nothing
none_stays : (core : Core) (e : Event) → stepping core e ≡ None → Stays core (step core e) (made_by core e)
none_stays core e none = grind arith

event_sound : (core : Core) (e : Event) (events order : List Event) (b : Bool) (next : Option Core) → IsReachable core → is_seen e ≡ b → stepping core e ≡ next
    → Sound (step core e) events order → Sound core (e ∷ events) ((if b && is_some next then e ∷ [] else []) ++ order)
event_sound core e events order false next reached hidden is rest = sound_stays core e events order (hidden_stays core e reached hidden) rest
event_sound core e events order true None reached is_seen_ is rest = sound_stays core e events order (none_stays core e is) rest
event_sound core e events order true (Some new) reached is_seen_ is rest =
    sound_seen core new e events order is (event_seen core new e reached is_seen_ is) rest

pub events_sound : (core : Core) (events : List Event) → IsReachable core → Sound core events (seen_from core events)
events_sound core [] reached = record { allowed = tt; done = refl; plain = refl }
events_sound core (e ∷ events) reached =
    event_sound core e events (seen_from (step core e) events) (is_seen e) (stepping core e) reached refl refl
    (events_sound (step core e) events (reachable_next core e (stepping core e) reached refl))

-- ---- from the opening on

same_each : {X Y : Type 0} (f : X → Y) (g : ℕ → X) (y : Y) (a n : ℕ) → ((i : ℕ) → f (g i) ≡ y) → map f (map g (range_with_len a n)) ≡ replicate n y
same_each f g y a zero same = refl
same_each f g y a (suc n) same =
    ap (λ x. x ∷ map f (map g (range_with_len (a + 1) n))) (same a) ∙ ap (λ ys. y ∷ ys) (same_each f g y (a + 1) n same)

pub plain_opening : (size : Size) → IsSize size → plain_of (opening size) ≡ opening_plain size
plain_opening size sizes =
    let port : Port = record { pending = replicate size.lines None; issued = 0 } in
    same_plain (plain_of (opening size)) (opening_plain size) refl
    (same_each port_of (λ (n : ℕ). opening_node n size) port 0 size.nodes (λ i. refl))
    (sym (fill_by_all (last_at (opening size)) (replicate size.lines zero_stamped) size.lines zero_stamped (length-replicate size.lines zero_stamped)
    (λ k below. get_or-replicate size.lines k zero_stamped zero_stamped below ∙ sym (schedule_history size [] k sizes below))))

pub explained : (size : Size) (schedule : List Event) → IsSize size → IsExplainedBy size schedule (seen size schedule)
explained size schedule sizes =
    let reached : IsReachable (opening size) = record { size = sizes; moves = []; leads = refl } in
    let sound = events_sound (opening size) schedule reached in
    let first = plain_opening size sizes in
    record {
      allowed = subst (λ (p : Plain). AreAllowed p (seen size schedule)) first sound.allowed;
      done = sound.done ∙ ap (λ (p : Plain). plain_done p (seen size schedule)) first;
      last = ap (λ (p : Plain). p.contents) (sound.plain ∙ ap (λ (p : Plain). plain_run p (seen size schedule)) first);
    }
