-- What each node does in a run by threads.
use Rattle.std.proofs.Common.{◌≡◌, ◌<◌, ℕ, Bool, true, false, List, [], ◌∷◌, ◌++◌, append_assoc, refl, sym, ap}
use Rattle.std.proofs.Common.{if◌then◌else◌, subst, ◌∙◌}
use Rattle.std.proofs.lemmas.List.{append-nil, Elements.{filter-append}}
use Rattle.std.specs.{List.{filter}, Prelude.{IfSome, Option, Some, None, option_map}}
use Rattle.sci_words.specs.declared.{event.Event.{Event}, operation.{Op.{Op}, Reply.{Reply}}}
use Rattle.sci_history.specs.declared.entry.Entry.{Entry}
use Rattle.sci_cache.specs.Cache.{CacheOf}
use Rattle.sci_core.proofs.Basics.Options.{same_some}
use Rattle.sci_core.specs.Core.{Core, node_of}
use Rattle.sci_core.specs.Node.{NodeOf, may_issue, node_issued, pending_on, performed_by, performing_pending}
use Rattle.sci_core.specs.declared.pending.Pending.{Pending}
use Rattle.sci_lanes.specs.{Shown.{me_of}, Telling.{IsMade}}
use Rattle.sci_policy.specs.Deeds.{Deed, DoesBy, Issues, Performs, Turns}
use Rattle.sci_drive.proofs.Keeping.{Keeps, keeps_itself, keeps_then, rounds_keep}
use Rattle.sci_drive.specs.{declared.driver.Issuing.{Issuing}, Driving.{DriverOf}}
use Rattle.sci_orders.specs.Witness.{is_seen}
use Rattle.sci_station.proofs.OwnEvents.{own_added, own_known}
use Rattle.sci_station.specs.{Deeds.{IsDeed}, Posts.{post_of}, Station.{StationOf, node_in, schedule_in}}
use Rattle.sci_threads.specs.Slices.{AreDrivenOpenly, AreDrivenSlices, hears_openly}
use Rattle.sci_turn.specs.Moves.{own_of}
use Rattle.sci_outcomes.proofs.{NodeWorks.{IsDriven, driven, works_by}, TurnsAreQuiet.{turn_quiet, works, works-append}}
use Rattle.sci_words.specs.declared.event.Event.TheVariants as event

-- ---- slices

slices_keep : (slices : List ℕ) (had has : Bool) (deeds : List Deed) (g h : Unit {0}) (a b : DriverOf) (x y : NodeOf)
    → AreDrivenSlices hears_openly slices had has deeds g h a b x y → Keeps a b deeds
slices_keep [] had has deeds g h a b x y go = subst (λ (d : DriverOf). Keeps a d deeds) go.3 (subst (Keeps a a) (sym go.1) (keeps_itself a))
slices_keep (turns ∷ slices) had has deeds g h a b x y go =
    let earlier = slices_keep slices had false go.4 g go.0 a go.1 x go.2 go.7 in
    let last = rounds_keep hears_openly turns has go.3 go.5 go.0 h go.1 b go.2 y go.8 in
    subst (Keeps a b) (sym go.6) (keeps_then a go.1 b go.4 go.5 earlier last)

-- ---- a node keeps its number

issued_me : (node next : NodeOf) (op : Op) (b : Bool) → (if b then Some (node_issued node op) else None) ≡ Some next → next.cache.me ≡ node.cache.me
issued_me node next op true is = ap (λ (n : NodeOf). n.cache.me) (sym (same_some _ _ is))
issued_me node next op false is = absurd (cc)

mapped_me : {X : Type 0} (f : X → CacheOf × Reply × ℕ) (o : Option X) (me : ℕ) → ((x : X) → (f x).0.me ≡ me) → IfSome (option_map f o) (λ d. d.0.me ≡ me)
mapped_me f None me is = tt
mapped_me f (Some x) me is = is x

performed_me : (node : NodeOf) (next : NodeOf × Entry) (line : ℕ) (p : Pending) (o : Option (CacheOf × Reply × ℕ)) → IfSome o (λ d. d.0.me ≡ node.cache.me)
    → performed_by node line p o ≡ Some next → next.0.cache.me ≡ node.cache.me
performed_me node next line p None some is = absurd (cc)
performed_me node next line p (Some done) some is = ap (λ (n : NodeOf × Entry). n.0.cache.me) (sym (same_some _ _ is)) ∙ some

pending_me : (node : NodeOf) (next : NodeOf × Entry) (line : ℕ) (o : Option Pending) → performing_pending node line o ≡ Some next
    → next.0.cache.me ≡ node.cache.me
pending_me node next line None is = absurd (cc)
pending_me node next line (Some p) is = performed_me node next line p _ (mapped_me _ _ node.cache.me (λ x. refl)) is

-- ---- deeds

abbrev me_in : StationOf → ℕ
me_in station = me_of station.end.part

-- an event that the station's node made
made_work : (old new : StationOf) (e : Event) → node_of e ≡ me_in old → is_seen e ≡ true → IsMade old.end.part e (schedule_in new)
    → works (me_in old) (schedule_in new) ≡ works (me_in old) (schedule_in old) ++ filter is_seen (e ∷ [])
made_work old new e own seen made =
    ap (filter is_seen) (own_added old.end.part e (schedule_in new) own made) ∙ filter-append is_seen (own_of (me_in old) (schedule_in old)) (e ∷ [])

-- the station has done deeds
record HasDone (deeds : List Deed) (old new : StationOf) : Type 0 where
  me : me_in new ≡ me_in old
  made : works (me_in old) (schedule_in new) ≡ works (me_in old) (schedule_in old) ++ works_by (me_in old) deeds

deed_done : (deed : Deed) (old new : StationOf) → IsDeed deed old new → HasDone (deed ∷ []) old new
deed_done (Issues op) old new does = record {
  me = issued_me (node_in old) (node_in new) op (may_issue (node_in old) op) does.1;
  made = made_work old new (event.Issue (me_in old) op) refl refl does.0.made;
}
deed_done (Performs line entry) old new does = record {
  me = pending_me (node_in old) (node_in new, entry) line (pending_on (node_in old) line) does.1;
  made = made_work old new (event.Perform (me_in old) line) refl refl does.0.made;
}
deed_done (Turns progress) old new does =
    let quiet = turn_quiet old.policy new.policy (post_of old.end) (post_of new.end) progress does in
    let adds = quiet.adds (schedule_in old) refl in
    let same : schedule_in new ≡ schedule_in old ++ adds.0 = let eq : Some (schedule_in new) ≡ Some (schedule_in old ++ adds.0) = adds.1 in cc in
    record {
      me = quiet.me;
      made = ap (works (me_in old)) same ∙ (works-append (me_in old) (schedule_in old) adds.0
          ∙ ap (λ (es : List Event). works (me_in old) (schedule_in old) ++ es) adds.2);
    }

works_cons : (n : ℕ) (deed : Deed) (deeds : List Deed) → works_by n (deed ∷ []) ++ works_by n deeds ≡ works_by n (deed ∷ deeds)
works_cons n (Issues op) deeds = refl
works_cons n (Performs line entry) deeds = refl
works_cons n (Turns progress) deeds = refl

deeds_done : (deeds : List Deed) (old new : StationOf) → DoesBy IsDeed deeds old new → HasDone deeds old new
deeds_done [] old new does =
    subst (HasDone [] old) does (record { me = refl; made = sym (append-nil (works (me_in old) (schedule_in old))) })
deeds_done (deed ∷ deeds) old new does =
    let first = deed_done deed old does.0 does.1 in
    let rest = deeds_done deeds does.0 new does.2 in
    let me = first.me in
    let then_ = subst (λ (n : ℕ). works n (schedule_in new) ≡ works n (schedule_in does.0) ++ works_by n deeds) me rest.made in
    record {
      me = rest.me ∙ me;
      made = then_ ∙ (ap (λ (es : List Event). es ++ works_by (me_in old) deeds) first.made
          ∙ (append_assoc (works (me_in old) (schedule_in old)) (works_by (me_in old) (deed ∷ [])) (works_by (me_in old) deeds)
          ∙ ap (λ (es : List Event). works (me_in old) (schedule_in old) ++ es) (works_cons (me_in old) deed deeds)));
    }

-- ---- the run

-- each node has gone through its operations
pub thread_works : (turns : ℕ) (issuing : Issuing) (operations : ℕ → List Op) (core : Core) (schedule : List Event) (n : ℕ)
    → AreDrivenOpenly turns issuing operations core schedule true → n < core.size.nodes
    → (deeds : List Deed) × IsDriven issuing (operations n) deeds × (works n schedule ≡ works_by n deeds)
thread_works turns issuing operations core schedule n are lt =
    let is = are.each n tt lt in
    let keeps = slices_keep is.slices false (are.finished n) is.deeds _ is.later _ is.driver _ _ is.gone in
    let ended = is.ended (are.all_are.0 refl n lt) in
    let done = deeds_done is.deeds _ (are.station n) is.does in
    let station = are.are_of n lt in
    let known : works (me_in (are.station n)) schedule ≡ works (me_in (are.station n)) (schedule_in (are.station n)) =
    ap (filter is_seen) (own_known (are.station n).end.part schedule station.seen) in (
      is.deeds,
      driven issuing (operations n) is.deeds _ is.driver refl keeps ended.answered,
      subst (λ (m : ℕ). works m schedule ≡ works m (schedule_in (are.station n))) done.me known ∙ done.made,
    )
