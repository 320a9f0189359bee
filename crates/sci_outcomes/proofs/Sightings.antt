-- What is seen of one run.
use Rattle.std.proofs.Common.{◌≡◌, ℕ, ◌<◌, ◌+◌, ◌-◌, Bool, true, false, List, [], ◌∷◌, ◌++◌, Some, length, length-append, sym, subst, arith, inl, inr}
use Rattle.std.proofs.lemmas.{Bool.{cases_lt}, List.{get_or-append-add, get_or_append_left}}
use Rattle.std.specs.Prelude.{slice_index_or}
use Rattle.sci_words.specs.declared.{limits.TheConstants.{MAX_TURNS}, stamped.Stamped.{Stamped}}
use Rattle.sci_history.specs.{declared.entry.Entry.{Entry}, Lawful.{Lawful}, Sequential.{IsSequentiallyConsistent}}
use Rattle.sci_text.specs.{Script.{ScriptValue}, Schedule.{ScheduleValue}}
use Rattle.sci_drive.specs.declared.driver.Issuing.{Issuing}
use Rattle.sci_runs.specs.{Played.{IsPlayed}, Runs.{IsRunOf, last_behind, logs_behind}}
use Rattle.sci_outcomes.specs.declared.{histogram.Histogram.{Histogram}, outcome.Sighting.{Sighting}}
use Rattle.sci_allowed.specs.{Outcome.{written_places}, declared.place.Place.{Place}}
use Rattle.sci_outcomes.specs.{Outcomes.{IsSeen}, Rows.{HasCounted}}
use Rattle.sci_outcomes.specs.Trials.{IsDrawnSighting, IsUnfinished}

-- what is seen of logs and last contents is seen of the ones behind the schedule
pub drawn_sighting : (script : ScriptValue) (issuing : Issuing) (seed rounds : ℕ) (done : Bool) (schedule : ScheduleValue) (places : List Place)
    (logs : List (List Entry)) (last : List Stamped) (sighting : Sighting) → done ≡ true → IsRunOf script issuing done schedule
    → IsPlayed script issuing (Some seed) rounds done schedule
    → places ≡ written_places script.lines script.operations → logs ≡ logs_behind script schedule → last ≡ last_behind script schedule → Lawful logs last
    → IsSequentiallyConsistent logs last → IsSeen places logs last sighting → IsDrawnSighting script issuing seed sighting
drawn_sighting script issuing seed rounds done schedule places logs last sighting is_done run played places_are logs_are last_are lawful consistent
    seen = record {
      schedule = schedule;
      run = subst (λ (d : Bool). IsRunOf script issuing d schedule) is_done run;
      rounds = rounds;
      played = subst (λ (d : Bool). IsPlayed script issuing (Some seed) rounds d schedule) is_done played;
      lawful = subst (λ (l : List Stamped). Lawful (logs_behind script schedule) l) last_are
          (subst (λ (ls : List (List Entry)). Lawful ls last) logs_are lawful);
      consistent = subst (λ (l : List Stamped). IsSequentiallyConsistent (logs_behind script schedule) l) last_are
          (subst (λ (ls : List (List Entry)). IsSequentiallyConsistent ls last) logs_are consistent);
      seen = subst (λ (ps : List Place). IsSeen ps (logs_behind script schedule) (last_behind script schedule) sighting) places_are
          (subst (λ (l : List Stamped). IsSeen places (logs_behind script schedule) l sighting) last_are
          (subst (λ (ls : List (List Entry)). IsSeen places ls last sighting) logs_are seen));
    }

-- a run that isn't done has taken all its turns
pub unfinished : (script : ScriptValue) (issuing : Issuing) (seed rounds : ℕ) (done : Bool) (schedule : ScheduleValue) → done ≡ false
    → IsRunOf script issuing done schedule → IsPlayed script issuing (Some seed) rounds done schedule → (done ≡ false → rounds ≡ MAX_TURNS)
    → IsUnfinished script issuing seed
unfinished script issuing seed rounds done schedule isnt run played all = record {
  schedule = schedule;
  run = subst (λ (d : Bool). IsRunOf script issuing d schedule) isnt run;
  played = subst (λ (k : ℕ). IsPlayed script issuing (Some seed) k false schedule) (all isnt)
      (subst (λ (d : Bool). IsPlayed script issuing (Some seed) rounds d schedule) isnt played);
}

-- one more of them, and they begin with the run that has the number `start`
pub seen_more : (P : ℕ → Sighting → Type 0) (start : ℕ) (old new : Histogram) (number : ℕ) (x : Sighting)
    → (seen : List Sighting) × (length seen + start ≡ number) × ((k : ℕ) (d : Sighting) → k < length seen → P (k + start) (slice_index_or seen k d))
    × HasCounted old seen
    → P number x → ((seen : List Sighting) → HasCounted old seen → HasCounted new (seen ++ x ∷ []))
    → (seen : List Sighting) × (length seen + start ≡ number + 1) × ((k : ℕ) (d : Sighting) → k < length seen → P (k + start) (slice_index_or seen k d))
    × HasCounted new seen
seen_more P start old new number x so_far is counts =
    let seen = so_far.0 in
    let long : length (seen ++ x ∷ []) ≡ length seen + 1 = length-append seen (x ∷ []) in
    let many = so_far.1 in
    let each : (k : ℕ) (d : Sighting) → k < length (seen ++ x ∷ []) → P (k + start) (slice_index_or (seen ++ x ∷ []) k d) =
    λ k d lt. elim (cases_lt k (length seen)) [
      | inl before ↦ subst (P (k + start)) (sym (get_or_append_left seen (x ∷ []) d k before)) (so_far.2 k d before)
      | inr after ↦
          let same : number ≡ k + start = omega (arith, lt, long, many, after) in
          let last : slice_index_or (seen ++ x ∷ []) (length seen + 0) d ≡ x = get_or-append-add seen (x ∷ []) 0 d in
          let at : length seen + 0 ≡ k = omega (arith, lt, long, after) in
          subst (λ (i : ℕ). P (k + start) (slice_index_or (seen ++ x ∷ []) i d)) at
          (subst (P (k + start)) (sym last) (subst (λ (i : ℕ). P i x) same is))
    ] in
    (seen ++ x ∷ [], omega (arith, long, many), each, counts seen so_far.3)

-- what was seen of later runs, behind what was seen of runs
pub seen_behind : (P : ℕ → Sighting → Type 0) (start middle : ℕ) (seen more : List Sighting) → length seen + start ≡ middle
    → ((k : ℕ) (d : Sighting) → k < length seen → P (k + start) (slice_index_or seen k d))
    → ((k : ℕ) (d : Sighting) → k < length more → P (k + middle) (slice_index_or more k d))
    → (k : ℕ) (d : Sighting) → k < length (seen ++ more) → P (k + start) (slice_index_or (seen ++ more) k d)
seen_behind P start middle seen more many first second k d lt =
    let long : length (seen ++ more) ≡ length seen + length more = length-append seen more in
    elim (cases_lt k (length seen)) [
      | inl before ↦ subst (P (k + start)) (sym (get_or_append_left seen more d k before)) (first k d before)
      | inr after ↦
          let place = k - length seen in
          let same : place + middle ≡ k + start = omega (arith, many, after) in
          let at : length seen + place ≡ k = omega (arith, after) in
          subst (λ (i : ℕ). P (k + start) (slice_index_or (seen ++ more) i d)) at
          (subst (P (k + start)) (sym (get_or-append-add seen more place d))
          (subst (λ (i : ℕ). P i (slice_index_or more place d)) same (second place d (omega (arith, lt, long, after)))))
    ]
