-- Shares that go on.
use Rattle.std.proofs.Common.{◌≡◌, ◌<◌, ◌≤◌, ◌+◌, ℕ, List, [], ◌∷◌, ◌++◌, append_assoc, All, length, refl, sym, ap, subst, ◌∙◌, inl, inr, arith}
use Rattle.std.proofs.Common.{Bool, true, false, IfOk, Result, Ok, Err}
use Rattle.std.proofs.lemmas.{Bool.{cases_eq}, List.{append-nil, get_or-set_same, get_or-set_other, Sums.{sum_by-append}}}
use Rattle.std.proofs.lemmas.{Option.{get_or_from_slice_get, slice_get-get_or}, Result.{IfOk-at_ok, IfOk-weaker}}
use Rattle.std.specs.Prelude.{◌⊎◌, IsOk, slice_index_or, slice_set}
use Rattle.std.specs.declared.alloc.AllocError.{AllocError}
use Rattle.sci_words.specs.declared.operation.Op.{Op}
use Rattle.sci_history.specs.Sequential.{IsInProgramOrder}
use Rattle.sci_core.specs.Node.{NodeOf}
use Rattle.sci_lanes.specs.{Ends.{EndOf}, Shown.{me_of}}
use Rattle.sci_drive.specs.{declared.driver.Issuing.{Issuing, TheVariants.{InOrder}}, Calls.{AllDone, Call, EndWithAllDone, IsHeard}}
use Rattle.sci_drive.specs.{Driving.{DriverOf, IsInOrder}, Rounds.{AreDrivenRounds}, Script.{IsFrontOf, IsLogOf, IsWholeLogOf}}
use Rattle.sci_drive.proofs.{Drives.{log_of, whole_of}, GateCalls.{calls_on, no_calls}}
use Rattle.sci_policy.specs.Deeds.{Deed}
use Rattle.sci_policy.proofs.Deeds.{deeds_on}
use Rattle.sci_station.specs.{Deeds.{Does, IsDeed}, Ends.{IsSameEnd}, Station.{StationOf}}
use Rattle.sci_station.proofs.StillEnds.{same_itself, same_then}
use Rattle.sci_threads.specs.{declared.share.Share.{Share}, Slices.{AreDrivenSlices}}
use Rattle.sci_threads.specs.Shares.{AllGoOn, AreWell, IsLaterShare, HasEnded, HasAtMost, HaveFewer, IsOpened, IsWell, TakesTurns}

-- The log of the end's node is of the operations that stand under its number, and whole if it has finished. If they were
-- issued in order, it stands in their order and has the first ones of them.
pub record HasRun {E : Type 0} (issuing : Issuing) (operations : ℕ → List Op) (end : EndOf) (finished : Result Bool E) : Type 0 where
  pub named : IsLogOf (operations (me_of end.part)) end.part.node.log
  pub whole : IfOk finished (λ all. all ≡ true → IsWholeLogOf (operations (me_of end.part)) end.part.node.log)
  pub ordered : issuing ≡ InOrder → IsInProgramOrder end.part.node.log
  pub front : issuing ≡ InOrder → IsFrontOf (operations (me_of end.part)) end.part.node.log

-- ---- results

-- what is so of each value, is so of the one that there is
stay_ok : {E : Type 0} (r : Result Bool E) (P : Bool → Bool → Type 0) → ((b : Bool) → P b b) → IfOk r (λ has. (had : Bool) × (r ≡ Ok had) × P had has)
stay_ok (Ok all) P p = (all, refl, p all)
stay_ok (Err e) P p = tt

pub is_value : {A E : Type 0} (r : Result A E) (x : A) → r ≡ Ok x → IsOk r
is_value (Ok y) x is = refl
is_value (Err e) x is = absurd cc

-- a share that has not ended hasn't finished, and was not refused
unended : {E : Type 0} (r : Result Bool E) (left : ℕ) → (IfOk r (λ all. (all ≡ true) ⊎ (left ≡ 0)) → ⊥) → r ≡ Ok false
unended (Ok false) left more = refl
unended (Ok true) left more = absurd (more (inl refl))
unended (Err e) left more = absurd (more tt)

-- ---- slices

module _ {G : Type 0} (hears : G → List Call → G → Type 0) where
  -- slices, and then further ones
  pub slices_on : (first second : List ℕ) (p q r : Bool) (deeds more : List Deed) (g h k : G) (a b c : DriverOf) (x y z : NodeOf)
      → AreDrivenSlices hears first p q deeds g h a b x y → AreDrivenSlices hears second q r more h k b c y z
      → AreDrivenSlices hears (second ++ first) p r (deeds ++ more) g k a c x z
  slices_on first [] p q r deeds more g h k a b c x y z was is =
      let all : deeds ++ more ≡ deeds = ap (λ (ds : List Deed). deeds ++ ds) is.1 ∙ append-nil deeds in
      subst (λ (ds : List Deed). AreDrivenSlices hears first p r ds g k a c x z) (sym all)
      (subst (λ (f : Bool). AreDrivenSlices hears first p f deeds g k a c x z) is.0
      (subst (λ (m : G). AreDrivenSlices hears first p q deeds g m a c x z) is.2
      (subst (λ (d : DriverOf). AreDrivenSlices hears first p q deeds g h a d x z) is.3
      (subst (λ (n : NodeOf). AreDrivenSlices hears first p q deeds g h a b x n) is.4 was))))
  slices_on first (turns ∷ second) p q r deeds more g h k a b c x y z was is = (
    is.0,
    is.1,
    is.2,
    is.3,
    deeds ++ is.4,
    is.5,
    ap (λ (ds : List Deed). deeds ++ ds) is.6 ∙ sym (append_assoc deeds is.4 is.5),
    slices_on first second p q false deeds is.4 g h is.0 a b is.1 x y is.2 was is.7,
    is.8,
  )

  -- one slice
  pub one_slice : (turns restless : ℕ) (has : Bool) (deeds : List Deed) (g h : G) (a b : DriverOf) (x y : NodeOf)
      → AreDrivenRounds hears turns has restless deeds g h a b x y → AreDrivenSlices hears (turns ∷ []) false has deeds g h a b x y
  one_slice turns restless has deeds g h a b x y is = (g, a, x, restless, [], deeds, refl, (refl, refl, refl, refl, refl), is)

-- ---- shares

module _ {G : Type 0} where
  -- a share with no turn left has ended
  pub none_left : (share : Share G) → HasAtMost 0 share → HasEnded share
  none_left share (inl ended) = ended
  none_left share (inr none) = without share.finished share.left (omega arith)
    where
      without : {E : Type 0} (r : Result Bool E) (left : ℕ) → left ≡ 0 → IfOk r (λ all. (all ≡ true) ⊎ (left ≡ 0))
      without (Ok all) left is = inr is
      without (Err e) left is = tt

  pub all_ended : (none : ℕ) (shares : List (Share G)) → none ≡ 0 → All (HasAtMost none) shares → All HasEnded shares
  all_ended none shares is few k d lt =
      none_left (slice_index_or shares k d) (subst (λ (n : ℕ). HasAtMost n (slice_index_or shares k d)) is (few k d lt))

  -- what stands at a place, whatever would stand there if nothing did
  pub any_other : (shares : List (Share G)) (n : ℕ) (x y : Share G) → n < length shares → slice_index_or shares n x ≡ slice_index_or shares n y
  any_other shares n x y lt = sym (get_or_from_slice_get shares n (slice_index_or shares n x) y (slice_get-get_or shares n x lt))

  -- what is so of the shares below a place, and of the one that is put there, is so of one more
  pub one_more_is : (Good : Share G → Share G → Type 0) (old shares : List (Share G)) (n : ℕ) (new : Share G) → n < length shares
      → ((d : Share G) → Good (slice_index_or old n d) new)
      → ((k : ℕ) (d : Share G) → k < n → Good (slice_index_or old k d) (slice_index_or shares k d)) → (k : ℕ) (d : Share G) → k < n + 1
      → Good (slice_index_or old k d) (slice_index_or (slice_set shares n new) k d)
  one_more_is Good old shares n new lt here below k d more = elim (cases_eq k n) [
    | inl same ↦
        let there : slice_index_or (slice_set shares n new) k d ≡ new =
        ap (λ (j : ℕ). slice_index_or (slice_set shares n new) j d) same ∙ get_or-set_same shares n new d lt in
        subst (λ (s : Share G). Good (slice_index_or old k d) s) (sym there) (subst (λ (j : ℕ). Good (slice_index_or old j d) new) (sym same) (here d))
    | inr other ↦ subst (λ (s : Share G). Good (slice_index_or old k d) s) (sym (get_or-set_other shares n k new d other)) (below k d (omega (arith, other)))
  ]

-- calls that end so, still do behind others
ends_behind : (first second : List Call) → EndWithAllDone second → EndWithAllDone (first ++ second)
ends_behind first second ends = (first ++ ends.0, ap (λ (calls : List Call). first ++ calls) ends.1 ∙ sym (append_assoc first ends.0 (AllDone true ∷ [])))

module _ {G : Type 0} (hears : G → List Call → G → Type 0) (hears_nothing : (g : G) → hears g [] g) (hears_on : (g h k : G) (calls more : List Call)
    → hears g calls h → hears h more k → hears g (calls ++ more) k) where
  pub stays : (share : Share G) → IsLaterShare hears share share
  stays share = record {
    same = same_itself share.station.end;
    script = refl;
    order = λ h. h;
    heard = record {
      calls = [];
      heard = hears_nothing share.gate;
      are = no_calls share.driver share.driver share.station.end.part.node share.station.end.part.node refl refl refl;
    };
    all_done = λ done. inl (done, refl);
    rounds = stay_ok share.finished (TakesTurns hears share share)
        (λ has. record { slices = []; fewer = omega arith; deeds = []; does = refl; gone = (refl, refl, refl, refl, refl) });
    left = omega arith;
    ended = λ h. h;
  }

  pub then_on : (x y z : Share G) → IsLaterShare hears x y → IsLaterShare hears y z → IsLaterShare hears x z
  then_on x y z a b = record {
    same = same_then x.station.end y.station.end z.station.end a.same b.same;
    script = b.script ∙ a.script;
    order = λ h. b.order (a.order h);
    heard = record {
      calls = a.heard.calls ++ b.heard.calls;
      heard = hears_on x.gate y.gate z.gate a.heard.calls b.heard.calls a.heard.heard b.heard.heard;
      are = calls_on x.driver y.driver z.driver x.station.end.part.node y.station.end.part.node z.station.end.part.node a.heard.calls b.heard.calls a.heard.are
          b.heard.are;
    };
    all_done = λ done. elim (b.all_done done) [
      | inl was ↦
          let none : a.heard.calls ++ b.heard.calls ≡ a.heard.calls = ap (λ (calls : List Call). a.heard.calls ++ calls) was.1 ∙ append-nil a.heard.calls in
          (elim (a.all_done was.0) [
            | inl before ↦ inl (before.0, none ∙ before.1)
            | inr ends ↦ inr (subst EndWithAllDone (sym none) ends)
          ])
      | inr ends ↦ inr (ends_behind a.heard.calls b.heard.calls ends)
    ];
    rounds = IfOk-weaker z.finished _ _ (λ has more.
        let before = IfOk-at_ok _ more.1 a.rounds in
        let first = before.2 in
        let second = more.2 in
        let both = sum_by-append (λ (n : ℕ). n) second.slices first.slices in (
          before.0,
          before.1,
          record {
            slices = second.slices ++ first.slices;
            fewer = let one = first.fewer in let other = second.fewer in omega (arith, both);
            deeds = first.deeds ++ second.deeds;
            does = deeds_on IsDeed first.deeds second.deeds x.station y.station z.station first.does second.does;
            gone = slices_on hears first.slices second.slices before.0 more.0 has first.deeds second.deeds x.gate y.gate z.gate x.driver y.driver
                z.driver x.station.end.part.node y.station.end.part.node z.station.end.part.node first.gone second.gone;
          },
        )) b.rounds;
    left = let first = a.left in let second = b.left in omega (arith, first, second);
    ended = λ h. b.ended (a.ended h);
  }

  pub all_stay : (old : List (Share G)) → AllGoOn hears old old
  all_stay old k d lt = stays (slice_index_or old k d)

  -- one of them goes on
  pub one_on : (old shares : List (Share G)) (n : ℕ) (now new : Share G) → n < length shares → IsLaterShare hears (slice_index_or shares n now) new
      → AllGoOn hears old shares → AllGoOn hears old (slice_set shares n new)
  one_on old shares n now new lt goes all k d inside = elim (cases_eq k n) [
    | inl same ↦
        let here : slice_index_or (slice_set shares n new) k d ≡ new =
        ap (λ (j : ℕ). slice_index_or (slice_set shares n new) j d) same ∙ get_or-set_same shares n new d lt in
        let was : Share G = slice_index_or old k d in
        let mid : Share G = slice_index_or shares k d in
        let it : slice_index_or shares k d ≡ slice_index_or shares n now =
        ap (λ (j : ℕ). slice_index_or shares j d) same ∙ any_other shares n d now lt in
        let on : IsLaterShare hears mid new = subst (λ (s : Share G). IsLaterShare hears s new) (sym it) goes in
        subst (λ (s : Share G). IsLaterShare hears was s) (sym here) (then_on was mid new (all k d inside) on)
    | inr other ↦
        let was : Share G = slice_index_or old k d in
        subst (λ (s : Share G). IsLaterShare hears was s) (sym (get_or-set_other shares n k new d other)) (all k d inside)
  ]

  -- all go on, and then again
  pub all_on : (old mid new : List (Share G)) → length mid ≡ length old → AllGoOn hears old mid → AllGoOn hears mid new → AllGoOn hears old new
  all_on old mid new long first second k d lt =
      then_on (slice_index_or old k d) (slice_index_or mid k d) (slice_index_or new k d) (first k d lt) (second k d (omega (arith, long)))

module _ {G : Type 0} (hears : G → List Call → G → Type 0) where
  -- a share whose driver went on
  pub went_on : (old : Share G) (station : StationOf) (driver : DriverOf) (gate : G) (turns restless left : ℕ) (finished : Bool) (deeds : List Deed)
      → IsSameEnd old.station.end station.end → driver.script ≡ old.driver.script
      → (IsInOrder old.driver old.station.end.part.node → IsInOrder driver station.end.part.node)
      → (heard : IsHeard hears old.gate gate old.driver driver old.station.end.part.node station.end.part.node)
      → (finished ≡ true → EndWithAllDone heard.calls)
      → Does deeds old.station station
      → AreDrivenRounds hears turns finished restless deeds old.gate gate old.driver driver old.station.end.part.node station.end.part.node
      → turns + left ≡ old.left → (HasEnded old → ⊥)
      → IsLaterShare hears old (record { station = station; driver = driver; gate = gate; left = left; finished = Ok finished })
  went_on old station driver gate turns restless left finished deeds same script order heard all_done does rounds fewer more = record {
    same = same;
    script = script;
    order = order;
    heard = heard;
    all_done = λ done. inr (all_done cc);
    rounds = (
      false,
      unended old.finished old.left more,
      record {
        slices = turns ∷ [];
        fewer = omega (arith, fewer);
        deeds = deeds;
        does = does;
        gone = one_slice hears turns restless finished deeds old.gate gate old.driver driver old.station.end.part.node station.end.part.node rounds;
      },
    );
    left = omega (arith, fewer);
    ended = λ ended. absurd (more ended);
  }

  -- a share whose driver was refused memory
  pub was_refused : (old : Share G) (station : StationOf) (driver : DriverOf) (gate : G) (refused : AllocError)
      → IsSameEnd old.station.end station.end → driver.script ≡ old.driver.script
      → (IsInOrder old.driver old.station.end.part.node → IsInOrder driver station.end.part.node)
      → IsHeard hears old.gate gate old.driver driver old.station.end.part.node station.end.part.node
      → IsLaterShare hears old (record { station = station; driver = driver; gate = gate; left = old.left; finished = Err refused })
  was_refused old station driver gate refused same script order heard = record {
    same = same;
    script = script;
    order = order;
    heard = heard;
    all_done = λ done. absurd cc;
    rounds = tt;
    left = omega arith;
    ended = λ ended. tt;
  }

  -- a share that goes on and has fewer turns left
  pub now_fewer : (most less : ℕ) (old new : Share G) → most ≤ less + 1 → IsLaterShare hears old new → HasEnded new ⊎ (new.left < old.left) → HasAtMost most old
      → HasAtMost less new
  now_fewer most less old new more gone (inl ended) few = inl ended
  now_fewer most less old new more gone (inr fewer) (inl ended) = inl (gone.ended ended)
  now_fewer most less old new more gone (inr fewer) (inr few) = inr (omega arith)

  pub all_fewer : (most less : ℕ) (old new : List (Share G)) → most ≤ less + 1 → length new ≡ length old → AllGoOn hears old new
      → HaveFewer old new → All (HasAtMost most) old → All (HasAtMost less) new
  all_fewer most less old new more long gone fewer few k d lt = grind (arith, now_fewer)

  -- one of the shares takes a turn, and has ended or has fewer turns left than at first
  pub one_fewer : (old now new : Share G) → IsLaterShare hears old now → HasEnded new ⊎ (new.left + 1 ≤ now.left) → HasEnded new ⊎ (new.left < old.left)
  one_fewer old now new gone (inl ended) = inl ended
  one_fewer old now new gone (inr fewer) = inr (let left = gone.left in omega arith)

  -- what a share has done that was opened, went on and is well
  pub has_run : (issuing : Issuing) (operations : ℕ → List Op) (turns : ℕ) (old new : Share G) → IsOpened issuing operations turns old
      → IsLaterShare hears old new → IsWell new.driver new.station.end new.finished → HasRun issuing operations new.station.end new.finished
  has_run issuing operations turns old new opened gone well =
      let node = new.station.end.part.node in
      let mine : me_of new.station.end.part ≡ me_of old.station.end.part = gone.same.node.me in
      let script : new.driver.script ≡ operations (me_of new.station.end.part) =
      gone.script ∙ (ap (λ (d : DriverOf). d.script) opened.driver ∙ ap operations (sym mine)) in record {
        named = subst (λ (ops : List Op). IsLogOf ops node.log) script (log_of new.driver node well.driven);
        whole = IfOk-weaker new.finished _ _ (λ all said is.
            let ended = said is in
            subst (λ (ops : List Op). IsWholeLogOf ops node.log) script (whole_of new.driver node ended.0 ended.1 well.driven)) well.answered;
        ordered = λ is. (gone.order (opened.ordered is)).ordered;
        front = λ is. subst (λ (ops : List Op). IsFrontOf ops node.log) script (gone.order (opened.ordered is)).front;
      }

  pub all_run : (issuing : Issuing) (operations : ℕ → List Op) (turns : ℕ) (old new : List (Share G)) → length new ≡ length old
      → All (IsOpened issuing operations turns) old → AllGoOn hears old new → AreWell new
      → All (λ (s : Share G). HasRun issuing operations s.station.end s.finished) new
  all_run issuing operations turns old new long opened gone well k d lt =
      let within : k < length old = omega (arith, long) in
      has_run issuing operations turns (slice_index_or old k d) (slice_index_or new k d) (opened k d within) (gone k d within) (well k d lt)
