-- The parts of a trace, and what is found of them.
use Rattle.std.proofs.Common.{◌≡◌, ◌<◌, ◌≤◌, ◌+◌, ◌↔◌, ◌++◌, ◌∙◌, ℕ, suc, All, Bool, true, false, cond, leb, List, [], ◌∷◌, Option, None}
use Rattle.std.proofs.Common.{if◌then◌else◌, filter, length, ap, arith, inl, inr, length-append, refl, subst, sym}
use Rattle.std.proofs.lemmas.Bool.{cases_Bool, cases_eq, cases_lt, eq-eqb, eqb-true, Decides.{nat_tests}}
use Rattle.std.proofs.lemmas.List.{get_or-append-add, map-append, Kept.{AllPairs-cons, AllPairs-filter}, Sums.{sum_by-cons}}
use Rattle.std.proofs.lemmas.List.Elements.{All-append, All-contains, All-contains_itself, All-filter, filter_passes}
use Rattle.std.proofs.lemmas.List.Elements.{Contains-append_cases, Contains-append_left, Contains-append_right, Contains-get_or}
use Rattle.std.proofs.lemmas.Map.Views.{any-filter_same}
use Rattle.std.specs.{List.{AllPairs, Contains, list_any}, Prelude.{IfOk, IsSome, Result, slice_index_or}}
use Rattle.sci_words.specs.declared.limits.TheConstants.{MAX_NODES}
use Rattle.sci_judge.specs.Access.{AreKnown}
use Rattle.sci_history.proofs.Order.{filter-implied, filter_no, filter_yes}
use Rattle.sci_judge.specs.declared.{access.Access.{Access}, finding.Finding.{Finding}, trace.Trace.{Trace}}
use Rattle.sci_judge.specs.declared.finding.Finding.TheVariants as found
use Rattle.sci_judge.specs.declared.judging.{Judgement.{Judgement}, SiteVersions.{SiteVersions}}
use Rattle.sci_judge.specs.declared.judging.Judgement.TheVariants.{Coherent, NotCoherent, Undecided}
use Rattle.sci_judge.specs.declared.witness.{Claim.{Claim}, Step.{Step, TheVariants.{Follows, Swaps, Falls, Rises, Starts, Ends}}}
use Rattle.sci_judge.specs.declared.witness.Witness.{Witness, TheVariants.{Unwritten, UnwrittenLast, Early, Circle, Round}}
use Rattle.sci_judge.specs.Judgement.{AreExplained, IsExplainedAt, IsFinding, IsFoundAt, IsJudgement, Names, addresses_of, at_address, is_at, last_at}
use Rattle.sci_judge.specs.Witness.{IsAt, IsPath, IsWitness, Leads}
use Rattle.sci_axe.specs.Parts.{AreJudged, ArePartExplained, IsPart, IsPartJudged, is_in_part, part_of}

-- ---- a part with no operation at an address

-- a second test that fails where the first passes
filter_apart : {X : Type 0} (p q : X → Bool) → ((x : X) → p x ≡ true → q x ≡ false) → (xs : List X) → filter p (filter q xs) ≡ []
filter_apart p q apart [] = refl
filter_apart p q apart (x ∷ xs) = grind (arith, cases_Bool, filter_yes, filter_no, filter_apart p q apart xs)

none_at : (i : ℕ) (x : Access) → IsAt [] i x → ⊥
none_at i x is = cc

no_step : (timed : Bool) (step : Step) (from : Option Claim) (to : Claim) → Leads timed [] None step from to → ⊥
no_step timed (Follows earlier later) from to is = none_at earlier is.0 is.2
no_step timed (Swaps place) from to is = none_at place is.0 is.3
no_step timed (Falls place) from to is = none_at place is.0 is.4
no_step timed (Rises place) from to is = none_at place is.0 is.4
no_step timed (Starts place) from to is = none_at place is.0 is.1
no_step timed (Ends place) from to is = none_at place is.0 is.2

no_path : (timed : Bool) (steps : List Step) (end : Claim) → IsPath timed [] None None steps end → ⊥
no_path timed [] end is = cc
no_path timed (step ∷ steps) end is = no_step timed step None is.0 is.1

-- no operation and no last word have no witness
no_witness : (timed : Bool) (witness : Witness) → IsWitness timed [] None witness → ⊥
no_witness timed (Unwritten reader) is = none_at reader is.0 is.1
no_witness timed UnwrittenLast is = let last = is.1 in cc
no_witness timed (Early reader writer) is = none_at reader is.1.0 is.1.3
no_witness timed (Circle steps) is = no_path timed steps.items is.1.0 is.1.1
no_witness timed (Round maker through) is = none_at maker is.0 is.1

pub only : (y x : ℕ) → Contains (y ∷ []) x → y ≡ x
only y x had = grind arith

-- the addresses of the sites that are kept
addresses_kept : (p : ℕ → Bool) (sites : List SiteVersions) → addresses_of (filter (λ site. p site.address) sites) ≡ filter p (addresses_of sites)
addresses_kept p [] = refl
addresses_kept p (site ∷ sites) = grind (arith, cases_Bool, filter_yes, filter_no, addresses_kept p sites)

kept_behind : (p : ℕ → Bool) (x : ℕ) (xs : List ℕ) (q : ℕ) (b : Bool) → p x ≡ b → Contains (filter p xs) q → Contains (filter p (x ∷ xs)) q
kept_behind p x xs q true e had =
    subst (λ (ks : List ℕ). Contains ks q) (sym (filter_yes p x xs e)) (Contains-append_right (x ∷ []) (filter p xs) q had)
kept_behind p x xs q false e had = subst (λ (ks : List ℕ). Contains ks q) (sym (filter_no p x xs e)) had

-- what passes is kept
contains_kept : (p : ℕ → Bool) (xs : List ℕ) (q : ℕ) → p q ≡ true → Contains xs q → Contains (filter p xs) q
contains_kept p [] q passes had = had
contains_kept p (x ∷ xs) q passes had =
    elim (Contains-append_cases (x ∷ []) xs q had) [
      | inl this ↦
          subst (λ (ks : List ℕ). Contains ks q) (sym (filter_yes p x xs (ap p (only x q this) ∙ passes)))
          (Contains-append_left (x ∷ []) (filter p xs) q this)
      | inr later ↦ kept_behind p x xs q (p x) refl (contains_kept p xs q passes later)
    ]

-- and nothing else
kept_passes : (p : ℕ → Bool) (xs : List ℕ) (q : ℕ) → Contains (filter p xs) q → (p q ≡ true) × Contains xs q
kept_passes p xs q had = (
  All-contains (λ x. p x ≡ true) (filter p xs) q (filter_passes p xs) had,
  All-contains (Contains xs) (filter p xs) q (All-filter p (Contains xs) xs (All-contains_itself xs)) had,
)

module _ (timed : Bool) (cuts : List ℕ) (part : ℕ) (whole there : Trace) (is : IsPart cuts part whole there) where
  in_part : (address : ℕ) (access : Access) → is_at address access ≡ true → is_in_part cuts part access.address ≡ is_in_part cuts part address
  in_part address access at = ap (is_in_part cuts part) (eqb-true access.address address at)

  same_accesses : (address : ℕ) → is_in_part cuts part address ≡ true
      → at_address address there.accesses.items ≡ at_address address whole.accesses.items
  same_accesses address inside =
      ap (at_address address) is.accesses
      ∙ filter-implied (is_at address) (λ access. is_in_part cuts part access.address) (λ access at. in_part address access at ∙ inside) whole.accesses.items

  same_last : (address : ℕ) → is_in_part cuts part address ≡ true → last_at address there ≡ last_at address whole
  same_last address inside = is.last address ∙ ap (λ (b : Bool). if b then last_at address whole else None) inside

  -- what is found in the part is found in the whole
  found_in_whole : (address : ℕ) (finding : Finding) → is_in_part cuts part address ≡ true → IsFoundAt timed there address finding
      → IsFoundAt timed whole address finding
  found_in_whole address finding inside found =
      subst (λ (last : Option ℕ). IsFinding timed (at_address address whole.accesses.items) last finding) (same_last address inside)
      (subst (λ (xs : List Access). IsFinding timed xs (last_at address there) finding) (same_accesses address inside) found)

  names_same : (address : ℕ) → is_in_part cuts part address ≡ true → Names there address ↔ Names whole address
  names_same address inside =
      let any =
      ap (list_any (is_at address)) is.accesses
      ∙ any-filter_same (is_at address) (λ access. is_in_part cuts part access.address) true (λ access at. in_part address access at ∙ inside)
      whole.accesses.items in
      let last = same_last address inside in (
        (λ names. elim names [
          | inl here ↦ inl (sym any ∙ here)
          | inr some ↦ inr (subst (λ (word : Option ℕ). IsSome word) last some)
        ]),
        (λ names. elim names [
          | inl here ↦ inl (any ∙ here)
          | inr some ↦ inr (subst (λ (word : Option ℕ). IsSome word) (sym last) some)
        ]),
      )

  pub explained_in_whole : (sites : List SiteVersions) → AreExplained timed there sites
      → ArePartExplained timed cuts part whole (filter (λ site. is_in_part cuts part site.address) sites)
  explained_in_whole sites explained =
      let p : SiteVersions → Bool = λ site. is_in_part cuts part site.address in
      let passes = filter_passes p sites in
      let kept = All-filter p (IsExplainedAt timed there) sites explained.each in
      let addresses = addresses_of sites in
      let same = addresses_kept (is_in_part cuts part) sites in
      record {
        named = λ address. (
          (λ names.
              let inside : is_in_part cuts part address ≡ true = eq-eqb _ _ names.1 in
              subst (λ (ks : List ℕ). Contains ks address) (sym same) (contains_kept (is_in_part cuts part) addresses address inside
              ((explained.named address).0 ((names_same address inside).1 names.0)))),
          (λ had.
              let there_ = kept_passes (is_in_part cuts part) addresses address (subst (λ (ks : List ℕ). Contains ks address) same had) in
              ((names_same address there_.0).0 ((explained.named address).1 there_.1), eqb-true _ _ there_.0)),
        );
        rising = subst (AllPairs (λ (x y : ℕ). x < y)) (sym same)
            (AllPairs-filter (λ (x y : ℕ). x < y) (is_in_part cuts part) addresses explained.rising);
        each = λ k d lt.
            let site = slice_index_or (filter p sites) k d in
            found_in_whole site.address (found.Coherent site.versions site.freedom) (passes k d lt) (kept k d lt);
      }

  not_coherent_by : (address : ℕ) (accesses : List Access) (witness : Witness) (b : Bool) → is_in_part cuts part address ≡ b
      → (accesses ≡ at_address address there.accesses.items) × IsFoundAt timed there address (found.NotCoherent witness)
      → (accesses ≡ at_address address whole.accesses.items) × IsFoundAt timed whole address (found.NotCoherent witness)
  not_coherent_by address accesses witness true inside is_found =
      (is_found.0 ∙ same_accesses address inside, found_in_whole address (found.NotCoherent witness) inside is_found.1)
  not_coherent_by address accesses witness false outside is_found =
      let none : at_address address there.accesses.items ≡ [] =
      ap (at_address address) is.accesses
      ∙ filter_apart (is_at address) (λ access. is_in_part cuts part access.address) (λ access at. in_part address access at ∙ outside) whole.accesses.items
      in
      let no_last : last_at address there ≡ None = is.last address ∙ ap (λ (b : Bool). if b then last_at address whole else None) outside in
      absurd (no_witness timed witness (subst (λ (last : Option ℕ). IsWitness timed [] last witness) no_last
      (subst (λ (xs : List Access). IsWitness timed xs (last_at address there) witness) none is_found.1.0)))

  -- so is a fault
  pub fault_in_whole : (judgement : Judgement) → ((sites : _) → judgement ≡ Coherent sites → ⊥) → IsJudgement timed there judgement
      → IsPartJudged timed cuts part whole judgement
  fault_in_whole (Coherent sites) isnt judged = absurd (isnt sites refl)
  fault_in_whole (NotCoherent address accesses witness) isnt judged =
      not_coherent_by address accesses.items witness (is_in_part cuts part address) refl judged
  fault_in_whole (Undecided address) isnt judged = tt

  pub part_known : AreKnown whole.accesses.items → AreKnown there.accesses.items
  part_known known =
      subst AreKnown (sym is.accesses) (All-filter (λ access. is_in_part cuts part access.address) (λ access. access.processor < MAX_NODES)
      whole.accesses.items known)

-- ---- the parts together

-- of two lists, each element of the one with each of the other
all_pairs_append : {X : Type 0} (R : X → X → Type 0) (xs ys : List X) → AllPairs R xs → AllPairs R ys
    → ((x y : X) → Contains xs x → Contains ys y → R x y) → AllPairs R (xs ++ ys)
all_pairs_append R [] ys low high across = high
all_pairs_append R (x ∷ xs) ys low high across =
    AllPairs-cons R x (xs ++ ys)
    (All-append (R x) xs ys (λ k d lt. low 0 (suc k) d (omega arith) (omega (arith, lt)))
    (λ k d lt. across x (slice_index_or ys k d) (Contains-append_left (x ∷ []) xs x (0, omega arith, refl)) (Contains-get_or ys k d lt)))
    (all_pairs_append R xs ys (λ i j d lt in_. low (suc i) (suc j) d (omega (arith, lt)) (omega (arith, in_))) high
    (λ a b in_a in_b. across a b (Contains-append_right (x ∷ []) xs a in_a) in_b))

-- an address that is no lower is in no lower part
part_rises : (cuts : List ℕ) (x y : ℕ) → x ≤ y → part_of cuts x ≤ part_of cuts y
part_rises [] x y le = omega arith
part_rises (cut ∷ cuts) x y le =
    let rest = part_rises cuts x y le in
    let low = sum_by-cons (λ (c : ℕ). cond (leb c x) 1 0) cut cuts in
    let high = sum_by-cons (λ (c : ℕ). cond (leb c y) 1 0) cut cuts in
    grind (arith, cases_Bool, nat_tests)

-- the addresses in one more part are explained as well
pub named_more : (timed : Bool) (cuts : List ℕ) (trace : Trace) (part : ℕ) (old sites new : List SiteVersions) → new ≡ old ++ sites
    → ((address : ℕ) → (Names trace address × (part_of cuts address < part)) ↔ Contains (addresses_of old) address)
    → ArePartExplained timed cuts part trace sites
    → (address : ℕ) → (Names trace address × (part_of cuts address < part + 1)) ↔ Contains (addresses_of new) address
named_more timed cuts trace part old sites new is before here address =
    let longer : addresses_of new ≡ addresses_of old ++ addresses_of sites =
    ap addresses_of is ∙ map-append (λ (site : SiteVersions). site.address) old sites in (
      (λ names. subst (λ (xs : List ℕ). Contains xs address) (sym longer) (elim (cases_eq (part_of cuts address) part) [
        | inl at ↦ Contains-append_right (addresses_of old) (addresses_of sites) address ((here.named address).0 (names.0, at))
        | inr isnt ↦
            let below = names.1 in
            Contains-append_left (addresses_of old) (addresses_of sites) address ((before address).0 (names.0, omega (arith, below, isnt)))
      ])),
      (λ had. elim (Contains-append_cases (addresses_of old) (addresses_of sites) address (subst (λ (xs : List ℕ). Contains xs address) longer had)) [
        | inl early ↦ let names = (before address).1 early in (names.0, let below = names.1 in omega (arith, below))
        | inr late ↦ let names = (here.named address).1 late in (names.0, let at = names.1 in omega (arith, at))
      ]),
    )

-- and they rise
pub rising_more : (timed : Bool) (cuts : List ℕ) (trace : Trace) (part : ℕ) (old sites new : List SiteVersions) → new ≡ old ++ sites
    → ((address : ℕ) → (Names trace address × (part_of cuts address < part)) ↔ Contains (addresses_of old) address)
    → AllPairs (λ x y. x < y) (addresses_of old) → ArePartExplained timed cuts part trace sites → AllPairs (λ x y. x < y) (addresses_of new)
rising_more timed cuts trace part old sites new is before rising here =
    subst (AllPairs (λ (x y : ℕ). x < y)) (sym (ap addresses_of is ∙ map-append (λ (site : SiteVersions). site.address) old sites))
    (all_pairs_append (λ (x y : ℕ). x < y) (addresses_of old) (addresses_of sites) rising here.rising (λ x y in_x in_y.
    let low = ((before x).1 in_x).1 in
    let at = ((here.named y).1 in_y).1 in
    elim (cases_lt x y) [
      | inl lt ↦ lt
      | inr le ↦ let parts = part_rises cuts y x le in absurd (omega (arith, low, at, parts))
    ]))

pub each_more : (timed : Bool) (cuts : List ℕ) (trace : Trace) (part : ℕ) (old sites new : List SiteVersions) → new ≡ old ++ sites
    → All (IsExplainedAt timed trace) old → ArePartExplained timed cuts part trace sites → All (IsExplainedAt timed trace) new
each_more timed cuts trace part old sites new is before here =
    subst (All (IsExplainedAt timed trace)) (sym is) (All-append (IsExplainedAt timed trace) old sites before here.each)

-- the judgement behind those so far is of the next part
pub next_judged : {E : Type 0} (timed : Bool) (cuts : List ℕ) (trace : Trace) (done rest all : List (Result Judgement E)) (one : Result Judgement E)
    → done ++ one ∷ rest ≡ all → AreJudged timed cuts trace all → IfOk one (IsPartJudged timed cuts (length done) trace)
next_judged timed cuts trace done rest all one is each =
    let last : length done + 0 ≡ length done = omega arith in
    let here : slice_index_or (done ++ one ∷ rest) (length done) one ≡ one =
    subst (λ (n : ℕ). slice_index_or (done ++ one ∷ rest) n one ≡ one) last (get_or-append-add done (one ∷ rest) 0 one) in
    let within : length done < length (done ++ one ∷ rest) = let long = length-append done (one ∷ rest) in omega (arith, long) in
    subst (λ (r : Result Judgement _). IfOk r (IsPartJudged timed cuts (length done) trace)) here
    (subst (AreJudged timed cuts trace) (sym is) each (length done) one within)
