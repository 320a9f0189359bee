-- A round of some entries of a round, in which no entry comes after another than the next one.
-- The part that is kept is the shortest whose last entry comes after its first, so none comes after one before it but these.
-- From each entry the way goes on to the last one of the part that it comes after, so none comes after one further on.
use Rattle.std.proofs.Common.{◌≡◌, ℕ, zero, suc, ◌+◌, ◌-◌, ◌<◌, ◌≤◌, ◌⊎◌, List, [], ◌∷◌, ◌++◌, length, get_or, Some, refl, sym, ap, subst, ◌∙◌, arith, inl}
use Rattle.std.proofs.{Common.{inr}, lemmas.{Bool.{cases_lt, cases_eq}, List.{length-append}}}
use Rattle.std.proofs.lemmas.Option.{get_or_from_slice_get, slice_get_within}
use Rattle.std.specs.{Prelude.{slice_get}, List.{AllByRecursion}}
use Rattle.sci_history.specs.declared.{entry.Entry.{Entry}, order_verdict.Reason.{Reason}}
use Rattle.sci_history.specs.declared.order_verdict.Reason.TheVariants.{Logged, ReadsFrom, FromRead, Coherence}
use Rattle.sci_history.specs.declared.order_verdict.Step.{Step}
use Rattle.sci_history.specs.Cycle.{ComesAfter, IsChain, IsCycle, IsInLog, IsRound}
use Rattle.sci_history.specs.Shortcuts.{AreOf, ComesAfterAt, IsBareRoundOf, IsFree, IsFreeWithin}
use Rattle.sci_history.proofs.{AuditFinds.{no_entry}, Waits.{chain_joined}}

abbrev pub no_step : Step
no_step = record { entry = no_entry; place = 0; reason = Logged }

-- ---- steps of the same entry

pub record IsSame (x y : Step) : Type 0 where
  pub entry : x.entry ≡ y.entry
  pub place : x.place ≡ y.place

comes_same : (r : Reason) (x y x' y' : Step) → IsSame x x' → IsSame y y' → ComesAfter r x y → ComesAfter r x' y'
comes_same Logged x y x' y' a b c =
    (sym (ap (λ e. e.node) b.entry) ∙ (c.0 ∙ ap (λ e. e.node) a.entry), let p = a.place in let q = b.place in let lt = c.1 in omega arith)
comes_same ReadsFrom x y x' y' a b c = rw (sym a.entry) (rw (sym b.entry) c)
comes_same _ x y x' y' a b c = rw (sym a.entry) (rw (sym b.entry) c)

not_below : (n : ℕ) → n < n → ⊥
not_below n lt = omega arith

pub free_itself : (x : Step) → IsFree x x
free_itself x Logged c = not_below x.place c.1
free_itself x ReadsFrom c = let yes = c.1 in let no = c.2 in cc
free_itself x FromRead c = let yes = c.1 in let no = c.2 in cc
free_itself x Coherence c = not_below x.entry.version c.3

-- ---- steps of a chain by their places

chain_at : (steps : List Step) (end : Step) (k : ℕ) (x y : Step) → IsChain steps end → slice_get steps k ≡ Some x → slice_get steps (suc k) ≡ Some y
    → ComesAfter x.reason x y
chain_at [] end k x y chain a b = cc
chain_at (s ∷ []) end zero x y chain a b = cc
chain_at (s ∷ []) end (suc k) x y chain a b = cc
chain_at (s ∷ t ∷ steps) end zero x y chain a b = let is : s ≡ x = cc in let next : t ≡ y = cc in
    subst (λ z. ComesAfter z.reason z y) is (subst (λ z. ComesAfter s.reason s z) next chain.0)
chain_at (s ∷ t ∷ steps) end (suc k) x y chain a b = chain_at (t ∷ steps) end k x y chain.1 a b

chain_last : (steps : List Step) (end : Step) (k : ℕ) (x : Step) → IsChain steps end → slice_get steps k ≡ Some x → k + 1 ≡ length steps
    → ComesAfter x.reason x end
chain_last [] end k x chain a long = cc
chain_last (s ∷ []) end zero x chain a long = let is : s ≡ x = cc in subst (λ z. ComesAfter z.reason z end) is chain
chain_last (s ∷ []) end (suc k) x chain a long = cc
chain_last (s ∷ t ∷ steps) end zero x chain a long = absurd (omega arith)
chain_last (s ∷ t ∷ steps) end (suc k) x chain a long = chain_last (t ∷ steps) end k x chain.1 a (omega arith)

pub round_at : (steps : List Step) (k : ℕ) (x y : Step) → IsRound steps → slice_get steps k ≡ Some x → slice_get steps (suc k) ≡ Some y
    → ComesAfter x.reason x y
round_at [] k x y round a b = absurd round
round_at (s ∷ steps) k x y round a b = chain_at (s ∷ steps) s k x y round a b

-- the step at a place comes after the next one, for its reason
pub next_comes : (steps : List Step) (place : ℕ) → IsRound steps → ComesAfterAt steps place (place + 1) (get_or steps place no_step).reason
next_comes steps place round x y a b = grind (arith, get_or_from_slice_get, round_at)

last_at : (s : Step) (steps : List Step) → (x : Step) × (slice_get (s ∷ steps) (length steps) ≡ Some x)
last_at s [] = (s, refl)
last_at s (t ∷ steps) = last_at t steps

-- a whole round is a part
pub some_part : (steps : List Step) (span : ℕ) → 1 ≤ span → length steps ≤ span → IsRound steps → IsFreeWithin steps span → ⊥
some_part [] span one le round free = round
some_part (s ∷ []) span one le round free = free_itself s s.reason round
some_part (s ∷ t ∷ steps) span one le round free =
    let end = last_at s (t ∷ steps) in
    free (length (t ∷ steps)) 0 end.0 s (omega arith) (omega arith) end.1 refl end.0.reason
    (chain_last (s ∷ t ∷ steps) s (length (t ∷ steps)) end.0 round end.1 (omega arith))

-- nearer, or at this distance
pub free_further : (steps : List Step) (span first : ℕ) → IsFreeWithin steps span → length steps - span ≤ first
    → ((there : ℕ) (x y : Step) → there < first → slice_get steps (there + span) ≡ Some x → slice_get steps there ≡ Some y → IsFree x y)
    → IsFreeWithin steps (span + 1)
free_further steps span first nearer all here_free here there x y lt near a b = elim (cases_lt here (there + span)) [
  | inl less ↦ nearer here there x y lt less a b
  | inr past ↦
      let is : here ≡ there + span = omega arith in
      let inside = slice_get_within steps here x a in
      here_free there x y (omega arith) (subst (λ k. slice_get steps k ≡ Some x) is a) b
]

-- ---- what is kept

pushed_at : (kept : List Step) (z : Step) (j : ℕ) (y : Step) → slice_get (kept ++ z ∷ []) j ≡ Some y
    → ((j < length kept) × (slice_get kept j ≡ Some y)) ⊎ ((j ≡ length kept) × (z ≡ y))
pushed_at [] z zero y a = inr (refl, cc)
pushed_at [] z (suc j) y a = cc
pushed_at (k ∷ kept) z zero y a = inl (omega arith, a)
pushed_at (k ∷ kept) z (suc j) y a =
    elim (pushed_at kept z j y a) [ inl old ↦ let lt = old.0 in inl (omega arith, old.1) | inr new ↦ inr (ap suc new.0, new.1) ]

-- the steps that are kept of the part from a first place to a last one, when the next one that is kept stands at this place
pub record IsKept (steps kept : List Step) (first last next : ℕ) : Type 0 where
  pub many : length kept + first ≤ next
  pub before : next ≤ last
  pub own : AreOf steps kept
  pub empty : length kept ≡ 0 → next ≡ first
  pub begins : (x y : Step) → slice_get kept 0 ≡ Some x → slice_get steps first ≡ Some y → IsSame y x
  pub chain : (y end : Step) → slice_get steps next ≡ Some y → IsSame y end → IsChain kept end
  pub apart : (i j : ℕ) (x y : Step) → i + 1 < j → slice_get kept i ≡ Some x → slice_get kept j ≡ Some y → IsFree x y
  pub back : (i j : ℕ) (x y : Step) → i < j → slice_get kept i ≡ Some x → slice_get kept j ≡ Some y → IsFree y x
  pub onward : (i there : ℕ) (x y : Step) → i + 1 < length kept → next ≤ there → there ≤ last → slice_get kept i ≡ Some x → slice_get steps there ≡ Some y
      → IsFree x y
  pub beyond : (i there : ℕ) (x y : Step) → i + 1 ≡ length kept → next < there → there ≤ last → slice_get kept i ≡ Some x → slice_get steps there ≡ Some y
      → IsFree x y
  pub behind : (i there : ℕ) (x y : Step) → (0 < i) ⊎ (there < last) → next ≤ there → there ≤ last → slice_get kept i ≡ Some x → slice_get steps there ≡ Some y
      → IsFree y x

pub none_kept : (steps kept : List Step) (first last : ℕ) → kept ≡ [] → first < last → IsKept steps kept first last first
none_kept steps kept first last none lt = grind arith

-- ---- one step more

free_same : (x y x' y' : Step) → IsSame x x' → IsSame y y' → IsFree x y → IsFree x' y'
free_same x y x' y' a b free reason c =
    free reason (comes_same reason x' y' x y (record { entry = sym a.entry; place = sym a.place }) (record { entry = sym b.entry; place = sym b.place }) c)

same_itself : (x : Step) → IsSame x x
same_itself x = record { entry = refl; place = refl }

-- an entry of the part isn't followed by one that is nearer to it than the last is to the first
free_behind : (steps : List Step) (first last at there : ℕ) (x y : Step) → IsFreeWithin steps (last - first) → first ≤ at → (first < at) ⊎ (there < last)
    → at < there → there ≤ last → slice_get steps at ≡ Some x → slice_get steps there ≡ Some y → IsFree y x
free_behind steps first last at there x y free le near lt in_part a b = free there at y x lt (elim near [ inl more ↦ omega arith | inr less ↦ omega arith ]) b a

-- the entries of a place are the same
one_at : (steps : List Step) (k : ℕ) (x y : Step) → slice_get steps k ≡ Some x → slice_get steps k ≡ Some y → x ≡ y
one_at steps k x y a b = cc

pub kept_more : (steps kept : List Step) (first last at next : ℕ) (x z : Step) → IsFreeWithin steps (last - first) → IsKept steps kept first last at → at < last
    → slice_get steps at ≡ Some x → IsSame x z
    → at < next → next ≤ last → ComesAfterAt steps at next z.reason
    → ((there : ℕ) (u v : Step) → next < there → there ≤ last → slice_get steps at ≡ Some u → slice_get steps there ≡ Some v → IsFree u v)
    → IsKept steps (kept ++ z ∷ []) first last next
kept_more steps kept first last at next x z free is below here same onto in_part comes farthest =
    let long = length-append kept (z ∷ []) in
    let many = is.many in
    let z_behind : (there : ℕ) (y : Step) → (0 < length kept) ⊎ (there < last) → next ≤ there → there ≤ last → slice_get steps there ≡ Some y → IsFree y z =
    λ there y near le inside b. free_same y x y z (same_itself y) same
    (free_behind steps first last at there x y free (omega arith) (elim near [ inl more ↦ inl (omega arith) | inr less ↦ inr less ]) (omega arith) inside
    here b) in
    record {
      many = omega arith;
      before = in_part;
      own = λ k y a. elim (pushed_at kept z k y a) [
        | inl old ↦ is.own k y old.1
        | inr new ↦ (at, x, here, subst (λ (w : Step). x.entry ≡ w.entry) new.1 same.entry, subst (λ (w : Step). x.place ≡ w.place) new.1 same.place)
      ];
      empty = λ none. absurd (omega arith);
      begins = λ u v a b. elim (pushed_at kept z 0 u a) [
        | inl old ↦ is.begins u v old.1 b
        | inr new ↦
            let there : at ≡ first = is.empty (sym new.0) in
            let one : x ≡ v = one_at steps first x v (subst (λ (k : ℕ). slice_get steps k ≡ Some x) there here) b in
            subst (λ (w : Step). IsSame w u) one (subst (IsSame x) new.1 same)
      ];
      chain = λ y end b to.
          chain_joined kept z [] end (is.chain x z here same) (comes_same z.reason x y z end same to (comes x y here b));
      apart = λ i j u v far a b. elim (pushed_at kept z j v b) [
        | inl old ↦ elim (pushed_at kept z i u a) [
          | inl older ↦ is.apart i j u v far older.1 old.1
          | inr new ↦ absurd (let lt = old.0 in let e = new.0 in omega arith)
        ]
        | inr last_one ↦ elim (pushed_at kept z i u a) [
          | inl older ↦ subst (IsFree u) last_one.1
              (free_same u x u z (same_itself u) same (is.onward i at u x (let e = last_one.0 in omega arith) (omega arith) (omega arith) older.1 here))
          | inr new ↦ absurd (let e = new.0 in let f = last_one.0 in omega arith)
        ]
      ];
      back = λ i j u v far a b. elim (pushed_at kept z j v b) [
        | inl old ↦ elim (pushed_at kept z i u a) [
          | inl older ↦ is.back i j u v far older.1 old.1
          | inr new ↦ absurd (let lt = old.0 in let e = new.0 in omega arith)
        ]
        | inr last_one ↦ elim (pushed_at kept z i u a) [
          | inl older ↦ subst (λ (w : Step). IsFree w u) last_one.1
              (free_same x u z u same (same_itself u) (is.behind i at u x (inr below) (omega arith) (omega arith) older.1 here))
          | inr new ↦ absurd (let e = new.0 in let f = last_one.0 in omega arith)
        ]
      ];
      onward = λ i there u v few le inside a b. elim (pushed_at kept z i u a) [
        | inl older ↦ elim (cases_eq (i + 1) (length kept)) [
          | inl one ↦ is.beyond i there u v one (omega arith) inside older.1 b
          | inr more ↦ let lt = older.0 in is.onward i there u v (omega (arith, more, lt)) (omega arith) inside older.1 b
        ]
        | inr new ↦ absurd (let e = new.0 in omega arith)
      ];
      beyond = λ i there u v one lt inside a b. elim (pushed_at kept z i u a) [
        | inl older ↦ absurd (let less = older.0 in omega arith)
        | inr new ↦ subst (λ (w : Step). IsFree w v) new.1 (free_same x v z v same (same_itself v) (farthest there x v lt inside here b))
      ];
      behind = λ i there u v near le inside a b. elim (pushed_at kept z i u a) [
        | inl older ↦ is.behind i there u v near (omega arith) inside older.1 b
        | inr new ↦ subst (IsFree v) new.1 (z_behind there v (subst (λ (k : ℕ). (0 < k) ⊎ (there < last)) new.0 near) le inside b)
      ];
    }

-- ---- the end

round_of : (kept : List Step) (z x : Step) (reason : Reason) → (length kept ≡ 0 → ⊥) → ((y : Step) → slice_get kept 0 ≡ Some y → IsSame x y) → IsChain kept z
    → z.reason ≡ reason → ((y : Step) → IsSame x y → ComesAfter reason z y) → IsRound (kept ++ z ∷ [])
round_of [] z x reason some begins chain by closes = absurd (some refl)
round_of (k ∷ kept) z x reason some begins chain by closes =
    chain_joined (k ∷ kept) z [] k chain (subst (λ (r : Reason). ComesAfter r z k) (sym by) (closes k (begins k refl)))

pub kept_closes : (steps kept : List Step) (first last : ℕ) (x z y : Step) (reason : Reason) → IsKept steps kept first last last → first < last
    → slice_get steps last ≡ Some x → IsSame x z → z.reason ≡ reason
    → slice_get steps first ≡ Some y → ComesAfterAt steps last first reason → last < length steps → IsBareRoundOf steps (kept ++ z ∷ [])
kept_closes steps kept first last x z y reason is apart here same by there closes inside =
    let long = length-append kept (z ∷ []) in
    let some : length kept ≡ 0 → ⊥ = λ none. let at = is.empty none in omega arith in
    record {
      round = round_of kept z y reason some (λ w a. is.begins w y a there) (is.chain x z here same) by
          (λ w to. comes_same reason x y z w same to (closes x y here there));
      bare = λ i j u v r a b comes. elim (pushed_at kept z i u a) [
        | inl old ↦ elim (pushed_at kept z j v b) [
          | inl older ↦ elim (cases_lt i j) [
            | inl lt ↦ elim (cases_eq (i + 1) j) [
              | inl one ↦ inl (sym one)
              | inr more ↦ absurd (is.apart i j u v (omega (arith, more, lt)) old.1 older.1 r comes)
            ]
            | inr past ↦ elim (cases_eq i j) [
              | inl one ↦ absurd (free_itself v r
                  (subst (λ (w : Step). ComesAfter r w v) (one_at kept j u v (subst (λ (k : ℕ). slice_get kept k ≡ Some u) one old.1) older.1) comes))
              | inr ne ↦ absurd (is.back j i v u (omega (arith, past, ne)) older.1 old.1 r comes)
            ]
          ]
          | inr new ↦ elim (cases_eq (i + 1) (length kept)) [
            | inl one ↦ inl (new.0 ∙ sym one)
            | inr more ↦ let lt = old.0 in
                absurd (free_same u x u z (same_itself u) same (is.onward i last u x (omega (arith, more, lt)) (omega arith) (omega arith) old.1 here) r
                (subst (ComesAfter r u) (sym new.1) comes))
          ]
        ]
        | inr new ↦ elim (pushed_at kept z j v b) [
          | inl older ↦ elim (cases_eq j 0) [
            | inl first_one ↦ inr (let e = new.0 in omega arith, first_one)
            | inr more ↦ absurd (free_same x v z v same (same_itself v)
                (is.behind j last v x (inl (omega (arith, more))) (omega arith) (omega arith) older.1 here) r
                (subst (λ (w : Step). ComesAfter r w v) (sym new.1) comes))
          ]
          | inr newer ↦ absurd (free_itself z r
              (subst (λ (w : Step). ComesAfter r z w) (sym newer.1) (subst (λ (w : Step). ComesAfter r w v) (sym new.1) comes)))
        ]
      ];
      own = λ k w a. elim (pushed_at kept z k w a) [
        | inl old ↦ is.own k w old.1
        | inr new ↦ (last, x, here, subst (λ (v : Step). x.entry ≡ v.entry) new.1 same.entry, subst (λ (v : Step). x.place ≡ v.place) new.1 same.place)
      ];
      few = let many = is.many in omega arith;
    }

-- entries of a cycle's entries stand in their logs
in_log : (logs : List (List Entry)) (steps : List Step) (k : ℕ) (x : Step) → AllByRecursion (IsInLog logs) steps → slice_get steps k ≡ Some x → IsInLog logs x
in_log logs [] k x all a = cc
in_log logs (s ∷ steps) zero x all a = let is : s ≡ x = cc in subst (IsInLog logs) is all.0
in_log logs (s ∷ steps) (suc k) x all a = in_log logs steps k x all.1 a

all_in_log : (logs : List (List Entry)) (kept : List Step) → ((k : ℕ) (x : Step) → slice_get kept k ≡ Some x → IsInLog logs x)
    → AllByRecursion (IsInLog logs) kept
all_in_log logs [] each = tt
all_in_log logs (x ∷ kept) each = (each zero x refl, all_in_log logs kept (λ k y a. each (suc k) y a))

pub cycle_kept : (logs : List (List Entry)) (steps kept : List Step) → IsCycle logs steps → AreOf steps kept → IsRound kept → IsCycle logs kept
cycle_kept logs steps kept cycle own round = grind (arith, all_in_log, in_log)

pub still_kept : (steps kept kept' : List Step) (first last next next' : ℕ) → IsKept steps kept first last next → kept' ≡ kept → next' ≡ next
    → IsKept steps kept' first last next'
still_kept steps kept kept' first last next next' is same there =
    subst (λ (ks : List Step). IsKept steps ks first last next') (sym same) (subst (IsKept steps kept first last) (sym there) is)
