-- Entries with their lines of the text, as references alone.
use Rattle.std.proofs.Common.{◌≡◌, ◌<◌, ◌+◌, ℕ, Bool, List, [], ◌∷◌, ◌++◌, All, Option, Some, None, true, false, get_or, length, take, drop, ap, subst, sym}
use Rattle.std.proofs.Common.{arith}
use Rattle.std.proofs.{Common.{◌∙◌, add-one, append_assoc}, Math.Seq.{drop-cons}}
use Rattle.std.proofs.lemmas.{List.{append-nil, length-map, get_or-map, map-append, take-map, take_more, take-append-drop}, Option.{slice_get-get_or}}
use Rattle.std.specs.Prelude.{slice_get}
use Rattle.sci_history.proofs.AuditFinds.{FailsLater, all_at, entries_at, entry_at, later_here, later_more, no_entry, no_ref}
use Rattle.sci_history.proofs.AuditVersions.{NoneFail, from_none_fail, none_fail}
use Rattle.sci_history.specs.{declared.entry.Entry.{Entry}, Audit.{entries_of, first_failing}}
use Rattle.sci_reports.specs.declared.numbered.Numbered.{Numbered}
use Rattle.sci_reports.specs.{EntryLines.{entries_in, entry_of, entry_refs}, Faulty.{IsFirst, IsLast, IsLastOf}}

abbrev pub no_numbered : Numbered
no_numbered = record { text_line = 0; entry = no_ref }

pub within_refs : (list : List Numbered) (i : ℕ) → i < length list → i < length (entry_refs list)
within_refs list i lt = rw length-map lt

-- the entry at a place
pub ref_at : (list : List Numbered) (i : ℕ) → i < length list → entry_at (entry_refs list) i ≡ (get_or list i no_numbered).entry.now
ref_at list i lt = ap (λ ref. ref.now) (get_or-map (λ it. it.entry) list i no_numbered no_ref lt)

pub stands_at : (list : List Numbered) (i : ℕ) → i < length list → slice_get (entries_in list) i ≡ Some (get_or list i no_numbered).entry.now
stands_at list i lt =
    let refs = entry_refs list in
    let within = within_refs list i lt in
    let long : i < length (entries_of refs) = rw length-map within in
    slice_get-get_or (entries_of refs) i no_entry long ∙ ap Some (entries_at refs i within ∙ ref_at list i lt)

-- what holds of all entries holds of this one
pub all_so : (P : Entry → Type 0) (list : List Numbered) (i : ℕ) → i < length list → All P (entries_in list) → P (get_or list i no_numbered).entry.now
all_so P list i lt all = subst P (ref_at list i lt) (all_at P (entry_refs list) i (within_refs list i lt) all)

-- ---- places of a list

pub entries_append : (xs ys : List Numbered) → entries_in (xs ++ ys) ≡ entries_in xs ++ entries_in ys
entries_append xs ys = ap entries_of (map-append (λ it. it.entry) xs ys) ∙ map-append (λ ref. ref.now) (entry_refs xs) (entry_refs ys)

pub entries_taken : (list : List Numbered) (i : ℕ) → take i (entries_in list) ≡ entries_in (take i list)
entries_taken list i = take-map (λ ref. ref.now) i (entry_refs list) ∙ ap entries_of (take-map (λ it. it.entry) i list)

-- a list has the element at a place between those before it and those after it
pub parted : (list : List Numbered) (i : ℕ) → i < length list → list ≡ take i list ++ get_or list i no_numbered ∷ drop (i + 1) list
parted list i lt = sym (take-append-drop i list) ∙ ap (λ (l : List Numbered). take i list ++ l) (rw add-one (drop-cons list i no_numbered lt))

none_fail_more : (passes : List Entry → Entry → Bool) (before entries : List Entry) (entry : Entry) → NoneFail passes before entries
    → passes (before ++ entries) entry ≡ false → NoneFail passes before (entries ++ entry ∷ [])
none_fail_more passes before [] entry none past = (subst (λ (l : List Entry). passes l entry ≡ false) (append-nil before) past, tt)
none_fail_more passes before (e ∷ entries) entry none past =
    let past' = subst (λ (l : List Entry). passes l entry ≡ false) (sym (append_assoc before (e ∷ []) entries)) past in
    (none.0, none_fail_more passes (before ++ e ∷ []) entries entry none.1 past')

-- no entry passes a test, nor does one more
none_more : (passes : List Entry → Entry → Bool) (before entries : List Entry) (entry : Entry) → first_failing passes before entries ≡ None
    → passes (before ++ entries) entry ≡ false → first_failing passes before (entries ++ entry ∷ []) ≡ None
none_more passes before entries entry none past =
    from_none_fail passes before (entries ++ entry ∷ []) (none_fail_more passes before entries entry (none_fail passes before entries none) past)

-- ---- the last that passes a test

last_past : (passes : List Entry → Entry → Bool) (list : List Numbered) (it : Numbered) (last : Option Numbered)
    → passes (entries_in list) (entry_of it) ≡ false → IsLast passes list last → IsLast passes (list ++ it ∷ []) last
last_past passes list it None past none =
    rw (entries_append list (it ∷ [])) (none_more passes [] (entries_in list) (entry_of it) none past)
last_past passes list it (Some found) past h = record {
  before = h.before;
  after = h.after ++ it ∷ [];
  parts = ap (λ (l : List Numbered). l ++ it ∷ []) h.parts ∙ append_assoc h.before (found ∷ h.after) (it ∷ []);
  here = h.here;
  none_after = rw (entries_append h.after (it ∷ [])) (none_more passes (entries_in (h.before ++ found ∷ [])) (entries_in h.after) (entry_of it) h.none_after
      (subst (λ (l : List Entry). passes l (entry_of it) ≡ false) (whole found h) past));
}
  where
    whole : (found : Numbered) (h : IsLastOf passes list found)
        → entries_in list ≡ entries_in (h.before ++ found ∷ []) ++ entries_in h.after
    whole found h = ap entries_in (h.parts ∙ sym (append_assoc h.before (found ∷ []) h.after)) ∙ entries_append (h.before ++ found ∷ []) h.after

module _ (passes : List Entry → Entry → Bool) (list : List Numbered) (i : ℕ) (lt : i < length list) where
  abbrev there : Numbered
  there = get_or list i no_numbered

  taken_more : take (i + 1) list ≡ take i list ++ there ∷ []
  taken_more = take_more list i no_numbered lt

  -- the entry at a place passes the test
  pub last_here : passes (take i (entries_in list)) (entry_of there) ≡ true → IsLast passes (take (i + 1) list) (Some there)
  last_here is = grind (arith, taken_more, entries_taken)

  -- it doesn't
  pub last_stays : (last : Option Numbered) → passes (take i (entries_in list)) (entry_of there) ≡ false → IsLast passes (take i list) last
      → IsLast passes (take (i + 1) list) last
  last_stays last is h = grind (arith, taken_more, last_past, entries_taken)

-- ---- the first at which a test fails

-- the first that fails isn't among the first few
pub record NoneFails (fails : List Entry → Entry → Bool) (list : List Numbered) (n : ℕ) : Type 0 where
  pub later : FailsLater fails (entry_refs list) n
  pub none : first_failing fails [] (entries_in (take n list)) ≡ None

module _ (fails : List Entry → Entry → Bool) (list : List Numbered) (i : ℕ) (lt : i < length list) (h : NoneFails fails list i) where
  abbrev at : Entry
  at = (get_or list i no_numbered).entry.now

  so : (b : Bool) → fails (take i (entries_in list)) at ≡ b → fails (take i (entries_in list)) (entry_at (entry_refs list) i) ≡ b
  so b = subst (λ (e : Entry). fails (take i (entries_in list)) e ≡ b) (sym (ref_at list i lt))

  -- the first entry that fails is this one
  pub fails_here : fails (take i (entries_in list)) at ≡ true → Some at ≡ first_failing fails [] (entries_in list)
  fails_here is = ap Some (sym (ref_at list i lt)) ∙ later_here fails (entry_refs list) i (within_refs list i lt) (so true is) h.later

  -- it comes after this one
  pub fails_later : fails (take i (entries_in list)) at ≡ false → NoneFails fails list (i + 1)
  fails_later is = record {
    later = later_more fails (entry_refs list) i (within_refs list i lt) (so false is) h.later;
    none = last_stays fails list i lt None is h.none;
  }

  -- it stands at this place
  pub stands_first : fails (take i (entries_in list)) at ≡ true → IsFirst fails list (get_or list i no_numbered) (take i list)
  stands_first is = record {
    after = drop (i + 1) list;
    parts = parted list i lt;
    here = subst (λ (l : List Entry). fails l at ≡ true) (entries_taken list i) is;
    none_before = h.none;
  }
