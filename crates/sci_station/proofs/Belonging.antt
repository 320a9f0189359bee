-- Stations of one fabric, or ends of the same lanes, in a vector that is changed.
use Rattle.std.proofs.Common.{◌≡◌, ℕ, zero, suc, ◌<◌, List, [], ◌∷◌, length, map, take, get_or, set, Some, refl, sym, subst, ◌∙◌, arith}
use Rattle.std.specs.{Prelude.{slice_get}, List.{swap}}
use Rattle.atomic_table.specs.Seated.{TableId}
use Rattle.sci_core.specs.Size.{Size}
use Rattle.sci_lanes.specs.{Shown.{opening_part}, Ends.{EndOf, LanesOf}, Gathering.{AreOf, IsOf}}
use Rattle.sci_lanes.proofs.Opening.{size_opened}
use Rattle.sci_station.specs.{Ends.{IsSameEnd}, Station.{end_in, opening_station}}
use Rattle.sci_core.proofs.Basics.Options.{same_some}

-- an end that is the same is one of the same lanes
pub same_of : (f : LanesOf) (old new : EndOf) → IsSameEnd old new → IsOf f old → IsOf f new
same_of f old new same is = record { table = same.table ∙ is.table; sized = same.node.sized ∙ is.sized }

nothing : (place : ℕ) (end : EndOf) → slice_get [] place ≡ Some end → ⊥
nothing place end e = cc

-- those who each have an end of the lanes
module _ {S : Type 0} (end_of : S → EndOf) (f : LanesOf) where
  -- the ends are of them
  abbrev pub All : List S → Type 0
  All xs = AreOf f (map end_of xs)

  later : (x : S) (xs : List S) → All (x ∷ xs) → All xs
  later x xs all = λ place end is. all (suc place) end is

  first : (x : S) (xs : List S) → All (x ∷ xs) → IsOf f (end_of x)
  first x xs all = all zero (end_of x) refl

  of_there : (xs : List S) (k : ℕ) (d : S) → k < length xs → All xs → IsOf f (end_of (get_or xs k d))
  of_there [] k d lt all = absurd (omega arith)
  of_there (y ∷ xs) zero d lt all = first y xs all
  of_there (y ∷ xs) (suc k) d lt all = of_there xs k d (omega arith) (later y xs all)

  pub of_more : (x : S) (xs : List S) → IsOf f (end_of x) → All xs → All (x ∷ xs)
  of_more x xs is all zero end e = subst (IsOf f) (same_some (end_of x) end e) is
  of_more x xs is all (suc place) end e = all place end e

  of_put : (xs : List S) (k : ℕ) (x : S) → IsOf f (end_of x) → All xs → All (set xs k x)
  of_put [] k x is all = all
  of_put (y ∷ xs) zero x is all = of_more x xs is (later y xs all)
  of_put (y ∷ xs) (suc k) x is all = of_more y (set xs k x) (first y xs all) (of_put xs k x is (later y xs all))

  -- one of them is changed, and its end is the same
  pub of_changed : (xs : List S) (k : ℕ) (old new : S) → k < length xs → old ≡ get_or xs k old → IsSameEnd (end_of old) (end_of new) → All xs
      → All (set xs k new)
  of_changed xs k old new lt is same all =
      of_put xs k new (same_of f _ _ same (subst (λ (s : S). IsOf f (end_of s)) (sym is) (of_there xs k old lt all))) all

  pub of_swapped : (xs : List S) (i j : ℕ) → i < length xs → j < length xs → All xs → All (swap xs i j)
  of_swapped [] i j a b all = all
  of_swapped (y ∷ xs) i j a b all =
      of_put (set (y ∷ xs) i (get_or (y ∷ xs) j y)) j (get_or (y ∷ xs) i y) (of_there (y ∷ xs) i y a all)
      (of_put (y ∷ xs) i (get_or (y ∷ xs) j y) (of_there (y ∷ xs) j y b all) all)

  pub of_take : (n : ℕ) (xs : List S) → All xs → All (take n xs)
  of_take zero xs all = λ place end e. absurd (nothing place end e)
  of_take (suc n) [] all = all
  of_take (suc n) (y ∷ xs) all = of_more y (take n xs) (first y xs all) (of_take n xs (later y xs all))

-- the ends of new lanes are of them
pub opened_ends : (table : TableId) (size : Size) (ns : List ℕ)
    → All (λ end. end) (record { table = table; size = size }) (map (λ n. record { table = table; part = opening_part size n }) ns)
opened_ends table size [] = λ place end e. absurd (nothing place end e)
opened_ends table size (n ∷ ns) =
    of_more (λ end. end) (record { table = table; size = size }) (record { table = table; part = opening_part size n })
    (map (λ m. record { table = table; part = opening_part size m }) ns) (record { table = refl; sized = size_opened size n }) (opened_ends table size ns)

-- the stations of a new fabric are its own
pub opened_of : (table : TableId) (size : Size) (ns : List ℕ)
    → All end_in (record { table = table; size = size }) (map opening_station (map (λ n. record { table = table; part = opening_part size n }) ns))
opened_of table size [] = λ place end e. absurd (nothing place end e)
opened_of table size (n ∷ ns) =
    of_more end_in (record { table = table; size = size }) (opening_station (record { table = table; part = opening_part size n }))
    (map opening_station (map (λ m. record { table = table; part = opening_part size m }) ns)) (record { table = refl; sized = size_opened size n })
    (opened_of table size ns)
