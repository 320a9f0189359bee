-- Structs of a trace, one more of them.
use Rattle.std.proofs.Common.{◌≡◌, ℕ, zero, suc, ◌+◌, ◌<◌, List, [], ◌∷◌, ◌++◌, length, map, get_or, take, drop, Option}
use Rattle.std.proofs.Common.{sym, subst, arith, inl, inr}
use Rattle.std.proofs.lemmas.List.{take_more, take-append-drop, get_or_default}
use Rattle.std.proofs.lemmas.List.Elements.{All-map, Contains-append_cases, Contains-append_left, Contains-append_right}
use Rattle.std.specs.{Prelude.{All}, List.{Contains}}
use Rattle.sci_words.specs.declared.limits.TheConstants.{MAX_NODES}
use Rattle.sci_judge.specs.{declared.access.Access.{Access}, Access.{AreKnown}}
use Rattle.sci_c_traces.specs.declared.{access.SciAccess.{SciAccess}, trace.SciLastWord.{SciLastWord}}
use Rattle.sci_c_traces.specs.Trace.{AreAtOdds, AreLastWords, IsAccess, IsLearnt, IsOther, access_of}

known_each : (structs : List SciAccess) → All IsAccess structs → All (λ c. (access_of c).processor < MAX_NODES) structs
known_each structs each k d lt = (each k d lt).processor

-- the operations that structs say are of one of sixteen processors
pub all_known : (structs : List SciAccess) (accesses : List Access) → accesses ≡ map access_of structs → All IsAccess structs → AreKnown accesses
all_known structs accesses are each =
    subst AreKnown (sym are) (All-map (λ (a : Access). a.processor < MAX_NODES) access_of structs (known_each structs each))

-- a list of one
alone : (s x : SciLastWord) → s ≡ x → Contains (s ∷ []) x
alone s x is = (0, omega arith, is)

is_alone : (s x : SciLastWord) → Contains (s ∷ []) x → s ≡ x
is_alone s x (zero, lt, is) = is
is_alone s x (suc i, lt, is) = absurd (omega arith)

-- one more struct is learnt
pub learnt_more : (xs : List SciLastWord) (i : ℕ) (d : SciLastWord) (old new : ℕ → Option ℕ) → i < length xs → AreLastWords (take i xs) old
    → IsLearnt (get_or xs i d) old new → AreLastWords (take (i + 1) xs) new
learnt_more xs i d old new lt before learnt address word =
    let s = get_or xs i d in
    let x : SciLastWord = record { address = address; word = word } in
    let more : take (i + 1) xs ≡ take i xs ++ s ∷ [] = take_more xs i d lt in (
      (λ known. subst (λ (ys : List SciLastWord). Contains ys x) (sym more) (elim ((learnt address word).0 known) [
        | inl early ↦ Contains-append_left (take i xs) (s ∷ []) x ((before address word).0 early)
        | inr here ↦ Contains-append_right (take i xs) (s ∷ []) x (alone s x here)
      ])),
      (λ there. (learnt address word).1 (elim (Contains-append_cases (take i xs) (s ∷ []) x (subst (λ (ys : List SciLastWord). Contains ys x) more there)) [
        | inl early ↦ inl ((before address word).1 early)
        | inr here ↦ inr (is_alone s x here)
      ])),
    )

-- another word was known at the address of a struct
pub at_odds : (xs : List SciLastWord) (i : ℕ) (d : SciLastWord) (known : ℕ → Option ℕ) → i < length xs → AreLastWords (take i xs) known
    → IsOther (get_or xs i d) known → AreAtOdds xs
at_odds xs i d known lt before other =
    let s = get_or xs i d in
    let x : SciLastWord = record { address = s.address; word = other.0 } in
    record {
      address = s.address;
      one = other.0;
      other = s.word;
      says_one = subst (λ (ys : List SciLastWord). Contains ys x) (take-append-drop i xs)
          (Contains-append_left (take i xs) (drop i xs) x ((before s.address other.0).0 other.1));
      says_other = (i, lt, get_or_default xs i s d lt);
      differ = other.2;
    }
