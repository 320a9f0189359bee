-- The trace that structs say.
use Rattle.std.specs.Prelude.{◌≡◌, ◌≢◌, ◌<◌, ◌≤◌, ◌↔◌, ◌⊎◌, ◌==◌, if◌then◌else◌, ℕ, List, All, Contains, Option, Some, map}
use Rattle.std.specs.{BTreeMap.{get}, Ordering.{nat_cmp}}
use Rattle.sci_words.specs.declared.limits.TheConstants.{MAX_NODES}
use Rattle.sci_judge.specs.declared.{access.Access.{Access}, access.Kind.{Kind, TheVariants.{Load, Store, Atomic}}, trace.Trace.{Trace}}
use Rattle.sci_c_traces.specs.declared.{access.SciAccess.{SciAccess}, trace.SciLastWord.{SciLastWord}}

-- the struct of an operation has a processor and a kind that there are, and its end isn't before its beginning
pub record IsAccess (c : SciAccess) : Type 0 where
  pub processor : c.processor < MAX_NODES
  pub kind : c.kind ≤ 2
  pub times : c.begin ≤ c.end

-- 0 is a load, 1 a store, and 2 an atomic
abbrev pub kind_by : ℕ → (read wrote : ℕ) → Kind
kind_by kind read wrote = if kind == 0 then Load read else (if kind == 1 then Store wrote else Atomic read wrote)

abbrev pub kind_of : SciAccess → Kind
kind_of c = kind_by c.kind c.read c.wrote

-- the operation that a struct says
abbrev pub access_of : SciAccess → Access
access_of c = record { processor = c.processor; address = c.address; kind = kind_of c; begin = c.begin; end = c.end; line = c.id }

-- the last words that are known are those of the structs
abbrev pub AreLastWords : List SciLastWord → (ℕ → Option ℕ) → Type 0
AreLastWords structs known = (address word : ℕ) → (known address ≡ Some word) ↔ Contains structs (record { address = address; word = word })

abbrev pub known_in : Trace → ℕ → Option ℕ
known_in trace address = get nat_cmp trace.last address

-- structs say this trace
pub record SaysTrace (accesses : List SciAccess) (last : List SciLastWord) (trace : Trace) : Type 0 where
  pub each : All IsAccess accesses
  pub accesses_are : trace.accesses.items ≡ map access_of accesses
  pub last_words : AreLastWords last (known_in trace)

-- two structs say other last words at one address
pub record AreAtOdds (structs : List SciLastWord) : Type 0 where
  pub address : ℕ
  pub one : ℕ
  pub other : ℕ
  pub says_one : Contains structs (record { address = address; word = one })
  pub says_other : Contains structs (record { address = address; word = other })
  pub differ : one ≢ other

-- structs say no trace
abbrev pub SayNoTrace : List SciAccess → List SciLastWord → Type 0
SayNoTrace accesses last = (All IsAccess accesses → ⊥) ⊎ AreAtOdds last

-- ---- inside

-- what is known with a struct more
abbrev pub IsLearnt : SciLastWord → (old new : ℕ → Option ℕ) → Type 0
IsLearnt struct old new =
    (address word : ℕ) → (new address ≡ Some word) ↔ ((old address ≡ Some word) ⊎ (struct ≡ record { address = address; word = word }))

-- another word is known at the address of a struct
abbrev pub IsOther : SciLastWord → (known : ℕ → Option ℕ) → Type 0
IsOther struct known = (word : ℕ) × (known struct.address ≡ Some word) × (word ≢ struct.word)
