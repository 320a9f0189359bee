-- What a cache's calls leave as it was: its number, its sizes, and how many lines it has.
use Rattle.std.proofs.Common.{◌≡◌, ℕ, Some, None, Ok, Err, Option, Result, length, refl, sym, subst, arith}
use Rattle.std.proofs.lemmas.List.{length-set}
use Rattle.std.specs.Prelude.{IfOk, IsOk, IsErr, option_map}
use Rattle.sci_words.specs.declared.{event.AskKind.{AskKind}, operation.{Op.{Op}, Reply.{Reply}}}
use Rattle.sci_packets.specs.declared.body.Body.{Body}
use Rattle.sci_cache.specs.{declared.fault.AskFault.{AskFault}, State.{CacheState}, Asking.{Asked}}
use Rattle.sci_cache.specs.{Performing.{Performed, performing}, Line.{LineState, line_in, line_asking, line_accepting}}
use Rattle.sci_cache.specs.Cache.{CacheOf, Letter, line_of, with_line, has_slot, cache_asking, cache_accepting, cache_performing, cache_asked}

pub record SameSizes (old new : CacheOf) : Type 0 where
  pub me : new.me ≡ old.me
  pub nodes : new.nodes ≡ old.nodes
  pub slots : new.slots ≡ old.slots
  pub lines : length new.lines ≡ length old.lines

pub same_line : (cache : CacheOf) (line : ℕ) (part : LineState) → SameSizes cache (with_line cache line part)
same_line cache line part = record { me = refl; nodes = refl; slots = refl; lines = length-set cache.lines line part }

accepted_same : (cache : CacheOf) (line : ℕ) (state : Option CacheState) (new : CacheOf)
    → option_map (λ s. with_line cache line (line_in (line_of cache line) s)) state ≡ Some new
    → SameSizes cache new
accepted_same cache line None new e = cc
accepted_same cache line (Some s) new e = grind (arith, same_line)

pub same_accepting : (cache : CacheOf) (line control : ℕ) (body : Body) (new : CacheOf) → cache_accepting cache line control body ≡ Some new
    → SameSizes cache new
same_accepting cache line control body = accepted_same cache line (line_accepting (line_of cache line) control body)

performed_same : (cache : CacheOf) (line : ℕ) (done : Option Performed) (new : CacheOf) (reply : Reply) (version : ℕ)
    → option_map {U = CacheOf × Reply × ℕ} (λ d. (with_line cache line (line_in (line_of cache line) d.next), d.reply, d.version)) done ≡ Some (
      new,
      reply,
      version,
    )
    → SameSizes cache new
performed_same cache line None new reply version e = cc
performed_same cache line (Some d) new reply version e = grind (arith, same_line)

pub same_performing : (cache : CacheOf) (op : Op) (new : CacheOf) (reply : Reply) (version : ℕ) → cache_performing cache op ≡ Some (new, reply, version)
    → SameSizes cache new
same_performing cache op = performed_same cache op.line (performing (line_of cache op.line).state op)

asked_same : (cache : CacheOf) (line : ℕ) (made : Result Asked AskFault) (new : CacheOf) (letter : Letter)
    → cache_asked cache line made ≡ Ok (new, letter)
    → SameSizes cache new
asked_same cache line (Err fault) new letter e = cc
asked_same cache line (Ok a) new letter e = grind (arith, same_line)

pub same_asking : (cache : CacheOf) (line : ℕ) (kind : AskKind) (new : CacheOf) (letter : Letter) → cache_asking cache line kind ≡ Ok (new, letter)
    → SameSizes cache new
same_asking cache line kind = asked_same cache line (line_asking (line_of cache line) kind (has_slot cache))

same_made : (cache : CacheOf) (line : ℕ) (kind : AskKind) (made : Result (CacheOf × Letter) AskFault) (new : CacheOf) → cache_asking cache line kind ≡ made
    → IsOk made → IfOk made (λ asked. new ≡ asked.0) → SameSizes cache new
same_made cache line kind (Ok asked) new e ok is = subst (SameSizes cache) (sym is) (same_asking cache line kind asked.0 asked.1 e)
same_made cache line kind (Err fault) new e ok is = cc

pub same_asked : (cache : CacheOf) (line : ℕ) (kind : AskKind) (new : CacheOf) → IsOk (cache_asking cache line kind)
    → IfOk (cache_asking cache line kind) (λ asked. new ≡ asked.0) → SameSizes cache new
same_asked cache line kind new = same_made cache line kind (cache_asking cache line kind) new refl

pub same_itself : (cache : CacheOf) → SameSizes cache cache
same_itself cache = record { me = refl; nodes = refl; slots = refl; lines = refl }

-- a call that keeps the sizes if it succeeds, and leaves the cache as it was if it doesn't
pub same_either : {T E : Type 0} (result : Result T E) (Q : T → Type 0) (old new : CacheOf) → IfOk result Q → ((x : T) → Q x → SameSizes old new)
    → (IsErr result → new ≡ old) → SameSizes old new
same_either (Ok x) Q old new taken keeps same = keeps x taken
same_either (Err e) Q old new taken keeps same = subst (SameSizes old) (sym (same refl)) (same_itself old)
