-- Each row of the tables, as far as it tells who waits and for which request. Who asks or takes an answer stands as it stood.
use Rattle.std.proofs.Common.{◌≡◌, ℕ, ◌+◌, ◌%◌, ◌<◌, true, false, List, [], ◌∷◌, Some, None, refl, ◌∙◌, sym, ap, subst, arith, rules}
use Rattle.std.specs.Prelude.{IfSome}
use Rattle.sci_words.specs.declared.{limits.TheConstants.{CONTROLS}, event.AskKind.{AskKind}, operation.Op.{Op}}
use Rattle.sci_packets.specs.declared.body.Body.{Body}
use Rattle.sci_cache.specs.State.{CacheState, Asking, Joining, FreshJoining, Head, FreshHead, Rolling, Telling, waits}
use Rattle.sci_cache.specs.{Asking.{Asked, asking}, Serving.{serving}, Accepting.{accepting}}
use Rattle.sci_cache.specs.{Performing.{Performed, performing}, Line.{LineState}, Cache.{Letter}}
use Rattle.sci_core.specs.Tidy.{IsSentIn, IsAwaited, HasItsPackets}
use Rattle.sci_core.proofs.Shape.Standings.{Alike, performing_keeps}
use Rattle.sci_words.specs.declared.event.AskKind.TheVariants as kind
use Rattle.sci_packets.specs.declared.body.Body.TheVariants as body

-- ---- asking

abbrev asks_letter : ℕ → Letter → Asked → Type 0
asks_letter home letter asked = (asked.to ≡ None → letter.target ≡ home) × ((p : ℕ) → asked.to ≡ Some p → letter.target ≡ p) × (letter.body ≡ asked.request)

pub record BeginsToWait (state : CacheState) (asked : Asked) : Type 0 where
  pub alike : Alike state None asked.next None
  pub idle : waits state ≡ false
  pub waiting : waits asked.next ≡ true
  pub sent : (home : ℕ) (letter : Letter) → asks_letter home letter asked → IsSentIn home asked.next letter

pub asking_waits : (state : CacheState) (k : AskKind) → IfSome (asking state k) (BeginsToWait state)
asking_waits (Joining p false) kind.Cread = search rules
asking_waits (FreshJoining p false c) kind.Cread = search rules
asking_waits (Head None c) kind.Wback = search rules
asking_waits (FreshHead None c) kind.Clear = search rules
asking_waits (Telling r w false) kind.Setback = search rules
asking_waits _ kind.Mread = search rules
asking_waits _ _ = search rules

-- ---- what leaves the wait as it was

-- a line as it is awaited: who waits still does, with the same number, for a request that fits still
pub record Keeps (home : ℕ) (old new : LineState) : Type 0 where
  pub wait : waits new.state ≡ waits old.state
  pub asks : new.asks ≡ old.asks
  pub sent : (letter : Letter) → IsSentIn home old.state letter → IsSentIn home new.state letter

pub keeps_itself : (home : ℕ) (line : LineState) → Keeps home line line
keeps_itself home line = record { wait = refl; asks = refl; sent = λ letter h. h }

pub record KeepsWait (old new : CacheState) : Type 0 where
  pub wait : waits new ≡ waits old
  pub sent : (home : ℕ) (letter : Letter) → IsSentIn home old letter → IsSentIn home new letter

same_wait : (state : CacheState) → KeepsWait state state
same_wait state = record { wait = refl; sent = λ home letter h. h }

pub serving_waits : (state : CacheState) (n : ℕ) (request : Body) → IfSome (serving state n request) (λ (served : CacheState × Body). KeepsWait state served.0)
serving_waits (Head f c) n body.Cread = search rules
serving_waits _ n body.Cread = search rules
serving_waits _ n _ = search rules

pub performing_waits : (state : CacheState) (op : Op) → IfSome (performing state op) (λ (done : Performed). KeepsWait state done.next)
performing_waits state op = performing_keeps (KeepsWait state) state op (same_wait state)
    (λ c d e. record { wait = sym (ap waits e); sent = λ home letter h. absurd (subst (λ (s : CacheState). IsSentIn home s letter) e h) })

-- ---- accepting

pub record EndsToWait (old : CacheState) (answer : Body) (new : CacheState) : Type 0 where
  pub alike : Alike old (Some answer) new None
  pub waiting : waits old ≡ true
  pub idle : waits new ≡ false

pub accepting_waits : (state : CacheState) (answer : Body) → IfSome (accepting state answer) (EndsToWait state answer)
accepting_waits Asking (body.Fdata None c) = search rules
accepting_waits (Joining p true) body.Busy = search rules
accepting_waits (FreshJoining p true c) body.Busy = search rules
accepting_waits (Rolling None b c) body.Rolled = search rules
accepting_waits (Telling r w true) body.Busy = search rules
accepting_waits _ body.Busy = search rules
accepting_waits _ _ = search rules

-- ---- the packets of a line

pub keeps_packets : (home : ℕ) (old new : LineState) (packets : List Letter) → Keeps home old new → HasItsPackets home old packets
    → HasItsPackets home new packets
keeps_packets home old new [] keeps has = keeps.wait ∙ has
keeps_packets home old new (letter ∷ []) keeps has = grind arith
keeps_packets home old new (letter ∷ another ∷ letters) keeps has = has

pub idle_has_none : (home : ℕ) (line : LineState) (packets : List Letter) → waits line.state ≡ false → HasItsPackets home line packets → packets ≡ []
idle_has_none home line [] idle has = refl
idle_has_none home line (letter ∷ []) idle has = let waiting = has.waiting in cc
idle_has_none home line (letter ∷ another ∷ letters) idle has = elim has [ ]

pub record HasOne (home : ℕ) (line : LineState) (packets : List Letter) : Type 0 where
  pub letter : Letter
  pub one : packets ≡ letter ∷ []
  pub awaited : IsAwaited home line letter

pub some_has_one : (home : ℕ) (line : LineState) (packets : List Letter) → (packets ≡ [] → ⊥) → HasItsPackets home line packets → HasOne home line packets
some_has_one home line [] some has = absurd (some refl)
some_has_one home line (letter ∷ []) some has = record { letter = letter; one = refl; awaited = has }
some_has_one home line (letter ∷ another ∷ letters) some has = elim has [ ]

-- the number of an ask is that of the last one, once it is made
pub asked_number : (asks : ℕ) → asks < CONTROLS → asks ≡ ((asks + 1) % 65536 + 65535) % 65536
asked_number asks small = omega arith
