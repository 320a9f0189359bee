-- Where a member stands in its list: before the authority, as the authority, or behind it; and which contents it has or
-- gets. Each row of the tables but those of served requests leaves that as it was.
use Rattle.std.proofs.Common.{◌≡◌, ℕ, ◌-◌, ◌^◌, nat_lt, Bool, true, false, if◌then◌else◌, Option, Some, None, refl, sym, ap, subst, rules, arith}
use Rattle.std.proofs.lemmas.Option.{IfSome_then}
use Rattle.std.specs.Prelude.{IfSome}
use Rattle.sci_words.specs.{declared.{stamped.Stamped.{Stamped}, operation.Op.{Op}}, Operation.{is_maker}}
use Rattle.sci_words.specs.Stamped.{after, reply_of}
use Rattle.sci_packets.specs.declared.body.Body.{Body}
use Rattle.sci_cache.specs.State.{CacheState, Joining, FreshJoining, Head, FreshHead, Below, Purging, Claiming, Clearing, Returning, Rolling}
use Rattle.sci_cache.specs.{State.{Telling, waits, contents_of}, Performing.{Performed, performing}, Member.{link_of}}
use Rattle.sci_cache.specs.Cache.{Letter}
use Rattle.sci_core.specs.{Node.{is_setback}, Tidy.{IsSentIn, IsAccepted}}
use Rattle.sci_cache.specs.Accepting.{settled}
use Rattle.sci_cache.specs.Member.{is_fresh}
use Rattle.sci_packets.specs.declared.body.Body.TheVariants as body

-- a member comes, leads or follows
pub data Role : Type 0 where
  Coming : Role
  Leading : Role
  Following : Role

abbrev pub role_of : CacheState → Option Role
role_of (Joining p sent) = Some Coming
role_of (FreshJoining p sent c) = Some Coming
role_of (Head f c) = Some Leading
role_of (FreshHead f c) = Some Leading
role_of (Purging q c) = Some Leading
role_of (Claiming f c) = Some Leading
role_of (Clearing c) = Some Leading
role_of (Returning c) = Some Leading
role_of (Below f b c) = Some Following
role_of (Rolling f b c) = Some Following
role_of _ = None

-- the contents that a state has, if it has any, are these
abbrev pub Agrees : Stamped → CacheState → Type 0
Agrees c state = IfSome (contents_of state) (λ d. d ≡ c)

abbrev pub sight_of : CacheState → Option (Option ℕ) × Option Role × Bool
sight_of state = (link_of state, role_of state, is_fresh state)

-- a line stands as it stood, with the same contents, and takes what comes if it took it before
pub record Alike (old : CacheState) (was : Option Body) (new : CacheState) (now : Option Body) : Type 0 where
  pub sight : sight_of (settled new now) ≡ sight_of (settled old was)
  pub agrees : (c : Stamped) → Agrees c (settled old was) → Agrees c (settled new now)
  pub accepts : IsAccepted old was → IsAccepted new now

pub alike_itself : (state : CacheState) (answer : Option Body) → Alike state answer state answer
alike_itself state answer = record { sight = refl; agrees = λ c h. h; accepts = λ h. h }

-- ---- a refusal

abbrev IsRefused : CacheState → Type 0
IsRefused state = Alike state None state (Some body.Busy)

pub busy_alike : (h : ℕ) (state : CacheState) (request : Letter) → IsSentIn h state request → is_setback request.body ≡ false → IsRefused state
busy_alike h (Joining p true) request sent other = search rules
busy_alike h (FreshJoining p true d) request sent other = search rules
busy_alike h (Rolling None b d) request sent other = search rules
busy_alike h (Telling r w true) request sent other = let told : is_setback request.body ≡ true = ap is_setback sent.0 in cc
busy_alike h _ request sent other = search rules

-- ---- performing

-- the state after an operation: a load leaves it, and a maker makes contents, at the head of a list of one
pub data Leaves (state : CacheState) (op : Op) (c : Stamped) (next : CacheState) : Type 0 where
  Reads : is_maker op ≡ false → next ≡ state → Leaves state op c next
  Makes : state ≡ Head None c → next ≡ Head None (after c op) → Leaves state op c next

-- an operation on the contents of a member that doesn't wait
pub record Performs (state : CacheState) (op : Op) (done : Performed) : Type 0 where
  pub contents : Stamped
  pub has : contents_of state ≡ Some contents
  pub idle : waits state ≡ false
  pub behind : Option ℕ
  pub member : link_of state ≡ Some behind
  pub reply : done.reply ≡ reply_of contents.line op
  pub version : done.version ≡ (after contents op).version
  pub leaves : Leaves state op contents done.next

reads : (state : CacheState) (op : Op) (c : Stamped) (f : Option ℕ) (makes : Bool) → contents_of state ≡ Some c → waits state ≡ false
    → link_of state ≡ Some f → is_maker op ≡ makes
    → IfSome (if makes then None else Some (record { reply = reply_of c.line op; version = c.version; next = state })) (Performs state op)
reads state op c f true has idle member is = tt
reads state op c f false has idle member is = grind arith

makes_or_reads : (op : Op) (c : Stamped) (makes room : Bool) → is_maker op ≡ makes
    → IfSome (if makes then (if room then Some (record { reply = reply_of c.line op; version = (after c op).version; next = Head None (after c op) }) else None)
    else Some (record { reply = reply_of c.line op; version = c.version; next = Head None c })) (Performs (Head None c) op)
makes_or_reads op c true true is = grind arith
makes_or_reads op c true false is = tt
makes_or_reads op c false room is = reads (Head None c) op c None false refl refl refl is

pub performing_does : (state : CacheState) (op : Op) → IfSome (performing state op) (Performs state op)
performing_does (Head None c) op = makes_or_reads op c (is_maker op) (nat_lt c.version (2 ^ 64 - 1)) refl
performing_does (Head (Some q) c) op = reads (Head (Some q) c) op c (Some q) (is_maker op) refl refl refl refl
performing_does (FreshHead f c) op = reads (FreshHead f c) op c f (is_maker op) refl refl refl refl
performing_does (Below f b c) op = reads (Below f b c) op c f (is_maker op) refl refl refl refl
performing_does _ op = tt

leaves_so : (P : CacheState → Type 0) (state : CacheState) (op : Op) (c : Stamped) (next : CacheState) → P state
    → ((d e : Stamped) → state ≡ Head None d → P (Head None e)) → Leaves state op c next → P next
leaves_so P state op c next h makes (Reads _ same) = subst P (sym same) h
leaves_so P state op c next h makes (Makes was same) = subst P (sym same) (makes c (after c op) was)

-- what holds of a state, and of made contents, holds after an operation
pub performing_keeps : (P : CacheState → Type 0) (state : CacheState) (op : Op) → P state → ((d e : Stamped) → state ≡ Head None d → P (Head None e))
    → IfSome (performing state op) (λ (done : Performed). P done.next)
performing_keeps P state op h makes =
    IfSome_then (performing state op) (performing_does state op) (λ done does. leaves_so P state op does.contents done.next h makes does.leaves)

-- ---- a member that comes and isn't fresh has no contents

pub coming_empty : (state : CacheState) (c : Stamped) → role_of state ≡ Some Coming → is_fresh state ≡ false → Agrees c state
coming_empty (Joining p sent) c comes stale = tt
coming_empty (FreshJoining p sent d) c comes stale = cc
coming_empty _ c comes stale = search rules
