-- Two bodies with the same parts are the same body, and the table knows each body's command.
use Rattle.std.proofs.Common.{◌≡◌, ℕ, zero, suc, get_or, ◌<◌, ◌^◌, false, List, ◌∷◌, ◌++◌, Option, Some, None, refl, sym, ap, ◌∙◌, arith}
use Rattle.std.specs.{Prelude.{IfSome, unwrap_or}, Option.{is_some}}
use Rattle.sci_words.specs.{declared.stamped.Stamped.{Stamped}, Stamped.{zero_stamped}}
use Rattle.sci_packets.specs.declared.{body.Body.{Body}, command.Command.{Command}}
use Rattle.sci_packets.specs.declared.command.Command.TheVariants.{Mread, Cread, Purge, Roll, Wback, Setback, Fread, Claim, Clear, Mdata, Mgone, Cdata}
use Rattle.sci_packets.specs.declared.command.Command.TheVariants.{Purged, Rolled, Wbok, Wbno, Told, Busy, Fdata}
use Rattle.sci_packets.specs.{Fields.{word_bytes, contents_words}, Spelling.{IsContents}}
use Rattle.sci_packets.specs.Table.{carries, command_number, command_of, command_with, parts_of, number_of, is_misnamed, takes_contents}
use Rattle.sci_packets.proofs.Fields.{words_cancel}
use Rattle.sci_packets.specs.declared.body.Body.TheVariants as body

-- the body of a command with this identifier and these contents, as far as it takes them
unfoldable body_with : Command → Option ℕ → Option Stamped → Body
body_with Mread id stamped = body.Mread
body_with Cread id stamped = body.Cread
body_with Purge id stamped = body.Purge
body_with Roll id stamped = body.Roll id
body_with Wback id stamped = body.Wback (unwrap_or stamped zero_stamped)
body_with Setback id stamped = body.Setback (unwrap_or id 0)
body_with Fread id stamped = body.Fread
body_with Claim id stamped = body.Claim
body_with Clear id stamped = body.Clear
body_with Mdata id stamped = body.Mdata (unwrap_or stamped zero_stamped)
body_with Mgone id stamped = body.Mgone (unwrap_or id 0)
body_with Cdata id stamped = body.Cdata (unwrap_or stamped zero_stamped)
body_with Purged id stamped = body.Purged id
body_with Rolled id stamped = body.Rolled
body_with Wbok id stamped = body.Wbok
body_with Wbno id stamped = body.Wbno
body_with Told id stamped = body.Told
body_with Busy id stamped = body.Busy
body_with Fdata id stamped = body.Fdata id (unwrap_or stamped zero_stamped)

body_again : (b : Body) → body_with (parts_of b).command (parts_of b).identifier (parts_of b).contents ≡ b
unfolding body_with parts_of
body_again (body.Roll forward) = refl
body_again _ = refl

joined : (c c' : Command) (i i' : Option ℕ) (s s' : Option Stamped) → c ≡ c' → i ≡ i' → s ≡ s' → body_with c i s ≡ body_with c' i' s'
joined c c' i i' s s' p q r = cc

pub same_body : (a b : Body) → command_of a ≡ command_of b → (parts_of a).identifier ≡ (parts_of b).identifier
    → (parts_of a).contents ≡ (parts_of b).contents → a ≡ b
same_body a b c i s = sym (body_again a) ∙ joined _ _ _ _ _ _ c i s ∙ body_again b

-- commands by their numbers
pub command_again : (c : Command) → command_with (command_number c) ≡ Some c
unfolding command_with
command_again Mread = refl
command_again _ = refl

some_same : (c d : Command) → Some c ≡ Some d → c ≡ d
some_same c d e = cc

pub same_command : (c d : Command) → command_number c ≡ command_number d → c ≡ d
same_command c d e = some_same c d (sym (command_again c) ∙ ap command_with e ∙ command_again d)

pub number-above : (c : Command) → 0 < command_number c
number-above Mread = omega arith
number-above _ = omega arith

pub number-lt : (c : Command) → command_number c < 2 ^ 16
number-lt Mread = omega arith
number-lt _ = omega arith

-- what the table says of the command of each body
pub is_named : (b : Body) → is_misnamed (command_of b) (parts_of b).identifier ≡ false
unfolding parts_of is_misnamed
is_named (body.Roll forward) = refl
is_named _ = refl

pub has_contents : (b : Body) → takes_contents (command_of b) ≡ is_some (parts_of b).contents
unfolding parts_of
has_contents (body.Roll forward) = refl
has_contents _ = refl

-- and of its number
pub number_carries : (b : Body) → carries (command_with (command_number (command_of b))) ≡ is_some (parts_of b).contents
number_carries b = ap carries (command_again (command_of b)) ∙ has_contents b

-- identifiers by their numbers
pub number_of-lt : (a : Option ℕ) → IfSome a (λ id. id < 0xFFFF) → number_of a < 2 ^ 16
number_of-lt None h = omega arith
number_of-lt (Some id) h = omega (arith, h)

pub same_identifier : (a b : Option ℕ) → IfSome a (λ id. id < 0xFFFF) → IfSome b (λ id. id < 0xFFFF) → number_of a ≡ number_of b → a ≡ b
same_identifier None None h k e = refl
same_identifier None (Some b) h k e = absurd (omega (arith, k, e))
same_identifier (Some a) None h k e = absurd (omega (arith, h, e))
same_identifier (Some a) (Some b) h k e = ap (λ (id : ℕ). Some id) e

each : (stamped : Stamped) → IsContents stamped → (i : ℕ) → get_or (stamped.version ∷ stamped.line) i 0 < 2 ^ 64
each stamped h zero = h.version
each stamped h (suc i) = h.words i

-- contents by their bytes, whatever follows
pub contents_cancel : (a b : Option Stamped) (r s : List ℕ) → IfSome a IsContents → IfSome b IsContents → is_some a ≡ is_some b
    → word_bytes (contents_words a) ++ r ≡ word_bytes (contents_words b) ++ s → (a ≡ b) × (r ≡ s)
contents_cancel None None r s h k v e = (refl, e)
contents_cancel None (Some b) r s h k v e = absurd cc
contents_cancel (Some a) None r s h k v e = absurd cc
contents_cancel (Some a) (Some b) r s h k v e =
    let same = words_cancel (a.version ∷ a.line) (b.version ∷ b.line) r s (ap (λ (n : ℕ). suc n) (h.width ∙ sym k.width)) (each a h) (each b k) e in
    let version : a.version ≡ b.version = cc (same.0) in
    let line : a.line ≡ b.line = cc (same.0) in
    let made : List ℕ → ℕ → Stamped = λ l v. record { line = l; version = v } in
    let both : a ≡ b = ap (λ (l : List ℕ). made l a.version) line ∙ ap (λ (v : ℕ). made b.line v) version in
    (ap (λ (c : Stamped). Some c) both, same.1)
