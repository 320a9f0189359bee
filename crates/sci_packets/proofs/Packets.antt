-- Packets and their spellings.
use Rattle.std.proofs.Common.{◌≡◌, ℕ, ◌+◌, ◌^◌, ◌<◌, ◌≤◌, Bool, true, false, cond, eqb, ltb, ◌&&◌, List, [], ◌∷◌, ◌++◌, length, take, drop, Option, Some}
use Rattle.std.proofs.Common.{None, Result, Ok, Err, refl, sym, ap, subst, ◌∙◌, arith}
use Rattle.std.proofs.lemmas.Bool.{le-ltb, lt-ltb, ltb-false, Decides.{nat_tests}}
use Rattle.std.proofs.lemmas.List.{append-nil, take_at, drop_all, take-append-drop, length-append, length-take-le}
use Rattle.std.specs.{Prelude.{IfSome, IfOk, IsErr, ◌↔◌}, Option.{is_some}, Result.{result_err}}
use mathlib.Core.HLevel.{Σ_prop_path}
use Rattle.std.proofs.Props.{props}
use Rattle.sci_packets.specs.declared.{body.Body.{Body}, command.Command.{Command}, fault.PacketFault.{PacketFault}}
use Rattle.sci_packets.specs.declared.{fault.PacketFault.TheVariants.{Short}, header.Header.{Header}}
use Rattle.sci_packets.specs.{declared.packet.Packet.{Packet}, Fault.{header_fault, fault_of}}
use Rattle.sci_packets.specs.Fields.{spelled, header_in, word_bytes, contents_words, contents_in, contents_for}
use Rattle.sci_packets.specs.Spelling.{IsContents, IsPacket, header_of, spelling, Spells, NoneSpells}
use Rattle.sci_packets.specs.Table.{carries, command_of, command_with, parts_of, number_of, identifier_of, body_fault, takes_contents}
use Rattle.sci_words.specs.declared.stamped.Stamped.{Stamped}
use Rattle.sci_packets.proofs.Bodies.{command_again, contents_cancel, has_contents, is_named, number-lt, number_carries, number_of-lt, same_body}
use Rattle.sci_packets.proofs.Bodies.{same_command, same_identifier}
use Rattle.sci_packets.proofs.Fields.{IsBytes, length-word_bytes, length-words_at, words_takes, words_at-lt, field_at-lt}
use Rattle.sci_packets.proofs.Headers.{IsHeader, length-spelled, spelled-append, header_takes, header_cancel, header_in-fits}

pub header_fits : (p : Packet) → IsPacket p → IsHeader (header_of p)
header_fits p h = grind (arith, number-lt, number_of-lt)

-- a line's number with its bound
abbrev Line : Type 0
Line = (line : ℕ) × (line < 2 ^ 42)

same_lines : (a b : Line) → a.0 ≡ b.0 → a ≡ b
same_lines a b e = Σ_prop_path (λ line. hlevel props) e

joined : (made : ℕ → ℕ → ℕ → Line → Body → Packet) (t t' s s' c c' : ℕ) (l l' : Line) (b b' : Body) → t ≡ t' → s ≡ s' → c ≡ c' → l ≡ l' → b ≡ b'
    → made t s c l b ≡ made t' s' c' l' b'
joined made t t' s s' c c' l l' b b' p q r u v = cc

-- packets are the same if their fields are
same_fields : (p q : Packet) → p.target ≡ q.target → p.source ≡ q.source → p.control ≡ q.control → p.line ≡ q.line → p.body ≡ q.body → p ≡ q
same_fields p q a b c d e =
    joined (λ target source control line body. record { target = target; source = source; control = control; line = line.0; body = body; low_line = line.1 })
    p.target q.target p.source q.source p.control q.control (p.line, p.low_line) (q.line, q.low_line) p.body q.body a b c
    (same_lines (p.line, p.low_line) (q.line, q.low_line) d) e

-- a packet by its header and its contents
pub same_packet : (p q : Packet) → IsPacket p → IsPacket q → header_of p ≡ header_of q → (parts_of p.body).contents ≡ (parts_of q.body).contents → p ≡ q
same_packet p q h k e s =
    let command = same_command (command_of p.body) (command_of q.body) (ap (λ (x : Header). x.command) e) in
    grind (arith, same_identifier, same_fields, same_body)

-- spellings that agree as far as both go are of one packet
pub spelling_cancel : (p q : Packet) (r s : List ℕ) → IsPacket p → IsPacket q → spelling p ++ r ≡ spelling q ++ s → (p ≡ q) × (r ≡ s)
unfolding spelling
spelling_cancel p q r s h k e =
    let a = parts_of p.body in
    let b = parts_of q.body in
    let shown = sym (spelled-append (header_of p) (word_bytes (contents_words a.contents)) r) ∙ e
    ∙ spelled-append (header_of q) (word_bytes (contents_words b.contents)) s in
    let headers = header_cancel (header_of p) (header_of q) _ _ (header_fits p h) (header_fits q k) shown in
    let both : is_some a.contents ≡ is_some b.contents =
    sym (number_carries p.body) ∙ ap (λ (x : Header). carries (command_with x.command)) headers.0 ∙ number_carries q.body in
    let contents = contents_cancel a.contents b.contents r s h.contents k.contents both headers.1 in
    (same_packet p q h k headers.0 contents.0, contents.1)

-- ---- what is spelled so is read

-- the header and the contents of what a packet begins
pub header_again : (p : Packet) (rest bytes : List ℕ) → IsPacket p → IsBytes bytes → bytes ≡ spelling p ++ rest → header_in bytes ≡ header_of p
unfolding spelling
header_again p rest bytes h fits e =
    let text = word_bytes (contents_words (parts_of p.body).contents) in
    let shown : bytes ≡ spelled (header_of p) (text ++ rest) = e ∙ spelled-append (header_of p) text rest in
    let long : 16 ≤ length bytes = omega (arith, ap (λ (b : List ℕ). length b) shown, length-spelled (header_of p) (text ++ rest)) in
    (header_cancel (header_in bytes) (header_of p) _ _ (header_in-fits bytes fits) (header_fits p h) (sym (header_takes bytes fits long) ∙ shown)).0

eqb-below : (a : ℕ) → a < 0xFFFF → eqb a 0xFFFF ≡ false
eqb-below a h = grind (arith, nat_tests)

identifier_again : (a : Option ℕ) → IfSome a (λ id. id < 0xFFFF) → identifier_of (number_of a) ≡ a
identifier_again None h = refl
identifier_again (Some id) h = rw (eqb-below id h) refl

at_least : (b : Bool) → 16 ≤ cond b 88 16
at_least true = omega arith
at_least false = omega arith

sixteen : (b : Bool) → 16 + cond b 72 0 ≡ cond b 88 16
sixteen true = refl
sixteen false = refl

-- the length of a packet
pub length-contents : (a : Option Stamped) → IfSome a IsContents → length (word_bytes (contents_words a)) ≡ cond (is_some a) 72 0
length-contents None h = refl
length-contents (Some s) h = omega (arith, length-word_bytes (s.version ∷ s.line), h.width)

pub length-spelling : (p : Packet) → IsPacket p → length (spelling p) ≡ cond (is_some (parts_of p.body).contents) 88 16
unfolding spelling
length-spelling p h = grind (arith, length-spelled, length-contents, sixteen)

-- a packet that begins bytes has no fault there
pub body_known : (p : Packet) (length : ℕ) → IsPacket p → cond (is_some (parts_of p.body).contents) 88 16 ≤ length
    → body_fault (command_of p.body) (parts_of p.body).identifier length ≡ None
unfolding body_fault
body_known p length h long = grind (arith, is_named, has_contents, ltb)

pub header_known : (p : Packet) (length : ℕ) → IsPacket p → cond (is_some (parts_of p.body).contents) 88 16 ≤ length
    → header_fault (command_with (header_of p).command) (header_of p) length ≡ None
unfolding header_fault
header_known p length h long = rw (command_again (command_of p.body)) (grind (arith, eqb-below, identifier_again, body_known))

pub none_wrong : (p : Packet) (rest bytes : List ℕ) → IsPacket p → IsBytes bytes → bytes ≡ spelling p ++ rest → fault_of bytes ≡ None
unfolding fault_of
none_wrong p rest bytes h fits e =
    rw (header_again p rest bytes h fits e) (grind (arith, length-spelling, length-append, at_least, le-ltb, header_known))

-- ---- what is read is spelled so

contents_in-fits : (bytes : List ℕ) → IsBytes bytes → IsContents (contents_in bytes)
unfolding contents_in
contents_in-fits bytes fits = grind (arith, field_at-lt, length-words_at, words_at-lt)

contents_take : (bytes : List ℕ) → IsBytes bytes → 88 ≤ length bytes → drop 16 bytes ≡ word_bytes (contents_words (Some (contents_in bytes))) ++ drop 88 bytes
unfolding contents_in
contents_take bytes fits long = words_takes 16 9 88 bytes fits refl long

pub contents_for-fits : (command : Command) (bytes : List ℕ) → IsBytes bytes → IfSome (contents_for command bytes) IsContents
contents_for-fits command bytes fits =
    elim (takes_contents command) as (λ b. IfSome (cond b (Some (contents_in bytes)) None) IsContents) [ true ↦ contents_in-fits bytes fits | false ↦ tt ]

taken : (b : Bool) (s t : Stamped) → Some s ≡ cond b (Some t) None → s ≡ t
taken true s t e = cc
taken false s t e = absurd cc

tail_takes : (a : Option Stamped) (command : Command) (bytes : List ℕ) → IsBytes bytes → a ≡ contents_for command bytes → cond (is_some a) 88 16 ≤ length bytes
    → drop 16 bytes ≡ word_bytes (contents_words a) ++ drop (cond (is_some a) 88 16) bytes
tail_takes None command bytes fits e long = refl
tail_takes (Some s) command bytes fits e long = grind (arith, taken, contents_take)

-- the bytes of a packet with the header and the contents that are read
pub packet_takes : (p : Packet) (bytes : List ℕ) → IsBytes bytes → header_of p ≡ header_in bytes
    → (parts_of p.body).contents ≡ contents_for (command_of p.body) bytes → cond (is_some (parts_of p.body).contents) 88 16 ≤ length bytes
    → bytes ≡ spelling p ++ drop (cond (is_some (parts_of p.body).contents) 88 16) bytes
unfolding spelling
packet_takes p bytes fits e s long = grind (arith, at_least, header_takes, tail_takes, spelled-append)

-- ---- how many bytes there are if nothing is wrong

passed : (b : Bool) (e : PacketFault) (r : Option PacketFault) → cond b (Some e) r ≡ None → (b ≡ false) × (r ≡ None)
passed true e r h = absurd cc
passed false e r h = (refl, h)

not_short : (b : Bool) (n : ℕ) → 16 ≤ n → (b && ltb n 88) ≡ false → cond b 88 16 ≤ n
not_short true n le h = ltb-false n 88 h
not_short false n le h = le

pub none_long : (bytes : List ℕ) → fault_of bytes ≡ None → cond (carries (command_with (header_in bytes).command)) 88 16 ≤ length bytes
unfolding fault_of header_fault body_fault
none_long bytes none = grind (arith, passed, not_short, ltb-false)

-- fewer bytes than a header has
pub too_short : (bytes : List ℕ) → length bytes < 16 → Some Short ≡ fault_of bytes
unfolding fault_of
too_short bytes lt = rw (lt-ltb (length bytes) 16 lt) refl

-- ---- the clauses of a decoder

is_packet : (p : Packet) (bytes : List ℕ) → IsBytes bytes → header_of p ≡ header_in bytes
    → (parts_of p.body).contents ≡ contents_for (command_of p.body) bytes → (p.target < 0xFFFF) × (p.source < 0xFFFF)
    → IfSome (parts_of p.body).identifier (λ id. id < 0xFFFF) → IsPacket p
is_packet p bytes fits e s nodes identifier = grind (arith, header_in-fits, contents_for-fits)

pub record Found (p : Packet) (k : ℕ) (bytes : List ℕ) : Type 0 where
  pub spells : Spells p (take k bytes)
  pub within : k ≤ length bytes

pub is_found : (p : Packet) (k : ℕ) (bytes : List ℕ) → IsBytes bytes → header_of p ≡ header_in bytes
    → (parts_of p.body).contents ≡ contents_for (command_of p.body) bytes → (p.target < 0xFFFF) × (p.source < 0xFFFF)
    → IfSome (parts_of p.body).identifier (λ id. id < 0xFFFF) → None ≡ fault_of bytes → k ≡ cond (is_some (parts_of p.body).contents) 88 16 → Found p k bytes
is_found p k bytes fits e s nodes identifier none size =
    let h = is_packet p bytes fits e s nodes identifier in
    let which : carries (command_with (header_in bytes).command) ≡ is_some (parts_of p.body).contents =
    ap (λ (x : Header). carries (command_with x.command)) (sym e) ∙ number_carries p.body in
    let long : cond (is_some (parts_of p.body).contents) 88 16 ≤ length bytes =
    subst (λ (b : Bool). cond b 88 16 ≤ length bytes) which (none_long bytes (sym none)) in
    let text = packet_takes p bytes fits e s long in
    let front : take k bytes ≡ spelling p = ap (λ (b : List ℕ). take k b) text ∙ take_at (spelling p) _ k (length-spelling p h ∙ sym size) in
    record { spells = record { packet = h; spelled_so = front }; within = omega (arith, size, long) }

some_not_none : (e : PacketFault) → Some e ≡ None → ⊥
some_not_none e h = cc

-- what a decoder that answers the fault and a front of the bytes must say of a packet that begins them
pub only_found : (bytes : List ℕ) (r : Result (Packet × ℕ) PacketFault) → IsBytes bytes → IfOk r (λ found. Spells found.0 (take found.1 bytes))
    → IfOk r (λ found. found.1 ≤ length bytes) → result_err r ≡ fault_of bytes
    → (p : Packet) (k : ℕ) → k ≤ length bytes → Spells p (take k bytes) → r ≡ Ok (p, k)
only_found bytes (Ok found) fits spells within fault p k le h =
    let e : spelling found.0 ++ drop found.1 bytes ≡ spelling p ++ drop k bytes =
    ap (λ (t : List ℕ). t ++ drop found.1 bytes) (sym spells.spelled_so) ∙ take-append-drop found.1 bytes ∙ sym (take-append-drop k bytes)
    ∙ ap (λ (t : List ℕ). t ++ drop k bytes) h.spelled_so in
    let same = spelling_cancel found.0 p _ _ spells.packet h.packet e in
    let size : found.1 ≡ k = sym (length-take-le found.1 bytes within)
    ∙ ap (λ (t : List ℕ). length t) (spells.spelled_so ∙ ap spelling same.0 ∙ sym h.spelled_so) ∙ length-take-le k bytes le in
    ap (λ (x : Packet). Ok (x, found.1)) same.0 ∙ ap (λ (n : ℕ). Ok (p, n)) size
only_found bytes (Err e) fits spells within fault p k le h =
    let none = none_wrong p (drop k bytes) bytes h.packet fits (sym (take-append-drop k bytes) ∙ ap (λ (t : List ℕ). t ++ drop k bytes) h.spelled_so) in
    absurd (some_not_none e (fault ∙ none))

err_not_ok : (e : PacketFault) (x : Packet × ℕ) → Err e ≡ Ok x → ⊥
err_not_ok e x h = cc

pub none_found : (bytes : List ℕ) (r : Result (Packet × ℕ) PacketFault) → IsBytes bytes → IfOk r (λ found. Spells found.0 (take found.1 bytes))
    → IfOk r (λ found. found.1 ≤ length bytes) → result_err r ≡ fault_of bytes → IsErr r ↔ NoneSpells bytes
none_found bytes (Ok found) fits spells within fault = (λ err. absurd cc, λ none. absurd (none found.0 found.1 within spells))
none_found bytes (Err e) fits spells within fault =
    (λ err p k le h. absurd (err_not_ok e (p, k) (only_found bytes (Err e) fits spells within fault p k le h)), λ none. refl)

pub none_refused : (bytes : List ℕ) (r : Result (Packet × ℕ) PacketFault) (e e' : PacketFault) → r ≡ Err e → e ≡ e' → IsBytes bytes → Some e' ≡ fault_of bytes
    → IsErr r ↔ NoneSpells bytes
none_refused bytes r e e' p q fits fault =
    subst (λ (x : Result (Packet × ℕ) PacketFault). IsErr x ↔ NoneSpells bytes) (sym (p ∙ ap (λ (x : PacketFault). Err x) q))
    (none_found bytes (Err e') fits tt tt fault)

-- ---- the clauses of an encoder

pub packet_made : (p : Packet) (h : Header) → h ≡ header_of p → (p.target < 0xFFFF) × (p.source < 0xFFFF)
    → h.control < 2 ^ 16 → IfSome (parts_of p.body).identifier (λ id. id < 0xFFFF) → IfSome (parts_of p.body).contents IsContents → IsPacket p
packet_made p h made nodes control identifier contents = grind arith

-- the header and nothing more
pub short_written : (p : Packet) (h : Header) (old new : List ℕ) → h ≡ header_of p → (parts_of p.body).contents ≡ None → new ≡ spelled h (drop 16 old)
    → new ≡ spelling p ++ drop 16 old
unfolding spelling
short_written p h old new e none written = grind (arith, spelled-append)

-- the header and the contents
pub long_written : (p : Packet) (h : Header) (stamped : Stamped) (old mid new : List ℕ) → h ≡ header_of p → (parts_of p.body).contents ≡ Some stamped
    → length old ≡ 88 → mid ≡ spelled h (drop 16 old) → new ≡ take 16 mid ++ word_bytes (stamped.version ∷ stamped.line)
    → new ≡ spelling p ++ drop 88 old
unfolding spelling
long_written p h stamped old mid new e some len written after =
    let words = word_bytes (stamped.version ∷ stamped.line) in
    let text : spelling p ≡ spelled (header_of p) words = ap (λ (a : Option Stamped). spelled (header_of p) (word_bytes (contents_words a))) some in
    let rest : drop 88 old ≡ [] = drop_all 88 old (omega arith) in
    let front : take 16 mid ≡ spelled h [] =
    ap (λ (t : List ℕ). take 16 t) (written ∙ sym (spelled-append h [] (drop 16 old))) ∙ take_at (spelled h []) (drop 16 old) 16 (length-spelled h []) in
    after
    ∙ ap (λ (t : List ℕ). t ++ words) front
    ∙ spelled-append h [] words
    ∙ ap (λ (x : Header). spelled x words) e
    ∙ sym (append-nil (spelled (header_of p) words))
    ∙ ap (λ (t : List ℕ). t ++ []) (sym text)
    ∙ ap (λ (t : List ℕ). spelling p ++ t) (sym rest)
