-- The clauses of `from_words`, by those of a decoder of the bytes of the words.
use Rattle.std.proofs.Common.{◌≡◌, ℕ, ◌≤◌, List, length, take, Result, Ok, Err, ◌*◌, ◌/◌, arith}
use Rattle.sci_packets.specs.{declared.{fault.PacketFault.{PacketFault}, packet.Packet.{Packet}}, Fields.{word_bytes}}
use Rattle.sci_packets.specs.Spelling.{Spells, SpellsInWords, NoneSpellsInWords}
use Rattle.sci_packets.proofs.WordLaws.{begins_bytes}

-- what a decoder says of each packet that begins the bytes
abbrev pub Only : List ℕ → Result (Packet × ℕ) PacketFault → Type 0
Only bytes r = (p : Packet) (k : ℕ) → k ≤ length bytes → Spells p (take k bytes) → r ≡ Ok (p, k)

abbrev pub OnlyInWords : List ℕ → Result (Packet × ℕ) PacketFault → Type 0
OnlyInWords words r = (p : Packet) (k : ℕ) → k ≤ length words → SpellsInWords p (take k words) → r ≡ Ok (p, k)

abbrev done : Packet × ℕ → Result (Packet × ℕ) PacketFault
done x = Ok x

divided : (p q : Packet) (len k : ℕ) → done (p, len) ≡ done (q, 8 * k) → done (p, len / 8) ≡ done (q, k)
divided p q len k e = grind arith

pub only_words : (words : List ℕ) (packet : Packet) (len : ℕ) → Only (word_bytes words) (Ok (packet, len)) → OnlyInWords words (Ok (packet, len / 8))
only_words words packet len only p k le h =
    let b = begins_bytes p k words le h in
    divided packet p len k (only p (8 * k) b.within b.spells)

refused : (e : PacketFault) (x : Packet × ℕ) → Err e ≡ Ok x → ⊥
refused e x h = cc

pub none_in_words : (words : List ℕ) (e : PacketFault) → Only (word_bytes words) (Err e) → NoneSpellsInWords words
none_in_words words e only p k le h =
    let b = begins_bytes p k words le h in
    refused e (p, 8 * k) (only p (8 * k) b.within b.spells)
