-- The one spelling of each packet, over bytes and over words.
use Rattle.std.specs.Prelude.{ℕ, ◌≡◌, ◌<◌, ◌≤◌, ◌+◌, ◌*◌, ◌^◌, List, ◌∷◌, length, take, slice_index, IfSome}
use Rattle.sci_words.specs.declared.{limits.TheConstants.{WORDS_PER_LINE}, stamped.Stamped.{Stamped}}
use Rattle.sci_packets.specs.declared.{header.Header.{Header}, packet.Packet.{Packet}}
use Rattle.sci_packets.specs.Fields.{spelled, word_bytes, contents_words}
use Rattle.sci_packets.specs.Table.{command_number, command_of, parts_of, number_of}

-- what the types of a packet say of its numbers, which contracts see without bounds
pub record IsContents (stamped : Stamped) : Type 0 where
  pub version : stamped.version < 2 ^ 64
  pub width : length stamped.line ≡ WORDS_PER_LINE
  pub words : (i : ℕ) → slice_index stamped.line i < 2 ^ 64

pub record IsPacket (p : Packet) : Type 0 where
  pub target : p.target < 0xFFFF
  pub source : p.source < 0xFFFF
  pub control : p.control < 2 ^ 16
  pub identifier : IfSome (parts_of p.body).identifier (λ id. id < 0xFFFF)
  pub contents : IfSome (parts_of p.body).contents IsContents

-- the header of a packet: the offset is the line's number times 64
abbrev pub header_of : Packet → Header
header_of p = record {
  target = p.target;
  command = command_number (command_of p.body);
  source = p.source;
  control = p.control;
  offset = p.line * 64;
  identifier = number_of (parts_of p.body).identifier;
}

-- the bytes of a packet: the header, and the contents if the command carries them
unfoldable pub spelling : Packet → List ℕ
spelling p = spelled (header_of p) (word_bytes (contents_words (parts_of p.body).contents))

-- bytes are the spelling of a packet
pub record Spells (p : Packet) (bytes : List ℕ) : Type 0 where
  pub packet : IsPacket p
  pub spelled_so : bytes ≡ spelling p

-- no packet begins the bytes
abbrev pub NoneSpells : List ℕ → Type 0
NoneSpells bytes = (p : Packet) (k : ℕ) → k ≤ length bytes → Spells p (take k bytes) → ⊥

-- target, command, source and control in one word
abbrev pub first_word : Header → ℕ
first_word h = ((h.target * 2 ^ 16 + h.command) * 2 ^ 16 + h.source) * 2 ^ 16 + h.control

-- offset and identifier in one word
abbrev pub second_word : Header → ℕ
second_word h = h.offset * 2 ^ 16 + h.identifier

-- the words of a packet
unfoldable pub words_of : Packet → List ℕ
words_of p = first_word (header_of p) ∷ second_word (header_of p) ∷ contents_words (parts_of p.body).contents

-- words are those of a packet
pub record SpellsInWords (p : Packet) (words : List ℕ) : Type 0 where
  pub packet : IsPacket p
  pub spelled_so : words ≡ words_of p

-- each packet whose first word this is has this many words
abbrev pub CountsWords : ℕ → ℕ → Type 0
CountsWords first count = (p : Packet) (rest : List ℕ) → SpellsInWords p (first ∷ rest) → count ≡ length (first ∷ rest)

-- no packet begins the words
abbrev pub NoneSpellsInWords : List ℕ → Type 0
NoneSpellsInWords words = (p : Packet) (k : ℕ) → k ≤ length words → SpellsInWords p (take k words) → ⊥
