-- The packet that a struct says.
use Rattle.std.specs.Prelude.{◌≡◌, ℕ, ◌<◌, ◌≤◌, ◌+◌, ◌*◌, ◌^◌, ◌==◌, ◌⊎◌, List, [], ◌∷◌, Some, None, replicate, if◌then◌else◌}
use Rattle.sci_packets.specs.declared.fault.PacketFault.{PacketFault}
use Rattle.sci_packets.specs.declared.fault.PacketFault.TheVariants.{Short, UnknownCommand, BadOffset, BadIdentifier}
use Rattle.sci_packets.specs.{declared.packet.Packet.{Packet}, Fault.{fault_of_words}, Spelling.{SpellsInWords}}
use Rattle.sci_c_values.specs.{declared.packet.{SciPacket.{SciPacket}, PacketRefusal.{PacketRefusal}}, Saying.{SaysNone}}
use Rattle.sci_c_values.specs.declared.status.TheConstants.{SCI_SHORT, SCI_UNKNOWN_COMMAND, SCI_BAD_OFFSET, SCI_BAD_IDENTIFIER}
use Rattle.sci_c_values.specs.declared.packet.PacketRefusal.TheVariants as refusal

-- the status of a fault
abbrev pub fault_number : PacketFault → ℕ
fault_number Short = SCI_SHORT
fault_number UnknownCommand = SCI_UNKNOWN_COMMAND
fault_number BadOffset = SCI_BAD_OFFSET
fault_number BadIdentifier = SCI_BAD_IDENTIFIER

-- the words of a header: the offset of a line is its number times 64
abbrev pub first_of : SciPacket → ℕ
first_of c = ((c.target * 2 ^ 16 + c.command) * 2 ^ 16 + c.source) * 2 ^ 16 + c.control

abbrev pub second_of : SciPacket → ℕ
second_of c = c.line * 64 * 2 ^ 16 + c.identifier

-- the words of a struct
abbrev pub struct_words : SciPacket → List ℕ
struct_words c = first_of c ∷ second_of c ∷ (if c.has_contents == 0 then [] else c.version ∷ c.words)

-- numbers that a packet can have
pub record IsInRange (c : SciPacket) : Type 0 where
  pub line : c.line < 2 ^ 42
  pub flag : c.has_contents ≤ 1

-- a struct says this packet: its words are those of the packet
pub record SaysPacket (c : SciPacket) (p : Packet) : Type 0 where
  pub within : IsInRange c
  pub words : SpellsInWords p (struct_words c)

-- contents that the struct doesn't have are 0
pub record IsPlain (c : SciPacket) : Type 0 where
  pub reserved : c.reserved ≡ 0
  pub version : c.has_contents ≡ 0 → c.version ≡ 0
  pub words : c.has_contents ≡ 0 → c.words ≡ replicate 8 0

-- A struct that says no packet: by Range only if a number is out of range or its words have no fault, and else by the first
-- fault of its words.
abbrev pub IsRefusalOf : SciPacket → PacketRefusal → Type 0
IsRefusalOf c refusal.Range = SaysNone (SaysPacket c) × ((IsInRange c → ⊥) ⊎ (fault_of_words (struct_words c) ≡ None))
IsRefusalOf c (refusal.Fault fault) = SaysNone (SaysPacket c) × IsInRange c × (fault_of_words (struct_words c) ≡ Some fault)
