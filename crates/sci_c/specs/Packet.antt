-- What the calls for packets answer.
use Rattle.std.specs.Prelude.{◌≡◌, ◌≤◌, ℕ, List, length, take, Option, Some, None}
use Rattle.sci_packets.specs.declared.{fault.PacketFault.{PacketFault}, packet.Packet.{Packet}}
use Rattle.sci_c_values.specs.declared.packet.{SciPacket.{SciPacket}, PacketRefusal.{PacketRefusal}}
use Rattle.sci_c_values.specs.declared.packet.PacketRefusal.TheVariants.{Range, Fault}
use Rattle.sci_c_values.specs.declared.status.TheConstants.{SCI_OK, SCI_RANGE}
use Rattle.sci_c_values.specs.Packet.{IsPlain, SaysPacket, IsRefusalOf, fault_number}
use Rattle.sci_c.specs.Written.{StandOver}

-- SCI_OK if there is no fault
abbrev pub fault_status : Option PacketFault → ℕ
fault_status None = SCI_OK
fault_status (Some fault) = fault_number fault

abbrev pub refusal_number : PacketRefusal → ℕ
refusal_number Range = SCI_RANGE
refusal_number (Fault fault) = fault_number fault

-- a struct says the packet that the first of the units, bytes or words, spell
pub record IsRead (spells : Packet → List ℕ → Type 0) (units : List ℕ) (used : ℕ) (c : SciPacket) : Type 0 where
  pub packet : Packet
  pub within : used ≤ length units
  pub spelled : spells packet (take used units)
  pub says : SaysPacket c packet
  pub plain : IsPlain c

-- the units of the packet that a struct says stand over the first ones
pub record IsWritten (units_of : Packet → List ℕ) (c : SciPacket) (old new : List ℕ) (used : ℕ) : Type 0 where
  pub packet : Packet
  pub says : SaysPacket c packet
  pub stand : StandOver (units_of packet) old new used

-- the status of a struct that says no packet
pub record IsPacketRefusal (c : SciPacket) (status : ℕ) : Type 0 where
  pub refusal : PacketRefusal
  pub refused : IsRefusalOf c refusal
  pub number : status ≡ refusal_number refusal
