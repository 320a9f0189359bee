-- What is written for bytes that may be a run of packets.
use Rattle.std.specs.Prelude.{◌≡◌, ◌↔◌, ℕ, ◌<◌, ◌⊎◌, Bool, List, [], ◌∷◌, ◌++◌, length, codes, All, Option, Some, IsSome}
use Rattle.std.specs.List.{flat_map}
use Rattle.sci_text.specs.{declared.fault.TextFaultKind.{TextFaultKind}, FirstFault.{IsInputFault}, Number.{field}}
use Rattle.sci_packets.specs.declared.fault.PacketFault.{PacketFault}
use Rattle.sci_packets.specs.declared.fault.PacketFault.TheVariants.{Short, UnknownCommand, BadOffset, BadIdentifier}
use Rattle.sci_packets.specs.{declared.packet.Packet.{Packet}, Fault.{fault_of}}
use Rattle.sci_packets.specs.Spelling.{IsPacket, NoneSpells, spelling}
use Rattle.sci_command.specs.declared.refusal.Refusal.{Refusal}
use Rattle.sci_command.specs.{declared.outcome.Outcome.{Outcome, TheVariants.{Done, Refused}}, Input.{IsReadAs}}
use Rattle.sci_command.specs.{PacketLine.{packet_line}, Refusal.{kind_word}}

-- the word for what is wrong with a packet
unfoldable pub fault_word : PacketFault → List ℕ
fault_word Short = codes "short"
fault_word UnknownCommand = codes "unknown-command"
fault_word BadOffset = codes "bad-offset"
fault_word BadIdentifier = codes "bad-identifier"

-- `refused at byte K: WORD`, and the line feed
unfoldable pub refusal : ℕ → List ℕ → List ℕ
refusal place word = codes "refused at byte" ++ (field place ++ (codes ": " ++ (word ++ 10 ∷ [])))

-- the bytes of packets, one after another
abbrev pub spellings : List Packet → List ℕ
spellings packets = flat_map spelling packets

-- the lines of packets, one after another
abbrev pub packet_lines : List Packet → List ℕ
packet_lines packets = flat_map packet_line packets

-- bytes begin with packets and go on with the rest
pub record PacketsThen (input : List ℕ) (packets : List Packet) (rest : List ℕ) : Type 0 where
  pub each : All IsPacket packets
  pub parts : input ≡ spellings packets ++ rest

-- the bytes are packets, one after another, and the text has their lines
pub record ArePackets (input text : List ℕ) : Type 0 where
  pub packets : List Packet
  pub run : PacketsThen input packets []
  pub lines : text ≡ packet_lines packets

-- Behind packets the bytes go on with what is no packet. The text has the packets' lines, and then the refusal
-- at the place where the rest begins.
pub record ArePacketsThenFault (input text : List ℕ) : Type 0 where
  pub packets : List Packet
  pub rest : List ℕ
  pub fault : PacketFault
  pub run : PacketsThen input packets rest
  pub goes_on : 0 < length rest
  pub none : NoneSpells rest
  pub found : fault_of rest ≡ Some fault
  pub lines : text ≡ packet_lines packets ++ refusal (length (spellings packets)) (fault_word fault)

-- the text for bytes, and how the command ends: Done for packets alone, else Refused
abbrev pub IsDecoded : List ℕ → List ℕ → Outcome → Type 0
IsDecoded input text outcome = (ArePackets input text × (outcome ≡ Done)) ⊎ (ArePacketsThenFault input text × (outcome ≡ Refused))

-- the text is the refusal of an input that can't be read
pub record IsInputRefusal (known : Option (List ℕ)) (failed : Bool) (text : List ℕ) : Type 0 where
  pub kind : TextFaultKind
  pub why : IsInputFault kind known failed
  pub line : text ≡ refusal 0 (kind_word kind)

-- The text that is written, and how the command ends, for an input that is known or not, by a reader that then
-- has failed or not.
abbrev pub IsAnswer : Option (List ℕ) → Bool → List ℕ → Outcome → Type 0
IsAnswer known failed text outcome =
    IsReadAs known failed (λ bytes. IsDecoded bytes text outcome) ⊎ (IsInputRefusal known failed text × (outcome ≡ Refused))

-- the same of a command that is refused exactly if there is a refusal
abbrev pub IsDecodedBeside : Option Refusal → Option (List ℕ) → Bool → List ℕ → Outcome → Type 0
IsDecodedBeside refusal known failed text outcome = IsAnswer known failed text outcome × (IsSome refusal ↔ (outcome ≡ Refused))
