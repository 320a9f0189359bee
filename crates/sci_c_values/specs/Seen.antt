-- What a struct says of a step.
use Rattle.std.specs.Prelude.{◌≡◌, Option, Some, None, replicate}
use Rattle.sci_packets.specs.declared.packet.Packet.{Packet}
use Rattle.sci_history.specs.declared.entry.Entry.{Entry}
use Rattle.sci_cache.specs.Cache.{Letter, letter_of}
use Rattle.sci_c_values.specs.declared.{entry.SciEntry.{SciEntry}, packet.SciPacket.{SciPacket}, seen.SciSeen.{SciSeen}}
use Rattle.sci_c_values.specs.{Entry.{entry_struct}, Packet.{IsPlain, SaysPacket}}

-- all 0
abbrev pub packet_none : SciPacket
packet_none = record {
  target = 0;
  command = 0;
  source = 0;
  control = 0;
  line = 0;
  identifier = 0;
  has_contents = 0;
  reserved = 0;
  version = 0;
  words = replicate 8 0;
}

abbrev pub entry_none : SciEntry
entry_none = record {
  node = 0;
  has_word = 0;
  reserved = 0;
  serial = 0;
  op = record { act = 0; line = 0; word = 0; reserved = 0; arg = 0; datum = 0 };
  word = 0;
  version = 0;
}

-- a struct says the packet of a letter
pub record SaysLetter (c : SciPacket) (letter : Letter) : Type 0 where
  pub packet : Packet
  pub is_letter : letter_of packet ≡ letter
  pub says : SaysPacket c packet
  pub plain : IsPlain c

-- the packet that was sent or taken, or that there was none
abbrev pub SaysMoved : SciSeen → Option Letter → Type 0
SaysMoved c None = (c.has_packet ≡ 0) × (c.packet ≡ packet_none)
SaysMoved c (Some letter) = (c.has_packet ≡ 1) × SaysLetter c.packet letter

-- the entry that was logged, or that there was none
abbrev pub SaysLogged : SciSeen → Option Entry → Type 0
SaysLogged c None = (c.has_entry ≡ 0) × (c.entry ≡ entry_none)
SaysLogged c (Some entry) = (c.has_entry ≡ 1) × (c.entry ≡ entry_struct entry)

pub record SaysSeen (c : SciSeen) (moved : Option Letter) (logged : Option Entry) : Type 0 where
  pub moves : SaysMoved c moved
  pub logs : SaysLogged c logged
