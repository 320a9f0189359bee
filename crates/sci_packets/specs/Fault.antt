-- What is wrong with bytes that begin with no packet.
use Rattle.std.specs.Prelude.{ℕ, ◌%◌, not, ◌||◌, nat_lt, ◌==◌, if◌then◌else◌, List, length, Option, Some, None}
use Rattle.sci_packets.specs.declared.fault.PacketFault.{PacketFault}
use Rattle.sci_packets.specs.declared.fault.PacketFault.TheVariants.{Short, UnknownCommand, BadOffset, BadIdentifier}
use Rattle.sci_packets.specs.declared.{command.Command.{Command}, header.Header.{Header}}
use Rattle.sci_packets.specs.{Fields.{header_in, word_bytes}, Table.{identifier_of, command_with, body_fault}}

-- the first fault of a header whose packet has this many bytes, if it has this command
unfoldable pub header_fault : Option Command → Header → ℕ → Option PacketFault
header_fault None h length = Some UnknownCommand
header_fault (Some command) h length =
    if not (h.offset % 64 == 0) then Some BadOffset
    else (if h.target == 0xFFFF || h.source == 0xFFFF then Some BadIdentifier
    else body_fault command (identifier_of h.identifier) length)

-- the first fault of bytes, None if a packet begins them
unfoldable pub fault_of : List ℕ → Option PacketFault
fault_of bytes = if nat_lt (length bytes) 16 then Some Short else header_fault (command_with (header_in bytes).command) (header_in bytes) (length bytes)

-- the first fault of words: that of their bytes, of which two words have 16 and eleven have 88
unfoldable pub fault_of_words : List ℕ → Option PacketFault
fault_of_words words = fault_of (word_bytes words)
