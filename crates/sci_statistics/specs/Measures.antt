-- What a passage is, and what happened in it: the tests and the sizes that figures count and add up.
use Rattle.std.specs.Prelude.{ℕ, ◌==◌, Bool, false, ◌&&◌, ◌||◌, not, Option, Some, None, is_some, if◌then◌else◌}
use Rattle.sci_packets.specs.declared.command.Command.{Command, TheVariants.{Mread, Fread}}
use Rattle.sci_packets.specs.Table.{command_number, packet_bytes}
use Rattle.sci_statistics.specs.declared.kind.Access.{Access}
use Rattle.sci_words.specs.declared.event.EventKind.{EventKind, TheVariants.{Serve}}
use Rattle.sci_statistics.specs.{declared.passage.Passage.{Passage}, Kinds.{is_access, is_kind}}

-- ---- the event

-- whether two flags are the same
abbrev pub is_flag : Bool → Bool → Bool
is_flag flag other = if flag then other else not other

-- an event of a kind, enabled or not
unfoldable pub comes : EventKind → Bool → Passage → Bool
comes kind enabled p = is_kind kind p.event && is_flag enabled p.enabled

-- an event of a node
unfoldable pub is_at : ℕ → Passage → Bool
is_at n p = p.node == n

abbrev pub is_line : ℕ → Option ℕ → Bool
is_line line None = false
is_line line (Some other) = other == line

-- an enabled event about a line
unfoldable pub is_on : ℕ → Passage → Bool
is_on line p = p.enabled && is_line line p.line

-- ---- operations

abbrev pub has_access : Access → Option Access → Bool
has_access access None = false
has_access access (Some other) = is_access access other

-- an operation was performed that does this
unfoldable pub has_made : Access → Passage → Bool
has_made access p = has_access access p.made

-- ---- packets

-- whether there is a packet, with this command
abbrev pub has_command : Command → Option Command → Bool
has_command command None = false
has_command command (Some other) = command_number other == command_number command

-- a packet with this command was sent
unfoldable pub sends : Command → Passage → Bool
sends command p = has_command command p.sent

unfoldable pub has_sent : Passage → Bool
has_sent p = is_some p.sent

-- the bytes of a packet, if there is one
abbrev pub bytes_in : Option Command → ℕ
bytes_in None = 0
bytes_in (Some command) = packet_bytes command

unfoldable pub sent_bytes : Passage → ℕ
sent_bytes p = bytes_in p.sent

-- a packet with this command was taken
unfoldable pub takes : Command → Passage → Bool
takes command p = has_command command p.taken

-- an answer with this command waits at the node
unfoldable pub leaves : Command → Passage → Bool
leaves command p = has_command command p.answer

unfoldable pub is_serve : Passage → Bool
is_serve p = is_kind Serve p.event

-- a request was served, and got this answer
unfoldable pub serves : Command → Command → Passage → Bool
serves request answer p = is_serve p && (takes request p && leaves answer p)

-- a home served a read, so that the reader is in the list from then on
unfoldable pub enters : Passage → Bool
enters p = is_serve p && (takes Mread p || takes Fread p)
