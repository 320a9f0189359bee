-- The table of packets: commands, their numbers and names, identifiers and contents. The numbers are this project's own.
use Rattle.std.specs.Prelude.{ℕ, Bool, false, ◌&&◌, nat_lt, ◌==◌, if◌then◌else◌, List, codes, find, Option, Some, None, true, IsTrue}
use Rattle.std.specs.Option.{is_some, is_none}
use Rattle.sci_words.specs.declared.stamped.Stamped.{Stamped}
use Rattle.sci_packets.specs.declared.fault.PacketFault.{PacketFault, TheVariants.{Short, BadIdentifier}}
use Rattle.sci_packets.specs.declared.{body.Body.{Body}, command.Command.{Command}}
use Rattle.sci_packets.specs.declared.command.Command.TheVariants.{Mread, Cread, Purge, Roll, Wback, Setback, Fread, Claim, Clear, Mdata, Mgone, Cdata}
use Rattle.sci_packets.specs.declared.command.Command.TheVariants.{Purged, Rolled, Wbok, Wbno, Told, Busy, Fdata}
use Rattle.sci_packets.specs.declared.command.TheConstants.Command.{ALL}
use Rattle.sci_packets.specs.declared.body.Body.TheVariants as body

-- the number of a command: the requests are below 0x0100, the answers above
abbrev pub command_number : Command → ℕ
command_number Mread = 0x0001
command_number Cread = 0x0002
command_number Purge = 0x0003
command_number Roll = 0x0004
command_number Wback = 0x0005
command_number Setback = 0x0006
command_number Fread = 0x0007
command_number Claim = 0x0008
command_number Clear = 0x0009
command_number Mdata = 0x0101
command_number Mgone = 0x0102
command_number Cdata = 0x0103
command_number Purged = 0x0104
command_number Rolled = 0x0105
command_number Wbok = 0x0106
command_number Wbno = 0x0107
command_number Told = 0x0108
command_number Busy = 0x0109
command_number Fdata = 0x010A

-- the name of a command
unfoldable pub command_name : Command → List ℕ
command_name Mread = codes "mread"
command_name Cread = codes "cread"
command_name Purge = codes "purge"
command_name Roll = codes "roll"
command_name Wback = codes "wback"
command_name Setback = codes "setback"
command_name Fread = codes "fread"
command_name Claim = codes "claim"
command_name Clear = codes "clear"
command_name Mdata = codes "mdata"
command_name Mgone = codes "mgone"
command_name Cdata = codes "cdata"
command_name Purged = codes "purged"
command_name Rolled = codes "rolled"
command_name Wbok = codes "wbok"
command_name Wbno = codes "wbno"
command_name Told = codes "told"
command_name Busy = codes "busy"
command_name Fdata = codes "fdata"

-- the command with a number, if there is one
unfoldable pub command_with : ℕ → Option Command
command_with number = find (λ command. command_number command == number) ALL

-- what a body puts into its packet
pub record Parts : Type 0 where
  pub command : Command
  pub identifier : Option ℕ
  pub contents : Option Stamped

-- parts as a record
abbrev pub parts : Command → Option ℕ → Option Stamped → Parts
parts command identifier contents = record { command = command; identifier = identifier; contents = contents }

-- what each body puts into its packet: the command, the identifier, None if it is none or unused, and the
-- contents
unfoldable pub parts_of : Body → Parts
parts_of body.Mread = parts Mread None None
parts_of body.Cread = parts Cread None None
parts_of body.Purge = parts Purge None None
parts_of (body.Roll forward) = parts Roll forward None
parts_of (body.Wback contents) = parts Wback None (Some contents)
parts_of (body.Setback backward) = parts Setback (Some backward) None
parts_of body.Fread = parts Fread None None
parts_of body.Claim = parts Claim None None
parts_of body.Clear = parts Clear None None
parts_of (body.Mdata contents) = parts Mdata None (Some contents)
parts_of (body.Mgone old_head) = parts Mgone (Some old_head) None
parts_of (body.Cdata contents) = parts Cdata None (Some contents)
parts_of (body.Purged forward) = parts Purged forward None
parts_of body.Rolled = parts Rolled None None
parts_of body.Wbok = parts Wbok None None
parts_of body.Wbno = parts Wbno None None
parts_of body.Told = parts Told None None
parts_of body.Busy = parts Busy None None
parts_of (body.Fdata old_head contents) = parts Fdata old_head (Some contents)

-- the command of a body
abbrev pub command_of : Body → Command
command_of body = (parts_of body).command

-- whether a body asks; the others answer
abbrev pub is_request : Body → Bool
is_request body.Mread = true
is_request body.Cread = true
is_request body.Purge = true
is_request (body.Roll forward) = true
is_request (body.Wback contents) = true
is_request (body.Setback backward) = true
is_request body.Fread = true
is_request body.Claim = true
is_request body.Clear = true
is_request _ = false

-- a body that asks
abbrev pub IsRequest : Body → Type 0
IsRequest body = IsTrue (is_request body)

-- the number of an identifier: 0xFFFF for none
abbrev pub number_of : Option ℕ → ℕ
number_of None = 0xFFFF
number_of (Some id) = id

-- the identifier of a number
abbrev pub identifier_of : ℕ → Option ℕ
identifier_of number = if number == 0xFFFF then None else Some number

-- the commands with contents
abbrev pub takes_contents : Command → Bool
takes_contents Wback = true
takes_contents Mdata = true
takes_contents Cdata = true
takes_contents Fdata = true
takes_contents _ = false

-- whether contents follow a header with this command, if it is one
abbrev pub carries : Option Command → Bool
carries None = false
carries (Some command) = takes_contents command

-- the bytes of a packet with a command
abbrev pub packet_bytes : Command → ℕ
packet_bytes command = if takes_contents command then 88 else 16

-- the commands whose identifier is never none
abbrev pub must_name : Command → Bool
must_name Setback = true
must_name Mgone = true
must_name _ = false

-- the commands whose identifier may be none
abbrev pub may_name : Command → Bool
may_name Roll = true
may_name Purged = true
may_name Fdata = true
may_name _ = false

-- whether an identifier is none if it must be there, or there if it is unused
unfoldable pub is_misnamed : Command → Option ℕ → Bool
is_misnamed command identifier =
    if must_name command then is_none identifier else (if may_name command then false else is_some identifier)

-- what is wrong with the identifier of a packet of this many bytes or, if the command takes them, with its contents
unfoldable pub body_fault : Command → Option ℕ → ℕ → Option PacketFault
body_fault command identifier length =
    if is_misnamed command identifier then Some BadIdentifier
    else (if takes_contents command && nat_lt length 88 then Some Short else None)
