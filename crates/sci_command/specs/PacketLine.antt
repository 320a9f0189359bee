-- The line that is written for a packet.
use Rattle.std.specs.{Prelude.{ℕ, List, [], ◌∷◌, ◌++◌, codes, Option, Some, None}, List.{flat_map}}
use Rattle.sci_words.specs.declared.stamped.Stamped.{Stamped}
use Rattle.sci_packets.specs.declared.body.Body.{Body}
use Rattle.sci_packets.specs.declared.body.Body.TheVariants.{Roll, Wback, Setback, Mdata, Mgone, Cdata, Purged, Fdata}
use Rattle.sci_packets.specs.{declared.packet.Packet.{Packet}, Table.{command_name, command_of}}
use Rattle.sci_text.specs.Number.{number, field}

-- an identifier, or that there is none
unfoldable pub identifier_text : Option ℕ → List ℕ
identifier_text None = codes " id none"
identifier_text (Some id) = codes " id" ++ field id

-- contents: the version, and the eight words
unfoldable pub contents_text : Stamped → List ℕ
contents_text stamped = codes " @" ++ (number stamped.version ++ flat_map field stamped.line)

-- what a command's line ends with: the identifier if the command uses it, and the contents if it carries them
unfoldable pub said_text : Body → List ℕ
said_text (Roll forward) = identifier_text forward
said_text (Wback contents) = contents_text contents
said_text (Setback backward) = identifier_text (Some backward)
said_text (Mdata contents) = contents_text contents
said_text (Mgone old_head) = identifier_text (Some old_head)
said_text (Cdata contents) = contents_text contents
said_text (Purged forward) = identifier_text forward
said_text (Fdata old_head contents) = identifier_text old_head ++ contents_text contents
said_text _ = []

-- `NAME to T from S control K line L`
unfoldable pub head_text : ℕ → ℕ → ℕ → ℕ → Body → List ℕ
head_text target source control line body =
    command_name (command_of body) ++ (codes " to" ++ (field target
    ++ (codes " from" ++ (field source ++ (codes " control" ++ (field control ++ (codes " line" ++ field line)))))))

-- what the command says, and the line feed
unfoldable pub tail_text : Body → List ℕ
tail_text body = said_text body ++ 10 ∷ []

-- the line: its head, and its tail
unfoldable pub line_of_packet : ℕ → ℕ → ℕ → ℕ → Body → List ℕ
line_of_packet target source control line body = head_text target source control line body ++ tail_text body

unfoldable pub packet_line : Packet → List ℕ
packet_line p = line_of_packet p.target p.source p.control p.line p.body
