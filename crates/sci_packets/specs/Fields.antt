-- Numbers in fields of bytes, the highest byte first, and the fields of a packet.
use Rattle.std.specs.Prelude.{ℕ, zero, suc, ◌+◌, List, [], ◌∷◌, ◌++◌, if◌then◌else◌, drop, Option, Some, None}
use Rattle.std.specs.List.{flat_map}
use Rattle.byteorder.specs.Endian.{big_bytes, big_number}
use Rattle.sci_words.specs.declared.{limits.TheConstants.{WORDS_PER_LINE}, stamped.Stamped.{Stamped}}
use Rattle.sci_packets.specs.{declared.{command.Command.{Command}, header.Header.{Header}}, Table.{takes_contents}}

-- a number in n bytes
unfoldable pub field : ℕ → ℕ → List ℕ
field n x = big_bytes n x

-- the number in the n bytes from place k
unfoldable pub field_at : ℕ → ℕ → List ℕ → ℕ
field_at k n bytes = big_number n (drop k bytes)

-- words, each as eight bytes
abbrev pub word_bytes : List ℕ → List ℕ
word_bytes words = flat_map (field 8) words

-- the n words from place k
abbrev pub words_at : ℕ → ℕ → List ℕ → List ℕ
words_at k zero bytes = []
words_at k (suc n) bytes = field_at k 8 bytes ∷ words_at (k + 8) n bytes

-- The fields of a header in their order, and what follows them.
unfoldable pub spelled : Header → List ℕ → List ℕ
spelled h rest =
    field 2 h.target ++ (field 2 h.command ++ (field 2 h.source ++ (field 2 h.control ++ (field 6 h.offset ++ (field 2 h.identifier ++ rest)))))

-- the header that bytes begin with
unfoldable pub header_in : List ℕ → Header
header_in bytes = record {
  target = field_at 0 2 bytes;
  command = field_at 2 2 bytes;
  source = field_at 4 2 bytes;
  control = field_at 6 2 bytes;
  offset = field_at 8 6 bytes;
  identifier = field_at 14 2 bytes;
}

-- the words of contents: the version, then the line
abbrev pub contents_words : Option Stamped → List ℕ
contents_words None = []
contents_words (Some stamped) = stamped.version ∷ stamped.line

-- the contents that stand behind a header
unfoldable pub contents_in : List ℕ → Stamped
contents_in bytes = record { line = words_at 24 WORDS_PER_LINE bytes; version = field_at 16 8 bytes }

-- the contents, if the command takes them
abbrev pub contents_for : Command → List ℕ → Option Stamped
contents_for command bytes = if takes_contents command then Some (contents_in bytes) else None
