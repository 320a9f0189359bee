-- Packets are read one after another, and their lines are written so.
use Rattle.std.proofs.Common.{◌≡◌, ℕ, zero, suc, ◌-◌, ◌<◌, ◌≤◌, List, [], ◌∷◌, ◌++◌, length, take, drop, sym, ap, ◌∙◌, append_assoc, arith, length-append}
use Rattle.std.proofs.{Common.{length-drop}, Math.Seq.{take-length}, lemmas.Grind.{flat_map-append}}
use Rattle.std.proofs.lemmas.List.{take-append-drop, append-nil, Elements.{All-append, All-cons, All-nil}}
use Rattle.std.specs.List.{flat_map}
use Rattle.sci_packets.specs.{declared.packet.Packet.{Packet}, Fields.{field, spelled}}
use Rattle.sci_packets.specs.Spelling.{IsPacket, Spells, spelling}
use Rattle.sci_command.specs.PacketLine.{head_text, line_of_packet, packet_line, tail_text}
use Rattle.scimem.specs.Decoding.{PacketsThen, spellings, packet_lines}

-- the text has the lines of the packets that the input begins with, and the rest follows them
pub record Reads (input rest text : List ℕ) : Type 0 where
  pub packets : List Packet
  pub run : PacketsThen input packets rest
  pub lines : text ≡ packet_lines packets

one_more : (f : Packet → List ℕ) (ps : List Packet) (p : Packet) → flat_map f (ps ++ p ∷ []) ≡ flat_map f ps ++ f p
one_more f ps p = flat_map-append f ps (p ∷ []) ∙ ap (λ (l : List ℕ). flat_map f ps ++ l) (append-nil (f p))

pub reads_more : (input rest text : List ℕ) (p : Packet) (k : ℕ) → Reads input rest text → Spells p (take k rest)
    → Reads input (drop k rest) (text ++ packet_line p)
reads_more input rest text p k r s = record {
  packets = r.packets ++ p ∷ [];
  run = record {
    each = All-append IsPacket r.packets (p ∷ []) r.run.each (All-cons IsPacket p [] s.packet (All-nil IsPacket));
    parts = r.run.parts ∙ ap (λ (l : List ℕ). spellings r.packets ++ l) (sym (take-append-drop k rest))
        ∙ sym (append_assoc (spellings r.packets) (take k rest) (drop k rest))
        ∙ ap (λ (l : List ℕ). (spellings r.packets ++ l) ++ drop k rest) s.spelled_so
        ∙ ap (λ (l : List ℕ). l ++ drop k rest) (sym (one_more spelling r.packets p));
  };
  lines = ap (λ (l : List ℕ). l ++ packet_line p) r.lines ∙ sym (one_more packet_line r.packets p);
}

-- a packet has bytes
spelling_pos : (p : Packet) → 0 < length (spelling p)
unfolding spelling spelled field
spelling_pos p = omega arith

pub shorter : (rest : List ℕ) (p : Packet) (k : ℕ) → Spells p (take k rest) → 0 < k
shorter rest p zero s = let e = ap length s.spelled_so in absurd (omega (arith, spelling_pos p))
shorter rest p (suc k) s = omega arith

-- the place where the rest begins
pub place : (input rest text : List ℕ) (r : Reads input rest text) → length input - length rest ≡ length (spellings r.packets)
place input rest text r = omega (arith, length-append (spellings r.packets) rest, ap length r.run.parts)

pub within : (input rest text : List ℕ) → Reads input rest text → length rest ≤ length input
within input rest text r = omega (arith, length-append (spellings r.packets) rest, ap length r.run.parts)

-- what is left from a place is all that follows it
pub whole_rest : {A : Type 0} (n : ℕ) (l : List A) → take (length l - n) (drop n l) ≡ drop n l
whole_rest n l = ap (λ (k : ℕ). take k (drop n l)) (sym (length-drop n l)) ∙ take-length (drop n l)

-- the line of a packet, in two pieces
pub line_parts : (text head tail : List ℕ) (p : Packet) → head ≡ head_text p.target p.source p.control p.line p.body → tail ≡ tail_text p.body
    → (text ++ head) ++ tail ≡ text ++ packet_line p
unfolding packet_line line_of_packet
line_parts text head tail p h t = rw (h, t) (append_assoc text (head_text p.target p.source p.control p.line p.body) (tail_text p.body))
