use Rattle.std.proofs.Common.{◌≡◌, ◌-◌, ℕ, List, [], ◌∷◌, ◌++◌, take, append_assoc, sym, ap, ◌∙◌}
use Rattle.sci_packets.specs.declared.packet.Packet.{Packet}
use Rattle.sci_command.specs.PacketLine.{head_text, line_of_packet, packet_line, said_text, tail_text}
use Rattle.sci_charts.proofs.Ended.{without_last}
use Rattle.sci_charts.proofs.rows.push_packet_words.Goals as goal

-- what stands in front of the line feed
words_of : Packet → List ℕ
words_of p = head_text p.target p.source p.control p.line p.body ++ said_text p.body

line_of : (p : Packet) → packet_line p ≡ words_of p ++ 10 ∷ []
unfolding packet_line line_of_packet tail_text words_of
line_of p = sym (append_assoc (head_text p.target p.source p.control p.line p.body) (said_text p.body) (10 ∷ []))

pub returns : goal.returns
returns c =
    let p = c.args.packet.now in
    let old = c.args.out.now.items in
    let words = words_of p in
    let whole = c.push_packet.new.out.items in (
      words,
      without_last (old ++ words) whole c.pop-feed.new.self.items 10
          (c.in_ok-push_packet.ensures ∙ (ap (λ (l : List ℕ). old ++ l) (line_of p) ∙ sym (append_assoc old words (10 ∷ []))))
          (c.pop-feed.ensures.rest ∙ ap (λ (n : ℕ). take (n - 1) whole) c.push_packet.new.out.ok.0),
      line_of p,
    )
