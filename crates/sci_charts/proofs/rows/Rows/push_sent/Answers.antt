use Rattle.std.proofs.{Common.{◌≡◌, List, ℕ, [], ◌∷◌, ◌++◌, ap, refl, ◌∙◌}, lemmas.Result.{on_ok_weaker}}
use Rattle.sci_packets.specs.declared.packet.Packet.{Packet}
use Rattle.sci_cache.specs.Cache.{letter_of}
use Rattle.sci_command.specs.PacketLine.{packet_line}
use Rattle.sci_charts.specs.declared.{arrows.ArrowKind.{ArrowKind}, mark.Mark.{Mark, TheVariants.{Sent}}}
use Rattle.sci_charts.specs.{declared.elements.Way.{Way}, Drawing.{letter_in}, Elements.{arrow_element}}
use Rattle.sci_charts.specs.Rows.{IsSent, ShowsPacket, kind_class}
use Rattle.sci_charts.proofs.rows.Rows.push_sent.Goals as goal

-- the arrow of what is sent, with the packet's words as the title
arrow_sent : (mark : Mark) (packet : Packet) (kind : ArrowKind) (way : Way) (self inner new class words title : List ℕ) → mark ≡ Sent packet
    → ShowsPacket kind (letter_of packet)
    → packet_line packet ≡ title ++ 10 ∷ [] → words ≡ title → inner ≡ self → class ≡ kind_class kind → new ≡ inner ++ arrow_element class way words
    → (text : List ℕ) × (new ≡ self ++ text) × IsSent (letter_in mark) text
arrow_sent mark packet kind way self inner new class words title is shows line said same named written =
    let appended : new ≡ self ++ arrow_element (kind_class kind) way title = cc in (
      arrow_element (kind_class kind) way title,
      appended,
      rw is (record { packet = packet; is_letter = refl; title = title; is_title = line; kind = kind; is_kind = shows; way = way; written = refl }),
    )

pub returns-in_ok-push_packet_words-in-Sent : goal.returns-in_ok-push_packet_words-in-Sent
returns-in_ok-push_packet_words-in-Sent c =
    let words = c.in_ok-push_packet_words-in-Sent.ensures in
    let said = c.deref.ensures.value ∙ (words.1 ∙ ap (λ (l : List ℕ). l ++ words.0) c.clear.ensures.items) in
    on_ok_weaker c.push_arrow.result
    (λ written. arrow_sent c.args.row.now.mark c.in-Sent.packet c.of-kind.result c.way-way.result c.args.self.now c.self.inside.out.items
    c.push_arrow.new.out.items c.class.result.now c.deref.result.now words.0 c.in-Sent.is c.of-kind.ensures words.2 said c.self.view_is c.class.ensures written)
    c.push_arrow.ensures
