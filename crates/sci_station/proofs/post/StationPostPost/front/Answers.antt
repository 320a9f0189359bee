use Rattle.std.proofs.Common.{◌≡◌, Option, Some, sym, ap, subst, ◌∙◌}
use Rattle.std.specs.Prelude.{option_copied}
use Rattle.sci_cache.specs.Cache.{letter_of}
use Rattle.sci_packets.specs.declared.packet.Packet.{Packet}
use Rattle.sci_turn.specs.Posts.{IsFront}
use Rattle.sci_station.specs.Posts.{StationPostOf, packet_in, post_of}
use Rattle.sci_station.proofs.Posts.{front_post}
use Rattle.sci_station.proofs.post.StationPostPost.front.Goals as goal

pub returns : goal.returns
returns c =
    let read = c.requires.sees in
    let there : packet_in c.self.inside.kept c.args.kind c.args.from ≡ Some read.packet =
    subst (λ (p : StationPostOf). packet_in p.kept c.args.kind c.args.from ≡ Some read.packet) (sym c.self.view_is) read.there in
    let same : read.packet ≡ c.in-Some.packet.now =
    one_packet (packet_in c.self.inside.kept c.args.kind c.args.from) read.packet c.in-Some.packet.now there
    (sym c.packet.ensures ∙ ap option_copied c.in-Some.is) in
    subst (λ (p : Packet). IsFront (post_of c.args.self.now.end) c.args.kind c.args.from (letter_of p)) same
    (front_post c.args.self.now.end read.cell read.packet c.args.kind c.args.from read.read read.kind_is read.sender_is)
  where
    one_packet : (o : Option Packet) (p q : Packet) → o ≡ Some p → o ≡ Some q → p ≡ q
    one_packet o p q one two = let both : Some p ≡ Some q = sym one ∙ two in cc
