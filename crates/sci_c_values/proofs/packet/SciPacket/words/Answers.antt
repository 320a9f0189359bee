use Rattle.std.proofs.Common.{rules, ℕ, List, ◌∷◌, ap}
use Rattle.sci_c_values.specs.Packet.{first_of, second_of}
use Rattle.sci_c_values.proofs.PacketWords.{eight}
use Rattle.sci_c_values.proofs.packet.SciPacket.words.Goals as goal

pub returns : goal.returns
returns c =
    rw c.first_word.ensures (rw c.second_word.ensures
    (ap (λ (words : List ℕ). first_of c.args.self.now ∷ second_of c.args.self.now ∷ c.args.self.now.version ∷ words) (eight c.args.self.now.words
    (search rules))))
