use Rattle.scimem.proofs.OneDecoding.{one_text}
use Rattle.scimem.proofs.laws.one_decoding.Goals as goal

pub returns : goal.returns
returns c = one_text c.no_proper_prefix.ensures c.one_packet.ensures
