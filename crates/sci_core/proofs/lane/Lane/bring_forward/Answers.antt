-- What is brought forward is the same packet, as contracts see it.
use Rattle.std.proofs.Common.{◌≡◌, ℕ, List, map, refl, ap, ◌∙◌}
use Rattle.std.proofs.lemmas.List.{map-append, take-map, drop-map}
use Rattle.sci_cache.specs.Cache.{letter_of}
use Rattle.sci_core.specs.Network.{brought}
use Rattle.sci_core.proofs.lane.Lane.bring_forward.Goals as goal

map_brought : {X Y : Type 0} (f : X → Y) (k : ℕ) (xs : List X) → map f (brought k xs) ≡ brought k (map f xs)
map_brought f k xs = rw (map-append, map-append, take-map, drop-map, take-map, drop-map) refl

pub returns : goal.returns
returns c =
    ap (map letter_of) c.bring_forward.ensures ∙ (map_brought letter_of c.args.place c.self.inside.packets.items ∙ ap (brought c.args.place) c.self.view_is)
