use Rattle.std.proofs.Common.{arith}
use Rattle.std.proofs.{Common.{◌≡◌, ℕ, [], ◌∷◌, ◌++◌, All, refl, sym, subst, ◌∙◌}, lemmas.List.{map-append}}
use Rattle.std.proofs.lemmas.List.Elements.{All-head, All-map, All-tail}
use Rattle.std.specs.List.{range_with_len}
use Rattle.atomic_table.specs.Seated.{TableId}
use Rattle.sci_core.specs.Size.{Size}
use Rattle.sci_lanes.specs.{Ends.{EndOf, opening_ends}, Shown.{opening_part}}
use Rattle.sci_station.specs.Station.{opening_station}
use Rattle.sci_station.proofs.fabric.Fabric.new.Goals as goal

-- the ends of new lanes know of no event
opening_fresh : (table : TableId) (size : Size) (count : ℕ) → All (λ (end : EndOf). end.part.schedule ≡ []) (opening_ends table size count)
opening_fresh table size count =
    All-map (λ (end : EndOf). end.part.schedule ≡ []) (λ n. record { table = table; part = opening_part size n }) (range_with_len 0 count) (λ k d lt. refl)

pub loop-end-init : goal.loop-end-init
loop-end-init c = grind (arith, opening_fresh)

pub loop-end-preserved : goal.loop-end-preserved
loop-end-preserved c =
    let Fresh : EndOf → Type 0 = λ end. end.part.schedule ≡ [] in
    record {
      made = c.in_ok-push.ensures.items
          ∙ ((λ i. c.loop-end.invariant.made i ++ c.new-in-loop-end.ensures i ∷ []) ∙ sym (map-append opening_station c.loop-end.yielded (c.in-Some.end ∷ [])));
      fresh = All-tail Fresh c.in-Some.end c.next.new.self.rest.items (subst (All Fresh) c.in-Some.ensures.steps.0 c.loop-end.invariant.fresh);
    }

pub new-requires-in-loop-end : goal.new-requires-in-loop-end
new-requires-in-loop-end c =
    let Fresh : EndOf → Type 0 = λ end. end.part.schedule ≡ [] in
    All-head Fresh c.in-Some.end c.next.new.self.rest.items (subst (All Fresh) c.in-Some.ensures.steps.0 c.loop-end.invariant.fresh)
