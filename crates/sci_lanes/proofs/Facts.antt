-- What words and views that show a state tell a seat that has one node.
use Rattle.std.proofs.Common.{◌≡◌, ℕ, ◌+◌, ◌<◌, List, [], ◌∷◌, length, map, refl, sym, ap, subst, ◌∙◌, arith}
use Rattle.std.proofs.lemmas.List.{length-map}
use mathlib.Core.Option.{some}
use lib.ListN.{get_elem?}
use Rattle.sci_packets.specs.declared.packet.Packet.{Packet}
use Rattle.sci_cache.specs.Cache.{Letter, letter_of}
use Rattle.sci_core.specs.{Core.{AreEnabled, lane_at}, Reached.{IsReached}, WellFormed.{IsPart}}
use Rattle.sci_core.proofs.WellFormed.WellFormedSteps.{reached_well}
use Rattle.sci_lanes.specs.declared.view.{Outbound.{Outbound}, Inbound.{Inbound}, Part.{Part}, View.{View}}
use Rattle.sci_lanes.specs.Cells.{word_at}
use Rattle.sci_lanes.specs.Shown.{Fits, ShowsLane, Whole, me_of, single, inbound_at, IsKnown, Shows}
use Rattle.sci_lanes.specs.Telling.{IsFront, IsShown, size_in, state_of}

-- a lane has as many packets as its cells show
pub lane_length : {words : List ℕ} {place : ℕ} {lane : List Letter} {o : Outbound} {i : Inbound} (s : ShowsLane words place lane o i)
    → length lane ≡ length s.packets
lane_length s = ap (λ (ls : List Letter). length ls) (sym s.letters) ∙ length-map s.packets letter_of

-- the words that were found are those of the oldest packet
pub front_shown : (words : List ℕ) (place : ℕ) (lane : List Letter) (o : Outbound) (i : Inbound) (packets : List Packet) → map letter_of packets ≡ lane
    → Fits words place packets o i → 0 < length i.found → IsFront lane i.found
front_shown words place lane o i [] letters f found = absurd (let there = f.there found in omega arith)
front_shown words place lane o i (p ∷ packets) letters f found = record {
  packet = p;
  rest = map letter_of packets;
  front = sym letters;
  good = f.good 0 p refl;
  agrees = λ k lt less.
      let turn : i.taken + 0 ≡ i.taken = omega arith in
      sym (f.found k lt) ∙ (ap (λ (t : ℕ). word_at words place t k) (sym turn) ∙ f.full 0 k p refl less);
}

-- the node of a part is a part of the state
pub known_part : (x : Whole) (seat : ℕ) (part : Part) → IsReached x.core → IsKnown x seat part → IsPart x.core.size (me_of part) part.node
known_part x seat part reached k = subst (λ n. IsPart x.core.size (me_of part) n) k.node ((reached_well x.core reached).each_part (me_of part) k.some_node)

pub shown : (x : Whole) (words : List ℕ) (views : List View) (seat : ℕ) (part : Part) → IsReached x.core → state_of part ≡ x.core
    → AreEnabled (size_in part) [] part.schedule → Shows x words views → get_elem? views seat ≡ some (single part) → IsShown part
shown x words views seat part reached leads enabled s here =
    let k : IsKnown x seat part = (s.known seat (single part) here).0 in
    record {
      core = x.core;
      reached = reached;
      leads = leads;
      enabled = enabled;
      some_node = k.some_node;
      here = k.node;
      outbound_long = k.outbound_long;
      inbound_long = k.inbound_long;
      found = λ lane lt is above.
          let l = s.lanes lane lt in
          let same : x.inbound lane ≡ inbound_at part lane = sym (k.inbound lane lt is) in
          subst (λ (i : Inbound). IsFront (lane_at x.core lane) i.found) same
          (front_shown words lane (lane_at x.core lane) (x.outbound lane) (x.inbound lane) l.packets l.letters l.fits
          (subst (λ (i : Inbound). 0 < length i.found) (sym same) above));
      vacant = λ lane lt is empty.
          let l = s.lanes lane lt in
          let room = l.fits.vacant (ap (λ (o : Outbound). o.vacant) (sym (k.outbound lane lt is)) ∙ empty) in
          let long = lane_length l in
          omega arith;
      room = λ lane lt.
          let l = s.lanes lane lt in
          let few = l.fits.room in
          let long = lane_length l in
          omega arith;
      own = λ lane lt sends receives.
          let l = s.lanes lane lt in
          let counted = l.fits.counted in
          let long = lane_length l in
          let out = ap (λ (o : Outbound). o.sent) (k.outbound lane lt sends) in
          let in_ = ap (λ (i : Inbound). i.taken) (k.inbound lane lt receives) in
          omega arith;
    }
