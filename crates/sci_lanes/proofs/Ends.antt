-- Fills and reads keep the rule.
use Rattle.std.proofs.Common.{◌≡◌, ℕ, ◌+◌, ◌%◌, ◌<◌, ◌≤◌, true, List, [], length, get_or, set, refl, sym, ap, subst, arith}
use Rattle.std.proofs.lemmas.List.{set-get_or}
use mathlib.Core.Option.{none}
use Rattle.atomic_table.specs.Table.{step, Allows}
use Rattle.sci_core.specs.{Size.{Size}, Core.{lane_at}}
use Rattle.sci_lanes.specs.declared.view.{Outbound.{Outbound}, Inbound.{Inbound}, Part.{Part}}
use Rattle.sci_lanes.specs.Cells.{cell_place, lane_count, sender_of, receiver_of}
use Rattle.sci_lanes.specs.Shown.{Fits, ShowsLane, Whole, nodes_of, me_of, single, informed, outbound_at, inbound_at, IsKept}
use Rattle.sci_lanes.specs.{Knowing.{filled_out, filled, read_in, read}, Plays.{Fills, Reads}}
use Rattle.sci_lanes.proofs.{TableWords.{same_cell, place_within}, LaneSteps.{out_filled, in_read}}
use Rattle.sci_lanes.proofs.Allowed.{lane_found, index_found, lane_goes, Goes, Owes, allows, of_whole, tells, still}

-- what is known where a word of a part's next cell is filled
pub record MayFill (size : Size) (part : Part) (lane number index : ℕ) : Type 0 where
  pub lane_ok : lane < lane_count size.nodes
  pub sender : sender_of size.nodes lane ≡ me_of part
  pub next : number ≡ (outbound_at part lane).sent % 4
  pub vacant : (outbound_at part lane).vacant ≡ true
  pub further : 0 < index
  pub within : index < 11
  pub order : index ≤ length (outbound_at part lane).filled + 1

-- and where one is read
pub record MayRead (size : Size) (part : Part) (lane number index : ℕ) : Type 0 where
  pub lane_ok : lane < lane_count size.nodes
  pub receiver : receiver_of size.nodes lane ≡ me_of part
  pub next : number ≡ (inbound_at part lane).taken % 4
  pub further : 0 < index
  pub within : index < 11
  pub order : index ≤ length (inbound_at part lane).found

pub fills : (size : Size) (slots id lane number index word : ℕ) (part : Part) → MayFill size part lane number index
    → Allows (IsKept size) slots id (single part, []) (cell_place lane number + index) (λ n. word)
    (λ n. Fills (step slots (cell_place lane number + index) word 0 none) (single part, []) word)
fills size slots id lane number index word part may =
    allows size slots id place part (λ n. word) (λ n. Fills (step slots place word 0 none) (single part, []) word) owes
  where
    place : ℕ
    place = cell_place lane number + index

    o : Outbound
    o = outbound_at part lane

    owes : Owes size id place part (λ n. word) (λ n. Fills (step slots place word 0 none) (single part, []) word)
    owes s kept here k = (
      informed x.schedule (filled lane index word part),
      went,
      rw (lane_found lane number index may.within, index_found lane number index may.within) (tells went k.seen),
    )
      where
        x : Whole
        x = kept.whole

        lane_ok : lane < lane_count (nodes_of x)
        lane_ok = of_whole kept (λ n. lane < lane_count n) may.lane_ok

        sends : sender_of (nodes_of x) lane ≡ me_of part
        sends = of_whole kept (λ n. sender_of n lane ≡ me_of part) may.sender

        old : ShowsLane s.words lane (lane_at x.core lane) o (x.inbound lane)
        old = subst (λ (u : Outbound). ShowsLane s.words lane (lane_at x.core lane) u (x.inbound lane)) (sym (k.outbound lane lane_ok sends))
            (kept.shown.lanes lane lane_ok)

        turn : place ≡ cell_place lane o.sent + index
        turn = let e = may.next in ap (λ (c : ℕ). c + index) (same_cell lane number o.sent (omega arith))

        fits : Fits (set s.words (cell_place lane o.sent + index) word) lane old.packets (filled_out index word o) (x.inbound lane)
        fits = out_filled s.words lane index word old.packets o (x.inbound lane) may.vacant may.further may.within may.order
            (subst (λ (n : ℕ). cell_place lane o.sent + index < n) (sym kept.shown.long) (place_within (nodes_of x) lane o.sent index lane_ok may.within))
            old.fits

        went : Goes size s id place word part (informed x.schedule (filled lane index word part))
        went = lane_goes size s kept id lane o.sent index place word part here may.within turn kept.reached kept.leads kept.enabled
            (still x id part lane (filled_out index word o) (filled_out index word o) (inbound_at part lane) (x.inbound lane) k lane_ok
            (λ is. refl) (λ apart. absurd (apart sends)) (k.inbound lane lane_ok) (λ apart. refl))
            (record { packets = old.packets; letters = old.letters; fits = fits })

pub reads : (size : Size) (slots id lane number index : ℕ) (part : Part) → MayRead size part lane number index
    → Allows (IsKept size) slots id (single part, []) (cell_place lane number + index) (λ n. n)
    (Reads (step slots (cell_place lane number + index) 0 0 none) (single part, []))
reads size slots id lane number index part may = allows size slots id place part (λ n. n) (Reads (step slots place 0 0 none) (single part, [])) owes
  where
    place : ℕ
    place = cell_place lane number + index

    i : Inbound
    i = inbound_at part lane

    owes : Owes size id place part (λ n. n) (Reads (step slots place 0 0 none) (single part, []))
    owes s kept here k = (
      informed x.schedule (read lane index word part),
      went,
      rw (lane_found lane number index may.within, index_found lane number index may.within) (tells went k.seen),
    )
      where
        x : Whole
        x = kept.whole

        word : ℕ
        word = get_or s.words place 0

        lane_ok : lane < lane_count (nodes_of x)
        lane_ok = of_whole kept (λ n. lane < lane_count n) may.lane_ok

        receives : receiver_of (nodes_of x) lane ≡ me_of part
        receives = of_whole kept (λ n. receiver_of n lane ≡ me_of part) may.receiver

        old : ShowsLane s.words lane (lane_at x.core lane) (x.outbound lane) i
        old = subst (λ (u : Inbound). ShowsLane s.words lane (lane_at x.core lane) (x.outbound lane) u) (sym (k.inbound lane lane_ok receives))
            (kept.shown.lanes lane lane_ok)

        turn : place ≡ cell_place lane i.taken + index
        turn = let e = may.next in ap (λ (c : ℕ). c + index) (same_cell lane number i.taken (omega arith))

        fits : Fits s.words lane old.packets (x.outbound lane) (read_in index word i)
        fits = subst (λ (p : ℕ). Fits s.words lane old.packets (x.outbound lane) (read_in index (get_or s.words p 0) i)) (sym turn)
            (in_read s.words lane index old.packets (x.outbound lane) i may.further may.within may.order old.fits)

        went : Goes size s id place word part (informed x.schedule (read lane index word part))
        went = lane_goes size s kept id lane number index place word part here may.within refl kept.reached kept.leads kept.enabled
            (still x id part lane (outbound_at part lane) (x.outbound lane) (read_in index word i) (read_in index word i) k lane_ok
            (k.outbound lane lane_ok) (λ apart. refl) (λ is. refl) (λ apart. absurd (apart receives)))
            (record {
              packets = old.packets;
              letters = old.letters;
              fits = subst (λ (ws : List ℕ). Fits ws lane old.packets (x.outbound lane) (read_in index word i)) (sym (set-get_or s.words place 0)) fits;
            })
