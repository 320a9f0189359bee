-- The state that is gathered is the one that the table shows.
use Rattle.std.proofs.Common.{◌≡◌, ℕ, ◌%◌, ◌<◌, inl, inr, List, [], length, get_or, Some, refl, sym, ap, subst, ◌∙◌, arith}
use Rattle.std.proofs.{Math.Nat.{mod-lt}, lemmas.{Bool.{cases_lt}, List.{ext_get_or, get_or_past}}}
use Rattle.std.proofs.lemmas.Option.{slice_get-get_or}
use Rattle.std.specs.Prelude.{Vec, slice_get}
use Rattle.sci_words.specs.declared.{extent.Extent.{Extent}, limits.TheConstants.{MAX_NODES}, stamped.Stamped.{Stamped}}
use Rattle.sci_history.specs.{declared.entry.Entry.{Entry}, Placed.{log_of}}
use Rattle.sci_cache.specs.Cache.{Letter}
use Rattle.sci_core.specs.{Size.{Size, size_of}, Node.{NodeOf, no_node}}
use Rattle.sci_core.specs.{Core.{AreEnabled, Core, core_of, node_at, lane_at, run}, Reached.{IsReached}, Outcome.{logs_of}}
use Rattle.sci_core.specs.Sharing.{last_of}
use Rattle.sci_core.proofs.WellFormed.WellFormedSteps.{is_size, reached_well}
use Rattle.sci_core.proofs.ReachedLaws.{log_at, log_beyond, schedule_log}
use Rattle.sci_lanes.specs.{declared.view.Part.{Part}, Cells.{lane_count, receiver_of, word_count}}
use Rattle.sci_lanes.specs.{Shown.{Fits, nodes_of, me_of, IsKnown, IsSeen}, Telling.{no_part, size_in}}
use Rattle.sci_lanes.specs.Ends.{EndOf, LanesOf}
use Rattle.sci_lanes.specs.Gathering.{IsOf, AreAll, AreGathered, AreJoined, AreKept, AreLanes, AreMadeBy, HasNodes, HaveInboxTurns, HaveLogs, IsLedTo}
use Rattle.sci_lanes.specs.Gathering.{IsStateOf, IsReadOff, TakesFrom}
use Rattle.sci_lanes.proofs.{Keeping.{all_at}, Events.{count_is}, Allowed.{size_known}}

module _ {Z : Type 0} where
  -- every node is among the parts that were joined
  pub every_node : (n : ℕ) (parts : List Part) (nodes : List NodeOf) (inbox_turns : List (Vec ℕ Z)) → AreJoined n n parts nodes inbox_turns → HasNodes n parts
  every_node n parts nodes inbox_turns j k lt =
      (k, get_or parts k no_part, slice_get-get_or parts k no_part (let long = j.parts_long in omega arith), (j.each k lt).numbered)

  -- and each has such a number for every lane to it
  pub every_turn : (n : ℕ) (parts : List Part) (nodes : List NodeOf) (inbox_turns : List (Vec ℕ Z)) → AreJoined n n parts nodes inbox_turns
      → HaveInboxTurns n inbox_turns
  every_turn n parts nodes inbox_turns j k v lt is = ((j.each k lt).turns v is).long

  module _ (table : LanesOf) (extent : Extent) (limit : ℕ) (ends : List EndOf) (parts : List Part) (nodes : List NodeOf) (inbox_turns : List (Vec ℕ Z))
      (words : List ℕ) (lanes : List (List Letter))
      (some : 0 < extent.nodes) (size_is : table.size ≡ size_of extent limit) (own : (place : ℕ) (end : EndOf) → slice_get ends place ≡ Some end
      → IsOf table end) (all : AreAll extent.nodes ends) (j : AreJoined extent.nodes extent.nodes parts nodes inbox_turns)
      (kept : AreKept ends [] parts) (r : IsReadOff (record { parts = parts; words = words })) (long : length words ≡ word_count extent.nodes)
      (read : AreLanes extent.nodes words inbox_turns (lane_count extent.nodes) lanes) where
    n : ℕ
    n = extent.nodes

    part_at : (k : ℕ) → k < extent.nodes → IsKnown r.whole r.seat (get_or parts k no_part)
    part_at k lt = all_at (IsKnown r.whole r.seat) parts k (get_or parts k no_part) (slice_get-get_or parts k no_part (let count = j.parts_long in omega arith))
        r.known

    -- what each end knows is there
    end_part : (place : ℕ) (end : EndOf) → slice_get ends place ≡ Some end
        → (me_of end.part < extent.nodes) × (get_or parts (me_of end.part) no_part ≡ end.part)
    end_part place end is = elim (kept place end is) [
      | inl none ↦ absurd (nothing none.0 end none.1)
      | inr there ↦ (subst (λ (m : ℕ). me_of end.part < m) j.parts_long there.0, there.1)
    ]
      where
        nothing : (k : ℕ) (e : EndOf) → slice_get [] k ≡ Some e → ⊥
        nothing k e h = cc

    -- the node of each end is there
    end_node : (place : ℕ) (end : EndOf) → slice_get ends place ≡ Some end → get_or nodes (me_of end.part) no_node ≡ end.part.node
    end_node place end is = let h = end_part place end is in (j.each (me_of end.part) h.0).node ∙ ap (λ (x : Part). x.node) h.1

    sized : r.whole.core.size ≡ size_of extent limit
    sized =
        let e = all.every 0 some in
        let k = part_at 0 some in
        let first = j.each 0 some in
        let node : (get_or parts 0 no_part).node ≡ e.end.part.node =
        sym first.node ∙ (ap (λ (m : ℕ). get_or nodes m no_node) (sym e.numbered) ∙ end_node e.place e.end e.there) in
        sym (size_known r.whole r.seat (get_or parts 0 no_part) r.whole.core.size r.reached refl k)
        ∙ (ap (λ (x : NodeOf). size_in (record { node = x; schedule = []; outbound = []; inbound = [] })) node
        ∙ ((own e.place e.end e.there).sized ∙ size_is))

    count : nodes_of r.whole ≡ extent.nodes
    count = ap (λ z. z.nodes) sized

    words_are : r.words ≡ words
    words_are =
        let all_words : length r.words ≡ length words = r.long ∙ (ap word_count count ∙ sym long) in
        ext_get_or 0 r.words words all_words (λ k lt. r.read.same k (omega arith))

    node_there : (k : ℕ) → k < extent.nodes → node_at r.whole.core k ≡ get_or nodes k no_node
    node_there k lt =
        let i = part_at k lt in
        let at = j.each k lt in
        ap (node_at r.whole.core) (sym at.numbered) ∙ (i.node ∙ sym at.node)

    lane_there : (l : ℕ) → l < lane_count extent.nodes → lane_at r.whole.core l ≡ get_or lanes l []
    lane_there l lt =
        let s = r.lanes l (subst (λ (m : ℕ). l < lane_count m) (sym count) lt) in
        let to = mod-lt l some in
        let i = part_at (l % extent.nodes) to in
        let at = j.each (l % extent.nodes) to in
        let inbound = i.inbound l (subst (λ (m : ℕ). l < lane_count m) (sym count) lt) (ap (λ (m : ℕ). receiver_of m l) count ∙ sym at.numbered) in
        let takes : TakesFrom extent.nodes inbox_turns l ((r.whole.inbound l).taken % 4) =
        (λ v is. (at.turns v is).turns l lt (sym at.numbered) ∙ ap (λ b. b.taken % 4) inbound) in
        sym s.letters ∙ sym (read.each l s.packets (r.whole.outbound l) (r.whole.inbound l) lt
        (subst (λ (ws : List ℕ). Fits ws l s.packets (r.whole.outbound l) (r.whole.inbound l)) words_are s.fits) takes)

    core_is : r.whole.core ≡ core_of extent limit nodes lanes
    core_is =
        let well = (reached_well r.whole.core r.reached).sizes in
        let parts_long : length r.whole.core.parts ≡ length nodes = well.parts_long ∙ (count ∙ sym j.nodes_long) in
        let lanes_long : length r.whole.core.lanes ≡ length lanes = well.lanes_long ∙ (count_is (nodes_of r.whole) ∙ (ap lane_count count ∙ sym read.long)) in
        let parts_are : r.whole.core.parts ≡ nodes =
        ext_get_or no_node r.whole.core.parts nodes parts_long (λ k lt. node_there k (subst (λ (m : ℕ). k < m) (well.parts_long ∙ count) lt)) in
        let lanes_are : r.whole.core.lanes ≡ lanes =
        ext_get_or [] r.whole.core.lanes lanes lanes_long (λ l lt. lane_there l (subst (λ (m : ℕ). l < m) (lanes_long ∙ read.long) lt)) in
        λ k. record { size = sized k; parts = parts_are k; lanes = lanes_are k }

    pub state_of : IsStateOf (size_of extent limit) ends (core_of extent limit nodes lanes)
    state_of = record {
      led = record {
        reached = subst IsReached core_is r.reached;
        sized = refl;
        schedule = r.whole.schedule;
        leads = ap (λ (z : Size). run z r.whole.schedule) (sym sized) ∙ (r.leads ∙ core_is);
        enabled = subst (λ (z : Size). AreEnabled z [] r.whole.schedule) sized r.enabled;
      };
      seen = λ place end is. (
          let h = end_part place end is in subst (λ (x : Part). IsSeen x r.whole.schedule) h.1 (part_at (me_of end.part) h.0).seen);
      nodes = end_node;
    }

-- logs of the state where a schedule leads are what it makes
pub logs_made : (size : Size) (core : Core) (logs : List (List Entry)) (led : IsLedTo size core) → logs ≡ logs_of core → AreMadeBy size led.schedule logs
logs_made size core logs led is n lt = grind (arith, is_size, log_at, schedule_log)

-- the log of each end is its node's
pub node_log : (size : Size) (ends : List EndOf) (core : Core) (logs : List (List Entry)) → IsStateOf size ends core → logs ≡ logs_of core → HaveLogs ends logs
node_log size ends core logs state logs_are place end is =
    ap (λ ls. log_of ls (me_of end.part)) logs_are ∙ (log_here (me_of end.part) ∙ ap (λ (x : NodeOf). x.log) (state.nodes place end is))
  where
    log_here : (n : ℕ) → log_of (logs_of core) n ≡ (node_at core n).log
    log_here n = elim (cases_lt n MAX_NODES) [
      | inl lt ↦ log_at core n lt
      | inr past ↦ (
          let reached = state.led.reached in
          let long = (reached_well core reached).sizes.parts_long in
          let few = reached.size.extent.few_nodes in
          log_beyond core n past ∙ sym (ap (λ (x : NodeOf). x.log) (get_or_past core.parts n no_node (omega arith))))
    ]

pub gathered : (size : Size) (ends : List EndOf) (core : Core) (logs : List (List Entry)) (last : List Stamped) → IsStateOf size ends core
    → logs ≡ logs_of core → last ≡ last_of core → AreGathered size ends logs last
gathered size ends core logs last state logs_are last_are = grind (arith, logs_made)
