-- Every reached state is tidy.
use Rattle.std.proofs.Common.{◌≡◌, ℕ, zero, suc, ◌+◌, ◌<◌, false, List, [], ◌∷◌, length, map, replicate, Option, Some, None, refl, sym, subst, arith}
use Rattle.std.proofs.lemmas.List.{get_or-replicate, FromFn.{get_or-map-range_with_len}}
use Rattle.std.specs.{Prelude.{IfSome, unwrap_or, option_to_list}, List.{flat_map, range_with_len}}
use Rattle.sci_words.specs.declared.event.Event.{Event}
use Rattle.sci_history.specs.declared.entry.Entry.{Entry}
use Rattle.sci_cache.specs.{State.{waits}, Cache.{Letter}}
use Rattle.sci_packets.specs.Table.{is_request}
use Rattle.sci_core.specs.declared.lane.LaneKind.TheVariants.{Requests}
use Rattle.sci_core.specs.Node.{NodeOf, opening_node, node_performing, node_serving, node_refusing, node_accepting, lines_of}
use Rattle.sci_core.specs.{Core.{Core, node_at, stepping, step, opening, run_from, run}, Done.{performed}}
use Rattle.sci_core.specs.Network.{Happens, Move, Overtakes, moved, moved_from}
use Rattle.sci_core.specs.{Reached.{IsReachable, IsReached}, Sharing.{packets_of}, Tidy.{IsTidy}}
use Rattle.sci_core.specs.{WellFormed.{IsPart, IsWellFormed}, Size.{Size, IsSize, IsMachineSize}}
use Rattle.sci_core.proofs.{Basics.Options.{of_some}, WellFormed.Parts.{part_serving, part_refusing}}
use Rattle.sci_core.proofs.WellFormed.WellFormedSteps.{step_well, run_well, is_size, reachable, opened, move_well, moved_happens}
use Rattle.sci_core.proofs.Tidy.Overtaking.{overtaken_tidy}
use Rattle.sci_core.proofs.Tidy.WaitingNodes.{Stays, Answers, Accepts, issue_stays, perform_stays, ask_once, serve_answers, refuse_answers, reply_replies}
use Rattle.sci_core.proofs.Tidy.WaitingNodes.{accept_accepts}
use Rattle.sci_core.proofs.Tidy.TidySteps.{changed_tidy, asked_tidy, replied_tidy, served_tidy, accepted_tidy}
use Rattle.sci_core.proofs.Step.Steps.{Taken, Stepped, By_issue, By_perform, By_ask, By_serve, By_refuse, By_reply, By_accept, stepping_stepped}

pub node_below : (core : Core) (n : ℕ) → IsWellFormed core → n < core.size.nodes → n < length core.parts
node_below core n well lt = let long = well.sizes.parts_long in omega arith

-- an answer that waits after a request is served is no request
pub waiting_answers : (size : Size) (n : ℕ) (next : NodeOf) (answer : Letter) → next.waiting ≡ Some answer → IsPart size n next → is_request answer.body ≡ false
waiting_answers size n next answer waits is = grind arith

-- ---- each way of stepping

-- a request is taken, and its answer waits
took_tidy : (core new : Core) (taking : NodeOf → Letter → Option NodeOf) (t : Taken core new Requests taking) → IsWellFormed core → IsTidy core
    → IfSome (taking (node_at core t.node) t.letter) (Answers core.size.nodes t.letter (node_at core t.node))
    → IfSome (taking (node_at core t.node) t.letter) (IsPart core.size t.node) → IsTidy new
took_tidy core new taking t well tidy answers is = grind (arith, of_some, served_tidy, node_below, waiting_answers)

stepped_tidy : (core new : Core) (e : Event) (made : Option Entry) → IsWellFormed core → IsTidy core → Stepped core e made new → IsTidy new
stepped_tidy core new e made well tidy (By_issue n op next event lt is then_ none) = grind (arith, changed_tidy, of_some, issue_stays)
stepped_tidy core new e made well tidy (By_perform n line done lt is then_ some) =
    let part = node_at core n in
    subst IsTidy then_ (changed_tidy core n done.0 lt well
    (of_some (λ (x : NodeOf × Entry). Stays core.size.nodes part x.0) (node_performing part line) done is (perform_stays core.size.nodes part line)) tidy)
stepped_tidy core new e made well tidy (By_ask n line kind sent is sends_well s none) = grind (arith, of_some, ask_once, asked_tidy, node_below)
stepped_tidy core new e made well tidy (By_serve t none) =
    let part = node_at core t.node in
    took_tidy core new node_serving t well tidy (serve_answers core.size.nodes part t.letter)
    (part_serving core.size t.node part t.letter t.comes.0 t.comes.1 (well.each_part t.node t.some))
stepped_tidy core new e made well tidy (By_refuse t none) =
    let part = node_at core t.node in
    took_tidy core new node_refusing t well tidy (refuse_answers core.size.nodes part t.letter)
    (part_refusing core.size t.node part t.letter t.comes.0 t.comes.1 (well.each_part t.node t.some))
stepped_tidy core new e made well tidy (By_reply n sent is sends_well s none) = grind (arith, of_some, reply_replies, replied_tidy, node_below)
stepped_tidy core new e made well tidy (By_accept t none) =
    let part = node_at core t.node in
    let on_line : t.letter.line < lines_of part = subst (λ (k : ℕ). t.letter.line < k) (sym (well.each_part t.node t.some).each) t.comes.0.letter_ok.about in
    let accepts = of_some (Accepts t.letter.line part) (node_accepting part t.letter) t.next t.takes (accept_accepts part t.letter) in
    subst IsTidy t.then_ (accepted_tidy core t.node t.place t.next t.letter t.rest (node_below core t.node well t.some) t.within t.front t.comes.0.answers
    t.comes.1 on_line accepts tidy)

-- ---- runs

after_tidy : (core : Core) (e : Event) (made : Option Entry) (next : Option Core) → IsWellFormed core → IsTidy core → IfSome next (Stepped core e made)
    → IsTidy (unwrap_or next core)
after_tidy core e made None well tidy stepped = tidy
after_tidy core e made (Some new) well tidy stepped = stepped_tidy core new e made well tidy stepped

pub step_tidy : (core : Core) (e : Event) → IsWellFormed core → IsTidy core → IsTidy (step core e)
step_tidy core e well tidy = after_tidy core e (performed core e) (stepping core e) well tidy (stepping_stepped core e well)

pub run_tidy : (core : Core) (events : List Event) → IsWellFormed core → IsTidy core → IsTidy (run_from core events)
run_tidy core [] well tidy = tidy
run_tidy core (e ∷ events) well tidy = run_tidy (step core e) events (step_well core e well).well (step_tidy core e well tidy)

-- over a network that keeps no order
pub move_tidy : (core : Core) (move : Move) → IsWellFormed core → IsTidy core → IsTidy (moved core move)
move_tidy core (Happens e) well tidy = step_tidy core e well tidy
move_tidy core (Overtakes place k) well tidy = overtaken_tidy core place k well tidy

pub moves_tidy : (core : Core) (moves : List Move) → IsWellFormed core → IsTidy core → IsTidy (moved_from core moves)
moves_tidy core [] well tidy = tidy
moves_tidy core (move ∷ moves) well tidy = moves_tidy (moved core move) moves (move_well core move well).well (move_tidy core move well tidy)

-- ---- the opening

nothing_waits : (size : Size) (a count : ℕ)
    → flat_map (λ (part : NodeOf). option_to_list part.waiting) (map (λ (n : ℕ). opening_node n size) (range_with_len a count)) ≡ []
nothing_waits size a zero = refl
nothing_waits size a (suc count) = nothing_waits size (a + 1) count

nothing_carried : (count : ℕ) → flat_map (λ (lane : List Letter). lane) (replicate count []) ≡ []
nothing_carried zero = refl
nothing_carried (suc count) = nothing_carried count

pub opening_none : (size : Size) (n line : ℕ) → packets_of (opening size) n line ≡ []
opening_none size n line = grind (arith, nothing_waits, nothing_carried)

pub opening_tidy : (size : Size) → IsTidy (opening size)
opening_tidy size n line lt below = grind (arith, get_or-map-range_with_len, get_or-replicate, opening_none)

pub any_tidy : (core : Core) → IsReachable core → IsTidy core
any_tidy core reached = subst IsTidy reached.leads (moves_tidy (opening core.size) reached.moves (opened core.size reached.size) (opening_tidy core.size))

pub reached_tidy : (core : Core) → IsReached core → IsTidy core
reached_tidy core reached = any_tidy core (reachable core reached)

pub run_size : (size : Size) (schedule : List Event) → IsSize size → (run size schedule).size ≡ size
run_size size schedule sizes = (run_well (opening size) schedule (opened size sizes)).same

pub run_reachable : (size : Size) (schedule : List Event) → IsSize size → IsReachable (run size schedule)
run_reachable size schedule sizes =
    let same = run_size size schedule sizes in
    record {
      size = subst IsSize (sym same) sizes;
      moves = map Happens schedule;
      leads = subst (λ (s : Size). moved_from (opening s) (map Happens schedule) ≡ run size schedule) (sym same)
          (moved_happens (opening size) schedule);
    }

pub run_reached : (size : Size) (schedule : List Event) → IsMachineSize size → IsReached (run size schedule)
run_reached size schedule sizes =
    let is = run_reachable size schedule (is_size size sizes) in
    record { size = subst IsMachineSize (sym (run_size size schedule (is_size size sizes))) sizes; moves = is.moves; leads = is.leads }
