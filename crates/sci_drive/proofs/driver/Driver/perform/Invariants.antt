use Rattle.std.proofs.Common.{◌≡◌, ◌<◌, ℕ, List, [], length, map, ◌-◌, true, false}
use Rattle.std.specs.Prelude.{slice_index_or}
use Rattle.sci_history.specs.declared.entry.Entry.{Entry}
use Rattle.sci_drive.specs.{Calls.{Answered, HasHeard}, Driving.{DriverOf, IsDriven, IsInOrder}, Rounds.{ArePerformed, IsTried, performed}}
use Rattle.sci_drive.proofs.driver.Driver.perform.Given as goal

abbrev pub invariant-loop-place : goal.invariant-loop-place
invariant-loop-place g l =
    let was = l.initial.self-inside in
    let now = l.self-inside in
    let first : DriverOf = record { script = was.script.now; issuing = was.issuing; next = was.next; pending = was.pending.items; was_done = was.was_done } in
    let driver : DriverOf = record { script = now.script.now; issuing = now.issuing; next = now.next; pending = now.pending.items; was_done = now.was_done } in
    record {
      driven : IsDriven driver (g.W.Worker.node l.worker);
      script : l.self-inside.script ≡ l.initial.self-inside.script;
      issuing : l.self-inside.issuing ≡ l.initial.self-inside.issuing;
      stays : g.W.Worker.stays l.initial.worker l.worker;
      more : l.answered ≡ true → length (g.W.Worker.node l.initial.worker).log < length (g.W.Worker.node l.worker).log;
      same : l.answered ≡ false → (g.W.Worker.node l.worker).log ≡ (g.W.Worker.node l.initial.worker).log;
      order : IsInOrder first (g.W.Worker.node l.initial.worker) → IsInOrder driver (g.W.Worker.node l.worker);
      done : driver.was_done ≡ true → (driver.next ≡ length driver.script) × (driver.pending ≡ []);
      performed : (entries : List Entry) × ArePerformed (g.W.Worker.node l.initial.worker) entries (g.W.Worker.node l.worker)
          × HasHeard g.G.Gate.hears l.initial.gate l.gate first driver (g.W.Worker.node l.initial.worker) (g.W.Worker.node l.worker) (map Answered entries)
          × g.W.Worker.does l.initial.worker (map performed entries) l.worker;
      told : l.self-inside.was_done ≡ l.initial.self-inside.was_done;
      tried : (k : ℕ) → k < l.place → k < length driver.pending
          → IsTried (slice_index_or driver.pending k 0) (g.W.Worker.node l.initial.worker) (g.W.Worker.node l.worker);
    }

abbrev pub decreases-loop-place : goal.decreases-loop-place
decreases-loop-place g l = length l.self-inside.pending.items - l.place
