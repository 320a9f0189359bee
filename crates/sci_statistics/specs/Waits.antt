-- How many events pass between the Issue of an operation and its Perform.
use Rattle.std.specs.Prelude.{ℕ, true, ◌&&◌, not, Option, Some, None, if◌then◌else◌, List, filter, length, map, max, min, option_map, reverse, slice_get}
use Rattle.std.specs.{Prelude.{sum, take}, List.{filter_map, prefix_len, range_with_len, reduce}, Option.{unwrap_or}}
use Rattle.sci_statistics.specs.declared.kind.Access.{Access, TheVariants.{Load, Maker}}
use Rattle.sci_statistics.specs.declared.passage.Passage.{Passage}
use Rattle.sci_words.specs.declared.event.EventKind.TheVariants.{Issue}
use Rattle.sci_statistics.specs.declared.waits.{Wait.{Wait}, WaitFigures.{WaitFigures}, NodeWaits.{NodeWaits}}
use Rattle.sci_statistics.specs.{Kinds.{is_access}, Measures.{comes, is_at, is_line}}

-- the line about which an event is an enabled Issue of a node, if it is one
unfoldable pub issued_line : ℕ → Passage → Option ℕ
issued_line n p = if comes Issue true p && is_at n p then p.line else None

-- how many events there are behind a node's last enabled Issue about a line: all of them, if there is none
abbrev pub since_issue : ℕ → ℕ → List Passage → ℕ
since_issue n line before = prefix_len (λ p. not (is_line line (issued_line n p))) (reverse before)

-- what an operation does and its line, if both are known
abbrev pub access_on : Option Access → Option ℕ → Option (Access × ℕ)
access_on None line = None
access_on (Some access) None = None
access_on (Some access) (Some line) = Some (access, line)

-- the operation that an event performs at a node: what it does, and its line
unfoldable pub performed_at : ℕ → Passage → Option (Access × ℕ)
performed_at n p = if is_at n p then access_on p.made p.line else None

-- how long it waited, if these events come before; a node has one operation pending on a line, so its last Issue about the line is the operation's
abbrev pub wait_behind : ℕ → List Passage → Option Passage → Option Wait
wait_behind n before None = None
wait_behind n before (Some p) = option_map (λ (made : Access × ℕ). record { access = made.0; events = since_issue n made.1 before }) (performed_at n p)

-- the same, for the event at a place
abbrev pub wait_at : ℕ → List Passage → ℕ → Option Wait
wait_at n passages k = wait_behind n (take k passages) (slice_get passages k)

-- the waits of the operations that a node performs, in order
abbrev pub waits : ℕ → List Passage → List Wait
waits n passages = filter_map (wait_at n passages) (range_with_len 0 (length passages))

-- those of the operations that do this
abbrev pub waits_by : Access → List Wait → List Wait
waits_by access all = filter (λ w. is_access access w.access) all

-- how many there are, the least, all added up, and the greatest
unfoldable pub wait_figures : List Wait → WaitFigures
wait_figures all = record {
  count = length all;
  least = unwrap_or (reduce min (map (λ w. w.events) all)) 0;
  total = sum (map (λ w. w.events) all);
  greatest = unwrap_or (reduce max (map (λ w. w.events) all)) 0;
}

-- of all operations that a node performs, of its loads, and of its makers
unfoldable pub node_waits : ℕ → List Passage → NodeWaits
node_waits n passages = record {
  all = wait_figures (waits n passages);
  loads = wait_figures (waits_by Load (waits n passages));
  makers = wait_figures (waits_by Maker (waits n passages));
}
