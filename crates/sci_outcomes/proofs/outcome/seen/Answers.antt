use Rattle.std.proofs.Common.{◌∙◌, ap, sym, subst, length, List}
use Rattle.sci_words.specs.declared.stamped.Stamped.{Stamped}
use Rattle.sci_history.specs.{declared.entry.Entry.{Entry}, Audit.{AreWithin}, Lawful.{Lawful}}
use Rattle.sci_history.specs.Sequential.{IsSequentiallyConsistent}
use Rattle.sci_core.specs.Outcome.{logs_of}
use Rattle.sci_allowed.specs.declared.outcome.Outcome.{Outcome}
use Rattle.sci_outcomes.specs.{declared.outcome.Sighting.{Sighting}, Outcomes.{IsSeen, replies_in}}
use Rattle.sci_outcomes.proofs.outcome.seen.Goals as goal

pub sequential_order-requires : goal.sequential_order-requires
sequential_order-requires c =
    let ended = c.finish-logs in
    let lines = length ended.result.1 in
    let within = subst (λ n. AreWithin n ended.result.0) (sym ended.ensures.lines) ended.ensures.within in
    subst (λ (logs : List (List Entry)). AreWithin lines logs) (sym c.in_ok-by_serial.ensures)
    (c.serial_order_is_lawful.ensures.within lines ended.result.0 within)

pub returns-clause-seen : goal.returns-clause-seen
returns-clause-seen c =
    let ended = c.finish-logs in
    let logs = ended.result.0 in
    let last = ended.result.1 in
    let is = c.in_ok-by_serial.ensures in
    let lawful : Lawful c.in_ok-by_serial.by_serial last =
    subst (λ (ls : List (List Entry)). Lawful ls last) (sym is)
    (c.serial_order_is_lawful.ensures.lawful logs last (sym c.nodes-nodes.ensures.nodes ∙ c.nodes-nodes.ensures.sixteen) ended.ensures.lawful) in
    let consistent = subst (λ (ls : List (List Entry)). IsSequentiallyConsistent ls last) is in
    let sorted = subst (λ (ls : List (List Entry)). IsSequentiallyConsistent ls last) (sym is) in
    let outcome : Outcome = record { replies = c.in_ok-replies_of.field-0; last = c.in_ok-words_of.field-0 } in
    let sighting : Sighting = record { outcome = outcome; in_order = c.is_found.result } in
    subst (λ (l : List Stamped). IsSeen c.args.places.now (logs_of c.args.machine) l sighting) ended.ensures.last
    (subst (λ (ls : List (List Entry)). IsSeen c.args.places.now ls last sighting) ended.ensures.logs (record {
      replies = c.in_ok-replies_of.ensures ∙ ap replies_in is;
      words = c.in_ok-words_of.ensures;
      in_order = (
        λ found. consistent (c.in_ok-verdict.ensures.order.0 (c.is_found.ensures.0 found)).1,
        λ there. c.is_found.ensures.1 (c.in_ok-verdict.ensures.order.1 (lawful, sorted there)),
      );
    }))

pub returns-clause-lawful : goal.returns-clause-lawful
returns-clause-lawful c =
    let ended = c.finish-logs in
    subst (λ (l : List Stamped). Lawful (logs_of c.args.machine) l) ended.ensures.last
    (subst (λ (ls : List (List Entry)). Lawful ls ended.result.1) ended.ensures.logs ended.ensures.lawful)
