use Rattle.sci_pages.specs.declared.log_data.TheConstants.{EXPLAINED, ORDERED, ORDERED_BY_SERIAL}
use Rattle.sci_pages.proofs.Said.{all_said}
use Rattle.sci_pages.proofs.log_data.data_of.Goals as goal

pub returns : goal.returns
returns c few =
    let log = c.args.log.now in
    let text = c.args.text.now in
    let explained = c.in_ok-explained.explained in
    let ordered = c.in_ok-ordered.ordered in
    let by_serial = c.in_ok-by_serial.by_serial in
    let first = rw c.deref.ensures.value at c.in_ok-push_said.ensures in
    let second = rw c.deref-2.ensures.value at c.in_ok-push_said-2.ensures in
    let third = rw c.deref-3.ensures.value at c.in_ok-push_said-3.ensures in record {
      logs = log.logs;
      last = log.last.value;
      read = (log.nodes, c.requires.read);
      few = few;
      explained = explained.text.items;
      is_explained = (explained.outcome, c.in_ok-explained.ensures text c.requires);
      ordered = ordered.text.items;
      is_ordered = (ordered.outcome, c.in_ok-ordered.ensures text c.requires);
      by_serial = by_serial.text.items;
      is_by_serial = (by_serial.outcome, c.in_ok-by_serial.ensures text c.requires);
      written = all_said text EXPLAINED.now explained.text.items ORDERED.now ordered.text.items ORDERED_BY_SERIAL.now by_serial.text.items
          c.in_ok-data.data.items c.push_said.new.out.items c.push_said-2.new.out.items c.push_said-3.new.out.items
          c.in_ok-data.ensures.items first second third;
    }
