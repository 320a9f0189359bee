use Rattle.std.proofs.lemmas.Result.{on_ok_weaker}
use Rattle.sci_text.specs.Number.{number}
use Rattle.sci_command.proofs.Joined.{joined3}
use Rattle.sci_charts.specs.Elements.{block_begin, block_element, block_names}
use Rattle.sci_charts.proofs.elements.push_block.Goals as goal

pub returns : goal.returns
unfolding block_element
returns c =
    on_ok_weaker c.push_text-2.result
    (λ names. joined3 c.args.out.now.items block_begin (number c.args.y) block_names c.push_text.new.out.items c.push_number.new.out.items
    c.push_text-2.new.out.items c.in_ok-push_text.ensures.text c.in_ok-push_number.ensures.text names) c.push_text-2.ensures.text
