use Rattle.sci_options.proofs.Values.{two_read}
use Rattle.sci_options.proofs.argument.two_in_front.Goals as goal

pub returns : goal.returns
returns c = two_read (λ word. word.now) c.args.words.now c.in_ok-first.more.now c.in_ok-last._rest.now c.in_ok-first.first.now c.in_ok-last.last.now
    c.two_said.result c.in_ok-first-2.first c.in_ok-first-2.last c.in_ok-first.ensures.cases.0 c.in_ok-last.ensures.cases.0 c.in_ok-first-2.was
    c.two_said.ensures
