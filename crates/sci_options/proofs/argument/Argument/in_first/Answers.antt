use Rattle.sci_options.proofs.Values.{none_read, one_read}
use Rattle.sci_options.proofs.argument.Argument.in_first.Goals as goal

pub returns : goal.returns
returns c = one_read (λ word. word.now) c.args.words.now c.in_ok-word.word.now c.in_ok-word._rest.now c.args.self c.said_by.result c.in_ok-value.value
    c.in_ok-word.ensures.cases.0 c.in_ok-value.was c.said_by.ensures

pub returns-in_err-value : goal.returns-in_err-value
returns-in_err-value c = none_read (λ word. word.now) c.args.words.now c.in_ok-word.word.now c.in_ok-word._rest.now c.args.self c.said_by.result
    c.from_residual-in_err-value.result c.in_ok-word.ensures.cases.0 c.in_err-value.was c.from_residual-in_err-value.ensures c.said_by.ensures
