use Rattle.sci_options.proofs.Values.{number_is_said, place_is_said}
use Rattle.sci_options.proofs.argument.Argument.said_by.Goals as goal

pub returns-in_ok-place-in-Place : goal.returns-in_ok-place-in-Place
returns-in_ok-place-in-Place c =
    rw c.in-Place.is
    (place_is_said c.place_said.result c.args.word.now c.in-Place.count c.in_ok-place-in-Place.place c.in_ok-place-in-Place.was c.place_said.ensures)

pub returns-in_ok-number-in-Number : goal.returns-in_ok-number-in-Number
returns-in_ok-number-in-Number c =
    rw c.in-Number.is
    (number_is_said c.number_said.result c.args.word.now c.in-Number.least c.in-Number.greatest c.in_ok-number-in-Number.number
    c.in_ok-number-in-Number.was c.number_said.ensures)
