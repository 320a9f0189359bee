use Rattle.sci_options.proofs.argument.Argument.in_front.Goals as goal

pub returns-in-TwoNumbers : goal.returns-in-TwoNumbers
returns-in-TwoNumbers c = rw c.in-TwoNumbers.is c.two_in_front.ensures

pub returns-in-Place : goal.returns-in-Place
returns-in-Place c = rw c.in-Place.is (rw c.in-Place.is at c.in_first.ensures)

pub returns-in-Number : goal.returns-in-Number
returns-in-Number c = rw c.in-Number.is (rw c.in-Number.is at c.in_first-in-Number.ensures)
