use Rattle.std.proofs.Common.{arith}
use Rattle.sci_pages.proofs.Answering.{paged_answers}
use Rattle.sci_pages.proofs.paging.page.Goals as goal

pub returns : goal.returns
returns g c = grind (arith, paged_answers)
