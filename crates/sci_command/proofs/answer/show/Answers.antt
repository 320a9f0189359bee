use Rattle.std.proofs.{Common.{[], refl}, KnownBytes.{Appends-nil}}
use Rattle.sci_command.specs.declared.outcome.Outcome.TheVariants.{Refused}
use Rattle.sci_command.proofs.answer.show.Goals as goal

pub returns-in-Err-clause-written : goal.returns-in-Err-clause-written
returns-in-Err-clause-written g c =
    rw c.in-Err.is record {
      whole = λ unfailed. ([], Appends-nil _, (refl, refl));
      front = ([], Refused, record { written = []; rest = []; parts = refl; appended = Appends-nil _ }, (refl, refl));
      refused = λ failed. refl;
    }
