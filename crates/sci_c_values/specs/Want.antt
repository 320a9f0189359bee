-- The structs and numbers of what a policy decides.
use Rattle.std.specs.Prelude.{ℕ, Option, Some, None}
use Rattle.sci_words.specs.Event.{ask_number}
use Rattle.sci_policy.specs.declared.{decision.Decision.{Decision, TheVariants.{Keep, Refuse, Serve}}, want.Want.{Want, TheVariants.{Perform, Ask}}}
use Rattle.sci_c_values.specs.declared.want.SciWant.{SciWant}

abbrev pub want_of : ℕ → ℕ → ℕ → SciWant
want_of kind line ask = record { kind = kind; line = line; ask = ask; reserved = 0 }

abbrev pub want_struct : Option Want → SciWant
want_struct None = want_of 0 0 0
want_struct (Some (Perform line)) = want_of 1 line 0
want_struct (Some (Ask line kind)) = want_of 2 line (ask_number kind)

abbrev pub decision_number : Decision → ℕ
decision_number Keep = 0
decision_number Refuse = 1
decision_number Serve = 2
