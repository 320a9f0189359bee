-- The stamped line that a struct says.
use Rattle.sci_words.specs.declared.stamped.Stamped.{Stamped}
use Rattle.sci_c_values.specs.declared.stamped.SciStamped.{SciStamped}

abbrev pub stamped_of : SciStamped → Stamped
stamped_of c = record { line = c.words; version = c.version }

abbrev pub stamped_struct : Stamped → SciStamped
stamped_struct stamped = record { version = stamped.version; words = stamped.line }
