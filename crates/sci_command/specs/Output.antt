-- Standard output: what it wraps, and whether a call on it has failed though its reader hadn't left.
use Rattle.std.specs.Prelude.{ℕ, Bool, true, false, ◌&&◌, ◌==◌, not, List, length, Result, Ok, Err}
use Rattle.std.specs.declared.io.{Error.{Error}, ErrorKind.{ErrorKind, TheVariants.{BrokenPipe}}}
use Rattle.std.specs.IoError.{error_kind}
use Rattle.sci_command.specs.declared.output.Output.{Output}

-- the writer inside
abbrev pub written_to : {W : Type 0} → Output W → W
written_to output = output.inner

abbrev pub is_broken : {W : Type 0} → Output W → Bool
is_broken output = output.broken

-- a call failed since its reader has left
abbrev pub has_left_by : ErrorKind → Bool
has_left_by BrokenPipe = true
has_left_by _ = false

-- a write of a buffer fails otherwise, by another error or by taking nothing of a buffer that has bytes
abbrev pub write_breaks : Result ℕ Error → List ℕ → Bool
write_breaks (Ok n) buffer = n == 0 && not (length buffer == 0)
write_breaks (Err e) buffer = not (has_left_by (error_kind e))

abbrev pub flush_breaks : Result (Unit {0}) Error → Bool
flush_breaks (Ok u) = false
flush_breaks (Err e) = not (has_left_by (error_kind e))
