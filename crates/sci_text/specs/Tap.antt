-- What a tap shows: what it wraps, whether a call on it has failed, and whether another call came after that.
use Rattle.std.specs.Prelude.{ℕ, Bool, true, ◌&&◌, ◌==◌, not, List, length, Result, Ok, Err}
use Rattle.sci_text.specs.declared.tap.Tap.{Tap}

-- the reader or writer inside
abbrev pub tapped : {T : Type 0} → Tap T → T
tapped tap = tap.inner

abbrev pub has_failed : {T : Type 0} → Tap T → Bool
has_failed tap = tap.failed

-- a call came after one that failed
abbrev pub is_called_again : {T : Type 0} → Tap T → Bool
is_called_again tap = tap.called_again

-- a write of a buffer fails by an error, or by taking nothing of a buffer that has bytes
abbrev pub write_fails : {E : Type 0} → Result ℕ E → List ℕ → Bool
write_fails (Ok n) buffer = n == 0 && not (length buffer == 0)
write_fails (Err e) buffer = true
