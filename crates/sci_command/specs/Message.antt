-- What is said on standard error of how a command ended.
use Rattle.std.specs.Prelude.{ℕ, ◌+◌, ◌==◌, Bool, true, false, List, [], ◌∷◌, ◌++◌, codes, Option, Some, None, if◌then◌else◌}
use Rattle.sci_core.specs.{declared.dead.DeadEvents.{DeadEvents}, Obstacles.{obstacle_name}}
use Rattle.sci_text.specs.declared.fault.TextFaultKind.{TextFaultKind, TheVariants.{Syntax, Range, TooMany, Read, Write, Memory}}
use Rattle.sci_text.specs.{declared.fault.TextFault.{TextFault}, Number.{field}}
use Rattle.sci_command.specs.declared.refusal.{Note.{Note, TheVariants.{Kind, Fixed, Made}}, Refusal.{Refusal}}
use Rattle.sci_command.specs.Refusal.{kind_word}

-- what is wrong with an input as a whole
unfoldable pub whole_words : TextFaultKind → List ℕ
whole_words Syntax = codes "it isn't of the grammar"
whole_words Range = codes "a number is out of range"
whole_words TooMany = codes "the input has more than 134,217,728 bytes"
whole_words Read = codes "the input can't be read"
whole_words Write = codes "standard output can't be written"
whole_words Memory = codes "out of memory"

-- the line of a fault, if it is one of a line
unfoldable pub place_text : ℕ → List ℕ
place_text line = if line == 0 then codes ": " else codes ": line" ++ field line

-- the kind of a fault
unfoldable pub kind_said : TextFault → List ℕ
kind_said fault = if fault.line == 0 then whole_words fault.kind else codes ": " ++ kind_word fault.kind

-- what is said of a fault besides its place
unfoldable pub note_text : TextFault → Note → List ℕ
note_text fault Kind = kind_said fault
note_text fault (Fixed words) = words.now
note_text fault (Made words) = words.items

-- what is said of events of a schedule that weren't enabled: how many, and the line and the obstacle of the first
unfoldable pub dead_text : DeadEvents → List ℕ
dead_text dead = codes ": events not enabled:" ++ (field dead.count
    ++ (codes ", the first in line" ++ (field (dead.place + 2) ++ (codes ": " ++ (obstacle_name dead.obstacle ++ 10 ∷ [])))))

-- what a program of this name says of a refusal, of an output that couldn't be written, or of events that weren't enabled
unfoldable pub message : List ℕ → Option Refusal → Option DeadEvents → Bool → List ℕ
message name (Some refusal) dead broken = name ++ (place_text refusal.fault.line ++ (note_text refusal.fault refusal.note ++ 10 ∷ []))
message name None dead true = name ++ (codes ": " ++ (whole_words Write ++ 10 ∷ []))
message name None (Some dead) false = name ++ dead_text dead
message name None None false = []
