-- What a line of a trace says.
use Rattle.std.specs.Prelude.{ℕ, ◌^◌, ◌-◌, Bool, true, false, ◌==◌, ◌&&◌, nat_le, nat_lt, if◌then◌else◌, List, Option, Some, None, option_map, codes}
use Rattle.sci_words.specs.declared.limits.TheConstants.{MAX_NODES}
use Rattle.sci_text.specs.Reading.{◌>>=◌, otherwise, both}
use Rattle.sci_judge.specs.declared.access.{Access.{Access}, Kind.{Kind, TheVariants.{Load, Store, Atomic}}}
use Rattle.sci_axe.specs.declared.line.{Relation.{Relation, TheVariants.{Wrote, Found}}, Said.{Said, TheVariants.{Nothing, Did, Ended}}}
use Rattle.sci_axe.specs.declared.line.{Part.{Part}, Span.{Span}, Work.{Work}}
use Rattle.sci_axe.specs.Notation.{behind, is_end, number_read}

-- `:=` or `==`
unfoldable pub relation_read : List ℕ → Option (Relation × List ℕ)
relation_read bytes =
    otherwise (option_map (λ rest. (Wrote, rest)) (behind (codes ":=") bytes)) (option_map (λ rest. (Found, rest)) (behind (codes "==") bytes))

-- `M[A] := V` or `M[A] == V`
unfoldable pub part_read : List ℕ → Option (Part × List ℕ)
part_read bytes = do
  memory ← behind (codes "M") bytes
  open_ ← behind (codes "[") memory
  address ← number_read open_
  close ← behind (codes "]") address.1
  relation ← relation_read close
  word ← number_read relation.1
  Some (record { address = address.0; relation = relation.0; word = word.0 }, word.1)

abbrev pub kind_by : Relation → ℕ → Kind
kind_by Wrote word = Store word
kind_by Found word = Load word

-- what a load or a store did
unfoldable pub single : Part → Work
single part = record { address = part.address; kind = option_map (kind_by part.relation) part.word }

abbrev pub atomic_of : ℕ × ℕ → Kind
atomic_of words = Atomic words.0 words.1

-- the same address, also if it is too large for 64 bits
abbrev pub is_same : Option ℕ → Option ℕ → Bool
is_same None None = true
is_same (Some a) (Some b) = a == b
is_same _ _ = false

-- what an atomic did: it read at an address, and then wrote there
abbrev pub joined_by : Relation → Relation → Bool → Work → Option Work
joined_by Found Wrote true work = Some work
joined_by _ _ _ work = None

unfoldable pub joined : Part → Part → Option Work
joined read wrote =
    joined_by read.relation wrote.relation (is_same read.address wrote.address)
    (record { address = read.address; kind = option_map atomic_of (both read.word wrote.word) })

-- `M[A] == V; M[A] := W }`
unfoldable pub atomic_read : List ℕ → Option (Work × List ℕ)
atomic_read bytes = do
  read ← part_read bytes
  gap ← behind (codes ";") read.1
  wrote ← part_read gap
  close ← behind (codes "}") wrote.1
  work ← joined read.0 wrote.0
  Some (work, close)

-- a load, a store, or an atomic in braces
abbrev pub work_by : List ℕ → Option (List ℕ) → Option (Work × List ℕ)
work_by bytes None = part_read bytes >>= λ part. Some (single part.0, part.1)
work_by bytes (Some atomic) = atomic_read atomic

unfoldable pub work_read : List ℕ → Option (Work × List ℕ)
work_read bytes = work_by bytes (behind (codes "{") bytes)

-- a time, or what stands for none
abbrev pub time_by : ℕ → List ℕ → Option (Option ℕ × List ℕ) → Option ℕ × List ℕ
time_by default bytes None = (Some default, bytes)
time_by default bytes (Some time) = time

unfoldable pub time_read : ℕ → List ℕ → Option ℕ × List ℕ
time_read default bytes = time_by default bytes (number_read bytes)

-- `@ BEGIN:END`, each of the two as one likes, or nothing
abbrev pub span_by : List ℕ → Option (List ℕ) → Option (Span × List ℕ)
span_by bytes None = Some (record { begin = Some 0; end = Some (2 ^ 64 - 1) }, bytes)
span_by bytes (Some times) =
    behind (codes ":") (time_read 0 times).1 >>= λ gap.
    Some (record { begin = (time_read 0 times).0; end = (time_read (2 ^ 64 - 1) gap).0 }, (time_read (2 ^ 64 - 1) gap).1)

unfoldable pub span_read : List ℕ → Option (Span × List ℕ)
span_read bytes = span_by bytes (behind (codes "@") bytes)

-- ---- the whole line

abbrev pub when : {X : Type 0} → Bool → X → Option X
when true x = Some x
when false x = None

-- an operation whose numbers fit, on the line of this number
unfoldable pub made : ℕ → Option ℕ → Work → Span → Option Access
made line processor work span = do
  p ← processor
  address ← work.address
  kind ← work.kind
  begin ← span.begin
  end ← span.end
  when (nat_lt p MAX_NODES && nat_le begin end) (record { processor = p; address = address; kind = kind; begin = begin; end = end; line = line })

-- nothing more may stand on the line
abbrev pub over : {X : Type 0} → List ℕ → X → Option X
over bytes said = when (is_end bytes) said

unfoldable pub access_read : ℕ → Option ℕ → List ℕ → Option (Option Said)
access_read line processor bytes = do
  work ← work_read bytes
  span ← span_read work.1
  over span.1 (option_map Did (made line processor work.0 span.0))

-- `sync` of a processor says nothing
abbrev pub done_by : ℕ → Option ℕ → List ℕ → Option (List ℕ) → Option (Option Said)
done_by line processor bytes None = access_read line processor bytes
done_by line processor bytes (Some rest) = over rest (Some Nothing)

unfoldable pub operation_read : ℕ → List ℕ → Option (Option Said)
operation_read line bytes = do
  processor ← number_read bytes
  rest ← behind (codes ":") processor.1
  done_by line processor.0 rest (behind (codes "sync") rest)

-- the last word that a part says, if its numbers fit
unfoldable pub ended : Part → Option Said
ended part = do
  address ← part.address
  word ← part.word
  Some (Ended (record { address = address; word = word }))

abbrev pub ended_by : Relation → Bool → Part → Option (Option Said)
ended_by Found true part = Some (ended part)
ended_by _ _ part = None

-- `M[A] == V`, and nothing more
unfoldable pub final_read : List ℕ → Option (Option Said)
final_read bytes = do
  part ← part_read bytes
  ended_by part.0.relation (is_end part.1) part.0

-- the last word at an address stands behind `final`
abbrev pub said_by : ℕ → List ℕ → Option (List ℕ) → Option (Option Said)
said_by line bytes None = operation_read line bytes
said_by line bytes (Some rest) = final_read rest

-- What the bytes of a line say: None if they are of no such form, and Some None if a number is outside its limits.
unfoldable pub line_read : ℕ → List ℕ → Option (Option Said)
line_read line bytes = if is_end bytes then Some (Some Nothing) else said_by line bytes (behind (codes "final") bytes)
