-- How all texts write an operation: its word, the line, the place of the word in the line, and the operands.
use Rattle.std.specs.Prelude.{ℕ, ◌<◌, ◌^◌, List, [], ◌++◌, codes}
use Rattle.sci_words.specs.declared.operation.LockOp.{LockOp}
use Rattle.sci_words.specs.declared.operation.LockOp.TheVariants.{MaskSwap, CompareSwap, FetchAdd, BoundedAdd, WrapAdd}
use Rattle.sci_words.specs.declared.operation.{Act.{Act, TheVariants.{Load, Store, Lock}}, Op.{Op}}
use Rattle.sci_text.specs.Number.{field}

abbrev pub lock_word : LockOp → List ℕ
lock_word (MaskSwap arg datum) = codes "mask-swap"
lock_word (CompareSwap arg datum) = codes "compare-swap"
lock_word (FetchAdd datum) = codes "fetch-add"
lock_word (BoundedAdd arg datum) = codes "bounded-add"
lock_word (WrapAdd arg datum) = codes "wrap-add"

-- the word that names what is done
abbrev pub act_word : Act → List ℕ
act_word Load = codes "load"
act_word (Store word) = codes "store"
act_word (Lock lock) = lock_word lock

abbrev pub lock_operands : LockOp → List ℕ
lock_operands (MaskSwap arg datum) = field arg ++ field datum
lock_operands (CompareSwap arg datum) = field arg ++ field datum
lock_operands (FetchAdd datum) = field datum
lock_operands (BoundedAdd arg datum) = field arg ++ field datum
lock_operands (WrapAdd arg datum) = field arg ++ field datum

-- the operands, each a field of its own
abbrev pub act_operands : Act → List ℕ
act_operands Load = []
act_operands (Store word) = field word
act_operands (Lock lock) = lock_operands lock

-- an operation: `load L W`, `store L W X`, `mask-swap L W A D` and so on, of numbers of any size
unfoldable pub operation : Op → List ℕ
operation op = act_word op.act ++ (field op.line ++ (field op.word ++ act_operands op.act))

abbrev pub LockFits : LockOp → Type 0
LockFits (MaskSwap arg datum) = (arg < 2 ^ 64) × (datum < 2 ^ 64)
LockFits (CompareSwap arg datum) = (arg < 2 ^ 64) × (datum < 2 ^ 64)
LockFits (FetchAdd datum) = datum < 2 ^ 64
LockFits (BoundedAdd arg datum) = (arg < 2 ^ 64) × (datum < 2 ^ 64)
LockFits (WrapAdd arg datum) = (arg < 2 ^ 64) × (datum < 2 ^ 64)

-- each operand is a word of 64 bits
abbrev pub ActFits : Act → Type 0
ActFits Load = Unit {0}
ActFits (Store word) = word < 2 ^ 64
ActFits (Lock lock) = LockFits lock
