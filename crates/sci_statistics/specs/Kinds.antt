-- The kinds of events and of operations.
use Rattle.std.specs.Prelude.{ℕ, Bool, ◌==◌, if◌then◌else◌}
use Rattle.sci_words.specs.{declared.{event.EventKind.{EventKind}, operation.Op.{Op}}, Operation.{is_maker}}
use Rattle.sci_words.specs.declared.event.EventKind.TheVariants.{Issue, Perform, Ask, Serve, Refuse, Reply, Accept}
use Rattle.sci_statistics.specs.declared.kind.Access.{Access, TheVariants.{Load, Maker}}

-- where a kind stands among all
abbrev pub kind_place : EventKind → ℕ
kind_place Issue = 0
kind_place Perform = 1
kind_place Ask = 2
kind_place Serve = 3
kind_place Refuse = 4
kind_place Reply = 5
kind_place Accept = 6

abbrev pub is_kind : EventKind → EventKind → Bool
is_kind kind other = kind_place other == kind_place kind

abbrev pub access_of : Op → Access
access_of op = if is_maker op then Maker else Load

abbrev pub access_place : Access → ℕ
access_place Load = 0
access_place Maker = 1

abbrev pub is_access : Access → Access → Bool
is_access access other = access_place other == access_place access
