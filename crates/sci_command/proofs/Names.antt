-- The name of a command is short.
use Rattle.std.proofs.Common.{◌≤◌, length, arith}
use Rattle.sci_packets.specs.{declared.command.Command.{Command, TheVariants.{Mread}}, Table.{command_name}}

pub name_short : (command : Command) → length (command_name command) ≤ 7
unfolding command_name
name_short Mread = omega arith
name_short _ = omega arith
