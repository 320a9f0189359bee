use Rattle.std.proofs.Common.{◌≡◌, length}
use Rattle.sci_home.specs.Serving.{head_of}
use Rattle.sci_core.specs.{Sharing.{home_at}, SharingList.{link_at}}
use Rattle.sci_core.proofs.Shape.{Shared.{Sought}, Walking.{IsWalked}}
use Rattle.sci_core.proofs.state.State.members.Given as goal

-- the walk so far, and the authority among its nodes
abbrev pub invariant-loop-place : goal.invariant-loop-place
invariant-loop-place l = record {
  walked : IsWalked (link_at l.self l.line) (head_of (home_at l.self l.line)) l.nodes.items l.next;
  counted : length l.nodes.items ≡ l._place;
  sought : Sought l.self l.line l.nodes.items l.authority;
}
