use Rattle.std.proofs.Common.{◌≡◌, List, ℕ, length, ap, subst, arith, length-append, refl}
use Rattle.sci_home.specs.Serving.{head_of}
use Rattle.sci_core.specs.{Sharing.{home_at, settled_at}, SharingList.{link_at}}
use Rattle.sci_core.proofs.Shape.Shared.{sought_first, sought_more}
use Rattle.sci_core.proofs.Shape.Walking.{IsWalked, walk_begins, walk_ends, walks_more, walk_done, walked_at}
use Rattle.sci_cache.specs.Member.{contents_held}
use Rattle.sci_core.proofs.state.State.members.Goals as goal

pub loop-place-init : goal.loop-place-init
loop-place-init c = grind (arith, walk_begins, sought_first)

pub overflow_cast-node : goal.overflow_cast-node
overflow_cast-node c =
    let at = walked_at c.args.self.now c.args.line _ _ _ _ c.requires.well c.in-Some.is c.get-node.ensures.number c.loop-place.invariant.walked in
    let below = at.below in
    omega (arith, c.nodes.ensures.nodes, c.nodes.type_inv)

pub behind-next-requires-clause-n : goal.behind-next-requires-clause-n
behind-next-requires-clause-n c =
    (walked_at c.args.self.now c.args.line _ _ _ _ c.requires.well c.in-Some.is c.get-node.ensures.number c.loop-place.invariant.walked).below

pub behind-next-requires-clause-member : goal.behind-next-requires-clause-member
behind-next-requires-clause-member c =
    (walked_at c.args.self.now c.args.line _ _ _ _ c.requires.well c.in-Some.is c.get-node.ensures.number c.loop-place.invariant.walked).goes_on

pub loop-place-preserved : goal.loop-place-preserved
loop-place-preserved c =
    let core = c.args.self.now in
    let at = walked_at c.args.self.now c.args.line _ _ _ _ c.requires.well c.in-Some.is c.get-node.ensures.number c.loop-place.invariant.walked in
    let longer = ap (λ (l : List ℕ). length l) c.in_ok-push.ensures.items in record {
      walked = rw c.in_ok-push.ensures.items
          (walks_more (link_at core c.args.line) (head_of (home_at core c.args.line)) c.loop-place.nodes.items c.get-node.result c.behind-next.result at.walked
          c.behind-next.ensures.behind);
      counted = omega (arith, longer, length-append {A = ℕ}, c.loop-place.invariant.counted);
      sought = rw c.in_ok-push.ensures.items
          (sought_more core c.args.line c.get-node.result c.loop-place.nodes.items c.loop-place.authority c.behind-next.new.found
          (contents_held (settled_at core c.args.line c.get-node.result)) c.loop-place.invariant.sought at.below refl c.behind-next.ensures.here
          c.behind-next.ensures.before);
    }

pub returns-in_default : goal.returns-in_default
returns-in_default c =
    let link = link_at c.args.self.now c.args.line in
    let first = head_of (home_at c.args.self.now c.args.line) in
    let sought = c.loop-place.invariant.sought in
    record {
      list = walk_ends link first c.loop-place.nodes.items (subst (IsWalked link first c.loop-place.nodes.items) c.in_default.is c.loop-place.invariant.walked);
      here = sought.below;
      found = sought.has;
      none = sought.none;
    }

pub returns : goal.returns
returns c =
    let core = c.args.self.now in
    let long : length c.loop-place.nodes.items ≡ core.size.nodes = omega (arith, c.loop-place.invariant.counted, c.nodes-place-end.ensures.nodes) in
    let sought = c.loop-place.invariant.sought in
    record {
      list = walk_done core c.args.line (head_of (home_at core c.args.line)) c.loop-place.nodes.items c.loop-place.next c.requires.well long
          c.loop-place.invariant.walked;
      here = sought.below;
      found = sought.has;
      none = sought.none;
    }
