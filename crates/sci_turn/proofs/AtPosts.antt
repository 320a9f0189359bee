-- What a node can do at its post.
use Rattle.std.proofs.Common.{◌≡◌, ◌<◌, ℕ, false, List, ◌∷◌, Option, Some, None, refl, sym, ap, subst, ◌∙◌, arith}
use Rattle.std.specs.Prelude.{IsSome, option_map}
use Rattle.sci_words.specs.declared.event.{AskKind.{AskKind}, Event.{Event}}
use Rattle.sci_cache.specs.Cache.{Letter}
use Rattle.sci_core.specs.declared.lane.LaneKind.{LaneKind, TheVariants.{Answers, Requests}}
use Rattle.sci_core.specs.Core.{Core, IsEnabled, Takes, lane_of, node_at, node_of, sends, sent_by, side}
use Rattle.sci_core.specs.Node.{NodeOf, is_setback, node_accepting, node_asking, node_refusing, node_serving}
use Rattle.sci_core.specs.Sides.{TakesFront, taken_to}
use Rattle.sci_core.proofs.{Tidy.Enabled.{accept_enabled, request_enabled}, Basics.Options.{same_some, map_some, found}}
use Rattle.sci_core.proofs.Step.{Applied.{waits_replying}, Sides.{steps_by_sides}}
use Rattle.sci_policy.specs.{declared.decision.Decision.{Decision}, Policy.{PolicyOf, decided}, Turn.{decided_event}}
use Rattle.sci_policy.proofs.{Deciding.{refuses_no_setback}, Targets.{asked_target, waiting_target}}
use Rattle.sci_turn.specs.Posts.{IsFront, IsPost, MaySend, MayTake, PostOf, node_in, nodes_in}
use Rattle.sci_words.specs.declared.event.Event.TheVariants as event
use Rattle.sci_policy.specs.declared.decision.Decision.TheVariants as decision

front_taken : (core : Core) (n from : ℕ) (kind : LaneKind) (taking : NodeOf → Letter → Option NodeOf) (e : Event) (letter : Letter) (rest : List Letter)
    → TakesFront core n kind taking from e → lane_of core kind from n ≡ letter ∷ rest → IsSome (taking (node_at core n) letter) → IsEnabled core e
front_taken core n from kind taking e letter rest takes is some =
    subst IsSome (sym (takes.front letter rest is)) (map_some (taken_to core n kind from rest) (taking (node_at core n) letter) some)

-- an event by which the node takes the oldest packet of a lane
takes_oldest : (post : PostOf) (from : ℕ) (kind : LaneKind) (letter : Letter) (e : Event) (taking : NodeOf → Letter → Option NodeOf) → from < nodes_in post
    → node_of e ≡ post.me → side (node_in post) e ≡ Takes kind from (taking (node_in post)) → IsFront post kind from letter
    → TakesFront post.core post.me kind taking from e → IsSome (taking (node_in post) letter) → MayTake post kind from letter e
takes_oldest post from kind letter e taking f own side_is front takes some = grind (arith, found, front_taken)

pub may_accept : (post : PostOf) (from : ℕ) (letter : Letter) → IsPost post → from < nodes_in post → IsFront post Answers from letter
    → MayTake post Answers from letter (event.Accept from post.me)
may_accept post from letter here f front =
    takes_oldest post from Answers letter (event.Accept from post.me) node_accepting f refl refl front
    ((steps_by_sides post.core post.me here.some).accept from f) (accept_enabled post.core from post.me here.reached f here.some letter front.0 front.1)

may_serve : (post : PostOf) (from : ℕ) (letter : Letter) → IsPost post → from < nodes_in post → IsFront post Requests from letter
    → (node_in post).waiting ≡ None → MayTake post Requests from letter (event.Serve from post.me)
may_serve post from letter here f front free =
    takes_oldest post from Requests letter (event.Serve from post.me) node_serving f refl refl front
    ((steps_by_sides post.core post.me here.some).serve from f)
    ((request_enabled post.core from post.me here.reached f here.some).served letter front.0 front.1 free)

may_refuse : (post : PostOf) (from : ℕ) (letter : Letter) → IsPost post → from < nodes_in post → IsFront post Requests from letter
    → (node_in post).waiting ≡ None → is_setback letter.body ≡ false → MayTake post Requests from letter (event.Refuse from post.me)
may_refuse post from letter here f front free other =
    takes_oldest post from Requests letter (event.Refuse from post.me) node_refusing f refl refl front
    ((steps_by_sides post.core post.me here.some).refuse from f)
    ((request_enabled post.core from post.me here.reached f here.some).refused letter front.0 front.1 free other)

-- a request is taken as the policy decides
pub may_take : (post : PostOf) (from : ℕ) (letter : Letter) (policy : PolicyOf) (d : Decision) (e : Event) → IsPost post → from < nodes_in post
    → IsFront post Requests from letter → (node_in post).waiting ≡ None → decided policy (node_in post) letter ≡ d
    → Some e ≡ decided_event d from post.me → MayTake post Requests from letter e
may_take post from letter policy decision.Keep e here f front free decides takes = cc
may_take post from letter policy decision.Refuse e here f front free decides takes =
    subst (MayTake post Requests from letter) (sym (same_some _ _ takes))
    (may_refuse post from letter here f front free (refuses_no_setback policy (node_in post) letter decides))
may_take post from letter policy decision.Serve e here f front free decides takes =
    subst (MayTake post Requests from letter) (sym (same_some _ _ takes)) (may_serve post from letter here f front free)

-- ---- sending

pub may_reply : (post : PostOf) (answer : Letter) → IsPost post → (node_in post).waiting ≡ Some answer → MaySend post Answers answer (event.Reply post.me)
may_reply post answer here waits =
    let node = node_in post in
    record {
      own = refl;
      enabled = subst IsSome (sym ((steps_by_sides post.core post.me here.some).reply
          ∙ ap (λ (o : Option (NodeOf × Letter)). option_map (λ (s : NodeOf × Letter). sent_by post.core post.me Answers s.0 s.1) o)
          (waits_replying node answer waits))) refl;
      next = record node { waiting = None };
      side_is = ap (sends Answers) (waits_replying node answer waits);
      target = waiting_target post.core post.me answer here.reached here.some waits;
    }

pub may_ask : (post : PostOf) (line : ℕ) (kind : AskKind) (next : NodeOf) (request : Letter) → IsPost post
    → node_asking (node_in post) line kind ≡ Some (next, request) → MaySend post Requests request (event.Ask post.me line kind)
may_ask post line kind next request here asks = record {
  own = refl;
  enabled = subst IsSome (sym ((steps_by_sides post.core post.me here.some).ask line kind
      ∙ ap (λ (o : Option (NodeOf × Letter)). option_map (λ (s : NodeOf × Letter). sent_by post.core post.me Requests s.0 s.1) o) asks)) refl;
  next = next;
  side_is = ap (sends Requests) asks;
  target = asked_target post.core post.me line kind (next, request) here.reached here.some asks;
}
