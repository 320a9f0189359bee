-- Each event is its node's side, with its one packet.
use Rattle.std.proofs.Common.{◌≡◌, ℕ, ◌<◌, List, Option, Some, None, refl, ap, ◌∙◌}
use Rattle.std.specs.Prelude.{option_map}
use Rattle.sci_words.specs.declared.event.Event.{Event}
use Rattle.sci_history.specs.declared.entry.Entry.{Entry}
use Rattle.sci_cache.specs.Cache.{Letter}
use Rattle.sci_core.specs.declared.lane.LaneKind.{LaneKind, TheVariants.{Requests, Answers}}
use Rattle.sci_core.specs.Node.{NodeOf, node_issuing, node_performing, node_asking, node_serving, node_refusing, node_replying, node_accepting}
use Rattle.sci_core.specs.Core.{Core, node_at, with_node, lane_place, Takes, changes, performs, sends, side, node_of, sent_by, taken_as, taken_from}
use Rattle.sci_core.specs.{Core.{step_by}, Sides.{taken_to, TakesFront, StepsBySides}}
use Rattle.sci_core.proofs.Step.Stepping.{stepping_side, stepping_takes}
use Rattle.sci_words.specs.declared.event.Event.TheVariants as event

changed : (core : Core) (n : ℕ) (next : Option NodeOf) → step_by core n (changes next) ≡ option_map (with_node core n) next
changed core n None = refl
changed core n (Some next) = refl

did : (core : Core) (n : ℕ) (done : Option (NodeOf × Entry)) → step_by core n (performs done) ≡ option_map (λ (d : NodeOf × Entry). with_node core n d.0) done
did core n None = refl
did core n (Some done) = refl

sends_as : (core : Core) (n : ℕ) (kind : LaneKind) (given : Option (NodeOf × Letter))
    → step_by core n (sends kind given) ≡ option_map (λ (s : NodeOf × Letter). sent_by core n kind s.0 s.1) given
sends_as core n kind None = refl
sends_as core n kind (Some given) = refl

took : (core : Core) (n : ℕ) (kind : LaneKind) (from : ℕ) (rest : List Letter) (next : Option NodeOf)
    → taken_as core n (lane_place core.size.nodes kind from n) rest next ≡ option_map (taken_to core n kind from rest) next
took core n kind from rest None = refl
took core n kind from rest (Some next) = refl

pub takes : (core : Core) (e : Event) (kind : LaneKind) (taking : NodeOf → Letter → Option NodeOf) (from : ℕ) → node_of e < core.size.nodes
    → from < core.size.nodes → side (node_at core (node_of e)) e ≡ Takes kind from (taking (node_at core (node_of e)))
    → TakesFront core (node_of e) kind taking from e
takes core e kind taking from lt f is =
    let n = node_of e in
    let place = lane_place core.size.nodes kind from n in
    let step = stepping_takes core e kind from (taking (node_at core n)) lt f is in
    record {
      front = λ letter rest front. step
          ∙ (ap (taken_from core n place (taking (node_at core n))) front ∙ took core n kind from rest (taking (node_at core n) letter));
      empty = λ none. step ∙ ap (taken_from core n place (taking (node_at core n))) none;
    }

pub steps_by_sides : (core : Core) (n : ℕ) → n < core.size.nodes → StepsBySides core n
steps_by_sides core n lt = record {
  issue = λ op. stepping_side core (event.Issue n op) _ lt refl ∙ changed core n (node_issuing (node_at core n) op);
  perform = λ line. stepping_side core (event.Perform n line) _ lt refl ∙ did core n (node_performing (node_at core n) line);
  ask = λ line kind. stepping_side core (event.Ask n line kind) _ lt refl ∙ sends_as core n Requests (node_asking (node_at core n) line kind);
  reply = stepping_side core (event.Reply n) _ lt refl ∙ sends_as core n Answers (node_replying (node_at core n));
  serve = λ from f. takes core (event.Serve from n) Requests node_serving from lt f refl;
  refuse = λ from f. takes core (event.Refuse from n) Requests node_refusing from lt f refl;
  accept = λ from f. takes core (event.Accept from n) Answers node_accepting from lt f refl;
}
