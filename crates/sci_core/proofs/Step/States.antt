-- A node that is read at its place, changes, and is written back, is the node with that number.
use Rattle.std.proofs.Common.{◌≡◌, ℕ, ◌<◌, length, get_or, set, Option, Some, None, sym, ap, subst, ◌∙◌, arith}
use Rattle.std.proofs.lemmas.{Option.{IfSome_then}, List.{get_or_read, get_or-set_same}}
use Rattle.std.specs.Prelude.{IfSome}
use Rattle.sci_words.specs.declared.event.Event.{Event}
use Rattle.sci_core.specs.Node.{NodeOf, no_node}
use Rattle.sci_core.specs.Core.{Core, Idle, Changes, node_at, with_node, node_of, side, stepping}
use Rattle.sci_core.proofs.Step.Stepping.{stepping_idle, stepping_changed}

pub read_node : (core : Core) (i n : ℕ) (old : NodeOf) → i ≡ n → n < length core.parts → old ≡ get_or core.parts i old → old ≡ node_at core n
read_node core i n old is below e = get_or_read core.parts n old below (subst (λ (k : ℕ). old ≡ get_or core.parts k old) is e) no_node

-- the same of a machine that is another by its view
pub read_at : (core now : Core) (i n : ℕ) (old : NodeOf) → core ≡ now → length core.parts ≡ core.size.nodes → i ≡ n → n < now.size.nodes
    → old ≡ get_or core.parts i old → old ≡ node_at now n
read_at core now i n old view long at lt value = grind (arith, read_node)

-- what is so of two nodes is so of what they are
pub at_both : (P : NodeOf → NodeOf → Type 0) (old new before after : NodeOf) → old ≡ before → new ≡ after → P old new → P before after
at_both P old new before after was is so = subst (P before) is (subst (λ (node : NodeOf). P node new) was so)

-- what a node's call does to the machine, if it changes its node alone
pub record NodeCall {X : Type 0} (core after : Core) (e : Event) (old new : NodeOf) (made : Option X) : Type 0 where
  pub was : old ≡ node_at core (node_of e)
  pub is : new ≡ node_at after (node_of e)
  -- one that gives something is the step of its event, and one that gives nothing is none
  pub done : IfSome made (λ x. side old e ≡ Changes new) → IfSome made (λ x. stepping core e ≡ Some after)
  pub not : (made ≡ None → side old e ≡ Idle) → made ≡ None → stepping core e ≡ None

pub node_call : {X : Type 0} (core now : Core) (e : Event) (i : ℕ) (old new : NodeOf) (made : Option X) → core ≡ now → length core.parts ≡ core.size.nodes
    → i ≡ node_of e → node_of e < now.size.nodes → old ≡ get_or core.parts i old
    → NodeCall now (record core { parts = set core.parts i new }) e old new made
node_call core now e i old new made view long at lt value =
    let size = ap (λ (k : Core). k.size.nodes) view in
    let after : Core = record core { parts = set core.parts i new } in
    let within : node_of e < core.size.nodes = omega arith in
    let below : node_of e < length core.parts = omega arith in
    let read = read_node core i (node_of e) old at below value in
    subst (λ (k : Core). NodeCall k after e old new made) view (record {
      was = read;
      is = grind (arith, get_or-set_same);
      done = λ changed. IfSome_then made changed (λ x is. stepping_changed core after e new within (ap (λ (node : NodeOf). side node e) (sym read) ∙ is)
          (ap (λ (k : ℕ). with_node core k new) at));
      not = λ idle none. stepping_idle core e within (ap (λ (node : NodeOf). side node e) (sym read) ∙ idle none);
    })
