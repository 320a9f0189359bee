-- What the policy decides of a request, and what it never does.
use Rattle.std.proofs.Common.{◌≡◌, ℕ, Bool, true, false, if◌then◌else◌, Option, Some, None, sym, ◌∙◌, refl, arith}
use Rattle.std.proofs.lemmas.Bool.{and_parts, both_ways, eq-eqb, not-true}
use Rattle.std.specs.Prelude.{is_some}
use Rattle.sci_packets.specs.declared.body.Body.{Body}
use Rattle.sci_cache.specs.Cache.{Letter}
use Rattle.sci_core.specs.Node.{NodeOf, is_setback}
use Rattle.sci_policy.specs.declared.decision.Decision.{Decision}
use Rattle.sci_policy.specs.{Policy.{PolicyOf, decided, is_cread}, Turn.{decided_event}}
use Rattle.sci_packets.specs.declared.body.Body.TheVariants as body
use Rattle.sci_policy.specs.declared.decision.Decision.TheVariants as decision

refused_if : (keep refuse : Bool) → (if keep then decision.Keep else if refuse then decision.Refuse else decision.Serve) ≡ decision.Refuse → refuse ≡ true
refused_if true refuse e = cc
refused_if false true e = refl
refused_if false false e = cc

cread_alone : (b : Body) → is_cread b ≡ true → is_setback b ≡ false
cread_alone body.Cread e = refl
cread_alone (body.Setback w) e = cc
cread_alone _ e = refl

-- what is refused is no Setback
pub refuses_no_setback : (policy : PolicyOf) (node : NodeOf) (request : Letter) → decided policy node request ≡ decision.Refuse
    → is_setback request.body ≡ false
refuses_no_setback policy node request e = grind (arith, refused_if, cread_alone, and_parts)

-- what isn't there isn't seen
pub none_seen : {A B : Type 0} (seen : Option A → Option B) → seen None ≡ None → (o : Option A) (waiting : Option B) → seen o ≡ waiting → is_some o ≡ false
    → waiting ≡ None
none_seen seen blind None waiting e none = sym e ∙ blind
none_seen seen blind (Some x) waiting e none = cc

pub kept_if : (keep refuse : Bool) → (if keep then decision.Keep else if refuse then decision.Refuse else decision.Serve) ≡ decision.Keep → keep ≡ true
kept_if true refuse e = refl
kept_if false true e = cc
kept_if false false e = cc

-- a node's own requests are never kept
pub keeps_no_own : (policy : PolicyOf) (node : NodeOf) (request : Letter) → request.source ≡ node.cache.me → decided policy node request ≡ decision.Keep → ⊥
keeps_no_own policy node request own keep = grind (arith, kept_if, and_parts, both_ways, not-true, eq-eqb)

-- only what is kept is taken by no event
pub keep_of : (d : Decision) (from n : ℕ) → decided_event d from n ≡ None → d ≡ decision.Keep
keep_of decision.Keep from n e = refl
keep_of decision.Refuse from n e = cc
keep_of decision.Serve from n e = cc
