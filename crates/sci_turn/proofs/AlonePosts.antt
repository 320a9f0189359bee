-- A node that has the whole machine for itself: no event of another comes between its own.
use Rattle.std.proofs.Common.{◌≡◌, ℕ, List, [], ◌∷◌, Option, Some, None, refl, sym, subst, ◌∙◌}
use Rattle.std.specs.List.{AllByRecursion}
use Rattle.sci_words.specs.declared.event.Event.{Event}
use Rattle.sci_core.specs.Core.{Core, node_of, stepping}
use Rattle.sci_turn.specs.Posts.{IsFurther, IsMade, IsStill, OthersLead, PostOf, post_at}

alone_lead : (n : ℕ) (old : Core) (others : List Event) (new : Core) → AllByRecursion (λ e. node_of e ≡ n) others → OthersLead n old others new → new ≡ old
alone_lead n old [] new own lead = sym lead
alone_lead n old (e ∷ others) new own lead = absurd (lead.2 own.0)

further_own : (n : ℕ) (known : Option (List Event)) (more : List Event) (knows : Option (List Event)) → known ≡ None → IsFurther n known more knows
    → (knows ≡ None) × AllByRecursion (λ e. node_of e ≡ n) more
further_own n None more None none further = (refl, further)
further_own n None more (Some knows) none further = elim further [ ]
further_own n (Some known) more knows none further = cc

-- the post of node n, which has the machine for itself
pub record IsAlone (n : ℕ) (post : PostOf) : Type 0 where
  pub me : post.me ≡ n
  pub alone : post.schedule ≡ None

pub record StillAlone (n : ℕ) (old new : PostOf) : Type 0 where
  pub is : IsAlone n new
  pub same : new.core ≡ old.core

-- if it makes no event, the machine is the same
pub still_alone : (n : ℕ) (old new : PostOf) → IsAlone n old → IsStill old new → StillAlone n old new
still_alone n old new alone still =
    let further = further_own old.me old.schedule still.others new.schedule alone.alone still.further in
    record {
      is = record { me = still.same.me ∙ alone.me; alone = further.0 };
      same = alone_lead old.me old.core still.others new.core further.1 still.lead;
    }

pub alone_still : (n m : ℕ) (old new : Core) → IsStill (post_at n old) (post_at m new) → new ≡ old
alone_still n m old new still = alone_lead n old still.others new still.further still.lead

pub record MadeAlone (n : ℕ) (old : PostOf) (e : Event) (new mid : PostOf) : Type 0 where
  pub is : IsAlone n new
  pub mid_is : mid.core ≡ old.core
  pub steps : stepping old.core e ≡ Some new.core

-- an event that it makes leads from one state to the next
pub made_alone : (n : ℕ) (old new : PostOf) (e : Event) → IsAlone n old → (made : IsMade old e new) → MadeAlone n old e new made.mid
made_alone n old new e alone made =
    let mid = still_alone n old made.mid alone made.still in
    let further = further_own made.mid.me made.mid.schedule (e ∷ []) new.schedule mid.is.alone made.further in
    record {
      is = record { me = made.same.me ∙ mid.is.me; alone = further.0 };
      mid_is = mid.same;
      steps = subst (λ (c : Core). stepping c e ≡ Some new.core) mid.same made.made;
    }
