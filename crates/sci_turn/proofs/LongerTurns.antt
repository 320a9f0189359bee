-- A turn with one step more.
use Rattle.std.proofs.Common.{◌≡◌, ℕ, Bool, eqb, List, [], ◌∷◌, ◌++◌, Some, refl, sym, ap, subst, ◌∙◌, inl, inr, arith}
use Rattle.std.proofs.lemmas.{Bool.{eq-eqb, ne_eqb}, List.{append-nil, Elements.{filter-append}}}
use Rattle.std.specs.Prelude.{cond}
use Rattle.sci_words.specs.declared.event.Event.{Event}
use Rattle.sci_core.specs.Core.{Core, node_of, stepping}
use Rattle.sci_policy.specs.{declared.progress.Progress.{Progress}, Policy.{PolicyOf, next_policy}}
use Rattle.sci_policy.specs.Turn.{Counts, IsTurnEvent}
use Rattle.sci_turn.specs.Posts.{IsFurther, IsSamePost, IsStill, OthersLead, PostOf, node_in}
use Rattle.sci_turn.specs.{Moves.{ContinuesTurn, HasEnded, HasMoved, IsOwn, Leads, Stage, own_of}, Whole.{Makes, MakesNone}}
use Rattle.sci_turn.proofs.Stills.{further_itself, further_then, same_itself, same_then}

-- the report of a turn with one event more
abbrev pub CountsOne : Event → Progress → Progress → Type 0
CountsOne e told tells = (events : List Event) → Counts events told → Counts (events ++ e ∷ []) tells

leads_join : (n : ℕ) (a : PolicyOf) (x : Core) (xs : List Event) (b : PolicyOf) (y : Core) (ys : List Event) (c : PolicyOf) (z : Core) → Leads n a x xs b y
    → Leads n b y ys c z → Leads n a x (xs ++ ys) c z
leads_join n a x [] b y ys c z one two =
    subst (λ (p : PolicyOf). Leads n p x ys c z) (sym one.0) (subst (λ (w : Core). Leads n b w ys c z) (sym one.1) two)
leads_join n a x (e ∷ xs) b y ys c z one two = (one.0, one.1, one.2, one.3, leads_join n one.1 one.0 xs b y ys c z one.4 two)

-- events of others leave the node's policy
leads_others : (n : ℕ) (a : PolicyOf) (x : Core) (others : List Event) (y : Core) → OthersLead n x others y → Leads n a x others a y
leads_others n a x [] y lead = (refl, lead)
leads_others n a x (e ∷ others) y lead = (lead.0, a, lead.1, inr (record { apart = lead.2; policy = refl }), leads_others n a lead.0 others y lead.3)

own_others : (n : ℕ) (x : Core) (others : List Event) (y : Core) → OthersLead n x others y → own_of n others ≡ []
own_others n x [] y lead = refl
own_others n x (e ∷ others) y lead =
    ap (λ (b : Bool). cond b (e ∷ own_of n others) (own_of n others)) (ne_eqb (node_of e) n lead.2) ∙ own_others n lead.0 others y lead.3

pub own_one : (n : ℕ) (e : Event) → node_of e ≡ n → own_of n (e ∷ []) ≡ e ∷ []
own_one n e is = ap (λ (b : Bool). cond b (e ∷ []) []) (eq-eqb (node_of e) n is)

pub own_join : (n : ℕ) (xs ys : List Event) → own_of n (xs ++ ys) ≡ own_of n xs ++ own_of n ys
own_join n xs ys = filter-append (λ e. eqb (node_of e) n) xs ys

own_seen : (n : ℕ) (x : Core) (more others : List Event) (y : Core) → OthersLead n x others y → own_of n (more ++ others) ≡ own_of n more
own_seen n x more others y lead =
    own_join n more others ∙ (ap (λ (es : List Event). own_of n more ++ es) (own_others n x others y lead) ∙ append-nil (own_of n more))

own_more : (n : ℕ) (more : List Event) (e : Event) → node_of e ≡ n → own_of n (more ++ e ∷ []) ≡ own_of n more ++ e ∷ []
own_more n more e is = own_join n more (e ∷ []) ∙ ap (λ (es : List Event). own_of n more ++ es) (own_one n e is)

-- ---- going on

-- no event was made
moved_still : (first policy : PolicyOf) (start old new : PostOf) (told : Progress) → IsStill old new → HasMoved first start policy old told
    → HasMoved first start policy new told
moved_still first policy start old new told still moved = grind (arith, same_then, leads_join, leads_others, further_then, own_seen)

-- an event was made
moved_more : (first before after : PolicyOf) (start mid new : PostOf) (told tells : Progress) (e : Event) → HasMoved first start before mid told
    → IsSamePost mid new → stepping mid.core e ≡ Some new.core → IsOwn mid.me before mid.core e after
    → IsFurther mid.me mid.schedule (e ∷ []) new.schedule → CountsOne e told tells → HasMoved first start after new tells
moved_more first before after start mid new told tells e moved same steps own further counts =
    let here : IsOwn start.me before mid.core e after = subst (λ (n : ℕ). IsOwn n before mid.core e after) moved.same.me own in
    record {
      same = same_then start mid new moved.same same;
      more = moved.more ++ e ∷ [];
      leads = leads_join start.me first start.core moved.more before mid.core (e ∷ []) after new.core moved.leads (
        new.core,
        after,
        steps,
        inl here,
        (refl, refl),
      );
      further = further_then start.me start.schedule moved.more mid.schedule (e ∷ []) new.schedule moved.further
          (subst (λ (n : ℕ). IsFurther n mid.schedule (e ∷ []) new.schedule) moved.same.me further);
      counts = subst (λ (es : List Event). Counts es tells) (sym (own_more start.me moved.more e here.kind.own))
          (counts (own_of start.me moved.more) moved.counts);
    }

pub goes_still : (old new : Stage) → MakesNone old new → ContinuesTurn old new
goes_still old new none = record {
  same = none.still.same;
  ready = ap (λ (p : Progress). p.ready) none.report;
  turn = λ before start moved. subst (λ (p : PolicyOf). HasMoved before start p new.post new.report) (sym none.policy)
      (subst (λ (p : Progress). HasMoved before start old.policy new.post p) (sym none.report)
      (moved_still before old.policy start old.post new.post old.report none.still moved));
}

pub goes_then : (old mid new : Stage) → ContinuesTurn old mid → ContinuesTurn mid new → ContinuesTurn old new
goes_then old mid new one two = grind (arith, same_then)

pub goes_made : (e : Event) (old new : Stage) → IsTurnEvent old.post.me e → Makes e old new → CountsOne e old.report new.report → ContinuesTurn old new
goes_made e old new own made counts =
    let mid = made.made.mid in
    let still = made.made.still in
    record {
      same = same_then old.post mid new.post still.same made.made.same;
      ready = ap (λ (p : Progress). p.ready) made.counted;
      turn = λ before start moved. moved_more before old.policy new.policy start mid new.post old.report new.report e
          (moved_still before old.policy start old.post mid old.report still moved) made.made.same made.made.made
          (subst (λ (n : ℕ). IsOwn n old.policy mid.core e new.policy) (sym still.same.me) (record { kind = own; decides = made.decides })) made.made.further
          counts;
    }

-- ---- the beginning and the end of a turn

pub turn_begins : (policy : PolicyOf) (post : PostOf) (told : Progress) → Counts [] told → HasMoved policy post policy post told
turn_begins policy post told nothing =
    record { same = same_itself post; more = []; leads = (refl, refl); further = further_itself post.me post.schedule; counts = nothing }

-- the policy wasn't asked once more
pub ends_there : (before : PolicyOf) (old : PostOf) (after : PolicyOf) (new : PostOf) (told : Progress) → HasMoved before old after new told
    → HasEnded before old after new told
ends_there before old after new told moved = record { policy = after; moved = moved; asked = inl refl }

-- or it was
pub ends_asked : (before : PolicyOf) (old : PostOf) (policy after : PolicyOf) (new : PostOf) (told : Progress) → after ≡ next_policy policy (node_in new)
    → HasMoved before old policy new told → HasEnded before old after new told
ends_asked before old policy after new told is moved = record { policy = policy; moved = moved; asked = inr is }

-- a line that can be performed is told of
pub ends_ready : (before : PolicyOf) (old : PostOf) (after : PolicyOf) (new : PostOf) (told tells : Progress) → tells.accepted ≡ told.accepted
    → tells.served ≡ told.served → tells.replied ≡ told.replied → tells.asked ≡ told.asked
    → HasEnded before old after new told → HasEnded before old after new tells
ends_ready before old after new told tells accepted served replied asked ended = grind arith
