-- A whole turn has no Issue and no Perform of its node.
use Rattle.std.proofs.Common.{◌≡◌, ◌≢◌, ◌==◌, ◌⊎◌, ℕ, zero, suc, Bool, true, false, if◌then◌else◌, List, [], ◌∷◌, ◌++◌, append_assoc, refl, sym, ap, subst}
use Rattle.std.proofs.Common.{◌∙◌, inl, inr}
use Rattle.std.proofs.lemmas.{Bool.{ne_eqb}, List.{append-nil, Elements.{filter-append}}}
use Rattle.std.specs.{List.{filter}, Prelude.{Option, Some, None}}
use Rattle.sci_history.proofs.Order.{filter_no}
use Rattle.sci_words.specs.declared.{event.Event.{Event}, limits.TheConstants.{LANE_CELLS}}
use Rattle.sci_core.specs.Core.{Core, node_of}
use Rattle.sci_orders.specs.Witness.{is_seen}
use Rattle.sci_policy.specs.{declared.progress.Progress.{Progress}, Policy.{PolicyOf}}
use Rattle.sci_turn.specs.{Moves.{Stage, own_of}, Posts.{IsFurther, IsMade, IsStill, OthersLead, PostOf}}
use Rattle.sci_turn.specs.Whole.{Accepts, AcceptsFrom, Asks, AsksNoMore, FindsNoAnswer, FindsNoRequest, InTurn, IsWholeTurn, Makes, Replies}
use Rattle.sci_turn.specs.Whole.{Takes, TakesFrom, UpTo}
use Rattle.sci_words.specs.declared.event.Event.TheVariants as event

-- the Issues and Performs of a node among events, in their order
abbrev pub works : ℕ → List Event → List Event
works n events = filter is_seen (own_of n events)

pub works-append : (n : ℕ) (xs ys : List Event) → works n (xs ++ ys) ≡ works n xs ++ works n ys
works-append n xs ys =
    ap (filter is_seen) (filter-append (λ (e : Event). node_of e == n) xs ys) ∙ filter-append is_seen (own_of n xs) (own_of n ys)

-- an event of another node
pub other_works : (n : ℕ) (e : Event) (es : List Event) → node_of e ≢ n → works n (e ∷ es) ≡ works n es
other_works n e es apart = ap (filter is_seen) (filter_no (λ (x : Event). node_of x == n) e es (ne_eqb (node_of e) n apart))

-- an event that isn't seen
hidden_works : (n : ℕ) (e : Event) → is_seen e ≡ false → works n (e ∷ []) ≡ []
hidden_works n e hidden = kept (node_of e == n)
  where
    kept : (b : Bool) → filter is_seen (if b then e ∷ [] else []) ≡ []
    kept true = filter_no is_seen e [] hidden
    kept false = refl

others_works : (n : ℕ) (old new : Core) (es : List Event) → OthersLead n old es new → works n es ≡ []
others_works n old new [] lead = refl
others_works n old new (e ∷ es) lead = other_works n e es lead.2 ∙ others_works n lead.0 new es lead.3

-- ---- between two posts

-- what is known of the schedule goes on by no Issue and no Perform of the node
pub record IsQuiet (old new : PostOf) : Type 0 where
  pub me : new.me ≡ old.me
  pub adds : (known : List Event) → old.schedule ≡ Some known → (more : List Event) × (new.schedule ≡ Some (known ++ more)) × (works old.me more ≡ [])

further_is : (n : ℕ) (old new : Option (List Event)) (known more : List Event) → IsFurther n old more new → old ≡ Some known → new ≡ Some (known ++ more)
further_is n None new known more is eq = absurd (cc)
further_is n (Some k) None known more is eq = absurd is
further_is n (Some k) (Some knows) known more is eq = let same : k ≡ known = cc in ap Some (is ∙ ap (λ (es : List Event). es ++ more) same)

quiet_itself : (post : PostOf) → IsQuiet post post
quiet_itself post = record { me = refl; adds = λ known is. ([], is ∙ ap Some (sym (append-nil known)), refl) }

quiet_then : (a b c : PostOf) → IsQuiet a b → IsQuiet b c → IsQuiet a c
quiet_then a b c one two = record {
  me = two.me ∙ one.me;
  adds = λ known is. (
      let first = one.adds known is in
      let second = two.adds (known ++ first.0) first.1 in
      let none : works a.me second.0 ≡ [] = subst (λ (n : ℕ). works n second.0 ≡ []) one.me second.2 in (
        first.0 ++ second.0,
        second.1 ∙ ap Some (append_assoc known first.0 second.0),
        works-append a.me first.0 second.0 ∙ (ap (λ (es : List Event). es ++ works a.me second.0) first.2 ∙ none),
      ));
}

still_quiet : (old new : PostOf) → IsStill old new → IsQuiet old new
still_quiet old new still = record {
  me = still.same.me;
  adds = λ known is. (
    still.others,
    further_is old.me old.schedule new.schedule known still.others still.further is,
    others_works old.me old.core new.core still.others still.lead,
  );
}

made_quiet : (old new : PostOf) (e : Event) → is_seen e ≡ false → IsMade old e new → IsQuiet old new
made_quiet old new e hidden made =
    quiet_then old made.mid new (still_quiet old made.mid made.still) (record {
      me = made.same.me;
      adds = λ known is. (e ∷ [], further_is made.mid.me made.mid.schedule new.schedule known (e ∷ []) made.further is, hidden_works made.mid.me e hidden);
    })

-- ---- the steps of a turn

abbrev StaysQuiet : Stage → Stage → Type 0
StaysQuiet old new = IsQuiet old.post new.post

up_to_quiet : (n : ℕ) (Step Ends : Stage → Stage → Type 0) → ((a b : Stage) → Step a b → StaysQuiet a b) → ((a b : Stage) → Ends a b → StaysQuiet a b)
    → (old new : Stage) → UpTo n Step Ends old new → StaysQuiet old new
up_to_quiet zero Step Ends step ends old new is = subst (λ (s : Stage). StaysQuiet old s) is (quiet_itself old.post)
up_to_quiet (suc n) Step Ends step ends old new (inl is) = ends old new is
up_to_quiet (suc n) Step Ends step ends old new (inr is) =
    quiet_then old.post is.0.post new.post (step old is.0 is.1) (up_to_quiet n Step Ends step ends is.0 new is.2)

in_turn_quiet : (Step : ℕ → Stage → Stage → Type 0) → ((from : ℕ) (a b : Stage) → Step from a b → StaysQuiet a b)
    → (nodes : List ℕ) (old new : Stage) → InTurn Step nodes old new → StaysQuiet old new
in_turn_quiet Step step [] old new is = subst (λ (s : Stage). StaysQuiet old s) is (quiet_itself old.post)
in_turn_quiet Step step (from ∷ others) old new is =
    quiet_then old.post is.0.post new.post (step from old is.0 is.1) (in_turn_quiet Step step others is.0 new is.2)

replies_quiet : (old new : Stage) → Replies old new → StaysQuiet old new
replies_quiet old new (inl makes) = made_quiet old.post new.post (event.Reply old.post.me) refl makes.made
replies_quiet old new (inr none) = still_quiet old.post new.post none.0.still

accepts_quiet : (from : ℕ) (old new : Stage) → Accepts from old new → StaysQuiet old new
accepts_quiet from old new makes = made_quiet old.post new.post (event.Accept from old.post.me) refl makes.made

takes_quiet : (from : ℕ) (old new : Stage) → Takes from old new → StaysQuiet old new
takes_quiet from old new takes = quiet_then old.post takes.taken.post new.post (taken takes.takes) (replies_quiet takes.taken new takes.replies)
  where
    taken : Makes (event.Serve from old.post.me) old takes.taken ⊎ Makes (event.Refuse from old.post.me) old takes.taken → StaysQuiet old takes.taken
    taken (inl makes) = made_quiet old.post takes.taken.post (event.Serve from old.post.me) refl makes.made
    taken (inr makes) = made_quiet old.post takes.taken.post (event.Refuse from old.post.me) refl makes.made

asks_quiet : (old new : Stage) → Asks old new → StaysQuiet old new
asks_quiet old new asks = made_quiet old.post new.post (event.Ask old.post.me asks.0 asks.1) refl asks.2.made

pub turn_quiet : (before after : PolicyOf) (old new : PostOf) (progress : Progress) → IsWholeTurn before old after new progress → IsQuiet old new
turn_quiet before after old new progress whole =
    let replied = replies_quiet _ whole.replied whole.replies in
    let accepted = in_turn_quiet AcceptsFrom (λ from. up_to_quiet LANE_CELLS (Accepts from) (FindsNoAnswer from) (accepts_quiet from)
    (λ a b none. still_quiet a.post b.post none.0.still)) _ whole.replied whole.accepted whole.accepts in
    let taken = in_turn_quiet TakesFrom (λ from. up_to_quiet LANE_CELLS (Takes from) (FindsNoRequest from) (takes_quiet from)
    (λ a b none. still_quiet a.post b.post none.0.still)) _ whole.accepted whole.taken whole.takes in
    let asked = up_to_quiet LANE_CELLS Asks AsksNoMore asks_quiet (λ a b none. still_quiet a.post b.post none.still) whole.taken _ whole.asks in
    quiet_then old whole.replied.post new replied (quiet_then whole.replied.post whole.accepted.post new accepted
    (quiet_then whole.accepted.post whole.taken.post new taken asked))
