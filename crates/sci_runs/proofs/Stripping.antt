-- A turn that adds events of its node alone is one of a node that has the machine for itself: what is known of the schedule is forgotten.
use Rattle.std.proofs.Common.{◌≡◌, ◌⊎◌, ℕ, zero, suc, List, [], ◌∷◌, ◌++◌, Option, Some, None, refl, sym, ap, subst, ◌∙◌, inl, inr, arith}
use Rattle.std.proofs.lemmas.List.{append-nil, append_assoc}
use Rattle.std.specs.{Prelude.{IfSome}, List.{AllByRecursion}}
use Rattle.sci_words.specs.declared.event.{Event.{Event}}
use Rattle.sci_core.specs.Core.{node_of}
use Rattle.sci_policy.specs.{declared.{progress.Progress.{Progress}, want.Want.{Want, TheVariants.{Perform, Ask}}}, Policy.{PolicyOf}}
use Rattle.sci_turn.specs.{Moves.{Decides, Stage, stage}, Posts.{IsFurther, IsMade, IsStill, PostOf, post_at}}
use Rattle.sci_turn.specs.Whole.{Accepts, AcceptsFrom, Asks, AsksNoMore, EndsAt, FindsNoAnswer, FindsNoRequest, InTurn, IsWholeTurn, Makes, MakesNone, Replies}
use Rattle.sci_turn.specs.Whole.{Takes, TakesFrom, UpTo}
use Rattle.sci_fair.proofs.Opens.{all_parts}
use Rattle.sci_words.specs.declared.event.Event.TheVariants as event

-- the post, and the stage, of a node that has the machine for itself
abbrev pub bare : PostOf → PostOf
bare post = post_at post.me post.core

abbrev bare_at : Stage → Stage
bare_at s = stage s.policy (bare s.post) s.report

-- all of these events are node n's
abbrev pub AreOwn : ℕ → List Event → Type 0
AreOwn n events = AllByRecursion (λ e. node_of e ≡ n) events

-- what is known goes on by these events; and if they are all the node's own, then so it is
pub record Stripped (n : ℕ) (xs : List Event) (b : PostOf) (T : Type 0) : Type 0 where
  pub me : b.me ≡ n
  pub knows : List Event
  pub more : List Event
  pub known : b.schedule ≡ Some knows
  pub grows : knows ≡ xs ++ more
  pub so : AreOwn n more → T

then_so : (n : ℕ) (xs : List Event) (m b : PostOf) (T U V : Type 0) → (one : Stripped n xs m T) → Stripped n one.knows b U → (T → U → V)
    → Stripped n xs b V
then_so n xs m b T U V one two both = record {
  me = two.me;
  knows = two.knows;
  more = one.more ++ two.more;
  known = two.known;
  grows = two.grows ∙ (ap (λ (l : List Event). l ++ two.more) one.grows ∙ append_assoc xs one.more two.more);
  so = λ own. (let parts = all_parts (λ e. node_of e ≡ n) one.more two.more own in both (one.so parts.0) (two.so parts.1));
}

both_so : (n : ℕ) (xs : List Event) (m b : PostOf) (T U : Type 0) → (one : Stripped n xs m T) → Stripped n one.knows b U → Stripped n xs b (T × U)
both_so n xs m b T U one two = then_so n xs m b T U (T × U) one two (λ p q. (p, q))

so_then : (n : ℕ) (xs : List Event) (b : PostOf) (T U : Type 0) → Stripped n xs b T → (T → U) → Stripped n xs b U
so_then n xs b T U one maps =
    record { me = one.me; knows = one.knows; more = one.more; known = one.known; grows = one.grows; so = λ own. maps (one.so own) }

further_by : (n : ℕ) (known more : List Event) (knows : Option (List Event)) → IsFurther n (Some known) more knows
    → (events : List Event) × (knows ≡ Some events) × (events ≡ known ++ more)
further_by n known more (Some events) further = (events, refl, further)
further_by n known more None further = elim further [ ]

strip_still : (n : ℕ) (xs : List Event) (a b : PostOf) → a.me ≡ n → a.schedule ≡ Some xs → IsStill a b → Stripped n xs b (IsStill (bare a) (bare b))
strip_still n xs a b me knows still =
    let by = further_by a.me xs still.others b.schedule (subst (λ (s : Option (List Event)). IsFurther a.me s still.others b.schedule) knows still.further) in
    record {
      me = still.same.me ∙ me;
      knows = by.0;
      more = still.others;
      known = by.1;
      grows = by.2;
      so = λ own. record {
        same = record { me = still.same.me; size = still.same.size };
        node = still.node;
        others = still.others;
        lead = still.lead;
        further = subst (λ (k : ℕ). AreOwn k still.others) (sym me) own;
      };
    }

record MadeSo (a : PostOf) (e : Event) (b mid : PostOf) : Type 0 where
  made : IsMade (bare a) e (bare b)
  mid_is : made.mid ≡ bare mid

strip_made : (n : ℕ) (xs : List Event) (a : PostOf) (e : Event) (b : PostOf) → a.me ≡ n → a.schedule ≡ Some xs → (made : IsMade a e b)
    → Stripped n xs b (MadeSo a e b made.mid)
strip_made n xs a e b me knows made =
    let mid = made.mid in
    let one = strip_still n xs a mid me knows made.still in
    let by = further_by mid.me one.knows (e ∷ []) b.schedule
    (subst (λ (s : Option (List Event)). IsFurther mid.me s (e ∷ []) b.schedule) one.known made.further) in
    let last : Stripped n one.knows b (AreOwn n (e ∷ [])) =
    record { me = made.same.me ∙ one.me; knows = by.0; more = e ∷ []; known = by.1; grows = by.2; so = λ own. own } in
    then_so n xs mid b (IsStill (bare a) (bare mid)) (AreOwn n (e ∷ [])) (MadeSo a e b mid) one last (λ still own. record {
      made = record {
        mid = bare mid;
        still = still;
        made = made.made;
        same = record { me = made.same.me; size = made.same.size };
        further = subst (λ (k : ℕ). AreOwn k (e ∷ [])) (sym one.me) own;
      };
      mid_is = refl;
    })

-- ---- the steps of a turn

-- a relation of stages that holds of their bare ones too
abbrev Strips : ℕ → (Stage → Stage → Type 0) → Type 0
Strips n R = (xs : List Event) (a b : Stage) → a.post.me ≡ n → a.post.schedule ≡ Some xs → R a b → Stripped n xs b.post (R (bare_at a) (bare_at b))

strip_makes : (n : ℕ) (e : Event) → Strips n (Makes e)
strip_makes n e xs a b me knows makes =
    so_then n xs b.post (MadeSo a.post e b.post makes.made.mid) (Makes e (bare_at a) (bare_at b)) (strip_made n xs a.post e b.post me knows makes.made)
    (λ made. record {
      made = made.made;
      decides = subst (λ (p : PostOf). Decides a.policy p.core a.post.me e b.policy) (sym made.mid_is) makes.decides;
      counted = makes.counted;
    })

strip_none : (n : ℕ) → Strips n MakesNone
strip_none n xs a b me knows none = grind (arith, so_then, strip_still)

strip_replies : (n : ℕ) → Strips n Replies
strip_replies n xs a b me knows (inl makes) =
    so_then n xs b.post (Makes (event.Reply a.post.me) (bare_at a) (bare_at b)) (Replies (bare_at a) (bare_at b))
    (strip_makes n (event.Reply a.post.me) xs a b me knows makes) (λ made. inl made)
strip_replies n xs a b me knows (inr none) =
    so_then n xs b.post (MakesNone (bare_at a) (bare_at b)) (Replies (bare_at a) (bare_at b)) (strip_none n xs a b me knows none.0) (λ so. inr (so, none.1))

strip_answers : (n from : ℕ) → Strips n (FindsNoAnswer from)
strip_answers n from xs a b me knows none = grind (arith, so_then, strip_none)

strip_requests : (n from : ℕ) → Strips n (FindsNoRequest from)
strip_requests n from xs a b me knows none = grind (arith, so_then, strip_none)

strip_takes : (n from : ℕ) → Strips n (Takes from)
strip_takes n from xs a b me knows takes =
    let mid = takes.taken in
    let Taking = Makes (event.Serve from a.post.me) (bare_at a) (bare_at mid) ⊎ Makes (event.Refuse from a.post.me) (bare_at a) (bare_at mid) in
    let one : Stripped n xs mid.post Taking = elim takes.takes [
      | inl makes ↦ so_then n xs mid.post (Makes (event.Serve from a.post.me) (bare_at a) (bare_at mid)) Taking
          (strip_makes n (event.Serve from a.post.me) xs a mid me knows makes) (λ made. inl made)
      | inr makes ↦ so_then n xs mid.post (Makes (event.Refuse from a.post.me) (bare_at a) (bare_at mid)) Taking
          (strip_makes n (event.Refuse from a.post.me) xs a mid me knows makes) (λ made. inr made)
    ] in
    then_so n xs mid.post b.post Taking (Replies (bare_at mid) (bare_at b)) (Takes from (bare_at a) (bare_at b)) one
    (strip_replies n one.knows mid b one.me one.known takes.replies) (λ taken replies. record { taken = bare_at mid; takes = taken; replies = replies })

strip_asks : (n : ℕ) → Strips n Asks
strip_asks n xs a b me knows asks =
    so_then n xs b.post (Makes (event.Ask a.post.me asks.0 asks.1) (bare_at a) (bare_at b)) (Asks (bare_at a) (bare_at b))
    (strip_makes n (event.Ask a.post.me asks.0 asks.1) xs a b me knows asks.2) (λ made. (asks.0, asks.1, made))

ends_bare : (post : PostOf) (want : Option Want) → IfSome want (EndsAt post) → IfSome want (EndsAt (bare post))
ends_bare post None ends = tt
ends_bare post (Some (Perform line)) ends = tt
ends_bare post (Some (Ask line kind)) ends = ends

strip_no_more : (n : ℕ) → Strips n AsksNoMore
strip_no_more n xs a b me knows ends = grind (arith, so_then, strip_still, ends_bare)

-- ---- steps one after another

strip_end : (n : ℕ) (xs : List Event) (a b : Stage) → a.post.me ≡ n → a.post.schedule ≡ Some xs → a ≡ b → Stripped n xs b.post (bare_at a ≡ bare_at b)
strip_end n xs a b me knows same = record {
  me = subst (λ (s : Stage). s.post.me ≡ n) same me;
  knows = xs;
  more = [];
  known = subst (λ (s : Stage). s.post.schedule ≡ Some xs) same knows;
  grows = sym (append-nil xs);
  so = λ own. ap bare_at same;
}

strip_up_to : (n k : ℕ) (Step Ends : Stage → Stage → Type 0) → Strips n Step → Strips n Ends → Strips n (UpTo k Step Ends)
strip_up_to n zero Step Ends steps ends xs a b me knows same = strip_end n xs a b me knows same
strip_up_to n (suc k) Step Ends steps ends xs a b me knows (inl end) =
    so_then n xs b.post (Ends (bare_at a) (bare_at b)) (UpTo (suc k) Step Ends (bare_at a) (bare_at b)) (ends xs a b me knows end) (λ so. inl so)
strip_up_to n (suc k) Step Ends steps ends xs a b me knows (inr rest) =
    let mid = rest.0 in
    let one = steps xs a mid me knows rest.1 in
    then_so n xs mid.post b.post (Step (bare_at a) (bare_at mid)) (UpTo k Step Ends (bare_at mid) (bare_at b))
    (UpTo (suc k) Step Ends (bare_at a) (bare_at b)) one (strip_up_to n k Step Ends steps ends one.knows mid b one.me one.known rest.2)
    (λ step others. inr (bare_at mid, step, others))

strip_in_turn : (n : ℕ) (Step : ℕ → Stage → Stage → Type 0) → ((from : ℕ) → Strips n (Step from)) → (froms : List ℕ) → Strips n (InTurn Step froms)
strip_in_turn n Step steps [] xs a b me knows same = strip_end n xs a b me knows same
strip_in_turn n Step steps (from ∷ froms) xs a b me knows rest =
    let mid = rest.0 in
    let one = steps from xs a mid me knows rest.1 in
    then_so n xs mid.post b.post (Step from (bare_at a) (bare_at mid)) (InTurn Step froms (bare_at mid) (bare_at b))
    (InTurn Step (from ∷ froms) (bare_at a) (bare_at b)) one (strip_in_turn n Step steps froms one.knows mid b one.me one.known rest.2)
    (λ step others. (bare_at mid, step, others))

-- ---- a turn

pub strip_whole : (n : ℕ) (xs : List Event) (before after : PolicyOf) (a b : PostOf) (progress : Progress) → a.me ≡ n → a.schedule ≡ Some xs
    → IsWholeTurn before a after b progress → Stripped n xs b (IsWholeTurn before (bare a) after (bare b) progress)
strip_whole n xs before after a b progress me knows whole =
    let end = stage after b progress in
    let one = strip_replies n xs _ whole.replied me knows whole.replies in
    let two = strip_in_turn n AcceptsFrom (λ from. strip_up_to n 4 (Accepts from) (FindsNoAnswer from) (λ ys c d i k makes.
    strip_makes n (event.Accept from c.post.me) ys c d i k makes) (strip_answers n from)) _ one.knows whole.replied whole.accepted one.me one.known
    whole.accepts in
    let three = strip_in_turn n TakesFrom (λ from. strip_up_to n 4 (Takes from) (FindsNoRequest from) (strip_takes n from) (strip_requests n from)) _ two.knows
    whole.accepted whole.taken two.me two.known whole.takes in
    let four = strip_up_to n 4 Asks AsksNoMore (strip_asks n) (strip_no_more n) three.knows whole.taken end three.me three.known whole.asks in
    let last = both_so n two.knows whole.taken.post b _ _ three four in
    let rest = both_so n one.knows whole.accepted.post b _ _ two last in
    then_so n xs whole.replied.post b _ _ (IsWholeTurn before (bare a) after (bare b) progress) one rest (λ p q. record {
      replied = bare_at whole.replied;
      accepted = bare_at whole.accepted;
      taken = bare_at whole.taken;
      replies = p;
      accepts = q.0;
      takes = q.1.0;
      asks = q.1.1;
    })
