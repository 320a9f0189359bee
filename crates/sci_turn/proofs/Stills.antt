-- Posts at which no event was made.
use Rattle.std.proofs.Common.{◌≡◌, ℕ, List, [], ◌∷◌, ◌++◌, Option, Some, None, refl, sym, ap, subst, ◌∙◌, arith}
use Rattle.std.proofs.lemmas.List.{append-nil, append_assoc}
use Rattle.sci_words.specs.declared.event.Event.{Event}
use Rattle.sci_history.proofs.Order.{all-append}
use Rattle.sci_core.specs.Core.{Core, node_of}
use Rattle.sci_turn.specs.Posts.{IsFurther, IsSamePost, IsStill, OthersLead, PostOf}

pub same_itself : (post : PostOf) → IsSamePost post post
same_itself post = record { me = refl; size = refl }

pub same_then : (old mid new : PostOf) → IsSamePost old mid → IsSamePost mid new → IsSamePost old new
same_then old mid new one two = record { me = two.me ∙ one.me; size = two.size ∙ one.size }

pub further_itself : (n : ℕ) (known : Option (List Event)) → IsFurther n known [] known
further_itself n None = tt
further_itself n (Some known) = sym (append-nil known)

pub further_then : (n : ℕ) (a : Option (List Event)) (xs : List Event) (b : Option (List Event)) (ys : List Event) (c : Option (List Event))
    → IsFurther n a xs b → IsFurther n b ys c → IsFurther n a (xs ++ ys) c
further_then n (Some a) xs (Some b) ys (Some c) one two = two ∙ (ap (λ (es : List Event). es ++ ys) one ∙ append_assoc a xs ys)
further_then n (Some a) xs (Some b) ys None one two = absurd two
further_then n (Some a) xs None ys c one two = absurd one
further_then n None xs None ys None one two = all-append (λ e. node_of e ≡ n) xs ys one two
further_then n None xs None ys (Some c) one two = absurd two
further_then n None xs (Some b) ys c one two = absurd one

pub others_join : (n : ℕ) (x : Core) (xs : List Event) (y : Core) (ys : List Event) (z : Core) → OthersLead n x xs y → OthersLead n y ys z
    → OthersLead n x (xs ++ ys) z
others_join n x [] y ys z one two = subst (λ (c : Core). OthersLead n c ys z) (sym one) two
others_join n x (e ∷ xs) y ys z one two = (one.0, one.1, one.2, others_join n one.0 xs y ys z one.3 two)

pub still_itself : (post : PostOf) → IsStill post post
still_itself post = record { same = same_itself post; node = refl; others = []; lead = refl; further = further_itself post.me post.schedule }

pub still_then : (old mid new : PostOf) → IsStill old mid → IsStill mid new → IsStill old new
still_then old mid new one two = grind (arith, same_then, others_join, further_then)
