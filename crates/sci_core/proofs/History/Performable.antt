-- An operation can be performed only on a line that has contents.
use Rattle.std.proofs.Common.{◌≡◌, ℕ, true, Option, Some, None, refl, arith}
use Rattle.std.specs.Prelude.{IfSome, IsSome, option_map}
use Rattle.sci_words.specs.declared.operation.Op.{Op}
use Rattle.sci_cache.specs.{State.{CacheState, Head, FreshHead, Below}, Performing.{performing}, Kinds.{could_give_way}}
use Rattle.sci_cache.specs.Cache.{line_of}
use Rattle.sci_core.specs.declared.pending.Pending.{Pending}
use Rattle.sci_core.specs.Node.{NodeOf, IsNode, IsPendingOn, node_performing, pending_on, performing_pending}

mapped_twice : {A B C : Type 0} (f : A → B) (g : B → C) (o : Option A) → IsSome (option_map g (option_map f o)) → IsSome o
mapped_twice f g None e = cc
mapped_twice f g (Some x) e = refl

has_contents : (state : CacheState) (op : Op) → IsSome (performing state op) → could_give_way state ≡ true
has_contents (Head f c) op e = refl
has_contents (FreshHead f c) op e = refl
has_contents (Below f b c) op e = refl
has_contents _ op e = cc

pending_performs : (node : NodeOf) (line : ℕ) (pending : Option Pending) → IfSome pending (IsPendingOn node.issued line)
    → IsSome (performing_pending node line pending) → could_give_way (line_of node.cache line).state ≡ true
pending_performs node line None is e = cc
pending_performs node line (Some p) is e = grind (arith, has_contents, mapped_twice)

pub performs_with_contents : (node : NodeOf) → IsNode node → (line : ℕ) → IsSome (node_performing node line)
    → could_give_way (line_of node.cache line).state ≡ true
performs_with_contents node is line e = pending_performs node line (pending_on node line) (is.each line) e
