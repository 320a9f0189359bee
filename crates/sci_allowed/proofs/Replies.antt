-- What operations replied, one more after another.
use Rattle.std.proofs.Common.{◌≡◌, ℕ, ◌+◌, List, [], ◌∷◌, ◌++◌, length, Option, Some, None, append_assoc, arith}
use Rattle.std.proofs.lemmas.List.{append-nil}
use Rattle.std.specs.{List.{filter_map, range_with_len}, Prelude.{slice_index_or}}
use Rattle.sci_words.specs.declared.operation.Op.{Op}
use Rattle.sci_orders.proofs.Places.{gives_more}
use Rattle.sci_orders.specs.Positions.{Operations, Position, answers_of, own_of}
use Rattle.sci_orders.specs.declared.standing.Answer.{Answer, TheVariants.{Stored}}
use Rattle.sci_allowed.specs.{Outcome.{replied_at, replies_on}}

pub one_replied : {Y : Type 0} (f : ℕ → Option Y) (n : ℕ) (first before new : List Y) (y : Y) → f n ≡ Some y
    → before ≡ first ++ filter_map f (range_with_len 0 n) → new ≡ before ++ y ∷ [] → new ≡ first ++ filter_map f (range_with_len 0 (n + 1))
one_replied {Y = Y} f n first before new y is so then_ = grind (arith, append_assoc, gives_more)

pub none_replied : {Y : Type 0} (f : ℕ → Option Y) (n : ℕ) (first before : List Y) → f n ≡ None
    → before ≡ first ++ filter_map f (range_with_len 0 n) → before ≡ first ++ filter_map f (range_with_len 0 (n + 1))
none_replied {Y = Y} f n first before is so = grind (arith, append-nil, gives_more)

-- what the operations of a node replied
pub node_replied : (operations : Operations) (p : Position) (n : ℕ) (own : List Op) (answers : List Answer) → own_of operations n ≡ own
    → answers_of p n ≡ answers
    → filter_map (λ i. replied_at n i (slice_index_or answers i Stored)) (range_with_len 0 (length own)) ≡ replies_on operations p n
node_replied operations p n own answers mine given = grind arith
