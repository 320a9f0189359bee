-- What one event of a round does to the states of all lines: one line of one node changes at most.
use Rattle.std.proofs.Common.{◌≡◌, ℕ, ◌<◌, Bool, true, false, length, set, slice_index_or, Option, Some, None, refl, arith}
use Rattle.std.proofs.lemmas.{Bool.{cases_eq}, List.{get_or-set_same, get_or-set_other}}
use Rattle.std.specs.Prelude.{IfSome}
use Rattle.sci_words.specs.declared.event.AskKind.{AskKind}
use Rattle.sci_cache.specs.{State.{CacheState}, Asking.{Asked, asking}, Line.{LineState, ask_or_fault, line_asked}}
use Rattle.sci_cache.specs.Cache.{Letter, cache_asked, letter_asking, line_of, with_line}
use Rattle.sci_core.specs.{Core.{Core, node_at}, Node.{NodeOf, asked_by, lines_of, node_asking}, Shape.{state_at}}
use Rattle.sci_core.proofs.Basics.Options.{if_below}

-- ---- one node's side

-- what a node asked
pub record AskedAs (part : NodeOf) (line : ℕ) (kind : AskKind) (sent : NodeOf × Letter) : Type 0 where
  pub asked : Asked
  pub asks : asking (line_of part.cache line).state kind ≡ Some asked
  pub below : line < lines_of part
  pub next : sent.0 ≡ (record part { cache = with_line part.cache line (line_asked (line_of part.cache line) asked) })
  pub letter : sent.1 ≡ letter_asking part.cache line asked

made_as : (part : NodeOf) (line : ℕ) (kind : AskKind) (lacks : Bool) (made : Option Asked) → line < lines_of part
    → asking (line_of part.cache line).state kind ≡ made
    → IfSome (asked_by part (cache_asked part.cache line (ask_or_fault made lacks))) (AskedAs part line kind)
made_as part line kind lacks None below is = tt
made_as part line kind true (Some asked) below is = tt
made_as part line kind false (Some asked) below is = record { asked = asked; asks = is; below = below; next = refl; letter = refl }

pub asked_as : (part : NodeOf) (line : ℕ) (kind : AskKind) → IfSome (node_asking part line kind) (AskedAs part line kind)
asked_as part line kind = grind (arith, if_below, made_as)

-- ---- the states of all nodes

-- one line of node n becomes another; nothing else does
pub record Shifts (core new : Core) (n line : ℕ) (state : CacheState) : Type 0 where
  pub here : state_at new line n ≡ state
  pub others : (m k : ℕ) → ((m ≡ n) × (k ≡ line) → ⊥) → state_at new k m ≡ state_at core k m
  pub pending : (m : ℕ) → (node_at new m).pending ≡ (node_at core m).pending
  pub size : new.size ≡ core.size

-- the node's cache gets that line
pub shifts : (core new : Core) (n line : ℕ) (next : NodeOf) (l : LineState) → n < length core.parts → line < lines_of (node_at core n)
    → next.cache ≡ with_line (node_at core n).cache line l → next.pending ≡ (node_at core n).pending → new.parts ≡ set core.parts n next → new.size ≡ core.size
    → Shifts core new n line l.state
shifts core new n line next l below inside cache pending parts size = grind (arith, slice_index_or, get_or-set_same, get_or-set_other, cases_eq)

-- no line changes: so one line of a node becomes what it is
pub stays : (core new : Core) (n q line : ℕ) (next : NodeOf) → n < length core.parts → next.cache ≡ (node_at core n).cache
    → next.pending ≡ (node_at core n).pending → new.parts ≡ set core.parts n next → new.size ≡ core.size → Shifts core new q line (state_at core line q)
stays core new n q line next below cache pending parts size = grind (arith, slice_index_or, get_or-set_same, get_or-set_other, cases_eq)
