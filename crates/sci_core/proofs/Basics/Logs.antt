-- Logs that are filled one after another.
use Rattle.std.proofs.Common.{◌≡◌, ℕ, ◌+◌, ◌<◌, ◌≤◌, nat_lt, if◌then◌else◌, List, [], ◌∷◌, ◌++◌, length, get_or, set, sym, ap, subst, ◌∙◌, arith}
use Rattle.std.proofs.{Math.Seq.{get_or-append_seam}, lemmas.Bool.{cases_eq, cases_lt, lt-ltb, le-ltb}}
use Rattle.std.proofs.lemmas.List.{get_or_past, get_or-set_same, get_or-set_other, length-append, FromFn.{fill_by_all}}
use Rattle.std.specs.List.{All}
use Rattle.sci_words.specs.declared.limits.TheConstants.{MAX_OPERATIONS}
use Rattle.sci_history.specs.{declared.entry.Entry.{Entry}, Placed.{log_of}}
use Rattle.sci_core.specs.{Node.{NodeOf, no_node}, Core.{Core, node_at}, Outcome.{logs_of}, WellFormed.{IsWellFormed}}

log_at : (core : Core) (n : ℕ) (k : ℕ) → length core.parts ≡ n → (if nat_lt k n then (node_at core k).log else []) ≡ (node_at core k).log
log_at core n k long = grind (arith, cases_lt, lt-ltb, get_or_past, le-ltb)

pub all_logs : (core : Core) (logs : List (List Entry)) (n : ℕ) → length core.parts ≡ n → length logs ≡ 16
    → ((k : ℕ) → log_of logs k ≡ if nat_lt k n then (node_at core k).log else []) → logs ≡ logs_of core
all_logs core logs n long sixteen each = fill_by_all (λ (k : ℕ). (node_at core k).log) logs 16 [] sixteen (λ k below. each k ∙ log_at core n k long)

pub own_log : (core : Core) (n : ℕ) → IsWellFormed core → n < core.size.nodes → All (λ (entry : Entry). entry.node ≡ n) (node_at core n).log
own_log core n well lt = (well.each_part n lt).own

pub short_log : (core : Core) (n : ℕ) → IsWellFormed core → core.size.limit ≤ MAX_OPERATIONS → n < core.size.nodes
    → length (node_at core n).log ≤ MAX_OPERATIONS
short_log core n well few lt = let part = well.each_part n lt in let most = part.most in let logged = part.fits.logged in let issued = part.fits.issued in
    omega arith

-- the node that comes after this many others has their number, and its log is its own
pub record IsNextNode (core : Core) (n : ℕ) (node : NodeOf) : Type 0 where
  pub here : node_at core n ≡ node
  pub below : n < core.size.nodes
  pub numbered : node.cache.me ≡ n
  pub own : All (λ (entry : Entry). entry.node ≡ n) node.log

pub next_node : (core : Core) (before : List NodeOf) (node : NodeOf) (rest : List NodeOf) → IsWellFormed core → before ++ node ∷ rest ≡ core.parts
    → IsNextNode core (length before) node
next_node core before node rest well is =
    let here : node_at core (length before) ≡ node =
    ap (λ (parts : List NodeOf). get_or parts (length before) no_node) (sym is) ∙ get_or-append_seam before node rest no_node in
    let longer = ap (λ (parts : List NodeOf). length parts) is in
    let long = length-append before (node ∷ rest) in
    let count = well.sizes.parts_long in
    let below : length before < core.size.nodes = omega arith in
    record {
      here = here;
      below = below;
      numbered = subst (λ (part : NodeOf). part.cache.me ≡ length before) here (well.each_part (length before) below).me;
      own = subst (λ (part : NodeOf). All (λ (entry : Entry). entry.node ≡ length before) part.log) here (own_log core (length before) well below);
    }

-- one node's log more
pub logged_more : (core : Core) (logs : List (List Entry)) (n : ℕ) (log : List Entry) → n < length logs → log ≡ (node_at core n).log
    → ((k : ℕ) → log_of logs k ≡ if nat_lt k n then (node_at core k).log else [])
    → (k : ℕ) → log_of (set logs n log) k ≡ if nat_lt k (n + 1) then (node_at core k).log else []
logged_more core logs n log few is each k = grind (arith, cases_eq, lt-ltb, get_or-set_same, get_or-set_other, cases_lt, le-ltb)
