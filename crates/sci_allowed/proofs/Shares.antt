-- A script's operations are the machine's, node by node.
use Rattle.std.proofs.Common.{◌≡◌, ◌==◌, ℕ, zero, suc, ◌<◌, ◌≤◌, Bool, true, false, cond, List, [], ◌∷◌, length, map, get_or, refl, sym, ap, subst}
use Rattle.std.proofs.Common.{◌∙◌, arith, inl, inr}
use Rattle.std.proofs.lemmas.Bool.{and_from, cases_lt, eqb-true, lt-ltb}
use Rattle.std.proofs.lemmas.List.{get_or-map, get_or_past, length-map, same_lists}
use Rattle.std.proofs.lemmas.List.Elements.{All-get_or}
use Rattle.std.proofs.lemmas.List.FromFn.{get_or-map-range_with_len, length-map-range_with_len}
use Rattle.std.specs.{List.{All}, Prelude.{Vec, filter, slice_index_or, ◌^◌}}
use Rattle.sci_words.specs.Operation.{are_words, has_words, is_word}
use Rattle.sci_words.specs.declared.extent.Extent.{Extent}
use Rattle.sci_words.specs.declared.operation.{Act.{Act}, LockOp.{LockOp}, Op.{Op}}
use Rattle.sci_words.specs.declared.operation.LockOp.TheVariants.{MaskSwap, CompareSwap, FetchAdd, BoundedAdd, WrapAdd}
use Rattle.sci_words.specs.declared.{limits.TheConstants.{MAX_OPERATIONS}, operation.Act.TheVariants.{Load, Store, Lock}}
use Rattle.sci_text.specs.{Operation.{ActFits, LockFits}, Script.{IsScript, IsWithin, ScriptValue, operations_of}}
use Rattle.sci_core.specs.Size.{IsMachineSize, size_of}
use Rattle.sci_drive.specs.ScriptLogs.{size_for}
use Rattle.sci_orders.specs.{Orders.{IsScriptOf}, Positions.{lists_of, no_operation, operation_at, own_of}, Witness.{IsOperation}}
use Rattle.sci_allowed.specs.Allowed.{shares_of}

-- ---- the operations of each node

pub own_is_share : (script : ScriptValue) (n : ℕ) → n < script.nodes → own_of (shares_of script) n ≡ operations_of n script.operations
own_is_share script n below =
    get_or-map-range_with_len (λ (node : ℕ). operations_of node script.operations) 0 script.nodes n n [] below (omega arith)

-- a node that isn't the machine's has none
pub no_share : (script : ScriptValue) (n : ℕ) → script.nodes ≤ n → own_of (shares_of script) n ≡ []
no_share script n past = grind (arith, length-map-range_with_len, get_or_past)

share_at : {Z : Type 0} (script : ScriptValue) (vecs : List (Vec Op Z)) (k : ℕ) (d : List Op) → length vecs ≡ script.nodes
    → ((node : ℕ) (e : Vec Op Z) → node < script.nodes → (slice_index_or vecs node e).items ≡ operations_of node script.operations)
    → k < script.nodes → get_or (lists_of vecs) k d ≡ get_or (shares_of script) k d
share_at {Z = Z} script [] k d nodes each below = absurd (omega arith)
share_at {Z = Z} script (vec ∷ vecs) k d nodes each below =
    get_or-map (λ (v : Vec Op Z). v.items) (vec ∷ vecs) k vec d (omega arith)
    ∙ (each k vec below ∙ sym (get_or-map-range_with_len (λ (node : ℕ). operations_of node script.operations) 0 script.nodes k k d below (omega arith)))

pub shares_are : {Z : Type 0} (script : ScriptValue) (vecs : List (Vec Op Z)) → length vecs ≡ script.nodes
    → ((node : ℕ) (d : Vec Op Z) → node < script.nodes → (slice_index_or vecs node d).items ≡ operations_of node script.operations)
    → lists_of vecs ≡ shares_of script
shares_are {Z = Z} script vecs nodes each = grind (arith, length-map, length-map-range_with_len, same_lists, share_at)

-- ---- they are the machine's

-- the words of a script are words of the machine
lock_words : (lock : LockOp) → LockFits lock → are_words lock ≡ true
lock_words (MaskSwap arg datum) fits = and_from (is_word arg) (is_word datum) (lt-ltb arg (2 ^ 64) fits.0) (lt-ltb datum (2 ^ 64) fits.1)
lock_words (CompareSwap arg datum) fits = and_from (is_word arg) (is_word datum) (lt-ltb arg (2 ^ 64) fits.0) (lt-ltb datum (2 ^ 64) fits.1)
lock_words (FetchAdd datum) fits = lt-ltb datum (2 ^ 64) fits
lock_words (BoundedAdd arg datum) fits = and_from (is_word arg) (is_word datum) (lt-ltb arg (2 ^ 64) fits.0) (lt-ltb datum (2 ^ 64) fits.1)
lock_words (WrapAdd arg datum) fits = and_from (is_word arg) (is_word datum) (lt-ltb arg (2 ^ 64) fits.0) (lt-ltb datum (2 ^ 64) fits.1)

act_words : (act : Act) → ActFits act → has_words act ≡ true
act_words Load fits = refl
act_words (Store word) fits = lt-ltb word (2 ^ 64) fits
act_words (Lock lock) fits = lock_words lock fits

module _ (nodes lines n : ℕ) where
  abbrev own_below : List Op → Type 0
  own_below own = (i : ℕ) → i < length own → IsWithin nodes lines n (get_or own i no_operation)

  own_more : (p : ℕ × Op) (rest : List (ℕ × Op)) (b : Bool) → (p.0 == n) ≡ b → IsWithin nodes lines p.0 p.1 → own_below (map (λ q. q.1) rest)
      → own_below (map (λ q. q.1) (cond b (p ∷ rest) rest))
  own_more p rest true is first all zero below = subst (λ (m : ℕ). IsWithin nodes lines m p.1) (eqb-true p.0 n is) first
  own_more p rest true is first all (suc i) below = all i (omega arith)
  own_more p rest false is first all i below = all i below

  own_within : (ops : List (ℕ × Op)) → All (λ p. IsWithin nodes lines p.0 p.1) ops → own_below (operations_of n ops)
  own_within [] all i below = absurd (omega arith)
  own_within (p ∷ ops) all i below =
      own_more p (filter (λ q. q.0 == n) ops) (p.0 == n) refl (all 0 p (omega arith)) (own_within ops (λ k d low. all (suc k) d (omega arith))) i below

-- an operation of a script is one of the machine's
operation_is : (script : ScriptValue) (n : ℕ) (op : Op) → n < script.nodes → IsWithin script.nodes script.lines n op → IsOperation (size_for script) n op
operation_is script n op below within =
    record { node = below; line = within.known_line; word = within.known_word; words = act_words op.act within.words }

-- each operation of a node is within the machine
pub share_within : (script : ScriptValue) → IsScript script → (n i : ℕ) → i < length (own_of (shares_of script) n)
    → IsWithin script.nodes script.lines n (operation_at (shares_of script) n i)
share_within script good n i below = elim (cases_lt n script.nodes) [
  | inl lt ↦
      let is = own_is_share script n lt in
      subst (λ (own : List Op). IsWithin script.nodes script.lines n (get_or own i no_operation)) (sym is)
      (own_within script.nodes script.lines n script.operations good.within i (subst (λ (own : List Op). i < length own) is below))
  | inr past ↦ (
      let none : length (own_of (shares_of script) n) ≡ 0 = ap (λ (own : List Op). length own) (no_share script n past) in
      absurd (omega arith))
]

pub is_script : (script : ScriptValue) → IsScript script → ((n : ℕ) → length (own_of (shares_of script) n) ≤ MAX_OPERATIONS)
    → IsScriptOf (size_for script) (shares_of script)
is_script script good few = record {
  each = λ n i below. (
      let within = share_within script good n i below in
      operation_is script n (operation_at (shares_of script) n i) within.known_node within);
  few = few;
}

pub machine_size : (script : ScriptValue) → IsScript script → IsMachineSize (size_for script)
machine_size script good = record { extent = good.size; some_operation = (omega arith); few_operations = (omega arith) }

-- ---- the machine of a script

pub size_is : (script : ScriptValue) (extent : Extent) → extent.nodes ≡ script.nodes → extent.lines ≡ script.lines → extent.slots ≡ script.slots
    → size_of extent MAX_OPERATIONS ≡ size_for script
size_is script extent nodes lines slots = grind arith

few_below : {Z : Type 0} (vecs : List (Vec Op Z)) → All (λ own. length own.items ≤ MAX_OPERATIONS) vecs → (n : ℕ) → n < length vecs
    → length (own_of (lists_of vecs) n) ≤ MAX_OPERATIONS
few_below [] all n lt = absurd (omega arith)
few_below {Z = Z} (vec ∷ vecs) all n lt =
    subst (λ (own : List Op). length own ≤ MAX_OPERATIONS) (sym (get_or-map (λ (v : Vec Op Z). v.items) (vec ∷ vecs) n vec [] lt))
    (All-get_or (λ (own : Vec Op Z). length own.items ≤ MAX_OPERATIONS) (vec ∷ vecs) n vec lt all)

-- no node of a script has more operations than a node may issue
pub few_own : {Z : Type 0} (vecs : List (Vec Op Z)) → All (λ own. length own.items ≤ MAX_OPERATIONS) vecs → (n : ℕ)
    → length (own_of (lists_of vecs) n) ≤ MAX_OPERATIONS
few_own vecs all n = grind (arith, cases_lt, few_below, length-map, get_or_past)
