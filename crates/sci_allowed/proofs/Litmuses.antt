-- The operations of a script that is looked at are its machine's, and where their orders end is where its runs end.
use Rattle.std.proofs.Common.{◌≡◌, ℕ, ◌+◌, ◌*◌, ◌<◌, List, [], ◌∷◌, ◌++◌, length, map, take, get_or, Result, Ok, Err, sym, ap, subst, ◌∙◌, arith}
use Rattle.std.proofs.lemmas.List.{get_or_default, length-map, map-append, take_more, FromFn.{length-map-range_with_len}}
use Rattle.std.specs.{List.{All}, Prelude.{IfOk, Vec}, declared.alloc.Global.{Global}}
use Rattle.sci_words.specs.declared.{event.Event.{Event}, extent.Extent.{Extent}, limits.TheConstants.{MAX_OPERATIONS}, operation.Op.{Op}}
use Rattle.sci_text.specs.Script.{ScriptValue, operations_of}
use Rattle.sci_core.specs.Size.{IsMachineSize, Size, size_of}
use Rattle.sci_drive.specs.ScriptLogs.{size_for}
use Rattle.sci_orders.proofs.{Reaching.{all_fit}, Stands.{within}, Ways.{holds_at}}
use Rattle.sci_orders.specs.Orders.{HasRun, IsAmong, IsOrderOf, IsScriptOf}
use Rattle.sci_orders.specs.{Eager.{AreTooMany}, Positions.{AreReachedIn, Fits, Operations, lists_of, operation_count, position_of}}
use Rattle.sci_orders.specs.{Witness.{seen}, declared.{fault.OrdersFault.{OrdersFault}, standing.{Answer.{Answer}, Standing.{Standing}}}}
use Rattle.sci_allowed.proofs.Shares.{few_own, is_script, machine_size, size_is}
use Rattle.sci_allowed.specs.Allowed.{AreSeenAt, HaveRuns, IsLitmus, seen_at, shares_of}
use Rattle.sci_allowed.specs.{Outcome.{Shown, shown_of}, declared.{litmus.Litmus.{Litmus}, outcome.Outcome.{Outcome}}}

pub share_count : (script : ScriptValue) → length (shares_of script) ≡ script.nodes
share_count script = length-map-range_with_len (λ (node : ℕ). operations_of node script.operations) 0 script.nodes

pub node_count : (litmus : Litmus) → IsLitmus litmus → length litmus.operations.items ≡ litmus.script.nodes
node_count litmus good =
    let long = length-map litmus.operations.items (λ (own : Vec Op Global). own.items) in
    let same = ap (λ (ops : Operations). length ops) good.shares in
    let count = share_count litmus.script in
    omega arith

pub shares_good : (litmus : Litmus) → IsLitmus litmus → IsScriptOf (size_for litmus.script) (shares_of litmus.script)
shares_good litmus good = grind (arith, is_script, few_own)

module _ (litmus : Litmus) (extent : Extent) (operations : List (Vec Op Global)) (good : IsLitmus litmus) (nodes : extent.nodes ≡ litmus.script.nodes)
    (lines : extent.lines ≡ litmus.script.lines) (slots : extent.slots ≡ litmus.script.slots) (same : operations ≡ litmus.operations.items) where
  pub size_same : size_of extent MAX_OPERATIONS ≡ size_for litmus.script
  size_same = size_is litmus.script extent nodes lines slots

  pub size_good : IsMachineSize (size_of extent MAX_OPERATIONS)
  size_good = subst IsMachineSize (sym size_same) (machine_size litmus.script good.good)

  pub lists_same : lists_of operations ≡ shares_of litmus.script
  lists_same = ap (λ (ops : List (Vec Op Global)). lists_of ops) same ∙ good.shares

  pub script_good : IsScriptOf (size_of extent MAX_OPERATIONS) (lists_of operations)
  script_good = grind (arith, size_same, lists_same, shares_good)

  -- what holds of the machine and the operations that are asked about holds of the script's
  module _ (P : Size → Operations → ℕ → Type 0) (waiting window : ℕ) (is : waiting ≡ window) where
    pub moved : P (size_of extent MAX_OPERATIONS) (lists_of operations) waiting → P (size_for litmus.script) (shares_of litmus.script) window
    moved so =
        subst (P (size_for litmus.script) (shares_of litmus.script)) is
        (subst (λ (size : Size). P size (shares_of litmus.script) waiting) size_same
        (subst (λ (ops : Operations). P (size_of extent MAX_OPERATIONS) ops waiting) lists_same so))

    pub moved_back : P (size_for litmus.script) (shares_of litmus.script) window → P (size_of extent MAX_OPERATIONS) (lists_of operations) waiting
    moved_back so =
        subst (λ (ops : Operations). P (size_of extent MAX_OPERATIONS) ops waiting) (sym lists_same)
        (subst (λ (size : Size). P size (shares_of litmus.script) waiting) (sym size_same)
        (subst (P (size_for litmus.script) (shares_of litmus.script)) (sym is) so))

  pub many_are : (waiting window : ℕ) → waiting ≡ window → AreTooMany extent.lines (lists_of operations) waiting
      → AreTooMany litmus.script.lines (shares_of litmus.script) window
  many_are waiting window is many = moved (λ size ops w. AreTooMany size.lines ops w) waiting window is many

  pub runs_are : (waiting window : ℕ) → waiting ≡ window → (found : Result (Vec Standing Global) OrdersFault)
      → IfOk found (λ standings. AreReachedIn extent.lines (lists_of operations) waiting (operation_count (lists_of operations) * 2)
      (map position_of standings.items))
      → IfOk found (λ standings. All (λ p. (schedule : List Event) × HasRun (size_of extent MAX_OPERATIONS) (lists_of operations) waiting p schedule)
      (map position_of standings.items))
      → IfOk found (λ standings. (schedule : List Event) → IsOrderOf (lists_of operations) waiting (seen (size_of extent MAX_OPERATIONS) schedule)
      → IsAmong (size_of extent MAX_OPERATIONS) (lists_of operations) schedule (map position_of standings.items))
      → IfOk found (λ standings. HaveRuns (size_for litmus.script) (shares_of litmus.script) window (map position_of standings.items))
  runs_are waiting window is (Ok standings) reached each all =
      moved (λ size ops w. HaveRuns size ops w (map position_of standings.items)) waiting window is (record { reached = reached; each = each; all = all })
  runs_are waiting window is (Err fault) reached each all = tt

-- a standing where a run ends has answers for each node
pub nodes_all : (litmus : Litmus) (window : ℕ) (standings : List Standing) → IsLitmus litmus
    → HaveRuns (size_for litmus.script) (shares_of litmus.script) window (map position_of standings)
    → All (λ standing. length standing.answers.items ≡ litmus.script.nodes) standings
nodes_all litmus window standings good has = λ k d lt.
    let script = litmus.script in
    let all = all_fit script.lines (shares_of script) window (operation_count (shares_of script) * 2) (map position_of standings)
    (within (size_for script) (shares_of script) (shares_good litmus good)) has.reached in
    let standing = get_or standings k d in
    let fits : Fits (shares_of script) (position_of standing) =
    holds_at (Fits (shares_of script)) standings k standing lt (get_or_default standings k d standing lt) all in
    let nodes = fits.nodes in
    let long = length-map standing.answers.items (λ (own : Vec Answer Global). own.items) in
    let count = share_count script in
    omega arith

-- one outcome more
pub seen_more : (script : ScriptValue) (standings : List Standing) (outcomes : List Outcome) (i : ℕ) (standing : Standing) (outcome : Outcome)
    → i < length standings → standing ≡ get_or standings i standing → AreSeenAt script (take i standings) outcomes
    → shown_of outcome ≡ seen_at script (position_of standing) → AreSeenAt script (take (i + 1) standings) (outcomes ++ outcome ∷ [])
seen_more script standings outcomes i standing outcome lt at before is =
    let f = λ (s : Standing). seen_at script (position_of s) in
    let more : take (i + 1) standings ≡ take i standings ++ standing ∷ [] =
    take_more standings i standing lt ∙ ap (λ (s : Standing). take i standings ++ s ∷ []) (sym at) in
    map-append shown_of outcomes (outcome ∷ [])
    ∙ (ap (λ (xs : List Shown). xs ++ shown_of outcome ∷ []) before
    ∙ (ap (λ (x : Shown). map f (take i standings) ++ x ∷ []) is
    ∙ sym (ap (map f) more ∙ map-append f (take i standings) (standing ∷ []))))
