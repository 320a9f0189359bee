-- A cycle of a window's relative logs is one of the window.
use Rattle.std.proofs.Common.{◌≡◌, ℕ, zero, suc, ◌+◌, ◌<◌, ◌≤◌, List, [], ◌∷◌, length, map, get_or, Option, Some, None, refl, sym, ap, subst, ◌∙◌, arith}
use Rattle.std.proofs.Common.{inl, inr}
use Rattle.std.proofs.lemmas.{Bool.{cases_lt, eq-eqb}, List.{get_or_past, length-map, Elements.{All-from_recursion}}}
use Rattle.std.proofs.lemmas.{Option.{get_or_from_slice_get, slice_get-map, slice_get_within}}
use Rattle.std.specs.{Prelude.{All, option_map, slice_get}, List.{filter, AllByRecursion}}
use Rattle.sci_words.specs.declared.{limits.TheConstants.{MAX_NODES}, stamped.Stamped.{Stamped}}
use Rattle.sci_history.specs.{declared.entry.Entry.{Entry}, declared.order_verdict.{Reason.{Reason}, Step.{Step}}}
use Rattle.sci_history.specs.declared.order_verdict.Reason.TheVariants.{Logged, ReadsFrom, FromRead, Coherence}
use Rattle.sci_history.specs.{Cycle.{ComesAfter, HasNoShortcut, IsChain, IsCycle, IsInLog, IsNextIn, IsRound}, Memory.{stamped_at}}
use Rattle.sci_history.specs.{Placed.{is_making, is_of_node, is_on_line, log_of}, Seen.{IsAmong}}
use Rattle.sci_history.proofs.{Consequences.{among_all, among_filter, among_whole}, Histories.{versions-after}}
use Rattle.sci_windows.specs.{Order.{step_in}, Relative.{counted_from, relative_entry, relative_logs}, Window.{LawfulFrom}}
use Rattle.sci_windows.proofs.{Reductions.{log_at}, Swaps.{counted_after, relative_maker}}

-- ---- the entry at a step's place

record IsBack (first : List Stamped) (log : List Entry) (place : ℕ) (e : Entry) : Type 0 where
  entry : Entry
  found : slice_get log place ≡ Some entry
  same : relative_entry first entry ≡ e

some_same : (x y : Entry) → Some x ≡ Some y → x ≡ y
some_same x y e = cc

got_back : (first : List Stamped) (log : List Entry) (place : ℕ) (e : Entry) (found : Option Entry) → slice_get log place ≡ found
    → option_map (relative_entry first) found ≡ Some e → IsBack first log place e
got_back first log place e None is h = absurd cc
got_back first log place e (Some x) is h = record { entry = x; found = is; same = some_same (relative_entry first x) e h }

back_at : (first : List Stamped) (logs : List (List Entry)) (x : Step) → IsInLog (relative_logs first logs) x
    → IsBack first (log_of logs x.entry.node) x.place x.entry
back_at first logs x here = grind (arith, got_back, slice_get-map, log_at)

pub step_within : (first : List Stamped) (logs : List (List Entry)) (x : Step) → IsInLog (relative_logs first logs) x
    → x.place < length (log_of logs x.entry.node)
step_within first logs x here =
    let back = back_at first logs x here in
    slice_get_within (log_of logs x.entry.node) x.place back.entry back.found

pub step_known : (first : List Stamped) (logs : List (List Entry)) (x : Step) → length logs ≡ MAX_NODES → IsInLog (relative_logs first logs) x
    → x.entry.node < MAX_NODES
step_known first logs x sixteen here = elim (cases_lt x.entry.node MAX_NODES) [
  | inl low ↦ low
  | inr past ↦
      let within = step_within first logs x here in
      let none : length (log_of logs x.entry.node) ≡ 0 = ap length (get_or_past logs x.entry.node [] (omega arith)) in
      absurd (omega arith)
]

-- ---- versions

among_got : (xs : List Entry) (i : ℕ) (x : Entry) → slice_get xs i ≡ Some x → IsAmong x xs
among_got [] i x e = absurd cc
among_got (y ∷ xs) zero x e = inl (some_same x y (sym e))
among_got (y ∷ xs) (suc i) x e = inr (among_got xs i x e)

low_version : (logs : List (List Entry)) (first last : List Stamped) (node place : ℕ) (e : Entry) → LawfulFrom logs first last → node < MAX_NODES
    → slice_get (log_of logs node) place ≡ Some e → (stamped_at first e.op.line).version ≤ e.version
low_version logs first last node place e lawful low found =
    let h = lawful e.op.line in
    let on : IsAmong e (filter (is_on_line e.op.line) (log_of logs node)) =
    among_filter (is_on_line e.op.line) e (log_of logs node) (eq-eqb e.op.line e.op.line refl) (among_got (log_of logs node) place e found) in
    let of_node : IsAmong e (filter (is_of_node node) h.entries) = subst (IsAmong e) (h.logged node low) on in
    among_all (λ (x : Entry). (stamped_at first e.op.line).version ≤ x.version) e h.entries
    (versions-after h.entries (stamped_at first e.op.line) (stamped_at last e.op.line) h.history) (among_whole (is_of_node node) e h.entries of_node)

-- ---- steps that say the same

record IsTwin (first : List Stamped) (x y : Step) : Type 0 where
  node : x.entry.node ≡ y.entry.node
  place : x.place ≡ y.place
  reason : x.reason ≡ y.reason
  line : x.entry.op.line ≡ y.entry.op.line
  making : is_making x.entry ≡ is_making y.entry
  version : x.entry.version ≡ y.entry.version + (stamped_at first y.entry.op.line).version

twin_of : (logs : List (List Entry)) (first last : List Stamped) (x : Step) → length logs ≡ MAX_NODES → LawfulFrom logs first last
    → IsInLog (relative_logs first logs) x → IsTwin first (step_in logs x) x
twin_of logs first last x sixteen lawful here =
    let back = back_at first logs x here in
    let is : (step_in logs x).entry ≡ back.entry = get_or_from_slice_get (log_of logs x.entry.node) x.place back.entry x.entry back.found in
    let low = low_version logs first last x.entry.node x.place back.entry lawful (step_known first logs x sixteen here) back.found in
    let line : back.entry.op.line ≡ x.entry.op.line = ap (λ (e : Entry). e.op.line) back.same in
    let from : (stamped_at first back.entry.op.line).version ≡ (stamped_at first x.entry.op.line).version = ap (λ (k : ℕ). (stamped_at first k).version) line in
    let counted : counted_from (stamped_at first back.entry.op.line).version back.entry.version ≡ x.entry.version =
    ap (λ (e : Entry). e.version) back.same in
    let after = counted_after (stamped_at first back.entry.op.line).version back.entry.version low in
    let version : back.entry.version ≡ x.entry.version + (stamped_at first x.entry.op.line).version = omega arith in
    record {
      node = ap (λ (e : Entry). e.node) (is ∙ refl) ∙ ap (λ (e : Entry). e.node) back.same;
      place = refl;
      reason = refl;
      line = ap (λ (e : Entry). e.op.line) is ∙ line;
      making = ap is_making is
          ∙ (sym (relative_maker (get_or (stamped_at first back.entry.op.line).line back.entry.op.word 0) back.entry.op.act back.entry.reply)
          ∙ ap is_making back.same);
      version = ap (λ (e : Entry). e.version) is ∙ version;
    }

-- on one line the versions are as far apart
versions_apart : (first : List Stamped) (a x b y : Step) → IsTwin first a x → IsTwin first b y → y.entry.op.line ≡ x.entry.op.line
    → b.entry.version + x.entry.version ≡ a.entry.version + y.entry.version
versions_apart first a x b y s t line = grind arith

twin_comes : (first : List Stamped) (reason : Reason) (a x b y : Step) → IsTwin first a x → IsTwin first b y → ComesAfter reason x y → ComesAfter reason a b
twin_comes first Logged a x b y s t h = grind arith
twin_comes first ReadsFrom a x b y s t h = grind (arith, versions_apart)
twin_comes first FromRead a x b y s t h = grind (arith, versions_apart)
twin_comes first Coherence a x b y s t h = grind (arith, versions_apart)

twin_came : (first : List Stamped) (reason : Reason) (a x b y : Step) → IsTwin first a x → IsTwin first b y → ComesAfter reason a b → ComesAfter reason x y
twin_came first Logged a x b y s t h = grind arith
twin_came first ReadsFrom a x b y s t h = grind (arith, versions_apart)
twin_came first FromRead a x b y s t h = grind (arith, versions_apart)
twin_came first Coherence a x b y s t h = grind (arith, versions_apart)

-- ---- cycles

abbrev AreIn : List (List Entry) → List Step → Type 0
AreIn logs steps = AllByRecursion (IsInLog logs) steps

chain_back : (logs : List (List Entry)) (first last : List Stamped) (steps : List Step) (end : Step) → length logs ≡ MAX_NODES → LawfulFrom logs first last
    → AreIn (relative_logs first logs) steps → IsInLog (relative_logs first logs) end → IsChain steps end
    → IsChain (map (step_in logs) steps) (step_in logs end)
chain_back logs first last [] end sixteen lawful all there h = tt
chain_back logs first last (x ∷ []) end sixteen lawful all there h =
    twin_comes first x.reason (step_in logs x) x (step_in logs end) end (twin_of logs first last x sixteen lawful all.0)
    (twin_of logs first last end sixteen lawful there) h
chain_back logs first last (x ∷ y ∷ steps) end sixteen lawful all there h = (
  twin_comes first x.reason (step_in logs x) x (step_in logs y) y (twin_of logs first last x sixteen lawful all.0)
      (twin_of logs first last y sixteen lawful all.1.0) h.0,
  chain_back logs first last (y ∷ steps) end sixteen lawful all.1 there h.1,
)

round_back : (logs : List (List Entry)) (first last : List Stamped) (steps : List Step) → length logs ≡ MAX_NODES → LawfulFrom logs first last
    → AreIn (relative_logs first logs) steps → IsRound steps → IsRound (map (step_in logs) steps)
round_back logs first last [] sixteen lawful all h = h
round_back logs first last (x ∷ steps) sixteen lawful all h = chain_back logs first last (x ∷ steps) x sixteen lawful all all.0 h

in_log_back : (logs : List (List Entry)) (first : List Stamped) (x : Step) → IsInLog (relative_logs first logs) x → IsInLog logs (step_in logs x)
in_log_back logs first x here =
    let back = back_at first logs x here in
    let is : (step_in logs x).entry ≡ back.entry = get_or_from_slice_get (log_of logs x.entry.node) x.place back.entry x.entry back.found in
    let node : (step_in logs x).entry.node ≡ x.entry.node = ap (λ (e : Entry). e.node) is ∙ ap (λ (e : Entry). e.node) back.same in
    ap (λ (n : ℕ). slice_get (log_of logs n) x.place) node ∙ (back.found ∙ ap Some (sym is))

all_in_back : (logs : List (List Entry)) (first : List Stamped) (steps : List Step) → AreIn (relative_logs first logs) steps
    → AreIn logs (map (step_in logs) steps)
all_in_back logs first [] all = tt
all_in_back logs first (x ∷ steps) all = (in_log_back logs first x all.0, all_in_back logs first steps all.1)

pub cycle_back : (logs : List (List Entry)) (first last : List Stamped) (steps : List Step) → length logs ≡ MAX_NODES → LawfulFrom logs first last
    → IsCycle (relative_logs first logs) steps → IsCycle logs (map (step_in logs) steps)
cycle_back logs first last steps sixteen lawful cycle = record {
  entries = all_in_back logs first steps cycle.entries;
  round = round_back logs first last steps sixteen lawful cycle.entries cycle.round;
}

-- the step that another was made of
record IsMadeOf (logs : List (List Entry)) (steps : List Step) (i : ℕ) (x : Step) : Type 0 where
  step : Step
  found : slice_get steps i ≡ Some step
  same : step_in logs step ≡ x

some_step : (x y : Step) → Some x ≡ Some y → x ≡ y
some_step x y e = cc

made_of : (logs : List (List Entry)) (steps : List Step) (i : ℕ) (x : Step) (found : Option Step) → slice_get steps i ≡ found
    → option_map (step_in logs) found ≡ Some x → IsMadeOf logs steps i x
made_of logs steps i x None is h = absurd cc
made_of logs steps i x (Some y) is h = record { step = y; found = is; same = some_step (step_in logs y) x h }

all_got : (P : Step → Type 0) (steps : List Step) (i : ℕ) (x : Step) → AllByRecursion P steps → slice_get steps i ≡ Some x → P x
all_got P [] i x all e = absurd cc
all_got P (y ∷ steps) zero x all e = subst P (some_step y x e) all.0
all_got P (y ∷ steps) (suc i) x all e = all_got P steps i x all.1 e

pub no_shortcut_back : (logs : List (List Entry)) (first last : List Stamped) (steps : List Step) → length logs ≡ MAX_NODES → LawfulFrom logs first last
    → AreIn (relative_logs first logs) steps → HasNoShortcut steps → HasNoShortcut (map (step_in logs) steps)
no_shortcut_back logs first last steps sixteen lawful all bare i j x y reason at_i at_j comes =
    let a = made_of logs steps i x (slice_get steps i) refl (sym (slice_get-map (step_in logs) steps i) ∙ at_i) in
    let b = made_of logs steps j y (slice_get steps j) refl (sym (slice_get-map (step_in logs) steps j) ∙ at_j) in
    let twin_a : IsTwin first x a.step =
    subst (λ (s : Step). IsTwin first s a.step) a.same
    (twin_of logs first last a.step sixteen lawful (all_got (IsInLog (relative_logs first logs)) steps i a.step all a.found)) in
    let twin_b : IsTwin first y b.step =
    subst (λ (s : Step). IsTwin first s b.step) b.same
    (twin_of logs first last b.step sixteen lawful (all_got (IsInLog (relative_logs first logs)) steps j b.step all b.found)) in
    subst (λ (n : ℕ). IsNextIn n i j) (sym (length-map steps (step_in logs)))
    (bare i j a.step b.step reason a.found b.found (twin_came first reason x a.step y b.step twin_a twin_b comes))

-- ---- what steps_in asks

all_known_each : (first : List Stamped) (logs : List (List Entry)) (steps : List Step) → length logs ≡ MAX_NODES → AreIn (relative_logs first logs) steps
    → AllByRecursion (λ (x : Step). x.entry.node < MAX_NODES) steps
all_known_each first logs [] sixteen all = tt
all_known_each first logs (x ∷ steps) sixteen all = (step_known first logs x sixteen all.0, all_known_each first logs steps sixteen all.1)

all_within_each : (first : List Stamped) (logs : List (List Entry)) (steps : List Step) → AreIn (relative_logs first logs) steps
    → AllByRecursion (λ (x : Step). x.place < length (log_of logs x.entry.node)) steps
all_within_each first logs [] all = tt
all_within_each first logs (x ∷ steps) all = (step_within first logs x all.0, all_within_each first logs steps all.1)

pub all_known : (first : List Stamped) (logs : List (List Entry)) (steps : List Step) → length logs ≡ MAX_NODES → AreIn (relative_logs first logs) steps
    → All (λ (x : Step). x.entry.node < MAX_NODES) steps
all_known first logs steps sixteen all =
    All-from_recursion (λ (x : Step). x.entry.node < MAX_NODES) steps (all_known_each first logs steps sixteen all)

pub all_within : (first : List Stamped) (logs : List (List Entry)) (steps : List Step) → AreIn (relative_logs first logs) steps
    → All (λ (x : Step). x.place < length (log_of logs x.entry.node)) steps
all_within first logs steps all =
    All-from_recursion (λ (x : Step). x.place < length (log_of logs x.entry.node)) steps (all_within_each first logs steps all)
