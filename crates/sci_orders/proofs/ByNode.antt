-- An order is one of a script if it is so node by node; and what is seen of a schedule of enabled events.
use Rattle.std.proofs.Common.{◌≡◌, ◌==◌, ◌&&◌, ◌<◌, ◌≤◌, ◌+◌, ◌*◌, ◌-◌, ℕ, zero, suc, Bool, true, false, if◌then◌else◌, List, [], ◌∷◌, ◌++◌, length}
use Rattle.std.proofs.Common.{cond, take, take_all, nat_lt, refl, sym, ap, subst, ◌∙◌, arith, inl, inr}
use Rattle.std.proofs.lemmas.{Bool.{cases_eq, cases_lt, eq-eqb, eqb-true, le-ltb, lt-ltb, ne_eqb}, List.{get_or_past, Sums.{fold_push, sum_by_more}}}
use Rattle.std.specs.{List.{AllByRecursion, filter, sum_by}, Prelude.{IsSome, is_some}}
use Rattle.sci_history.proofs.Order.{all-filter, filter_no, filter_yes}
use Rattle.sci_words.specs.declared.{event.Event.{Event}, operation.Op.{Op}}
use Rattle.sci_core.specs.{Core.{AreEnabled, Core, node_of, opening, run, step, stepping}, Size.{IsSize, Size}}
use Rattle.sci_core.proofs.{Step.Stepping.{stepping_nobody}, Tidy.TidyRuns.{run_size}}
use Rattle.sci_orders.specs.Orders.{AreFew, IsOrderOf, issues_at, one_less_at, one_more_at}
use Rattle.sci_orders.specs.{Positions.{Operations, own_of}, Witness.{is_seen, seen, seen_at, seen_from}}
use Rattle.sci_words.specs.declared.event.Event.TheVariants as event

-- the events of a node, in their order
abbrev pub own_events : ℕ → List Event → List Event
own_events n events = filter (λ e. node_of e == n) events

-- ---- what a node issues

-- an event that issues nothing makes no difference, whether it is kept or not
skipped : (n : ℕ) (e : Event) (es : List Event) (b : Bool) → issues_at n (e ∷ es) ≡ issues_at n es → issues_at n (if b then e ∷ es else es) ≡ issues_at n es
skipped n e es true is = is
skipped n e es false is = refl

issued_own : (n m : ℕ) (op : Op) (es own : List Event) (b : Bool) → (m == n) ≡ b → issues_at n es ≡ issues_at n own
    → (if b then op ∷ issues_at n es else issues_at n es) ≡ issues_at n (if b then event.Issue m op ∷ own else own)
issued_own n m op es own true is same =
    ap (λ (ops : List Op). op ∷ ops) same ∙ sym (ap (λ (b : Bool). if b then op ∷ issues_at n own else issues_at n own) is)
issued_own n m op es own false is same = same

issues_own : (n : ℕ) (events : List Event) → issues_at n events ≡ issues_at n (own_events n events)
issues_own n [] = refl
issues_own n (event.Issue m op ∷ es) =
    ap (λ (b : Bool). if b then op ∷ issues_at n es else issues_at n es) refl ∙ issued_own n m op es (own_events n es) (m == n) refl (issues_own n es)
issues_own n (event.Perform m line ∷ es) = issues_own n es ∙ sym (skipped n (event.Perform m line) (own_events n es) (m == n) refl)
issues_own n (event.Ask m line kind ∷ es) = issues_own n es ∙ sym (skipped n (event.Ask m line kind) (own_events n es) (m == n) refl)
issues_own n (event.Serve from m ∷ es) = issues_own n es ∙ sym (skipped n (event.Serve from m) (own_events n es) (m == n) refl)
issues_own n (event.Refuse from m ∷ es) = issues_own n es ∙ sym (skipped n (event.Refuse from m) (own_events n es) (m == n) refl)
issues_own n (event.Reply m ∷ es) = issues_own n es ∙ sym (skipped n (event.Reply m) (own_events n es) (m == n) refl)
issues_own n (event.Accept from m ∷ es) = issues_own n es ∙ sym (skipped n (event.Accept from m) (own_events n es) (m == n) refl)

-- ---- how many wait there

own_if : (n : ℕ) (e : Event) (es : List Event) (b : Bool) → (node_of e == n) ≡ b → AllByRecursion (λ x. node_of x ≡ n) es
    → AllByRecursion (λ x. node_of x ≡ n) (if b then e ∷ es else es)
own_if n e es true is all = (eqb-true (node_of e) n is, all)
own_if n e es false is all = all

all_own : (n : ℕ) (events : List Event) → AllByRecursion (λ e. node_of e ≡ n) (own_events n events)
all_own n [] = tt
all_own n (e ∷ es) = own_if n e (own_events n es) (node_of e == n) refl (all_own n es)

-- whether a node's events keep to the window depends on what waits at this node alone
few_same : (window n : ℕ) (es : List Event) (f g : ℕ → ℕ) → f n ≡ g n → AllByRecursion (λ e. node_of e ≡ n) es → AreFew window f es → AreFew window g es
few_same window n [] f g same own few = tt
few_same window n (event.Issue m op ∷ es) f g same own few = (
  subst (λ (k : ℕ). k < window) (ap f own.0 ∙ (same ∙ ap g (sym own.0))) few.0,
  few_same window n es (one_more_at m f) (one_more_at m g) (ap (λ (k : ℕ). if n == m then k + 1 else k) same) own.1 few.1,
)
few_same window n (event.Perform m line ∷ es) f g same own few =
    few_same window n es (one_less_at m f) (one_less_at m g) (ap (λ (k : ℕ). if n == m then k - 1 else k) same) own.1 few
few_same window n (event.Ask m line kind ∷ es) f g same own few = few_same window n es f g same own.1 few
few_same window n (event.Serve from m ∷ es) f g same own few = few_same window n es f g same own.1 few
few_same window n (event.Refuse from m ∷ es) f g same own few = few_same window n es f g same own.1 few
few_same window n (event.Reply m ∷ es) f g same own few = few_same window n es f g same own.1 few
few_same window n (event.Accept from m ∷ es) f g same own few = few_same window n es f g same own.1 few

-- if an event is left out of each node's
passed : (window : ℕ) (f : ℕ → ℕ) (e : Event) (es : List Event) (b : Bool) → (AreFew window f (e ∷ es) → AreFew window f es)
    → AreFew window f (if b then e ∷ es else es) → AreFew window f es
passed window f e es true on few = on few
passed window f e es false on few = few

-- if an event of node m comes, for each node
moved : (window m : ℕ) (e : Event) (es : List Event) (f g : ℕ → ℕ) → node_of e ≡ m → ((n : ℕ) → (n ≡ m → ⊥) → f n ≡ g n)
    → AreFew window g (own_events m es) → ((n : ℕ) → AreFew window f (own_events n (e ∷ es))) → (n : ℕ) → AreFew window g (own_events n es)
moved window m e es f g own same mine each n = grind (arith, cases_eq, ne_eqb, few_same, all_own, filter_no)

few_by_node : (window : ℕ) (events : List Event) (f : ℕ → ℕ) → ((n : ℕ) → AreFew window f (own_events n events)) → AreFew window f events
few_by_node window [] f each = tt
few_by_node window (event.Issue m op ∷ es) f each =
    let mine : (f m < window) × AreFew window (one_more_at m f) (own_events m es) =
    subst (AreFew window f) (filter_yes (λ (x : Event). node_of x == m) (event.Issue m op) es (eq-eqb m m refl)) (each m) in (
      mine.0,
      few_by_node window es (one_more_at m f) (moved window m (event.Issue m op) es f (one_more_at m f) refl
          (λ n apart. sym (ap (λ (b : Bool). if b then f n + 1 else f n) (ne_eqb n m apart))) mine.1 each),
    )
few_by_node window (event.Perform m line ∷ es) f each =
    let mine : AreFew window (one_less_at m f) (own_events m es) =
    subst (AreFew window f) (filter_yes (λ (x : Event). node_of x == m) (event.Perform m line) es (eq-eqb m m refl)) (each m) in
    few_by_node window es (one_less_at m f) (moved window m (event.Perform m line) es f (one_less_at m f) refl
    (λ n apart. sym (ap (λ (b : Bool). if b then f n - 1 else f n) (ne_eqb n m apart))) mine each)
few_by_node window (event.Ask m line kind ∷ es) f each =
    few_by_node window es f (λ n. passed window f (event.Ask m line kind) (own_events n es) (m == n) (λ few. few) (each n))
few_by_node window (event.Serve from m ∷ es) f each =
    few_by_node window es f (λ n. passed window f (event.Serve from m) (own_events n es) (m == n) (λ few. few) (each n))
few_by_node window (event.Refuse from m ∷ es) f each =
    few_by_node window es f (λ n. passed window f (event.Refuse from m) (own_events n es) (m == n) (λ few. few) (each n))
few_by_node window (event.Reply m ∷ es) f each =
    few_by_node window es f (λ n. passed window f (event.Reply m) (own_events n es) (m == n) (λ few. few) (each n))
few_by_node window (event.Accept from m ∷ es) f each =
    few_by_node window es f (λ n. passed window f (event.Accept from m) (own_events n es) (m == n) (λ few. few) (each n))

-- ---- how many there are

-- the events of the first nodes
abbrev below : ℕ → List Event → List Event
below n events = filter (λ e. nat_lt (node_of e) n) events

bits : (m n : ℕ) → cond {A = ℕ} (nat_lt m (suc n)) 1 0 ≡ cond {A = ℕ} (nat_lt m n) 1 0 + cond {A = ℕ} (m == n) 1 0
bits m n = grind (arith, cases_lt, lt-ltb, ne_eqb, cases_eq, le-ltb, eq-eqb)

one_kept : (e : Event) (es : List Event) (b : Bool) → length (if b then e ∷ es else es) ≡ cond {A = ℕ} b 1 0 + length es
one_kept e es true = omega arith
one_kept e es false = omega arith

one_node_more : (n : ℕ) (events : List Event) → length (below (suc n) events) ≡ length (below n events) + length (own_events n events)
one_node_more n [] = refl
one_node_more n (e ∷ es) =
    let rest = one_node_more n es in
    let bit = bits (node_of e) n in
    let a = one_kept e (below (suc n) es) (nat_lt (node_of e) (suc n)) in
    let b = one_kept e (below n es) (nat_lt (node_of e) n) in
    let c = one_kept e (own_events n es) (node_of e == n) in
    omega arith

none_below : (events : List Event) → length (below 0 events) ≡ 0
none_below [] = refl
none_below (e ∷ es) =
    let rest = none_below es in
    let none = one_kept e (below 0 es) (nat_lt (node_of e) 0) in
    let no : cond {A = ℕ} (nat_lt (node_of e) 0) 1 0 ≡ 0 = ap (λ (b : Bool). cond {A = ℕ} b 1 0) (le-ltb (node_of e) 0 (omega arith)) in
    omega arith

all_below : (n : ℕ) (events : List Event) → AllByRecursion (λ e. node_of e < n) events → below n events ≡ events
all_below n [] all = refl
all_below n (e ∷ es) all =
    filter_yes (λ (x : Event). nat_lt (node_of x) n) e es (lt-ltb (node_of e) n all.0) ∙ ap (λ (xs : List Event). e ∷ xs) (all_below n es all.1)

counted : (operations : Operations) (events : List Event) (n : ℕ) → n ≤ length operations
    → ((m : ℕ) → m < length operations → length (own_events m events) ≡ length (own_of operations m) * 2)
    → length (below n events) ≡ sum_by length (take n operations) * 2
counted operations events zero le each = none_below events
counted operations events (suc n) le each =
    let rest = counted operations events n (omega arith) each in
    let more = one_node_more n events in
    let one : n + 1 ≡ suc n = omega arith in
    let sums : sum_by length (take (suc n) operations) ≡ sum_by length (take n operations) + length (own_of operations n) =
    ap (λ (k : ℕ). sum_by length (take k operations)) (sym one) ∙ sum_by_more (λ (own : List Op). length own) operations n [] (omega arith) in
    let here = each n (omega arith) in
    omega arith

-- ---- the order of a script

-- node n's events are those of its operations: issued in their order, each while fewer than the window wait, and performed
pub record IsPart (operations : Operations) (window n : ℕ) (events : List Event) : Type 0 where
  pub issued : issues_at n events ≡ own_of operations n
  pub few : AreFew window (λ m. 0) events
  pub long : length events ≡ length (own_of operations n) * 2

no_events : (n : ℕ) (events : List Event) (bound : ℕ) → AllByRecursion (λ e. node_of e < bound) events → bound ≤ n → own_events n events ≡ []
no_events n [] bound all past = refl
no_events n (e ∷ es) bound all past =
    let low = all.0 in
    filter_no (λ (x : Event). node_of x == n) e es (ne_eqb (node_of e) n (λ is. absurd (omega (arith, is, low, past)))) ∙ no_events n es bound all.1 past

part_at : (operations : Operations) (window : ℕ) (events : List Event) → AllByRecursion (λ e. node_of e < length operations) events
    → ((n : ℕ) → n < length operations → IsPart operations window n (own_events n events)) → (n : ℕ) → IsPart operations window n (own_events n events)
part_at operations window events all each n = elim (cases_lt n (length operations)) [
  | inl lt ↦ each n lt
  | inr past ↦
      let none : own_of operations n ≡ [] = get_or_past operations n [] past in
      let zero_own : length (own_of operations n) ≡ 0 = ap (λ (own : List Op). length own) none in
      subst (IsPart operations window n) (sym (no_events n events (length operations) all past))
      (record { issued = sym none; few = tt; long = omega arith })
]

pub is_order : (operations : Operations) (window : ℕ) (events : List Event) → AllByRecursion (λ e. node_of e < length operations) events
    → ((n : ℕ) → n < length operations → IsPart operations window n (own_events n events)) → IsOrderOf operations window events
is_order operations window events all each =
    let part = part_at operations window events all each in
    let many = counted operations events (length operations) (omega arith) (λ m lt. (each m lt).long) in
    let whole = ap (λ (es : List Event). length es) (all_below (length operations) events all) in
    let count = ap (λ (ops : Operations). sum_by length ops) (take_all (length operations) operations (omega arith)) in
    record {
      issued = λ n. issues_own n events ∙ (part n).issued;
      few = few_by_node window events (λ n. 0) (λ n. (part n).few);
      whole = omega arith;
    }

-- ---- what is seen of a schedule

kept : (e : Event) (es : List Event) (is enabled : Bool) → enabled ≡ true
    → (if is && enabled then e ∷ [] else []) ++ es ≡ (if is then e ∷ es else es)
kept e es true true on = refl
kept e es true false on = absurd (cc)
kept e es false enabled on = refl

seen_on : (size : Size) (known events : List Event) → AreEnabled size known events → seen_from (run size known) events ≡ filter is_seen events
seen_on size known [] enabled = refl
seen_on size known (e ∷ es) enabled =
    let next : run size (known ++ e ∷ []) ≡ step (run size known) e = fold_push step (opening size) known e in
    ap (λ (xs : List Event). seen_at (run size known) e ++ xs)
    (ap (λ (core : Core). seen_from core es) (sym next) ∙ seen_on size (known ++ e ∷ []) es enabled.1)
    ∙ kept e (filter is_seen es) (is_seen e) (is_some (stepping (run size known) e)) enabled.0

-- all Issues and Performs, if each event is enabled when it comes
pub seen_enabled : (size : Size) (events : List Event) → AreEnabled size [] events → seen size events ≡ filter is_seen events
seen_enabled size events enabled = seen_on size [] events enabled

-- each event is of a node of the machine
within_node : (core : Core) (e : Event) → IsSome (stepping core e) → node_of e < core.size.nodes
within_node core e some = grind (arith, cases_lt, stepping_nobody)

nodes_on : (size : Size) (known events : List Event) → IsSize size → AreEnabled size known events → AllByRecursion (λ e. node_of e < size.nodes) events
nodes_on size known [] sizes enabled = tt
nodes_on size known (e ∷ es) sizes enabled = (
  subst (λ (s : Size). node_of e < s.nodes) (run_size size known sizes) (within_node (run size known) e enabled.0),
  nodes_on size (known ++ e ∷ []) es sizes enabled.1,
)

pub nodes_enabled : (size : Size) (events : List Event) → IsSize size → AreEnabled size [] events
    → AllByRecursion (λ e. node_of e < size.nodes) (filter is_seen events)
nodes_enabled size events sizes enabled = all-filter (λ e. node_of e < size.nodes) is_seen events (nodes_on size [] events sizes enabled)
