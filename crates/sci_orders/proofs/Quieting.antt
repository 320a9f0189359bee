-- From every reached state the machine can come to rest with no operation performed; so it can do whatever one memory could.
use Rattle.std.proofs.Common.{◌≡◌, ◌⊎◌, ℕ, zero, suc, ◌<◌, ◌≤◌, Bool, true, false, List, [], ◌∷◌, ◌++◌, Some, refl, sym, ap, subst, ◌∙◌, arith, inl, inr}
use Rattle.std.proofs.lemmas.Bool.{cases_Bool, cases_eq}
use Rattle.sci_words.specs.declared.event.{AskKind.{AskKind}, Event.{Event}}
use Rattle.sci_cache.specs.State.{Out}
use Rattle.sci_core.proofs.Basics.Options.{found}
use Rattle.sci_core.proofs.Settling.{Drains.{can_drain}, EmptyRuns.{all_out_beyond}, Emptying.{next_lowers}, Moves.{move_weighs}, Resting.{all_out}}
use Rattle.sci_core.proofs.Settling.Rounds.{rounds}
use Rattle.sci_core.proofs.WellFormed.WellFormedSteps.{reachable, reached_stepping}
use Rattle.sci_core.specs.{Core.{Core, node_at, stepping}, Draining.{CanDrain, Drained, Drains, IsDrained, brings_on, weight}, Node.{node_asking}}
use Rattle.sci_core.specs.{Reached.{IsReached}, Rounds.{IsNext, Joins, Parts, Tells, is_head, is_telling, joins_before, parting, rank}, Shape.{state_at}}
use Rattle.sci_orders.proofs.Sound.{events_sound}
use Rattle.sci_orders.proofs.Turns.{IsIdle, Passes, order_passes, passes_append, passes_hidden, passes_none, round_passes, round_quiet, round_reached}
use Rattle.sci_orders.specs.{Plain.{AreAllowed, Plain, plain_of, plain_run}, Witness.{is_seen, round_with, schedule_of, seen_from}}
use Rattle.sci_words.specs.declared.event.Event.TheVariants as event
use Rattle.sci_words.specs.declared.event.AskKind.TheVariants as kind

-- ---- a number below a bound that passes, if one does

search_below : (p : ℕ → Bool) (n : ℕ) → ((i : ℕ) × (i < n) × (p i ≡ true)) ⊎ ((i : ℕ) → i < n → p i ≡ false)
search_below p zero = inr (λ i below. absurd (omega arith))
search_below p (suc n) = elim (search_below p n) [
  | inl at ↦ inl (at.0, (let low = at.1 in omega arith), at.2)
  | inr none ↦ elim (cases_Bool (p n)) [
    | inl yes_ ↦ inl (n, (omega arith), yes_)
    | inr no_ ↦ inr (λ i below. elim (cases_eq i n) [ inl e ↦ ap p e ∙ no_ | inr other ↦ none i (omega arith) ])
  ]
]

-- ---- what is under way comes to its end

pub record Calms (core : Core) : Type 0 where
  pub new : Core
  pub events : List Event
  pub passes : Passes core events [] new
  pub reached : IsReached new
  pub drained : IsDrained new

brings_hidden : (e : Event) → brings_on e ≡ true → is_seen e ≡ false
brings_hidden (event.Serve from n) is = refl
brings_hidden (event.Reply n) is = refl
brings_hidden (event.Accept from n) is = refl
brings_hidden _ is = cc

calms_more : (core next : Core) (e : Event) → is_seen e ≡ false → stepping core e ≡ Some next → Calms next → Calms core
calms_more core next e hidden steps rest = record {
  new = rest.new;
  events = e ∷ rest.events;
  passes = passes_hidden core next rest.new e rest.events [] hidden steps rest.passes;
  reached = rest.reached;
  drained = rest.drained;
}

drains_in : (fuel : ℕ) (core : Core) → weight core ≤ fuel → IsReached core → CanDrain core → Calms core
drains_in fuel core few reached (Drained drained) = record { new = core; events = []; passes = passes_none core; reached = reached; drained = drained }
drains_in zero core few reached (Drains e brings enabled) =
    let next = found (stepping core e) enabled in
    let less = move_weighs core next.0 e reached brings next.1 in
    absurd (omega arith)
drains_in (suc fuel) core few reached (Drains e brings enabled) =
    let next = found (stepping core e) enabled in
    let less = move_weighs core next.0 e reached brings next.1 in
    let after_ = reached_stepping core next.0 e reached next.1 in
    calms_more core next.0 e (brings_hidden e brings) next.1 (drains_in fuel next.0 (omega arith) after_ (can_drain next.0 (reachable next.0 after_)))

-- ---- each line comes to its home

pub record NextAsk (core : Core) : Type 0 where
  pub line : ℕ
  pub node : ℕ
  pub ask : AskKind
  pub inside : line < core.size.lines
  pub lt : node < core.size.nodes
  pub next : IsNext core line node ask

line_next : (core : Core) (line : ℕ) → IsReached core → IsDrained core → line < core.size.lines → NextAsk core ⊎ ((n : ℕ) → state_at core line n ≡ Out)
line_next core line reached drained inside = elim (search_below (λ n. is_telling (state_at core line n)) core.size.nodes) [
  | inl teller ↦ inl (record { line = line; node = teller.0; ask = kind.Setback; inside = inside; lt = teller.1; next = Tells teller.2 refl })
  | inr tellers ↦ elim (search_below (λ n. is_head (state_at core line n)) core.size.nodes) [
    | inr heads ↦ inr (all_out core line reached drained inside tellers heads)
    | inl head ↦ elim (search_below (λ m. joins_before (state_at core line m) head.0) core.size.nodes) [
      | inl joiner ↦
          inl (record { line = line; node = joiner.0; ask = kind.Cread; inside = inside; lt = joiner.1; next = Joins head.0 head.2 joiner.2 refl })
      | inr none ↦
          inl (record { line = line; node = head.0; ask = parting (state_at core line head.0); inside = inside; lt = head.1; next = Parts head.2 none refl })
    ]
  ]
]

pub lines_next : (core : Core) (count : ℕ) → count ≤ core.size.lines → IsReached core → IsDrained core
    → NextAsk core ⊎ ((line n : ℕ) → line < count → state_at core line n ≡ Out)
lines_next core zero few reached drained = inr (λ line n below. absurd (omega arith))
lines_next core (suc count) few reached drained = elim (lines_next core count (omega arith) reached drained) [
  | inl next ↦ inl next
  | inr before ↦ elim (line_next core count reached drained (omega arith)) [
    | inl next ↦ inl next
    | inr here ↦ inr (λ line n below. elim (cases_eq line count) [
      | inl e ↦ ap (λ (k : ℕ). state_at core k n) e ∙ here n
      | inr other ↦ before line n (omega arith)
    ])
  ]
]

pub record Rests (core : Core) : Type 0 where
  pub new : Core
  pub events : List Event
  pub passes : Passes core events [] new
  pub idle : IsIdle new

empties_in : (fuel : ℕ) (core : Core) → rank core ≤ fuel → IsReached core → IsDrained core
    → NextAsk core ⊎ ((line n : ℕ) → line < core.size.lines → state_at core line n ≡ Out) → Rests core
empties_in fuel core few reached drained (inr out) = record {
  new = core;
  events = [];
  passes = passes_none core;
  idle = record { reached = reached; drained = drained; out = all_out_beyond core reached out };
}
empties_in zero core few reached drained (inl a) =
    let lowers = next_lowers core a.node a.line a.ask reached drained a.lt a.inside a.next in
    let sent = found (node_asking (node_at core a.node) a.line a.ask) lowers.asks in
    let r = rounds core a.node a.line a.ask sent.0.1.target sent.0.0 sent.0.1 reached drained a.lt a.inside sent.1 refl in
    let less = lowers.lowers r.last r.round in
    absurd (omega arith)
empties_in (suc fuel) core few reached drained (inl a) =
    let lowers = next_lowers core a.node a.line a.ask reached drained a.lt a.inside a.next in
    let sent = found (node_asking (node_at core a.node) a.line a.ask) lowers.asks in
    let t = sent.0.1.target in
    let r = rounds core a.node a.line a.ask t sent.0.0 sent.0.1 reached drained a.lt a.inside sent.1 refl in
    let less = lowers.lowers r.last r.round in
    let after_ = round_reached core a.node a.line a.ask t r reached in
    let quiet_ = round_quiet core a.node a.line a.ask t r reached drained in
    let rest = empties_in fuel r.last (omega arith) after_ quiet_ (lines_next r.last r.last.size.lines (omega arith) after_ quiet_) in
    record {
      new = rest.new;
      events = round_with t a.node a.line a.ask ++ rest.events;
      passes = passes_append core r.last rest.new _ rest.events [] [] (round_passes core a.node a.line a.ask t r) rest.passes;
      idle = rest.idle;
    }

pub rests : (core : Core) → IsReached core → Rests core
rests core reached =
    let first = drains_in (weight core) core (omega arith) reached (can_drain core (reachable core reached)) in
    let then_ = empties_in (rank first.new) first.new (omega arith) first.reached first.drained
    (lines_next first.new first.new.size.lines (omega arith) first.reached first.drained) in
    record {
      new = then_.new;
      events = first.events ++ then_.events;
      passes = passes_append core first.new then_.new first.events then_.events [] [] first.passes then_.passes;
      idle = then_.idle;
    }

-- ---- and then whatever the memory may do

pub goes_on : (core : Core) (order : List Event) → IsReached core → AreAllowed (plain_of core) order → (events : List Event) × (seen_from core events ≡ order)
goes_on core order reached allowed =
    let rest = rests core reached in
    let sound = events_sound core rest.events (reachable core reached) in
    let same : plain_of rest.new ≡ plain_of core =
    ap plain_of (sym rest.passes.leads) ∙ (sound.plain ∙ ap (λ (o : List Event). plain_run (plain_of core) o) rest.passes.seen) in
    let all = order_passes rest.new order rest.idle (subst (λ (p : Plain). AreAllowed p order) (sym same) allowed) in
    let whole = passes_append core rest.new all.0 rest.events (schedule_of rest.new.size order) [] order rest.passes all.1.passes in
    (rest.events ++ schedule_of rest.new.size order, whole.seen)
