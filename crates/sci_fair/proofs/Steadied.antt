-- A turn that changes no level: each of its events leaves each rank as it is.
use Rattle.std.proofs.Common.{◌≡◌, ◌≤◌, ◌<◌, ◌⊎◌, ℕ, arith, List, [], ◌∷◌, ◌++◌}
use Rattle.std.proofs.Common.{Some, sym, ap, subst, ◌∙◌, inl, inr}
use Rattle.std.proofs.lemmas.Bool.{cases_eq}
use Rattle.sci_words.specs.declared.event.Event.{Event}
use Rattle.sci_core.specs.{Core.{Core, node_at, stepping}, Node.{NodeOf, pending_on}, Reached.{IsReached}, Size.{Size}}
use Rattle.sci_policy.specs.{Lines.{state_on}, Policy.{PolicyOf, has}}
use Rattle.sci_turn.specs.Moves.{IsOwn}
use Rattle.sci_fair.specs.{Changes.{rank_at}, Lanes.{AreOpen}, Rank.{CannotPerform, rank, work_on}, Reads.{ReadsFit}}
use Rattle.sci_fair.proofs.{Opens.{turn_open}, RankTables.{level_rank}, Trace.{Does, does_then}}
use Rattle.sci_fair.proofs.WholeTurns.{HasTurned, Keeps, Lowers, Purges, level_in, lowers_on, turned_level, turns_on}

-- a level falls or stays to the turn's end, or a load was purged on a line that stood higher when the turn began
abbrev Falls : Core → ℕ → ℕ → PolicyOf → PolicyOf → Core → PolicyOf → Core → Type 0
Falls old n line start p core q new = (level_in old n line q new ≤ level_in old n line p core) ⊎
    ((level_in old n line q new ≤ 4) × (6 ≤ level_in old n line start old))

falls_then : (old : Core) (n line : ℕ) (start p m q : PolicyOf) (core mid new : Core) → Lowers n start old line p core m mid
    → Falls old n line start m mid q new → Falls old n line start p core q new
falls_then old n line start p m q core mid new (Keeps low) (inl lower) = inl (omega (arith, low, lower))
falls_then old n line start p m q core mid new (Keeps low) (inr purged) = inr purged
falls_then old n line start p m q core mid new (Purges four six) (inl lower) = inr (omega (arith, four, lower), six)
falls_then old n line start p m q core mid new (Purges four six) (inr purged) = inr purged

module _ (n : ℕ) (start : PolicyOf) (old : Core) (reached : IsReached old) (some : n < old.size.nodes) (cannot : CannotPerform (node_at old n)) where
  falls_along : (p : PolicyOf) (core : Core) (events : List Event) (q : PolicyOf) (new : Core) (line : ℕ) → HasTurned n start old p core
      → Does n p core events q new → Falls old n line start p core q new
  falls_along p core [] q new line turned does =
      inl (let same = ap (λ (r : PolicyOf). level_in old n line r core) does.0 in let then_ = ap (level_in old n line q) does.1 in omega (arith, same, then_))
  falls_along p core (e ∷ events) q new line turned does =
      let mid = does.1 in
      let then_ = turns_on n start old reached some cannot core mid p does.0 e turned does.2 does.3 in
      falls_then old n line start p does.0 q core mid new (lowers_on n start old reached some cannot core mid line p does.0 e turned does.2 does.3)
      (falls_along does.0 mid events q new line then_ does.4)

  -- so where a turn ends with the level that it began with, it never had another
  same_along : (p : PolicyOf) (core : Core) (events : List Event) (q : PolicyOf) (new : Core) (line : ℕ) → HasTurned n start old p core
      → Does n p core events q new → level_in old n line q new ≡ level_in old n line start old
      → level_in old n line p core ≡ level_in old n line start old
  same_along p core events q new line turned does same = grind (arith, falls_along)

-- ---- steady steps

-- at each node the same is pending on each line, and each line has the same rank
abbrev pub IsSame : Core → Core → Type 0
IsSame old new = (m line : ℕ) → (pending_on (node_at new m) line ≡ pending_on (node_at old m) line) × (rank_at new m line ≡ rank_at old m line)

-- what holds of a machine before an event and after it
abbrev pub Change : Type 1
Change = Core → Core → Type 0

-- an event of node n's turn, of which this holds
pub record IsGoing (K : Change) (n : ℕ) (p : PolicyOf) (x : Core) (e : Event) (q : PolicyOf) (y : Core) : Type 0 where
  pub reached : IsReached x
  pub fit : ReadsFit x
  pub opened : AreOpen x
  pub some : n < x.size.nodes
  pub own : IsOwn n p x e q
  pub steps : stepping x e ≡ Some y
  pub same : K x y

-- such events, one after another
abbrev pub GoesBy : Change → ℕ → PolicyOf → Core → List Event → PolicyOf → Core → Type 0
GoesBy K n p x [] q y = (p ≡ q) × (x ≡ y)
GoesBy K n p x (e ∷ events) q y = (policy : PolicyOf) × (next : Core) × IsGoing K n p x e policy next × GoesBy K n policy next events q y

-- an event of node n's turn that changes no rank
abbrev pub IsSteady : ℕ → PolicyOf → Core → Event → PolicyOf → Core → Type 0
IsSteady = IsGoing IsSame

abbrev pub Steadily : ℕ → PolicyOf → Core → List Event → PolicyOf → Core → Type 0
Steadily = GoesBy IsSame

-- what is on one level has one rank
same_rank : (n line : ℕ) (start p q : PolicyOf) (old core mid : Core) → HasTurned n start old p core → HasTurned n start old q mid
    → level_in old n line p core ≡ level_in old n line q mid → rank_at mid n line ≡ rank_at core n line
same_rank n line start p q old core mid one two same =
    sym (level_rank (has p.used line) (has q.used line) (work_on (node_at core n) line) (work_on (node_at mid n) line) (state_on (node_at core n) line)
    (state_on (node_at mid n) line)
    (turned_level n start p old core line one ∙ (same ∙ sym (turned_level n start q old mid line two))))

module _ (n : ℕ) (start : PolicyOf) (old : Core) (reached : IsReached old) (some : n < old.size.nodes) (cannot : CannotPerform (node_at old n))
    (r : PolicyOf) (new : Core) (same : (line : ℕ) → level_in old n line r new ≡ level_in old n line start old) where
  same_step : (p : PolicyOf) (core : Core) (q : PolicyOf) (mid : Core) (e : Event) (rest : List Event) → HasTurned n start old p core → IsOwn n p core e q
      → stepping core e ≡ Some mid → Does n q mid rest r new → IsSame core mid
  same_step p core q mid e rest turned own steps does = λ m line. (
      let then_ = turns_on n start old reached some cannot core mid p q e turned own steps in
      elim (cases_eq m n) [
        | inl here ↦
            let before = same_along n start old reached some cannot p core (e ∷ rest) r new line turned (q, mid, own, steps, does) (same line) in
            let after = same_along n start old reached some cannot q mid rest r new line then_ does (same line) in
            let kept : (pending_on (node_at mid n) line ≡ pending_on (node_at core n) line) × (rank_at mid n line ≡ rank_at core n line) = (
              then_.work line ∙ sym (turned.work line),
              same_rank n line start p q old core mid turned then_ (before ∙ sym after),
            ) in
            subst (λ (k : ℕ). (pending_on (node_at mid k) line ≡ pending_on (node_at core k) line) × (rank_at mid k line ≡ rank_at core k line)) (sym here) kept
        | inr other ↦
            let node : node_at mid m ≡ node_at core m = then_.others m other ∙ sym (turned.others m other) in
            (ap (λ (part : NodeOf). pending_on part line) node, ap (λ (part : NodeOf). rank (work_on part line) (state_on part line)) node)
      ]
      )

  pub steady_from : (p : PolicyOf) (core : Core) (events : List Event) (q : PolicyOf) (mid : Core) (rest : List Event) → HasTurned n start old p core
      → AreOpen core → Does n p core events q mid → Does n q mid rest r new → Steadily n p core events q mid
  steady_from p core [] q mid rest turned opened does later = does
  steady_from p core (e ∷ events) q mid rest turned opened does later =
      let next = does.1 in
      let here : n < core.size.nodes = subst (λ (z : Size). n < z.nodes) (sym turned.size) some in
      let then_ = turns_on n start old reached some cannot core next p does.0 e turned does.2 does.3 in (
        does.0,
        next,
        record {
          reached = turned.reached;
          fit = turned.fit;
          opened = opened;
          some = here;
          own = does.2;
          steps = does.3;
          same = same_step p core does.0 next e (events ++ rest) turned does.2 does.3 (does_then n does.0 next events q mid rest r new does.4 later);
        },
        steady_from does.0 next events q mid rest then_ (turn_open core next p does.0 n e turned.reached opened here does.2 does.3) does.4 later,
      )
