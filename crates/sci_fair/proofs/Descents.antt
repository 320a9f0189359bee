-- If in each window a measure falls, since the node that lowers it takes its turn there, it falls to its end.
use Rattle.std.proofs.Common.{◌≡◌, ◌≢◌, ◌≤◌, ◌<◌, ◌+◌, ◌⊎◌, ℕ, zero, suc, arith, List, [], ◌∷◌, ◌++◌, refl, sym, ap, subst, ◌∙◌, inl, inr}
use Rattle.std.proofs.lemmas.{List.{append_assoc}}
use Rattle.sci_history.specs.Seen.{IsAmong}
use Rattle.sci_fair.specs.Steady.{AreTurns, HasWindows, IsSteadyTurn, Working}

-- ---- windows

among_after : {X : Type 0} (x : X) (xs ys : List X) → IsAmong x ys → IsAmong x (xs ++ ys)
among_after x [] ys among = among
among_after x (y ∷ xs) ys among = inr (among_after x xs ys among)

-- turns before them leave the windows
pub windows_after : (nodes count : ℕ) (order rest : List ℕ) → HasWindows nodes count rest → HasWindows nodes count (order ++ rest)
windows_after nodes zero order rest windows = tt
windows_after nodes (suc count) order rest windows = (
  order ++ windows.0,
  windows.1,
  ap (λ (l : List ℕ). order ++ l) windows.2 ∙ sym (append_assoc order windows.0 windows.1),
  λ n some. among_after n order windows.0 (windows.3 n some),
  windows.4,
)

-- fewer windows are there too
pub windows_fewer : (nodes few many : ℕ) (order : List ℕ) → few ≤ many → HasWindows nodes many order → HasWindows nodes few order
windows_fewer nodes zero many order le windows = tt
windows_fewer nodes (suc few) zero order le windows = absurd (omega (arith, le))
windows_fewer nodes (suc few) (suc many) order le windows =
    (windows.0, windows.1, windows.2, windows.3, windows_fewer nodes few many windows.1 (omega (arith, le)) windows.4)

-- so many windows, and more behind them
pub record Parted (nodes count more : ℕ) (order : List ℕ) : Type 0 where
  pub first : List ℕ
  pub rest : List ℕ
  pub whole : order ≡ first ++ rest
  pub windows : HasWindows nodes count first
  pub later : HasWindows nodes more rest

pub windows_part : (nodes count more : ℕ) (order : List ℕ) → HasWindows nodes (count + more) order → Parted nodes count more order
windows_part nodes zero more order windows = record {
  first = [];
  rest = order;
  whole = refl;
  windows = tt;
  later = windows_fewer nodes more (0 + more) order (omega arith) windows;
}
windows_part nodes (suc count) more order windows =
    let all = windows_fewer nodes (suc (count + more)) (suc count + more) order (omega arith) windows in
    let part = windows_part nodes count more all.1 all.4 in
    record {
      first = all.0 ++ part.first;
      rest = part.rest;
      whole = all.2 ∙ (ap (λ (l : List ℕ). all.0 ++ l) part.whole ∙ sym (append_assoc all.0 part.first part.rest));
      windows = (all.0, part.first, refl, all.3, part.windows);
      later = part.later;
    }

-- ---- a turn that comes

pub turns_join : {X : Type 0} (IsTurn : ℕ → X → X → Type 0) (before after : List ℕ) (first mid last : X) → AreTurns IsTurn before first mid
    → AreTurns IsTurn after mid last → AreTurns IsTurn (before ++ after) first last
turns_join IsTurn [] after first mid last leads turns = subst (λ (w : _). AreTurns IsTurn after w last) (sym leads) turns
turns_join IsTurn (i ∷ before) after first mid last leads turns = (leads.0, leads.1, turns_join IsTurn before after leads.0 mid last leads.2 turns)

pub turns_part : {X : Type 0} (IsTurn : ℕ → X → X → Type 0) (before after : List ℕ) (first last : X) → AreTurns IsTurn (before ++ after) first last
    → (mid : X) × AreTurns IsTurn before first mid × AreTurns IsTurn after mid last
turns_part IsTurn [] after first last turns = (first, refl, turns)
turns_part IsTurn (i ∷ before) after first last turns =
    let part = turns_part IsTurn before after turns.0 last turns.2 in (part.0, (turns.0, turns.1, part.1), part.2)

-- among these turns comes one of which this is true, and behind it are as many windows
pub record ComesBy (IsTurn Done : ℕ → Working → Working → Type 0) (nodes count : ℕ) (order : List ℕ) (first last : Working) : Type 0 where
  pub before : List ℕ
  pub node : ℕ
  pub after : List ℕ
  pub whole : order ≡ before ++ node ∷ after
  pub old : Working
  pub new : Working
  pub leads : AreTurns IsTurn before first old
  pub turn : IsTurn node old new
  pub turns : AreTurns IsTurn after new last
  pub done : Done node old new
  pub windows : HasWindows nodes count after

abbrev pub Comes : (ℕ → Working → Working → Type 0) → ℕ → ℕ → List ℕ → Working → Working → Type 0
Comes = ComesBy IsSteadyTurn

pub comes_later : (IsTurn Done : ℕ → Working → Working → Type 0) (nodes count i : ℕ) (order : List ℕ) (first next last : Working) → IsTurn i first next
    → ComesBy IsTurn Done nodes count order next last → ComesBy IsTurn Done nodes count (i ∷ order) first last
comes_later IsTurn Done nodes count i order first next last turn comes = record {
  before = i ∷ comes.before;
  node = comes.node;
  after = comes.after;
  whole = ap (λ (l : List ℕ). i ∷ l) comes.whole;
  old = comes.old;
  new = comes.new;
  leads = (next, turn, comes.leads);
  turn = comes.turn;
  turns = comes.turns;
  done = comes.done;
  windows = comes.windows;
}

-- what a turn makes of a measure that node h lowers: it falls; or it stays, and node h hasn't taken its turn
pub data Falls (Help : ℕ → ℕ → Working → Type 0) (k h i : ℕ) (new : Working) : Type 0 where
  Less : (less next : ℕ) → less < k → Help less next new → Falls Help k h i new
  Stays : i ≢ h → Help k h new → Falls Help k h i new

pub falls_as : (Help More : ℕ → ℕ → Working → Type 0) (k h i : ℕ) (new : Working) → ((less next : ℕ) → Help less next new → More less next new)
    → Falls Help k h i new → Falls More k h i new
falls_as Help More k h i new give (Less less next lt help) = Less less next lt (give less next help)
falls_as Help More k h i new give (Stays other help) = Stays other (give k h help)

module _ (IsTurn : ℕ → Working → Working → Type 0) (nodes : ℕ) (Done : ℕ → Working → Working → Type 0) (Help : ℕ → ℕ → Working → Type 0)
    (step : (k h i : ℕ) (old new : Working) → Help k h old → IsTurn i old new → Done i old new ⊎ Falls Help k h i new)
    (some : (k h : ℕ) (w : Working) → Help k h w → h < nodes) (extra : ℕ) (last : Working) where
  -- the rest of a window in which node h comes
  walks : (total k h : ℕ) → ((less next : ℕ) (order : List ℕ) (w : Working) → less < k → Help less next w → AreTurns IsTurn order w last
      → HasWindows nodes total order → ComesBy IsTurn Done nodes extra order w last) → (window rest : List ℕ) (w : Working) → extra ≤ total → Help k h w
      → IsAmong h window
      → AreTurns IsTurn (window ++ rest) w last → HasWindows nodes total rest → ComesBy IsTurn Done nodes extra (window ++ rest) w last
  walks total k h again [] rest w enough help among turns windows = elim among [ ]
  walks total k h again (i ∷ window) rest w enough help among turns windows = elim (step k h i w turns.0 help turns.1) [
    | inl done ↦ record {
      before = [];
      node = i;
      after = window ++ rest;
      whole = refl;
      old = w;
      new = turns.0;
      leads = refl;
      turn = turns.1;
      turns = turns.2;
      done = done;
      windows = windows_after nodes extra window rest (windows_fewer nodes extra total rest enough windows);
    }
    | inr falls ↦ comes_later IsTurn Done nodes extra i (window ++ rest) w turns.0 last turns.1 (elim falls [
      | Less less next lt helps ↦ again less next (window ++ rest) turns.0 lt helps turns.2 (windows_after nodes total window rest windows)
      | Stays other helps ↦ elim among [
        | inl same ↦ absurd (other (sym same))
        | inr later ↦ walks total k h again window rest turns.0 enough helps later turns.2 windows
      ]
    ])
  ]

  descends : (most total k h : ℕ) (order : List ℕ) (w : Working) → most + extra ≡ total → k ≤ most → Help k h w → AreTurns IsTurn order w last
      → HasWindows nodes (suc total) order → ComesBy IsTurn Done nodes extra order w last
  descends zero total k h order w sum few help turns windows =
      subst (λ (l : List ℕ). ComesBy IsTurn Done nodes extra l w last) (sym windows.2) (walks total k h (λ less next o v lt helps t ws. absurd (omega
      (arith, few, lt))) windows.0 windows.1 w (omega (arith, sum)) help
      (windows.3 h (some k h w help)) (subst (λ (l : List ℕ). AreTurns IsTurn l w last) windows.2 turns) windows.4)
  descends (suc most) zero k h order w sum few help turns windows = absurd (omega (arith, sum))
  descends (suc most) (suc total) k h order w sum few help turns windows =
      subst (λ (l : List ℕ). ComesBy IsTurn Done nodes extra l w last) (sym windows.2) (walks (suc total) k h
      (λ less next o v lt helps t ws. descends most total less next o v (omega (arith, sum)) (omega (arith, few, lt)) helps t ws)
      windows.0 windows.1 w (omega (arith, sum)) help
      (windows.3 h (some k h w help)) (subst (λ (l : List ℕ). AreTurns IsTurn l w last) windows.2 turns) windows.4)

  -- the measure comes to its end within one window more than it counts
  pub descend : (most k h : ℕ) (order : List ℕ) (w : Working) → k ≤ most → Help k h w → AreTurns IsTurn order w last
      → HasWindows nodes (suc (most + extra)) order → ComesBy IsTurn Done nodes extra order w last
  descend most k h order w few help turns windows = descends most (most + extra) k h order w refl few help turns windows
