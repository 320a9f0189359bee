-- In steady turns the front of each lane of requests is taken before many windows have passed.
use Rattle.std.proofs.Common.{◌≡◌, ◌≢◌, ◌≤◌, ◌<◌, ◌+◌, ◌-◌, ◌%◌, ◌⊎◌, ◌&&◌, ◌||◌, ℕ, zero, suc, Bool, true, false, arith}
use Rattle.std.proofs.Common.{List, ◌∷◌, Option, Some, None, refl, sym, ap, subst, ◌∙◌, inl, inr, rules}
use Rattle.std.proofs.lemmas.{Bool.{cases_eq}}
use Rattle.sci_words.specs.declared.event.Event.{Event}
use Rattle.sci_words.specs.Operation.{is_maker}
use Rattle.sci_packets.specs.declared.body.Body.{TheVariants.{Cread}}
use Rattle.sci_cache.specs.{State.{CacheState}, Cache.{Letter}}
use Rattle.sci_core.specs.declared.{lane.LaneKind.TheVariants.{Requests}, pending.Pending.{Pending}}
use Rattle.sci_core.specs.{Core.{lane_of, node_at}, Node.{NodeOf}, Size.{Size}}
use Rattle.sci_policy.proofs.PolicyLaws.{kept_no, serve_if}
use Rattle.sci_policy.specs.Lines.{can_drain, is_head, is_maker_of, state_on}
use Rattle.sci_policy.specs.Policy.{PolicyOf, awaits_home, decided, is_busy_now, turned}
use Rattle.sci_policy.specs.Turn.{decided_event}
use Rattle.sci_fair.specs.{Rank.{work_in, work_on}, Steady.{AreTurns, HasWindows, IsSteadyTurn, Working}}
use Rattle.sci_fair.specs.Steady.{WorksByTurns}
use Rattle.sci_fair.proofs.Awaiting.{Awaits, awaited_opens, is_open_head, open_all, serves_no_cread}
use Rattle.sci_fair.proofs.{Descents.{ComesBy, Falls, Less, Stays, descend, falls_as, windows_fewer}}
use Rattle.sci_fair.proofs.{HomeAnswers.{AnsweredAt}}
use Rattle.sci_fair.proofs.LaneTurns.{Is_kept, Is_taken, front_at}
use Rattle.sci_policy.specs.declared.decision.Decision.{Decision}
use Rattle.sci_fair.proofs.Standing.{AwaitsWord, FrontTaken, StandsAt, asks_home, counts_turn, front_inside, lets_go, own_front, stands_kept, stands_own}
use Rattle.sci_fair.proofs.Standing.{within}
use Rattle.sci_fair.proofs.Standing.{word_below, word_of, word_other, word_own}
use Rattle.sci_fair.proofs.{Steadied.{IsSame, IsSteady}, SteadyTurns.{Held, steady_turn}, Vain.{first_need, one_more}}
use Rattle.sci_policy.specs.declared.decision.Decision.TheVariants as decision
use Rattle.sci_words.specs.declared.event.Event.TheVariants as event

-- ---- a head that would serve a Cread neither keeps it nor refuses it

open_awaits : (work : Option Bool) (s : CacheState) → is_open_head work s ≡ true → awaits_home s ≡ false
open_awaits work s opened = search rules

open_busy : (work : Option Bool) (s : CacheState) → is_open_head work s ≡ true → is_busy_now s ≡ false
open_busy work s opened = search rules

open_drain : (work : Option Bool) (s : CacheState) → is_open_head work s ≡ true → can_drain s ≡ false
open_drain work s opened = search rules

head_no_maker : (b : Bool) (s : CacheState) → is_open_head (Some b) s ≡ true → (is_head s && b) ≡ false
head_no_maker b s opened = search rules

no_bit : (a : Bool) → (a && false) ≡ false
no_bit a = search rules

open_maker : (pending : Option Pending) (s : CacheState) → is_open_head (work_in pending) s ≡ true → (is_head s && is_maker_of pending) ≡ false
open_maker None s opened = no_bit (is_head s)
open_maker (Some pending) s opened = head_no_maker (is_maker pending.op) s opened

held_no : (h m u : Bool) → (h && m) ≡ false → (h && (m && u)) ≡ false
held_no h m u none = search rules

refused_no : (c h d m : Bool) → d ≡ false → m ≡ false → (c && ((h && d) || m)) ≡ false
refused_no c h d m one two = search rules

pub opens_serve : (policy : PolicyOf) (node : NodeOf) (request : Letter) → is_open_head (work_on node request.line) (state_on node request.line) ≡ true
    → decided policy node request ≡ decision.Serve
opens_serve policy node request opened = grind (arith, refused_no, open_drain, held_no, open_maker, kept_no, open_awaits, open_busy, serve_if)

-- ---- what is helpful while the front is kept

-- node n counts its turns to the one in which it lets requests go; or its line awaits its home's word
pub data Helps (size : Size) (n j : ℕ) (front : Letter) (k h : ℕ) (w : Working) : Type 0 where
  Counts : StandsAt size n j front w → h ≡ n → (need : ℕ) → ((w.policies n).turns + need + 1) % 64 ≡ 0 → k ≡ need + 6 → Helps size n j front k h w
  Word : AwaitsWord 0 size n j front k h w → Helps size n j front k h w

module _ (size : Size) (n j : ℕ) (some : n < size.nodes) (f : j < size.nodes) (front : Letter) where
  own_counts : (old new : Working) (k need : ℕ) → (held : Held n old new) → StandsAt size n j front old → ((old.policies n).turns + need + 1) % 64 ≡ 0
      → k ≡ need + 6 → FrontTaken IsSame n j front n old new ⊎ Falls (Helps size n j front) k n n new
  own_counts old new k zero held at due is = elim (own_front size n j some f front old new held at) [
    | inr took ↦ inl took
    | inl same ↦
        let let_go : (turned (old.policies n)).turns ≡ 0 = (let now : ((old.policies n).turns + 0 + 1) % 64 ≡ 0 = due in omega (arith, now)) in
        let now = lets_go size n j some f front old new held at same let_go in
        inr (falls_as (AwaitsWord 0 size n j front) (Helps size n j front) k n n new (λ a b word. Word word)
        (asks_home size n j some f front new (stands_own size n j some f front old new held at same) now.0 now.1 0 k n (omega (arith, is))))
  ]
  own_counts old new k (suc need) held at due is = elim (own_front size n j some f front old new held at) [
    | inr took ↦ inl took
    | inl same ↦
        inr (Less (need + 6) n (omega (arith, is)) (Counts (stands_own size n j some f front old new held at same) refl need
        (ap (λ (t : ℕ). (t + need + 1) % 64) (counts_turn size n j some f front old new held) ∙ one_more (old.policies n).turns need due) refl))
  ]

  -- where the answer has come, the Cread would be served: the line would get another rank
  own_answer : (old new : Working) → (held : Held n old new) → StandsAt size n j front old → front.body ≡ Cread → Awaits n front.line old.core
      → AnsweredAt n front.line old.core → ⊥
  own_answer old new held at cread awaits answered =
      let n0 = within size n j some f front n old.core at.size_is some in
      let g = within size n j some f front j old.core at.size_is f in
      let line = front.line in
      let inside = front_inside old.core n j front at.rest at.good n0 g at.lane in
      let opens = awaited_opens n answered.from line old new answered.letter at.good held n0 inside answered.sender answered.answers answered.about
      answered.among awaits in
      let t = held.trace in
      let look = t.looks j g in
      let opened = open_all n line t.p1 t.c1 look.first look.p look.c look.first_takes (held.before j g) opens in
      let serve = opens_serve look.p (node_at look.c n) front opened in
      let lane : lane_of look.c Requests j n ≡ front ∷ at.rest = look.lane ∙ (t.accepted.requests j n g n0 ∙ at.lane) in
      let there : line < look.c.size.lines = subst (λ (z : Size). line < z.lines) (sym look.so.so.since.size) inside in
      elim (front_at n j old new held g front at.rest at.good n0 at.lane) [
        | Is_kept keep ↦ (let clash : decision.Serve ≡ decision.Keep = sym serve ∙ keep in absurd cc)
        | Is_taken more is q next e decides st ↦
            let event_is : event.Serve j n ≡ e =
            (let both : Some (event.Serve j n) ≡ Some e = ap (λ (d : Decision). decided_event d j n) (sym serve) ∙ decides in cc) in
            serves_no_cread n look.p look.c j n q next front at.rest (subst (λ (o : Event). IsSteady n look.p look.c o q next)
            (sym event_is) st) lane cread there
            opened
      ]

  -- a turn of the node itself
  own_step : (old new : Working) (k h : ℕ) → (held : Held n old new) → Helps size n j front k h old
      → FrontTaken IsSame n j front n old new ⊎ Falls (Helps size n j front) k h n new
  own_step old new k h held (Counts at here need due is) = elim (own_counts old new k need held at due is) [
    | inl took ↦ inl took
    | inr falls ↦ inr (subst (λ (m : ℕ). Falls (Helps size n j front) k m n new) (sym here) falls)
  ]
  own_step old new k h held (Word word) =
      let is = word_of 0 size n j k h front old word in
      elim (own_front size n j some f front old new held is.0) [
        | inr took ↦ inl took
        | inl same ↦ elim (word_own size n j some f front 0 old new k h held is.0 same word) [
          | inl falls ↦ inr (falls_as (AwaitsWord 0 size n j front) (Helps size n j front) k h n new (λ a b one. Word one) falls)
          | inr came ↦ absurd (own_answer old new held is.0 is.1.0 is.1.1 came.2)
        ]
      ]

  -- a turn of another node
  other_step : (i : ℕ) (old new : Working) (k h : ℕ) → (held : Held i old new) → i < old.core.size.nodes → i ≢ n → new.policies n ≡ old.policies n
      → Helps size n j front k h old → Falls (Helps size n j front) k h i new
  other_step i old new k h held here other policy (Counts at node need due is) =
      Stays (λ e. other (e ∙ node)) (Counts (stands_kept size n j some f front i old new held other here at) node need
      (ap (λ (r : PolicyOf). (r.turns + need + 1) % 64) policy ∙ due) is)
  other_step i old new k h held here other policy (Word word) =
      falls_as (AwaitsWord 0 size n j front) (Helps size n j front) k h i new (λ a b one. Word one)
      (word_other size n j some f front 0 i old new k h held other here word)

pub good_of : (size : Size) (n j k h : ℕ) (front : Letter) (w : Working) → Helps size n j front k h w → StandsAt size n j front w
good_of size n j k h front w (Counts at here need due is) = at
good_of size n j k h front w (Word word) = (word_of 0 size n j k h front w word).0

pub any_step : (size : Size) (n j : ℕ) (some : n < size.nodes) (f : j < size.nodes) (front : Letter) (k h i : ℕ) (old new : Working)
    → Helps size n j front k h old → IsSteadyTurn i old new → FrontTaken IsSame n j front i old new ⊎ Falls (Helps size n j front) k h i new
any_step size n j some f front k h i old new helps turn = elim (cases_eq i n) [
  | inl same ↦
      let own : FrontTaken IsSame n j front n old new ⊎ Falls (Helps size n j front) k h n new =
      own_step size n j some f front old new k h
      (steady_turn n old new (good_of size n j k h front old helps).good (subst (λ (m : ℕ). IsSteadyTurn m old new) same turn)) helps in
      subst (λ (m : ℕ). FrontTaken IsSame n j front m old new ⊎ Falls (Helps size n j front) k h m new) (sym same) own
  | inr other ↦
      inr (other_step size n j some f front i old new k h (steady_turn i old new (good_of size n j k h front old helps).good turn) turn.alone.some other
      (turn.alone.others n (λ e. other (sym e))) helps)
]

pub below_of : (size : Size) (n j : ℕ) → n < size.nodes → (front : Letter) (k h : ℕ) (w : Working) → Helps size n j front k h w → h < size.nodes
below_of size n j some front k h w (Counts at here need due is) = subst (λ (m : ℕ). m < size.nodes) (sym here) some
below_of size n j some front k h w (Word word) = word_below 0 size n j some front k h w word

-- the count begins
pub helps_first : (size : Size) (n j : ℕ) (front : Letter) (w : Working) → StandsAt size n j front w
    → (k : ℕ) × (h : ℕ) × (k ≤ 69) × Helps size n j front k h w
helps_first size n j front w at =
    let t = (w.policies n).turns in
    let need = 63 - t % 64 in
    (need + 6, n, omega arith, Counts at refl need (first_need t) refl)

-- the front of a lane is taken within 70 windows, of whatever turns that are steady
pub front_taken : (IsTurn : ℕ → Working → Working → Type 0) → ((i : ℕ) (old new : Working) → IsTurn i old new → IsSteadyTurn i old new) → (n j extra : ℕ)
    → (front : Letter) (rest : List Letter) (order : List ℕ) (old last : Working) → WorksByTurns old.core → n < old.core.size.nodes
    → j < old.core.size.nodes → lane_of old.core Requests j n ≡ front ∷ rest → AreTurns IsTurn order old last
    → HasWindows old.core.size.nodes (70 + extra) order → ComesBy IsTurn (FrontTaken IsSame n j front) old.core.size.nodes extra order old last
front_taken IsTurn steady n j extra front rest order old last good some f lane turns windows =
    let size = old.core.size in
    let helps = helps_first size n j front old (record { good = good; size_is = refl; rest = rest; lane = lane }) in
    descend IsTurn size.nodes (FrontTaken IsSame n j front) (Helps size n j front)
    (λ k h i one two help turn. any_step size n j some f front k h i one two help (steady i one two turn)) (below_of size n j some front) extra last 69
    helps.0 helps.1 order old helps.2 helps.3 turns (windows_fewer size.nodes (suc (69 + extra)) (70 + extra) order (omega arith) windows)
