-- Whatever is issued and performed between turns, the front of each lane of requests is taken before many windows have passed.
use Rattle.std.proofs.Common.{◌≡◌, ◌≢◌, ◌<◌, ◌+◌, ◌-◌, ◌%◌, ◌⊎◌, ℕ, zero, suc, Bool, true, arith, List, refl, sym, ap, subst, ◌∙◌, inl, inr}
use Rattle.std.proofs.lemmas.Bool.{cases_eq}
use Rattle.sci_words.specs.declared.event.Event.{Event}
use Rattle.sci_packets.specs.declared.body.Body.TheVariants.{Cread}
use Rattle.sci_cache.specs.{State.{CacheState}, Cache.{Letter}}
use Rattle.sci_core.specs.declared.lane.LaneKind.TheVariants.{Answers, Requests}
use Rattle.sci_core.specs.{Core.{node_at}, Node.{NodeOf}, Size.{Size}}
use Rattle.sci_history.specs.Seen.{IsAmong}
use Rattle.sci_policy.specs.{Lines.{state_on}, Policy.{PolicyOf, awaits_home, turned}}
use Rattle.sci_fair.specs.{Later.{AreWorked, IsTurnAmong}, Rank.{CannotPerform}, Steady.{IsTurnAlone, Working, WorksByTurns}}
use Rattle.sci_fair.proofs.{Descents.{Falls, Less, Stays, falls_as}}
use Rattle.sci_fair.proofs.{Going.{Whatever, WorkedOn, turn_going, works_on}}
use Rattle.sci_fair.proofs.KeptTurns.{IsKeptIn, lone_never, lone_turn, owned_turn, settled_turn}
use Rattle.sci_fair.proofs.Leaders.{Passes, awaits_works, is_lone, lone_works, owns, owns_works}
use Rattle.sci_fair.proofs.Standing.{Asked_home, AwaitsWord, FrontTaken, Has_answer, StandsAt, asks_home, counts_turn, lets_go, own_front}
use Rattle.sci_fair.proofs.Standing.{stands_kept, stands_own, word_below, word_of, word_other, word_own}
use Rattle.sci_fair.proofs.{SteadyTurns.{HeldBy}, Vain.{first_need, one_more}}

-- ---- a turn, and what is issued and performed before it

pub record Among (i : ℕ) (old new : Working) : Type 0 where
  pub works : List Event
  pub begins : Working
  pub policies : begins.policies ≡ old.policies
  pub worked : AreWorked works old.core begins.core
  pub good : WorksByTurns begins.core
  pub size : begins.core.size ≡ old.core.size
  pub cannot : CannotPerform (node_at begins.core i)
  pub alone : IsTurnAlone i begins new
  pub held : HeldBy Whatever i begins new

pub among : (i : ℕ) (old new : Working) → WorksByTurns old.core → IsTurnAmong i old new → Among i old new
among i old new good turn =
    let later = turn.1 in
    let begins : Working = record { core = later.mid; policies = old.policies } in
    let works = works_on owns owns_works later.works old.core later.mid good later.worked in
    record {
      works = later.works;
      begins = begins;
      policies = refl;
      worked = later.worked;
      good = works.good;
      size = works.size;
      cannot = later.cannot;
      alone = later.turn;
      held = turn_going i begins new works.good later.turn;
    }

-- ---- how far the front has come

-- Node n counts its turns to the one in which it lets requests go. If the line awaits its home's word then, that word comes, and the line
-- leads a list of its own. The node counts its turns once more. If the line is being given back then, that was in vain, and it leads nobody.
pub data Passing (size : Size) (n j : ℕ) (front : Letter) (k h : ℕ) (w : Working) : Type 0 where
  Counts : StandsAt size n j front w → h ≡ n → (need : ℕ) → ((w.policies n).turns + need + 1) % 64 ≡ 0 → k ≡ need + 77 → Passing size n j front k h w
  Word : AwaitsWord 71 size n j front k h w → Passing size n j front k h w
  Leads : StandsAt size n j front w → front.body ≡ Cread → Passes owns n front.line w.core → h ≡ n → (need : ℕ)
      → ((w.policies n).turns + need + 1) % 64 ≡ 0 → k ≡ need + 7 → Passing size n j front k h w
  Gives : AwaitsWord 1 size n j front k h w → Passes owns n front.line w.core → Passing size n j front k h w
  Alone : StandsAt size n j front w → front.body ≡ Cread → Passes is_lone n front.line w.core → h ≡ n → k ≡ 0 → Passing size n j front k h w

-- ---- what is issued and performed changes nothing of it

module _ (size : Size) (n j : ℕ) (front : Letter) (old new : Working) (policies : new.policies ≡ old.policies) where
  stands_worked : (test : CacheState → Bool) → WorkedOn test old.core new.core → StandsAt size n j front old → StandsAt size n j front new
  stands_worked test on at =
      record { good = on.good; size_is = on.size ∙ at.size_is; rest = at.rest; lane = on.lanes Requests j n ∙ at.lane }

  word_worked : (base k h : ℕ) → WorkedOn awaits_home old.core new.core → AwaitsWord base size n j front k h old → AwaitsWord base size n j front k h new
  word_worked base k h on (Asked_home at cread awaits home ahead asked is) =
      Asked_home (stands_worked awaits_home on at) cread (on.states n front.line awaits) home ahead (record {
        before = asked.before;
        after = asked.after;
        letter = asked.letter;
        lane = on.lanes Requests n h ∙ asked.lane;
        about = asked.about;
        changes = asked.changes;
        few = asked.few;
      }) is
  word_worked base k h on (Has_answer at cread awaits here answered is) =
      Has_answer (stands_worked awaits_home on at) cread (on.states n front.line awaits) here (record {
        from = answered.from;
        sender = subst (λ (z : Size). answered.from < z.nodes) (sym on.size) answered.sender;
        letter = answered.letter;
        answers = answered.answers;
        about = answered.about;
        among = subst (IsAmong answered.letter) (sym (on.lanes Answers answered.from n)) answered.among;
      }) is

  counted : (need : ℕ) → ((old.policies n).turns + need + 1) % 64 ≡ 0 → ((new.policies n).turns + need + 1) % 64 ≡ 0
  counted need due = ap (λ (p : ℕ → PolicyOf). ((p n).turns + need + 1) % 64) policies ∙ due

  worked_passes : (k h : ℕ) → WorkedOn awaits_home old.core new.core → WorkedOn owns old.core new.core → WorkedOn is_lone old.core new.core
      → Passing size n j front k h old → Passing size n j front k h new
  worked_passes k h awaits own lone (Counts at here need due is) = Counts (stands_worked owns own at) here need (counted need due) is
  worked_passes k h awaits own lone (Word word) = Word (word_worked 71 k h awaits word)
  worked_passes k h awaits own lone (Leads at cread leads here need due is) =
      Leads (stands_worked owns own at) cread (own.states n front.line leads) here need (counted need due) is
  worked_passes k h awaits own lone (Gives word leads) = Gives (word_worked 1 k h awaits word) (own.states n front.line leads)
  worked_passes k h awaits own lone (Alone at cread is here none) =
      Alone (stands_worked owns own at) cread (lone.states n front.line is) here none

-- ---- a turn

module _ (size : Size) (n j : ℕ) (some : n < size.nodes) (f : j < size.nodes) (front : Letter) where
  abbrev Passed : Working → Working → Type 0
  Passed old new = FrontTaken Whatever n j front n old new

  abbrev Comes_on : ℕ → ℕ → ℕ → Working → Type 0
  Comes_on = Falls (Passing size n j front)

  -- the node's own turn counts on
  count_on : (old new : Working) (need : ℕ) → (held : HeldBy Whatever n old new) → ((old.policies n).turns + suc need + 1) % 64 ≡ 0
      → ((new.policies n).turns + need + 1) % 64 ≡ 0
  count_on old new need held due =
      ap (λ (t : ℕ). (t + need + 1) % 64) (counts_turn size n j some f front old new held) ∙ one_more (old.policies n).turns need due

  last_turn : (old : Working) → ((old.policies n).turns + zero + 1) % 64 ≡ 0 → (turned (old.policies n)).turns ≡ 0
  last_turn old due = let now : ((old.policies n).turns + 0 + 1) % 64 ≡ 0 = due in omega (arith, now)

  own_counts : (old new : Working) (k need : ℕ) → (held : HeldBy Whatever n old new) → StandsAt size n j front old
      → ((old.policies n).turns + need + 1) % 64 ≡ 0 → k ≡ need + 77 → Passed old new ⊎ Comes_on k n n new
  own_counts old new k zero held at due is = elim (own_front size n j some f front old new held at) [
    | inr took ↦ inl took
    | inl same ↦
        let now = lets_go size n j some f front old new held at same (last_turn old due) in
        inr (falls_as (AwaitsWord 71 size n j front) (Passing size n j front) k n n new (λ a b word. Word word)
        (asks_home size n j some f front new (stands_own size n j some f front old new held at same) now.0 now.1 71 k n (omega (arith, is))))
  ]
  own_counts old new k (suc need) held at due is = elim (own_front size n j some f front old new held at) [
    | inr took ↦ inl took
    | inl same ↦
        inr (Less (need + 77) n (omega (arith, is)) (Counts (stands_own size n j some f front old new held at same) refl need
        (count_on old new need held due) refl))
  ]

  own_leads : (old new : Working) (k need : ℕ) → (held : HeldBy Whatever n old new) → StandsAt size n j front old → front.body ≡ Cread
      → Passes owns n front.line old.core → ((old.policies n).turns + need + 1) % 64 ≡ 0 → k ≡ need + 7 → Passed old new ⊎ Comes_on k n n new
  own_leads old new k zero held at cread leads due is = elim (own_front size n j some f front old new held at) [
    | inr took ↦ inl took
    | inl same ↦
        let now = lets_go size n j some f front old new held at same (last_turn old due) in
        let still = owned_turn size n j some f front old new held (record { at = at; cread = cread; still = same }) leads in
        inr (falls_as (AwaitsWord 1 size n j front) (Passing size n j front) k n n new (λ a b word. Gives word still)
        (asks_home size n j some f front new (stands_own size n j some f front old new held at same) now.0 now.1 1 k n (omega (arith, is))))
  ]
  own_leads old new k (suc need) held at cread leads due is = elim (own_front size n j some f front old new held at) [
    | inr took ↦ inl took
    | inl same ↦
        let still = owned_turn size n j some f front old new held (record { at = at; cread = cread; still = same }) leads in
        inr (Less (need + 7) n (omega (arith, is)) (Leads (stands_own size n j some f front old new held at same) cread still refl need
        (count_on old new need held due) refl))
  ]

  -- it leads a list of its own, and counts once more
  leads_now : (new : Working) (k : ℕ) → StandsAt size n j front new → front.body ≡ Cread → Passes owns n front.line new.core → 70 < k → Comes_on k n n new
  leads_now new k at cread leads more =
      let t = (new.policies n).turns in
      let need = 63 - t % 64 in
      Less (need + 7) n (omega (arith, more)) (Leads at cread leads refl need (first_need t) refl)

  own_word : (old new : Working) (k h : ℕ) → (held : HeldBy Whatever n old new) → AwaitsWord 71 size n j front k h old → Passed old new ⊎ Comes_on k h n new
  own_word old new k h held word =
      let is = word_of 71 size n j k h front old word in
      elim (own_front size n j some f front old new held is.0) [
        | inr took ↦ inl took
        | inl same ↦ elim (word_own size n j some f front 71 old new k h held is.0 same word) [
          | inl falls ↦ inr (falls_as (AwaitsWord 71 size n j front) (Passing size n j front) k h n new (λ a b one. Word one) falls)
          | inr came ↦
              let more = came.0 in
              let leads = settled_turn size n j some f front old new held (record { at = is.0; cread = is.1.0; still = same }) is.1.1 came.2 in
              inr (subst (λ (m : ℕ). Comes_on k m n new) (sym came.1)
              (leads_now new k (stands_own size n j some f front old new held is.0 same) is.1.0 leads (omega (arith, more))))
        ]
      ]

  own_gives : (old new : Working) (k h : ℕ) → (held : HeldBy Whatever n old new) → AwaitsWord 1 size n j front k h old → Passes owns n front.line old.core
      → Passed old new ⊎ Comes_on k h n new
  own_gives old new k h held word leads =
      let is = word_of 1 size n j k h front old word in
      elim (own_front size n j some f front old new held is.0) [
        | inr took ↦ inl took
        | inl same ↦
            let kept : IsKeptIn size n j some f front old new held = record { at = is.0; cread = is.1.0; still = same } in
            elim (word_own size n j some f front 1 old new k h held is.0 same word) [
              | inl falls ↦
                  inr (falls_as (AwaitsWord 1 size n j front) (Passing size n j front) k h n new (λ a b one.
                  Gives one (owned_turn size n j some f front old new held kept leads)) falls)
              | inr came ↦
                  let more = came.0 in
                  inr (Less 0 n (omega (arith, more)) (Alone (stands_own size n j some f front old new held is.0 same) is.1.0
                  (lone_turn size n j some f front old new held kept leads is.1.1 came.2) refl refl))
            ]
      ]

  own_step : (old new : Working) (k h : ℕ) → (held : HeldBy Whatever n old new) → CannotPerform (node_at old.core n) → Passing size n j front k h old
      → Passed old new ⊎ Comes_on k h n new
  own_step old new k h held cannot (Counts at here need due is) = elim (own_counts old new k need held at due is) [
    | inl took ↦ inl took
    | inr falls ↦ inr (subst (λ (m : ℕ). Comes_on k m n new) (sym here) falls)
  ]
  own_step old new k h held cannot (Word word) = own_word old new k h held word
  own_step old new k h held cannot (Leads at cread leads here need due is) = elim (own_leads old new k need held at cread leads due is) [
    | inl took ↦ inl took
    | inr falls ↦ inr (subst (λ (m : ℕ). Comes_on k m n new) (sym here) falls)
  ]
  own_step old new k h held cannot (Gives word leads) = own_gives old new k h held word leads
  own_step old new k h held cannot (Alone at cread is here none) = elim (own_front size n j some f front old new held at) [
    | inr took ↦ inl took
    | inl same ↦ absurd (lone_never size n j some f front old new held (record { at = at; cread = cread; still = same }) is cannot)
  ]

  -- a turn of another node
  other_step : (i : ℕ) (old new : Working) (k h : ℕ) → (held : HeldBy Whatever i old new) → i < old.core.size.nodes → i ≢ n → new.policies n ≡ old.policies n
      → Passing size n j front k h old → Comes_on k h i new
  other_step i old new k h held here other policy (Counts at node need due is) =
      Stays (λ e. other (e ∙ node)) (Counts (stands_kept size n j some f front i old new held other here at) node need
      (ap (λ (r : PolicyOf). (r.turns + need + 1) % 64) policy ∙ due) is)
  other_step i old new k h held here other policy (Word word) =
      falls_as (AwaitsWord 71 size n j front) (Passing size n j front) k h i new (λ a b one. Word one)
      (word_other size n j some f front 71 i old new k h held other here word)
  other_step i old new k h held here other policy (Leads at cread leads node need due is) =
      Stays (λ e. other (e ∙ node)) (Leads (stands_kept size n j some f front i old new held other here at) cread
      (subst (λ (part : NodeOf). owns (state_on part front.line) ≡ true) (sym (held.trace.asked.since.others n (λ e. other (sym e)))) leads) node need
      (ap (λ (r : PolicyOf). (r.turns + need + 1) % 64) policy ∙ due) is)
  other_step i old new k h held here other policy (Gives word leads) =
      falls_as (AwaitsWord 1 size n j front) (Passing size n j front) k h i new (λ a b one. Gives one
      (subst (λ (part : NodeOf). owns (state_on part front.line) ≡ true) (sym (held.trace.asked.since.others n (λ e. other (sym e)))) leads))
      (word_other size n j some f front 1 i old new k h held other here word)
  other_step i old new k h held here other policy (Alone at cread is node none) =
      Stays (λ e. other (e ∙ node)) (Alone (stands_kept size n j some f front i old new held other here at) cread
      (subst (λ (part : NodeOf). is_lone (state_on part front.line) ≡ true) (sym (held.trace.asked.since.others n (λ e. other (sym e)))) is) node none)

-- ---- any turn, with what is issued and performed before it

pub passing_good : (size : Size) (n j k h : ℕ) (front : Letter) (w : Working) → Passing size n j front k h w → StandsAt size n j front w
passing_good size n j k h front w (Counts at here need due is) = at
passing_good size n j k h front w (Word word) = (word_of 71 size n j k h front w word).0
passing_good size n j k h front w (Leads at cread leads here need due is) = at
passing_good size n j k h front w (Gives word leads) = (word_of 1 size n j k h front w word).0
passing_good size n j k h front w (Alone at cread is here none) = at

pub passing_below : (size : Size) (n j : ℕ) → n < size.nodes → (front : Letter) (k h : ℕ) (w : Working) → Passing size n j front k h w → h < size.nodes
passing_below size n j some front k h w (Counts at here need due is) = subst (λ (m : ℕ). m < size.nodes) (sym here) some
passing_below size n j some front k h w (Word word) = word_below 71 size n j some front k h w word
passing_below size n j some front k h w (Leads at cread leads here need due is) = subst (λ (m : ℕ). m < size.nodes) (sym here) some
passing_below size n j some front k h w (Gives word leads) = word_below 1 size n j some front k h w word
passing_below size n j some front k h w (Alone at cread is here none) = subst (λ (m : ℕ). m < size.nodes) (sym here) some

pub passes_on : (size : Size) (n j : ℕ) (some : n < size.nodes) (f : j < size.nodes) (front : Letter) (k h i : ℕ) (old new : Working) → (a : Among i old new)
    → WorksByTurns old.core → Passing size n j front k h old
    → ((i ≡ n) × FrontTaken Whatever n j front n a.begins new) ⊎ Falls (Passing size n j front) k h i new
passes_on size n j some f front k h i old new a good passing =
    let awaits = works_on awaits_home awaits_works a.works old.core a.begins.core good a.worked in
    let own = works_on owns owns_works a.works old.core a.begins.core good a.worked in
    let lone = works_on is_lone lone_works a.works old.core a.begins.core good a.worked in
    let begun = worked_passes size n j front old a.begins a.policies k h awaits own lone passing in
    elim (cases_eq i n) [
      | inl same ↦ elim (own_step size n j some f front a.begins new k h (subst (λ (m : ℕ). HeldBy Whatever m a.begins new) same a.held)
          (subst (λ (m : ℕ). CannotPerform (node_at a.begins.core m)) same a.cannot) begun) [
            | inl took ↦ inl (same, took)
            | inr falls ↦ inr (subst (λ (m : ℕ). Falls (Passing size n j front) k h m new) (sym same) falls)
          ]
      | inr other ↦
          inr (other_step size n j some f front i a.begins new k h a.held a.alone.some other (a.alone.others n (λ e. other (sym e))) begun)
    ]
