-- A round's four events, as they are made one after another.
use Rattle.std.proofs.Common.{◌≡◌, ℕ, ◌<◌, Some, refl, sym, ap, subst, ◌∙◌, arith}
use Rattle.std.specs.Prelude.{IsSome}
use Rattle.sci_words.specs.declared.event.{AskKind.{AskKind}, Event.{Event}}
use Rattle.sci_cache.specs.Cache.{Letter}
use Rattle.sci_core.specs.{Core.{Core, IsEnabled, node_at, stepping}, Draining.{IsDrained}, Node.{NodeOf, node_asking}}
use Rattle.sci_core.specs.{Reached.{IsReached}, Rounds.{IsRound}, Settling.{Leads, LeadsOn, exchanges}}
use Rattle.sci_core.proofs.Settling.{Drains.{drained, weighs_asked}, Leading.{leads_more, leads_on, leads_one}}
use Rattle.sci_core.proofs.Settling.{Moves.{drained_weighs, move_weighs}, Rounds.{Rounds, rounds}}
use Rattle.sci_core.proofs.{Basics.Options.{of_some}, WellFormed.Parts.{SendsWell, part_asking}}
use Rattle.sci_core.proofs.WellFormed.WellFormedSteps.{reached_stepping, reached_well}
use Rattle.sci_words.specs.declared.event.Event.TheVariants as event

-- the target of a request is a node of the machine, so a small number
small_target : (core : Core) (n line : ℕ) (kind : AskKind) (next : NodeOf) (letter : Letter) → IsReached core → n < core.size.nodes
    → node_asking (node_at core n) line kind ≡ Some (next, letter) → letter.target < 256
small_target core n line kind next letter reached lt is =
    let well = reached_well core reached in
    let sends = of_some (SendsWell core.size n) (node_asking (node_at core n) line kind) (next, letter) is
    (part_asking core.size n (node_at core n) line kind well.sizes.some_node lt (well.each_part n lt)) in
    let few = reached.size.extent.few_nodes in
    let below = sends.request.letter_ok.target in
    omega arith

-- the round of a request that a call has told
pub rounds_told : (core : Core) (n line : ℕ) (kind : AskKind) (t : ℕ) (node : NodeOf) (letter : Letter) → IsReached core → IsDrained core → n < core.size.nodes
    → line < core.size.lines → node ≡ node_at core n → (next : NodeOf) × (node_asking node line kind ≡ Some (next, letter)) → t ≡ letter.target
    → Rounds core n line kind t
rounds_told core n line kind t node letter reached none lt inside here (next, is) target =
    rounds core n line kind t next letter reached none lt inside (ap (λ (p : NodeOf). node_asking p line kind) (sym here) ∙ is) (sym target)

pub small_told : (core : Core) (n line : ℕ) (kind : AskKind) (t : ℕ) (node : NodeOf) (letter : Letter) → IsReached core → n < core.size.nodes
    → node ≡ node_at core n → (next : NodeOf) × (node_asking node line kind ≡ Some (next, letter)) → t ≡ letter.target → t < 256
small_told core n line kind t node letter reached lt here (next, is) target = let small =
    small_target core n line kind next letter reached lt (ap (λ (p : NodeOf). node_asking p line kind) (sym here) ∙ is) in omega arith

same_step : (old new other : Core) (e : Event) → stepping old e ≡ Some new → stepping old e ≡ Some other → other ≡ new
same_step old new other e one two = let both : Some new ≡ Some other = sym one ∙ two in cc

enabled_at : (old new : Core) (e : Event) → stepping old e ≡ Some new → IsEnabled old e
enabled_at old new e steps = subst IsSome (sym steps) refl

pub ask_enabled : (core : Core) (n line : ℕ) (kind : AskKind) (t : ℕ) → Rounds core n line kind t → IsEnabled core (event.Ask n line kind)
ask_enabled core n line kind t r = enabled_at core r.first (event.Ask n line kind) r.ask

-- the states after one, two and three events
pub record Made (core : Core) (n line : ℕ) (kind : AskKind) (t : ℕ) (a b c : Core) : Type 0 where
  pub ask : stepping core (event.Ask n line kind) ≡ Some a
  pub serve : stepping a (event.Serve n t) ≡ Some b
  pub reply : stepping b (event.Reply t) ≡ Some c

first_is : (core : Core) (n line : ℕ) (kind : AskKind) (t : ℕ) (a : Core) (r : Rounds core n line kind t) → stepping core (event.Ask n line kind) ≡ Some a
    → a ≡ r.first
first_is core n line kind t a r one = same_step core r.first a (event.Ask n line kind) r.ask one

second_is : (core : Core) (n line : ℕ) (kind : AskKind) (t : ℕ) (a b : Core) (r : Rounds core n line kind t) → stepping core (event.Ask n line kind) ≡ Some a
    → stepping a (event.Serve n t) ≡ Some b → b ≡ r.second
second_is core n line kind t a b r one two = grind (arith, same_step, first_is)

third_is : (core : Core) (n line : ℕ) (kind : AskKind) (t : ℕ) (a b c : Core) (r : Rounds core n line kind t) → Made core n line kind t a b c → c ≡ r.third
third_is core n line kind t a b c r m = grind (arith, same_step, second_is)

pub serve_enabled_next : (core : Core) (n line : ℕ) (kind : AskKind) (t : ℕ) (a : Core) → Rounds core n line kind t
    → stepping core (event.Ask n line kind) ≡ Some a → IsEnabled a (event.Serve n t)
serve_enabled_next core n line kind t a r one =
    subst (λ (x : Core). IsEnabled x (event.Serve n t)) (sym (first_is core n line kind t a r one)) (enabled_at r.first r.second (event.Serve n t) r.serve)

pub reply_enabled_next : (core : Core) (n line : ℕ) (kind : AskKind) (t : ℕ) (a b : Core) → Rounds core n line kind t
    → stepping core (event.Ask n line kind) ≡ Some a → stepping a (event.Serve n t) ≡ Some b → IsEnabled b (event.Reply t)
reply_enabled_next core n line kind t a b r one two =
    subst (λ (x : Core). IsEnabled x (event.Reply t)) (sym (second_is core n line kind t a b r one two)) (enabled_at r.second r.third (event.Reply t) r.reply)

pub accept_enabled_next : (core : Core) (n line : ℕ) (kind : AskKind) (t : ℕ) (a b c : Core) → Rounds core n line kind t → Made core n line kind t a b c
    → IsEnabled c (event.Accept t n)
accept_enabled_next core n line kind t a b c r m =
    subst (λ (x : Core). IsEnabled x (event.Accept t n)) (sym (third_is core n line kind t a b c r m)) (enabled_at r.third r.last (event.Accept t n) r.accept)

-- ---- what the events lead to

pub after_one : (core : Core) (n line : ℕ) (kind : AskKind) (a : Core) → stepping core (event.Ask n line kind) ≡ Some a → Leads exchanges core a 1
after_one core n line kind a one = leads_one exchanges core a (event.Ask n line kind) refl one

pub after_two : (core : Core) (n line : ℕ) (kind : AskKind) (t : ℕ) (a b : Core) → stepping core (event.Ask n line kind) ≡ Some a
    → stepping a (event.Serve n t) ≡ Some b → Leads exchanges core b 2
after_two core n line kind t a b one two = leads_more exchanges core a b (event.Serve n t) 1 (after_one core n line kind a one) refl two

pub after_three : (core : Core) (n line : ℕ) (kind : AskKind) (t : ℕ) (a b c : Core) → Made core n line kind t a b c → Leads exchanges core c 3
after_three core n line kind t a b c m = leads_more exchanges core b c (event.Reply t) 2 (after_two core n line kind t a b m.ask m.serve) refl m.reply

pub after_four : (core : Core) (n line : ℕ) (kind : AskKind) (t : ℕ) (a b c new : Core) → Made core n line kind t a b c
    → stepping c (event.Accept t n) ≡ Some new → Leads exchanges core new 4
after_four core n line kind t a b c new m four = leads_more exchanges core c new (event.Accept t n) 3 (after_three core n line kind t a b c m) refl four

-- memory was refused, and the state stands
pub stands : (core mid new : Core) (count : ℕ) → Leads exchanges core mid count → new ≡ mid → LeadsOn exchanges core new
stands core mid new count leads same = leads_on exchanges core new count (subst (λ (x : Core). Leads exchanges core x count) (sym same) leads)

pub round_made : (core : Core) (n line : ℕ) (kind : AskKind) (t : ℕ) (a b c new : Core) → Rounds core n line kind t → Made core n line kind t a b c
    → stepping c (event.Accept t n) ≡ Some new → IsRound core new n line kind
round_made core n line kind t a b c new r m four = grind (arith, same_step, third_is)

-- nothing is under way again
pub round_drained : (core : Core) (n line : ℕ) (kind : AskKind) (t : ℕ) (a b c new : Core) → IsReached core → IsDrained core → Made core n line kind t a b c
    → stepping c (event.Accept t n) ≡ Some new → IsDrained new
round_drained core n line kind t a b c new reached none m four =
    let ra = reached_stepping core a (event.Ask n line kind) reached m.ask in
    let rb = reached_stepping a b (event.Serve n t) ra m.serve in
    let rc = reached_stepping b c (event.Reply t) rb m.reply in
    let zero_ = drained_weighs core none in
    let wa = weighs_asked core a n line kind (reached_well core reached) m.ask in
    let wb = move_weighs a b (event.Serve n t) ra refl m.serve in
    let wc = move_weighs b c (event.Reply t) rb refl m.reply in
    let wd = move_weighs c new (event.Accept t n) rc refl four in
    drained new (omega arith)
