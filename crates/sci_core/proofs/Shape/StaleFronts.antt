-- If the home's contents are gone, the head of the list isn't fresh: only a Fread makes a member fresh, and its home says so.
use Rattle.std.proofs.Common.{◌≡◌, ◌≢◌, ℕ, ◌<◌, Bool, true, false, List, [], ◌∷◌, Option, Some, None, refl, sym, ap, subst, ◌∙◌, inl, inr, rules, arith}
use Rattle.std.proofs.lemmas.{Bool.{cases_Bool, cases_eq}, List.{get_or-set_other, get_or-set_same}}
use Rattle.std.specs.Prelude.{IfSome, unwrap_or}
use Rattle.sci_words.specs.declared.{event.Event.{Event}, operation.Op.{Op}, stamped.Stamped.{Stamped}}
use Rattle.sci_history.specs.declared.entry.Entry.{Entry}
use Rattle.sci_packets.specs.declared.body.Body.{Body}
use Rattle.sci_home.specs.declared.state.HomeState.{HomeState}
use Rattle.sci_home.specs.Serving.{serving_clear, serving_claim, serving_fread, serving_mread, serving_wback, home_serving as at_home}
use Rattle.sci_cache.specs.{State.{CacheState, Asking, Head, Claiming, Clearing, Returning}, Performing.{performing}}
use Rattle.sci_cache.specs.{Serving.{serving}, Line.{LineState, line_in, untouched}, Cache.{Letter, line_of}}
use Rattle.sci_core.specs.declared.lane.LaneKind.TheVariants.{Requests}
use Rattle.sci_core.specs.{Core.{Core, node_at, stepping, with_lane, with_node}, Done.{performed}}
use Rattle.sci_core.specs.Network.{Happens, Move, Overtakes, moved, moved_from, overtaken}
use Rattle.sci_core.specs.{Node.{NodeOf, no_node, node_serving}, Reached.{IsReachable}}
use Rattle.sci_core.specs.{Sharing.{answer_in, home_at, answer_to as told}, Shape.{IsGoneStale}, Size.{Size}}
use Rattle.sci_core.specs.{Tidy.{IsSentIn, IsTidy}, WellFormed.{IsPart, IsWellFormed}}
use Rattle.sci_core.proofs.Shape.{Heads.{if_head}, Led.{fresh_in, same_fresh}, Shapes.{Asks, after, before, home_sent}}
use Rattle.sci_core.proofs.Shape.ShapeRuns.{LineStep, Performed, Served, Stood, answered, line_steps, operates_so, opening_at_home}
use Rattle.sci_core.proofs.Shape.ShapeServes.{Answered, home_keeps, other_line, served_shift, with_served}
use Rattle.sci_core.proofs.Shape.ShapeSteps.{SameLine, homes_same, overtaken_line, view_of}
use Rattle.sci_core.proofs.Shape.{Standings.{Leaves, Makes, Performs, Reads, performing_does}, Views.{Shift, View}}
use Rattle.sci_core.proofs.Step.NodeSides.{At_home, In_cache, PerformedAs, ServedAs}
use Rattle.sci_core.proofs.{Step.Steps.{Stepped, Taken, stepping_stepped}, Basics.Options.{of_some}}
use Rattle.sci_core.proofs.Tidy.{PacketMoves.{packets_changed}, TidyRuns.{opening_tidy, move_tidy}}
use Rattle.sci_core.proofs.{Tidy.WaitingNodes.{Answers, serve_answers}, WellFormed.WellFormedSteps.{opened, move_well}}
use Rattle.sci_cache.specs.Accepting.{settled}
use Rattle.sci_cache.specs.Member.{is_fresh}
use Rattle.sci_packets.specs.declared.body.Body.TheVariants as body
use Rattle.sci_home.specs.declared.state.HomeState.TheVariants as at

-- ---- views

-- the home's head isn't fresh if the contents are gone
abbrev IsStale : View → HomeState → Type 0
IsStale view (at.Home c) = Unit {0}
IsStale view (at.Fresh p c) = Unit {0}
IsStale view (at.Gone p) = fresh_in view p ≡ false

-- nobody becomes fresh
abbrev NoFresher : View → View → Type 0
NoFresher old new = (n : ℕ) → fresh_in new n ≡ true → fresh_in old n ≡ true

still_stale : (old new : View) (n : ℕ) → NoFresher old new → fresh_in old n ≡ false → fresh_in new n ≡ false
still_stale old new n none stale = grind (arith, cases_Bool, fresh_in)

keeps_stale : (old new : View) (home : HomeState) → NoFresher old new → IsStale old home → IsStale new home
keeps_stale old new (at.Home c) none stale = tt
keeps_stale old new (at.Fresh p c) none stale = tt
keeps_stale old new (at.Gone p) none stale = still_stale old new p none stale

-- ---- a home serves

asker_no_fresher : (old new : View) (a : ℕ) (asker : CacheState) (b : Body) → Asks old new a asker b
    → (is_fresh (settled asker (Some b)) ≡ true → is_fresh asker ≡ true) → NoFresher old new
asker_no_fresher old new a asker b asks so n fresh =
    elim (cases_eq n a) [
      | inl here ↦
          let now : is_fresh (settled asker (Some b)) ≡ true = sym (after is_fresh old new a asker b asks) ∙ (ap (fresh_in new) (sym here) ∙ fresh) in
          ap (fresh_in old) here ∙ (before is_fresh old new a asker b asks ∙ so now)
      | inr other ↦ sym (same_fresh old new n (asks.others n other)) ∙ fresh
    ]

-- what a home's answer leaves
abbrev Leaves_stale : View → View → ℕ → CacheState → HomeState → HomeState × Body → Type 0
Leaves_stale old new a asker home served = Asks old new a asker served.1 → IsStale old home → IsStale new served.0

mread_stale : (old new : View) (a : ℕ) (home : HomeState) → Leaves_stale old new a Asking home (serving_mread home a)
mread_stale old new a (at.Home c) asks stale = after is_fresh old new a Asking (body.Mdata c) asks
mread_stale old new a (at.Fresh p c) asks stale = after is_fresh old new a Asking (body.Mgone p) asks
mread_stale old new a (at.Gone p) asks stale = after is_fresh old new a Asking (body.Mgone p) asks

fread_stale : (old new : View) (a : ℕ) (home : HomeState) → Leaves_stale old new a Asking home (serving_fread home a)
fread_stale old new a (at.Home c) asks stale = tt
fread_stale old new a (at.Fresh p c) asks stale = tt
fread_stale old new a (at.Gone p) asks stale = after is_fresh old new a Asking (body.Mgone p) asks

claim_stale : (old new : View) (a : ℕ) (f : Option ℕ) (d : Stamped) (home : HomeState) → Leaves_stale old new a (Claiming f d) home (serving_claim home a)
claim_stale old new a f d (at.Home c) asks stale = tt
claim_stale old new a f d (at.Fresh p c) asks stale = grind (arith, if_head, after)
claim_stale old new a f d (at.Gone p) asks stale = still_stale old new p (asker_no_fresher old new a (Claiming f d) body.Wbno asks (λ e. refl)) stale

clear_stale : (old new : View) (a : ℕ) (d : Stamped) (home : HomeState) → Leaves_stale old new a (Clearing d) home (serving_clear home a)
clear_stale old new a d (at.Home c) asks stale = tt
clear_stale old new a d (at.Fresh p c) asks stale = grind (arith, if_head)
clear_stale old new a d (at.Gone p) asks stale = still_stale old new p (asker_no_fresher old new a (Clearing d) body.Wbno asks (λ e. refl)) stale

wback_stale : (old new : View) (a : ℕ) (d : Stamped) (home : HomeState) → Leaves_stale old new a (Returning d) home (serving_wback home a d)
wback_stale old new a d (at.Home c) asks stale = tt
wback_stale old new a d (at.Fresh p c) asks stale = tt
wback_stale old new a d (at.Gone p) asks stale =
    if_head (Leaves_stale old new a (Returning d) (at.Gone p)) p a (at.Home d, body.Wbok) (at.Gone p, body.Wbno) (λ head is was. tt)
    (λ is was. still_stale old new p (asker_no_fresher old new a (Returning d) body.Wbno is (λ e. cc)) was) asks stale

home_stale : (h a : ℕ) (home : HomeState) (old new : View) (asker : CacheState) (letter : Letter) → IsSentIn h asker letter
    → IfSome (at_home home a letter.body) (Leaves_stale old new a asker home)
home_stale h a home old new = grind (arith, home_sent, mread_stale, fread_stale, claim_stale, clear_stale, wback_stale)

-- ---- a cache serves

-- the answer makes nobody fresh
abbrev tells_fresh : Body → Bool
tells_fresh (body.Fdata p c) = true
tells_fresh _ = false

fresh_untold : (state : CacheState) (b : Body) → tells_fresh b ≡ false → is_fresh (settled state (Some b)) ≡ true → is_fresh state ≡ true
fresh_untold Asking (body.Fdata p c) told fresh = search rules
fresh_untold _ _ told fresh = search rules

record Freshens (state : CacheState) (served : CacheState × Body) : Type 0 where
  pub keeps : (answer : Option Body) → is_fresh (settled served.0 answer) ≡ true → is_fresh (settled state answer) ≡ true
  pub told : tells_fresh served.1 ≡ false

serving_freshens : (state : CacheState) (n : ℕ) (request : Body) → IfSome (serving state n request) (Freshens state)
serving_freshens (Head f c) n body.Cread = search rules
serving_freshens _ n body.Cread = search rules
serving_freshens _ n _ = search rules

shifted_state : (old new : View) (a q : ℕ) (next : CacheState) (b : Body) → Shift old new a q next b → Freshens (old.state q) (next, b)
    → (n : ℕ) (answer : Option Body) → is_fresh (settled (new.state n) answer) ≡ true → is_fresh (settled (old.state n) answer) ≡ true
shifted_state old new a q next b shift freshens n answer fresh =
    let seen : CacheState → Bool = λ (s : CacheState). is_fresh (settled s answer) in
    elim (cases_eq n q) [
      | inl here ↦ ap seen (ap old.state here) ∙ freshens.keeps answer (ap seen (sym (ap new.state here ∙ shift.here)) ∙ fresh)
      | inr other ↦ ap seen (sym (shift.others n other)) ∙ fresh
    ]

shift_no_fresher : (old new : View) (a q : ℕ) (next : CacheState) (b : Body) → Shift old new a q next b → Freshens (old.state q) (next, b) → NoFresher old new
shift_no_fresher old new a q next b shift freshens n fresh =
    elim (cases_eq n a) [
      | inl here ↦
          let now : is_fresh (settled (new.state n) (Some b)) ≡ true =
          ap (λ (o : Option Body). is_fresh (settled (new.state n) o)) (sym (ap new.answer here ∙ shift.answered)) ∙ fresh in
          let was : is_fresh (settled (old.state n) (Some b)) ≡ true = shifted_state old new a q next b shift freshens n (Some b) now in
          ap (λ (o : Option Body). is_fresh (settled (old.state n) o)) (ap old.answer here ∙ shift.unanswered) ∙ fresh_untold (old.state n) b freshens.told was
      | inr other ↦
          let now : is_fresh (settled (new.state n) (old.answer n)) ≡ true =
          ap (λ (o : Option Body). is_fresh (settled (new.state n) o)) (sym (shift.other_answers n other)) ∙ fresh in
          shifted_state old new a q next b shift freshens n (old.answer n) now
    ]

-- ---- one step

abbrev StaleAt : Core → ℕ → Type 0
StaleAt core line = IsStale (view_of core line) (home_at core line)

stood_stale : (core new : Core) (line : ℕ) → SameLine core new line → StaleAt core line → StaleAt new line
stood_stale core new line same stale = grind (arith, view_of, keeps_stale, same_fresh)

head_stale : (f : Option ℕ) (c : Stamped) (answer : Option Body) → is_fresh (settled (Head f c) answer) ≡ true → ⊥
head_stale f c None fresh = cc
head_stale f c (Some _) fresh = cc

-- an operation makes nobody fresh
left_fresh : (state : CacheState) (op : Op) (c : Stamped) (next : CacheState) → Leaves state op c next → (answer : Option Body)
    → is_fresh (settled next answer) ≡ true → is_fresh (settled state answer) ≡ true
left_fresh state op c next (Reads not same) answer fresh = ap (λ (s : CacheState). is_fresh (settled s answer)) (sym same) ∙ fresh
left_fresh state op c next (Makes here then_) answer fresh =
    absurd (head_stale None _ answer (ap (λ (s : CacheState). is_fresh (settled s answer)) (sym then_) ∙ fresh))

performed_stale : (core : Core) (n at : ℕ) (done : NodeOf × Entry) (does : PerformedAs (node_at core n) at done) → IsWellFormed core → n < core.size.nodes
    → (line : ℕ) → StaleAt core line → StaleAt (with_node core n done.0) line
performed_stale core n at done does well lt line stale =
    let new = with_node core n done.0 in
    let operates = operates_so core n at done does lt well in
    let op = does.pending.op in
    let old_state = (line_of (node_at core n).cache op.line).state in
    let performs = of_some (Performs old_state op) (performing old_state op) does.did does.performs (performing_does old_state op) in
    let states : (m : ℕ) (answer : Option Body) → is_fresh (settled ((view_of new line).state m) answer) ≡ true
    → is_fresh (settled ((view_of core line).state m) answer) ≡ true =
    λ m answer fresh.
    elim (cases_eq m n) [
      | inl here ↦
          let node : node_at new m ≡ done.0 = ap (node_at new) here ∙ get_or-set_same core.parts n done.0 no_node operates.below in
          let now : is_fresh (settled (line_of done.0.cache line).state answer) ≡ true =
          ap (λ (p : NodeOf). is_fresh (settled (line_of p.cache line).state answer)) (sym node) ∙ fresh in
          ap (λ (j : ℕ). is_fresh (settled (line_of (node_at core j).cache line).state answer)) here ∙ (elim (cases_eq line op.line) [
            | inl on ↦
                let there : is_fresh (settled does.did.next answer) ≡ true =
                ap (λ (s : CacheState). is_fresh (settled s answer)) (sym operates.state)
                ∙ (ap (λ (k : ℕ). is_fresh (settled (line_of done.0.cache k).state answer)) (sym on) ∙ now) in
                ap (λ (k : ℕ). is_fresh (settled (line_of (node_at core n).cache k).state answer)) on
                ∙ left_fresh old_state op performs.contents does.did.next performs.leaves answer there
            | inr off ↦ ap (λ (l : LineState). is_fresh (settled l.state answer)) (sym (operates.others line off)) ∙ now
          ])
      | inr other ↦ ap (λ (p : NodeOf). is_fresh (settled (line_of p.cache line).state answer))
          (sym (get_or-set_other core.parts n m done.0 no_node other)) ∙ fresh
    ] in
    let none : NoFresher (view_of core line) (view_of new line) = λ m fresh.
    let same : told new m line ≡ told core m line = ap answer_in (packets_changed core n done.0 m line operates.below operates.waiting) in
    states m (told core m line) (ap (λ (o : Option Body). is_fresh (settled ((view_of new line).state m) o)) (sym same) ∙ fresh) in
    subst (IsStale (view_of new line)) (sym (homes_same core n done.0 operates.homes line))
    (keeps_stale (view_of core line) (view_of new line) (home_at core line) none stale)

-- a cache serves
cache_served : (core : Core) (n place : ℕ) (request : Letter) (rest : List Letter) (served : CacheState × Body) → IsPart core.size n (node_at core n)
    → Answered core n place (with_served (node_at core n) request served.0 served.1) request rest served.1
    → serving (line_of (node_at core n).cache request.line).state request.source request.body ≡ Some served → IsTidy core → (k : ℕ) → StaleAt core k
    → StaleAt (with_lane (with_node core n (with_served (node_at core n) request served.0 served.1)) place rest) k
cache_served core n place request rest served part is serves tidy k stale =
    let old = node_at core n in
    let next = with_served old request served.0 served.1 in
    let new = with_lane (with_node core n next) place rest in
    let line = request.line in
    let homes = homes_same core n next (record { homes = refl; nodes = refl }) in
    let state = (line_of old.cache line).state in
    elim (cases_eq k line) [
      | inl here ↦
          let shift = served_shift core n place request rest served part is tidy in
          let freshens = of_some (Freshens state) (serving state request.source request.body) served serves
          (serving_freshens state request.source request.body) in
          let none = shift_no_fresher (view_of core line) (view_of new line) request.source n served.0 served.1 shift freshens in
          subst (StaleAt new) (sym here)
          (subst (IsStale (view_of new line)) (sym (homes line))
          (keeps_stale (view_of core line) (view_of new line) (home_at core line) none (subst (StaleAt core) here stale)))
      | inr other ↦
          let states : (j : ℕ) → j ≢ line → (line_of next.cache j).state ≡ (line_of old.cache j).state =
          λ j apart. ap (λ (l : LineState). l.state)
          (get_or-set_other old.cache.lines line j (line_in (line_of old.cache line) served.0) untouched apart) in
          stood_stale core new k (other_line core n place next request rest served.1 is states (λ j apart. homes j) k other) stale
    ]

served_stale : (core new : Core) (t : Taken core new Requests node_serving) → IsWellFormed core → IsTidy core → IsPart core.size t.node t.next
    → ServedAs (node_at core t.node) t.letter t.next → (line : ℕ) → StaleAt core line → StaleAt (with_lane (with_node core t.node t.next) t.place t.rest) line
served_stale core new t well tidy is (At_home served asks serves e) line stale =
    let part = node_at core t.node in
    let answers = of_some (Answers core.size.nodes t.letter part) (node_serving part t.letter) t.next t.takes (serve_answers core.size.nodes part t.letter) in
    let next = subst (IsPart core.size t.node) (sym e) is in
    let home = t.comes.0.home asks ∙ t.comes.1 in
    subst (λ (x : NodeOf). StaleAt (with_lane (with_node core t.node x) t.place t.rest) line) e
    (home_keeps IsStale stood_stale home_stale core t.node t.place t.letter t.rest served (well.each_part t.node t.some) home
    (answered core new node_serving t _ served.1 well answers.free refl next) serves tidy line stale)
served_stale core new t well tidy is (In_cache served serves e) line stale =
    let part = node_at core t.node in
    let answers = of_some (Answers core.size.nodes t.letter part) (node_serving part t.letter) t.next t.takes (serve_answers core.size.nodes part t.letter) in
    let next = subst (IsPart core.size t.node) (sym e) is in
    subst (λ (x : NodeOf). StaleAt (with_lane (with_node core t.node x) t.place t.rest) line) e
    (cache_served core t.node t.place t.letter t.rest served (well.each_part t.node t.some)
    (answered core new node_serving t _ served.1 well answers.free refl next) serves tidy line stale)

line_stale : (core new : Core) (made : Option Entry) (line : ℕ) → IsWellFormed core → IsTidy core → LineStep core new made line → StaleAt core line
    → StaleAt new line
line_stale core new made line well tidy (Stood none same) stale = stood_stale core new line same stale
line_stale core new made line well tidy (Performed n at done lt does then_ some) stale =
    subst (λ (x : Core). StaleAt x line) then_ (performed_stale core n at done does well lt line stale)
line_stale core new made line well tidy (Served t none is served) stale =
    subst (λ (x : Core). StaleAt x line) t.then_ (served_stale core new t well tidy is served line stale)

after_stale : (core : Core) (e : Event) (made : Option Entry) (next : Option Core) → IsWellFormed core → IsTidy core → IfSome next (Stepped core e made)
    → (line : ℕ) → line < core.size.lines → StaleAt core line → StaleAt (unwrap_or next core) line
after_stale core e made None well tidy stepped line inside stale = stale
after_stale core e made (Some new) well tidy stepped line inside stale =
    line_stale core new made line well tidy (line_steps core new e made well tidy stepped line inside) stale

-- ---- every reached state

move_stale : (core : Core) (move : Move) (line : ℕ) → IsWellFormed core → IsTidy core → line < core.size.lines → StaleAt core line
    → StaleAt (moved core move) line
move_stale core (Happens e) line well tidy inside stale =
    after_stale core e (performed core e) (stepping core e) well tidy (stepping_stepped core e well) line inside stale
move_stale core (Overtakes place k) line well tidy inside stale =
    stood_stale core (overtaken core place k) line (overtaken_line core place k line well tidy inside) stale

moves_stale : (core : Core) (moves : List Move) (line : ℕ) → IsWellFormed core → IsTidy core → line < core.size.lines → StaleAt core line
    → StaleAt (moved_from core moves) line
moves_stale core [] line well tidy inside stale = stale
moves_stale core (move ∷ moves) line well tidy inside stale =
    let then_ = move_well core move well in
    moves_stale (moved core move) moves line then_.well (move_tidy core move well tidy) (subst (λ (size : Size). line < size.lines) (sym then_.same) inside)
    (move_stale core move line well tidy inside stale)

gone_so : (core : Core) (line : ℕ) (home : HomeState) → IsStale (view_of core line) home → IsGoneStale core line home
gone_so core line (at.Home c) stale = tt
gone_so core line (at.Fresh p c) stale = tt
gone_so core line (at.Gone p) stale = stale

pub any_stale : (core : Core) (line : ℕ) → IsReachable core → line < core.size.lines → IsGoneStale core line (home_at core line)
any_stale core line reached inside = grind (arith, moves_stale, opened, opening_tidy, view_of, opening_at_home, gone_so)
