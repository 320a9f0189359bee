-- In steady turns no line joins a list for long. Of the lines on which some node joins, take the least, and on it the node directly before
-- the one that leads: it asks its Cread, the Cread is taken, and the leader serves it.
use Rattle.std.proofs.Common.{◌≡◌, ◌≢◌, ◌<◌, ◌+◌, ◌==◌, ◌&&◌, ◌||◌, ◌⊎◌, ◌%◌, ◌*◌, ℕ, zero, suc, Bool, true, false, not, if◌then◌else◌, arith, List, [], ◌∷◌}
use Rattle.std.proofs.Common.{◌++◌}
use Rattle.std.proofs.Common.{Option, Some, None, refl, sym, ap, subst, ◌∙◌, inl, inr, rules}
use Rattle.std.proofs.lemmas.Bool.{cases_Bool, cases_eq, cases_lt, eqb-true, ne_eqb}
use Rattle.std.proofs.lemmas.List.{get_or_past}
use Rattle.std.specs.Prelude.{is_some, slice_get}
use Rattle.sci_history.specs.Seen.{IsAmong}
use Rattle.sci_words.specs.declared.{event.{AskKind.{AskKind}, Event.{Event}}}
use Rattle.sci_packets.specs.{declared.body.Body.{TheVariants.{Cread}}}
use Rattle.sci_cache.specs.State.{CacheState, FreshJoining, Joining, Telling, waits}
use Rattle.sci_cache.specs.{Asking.{Asked, asking}}
use Rattle.sci_cache.specs.{Kinds.{joins, must_send}, Cache.{Letter}}
use Rattle.sci_core.specs.declared.lane.LaneKind.TheVariants.{Requests}
use Rattle.sci_core.specs.Core.{Core, lane_of, lane_place, node_at}
use Rattle.sci_core.specs.{Node.{NodeOf, lines_of}, Reached.{IsReached}, Rounds.{is_telling, joins_before}, Sharing.{is_about}}
use Rattle.sci_core.specs.{Size.{Size}, Tidy.{IsSentIn}}
use Rattle.sci_core.proofs.{Basics.Options.{of_some}, Step.Places.{place_requests, place_to}}
use Rattle.sci_core.proofs.{Tidy.TidySteps.{about_line}, WellFormed.WellFormedSteps.{reached_well}}
use Rattle.sci_policy.specs.declared.{decision.Decision.{Decision}, want.Want.TheVariants.{Ask}}
use Rattle.sci_policy.specs.Lines.{can_drain, has_maker, least, own_ask, state_on}
use Rattle.sci_policy.specs.{Policy.{PolicyOf, asks_home_to_change, awaits_home, decided, ticked}, Turn.{decided_event}}
use Rattle.sci_policy.proofs.{Found.{least_fits}, Least.{least_first}}
use Rattle.sci_turn.specs.Moves.{taken_next, taking_event}
use Rattle.sci_fair.specs.{Rank.{can_perform, work_on}, Retries.{is_tried_once}, Steady.{AreSteadyTurns, IsSteadyTurn, Working, WorksByTurns}}
use Rattle.sci_fair.proofs.Ahead.{Ahead, Amid, InLane, after_it, asked_waits, cannot_perform, earlier, fewer, firm_asked, on_from, waiting_asks}
use Rattle.sci_fair.proofs.Descents.{turns_join, windows_fewer}
use Rattle.sci_fair.proofs.{AnswersGo.{front_source}, Awaiting.{is_open_head, serves_no_cread}, FirstWants.{wants_send}, Fronts.{opens_serve}}
use Rattle.sci_fair.proofs.{HeldUp.{FreeTurn, IsFree, free_turn}, HomeAnswers.{gained_by}, LaneTurns.{among_gained}}
use Rattle.sci_fair.proofs.Kept.{Class, IsIn, Keeps, is_needy, kept_along, kept_event, kept_events, kept_in, leading, leads, needy, not_draining, performable}
use Rattle.sci_fair.proofs.{Requests.{LetterTaken, request_taken, size_along, stands_in}}
use Rattle.sci_fair.proofs.{Retries.{never_once}, Sharers.{asks_it, no_sharers, none_purged, performs_not}, Steadied.{IsSteady}, SteadyTurns.{Held}}
use Rattle.sci_fair.proofs.Whereabouts.{in_lane}
use Rattle.sci_policy.specs.declared.decision.Decision.TheVariants as decision
use Rattle.sci_words.specs.declared.event.AskKind.TheVariants as kind
use Rattle.sci_words.specs.declared.event.Event.TheVariants as event
use Rattle.sci_fair.proofs.Comers.{Joined, joined}

-- ---- what steady turns keep

keeps_joining : (a : ℕ) → Keeps (λ work s. joins_before s a) true
keeps_joining a = record { accepts = λ work s a is. search rules; serves = λ work s m r is. search rules; asks = λ work s k is. search rules }

abbrev joining : ℕ → Class
joining a = record { test = λ work s. joins_before s a; value = true; kept = keeps_joining a }

keeps_telling : Keeps (λ work s. is_telling s) true
keeps_telling = record { accepts = λ work s a is. search rules; serves = λ work s m r is. search rules; asks = λ work s k is. search rules }

abbrev telling : Class
telling = record { test = λ work s. is_telling s; value = true; kept = keeps_telling }

-- ---- what must be sent is sent

send_kind : CacheState → AskKind
send_kind (Telling r w sent) = kind.Setback
send_kind s = kind.Cread

send_asks : (maker : Bool) (s : CacheState) → must_send s ≡ true → own_ask maker s ≡ Some (send_kind s)
unfolding send_kind
send_asks maker s sends = search rules

send_plain : (line : ℕ) (s : CacheState) → asks_home_to_change (Ask line (send_kind s)) ≡ false
unfolding send_kind
send_plain line s = search rules

least_is : (node : NodeOf) (test : ℕ → Bool) (line : ℕ) → line < lines_of node → test line ≡ true → ((l : ℕ) → l < line → test l ≡ false)
    → least node test ≡ Some line
least_is node test line below passes lower =
    let first = least_first node test line below passes in
    let l = first.0 in
    let is = first.1.0 in
    let le = first.1.1 in
    elim (cases_eq l line) [
      | inl same ↦ is ∙ ap Some same
      | inr other ↦
          let so = of_some (λ (k : ℕ). (k < lines_of node) × (test k ≡ true)) (least node test) l is (least_fits node test) in
          let fails = lower l (omega (arith, le, other)) in
          let clash : true ≡ false = sym so.1 ∙ fails in cc
    ]

-- in a free turn the least line that must send asks
sent_least : (n line : ℕ) (old new last : Working) (held : Held n old new) → WorksByTurns old.core → n < old.core.size.nodes → IsFree n old new held
    → Ahead 280 new last → line < old.core.size.lines → must_send (state_on (node_at held.trace.c2 n) line) ≡ true
    → ((l : ℕ) → l < line → must_send (state_on (node_at held.trace.c2 n) l) ≡ false)
    → (asked : Asked) × (asking (state_on (node_at held.trace.c2 n) line) (send_kind (state_on (node_at held.trace.c2 n) line)) ≡ Some asked)
    × (state_on (node_at new.core n) line ≡ asked.next)
sent_least n line old new last held good some free ahead inside sends lower =
    let t = held.trace in
    let node = node_at t.c2 n in
    let since = t.taken.so.since in
    let n2 : n < t.c2.size.nodes = subst (λ (z : Size). n < z.nodes) (sym since.size) some in
    let all : lines_of node ≡ old.core.size.lines = ((reached_well t.c2 since.reached).each_part n n2).each ∙ ap (λ (z : Size). z.lines) since.size in
    let below : line < lines_of node = omega (arith, inside, all) in
    let s = state_on node line in
    let k = send_kind s in
    let policy = ticked t.p2 node in
    let first = least_is node (λ l. must_send (state_on node l)) line below sends lower in
    let wants = wants_send policy node line k (none_purged n old new last held good some free ahead) first (send_asks (has_maker node line) s sends)
    (send_plain line s) (performs_not n old new last held some free (fewer 1 280 new last (omega arith) ahead)) in
    asks_it n old new held line k free wants

-- ---- the Cread

joins_any : (s : CacheState) (a : ℕ) → joins_before s a ≡ true → joins s ≡ true
joins_any s a is = search rules

firm_join : (w l j : Bool) → w ≡ true → j ≡ true → (w && (l || j)) ≡ true
firm_join w l j one two = search rules

joins_send : (home a : ℕ) (s : CacheState) (letter : Letter) → joins_before s a ≡ true → IsSentIn home s letter → (letter.body ≡ Cread) × (letter.target ≡ a)
joins_send home a (Joining p true) letter is sent = (sent.0, sent.1 ∙ eqb-true p a is)
joins_send home a (Joining p false) letter is sent = absurd sent
joins_send home a (FreshJoining p true c) letter is sent = (sent.0, sent.1 ∙ eqb-true p a is)
joins_send home a (FreshJoining p false c) letter is sent = absurd sent
joins_send home a _ letter is sent = cc

-- a Cread by which node j joins before node a is in the lane between them
record CreadAt (j a line : ℕ) (core : Core) : Type 0 where
  letter : Letter
  cread : letter.body ≡ Cread
  about : is_about j line letter ≡ true
  among : IsAmong letter (lane_of core Requests j a)

cread_of : (j a line : ℕ) (s : CacheState) (core : Core) → IsReached core → joins_before s a ≡ true → InLane j line s core → CreadAt j a line core
cread_of j a line s core reached is at =
    let sent = joins_send (line % core.size.nodes) a s at.letter is at.sent in
    let there = in_lane core (lane_place core.size.nodes Requests j at.to) at.letter reached at.among in
    let to : at.to ≡ a = sym (there.to ∙ place_to core.size.nodes Requests j at.to at.receiver) ∙ sent.1 in
    record {
      letter = at.letter;
      cread = sent.0;
      about = at.about;
      among = subst (λ (m : ℕ). IsAmong at.letter (lane_of core Requests j m)) to at.among;
    }

-- when a turn of node j has ended, and it awaits the answer to its Cread
cread_there : (j a line : ℕ) (old new : Working) → WorksByTurns old.core → (held : Held j old new) → j < old.core.size.nodes → a < old.core.size.nodes → a ≢ j
    → joins_before (state_on (node_at new.core j) line) a ≡ true → waits (state_on (node_at new.core j) line) ≡ true → CreadAt j a line new.core
cread_there j a line old new good held some to other is waiting =
    let s = state_on (node_at new.core j) line in
    let t = held.trace in
    elim (firm_asked j line old new good held some (firm_join (waits s) (leads s) (joins s) waiting (joins_any s a is))) [
      | inr now ↦ cread_of j a line s new.core held.good.reached is now
      | inl before ↦
          let at = cread_of j a line s old.core good.reached is before in
          let kept : lane_of t.c2 Requests j a ≡ lane_of old.core Requests j a = t.taken.so.requests j a some to other in
          record {
            letter = at.letter;
            cread = at.cread;
            about = at.about;
            among = among_gained at.letter (lane_of t.c2 Requests j a) (lane_of new.core Requests j a) (gained_by j j a old new held some to)
                (subst (IsAmong at.letter) (sym kept) at.among);
          }
    ]

-- ---- the leader takes it

leader_cases : (work : Option Bool) (s : CacheState) → leads s ≡ true → can_drain s ≡ false
    → (awaits_home s || (is_open_head work s || can_perform work s)) ≡ true
leader_cases work s led drains = search rules

or_three : (a b c : Bool) → (a || (b || c)) ≡ true → (a ≡ true) ⊎ ((b ≡ true) ⊎ (c ≡ true))
or_three true b c is = inl refl
or_three false true c is = inr (inl refl)
or_three false false c is = inr (inr is)

decided_it : (b : Bool) (o : Option Event) (e : Event) → (if b then None else o) ≡ Some e → o ≡ Some e
decided_it true o e is = cc
decided_it false o e is = is

other_source : (m n : ℕ) → m ≢ n → not (m == n) ≡ true
other_source m n other = ap not (ne_eqb m n other)

kept_cread : (c o a b : Bool) → c ≡ true → o ≡ true → a ≡ true → ((c && o) && (a || b)) ≡ true
kept_cread c o a b one two three = search rules

keep_if : (k r : Bool) → k ≡ true → (if k then decision.Keep else if r then decision.Refuse else decision.Serve) ≡ decision.Keep
keep_if k r is = search rules

keeps_cread : (policy : PolicyOf) (node : NodeOf) (request : Letter) → request.body ≡ Cread → request.source ≢ node.cache.me
    → awaits_home (state_on node request.line) ≡ true → decided policy node request ≡ decision.Keep
keeps_cread policy node request cread other awaits = grind (arith, keep_if, kept_cread, other_source)

pub taken_by_it : (a j : ℕ) (p : PolicyOf) (x : Core) (e : Event) (q : PolicyOf) (y : Core) → IsSteady a p x e q y
    → (e ≡ event.Serve j a) ⊎ (e ≡ event.Refuse j a) → taken_next p x j a ≡ Some e
taken_by_it a j p x e q y st (inl is) =
    subst (λ (o : Event). taken_next p x j a ≡ Some o) (sym is) (subst (λ (o : Event). IsSteady a p x o q y) is st).own.decides.0
taken_by_it a j p x e q y st (inr is) =
    subst (λ (o : Event). taken_next p x j a ≡ Some o) (sym is) (subst (λ (o : Event). IsSteady a p x o q y) is st).own.decides.0

-- no steady event takes it where the line can't be performed, and is no head of a list with a next entry
takes_no_cread : (a j : ℕ) (p : PolicyOf) (x : Core) (e : Event) (q : PolicyOf) (y : Core) (letter : Letter) (rest : List Letter) → IsSteady a p x e q y
    → j < x.size.nodes → j ≢ a → lane_of x Requests j a ≡ letter ∷ rest → (e ≡ event.Serve j a) ⊎ (e ≡ event.Refuse j a) → letter.body ≡ Cread
    → leads (state_on (node_at x a) letter.line) ≡ true → can_drain (state_on (node_at x a) letter.line) ≡ false
    → can_perform (work_on (node_at x a) letter.line) (state_on (node_at x a) letter.line) ≡ false → ⊥
takes_no_cread a j p x e q y letter rest st f other lane takes cread led drains idle =
    let node = node_at x a in
    let s = state_on node letter.line in
    let work = work_on node letter.line in
    let decides : decided_event (decided p node letter) j a ≡ Some e = decided_it (is_some node.waiting) (decided_event (decided p node letter) j a) e
    (subst (λ (l : List Letter). taking_event p node j a (slice_get l 0) ≡ Some e) lane (taken_by_it a j p x e q y st takes)) in
    elim (or_three (awaits_home s) (is_open_head work s) (can_perform work s) (leader_cases work s led drains)) [
      | inl awaits ↦
          let me = ((reached_well x st.reached).each_part a st.some).me in
          let source = front_source x j a letter rest st.reached f st.some lane in
          let keeps = keeps_cread p node letter cread (λ same. other (sym source ∙ (same ∙ me))) awaits in
          let clash : None ≡ Some e = sym (ap (λ (d : Decision). decided_event d j a) keeps) ∙ decides in cc
      | inr rest_ ↦ elim rest_ [
        | inl opened ↦
            let serve = opens_serve p node letter opened in
            let is : event.Serve j a ≡ e =
            (let both : Some (event.Serve j a) ≡ Some e = sym (ap (λ (d : Decision). decided_event d j a) serve) ∙ decides in cc) in
            let place = lane_place x.size.nodes Requests j a in
            let there = in_lane x place letter st.reached (subst (IsAmong letter) (sym lane) (inl refl)) in
            let inside = (there.request (place_requests x.size.nodes j a f st.some)).letter_ok.about in
            serves_no_cread a p x j a q y letter rest (subst (λ (o : Event). IsSteady a p x o q y) (sym is) st) lane cread inside opened
        | inr can ↦ (let clash : true ≡ false = sym can ∙ idle in cc)
      ]
    ]

-- ---- the least line that joins

-- on the lines before it no node joins or has to tell
abbrev Lower : ℕ → Working → Type 0
Lower line w = (l m : ℕ) → l < line → m < w.core.size.nodes → is_needy (state_on (node_at w.core m) l) ≡ false

sends_needy : (s : CacheState) → is_needy s ≡ false → must_send s ≡ false
sends_needy s none = search rules

-- so is it when a node begins to ask in its turn
lower_sends : (n line : ℕ) (order : List ℕ) (w old new : Working) → WorksByTurns w.core → AreSteadyTurns order w old → (held : Held n old new)
    → n < w.core.size.nodes → Lower line w → (l : ℕ) → l < line → must_send (state_on (node_at held.trace.c2 n) l) ≡ false
lower_sends n line order w old new good turns held some lower l lt =
    let there = kept_along (needy false) n l order w old good turns (lower l n lt some) in
    let kept = kept_in (needy false) n l old new held in
    sends_needy (state_on (node_at held.trace.c2 n) l) (kept.taken (kept.accepted there))

needy_waits : (s : CacheState) → is_needy s ≡ true → must_send s ≡ false → waits s ≡ true
needy_waits s is none = search rules

-- the line has sent what it must when its node's free turn has ended
has_sent : (n line : ℕ) (order : List ℕ) (w old new last : Working) (held : Held n old new) → WorksByTurns w.core → AreSteadyTurns order w old
    → WorksByTurns old.core → n < w.core.size.nodes → line < w.core.size.lines → IsFree n old new held → Ahead 280 new last → Lower line w
    → is_needy (state_on (node_at held.trace.c2 n) line) ≡ true → waits (state_on (node_at new.core n) line) ≡ true
has_sent n line order w old new last held good turns good_old some inside free ahead lower needs =
    let t = held.trace in
    let s = state_on (node_at t.c2 n) line in
    let size = size_along order w old good turns in
    let n_old : n < old.core.size.nodes = subst (λ (z : Size). n < z.nodes) (sym size) some in
    let l_old : line < old.core.size.lines = subst (λ (z : Size). line < z.lines) (sym size) inside in
    elim (cases_Bool (must_send s)) [
      | inl sends ↦
          let asked = sent_least n line old new last held good_old n_old free ahead l_old sends
          (lower_sends n line order w old new good turns held some lower) in
          ap waits asked.2 ∙ of_some (λ (a : Asked). waits a.next ≡ true) (asking s (send_kind s)) asked.0 asked.1 (asked_waits s (send_kind s))
      | inr none ↦
          let waiting = needy_waits s needs none in
          ap waits (waiting_asks n line t.p2 t.c2 t.e3 t.p3 new.core t.are_asks held.asks waiting) ∙ waiting
    ]

-- ---- none has to tell

tells_once : (s : CacheState) → is_telling s ≡ true → waits s ≡ true → is_tried_once s ≡ true
tells_once s tells waiting = search rules

telling_needy : (s : CacheState) → is_telling s ≡ true → is_needy s ≡ true
telling_needy s is = search rules

no_telling : (n line : ℕ) (w last : Working) → n < w.core.size.nodes → line < w.core.size.lines → Ahead 632 w last → Lower line w
    → is_telling (state_on (node_at w.core n) line) ≡ true → ⊥
no_telling n line w last some inside ahead lower tells =
    let c = free_turn n 561 ahead.order w last ahead.good some ahead.turns
    (windows_fewer w.core.size.nodes (71 + 561) 632 ahead.order (omega arith) ahead.windows) in
    let after = after_it (FreeTurn n) 561 ahead.order w last ahead.good c in
    let held = c.done.held in
    let at = kept_along telling n line c.before w c.old ahead.good c.leads tells in
    let kept = kept_in telling n line c.old c.new held in
    let then_ = kept.taken (kept.accepted at) in
    let waiting = has_sent n line c.before w c.old c.new last held ahead.good c.leads c.done.good some inside c.done.free
    (fewer 280 561 c.new last (omega arith) after) lower (telling_needy (state_on (node_at held.trace.c2 n) line) then_) in
    let size = held.size ∙ size_along c.before w c.old ahead.good c.leads in
    let last_ = fewer 281 561 c.new last (omega arith) after in
    never_once n line last_.order c.new last last_.good (subst (λ (z : Size). n < z.nodes) (sym size) some)
    (subst (λ (z : Size). line < z.lines) (sym size) inside) last_.turns last_.windows
    (tells_once (state_on (node_at c.new.core n) line) (kept.ended then_) waiting)

-- ---- none joins

-- what is kept of the taker's line until it takes a request
pub taker_keeps : (class : Class) (n to line i : ℕ) (old new : Working) (letter : Letter) (taken : LetterTaken n to letter i old new)
    → IsIn class to line old.core → IsIn class to line taken.took.x
taker_keeps class n to line i old new letter taken is = grind (arith, kept_in, kept_events)

-- and from then on to the end of its turn
pub taker_ends : (class : Class) (n to line i : ℕ) (old new : Working) (letter : Letter) (taken : LetterTaken n to letter i old new)
    → IsIn class to line taken.took.x → IsIn class to line new.core
taker_ends class n to line i old new letter taken is =
    let t = taken.held.trace in
    let took = taken.took in
    let then_ = kept_event class to line took.p took.x took.e took.q took.y took.goes is in
    let c2 = kept_events class to line took.q took.y took.later t.p2 t.c2 took.after then_ in
    let ended = (kept_in class i line old new taken.held).ended (subst (λ (m : ℕ). IsIn class m line t.c2) (sym taken.server) c2) in
    subst (λ (m : ℕ). IsIn class m line new.core) taken.server ended

taken_never : (j a line i : ℕ) (old new last : Working) (letter : Letter) (taken : LetterTaken j a letter i old new) → Amid 280 old last → Ahead 1 new last
    → j < old.core.size.nodes → a < old.core.size.nodes → j ≢ a → letter.body ≡ Cread → letter.line ≡ line
    → leads (state_on (node_at old.core a) line) ≡ true → ⊥
taken_never j a line i old new last letter taken amid ahead f to other cread here led =
    let took = taken.took in
    let x = took.x in
    let size : x.size ≡ old.core.size = sym took.size ∙ taken.held.trace.taken.so.since.size in
    let led_x = taker_keeps leading j a line i old new letter taken led in
    let out_x = taker_keeps not_draining j a line i old new letter taken (no_sharers a line old last to amid) in
    let work = work_on (node_at x a) line in
    let s = state_on (node_at x a) line in
    elim (cases_Bool (can_perform work s)) [
      | inl can ↦
          let ends = taker_ends performable j a line i old new letter taken can in
          let never = cannot_perform a line new last (subst (λ (z : Size). a < z.nodes) (sym taken.held.size) to) ahead in
          let clash : true ≡ false = sym ends ∙ never in cc
      | inr idle ↦
          let back : (P : CacheState → Option Bool → Type 0) → P s work → P (state_on (node_at x a) letter.line) (work_on (node_at x a) letter.line) =
          λ P so. subst (λ (l : ℕ). P (state_on (node_at x a) l) (work_on (node_at x a) l)) (sym here) so in
          takes_no_cread a j took.p x took.e took.q took.y letter took.rest took.goes (subst (λ (z : Size). j < z.nodes) (sym size) f) other took.lane
          took.takes cread (back (λ r w. leads r ≡ true) led_x) (back (λ r w. can_drain r ≡ false) out_x) (back (λ r w. can_perform w r ≡ false) idle)
    ]

before_leads : (s : CacheState) (a : ℕ) → joins_before s a ≡ true → leads s ≡ true → ⊥
before_leads s a one two = search rules

before_needy : (s : CacheState) (a : ℕ) → joins_before s a ≡ true → is_needy s ≡ true
before_needy s a is = search rules

comer_never : (line : ℕ) (w last : Working) → Amid 632 w last → line < w.core.size.lines → Lower line w → Joined w.core line → ⊥
comer_never line w last amid inside lower pair =
    let ahead = amid.ahead in
    let j = pair.comer in
    let a = pair.leader in
    let other : a ≢ j = λ same. before_leads (state_on (node_at w.core j) line) a pair.joins
    (subst (λ (m : ℕ). leads (state_on (node_at w.core m) line) ≡ true) same pair.leading) in
    let nodes = w.core.size.nodes in
    let c = free_turn j 561 ahead.order w last ahead.good pair.some_comer ahead.turns
    (windows_fewer nodes (71 + 561) 632 ahead.order (omega arith) ahead.windows) in
    let after = after_it (FreeTurn j) 561 ahead.order w last ahead.good c in
    let held = c.done.held in
    let at = kept_along (joining a) j line c.before w c.old ahead.good c.leads pair.joins in
    let kept = kept_in (joining a) j line c.old c.new held in
    let then_ = kept.taken (kept.accepted at) in
    let waiting = has_sent j line c.before w c.old c.new last held ahead.good c.leads c.done.good pair.some_comer inside c.done.free
    (fewer 280 561 c.new last (omega arith) after) lower (before_needy (state_on (node_at held.trace.c2 j) line) a then_) in
    let size_old = size_along c.before w c.old ahead.good c.leads in
    let j_old : j < c.old.core.size.nodes = subst (λ (z : Size). j < z.nodes) (sym size_old) pair.some_comer in
    let a_old : a < c.old.core.size.nodes = subst (λ (z : Size). a < z.nodes) (sym size_old) pair.some_leader in
    let cread = cread_there j a line c.old c.new c.done.good held j_old a_old other (kept.ended then_) waiting in
    let j_new : j < c.new.core.size.nodes = subst (λ (z : Size). j < z.nodes) (sym held.size) j_old in
    let a_new : a < c.new.core.size.nodes = subst (λ (z : Size). a < z.nodes) (sym held.size) a_old in
    let stood = stands_in c.new.core j a cread.letter after.good.between cread.among in
    let d = request_taken 3 3 c.new.core.size.nodes j a 281 cread.letter after.order c.new last (omega arith) after.good refl j_new a_new stood after.turns
    (windows_fewer c.new.core.size.nodes (70 * 4 + 281) 561 after.order (omega arith) after.windows) in
    let end = after_it (LetterTaken j a cread.letter) 281 after.order c.new last after.good d in
    let back = earlier 281 (d.node ∷ []) d.old d.new last d.done.good (d.new, d.turn, refl) end in
    let path : AreSteadyTurns (c.before ++ (c.node ∷ d.before)) w d.old =
    turns_join IsSteadyTurn c.before (c.node ∷ d.before) w c.old d.old c.leads (c.new, c.turn, d.leads) in
    let amid_d = on_from 632 280 (c.before ++ (c.node ∷ d.before)) w d.old last amid path (fewer 280 281 d.old last (omega arith) back) in
    let size_d = size_along (c.before ++ (c.node ∷ d.before)) w d.old ahead.good path in
    let led = kept_along leading a line (c.before ++ (c.node ∷ d.before)) w d.old ahead.good path pair.leading in
    taken_never j a line d.node d.old d.new last cread.letter d.done amid_d (fewer 1 281 d.new last (omega arith) end)
    (subst (λ (z : Size). j < z.nodes) (sym size_d) pair.some_comer) (subst (λ (z : Size). a < z.nodes) (sym size_d) pair.some_leader)
    (λ same. other (sym same)) cread.cread (about_line j line cread.letter cread.about) led

-- ---- so none does

needy_cases : (s : CacheState) → is_needy s ≡ true → (is_telling s ≡ true) ⊎ (joins s ≡ true)
needy_cases (Telling r w sent) is = inl refl
needy_cases (Joining p sent) is = inr refl
needy_cases (FreshJoining p sent c) is = inr refl
needy_cases _ is = cc

needy_inside : (core : Core) (n line : ℕ) → IsReached core → n < core.size.nodes → is_needy (state_on (node_at core n) line) ≡ true → line < core.size.lines
needy_inside core n line reached some needs = grind (arith, cases_lt, reached_well, get_or_past, is_needy)

none_needy_below : (bound line n : ℕ) (w last : Working) → Amid 632 w last → n < w.core.size.nodes → line < bound
    → is_needy (state_on (node_at w.core n) line) ≡ false
none_needy_below zero line n w last amid some lt = absurd (omega (arith, lt))
none_needy_below (suc bound) line n w last amid some lt =
    let s = state_on (node_at w.core n) line in
    let lower : Lower line w = λ l m less some_m. none_needy_below bound l m w last amid some_m (omega (arith, less, lt)) in
    elim (cases_Bool (is_needy s)) [
      | inr none ↦ none
      | inl needs ↦
          let inside = needy_inside w.core n line amid.ahead.good.reached some needs in
          elim (needy_cases s needs) [
            | inl tells ↦ absurd (no_telling n line w last some inside amid.ahead lower tells)
            | inr joins_now ↦
                absurd (comer_never line w last amid inside lower (joined n line w last some inside (fewer 1 632 w last (omega arith) amid.ahead) joins_now))
          ]
    ]

-- amid steady turns no node joins a list, or has to tell that it left one
pub none_needy : (line n : ℕ) (w last : Working) → Amid 632 w last → n < w.core.size.nodes → is_needy (state_on (node_at w.core n) line) ≡ false
none_needy line n w last amid some = none_needy_below (suc line) line n w last amid some (omega arith)
