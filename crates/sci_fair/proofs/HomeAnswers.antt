-- A line that awaits its home's word gets it: in front of its request stands none that is kept, so the home takes one request at least in
-- each of its turns; then the node accepts the answer in its next turn.
use Rattle.std.proofs.Common.{◌≡◌, ◌≢◌, ◌≤◌, ◌<◌, ◌%◌, ◌⊎◌, ℕ, true, false, arith, List, [], ◌∷◌, ◌++◌, length}
use Rattle.std.proofs.Common.{None, refl, sym, ap, subst, ◌∙◌, inl, inr}
use Rattle.std.proofs.lemmas.{Bool.{cases_eq}, List.{append-nil, append_assoc, length-append}}
use Rattle.std.specs.List.{AllByRecursion}
use Rattle.sci_history.specs.Seen.{IsAmong}
use Rattle.sci_packets.specs.{declared.body.Body.{Body, TheVariants.{Cread}}, Table.{is_request}}
use Rattle.sci_cache.specs.{State.{CacheState, Claiming, Clearing, Returning}, Cache.{Letter, line_of}}
use Rattle.sci_core.specs.declared.lane.LaneKind.TheVariants.{Requests, Answers}
use Rattle.sci_core.specs.Core.{Core, lane_of, lane_place, node_at}
use Rattle.sci_core.specs.{Node.{NodeOf}, Reached.{IsReached}, Sharing.{is_about, packets_of}, Size.{Size}, Tidy.{IsSentIn}}
use Rattle.sci_core.proofs.{Step.Places.{place_to}, Tidy.TidyRuns.{reached_tidy}}
use Rattle.sci_policy.specs.{Lines.{state_on}, Policy.{awaits_home, is_cread, kept_by, refused_by, turned}}
use Rattle.sci_policy.proofs.{Deciding.{kept_if}, PolicyLaws.{kept_is_cread}}
use Rattle.sci_fair.specs.{Between.{IsBetweenTurns}, Lanes.{IsOpen, changes_list}, Steady.{Working}}
use Rattle.sci_fair.specs.Steady.{WorksByTurns}
use Rattle.sci_fair.proofs.Awaiting.{Awaits, ask_no_accept, await_all, awaiting_waits, settle_all, settled_waits, taking_no_accept}
use Rattle.sci_fair.proofs.LaneTurns.{HasGained, Is_kept, Is_taken, among_gained, among_stands, asks_keep, front_at, gains_all, no_two, suffix_cases}
use Rattle.sci_fair.proofs.LaneTurns.{among_tail, takes_answers}
use Rattle.sci_fair.proofs.{Steadied.{Change}, SteadyTurns.{HeldBy}, Trace.{is_taking}, WholeTurns.{sole}}
use Rattle.sci_fair.proofs.Whereabouts.{Answered_from, Asked_at, in_lane, lane_packets, stands, where_is}
use Rattle.sci_policy.specs.Turn.{is_ask}

-- ---- the request

pub awaits_sent : (home : ℕ) (state : CacheState) (letter : Letter) → awaits_home state ≡ true → IsSentIn home state letter
    → (changes_list letter.body ≡ true) × (letter.target ≡ home)
awaits_sent home (Claiming f c) letter awaits sent = (ap changes_list sent.0, sent.1)
awaits_sent home (Clearing c) letter awaits sent = (ap changes_list sent.0, sent.1)
awaits_sent home (Returning c) letter awaits sent = (ap changes_list sent.0, sent.1)
awaits_sent home state letter awaits sent = absurd (grind arith)

-- the request of a line that awaits its home stands in the lane to it, with no more than so many packets before it
pub record AskedAt (n h line k : ℕ) (core : Core) : Type 0 where
  pub before : List Letter
  pub after : List Letter
  pub letter : Letter
  pub lane : lane_of core Requests n h ≡ before ++ letter ∷ after
  pub about : is_about n line letter ≡ true
  pub changes : changes_list letter.body ≡ true
  pub few : length before ≤ k

-- the answer is on its way to the node
pub record AnsweredAt (n line : ℕ) (core : Core) : Type 0 where
  pub from : ℕ
  pub sender : from < core.size.nodes
  pub letter : Letter
  pub answers : is_request letter.body ≡ false
  pub about : is_about n line letter ≡ true
  pub among : IsAmong letter (lane_of core Answers from n)

home_of_letter : (core : Core) (n line to : ℕ) (letter : Letter) → IsReached core → n < core.size.nodes → line < core.size.lines → to < core.size.nodes
    → Awaits n line core → is_request letter.body ≡ true → is_about n line letter ≡ true → IsAmong letter (lane_of core Requests n to)
    → (changes_list letter.body ≡ true) × (to ≡ line % core.size.nodes)
home_of_letter core n line to letter reached some inside t awaits asks about among =
    let home = line % core.size.nodes in
    let packet = lane_packets core Requests n to n line letter reached some t about among in
    let alone = sole home (line_of (node_at core n).cache line) (packets_of core n line) letter (reached_tidy core reached n line some inside) packet in
    let sent = awaits_sent home (state_on (node_at core n) line) letter awaits (alone.awaited.sent asks) in
    let is = in_lane core (lane_place core.size.nodes Requests n to) letter reached among in
    (sent.0, sym (is.to ∙ place_to core.size.nodes Requests n to t) ∙ sent.1)

short_before : (before after : List Letter) (letter : Letter) (lane : List Letter) → lane ≡ before ++ letter ∷ after → length lane ≤ 4 → length before ≤ 4
short_before before after letter lane is short = grind (arith, length-append)

pub where_home : (core : Core) (n line : ℕ) → IsReached core → IsBetweenTurns core → n < core.size.nodes → line < core.size.lines → Awaits n line core
    → AskedAt n (line % core.size.nodes) line 4 core ⊎ AnsweredAt n line core
where_home core n line reached between some inside awaits =
    elim (where_is core n line reached between.free some inside (awaiting_waits (state_on (node_at core n) line) awaits)) [
      | Asked_at to letter t asks about among ↦
          let home = home_of_letter core n line to letter reached some inside t awaits asks about among in
          let at = stands letter (lane_of core Requests n to) among in
          inl (subst (λ (h : ℕ). AskedAt n h line 4 core) home.1 (record {
            before = at.before;
            after = at.after;
            letter = letter;
            lane = at.whole;
            about = about;
            changes = home.0;
            few = short_before at.before at.after letter (lane_of core Requests n to) at.whole (between.short (lane_place core.size.nodes Requests n to));
          }))
      | Answered_from from letter f answers about among ↦
          inr (record { from = from; sender = f; letter = letter; answers = answers; about = about; among = among })
    ]

-- ---- in front of it stands no Cread

cread_changes : (b : Body) → b ≡ Cread → changes_list b ≡ true → ⊥
cread_changes b is changes = let clash : false ≡ true = ap changes_list (sym is) ∙ changes in cc

all_at : (P : Letter → Type 0) (before after : List Letter) (letter : Letter) → AllByRecursion P (before ++ letter ∷ after) → P letter
all_at P [] after letter all = all.0
all_at P (b ∷ before) after letter all = all_at P before after letter all.1

plain_front : (front letter : Letter) (rest before after : List Letter) → front ∷ rest ≡ before ++ letter ∷ after → IsOpen (front ∷ rest)
    → changes_list letter.body ≡ true → front.body ≡ Cread → ⊥
plain_front front letter rest [] after is opened changes cread = grind (arith, cread_changes)
plain_front front letter rest (b ∷ before) after is opened changes cread =
    let tail : rest ≡ before ++ letter ∷ after = (let both : front ∷ rest ≡ b ∷ (before ++ letter ∷ after) = is in cc) in
    let none = all_at (λ l. changes_list l.body ≡ false) before after letter
    (subst (AllByRecursion (λ (l : Letter). changes_list l.body ≡ false)) tail (opened.0 (ap is_cread cread))) in
    let clash : true ≡ false = sym changes ∙ none in cc

-- ---- the node's own turn

-- while its request is in a lane, no answer is accepted
pub still_awaits : {K : Change} (n line to : ℕ) (old new : Working) (letter : Letter) → WorksByTurns old.core → (held : HeldBy K n old new)
    → n < old.core.size.nodes
    → line < old.core.size.lines → to < old.core.size.nodes → Awaits n line old.core → is_about n line letter ≡ true
    → IsAmong letter (lane_of old.core Requests n to) → Awaits n line held.trace.c1
still_awaits {K = K} n line to old new letter good held some inside t awaits about among =
    elim (settle_all n line K (turned (old.policies n)) old.core held.trace.e1 held.trace.p1 held.trace.c1 held.trace.are_accepts held.accepts (inl awaits)) [
      | inl still ↦ still
      | inr settled ↦
          let c1 = held.trace.c1 in
          let since = held.trace.accepted.since in
          let here : n < c1.size.nodes = subst (λ (z : Size). n < z.nodes) (sym since.size) some in
          let there : line < c1.size.lines = subst (λ (z : Size). line < z.lines) (sym since.size) inside in
          let to_here : to < c1.size.nodes = subst (λ (z : Size). to < z.nodes) (sym since.size) t in
          let now : IsAmong letter (lane_of c1 Requests n to) = subst (IsAmong letter) (sym (held.trace.accepted.requests n to some t)) among in
          let packet = lane_packets c1 Requests n to n line letter since.reached here to_here about now in
          let alone = sole (line % c1.size.nodes) (line_of (node_at c1 n).cache line) (packets_of c1 n line) letter
          (reached_tidy c1 since.reached n line here there)
          packet in
          let clash : true ≡ false = sym alone.awaited.waiting ∙ settled_waits (state_on (node_at c1 n) line) settled in cc
    ]

-- ---- any node's turn

pub asked_gained : (n h line k : ℕ) (old new : Core) → AskedAt n h line k old → HasGained (lane_of old Requests n h) (lane_of new Requests n h)
    → AskedAt n h line k new
asked_gained n h line k old new asked gained = record {
  before = asked.before;
  after = asked.after ++ gained.0;
  letter = asked.letter;
  lane = gained.1 ∙ (ap (λ (l : List Letter). l ++ gained.0) asked.lane ∙ append_assoc asked.before (asked.letter ∷ asked.after) gained.0);
  about = asked.about;
  changes = asked.changes;
  few = asked.few;
}

-- the line awaits its home when the node has taken requests, and when the turn has ended
record AwaitsOn {K : Change} (i n line : ℕ) (old new : Working) (held : HeldBy K i old new) : Type 0 where
  taken : Awaits n line held.trace.c2
  ended : Awaits n line new.core

own_awaits : {K : Change} (n i line to : ℕ) (old new : Working) (letter : Letter) → WorksByTurns old.core → (held : HeldBy K i old new)
    → n < old.core.size.nodes
    → line < old.core.size.lines → to < old.core.size.nodes → Awaits n line old.core → is_about n line letter ≡ true
    → IsAmong letter (lane_of old.core Requests n to) → n ≡ i → AwaitsOn i n line old new held
own_awaits {K = K} n i line to old new letter good held some inside t awaits about among same =
    let P = λ (m : ℕ). Awaits m line old.core in
    let first : Awaits i line held.trace.c1 = still_awaits i line to old new letter good held (subst (λ (m : ℕ). m < old.core.size.nodes) same some) inside t
    (subst P same awaits) (subst (λ (m : ℕ). is_about m line letter ≡ true) same about)
    (subst (λ (m : ℕ). IsAmong letter (lane_of old.core Requests m to)) same among) in
    let second = await_all i line K is_taking taking_no_accept held.trace.p1 held.trace.c1 held.trace.e2 held.trace.p2 held.trace.c2 held.trace.are_takes
    held.takes first in
    let third = await_all i line K is_ask ask_no_accept held.trace.p2 held.trace.c2 held.trace.e3 held.trace.p3 new.core held.trace.are_asks held.asks second in
    record {
      taken = subst (λ (m : ℕ). Awaits m line held.trace.c2) (sym same) second;
      ended = subst (λ (m : ℕ). Awaits m line new.core) (sym same) third;
    }

awaits_on : {K : Change} (i n line to : ℕ) (old new : Working) (letter : Letter) → WorksByTurns old.core → (held : HeldBy K i old new) → n < old.core.size.nodes
    → line < old.core.size.lines → to < old.core.size.nodes → Awaits n line old.core → is_about n line letter ≡ true
    → IsAmong letter (lane_of old.core Requests n to) → AwaitsOn i n line old new held
awaits_on i n line to old new letter good held some inside t awaits about among = elim (cases_eq n i) [
  | inl same ↦ own_awaits n i line to old new letter good held some inside t awaits about among same
  | inr other ↦ record {
    taken = subst (λ (part : NodeOf). awaits_home (state_on part line) ≡ true) (sym (held.trace.taken.so.since.others n other)) awaits;
    ended = subst (λ (part : NodeOf). awaits_home (state_on part line) ≡ true) (sym (held.trace.asked.since.others n other)) awaits;
  }
]

pub free_taken : {K : Change} (i : ℕ) (old new : Working) → WorksByTurns old.core → (held : HeldBy K i old new) → (m : ℕ)
    → (node_at held.trace.c2 m).waiting ≡ None
free_taken i old new good held m = grind (arith, cases_eq)

-- what is left behind the front, of a lane in which the request stands
pub left_cases : (front letter : Letter) (rest before after more left : List Letter) → front ∷ rest ≡ before ++ letter ∷ after → rest ≡ more ++ left
    → ((ahead : List Letter) × (left ≡ ahead ++ letter ∷ after) × (length ahead < length before)) ⊎ ((gone : List Letter) × (after ≡ gone ++ left))
left_cases front letter rest [] after more left lane is =
    let same : rest ≡ after = (let both : front ∷ rest ≡ letter ∷ after = lane in cc) in inr (more, sym same ∙ is)
left_cases front letter rest (b ∷ before) after more left lane is = grind (arith, suffix_cases)

pub front_of : (before after : List Letter) (letter : Letter) → (front : Letter) × (rest : List Letter) × (front ∷ rest ≡ before ++ letter ∷ after)
front_of [] after letter = (letter, after, refl)
front_of (b ∷ before) after letter = (b, before ++ letter ∷ after, refl)

-- ---- the home's turn

pub gained_by : {K : Change} (h n b : ℕ) (old new : Working) (held : HeldBy K h old new) → n < old.core.size.nodes → b < old.core.size.nodes
    → HasGained (lane_of held.trace.c2 Requests n b) (lane_of new.core Requests n b)
gained_by {K = K} h n b old new held some t =
    let size = held.trace.taken.so.since.size in
    let f2 : n < held.trace.c2.size.nodes = subst (λ (z : Size). n < z.nodes) (sym size) some in
    let t2 : b < held.trace.c2.size.nodes = subst (λ (z : Size). b < z.nodes) (sym size) t in
    elim (cases_eq n h) [
      | inl same ↦ subst (λ (m : ℕ). HasGained (lane_of held.trace.c2 Requests m b) (lane_of new.core Requests m b)) (sym same)
          (gains_all K h held.trace.p2 held.trace.c2 held.trace.e3 held.trace.p3 new.core b held.trace.are_asks held.asks t2)
      | inr other ↦
          let keeps = asks_keep K h held.trace.p2 held.trace.c2 held.trace.e3 held.trace.p3 new.core n b held.trace.are_asks held.asks f2 t2 in
          ([], keeps.0 other ∙ sym (append-nil (lane_of held.trace.c2 Requests n b)))
    ]

-- an answer that is under way when requests have been taken is so when the turn has ended
pub answered_on : {K : Change} (i n line from : ℕ) (old new : Working) (letter : Letter) → (held : HeldBy K i old new) → n < old.core.size.nodes
    → from < held.trace.c2.size.nodes → is_request letter.body ≡ false → is_about n line letter ≡ true
    → IsAmong letter (lane_of held.trace.c2 Answers from n) → AnsweredAt n line new.core
answered_on {K = K} i n line from old new letter held some f answers about among =
    let size = held.trace.taken.so.since.size in
    let here : n < held.trace.c2.size.nodes = subst (λ (z : Size). n < z.nodes) (sym size) some in
    let keeps = asks_keep K i held.trace.p2 held.trace.c2 held.trace.e3 held.trace.p3 new.core from n held.trace.are_asks held.asks f here in
    record {
      from = from;
      sender = subst (λ (z : Size). from < z.nodes) (sym held.size) (subst (λ (z : Size). from < z.nodes) size f);
      letter = letter;
      answers = answers;
      about = about;
      among = subst (IsAmong letter) (sym keeps.1) among;
    }

gone_answered : {K : Change} (h n line k : ℕ) (old new : Working) → WorksByTurns old.core → (held : HeldBy K h old new) → h < old.core.size.nodes
    → n < old.core.size.nodes
    → line < old.core.size.lines → h ≡ line % old.core.size.nodes → (asked : AskedAt n h line k old.core) → Awaits n line held.trace.c2 → (gone : List Letter)
    → asked.after ≡ gone ++ lane_of held.trace.c2 Requests n h → AnsweredAt n line new.core
gone_answered {K = K} h n line k old new good held server some inside home asked awaits gone is =
    let c2 = held.trace.c2 in
    let since = held.trace.taken.so.since in
    let here : n < c2.size.nodes = subst (λ (z : Size). n < z.nodes) (sym since.size) some in
    let there : line < c2.size.lines = subst (λ (z : Size). line < z.lines) (sym since.size) inside in
    elim (where_is c2 n line since.reached (free_taken h old new good held) here there (awaiting_waits (state_on (node_at c2 n) line) awaits)) [
      | Asked_at to letter t asks about among ↦
          let at = home_of_letter c2 n line to letter since.reached here there t awaits asks about among in
          let same : to ≡ h = at.1 ∙ (ap (λ (z : Size). line % z.nodes) since.size ∙ sym home) in
          let left : IsAmong letter (lane_of c2 Requests n h) = subst (λ (m : ℕ). IsAmong letter (lane_of c2 Requests n m)) same among in
          let behind : IsAmong letter asked.after = subst (IsAmong letter) (sym is) (among_tail letter gone (lane_of c2 Requests n h) left) in
          absurd (no_two old.core n h line asked.letter letter asked.before asked.after good.reached some server inside asked.lane asked.about about behind)
      | Answered_from from letter f answers about among ↦ answered_on h n line from old new letter held some f answers about among
    ]

pub server_turn : {K : Change} (h n line k : ℕ) (old new : Working) → WorksByTurns old.core → (held : HeldBy K h old new) → h < old.core.size.nodes
    → n < old.core.size.nodes
    → line < old.core.size.lines → h ≡ line % old.core.size.nodes → AskedAt n h line k old.core → Awaits n line held.trace.c2
    → AnsweredAt n line new.core ⊎ ((less : ℕ) × (less < k) × AskedAt n h line less new.core)
server_turn h n line k old new good held server some inside home asked awaits =
    let first = front_of asked.before asked.after asked.letter in
    let lane : lane_of old.core Requests n h ≡ first.0 ∷ first.1 = asked.lane ∙ sym first.2 in
    elim (front_at h n old new held some first.0 first.1 good server lane) [
      | Is_kept keep ↦
          let look = held.trace.looks n some in
          let kept = kept_if (kept_by look.p (node_at look.c h) first.0) (refused_by look.p (node_at look.c h) first.0) keep in
          let cread = (kept_is_cread look.p (node_at look.c h) first.0 kept).0 in
          absurd (plain_front first.0 asked.letter first.1 asked.before asked.after first.2
          (subst IsOpen lane (good.opened (lane_place old.core.size.nodes Requests n h))) asked.changes cread)
      | Is_taken more is q next e decides st ↦
          elim (left_cases first.0 asked.letter first.1 asked.before asked.after more (lane_of held.trace.c2 Requests n h) first.2 is) [
            | inl stands_ ↦
                let at : AskedAt n h line (length stands_.0) held.trace.c2 = record {
                  before = stands_.0;
                  after = asked.after;
                  letter = asked.letter;
                  lane = stands_.1;
                  about = asked.about;
                  changes = asked.changes;
                  few = omega arith;
                } in
                let less = stands_.2 in
                let few = asked.few in
                inr (
                  length stands_.0,
                  omega (arith, less, few),
                  asked_gained n h line (length stands_.0) held.trace.c2 new.core at
                      (gained_by h n h old new held some server),
                )
            | inr gone ↦ inl (gone_answered h n line k old new good held server some inside home asked awaits gone.0 gone.1)
          ]
    ]

-- ---- other nodes' turns

pub lane_kept : {K : Change} (i n h : ℕ) (old new : Working) (held : HeldBy K i old new) → i < old.core.size.nodes → n < old.core.size.nodes
    → h < old.core.size.nodes → i ≢ h
    → HasGained (lane_of old.core Requests n h) (lane_of new.core Requests n h)
lane_kept i n h old new held here some t other = elim (cases_eq n i) [
  | inl same ↦
      let apart : h ≢ i = λ e. other (sym e) in
      subst (λ (l : List Letter). HasGained l (lane_of new.core Requests n h)) (held.trace.taken.so.requests n h some t apart)
      (gained_by i n h old new held some t)
  | inr another ↦
      ([], (held.trace.asked.apart n h some t another (λ e. other (sym e))).0 ∙ sym (append-nil (lane_of old.core Requests n h)))
]

-- what a turn leaves of a line that has asked its home
pub asked_turn : {K : Change} (i n line k : ℕ) (old new : Working) → WorksByTurns old.core → (held : HeldBy K i old new) → i < old.core.size.nodes
    → n < old.core.size.nodes
    → line < old.core.size.lines → line % old.core.size.nodes < old.core.size.nodes → Awaits n line old.core
    → AskedAt n (line % old.core.size.nodes) line k old.core
    → Awaits n line new.core × (AnsweredAt n line new.core
    ⊎ (((i ≢ line % old.core.size.nodes) × AskedAt n (line % old.core.size.nodes) line k new.core)
    ⊎ ((less : ℕ) × (less < k) × AskedAt n (line % old.core.size.nodes) line less new.core)))
asked_turn i n line k old new good held here some inside home awaits asked =
    let h = line % old.core.size.nodes in
    let among = among_stands asked.letter (lane_of old.core Requests n h) asked.before asked.after asked.lane in
    let on = awaits_on i n line h old new asked.letter good held some inside home awaits asked.about among in (
      on.ended,
      elim (cases_eq i h) [
        | inl same ↦
            elim (server_turn i n line k old new good held here some inside same (subst (λ (m : ℕ). AskedAt n m line k old.core) (sym same) asked) on.taken) [
              | inl answered ↦ inl answered
              | inr less ↦ inr (inr (less.0, less.1, subst (λ (m : ℕ). AskedAt n m line less.0 new.core) same less.2))
            ]
        | inr other ↦
            inr (inl (other, asked_gained n h line k old.core new.core asked (lane_kept i n h old new held here some home other)))
      ],
    )

pub answers_kept : {K : Change} (i n from : ℕ) (old new : Working) (held : HeldBy K i old new) → i ≢ n → i < old.core.size.nodes → n < old.core.size.nodes
    → from < old.core.size.nodes
    → HasGained (lane_of old.core Answers from n) (lane_of new.core Answers from n)
answers_kept {K = K} i n from old new held other here some f = elim (cases_eq from i) [
  | inl same ↦
      let apart : n ≢ i = λ e. other (sym e) in
      let c1 = held.trace.c1 in
      let c2 = held.trace.c2 in
      let n1 : n < c1.size.nodes = subst (λ (z : Size). n < z.nodes) (sym held.trace.accepted.since.size) some in
      let n2 : n < c2.size.nodes = subst (λ (z : Size). n < z.nodes) (sym held.trace.taken.so.since.size) some in
      let i2 : i < c2.size.nodes = subst (λ (z : Size). i < z.nodes) (sym held.trace.taken.so.since.size) here in
      let first : lane_of c1 Answers i n ≡ lane_of old.core Answers i n = held.trace.accepted.answers i n here some apart in
      let second = takes_answers K i held.trace.p1 c1 held.trace.e2 held.trace.p2 c2 n held.trace.are_takes held.takes n1 in
      let third = (asks_keep K i held.trace.p2 c2 held.trace.e3 held.trace.p3 new.core i n held.trace.are_asks held.asks i2 n2).1 in
      subst (λ (m : ℕ). HasGained (lane_of old.core Answers m n) (lane_of new.core Answers m n)) (sym same)
      (second.0, third ∙ (second.1 ∙ ap (λ (l : List Letter). l ++ second.0) first))
  | inr another ↦
      ([], (held.trace.asked.apart from n f some another (λ e. other (sym e))).1 ∙ sym (append-nil (lane_of old.core Answers from n)))
]

-- what another's turn leaves of a line whose answer is on its way
pub answered_turn : {K : Change} (i n line : ℕ) (old new : Working) (held : HeldBy K i old new) → i ≢ n → i < old.core.size.nodes → n < old.core.size.nodes
    → Awaits n line old.core → AnsweredAt n line old.core → Awaits n line new.core × AnsweredAt n line new.core
answered_turn i n line old new held other here some awaits answered = (
  subst (λ (part : NodeOf). awaits_home (state_on part line) ≡ true) (sym (held.trace.asked.since.others n (λ e. other (sym e)))) awaits,
  record {
    from = answered.from;
    sender = subst (λ (z : Size). answered.from < z.nodes) (sym held.size) answered.sender;
    letter = answered.letter;
    answers = answered.answers;
    about = answered.about;
    among = among_gained answered.letter (lane_of old.core Answers answered.from n) (lane_of new.core Answers answered.from n)
        (answers_kept i n answered.from old new held other here some answered.sender) answered.among;
  },
)
