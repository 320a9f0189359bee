-- In a machine that works by turns, behind a Cread stands no request that changes a list at its home. Where a policy wants such
-- a request, no line of its node joins, so the node has no Cread under way. What a lane gains elsewhere is no such request.
use Rattle.std.proofs.Common.{◌≡◌, ◌<◌, ◌*◌, ◌%◌, ◌⊎◌, ℕ, zero, suc, Bool, true, false, cond, arith, List, [], ◌∷◌, ◌++◌, filter, get_or, set}
use Rattle.std.proofs.Common.{Option, Some, None, refl, sym, subst, ◌∙◌, inl, inr, replicate, rules}
use Rattle.std.proofs.lemmas.{Bool.{cases_Bool}, List.{get_or_past, Elements.{All-weaker, filter-append, recursion_from_All}}}
use Rattle.std.specs.{Prelude.{IfSome, option_to_list}, List.{AllByRecursion, flat_map}}
use Rattle.sci_history.proofs.Order.{all-append}
use Rattle.sci_words.specs.declared.event.{AskKind.{AskKind}, Event.{Event}}
use Rattle.sci_history.specs.declared.entry.Entry.{Entry}
use Rattle.sci_packets.specs.{declared.body.Body.{Body}, Table.{is_request}}
use Rattle.sci_cache.specs.State.{CacheState}
use Rattle.sci_cache.specs.{Asking.{Asked, asking}, Kinds.{joins}, Line.{LineState, ask_or_fault}, Cache.{Letter, cache_asked, line_of}}
use Rattle.sci_core.specs.declared.lane.LaneKind.{LaneKind, TheVariants.{Requests, Answers}}
use Rattle.sci_core.specs.Core.{Core, Side, Idle, Changes, Sends, Takes, changes, lane_at, lane_of, lane_place, node_at, node_of, opening, performs, sends}
use Rattle.sci_core.specs.Core.{side, step_by, stepping}
use Rattle.sci_core.specs.Node.{NodeOf, asked_by, lines_of, node_asking, node_issuing, node_performing, node_replying}
use Rattle.sci_core.specs.{Draining.{IsDrained}, Reached.{IsReached}, Sharing.{is_about, packets_of}, Size.{Size}}
use Rattle.sci_core.specs.{Tidy.{HasItsPackets, IsSentIn}, WellFormed.{IsInLane}}
use Rattle.sci_core.proofs.Basics.{FlatMaps.{around}, Lists.{at_set}, Options.{if_below, of_some}}
use Rattle.sci_core.proofs.{Settling.Drains.{some_node}, Step.{Places.{place_from, place_requests}, Steps.{lane_below}}}
use Rattle.sci_core.proofs.Tidy.{TidyRuns.{reached_tidy}, TidySteps.{about_from, request_asker}}
use Rattle.sci_core.proofs.WellFormed.{Parts.{RepliesWell, part_replying}, WellFormedSteps.{reached_well}}
use Rattle.sci_policy.specs.declared.want.Want.TheVariants.{Ask}
use Rattle.sci_policy.specs.{Lines.{state_on}, Policy.{PolicyOf, asks_home_to_change, is_cread, next_wanted}}
use Rattle.sci_policy.proofs.{PolicyLaws.{joins_first}, Targets.{asked_target}}
use Rattle.sci_turn.{specs.Moves.{IsOwn}, proofs.Working.{stepped}}
use Rattle.sci_fair.specs.Lanes.{AreOpen, IsOpen, IsWork, changes_list}
use Rattle.sci_words.specs.declared.event.AskKind.TheVariants as kind
use Rattle.sci_words.specs.declared.event.Event.TheVariants as event

-- ---- one lane

abbrev NoCread : List Letter → Type 0
NoCread lane = AllByRecursion (λ l. is_cread l.body ≡ false) lane

open_push : (lane : List Letter) (letter : Letter) → IsOpen lane → (changes_list letter.body ≡ false) ⊎ NoCread lane → IsOpen (lane ++ letter ∷ [])
open_push [] letter opened either = (λ e. tt, tt)
open_push (first ∷ rest) letter opened (inl plain) =
    (λ cread. all-append (λ l. changes_list l.body ≡ false) rest (letter ∷ []) (opened.0 cread) (plain, tt), open_push rest letter opened.1 (inl plain))
open_push (first ∷ rest) letter opened (inr none) =
    (λ cread. (let clash : true ≡ false = sym cread ∙ none.0 in cc), open_push rest letter opened.1 (inr none.1))

open_rest : (lane rest : List Letter) (letter : Letter) → lane ≡ letter ∷ rest → IsOpen lane → IsOpen rest
open_rest lane rest letter is opened = (subst IsOpen is opened).1

lane_changed : (old new : Core) (place : ℕ) (lane : List Letter) → AreOpen old → new.lanes ≡ set old.lanes place lane → IsOpen lane → AreOpen new
lane_changed old new place lane opened is here = λ p.
    subst (λ (lanes : List (List Letter)). IsOpen (get_or lanes p [])) (sym is) (at_set IsOpen old.lanes place lane [] opened here p)

lanes_same : (old new : Core) → AreOpen old → new.lanes ≡ old.lanes → AreOpen new
lanes_same old new opened is = λ p. subst (λ (lanes : List (List Letter)). IsOpen (get_or lanes p [])) (sym is) (opened p)

-- ---- a node none of whose lines joins has no Cread under way

-- what holds of all of two lists holds of all of each
pub all_parts : {X : Type 0} (P : X → Type 0) (xs ys : List X) → AllByRecursion P (xs ++ ys) → AllByRecursion P xs × AllByRecursion P ys
all_parts P [] ys all = (tt, all)
all_parts P (x ∷ xs) ys all = let parts = all_parts P xs ys all.1 in ((all.0, parts.0), parts.1)

filtered_parts : {X : Type 0} (P : X → Type 0) (p : X → Bool) (xs ys : List X) → AllByRecursion P (filter p (xs ++ ys))
    → AllByRecursion P (filter p xs) × AllByRecursion P (filter p ys)
filtered_parts P p xs ys all = all_parts P (filter p xs) (filter p ys) (subst (AllByRecursion P) (filter-append p xs ys) all)

all_if : {X : Type 0} (P : X → Type 0) (b : Bool) (x : X) (xs : List X) → AllByRecursion P (cond b (x ∷ xs) xs) → AllByRecursion P xs
all_if P true x xs all = all.1
all_if P false x xs all = all

cread_joins : (home : ℕ) (state : CacheState) (letter : Letter) → IsSentIn home state letter → is_cread letter.body ≡ true → joins state ≡ true
cread_joins home state letter sent cread = grind arith

cread_asks : (b : Body) → is_cread b ≡ true → is_request b ≡ true
cread_asks b e = search rules

none_of : (b : Bool) → (b ≡ true → ⊥) → b ≡ false
none_of true never = absurd (never refl)
none_of false never = refl

packets_none : (home : ℕ) (line : LineState) (packets : List Letter) → HasItsPackets home line packets → joins line.state ≡ false → NoCread packets
packets_none home line [] has idle = tt
packets_none home line (letter ∷ []) has idle = grind (arith, none_of, cread_joins, cread_asks)
packets_none home line (letter ∷ another ∷ packets) has idle = elim has [ ]

-- if none of what a lane has about each line is a Cread, none in it is
lane_without : (n lines : ℕ) (lane : List Letter) → AllByRecursion (λ l. (l.line < lines) × (is_about n l.line l ≡ true)) lane
    → ((line : ℕ) → line < lines → NoCread (filter (is_about n line) lane)) → NoCread lane
lane_without n lines [] about none = tt
lane_without n lines (letter ∷ rest) about none = (
  (subst (λ (b : Bool). NoCread (cond b (letter ∷ filter (is_about n letter.line) rest) (filter (is_about n letter.line) rest))) about.0.1
      (none letter.line about.0.0)).0,
  lane_without n lines rest about.1
      (λ line below. all_if (λ l. is_cread l.body ≡ false) (is_about n line letter) letter (filter (is_about n line) rest) (none line below)),
)

-- a node none of whose lines joins has sent no Cread that is still in a lane
lane_none : (core : Core) (n to : ℕ) → IsReached core → n < core.size.nodes → to < core.size.nodes
    → ((line : ℕ) → joins (state_on (node_at core n) line) ≡ false) → NoCread (lane_of core Requests n to)
lane_none core n to reached some t idle =
    let well = reached_well core reached in
    let place = lane_place core.size.nodes Requests n to in
    let among = around (λ (lane : List Letter). lane) core.lanes place [] (lane_below core Requests n to well some t) in
    let IsAbout = λ (l : Letter). (l.line < core.size.lines) × (is_about n l.line l ≡ true) in
    let waiting = flat_map (λ (part : NodeOf). option_to_list part.waiting) core.parts in
    lane_without n core.size.lines (lane_at core place)
    (recursion_from_All IsAbout (lane_at core place) (All-weaker (IsInLane core.size.nodes core.size.lines place) IsAbout (λ l in_lane.
    let asks = in_lane.request (place_requests core.size.nodes n to some t) in
    let source : l.source ≡ n = in_lane.from ∙ place_from core.size.nodes Requests n to some t in
    (asks.letter_ok.about, about_from n l.line l refl (request_asker l asks.asks ∙ source))) (lane_at core place) (well.each_lane place)))
    (λ line inside.
    let P = λ (l : Letter). is_cread l.body ≡ false in
    let packets : NoCread (packets_of core n line) =
    packets_none (line % core.size.nodes) (line_of (node_at core n).cache line) (packets_of core n line) (reached_tidy core reached n line some inside)
    (idle line) in
    let lanes = (filtered_parts P (is_about n line) waiting _ packets).1 in
    let parted = subst (λ (ls : List Letter). AllByRecursion P (filter (is_about n line) ls)) among.now lanes in
    let later = (filtered_parts P (is_about n line) among.before _ parted).1 in
    (filtered_parts P (is_about n line) (lane_at core place) among.after later).0)

-- ---- what an ask sends

asking_changes : (state : CacheState) (k : AskKind) (line : ℕ)
    → IfSome (asking state k) (λ (a : Asked). changes_list a.request ≡ asks_home_to_change (Ask line k))
asking_changes state k line = search rules

made_changes : (node : NodeOf) (line : ℕ) (lacks changes : Bool) (made : Option Asked) → IfSome made (λ (a : Asked). changes_list a.request ≡ changes)
    → IfSome (asked_by node (cache_asked node.cache line (ask_or_fault made lacks))) (λ (sent : NodeOf × Letter). changes_list sent.1.body ≡ changes)
made_changes node line lacks changes None is = tt
made_changes node line true changes (Some asked) is = tt
made_changes node line false changes (Some asked) is = is

asked_changes : (node : NodeOf) (line : ℕ) (k : AskKind)
    → IfSome (node_asking node line k) (λ (sent : NodeOf × Letter). changes_list sent.1.body ≡ asks_home_to_change (Ask line k))
asked_changes node line k = grind (arith, if_below, made_changes, asking_changes)

-- what is wanted while a line joins changes no list at its home
wanted_plain : (policy : PolicyOf) (node : NodeOf) (joining line : ℕ) (k : AskKind) → joining < lines_of node → joins (state_on node joining) ≡ true
    → next_wanted policy node ≡ Some (Ask line k) → asks_home_to_change (Ask line k) ≡ false
wanted_plain policy node joining line kind.Claim below joined wants = absurd ((joins_first policy node joining line kind.Claim below joined wants).0 refl)
wanted_plain policy node joining line kind.Clear below joined wants = absurd ((joins_first policy node joining line kind.Clear below joined wants).1 refl)
wanted_plain policy node joining line kind.Wback below joined wants = absurd ((joins_first policy node joining line kind.Wback below joined wants).2 refl)
wanted_plain policy node joining line _ below joined wants = refl

joins_inside : (core : Core) (n line : ℕ) → IsReached core → n < core.size.nodes → joins (state_on (node_at core n) line) ≡ true
    → line < lines_of (node_at core n)
joins_inside core n line reached some joined = grind (arith, get_or_past)

ask_fits : (core : Core) (policy : PolicyOf) (n line : ℕ) (k : AskKind) (sent : NodeOf × Letter) → IsReached core → n < core.size.nodes
    → node_asking (node_at core n) line k ≡ Some sent → next_wanted policy (node_at core n) ≡ Some (Ask line k) → sent.1.target < core.size.nodes
    → (changes_list sent.1.body ≡ false) ⊎ NoCread (lane_of core Requests n sent.1.target)
ask_fits core policy n line k sent reached some asks wants to =
    let kind_is : changes_list sent.1.body ≡ asks_home_to_change (Ask line k) =
    of_some (λ (s : NodeOf × Letter). changes_list s.1.body ≡ asks_home_to_change (Ask line k)) (node_asking (node_at core n) line k) sent asks
    (asked_changes (node_at core n) line k) in
    elim (cases_Bool (asks_home_to_change (Ask line k))) [
      | inl changes ↦ inr (lane_none core n sent.1.target reached some to (λ other. none_of (joins (state_on (node_at core n) other)) (λ joined.
          let plain = wanted_plain policy (node_at core n) other line k (joins_inside core n other reached some joined) joined wants in
          let clash : true ≡ false = sym changes ∙ plain in cc)))
      | inr plain ↦ inl (kind_is ∙ plain)
    ]

-- ---- each step

answer_plain : (b : Body) → is_request b ≡ false → changes_list b ≡ false
answer_plain b e = search rules

pub none_there : (count place : ℕ) → get_or {A = List Letter} (replicate count []) place [] ≡ []
none_there zero place = refl
none_there (suc count) zero = refl
none_there (suc count) (suc place) = none_there count place

-- what a side sends leaves its lane open
abbrev SideFits : Core → ℕ → Side → Type 0
SideFits core n (Sends kind next letter) = (changes_list letter.body ≡ false) ⊎ NoCread (lane_of core kind n letter.target)
SideFits core n _ = Unit {0}

side_open : (core new : Core) (n : ℕ) (s : Side) → AreOpen core → SideFits core n s → step_by core n s ≡ Some new → AreOpen new
side_open core new n Idle opened fits is = cc
side_open core new n (Changes next) opened fits is = grind (arith, lanes_same)
side_open core new n (Sends kind next letter) opened fits is = grind (arith, lane_changed, open_push)
side_open core new n (Takes kind from taking) opened fits is = grind (arith, lane_changed, open_rest)

sends_fit : (core : Core) (n : ℕ) (kind : LaneKind) (o : Option (NodeOf × Letter))
    → IfSome o (λ sent. (changes_list sent.1.body ≡ false) ⊎ NoCread (lane_of core kind n sent.1.target)) → SideFits core n (sends kind o)
sends_fit core n kind None fits = tt
sends_fit core n kind (Some sent) fits = fits

changes_fit : (core : Core) (n : ℕ) (o : Option NodeOf) → SideFits core n (changes o)
changes_fit core n None = tt
changes_fit core n (Some next) = tt

performs_fit : (core : Core) (n : ℕ) (o : Option (NodeOf × Entry)) → SideFits core n (performs o)
performs_fit core n None = tt
performs_fit core n (Some done) = tt

-- an ask is one that a policy wants
abbrev IsWanted : Core → Event → Type 0
IsWanted core (event.Ask n line k) = (policy : PolicyOf) × (next_wanted policy (node_at core n) ≡ Some (Ask line k))
IsWanted core _ = Unit {0}

if_all : {X : Type 0} (P : X → Type 0) (o : Option X) → ((x : X) → o ≡ Some x → P x) → IfSome o P
if_all P None all = tt
if_all P (Some x) all = all x refl

event_fits : (core : Core) (e : Event) → IsReached core → node_of e < core.size.nodes → IsWanted core e
    → SideFits core (node_of e) (side (node_at core (node_of e)) e)
event_fits core (event.Issue n op) reached some wanted = changes_fit core n (node_issuing (node_at core n) op)
event_fits core (event.Perform n line) reached some wanted = performs_fit core n (node_performing (node_at core n) line)
event_fits core (event.Ask n line k) reached some wanted =
    sends_fit core n Requests (node_asking (node_at core n) line k) (if_all _ (node_asking (node_at core n) line k) (λ sent asks.
    ask_fits core wanted.0 n line k sent reached some asks wanted.1 (asked_target core n line k sent reached some asks)))
event_fits core (event.Serve from n) reached some wanted = tt
event_fits core (event.Refuse from n) reached some wanted = tt
event_fits core (event.Reply n) reached some wanted =
    sends_fit core n Answers (node_replying (node_at core n)) (if_all _ (node_replying (node_at core n)) (λ sent replies.
    inl (answer_plain sent.1.body (of_some (RepliesWell core.size n) (node_replying (node_at core n)) sent replies
    (part_replying core.size n (node_at core n) ((reached_well core reached).each_part n some))).answer.answers)))
event_fits core (event.Accept from n) reached some wanted = tt

pub step_open : (core new : Core) (e : Event) → IsReached core → AreOpen core → IsWanted core e → stepping core e ≡ Some new → AreOpen new
step_open core new e reached opened wanted steps =
    let some : node_of e < core.size.nodes = some_node core new e steps in
    let s = side (node_at core (node_of e)) e in
    side_open core new (node_of e) s opened (event_fits core e reached some wanted) (stepped core new (node_of e) e s some refl refl steps)

-- an ask of a turn is one
turn_wanted : (n : ℕ) (before : PolicyOf) (core : Core) (e : Event) (after : PolicyOf) → IsOwn n before core e after → IsWanted core e
turn_wanted n before core (event.Ask m line k) after own =
    (before, subst (λ (i : ℕ). next_wanted before (node_at core i) ≡ Some (Ask line k)) (sym own.kind.own) own.decides.0)
turn_wanted n before core (event.Issue m op) after own = tt
turn_wanted n before core (event.Perform m line) after own = tt
turn_wanted n before core (event.Serve from m) after own = tt
turn_wanted n before core (event.Refuse from m) after own = tt
turn_wanted n before core (event.Reply m) after own = tt
turn_wanted n before core (event.Accept from m) after own = tt

work_wanted : (core : Core) (e : Event) → IsWork e → IsWanted core e
work_wanted core (event.Issue n op) work = tt
work_wanted core (event.Perform n line) work = tt
work_wanted core _ work = elim work [ ]

pub turn_open : (core new : Core) (before after : PolicyOf) (n : ℕ) (e : Event) → IsReached core → AreOpen core → n < core.size.nodes
    → IsOwn n before core e after → stepping core e ≡ Some new → AreOpen new
turn_open core new before after n e reached opened some own steps = step_open core new e reached opened (turn_wanted n before core e after own) steps

pub work_open : (core new : Core) (e : Event) → IsReached core → AreOpen core → IsWork e → stepping core e ≡ Some new → AreOpen new
work_open core new e reached opened work steps = step_open core new e reached opened (work_wanted core e work) steps

pub opening_open : (size : Size) → AreOpen (opening size)
opening_open size place = subst IsOpen (sym (none_there (2 * size.nodes * size.nodes) place)) tt

pub drained_open : (core : Core) → IsDrained core → AreOpen core
drained_open core drained place = subst IsOpen (sym (drained.lanes place)) tt
