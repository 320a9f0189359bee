-- What a step of one node leaves of the reads that are under way in a machine that works by turns: each packet stays as it is, and so does
-- its asker, or it no longer awaits a read.
use Rattle.std.proofs.Common.{◌≡◌, ◌≢◌, ◌<◌, ◌⊎◌, ℕ, zero, suc, Bool, true, false, if◌then◌else◌, cond, arith, List, [], ◌∷◌, filter, get_or, length, set}
use Rattle.std.proofs.Common.{Option, Some, None, refl, sym, ap, subst, ◌∙◌, inl, inr, rules, get_or-set_other, ◌%◌}
use Rattle.std.proofs.lemmas.{Bool.{cases_eq, cases_lt}, List.{get_or_past}}
use Rattle.std.specs.{Prelude.{IfSome, option_to_list}, List.{AllByRecursion, flat_map}}
use Rattle.sci_words.specs.declared.{event.{AskKind.{AskKind}}, operation.Op.{Op}}
use Rattle.sci_history.specs.declared.entry.Entry.{Entry}
use Rattle.sci_packets.specs.{declared.body.Body.{Body}, Table.{is_request}}
use Rattle.sci_home.specs.{declared.state.HomeState.{HomeState}, Serving.{home_serving}}
use Rattle.sci_cache.specs.{State.{CacheState, Asking, waits}, Accepting.{accepting}, Asking.{Asked, asking}, Performing.{Performed, performing}}
use Rattle.sci_cache.specs.Serving.{serving}
use Rattle.sci_cache.specs.Line.{LineState, ask_or_fault, line_asked, line_in, untouched}
use Rattle.sci_cache.specs.Cache.{CacheOf, Letter, cache_asked, letter_asking}
use Rattle.sci_cache.specs.Cache.{line_of, with_line}
use Rattle.sci_core.specs.Core.{Core, lane_at, node_at, with_node}
use Rattle.sci_core.specs.Node.{IsNode, IsPendingOn, NodeOf, answering, asked_by, lines_of, may_issue, no_node, node_issued}
use Rattle.sci_core.specs.Node.{node_asking, node_issuing, node_performing}
use Rattle.sci_core.specs.Node.{pending_on}
use Rattle.sci_core.specs.{Reached.{IsReached}, Sharing.{asker_of, is_about, packets_of, under_way}}
use Rattle.sci_core.specs.{Tidy.{HasItsPackets}}
use Rattle.sci_core.proofs.{History.Pendings.{issue_puts, perform_puts}}
use Rattle.sci_core.proofs.Basics.{Lists.{at_place_set, at_set}, Options.{if_below, of_some}}
use Rattle.sci_core.proofs.Step.NodeSides.{AcceptedAs, At_home, In_cache, PerformedAs, RefusedAs, ServedAs, perform_as}
use Rattle.sci_core.proofs.Tidy.{TidyRuns.{reached_tidy}, TidySteps.{about_from, answer_asker, request_asker}}
use Rattle.sci_policy.specs.{Lines.{state_on}, Policy.{is_cread}}
use Rattle.sci_turn.{proofs.Working.{own_node}}
use Rattle.sci_fair.specs.{Rank.{fits_read, suits, work_in, work_on}, Reads.{FitsRead, ReadsFit}}
use Rattle.sci_fair.proofs.{Opens.{all_parts}}

-- ---- the tables

none_fits : (body : Body) → fits_read None body ≡ false
none_fits body = search rules

home_fits : (work : Option Bool) (home : HomeState) (n : ℕ) (body : Body) → fits_read work body ≡ true
    → IfSome (home_serving home n body) (λ (served : HomeState × Body). fits_read work served.1 ≡ true)
home_fits work home n body fits = search rules

cache_none : (work : Option Bool) (state : CacheState) (n : ℕ) (body : Body) → fits_read work body ≡ true → serving state n body ≡ None
cache_none work state n body fits = search rules

fits_no_cread : (work : Option Bool) (body : Body) → fits_read work body ≡ true → is_cread body ≡ true → ⊥
fits_no_cread work body fits cread = search rules

pub asked_fits : (work : Option Bool) (state : CacheState) (k : AskKind) → suits work k ≡ true
    → IfSome (asking state k) (λ (asked : Asked). asked.next ≡ Asking → fits_read work asked.request ≡ true)
asked_fits work state k suit = search rules

-- no line comes to await a read but by an ask
accepts_none : (state : CacheState) (answer : Body) → IfSome (accepting state answer) (λ next. next ≡ Asking → ⊥)
accepts_none state answer = search rules

serves_none : (state : CacheState) (n : ℕ) (request : Body) → IfSome (serving state n request)
    (λ (served : CacheState × Body). served.0 ≡ Asking → state ≡ Asking)
serves_none state n request = search rules

performs_none : (state : CacheState) (op : Op) → IfSome (performing state op) (λ (done : Performed). done.next ≡ Asking → ⊥)
performs_none state op = search rules

-- ---- what a change of one node leaves of what is under way

-- if a line awaits a read then, it did, and the same is pending there, or nothing was
abbrev pub Carries : NodeOf → NodeOf → ℕ → Type 0
Carries old next line = state_on next line ≡ Asking
    → (state_on old line ≡ Asking) × ((work_on old line ≡ work_on next line) ⊎ (work_on old line ≡ None))

fits_still : (old new : Option Bool) (body : Body) → fits_read old body ≡ true → (old ≡ new) ⊎ (old ≡ None) → fits_read new body ≡ true
fits_still old new body fits (inl same) = subst (λ (w : Option Bool). fits_read w body ≡ true) same fits
fits_still old new body fits (inr none) =
    let clash : false ≡ true = sym (none_fits body) ∙ subst (λ (w : Option Bool). fits_read w body ≡ true) none fits in cc

module _ (core new : Core) (n : ℕ) (others : (m : ℕ) → m ≢ n → node_at new m ≡ node_at core m) where
  carried : (letter : Letter) → (asker_of letter ≡ n → Carries (node_at core n) (node_at new n) letter.line) → FitsRead core letter → FitsRead new letter
  carried letter carries fits = grind (arith, cases_eq, fits_still, others)

  -- each packet of a list
  all_carried : (lane : List Letter) → AllByRecursion (λ letter. asker_of letter ≡ n → Carries (node_at core n) (node_at new n) letter.line) lane
      → AllByRecursion (FitsRead core) lane → AllByRecursion (FitsRead new) lane
  all_carried [] carries fit = tt
  all_carried (letter ∷ lane) carries fit = (carried letter carries.0 fit.0, all_carried lane carries.1 fit.1)

  one_carried : (o : Option Letter) → IfSome o (λ letter. asker_of letter ≡ n → Carries (node_at core n) (node_at new n) letter.line)
      → IfSome o (FitsRead core) → IfSome o (FitsRead new)
  one_carried None carries fit = tt
  one_carried (Some letter) carries fit = carried letter carries fit

-- ---- a whole step

-- each packet is about a line that the change carries
all_of : (P : Letter → Type 0) → ((letter : Letter) → P letter) → (lane : List Letter) → AllByRecursion P lane
all_of P each [] = tt
all_of P each (letter ∷ lane) = (each letter, all_of P each lane)

any_of : (P : Letter → Type 0) → ((letter : Letter) → P letter) → (o : Option Letter) → IfSome o P
any_of P each None = tt
any_of P each (Some letter) = each letter

-- the lines of the packets under way, as far as node n asked for them, are carried
pub record CarriesAll (core : Core) (n : ℕ) (next : NodeOf) : Type 0 where
  pub waiting : (m : ℕ) → IfSome (node_at core m).waiting (λ letter. asker_of letter ≡ n → Carries (node_at core n) next letter.line)
  pub lanes : (place : ℕ) → AllByRecursion (λ letter. asker_of letter ≡ n → Carries (node_at core n) next letter.line) (lane_at core place)

pub each_line : (core : Core) (n : ℕ) (next : NodeOf) → ((line : ℕ) → Carries (node_at core n) next line) → CarriesAll core n next
each_line core n next carries = grind (arith, any_of, all_of)

-- the others, and this node, after its change
pub record Changed (core new : Core) (n : ℕ) (next : NodeOf) : Type 0 where
  pub others : (m : ℕ) → m ≢ n → node_at new m ≡ node_at core m
  pub own : node_at new n ≡ next

pub changed_by : (core new : Core) (n : ℕ) (next : NodeOf) → IsReached core → n < core.size.nodes
    → ((k : ℕ) → node_at new k ≡ node_at (with_node core n next) k) → Changed core new n next
changed_by core new n next reached some parts = record {
  others = λ m other. parts m ∙ get_or-set_other core.parts n m next no_node other;
  own = parts n ∙ own_node core n next reached some;
}

module _ (core new : Core) (n : ℕ) (next : NodeOf) (changed : Changed core new n next) (fit : ReadsFit core) (carries : CarriesAll core n next) where
  pub lane_fits : (place : ℕ) → AllByRecursion (FitsRead new) (lane_at core place)
  lane_fits place =
      all_carried core new n changed.others (lane_at core place)
      (subst (λ (part : NodeOf). AllByRecursion (λ letter. asker_of letter ≡ n → Carries (node_at core n) part letter.line) (lane_at core place))
      (sym changed.own) (carries.lanes place)) (fit.lanes place)

  pub waiting_fits : (m : ℕ) → IfSome (node_at core m).waiting (FitsRead new)
  waiting_fits m =
      one_carried core new n changed.others (node_at core m).waiting
      (subst (λ (part : NodeOf). IfSome (node_at core m).waiting (λ letter. asker_of letter ≡ n → Carries (node_at core n) part letter.line))
      (sym changed.own) (carries.waiting m)) (fit.waiting m)

  -- with what waits at the node then, and one lane that has changed
  pub step_fits : (place : ℕ) (lane : List Letter) → IfSome next.waiting (FitsRead new) → new.lanes ≡ set core.lanes place lane
      → AllByRecursion (FitsRead new) lane → ReadsFit new
  step_fits place lane waits is here = record {
    waiting = λ m. elim (cases_eq m n) [
      | inl same ↦ subst (λ (k : ℕ). IfSome (node_at new k).waiting (FitsRead new)) (sym same)
          (subst (λ (part : NodeOf). IfSome part.waiting (FitsRead new)) (sym changed.own) waits)
      | inr other ↦ subst (λ (part : NodeOf). IfSome part.waiting (FitsRead new)) (sym (changed.others m other)) (waiting_fits m)
    ];
    lanes = λ p. subst (λ (lanes : List (List Letter)). AllByRecursion (FitsRead new) (get_or lanes p [])) (sym is)
        (at_set (AllByRecursion (FitsRead new)) core.lanes place lane [] lane_fits here p);
  }

  -- or none
  pub still_fits : IfSome next.waiting (FitsRead new) → new.lanes ≡ core.lanes → ReadsFit new
  still_fits waits is = record {
    waiting = λ m. elim (cases_eq m n) [
      | inl same ↦ subst (λ (k : ℕ). IfSome (node_at new k).waiting (FitsRead new)) (sym same)
          (subst (λ (part : NodeOf). IfSome part.waiting (FitsRead new)) (sym changed.own) waits)
      | inr other ↦ subst (λ (part : NodeOf). IfSome part.waiting (FitsRead new)) (sym (changed.others m other)) (waiting_fits m)
    ];
    lanes = λ p. subst (λ (lanes : List (List Letter)). AllByRecursion (FitsRead new) (get_or lanes p [])) (sym is) (lane_fits p);
  }

-- ---- what each event carries

-- the same is pending on each line, and one line has another state
state_carried : (node : NodeOf) (line : ℕ) (part : LineState) → (part.state ≡ Asking → state_on node line ≡ Asking) → (k : ℕ)
    → (line_of (with_line node.cache line part) k).state ≡ Asking → state_on node k ≡ Asking
state_carried node line part was =
    at_place_set (λ (k : ℕ) (l : LineState). l.state ≡ Asking → state_on node k ≡ Asking) node.cache.lines line part untouched (λ k is. is) was

pub serve_carries : (node next : NodeOf) (request : Letter) → ServedAs node request next → (line : ℕ) → Carries node next line
serve_carries node next request (At_home served home is made) line =
    subst (λ (part : NodeOf). Carries node part line) made (λ asking. (asking, inl refl))
serve_carries node next request (In_cache served is made) line = grind (arith, of_some, serves_none, state_carried)

pub accept_carries : (node next : NodeOf) (answer : Letter) → AcceptedAs node answer next → (line : ℕ) → Carries node next line
accept_carries node next answer does line = grind (arith, of_some, accepts_none, state_carried)

pub issued_cache : (b : Bool) (node : NodeOf) (op : Op) → IfSome (if b then Some (node_issued node op) else None) (λ next. next.cache ≡ node.cache)
issued_cache true node op = refl
issued_cache false node op = tt

pub issued_waiting : (b : Bool) (node : NodeOf) (op : Op) → IfSome (if b then Some (node_issued node op) else None) (λ next. next.waiting ≡ node.waiting)
issued_waiting true node op = refl
issued_waiting false node op = tt

pub issue_carries : (node next : NodeOf) (op : Op) → IsNode node → node_issuing node op ≡ Some next → (line : ℕ) → Carries node next line
issue_carries node next op fits is line = λ asking.
    let issued = issue_puts node next op fits is in
    let cache = of_some (λ (part : NodeOf). part.cache ≡ node.cache) (node_issuing node op) next is (issued_cache (may_issue node op) node op) in (
      ap (λ (c : CacheOf). (line_of c line).state) (sym cache) ∙ asking,
      elim (cases_eq line op.line) [
        | inl same ↦ inr (ap work_in (ap (pending_on node) same ∙ issued.free))
        | inr other ↦ inl (ap work_in (sym (issued.others line other)))
      ],
    )

asking_never : (op : Op) → performing Asking op ≡ None
asking_never op = search rules

never_performs : (state : CacheState) (op : Op) (done : Performed) → performing state op ≡ Some done → state ≡ Asking → ⊥
never_performs state op done is asking =
    let clash : None ≡ Some done = sym (asking_never op) ∙ subst (λ (s : CacheState). performing s op ≡ Some done) asking is in cc

pub perform_carries : (node : NodeOf) (line : ℕ) (done : NodeOf × Entry) → IsNode node → node_performing node line ≡ Some done → (k : ℕ) → Carries node done.0 k
perform_carries node line done fits is k = λ asking.
    let told = of_some (PerformedAs node line) (node_performing node line) done is (perform_as node line) in
    let op = told.pending.op in
    let logged = perform_puts node done.0 line done.1 fits is in
    let here : op.line ≡ line = (of_some (IsPendingOn node.issued line) (pending_on node line) told.pending told.here (fits.each line)).here in
    let never = of_some (λ (d : Performed). d.next ≡ Asking → ⊥) (performing (state_on node op.line) op) told.did told.performs
    (performs_none (state_on node op.line) op)
    in
    let was : state_on node k ≡ Asking =
    state_carried node op.line (line_in (line_of node.cache op.line) told.did.next) (λ now. absurd (never now)) k
    (ap (λ (part : NodeOf). state_on part k) told.next ∙ asking) in (
      was,
      elim (cases_eq k line) [
        | inl same ↦ absurd (never_performs (state_on node op.line) op told.did told.performs (ap (state_on node) (here ∙ sym same) ∙ was))
        | inr other ↦ inl (ap work_in (sym (logged.others k other)))
      ],
    )

-- ---- an ask

pub record AsksAs (node : NodeOf) (line : ℕ) (k : AskKind) (sent : NodeOf × Letter) : Type 0 where
  pub asked : Asked
  pub asks : asking (state_on node line) k ≡ Some asked
  pub next : (record node { cache = with_line node.cache line (line_asked (line_of node.cache line) asked) }) ≡ sent.0
  pub letter : letter_asking node.cache line asked ≡ sent.1
  pub below : line < lines_of node

made_as : (node : NodeOf) (line : ℕ) (k : AskKind) (lacks : Bool) (made : Option Asked) → asking (state_on node line) k ≡ made → line < lines_of node
    → IfSome (asked_by node (cache_asked node.cache line (ask_or_fault made lacks))) (AsksAs node line k)
made_as node line k lacks None is below = tt
made_as node line k true (Some asked) is below = tt
made_as node line k false (Some asked) is below = record { asked = asked; asks = is; next = refl; letter = refl; below = below }

pub ask_as : (node : NodeOf) (line : ℕ) (k : AskKind) → IfSome (node_asking node line k) (AsksAs node line k)
ask_as node line k = grind (arith, if_below, made_as)

pub asks_free : (state : CacheState) (k : AskKind) → IfSome (asking state k) (λ (asked : Asked). waits state ≡ false)
asks_free state k = search rules

pub asks_request : (state : CacheState) (k : AskKind) → IfSome (asking state k) (λ (asked : Asked). is_request asked.request ≡ true)
asks_request state k = search rules

-- a line that doesn't wait has no packet under way
packets_none : (home : ℕ) (line : LineState) (packets : List Letter) → HasItsPackets home line packets → waits line.state ≡ false → packets ≡ []
packets_none home line [] has idle = refl
packets_none home line (letter ∷ []) has idle = let clash : true ≡ false = sym has.waiting ∙ idle in cc
packets_none home line (letter ∷ another ∷ packets) has idle = elim has [ ]

none_if : {X : Type 0} (b : Bool) (x : X) (xs : List X) → cond b (x ∷ xs) xs ≡ [] → (b ≡ false) × (xs ≡ [])
none_if true x xs is = cc
none_if false x xs is = (refl, is)

filter_none : (p : Letter → Bool) (xs : List Letter) → filter p xs ≡ [] → AllByRecursion (λ x. p x ≡ false) xs
filter_none p [] is = tt
filter_none p (x ∷ xs) is = let parts = none_if (p x) x (filter p xs) is in (parts.0, filter_none p xs parts.1)

flat_each : {X : Type 0} (P : Letter → Type 0) (f : X → List Letter) (xs : List X) (i : ℕ) (d : X) → i < length xs → AllByRecursion P (flat_map f xs)
    → AllByRecursion P (f (get_or xs i d))
flat_each P f [] i d below all = absurd (omega (arith, below))
flat_each P f (x ∷ xs) zero d below all = (all_parts P (f x) (flat_map f xs) all).0
flat_each P f (x ∷ xs) (suc i) d below all = flat_each P f xs i d (omega (arith, below)) (all_parts P (f x) (flat_map f xs) all).1

some_of : (P : Letter → Type 0) (o : Option Letter) → AllByRecursion P (option_to_list o) → IfSome o P
some_of P None all = tt
some_of P (Some letter) all = all.0

-- so an ask about a line carries each packet: none is about the line
module _ (core : Core) (n line : ℕ) (part : LineState) (reached : IsReached core) (some : n < core.size.nodes) (inside : line < core.size.lines)
    (idle : waits (state_on (node_at core n) line) ≡ false) where
  abbrev next : NodeOf
  next = record (node_at core n) { cache = with_line (node_at core n).cache line part }

  abbrev Elsewhere : Letter → Type 0
  Elsewhere letter = is_about n line letter ≡ false

  none_about : AllByRecursion Elsewhere (under_way core)
  none_about =
      filter_none (is_about n line) (under_way core)
      (packets_none (line % core.size.nodes) (line_of (node_at core n).cache line) (packets_of core n line) (reached_tidy core reached n line some inside) idle)

  elsewhere : AllByRecursion Elsewhere (flat_map (λ (p : NodeOf). option_to_list p.waiting) core.parts)
      × AllByRecursion Elsewhere (flat_map (λ (lane : List Letter). lane) core.lanes)
  elsewhere =
      all_parts Elsewhere (flat_map (λ (p : NodeOf). option_to_list p.waiting) core.parts) (flat_map (λ (lane : List Letter). lane) core.lanes) none_about

  other_line : (letter : Letter) → Elsewhere letter → asker_of letter ≡ n → Carries (node_at core n) next letter.line
  other_line letter away own = grind (arith, cases_eq, about_from, get_or-set_other)

  others_carried : (lane : List Letter) → AllByRecursion Elsewhere lane
      → AllByRecursion (λ letter. asker_of letter ≡ n → Carries (node_at core n) next letter.line) lane
  others_carried [] away = tt
  others_carried (letter ∷ lane) away = (other_line letter away.0, others_carried lane away.1)

  pub ask_carries : CarriesAll core n next
  ask_carries = record {
    waiting = λ m. some_of (λ letter. asker_of letter ≡ n → Carries (node_at core n) next letter.line) (node_at core m).waiting
        (others_carried (option_to_list (node_at core m).waiting) (elim (cases_lt m (length core.parts)) [
          | inl below ↦ flat_each Elsewhere (λ (p : NodeOf). option_to_list p.waiting) core.parts m no_node below elsewhere.0
          | inr past ↦ subst (λ (p : NodeOf). AllByRecursion Elsewhere (option_to_list p.waiting)) (sym (get_or_past core.parts m no_node past)) tt
        ]));
    lanes = λ place. others_carried (lane_at core place) (elim (cases_lt place (length core.lanes)) [
      | inl below ↦ flat_each Elsewhere (λ (lane : List Letter). lane) core.lanes place [] below elsewhere.1
      | inr past ↦ subst (AllByRecursion Elsewhere) (sym (get_or_past core.lanes place [] past)) tt
    ]);
  }

-- ---- the answers

answer_fits : (core : Core) (request : Letter) (body : Body) → is_request request.body ≡ true → is_request body ≡ false
    → ((work : Option Bool) → fits_read work request.body ≡ true → fits_read work body ≡ true) → FitsRead core request → FitsRead core (answering request body)
answer_fits core request body asks answers fits_on fit = grind (arith, answer_asker, request_asker)

home_answers : (home : HomeState) (n : ℕ) (body : Body) → IfSome (home_serving home n body) (λ (served : HomeState × Body). is_request served.1 ≡ false)
home_answers home n body = search rules

cache_answers : (state : CacheState) (n : ℕ) (body : Body) → IfSome (serving state n body) (λ (served : CacheState × Body). is_request served.1 ≡ false)
cache_answers state n body = search rules

-- what waits at a node that has served a request
pub served_waiting : (core : Core) (node next : NodeOf) (request : Letter) → is_request request.body ≡ true → FitsRead core request → ServedAs node request next
    → IfSome next.waiting (FitsRead core)
served_waiting core node next request asks fit (At_home served home is made) = grind (arith, of_some, home_answers, answer_fits, home_fits)
served_waiting core node next request asks fit (In_cache served is made) = grind (arith, of_some, cache_answers, answer_fits, cache_none)

pub refused_waiting : (core : Core) (node later : NodeOf) (request : Letter) → is_request request.body ≡ true → is_cread request.body ≡ true
    → FitsRead core request
    → RefusedAs node request later → IfSome later.waiting (FitsRead core)
refused_waiting core node later request asks cread fit does = grind (arith, answer_fits, fits_no_cread)
