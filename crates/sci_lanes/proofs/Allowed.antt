-- Each kind of step keeps the rule, and tells its seat what it should.
use Rattle.std.proofs.Common.{◌≡◌, ◌≢◌, ℕ, ◌+◌, ◌%◌, ◌<◌, inl, inr, Bool, true, false, if◌then◌else◌, eqb, List, [], ◌∷◌, length, get_or, set, refl, sym}
use Rattle.std.proofs.Common.{ap, subst, ◌∙◌, arith}
use Rattle.std.proofs.lemmas.Bool.{and_parts, and_left, both_ways, not-true, eq-eqb, eqb-true, ne_eqb, cases_lt}
use Rattle.std.proofs.lemmas.List.{set-get_or}
use Rattle.std.specs.Prelude.{map, not}
use mathlib.Core.Option.{some, none}
use lib.ListN.{get_elem?}
use Rattle.atomic_table.specs.Table.{State, Me, step, keeps, Allows}
use Rattle.atomic_table.proofs.Lists.{set_here}
use Rattle.sci_packets.specs.declared.packet.Packet.{Packet}
use Rattle.sci_core.specs.{Size.{Size}, Node.{NodeOf}, Core.{AreEnabled, Core, lane_at, run}, Reached.{IsReached}}
use Rattle.sci_words.specs.declared.event.Event.{Event}
use Rattle.sci_cache.specs.Cache.{Letter, letter_of}
use Rattle.sci_core.proofs.Step.Stepping.{if_false}
use Rattle.sci_lanes.specs.declared.view.{Outbound.{Outbound}, Inbound.{Inbound}, Part.{Part}, View.{View}}
use Rattle.sci_lanes.specs.Cells.{cell_place, lane_count, sender_of, receiver_of, word_at}
use Rattle.sci_lanes.specs.Shown.{Fits, ShowsLane, Whole, nodes_of, me_of, single, informed, outbound_at, inbound_at, IsKnown, Shows, IsKept}
use Rattle.sci_lanes.specs.Knowing.{has_sent_more, is_sending, is_receiving, looked_out, looked_in, looked, with_lane_known}
use Rattle.sci_lanes.specs.{Telling.{IsShown, IsSameNode, Tells, size_in}, Plays.{lane_in, number_in, index_in, Looks}}
use Rattle.sci_lanes.proofs.{TableWords.{same_cell}, LaneSteps.{first_full, out_looked, in_looked, sender_finds_empty}}
use Rattle.sci_lanes.proofs.{Keeping.{no_further, within}, Turning.{IsTurn, turned_whole, lane_step}}
use Rattle.sci_lanes.proofs.Facts.{lane_length, known_part, shown}

-- ---- places of words

pub lane_found : (lane turn index : ℕ) → index < 11 → lane_in (cell_place lane turn + index) ≡ lane
unfolding cell_place
lane_found lane turn index few = omega arith

pub number_found : (lane turn index : ℕ) → index < 11 → number_in (cell_place lane turn + index) ≡ turn % 4
unfolding cell_place
number_found lane turn index few = omega arith

pub index_found : (lane turn index : ℕ) → index < 11 → index_in (cell_place lane turn + index) ≡ index
unfolding cell_place
index_found lane turn index few = omega arith

-- ---- one step

-- after a step of a seat that has one node, words and views show a state, and the seat's part is of it
pub record Goes (size : Size) (s : State (Unit {0}) View) (id place value : ℕ) (part next : Part) : Type 0 where
  pub kept : IsKept size (record { words = set s.words place value; homes = s.homes; views = set s.views id (single next) })
  pub shown : IsShown next
  pub same : IsSameNode part next

-- the size of a part's node is the machine's
pub size_known : (x : Whole) (seat : ℕ) (part : Part) (size : Size) → IsReached x.core → x.core.size ≡ size → IsKnown x seat part → size_in part ≡ size
size_known x seat part size reached sized k = let p = known_part x seat part reached k in sizes (size_in part) x.core.size p.all p.each p.room p.most ∙ sized
  where
    sizes : (a b : Size) → a.nodes ≡ b.nodes → a.lines ≡ b.lines → a.slots ≡ b.slots → a.limit ≡ b.limit → a ≡ b
    sizes a b n l s m = λ i. record { nodes = n i; lines = l i; slots = s i; limit = m i }

-- the schedule of the whole leads a part's machine to its state
pub leads_here : (x : Whole) (seat : ℕ) (part : Part) (size : Size) (schedule : List Event) → IsReached x.core → x.core.size ≡ size
    → run size x.schedule ≡ x.core → IsKnown x seat part → schedule ≡ x.schedule → run (size_in part) schedule ≡ x.core
leads_here x seat part size schedule reached sized leads k same = (λ i. run (size_known x seat part size reached sized k i) (same i)) ∙ leads

pub goes : (size : Size) (s : State (Unit {0}) View) (kept : IsKept size s) (id place value : ℕ) (part next : Part) (y : Whole) → IsReached y.core
    → y.core.size ≡ size → run size y.schedule ≡ y.core → AreEnabled size [] y.schedule → next.schedule ≡ y.schedule → get_elem? s.views id ≡ some (single part)
    → me_of next ≡ me_of part
    → Shows y (set s.words place value) (set s.views id (single next)) → Goes size s id place value part next
goes size s kept id place value part next y reached sized leads enabled all here same_me shows =
    let there = set_here s.views id (single next) (within s.views id (single part) here) in
    record {
      kept = record { whole = y; reached = reached; sized = sized; leads = leads; enabled = enabled; shown = shows };
      shown = shown y (set s.words place value) (set s.views id (single next)) id next reached
          (leads_here y id next size next.schedule reached sized leads (shows.known id (single next) there).0 all)
          (subst (λ (z : Size). AreEnabled z [] next.schedule) (sym (size_known y id next size reached sized (shows.known id (single next) there).0))
          (subst (λ (es : List Event). AreEnabled size [] es) (sym all) enabled)) shows there;
      same = record {
        me = same_me;
        sized = size_known y id next size reached sized (shows.known id (single next) there).0
            ∙ sym (size_known kept.whole id part size kept.reached kept.sized (kept.shown.known id (single part) here).0);
      };
    }

-- after a step on one lane
pub lane_goes : (size : Size) (s : State (Unit {0}) View) (kept : IsKept size s) (id lane turn index place value : ℕ) (part : Part) {core : Core}
    {schedule : List Event} {next : NodeOf} {o o' : Outbound} {i i' : Inbound} → get_elem? s.views id ≡ some (single part) → index < 11
    → place ≡ cell_place lane turn + index → IsReached core → run size schedule ≡ core → AreEnabled size [] schedule
    → IsTurn kept.whole part lane core schedule next o o' i i'
    → ShowsLane (set s.words (cell_place lane turn + index) value) lane (lane_at core lane) o' i'
    → Goes size s id place value part (informed schedule (with_lane_known lane next o i part))
lane_goes size s kept id lane turn index place value part {core = core} {schedule = schedule} {next = next} {o = o} {o' = o'} {i = i} {i' = i'} here few is
    reached leads enabled t shows =
    let later = informed schedule (with_lane_known lane next o i part) in
    let y = turned_whole kept.whole lane core schedule o' i' in
    goes size s kept id place value part later y reached (t.size ∙ kept.sized) leads enabled refl here t.me
    (subst (λ (p : ℕ). Shows y (set s.words p value) (set s.views id (single later))) (sym is)
    (lane_step kept.whole s.words s.views id lane turn index value part core schedule next o o' i i' kept.shown here few t shows))

-- what holds of the size's number of nodes holds of the whole's
pub of_whole : {size : Size} {s : State (Unit {0}) View} (kept : IsKept size s) (P : ℕ → Type 0) → P size.nodes → P (nodes_of kept.whole)
of_whole kept P h = subst P (sym (ap (λ z. z.nodes) kept.sized)) h

-- what it tells
abbrev pub tells : {how : List Event → Type 0} {size : Size} {s : State (Unit {0}) View} {id place value : ℕ} {part next : Part} {schedule : List Event}
    → Goes size s id place value part (informed schedule next) → how schedule → Tells how part next (single (informed schedule next), [])
tells {schedule = schedule} went how = record { schedule = schedule; view = refl; shown = went.shown; same = went.same; went = how }

-- what a step owes, and what it tells
abbrev pub Owes : Size → ℕ → ℕ → Part → (ℕ → ℕ) → (ℕ → Me (Unit {0}) View → Type 0) → Type 0
Owes size id place part f told = (s : State (Unit {0}) View) (kept : IsKept size s) → get_elem? s.views id ≡ some (single part)
    → IsKnown kept.whole id part → (next : Part) × Goes size s id place (f (get_or s.words place 0)) part next × told (get_or s.words place 0) (single next, [])

pub allows : (size : Size) (slots id place : ℕ) (part : Part) (f : ℕ → ℕ) (told : ℕ → Me (Unit {0}) View → Type 0) → Owes size id place part f told
    → Allows (IsKept size) slots id (single part, []) place f told
allows size slots id place part f told owes s kept long here fits =
    let o = owes s kept here (kept.shown.known id (single part) here).0 in (single o.0, keeps, tt, o.1.kept, o.2)

-- ---- steps that are no event

-- the state stays
pub still : (x : Whole) (seat : ℕ) (part : Part) (lane : ℕ) (o o' : Outbound) (i i' : Inbound) → IsKnown x seat part → lane < lane_count (nodes_of x)
    → (sender_of (nodes_of x) lane ≡ me_of part → o ≡ o') → (sender_of (nodes_of x) lane ≢ me_of part → o' ≡ x.outbound lane)
    → (receiver_of (nodes_of x) lane ≡ me_of part → i ≡ i') → (receiver_of (nodes_of x) lane ≢ me_of part → i' ≡ x.inbound lane)
    → IsTurn x part lane x.core x.schedule part.node o o' i i'
still x seat part lane o o' i i' k lt sender not_sender receiver not_receiver = record {
  lane_ok = lt;
  size = refl;
  further = no_further (me_of part) x.schedule;
  others = λ n apart. refl;
  mine = k.node;
  me = refl;
  lanes = λ other apart. refl;
  sender = sender;
  not_sender = not_sender;
  receiver = receiver;
  not_receiver = not_receiver;
}

-- a cell that is next for this end
next_cell : (words : List ℕ) (lane turn number count : ℕ) → eqb number (count % 4) ≡ true → turn % 4 ≡ number % 4
    → get_or words (cell_place lane turn + 0) 0 ≡ word_at words lane count 0
next_cell words lane turn number count is same =
    let e = eqb-true number (count % 4) is in
    ap (λ (place : ℕ). get_or words (place + 0) 0) (same_cell lane turn count (omega arith))

maybe_out : (b : Bool) (words : List ℕ) (lane word : ℕ) (packets : List Packet) (o : Outbound) (i : Inbound) → (b ≡ true → word ≡ word_at words lane o.sent 0)
    → Fits words lane packets o i
    → Fits words lane packets (if b then looked_out word o else o) i
maybe_out true words lane word packets o i is f =
    subst (λ (w : ℕ). Fits words lane packets (looked_out w o) i) (sym (is refl)) (out_looked words lane packets o i f)
maybe_out false words lane word packets o i is f = f

maybe_in : (b sure : Bool) (words : List ℕ) (lane word : ℕ) (packets : List Packet) (o : Outbound) (i : Inbound)
    → (b ≡ true → word ≡ word_at words lane i.taken 0) → (b ≡ true → sure ≡ true → 0 < length packets) → Fits words lane packets o i
    → Fits words lane packets o (if b then looked_in sure word i else i)
maybe_in true sure words lane word packets o i is there f =
    subst (λ (w : ℕ). Fits words lane packets o (looked_in sure w i)) (sym (is refl)) (in_looked words lane packets o i sure (there refl) f)
maybe_in false sure words lane word packets o i is there f = f

-- no packet is in a lane whose next cell to take from is empty
emptied : (words : List ℕ) (place : ℕ) (lane : List Letter) (o : Outbound) (i : Inbound) → ShowsLane words place lane o i → word_at words place i.taken 0 ≡ 0
    → lane ≡ []
emptied words place lane o i shows none_ = by_packets shows.packets shows.letters shows.fits
  where
    by_packets : (packets : List Packet) → map letter_of packets ≡ lane → Fits words place packets o i → lane ≡ []
    by_packets [] letters fits = sym letters
    by_packets (p ∷ packets) letters fits = let some_ = first_full words place (p ∷ packets) o i fits (omega arith) in absurd (omega arith)

pub looks : (size : Size) (slots id lane number : ℕ) (part : Part) → lane < lane_count size.nodes → number < 4
    → Allows (IsKept size) slots id (single part, []) (cell_place lane number + 0) (λ n. n)
    (Looks (step slots (cell_place lane number + 0) 0 0 none) (single part, []))
looks size slots id lane number part lt few = allows size slots id place part (λ n. n) (Looks (step slots place 0 0 none) (single part, [])) owes
  where
    place : ℕ
    place = cell_place lane number + 0

    owes : Owes size id place part (λ n. n) (Looks (step slots place 0 0 none) (single part, []))
    owes s kept here k = (
      informed x.schedule (looked lane number word part),
      went,
      rw (lane_found lane number 0 (omega arith), at_number) (record {
        tells = tells went k.seen;
        full = λ sends some. record {
          core = x.core;
          reached = kept.reached;
          leads = leads_here x id part size x.schedule kept.reached kept.sized kept.leads k refl;
          some_node = k.some_node;
          here = k.node;
          four = four (sends_here sends) some;
        };
        empty = λ receives zero_. subst (λ (c : Core). lane_at c lane ≡ [])
            (sym (leads_here x id part size x.schedule kept.reached kept.sized kept.leads k refl))
            (emptied s.words lane (lane_at x.core lane) (x.outbound lane) (x.inbound lane) old (sym (receives_here receives) ∙ zero_));
      }),
    )
      where
        x : Whole
        x = kept.whole

        word : ℕ
        word = get_or s.words place 0

        at_number : number_in place ≡ number
        at_number = let e = number_found lane number 0 (omega arith) in omega arith

        nodes : part.node.cache.nodes ≡ nodes_of x
        nodes = (known_part x id part kept.reached k).all

        lane_ok : lane < lane_count (nodes_of x)
        lane_ok = of_whole kept (λ n. lane < lane_count n) lt

        b : Bool
        b = is_sending part lane number

        c : Bool
        c = is_receiving part lane number

        sure : Bool
        sure = has_sent_more part lane

        o' : Outbound
        o' = if b then looked_out word (x.outbound lane) else x.outbound lane

        i' : Inbound
        i' = if c then looked_in sure word (x.inbound lane) else x.inbound lane

        out_is : sender_of (nodes_of x) lane ≡ me_of part → outbound_at part lane ≡ x.outbound lane
        out_is is = k.outbound lane lane_ok is

        in_is : receiver_of (nodes_of x) lane ≡ me_of part → inbound_at part lane ≡ x.inbound lane
        in_is is = k.inbound lane lane_ok is

        -- the node is at this end of the lane
        mine : (end_of : ℕ → ℕ → ℕ) → eqb (end_of part.node.cache.nodes lane) (me_of part) ≡ true → end_of (nodes_of x) lane ≡ me_of part
        mine end_of is = subst (λ (n : ℕ). end_of n lane ≡ me_of part) nodes (eqb-true (end_of part.node.cache.nodes lane) (me_of part) is)

        sends_here : b ≡ true → word ≡ word_at s.words lane (x.outbound lane).sent 0
        sends_here is =
            let both = and_parts (eqb (sender_of part.node.cache.nodes lane) (me_of part)) (eqb number ((outbound_at part lane).sent % 4)) is in
            subst (λ (o : Outbound). word ≡ word_at s.words lane o.sent 0) (out_is (mine sender_of both.0))
            (next_cell s.words lane number number (outbound_at part lane).sent both.1 refl)

        receives_here : c ≡ true → word ≡ word_at s.words lane (x.inbound lane).taken 0
        receives_here is =
            let both = and_parts (eqb (receiver_of part.node.cache.nodes lane) (me_of part)) (eqb number ((inbound_at part lane).taken % 4)) is in
            subst (λ (i : Inbound). word ≡ word_at s.words lane i.taken 0) (in_is (mine receiver_of both.0))
            (next_cell s.words lane number number (inbound_at part lane).taken both.1 refl)

        old : ShowsLane s.words lane (lane_at x.core lane) (x.outbound lane) (x.inbound lane)
        old = kept.shown.lanes lane lane_ok

        -- what the node has sent to itself and not taken is there
        surely : c ≡ true → sure ≡ true → 0 < length old.packets
        surely takes more =
            let both = and_parts (eqb (receiver_of part.node.cache.nodes lane) (me_of part)) (eqb number ((inbound_at part lane).taken % 4)) takes in
            let sends = and_parts (eqb (sender_of part.node.cache.nodes lane) (me_of part))
            (not (eqb (outbound_at part lane).sent (inbound_at part lane).taken)) more in
            let sent = ap (λ (o : Outbound). o.sent) (out_is (mine sender_of sends.0)) in
            let taken = ap (λ (i : Inbound). i.taken) (in_is (mine receiver_of both.0)) in
            let counted = old.fits.counted in
            elim (cases_lt 0 (length old.packets)) [
              | inl packets ↦ packets
              | inr few ↦
                  let same : (outbound_at part lane).sent ≡ (inbound_at part lane).taken = omega arith in
                  let yes = eq-eqb (outbound_at part lane).sent (inbound_at part lane).taken same in
                  absurd (both_ways (eqb (outbound_at part lane).sent (inbound_at part lane).taken) (not-true _ sends.1) yes)
            ]

        shows_lane : ShowsLane (set s.words place word) lane (lane_at x.core lane) o' i'
        shows_lane = record {
          packets = old.packets;
          letters = old.letters;
          fits = subst (λ (ws : List ℕ). Fits ws lane old.packets o' i') (sym (set-get_or s.words place 0))
              (maybe_in c sure s.words lane word old.packets o' (x.inbound lane) receives_here surely
              (maybe_out b s.words lane word old.packets (x.outbound lane) (x.inbound lane) sends_here old.fits));
        }

        went : Goes size s id place word part (informed x.schedule (looked lane number word part))
        went = lane_goes size s kept id lane number 0 place word part here (omega arith) refl kept.reached kept.leads kept.enabled
            (still x id part lane (if b then looked_out word (outbound_at part lane) else outbound_at part lane) o'
            (if c then looked_in sure word (inbound_at part lane) else inbound_at part lane) i' k lane_ok
            (λ is. ap (λ (o : Outbound). if b then looked_out word o else o) (out_is is))
            (λ apart. if_false b _ (x.outbound lane)
            (and_left (eqb (sender_of part.node.cache.nodes lane) (me_of part)) _
            (ne_eqb (sender_of part.node.cache.nodes lane) (me_of part) (λ e. apart (subst (λ (n : ℕ). sender_of n lane ≡ me_of part) nodes e)))))
            (λ is. ap (λ (i : Inbound). if c then looked_in sure word i else i) (in_is is))
            (λ apart. if_false c _ (x.inbound lane)
            (and_left (eqb (receiver_of part.node.cache.nodes lane) (me_of part)) _
            (ne_eqb (receiver_of part.node.cache.nodes lane) (me_of part) (λ e. apart (subst (λ (n : ℕ). receiver_of n lane ≡ me_of part) nodes e))))))
            shows_lane

        four : word ≡ word_at s.words lane (x.outbound lane).sent 0 → word ≢ 0 → length (lane_at x.core lane) ≡ 4
        four is some_word =
            let long = lane_length old in
            let room = old.fits.room in
            elim (cases_lt (length old.packets) 4) [
              | inl less ↦ absurd (some_word (is ∙ sender_finds_empty s.words lane old.packets (x.outbound lane) (x.inbound lane) old.fits less))
              | inr le ↦ omega arith
            ]
