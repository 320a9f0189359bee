-- A node of a reached state always wants something, unless nothing is pending or a line awaits an answer.
use Rattle.std.proofs.Common.{◌≡◌, ℕ, ◌<◌, ◌≤◌, ◌&&◌, not, Bool, true, false, if◌then◌else◌, get_or, Option, Some, None, refl, sym, ap, subst, ◌∙◌, arith}
use Rattle.std.proofs.Common.{inl, inr}
use Rattle.std.proofs.lemmas.Bool.{and_parts, and_right, cases_Bool, cases_lt, lt-ltb, not_from_true, or_right, true_from_ne_false}
use Rattle.std.proofs.lemmas.List.{get_or_past}
use Rattle.std.specs.{Prelude.{IfSome, IsSome, is_some, option_map}, Option.{option_or, option_and_then}}
use Rattle.sci_words.specs.declared.event.AskKind.{AskKind}
use Rattle.sci_cache.specs.State.{CacheState, Out, Joining, FreshJoining, Head, FreshHead, Below, Purging, Claiming, Clearing, Returning, Rolling, Telling}
use Rattle.sci_cache.specs.{State.{Fading, is_out, waits}, Line.{LineState, untouched}, Cache.{has_slot, slots_taken}}
use Rattle.sci_cache.specs.Kinds.{could_give_way, gives_way, joins, must_send}
use Rattle.sci_core.specs.{Node.{NodeOf, lines_of, node_performing, pending_on}, Reached.{IsReachedNode}}
use Rattle.sci_core.proofs.{History.Pendings.{sole_performs}, Settling.{GoingOn.{any_can_go_on}, Rest.{counted_none}}}
use Rattle.sci_core.proofs.WellFormed.WellFormedSteps.{any_part, reachable_node}
use Rattle.sci_policy.specs.declared.want.Want.{Want, TheVariants.{Perform, Ask}}
use Rattle.sci_policy.specs.Lines.{has_maker, has_pending, least, oldest, own_ask, some_line, state_on}
use Rattle.sci_policy.specs.Policy.{PolicyOf, ask_of, asked_in, asks_home_to_change, contents_wanted, due_wanted, has, held_back, is_purged, lacks_slot}
use Rattle.sci_policy.specs.Policy.{operation_asks, operation_wanted, perform_wanted, purge_wanted, read_kind, ruled, send_wanted, slot_for, slot_wanted}
use Rattle.sci_policy.specs.{Policy.{wanted}, Rest.{MayRest, NothingPending, Awaits}}
use Rattle.sci_policy.proofs.Found.{least_fits, least_none, least_some, none_passes, oldest_fits, oldest_some}
use Rattle.sci_words.specs.declared.event.AskKind.TheVariants as kind

-- ---- options

then_none : {A B : Type 0} (f : A → Option B) (o : Option A) (P : A → Type 0) → option_and_then f o ≡ None → is_some o ≡ true → IfSome o P
    → ((x : A) → P x → is_some (f x) ≡ true) → ⊥
then_none f None P none some h each = cc
then_none f (Some x) P none some h each = let there = each x h in let clash : is_some (f x) ≡ false = ap is_some none in let differ : true ≡ false =
    sym there ∙ clash in cc

or_first : {A : Type 0} (a b : Option A) → option_or a b ≡ None → a ≡ None
or_first None b e = refl
or_first (Some x) b e = cc

or_second : {A : Type 0} (a b : Option A) → option_or a b ≡ None → b ≡ None
or_second None b e = e
or_second (Some x) b e = cc

mapped_none : {A B : Type 0} (f : A → B) (o : Option A) → option_map f o ≡ None → is_some o ≡ true → ⊥
mapped_none f None none some = cc
mapped_none f (Some x) none some = cc

none_absent : {A : Type 0} (o : Option A) → is_some o ≡ false → o ≡ None
none_absent None e = refl
none_absent (Some x) e = cc

some_there : {A : Type 0} (o : Option A) → is_some o ≡ true → (x : A) × (o ≡ Some x)
some_there None e = cc
some_there (Some x) e = (x, refl)

-- ---- states of a line that doesn't wait

must_ask : (maker : Bool) (state : CacheState) → must_send state ≡ true
    → (k : AskKind) × (own_ask maker state ≡ Some k) × ((line : ℕ) → asks_home_to_change (Ask line k) ≡ false)
must_ask maker (Joining p false) e = (kind.Cread, refl, λ line. refl)
must_ask maker (FreshJoining p false c) e = (kind.Cread, refl, λ line. refl)
must_ask maker (Telling r w false) e = (kind.Setback, refl, λ line. refl)
must_ask maker _ e = cc

-- neither waits nor must send
pub record IsQuiet (state : CacheState) : Type 0 where
  pub idle : waits state ≡ false
  pub sent : must_send state ≡ false

unsent : (b : Bool) → b ≡ false → not b ≡ false → ⊥
unsent true e f = cc
unsent false e f = cc

quiet_joins : (state : CacheState) → IsQuiet state → joins state ≡ false
quiet_joins (Joining p sent) q = absurd (unsent sent q.idle q.sent)
quiet_joins (FreshJoining p sent c) q = absurd (unsent sent q.idle q.sent)
quiet_joins _ q = refl

quiet_gives : (state : CacheState) → IsQuiet state → gives_way state ≡ false
quiet_gives (Purging q c) h = let clash = h.idle in cc
quiet_gives (Claiming f c) h = let clash = h.idle in cc
quiet_gives (Clearing c) h = let clash = h.idle in cc
quiet_gives (Returning c) h = let clash = h.idle in cc
quiet_gives (Rolling f b c) h = let clash = h.idle in cc
quiet_gives (Telling r w sent) h = absurd (unsent sent h.idle h.sent)
quiet_gives Fading h = let clash = h.idle in cc
quiet_gives _ h = refl

quiet_could : (state : CacheState) → IsQuiet state → is_out state ≡ false → could_give_way state ≡ true
quiet_could Out h e = cc
quiet_could (Joining p sent) h e = absurd (unsent sent h.idle h.sent)
quiet_could (FreshJoining p sent c) h e = absurd (unsent sent h.idle h.sent)
quiet_could (Head f c) h e = refl
quiet_could (FreshHead f c) h e = refl
quiet_could (Below f b c) h e = refl
quiet_could (Telling r w sent) h e = absurd (unsent sent h.idle h.sent)
quiet_could _ h e = let clash = h.idle in cc

could_ask : (maker : Bool) (state : CacheState) → could_give_way state ≡ true → is_some (own_ask maker state) ≡ true
could_ask maker (Head None c) e = refl
could_ask maker (Head (Some f) c) e = refl
could_ask maker (FreshHead None c) e = refl
could_ask maker (FreshHead (Some f) c) e = refl
could_ask maker (Below f b c) e = refl
could_ask maker _ e = cc

is_mapped : {A B : Type 0} (f : A → B) (o : Option A) → is_some o ≡ true → is_some (option_map f o) ≡ true
is_mapped f None e = cc
is_mapped f (Some x) e = refl

could_want : (node : NodeOf) (line : ℕ) → could_give_way (state_on node line) ≡ true → is_some (ask_of node line) ≡ true
could_want node line could = is_mapped (Ask line) (own_ask (has_maker node line) (state_on node line))
    (could_ask (has_maker node line) (state_on node line) could)

-- ---- a node all of whose lines are quiet

pub record IsQuietNode (node : NodeOf) : Type 0 where
  pub lines : (line : ℕ) → line < lines_of node → IsQuiet (state_on node line)
  pub some_slot : 1 ≤ node.cache.slots
  pub sole : (line : ℕ) (c : _) → line < lines_of node → has_pending node line ≡ true → state_on node line ≡ Head None c → IsSome (node_performing node line)

-- some line has an entry if no slot is free
has_entry : (node : NodeOf) → 1 ≤ node.cache.slots → has_slot node.cache ≡ false → some_line node (λ line. not (is_out (state_on node line))) ≡ false → ⊥
has_entry node some full none =
    let out : (i : ℕ) → not (is_out (get_or node.cache.lines i untouched).state) ≡ false = λ i. elim (cases_lt i (lines_of node)) [
      | inl below ↦ least_none node (λ line. not (is_out (state_on node line))) none i below
      | inr past ↦ ap (λ (l : LineState). not (is_out l.state)) (get_or_past node.cache.lines i untouched past)
    ] in
    let taken : slots_taken node.cache.lines ≡ 0 = counted_none (λ (l : LineState). not (is_out l.state)) node.cache.lines untouched out in
    let less : slots_taken node.cache.lines < node.cache.slots = omega arith in
    let free : has_slot node.cache ≡ true = lt-ltb (slots_taken node.cache.lines) node.cache.slots less in
    let clash : true ≡ false = sym free ∙ full in
    cc

then_some : {A B : Type 0} (f : A → Option B) (o : Option A) (P : A → Type 0) → is_some o ≡ true → IfSome o P → ((x : A) → P x → is_some (f x) ≡ true)
    → is_some (option_and_then f o) ≡ true
then_some f None P some h each = cc
then_some f (Some x) P some h each = each x h

gives_slot : (node : NodeOf) (line : ℕ) → IsQuietNode node → state_on node line ≡ Out → has_slot node.cache ≡ false → is_some (slot_for node line) ≡ true
gives_slot node line quiet out full =
    let no_way : some_line node (λ other. gives_way (state_on node other)) ≡ false =
    none_passes node (λ other. gives_way (state_on node other)) (λ other below. quiet_gives (state_on node other) (quiet.lines other below)) in
    let lacks : lacks_slot node line ≡ true = rw (out, full, no_way) refl in
    let found : some_line node (λ other. could_give_way (state_on node other)) ≡ true =
    elim (cases_Bool (some_line node (λ other. could_give_way (state_on node other)))) [
      | inl is ↦ is
      | inr none ↦ absurd (has_entry node quiet.some_slot full
          (none_passes node (λ other. not (is_out (state_on node other)))
          (λ other below. not_from_true (is_out (state_on node other)) (true_from_ne_false (is_out (state_on node other))
          (λ entry. (let clash : true ≡ false = sym (quiet_could (state_on node other) (quiet.lines other below) entry)
          ∙ least_none node (λ o. could_give_way (state_on node o)) none other below in cc))))))
    ] in
    ap (λ (b : Bool). is_some (if b then option_and_then (ask_of node) (least node (λ other. could_give_way (state_on node other))) else None)) lacks
    ∙ then_some (ask_of node) (least node (λ other. could_give_way (state_on node other))) _ found
    (least_fits node (λ other. could_give_way (state_on node other))) (λ other fits. could_want node other fits.1)

-- what the oldest operation wants: a slot, or what it asks for
asks_if : (node : NodeOf) (line : ℕ) (free : Bool) → is_some (if free then Some (Ask line (read_kind (has_maker node line))) else None) ≡ free
asks_if node line true = refl
asks_if node line false = refl

-- in each state of a quiet line with an operation, a rule fits
rule_fits : (policy : PolicyOf) (node : NodeOf) (line : ℕ) (state : CacheState) → IsQuietNode node → line < lines_of node → has_pending node line ≡ true
    → state_on node line ≡ state → IsQuiet state → ruled policy node ≡ None
    → ((is_some (operation_asks node line) ≡ true → ⊥) × (is_some (slot_for node line) ≡ true → ⊥)) → ⊥
rule_fits policy node line Out quiet below pending is q none never =
    elim (cases_Bool (has_slot node.cache)) [
      | inl free ↦ never.0 (ap (λ (s : CacheState). is_some (asked_in node line s)) is ∙ (asks_if node line (has_slot node.cache) ∙ free))
      | inr full ↦ never.1 (gives_slot node line quiet is full)
    ]
rule_fits policy node line (FreshHead f c) quiet below pending is q none never =
    never.0 (ap (λ (s : CacheState). is_some (asked_in node line s)) is ∙ could_want node line (ap could_give_way is))
rule_fits policy node line (Below f b c) quiet below pending is q none never =
    never.0 (ap (λ (s : CacheState). is_some (asked_in node line s)) is ∙ could_want node line (ap could_give_way is))
rule_fits policy node line (Head None c) quiet below pending is q none never =
    mapped_none Perform (oldest node (λ l. is_some (node_performing node l))) (or_first (perform_wanted node) _ none)
    (oldest_some node (λ l. is_some (node_performing node l)) line below pending (quiet.sole line c below pending is))
rule_fits policy node line (Head (Some f) c) quiet below pending is q none never =
    mapped_none (λ l. Ask l kind.Purge) (least node (is_purged policy node)) (or_first (purge_wanted policy node) _ (or_second (perform_wanted node) _ none))
    (least_some node (is_purged policy node) line below (rw (is, pending) (or_right (has policy.draining line) true refl)))
rule_fits policy node line (Joining p sent) quiet below pending is q none never = absurd (unsent sent q.idle q.sent)
rule_fits policy node line (FreshJoining p sent c) quiet below pending is q none never = absurd (unsent sent q.idle q.sent)
rule_fits policy node line (Telling r w sent) quiet below pending is q none never = absurd (unsent sent q.idle q.sent)
rule_fits policy node line _ quiet below pending is q none never = let clash = q.idle in cc

-- the oldest operation of a quiet node has a rule
oldest_wants : (policy : PolicyOf) (node : NodeOf) (line : ℕ) → IsQuietNode node → oldest node (λ l. true) ≡ Some line → line < lines_of node
    → has_pending node line ≡ true → ruled policy node ≡ None → ⊥
oldest_wants policy node line quiet first below pending none =
    let operation = or_second (due_wanted policy node) (operation_wanted node)
    (or_second (send_wanted node) _ (or_second (purge_wanted policy node) _ (or_second (perform_wanted node) _ none))) in
    let no_slot : slot_wanted node ≡ None = or_first (slot_wanted node) (contents_wanted node) operation in
    let no_contents : contents_wanted node ≡ None = or_second (slot_wanted node) (contents_wanted node) operation in
    rule_fits policy node line (state_on node line) quiet below pending refl (quiet.lines line below) none (
      λ asks. then_none (operation_asks node) (oldest node (λ l. is_some (operation_asks node l))) _ no_contents
          (oldest_some node (λ l. is_some (operation_asks node l)) line below pending asks) (oldest_fits node (λ l. is_some (operation_asks node l)))
          (λ l fits. (and_parts (has_pending node l) (is_some (operation_asks node l)) fits.1).1),
      λ gives. (let clash : true ≡ false = sym gives ∙ ap is_some (sym (ap (option_and_then (slot_for node)) first) ∙ no_slot) in cc),
    )

-- ---- a line that must send

-- a want that isn't held back
abbrev IsFree : Want → Type 0
IsFree want = asks_home_to_change want ≡ false

record HasFree (wants : Option Want) : Type 0 where
  pub want : Want
  pub is : wants ≡ Some want
  pub free : IsFree want

free_later : (a b : Option Want) → IfSome a IsFree → HasFree b → HasFree (option_or a b)
free_later None b h k = k
free_later (Some w) b h k = record { want = w; is = refl; free = h }

free_first : (a b : Option Want) → HasFree a → HasFree (option_or a b)
free_first None b h = let clash = h.is in cc
free_first (Some w) b h = record { want = h.want; is = h.is; free = h.free }

perform_free : (o : Option ℕ) → IfSome (option_map Perform o) IsFree
perform_free None = tt
perform_free (Some line) = refl

purge_free : (o : Option ℕ) → IfSome (option_map (λ line. Ask line kind.Purge) o) IsFree
purge_free None = tt
purge_free (Some line) = refl

send_free : (node : NodeOf) (o : Option ℕ) → is_some o ≡ true → IfSome o (λ line. (line < lines_of node) × (must_send (state_on node line) ≡ true))
    → HasFree (option_and_then (ask_of node) o)
send_free node None some fits = cc
send_free node (Some line) some fits =
    let asks = must_ask (has_maker node line) (state_on node line) fits.1 in
    record { want = Ask line asks.0; is = ap (option_map (Ask line)) asks.1; free = asks.2 line }

not_held : (joining : Bool) (wants : Option Want) → HasFree wants → held_back joining wants ≡ None → ⊥
not_held joining None free none = let clash = free.is in cc
not_held joining (Some want) free none = grind (arith, and_right)

sends_something : (policy : PolicyOf) (node : NodeOf) → some_line node (λ line. must_send (state_on node line)) ≡ true → wanted policy node ≡ None → ⊥
sends_something policy node sends none =
    not_held (some_line node (λ line. joins (state_on node line))) (ruled policy node)
    (free_later (perform_wanted node) _ (perform_free (oldest node (λ line. is_some (node_performing node line))))
    (free_later (purge_wanted policy node) _ (purge_free (least node (is_purged policy node)))
    (free_first (send_wanted node) _
    (send_free node (least node (λ line. must_send (state_on node line))) sends (least_fits node (λ line. must_send (state_on node line)))))))
    none

-- ---- a node of a reached state

held_none : (wants : Option Want) (joining : Bool) → joining ≡ false → held_back joining wants ≡ None → wants ≡ None
held_none wants true e none = cc
held_none None false e none = refl
held_none (Some want) false e none = none

quiet_node : (n : ℕ) (node : NodeOf) → IsReachedNode n node → some_line node (λ line. waits (state_on node line)) ≡ false
    → some_line node (λ line. must_send (state_on node line)) ≡ false → IsQuietNode node
quiet_node n node is idle sent =
    let part = any_part n node (reachable_node n node is) in
    record {
      lines = λ line below. record {
        idle = least_none node (λ l. waits (state_on node l)) idle line below;
        sent = least_none node (λ l. must_send (state_on node l)) sent line below;
      };
      some_slot = (any_can_go_on n node (reachable_node n node is)).some_slot;
      sole = λ line c below pending state.
          let there = some_there (pending_on node line) pending in
          let inside : line < is.core.size.lines = let all = part.each in omega arith in
          subst (λ (m : NodeOf). IsSome (node_performing m line)) is.here
          (sole_performs is.core n line there.0 c is.reached is.some inside (subst (λ (m : NodeOf). pending_on m line ≡ Some there.0) (sym is.here) there.1)
          (subst (λ (m : NodeOf). state_on m line ≡ Head None c) (sym is.here) state));
    }

nothing_pending : (n : ℕ) (node : NodeOf) → IsReachedNode n node → is_some (oldest node (λ line. true)) ≡ false → (line : ℕ) → pending_on node line ≡ None
nothing_pending n node is none line =
    elim (cases_lt line (lines_of node)) [
      | inl below ↦ elim (cases_Bool (has_pending node line)) [
        | inl pending ↦ (let clash : true ≡ false = sym (oldest_some node (λ l. true) line below pending refl) ∙ none in cc)
        | inr absent ↦ none_absent (pending_on node line) absent
      ]
      | inr past ↦ get_or_past node.pending line None (let long = (any_part n node (reachable_node n node is)).fits.pending in omega arith)
    ]

waiting : (node : NodeOf) (o : Option ℕ) → is_some o ≡ true → IfSome o (λ line. (line < lines_of node) × (waits (state_on node line) ≡ true)) → MayRest node
waiting node None some fits = cc
waiting node (Some line) some fits = Awaits line fits.1

oldest_found : (policy : PolicyOf) (node : NodeOf) (o : Option ℕ) → IsQuietNode node → oldest node (λ l. true) ≡ o → is_some o ≡ true
    → IfSome o (λ line. (line < lines_of node) × ((has_pending node line && true) ≡ true)) → ruled policy node ≡ None → ⊥
oldest_found policy node None quiet is some fits none = cc
oldest_found policy node (Some line) quiet is some fits none =
    oldest_wants policy node line quiet is fits.0 (and_parts (has_pending node line) true fits.1).0 none

-- where nothing is wanted, nothing is pending or some line awaits an answer
pub may_rest : (policy : PolicyOf) (node : NodeOf) (n : ℕ) → IsReachedNode n node → wanted policy node ≡ None → MayRest node
may_rest policy node n is none =
    elim (cases_Bool (some_line node (λ line. waits (state_on node line)))) [
      | inl awaits ↦ waiting node (least node (λ line. waits (state_on node line))) awaits (least_fits node (λ line. waits (state_on node line)))
      | inr idle ↦ elim (cases_Bool (some_line node (λ line. must_send (state_on node line)))) [
        | inl sends ↦ absurd (sends_something policy node sends none)
        | inr sent ↦
            let quiet = quiet_node n node is idle sent in
            let joining : some_line node (λ line. joins (state_on node line)) ≡ false =
            none_passes node (λ line. joins (state_on node line)) (λ line below. quiet_joins (state_on node line) (quiet.lines line below)) in
            elim (cases_Bool (is_some (oldest node (λ line. true)))) [
              | inl pending ↦ absurd (oldest_found policy node (oldest node (λ line. true)) quiet refl pending (oldest_fits node (λ line. true))
                  (held_none (ruled policy node) _ joining none))
              | inr absent ↦ NothingPending (nothing_pending n node is absent)
            ]
      ]
    ]
