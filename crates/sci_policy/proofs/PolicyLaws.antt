-- Laws of what the policy wants, of its draining and its due lines, and of the requests that it keeps.
use Rattle.std.proofs.Common.{◌≡◌, ◌≢◌, ℕ, ◌+◌, ◌<◌, ◌==◌, ◌&&◌, ◌||◌, not, Bool, true, false, if◌then◌else◌, Option, Some, None, set, List, refl, sym, arith}
use Rattle.std.proofs.Common.{ap, rules, subst, eq-eqb, get_or-set_other, inl, inr, ◌∙◌}
use Rattle.std.proofs.lemmas.Bool.{and_parts, cases_eq, cases_lt, or_cases}
use Rattle.std.specs.Prelude.{IfSome, IsOk, IsSome, nat_lt}
use Rattle.sci_words.specs.declared.{limits.TheConstants.{MAX_LINES}, event.AskKind.{AskKind}}
use Rattle.sci_packets.specs.declared.body.Body.{Body, TheVariants.{Cread}}
use Rattle.sci_cache.specs.State.{CacheState, Joining, FreshJoining, Head, FreshHead, Telling}
use Rattle.sci_cache.specs.{Asking.{Asked, asking}, Cache.{CacheOf, Letter, cache_asked}}
use Rattle.sci_cache.specs.{Kinds.{has_fresh_sharers, has_sharers, joins}, Line.{ask_or_fault}}
use Rattle.sci_core.specs.Node.{NodeOf, lines_of, node_asking}
use Rattle.sci_core.proofs.Step.Asks.{may_ask}
use Rattle.sci_policy.specs.declared.{decision.Decision.TheVariants.{Keep, Refuse, Serve}, policy.TheConstants.{PATIENCE}}
use Rattle.sci_policy.specs.declared.want.Want.{Want, TheVariants.{Perform, Ask}}
use Rattle.sci_policy.specs.Lines.{can_be_due, can_drain, is_head, state_on}
use Rattle.sci_policy.specs.Policy.{IsEnabledWant, PolicyOf, asks_home_to_change, awaits_home, decided, draining_at_last, due_at_last, has, held_back}
use Rattle.sci_policy.specs.Policy.{is_busy_now, is_cread, kept_by, next_policy, next_wanted, noted, ruled, set_of}
use Rattle.sci_policy.specs.Policy.{still_draining, still_due, ticked}
use Rattle.sci_policy.proofs.{Found.{least_some}, Marks.{in_set, past_set}, Wants.{wanted_enabled}}
use Rattle.sci_words.specs.declared.event.AskKind.TheVariants as kind

-- ---- what is wanted while a line joins

held_by : (want : Want) (line : ℕ) (k : AskKind) (changes : Bool) → asks_home_to_change want ≡ changes
    → (if true && changes then None else Some want) ≡ Some (Ask line k) → asks_home_to_change (Ask line k) ≡ false
held_by want line k true is held = cc
held_by want line k false is held = let same : want ≡ Ask line k = cc in subst (λ (w : Want). asks_home_to_change w ≡ false) same is

held : (wants : Option Want) (line : ℕ) (k : AskKind) → held_back true wants ≡ Some (Ask line k) → asks_home_to_change (Ask line k) ≡ false
held None line k is = cc
held (Some want) line k is = held_by want line k (asks_home_to_change want) refl is

other_kind : (line : ℕ) (k j : AskKind) → asks_home_to_change (Ask line j) ≡ true → asks_home_to_change (Ask line k) ≡ false → k ≢ j
other_kind line k j changes not_so = λ same. (let so = subst (λ (i : AskKind). asks_home_to_change (Ask line i) ≡ false) same not_so in cc)

pub joins_first : (policy : PolicyOf) (node : NodeOf) (joining line : ℕ) (k : AskKind) → joining < lines_of node → joins (state_on node joining) ≡ true
    → next_wanted policy node ≡ Some (Ask line k)
    → (k ≢ kind.Claim) × (k ≢ kind.Clear) × (k ≢ kind.Wback)
joins_first policy node joining line k below joined wants =
    let some = least_some node (λ other. joins (state_on node other)) joining below joined in
    let back : held_back true (ruled (ticked policy node) node) ≡ Some (Ask line k) =
    subst (λ (b : Bool). held_back b (ruled (ticked policy node) node) ≡ Some (Ask line k)) some wants in
    let unchanged = held (ruled (ticked policy node) node) line k back in
    (other_kind line k kind.Claim refl unchanged, other_kind line k kind.Clear refl unchanged, other_kind line k kind.Wback refl unchanged)

-- ---- draining lines

sharers_drain : (state : CacheState) → has_sharers state ≡ true → can_drain state ≡ true
sharers_drain (Head (Some f) c) h = refl
sharers_drain _ h = cc

purge_drains : (state : CacheState) → IsSome (asking state kind.Purge) → can_drain state ≡ true
purge_drains (Head (Some f) c) h = refl
purge_drains (Joining p true) h = cc
purge_drains (Joining p false) h = cc
purge_drains (FreshJoining p true c) h = cc
purge_drains (FreshJoining p false c) h = cc
purge_drains (FreshHead None c) h = cc
purge_drains (FreshHead (Some f) c) h = cc
purge_drains (Telling r w true) h = cc
purge_drains (Telling r w false) h = cc
purge_drains _ h = cc

made_some : (cache : CacheOf) (line : ℕ) (made : Option Asked) (lacks : Bool) → IsOk (cache_asked cache line (ask_or_fault made lacks)) → IsSome made
made_some cache line None lacks ok = cc
made_some cache line (Some asked) lacks ok = refl

-- a line on which a Purge is enabled can drain
purge_enabled : (node : NodeOf) (line : ℕ) → IsSome (node_asking node line kind.Purge) → can_drain (state_on node line) ≡ true
purge_enabled node line enabled = grind (arith, may_ask, purge_drains, made_some)

-- every marked line can drain
abbrev CanDrain : NodeOf → List Bool → Type 0
CanDrain node marks = (line : ℕ) → has marks line ≡ true → can_drain (state_on node line) ≡ true

set_drains : (node : NodeOf) (test : ℕ → Bool) → ((line : ℕ) → test line ≡ true → can_drain (state_on node line) ≡ true) → CanDrain node (set_of test)
set_drains node test each = λ line marked. (elim (cases_lt line MAX_LINES) [
  | inl small ↦ each line (sym (in_set test line small) ∙ marked)
  | inr past ↦ (let none = past_set test line past in cc)
])

still_drains : (policy : PolicyOf) (node : NodeOf) (line : ℕ) → still_draining policy node line ≡ true → can_drain (state_on node line) ≡ true
still_drains policy node line h = (and_parts (has policy.draining line) (can_drain (state_on node line)) h).1

last_drains : (policy : PolicyOf) (node : NodeOf) (line : ℕ) → draining_at_last policy node line ≡ true → can_drain (state_on node line) ≡ true
last_drains policy node line h = grind (arith, or_cases, still_drains, sharers_drain)

-- the policy after one call more, if patience lasts or has ended
abbrev pub ticked_if : PolicyOf → NodeOf → Bool → PolicyOf
ticked_if policy node b =
    if b
    then record policy { draining = set_of (still_draining policy node); due = set_of (still_due policy node); patience = policy.patience + 1 }
    else record policy { draining = set_of (draining_at_last policy node); due = set_of (due_at_last policy node); patience = 0 }

ticked_by : (policy : PolicyOf) (node : NodeOf) (b : Bool)
    → CanDrain node (ticked_if policy node b).draining
ticked_by policy node true = set_drains node (still_draining policy node) (still_drains policy node)
ticked_by policy node false = set_drains node (draining_at_last policy node) (last_drains policy node)

ticked_drains : (policy : PolicyOf) (node : NodeOf) → CanDrain node (ticked policy node).draining
ticked_drains policy node = ticked_by policy node (nat_lt (policy.patience + 1) PATIENCE)

marked_too : (node : NodeOf) (marks : List Bool) (line : ℕ) → can_drain (state_on node line) ≡ true → CanDrain node marks → CanDrain node (set marks line true)
marked_too node marks line drains before = grind (arith, cases_eq, get_or-set_other)

noted_drains : (policy : PolicyOf) (node : NodeOf) (want : Option Want) → IfSome want (IsEnabledWant node) → CanDrain node policy.draining
    → CanDrain node (noted policy node want).draining
noted_drains policy node None enabled before = before
noted_drains policy node (Some (Perform line)) enabled before = before
noted_drains policy node (Some (Ask line kind.Purge)) enabled before = marked_too node policy.draining line (purge_enabled node line enabled) before
noted_drains policy node (Some (Ask line kind.Mread)) enabled before = before
noted_drains policy node (Some (Ask line kind.Fread)) enabled before = before
noted_drains policy node (Some (Ask line _)) enabled before = before

pub draining_purges : (policy : PolicyOf) (node : NodeOf) (line : ℕ) → has (next_policy policy node).draining line ≡ true
    → can_drain (state_on node line) ≡ true
draining_purges policy node = noted_drains (ticked policy node) node (next_wanted policy node) (wanted_enabled (ticked policy node) node)
    (ticked_drains policy node)

-- ---- due lines

-- what is wanted changes no mark of a due line
pub noted_due : (policy : PolicyOf) (node : NodeOf) (want : Option Want) → (noted policy node want).due ≡ policy.due
noted_due policy node None = refl
noted_due policy node (Some (Perform line)) = refl
noted_due policy node (Some (Ask line kind.Purge)) = refl
noted_due policy node (Some (Ask line kind.Mread)) = refl
noted_due policy node (Some (Ask line kind.Fread)) = refl
noted_due policy node (Some (Ask line _)) = refl

sharers_due : (state : CacheState) → has_fresh_sharers state ≡ true → can_be_due state ≡ true
sharers_due (FreshHead (Some f) c) h = refl
sharers_due _ h = cc

in_due : (node : NodeOf) (test : ℕ → Bool) (line : ℕ) → (test line ≡ true → can_be_due (state_on node line) ≡ true) → has (set_of test) line ≡ true
    → can_be_due (state_on node line) ≡ true
in_due node test line due marked = elim (cases_lt line MAX_LINES) [
  | inl small ↦ due (sym (in_set test line small) ∙ marked)
  | inr past ↦ (let none = past_set test line past in cc)
]

ticked_due : (policy : PolicyOf) (node : NodeOf) (line : ℕ) (b : Bool) → has (ticked_if policy node b).due line ≡ true
    → can_be_due (state_on node line) ≡ true
ticked_due policy node line true = in_due node (still_due policy node) line (λ still. (and_parts (has policy.due line) _ still).1)
ticked_due policy node line false = in_due node (due_at_last policy node) line
    (λ last. elim (or_cases (still_due policy node line) (has_fresh_sharers (state_on node line)) last) [
      | inl still ↦ (and_parts (has policy.due line) _ still).1
      | inr shared ↦ sharers_due (state_on node line) shared
    ])

pub due_claims : (policy : PolicyOf) (node : NodeOf) (line : ℕ) → has (next_policy policy node).due line ≡ true → can_be_due (state_on node line) ≡ true
due_claims policy node line marked =
    let ticks = subst (λ (marks : List Bool). has marks line ≡ true) (noted_due (ticked policy node) node (next_wanted policy node)) marked in
    ticked_due policy node line (nat_lt (policy.patience + 1) PATIENCE) ticks

ticked_stays : (policy : PolicyOf) (node : NodeOf) (line : ℕ) (b : Bool) → line < MAX_LINES → still_due policy node line ≡ true
    → has (ticked_if policy node b).due line ≡ true
ticked_stays policy node line true small still = in_set (still_due policy node) line small ∙ still
ticked_stays policy node line false small still =
    in_set (due_at_last policy node) line small ∙ ap (λ (b : Bool). b || has_fresh_sharers (state_on node line)) still

pub due_stays : (policy : PolicyOf) (node : NodeOf) (line : ℕ) → line < MAX_LINES → has policy.due line ≡ true → can_be_due (state_on node line) ≡ true
    → has (next_policy policy node).due line ≡ true
due_stays policy node line small due claims =
    let still : still_due policy node line ≡ true = rw (due, claims) refl in
    subst (λ (marks : List Bool). has marks line ≡ true) (sym (noted_due (ticked policy node) node (next_wanted policy node)))
    (ticked_stays policy node line (nat_lt (policy.patience + 1) PATIENCE) small still)

-- ---- requests that are kept

cread_is : (body : Body) → is_cread body ≡ true → body ≡ Cread
cread_is Cread is = refl
cread_is _ is = cc

differ : (m n : ℕ) → not (m == n) ≡ true → m ≢ n
differ m n other = λ same. (let equal = eq-eqb m n same in cc)

pub kept_is_cread : (policy : PolicyOf) (node : NodeOf) (request : Letter) → kept_by policy node request ≡ true
    → (request.body ≡ Cread) × (request.source ≢ node.cache.me)
kept_is_cread policy node request kept = grind (arith, and_parts, cread_is, differ)

in_last_turn : (awaits other : Bool) (turns : ℕ) → turns ≡ 0 → (awaits || (not (turns == 0) && other)) ≡ true → awaits ≡ true
in_last_turn true other turns zero kept = refl
in_last_turn false other turns zero kept = grind (arith, and_parts, eq-eqb)

pub kept_awaits_home : (policy : PolicyOf) (node : NodeOf) (request : Letter) → policy.turns ≡ 0 → kept_by policy node request ≡ true
    → awaits_home (state_on node request.line) ≡ true
kept_awaits_home policy node request zero kept = grind (arith, and_parts, in_last_turn)

-- ---- requests that are served

pub kept_no : (c o a t b r : Bool) → a ≡ false → b ≡ false → r ≡ false → ((c && o) && (a || (t && (b || r)))) ≡ false
kept_no c o a t b r one two three = search rules

pub serve_if : (k r : Bool) → k ≡ false → r ≡ false → (if k then Keep else if r then Refuse else Serve) ≡ Serve
serve_if k r one two = search rules

head_awaits : (s : CacheState) → is_head s ≡ true → awaits_home s ≡ false
head_awaits s head = search rules

head_busy : (s : CacheState) → is_head s ≡ true → is_busy_now s ≡ false
head_busy s head = search rules

used_no : (c drains head maker used last : Bool) → drains ≡ false → used ≡ true → last ≡ true
    → (c && (drains || (head && (maker && not (last && used))))) ≡ false
used_no c drains head maker used last none is now = search rules

pub used_given : (policy : PolicyOf) (node : NodeOf) (request : Letter) → policy.turns ≡ 0 → is_head (state_on node request.line) ≡ true
    → has policy.used request.line ≡ true → still_draining policy node request.line ≡ false → decided policy node request ≡ Serve
used_given policy node request zero head used drains = grind (arith, eq-eqb, kept_no, head_awaits, head_busy, serve_if)
