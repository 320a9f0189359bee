-- What each rule wants is enabled, whatever the node is.
use Rattle.std.proofs.Common.{◌≡◌, ℕ, ◌<◌, ◌&&◌, ◌||◌, not, Bool, true, false, if◌then◌else◌, Option, Some, None, refl, arith}
use Rattle.std.proofs.lemmas.Bool.{and_parts, lt-ltb}
use Rattle.std.specs.{Prelude.{IfSome, IsSome, is_some, option_map}, Option.{option_or, option_and_then}}
use Rattle.sci_words.specs.declared.event.AskKind.{AskKind}
use Rattle.sci_cache.specs.State.{CacheState, Out, Joining, FreshJoining, Head, FreshHead, Below, Telling, is_out}
use Rattle.sci_cache.specs.{Asking.{Asked, asking}, Line.{ask_or_fault}, Cache.{cache_asked, has_slot}}
use Rattle.sci_cache.specs.Kinds.{could_give_way, has_fresh_sharers, has_sharers, must_send, joins}
use Rattle.sci_core.specs.Node.{NodeOf, asked_by, lines_of, node_asking, node_performing}
use Rattle.sci_policy.specs.declared.want.Want.{Want, TheVariants.{Perform, Ask}}
use Rattle.sci_policy.specs.Lines.{has_maker, has_pending, least, oldest, own_ask, some_line, state_on}
use Rattle.sci_policy.specs.Policy.{IsEnabledWant, PolicyOf, ask_of, asked_in, contents_wanted, due_wanted, has, held_back, is_claimed, is_purged}
use Rattle.sci_policy.specs.Policy.{lacks_slot, operation_asks, perform_wanted, purge_wanted, read_kind, ruled, send_wanted, slot_for, slot_wanted, wanted}
use Rattle.sci_policy.proofs.Found.{least_fits, oldest_fits}
use Rattle.sci_words.specs.declared.event.AskKind.TheVariants as kind

-- ---- options

pub mapped : {A B : Type 0} (f : A → B) (o : Option A) (P : A → Type 0) (Q : B → Type 0) → IfSome o P → ((x : A) → P x → Q (f x)) → IfSome (option_map f o) Q
mapped f None P Q h each = tt
mapped f (Some x) P Q h each = each x h

pub and_then : {A B : Type 0} (f : A → Option B) (o : Option A) (P : A → Type 0) (Q : B → Type 0) → IfSome o P → ((x : A) → P x → IfSome (f x) Q)
    → IfSome (option_and_then f o) Q
and_then f None P Q h each = tt
and_then f (Some x) P Q h each = each x h

pub either : {A : Type 0} (a b : Option A) (Q : A → Type 0) → IfSome a Q → IfSome b Q → IfSome (option_or a b) Q
either None b Q h k = k
either (Some x) b Q h k = h

-- ---- an ask that the state makes is enabled, if a slot is there for it

made_enabled : (node : NodeOf) (line : ℕ) (made : Option Asked) (lacks : Bool) → IsSome made → lacks ≡ false
    → IsSome (asked_by node (cache_asked node.cache line (ask_or_fault made lacks)))
made_enabled node line None lacks some free = cc
made_enabled node line (Some asked) true some free = cc
made_enabled node line (Some asked) false some free = refl

lacks_none : (out free : Bool) → (out ≡ true → free ≡ true) → (out && not free) ≡ false
lacks_none true true h = refl
lacks_none true false h = let clash = h refl in cc
lacks_none false free h = refl

pub ask_enabled : (node : NodeOf) (line : ℕ) (k : AskKind) → line < lines_of node → IsSome (asking (state_on node line) k)
    → (is_out (state_on node line) ≡ true → has_slot node.cache ≡ true) → IsSome (node_asking node line k)
ask_enabled node line k below asks slot = grind (arith, lt-ltb, made_enabled, lacks_none)

-- a state with an entry makes this ask
pub record Makes (state : CacheState) (k : AskKind) : Type 0 where
  pub asks : IsSome (asking state k)
  pub entry : is_out state ≡ true → ⊥

pub made_ask : (node : NodeOf) (line : ℕ) (k : AskKind) → line < lines_of node → Makes (state_on node line) k → IsSome (node_asking node line k)
made_ask node line k below makes = ask_enabled node line k below makes.asks (λ out. absurd (makes.entry out))

purges : (state : CacheState) → has_sharers state ≡ true → Makes state kind.Purge
purges (Head (Some f) c) e = record { asks = refl; entry = λ out. cc }
purges _ e = cc

claims : (state : CacheState) → has_fresh_sharers state ≡ true → Makes state kind.Claim
claims (FreshHead (Some f) c) e = record { asks = refl; entry = λ out. cc }
claims _ e = cc

fresh_asks : (maker : Bool) (c : _) → Makes (FreshHead None c) (if maker then kind.Claim else kind.Clear)
fresh_asks true c = record { asks = refl; entry = λ out. cc }
fresh_asks false c = record { asks = refl; entry = λ out. cc }

own_makes : (maker : Bool) (state : CacheState) → IfSome (own_ask maker state) (Makes state)
own_makes maker (Joining p false) = record { asks = refl; entry = λ out. cc }
own_makes maker (FreshJoining p false c) = record { asks = refl; entry = λ out. cc }
own_makes maker (Head (Some f) c) = record { asks = refl; entry = λ out. cc }
own_makes maker (Head None c) = record { asks = refl; entry = λ out. cc }
own_makes maker (FreshHead (Some f) c) = record { asks = refl; entry = λ out. cc }
own_makes maker (FreshHead None c) = fresh_asks maker c
own_makes maker (Below f b c) = record { asks = refl; entry = λ out. cc }
own_makes maker (Telling r w false) = record { asks = refl; entry = λ out. cc }
own_makes maker _ = tt

-- ---- the rules

pub line_asks : (node : NodeOf) (line : ℕ) → line < lines_of node → IfSome (ask_of node line) (IsEnabledWant node)
line_asks node line below = grind (arith, mapped, own_makes, made_ask)

reads : (maker : Bool) → IsSome (asking Out (read_kind maker))
reads true = refl
reads false = refl

read_enabled : (node : NodeOf) (line : ℕ) (free : Bool) → line < lines_of node → state_on node line ≡ Out → has_slot node.cache ≡ free
    → IfSome (if free then Some (Ask line (read_kind (has_maker node line))) else None) (IsEnabledWant node)
read_enabled node line true below out slot = grind (arith, ask_enabled, reads)
read_enabled node line false below out slot = tt

asked_enabled : (node : NodeOf) (line : ℕ) (state : CacheState) → line < lines_of node → state_on node line ≡ state
    → IfSome (asked_in node line state) (IsEnabledWant node)
asked_enabled node line Out below is = read_enabled node line (has_slot node.cache) below is refl
asked_enabled node line (FreshHead f c) below is = line_asks node line below
asked_enabled node line (Below f b c) below is = line_asks node line below
asked_enabled node line _ below is = tt

performs_enabled : (node : NodeOf) → IfSome (perform_wanted node) (IsEnabledWant node)
performs_enabled node =
    mapped Perform (oldest node (λ line. is_some (node_performing node line))) _ (IsEnabledWant node)
    (oldest_fits node (λ line. is_some (node_performing node line)))
    (λ line fits. (and_parts (has_pending node line) (is_some (node_performing node line)) fits.1).1)

purge_enabled : (policy : PolicyOf) (node : NodeOf) → IfSome (purge_wanted policy node) (IsEnabledWant node)
purge_enabled policy node =
    mapped (λ line. Ask line kind.Purge) (least node (is_purged policy node)) _ (IsEnabledWant node) (least_fits node (is_purged policy node))
    (λ line fits. made_ask node line kind.Purge fits.0
    (purges (state_on node line) (and_parts (has_sharers (state_on node line)) (has policy.draining line || has_pending node line) fits.1).0))

send_enabled : (node : NodeOf) → IfSome (send_wanted node) (IsEnabledWant node)
send_enabled node =
    and_then (ask_of node) (least node (λ line. must_send (state_on node line))) _ (IsEnabledWant node)
    (least_fits node (λ line. must_send (state_on node line))) (λ line fits. line_asks node line fits.0)

due_enabled : (policy : PolicyOf) (node : NodeOf) → IfSome (due_wanted policy node) (IsEnabledWant node)
due_enabled policy node =
    mapped (λ line. Ask line kind.Claim) (least node (is_claimed policy node)) _ (IsEnabledWant node) (least_fits node (is_claimed policy node))
    (λ line fits. made_ask node line kind.Claim fits.0
    (claims (state_on node line) (and_parts (has_fresh_sharers (state_on node line)) (has policy.due line) fits.1).0))

slot_by : (node : NodeOf) (lacks : Bool)
    → IfSome (if lacks then option_and_then (ask_of node) (least node (λ other. could_give_way (state_on node other))) else None) (IsEnabledWant node)
slot_by node true =
    and_then (ask_of node) (least node (λ other. could_give_way (state_on node other))) _ (IsEnabledWant node)
    (least_fits node (λ other. could_give_way (state_on node other))) (λ line fits. line_asks node line fits.0)
slot_by node false = tt

slot_enabled : (node : NodeOf) → IfSome (slot_wanted node) (IsEnabledWant node)
slot_enabled node = and_then (slot_for node) (oldest node (λ line. true)) _ (IsEnabledWant node) (oldest_fits node (λ line. true))
    (λ line fits. slot_by node (lacks_slot node line))

contents_enabled : (node : NodeOf) → IfSome (contents_wanted node) (IsEnabledWant node)
contents_enabled node =
    and_then (operation_asks node) (oldest node (λ line. is_some (operation_asks node line))) _ (IsEnabledWant node)
    (oldest_fits node (λ line. is_some (operation_asks node line)))
    (λ line fits. asked_enabled node line (state_on node line) fits.0 refl)

ruled_enabled : (policy : PolicyOf) (node : NodeOf) → IfSome (ruled policy node) (IsEnabledWant node)
ruled_enabled policy node = grind (arith, either, performs_enabled, purge_enabled, send_enabled, due_enabled, slot_enabled, contents_enabled)

held_if : (b : Bool) (want : Want) (Q : Want → Type 0) → Q want → IfSome (if b then None else Some want) Q
held_if true want Q h = tt
held_if false want Q h = h

pub held_enabled : (joining : Bool) (want : Option Want) (Q : Want → Type 0) → IfSome want Q → IfSome (held_back joining want) Q
held_enabled joining None Q h = tt
held_enabled joining (Some want) Q h = held_if _ want Q h

-- what is wanted is enabled
pub wanted_enabled : (policy : PolicyOf) (node : NodeOf) → IfSome (wanted policy node) (IsEnabledWant node)
wanted_enabled policy node = held_enabled (some_line node (λ line. joins (state_on node line))) (ruled policy node) (IsEnabledWant node)
    (ruled_enabled policy node)
