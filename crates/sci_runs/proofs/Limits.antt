-- A machine whose nodes may issue more operations goes through the same events, to the same logs and last contents.
use Rattle.std.proofs.Common.{◌≡◌, ℕ, zero, suc, ◌%◌, ◌<◌, ◌≤◌, nat_lt, Bool, true, false, if◌then◌else◌, List, [], ◌∷◌, ◌++◌, length, map, Option, Some}
use Rattle.std.proofs.{Common.{None, refl, arith, sym, ap, subst, ◌∙◌}, lemmas.Bool.{ltb-true, lt-ltb}}
use Rattle.std.proofs.lemmas.List.{get_or-map, map-set}
use Rattle.std.specs.Prelude.{Result, Ok, Err, is_some, ◌&&◌, option_map, option_to_list, slice_index_or, unwrap_or}
use Rattle.std.specs.{List.{filter, flat_map, range_with_len}, Option.{option_or}}
use Rattle.sci_words.specs.declared.{limits.TheConstants.{MAX_NODES}, event.Event.{Event}, operation.Op.{Op}}
use Rattle.sci_words.specs.{declared.operation.Reply.{Reply}, Stamped.{zero_stamped}}
use Rattle.sci_packets.specs.declared.body.Body.{Body, TheVariants.{Busy}}
use Rattle.sci_history.specs.declared.entry.Entry.{Entry}
use Rattle.sci_home.specs.{declared.state.HomeState.{HomeState}, Serving.{current_of, home_serving, is_for_home}}
use Rattle.sci_cache.specs.Accepting.{settled}
use Rattle.sci_cache.specs.declared.fault.AskFault.{AskFault}
use Rattle.sci_cache.specs.Cache.{CacheOf, Letter, cache_accepting, cache_asking, cache_performing, cache_serving, line_of}
use Rattle.sci_core.specs.declared.lane.LaneKind.{LaneKind, TheVariants.{Answers, Requests}}
use Rattle.sci_core.specs.declared.pending.Pending.{Pending}
use Rattle.sci_core.specs.Core.{Core, changes, lane_of, lane_place, node_at, node_of, performs, sends, side, step_by, stepping, taken_as, taken_from}
use Rattle.sci_core.specs.Core.{opening, with_node}
use Rattle.sci_core.specs.Node.{NodeOf, accepted_by, answered_by, asked_by, home_of, is_setback, lines_of, no_node, node_accepting}
use Rattle.sci_core.specs.Node.{node_asking, node_issuing, node_performing, node_refusing, node_replying, node_serving, pending_on}
use Rattle.sci_core.specs.Node.{performed_by, opening_node, performing_pending, replied_by, served_at_home, served_in_cache, serving_at_home}
use Rattle.sci_core.specs.{Node.{serving_in_cache, with_answer}, Outcome.{logs_of}}
use Rattle.sci_core.specs.Sharing.{answer_in, first_authority, home_at, is_about, last_at, last_of, packets_of, settled_at, all_settled, under_way}
use Rattle.sci_core.specs.{Size.{Size}, WellFormed.{IsWellFormed}}
use Rattle.sci_runs.specs.Recorded.{raised, raised_node, with_limit}
use Rattle.sci_cache.specs.State.{CacheState}
use Rattle.sci_words.specs.declared.event.Event.TheVariants as event

-- ---- nodes

node_raised : (m : ℕ) (core : Core) (n : ℕ) → n < length core.parts → node_at (raised m core) n ≡ raised_node m (node_at core n)
node_raised m core n lt = get_or-map (raised_node m) core.parts n no_node no_node lt

placed : (m : ℕ) (core : Core) (n : ℕ) (next : NodeOf) → with_node (raised m core) n (raised_node m next) ≡ raised m (with_node core n next)
placed m core n next = ap (λ (parts : List NodeOf). record (raised m core) { parts = parts }) (sym (map-set (raised_node m) core.parts n next))

-- what doesn't depend on the limit is the same of each node
same_at : {A : Type 0} (P : NodeOf → A) (m : ℕ) (parts : List NodeOf) (n : ℕ) → ((part : NodeOf) → P (raised_node m part) ≡ P part)
    → P (slice_index_or (map (raised_node m) parts) n no_node) ≡ P (slice_index_or parts n no_node)
same_at P m [] n same = refl
same_at P m (part ∷ parts) zero same = same part
same_at P m (part ∷ parts) (suc n) same = same_at P m parts n same

-- ---- the beginning

opened_alike : (m : ℕ) (size : Size) (ns : List ℕ)
    → map (λ n. opening_node n (with_limit m size)) ns ≡ map (raised_node m) (map (λ n. opening_node n size) ns)
opened_alike m size [] = refl
opened_alike m size (n ∷ ns) = ap (λ (parts : List NodeOf). opening_node n (with_limit m size) ∷ parts) (opened_alike m size ns)

pub opening_raised : (m : ℕ) (size : Size) → opening (with_limit m size) ≡ raised m (opening size)
opening_raised m size =
    ap (λ (parts : List NodeOf). record (raised m (opening size)) { parts = parts }) (opened_alike m size (range_with_len 0 size.nodes))

-- ---- sides

issued_by : (b c d e : Bool) (x y : NodeOf) (m : ℕ) → (d ≡ true → e ≡ true) → (if b && (c && d) then Some x else None) ≡ Some y
    → (if b && (c && e) then Some (raised_node m x) else None) ≡ Some (raised_node m y)
issued_by true true true e x y m more is = ap (λ (z : Bool). if z then Some (raised_node m x) else None) (more refl) ∙ ap (option_map (raised_node m)) is
issued_by true true false e x y m more is = cc
issued_by true false d e x y m more is = cc
issued_by false c d e x y m more is = cc

issue_raised : (m : ℕ) (node next : NodeOf) (op : Op) → node.limit ≤ m → node_issuing node op ≡ Some next
    → node_issuing (raised_node m node) op ≡ Some (raised_node m next)
issue_raised m node next op le is = grind (arith, issued_by, ltb-true, lt-ltb)

performed : (m : ℕ) (node : NodeOf) (line : ℕ) (pending : Pending) (o : Option (CacheOf × Reply × ℕ))
    → performed_by (raised_node m node) line pending o ≡ option_map (λ done. (raised_node m done.0, done.1)) (performed_by node line pending o)
performed m node line pending None = refl
performed m node line pending (Some done) = refl

perform_raised : (m : ℕ) (node : NodeOf) (line : ℕ) (o : Option Pending)
    → performing_pending (raised_node m node) line o ≡ option_map (λ done. (raised_node m done.0, done.1)) (performing_pending node line o)
perform_raised m node line None = refl
perform_raised m node line (Some pending) = performed m node line pending (cache_performing node.cache pending.op)

asked : (m : ℕ) (node : NodeOf) (b : Bool) (r : Result (CacheOf × Letter) AskFault)
    → (if b then asked_by (raised_node m node) r else None) ≡ option_map (λ sent. (raised_node m sent.0, sent.1)) (if b then asked_by node r else None)
asked m node true (Ok x) = refl
asked m node true (Err f) = refl
asked m node false r = refl

replied : (m : ℕ) (node : NodeOf) (o : Option Letter)
    → replied_by (raised_node m node) o ≡ option_map (λ sent. (raised_node m sent.0, sent.1)) (replied_by node o)
replied m node None = refl
replied m node (Some letter) = refl

served_home : (m : ℕ) (node : NodeOf) (letter : Letter) (o : Option (HomeState × Body))
    → answered_by letter (served_at_home (raised_node m node) letter.line o)
    ≡ option_map (raised_node m) (answered_by letter (served_at_home node letter.line o))
served_home m node letter None = refl
served_home m node letter (Some served) = refl

served_cache : (m : ℕ) (node : NodeOf) (letter : Letter) (o : Option (CacheOf × Body))
    → answered_by letter (served_in_cache (raised_node m node) o) ≡ option_map (raised_node m) (answered_by letter (served_in_cache node o))
served_cache m node letter None = refl
served_cache m node letter (Some served) = refl

serve_raised : (m : ℕ) (node : NodeOf) (letter : Letter) (waits home : Bool)
    → (if waits then None else answered_by letter (if home then serving_at_home (raised_node m node) letter else serving_in_cache (raised_node m node) letter))
    ≡ option_map (raised_node m) (if waits then None else answered_by letter (if home then serving_at_home node letter else serving_in_cache node letter))
serve_raised m node letter true home = refl
serve_raised m node letter false true = served_home m node letter (home_serving (home_of node letter.line) letter.source letter.body)
serve_raised m node letter false false = served_cache m node letter (cache_serving node.cache letter.line letter.source letter.body)

refuse_raised : (m : ℕ) (node answered : NodeOf) (waits setback : Bool)
    → (if waits then None else (if setback then None else Some (raised_node m answered)))
    ≡ option_map (raised_node m) (if waits then None else (if setback then None else Some answered))
refuse_raised m node answered true setback = refl
refuse_raised m node answered false true = refl
refuse_raised m node answered false false = refl

accepted : (m : ℕ) (node : NodeOf) (o : Option CacheOf) → accepted_by (raised_node m node) o ≡ option_map (raised_node m) (accepted_by node o)
accepted m node None = refl
accepted m node (Some cache) = refl

-- ---- steps by a side

module _ (m : ℕ) (core new : Core) (n : ℕ) where
  changes_raised : (o p : Option NodeOf) → ((next : NodeOf) → o ≡ Some next → p ≡ Some (raised_node m next)) → step_by core n (changes o) ≡ Some new
      → step_by (raised m core) n (changes p) ≡ Some (raised m new)
  changes_raised None p more is = cc
  changes_raised (Some next) p more is =
      ap (λ (o : Option NodeOf). step_by (raised m core) n (changes o)) (more next refl)
      ∙ (ap Some (placed m core n next) ∙ ap (option_map (raised m)) is)

  performs_raised : (o p : Option (NodeOf × Entry)) → p ≡ option_map (λ done. (raised_node m done.0, done.1)) o → step_by core n (performs o) ≡ Some new
      → step_by (raised m core) n (performs p) ≡ Some (raised m new)
  performs_raised None p same is = cc
  performs_raised (Some done) p same is = grind (arith, placed)

  sends_raised : (kind : LaneKind) (o p : Option (NodeOf × Letter)) → p ≡ option_map (λ sent. (raised_node m sent.0, sent.1)) o
      → step_by core n (sends kind o) ≡ Some new → step_by (raised m core) n (sends kind p) ≡ Some (raised m new)
  sends_raised kind None p same is = cc
  sends_raised kind (Some sent) p same is = grind (arith, placed)

  taken_raised : (place : ℕ) (rest : List Letter) (o p : Option NodeOf) → p ≡ option_map (raised_node m) o → taken_as core n place rest o ≡ Some new
      → taken_as (raised m core) n place rest p ≡ Some (raised m new)
  taken_raised place rest None p same is = cc
  taken_raised place rest (Some next) p same is = grind (arith, placed)

  front_raised : (place : ℕ) (taking more : Letter → Option NodeOf) (lane : List Letter)
      → ((letter : Letter) → more letter ≡ option_map (raised_node m) (taking letter)) → taken_from core n place taking lane ≡ Some new
      → taken_from (raised m core) n place more lane ≡ Some (raised m new)
  front_raised place taking more [] same is = cc
  front_raised place taking more (letter ∷ rest) same is = taken_raised place rest (taking letter) (more letter) (same letter) is

  takes_raised : (b : Bool) (place : ℕ) (taking more : Letter → Option NodeOf) (lane : List Letter)
      → ((letter : Letter) → more letter ≡ option_map (raised_node m) (taking letter)) → (if b then taken_from core n place taking lane else None) ≡ Some new
      → (if b then taken_from (raised m core) n place more lane else None) ≡ Some (raised m new)
  takes_raised true place taking more lane same is = front_raised place taking more lane same is
  takes_raised false place taking more lane same is = cc

  side_raised : (e : Event) (node : NodeOf) → node.limit ≤ m → step_by core n (side node e) ≡ Some new
      → step_by (raised m core) n (side (raised_node m node) e) ≡ Some (raised m new)
  side_raised (event.Issue k op) node le is =
      changes_raised (node_issuing node op) (node_issuing (raised_node m node) op) (λ next issues. issue_raised m node next op le issues) is
  side_raised (event.Perform k line) node le is =
      performs_raised (node_performing node line) (node_performing (raised_node m node) line) (perform_raised m node line (pending_on node line)) is
  side_raised (event.Ask k line kind) node le is =
      sends_raised Requests (node_asking node line kind) (node_asking (raised_node m node) line kind)
      (asked m node (nat_lt line (lines_of node)) (cache_asking node.cache line kind)) is
  side_raised (event.Serve from k) node le is =
      takes_raised (nat_lt from core.size.nodes) (lane_place core.size.nodes Requests from n) (node_serving node) (node_serving (raised_node m node))
      (lane_of core Requests from n) (λ letter. serve_raised m node letter (is_some node.waiting) (is_for_home letter.body)) is
  side_raised (event.Refuse from k) node le is =
      takes_raised (nat_lt from core.size.nodes) (lane_place core.size.nodes Requests from n) (node_refusing node) (node_refusing (raised_node m node))
      (lane_of core Requests from n) (λ letter. refuse_raised m node (with_answer node letter Busy) (is_some node.waiting) (is_setback letter.body)) is
  side_raised (event.Reply k) node le is =
      sends_raised Answers (node_replying node) (node_replying (raised_node m node)) (replied m node node.waiting) is
  side_raised (event.Accept from k) node le is =
      takes_raised (nat_lt from core.size.nodes) (lane_place core.size.nodes Answers from n) (node_accepting node) (node_accepting (raised_node m node))
      (lane_of core Answers from n) (λ letter. accepted m node (cache_accepting node.cache letter.line letter.control letter.body)) is

-- ---- steps

either_way : (b : Bool) (o p : Option Core) (new more : Core) → (b ≡ true → o ≡ Some new → p ≡ Some more) → (if b then o else None) ≡ Some new
    → (if b then p else None) ≡ Some more
either_way true o p new more steps is = steps refl is
either_way false o p new more steps is = cc

pub stepping_raised : (m : ℕ) (core new : Core) (e : Event) → core.size.limit ≤ m → IsWellFormed core → stepping core e ≡ Some new
    → stepping (raised m core) e ≡ Some (raised m new)
unfolding stepping
stepping_raised m core new e le well =
    let n = node_of e in
    either_way (nat_lt n core.size.nodes) (step_by core n (side (node_at core n) e)) (step_by (raised m core) n (side (node_at (raised m core) n) e)) new
    (raised m new)
    (λ below is.
    let lt = ltb-true n core.size.nodes below in
    let long = well.sizes.parts_long in
    let most = (well.each_part n lt).most in
    subst (λ (node : NodeOf). step_by (raised m core) n (side node e) ≡ Some (raised m new)) (sym (node_raised m core n (omega (arith, lt, long))))
    (side_raised m core new n e (node_at core n) (omega (arith, most, le)) is))

-- ---- what is read off a state

map_alike : {A B : Type 0} (f g : A → B) (xs : List A) → ((x : A) → f x ≡ g x) → map f xs ≡ map g xs
map_alike f g [] same = refl
map_alike f g (x ∷ xs) same = ap (λ y. y ∷ map f xs) (same x) ∙ ap (λ ys. g x ∷ ys) (map_alike f g xs same)

pub logs_raised : (m : ℕ) (core : Core) → logs_of (raised m core) ≡ logs_of core
logs_raised m core =
    map_alike (λ n. (node_at (raised m core) n).log) (λ n. (node_at core n).log) (range_with_len 0 MAX_NODES)
    (λ n. same_at (λ part. part.log) m core.parts n (λ part. refl))

waiting_alike : (m : ℕ) (parts : List NodeOf)
    → flat_map (λ (part : NodeOf). option_to_list part.waiting) (map (raised_node m) parts) ≡ flat_map (λ (part : NodeOf). option_to_list part.waiting) parts
waiting_alike m [] = refl
waiting_alike m (part ∷ parts) = ap (λ (letters : List Letter). option_to_list part.waiting ++ letters) (waiting_alike m parts)

under_way_raised : (m : ℕ) (core : Core) → under_way (raised m core) ≡ under_way core
under_way_raised m core = ap (λ (letters : List Letter). letters ++ flat_map (λ lane. lane) core.lanes) (waiting_alike m core.parts)

settled_raised : (m : ℕ) (core : Core) (line n : ℕ) → settled_at (raised m core) line n ≡ settled_at core line n
settled_raised m core line n =
    ap (λ (letters : List Letter).
    settled (line_of (node_at (raised m core) n).cache line).state (answer_in (filter (is_about n line) letters)))
    (under_way_raised m core)
    ∙ ap (λ (cache : CacheOf). settled (line_of cache line).state (answer_in (packets_of core n line)))
    (same_at (λ part. part.cache) m core.parts n (λ part. refl))

last_at_raised : (m : ℕ) (core : Core) (line : ℕ) → last_at (raised m core) line ≡ last_at core line
last_at_raised m core line =
    ap (λ (home : HomeState). unwrap_or (option_or (current_of home) (first_authority (all_settled (raised m core) line))) zero_stamped)
    (same_at (λ part. home_of part line) m core.parts (line % core.size.nodes) (λ part. refl))
    ∙ ap (λ (all : List CacheState). unwrap_or (option_or (current_of (home_at core line)) (first_authority all)) zero_stamped)
    (map_alike (settled_at (raised m core) line) (settled_at core line) (range_with_len 0 core.size.nodes) (λ n. settled_raised m core line n))

pub last_raised : (m : ℕ) (core : Core) → last_of (raised m core) ≡ last_of core
last_raised m core = map_alike (last_at (raised m core)) (last_at core) (range_with_len 0 core.size.lines) (λ line. last_at_raised m core line)
