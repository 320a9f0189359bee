-- What a state would ask, with a slot if it needs one, is what the cache would ask.
use Rattle.std.proofs.Common.{◌≡◌, ℕ, ◌<◌, ◌&&◌, not, Bool, true, false, List, length, get_or, Some, None, Ok, Err, Option, Result, option_map, refl}
use Rattle.std.proofs.{Common.{sym, ap, subst, ◌∙◌}, lemmas.List.{get_or_read}}
use Rattle.sci_words.specs.declared.event.AskKind.{AskKind}
use Rattle.sci_packets.specs.declared.body.Body.{Body}
use Rattle.sci_cache.specs.{declared.fault.AskFault.{AskFault}, State.{CacheState, is_out}, Asking.{Asked, asking}}
use Rattle.sci_cache.specs.Line.{LineState, ask_or_fault, line_asking, line_asked, untouched}
use Rattle.sci_cache.specs.Cache.{CacheOf, Letter, line_of, has_slot, with_line, letter_asking, target_of, cache_asked, cache_asking}
use Rattle.sci_cache.proofs.cache.Cache.asked.Goals.{else-is_out-via-then-is_out+else-not-has_slot, else-is_out-via-else-is_out}
use Rattle.sci_cache.proofs.cache.Cache.asked.Goals as goal

-- ---- what the state asks

asked_from : (asked : Option Asked) (to : Option ℕ) (request : Body)
    → ◌≡◌ {A = Option (Option ℕ × Body)} (Some (to, request)) (option_map (λ (a : Asked). (a.to, a.request)) asked)
    → (next : CacheState) × (asked ≡ Some (record { to = to; request = request; next = next }))
asked_from None to request e = cc
asked_from (Some asked) to request e =
    let same : ◌≡◌ {A = Option ℕ × Body} (to, request) (asked.to, asked.request) = cc in
    let p : to ≡ asked.to = ap (λ (x : Option ℕ × Body). x.0) same in
    let q : request ≡ asked.request = ap (λ (x : Option ℕ × Body). x.1) same in
    (asked.next, rw (p, q) refl)

with_slot : (lacks : Bool) (made : Option Asked) (asked : Asked) → made ≡ Some asked → lacks ≡ false → ask_or_fault made lacks ≡ Ok asked
with_slot lacks None asked e f = cc
with_slot lacks (Some a) asked e f = rw f (cc)

made_for : (line : LineState) (state : CacheState) (kind : AskKind) (free : Bool) (to : Option ℕ) (request : Body)
    → state ≡ line.state
    → ◌≡◌ {A = Option (Option ℕ × Body)} (Some (to, request)) (option_map (λ (a : Asked). (a.to, a.request)) (asking state kind))
    → (is_out line.state && not free) ≡ false
    → (next : CacheState) × (line_asking line kind free ≡ Ok (record { to = to; request = request; next = next }))
made_for line state kind free to request same asks lacks =
    let here = subst (λ (s : CacheState).
    ◌≡◌ {A = Option (Option ℕ × Body)} (Some (to, request)) (option_map (λ (a : Asked). (a.to, a.request)) (asking s kind))) same asks in
    let r = asked_from (asking line.state kind) to request here in
    (r.0, with_slot (is_out line.state && not free) (asking line.state kind) _ r.1 lacks)

-- a slot is free
free_there : (out free found : Bool) → found ≡ free → found ≡ true → (out && not free) ≡ false
free_there true true found e h = refl
free_there false true found e h = refl
free_there out false found e h = cc

-- or none is needed
entry_there : (out free found : Bool) → found ≡ out → found ≡ false → (out && not free) ≡ false
entry_there true free found e h = cc
entry_there false free found e h = refl

-- ---- what the cache asks

asks_by : (cache : CacheOf) (line : ℕ) (made : Result Asked AskFault) (asked : Asked) → made ≡ Ok asked
    → (letter : Letter) → letter ≡ letter_asking cache line asked
    → (next : CacheOf) × (cache_asked cache line made ≡ Ok (next, letter))
asks_by cache line (Err fault) asked e letter is = cc
asks_by cache line (Ok a) asked e letter is =
    let same : a ≡ asked = cc in
    (with_line cache line (line_asked (line_of cache line) asked), rw (same, is) refl)

asks_so : (cache : CacheOf) (line : ℕ) (kind : AskKind) (asked : Asked) → line_asking (line_of cache line) kind (has_slot cache) ≡ Ok asked
    → (letter : Letter) → letter ≡ letter_asking cache line asked
    → (next : CacheOf) × (cache_asking cache line kind ≡ Ok (next, letter))
asks_so cache line kind = asks_by cache line (line_asking (line_of cache line) kind (has_slot cache))

at_same : (xs ys : List LineState) (i j : ℕ) (x : LineState) → xs ≡ ys → i ≡ j → j < length ys → x ≡ get_or xs i x → x ≡ get_or ys j untouched
at_same xs ys i j x e f h is = get_or_read ys j x h (subst (λ (l : List LineState). x ≡ get_or l j x) e (subst (λ (k : ℕ). x ≡ get_or xs k x) f is)) untouched

letter_same : (cache : CacheOf) (me line : ℕ) (part : LineState) (asked : Asked) (target source control number : ℕ)
    → me ≡ cache.me → part ≡ line_of cache line
    → target ≡ target_of cache line asked.to → source ≡ me → control ≡ part.asks → number ≡ line
    → (let packet : Letter = record { target = target; source = source; control = control; line = number; body = asked.request } in
    packet) ≡ letter_asking cache line asked
letter_same cache me line part asked target source control number a d e g h i = rw (e, g ∙ a, h ∙ ap (λ (l : LineState). l.asks) d, i) refl

pub returns-clause-asked : goal.returns-clause-asked
returns-clause-asked c =
    let cache = c.args.self.now in
    let part = c.index-part.result.now in
    let to = c.in-Some.to in
    let lines = ap (λ (cache : CacheOf). cache.lines) c.self.view_is in
    let here : part ≡ line_of cache c.args.line = at_same _ _ _ _ _ lines c.from.ensures c.requires c.index-part.ensures in
    let lacks : (is_out part.state && not (has_slot cache)) ≡ false = elim c.else-is_out.branch [
      | else-is_out-via-then-is_out+else-not-has_slot w ↦
          free_there (is_out part.state) (has_slot cache) w.has_slot.result w.has_slot.ensures w.if-not-has_slot.false
      | else-is_out-via-else-is_out w ↦ entry_there (is_out part.state) (has_slot cache) c.is_out.result c.is_out.ensures w.if-is_out.false
    ] in
    let made = made_for part _ c.args.kind (has_slot cache) to c.in-Some.body c.held.ensures (sym c.in-Some.is ∙ c.asked.ensures.request) lacks in
    let asked : Asked = record { to = to; request = c.in-Some.body; next = made.0 } in
    asks_so cache c.args.line c.args.kind asked (subst (λ (l : LineState). line_asking l c.args.kind (has_slot cache) ≡ Ok asked) here made.1) _
    (letter_same cache c.self.inside.me c.args.line part asked _ _ _ _ (ap (λ (cache : CacheOf). cache.me) c.self.view_is) here
    c.target_of.ensures c.node.ensures c.next_control.ensures c.from-2.ensures)
