-- A line gets an entry only if a version slot is free, so a node has no more entries than slots.
use Rattle.std.proofs.Common.{◌≡◌, ℕ, ◌+◌, ◌<◌, ◌≤◌, not, cond, Bool, true, false, set, refl, sym, ap, ◌∙◌, arith, rules}
use Rattle.std.proofs.lemmas.{Bool.{cases_lt, ltb-true}, List.{set_past, Sums.{sum_by-set}}}
use Rattle.std.specs.Prelude.{IfSome}
use Rattle.sci_words.specs.declared.operation.Op.{Op}
use Rattle.sci_packets.specs.declared.body.Body.{Body}
use Rattle.sci_cache.specs.{State.{CacheState, Out, Head, is_out, waits}, Serving.{serving}}
use Rattle.sci_cache.specs.{Performing.{Performed, performing}, Line.{LineState}}
use Rattle.sci_cache.specs.Cache.{CacheOf, line_of, has_slot, slots_taken}
use Rattle.sci_core.proofs.Shape.Standings.{performing_keeps}
use Rattle.sci_packets.specs.declared.body.Body.TheVariants as body

-- a line that gets an entry has a slot for it
abbrev pub GetsSlot : CacheOf → ℕ → CacheState → Type 0
GetsSlot cache line next = is_out (line_of cache line).state ≡ true → is_out next ≡ false → has_slot cache ≡ true

counted : (was is free : Bool) (new old slots : ℕ) → new + cond {A = ℕ} (not was) 1 0 ≡ old + cond {A = ℕ} (not is) 1 0
    → (was ≡ true → is ≡ false → free ≡ true) → (free ≡ true → old < slots) → old ≤ slots → new ≤ slots
counted true true free new old slots e gets room few = omega arith
counted true false free new old slots e gets room few = let lt = room (gets refl refl) in omega arith
counted false true free new old slots e gets room few = omega arith
counted false false free new old slots e gets room few = omega arith

pub slots_with_line : (cache : CacheOf) (line : ℕ) (part : LineState) → GetsSlot cache line part.state → slots_taken cache.lines ≤ cache.slots
    → slots_taken (set cache.lines line part) ≤ cache.slots
slots_with_line cache line part gets few = grind (arith, cases_lt, counted, sum_by-set, ltb-true, set_past)

-- ---- what is done gives no line an entry that had none

either : (was is free : Bool) → (was ≡ true → is ≡ true) → was ≡ true → is ≡ false → free ≡ true
either true true free stays w i = cc
either true false free stays w i = let no = stays refl in cc
either false is free stays w i = cc

pub gets_none : (cache : CacheOf) (line : ℕ) (next : CacheState) → (is_out (line_of cache line).state ≡ true → is_out next ≡ true) → GetsSlot cache line next
gets_none cache line next stays = either (is_out (line_of cache line).state) (is_out next) (has_slot cache) stays

abbrev pub StaysOut : CacheState → CacheState → Type 0
StaysOut old new = is_out old ≡ true → is_out new ≡ true

pub performing_stays : (state : CacheState) (op : Op) → IfSome (performing state op) (λ (d : Performed). StaysOut state d.next)
performing_stays state op =
    performing_keeps (StaysOut state) state op (λ out. out) (λ c d e out. (let no : false ≡ true = sym (ap is_out e) ∙ out in cc))

pub serving_stays : (state : CacheState) (n : ℕ) (request : Body) → IfSome (serving state n request) (λ (s : CacheState × Body). StaysOut state s.0)
serving_stays (Head f c) n body.Cread = search rules
serving_stays _ n body.Cread = search rules
serving_stays _ n _ = search rules

-- no answer gives an entry, since a line without one awaits none
pub awaiting_stays : (old new : CacheState) → waits old ≡ true → StaysOut old new
awaiting_stays Out new waiting out = cc
awaiting_stays _ new waiting out = cc
