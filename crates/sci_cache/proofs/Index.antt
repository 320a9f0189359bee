-- What a cache keeps beside its lines, after one has changed.
use Rattle.std.proofs.Common.{◌≡◌, ◌≢◌, ◌<◌, ◌⊎◌, ℕ, ◌+◌, ◌-◌, ◌^◌, not, cond, Bool, true, false, if◌then◌else◌, nat_lt, List, length, get_or, set, Option}
use Rattle.std.proofs.{Common.{Some, None, sym, subst, ap, ◌∙◌, arith, inl, inr, refl}, lemmas.Bool.{cases_eq}}
use Rattle.std.proofs.lemmas.List.{get_or-set_other, get_or-set_same, length-set, Sums.{sum_by-set}}
use Rattle.std.specs.Prelude.{IfSome}
use Rattle.sci_cache.specs.{declared.line_kind.LineKind.{LineKind}, State.{CacheState, Head, FreshHead, Below, is_out}}
use Rattle.sci_cache.specs.{Performing.{Performed, performing}, Line.{LineState, untouched}, Cache.{slots_taken}}
use Rattle.sci_cache.specs.{Index.{IsIndex}, Kinds.{is_of}, LineKinds.{KindSets, has_line}}
use Rattle.sci_words.specs.declared.{stamped.Stamped.{Stamped}, operation.{Op.{Op}, Reply.{Reply}}}
use Rattle.sci_words.specs.{Operation.{is_maker}, Stamped.{after, reply_of}}
use Rattle.sci_cache.specs.declared.line_kind.LineKind.TheVariants as kind

abbrev weight : LineState → ℕ
weight line = cond {A = ℕ} (not (is_out line.state)) 1 0

pub with_changed : (taken new : ℕ) (chosen next : KindSets) (lines : List LineState) (line : ℕ) (was part : LineState) → line < length lines
    → was ≡ get_or lines line untouched → IsIndex taken chosen lines
    → new + cond {A = ℕ} (not (is_out was.state)) 1 0 ≡ taken + cond {A = ℕ} (not (is_out part.state)) 1 0
    → ((of : LineKind) → has_line of next line ≡ is_of of part.state)
    → ((of : LineKind) (other : ℕ) → other ≢ line → has_line of next other ≡ has_line of chosen other)
    → IsIndex new next (set lines line part)
with_changed taken new chosen next lines line was part lt at has count here others = record {
  taken_is =
      let before : weight was ≡ weight (get_or lines line untouched) = ap weight at in
      let sums : slots_taken (set lines line part) + weight (get_or lines line untouched) ≡ slots_taken lines + weight part =
      sum_by-set weight lines line part untouched lt in
      let counted : new + weight was ≡ taken + weight part = count in
      let old = has.taken_is in
      omega arith;
  few = let long = length-set lines line part in let few = has.few in omega arith;
  each = λ of other. each_of of other (cases_eq other line);
}
  where
    each_of : (of : LineKind) (other : ℕ) → (other ≡ line) ⊎ (other ≢ line)
        → has_line of next other ≡ is_of of (get_or (set lines line part) other untouched).state
    each_of of other (inl same) =
        ap (has_line of next) same
        ∙ (here of ∙ (ap (λ (l : LineState). is_of of l.state) (sym (get_or-set_same lines line part untouched lt))
        ∙ ap (λ (n : ℕ). is_of of (get_or (set lines line part) n untouched).state) (sym same)))
    each_of of other (inr ne) =
        others of other ne ∙ (has.each of other ∙ ap (λ (l : LineState). is_of of l.state) (sym (get_or-set_other lines line other part untouched ne)))

-- ---- performing

-- two states of the same kinds
record AreAlike (x y : CacheState) : Type 0 where
  pub kinds : (of : LineKind) → is_of of y ≡ is_of of x
  pub out : is_out y ≡ is_out x

alike_itself : (x : CacheState) → AreAlike x x
alike_itself x = record { kinds = λ of. refl; out = refl }

only_heads : (c d : Stamped) (of : LineKind) → is_of of (Head None d) ≡ is_of of (Head None c)
only_heads c d kind.HasSharers = refl
only_heads c d _ = refl

loading_alike : (maker : Bool) (done : Performed) → IfSome (if maker then None else Some done) (λ (d : Performed). AreAlike done.next d.next)
loading_alike true done = tt
loading_alike false done = alike_itself done.next

making_alike : (maker fits : Bool) (c : Stamped) (made read : Performed) → AreAlike (Head None c) made.next → AreAlike (Head None c) read.next
    → IfSome (if maker then (if fits then Some made else None) else Some read) (λ (d : Performed). AreAlike (Head None c) d.next)
making_alike true true c made read m r = m
making_alike true false c made read m r = tt
making_alike false fits c made read m r = r

performing_alike : (state : CacheState) (op : Op) → IfSome (performing state op) (λ (d : Performed). AreAlike state d.next)
performing_alike (Head None c) op =
    making_alike (is_maker op) (nat_lt c.version (2 ^ 64 - 1)) c
    (record { reply = reply_of c.line op; version = (after c op).version; next = Head None (after c op) })
    (record { reply = reply_of c.line op; version = c.version; next = Head None c })
    (record { kinds = only_heads c (after c op); out = refl }) (alike_itself (Head None c))
performing_alike (Head (Some q) c) op = loading_alike (is_maker op) (record { reply = reply_of c.line op; version = c.version; next = Head (Some q) c })
performing_alike (FreshHead f c) op = loading_alike (is_maker op) (record { reply = reply_of c.line op; version = c.version; next = FreshHead f c })
performing_alike (Below f b c) op = loading_alike (is_maker op) (record { reply = reply_of c.line op; version = c.version; next = Below f b c })
performing_alike _ op = tt

performed_alike : (was part : LineState) (op : Op) (answer : Option (Reply × ℕ))
    → IfSome answer (λ (a : Reply × ℕ). performing was.state op ≡ Some (record { reply = a.0; version = a.1; next = part.state }))
    → (answer ≡ None → part ≡ was) → AreAlike was.state part.state
performed_alike was part op (Some a) done same =
    subst (λ (o : Option Performed). IfSome o (λ (d : Performed). AreAlike was.state d.next)) done (performing_alike was.state op)
performed_alike was part op None done same = subst (λ (l : LineState). AreAlike was.state l.state) (sym (same refl)) (alike_itself was.state)

-- an operation that is performed, or isn't, leaves the index as it was
pub with_performed : (taken : ℕ) (kinds : KindSets) (lines : List LineState) (line : ℕ) (was part : LineState) (op : Op) (answer : Option (Reply × ℕ))
    → line < length lines → was ≡ get_or lines line untouched → IsIndex taken kinds lines
    → IfSome answer (λ (a : Reply × ℕ). performing was.state op ≡ Some (record { reply = a.0; version = a.1; next = part.state }))
    → (answer ≡ None → part ≡ was)
    → IsIndex taken kinds (set lines line part)
with_performed taken kinds lines line was part op answer lt at has done same =
    let alike = performed_alike was part op answer done same in
    with_changed taken taken kinds kinds lines line was part lt at has
    (ap (λ (b : Bool). taken + cond {A = ℕ} (not b) 1 0) (sym alike.out))
    (λ of. has.each of line ∙ (ap (λ (l : LineState). is_of of l.state) (sym at) ∙ sym (alike.kinds of)))
    (λ of other ne. refl)
