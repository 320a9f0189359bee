-- Counts, each at its place.
use Rattle.std.proofs.Common.{◌≡◌, ◌<◌, ◌≤◌, ℕ, ◌+◌, ◌==◌, List, Bool, true, false}
use Rattle.std.proofs.Common.{length, min, get_or, set, arith, sym, ap, refl, ◌∙◌, get_or-set_same, get_or-set_other}
use Rattle.std.proofs.Common.{◌≢◌, length-set, subst}
use Rattle.std.proofs.lemmas.Bool.{eqb-true, eqb-false}
use Rattle.std.specs.Prelude.{cond}
use Rattle.sci_words.specs.{declared.event.AskKind.{AskKind}, Event.{ask_number}}
use Rattle.sci_packets.specs.declared.command.Command.{Command}
use Rattle.sci_statistics.specs.declared.kind.Access.{Access}
use Rattle.sci_statistics.specs.declared.transition.{Met.{Met}, StateKind.{StateKind}, Transition.{Transition}}
use Rattle.sci_statistics.specs.{Kinds.{access_place}, Coverage.{capped}}
use Rattle.sci_statistics.specs.Transitions.{command_place, met_place, state_place, transition_place}
use Rattle.sci_packets.specs.declared.command.Command.TheVariants as command
use Rattle.sci_statistics.specs.declared.kind.Access.TheVariants as access
use Rattle.sci_statistics.specs.declared.transition.Met.TheVariants as met
use Rattle.sci_statistics.specs.declared.transition.StateKind.TheVariants as kind
use Rattle.sci_words.specs.declared.event.AskKind.TheVariants as ask

-- ---- places are few

pub state_small : (state : StateKind) → state_place state ≤ 16
state_small kind.Out = omega arith
state_small _ = omega arith

pub ask_small : (kind : AskKind) → ask_number kind ≤ 8
ask_small ask.Mread = omega arith
ask_small _ = omega arith

pub command_small : (command : Command) → command_place command ≤ 18
command_small command.Mread = omega arith
command_small _ = omega arith

pub access_small : (access : Access) → access_place access ≤ 1
access_small access.Load = omega arith
access_small _ = omega arith

met_small : (met : Met) → met_place met ≤ 48
met_small (met.Ask kind) = let small = ask_small kind in omega (arith, small)
met_small (met.Serve request) = let small = command_small request in omega (arith, small)
met_small (met.Accept answer) = let small = command_small answer in omega (arith, small)
met_small (met.Perform access) = let small = access_small access in omega (arith, small)

pub place_small : (t : Transition) → transition_place t < 833
place_small t = let m = met_small t.met in let s = state_small t.state in omega (arith, m, s)

-- ---- a count grows

counted_at : (counts : List ℕ) (p q v : ℕ) (b : Bool) → (p == q) ≡ b → p < length counts → get_or counts q 0 ≤ 0xffff_ffff_ffff_ffff
    → v ≡ min (get_or counts p 0 + 1) 0xffff_ffff_ffff_ffff → get_or (set counts p v) q 0 ≡ capped (get_or counts q 0 + cond b 1 0)
counted_at counts p q v true same there small is =
    let at : p ≡ q = eqb-true p q same in
    ap (λ k. get_or (set counts p v) k 0) (sym at) ∙ (get_or-set_same counts p v 0 there
    ∙ (is ∙ ap (λ k. min (get_or counts k 0 + 1) 0xffff_ffff_ffff_ffff) at))
counted_at counts p q v false apart there small is =
    let kept = get_or-set_other counts p q v 0 (λ e. eqb-false p q apart (sym e)) in
    omega (arith, kept, small)

-- one more at a place, and none elsewhere
pub counted : (counts : List ℕ) (p named q v : ℕ) → p ≡ named → p < length counts → get_or counts q 0 ≤ 0xffff_ffff_ffff_ffff
    → v ≡ min (get_or counts p 0 + 1) 0xffff_ffff_ffff_ffff → get_or (set counts p v) q 0 ≡ capped (get_or counts q 0 + cond (named == q) 1 0)
counted counts p named q v at there small is =
    counted_at counts p q v (p == q) refl there small is ∙ ap (λ k. capped (get_or counts q 0 + cond (k == q) 1 0)) at

-- ---- counts are added

-- at the places below this one the others' counts are added, and those from it on are as they were
pub record Adds (old other new : List ℕ) (place : ℕ) : Type 0 where
  pub added : (q : ℕ) → q < place → get_or new q 0 ≡ capped (get_or old q 0 + get_or other q 0)
  pub left : (q : ℕ) → place ≤ q → get_or new q 0 ≡ get_or old q 0
  pub long : length new ≡ 833

below_more : (old other new : List ℕ) (place v q : ℕ) (b : Bool) → (place == q) ≡ b → place < 833 → q < place + 1
    → v ≡ min (get_or new place 0 + get_or other place 0) 0xffff_ffff_ffff_ffff → Adds old other new place
    → get_or (set new place v) q 0 ≡ capped (get_or old q 0 + get_or other q 0)
below_more old other new place v q true same less below is was =
    let at : place ≡ q = eqb-true place q same in
    let long = was.long in
    let there : place < length new = omega (arith, less, long) in
    let kept = was.left place (omega arith) in
    let set_is : get_or (set new place v) place 0 ≡ capped (get_or old place 0 + get_or other place 0) =
    get_or-set_same new place v 0 there ∙ (is ∙ ap (λ k. min (k + get_or other place 0) 0xffff_ffff_ffff_ffff) kept) in
    subst (λ (k : ℕ). get_or (set new place v) k 0 ≡ capped (get_or old k 0 + get_or other k 0)) at set_is
below_more old other new place v q false apart less below is was =
    let other_place : q ≢ place = λ e. eqb-false place q apart (sym e) in
    get_or-set_other new place q v 0 other_place ∙ was.added q (omega (arith, below, other_place))

-- one place more
pub adds_more : (old other new : List ℕ) (place v : ℕ) → place < 833 → v ≡ min (get_or new place 0 + get_or other place 0) 0xffff_ffff_ffff_ffff
    → Adds old other new place → Adds old other (set new place v) (place + 1)
adds_more old other new place v less is was = record {
  added = λ q below. below_more old other new place v q (place == q) refl less below is was;
  left = λ q above.
      let apart : q ≢ place = omega (arith, above) in
      get_or-set_other new place q v 0 apart ∙ was.left q (omega (arith, above));
  long = length-set new place v ∙ was.long;
}
