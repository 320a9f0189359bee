-- Two transitions have two places.
use Rattle.std.proofs.Common.{◌≡◌, arith, refl, rules, ap, ◌∙◌, sym}
use Rattle.std.specs.Prelude.{ℕ, ◌+◌, ◌-◌, nat_lt, if◌then◌else◌, get_or, Some}
use Rattle.sci_words.specs.{declared.event.AskKind.{AskKind}, Event.{ask_number}}
use Rattle.sci_packets.specs.Table.{command_with}
use Rattle.sci_packets.specs.declared.command.Command.{Command}
use Rattle.sci_statistics.specs.declared.{kind.Access.{Access}, transition.{Met.{Met}, StateKind.{StateKind}, Transition.{Transition}}}
use Rattle.sci_statistics.specs.{Kinds.{access_place}, Transitions.{command_place, met_place, state_place, transition_place}}
use Rattle.sci_statistics.specs.declared.transition.TheConstants.StateKind.{ALL as all_states}
use Rattle.sci_words.specs.declared.event.TheConstants.AskKind.{ALL as all_asks}
use Rattle.sci_packets.specs.declared.command.Command.TheVariants as command
use Rattle.sci_statistics.specs.declared.kind.Access.TheVariants as access
use Rattle.sci_statistics.specs.declared.transition.Met.TheVariants as met
use Rattle.sci_statistics.specs.declared.transition.StateKind.TheVariants as kind
use Rattle.sci_words.specs.declared.event.AskKind.TheVariants as ask
use Rattle.sci_statistics.proofs.Counts.{ask_small, command_small, state_small}

state_at : (s : StateKind) → get_or all_states (state_place s) kind.Out ≡ s
state_at kind.Out = refl
state_at _ = refl

one_state : (s t : StateKind) → state_place s ≡ state_place t → s ≡ t
one_state s t same = sym (state_at s) ∙ (ap (λ k. get_or all_states k kind.Out) same ∙ state_at t)

ask_at : (s : AskKind) → get_or all_asks (ask_number s) ask.Mread ≡ s
ask_at ask.Mread = refl
ask_at _ = refl

one_ask : (s t : AskKind) → ask_number s ≡ ask_number t → s ≡ t
one_ask s t same = sym (ask_at s) ∙ (ap (λ k. get_or all_asks k ask.Mread) same ∙ ask_at t)

-- the number of the command at a place
abbrev number_at : ℕ → ℕ
number_at place = if nat_lt place 9 then place + 1 else place + 0x101 - 9

command_at : (s : Command) → command_with (number_at (command_place s)) ≡ Some s
unfolding command_with
command_at command.Mread = refl
command_at _ = refl

one_command : (s t : Command) → command_place s ≡ command_place t → s ≡ t
one_command s t same = let one : Some s ≡ Some t = sym (command_at s) ∙ (ap (λ k. command_with (number_at k)) same ∙ command_at t) in cc

one_access : (s t : Access) → access_place s ≡ access_place t → s ≡ t
one_access access.Load access.Load same = refl
one_access access.Maker access.Maker same = refl
one_access access.Load access.Maker same = absurd (omega (arith, same))
one_access access.Maker access.Load same = absurd (omega (arith, same))

one_met : (m n : Met) → met_place m ≡ met_place n → m ≡ n
one_met (met.Ask a) (met.Ask b) same = ap met.Ask (one_ask a b same)
one_met (met.Serve a) (met.Serve b) same = ap met.Serve (one_command a b (omega (arith, same)))
one_met (met.Accept a) (met.Accept b) same = ap met.Accept (one_command a b (omega (arith, same)))
one_met (met.Perform a) (met.Perform b) same = ap met.Perform (one_access a b (omega (arith, same)))
one_met (met.Ask a) (met.Serve b) same = let few = ask_small a in absurd (omega (arith, same, few))
one_met (met.Ask a) (met.Accept b) same = let few = ask_small a in absurd (omega (arith, same, few))
one_met (met.Ask a) (met.Perform b) same = let few = ask_small a in absurd (omega (arith, same, few))
one_met (met.Serve a) (met.Ask b) same = let few = ask_small b in absurd (omega (arith, same, few))
one_met (met.Serve a) (met.Accept b) same = let few = command_small a in absurd (omega (arith, same, few))
one_met (met.Serve a) (met.Perform b) same = let few = command_small a in absurd (omega (arith, same, few))
one_met (met.Accept a) (met.Ask b) same = let few = ask_small b in absurd (omega (arith, same, few))
one_met (met.Accept a) (met.Serve b) same = let few = command_small b in absurd (omega (arith, same, few))
one_met (met.Accept a) (met.Perform b) same = let few = command_small a in absurd (omega (arith, same, few))
one_met (met.Perform a) (met.Ask b) same = let few = ask_small b in absurd (omega (arith, same, few))
one_met (met.Perform a) (met.Serve b) same = let few = command_small b in absurd (omega (arith, same, few))
one_met (met.Perform a) (met.Accept b) same = let few = command_small b in absurd (omega (arith, same, few))

made : (t u : Transition) → t.met ≡ u.met → t.state ≡ u.state → t ≡ u
made t u mets states = search (rules, mets, states)

pub one_place : (t u : Transition) → transition_place t ≡ transition_place u → t ≡ u
one_place t u same =
    let a = state_small t.state in
    let b = state_small u.state in
    made t u (one_met t.met u.met (omega (arith, same, a, b))) (one_state t.state u.state (omega (arith, same, a, b)))
