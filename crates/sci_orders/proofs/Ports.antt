-- What an Issue and a Perform change in one memory: one port, and one line.
use Rattle.std.proofs.Common.{◌≡◌, ◌≢◌, ℕ, ◌+◌, ◌<◌, length, set, get_or, Option, Some, None, refl, arith}
use Rattle.std.proofs.lemmas.{Bool.{cases_eq}, List.{get_or-set_same, get_or-set_other, length-set}}
use Rattle.sci_words.specs.declared.operation.Op.{Op}
use Rattle.sci_core.specs.declared.pending.Pending.{Pending}
use Rattle.sci_orders.specs.Plain.{Plain, Port, no_port, port_at, waits_at, with_issued, with_performed}

-- ---- ports

-- the port of a node is changed
pub port_here : (plain : Plain) (n : ℕ) (port : Port) → n < length plain.ports → get_or (set plain.ports n port) n no_port ≡ port
port_here plain n port lt = get_or-set_same plain.ports n port no_port lt

pub port_apart : (plain : Plain) (n m : ℕ) (port : Port) → m ≢ n → get_or (set plain.ports n port) m no_port ≡ port_at plain m
port_apart plain n m port other = get_or-set_other plain.ports n m port no_port other

-- what a node has issued, and as many lines as before
pub record Changes (plain new : Plain) (n issued : ℕ) : Type 0 where
  pub nodes : length new.ports ≡ length plain.ports
  pub here : (port_at new n).issued ≡ issued
  pub apart : (m : ℕ) → m ≢ n → port_at new m ≡ port_at plain m
  pub lines : (m : ℕ) → length (port_at new m).pending ≡ length (port_at plain m).pending

changed : (plain : Plain) (n : ℕ) (line : ℕ) (pending : Option Pending) (issued : ℕ) (new : Plain) → n < length plain.ports
    → new.ports ≡ set plain.ports n (record { pending = set (port_at plain n).pending line pending; issued = issued }) → Changes plain new n issued
changed plain n line pending issued new lt is = grind (arith, port_here, port_apart, length-set, cases_eq)

pub issue_changes : (plain : Plain) (n : ℕ) (op : Op) → n < length plain.ports → Changes plain (with_issued plain n op) n ((port_at plain n).issued + 1)
issue_changes plain n op lt =
    changed plain n op.line (Some (record { serial = (port_at plain n).issued; op = op })) ((port_at plain n).issued + 1) (with_issued plain n op) lt refl

pub perform_changes : (plain : Plain) (n line : ℕ) (pending : Pending) → n < length plain.ports
    → Changes plain (with_performed plain n line pending) n (port_at plain n).issued
perform_changes plain n line pending lt = changed plain n line None (port_at plain n).issued (with_performed plain n line pending) lt refl

-- ---- what waits

wait_here : (plain : Plain) (n line : ℕ) (pending : Option Pending) (issued : ℕ) → n < length plain.ports → line < length (port_at plain n).pending
    → get_or (get_or (set plain.ports n (record { pending = set (port_at plain n).pending line pending; issued = issued })) n no_port).pending line None
    ≡ pending
wait_here plain n line pending issued lt inside = grind (arith, port_here, get_or-set_same)

wait_other : (plain : Plain) (n line m k : ℕ) (pending : Option Pending) (issued : ℕ) → n < length plain.ports → ((m ≡ n) × (k ≡ line) → ⊥)
    → get_or (get_or (set plain.ports n (record { pending = set (port_at plain n).pending line pending; issued = issued })) m no_port).pending k None
    ≡ waits_at plain m k
wait_other plain n line m k pending issued lt not_ = grind (arith, cases_eq, port_here, get_or-set_other, port_apart)

pub issued_waits_here : (plain : Plain) (n : ℕ) (op : Op) → n < length plain.ports → op.line < length (port_at plain n).pending
    → waits_at (with_issued plain n op) n op.line ≡ Some (record { serial = (port_at plain n).issued; op = op })
issued_waits_here plain n op lt inside = wait_here plain n op.line _ _ lt inside

pub issued_waits_other : (plain : Plain) (n m k : ℕ) (op : Op) → n < length plain.ports → ((m ≡ n) × (k ≡ op.line) → ⊥)
    → waits_at (with_issued plain n op) m k ≡ waits_at plain m k
issued_waits_other plain n m k op lt not_ = wait_other plain n op.line m k _ _ lt not_

pub performed_waits_here : (plain : Plain) (n line : ℕ) (pending : Pending) → n < length plain.ports → line < length (port_at plain n).pending
    → waits_at (with_performed plain n line pending) n line ≡ None
performed_waits_here plain n line pending lt inside = wait_here plain n line None _ lt inside

pub performed_waits_other : (plain : Plain) (n line m k : ℕ) (pending : Pending) → n < length plain.ports → ((m ≡ n) × (k ≡ line) → ⊥)
    → waits_at (with_performed plain n line pending) m k ≡ waits_at plain m k
performed_waits_other plain n line m k pending lt not_ = wait_other plain n line m k None _ lt not_
