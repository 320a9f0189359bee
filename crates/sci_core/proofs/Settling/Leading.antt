-- Lists of events that are made, one list after another.
use Rattle.std.proofs.Common.{◌≡◌, ℕ, ◌+◌, Bool, true, List, [], ◌∷◌, ◌++◌, Option, Some, refl, sym, ap, subst, arith}
use Rattle.std.proofs.lemmas.List.{length-append, Sums.{fold-append}}
use Rattle.std.specs.Prelude.{IsSome, unwrap_or}
use Rattle.sci_words.specs.declared.event.Event.{Event}
use Rattle.sci_core.specs.{Core.{Core, run_from, step, stepping}, Settling.{AreMade, Leads, LeadsOn}}

pub made_append : (may : Event → Bool) (core : Core) (xs ys : List Event) → AreMade may core xs → AreMade may (run_from core xs) ys
    → AreMade may core (xs ++ ys)
made_append may core [] ys made more = more
made_append may core (e ∷ xs) ys made more = (made.0, made.1, made_append may (step core e) xs ys made.2 more)

-- no event
pub leads_none : (may : Event → Bool) (core : Core) → Leads may core core 0
leads_none may core = record { events = []; made = tt; counted = refl; then_ = refl }

-- one list after another
pub leads_join : (may : Event → Bool) (old mid new : Core) (a b : ℕ) → Leads may old mid a → Leads may mid new b → Leads may old new (a + b)
leads_join may old mid new a b first next = grind (arith, made_append, length-append, fold-append)

-- one event
pub leads_one : (may : Event → Bool) (old new : Core) (e : Event) → may e ≡ true → stepping old e ≡ Some new → Leads may old new 1
leads_one may old new e is steps = record {
  events = e ∷ [];
  made = (is, subst IsSome (sym steps) refl, tt);
  counted = refl;
  then_ = ap (λ (o : Option Core). unwrap_or o old) steps;
}

pub leads_more : (may : Event → Bool) (old mid new : Core) (e : Event) (count : ℕ) → Leads may old mid count → may e ≡ true → stepping mid e ≡ Some new
    → Leads may old new (count + 1)
leads_more may old mid new e count leads is steps = leads_join may old mid new count 1 leads (leads_one may mid new e is steps)

-- events that pass one test pass another
made_weaker : (may also : Event → Bool) (core : Core) (events : List Event) → ((e : Event) → may e ≡ true → also e ≡ true) → AreMade may core events
    → AreMade also core events
made_weaker may also core [] so made = tt
made_weaker may also core (e ∷ events) so made = (so e made.0, made.1, made_weaker may also (step core e) events so made.2)

pub leads_weaker : (may also : Event → Bool) (old new : Core) (count : ℕ) → ((e : Event) → may e ≡ true → also e ≡ true) → Leads may old new count
    → Leads also old new count
leads_weaker may also old new count so leads =
    record { events = leads.events; made = made_weaker may also old leads.events so leads.made; counted = leads.counted; then_ = leads.then_ }

pub leads_on : (may : Event → Bool) (old new : Core) (count : ℕ) → Leads may old new count → LeadsOn may old new
leads_on may old new count leads = record { count = count; leads = leads }
