-- Schedules that go on by an event more, and the nodes where they begin.
use Rattle.std.proofs.Common.{◌≡◌, ℕ, ◌<◌, List, [], ◌∷◌, ◌++◌, append_assoc, Option, Some, sym, ap, subst, ◌∙◌, arith}
use Rattle.std.proofs.lemmas.List.{append-nil, FromFn.{get_or-map-range_with_len}, Sums.{fold_push}}
use Rattle.std.specs.Prelude.{unwrap_or}
use Rattle.sci_words.specs.declared.event.Event.{Event}
use Rattle.sci_core.specs.Core.{AreEnabled, Core, IsEnabled, node_at, opening, run, step, stepping}
use Rattle.sci_core.specs.{Node.{no_node, opening_node}, Size.{Size}}

pub run_further : (size : Size) (schedule : List Event) (old new : Core) (e : Event) → run size schedule ≡ old → stepping old e ≡ Some new
    → run size (schedule ++ e ∷ []) ≡ new
run_further size schedule old new e leads steps =
    fold_push step (opening size) schedule e ∙ (ap (λ (k : Core). step k e) leads ∙ ap (λ (o : Option Core). unwrap_or o old) steps)

pub enabled_more : (size : Size) (known xs : List Event) (e : Event) → AreEnabled size known xs → IsEnabled (run size (known ++ xs)) e
    → AreEnabled size known (xs ++ e ∷ [])
enabled_more size known [] e all one = (subst (λ (es : List Event). IsEnabled (run size es) e) (append-nil known) one, tt)
enabled_more size known (x ∷ xs) e all one =
    (all.0, enabled_more size (known ++ x ∷ []) xs e all.1 (subst (λ (es : List Event). IsEnabled (run size es) e) (sym (append_assoc known (x ∷ []) xs)) one))

pub node_opened : (size : Size) (n : ℕ) → n < size.nodes → node_at (opening size) n ≡ opening_node n size
node_opened size n lt = get_or-map-range_with_len (λ m. opening_node m size) 0 size.nodes n n no_node lt (omega arith)
