-- One event more at the end of an order.
use Rattle.std.proofs.Common.{◌≡◌, ℕ, ◌+◌, ◌-◌, ◌==◌, Bool, true, false, if◌then◌else◌, List, [], ◌∷◌, ◌++◌, refl, sym, ap, ◌∙◌, append_assoc}
use Rattle.std.proofs.lemmas.List.{append-nil}
use Rattle.std.specs.Prelude.{IsSome, option_to_list}
use Rattle.sci_words.specs.declared.{event.Event.{Event}, operation.Op.{Op}}
use Rattle.sci_history.specs.declared.entry.Entry.{Entry}
use Rattle.sci_orders.proofs.Issuing.{waiting_after}
use Rattle.sci_orders.specs.Orders.{AreFew, issues_at, one_less_at, one_more_at}
use Rattle.sci_orders.specs.Plain.{AreAllowed, Plain, plain_done, plain_made, plain_run, plain_step, plain_stepping}
use Rattle.sci_words.specs.declared.event.Event.TheVariants as event

pub allowed_more : (plain : Plain) (order : List Event) (e : Event) → AreAllowed plain order → IsSome (plain_stepping (plain_run plain order) e)
    → AreAllowed plain (order ++ e ∷ [])
allowed_more plain [] e allowed some = (some, tt)
allowed_more plain (f ∷ order) e allowed some = (allowed.0, allowed_more (plain_step plain f) order e allowed.1 some)

pub done_more : (plain : Plain) (order : List Event) (e : Event)
    → plain_done plain (order ++ e ∷ []) ≡ plain_done plain order ++ option_to_list (plain_made (plain_run plain order) e)
done_more plain [] e = append-nil (option_to_list (plain_made plain e))
done_more plain (f ∷ order) e =
    ap (λ (es : List Entry). option_to_list (plain_made plain f) ++ es) (done_more (plain_step plain f) order e)
    ∙ sym (append_assoc (option_to_list (plain_made plain f)) (plain_done (plain_step plain f) order)
    (option_to_list (plain_made (plain_run (plain_step plain f) order) e)))

issue_append : (op : Op) (ops more : List Op) (b : Bool) → (if b then op ∷ (ops ++ more) else ops ++ more) ≡ (if b then op ∷ ops else ops) ++ more
issue_append op ops more true = refl
issue_append op ops more false = refl

pub issues-append : (n : ℕ) (order : List Event) (e : Event) → issues_at n (order ++ e ∷ []) ≡ issues_at n order ++ issues_at n (e ∷ [])
issues-append n [] e = refl
issues-append n (event.Issue m op ∷ order) e =
    ap (λ (ops : List Op). if m == n then op ∷ ops else ops) (issues-append n order e) ∙ issue_append op (issues_at n order) (issues_at n (e ∷ [])) (m == n)
issues-append n (event.Perform m line ∷ order) e = issues-append n order e
issues-append n (event.Ask m line kind ∷ order) e = issues-append n order e
issues-append n (event.Serve from m ∷ order) e = issues-append n order e
issues-append n (event.Refuse from m ∷ order) e = issues-append n order e
issues-append n (event.Reply m ∷ order) e = issues-append n order e
issues-append n (event.Accept from m ∷ order) e = issues-append n order e

pub few-append : (window : ℕ) (waiting : ℕ → ℕ) (order : List Event) (e : Event) → AreFew window waiting order
    → AreFew window (waiting_after order waiting) (e ∷ []) → AreFew window waiting (order ++ e ∷ [])
few-append window waiting [] e few more = more
few-append window waiting (event.Issue m op ∷ order) e few more = (few.0, few-append window (one_more_at m waiting) order e few.1 more)
few-append window waiting (event.Perform m line ∷ order) e few more = few-append window (one_less_at m waiting) order e few more
few-append window waiting (event.Ask m line kind ∷ order) e few more = few-append window waiting order e few more
few-append window waiting (event.Serve from m ∷ order) e few more = few-append window waiting order e few more
few-append window waiting (event.Refuse from m ∷ order) e few more = few-append window waiting order e few more
few-append window waiting (event.Reply m ∷ order) e few more = few-append window waiting order e few more
few-append window waiting (event.Accept from m ∷ order) e few more = few-append window waiting order e few more

pub after-append : (waiting : ℕ → ℕ) (order : List Event) (e : Event)
    → waiting_after (order ++ e ∷ []) waiting ≡ waiting_after (e ∷ []) (waiting_after order waiting)
after-append waiting [] e = refl
after-append waiting (event.Issue m op ∷ order) e = after-append (one_more_at m waiting) order e
after-append waiting (event.Perform m line ∷ order) e = after-append (one_less_at m waiting) order e
after-append waiting (event.Ask m line kind ∷ order) e = after-append waiting order e
after-append waiting (event.Serve from m ∷ order) e = after-append waiting order e
after-append waiting (event.Refuse from m ∷ order) e = after-append waiting order e
after-append waiting (event.Reply m ∷ order) e = after-append waiting order e
after-append waiting (event.Accept from m ∷ order) e = after-append waiting order e

-- what waits depends on how many waited at each node
pub after_same : (e : Event) (f g : ℕ → ℕ) → ((n : ℕ) → f n ≡ g n) → (m : ℕ) → waiting_after (e ∷ []) f m ≡ waiting_after (e ∷ []) g m
after_same (event.Issue n op) f g same m = ap (λ (k : ℕ). if m == n then k + 1 else k) (same m)
after_same (event.Perform n line) f g same m = ap (λ (k : ℕ). if m == n then k - 1 else k) (same m)
after_same (event.Ask n line kind) f g same m = same m
after_same (event.Serve from n) f g same m = same m
after_same (event.Refuse from n) f g same m = same m
after_same (event.Reply n) f g same m = same m
after_same (event.Accept from n) f g same m = same m
