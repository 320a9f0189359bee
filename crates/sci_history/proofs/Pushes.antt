-- What a push to one of several lists leaves, if each list is the part f of an element.
use Rattle.std.proofs.Common.{◌≡◌, ℕ, ◌<◌, List, [], ◌∷◌, ◌++◌, length, map, get_or, set, ap, arith}
use Rattle.std.proofs.lemmas.{Bool.{cases_eq}, List.{get_or-map, set-get_or, get_or-set_same, get_or-set_other}}
use Rattle.std.proofs.lemmas.List.Elements.{All-same, All-push}
use Rattle.std.specs.Prelude.{Result, Ok, Err, OnOk, OnErr, All}
use Rattle.sci_history.specs.{declared.entry.Entry.{Entry}, Placed.{AreOwn}}

pub pushed : {X Y : Type 0} (f : X → List Y) (xs : List X) (i : ℕ) (d : X) (new : List Y) (y : Y) → i < length xs → new ≡ f (get_or xs i d) ++ y ∷ []
    → set (map f xs) i new ≡ set (map f xs) i (get_or (map f xs) i [] ++ y ∷ [])
pushed f xs i d new y below e = ap (set (map f xs) i) (rw (get_or-map f xs i d [] below) e)

pub unpushed : {X Y : Type 0} (f : X → List Y) (xs : List X) (i : ℕ) (d : X) (new : List Y) → i < length xs → new ≡ f (get_or xs i d)
    → set (map f xs) i new ≡ map f xs
unpushed f xs i d new below e =
    rw (e, ← get_or-map f xs i d [] below) (set-get_or (map f xs) i [])

-- what was pushed or not pushed, keeps what holds of each element
pub all_pushed : {X T E : Type 0} (P : X → Type 0) (r : Result T E) (old new : List X) (x : X) → OnOk r (new ≡ old ++ x ∷ []) → OnErr r (new ≡ old) → All P old
    → P x → All P new
all_pushed P (Ok t) old new x ok err h k = All-same P new (old ++ x ∷ []) ok (All-push P old x h k)
all_pushed P (Err e) old new x ok err h k = All-same P new old err h

-- one log is another, and each still has its own node's entries
pub own_set : (logs : List (List Entry)) (node : ℕ) (log : List Entry) → AreOwn logs → node < length logs → All (λ e. e.node ≡ node) log
    → AreOwn (set logs node log)
own_set logs node log own lt h n = grind (arith, cases_eq, get_or-set_same, get_or-set_other)
