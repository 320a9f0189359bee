-- A word at the front of bytes.
use Rattle.std.proofs.Common.{◌≡◌, ◌≢◌, ℕ, Bool, true, false, cond, eqb, List, [], ◌∷◌, ◌++◌, Option, Some, None, refl, ap, ◌∙◌}
use Rattle.std.specs.Prelude.{MatchOption}
use denote.Ref.{Bor}
use Rattle.std.proofs.lemmas.{Bool.{eqb-true, eq-eqb}, Option.{same_Some}}
use Rattle.std.specs.Prelude.{option_map}
use Rattle.sci_text.specs.Reading.{Gives, after, otherwise, spelled}

pub after_again : (word rest : List ℕ) → after word (word ++ rest) ≡ Some rest
unfolding after
after_again [] rest = refl
after_again (c ∷ word) rest = rw (eq-eqb c c refl) (after_again word rest)

cond_some_else : {A : Type 0} (b : Bool) (o : Option A) (x : A) → cond b o None ≡ Some x → (b ≡ true) × (o ≡ Some x)
cond_some_else true o x e = (refl, e)
cond_some_else false o x e = absurd cc

pub after_found : (word bytes rest : List ℕ) → after word bytes ≡ Some rest → bytes ≡ word ++ rest
unfolding after
after_found [] bytes rest e = cc
after_found (c ∷ word) [] rest e = absurd cc
after_found (c ∷ word) (b ∷ bytes) rest e =
    let s = cond_some_else (eqb b c) (after word bytes) rest e in
    ap (λ (x : ℕ). x ∷ bytes) (eqb-true b c s.0) ∙ ap (λ (l : List ℕ). c ∷ l) (after_found word bytes rest s.1)

spelled_first : {K P : Type 0} (o : Option (List ℕ)) (c : K) (second : Option (K × List ℕ)) (y : K × List ℕ)
    → ((r : List ℕ) → o ≡ Some r → (c, r) ≡ y → P) → (second ≡ Some y → P) → otherwise (option_map (λ r. (c, r)) o) second ≡ Some y → P
spelled_first None c second y f g e = g e
spelled_first (Some r) c second y f g e = f r refl (same_Some (c, r) y e)

pub spelled_found : {K : Type 0} (word_of : K → List ℕ) (all : List K) (bytes : List ℕ) (k : K) (rest : List ℕ) → spelled word_of all bytes ≡ Some (k, rest)
    → bytes ≡ word_of k ++ rest
spelled_found word_of [] bytes k rest e = absurd cc
spelled_found word_of (c ∷ all) bytes k rest e =
    spelled_first (after (word_of c) bytes) c (spelled word_of all bytes) (k, rest)
    (λ r at same. after_found (word_of c) bytes r at ∙ ap (λ (p : _). word_of p.0 ++ p.1) same) (spelled_found word_of all bytes k rest) e

strips_none : (read : Option (List ℕ)) (word bytes : List ℕ) → after word bytes ≡ read → ((rest : List ℕ) → bytes ≢ word ++ rest) → read ≡ None
strips_none None word bytes e h = refl
strips_none (Some rest) word bytes e h = absurd (h rest (after_found word bytes rest e))

pub strips : (word bytes : List ℕ) (r : Option (Bor (List ℕ))) → MatchOption r ((rest : List ℕ) → bytes ≢ word ++ rest) (λ x. bytes ≡ word ++ x.now)
    → Gives (λ x. x.now) r (after word bytes)
strips word bytes None h = strips_none (after word bytes) word bytes refl h
strips word bytes (Some x) h = ap (after word) h ∙ after_again word x.now
