-- One step of a memory that begins with given words, and of one that begins with zeros.
use Rattle.std.proofs.Common.{◌≡◌, ℕ, zero, suc, ◌+◌, ◌-◌, ◌<◌, ◌≤◌, List, [], ◌∷◌, length, get_or, set, length-set, refl, sym, ap, ◌∙◌, arith}
use Rattle.std.proofs.lemmas.Bool.{cases_Bool, cases_eq, eq-eqb, ne_eqb, le-leb, lt-leb}
use Rattle.sci_words.specs.declared.operation.{Act.{Act, TheVariants.{Load, Store, Lock}}, Reply.{Reply, TheVariants.{Stored, Got}}}
use Rattle.sci_words.specs.{Operation.{effect_of_act, makes_version}, Stamped.{after, line_after, reply_of}, declared.stamped.Stamped.{Stamped}}
use Rattle.sci_history.specs.declared.entry.Entry.{Entry}
use Rattle.sci_history.proofs.{Histories.{version-load, version-maker}, Runs.{same_stamped}}
use Rattle.sci_windows.specs.Relative.{swapped, counted_from, relative_act, relative_reply, relative_to, relative_line, relative_stamped}

-- ---- words that change places

pub swap_first : (f : ℕ) → swapped f f ≡ 0
swap_first f = rw (eq-eqb f f refl) refl

swap_zero : (f : ℕ) → swapped f 0 ≡ f
swap_zero f = grind (arith, cases_eq, eq-eqb, ne_eqb)

swap_other : (f x : ℕ) → (x ≡ f → ⊥) → (x ≡ 0 → ⊥) → swapped f x ≡ x
swap_other f x n m = rw (ne_eqb x f n, ne_eqb x 0 m) refl

swap_back : (f x : ℕ) → swapped f (swapped f x) ≡ x
swap_back f x = grind (arith, cases_eq, swap_first, swap_zero, swap_other)

pub swap_same : (f x y : ℕ) → swapped f x ≡ swapped f y → x ≡ y
swap_same f x y e = sym (swap_back f x) ∙ (ap (swapped f) e ∙ swap_back f y)

got_same : (x y : ℕ) → Got x ≡ Got y → x ≡ y
got_same x y e = cc

-- ---- what an operation does to one word

relative_right : (f old : ℕ) (act : Act) (reply : Reply) → reply ≡ (effect_of_act act old).1
    → relative_reply f reply ≡ (effect_of_act (relative_act f act reply) (swapped f old)).1
relative_right f old Load reply e = ap (relative_reply f) e
relative_right f old (Store word) reply e = ap (relative_reply f) e
relative_right f old (Lock lock) Stored e = absurd cc
relative_right f old (Lock lock) (Got word) e = ap (relative_reply f) e

relative_leaves : (f old : ℕ) (act : Act) (reply : Reply) → reply ≡ (effect_of_act act old).1
    → (effect_of_act (relative_act f act reply) (swapped f old)).0 ≡ swapped f (effect_of_act act old).0
relative_leaves f old Load reply e = refl
relative_leaves f old (Store word) reply e = refl
relative_leaves f old (Lock lock) Stored e = absurd cc
relative_leaves f old (Lock lock) (Got word) e = grind (arith, got_same, eq-eqb)

relative_back : (f old : ℕ) (act : Act) (reply : Reply) → relative_reply f reply ≡ (effect_of_act (relative_act f act reply) (swapped f old)).1
    → reply ≡ (effect_of_act act old).1
relative_back f old Load Stored e = absurd cc
relative_back f old Load (Got word) e = ap Got (swap_same f word old (got_same (swapped f word) (swapped f old) e))
relative_back f old (Store word) Stored e = refl
relative_back f old (Store word) (Got got) e = absurd cc
relative_back f old (Lock lock) Stored e = absurd cc
relative_back f old (Lock lock) (Got word) e = ap Got (swap_same f word old (got_same (swapped f word) (swapped f old) e))

pub relative_maker : (f : ℕ) (act : Act) (reply : Reply) → makes_version (relative_act f act reply) ≡ makes_version act
relative_maker f Load reply = refl
relative_maker f (Store word) reply = refl
relative_maker f (Lock lock) Stored = refl
relative_maker f (Lock lock) (Got word) = refl

-- ---- lines

pub relative_at : (first words : List ℕ) (i : ℕ) → length first ≡ length words
    → get_or (relative_line first words) i 0 ≡ swapped (get_or first i 0) (get_or words i 0)
relative_at [] [] i long = refl
relative_at [] (w ∷ words) i long = absurd (omega arith)
relative_at (f ∷ first) [] i long = absurd (omega arith)
relative_at (f ∷ first) (w ∷ words) zero long = refl
relative_at (f ∷ first) (w ∷ words) (suc i) long = relative_at first words i (omega arith)

relative_set : (first words : List ℕ) (i x : ℕ) → length first ≡ length words
    → set (relative_line first words) i (swapped (get_or first i 0) x) ≡ relative_line first (set words i x)
relative_set [] [] i x long = refl
relative_set [] (w ∷ words) i x long = absurd (omega arith)
relative_set (f ∷ first) [] i x long = absurd (omega arith)
relative_set (f ∷ first) (w ∷ words) zero x long = refl
relative_set (f ∷ first) (w ∷ words) (suc i) x long = ap (λ (ws : List ℕ). swapped f w ∷ ws) (relative_set first words i x (omega arith))

heads : (x y : ℕ) (xs ys : List ℕ) → x ∷ xs ≡ y ∷ ys → x ≡ y
heads x y xs ys e = cc

tails : (x y : ℕ) (xs ys : List ℕ) → x ∷ xs ≡ y ∷ ys → xs ≡ ys
tails x y xs ys e = cc

pub relative_line_same : (first a b : List ℕ) → length first ≡ length a → length first ≡ length b → relative_line first a ≡ relative_line first b → a ≡ b
relative_line_same [] a b long_a long_b e = e
relative_line_same (f ∷ first) [] b long_a long_b e = absurd (omega arith)
relative_line_same (f ∷ first) (x ∷ a) [] long_a long_b e = absurd (omega arith)
relative_line_same (f ∷ first) (x ∷ a) (y ∷ b) long_a long_b e =
    let head : x ≡ y = swap_same f x y (heads (swapped f x) (swapped f y) (relative_line first a) (relative_line first b) e) in
    let tail : a ≡ b = relative_line_same first a b (omega arith) (omega arith)
    (tails (swapped f x) (swapped f y) (relative_line first a) (relative_line first b) e) in
    cc

-- ---- steps

pub right_step : (first : Stamped) (words : List ℕ) (e : Entry) → length first.line ≡ length words → e.reply ≡ reply_of words e.op
    → (relative_to first e).reply ≡ reply_of (relative_line first.line words) (relative_to first e).op
right_step first words e long right = grind (arith, relative_right, relative_at)

pub back_step : (first : Stamped) (words : List ℕ) (e : Entry) → length first.line ≡ length words
    → (relative_to first e).reply ≡ reply_of (relative_line first.line words) (relative_to first e).op → e.reply ≡ reply_of words e.op
back_step first words e long right = grind (arith, relative_back, relative_at)

pub line_step : (first : Stamped) (words : List ℕ) (e : Entry) → length first.line ≡ length words → e.reply ≡ reply_of words e.op
    → line_after (relative_line first.line words) (relative_to first e).op ≡ relative_line first.line (line_after words e.op)
line_step first words e long right = grind (arith, relative_at, relative_leaves, relative_set)

-- ---- versions

pub counted_after : (first version : ℕ) → first ≤ version → counted_from first version ≡ version - first
counted_after first version le = rw (le-leb first version le) refl

pub counted_before : (first version : ℕ) → version < first → counted_from first version ≡ version + (18446744073709551616 - first)
counted_before first version lt = rw (lt-leb first version lt) refl

version_step : (first old : Stamped) (e : Entry) → first.version ≤ old.version
    → (after (relative_stamped first old) (relative_to first e).op).version ≡ counted_from first.version (after old e.op).version
version_step first old e le = grind (arith, relative_maker, counted_after, cases_Bool, version-maker, version-load)

pub after_step : (first old : Stamped) (e : Entry) → first.version ≤ old.version → length first.line ≡ length old.line → e.reply ≡ reply_of old.line e.op
    → after (relative_stamped first old) (relative_to first e).op ≡ relative_stamped first (after old e.op)
after_step first old e le long right = grind (arith, same_stamped, line_step, version_step)

pub long_after : (old : Stamped) (e : Entry) → length (after old e.op).line ≡ length old.line
long_after old e = length-set old.line e.op.word (effect_of_act e.op.act (get_or old.line e.op.word 0)).0

pub long_line_after : (words : List ℕ) (e : Entry) → length (line_after words e.op) ≡ length words
long_line_after words e = length-set words e.op.word (effect_of_act e.op.act (get_or words e.op.word 0)).0
