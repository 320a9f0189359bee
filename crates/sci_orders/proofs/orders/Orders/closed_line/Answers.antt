-- Each line that has words is looked at.
use Rattle.std.proofs.Common.{◌≡◌, ◌*◌, ◌<◌, ℕ, true, length, sym, ap, ◌∙◌, arith, inl, inr}
use Rattle.std.proofs.lemmas.Bool.{cases_Bool, cases_eq, cases_lt}
use Rattle.sci_words.specs.declared.{limits.TheConstants.{WORDS_PER_LINE}}
use Rattle.sci_orders.proofs.{Changes.{waiting_below}, Finding.{closed_means}}
use Rattle.sci_orders.specs.{Eager.{is_closed}, Positions.{Fits, Operations, Position, lists_of, operation_at, position_of, word_place}}
use Rattle.sci_orders.proofs.orders.Orders.closed_line.Goals as goal

pub loop-line-preserved : goal.loop-line-preserved
loop-line-preserved c = λ k low. elim (cases_eq k c.loop-line.line) [
  | inl e ↦ ap (is_closed (lists_of c.args.self.now.operations.now) (position_of c.args.standing.now)) e ∙ (sym c.is_closed.ensures ∙ c.if-is_closed.false)
  | inr other ↦ c.loop-line.invariant k (omega (arith, low, other))
]

-- a line that is closed has words
closed_words : (operations : Operations) (p : Position) (line : ℕ) → Fits operations p → is_closed operations p line ≡ true
    → line * WORDS_PER_LINE < length p.words
closed_words operations p line fits is =
    let closed = closed_means operations p line is in
    let n = closed.node in
    let w = closed.some in
    let low = waiting_below p n w.place w.waits in
    let issued = fits.issued n in
    let words : word_place (operation_at operations n w.place) < length p.words = fits.words n w.place (omega (arith, low, issued)) in
    let on = w.on in
    omega (arith, words, on)

pub returns : goal.returns
returns c = λ line. (
    let operations = lists_of c.args.self.now.operations.now in
    let p = position_of c.args.standing.now in
    elim (cases_lt line c.loop-line.line) [
      | inl before ↦ c.loop-line.invariant line before
      | inr past ↦ elim (cases_Bool (is_closed operations p line)) [
        | inl is ↦
            let words = closed_words operations p line c.requires is in
            let many = c.len.ensures in
            let end = c.loop-line-test.false in
            absurd (omega arith)
        | inr isnt ↦ isnt
      ]
    ])
