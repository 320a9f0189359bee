-- A number's text is the one that std has for it.
use Rattle.std.proofs.{Common.{◌≡◌, ℕ, zero, suc, ◌<◌, ◌^◌, arith}, lemmas.Fmt.{decimal_digit, decimal-digits_of}}
use Rattle.std.specs.Fmt.{decimal}
use Rattle.sci_text.specs.Number.{number}

pub number_decimal : (n : ℕ) → n < 2 ^ 64 → decimal n ≡ number n
unfolding number
number_decimal zero lt = decimal_digit zero (omega arith)
number_decimal (suc n) lt = decimal-digits_of (suc n) (omega arith) lt
