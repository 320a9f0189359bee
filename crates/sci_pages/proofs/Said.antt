-- What commands write of a log, one behind another.
use Rattle.std.proofs.Common.{◌≡◌, ◌++◌, ℕ, List, append_assoc, arith}
use Rattle.sci_command.proofs.Joined.{joined3}

-- a text, and behind it three others, each with what stands before it
pub all_said : (text a x b y c z n0 n1 n2 n3 : List ℕ) → n0 ≡ text → n1 ≡ n0 ++ (a ++ x) → n2 ≡ n1 ++ (b ++ y) → n3 ≡ n2 ++ (c ++ z)
    → n3 ≡ text ++ (a ++ (x ++ (b ++ (y ++ (c ++ z)))))
all_said text a x b y c z n0 n1 n2 n3 first second third fourth = grind (arith, joined3, append_assoc)
