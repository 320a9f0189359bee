-- The lines of a cycle, one after another.
use Rattle.std.proofs.Common.{◌≡◌, ℕ, List, [], ◌∷◌, ◌++◌, append_assoc, arith}
use Rattle.sci_judge.specs.declared.{access.Access.{Access}, cycle.Link.{Link}}
use Rattle.sci_axe.specs.Telling.{cycle_text, link_text, links_text}

-- one line more
pub links_on : (accesses : List Access) (link next : Link) (links rest : List Link) (to : ℕ) (before out whole : List ℕ) → links ≡ next ∷ rest
    → out ≡ before ++ link_text accesses link next.place → before ++ links_text accesses link links to ≡ whole
    → out ++ links_text accesses next rest to ≡ whole
unfolding links_text
links_on accesses link next links rest to before out whole is line lines = grind (arith, append_assoc)

-- the last line
pub links_end : (accesses : List Access) (link first : Link) (links rest all : List Link) (before out start : List ℕ) → links ≡ [] → all ≡ first ∷ rest
    → out ≡ before ++ link_text accesses link first.place
    → before ++ links_text accesses link links first.place ≡ start ++ links_text accesses first rest first.place → out ≡ start ++ cycle_text accesses all
unfolding cycle_text links_text
links_end accesses link first links rest all before out start none is line lines = grind arith
