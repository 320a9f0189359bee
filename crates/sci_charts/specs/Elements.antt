-- Elements of SVG.
use Rattle.std.specs.Prelude.{ℕ, List, [], ◌∷◌, ◌++◌, codes}
use Rattle.sci_text.specs.Number.{number}
use Rattle.sci_charts.specs.declared.elements.{Point.{Point}, Way.{Way, TheVariants.{Straight, Around}}}

-- ` NAME="VALUE"`
unfoldable pub attribute : List ℕ → ℕ → List ℕ
attribute name value = codes " " ++ (name ++ (61 ∷ 34 ∷ [] ++ (number value ++ 34 ∷ [])))

-- ` class="CLASS"`, or nothing if there is no class
unfoldable pub class_attribute : List ℕ → List ℕ
class_attribute [] = []
class_attribute (byte ∷ class) = codes " class=" ++ (34 ∷ [] ++ (byte ∷ class ++ 34 ∷ []))

-- `<NAME class="CLASS"`, or `<NAME`
unfoldable pub opening : List ℕ → List ℕ → List ℕ
opening name class = codes "<" ++ (name ++ class_attribute class)

-- `<title>TITLE</title>`, or nothing if there is no title
unfoldable pub title_element : List ℕ → List ℕ
title_element [] = []
title_element (byte ∷ title) = codes "<title>" ++ (byte ∷ title ++ codes "</title>")

-- `X Y`
unfoldable pub point_text : Point → List ℕ
point_text point = number point.x ++ (codes " " ++ number point.y)

-- the steps of a way: `MX Y X Y`, or `MX YHXVYHX`
unfoldable pub way_text : Way → List ℕ
way_text (Straight from to) = codes "M" ++ (point_text from ++ (codes " " ++ point_text to))
way_text (Around from left) =
    codes "M" ++ (point_text from ++ (codes "H" ++ (number left.x ++ (codes "V" ++ (number left.y ++ (codes "H" ++ number from.x))))))

-- `<path class="CLASS" d="WAY">`, the title, and `</path>`
unfoldable pub arrow_element : List ℕ → Way → List ℕ → List ℕ
arrow_element class way title =
    opening (codes "path") class
    ++ (codes " d=" ++ (34 ∷ [] ++ (way_text way ++ (34 ∷ 62 ∷ [] ++ (title_element title ++ codes "</path>")))))

-- the cross between its left upper and its right lower end
unfoldable pub cross_element : Point → Point → List ℕ
cross_element upper lower =
    opening (codes "path") (codes "cross")
    ++ (codes " d="
    ++ (34 ∷ []
    ++ (way_text (Straight upper lower)
    ++ (way_text (Straight (record { x = lower.x; y = upper.y }) (record { x = upper.x; y = lower.y })) ++ (34 ∷ [] ++ codes "/>")))))

unfoldable pub circle_element : List ℕ → Point → ℕ → List ℕ
circle_element class centre radius =
    opening (codes "circle") class
    ++ (attribute (codes "cx") centre.x ++ (attribute (codes "cy") centre.y ++ (attribute (codes "r") radius ++ codes "/>")))

-- `<text y="Y">WORDS</text>`, with its class if it has one
unfoldable pub event_element : List ℕ → ℕ → List ℕ → List ℕ
event_element class y words = opening (codes "text") class ++ (attribute (codes "y") y ++ (62 ∷ [] ++ (words ++ codes "</text>")))

-- `<text x="X" y="Y">WORDS`, the title, and `</text>`, with its class if it has one
unfoldable pub label_element : List ℕ → Point → List ℕ → List ℕ → List ℕ
label_element class at words title =
    opening (codes "text") class
    ++ (attribute (codes "x") at.x ++ (attribute (codes "y") at.y ++ (62 ∷ [] ++ (words ++ (title_element title ++ codes "</text>")))))

-- what stands before the height of a block of rows, and behind it: the end of the block before, and the names of the nodes
abbrev pub block_begin : List ℕ
block_begin = codes "</g>" ++ (10 ∷ [] ++ (codes "<g transform=" ++ (34 ∷ [] ++ codes "translate(0 ")))

abbrev pub block_names : List ℕ
block_names = codes ")" ++ (34 ∷ 62 ∷ [] ++ (codes "<use href=" ++ (34 ∷ [] ++ (codes "#names" ++ 34 ∷ 47 ∷ 62 ∷ 10 ∷ []))))

unfoldable pub block_element : ℕ → List ℕ
block_element y = block_begin ++ (number y ++ block_names)
