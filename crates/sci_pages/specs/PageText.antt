-- The text of a page: a frame, which is the same for all of its kind, and in it a title and data.
use Rattle.std.specs.Prelude.{ℕ, List, [], ◌∷◌, ◌++◌, ◌==◌, Option, codes, unwrap_or, if◌then◌else◌}
use Rattle.std.specs.List.{flat_map}
use Rattle.sci_pages.specs.{declared.{frame.TheConstants.{PAGE_HEAD}, kind.PageKind.{PageKind}}, PageKind.{end_of, name_of, parts_of}}

-- what stands for a byte to which HTML gives a meaning, and else the byte
unfoldable pub escape : ℕ → List ℕ
escape byte = if byte == 38 then codes "&amp;" else if byte == 60 then codes "&lt;" else byte ∷ []

abbrev pub escaped : List ℕ → List ℕ
escaped text = flat_map escape text

-- the title of a page: the one that is given, or else one for all of its kind
abbrev pub title_of : PageKind → Option (List ℕ) → List ℕ
title_of kind title = unwrap_or title (name_of kind)

-- a page with a title and data
unfoldable pub page_text : PageKind → Option (List ℕ) → List ℕ → List ℕ
page_text kind title body = PAGE_HEAD.now ++ (escaped (title_of kind title) ++ (parts_of kind ++ (escaped body ++ end_of kind)))
