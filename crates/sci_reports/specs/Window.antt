-- Which entries a note shows.
use Rattle.std.specs.{Prelude.{ℕ, ◌-◌, ◌==◌, List, take, drop}, List.{position_or_len}}
use Rattle.sci_reports.specs.declared.numbered.Numbered.{Numbered}

-- where the entry on a line of the text stands; behind the last if there is none
abbrev pub place_on_line : List Numbered → ℕ → ℕ
place_on_line placed text_line = position_or_len (λ it. it.text_line == text_line) placed

-- that entry, and up to three on either side
abbrev pub window : List Numbered → ℕ → List Numbered
window placed text_line = take 7 (drop (place_on_line placed text_line - 3) placed)
