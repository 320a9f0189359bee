-- Logs whose versions aren't known, and versions for them.
use Rattle.std.specs.Prelude.{◌≡◌, ℕ, List, length, map, Option, Some, slice_index_or}
use Rattle.sci_words.specs.declared.{limits.TheConstants.{MAX_NODES}, stamped.Stamped.{Stamped}}
use Rattle.sci_history.specs.{Lawful.{Lawful}, Memory.{stamped_at}, Placed.{AreOwn}, declared.entry.Entry.{Entry}}

-- an entry without its version
abbrev pub unversioned : Entry → Entry
unversioned entry = record entry { version = 0 }

-- logs without their versions
abbrev pub without_versions : List (List Entry) → List (List Entry)
without_versions logs = map (λ log. map unversioned log) logs

-- the last words that are known: by line, then by place in the line
abbrev pub KnownWords : Type 0
KnownWords = ℕ → ℕ → Option ℕ

-- last contents have each last word that is known
abbrev pub AgreesWith : KnownWords → List Stamped → Type 0
AgreesWith known last = (line word value : ℕ) → known line word ≡ Some value → slice_index_or (stamped_at last line).line word 0 ≡ value

-- These logs and last contents are lawful, the logs are the trace's but for their versions, and the last contents have
-- the words that are known.
pub record AreVersionsOf (trace : List (List Entry)) (known : KnownWords) (logs : List (List Entry)) (last : List Stamped) : Type 0 where
  pub own : AreOwn logs
  pub sixteen : length logs ≡ MAX_NODES
  pub same : without_versions logs ≡ without_versions trace
  pub lawful : Lawful logs last
  pub agrees : AgreesWith known last

-- some versions and last contents make a trace lawful
abbrev pub HasVersions : List (List Entry) → KnownWords → Type 0
HasVersions trace known = (logs : List (List Entry)) × (last : List Stamped) × AreVersionsOf trace known logs last
