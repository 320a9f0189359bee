-- How the fields of a node fit together.
use Rattle.std.specs.Prelude.{◌≡◌, ◌≤◌, ℕ, length}
use Rattle.sci_words.specs.declared.extent.Extent.{Extent}
use Rattle.sci_cache.specs.Cache.{CacheOf}

-- the cache is that of this node in a machine of this size, and the log has room for every operation
pub record FitsInside (number : ℕ) (extent : Extent) (cache : CacheOf) (space limit : ℕ) : Type 0 where
  pub me : cache.me ≡ number
  pub nodes : cache.nodes ≡ extent.nodes
  pub slots : cache.slots ≡ extent.slots
  pub lines : length cache.lines ≡ extent.lines
  pub room : limit ≤ space
