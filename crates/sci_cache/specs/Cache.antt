-- A node's cache: its number, the size of the machine, and its part for each line.
use Rattle.std.specs.Prelude.{ℕ, Bool, not, ◌%◌, nat_lt, List, count_by, slice_index_or, slice_set, Option, option_map, Some, None, Result}
use Rattle.std.specs.Result.{result_map_both}
use Rattle.sci_words.specs.declared.{event.AskKind.{AskKind}, operation.{Op.{Op}, Reply.{Reply}}}
use Rattle.sci_packets.specs.declared.{body.Body.{Body}, packet.Packet.{Packet}}
use Rattle.sci_cache.specs.{declared.fault.AskFault.{AskFault}, State.{is_out}, Asking.{Asked}, Serving.{serving}}
use Rattle.sci_cache.specs.Performing.{performing}
use Rattle.sci_cache.specs.Line.{LineState, untouched, line_asking, line_asked, line_in, line_accepting, next_control}

pub record CacheOf : Type 0 where
  pub me : ℕ
  pub nodes : ℕ
  pub slots : ℕ
  pub lines : List LineState

-- the part for a line
abbrev pub line_of : CacheOf → ℕ → LineState
line_of cache line = slice_index_or cache.lines line untouched

-- the cache with another part for a line, and every other line as it was
abbrev pub with_line : CacheOf → ℕ → LineState → CacheOf
with_line cache line part = record cache { lines = slice_set cache.lines line part }

-- the lines that have an entry: each takes a version slot
abbrev pub slots_taken : List LineState → ℕ
slots_taken lines = count_by (λ line. not (is_out line.state)) lines

-- whether a version slot is free
abbrev pub has_slot : CacheOf → Bool
has_slot cache = nat_lt (slots_taken cache.lines) cache.slots

-- the node that has the home of a line (line modulo nodes, this project's profile), or another node that is named
abbrev pub target_of : CacheOf → ℕ → Option ℕ → ℕ
target_of cache line None = line % cache.nodes
target_of cache line (Some node) = node

-- what a packet says
pub record Letter : Type 0 where
  pub target : ℕ
  pub source : ℕ
  pub control : ℕ
  pub line : ℕ
  pub body : Body

abbrev pub letter_of : Packet → Letter
letter_of p = record { target = p.target; source = p.source; control = p.control; line = p.line; body = p.body }

-- the request of a line, with the control number of its next ask
abbrev pub letter_asking : CacheOf → ℕ → Asked → Letter
letter_asking cache line asked = record {
  target = target_of cache line asked.to;
  source = cache.me;
  control = next_control (line_of cache line);
  line = line;
  body = asked.request;
}

-- the cache and its request after what a line asks, if it asks
abbrev pub cache_asked : CacheOf → ℕ → Result Asked AskFault → Result (CacheOf × Letter) AskFault
cache_asked cache line made =
    result_map_both (λ asked. (with_line cache line (line_asked (line_of cache line) asked), letter_asking cache line asked)) (λ fault. fault) made

-- the cache after an ask of this kind, and its request
abbrev pub cache_asking : CacheOf → ℕ → AskKind → Result (CacheOf × Letter) AskFault
cache_asking cache line kind = cache_asked cache line (line_asking (line_of cache line) kind (has_slot cache))

-- the cache after a request from node n about a line, and its answer
abbrev pub cache_serving : CacheOf → ℕ → ℕ → Body → Option (CacheOf × Body)
cache_serving cache line n request =
    option_map (λ served. (with_line cache line (line_in (line_of cache line) served.0), served.1)) (serving (line_of cache line).state n request)

-- the cache after an answer about a line with this control, or none if it isn't awaited
abbrev pub cache_accepting : CacheOf → ℕ → ℕ → Body → Option CacheOf
cache_accepting cache line control answer =
    option_map (λ state. with_line cache line (line_in (line_of cache line) state)) (line_accepting (line_of cache line) control answer)

-- the cache after an operation, its reply and the version that it read or made, or none if it isn't allowed
abbrev pub cache_performing : CacheOf → Op → Option (CacheOf × Reply × ℕ)
cache_performing cache op =
    option_map (λ done. (with_line cache op.line (line_in (line_of cache op.line) done.next), done.reply, done.version))
    (performing (line_of cache op.line).state op)
