-- What comes of an event, as it is appended.
use Rattle.std.proofs.Common.{◌≡◌, ℕ, List, ◌++◌, codes, Option, Some, None}
use Rattle.sci_words.specs.declared.event.Event.{Event}
use Rattle.sci_history.specs.declared.entry.Entry.{Entry}
use Rattle.sci_cache.specs.Cache.{Letter}
use Rattle.sci_core.specs.{declared.obstacle.Obstacle.{Obstacle}, Core.{Core, node_of, stepping}}
use Rattle.sci_core.specs.Obstacles.{obstacle_to}
use Rattle.sci_statistics.specs.About.{letter_sent, letter_taken, line_changed}
use Rattle.sci_traces.specs.Logged.{entry_logged}
use Rattle.sci_traces.specs.TraceAnswer.{cache_on, home_on, moved_text, changes_text, entry_text, effect_text, reason_text, outcome_of}
use Rattle.sci_command.proofs.Joined.{joined4}

-- of an event that isn't enabled
pub reason_given : (core : Core) (e : Event) (old new : List ℕ) (obstacle : Option Obstacle) → stepping core e ≡ None → obstacle ≡ obstacle_to core e
    → new ≡ old ++ reason_text core e obstacle → new ≡ old ++ outcome_of core e (stepping core e)
unfolding outcome_of
reason_given core e old new obstacle idle why is = rw (idle, ← why) is

-- of an event that leads to another state
pub effect_given : (core next : Core) (e : Event) (old n1 n2 n3 n4 cache home : List ℕ) (sent taken : Option Letter) (line : Option ℕ) (node : ℕ)
    (entry : Option Entry) → stepping core e ≡ Some next
    → sent ≡ letter_sent core e → taken ≡ letter_taken core e → line ≡ line_changed core e → node ≡ node_of e → cache ≡ cache_on core node line
    → home ≡ home_on core node line → entry ≡ entry_logged next e
    → n1 ≡ old ++ moved_text (codes "  sent ") sent → n2 ≡ n1 ++ moved_text (codes "  took ") taken → n3 ≡ n2 ++ changes_text cache home next node line
    → n4 ≡ n3 ++ entry_text entry
    → n4 ≡ old ++ outcome_of core e (stepping core e)
unfolding outcome_of effect_text
effect_given core next e old n1 n2 n3 n4 cache home sent taken line node entry done is_sent is_taken is_line is_node is_cache is_home is_entry e1 e2 e3 e4 =
    let whole = joined4 old (moved_text (codes "  sent ") sent) (moved_text (codes "  took ") taken) (changes_text cache home next node line) (entry_text entry)
    n1 n2 n3 n4 e1 e2 e3 e4 in
    rw done (rw (is_sent, is_taken, is_cache, is_home, is_line, is_node, is_entry) at whole)
