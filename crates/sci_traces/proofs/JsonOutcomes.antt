-- What comes of an event, as members of an object.
use Rattle.std.proofs.Common.{◌≡◌, ℕ, Bool, true, false, List, ◌++◌, append_assoc, codes, Option, Some, None, sym, ap, ◌∙◌, refl}
use Rattle.std.specs.Prelude.{is_none, is_some, not}
use Rattle.json.specs.{Token.{Token}, Written.{Written}}
use Rattle.sci_words.specs.declared.event.Event.{Event}
use Rattle.sci_history.specs.declared.entry.Entry.{Entry}
use Rattle.sci_core.specs.{declared.obstacle.Obstacle.{Obstacle}, Core.{Core, node_of, stepping}}
use Rattle.sci_core.specs.Obstacles.{obstacle_name, obstacle_to}
use Rattle.sci_traces.specs.declared.json_event.When.TheVariants.{Before, After}
use Rattle.sci_json.specs.Members.{Adds, text_member, truth_member}
use Rattle.sci_traces.specs.JsonEvent.{line_member, logged_member, moved_members, obstacle_member, outcome_members, standing_members}
use Rattle.sci_traces.specs.Logged.{entry_logged}
use Rattle.sci_statistics.specs.About.{line_changed}

adds : (a b c : Written) (t u : List Token) → Adds a b t → Adds b c u → Adds a c (t ++ u)
adds a b c t u one two = (two.0 ∙ one.0, two.1 ∙ (ap (λ (ts : List Token). ts ++ u) one.1 ∙ append_assoc a.tokens t u))

idle_of : (next : Option Core) → is_some next ≡ false → next ≡ None
idle_of None e = refl
idle_of (Some core) e = cc

untrue : (truth : Bool) → true ≡ not truth → truth ≡ false
untrue false e = refl
untrue true e = cc

true_of : (truth : Bool) → false ≡ not truth → truth ≡ true
true_of true e = refl
true_of false e = cc

-- of an event that isn't enabled
pub refusal_written : (core : Core) (e : Event) (a b c d x : Written) (found : Option Obstacle) (o : Obstacle) (name : List ℕ) (truth : Bool) (n : ℕ)
    (line : Option ℕ) → found ≡ Some o → found ≡ obstacle_to core e → is_none found ≡ is_some (stepping core e) → is_some found ≡ not truth
    → n ≡ node_of e → line ≡ line_changed core e → Adds a b (truth_member (codes "enabled") truth) → Adds b c (text_member (codes "obstacle") name)
    → name ≡ obstacle_name o → Adds c d (line_member e line) → Adds d x (standing_members Before core n line)
    → Adds a x (outcome_members core e (stepping core e))
unfolding outcome_members obstacle_member
refusal_written core e a b c d x found o name truth n line is why enabled truth_is n_is line_is one two name_is three four =
    let idle = idle_of (stepping core e) (sym enabled ∙ ap is_none is) in
    let stands : obstacle_to core e ≡ Some o = sym why ∙ is in
    let false_is = untrue truth (sym (ap is_some is) ∙ truth_is) in
    let stays = standing_members Before core n line in
    let joined = adds a b x (truth_member (codes "enabled") truth) (text_member (codes "obstacle") name ++ (line_member e line ++ stays)) one
    (adds b c x (text_member (codes "obstacle") name) (line_member e line ++ stays) two (adds c d x (line_member e line) stays three four)) in
    rw (idle, stands) (rw (false_is, n_is, line_is, name_is) at joined)

-- of an event that leads to another state
pub effect_written : (core next : Core) (e : Event) (a b c d x y : Written) (found : Option Obstacle) (truth : Bool) (n : ℕ) (line : Option ℕ)
    (entry : Option Entry) → stepping core e ≡ Some next → found ≡ None → is_some found ≡ not truth → n ≡ node_of e → line ≡ line_changed core e
    → entry ≡ entry_logged next e
    → Adds a b (truth_member (codes "enabled") truth) → Adds b c (moved_members core e) → Adds c d (standing_members Before core n line)
    → Adds d x (standing_members After next n line) → Adds x y (logged_member entry) → Adds a y (outcome_members core e (stepping core e))
unfolding outcome_members
effect_written core next e a b c d x y found truth n line entry done is truth_is n_is line_is entry_is one two three four five =
    let before = standing_members Before core n line in
    let after = standing_members After next n line in
    let last = adds d x y after (logged_member entry) four five in
    let joined = adds a b y (truth_member (codes "enabled") truth) (moved_members core e ++ (before ++ (after ++ logged_member entry))) one
    (adds b c y (moved_members core e) (before ++ (after ++ logged_member entry)) two (adds c d y before (after ++ logged_member entry) three last)) in
    let true_is = true_of truth (sym (ap is_some is) ∙ truth_is) in
    rw done (rw (true_is, n_is, line_is, entry_is) at joined)
