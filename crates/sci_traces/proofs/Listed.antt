-- Lists behind events, one after another.
use Rattle.std.proofs.Common.{◌≡◌, ◌<◌, ◌≤◌, ℕ, ◌+◌, ◌%◌, List, [], ◌++◌, codes, length, drop, get_or, Option, Some, None, append_assoc, sym, ap, ◌∙◌}
use Rattle.std.proofs.{Common.{subst, refl}, lemmas.List.{append-nil, drop_all, drop_more}}
use Rattle.std.specs.{Prelude.{IfSome}, List.{flat_map}}
use Rattle.sci_words.specs.declared.{event.Event.{Event}, stamped.Stamped.{Stamped}}
use Rattle.sci_core.specs.{Core.{Core, step, stepping}, Shape.{IsAuthority}, Sharing.{last_at}}
use Rattle.sci_core.specs.SharingList.{IsSharingList}
use Rattle.sci_traces.specs.ListsAnswer.{AreListed, IsAuthorityOf, IsListLine, IsListed, authority_text, home_name_text, last_text, listed_line, list_text}
use Rattle.sci_traces.specs.ListsAnswer.{member_text, place_text}
use Rattle.sci_command.proofs.Joined.{joined, joined3}

-- ---- the list of a line

pub authority_judged : (core : Core) (line : ℕ) (authority : Option ℕ) → IfSome authority (IsAuthority core line)
    → (authority ≡ None → (n : ℕ) → n < core.size.nodes → IsAuthority core line n → ⊥) → IsAuthorityOf core line authority
authority_judged core line None found none = none refl
authority_judged core line (Some n) found none = found

-- what was appended of a line
pub list_appended : (core : Core) (line home_node : ℕ) (old n1 n2 n3 home nodes : List ℕ) (authority : Option ℕ) (last : Stamped)
    → home_node ≡ line % core.size.nodes → home ≡ home_name_text core home_node line → last ≡ last_at core line
    → IsSharingList core line nodes → IsAuthorityOf core line authority → n1 ≡ old ++ home → n2 ≡ n1 ++ flat_map (member_text core line) nodes
    → n3 ≡ n2 ++ (authority_text authority ++ last_text last)
    → (text : List ℕ) × (n3 ≡ old ++ text) × IsListLine core line text
unfolding list_text
list_appended core line home_node old n1 n2 n3 home nodes authority last is_node is_home is_last list judged e1 e2 e3 =
    let whole = joined3 old home (flat_map (member_text core line) nodes) (authority_text authority ++ last_text last) n1 n2 n3 e1 e2 e3 in
    let told : n3 ≡ old ++ list_text core line nodes authority = rw (is_home, is_last, is_node) at whole in
    (list_text core line nodes authority, told, record { nodes = nodes; list = list; authority = authority; judged = judged; written = refl })

-- ---- an event

nothing_listed : (k : ℕ) (line : Option ℕ) → IsListed k line None []
nothing_listed k None = refl
nothing_listed k (Some line) = refl

-- of one that isn't enabled, nothing
pub none_listed : (k : ℕ) (old : List ℕ) (line : Option ℕ) (next : Option Core) → next ≡ None
    → (text : List ℕ) × (old ≡ old ++ text) × IsListed k line next text
none_listed k old line next idle = ([], sym (append-nil old), rw idle (nothing_listed k line))

-- of one that leads to another state, the list of its line
pub event_listed : (k line : ℕ) (within : Option ℕ) (stepped : Option Core) (next : Core) (old n1 n2 : List ℕ) → Some line ≡ within → stepped ≡ Some next
    → n1 ≡ old ++ (place_text k line ++ codes ": ")
    → (text : List ℕ) × (n2 ≡ n1 ++ text) × IsListLine next line text → (text : List ℕ) × (n2 ≡ old ++ text) × IsListed k within stepped text
event_listed k line within stepped next old n1 n2 is done e1 list =
    let whole = joined old (place_text k line ++ codes ": ") list.0 n1 n2 e1 list.1 in
    let told = whole ∙ ap (λ (l : List ℕ). old ++ l) (append_assoc (place_text k line) (codes ": ") list.0) in
    let listed : IsListed k (Some line) (Some next) (place_text k line ++ (codes ": " ++ list.0)) = (list.0, list.2, refl) in
    (place_text k line ++ (codes ": " ++ list.0), told, rw (← is, done) listed)

-- ---- events one after another

-- whatever is listed of what is left ends the text
pub record IsListedTo (asked : Option ℕ) (start : Core) (events : List Event) (text : List ℕ) (core : Core) (number : ℕ) (left : List Event) : Type 0 where
  pub ends : (rest : List ℕ) → AreListed asked core number left rest → AreListed asked start 2 events (text ++ rest)

-- one event more
pub lists_more : (asked : Option ℕ) (start : Core) (all : List Event) (text : List ℕ) (core : Core) (number : ℕ) (events : List Event) (k : ℕ) (d : Event)
    (first : List ℕ) → k < length events
    → IsListed number (listed_line asked core (get_or events k d)) (stepping core (get_or events k d)) first
    → IsListedTo asked start all text core number (drop k events)
    → IsListedTo asked start all (text ++ first) (step core (get_or events k d)) (number + 1) (drop (k + 1) events)
lists_more asked start all text core number events k d first lt is was = record {
  ends = λ (rest : List ℕ) listed.
      subst (AreListed asked start 2 all) (sym (append_assoc text first rest))
      (was.ends (first ++ rest) (subst (λ (left : List Event). AreListed asked core number left (first ++ rest)) (sym (drop_more events k d lt)) (
        first,
        (rest, (is, (listed, refl))),
      )));
}

-- no event more
pub lists_all : (asked : Option ℕ) (start : Core) (all : List Event) (text : List ℕ) (core : Core) (number : ℕ) (events : List Event) (k : ℕ)
    → length events ≤ k → IsListedTo asked start all text core number (drop k events) → AreListed asked start 2 all text
lists_all asked start all text core number events k past was =
    subst (AreListed asked start 2 all) (append-nil text)
    (was.ends [] (subst (λ (left : List Event). AreListed asked core number left []) (sym (drop_all k events past)) refl))
