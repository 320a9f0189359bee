-- The wait of one operation after another.
use Rattle.std.proofs.Common.{◌≡◌, ◌<◌, ℕ, ◌+◌, ◌-◌, ◌==◌, List, [], ◌∷◌, ◌++◌, Bool, true, false, Option, Some, None, length, take, get_or, set, reverse}
use Rattle.std.proofs.Common.{arith, sym, ap, ◌∙◌, refl, get_or-set_same, get_or-set_other, length-set}
use Rattle.std.proofs.lemmas.{Bool.{eqb-true, eqb-false}, List.{append-nil, take_more, reverse-append}}
use Rattle.std.proofs.lemmas.{List.Elements.{filter_map-append}, Option.{slice_get-get_or}}
use Rattle.std.specs.{Prelude.{not, option_map, cond}, List.{filter_map, prefix_len, range_with_len, cons_option}}
use Rattle.sci_statistics.specs.declared.{kind.Access.{Access}, passage.Passage.{Passage}, waits.Wait.{Wait}}
use Rattle.sci_statistics.specs.Measures.{is_line}
use Rattle.sci_statistics.specs.Waits.{issued_line, performed_at, since_issue, wait_at, wait_behind}
use Rattle.sci_statistics.proofs.FigureTexts.{range_more}

-- the place behind the last Issue about each line, of the first i events
pub record IsBehind (n : ℕ) (passages : List Passage) (i : ℕ) (behind : List ℕ) : Type 0 where
  pub long : length behind ≡ 256
  pub places : (line : ℕ) → line < 256 → get_or behind line 0 + since_issue n line (take i passages) ≡ i

-- one event more
since_more : (n line : ℕ) (passages : List Passage) (i : ℕ) (d : Passage) → i < length passages
    → since_issue n line (take (i + 1) passages) ≡ cond (not (is_line line (issued_line n (get_or passages i d)))) (1 + since_issue n line (take i passages)) 0
since_more n line passages i d lt =
    let test = λ (p : Passage). not (is_line line (issued_line n p)) in
    ap (λ (l : List Passage). prefix_len test (reverse l)) (take_more passages i d lt)
    ∙ ap (prefix_len test) (reverse-append (take i passages) (get_or passages i d ∷ []))

-- an event that is no Issue of the node
pub behind_kept : (n : ℕ) (passages : List Passage) (i : ℕ) (d : Passage) (behind : List ℕ) → i < length passages → issued_line n (get_or passages i d) ≡ None
    → IsBehind n passages i behind → IsBehind n passages (i + 1) behind
behind_kept n passages i d behind lt none was = record {
  long = was.long;
  places = λ line named.
      let more : since_issue n line (take (i + 1) passages) ≡ 1 + since_issue n line (take i passages) =
      since_more n line passages i d lt ∙ ap (λ (o : Option ℕ). cond (not (is_line line o)) (1 + since_issue n line (take i passages)) 0) none in
      let before = was.places line named in
      omega (arith, more, before);
}

placed : (n : ℕ) (passages : List Passage) (i : ℕ) (d : Passage) (behind : List ℕ) (line : ℕ) → i < length passages
    → issued_line n (get_or passages i d) ≡ Some line → line < length behind
    → (other : ℕ) (b : Bool) → (line == other) ≡ b → get_or behind other 0 + since_issue n other (take i passages) ≡ i
    → get_or (set behind line (i + 1)) other 0 + since_issue n other (take (i + 1) passages) ≡ i + 1
placed n passages i d behind line lt some there other true same before =
    let at : line ≡ other = eqb-true line other same in
    let more : since_issue n other (take (i + 1) passages) ≡ 0 =
    since_more n other passages i d lt
    ∙ (ap (λ (o : Option ℕ). cond (not (is_line other o)) (1 + since_issue n other (take i passages)) 0) some
    ∙ ap (λ (b : Bool). cond (not b) (1 + since_issue n other (take i passages)) 0) same) in
    let written : get_or (set behind line (i + 1)) other 0 ≡ i + 1 =
    ap (λ k. get_or (set behind line (i + 1)) k 0) (sym at) ∙ get_or-set_same behind line (i + 1) 0 there in
    omega (arith, more, written)
placed n passages i d behind line lt some there other false apart before =
    let more : since_issue n other (take (i + 1) passages) ≡ 1 + since_issue n other (take i passages) =
    since_more n other passages i d lt
    ∙ (ap (λ (o : Option ℕ). cond (not (is_line other o)) (1 + since_issue n other (take i passages)) 0) some
    ∙ ap (λ (b : Bool). cond (not b) (1 + since_issue n other (take i passages)) 0) apart) in
    let kept : get_or (set behind line (i + 1)) other 0 ≡ get_or behind other 0 =
    get_or-set_other behind line other (i + 1) 0 (λ e. eqb-false line other apart (sym e)) in
    omega (arith, more, kept, before)

-- an Issue of the node
pub behind_set : (n : ℕ) (passages : List Passage) (i : ℕ) (d : Passage) (behind : List ℕ) (line : ℕ) → i < length passages
    → issued_line n (get_or passages i d) ≡ Some line → line < 256 → IsBehind n passages i behind → IsBehind n passages (i + 1) (set behind line (i + 1))
behind_set n passages i d behind line lt some named was =
    let long = was.long in
    let there : line < length behind = omega (arith, long, named) in record {
      long = length-set behind line (i + 1) ∙ was.long;
      places = λ other less. placed n passages i d behind line lt some there other (line == other) refl (was.places other less);
    }

waits_more : (n : ℕ) (passages : List Passage) (i : ℕ) (d : Passage) → i < length passages
    → filter_map (wait_at n passages) (range_with_len 0 (i + 1)) ≡ filter_map (wait_at n passages) (range_with_len 0 i)
    ++ cons_option (wait_behind n (take i passages) (Some (get_or passages i d))) []
waits_more n passages i d lt =
    ap (filter_map (wait_at n passages)) (range_more i)
    ∙ (filter_map-append (wait_at n passages) (range_with_len 0 i) (i ∷ [])
    ∙ ap (λ (o : Option Passage). filter_map (wait_at n passages) (range_with_len 0 i) ++ cons_option (wait_behind n (take i passages) o) [])
    (slice_get-get_or passages i d lt))

abbrev waited : ℕ → List Passage → Option (Access × ℕ) → Option Wait
waited n before made = option_map (λ (made : Access × ℕ). record { access = made.0; events = since_issue n made.1 before }) made

-- an event that performs no operation at the node
pub waits_kept : (n : ℕ) (passages : List Passage) (i : ℕ) (d : Passage) (found : List Wait) → i < length passages → performed_at n (get_or passages i d) ≡ None
    → found ≡ filter_map (wait_at n passages) (range_with_len 0 i) → found ≡ filter_map (wait_at n passages) (range_with_len 0 (i + 1))
waits_kept n passages i d found lt none was =
    let before = filter_map (wait_at n passages) (range_with_len 0 i) in
    was ∙ sym (waits_more n passages i d lt
    ∙ (ap (λ (made : Option (Access × ℕ)). before ++ cons_option (waited n (take i passages) made) []) none ∙ append-nil before))

-- an event that performs one
pub waits_longer : (n : ℕ) (passages : List Passage) (i : ℕ) (d : Passage) (behind : List ℕ) (access : Access) (line : ℕ) (found longer : List Wait)
    (events : ℕ) → i < length passages
    → performed_at n (get_or passages i d) ≡ Some (access, line) → line < 256 → IsBehind n passages i behind → events ≡ i - get_or behind line 0
    → longer ≡ found ++ record { access = access; events = events } ∷ []
    → found ≡ filter_map (wait_at n passages) (range_with_len 0 i) → longer ≡ filter_map (wait_at n passages) (range_with_len 0 (i + 1))
waits_longer n passages i d behind access line found longer events lt some named places is more was =
    let before = filter_map (wait_at n passages) (range_with_len 0 i) in
    let place = places.places line named in
    let wait : events ≡ since_issue n line (take i passages) = omega (arith, is, place) in
    let last = λ (k : ℕ). let w : Wait = record { access = access; events = k } in w ∷ [] in
    more ∙ (ap (λ (l : List Wait). l ++ last events) was ∙ (ap (λ k. before ++ last k) wait
    ∙ sym (waits_more n passages i d lt ∙ ap (λ (made : Option (Access × ℕ)). before ++ cons_option (waited n (take i passages) made) []) some)))
