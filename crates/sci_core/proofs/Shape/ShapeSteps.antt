-- Every step but one that serves a request leaves each line's shape, and its last contents unless it performs a maker.
use Rattle.std.proofs.Common.{◌≡◌, ◌≢◌, ℕ, ◌%◌, ◌<◌, Bool, true, false, if◌then◌else◌, List, [], ◌∷◌, ◌++◌, length, filter, Option, Some, None, refl, sym}
use Rattle.std.proofs.{Common.{arith, ap, subst, ◌∙◌, inl, inr}, lemmas.Bool.{cases_Bool}}
use Rattle.std.proofs.lemmas.List.{get_or-set_same, get_or-set_other}
use Rattle.std.specs.Prelude.{option_to_list}
use Rattle.sci_words.specs.declared.{operation.Op.{Op}, stamped.Stamped.{Stamped}}
use Rattle.sci_packets.specs.{declared.body.Body.{Body}, Table.{is_request}}
use Rattle.sci_home.specs.declared.state.HomeState.{HomeState}
use Rattle.sci_cache.specs.{Performing.{Performed}, Line.{LineState}, Cache.{Letter, line_of}}
use Rattle.sci_core.specs.Node.{NodeOf, lines_of, home_of, no_node}
use Rattle.sci_core.specs.Core.{Core, node_at, with_node, lane_at, with_lane}
use Rattle.sci_core.specs.{Network.{overtaken}, WellFormed.{IsWellFormed}}
use Rattle.sci_core.specs.{Sharing.{is_about, packets_of, answer_in, home_at, answer_to as told}, Tidy.{IsTidy}}
use Rattle.sci_core.proofs.Basics.Lists.{at_place_set}
use Rattle.sci_core.proofs.Tidy.PacketMoves.{packets_changed, packets_same, packets_asked, packets_replied, packets_accepted, filter_joined, filter_left}
use Rattle.sci_core.proofs.Tidy.{PacketMoves.{filter_one, lane_has, node_has}, RowWaits.{idle_has_none, some_has_one}}
use Rattle.sci_core.proofs.Tidy.Overtaking.{overtaken_packets}
use Rattle.sci_core.proofs.Tidy.WaitingNodes.{AsksOnce, Replies, Accepts}
use Rattle.sci_core.proofs.Tidy.TidySteps.{about_from, about_line, about_asker, request_asker, answer_asker, same_line}
use Rattle.sci_core.proofs.Shape.{Views.{View}, Standings.{Alike, alike_itself, Performs}}
use Rattle.sci_core.proofs.Shape.{Led.{AlikeIn, alike_moved, alike_same}, Shapes.{Shaped, shaped_alike}}
use Rattle.sci_core.proofs.Shape.PerformShapes.{Moves, Did, performed_shaped}
use Rattle.sci_core.proofs.Step.NodeSides.{SameHomes, Unmoved, AsksAlike, AcceptsAlike}

-- ---- the view of a line

abbrev pub view_of : Core → ℕ → View
view_of core k = record { state = λ m. (line_of (node_at core m).cache k).state; answer = λ m. told core m k }

-- a line has its shape, and these are its last contents
abbrev pub ShapedAt : Core → ℕ → Stamped → Type 0
ShapedAt core k c = Shaped (view_of core k) (home_at core k) c

-- a line stands as it stood
pub record SameLine (core new : Core) (k : ℕ) : Type 0 where
  pub home : home_at new k ≡ home_at core k
  pub alike : (m : ℕ) → AlikeIn (view_of core k) (view_of new k) m

pub same_shaped : (core new : Core) (k : ℕ) (c : Stamped) → SameLine core new k → ShapedAt core k c → ShapedAt new k c
same_shaped core new k c same shaped =
    subst (λ (h : HomeState). Shaped (view_of new k) h c) (sym same.home) (shaped_alike (view_of core k) (view_of new k) (home_at core k) c same.alike shaped)

-- a request tells nothing, an answer its body
pub request_tells : (letter : Letter) → is_request letter.body ≡ true → answer_in (letter ∷ []) ≡ None
request_tells letter asks = ap (λ (b : Bool). if b then None else Some letter.body) asks

pub answer_tells : (letter : Letter) → is_request letter.body ≡ false → answer_in (letter ∷ []) ≡ Some letter.body
answer_tells letter answers = ap (λ (b : Bool). if b then None else Some letter.body) answers

-- ---- homes that stay

home_here : (old new : NodeOf) (k : ℕ) → SameHomes old new → home_of new k ≡ home_of old k
home_here old new k same = grind arith

pub homes_same : (core : Core) (n : ℕ) (next : NodeOf) → SameHomes (node_at core n) next → (k : ℕ) → home_at (with_node core n next) k ≡ home_at core k
homes_same core n next same k =
    at_place_set (λ (j : ℕ) (part : NodeOf). home_of part k ≡ home_of (node_at core j) k) core.parts n next no_node (λ j. refl)
    (home_here (node_at core n) next k same) (k % core.size.nodes)

-- ---- Issue

alike_node : (core : Core) (n : ℕ) (next : NodeOf)
    → ((k : ℕ) (answer : Option Body) → Alike (line_of (node_at core n).cache k).state answer (line_of next.cache k).state answer)
    → (m k : ℕ) (answer : Option Body) → Alike ((view_of core k).state m) answer ((view_of (with_node core n next) k).state m) answer
alike_node core n next alike m k =
    at_place_set (λ (j : ℕ) (part : NodeOf). (answer : Option Body) → Alike (line_of (node_at core j).cache k).state answer (line_of part.cache k).state answer)
    core.parts n next no_node (λ j answer. alike_itself (line_of (node_at core j).cache k).state answer) (alike k) m

pub changed_same : (core : Core) (n : ℕ) (next : NodeOf) → n < length core.parts → Unmoved (node_at core n) next → next.waiting ≡ (node_at core n).waiting
    → (k : ℕ) → SameLine core (with_node core n next) k
changed_same core n next below unmoved waiting k =
    let new = with_node core n next in
    record {
      home = homes_same core n next unmoved.same k;
      alike = λ m. alike_moved (view_of core k) (view_of new k) m (told core m k) ((view_of new k).state m) (told core m k) refl refl
          (ap answer_in (packets_changed core n next m k below waiting)) (alike_node core n next unmoved.alike m k (told core m k));
    }

-- ---- Perform

-- the node performs an operation, and no other line of it changes
pub record Operates (core : Core) (n : ℕ) (next : NodeOf) (done : Performed) (line : ℕ) : Type 0 where
  pub below : n < length core.parts
  pub waiting : next.waiting ≡ (node_at core n).waiting
  pub homes : SameHomes (node_at core n) next
  pub state : (line_of next.cache line).state ≡ done.next
  pub others : (k : ℕ) → k ≢ line → line_of next.cache k ≡ line_of (node_at core n).cache k

pub performed_same : (core : Core) (n line : ℕ) (next : NodeOf) (done : Performed) → Operates core n next done line → (k : ℕ) → k ≢ line
    → SameLine core (with_node core n next) k
performed_same core n line next done is k other =
    let new = with_node core n next in
    record {
      home = homes_same core n next is.homes k;
      alike = λ m. alike_same (view_of core k) (view_of new k) m
          (ap (λ (l : LineState). l.state) (same_line core n line next m k is.others is.below (λ h. other h.1)))
          (ap answer_in (packets_changed core n next m k is.below is.waiting));
    }

pub performed_moves : (core : Core) (n line : ℕ) (op : Op) (next : NodeOf) (done : Performed) (is : Operates core n next done line)
    (performs : Performs (line_of (node_at core n).cache line).state op done) → n < core.size.nodes → line < core.size.lines → IsTidy core
    → Moves (view_of core line) (view_of (with_node core n next) line) n done.next
performed_moves core n line op next done is performs lt known tidy = grind (arith, get_or-set_same, idle_has_none, get_or-set_other, packets_changed)

pub performed_did : (core : Core) (n line : ℕ) (op : Op) (next : NodeOf) (done : Performed) (is : Operates core n next done line)
    (performs : Performs (line_of (node_at core n).cache line).state op done) → n < core.size.nodes → line < core.size.lines → IsTidy core → (c : Stamped)
    → ShapedAt core line c
    → Did (view_of (with_node core n next) line) (home_at (with_node core n next) line) c op done
performed_did core n line op next done is performs lt known tidy c shaped =
    let new = with_node core n next in
    let moves = performed_moves core n line op next done is performs lt known tidy in
    subst (λ (h : HomeState). Did (view_of new line) h c op done) (sym (homes_same core n next is.homes line))
    (performed_shaped (view_of core line) (view_of new line) (home_at core line) c n op done performs moves shaped)

-- ---- Ask

asked_answer : (core : Core) (n line place : ℕ) (next : NodeOf) (letter : Letter) → n < core.size.nodes → n < length core.parts → place < length core.lanes
    → is_request letter.body ≡ true → letter.source ≡ n → line < core.size.lines → AsksOnce core.size.nodes line (node_at core n) (next, letter) → IsTidy core
    → (m k : ℕ) → is_about m k letter ≡ true
    → (told (with_lane (with_node core n next) place (lane_at core place ++ letter ∷ [])) m k ≡ None) × (told core m k ≡ None)
asked_answer core n line place next letter lt below within asks from known once tidy m k about =
    grind (arith, request_asker, about_asker, about_line, idle_has_none, packets_asked, request_tells)

-- a line that no packet of a node is about
asked_other : (core : Core) (n line place : ℕ) (next : NodeOf) (letter : Letter) → n < length core.parts → place < length core.lanes
    → is_request letter.body ≡ true → letter.source ≡ n → AsksOnce core.size.nodes line (node_at core n) (next, letter)
    → (m k : ℕ) → is_about m k letter ≡ false
    → AlikeIn (view_of core k) (view_of (with_lane (with_node core n next) place (lane_at core place ++ letter ∷ [])) k) m
asked_other core n line place next letter below within asks from once m k other =
    let new = with_lane (with_node core n next) place (lane_at core place ++ letter ∷ []) in
    let packets = packets_same core n next place (lane_at core place ++ letter ∷ []) m k below within
    (ap (λ (w : Option Letter). filter (is_about m k) (option_to_list w)) once.waiting) (filter_joined m k (lane_at core place) letter other) in
    let not : (m ≡ n) × (k ≡ line) → ⊥ =
    λ h. (let yes_it = about_from m k letter (once.about ∙ sym h.1) (request_asker letter asks ∙ (from ∙ sym h.0)) in cc) in
    alike_same (view_of core k) (view_of new k) m (ap (λ (l : LineState). l.state) (same_line core n line next m k once.others below not))
    (ap answer_in packets)

pub asked_same : (core : Core) (n line place : ℕ) (next : NodeOf) (letter : Letter) → n < core.size.nodes → n < length core.parts → place < length core.lanes
    → is_request letter.body ≡ true → letter.source ≡ n → line < core.size.lines → AsksOnce core.size.nodes line (node_at core n) (next, letter)
    → AsksAlike (node_at core n) (next, letter)
    → IsTidy core → (k : ℕ) → SameLine core (with_lane (with_node core n next) place (lane_at core place ++ letter ∷ [])) k
asked_same core n line place next letter lt below within asks from known once alike tidy k =
    let new = with_lane (with_node core n next) place (lane_at core place ++ letter ∷ []) in
    record {
      home = homes_same core n next alike.same k;
      alike = λ m. elim (cases_Bool (is_about m k letter)) [
        | inl about ↦
            let none = asked_answer core n line place next letter lt below within asks from known once tidy m k about in
            let state = at_place_set (λ (j : ℕ) (part : NodeOf). Alike (line_of (node_at core j).cache k).state None (line_of part.cache k).state None)
            core.parts n next no_node (λ j. alike_itself (line_of (node_at core j).cache k).state None) (alike.alike k) m in
            alike_moved (view_of core k) (view_of new k) m None ((view_of new k).state m) None none.1 refl none.0 state
        | inr other ↦ asked_other core n line place next letter below within asks from once m k other
      ];
    }

-- ---- Reply

pub replied_same : (core : Core) (n place : ℕ) (next : NodeOf) (letter : Letter) → n < length core.parts → place < length core.lanes
    → (m_below : (m k : ℕ) → is_about m k letter ≡ true → m < core.size.nodes) → Replies core.size.nodes (node_at core n) (next, letter)
    → Unmoved (node_at core n) next
    → IsTidy core → (k : ℕ) → k < core.size.lines → SameLine core (with_lane (with_node core n next) place (lane_at core place ++ letter ∷ [])) k
replied_same core n place next letter below within asker replies unmoved tidy k inside =
    let new = with_lane (with_node core n next) place (lane_at core place ++ letter ∷ []) in
    let gone : (m : ℕ) → is_about m k letter ≡ false
    → filter (is_about m k) (option_to_list next.waiting) ≡ filter (is_about m k) (option_to_list (node_at core n).waiting) =
    λ m other. ap (λ (w : Option Letter). filter (is_about m k) (option_to_list w)) replies.gone
    ∙ (sym (filter_one m k letter other) ∙ ap (λ (w : Option Letter). filter (is_about m k) (option_to_list w)) (sym replies.waited)) in
    let packets : (m : ℕ) → packets_of new m k ≡ packets_of core m k = λ m. elim (cases_Bool (is_about m k letter)) [
      | inl about ↦
          let one = some_has_one (k % core.size.nodes) (line_of (node_at core m).cache k) (packets_of core m k)
          (node_has core n letter m k below replies.waited about) (tidy m k (asker m k about) inside) in
          packets_replied core n next place letter one.letter m k below within replies.waited replies.gone about one.one ∙ sym one.one
      | inr other ↦ packets_same core n next place (lane_at core place ++ letter ∷ []) m k below within (gone m other)
          (filter_joined m k (lane_at core place) letter other)
    ] in
    record {
      home = homes_same core n next unmoved.same k;
      alike = λ m. alike_moved (view_of core k) (view_of new k) m (told core m k) ((view_of new k).state m) (told core m k) refl refl (ap answer_in (packets m))
          (alike_node core n next unmoved.alike m k (told core m k));
    }

-- ---- Accept

-- the line that the answer is about
accepted_here : (core : Core) (n place : ℕ) (next : NodeOf) (answer : Letter) (rest : List Letter) → n < core.size.nodes → n < length core.parts
    → place < length core.lanes → lane_at core place ≡ answer ∷ rest → is_request answer.body ≡ false → answer.target ≡ n → answer.line < core.size.lines
    → answer.line < lines_of (node_at core n)
    → Accepts answer.line (node_at core n) next → AcceptsAlike answer (node_at core n) next → IsTidy core
    → AlikeIn (view_of core answer.line) (view_of (with_lane (with_node core n next) place rest) answer.line) n
accepted_here core n place next answer rest lt below within front answers to known on_line accepts alike tidy =
    let new = with_lane (with_node core n next) place rest in
    let line = answer.line in
    let about = about_from n line answer refl (answer_asker answer answers ∙ to) in
    let one = some_has_one (line % core.size.nodes) (line_of (node_at core n).cache line) (packets_of core n line)
    (lane_has core place answer rest n line within front about) (tidy n line lt known) in
    let moved = packets_accepted core n next place answer one.letter rest n line below within front accepts.waiting about one.one in
    let was : told core n line ≡ Some answer.body =
    ap answer_in one.one ∙ (ap (λ (l : Letter). answer_in (l ∷ [])) (sym moved.same) ∙ answer_tells answer answers) in
    let now : told new n line ≡ None = ap answer_in moved.then_ in
    let at : node_at new n ≡ next = get_or-set_same core.parts n next no_node below in
    alike_moved (view_of core line) (view_of new line) n (Some answer.body) (line_of next.cache line).state None was
    (ap (λ (part : NodeOf). (line_of part.cache line).state) at) now (alike.alike on_line)

pub accepted_same : (core : Core) (n place : ℕ) (next : NodeOf) (answer : Letter) (rest : List Letter) → n < core.size.nodes → n < length core.parts
    → place < length core.lanes → lane_at core place ≡ answer ∷ rest → is_request answer.body ≡ false → answer.target ≡ n → answer.line < core.size.lines
    → answer.line < lines_of (node_at core n)
    → Accepts answer.line (node_at core n) next → AcceptsAlike answer (node_at core n) next → IsTidy core → (k : ℕ)
    → SameLine core (with_lane (with_node core n next) place rest) k
accepted_same core n place next answer rest lt below within front answers to known on_line accepts alike tidy k =
    let new = with_lane (with_node core n next) place rest in
    let line = answer.line in
    record {
      home = homes_same core n next alike.same k;
      alike = λ m. elim (cases_Bool (is_about m k answer)) [
        | inl about ↦
            let node : n ≡ m = sym to ∙ (sym (answer_asker answer answers) ∙ about_asker m k answer about) in
            let here : line ≡ k = about_line m k answer about in
            let then_ = accepted_here core n place next answer rest lt below within front answers to known on_line accepts alike tidy in
            subst (λ (j : ℕ). AlikeIn (view_of core k) (view_of new k) j) node (subst (λ (j : ℕ). AlikeIn (view_of core j) (view_of new j) n) here then_)
        | inr other ↦
            let packets = packets_same core n next place rest m k below within
            (ap (λ (w : Option Letter). filter (is_about m k) (option_to_list w)) accepts.waiting)
            (filter_left m k (lane_at core place) rest answer front other) in
            let not : (m ≡ n) × (k ≡ line) → ⊥ = λ h. (let yes_it = about_from m k answer (sym h.1) (answer_asker answer answers ∙ (to ∙ sym h.0)) in cc) in
            alike_same (view_of core k) (view_of new k) m (ap (λ (l : LineState). l.state) (same_line core n line next m k accepts.others below not))
            (ap answer_in packets)
      ];
    }

-- ---- a packet overtakes others of its lane

pub overtaken_line : (core : Core) (place k line : ℕ) → IsWellFormed core → IsTidy core → line < core.size.lines
    → SameLine core (overtaken core place k) line
overtaken_line core place k line well tidy inside = grind (arith, alike_same, overtaken_packets)
