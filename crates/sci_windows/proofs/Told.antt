-- Entries that a scoreboard took one after another: they are a history of each line, and each node's stand in order.
use Rattle.std.proofs.Common.{◌≡◌, ℕ, ◌<◌, ◌⊎◌, false, List, [], ◌∷◌, length, get_or}
use Rattle.std.proofs.Common.{length-set, Option, Some, None, replicate, refl, sym, ap, subst, ◌∙◌, arith, inl, inr}
use Rattle.std.proofs.lemmas.Bool.{cases_Bool, cases_lt, eq-eqb, eqb-true}
use Rattle.std.proofs.lemmas.List.{get_or-replicate, get_or-set_same, get_or-set_other, get_or_past, length-replicate}
use Rattle.std.proofs.Math.ListN.{get_or-map}
use Rattle.std.specs.{List.{filter, AllByRecursion}}
use Rattle.sci_words.specs.declared.{limits.TheConstants.{MAX_NODES}, stamped.Stamped.{Stamped}}
use Rattle.sci_words.specs.Stamped.{after, zero_stamped}
use Rattle.sci_history.specs.{declared.entry.Entry.{Entry}, History.{IsHistory}, Memory.{stamped_at}, Placed.{is_of_node, is_on_line}, Seen.{IsAmong}}
use Rattle.sci_history.proofs.Order.{filter_yes, filter_no, all_weaker}
use Rattle.sci_windows.specs.declared.{line_so_far.{Latest.{Latest}, LineSoFar.{LineSoFar}}, score.Score.TheVariants.{Taken}}
use Rattle.sci_windows.specs.Scoreboard.{AreTaken, IsScore, begun_lines, begun_with, early_fault, is_behind, line_at, lines_told, with_entry}
use Rattle.sci_windows.proofs.Pairs.{Rises, no_rises, rises_cons}

-- ---- one entry

pub told_here : (lines : List LineSoFar) (e : Entry) (line : ℕ) → e.op.line < length lines → e.op.line ≡ line
    → line_at (lines_told lines e) line ≡ with_entry (line_at lines line) e
told_here lines e line lt same = grind (arith, get_or-set_same)

pub told_elsewhere : (lines : List LineSoFar) (e : Entry) (line : ℕ) → is_on_line line e ≡ false → line_at (lines_told lines e) line ≡ line_at lines line
told_elsewhere lines e line other = grind (arith, get_or-set_other, eq-eqb)

-- ---- a property of a line that each step leads on

first_stays_at : (before : List LineSoFar) (told : List Entry) (end : List LineSoFar) (line : ℕ) → AreTaken before told end
    → (line_at end line).first ≡ (line_at before line).first
first_stays_at before [] end line h = ap (λ (ls : List LineSoFar). (line_at ls line).first) h
first_stays_at before (e ∷ told) end line h =
    elim (cases_Bool (is_on_line line e)) [
      | inl yes_ ↦
          first_stays_at (lines_told before e) told end line h.3
          ∙ ap (λ (l : LineSoFar). l.first) (told_here before e line h.1 (eqb-true e.op.line line yes_))
      | inr no_ ↦
          first_stays_at (lines_told before e) told end line h.3 ∙ ap (λ (l : LineSoFar). l.first) (told_elsewhere before e line no_)
    ]

pub history_of : (before : List LineSoFar) (told : List Entry) (end : List LineSoFar) (line : ℕ) → AreTaken before told end
    → IsHistory (filter (is_on_line line) told) (line_at before line).contents (line_at end line).contents
history_of before [] end line h = ap (λ (ls : List LineSoFar). (line_at ls line).contents) h
history_of before (e ∷ told) end line h =
    let rest = history_of (lines_told before e) told end line h.3 in
    let last = (line_at end line).contents in
    elim (cases_Bool (is_on_line line e)) [
      | inl yes_ ↦
          let same = eqb-true e.op.line line yes_ in
          let here = subst (λ (l : ℕ). IsScore (line_at before l) e Taken) same h.2 in
          let goes : IsHistory (filter (is_on_line line) told) (after (line_at before line).contents e.op) last =
          subst (λ (l : LineSoFar). IsHistory (filter (is_on_line line) told) l.contents last) (told_here before e line h.1 same) rest in
          let whole : IsHistory (e ∷ filter (is_on_line line) told) (line_at before line).contents last = (here.2, here.1, goes) in
          subst (λ (es : List Entry). IsHistory es (line_at before line).contents last) (sym (filter_yes (is_on_line line) e told yes_)) whole
      | inr no_ ↦
          let goes : IsHistory (filter (is_on_line line) told) (line_at before line).contents last =
          subst (λ (l : LineSoFar). IsHistory (filter (is_on_line line) told) l.contents last) (told_elsewhere before e line no_) rest in
          subst (λ (es : List Entry). IsHistory es (line_at before line).contents last) (sym (filter_no (is_on_line line) e told no_)) goes
    ]

pub nodes_told : (before : List LineSoFar) (told : List Entry) (end : List LineSoFar) → AreTaken before told end
    → AllByRecursion (λ e. e.node < MAX_NODES) told
nodes_told before [] end h = tt
nodes_told before (e ∷ told) end h = (h.0, nodes_told (lines_told before e) told end h.3)

-- ---- where a node stands on a line

abbrev pub latest_at : List LineSoFar → ℕ → ℕ → Option Latest
latest_at lines line node = get_or (line_at lines line).latest node None

-- each line has a place for each node
abbrev pub HavePlaces : List LineSoFar → Type 0
HavePlaces lines = (line : ℕ) → length (line_at lines line).latest ≡ MAX_NODES

places_told : (lines : List LineSoFar) (e : Entry) → e.op.line < length lines → HavePlaces lines → HavePlaces (lines_told lines e)
places_told lines e lt places line = grind (arith, cases_Bool, told_here, eqb-true, length-set, told_elsewhere)

abbrev pub latest_of : Entry → Latest
latest_of e = record { serial = e.serial; version = e.version }

latest_here : (lines : List LineSoFar) (e : Entry) (line node : ℕ) → e.op.line < length lines → HavePlaces lines → e.node < MAX_NODES
    → e.op.line ≡ line → e.node ≡ node → latest_at (lines_told lines e) line node ≡ Some (latest_of e)
latest_here lines e line node lt places known same mine = grind (arith, get_or-set_same, told_here)

latest_other_node : (lines : List LineSoFar) (e : Entry) (line node : ℕ) → e.op.line < length lines → e.op.line ≡ line → is_of_node node e ≡ false
    → latest_at (lines_told lines e) line node ≡ latest_at lines line node
latest_other_node lines e line node lt same other = grind (arith, told_here, get_or-set_other, eq-eqb)

-- all these entries come after where a node stands
abbrev pub AreAbove : Option Latest → List Entry → Type 0
AreAbove None entries = Unit {0}
AreAbove (Some latest) entries = AllByRecursion (λ e. latest.serial < e.serial) entries

above_next : (latest : Option Latest) (e : Entry) (entries : List Entry) → is_behind latest e ≡ false → AllByRecursion (λ y. e.serial < y.serial) entries
    → AreAbove latest (e ∷ entries)
above_next None e entries ahead rest = tt
above_next (Some latest) e entries ahead rest = grind (arith, cases_Bool, all_weaker)

pub clear_ahead : (line : LineSoFar) (e : Entry) → early_fault line e ≡ None → is_behind (get_or line.latest e.node None) e ≡ false
clear_ahead line e h = grind (arith, cases_Bool)

above_none : (latest : Option Latest) → AreAbove latest []
above_none None = tt
above_none (Some latest) = tt

early_here : (before : List LineSoFar) (e : Entry) (line : ℕ) → IsScore (line_at before e.op.line) e Taken → e.op.line ≡ line
    → is_behind (latest_at before line e.node) e ≡ false
early_here before e line h same = subst (λ (l : ℕ). is_behind (latest_at before l e.node) e ≡ false) same (clear_ahead (line_at before e.op.line) e h.0)

pub serials_told : (before : List LineSoFar) (told : List Entry) (end : List LineSoFar) (line node : ℕ) → AreTaken before told end → HavePlaces before
    → AreAbove (latest_at before line node) (filter (is_of_node node) (filter (is_on_line line) told))
    × Rises (filter (is_of_node node) (filter (is_on_line line) told))
serials_told before [] end line node h places = (above_none (latest_at before line node), no_rises)
serials_told before (e ∷ told) end line node h places =
    let here = early_here before e line h.2 in
    let rest = serials_told (lines_told before e) told end line node h.3 (places_told before e h.1 places) in
    let on = is_on_line line in
    let of = is_of_node node in
    let tail = filter of (filter on told) in
    elim (cases_Bool (on e)) [
      | inl on_line ↦
          let same = eqb-true e.op.line line on_line in
          elim (cases_Bool (of e)) [
            | inl mine ↦
                let is_mine = eqb-true e.node node mine in
                let stands : latest_at (lines_told before e) line node ≡ Some (latest_of e) = latest_here before e line node h.1 places h.0 same is_mine in
                let above : AllByRecursion (λ (y : Entry). e.serial < y.serial) tail = subst (λ (l : Option Latest). AreAbove l tail) stands rest.0 in
                let whole : filter of (filter on (e ∷ told)) ≡ e ∷ tail =
                ap (filter of) (filter_yes on e told on_line) ∙ filter_yes of e (filter on told) mine in
                let ahead : is_behind (latest_at before line node) e ≡ false =
                subst (λ (n : ℕ). is_behind (latest_at before line n) e ≡ false) is_mine (here same) in
                subst (λ (es : List Entry). AreAbove (latest_at before line node) es × Rises es) (sym whole)
                (above_next (latest_at before line node) e tail ahead above, rises_cons e tail above rest.1)
            | inr other ↦
                let stands = latest_other_node before e line node h.1 same other in
                let whole : filter of (filter on (e ∷ told)) ≡ tail =
                ap (filter of) (filter_yes on e told on_line) ∙ filter_no of e (filter on told) other in
                subst (λ (es : List Entry). AreAbove (latest_at before line node) es × Rises es) (sym whole)
                (subst (λ (l : Option Latest). AreAbove l tail) stands rest.0, rest.1)
          ]
      | inr elsewhere ↦
          let stands : latest_at (lines_told before e) line node ≡ latest_at before line node =
          ap (λ (l : LineSoFar). get_or l.latest node None) (told_elsewhere before e line elsewhere) in
          let whole : filter of (filter on (e ∷ told)) ≡ tail = ap (filter of) (filter_no on e told elsewhere) in
          subst (λ (es : List Entry). AreAbove (latest_at before line node) es × Rises es) (sym whole)
          (subst (λ (l : Option Latest). AreAbove l tail) stands rest.0, rest.1)
    ]

-- ---- the latest entry of a node was told, or was there before

pub latest_told : (before : List LineSoFar) (told : List Entry) (end : List LineSoFar) (line node : ℕ) (latest : Latest) → AreTaken before told end
    → HavePlaces before → latest_at end line node ≡ Some latest
    → (latest_at before line node ≡ Some latest)
    ⊎ ((t : Entry) × IsAmong t (filter (is_of_node node) (filter (is_on_line line) told)) × (latest_of t ≡ latest))
latest_told before [] end line node latest h places at = inl (ap (λ (ls : List LineSoFar). latest_at ls line node) (sym h) ∙ at)
latest_told before (e ∷ told) end line node latest h places at =
    let rest = latest_told (lines_told before e) told end line node latest h.3 (places_told before e h.1 places) at in
    let on = is_on_line line in
    let of = is_of_node node in
    let tail = filter of (filter on told) in
    elim (cases_Bool (on e)) [
      | inl on_line ↦
          let same = eqb-true e.op.line line on_line in
          elim (cases_Bool (of e)) [
            | inl mine ↦
                let whole : filter of (filter on (e ∷ told)) ≡ e ∷ tail =
                ap (filter of) (filter_yes on e told on_line) ∙ filter_yes of e (filter on told) mine in
                elim rest [
                  | inl stood ↦
                      let stands = latest_here before e line node h.1 places h.0 same (eqb-true e.node node mine) in
                      let is : latest_of e ≡ latest = cc in
                      inr (e, subst (IsAmong e) (sym whole) (inl refl), is)
                  | inr there ↦ inr (there.0, subst (IsAmong there.0) (sym whole) (inr there.1), there.2)
                ]
            | inr other ↦
                let whole : filter of (filter on (e ∷ told)) ≡ tail =
                ap (filter of) (filter_yes on e told on_line) ∙ filter_no of e (filter on told) other in
                elim rest [
                  | inl stood ↦ inl (sym (latest_other_node before e line node h.1 same other) ∙ stood)
                  | inr there ↦ inr (there.0, subst (IsAmong there.0) (sym whole) there.1, there.2)
                ]
          ]
      | inr elsewhere ↦
          let whole : filter of (filter on (e ∷ told)) ≡ tail = ap (filter of) (filter_no on e told elsewhere) in
          elim rest [
            | inl stood ↦ inl (sym (ap (λ (l : LineSoFar). get_or l.latest node None) (told_elsewhere before e line elsewhere)) ∙ stood)
            | inr there ↦ inr (there.0, subst (IsAmong there.0) (sym whole) there.1, there.2)
          ]
    ]

-- ---- lines that begin

pub begun_at : (first : List Stamped) (line : ℕ) → line_at (begun_lines first) line ≡ begun_with (stamped_at first line)
begun_at first line = get_or-map begun_with first line zero_stamped

pub first_stays : (first : List Stamped) (told : List Entry) (lines : List LineSoFar) (line : ℕ) → AreTaken (begun_lines first) told lines
    → (line_at lines line).first ≡ (stamped_at first line).version
first_stays first told lines line h =
    first_stays_at (begun_lines first) told lines line h ∙ ap (λ (l : LineSoFar). l.first) (begun_at first line)

pub history_told : (first : List Stamped) (told : List Entry) (lines : List LineSoFar) (line : ℕ) → AreTaken (begun_lines first) told lines
    → IsHistory (filter (is_on_line line) told) (stamped_at first line) (line_at lines line).contents
history_told first told lines line h =
    subst (λ (l : LineSoFar). IsHistory (filter (is_on_line line) told) l.contents (line_at lines line).contents) (begun_at first line)
    (history_of (begun_lines first) told lines line h)

pub begun_places : (first : List Stamped) → HavePlaces (begun_lines first)
begun_places first line =
    ap (λ (l : LineSoFar). length l.latest) (begun_at first line) ∙ length-replicate {A = Option Latest} MAX_NODES None

abbrev nowhere : List (Option Latest)
nowhere = replicate MAX_NODES None

no_latest : (node : ℕ) → get_or nowhere node None ≡ None
no_latest node = grind (arith, cases_lt, get_or-replicate, get_or_past)

pub begun_latest : (first : List Stamped) (line node : ℕ) → latest_at (begun_lines first) line node ≡ None
begun_latest first line node = ap (λ (l : LineSoFar). get_or l.latest node None) (begun_at first line) ∙ no_latest node
