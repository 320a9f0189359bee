-- What a scoreboard takes is lawful, and what it says is at fault is in no lawful logs.
use Rattle.std.proofs.Common.{◌≡◌, ℕ, ◌<◌, ◌≤◌, true, eqb, List, [], ◌∷◌, ◌++◌, get_or}
use Rattle.std.proofs.Common.{Option, Some, None, refl, sym, ap, subst, ◌∙◌, arith, inl, inr}
use Rattle.std.proofs.lemmas.Bool.{cases_Bool, eq-eqb, and_from, and_parts, Decides.{nat_tests}}
use Rattle.std.proofs.lemmas.List.{Elements.{filter-append}, FromFn.{get_or-map-range_with_len}}
use Rattle.std.proofs.Math.ListN.{get_or-map}
use Rattle.std.specs.{Prelude.{nat_le, IsTrue}, List.{filter, AllByRecursion}}
use Rattle.sci_words.specs.declared.{limits.TheConstants.{MAX_NODES}, stamped.Stamped.{Stamped}}
use Rattle.sci_words.specs.{Stamped.{after, reply_of, zero_stamped}}
use Rattle.sci_history.specs.{declared.entry.Entry.{Entry}, History.{IsHistory, words_at}, Memory.{stamped_at}, Seen.{IsAmong}}
use Rattle.sci_history.specs.Placed.{is_making, is_of_node, is_on_line, log_of, makes}
use Rattle.sci_history.proofs.Order.{IsInOrder, IsInOrder-filter, all-filter, all_weaker, all-passes, filter_yes, filter-filter}
use Rattle.sci_history.specs.declared.verdict.FaultKind.{FaultKind, TheVariants.{VersionTwice, VersionMissing, WrongReply, OutOfOrder, LastDiffers}}
use Rattle.sci_history.proofs.Consequences.{among_all, among_filter, among_whole}
use Rattle.sci_history.proofs.Histories.{Agrees, history-agrees, line_after-load, maker_of, makers-after, version-load, version-maker}
use Rattle.sci_history.proofs.Histories.{versions-after, versions-within, words_at-start}
use Rattle.sci_history.proofs.Placement.{pairs-head, pairs-tail}
use Rattle.sci_history.proofs.Placings.{among_back, among_begins}
use Rattle.sci_windows.specs.declared.line_so_far.{Latest.{Latest}, LineSoFar.{LineSoFar}}
use Rattle.sci_windows.specs.Scoreboard.{AreTaken, BeginWith, Breaks, IsNext, IsRight, begun_lines, begun_with, contents_of, early_fault, is_before_first}
use Rattle.sci_windows.specs.Scoreboard.{is_behind, is_made, line_at, logs_told}
use Rattle.sci_windows.specs.Window.{HasHistoryFrom, LawfulFrom}
use Rattle.sci_windows.proofs.{Joins.{all_from_among}, Pairs.{Rises}}
use Rattle.sci_windows.proofs.Told.{begun_latest, begun_places, first_stays, history_told, latest_at, latest_told, nodes_told, serials_told}

-- ---- what was taken

logs_at : (told : List Entry) (node : ℕ) → node < MAX_NODES → log_of (logs_told told) node ≡ filter (is_of_node node) told
logs_at told node lt = get_or-map-range_with_len (λ (n : ℕ). filter (is_of_node n) told) 0 MAX_NODES node node [] lt (omega arith)

logged_at : (told : List Entry) (line node : ℕ) → node < MAX_NODES
    → filter (is_on_line line) (log_of (logs_told told) node) ≡ filter (is_of_node node) (filter (is_on_line line) told)
logged_at told line node lt = ap (filter (is_on_line line)) (logs_at told node lt) ∙ filter-filter (is_on_line line) (is_of_node node) told

pub taken_lawful : (first : List Stamped) (told : List Entry) (lines : List LineSoFar) → AreTaken (begun_lines first) told lines
    → LawfulFrom (logs_told told) first (contents_of lines)
taken_lawful first told lines h line =
    let ends : stamped_at (contents_of lines) line ≡ (line_at lines line).contents =
    get_or-map (λ (l : LineSoFar). l.contents) lines line (begun_with zero_stamped) in
    record {
      entries = filter (is_on_line line) told;
      history = subst (λ (s : Stamped). IsHistory (filter (is_on_line line) told) (stamped_at first line) s) (sym ends) (history_told first told lines line h);
      nodes = all-filter (λ e. e.node < MAX_NODES) (is_on_line line) told (nodes_told (begun_lines first) told lines h);
      logged = logged_at told line;
      serials = λ node lt. subst Rises (sym (logged_at told line node lt))
          (serials_told (begun_lines first) told lines line node h (begun_places first)).1;
    }

-- ---- what was told, in logs that begin with it

all_mid : (P : Entry → Type 0) (xs : List Entry) (e : Entry) (rest : List Entry) → AllByRecursion P ((xs ++ e ∷ []) ++ rest) → P e
all_mid P [] e rest h = h.0
all_mid P (x ∷ xs) e rest h = all_mid P xs e rest h.1

-- an entry before another has a smaller serial, and a key that isn't greater
serials_before : (xs : List Entry) (t e : Entry) (rest : List Entry) → Rises ((xs ++ e ∷ []) ++ rest) → IsAmong t xs → t.serial < e.serial
serials_before [] t e rest h among = elim among [ ]
serials_before (x ∷ xs) t e rest h (inl same) =
    let head = all_mid (λ y. x.serial < y.serial) xs e rest (pairs-head (λ (x y : Entry). x.serial < y.serial) x ((xs ++ e ∷ []) ++ rest) h) in
    subst (λ (y : Entry). y.serial < e.serial) (sym same) head
serials_before (x ∷ xs) t e rest h (inr there) =
    serials_before xs t e rest (pairs-tail (λ (x y : Entry). x.serial < y.serial) x ((xs ++ e ∷ []) ++ rest) h) there

abbrev version_of : Entry → ℕ
version_of e = e.version

versions_before : (xs : List Entry) (t e : Entry) (rest : List Entry) → IsInOrder version_of ((xs ++ e ∷ []) ++ rest) → IsAmong t xs → t.version ≤ e.version
versions_before [] t e rest h among = elim among [ ]
versions_before (x ∷ xs) t e rest h (inl same) = subst (λ (y : Entry). y.version ≤ e.version) (sym same) (all_mid (λ y. x.version ≤ y.version) xs e rest h.0)
versions_before (x ∷ xs) t e rest h (inr there) = versions_before xs t e rest h.1 there

versions_rise : (es : List Entry) (old new : Stamped) → IsHistory es old new → IsInOrder version_of es
versions_rise [] old new h = tt
versions_rise (e ∷ es) old new h =
    let is = h.1 in (
      all_weaker (λ y. (after old e.op).version ≤ y.version) (λ y. e.version ≤ y.version) (λ y le. omega arith) es (versions-after es (after old e.op) new h.2),
      versions_rise es (after old e.op) new h.2,
    )

only_one : (x y : Entry) → IsAmong x (y ∷ []) → x ≡ y
only_one x y (inl same) = same
only_one x y (inr h) = elim h [ ]

-- what is told of a node on a line, as the line's history in some logs has it
record Stands (told : List Entry) (line node : ℕ) (entries : List Entry) : Type 0 where
  rest : List Entry
  are : filter (is_of_node node) entries ≡ filter (is_of_node node) (filter (is_on_line line) told) ++ rest

stands : (told : List Entry) (logs : List (List Entry)) (line node : ℕ) (first last : Stamped) → BeginWith told logs → node < MAX_NODES
    → (h : HasHistoryFrom logs line first last) → Stands told line node h.entries
stands told logs line node first last begins lt h =
    let on = is_on_line line in
    let of = is_of_node node in
    let begin = begins node lt in
    record {
      rest = filter on begin.0;
      are = sym (h.logged node lt)
          ∙ (ap (filter on) begin.1
          ∙ (filter-append on (filter of told) begin.0
          ∙ ap (λ (es : List Entry). es ++ filter on begin.0) (filter-filter on of told)));
    }

told_among : (told : List Entry) (line : ℕ) (entries : List Entry) → ((node : ℕ) → node < MAX_NODES → Stands told line node entries)
    → (t : Entry) → t.node < MAX_NODES → IsAmong t (filter (is_on_line line) told) → IsAmong t entries
told_among told line entries stand t known among =
    let of = is_of_node t.node in
    let s = stand t.node known in
    let mine : IsAmong t (filter of (filter (is_on_line line) told)) =
    among_filter of t (filter (is_on_line line) told) (eq-eqb t.node t.node refl) among in
    among_whole of t entries (subst (IsAmong t) (sym s.are) (among_begins t (filter of (filter (is_on_line line) told)) s.rest mine))

-- ---- the words

followed_one : (old : Stamped) (e : Entry) (words : ℕ → List ℕ) → e.version ≡ (after old e.op).version → Agrees words e → words old.version ≡ old.line
    → words (after old e.op).version ≡ (after old e.op).line
followed_one old e words is agree at = grind (arith, version-maker, version-load, line_after-load)

-- entries that agree with the words at each version lead from a line that has them to one that has them
followed : (es : List Entry) (old new : Stamped) (words : ℕ → List ℕ) → IsHistory es old new → AllByRecursion (Agrees words) es
    → words old.version ≡ old.line → words new.version ≡ new.line
followed [] old new words h agree at = subst (λ (s : Stamped). words s.version ≡ s.line) (sym h) at
followed (e ∷ es) old new words h agree at =
    followed es (after old e.op) new words h.2 agree.1 (followed_one old e words h.1 agree.0 at)

-- and the reply of the next one is the line's
replied : (line : Stamped) (e : Entry) (words : ℕ → List ℕ) → e.version ≡ (after line e.op).version → Agrees words e → words line.version ≡ line.line
    → e.reply ≡ reply_of line.line e.op
replied line e words is agree at = grind (arith, version-maker, version-load)

-- ---- no false alarm

-- what is known where an entry is told after others, and logs that begin with them are lawful
record Told (first : List Stamped) (told : List Entry) (lines : List LineSoFar) (entry : Entry) (last : Stamped) : Type 0 where
  taken : AreTaken (begun_lines first) told lines
  known : entry.node < MAX_NODES
  entries : List Entry
  history : IsHistory entries (stamped_at first entry.op.line) last
  each : (node : ℕ) → node < MAX_NODES → Stands (told ++ entry ∷ []) entry.op.line node entries
  serials : Rises (filter (is_of_node entry.node) entries)

-- the entries of a line, with the one that is told on it
told_on : (told : List Entry) (entry : Entry) → filter (is_on_line entry.op.line) (told ++ entry ∷ []) ≡ filter (is_on_line entry.op.line) told ++ entry ∷ []
told_on told entry = grind (arith, filter-append, filter_yes)

told_of : (told : List Entry) (entry : Entry)
    → filter (is_of_node entry.node) (filter (is_on_line entry.op.line) (told ++ entry ∷ []))
    ≡ filter (is_of_node entry.node) (filter (is_on_line entry.op.line) told) ++ entry ∷ []
told_of told entry = grind (arith, told_on, filter-append, filter_yes)

own_entries : (first : List Stamped) (told : List Entry) (lines : List LineSoFar) (entry : Entry) (last : Stamped) → (k : Told first told lines entry last)
    → filter (is_of_node entry.node) k.entries
    ≡ (filter (is_of_node entry.node) (filter (is_on_line entry.op.line) told) ++ entry ∷ []) ++ (k.each entry.node k.known).rest
own_entries first told lines entry last k = grind (arith, told_of)

entry_among : (first : List Stamped) (told : List Entry) (lines : List LineSoFar) (entry : Entry) (last : Stamped) → (k : Told first told lines entry last)
    → IsAmong entry k.entries
entry_among first told lines entry last k = grind (arith, told_among, told_on, among_back)

earlier_among : (first : List Stamped) (told : List Entry) (lines : List LineSoFar) (entry : Entry) (last : Stamped) → (k : Told first told lines entry last)
    → (t : Entry) → IsAmong t (filter (is_on_line entry.op.line) told) → IsAmong t k.entries
earlier_among first told lines entry last k t among = grind (arith, among_all, all-filter, nodes_told, told_among, told_on, among_begins)

not_before : (line : LineSoFar) (entry : Entry) (version : ℕ) → line.first ≡ version → version ≤ entry.version
    → (IsTrue (is_making entry) → version < entry.version) → is_before_first line entry ≡ true → ⊥
not_before line entry version same le above h = grind (arith, cases_Bool, nat_tests)

no_missing : (first : List Stamped) (told : List Entry) (lines : List LineSoFar) (entry : Entry) (last : Stamped) → Told first told lines entry last
    → is_before_first (line_at lines entry.op.line) entry ≡ true → ⊥
no_missing first told lines entry last k h =
    let start = stamped_at first entry.op.line in
    let among = entry_among first told lines entry last k in
    not_before (line_at lines entry.op.line) entry start.version (first_stays first told lines entry.op.line k.taken)
    (among_all (λ e. start.version ≤ e.version) entry k.entries (versions-after k.entries start last k.history) among)
    (among_all (λ e. IsTrue (is_making e) → start.version < e.version) entry k.entries (makers-after k.entries start last k.history) among) h

no_behind : (first : List Stamped) (told : List Entry) (lines : List LineSoFar) (entry : Entry) (last : Stamped) → (k : Told first told lines entry last)
    → (latest : Option Latest) → latest_at lines entry.op.line entry.node ≡ latest → is_behind latest entry ≡ true → ⊥
no_behind first told lines entry last k None at h = cc
no_behind first told lines entry last k (Some latest) at h =
    let line = entry.op.line in
    let node = entry.node in
    let before = filter (is_of_node node) (filter (is_on_line line) told) in
    let rest = (k.each node k.known).rest in
    let own = own_entries first told lines entry last k in
    let start = stamped_at first line in
    elim (latest_told (begun_lines first) told lines line node latest k.taken (begun_places first) at) [
      | inl stood ↦ let none = begun_latest first line node in absurd cc
      | inr there ↦
          let t = there.0 in
          let serial = serials_before before t entry rest (subst Rises own k.serials) there.1 in
          let ordered : IsInOrder version_of (filter (is_of_node node) k.entries) =
          IsInOrder-filter version_of (is_of_node node) k.entries (versions_rise k.entries start last k.history) in
          let version = versions_before before t entry rest (subst (IsInOrder version_of) own ordered) there.1 in
          let same_serial : t.serial ≡ latest.serial = ap (λ (l : Latest). l.serial) there.2 in
          let same_version : t.version ≡ latest.version = ap (λ (l : Latest). l.version) there.2 in
          grind (arith, cases_Bool, nat_tests)
    ]

no_second : (first : List Stamped) (told : List Entry) (lines : List LineSoFar) (entry : Entry) (last : Stamped) → Told first told lines entry last
    → is_making entry ≡ true → (stamped_at first entry.op.line).version < entry.version → entry.version ≤ (line_at lines entry.op.line).contents.version → ⊥
no_second first told lines entry last k making above below =
    let line = entry.op.line in
    let version = entry.version in
    let start = stamped_at first line in
    let now = (line_at lines line).contents in
    let on = filter (is_on_line line) told in
    let maker = maker_of on start now version (history_told first told lines line k.taken) above below in
    let m = maker.0 in
    let among_makers : IsAmong m (filter (makes version) on) = subst (IsAmong m) (sym maker.1) (inl refl) in
    let m_on = among_whole (makes version) m on among_makers in
    let m_makes = among_all (λ e. makes version e ≡ true) m (filter (makes version) on) (all-passes (makes version) on) among_makers in
    let among = entry_among first told lines entry last k in
    let within = among_all (λ e. e.version ≤ last.version) entry k.entries (versions-within k.entries start last k.history) among in
    let one = maker_of k.entries start last version k.history above within in
    let w = one.0 in
    let entry_makes : makes version entry ≡ true = and_from (is_making entry) (eqb entry.version version) making (eq-eqb entry.version version refl) in
    let m_is : m ≡ w =
    only_one m w (subst (IsAmong m) one.1 (among_filter (makes version) m k.entries m_makes (earlier_among first told lines entry last k m m_on))) in
    let e_is : entry ≡ w = only_one entry w (subst (IsAmong entry) one.1 (among_filter (makes version) entry k.entries entry_makes among)) in
    let same : m ≡ entry = m_is ∙ sym e_is in
    let of : is_of_node entry.node m ≡ true = eq-eqb m.node entry.node (ap (λ (e : Entry). e.node) same) in
    let mine = among_filter (is_of_node entry.node) m on of m_on in
    let serial = serials_before (filter (is_of_node entry.node) on) m entry (k.each entry.node k.known).rest
    (subst Rises (own_entries first told lines entry last k) k.serials) mine in
    let same_serial : m.serial ≡ entry.serial = ap (λ (e : Entry). e.serial) same in
    omega arith

no_wrong : (first : List Stamped) (told : List Entry) (lines : List LineSoFar) (entry : Entry) (last : Stamped) → Told first told lines entry last
    → IsNext (line_at lines entry.op.line) entry → IsRight (line_at lines entry.op.line) entry
no_wrong first told lines entry last k next =
    let line = entry.op.line in
    let start = stamped_at first line in
    let now = (line_at lines line).contents in
    let on = filter (is_on_line line) told in
    let words : ℕ → List ℕ = λ version. words_at start.line k.entries version in
    let agree = history-agrees k.entries start last words k.history (λ version le. refl) in
    let earlier : AllByRecursion (Agrees words) on =
    all_from_among (Agrees words) on (λ t among. among_all (Agrees words) t k.entries agree (earlier_among first told lines entry last k t among)) in
    let at : words now.version ≡ now.line =
    followed on start now words (history_told first told lines line k.taken) earlier (words_at-start k.entries start last k.history) in
    replied now entry words next (among_all (Agrees words) entry k.entries agree (entry_among first told lines entry last k)) at

no_early : (first : List Stamped) (told : List Entry) (lines : List LineSoFar) (entry : Entry) (last : Stamped) (kind : FaultKind)
    → Told first told lines entry last → early_fault (line_at lines entry.op.line) entry ≡ Some kind → ⊥
no_early first told lines entry last kind k h =
    let line = line_at lines entry.op.line in
    let start = first_stays first told lines entry.op.line k.taken in
    elim (cases_Bool (is_before_first line entry)) [
      | inl before ↦ no_missing first told lines entry last k before
      | inr not_before ↦ elim (cases_Bool (is_made line entry)) [
        | inl made ↦
            let parts = and_parts (is_making entry) (nat_le entry.version line.contents.version) made in
            let below : entry.version ≤ line.contents.version = grind (arith, nat_tests) in
            let above : (stamped_at first entry.op.line).version < entry.version = grind (arith, cases_Bool, nat_tests) in
            no_second first told lines entry last k parts.0 above below
        | inr not_made ↦ elim (cases_Bool (is_behind (get_or line.latest entry.node None) entry)) [
          | inl behind ↦ no_behind first told lines entry last k (get_or line.latest entry.node None) refl behind
          | inr ahead ↦ let none : early_fault line entry ≡ None = rw (not_before, not_made, ahead) refl in cc
        ]
      ]
    ]

no_breach : (first : List Stamped) (told : List Entry) (lines : List LineSoFar) (entry : Entry) (last : Stamped) (kind : FaultKind)
    → Told first told lines entry last → Breaks (line_at lines entry.op.line) entry kind → ⊥
no_breach first told lines entry last WrongReply k h = h.2 (no_wrong first told lines entry last k h.1)
no_breach first told lines entry last VersionTwice k h = no_early first told lines entry last VersionTwice k h
no_breach first told lines entry last VersionMissing k h = no_early first told lines entry last VersionMissing k h
no_breach first told lines entry last OutOfOrder k h = no_early first told lines entry last OutOfOrder k h
no_breach first told lines entry last LastDiffers k h = no_early first told lines entry last LastDiffers k h

pub no_false_alarm : (first last : List Stamped) (told : List Entry) (lines : List LineSoFar) (entry : Entry) (kind : FaultKind) (logs : List (List Entry))
    → AreTaken (begun_lines first) told lines → entry.node < MAX_NODES → Breaks (line_at lines entry.op.line) entry kind
    → BeginWith (told ++ entry ∷ []) logs → LawfulFrom logs first last → ⊥
no_false_alarm first last told lines entry kind logs taken known breaks begins lawful =
    let line = entry.op.line in
    let h = lawful line in
    let k : Told first told lines entry (stamped_at last line) = record {
      taken = taken;
      known = known;
      entries = h.entries;
      history = h.history;
      each = λ node lt. stands (told ++ entry ∷ []) logs line node (stamped_at first line) (stamped_at last line) begins lt h;
      serials = subst Rises (h.logged entry.node known) (h.serials entry.node known);
    } in
    no_breach first told lines entry (stamped_at last line) kind k breaks
