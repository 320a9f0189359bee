-- What one entry more does to what is placed, what is left, and each line.
use Rattle.std.proofs.Common.{◌≡◌, ℕ, zero, suc, ◌+◌, ◌<◌, ◌≤◌, Bool, true, false, cond, eqb, List, [], ◌∷◌, ◌++◌, append_assoc, length, get_or, set, refl}
use Rattle.std.proofs.Common.{sym, ap, subst, ◌∙◌, arith, inl, inr}
use Rattle.std.proofs.lemmas.Bool.{cases_Bool, cases_lt, cases_eq, eq-eqb, ne_eqb}
use Rattle.std.proofs.lemmas.List.{length-set, get_or-set_same, get_or-set_other, Elements.{recursion_from_All}}
use Rattle.std.proofs.lemmas.List.Sums.{sum_by-cons, sum_by-append, sum_by-set}
use Rattle.std.specs.{Prelude.{count_by, ◌&&◌, IsTrue}, List.{filter, sum_by, AllByRecursion}}
use Rattle.sci_words.specs.declared.{limits.TheConstants.{MAX_NODES}, stamped.Stamped.{Stamped}}
use Rattle.sci_words.specs.Stamped.{after, reply_of, zero_line, zero_stamped}
use Rattle.sci_history.specs.{declared.{entry.Entry.{Entry}, placing.LineState.{LineState}}, Audit.{IsWithin}}
use Rattle.sci_history.specs.{History.{IsHistory, words_at}, Lawful.{Lawful}, Memory.{stamped_at}}
use Rattle.sci_history.specs.Placed.{log_of, AreOwn, is_of_node, is_on_line, is_making, reads, maker_count, on_line, placed}
use Rattle.sci_history.specs.Placing.{CanFollow, state_after, state_of, no_state, all_of, IsPlacedOn, IsPlacing, AreOrderable}
use Rattle.sci_history.specs.Seen.{IsAmong, DidOn}
use Rattle.sci_history.proofs.Consequences.{among_all, among_filter, did_placed, placed_history, agreed}
use Rattle.sci_history.proofs.Histories.{Agrees, version-maker, versions-within, words_at-start}
use Rattle.sci_history.proofs.Oracles.{filter_push_yes, filter_push_no, count_push}
use Rattle.sci_history.proofs.{Order.{filter_yes, filter_no, all_weaker}, Runs.{same_stamped}}
use Rattle.sci_history.proofs.SequentialRuns.{after-load}

-- ---- counts over all logs

-- 1 for what passes a test
abbrev pub once : Bool → ℕ
once b = cond b 1 0

pub count-cons : (p : Entry → Bool) (x : Entry) (xs : List Entry) → count_by p (x ∷ xs) ≡ once (p x) + count_by p xs
count-cons p x xs = sum_by-cons (λ (e : Entry). cond (p e) 1 0) x xs

pub count-all : (p : Entry → Bool) (logs : List (List Entry)) → count_by p (all_of logs) ≡ sum_by (λ (log : List Entry). count_by p log) logs
count-all p [] = refl
count-all p (log ∷ logs) =
    sum_by-append (λ (e : Entry). cond (p e) 1 0) log (all_of logs)
    ∙ (ap (λ (k : ℕ). count_by p log + k) (count-all p logs) ∙ sym (sum_by-cons (λ (l : List Entry). count_by p l) log logs))

-- what passes both tests
pub count-filter : (p q : Entry → Bool) (xs : List Entry) → count_by p (filter q xs) ≡ count_by (λ (e : Entry). q e && p e) xs
count-filter p q [] = refl
count-filter p q (x ∷ xs) =
    let rest = count-filter p q xs in
    elim (cases_Bool (q x)) [
      | inl passes ↦
          let both : once (q x && p x) ≡ once (p x) = rw passes refl in
          ap (count_by p) (filter_yes q x xs passes) ∙ (count-cons p x (filter q xs) ∙ omega (arith, rest, both, count-cons (λ (e : Entry). q e && p e) x xs))
      | inr fails ↦
          let both : once (q x && p x) ≡ 0 = rw fails refl in
          ap (count_by p) (filter_no q x xs fails) ∙ omega (arith, rest, both, count-cons (λ (e : Entry). q e && p e) x xs)
    ]

-- ---- one entry is taken from the front of a log

pub taken : (p : Entry → Bool) (rests : List (List Entry)) (n : ℕ) (e : Entry) (rest : List Entry) → n < length rests → log_of rests n ≡ e ∷ rest
    → count_by p (all_of rests) ≡ once (p e) + count_by p (all_of (set rests n rest))
taken p rests n e rest lt front = grind (arith, sum_by-set, count-cons, count-all)

pub taken_on : (p : Entry → Bool) (line : ℕ) (rests : List (List Entry)) (n : ℕ) (e : Entry) (rest : List Entry) → n < length rests → log_of rests n ≡ e ∷ rest
    → count_by p (on_line line rests) ≡ once (is_on_line line e && p e) + count_by p (on_line line (set rests n rest))
taken_on p line rests n e rest lt front =
    count-filter p (is_on_line line) (all_of rests)
    ∙ (taken (λ (x : Entry). is_on_line line x && p x) rests n e rest lt front
    ∙ ap (λ (k : ℕ). once (is_on_line line e && p e) + k) (sym (count-filter p (is_on_line line) (all_of (set rests n rest)))))

-- what is placed on a line and what is left there are all
pub split_on : (p : Entry → Bool) (line count : ℕ) (logs rests : List (List Entry)) (lines : List LineState) (order : List Entry)
    → IsPlacing logs count lines rests order
    → count_by p (filter (is_on_line line) order) + count_by p (on_line line rests) ≡ count_by p (on_line line logs)
split_on p line count logs rests lines order is = grind (arith, count-filter)

-- ---- a history with one entry more

pub history_push : (entries : List Entry) (entry : Entry) (old mid new : Stamped) → IsHistory entries old mid → entry.reply ≡ reply_of mid.line entry.op
    → entry.version ≡ (after mid entry.op).version → new ≡ after mid entry.op → IsHistory (entries ++ entry ∷ []) old new
history_push [] entry old mid new h reply version end = grind arith
history_push (x ∷ entries) entry old mid new h reply version end = (h.0, h.1, history_push entries entry (after old x.op) mid new h.2 reply version end)

pub among_back : (xs : List Entry) (e : Entry) (rest : List Entry) → IsAmong e (xs ++ e ∷ rest)
among_back [] e rest = inl refl
among_back (x ∷ xs) e rest = inr (among_back xs e rest)

-- an entry that is left in its log agrees with the words at each version of its line
pub front_agrees : (logs rests : List (List Entry)) (last : List Stamped) (order : List Entry) (n : ℕ) (e : Entry) (rest : List Entry) → AreOwn logs
    → length logs ≡ MAX_NODES → Lawful logs last → n < MAX_NODES
    → filter (is_of_node n) order ++ log_of rests n ≡ log_of logs n → log_of rests n ≡ e ∷ rest
    → Agrees (λ version. words_at zero_line (placed logs e.op.line) version) e
front_agrees logs rests last order n e rest own sixteen lawful lt logged front =
    let whole : filter (is_of_node n) order ++ e ∷ rest ≡ log_of logs n = ap (λ (xs : List Entry). filter (is_of_node n) order ++ xs) (sym front) ∙ logged in
    let did : DidOn logs e.op.line n e = record { known = lt; among = subst (IsAmong e) whole (among_back (filter (is_of_node n) order) e rest); on = refl } in
    let line = e.op.line in
    agreed logs line (stamped_at last line) e own sixteen (lawful line) (did_placed logs line n (stamped_at last line) e (lawful line) did)

-- ---- an entry is placed

-- the words and the version of a line
abbrev pub line_when : List (List Entry) → ℕ → ℕ → Stamped
line_when logs line version = record { line = words_at zero_line (placed logs line) version; version = version }

-- other lines stand as they stood
placed_elsewhere : (logs rests : List (List Entry)) (order : List Entry) (k n : ℕ) (state : LineState) (e : Entry) (rest : List Entry) → n < length rests
    → log_of rests n ≡ e ∷ rest → (e.op.line ≡ k → ⊥)
    → IsPlacedOn logs rests order k state → IsPlacedOn logs (set rests n rest) (order ++ e ∷ []) k state
placed_elsewhere logs rests order k n state e rest lt front ne is =
    let off : is_on_line k e ≡ false = ne_eqb e.op.line k ne in
    let same : (p : Entry → Bool) → count_by p (on_line k rests) ≡ count_by p (on_line k (set rests n rest)) =
    λ p. taken_on p k rests n e rest lt front ∙ rw off (omega arith) in
    record {
      history = subst (λ (es : List Entry). IsHistory es zero_stamped (line_when logs k state.version)) (sym (filter_push_no (is_on_line k) order e off))
          is.history;
      left = is.left ∙ same (reads state.version);
      past = λ version below. sym (same (reads version)) ∙ is.past version below;
    }

pub none_read : (entries : List Entry) (version : ℕ) → AllByRecursion (λ e. e.version < version) entries → count_by (reads version) entries ≡ 0
none_read [] version all = refl
none_read (e ∷ entries) version all =
    let off : eqb e.version version ≡ false = ne_eqb e.version version (λ same. let lt = all.0 in absurd (omega arith)) in
    let none : once (reads version e) ≡ 0 = elim (cases_Bool (is_making e)) [ inl maker ↦ rw maker refl | inr load ↦ rw (load, off) refl ] in
    count-cons (reads version) e entries ∙ omega (arith, none, none_read entries version all.1)

-- a load at the line's version
placed_load : (logs rests : List (List Entry)) (order : List Entry) (n : ℕ) (state : LineState) (loads : List ℕ) (e : Entry) (rest : List Entry)
    → n < length rests → log_of rests n ≡ e ∷ rest → is_making e ≡ false
    → e.version ≡ state.version → Agrees (λ version. words_at zero_line (placed logs e.op.line) version) e
    → IsPlacedOn logs rests order e.op.line state → IsPlacedOn logs (set rests n rest) (order ++ e ∷ []) e.op.line (state_after loads state e)
placed_load logs rests order n state loads e rest lt front load version agrees is =
    let line = e.op.line in
    let now = line_when logs line state.version in
    let on : is_on_line line e ≡ true = eq-eqb line line refl in
    let here : reads state.version e ≡ true = rw load (eq-eqb e.version state.version version) in
    let less : (p : Entry → Bool) → count_by p (on_line line rests) ≡ once (p e) + count_by p (on_line line (set rests n rest)) =
    λ p. taken_on p line rests n e rest lt front ∙ rw on refl in
    let reply : e.reply ≡ reply_of now.line e.op = agrees.read load ∙ ap (λ (v : ℕ). reply_of (words_at zero_line (placed logs line) v) e.op) version in
    let stays = after-load now e.op load in
    let history = history_push (filter (is_on_line line) order) e zero_stamped now now is.history reply (version ∙ ap (λ (s : Stamped). s.version) (sym stays))
    (sym stays) in
    rw load (record {
      history = subst (λ (es : List Entry). IsHistory es zero_stamped now) (sym (filter_push_yes (is_on_line line) order e on)) history;
      left = let one = less (reads state.version) in let was = is.left in let single : once (reads state.version e) ≡ 1 = rw here refl in omega arith;
      past = λ before below. let one = less (reads before) in let was = is.past before below in omega arith;
    })

-- a maker of the next version
placed_maker : (logs rests : List (List Entry)) (order : List Entry) (n : ℕ) (state : LineState) (loads : List ℕ) (e : Entry) (rest : List Entry)
    → n < length rests → log_of rests n ≡ e ∷ rest → is_making e ≡ true
    → state.left ≡ 0 → e.version ≡ state.version + 1 → Agrees (λ version. words_at zero_line (placed logs e.op.line) version) e
    → get_or loads e.version 0 ≡ count_by (reads e.version) (on_line e.op.line logs)
    → (count_by (reads e.version) (filter (is_on_line e.op.line) order) + count_by (reads e.version) (on_line e.op.line rests) ≡ count_by (reads e.version)
    (on_line e.op.line logs))
    → IsPlacedOn logs rests order e.op.line state → IsPlacedOn logs (set rests n rest) (order ++ e ∷ []) e.op.line (state_after loads state e)
placed_maker logs rests order n state loads e rest lt front maker none version agrees counted split is =
    let line = e.op.line in
    let now = line_when logs line state.version in
    let next = line_when logs line e.version in
    let on : is_on_line line e ≡ true = eq-eqb line line refl in
    let same : (v : ℕ) → count_by (reads v) (on_line line rests) ≡ count_by (reads v) (on_line line (set rests n rest)) =
    λ v. taken_on (reads v) line rests n e rest lt front ∙ rw (on, maker) (omega arith) in
    let made = agrees.made state.version maker (omega arith) in
    let words : next.line ≡ (after now e.op).line = ap (words_at zero_line (placed logs line)) (omega arith) ∙ made.1 in
    let more = version-maker now e.op maker in
    let then_ : next ≡ after now e.op = same_stamped next (after now e.op) words (omega arith) in
    let history = history_push (filter (is_on_line line) order) e zero_stamped now next is.history made.0 (omega arith) then_ in
    let low = versions-within (filter (is_on_line line) order) zero_stamped now is.history in
    let unread = none_read (filter (is_on_line line) order) e.version
    (all_weaker (λ (x : Entry). x.version ≤ state.version) (λ x. x.version < e.version) (λ x le. omega arith) (filter (is_on_line line) order) low) in
    rw maker (record {
      history = subst (λ (es : List Entry). IsHistory es zero_stamped next) (sym (filter_push_yes (is_on_line line) order e on)) history;
      left = let moved = same e.version in omega arith;
      past = λ before below.
          let moved = same before in
          elim (cases_lt before state.version) [
            | inl earlier ↦ sym (same before) ∙ is.past before earlier
            | inr later ↦
                let here : before ≡ state.version = omega arith in
                let gone = is.left in
                sym (same before) ∙ (ap (λ (v : ℕ). count_by (reads v) (on_line line rests)) here ∙ (sym is.left ∙ none))
          ];
    })

-- what an entry that is left has to be, and its line
pub record IsFront (logs : List (List Entry)) (loads : List (List ℕ)) (e : Entry) : Type 0 where
  pub agrees : Agrees (λ version. words_at zero_line (placed logs e.op.line) version) e
  pub counted : is_making e ≡ true → get_or (get_or loads e.op.line []) e.version 0 ≡ count_by (reads e.version) (on_line e.op.line logs)
  pub within : e.op.line < length loads
  pub version : e.version ≤ maker_count (on_line e.op.line logs)
  pub above : is_making e ≡ true → 1 ≤ e.version

-- the state of each line after an entry on one of them
abbrev pub lines_after : List (List ℕ) → List LineState → Entry → List LineState
lines_after loads lines e = set lines e.op.line (state_after (get_or loads e.op.line []) (state_of lines e.op.line) e)

placed_here : (logs : List (List Entry)) (loads : List (List ℕ)) (lines : List LineState) (rests : List (List Entry)) (order : List Entry) (n : ℕ) (e : Entry)
    (rest : List Entry) → n < length rests → log_of rests n ≡ e ∷ rest
    → IsFront logs loads e → CanFollow (state_of lines e.op.line) e → IsPlacing logs (length loads) lines rests order
    → IsPlacedOn logs (set rests n rest) (order ++ e ∷ []) e.op.line (state_after (get_or loads e.op.line []) (state_of lines e.op.line) e)
placed_here logs loads lines rests order n e rest lt front is can placing = elim (cases_Bool (is_making e)) [
  | inl maker ↦
      placed_maker logs rests order n (state_of lines e.op.line) (get_or loads e.op.line []) e rest lt front maker (can.maker maker).0 (can.maker maker).1
      is.agrees (is.counted maker)
      (split_on (reads e.version) e.op.line (length loads) logs rests lines order placing) (placing.each e.op.line is.within)
  | inr load ↦ placed_load logs rests order n (state_of lines e.op.line) (get_or loads e.op.line []) e rest lt front load (can.load load) is.agrees
      (placing.each e.op.line is.within)
]

log_push_own : (order : List Entry) (n : ℕ) (e : Entry) (rest : List Entry) → e.node ≡ n
    → filter (is_of_node n) (order ++ e ∷ []) ++ rest ≡ filter (is_of_node n) order ++ e ∷ rest
log_push_own order n e rest own = grind (arith, filter_push_yes, eq-eqb, append_assoc)

among_ends : (e : Entry) (xs ys : List Entry) → IsAmong e ys → IsAmong e (xs ++ ys)
among_ends e [] ys h = h
among_ends e (x ∷ xs) ys h = inr (among_ends e xs ys h)

pub among_begins : (e : Entry) (xs ys : List Entry) → IsAmong e xs → IsAmong e (xs ++ ys)
among_begins e [] ys h = elim h [ ]
among_begins e (x ∷ xs) ys (inl same) = inl same
among_begins e (x ∷ xs) ys (inr h) = inr (among_begins e xs ys h)

among_logs : (e : Entry) (logs : List (List Entry)) (n : ℕ) → IsAmong e (log_of logs n) → IsAmong e (all_of logs)
among_logs e [] n h = elim h [ ]
among_logs e (log ∷ logs) zero h = among_begins e log (all_of logs) h
among_logs e (log ∷ logs) (suc n) h = among_ends e log (all_of logs) (among_logs e logs n h)

-- what is left first in a log
pub front_is : (logs rests : List (List Entry)) (loads : List (List ℕ)) (order : List Entry) (n : ℕ) (e : Entry) (rest : List Entry) → AreOrderable logs loads
    → n < MAX_NODES
    → filter (is_of_node n) order ++ log_of rests n ≡ log_of logs n → log_of rests n ≡ e ∷ rest → IsFront logs loads e × (e.node ≡ n)
front_is logs rests loads order n e rest is lt logged front =
    let line = e.op.line in
    let whole : filter (is_of_node n) order ++ e ∷ rest ≡ log_of logs n = ap (λ (xs : List Entry). filter (is_of_node n) order ++ xs) (sym front) ∙ logged in
    let among : IsAmong e (log_of logs n) = subst (IsAmong e) whole (among_back (filter (is_of_node n) order) e rest) in
    let on : IsAmong e (on_line line logs) = among_filter (is_on_line line) e (all_of logs) (eq-eqb line line refl) (among_logs e logs n among) in
    let versions = (is.lawful line).versions in
    let inside = among_all (IsWithin (length loads)) e (log_of logs n) (recursion_from_All (IsWithin (length loads)) (log_of logs n) (is.within n)) among in
    let version = among_all (λ (x : Entry). x.version ≤ maker_count (on_line line logs)) e (on_line line logs) versions.within on in (
      record {
        agrees = front_agrees logs rests is.last order n e rest is.own is.sixteen is.lawful lt logged front;
        counted = λ maker. (is.counts line inside.0).each e.version version;
        within = inside.0;
        version = version;
        above = λ maker. among_all (λ (x : Entry). IsTrue (is_making x) → 1 ≤ x.version) e (on_line line logs) versions.makers on maker;
      },
      among_all (λ (x : Entry). x.node ≡ n) e (log_of logs n) (recursion_from_All (λ (x : Entry). x.node ≡ n) (log_of logs n) (is.own n)) among,
    )

pub placing_more : (logs : List (List Entry)) (loads : List (List ℕ)) (lines : List LineState) (rests : List (List Entry)) (order : List Entry) (n : ℕ)
    (e : Entry) (rest : List Entry) → n < length rests → log_of rests n ≡ e ∷ rest → e.node ≡ n
    → length loads ≤ length lines → IsFront logs loads e → CanFollow (state_of lines e.op.line) e → IsPlacing logs (length loads) lines rests order
    → IsPlacing logs (length loads) (lines_after loads lines e) (set rests n rest) (order ++ e ∷ [])
placing_more logs loads lines rests order n e rest lt front own long is can placing =
    let here = placed_here logs loads lines rests order n e rest lt front is can placing in
    let inside = is.within in
    record {
      sixteen = length-set rests n rest ∙ placing.sixteen;
      logged = λ m. elim (cases_eq m n) [
        | inl same ↦ subst (λ (k : ℕ). filter (is_of_node k) (order ++ e ∷ []) ++ log_of (set rests n rest) k ≡ log_of logs k) (sym same)
            (ap (λ (xs : List Entry). filter (is_of_node n) (order ++ e ∷ []) ++ xs) (get_or-set_same rests n rest [] lt)
            ∙ (log_push_own order n e rest own ∙ (ap (λ (xs : List Entry). filter (is_of_node n) order ++ xs) (sym front) ∙ placing.logged n)))
        | inr ne ↦
            let off : is_of_node m e ≡ false = ne_eqb e.node m (λ same. ne (sym same ∙ own)) in
            ap (λ (xs : List Entry). xs ++ log_of (set rests n rest) m) (filter_push_no (is_of_node m) order e off)
            ∙ (ap (λ (xs : List Entry). filter (is_of_node m) order ++ xs) (get_or-set_other rests n m rest [] ne) ∙ placing.logged m)
      ];
      counts = λ p. let all = placing.counts p in let moved = taken p rests n e rest lt front in let pushed = count_push p order e in omega arith;
      each = λ k below. elim (cases_eq k e.op.line) [
        | inl same ↦
            let state : state_of (lines_after loads lines e) e.op.line ≡ state_after (get_or loads e.op.line []) (state_of lines e.op.line) e =
            get_or-set_same lines e.op.line _ no_state (omega arith) in
            subst (λ (l : ℕ). IsPlacedOn logs (set rests n rest) (order ++ e ∷ []) l (state_of (lines_after loads lines e) l)) (sym same)
            (subst (IsPlacedOn logs (set rests n rest) (order ++ e ∷ []) e.op.line) (sym state) here)
        | inr ne ↦
            let state : state_of (lines_after loads lines e) k ≡ state_of lines k = get_or-set_other lines e.op.line k _ no_state ne in
            subst (IsPlacedOn logs (set rests n rest) (order ++ e ∷ []) k) (sym state)
            (placed_elsewhere logs rests order k n (state_of lines k) e rest lt front (λ e_. ne (sym e_)) (placing.each k below))
      ];
    }

-- ---- the beginning

pub placing_none : (logs : List (List Entry)) (loads : List (List ℕ)) (lines : List LineState) (rests : List (List Entry)) → AreOrderable logs loads
    → rests ≡ logs
    → ((line : ℕ) → line < length loads → state_of lines line ≡ record { version = 0; left = get_or (get_or loads line []) 0 0 })
    → IsPlacing logs (length loads) lines rests []
placing_none logs loads lines rests is same states = record {
  sixteen = ap (λ (l : List (List Entry)). length l) same ∙ is.sixteen;
  logged = λ node. ap (λ (l : List (List Entry)). log_of l node) same;
  counts = λ p. let all = ap (λ (l : List (List Entry)). count_by p (all_of l)) same in omega arith;
  each = λ line below.
      let start : line_when logs line 0 ≡ zero_stamped =
      same_stamped (line_when logs line 0) zero_stamped
      (words_at-start (placed logs line) zero_stamped (stamped_at is.last line)
      (placed_history logs line (stamped_at is.last line) is.own is.sixteen (is.lawful line))) refl in
      subst (IsPlacedOn logs rests [] line) (sym (states line below)) (record {
        history = start;
        left = (is.counts line below).each 0 (omega arith) ∙ ap (λ (l : List (List Entry)). count_by (reads 0) (on_line line l)) (sym same);
        past = λ version low. absurd (omega arith);
      });
}
