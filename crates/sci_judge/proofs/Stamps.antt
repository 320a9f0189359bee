-- Logs of operations with versions, one operation after another.
use Rattle.std.proofs.Common.{◌≡◌, ◌⊎◌, ℕ, Some, suc, ◌+◌, ◌<◌, true, inl, inr, List, []}
use Rattle.std.proofs.Common.{◌∷◌, ◌++◌, length, map, get_or, set, take, refl, sym, ap, subst, ◌∙◌, arith}
use Rattle.std.proofs.lemmas.{Bool.{cases_Bool, cases_eq, cases_lt, eq-eqb, eqb-true, ne_eqb}}
use Rattle.std.proofs.lemmas.{List.{get_or_past, get_or-set_other, get_or-set_same, length-set, length-take-le, map-append, take_more}}
use Rattle.std.proofs.lemmas.List.Elements.{All-from_recursion}
use Rattle.std.proofs.lemmas.List.FromFn.{fill_by_all, length-map-range_with_len}
use Rattle.sci_words.specs.declared.limits.TheConstants.{MAX_NODES}
use Rattle.sci_history.specs.{declared.entry.Entry.{Entry}, Oracle.{logs_by_node}}
use Rattle.sci_history.specs.{Placed.{AreOwn, is_of_node, log_of}, Audit.{AreWithin, IsWithin}, Seen.{DidOn, IsAmong}}
use Rattle.sci_history.specs.Placed.{is_making as makes_entry}
use Rattle.std.specs.List.{AllByRecursion, filter, range_with_len}
use Rattle.std.specs.Prelude.{slice_get}
use Rattle.sci_history.proofs.Consequences.{among_whole}
use Rattle.sci_versions.proofs.Traces.{among_same}
use Rattle.sci_judge.proofs.{Explained.{entry_makes}, Pairs.{entry_at}}
use Rattle.sci_history.proofs.Order.{all-filter, all-passes, all_weaker, filter_no, filter_yes}
use Rattle.sci_history.proofs.Oracles.{filter_push_no, filter_push_yes, log_of-logs_of}
use Rattle.sci_versions.specs.Versions.{unversioned, without_versions}
use Rattle.sci_judge.specs.declared.access.Access.{Access}
use Rattle.sci_judge.specs.{Access.{is_making}, Coherent.{RespectsTimes, entries_from, entry_of, logs_of}, Stamped.{AreStamped, AreTimely}}

pub stamped_none : (versions : List ℕ) (logs : List (List Entry)) → logs ≡ logs_by_node [] → AreStamped [] versions logs
stamped_none versions logs is = record { entries = []; same = refl; logged = is; at = λ entry among. elim among [ ] }

among_push : (entries : List Entry) (last entry : Entry) → IsAmong entry (entries ++ last ∷ []) → IsAmong entry entries ⊎ (entry ≡ last)
among_push [] last entry (inl same) = inr same
among_push [] last entry (inr h) = elim h [ ]
among_push (e ∷ entries) last entry (inl same) = inl (inl same)
among_push (e ∷ entries) last entry (inr h) = elim (among_push entries last entry h) [
  | inl before ↦ inl (inr before)
  | inr end ↦ inr end
]

entries_push : (serial : ℕ) (xs : List Access) (a : Access)
    → entries_from serial (xs ++ a ∷ []) ≡ entries_from serial xs ++ entry_of (serial + length xs) a ∷ []
entries_push serial [] a = ap (λ (k : ℕ). entry_of k a ∷ []) (omega arith)
entries_push serial (x ∷ xs) a =
    ap (λ (es : List Entry). entry_of serial x ∷ es) (entries_push (suc serial) xs a
    ∙ ap (λ (k : ℕ). entries_from (suc serial) xs ++ entry_of k a ∷ []) (omega arith))

pub by_node_push : (done : List Entry) (entry : Entry) → entry.node < MAX_NODES
    → set (logs_by_node done) entry.node (log_of (logs_by_node done) entry.node ++ entry ∷ []) ≡ logs_by_node (done ++ entry ∷ [])
by_node_push done entry lt = grind (
  arith,
  length-map-range_with_len,
  fill_by_all,
  length-set,
  cases_eq,
  get_or-set_same,
  log_of-logs_of,
  filter_push_yes,
  eq-eqb,
  get_or-set_other,
  filter_push_no,
  ne_eqb,
)

pub stamped_push : (xs : List Access) (versions : List ℕ) (i version : ℕ) (d : Access) (logs new : List (List Entry)) (entry : Entry) → i < length xs
    → AreStamped (take i xs) versions logs → entry ≡ record (entry_of i (get_or xs i d)) { version = version } → entry.node < MAX_NODES
    → new ≡ set logs entry.node (log_of logs entry.node ++ entry ∷ []) → slice_get versions i ≡ Some version → AreStamped (take (i + 1) xs) versions new
stamped_push xs versions i version d logs new entry lt before is small pushed found =
    let a = get_or xs i d in
    let long : length (take i xs) ≡ i = length-take-le i xs (omega arith) in
    let one : unversioned entry ≡ entry_of i a = ap unversioned is in
    record {
      entries = before.entries ++ entry ∷ [];
      same = map-append unversioned before.entries (entry ∷ [])
          ∙ (ap (λ (es : List Entry). es ++ unversioned entry ∷ []) before.same
          ∙ (ap (λ (e : Entry). entries_from 0 (take i xs) ++ e ∷ []) (one ∙ ap (λ (k : ℕ). entry_of k a) (omega arith))
          ∙ (sym (entries_push 0 (take i xs) a) ∙ ap (entries_from 0) (sym (take_more xs i d lt)))));
      logged = pushed
          ∙ (ap (λ (ls : List (List Entry)). set ls entry.node (log_of ls entry.node ++ entry ∷ [])) before.logged ∙ by_node_push before.entries entry small);
      at = λ e among. elim (among_push before.entries entry e among) [
        | inl old ↦ before.at e old
        | inr this ↦
            let serial : e.serial ≡ i = ap (λ (x : Entry). x.serial) (this ∙ is) in
            let made : e.version ≡ version = ap (λ (x : Entry). x.version) (this ∙ is) in
            ap (slice_get versions) serial ∙ (found ∙ ap (λ (v : ℕ). Some v) (sym made))
      ];
    }

-- ---- the logs are the operations' but for their versions

filter_unversioned : (node : ℕ) (es : List Entry) → filter (is_of_node node) (map unversioned es) ≡ map unversioned (filter (is_of_node node) es)
filter_unversioned node [] = refl
filter_unversioned node (e ∷ es) = elim (cases_Bool (is_of_node node e)) [
  | inl own ↦
      filter_yes (is_of_node node) (unversioned e) (map unversioned es) own
      ∙ (ap (λ (xs : List Entry). unversioned e ∷ xs) (filter_unversioned node es) ∙ sym (ap (map unversioned) (filter_yes (is_of_node node) e es own)))
  | inr other ↦
      filter_no (is_of_node node) (unversioned e) (map unversioned es) other
      ∙ (filter_unversioned node es ∙ sym (ap (map unversioned) (filter_no (is_of_node node) e es other)))
]

unversioned_logs : (es : List Entry) (nodes : List ℕ)
    → without_versions (map (λ (node : ℕ). filter (is_of_node node) es) nodes) ≡ map (λ (node : ℕ). filter (is_of_node node) (map unversioned es)) nodes
unversioned_logs es [] = refl
unversioned_logs es (node ∷ nodes) = rw (filter_unversioned node es)
    (ap (λ (ls : List (List Entry)). map unversioned (filter (is_of_node node) es) ∷ ls) (unversioned_logs es nodes))

twice_unversioned : (es : List Entry) → map unversioned (map unversioned es) ≡ map unversioned es
twice_unversioned [] = refl
twice_unversioned (e ∷ es) = ap (λ (xs : List Entry). unversioned e ∷ xs) (twice_unversioned es)

pub stamped_same : (accesses : List Access) (versions : List ℕ) (logs : List (List Entry)) → AreStamped accesses versions logs
    → without_versions logs ≡ without_versions (logs_of accesses)
stamped_same accesses versions logs is =
    let nodes = range_with_len 0 MAX_NODES in
    ap without_versions is.logged
    ∙ (unversioned_logs is.entries nodes
    ∙ (ap logs_by_node (sym (twice_unversioned is.entries) ∙ ap (map unversioned) is.same)
    ∙ sym (unversioned_logs (entries_from 0 accesses) nodes)))

-- ---- the logs are sound

pub stamped_sixteen : (accesses : List Access) (versions : List ℕ) (logs : List (List Entry)) → AreStamped accesses versions logs → length logs ≡ MAX_NODES
stamped_sixteen accesses versions logs is = ap length is.logged ∙ length-map-range_with_len (λ (n : ℕ). filter (is_of_node n) is.entries) 0 MAX_NODES

-- what holds of a node's entries holds of its log
pub in_log : (P : Entry → Type 0) (es : List Entry) (logs : List (List Entry)) (node : ℕ) → logs ≡ logs_by_node es
    → AllByRecursion P (filter (is_of_node node) es) → AllByRecursion P (log_of logs node)
in_log P es logs node is all = grind (arith, cases_lt, log_of-logs_of, length-map-range_with_len, get_or_past)

pub stamped_own : (accesses : List Access) (versions : List ℕ) (logs : List (List Entry)) → AreStamped accesses versions logs → AreOwn logs
stamped_own accesses versions logs is = λ node.
    All-from_recursion (λ e. e.node ≡ node) (log_of logs node)
    (in_log (λ e. e.node ≡ node) is.entries logs node is.logged
    (all_weaker (λ e. is_of_node node e ≡ true) (λ e. e.node ≡ node) (λ e own. eqb-true e.node node own) (filter (is_of_node node) is.entries)
    (all-passes (is_of_node node) is.entries)))

entries_within : (serial : ℕ) (accesses : List Access) (es : List Entry) → map unversioned es ≡ entries_from serial accesses → AllByRecursion (IsWithin 1) es
entries_within serial accesses [] same = tt
entries_within serial [] (e ∷ es) same = absurd cc
entries_within serial (a ∷ accesses) (e ∷ es) same =
    let head : unversioned e ≡ entry_of serial a = cc in
    let rest : map unversioned es ≡ entries_from (suc serial) accesses = cc in
    let line : e.op.line ≡ 0 = ap (λ (x : Entry). x.op.line) head in
    let word : e.op.word ≡ 0 = ap (λ (x : Entry). x.op.word) head in
    ((omega arith, omega arith), entries_within (suc serial) accesses es rest)

pub stamped_within : (accesses : List Access) (versions : List ℕ) (logs : List (List Entry)) → AreStamped accesses versions logs → AreWithin 1 logs
stamped_within accesses versions logs is = λ node.
    All-from_recursion (IsWithin 1) (log_of logs node)
    (in_log (IsWithin 1) is.entries logs node is.logged
    (all-filter (IsWithin 1) (is_of_node node) is.entries (entries_within 0 accesses is.entries is.same)))

-- ---- versions that respect times

-- the operation of an entry, at the place of its serial
twice_same : (accesses : List Access) (entries : List Entry) → map unversioned entries ≡ entries_from 0 accesses
    → map unversioned entries ≡ map unversioned (entries_from 0 accesses)
twice_same accesses entries same = sym (twice_unversioned entries) ∙ ap (map unversioned) same

record IsAtSerial (accesses : List Access) (x : Entry) : Type 0 where
  access : Access
  here : slice_get accesses x.serial ≡ Some access
  same : unversioned x ≡ entry_of x.serial access

at_serial : (accesses : List Access) (entries : List Entry) (x : Entry) → map unversioned entries ≡ entries_from 0 accesses → IsAmong x entries
    → IsAtSerial accesses x
at_serial accesses entries x same among =
    let twin = among_same (entries_from 0 accesses) entries x (sym (twice_same accesses entries same)) among in
    let found = entry_at 0 accesses twin.entry twin.among in
    let is : unversioned x ≡ entry_of found.place found.access =
    sym twin.same ∙ (ap unversioned found.is ∙ ap (λ (k : ℕ). entry_of k found.access) (omega arith)) in
    let serial : found.place ≡ x.serial = sym (ap (λ (e : Entry). e.serial) is) in
    record {
      access = found.access;
      here = ap (slice_get accesses) (sym serial) ∙ found.here;
      same = is ∙ ap (λ (k : ℕ). entry_of k found.access) serial;
    }

pub among_logs : (accesses : List Access) (versions : List ℕ) (logs : List (List Entry)) (node : ℕ) (x : Entry) (is : AreStamped accesses versions logs)
    → DidOn logs 0 node x → IsAmong x is.entries
among_logs accesses versions logs node x is did =
    among_whole (is_of_node node) x is.entries
    (subst (IsAmong x) (ap (λ (ls : List (List Entry)). log_of ls node) is.logged ∙ log_of-logs_of is.entries node did.known) did.among)

pub stamped_times : (accesses : List Access) (versions : List ℕ) (logs : List (List Entry)) → AreStamped accesses versions logs → AreTimely accesses versions
    → RespectsTimes accesses logs
stamped_times accesses versions logs is timely = λ i j a b x y at_a at_b less did_x serial_x did_y serial_y.
    let among_x = among_logs accesses versions logs a.processor x is did_x in
    let among_y = among_logs accesses versions logs b.processor y is did_y in
    let version_x : slice_get versions i ≡ Some x.version = ap (slice_get versions) (sym serial_x) ∙ is.at x among_x in
    let version_y : slice_get versions j ≡ Some y.version = ap (slice_get versions) (sym serial_y) ∙ is.at y among_y in
    let of = at_serial accesses is.entries y is.same among_y in
    let here : Some of.access ≡ Some b = sym of.here ∙ (ap (slice_get accesses) serial_y ∙ at_b) in
    let access : of.access ≡ b = cc in
    let makes : makes_entry y ≡ is_making b.kind =
    entry_makes y y.serial of.access of.same ∙ ap (λ (z : Access). is_making z.kind) access in
    let h = timely i j x.version y.version a b at_a at_b version_x version_y less in
    (h.0, λ making. h.1 (sym makes ∙ making))
