-- Logs of traces, one operation after another.
use Rattle.std.proofs.Common.{◌≡◌, ◌≢◌, ℕ, zero, suc, ◌+◌, ◌<◌, ◌≤◌, Bool, cond, eqb, List, [], ◌∷◌, ◌++◌, length, map, Some}
use Rattle.std.proofs.Common.{get_or, set, take, refl, sym, ap, subst, ◌∙◌, arith, inl, inr, append_assoc}
use Rattle.std.proofs.lemmas.Bool.{cases_eq, eq-eqb, ne_eqb}
use Rattle.std.proofs.Math.Nat.{le-max_right}
use Rattle.std.proofs.lemmas.List.{append-nil, get_or-map, get_or-set_other, get_or-set_same, length-map, length-set, length-take-le, map-append}
use Rattle.std.proofs.lemmas.List.{take_more}
use Rattle.std.proofs.lemmas.List.{Elements.{All-from_recursion}, Sums.{count_by_more_yes, length-filter, sum_by-cons}}
use Rattle.std.proofs.lemmas.Option.{get_or_from_slice_get, slice_get_cases, slice_get_within}
use Rattle.std.specs.{Prelude.{slice_get, count_by}, List.{AllByRecursion}, List.Sorted.{IsStrictlyIncreasing}}
use Rattle.sci_words.specs.declared.limits.TheConstants.{MAX_NODES}
use Rattle.sci_history.specs.{declared.entry.Entry.{Entry}, Audit.{AreWithin, IsWithin}, Oracle.{logs_by_node}, Placed.{is_of_node, is_on_line, log_of}}
use Rattle.sci_history.proofs.Order.{all-filter}
use Rattle.sci_history.proofs.Oracles.{filter_push_no, filter_push_yes, log_of-logs_of}
use Rattle.sci_judge.specs.declared.{access.Access.{Access}, judging.SiteVersions.{SiteVersions}, trace.Trace.{Trace}}
use Rattle.sci_judge.specs.declared.logging.{Log.{Log}, NoLog.{NoLog}}
use Rattle.sci_judge.specs.declared.logging.NoLog.TheVariants as none
use Rattle.sci_judge.specs.{Judgement.{addresses_of}, Logged.{AreEntriesOf, AreLogged, IsEntryOf, IsFullOf, IsLogOf}}
use Rattle.sci_judge.specs.Logged.{IsNext, IsNoLog, versions_on}
use Rattle.sci_judge.proofs.Stamps.{by_node_push, in_log}

entries_push : (addresses : List ℕ) (done : List Entry) (xs : List Access) (es : List Entry) (a : Access) (e : Entry)
    → AreEntriesOf addresses done xs es → IsEntryOf addresses (done ++ es) a e → AreEntriesOf addresses done (xs ++ a ∷ []) (es ++ e ∷ [])
entries_push addresses done [] [] a e h is = (subst (λ (d : List Entry). IsEntryOf addresses d a e) (append-nil done) is, tt)
entries_push addresses done [] (x ∷ es) a e h is = elim h [ ]
entries_push addresses done (x ∷ xs) [] a e h is = elim h [ ]
entries_push addresses done (x ∷ xs) (y ∷ es) a e h is = (
  h.0,
  entries_push addresses (done ++ y ∷ []) xs es a e h.1
      (subst (λ (d : List Entry). IsEntryOf addresses d a e) (sym (append_assoc done (y ∷ []) es)) is),
)

pub logged_none : (sites : List SiteVersions) (used : List ℕ) (logs : List (List Entry)) → logs ≡ logs_by_node [] → length used ≡ length sites
    → ((line : ℕ) → get_or used line 0 ≡ 0) → AreLogged sites [] used logs
logged_none sites used logs is long zeros = grind arith

versions_push_yes : (line : ℕ) (es : List Entry) (e : Entry) → e.op.line ≡ line → versions_on line (es ++ e ∷ []) ≡ versions_on line es ++ e.version ∷ []
versions_push_yes line es e is = grind (arith, filter_push_yes, eq-eqb, map-append)

versions_push_no : (line : ℕ) (es : List Entry) (e : Entry) → (e.op.line ≢ line) → versions_on line (es ++ e ∷ []) ≡ versions_on line es
versions_push_no line es e differs =
    ap (map (λ (x : Entry). x.version)) (filter_push_no (is_on_line line) es e (ne_eqb e.op.line line differs))

take_next : (xs : List ℕ) (k x : ℕ) → slice_get xs k ≡ Some x → take k xs ++ x ∷ [] ≡ take (k + 1) xs
take_next xs k x at =
    sym (take_more xs k 0 (slice_get_within xs k x at) ∙ ap (λ (y : ℕ). take k xs ++ y ∷ []) (get_or_from_slice_get xs k x 0 at))

pub line_inside : (sites : List SiteVersions) (a : Access) (done : List Access) (used : List ℕ) (logs : List (List Entry)) (e : Entry)
    → AreLogged sites done used logs → IsNext sites logs used a e → e.op.line < length used
line_inside sites a done used logs e before next = grind (arith, slice_get_within, length-map)

module _ (sites : List SiteVersions) (xs : List Access) (i : ℕ) (d : Access) (used used' : List ℕ) (logs logs' : List (List Entry)) (e : Entry)
    (lt : i < length xs) (before : AreLogged sites (take i xs) used logs) (next : IsNext sites logs used (get_or xs i d) e) (small : e.node < MAX_NODES)
    (pushed : logs' ≡ set logs e.node (log_of logs e.node ++ e ∷ []))
    (counted : used' ≡ set used e.op.line (get_or used e.op.line 0 + 1)) where
  line_within : e.op.line < length used
  line_within = line_inside sites (get_or xs i d) (take i xs) used logs e before next

  used_here : get_or used' e.op.line 0 ≡ get_or used e.op.line 0 + 1
  used_here =
      ap (λ (us : List ℕ). get_or us e.op.line 0) counted ∙ get_or-set_same used e.op.line (get_or used e.op.line 0 + 1) 0 line_within

  used_there : (line : ℕ) → (line ≢ e.op.line) → get_or used' line 0 ≡ get_or used line 0
  used_there line differs =
      ap (λ (us : List ℕ). get_or us line 0) counted ∙ get_or-set_other used e.op.line line (get_or used e.op.line 0 + 1) 0 differs

  node_small : (get_or xs i d).processor < MAX_NODES
  node_small = subst (λ (k : ℕ). k < MAX_NODES) next.node small

  is_entry : IsEntryOf (addresses_of sites) before.entries (get_or xs i d) e
  is_entry =
      let p = (get_or xs i d).processor in
      record {
        node = next.node;
        serial = next.serial
            ∙ (ap (λ (ls : List (List Entry)). length (log_of ls p)) before.logged
            ∙ (ap length (log_of-logs_of before.entries p node_small) ∙ length-filter (is_of_node p) before.entries));
        act = next.act;
        line = next.line;
        word = next.word;
        reply = next.reply;
      }

  pub logged_push : AreLogged sites (take (i + 1) xs) used' logs'
  logged_push =
      let a = get_or xs i d in
      let longer = take_more xs i d lt in
      let was : length (take i xs) ≡ i = length-take-le i xs (omega arith) in
      let will : length (take (i + 1) xs) ≡ i + 1 = length-take-le (i + 1) xs (omega arith) in
      record {
        entries = before.entries ++ e ∷ [];
        same = subst (λ (ys : List Access). AreEntriesOf (addresses_of sites) [] ys (before.entries ++ e ∷ [])) (sym longer)
            (entries_push (addresses_of sites) [] (take i xs) before.entries a e before.same is_entry);
        logged = pushed
            ∙ (ap (λ (ls : List (List Entry)). set ls e.node (log_of ls e.node ++ e ∷ [])) before.logged ∙ by_node_push before.entries e small);
        long = ap length counted ∙ (length-set used e.op.line (get_or used e.op.line 0 + 1) ∙ before.long);
        few = λ line. elim (cases_eq line e.op.line) [
          | inl same ↦
              let here : get_or used' line 0 ≡ get_or used e.op.line 0 + 1 = ap (λ (k : ℕ). get_or used' k 0) same ∙ used_here in
              let old = before.few e.op.line in
              omega arith
          | inr other ↦ let there = used_there line other in let old = before.few line in omega arith
        ];
        versions = λ line s inside. elim (cases_eq line e.op.line) [
          | inl same ↦
              versions_push_yes line before.entries e (sym same)
              ∙ (ap (λ (vs : List ℕ). vs ++ e.version ∷ []) (before.versions line s inside)
              ∙ (ap (λ (k : ℕ). take (get_or used k 0) (get_or sites k s).versions.items ++ e.version ∷ []) same
              ∙ (take_next (get_or sites e.op.line s).versions.items (get_or used e.op.line 0) e.version (next.version s)
              ∙ (ap (λ (k : ℕ). take k (get_or sites e.op.line s).versions.items) (sym used_here)
              ∙ ap (λ (k : ℕ). take (get_or used' k 0) (get_or sites k s).versions.items) (sym same)))))
          | inr other ↦
              versions_push_no line before.entries e (λ is. other (sym is))
              ∙ (before.versions line s inside
              ∙ ap (λ (k : ℕ). take k (get_or sites line s).versions.items) (sym (used_there line other)))
        ];
      }

-- ---- addresses that rise

pub rises : (sites : List SiteVersions) (place : ℕ) → length sites ≤ place
    → ((k : ℕ) (d : SiteVersions) → k + 1 < place → k + 1 < length sites → (get_or sites k d).address < (get_or sites (k + 1) d).address)
    → IsStrictlyIncreasing (addresses_of sites)
rises sites place past each k lt =
    let address = λ (s : SiteVersions). s.address in
    let long : length (addresses_of sites) ≡ length sites = length-map sites address in
    elim (slice_get_cases sites k).1 [
      | inl some ↦
          let first = get_or-map address sites k some.0 0 (omega arith) in
          let second = get_or-map address sites (k + 1) some.0 0 (omega arith) in
          let less = each k some.0 (omega arith) (omega arith) in
          omega arith
      | inr none_ ↦ let over = none_.0 in absurd (omega arith)
    ]

-- ---- all entries

entries_within : (addresses : List ℕ) (lines : ℕ) → length addresses ≤ lines → (done : List Entry) (xs : List Access) (es : List Entry)
    → AreEntriesOf addresses done xs es → AllByRecursion (IsWithin lines) es
entries_within addresses lines le done [] [] h = tt
entries_within addresses lines le done [] (e ∷ es) h = elim h [ ]
entries_within addresses lines le done (a ∷ xs) [] h = elim h [ ]
entries_within addresses lines le done (a ∷ xs) (e ∷ es) h =
    let within = slice_get_within addresses e.op.line a.address h.0.line in
    let word = h.0.word in
    ((omega arith, omega arith), entries_within addresses lines le (done ++ e ∷ []) xs es h.1)

pub logged_within : (sites : List SiteVersions) (accesses : List Access) (used : List ℕ) (logs : List (List Entry)) (lines : ℕ)
    → AreLogged sites accesses used logs → length sites ≤ lines → AreWithin lines logs
logged_within sites accesses used logs lines is le = λ node.
    let long : length (addresses_of sites) ≡ length sites = length-map sites (λ (s : SiteVersions). s.address) in
    All-from_recursion (IsWithin lines) (log_of logs node)
    (in_log (IsWithin lines) is.entries logs node is.logged
    (all-filter (IsWithin lines) (is_of_node node) is.entries
    (entries_within (addresses_of sites) lines (omega arith) [] accesses is.entries is.same)))

-- ---- a log that is full

abbrev is_by : ℕ → Access → Bool
is_by processor access = eqb access.processor processor

count_same : (addresses : List ℕ) (done : List Entry) (xs : List Access) (es : List Entry) (p : ℕ) → AreEntriesOf addresses done xs es
    → count_by (is_of_node p) es ≡ count_by (is_by p) xs
count_same addresses done [] [] p h = refl
count_same addresses done [] (e ∷ es) p h = elim h [ ]
count_same addresses done (a ∷ xs) [] p h = elim h [ ]
count_same addresses done (a ∷ xs) (e ∷ es) p h =
    let rest = count_same addresses (done ++ e ∷ []) xs es p h.1 in
    sum_by-cons (λ x. cond (is_of_node p x) 1 0) e es
    ∙ (ap (λ (k : ℕ). cond (eqb k p) 1 0 + count_by (is_of_node p) es) h.0.node
    ∙ (ap (λ (k : ℕ). cond (is_by p a) 1 0 + k) rest ∙ sym (sum_by-cons (λ x. cond (is_by p x) 1 0) a xs)))

count_take : (p : Access → Bool) (xs : List Access) (i : ℕ) → count_by p (take i xs) ≤ count_by p xs
count_take p [] zero = omega arith
count_take p [] (suc i) = omega arith
count_take p (x ∷ xs) zero = omega arith
count_take p (x ∷ xs) (suc i) =
    let more = count_take p xs i in
    let whole = sum_by-cons (λ y. cond (p y) 1 0) x xs in
    let front = sum_by-cons (λ y. cond (p y) 1 0) x (take i xs) in
    omega arith

pub full : (trace : Trace) (sites : List SiteVersions) (i : ℕ) (d : Access) (used : List ℕ) (logs : List (List Entry)) (node : ℕ) (why : NoLog)
    → i < length trace.accesses.items → AreLogged sites (take i trace.accesses.items) used logs → node ≡ (get_or trace.accesses.items i d).processor
    → node < MAX_NODES → IsFullOf logs node why → IsNoLog trace sites why
full trace sites i d used logs node none.Operations lt is same small many =
    let xs = trace.accesses.items in
    let long : length (log_of logs node) ≡ count_by (is_of_node node) is.entries =
    ap (λ (ls : List (List Entry)). length (log_of ls node)) is.logged
    ∙ (ap length (log_of-logs_of is.entries node small) ∙ length-filter (is_of_node node) is.entries) in
    let counts = count_same (addresses_of sites) [] (take i xs) is.entries node is.same in
    let one = count_by_more_yes (is_by node) xs i d lt (eq-eqb (get_or xs i d).processor node (sym same)) in
    let whole = count_take (is_by node) xs (i + 1) in
    (node, omega arith)
full trace sites i d used logs node (none.Memory error) lt is same small many = tt
full trace sites i d used logs node none.Addresses lt is same small many = elim many [ ]
full trace sites i d used logs node none.NotFound lt is same small many = elim many [ ]

-- ---- a log of a trace

pub log_within : (trace : Trace) (sites : List SiteVersions) (log : Log) → IsLogOf trace sites log → AreWithin (length log.last.value) log.logs
log_within trace sites log is = λ node.
    let long : length (addresses_of sites) ≡ length sites = length-map sites (λ (s : SiteVersions). s.address) in
    let lines = is.lines in
    let most = le-max_right 1 (length sites) in
    All-from_recursion (IsWithin (length log.last.value)) (log_of log.logs node)
    (in_log (IsWithin (length log.last.value)) is.entries log.logs node is.logged
    (all-filter (IsWithin (length log.last.value)) (is_of_node node) is.entries
    (entries_within (addresses_of sites) (length log.last.value) (omega arith) [] trace.accesses.items is.entries is.same)))
