-- What each event does to a node's work: its pending operations, its count of issues and its log. Serials rise.
use Rattle.std.proofs.Common.{◌≡◌, ◌≢◌, ℕ, ◌+◌, ◌<◌, List, [], ◌∷◌, ◌++◌, filter, get_or, set, Option, Some, None, Result, Ok, Err, refl, sym, ap, subst}
use Rattle.std.proofs.{Common.{◌∙◌, arith, inl, inr}, lemmas.Bool.{cases_eq, eq-eqb, ne_eqb}}
use Rattle.std.proofs.lemmas.List.{get_or-set_same, get_or-set_other, Elements.{All-from_recursion}}
use Rattle.std.proofs.lemmas.List.Quantifiers.{all_pairs_push}
use Rattle.std.specs.{Prelude.{IfSome}, List.{AllByRecursion, AllPairs}}
use Rattle.sci_words.specs.declared.{event.AskKind.{AskKind}, operation.Op.{Op}}
use Rattle.sci_history.specs.{declared.entry.Entry.{Entry}, Placed.{is_on_line}}
use Rattle.sci_history.proofs.{Oracles.{filter_push_yes, filter_push_no}, Order.{all_weaker, all-append, all-filter}}
use Rattle.sci_cache.specs.{declared.fault.AskFault.{AskFault}, Cache.{CacheOf, Letter, cache_accepting}}
use Rattle.sci_core.specs.declared.pending.Pending.{Pending}
use Rattle.sci_core.specs.Node.{NodeOf, opening_node, pending_on, entry_of, node_logged, may_issue, node_issued, node_issuing, asked_by, node_asking}
use Rattle.sci_core.specs.{Node.{accepted_by, node_accepting, IsPendingOn, IsNode}, Size.{Size}}
use Rattle.sci_core.proofs.Step.{Nodes.{some_below}, NodeSides.{PerformedAs, ServedAs, At_home, In_cache}}
use Rattle.sci_core.proofs.Basics.{Lists.{if_either, at_place_set}, Options.{none_in, of_some}}

-- ---- events that leave the work as it was

pub record SameWork (old new : NodeOf) : Type 0 where
  pub pending : new.pending ≡ old.pending
  pub issued : new.issued ≡ old.issued
  pub log : new.log ≡ old.log

asked_work : (part : NodeOf) (made : Result (CacheOf × Letter) AskFault) → IfSome (asked_by part made) (λ (sent : NodeOf × Letter). SameWork part sent.0)
asked_work part (Err fault) = tt
asked_work part (Ok made) = record { pending = refl; issued = refl; log = refl }

pub ask_work : (part : NodeOf) (line : ℕ) (kind : AskKind) → IfSome (node_asking part line kind) (λ (sent : NodeOf × Letter). SameWork part sent.0)
ask_work part line kind = grind (arith, if_either, asked_work)

pub serve_work : (part : NodeOf) (request : Letter) (next : NodeOf) → ServedAs part request next → SameWork part next
serve_work part request next (At_home served asks serves e) = subst (SameWork part) e (record { pending = refl; issued = refl; log = refl })
serve_work part request next (In_cache served serves e) = subst (SameWork part) e (record { pending = refl; issued = refl; log = refl })

accepted_work : (part : NodeOf) (cache : Option CacheOf) → IfSome (accepted_by part cache) (SameWork part)
accepted_work part None = tt
accepted_work part (Some cache) = record { pending = refl; issued = refl; log = refl }

pub accept_work : (part : NodeOf) (answer : Letter) → IfSome (node_accepting part answer) (SameWork part)
accept_work part answer = accepted_work part (cache_accepting part.cache answer.line answer.control answer.body)

-- ---- serials

-- On each line the serials of the log rise, and the pending operation's is above them; all are below the count of
-- issues.
pub record HasSerials (part : NodeOf) : Type 0 where
  pub below : AllByRecursion (λ entry. entry.serial < part.issued) part.log
  pub rising : (line : ℕ) → AllPairs (λ x y. x.serial < y.serial) (filter (is_on_line line) part.log)
  pub pending : (line : ℕ) → IfSome (pending_on part line) (λ p. AllByRecursion (λ entry. entry.serial < p.serial) (filter (is_on_line line) part.log))

pub same_serials : (old new : NodeOf) → SameWork old new → HasSerials old → HasSerials new
same_serials old new same has = record {
  below = rw (same.log, same.issued) has.below;
  rising = λ line. rw same.log (has.rising line);
  pending = λ line. rw (same.log, same.pending) (has.pending line);
}

-- an operation that is issued gets a serial above all
issued_serials : (part : NodeOf) (op : Op) → HasSerials part → HasSerials (node_issued part op)
issued_serials part op has = record {
  below = all_weaker (λ (entry : Entry). entry.serial < part.issued) (λ entry. entry.serial < part.issued + 1) (λ entry lt. omega arith) part.log has.below;
  rising = has.rising;
  pending = at_place_set (λ (line : ℕ) (o : Option Pending).
      IfSome o (λ p. AllByRecursion (λ entry. entry.serial < p.serial) (filter (is_on_line line) part.log))) part.pending op.line
      (Some (record { serial = part.issued; op = op })) None has.pending
      (all-filter (λ (entry : Entry). entry.serial < part.issued) (is_on_line op.line) part.log has.below);
}

pub issue_serials : (part : NodeOf) (op : Op) → HasSerials part → IfSome (node_issuing part op) HasSerials
issue_serials part op has = if_either (λ (o : Option NodeOf). IfSome o HasSerials) (may_issue part op) (Some (node_issued part op)) None
    (issued_serials part op has) tt

pub issue_log : (part : NodeOf) (op : Op) → IfSome (node_issuing part op) (λ next. next.log ≡ part.log)
issue_log part op = if_either (λ (o : Option NodeOf). IfSome o (λ next. next.log ≡ part.log)) (may_issue part op) (Some (node_issued part op)) None refl tt

-- ---- an operation is logged

-- a log with one entry more, seen on one line
logged_line : (k : ℕ) (log : List Entry) (entry : Entry) (P : List Entry → Type 0) → (entry.op.line ≡ k → P (filter (is_on_line k) log ++ entry ∷ []))
    → (entry.op.line ≢ k → P (filter (is_on_line k) log)) → P (filter (is_on_line k) (log ++ entry ∷ []))
logged_line k log entry P here there = grind (arith, cases_eq, filter_push_yes, eq-eqb, filter_push_no, ne_eqb)

-- the operation that was pending on a line is logged
logged_serials : (part : NodeOf) (line : ℕ) (p : Pending) (cache : CacheOf) (entry : Entry) → entry.op.line ≡ line → entry.serial ≡ p.serial
    → pending_on part line ≡ Some p → p.serial < part.issued → HasSerials part → HasSerials (node_logged part line cache entry)
logged_serials part line p cache entry on serial here below has =
    let before : AllByRecursion (λ (e : Entry). e.serial < p.serial) (filter (is_on_line line) part.log) =
    subst (λ (o : Option Pending). IfSome o (λ (q : Pending). AllByRecursion (λ (e : Entry). e.serial < q.serial) (filter (is_on_line line) part.log))) here
    (has.pending line) in
    let less : AllByRecursion (λ (e : Entry). e.serial < entry.serial) (filter (is_on_line line) part.log) =
    subst (λ (k : ℕ). AllByRecursion (λ (e : Entry). e.serial < k) (filter (is_on_line line) part.log)) (sym serial) before in
    record {
      below = all-append (λ (e : Entry). e.serial < part.issued) part.log (entry ∷ []) has.below (omega arith, tt);
      rising = λ k. logged_line k part.log entry (AllPairs (λ (x y : Entry). x.serial < y.serial))
          (λ e. (
          let there = subst (λ (j : ℕ). AllByRecursion (λ (x : Entry). x.serial < entry.serial) (filter (is_on_line j) part.log)) (sym on ∙ e) less in
          all_pairs_push (λ (x y : Entry). x.serial < y.serial) (filter (is_on_line k) part.log) entry (has.rising k)
          (All-from_recursion (λ (x : Entry). x.serial < entry.serial) (filter (is_on_line k) part.log) there)))
          (λ ne. has.rising k);
      pending = λ k. elim (cases_eq k line) [
        | inl e ↦
            let none : get_or (set part.pending line None) k None ≡ None =
            ap (λ (j : ℕ). get_or (set part.pending line None) j None) e
            ∙ get_or-set_same part.pending line None None (some_below part.pending line p here) in
            subst (λ (o : Option Pending).
            IfSome o (λ (q : Pending). AllByRecursion (λ (x : Entry). x.serial < q.serial) (filter (is_on_line k) (part.log ++ entry ∷ [])))) (sym none) tt
        | inr ne ↦
            let same : get_or (set part.pending line None) k None ≡ pending_on part k = get_or-set_other part.pending line k None None ne in
            let log : filter (is_on_line k) (part.log ++ entry ∷ []) ≡ filter (is_on_line k) part.log =
            filter_push_no (is_on_line k) part.log entry (ne_eqb entry.op.line k (λ e. ne (sym e ∙ on))) in
            subst (λ (o : Option Pending).
            IfSome o (λ (q : Pending). AllByRecursion (λ (x : Entry). x.serial < q.serial) (filter (is_on_line k) (part.log ++ entry ∷ [])))) (sym same)
            (subst (λ (es : List Entry). IfSome (pending_on part k) (λ (q : Pending). AllByRecursion (λ (x : Entry). x.serial < q.serial) es)) (sym log)
            (has.pending k))
      ];
    }

pub perform_serials : (part : NodeOf) (line : ℕ) (done : NodeOf × Entry) → PerformedAs part line done → IsNode part → HasSerials part → HasSerials done.0
perform_serials part line done does fits has =
    let is = of_some (IsPendingOn part.issued line) (pending_on part line) does.pending does.here (fits.each line) in
    subst HasSerials does.next (logged_serials part line does.pending _ (entry_of part does.pending does.did.reply does.did.version) is.here refl does.here
    is.serial has)

-- what a performed operation adds to the log
pub perform_logs : (part : NodeOf) (line : ℕ) (done : NodeOf × Entry) → PerformedAs part line done → done.0.log ≡ part.log ++ done.1 ∷ []
perform_logs part line done does = sym (ap (λ (node : NodeOf). node.log) does.next) ∙ ap (λ (entry : Entry). part.log ++ entry ∷ []) does.entry

pub perform_owns : (part : NodeOf) (line : ℕ) (done : NodeOf × Entry) → PerformedAs part line done → done.1.node ≡ part.cache.me
perform_owns part line done does = sym (ap (λ (entry : Entry). entry.node) does.entry)

pub opening_serials : (me : ℕ) (size : Size) → HasSerials (opening_node me size)
opening_serials me size = grind (arith, none_in)
