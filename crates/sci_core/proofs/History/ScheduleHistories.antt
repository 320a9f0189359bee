-- The entries of a schedule on a line are the line's history, and the nodes' logs are theirs.
use Rattle.std.proofs.Common.{◌≡◌, ℕ, ◌<◌, List, [], ◌∷◌, ◌++◌, length, filter, map, append_assoc, Option, Some, None, refl, sym, ap, subst, ◌∙◌, arith}
use Rattle.std.proofs.lemmas.{Option.{IfSome_then}, Bool.{cases_eq, eq-eqb, ne_eqb}}
use Rattle.std.proofs.lemmas.List.{append-nil, get_or-set_same, get_or-set_other, Elements.{filter-append}}
use Rattle.std.specs.{Prelude.{IsTrue, IfSome, unwrap_or, option_to_list}, List.{AllByRecursion}}
use Rattle.sci_words.specs.{declared.{event.Event.{Event}, stamped.Stamped.{Stamped}}, Operation.{has_words}}
use Rattle.sci_history.specs.{declared.entry.Entry.{Entry}, Audit.{IsWithin}, History.{IsHistory}}
use Rattle.sci_history.specs.Placed.{is_of_node, is_on_line}
use Rattle.sci_history.proofs.Order.{filter_yes, filter_no}
use Rattle.sci_cache.specs.Cache.{Letter}
use Rattle.sci_core.specs.Node.{NodeOf, node_issuing, node_performing, node_asking, node_serving, node_refusing, node_replying, node_accepting, pending_on}
use Rattle.sci_core.specs.{Node.{IsPendingOn, no_node}, Core.{Core, node_at, with_node, stepping, step}}
use Rattle.sci_core.specs.{Done.{performed, ChangesBy, made_by, done_from}, Tidy.{IsTidy}, WellFormed.{IsWellFormed}}
use Rattle.sci_core.specs.{Network.{Happens, Move, Overtakes, entries_by, made_in, moved, moved_from}, Size.{Size}}
use Rattle.sci_core.proofs.{Basics.{Lists.{at_place_set}, Options.{of_some}}, WellFormed.WellFormedSteps.{move_well}}
use Rattle.sci_core.proofs.Tidy.TidyRuns.{node_below, move_tidy}
use Rattle.sci_core.proofs.Step.Steps.{Stepped, By_issue, By_perform, By_ask, By_serve, By_refuse, By_reply, By_accept, stepping_stepped}
use Rattle.sci_core.proofs.Step.NodeSides.{PerformedAs, ServedAs, RefusedAs, perform_as, serve_as, refuse_as, reply_as}
use Rattle.sci_core.proofs.History.Works.{SameWork, HasSerials, same_serials, issue_serials, issue_log, perform_serials, perform_logs, perform_owns}
use Rattle.sci_core.proofs.{History.Works.{ask_work, serve_work, accept_work}, Shape.ShapeSteps.{ShapedAt}}
use Rattle.sci_core.proofs.Shape.ShapeRuns.{move_follows, pending_known}

-- ---- a line's history

-- an entry on the line comes first in its history, and any other isn't in it
history_made : (made : Option Entry) (line : ℕ) (c d e : Stamped) (rest : List Entry) → ChangesBy made line c d → IsHistory (filter (is_on_line line) rest) d e
    → IsHistory (filter (is_on_line line) (option_to_list made ++ rest)) c e
history_made None line c d e rest changes history = subst (λ (s : Stamped). IsHistory (filter (is_on_line line) rest) s e) changes history
history_made (Some entry) line c d e rest changes history = grind (arith, cases_eq, filter_yes, eq-eqb, filter_no, ne_eqb)

-- over a network that keeps no order
pub moves_follow : (core : Core) (moves : List Move) → IsWellFormed core → IsTidy core → (line : ℕ) → line < core.size.lines → (c : Stamped)
    → ShapedAt core line c
    → (d : Stamped) × ShapedAt (moved_from core moves) line d × IsHistory (filter (is_on_line line) (entries_by core moves)) c d
moves_follow core [] well tidy line inside c shaped = (c, shaped, refl)
moves_follow core (move ∷ moves) well tidy line inside c shaped =
    let one = move_follows core move well tidy line inside c shaped in
    let next = move_well core move well in
    let rest = moves_follow (moved core move) moves next.well (move_tidy core move well tidy) line
    (subst (λ (size : Size). line < size.lines) (sym next.same) inside) one.0 one.1 in
    (rest.0, rest.1, history_made (made_in core move) line c one.0 rest.0 (entries_by (moved core move) moves) one.2 rest.2)

-- events alone are moves
pub entries_happen : (core : Core) (events : List Event) → entries_by core (map Happens events) ≡ done_from core events
entries_happen core [] = refl
entries_happen core (e ∷ events) = ap (λ (es : List Entry). option_to_list (made_by core e) ++ es) (entries_happen (step core e) events)

-- ---- logs

-- an entry is on a word of the machine, and its operands are words
abbrev pub IsKnown : ℕ → Entry → Type 0
IsKnown lines entry = IsWithin lines entry × IsTrue (has_words entry.op.act)

-- what a step adds to the logs, whose serials rise
pub record Logged (core : Core) (made : Option Entry) (new : Core) : Type 0 where
  pub serials : ((n : ℕ) → HasSerials (node_at core n)) → (n : ℕ) → HasSerials (node_at new n)
  pub logs : (n : ℕ) → (node_at new n).log ≡ (node_at core n).log ++ filter (is_of_node n) (option_to_list made)
  pub within : IfSome made (λ entry. (entry.node < core.size.nodes) × IsKnown core.size.lines entry)

node_serials : (core : Core) (n : ℕ) (next : NodeOf) → (((j : ℕ) → HasSerials (node_at core j)) → HasSerials next) → ((j : ℕ) → HasSerials (node_at core j))
    → (j : ℕ) → HasSerials (node_at (with_node core n next) j)
node_serials core n next h all = at_place_set (λ (j : ℕ) (part : NodeOf). HasSerials part) core.parts n next no_node all (h all)

none_logged : (core : Core) (n : ℕ) (next : NodeOf) (made : Option Entry) → made ≡ None → next.log ≡ (node_at core n).log
    → (((j : ℕ) → HasSerials (node_at core j)) → HasSerials next) → Logged core made (with_node core n next)
none_logged core n next made none log serials =
    subst (λ (m : Option Entry). Logged core m (with_node core n next)) (sym none) (record {
      serials = node_serials core n next serials;
      logs = λ j. at_place_set (λ (i : ℕ) (part : NodeOf). part.log ≡ (node_at core i).log) core.parts n next no_node (λ i. refl) log j
          ∙ sym (append-nil (node_at core j).log);
      within = tt;
    })

same_logged : (core : Core) (n : ℕ) (next : NodeOf) (made : Option Entry) → made ≡ None → SameWork (node_at core n) next
    → Logged core made (with_node core n next)
same_logged core n next made none same = none_logged core n next made none same.log (λ all. same_serials (node_at core n) next same (all n))

some_logged : (core : Core) (n : ℕ) (next : NodeOf) (entry : Entry) → n < length core.parts → n < core.size.nodes → entry.node ≡ n
    → IsKnown core.size.lines entry → next.log ≡ (node_at core n).log ++ entry ∷ [] → (((j : ℕ) → HasSerials (node_at core j)) → HasSerials next)
    → Logged core (Some entry) (with_node core n next)
some_logged core n next entry below lt own known log serials =
    grind (arith, node_serials, cases_eq, get_or-set_same, filter_yes, eq-eqb, get_or-set_other, filter_no, ne_eqb, append-nil)

stepped_logged : (core new : Core) (e : Event) (made : Option Entry) → IsWellFormed core → Stepped core e made new → Logged core made new
stepped_logged core new e made well (By_issue n op next event lt is then_ none) =
    let part = node_at core n in
    let log = of_some (λ (x : NodeOf). x.log ≡ part.log) (node_issuing part op) next is (issue_log part op) in
    subst (Logged core made) then_
    (none_logged core n next made none log (λ all. of_some HasSerials (node_issuing part op) next is (issue_serials part op (all n))))
stepped_logged core new e made well (By_perform n line done lt is then_ some) =
    let part = node_at core n in
    let does = of_some (PerformedAs part line) (node_performing part line) done is (perform_as part line) in
    let own = perform_owns part line done does ∙ (well.each_part n lt).me in
    let pends = of_some (IsPendingOn part.issued line) (pending_on part line) does.pending does.here ((well.each_part n lt).fits.each line) in
    let known = subst (IsKnown core.size.lines) does.entry ((pending_known core n line done does lt well, pends.word), pends.words) in
    let logged = some_logged core n done.0 done.1 (node_below core n well lt) lt own known (perform_logs part line done does)
    (λ all. perform_serials part line done does (well.each_part n lt).fits (all n)) in
    subst (Logged core made) then_ (subst (λ (m : Option Entry). Logged core m (with_node core n done.0)) (sym some) logged)
stepped_logged core new e made well (By_ask n line kind sent is sends_well s none) =
    let part = node_at core n in
    let same = of_some (λ (x : NodeOf × Letter). SameWork part x.0) (node_asking part line kind) sent is (ask_work part line kind) in
    let logged = same_logged core n sent.0 made none same in
    subst (Logged core made) s.then_ (record { serials = logged.serials; logs = logged.logs; within = logged.within })
stepped_logged core new e made well (By_serve t none) =
    let part = node_at core t.node in
    let same = serve_work part t.letter t.next (of_some (ServedAs part t.letter) (node_serving part t.letter) t.next t.takes (serve_as part t.letter)) in
    let logged = same_logged core t.node t.next made none same in
    subst (Logged core made) t.then_ (record { serials = logged.serials; logs = logged.logs; within = logged.within })
stepped_logged core new e made well (By_refuse t none) =
    let part = node_at core t.node in
    let does = of_some (RefusedAs part t.letter) (node_refusing part t.letter) t.next t.takes (refuse_as part t.letter) in
    let logged = same_logged core t.node t.next made none (subst (SameWork part) does.then_ (record { pending = refl; issued = refl; log = refl })) in
    subst (Logged core made) t.then_ (record { serials = logged.serials; logs = logged.logs; within = logged.within })
stepped_logged core new e made well (By_reply n sent is sends_well s none) =
    let part = node_at core n in
    let e = of_some (λ (x : NodeOf × Letter). (record part { waiting = None }) ≡ x.0) (node_replying part) sent is (reply_as part) in
    let logged = same_logged core n sent.0 made none (subst (SameWork part) e (record { pending = refl; issued = refl; log = refl })) in
    subst (Logged core made) s.then_ (record { serials = logged.serials; logs = logged.logs; within = logged.within })
stepped_logged core new e made well (By_accept t none) =
    let part = node_at core t.node in
    let same = of_some (SameWork part) (node_accepting part t.letter) t.next t.takes (accept_work part t.letter) in
    let logged = same_logged core t.node t.next made none same in
    subst (Logged core made) t.then_ (record { serials = logged.serials; logs = logged.logs; within = logged.within })

nothing_logged : (core : Core) → Logged core None core
nothing_logged core = record { serials = λ all. all; logs = λ n. sym (append-nil (node_at core n).log); within = tt }

after_logged : (core : Core) (e : Event) (next : Option Core) (made : Option Entry) → IsWellFormed core → IfSome next (Stepped core e made)
    → Logged core (elim next as (λ _. Option Entry) [ None ↦ None | Some new ↦ made ]) (unwrap_or next core)
after_logged core e None made well stepped = nothing_logged core
after_logged core e (Some new) made well stepped = stepped_logged core new e made well stepped

step_logged : (core : Core) (e : Event) → IsWellFormed core → Logged core (made_by core e) (step core e)
step_logged core e well = after_logged core e (stepping core e) (performed core e) well (stepping_stepped core e well)

-- ---- the logs of a run

pub record RunLogged (core : Core) (done : List Entry) (new : Core) : Type 0 where
  pub serials : (n : ℕ) → HasSerials (node_at new n)
  pub logs : (n : ℕ) → (node_at new n).log ≡ (node_at core n).log ++ filter (is_of_node n) done
  pub nodes : AllByRecursion (λ entry. entry.node < core.size.nodes) done
  pub known : AllByRecursion (IsKnown core.size.lines) done

one_within : (made : Option Entry) (P : Entry → Type 0) (rest : List Entry) → IfSome made P → AllByRecursion P rest
    → AllByRecursion P (option_to_list made ++ rest)
one_within None P rest h all = all
one_within (Some entry) P rest h all = (h, all)

move_logged : (core : Core) (move : Move) → IsWellFormed core → Logged core (made_in core move) (moved core move)
move_logged core (Happens e) well = step_logged core e well
move_logged core (Overtakes place k) well = record { serials = λ all. all; logs = λ n. sym (append-nil (node_at core n).log); within = tt }

pub moves_logged : (core : Core) (moves : List Move) → IsWellFormed core → ((n : ℕ) → HasSerials (node_at core n))
    → RunLogged core (entries_by core moves) (moved_from core moves)
moves_logged core [] well serials = record { serials = serials; logs = λ n. sym (append-nil (node_at core n).log); nodes = tt; known = tt }
moves_logged core (move ∷ moves) well serials =
    let next = move_well core move well in
    let one = move_logged core move well in
    let rest = moves_logged (moved core move) moves next.well (one.serials serials) in
    let made = made_in core move in
    let more = entries_by (moved core move) moves in
    record {
      serials = rest.serials;
      logs = λ n. rest.logs n ∙ (ap (λ (log : List Entry). log ++ filter (is_of_node n) more) (one.logs n)
          ∙ (append_assoc (node_at core n).log (filter (is_of_node n) (option_to_list made)) (filter (is_of_node n) more)
          ∙ ap (λ (es : List Entry). (node_at core n).log ++ es) (sym (filter-append (is_of_node n) (option_to_list made) more))));
      nodes = one_within made (λ entry. entry.node < core.size.nodes) more (IfSome_then made one.within (λ entry h. h.0))
          (subst (λ (size : Size). AllByRecursion (λ (entry : Entry). entry.node < size.nodes) more) next.same rest.nodes);
      known = one_within made (IsKnown core.size.lines) more (IfSome_then made one.within (λ entry h. h.1))
          (subst (λ (size : Size). AllByRecursion (IsKnown size.lines) more) next.same rest.known);
    }
