use Rattle.std.proofs.Common.{◌≡◌, ◌<◌, ℕ, List, arith, rules, replicate, take, get_or, length, sym, subst, ◌∙◌}
use Rattle.std.proofs.lemmas.{Bool.{cases_lt}, Grind.{common_steps, get_or_default_zero}}
use Rattle.std.proofs.lemmas.Result.{err_from_is_err_and}
use Rattle.std.proofs.lemmas.List.{get_or-replicate, get_or_past, length-replicate, length-take-le}
use Rattle.sci_words.specs.declared.limits.TheConstants.{MAX_NODES}
use Rattle.sci_history.specs.declared.entry.Entry.{Entry}
use Rattle.sci_judge.specs.declared.{access.Access.{Access}, judging.SiteVersions.{SiteVersions}}
use Rattle.sci_judge.specs.{Access.{AreKnown}, Logged.{IsNext}}
use Rattle.sci_judge.proofs.{Once.{no_access}, TraceLogs.{full, line_inside, logged_none, logged_push}}
use Rattle.sci_judge.proofs.logging.log_with.Goals as goal

same_everywhere : (n line x : ℕ) → get_or (replicate n x) line x ≡ x
same_everywhere n line x = grind (arith, cases_lt, get_or-replicate, get_or_past, replicate, length-replicate)

pub loop-access-init : goal.loop-access-init
loop-access-init c = grind (arith, logged_none, same_everywhere, common_steps)

-- the next entry, by the operations of the trace
next_is : (sites : List SiteVersions) (logs : List (List Entry)) (used used' : List ℕ) (xs ys : List Access) (i : ℕ) (e : Entry) → used ≡ used' → xs ≡ ys
    → IsNext sites logs used (get_or xs i no_access) e → IsNext sites logs used' (get_or ys i no_access) e
next_is sites logs used used' xs ys i e same_used same next = grind (arith, no_access)

-- its processor is known
node_is : (xs : List Access) (i node : ℕ) → AreKnown xs → i < length xs → node ≡ (get_or xs i no_access).processor → node < MAX_NODES
node_is xs i node known lt is = subst (λ (k : ℕ). k < MAX_NODES) (sym is) (known i no_access lt)

pub returns-in_err-push-clause-none : goal.returns-in_err-push-clause-none
returns-in_err-push-clause-none c =
    let xs = c.args.trace.now.accesses.items in
    let i = c.loop-access.access-index in
    let lt : i < length xs = subst (λ (ys : List Access). i < length ys) c.deref-access-items.ensures.value c.loop-access-test.true in
    let next = next_is c.args.sites.now c.loop-access.logs c.deref.result.now c.loop-access.used.items c.deref-access-items.result.now xs i c.in-Some.entry
    c.deref.ensures.value c.deref-access-items.ensures.value c.in-Some.ensures in
    let small = node_is xs i c.in-Some.entry.node c.requires.known lt next.node in
    let no = full c.args.trace.now c.args.sites.now i no_access c.loop-access.used.items c.loop-access.logs c.in-Some.entry.node c.in_err-push.field-0.0
    lt c.loop-access.invariant.logged next.node small c.in_err-push.ensures.full in
    let e = err_from_is_err_and c.from_residual-in_err-push.result c.from_residual-in_err-push.ensures.1 in
    rw (e.1, e.2) no

pub index_mut-requires : goal.index_mut-requires
index_mut-requires c =
    let xs = c.args.trace.now.accesses.items in
    let i = c.loop-access.access-index in
    let next = next_is c.args.sites.now c.loop-access.logs c.deref.result.now c.loop-access.used.items c.deref-access-items.result.now xs i c.in-Some.entry
    c.deref.ensures.value c.deref-access-items.ensures.value c.in-Some.ensures in
    let within : c.in-Some.entry.op.line < length c.loop-access.used.items = line_inside c.args.sites.now (get_or xs i no_access) (take i xs)
    c.loop-access.used.items c.loop-access.logs c.in-Some.entry c.loop-access.invariant.logged next in
    search (rules, within)

pub overflow_add-index_mut : goal.overflow_add-index_mut
overflow_add-index_mut c =
    let xs = c.args.trace.now.accesses.items in
    let i = c.loop-access.access-index in
    let lt : i < length xs = subst (λ (ys : List Access). i < length ys) c.deref-access-items.ensures.value c.loop-access-test.true in
    let few = c.loop-access.invariant.logged.few c.in-Some.entry.op.line in
    let long : length (take i xs) ≡ i = length-take-le i xs (omega arith) in
    let next = next_is c.args.sites.now c.loop-access.logs c.deref.result.now c.loop-access.used.items c.deref-access-items.result.now xs i c.in-Some.entry
    c.deref.ensures.value c.deref-access-items.ensures.value c.in-Some.ensures in
    let within : c.in-Some.entry.op.line < length c.loop-access.used.items = line_inside c.args.sites.now (get_or xs i no_access) (take i xs)
    c.loop-access.used.items c.loop-access.logs c.in-Some.entry c.loop-access.invariant.logged next in
    let value : c.index_mut.result.now ≡ get_or c.loop-access.used.items c.in-Some.entry.op.line 0 =
    c.index_mut.ensures.value ∙ get_or_default_zero c.loop-access.used.items c.in-Some.entry.op.line c.index_mut.result.now within in
    let small = c.args.trace.now.accesses.small in
    let ok = c.args.trace.now.accesses.ok in
    omega arith

pub loop-access-preserved : goal.loop-access-preserved
loop-access-preserved c = grind (arith, next_is, node_is, line_inside, no_access, get_or_default_zero, logged_push)
