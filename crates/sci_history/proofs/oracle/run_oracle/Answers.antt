-- Each issue is the oracle's next, and no log is full before its last.
use Rattle.std.proofs.Common.{◌≡◌, ◌<◌, length, get_or, take, refl, ap, ◌∙◌, subst, arith}
use Rattle.std.proofs.lemmas.List.{length-take, take_more, take_all, Elements.{recursion_from_All}}
use Rattle.sci_words.specs.declared.{operation.Act.TheVariants.{Load}, limits.TheConstants.{MAX_OPERATIONS}}
use Rattle.std.specs.Prelude.{List}
use Rattle.sci_history.specs.{declared.entry.Entry.{Entry}, Placed.{log_of}, Oracle.{Issue, IsInRange}}
use Rattle.sci_history.proofs.OracleSteps.{Ran, ran_none, ran_long, ran_version, ran_step, range-take, fewer_logged}
use Rattle.sci_history.proofs.{Oracles.{oracle-lawful}, oracle.run_oracle.Goals.{After-of}}
use Rattle.sci_history.proofs.oracle.run_oracle.Goals as goal

abbrev no_issue : Issue
no_issue = (0, record { line = 0; word = 0; act = Load })

pub loop-node-init : goal.loop-node-init
loop-node-init c = ran_none c.args.lines c.new-logs.result c.new-memory.result c.new-logs.ensures c.new-memory.ensures

pub do_op-reply-requires-clause-line : goal.do_op-reply-requires-clause-line
do_op-reply-requires-clause-line c =
    let here = c.requires.in_range c.loop-node.node-index no_issue c.loop-node-test.true in
    let long = ran_long _ _ _ _ c.loop-node.invariant in
    let line = here.line in
    omega arith

pub do_op-reply-requires-clause-room : goal.do_op-reply-requires-clause-room
do_op-reply-requires-clause-room c = λ maker.
    let script = c.args.script.now in
    let i = c.loop-node.node-index in
    let here = c.requires.in_range i no_issue c.loop-node-test.true in
    let few = ran_version _ _ _ _ _ here.line c.loop-node.invariant in
    let front = length-take i script in
    omega arith

-- the node has fewer entries than it may have
fewer : (c : After-of) → length (log_of c.loop-node.logs (get_or c.args.script.now c.loop-node.node-index no_issue).0) < MAX_OPERATIONS
fewer c =
    let here = c.requires.in_range c.loop-node.node-index no_issue c.loop-node-test.true in
    fewer_logged _ MAX_OPERATIONS c.args.script.now c.loop-node.node-index no_issue _ _ c.loop-node-test.true here.node c.loop-node.invariant
    (c.requires.room _)

pub overflow_cast-serial : goal.overflow_cast-serial
overflow_cast-serial c = let is = ap length c.of.ensures.log in omega (arith, fewer (goal.at.overflow_cast-serial c).After-of)

pub unreachable-requires : goal.unreachable-requires
unreachable-requires c = grind (arith, fewer)

pub loop-node-preserved : goal.loop-node-preserved
loop-node-preserved c =
    let script = c.args.script.now in
    let i = c.loop-node.node-index in
    let issue = get_or script i no_issue in
    let logs = c.loop-node.logs in
    let memory = c.loop-node.memory in
    let here = c.requires.in_range i no_issue c.loop-node-test.true in
    let entry : Entry = record {
      node = issue.0;
      serial = length c.of.result.now;
      op = issue.1;
      reply = c.do_op-reply.result.0;
      version = c.do_op-reply.result.1;
    } in
    let step = ran_step c.args.lines (take i script) issue logs memory entry c.loop-node.invariant (range-take c.args.lines script i c.requires.in_range) here
    refl refl (ap length c.of.ensures.log) c.do_op-reply.ensures.run.0 c.do_op-reply.ensures.version in
    rw (take_more script i no_issue c.loop-node-test.true, c.in-Ok.ensures.ok, c.do_op-reply.ensures.after) step

pub returns-clause-lawful : goal.returns-clause-lawful
returns-clause-lawful c =
    let script = c.args.script.now in
    let whole : take c.loop-node.node-index script ≡ script = take_all c.loop-node.node-index script (omega arith) in
    let ran : Ran c.args.lines script c.loop-node.logs c.loop-node.memory =
    subst (λ (s : List Issue). Ran c.args.lines s c.loop-node.logs c.loop-node.memory) whole c.loop-node.invariant in
    let law = oracle-lawful c.args.lines script (recursion_from_All (IsInRange c.args.lines) script c.requires.in_range) in
    let last = c.last.ensures ∙ ran.left in
    λ line. rw (ran.logged, last) (law line)
