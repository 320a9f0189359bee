-- In every reached state each line has its shape, and each operation takes effect on the line's last contents.
use Rattle.std.proofs.Common.{◌≡◌, ℕ, zero, suc, ◌+◌, ◌/◌, ◌<◌, true, map, replicate, get_or, Option, Some, None, refl, sym, ap, subst, ◌∙◌, arith, inl}
use Rattle.std.proofs.{Common.{inr}, lemmas.{Bool.{cases_eq}, List.{get_or-set_same, get_or-set_other}}}
use Rattle.std.specs.{Prelude.{IfSome, unwrap_or}, List.{range_with_len}}
use Rattle.sci_words.specs.declared.{event.{Event.{Event}, AskKind.{AskKind}}, operation.Op.{Op}}
use Rattle.sci_words.specs.{declared.stamped.Stamped.{Stamped}, Stamped.{after, zero_stamped}}
use Rattle.sci_history.specs.declared.entry.Entry.{Entry}
use Rattle.sci_packets.specs.declared.body.Body.{Body, TheVariants.{Busy}}
use Rattle.sci_home.specs.Serving.{opening_home}
use Rattle.sci_cache.specs.{State.{Out}, Performing.{performing}, Line.{LineState, untouched, line_in}}
use Rattle.sci_cache.specs.Cache.{Letter, line_of}
use Rattle.sci_core.specs.declared.lane.LaneKind.TheVariants.{Requests, Answers as AnswerLane}
use Rattle.sci_core.specs.Node.{NodeOf, opening_node, lines_of, home_of, answering, with_answer, node_issuing, node_performing, node_asking, node_serving}
use Rattle.sci_core.specs.Node.{node_refusing, node_replying, node_accepting, no_node}
use Rattle.sci_core.specs.Core.{Core, node_at, with_node, with_lane, lane_place, stepping, step, opening}
use Rattle.sci_core.specs.{Done.{performed, TakesEffect, ChangesBy, made_by}, Sharing.{is_about}, Tidy.{IsTidy}}
use Rattle.sci_core.specs.{WellFormed.{IsPart, IsWellFormed}, Size.{Size}}
use Rattle.sci_core.specs.Network.{Happens, Move, Overtakes, made_in, moved, overtaken}
use Rattle.sci_core.proofs.{Basics.Options.{of_some}, Step.Nodes.{some_below}}
use Rattle.sci_core.proofs.Step.Steps.{Sent, Taken, Stepped, By_issue, By_perform, By_ask, By_serve, By_refuse, By_reply, By_accept, stepping_stepped}
use Rattle.sci_core.proofs.Step.NodeSides.{Unmoved, PerformedAs, AsksAlike, ServedAs, At_home, In_cache, RefusedAs, AcceptsAlike, issue_unmoved}
use Rattle.sci_core.proofs.Step.NodeSides.{perform_as, ask_alike, serve_as, refuse_as, reply_as, accept_alike}
use Rattle.sci_core.proofs.WellFormed.Parts.{SendsWell, RepliesWell, part_serving, part_refusing}
use Rattle.sci_core.proofs.Tidy.WaitingNodes.{Stays, AsksOnce, Answers, Replies, Accepts, issue_stays, ask_once, serve_answers, refuse_answers}
use Rattle.sci_core.proofs.Tidy.{WaitingNodes.{reply_replies, accept_accepts}, TidySteps.{about_asker, answer_asker}}
use Rattle.sci_core.proofs.Tidy.TidyRuns.{node_below, waiting_answers, opening_none}
use Rattle.sci_core.proofs.Shape.Standings.{Performs, performing_does, alike_itself}
use Rattle.sci_core.proofs.Shape.ShapeSteps.{view_of, ShapedAt, SameLine, same_shaped, changed_same, Operates, performed_same, performed_did, asked_same}
use Rattle.sci_core.proofs.Shape.ShapeSteps.{replied_same, accepted_same, overtaken_line}
use Rattle.sci_core.proofs.Shape.ShapeServes.{Answered, refused_same, home_kept, cache_kept}

-- a line has its shape still, and its last contents are as the entry tells
abbrev pub Follows : Core → Option Entry → ℕ → Stamped → Type 0
Follows new made line c = (d : Stamped) × ShapedAt new line d × ChangesBy made line c d

unchanged : (new : Core) (made : Option Entry) (line : ℕ) (c : Stamped) → made ≡ None → ShapedAt new line c → Follows new made line c
unchanged new made line c none shaped = subst (λ (m : Option Entry). Follows new m line c) (sym none) (c, shaped, refl)

same_follows : (core new : Core) (made : Option Entry) (line : ℕ) (c : Stamped) → made ≡ None → SameLine core new line → ShapedAt core line c
    → Follows new made line c
same_follows core new made line c none same shaped = unchanged new made line c none (same_shaped core new line c same shaped)

-- ---- requests that are taken

-- the request that was taken, with an answer that waits
pub answered : (core new : Core) (taking : NodeOf → Letter → Option NodeOf) (t : Taken core new Requests taking) (next : NodeOf) (body : Body)
    → IsWellFormed core → (node_at core t.node).waiting ≡ None → next.waiting ≡ Some (answering t.letter body)
    → IsPart core.size t.node next → Answered core t.node t.place next t.letter t.rest body
answered core new taking t next body well free waits is = grind (arith, node_below, waiting_answers)

served_shaped : (core new : Core) (t : Taken core new Requests node_serving) (line : ℕ) (c : Stamped) → IsWellFormed core → IsTidy core → ShapedAt core line c
    → IsPart core.size t.node t.next → ServedAs (node_at core t.node) t.letter t.next
    → ShapedAt (with_lane (with_node core t.node t.next) t.place t.rest) line c
served_shaped core new t line c well tidy shaped is (At_home served asks serves e) =
    let part = node_at core t.node in
    let answers = of_some (Answers core.size.nodes t.letter part) (node_serving part t.letter) t.next t.takes (serve_answers core.size.nodes part t.letter) in
    let next = subst (IsPart core.size t.node) (sym e) is in
    let home = t.comes.0.home asks ∙ t.comes.1 in
    subst (λ (x : NodeOf). ShapedAt (with_lane (with_node core t.node x) t.place t.rest) line c) e
    (home_kept core t.node t.place t.letter t.rest served (well.each_part t.node t.some) home
    (answered core new node_serving t _ served.1 well answers.free refl next) serves tidy line c shaped)
served_shaped core new t line c well tidy shaped is (In_cache served serves e) =
    let part = node_at core t.node in
    let answers = of_some (Answers core.size.nodes t.letter part) (node_serving part t.letter) t.next t.takes (serve_answers core.size.nodes part t.letter) in
    let next = subst (IsPart core.size t.node) (sym e) is in
    subst (λ (x : NodeOf). ShapedAt (with_lane (with_node core t.node x) t.place t.rest) line c) e
    (cache_kept core t.node t.place t.letter t.rest served (well.each_part t.node t.some)
    (answered core new node_serving t _ served.1 well answers.free refl next) serves tidy line c shaped)

-- ---- an operation is performed

-- what an operation did on its own line
performed_here : (core : Core) (n line : ℕ) (done : NodeOf × Entry) (does : PerformedAs (node_at core n) line done) (c : Stamped) → n < core.size.nodes
    → IsWellFormed core → IsTidy core → does.pending.op.line < core.size.lines → ShapedAt core does.pending.op.line c
    → Operates core n done.0 does.did does.pending.op.line
    → (d : Stamped) × ShapedAt (with_node core n done.0) does.pending.op.line d × TakesEffect done.1 c d
performed_here core n line done does c lt well tidy known shaped operates =
    let part = node_at core n in
    let op = does.pending.op in
    let performs : Performs (line_of part.cache op.line).state op does.did =
    of_some (Performs (line_of part.cache op.line).state op) (performing (line_of part.cache op.line).state op) does.did does.performs
    (performing_does (line_of part.cache op.line).state op) in
    let did = performed_did core n op.line op done.0 does.did operates performs lt known tidy c shaped in
    let effect = subst (λ (entry : Entry). TakesEffect entry c (after c op)) does.entry
    (record { reply = did.reply; version = did.version; contents = refl }) in
    (after c op, did.shaped, effect)

performed_follows : (core : Core) (n line : ℕ) (done : NodeOf × Entry) (does : PerformedAs (node_at core n) line done) (k : ℕ) (c : Stamped)
    → n < core.size.nodes → IsWellFormed core → IsTidy core → does.pending.op.line < core.size.lines → ShapedAt core k c
    → Operates core n done.0 does.did does.pending.op.line
    → Follows (with_node core n done.0) (Some done.1) k c
performed_follows core n line done does k c lt well tidy known shaped operates =
    let new = with_node core n done.0 in
    let on : done.1.op.line ≡ does.pending.op.line = ap (λ (entry : Entry). entry.op.line) (sym does.entry) in
    elim (cases_eq k does.pending.op.line) [
      | inl here ↦
          let did = performed_here core n line done does c lt well tidy known (subst (λ (j : ℕ). ShapedAt core j c) here shaped) operates in
          (did.0, subst (λ (j : ℕ). ShapedAt new j did.0) (sym here) did.1, record { here = λ e. did.2; elsewhere = λ not. absurd (not (on ∙ sym here)) })
      | inr other ↦ (
        c,
        same_shaped core new k c (performed_same core n does.pending.op.line done.0 does.did operates k other) shaped,
        record { here = λ e. absurd (other (sym e ∙ on)); elsewhere = λ not. refl },
      )
    ]

-- the pending operation is on a line of the machine
pub pending_known : (core : Core) (n line : ℕ) (done : NodeOf × Entry) (does : PerformedAs (node_at core n) line done) → n < core.size.nodes → IsWellFormed core
    → does.pending.op.line < core.size.lines
pending_known core n line done does lt well = grind (arith, some_below, of_some)

pub operates_so : (core : Core) (n line : ℕ) (done : NodeOf × Entry) (does : PerformedAs (node_at core n) line done) → n < core.size.nodes → IsWellFormed core
    → Operates core n done.0 does.did does.pending.op.line
operates_so core n line done does lt well =
    let part = node_at core n in
    let at = does.pending.op.line in
    let known = pending_known core n line done does lt well in
    let within : at < lines_of part = subst (λ (k : ℕ). at < k) (sym (well.each_part n lt).each) known in
    let now = line_in (line_of part.cache at) does.did.next in
    subst (λ (next : NodeOf). Operates core n next does.did at) does.next (record {
      below = node_below core n well lt;
      waiting = refl;
      homes = record { homes = refl; nodes = refl };
      state = ap (λ (l : LineState). l.state) (get_or-set_same part.cache.lines at now untouched within);
      others = λ k other. get_or-set_other part.cache.lines at k now untouched other;
    })

-- ---- each way of stepping

-- what a step does to a line: a node performs an operation, a request is served, or every node stands as it stood
pub data LineStep (core new : Core) (made : Option Entry) (line : ℕ) : Type 0 where
  Stood : made ≡ None → SameLine core new line → LineStep core new made line
  Performed : (n at : ℕ) (done : NodeOf × Entry) → n < core.size.nodes → PerformedAs (node_at core n) at done → with_node core n done.0 ≡ new
      → made ≡ Some done.1 → LineStep core new made line
  Served : (t : Taken core new Requests node_serving) → made ≡ None → IsPart core.size t.node t.next → ServedAs (node_at core t.node) t.letter t.next
      → LineStep core new made line

-- an operation is issued
pub issue_stands : (core : Core) (n : ℕ) (op : Op) (next : NodeOf) → IsWellFormed core → n < core.size.nodes → node_issuing (node_at core n) op ≡ Some next
    → (line : ℕ) → SameLine core (with_node core n next) line
issue_stands core n op next well lt is line =
    let part = node_at core n in
    let stays = of_some (Stays core.size.nodes part) (node_issuing part op) next is (issue_stays core.size.nodes part op) in
    changed_same core n next (node_below core n well lt) (of_some (Unmoved part) (node_issuing part op) next is (issue_unmoved part op)) stays.waiting line

-- a request is sent
pub ask_stands : (core new : Core) (n at : ℕ) (kind : AskKind) (sent : NodeOf × Letter) → IsWellFormed core → IsTidy core
    → node_asking (node_at core n) at kind ≡ Some sent → SendsWell core.size n sent → Sent core new Requests n sent → (line : ℕ) → SameLine core new line
ask_stands core new n at kind sent well tidy is sends_well s line =
    let node = node_at core n in
    let part = well.each_part n s.some in
    let once = of_some (AsksOnce core.size.nodes at node) (node_asking node at kind) sent is (ask_once core.size.nodes node at kind part.all (part.asks at)) in
    let alike = of_some (AsksAlike node) (node_asking node at kind) sent is (ask_alike node at kind) in
    let known : at < core.size.lines = subst (λ (k : ℕ). at < k) part.each once.below in
    let same = asked_same core n at (lane_place core.size.nodes Requests n sent.1.target) sent.0 sent.1 s.some (node_below core n well s.some) s.within
    sends_well.request.asks sends_well.from known once alike tidy line in
    subst (λ (x : Core). SameLine core x line) s.then_ same

-- a request is refused
pub refuse_stands : (core new : Core) (t : Taken core new Requests node_refusing) → IsWellFormed core → IsTidy core → (line : ℕ) → SameLine core new line
refuse_stands core new t well tidy line =
    let part = node_at core t.node in
    let is = of_some (IsPart core.size t.node) (node_refusing part t.letter) t.next t.takes
    (part_refusing core.size t.node part t.letter t.comes.0 t.comes.1 (well.each_part t.node t.some)) in
    let answers = of_some (Answers core.size.nodes t.letter part) (node_refusing part t.letter) t.next t.takes (refuse_answers core.size.nodes part t.letter) in
    let does = of_some (RefusedAs part t.letter) (node_refusing part t.letter) t.next t.takes (refuse_as part t.letter) in
    let next = subst (IsPart core.size t.node) (sym does.then_) is in
    let same = refused_same core t.node t.place t.letter t.rest does.other
    (answered core new node_refusing t (with_answer part t.letter Busy) Busy well answers.free refl next) tidy line in
    let then_ = subst (λ (x : NodeOf). SameLine core (with_lane (with_node core t.node x) t.place t.rest) line) does.then_ same in
    subst (λ (x : Core). SameLine core x line) t.then_ then_

-- an answer is sent
pub reply_stands : (core new : Core) (n : ℕ) (sent : NodeOf × Letter) → IsWellFormed core → IsTidy core → node_replying (node_at core n) ≡ Some sent
    → RepliesWell core.size n sent → Sent core new AnswerLane n sent → (line : ℕ) → line < core.size.lines → SameLine core new line
reply_stands core new n sent well tidy is sends_well s line inside =
    let part = node_at core n in
    let replies = of_some (Replies core.size.nodes part) (node_replying part) sent is (reply_replies core.size.nodes part) in
    let e = of_some (λ (x : NodeOf × Letter). (record part { waiting = None }) ≡ x.0) (node_replying part) sent is (reply_as part) in
    let unmoved = subst (Unmoved part) e (record { alike = λ k. alike_itself (line_of part.cache k).state; same = record { homes = refl; nodes = refl } }) in
    let letter = sent.1 in
    let target : letter.target < core.size.nodes = sends_well.answer.letter_ok.target in
    let asker : (m k : ℕ) → is_about m k letter ≡ true → m < core.size.nodes =
    λ m k about. subst (λ (j : ℕ). j < core.size.nodes) (sym (answer_asker letter sends_well.answer.answers) ∙ about_asker m k letter about) target in
    let same = replied_same core n (lane_place core.size.nodes AnswerLane n letter.target) sent.0 letter (node_below core n well s.some) s.within asker replies
    unmoved tidy line inside in
    subst (λ (x : Core). SameLine core x line) s.then_ same

-- an answer is accepted
pub accept_stands : (core new : Core) (t : Taken core new AnswerLane node_accepting) → IsWellFormed core → IsTidy core → (line : ℕ) → SameLine core new line
accept_stands core new t well tidy line =
    let part = node_at core t.node in
    let known = t.comes.0.letter_ok.about in
    let on_line : t.letter.line < lines_of part = subst (λ (k : ℕ). t.letter.line < k) (sym (well.each_part t.node t.some).each) known in
    let accepts = of_some (Accepts t.letter.line part) (node_accepting part t.letter) t.next t.takes (accept_accepts part t.letter) in
    let alike = of_some (AcceptsAlike t.letter part) (node_accepting part t.letter) t.next t.takes (accept_alike part t.letter) in
    let same = accepted_same core t.node t.place t.next t.letter t.rest t.some (node_below core t.node well t.some) t.within t.front t.comes.0.answers t.comes.1
    known on_line accepts alike tidy line in
    subst (λ (x : Core). SameLine core x line) t.then_ same

-- a request is served: the node is a part still, and how its home or its cache served
pub serve_does : (core new : Core) (t : Taken core new Requests node_serving) → IsWellFormed core
    → IsPart core.size t.node t.next × ServedAs (node_at core t.node) t.letter t.next
serve_does core new t well =
    let part = node_at core t.node in (
      of_some (IsPart core.size t.node) (node_serving part t.letter) t.next t.takes
          (part_serving core.size t.node part t.letter t.comes.0 t.comes.1 (well.each_part t.node t.some)),
      of_some (ServedAs part t.letter) (node_serving part t.letter) t.next t.takes (serve_as part t.letter),
    )

pub line_steps : (core new : Core) (e : Event) (made : Option Entry) → IsWellFormed core → IsTidy core → Stepped core e made new → (line : ℕ)
    → line < core.size.lines → LineStep core new made line
line_steps core new e made well tidy (By_issue n op next event lt is then_ none) line inside =
    Stood none (subst (λ (x : Core). SameLine core x line) then_ (issue_stands core n op next well lt is line))
line_steps core new e made well tidy (By_perform n at done lt is then_ some) line inside =
    let part = node_at core n in
    Performed n at done lt (of_some (PerformedAs part at) (node_performing part at) done is (perform_as part at)) then_ some
line_steps core new e made well tidy (By_ask n at kind sent is sends_well s none) line inside =
    Stood none (ask_stands core new n at kind sent well tidy is sends_well s line)
line_steps core new e made well tidy (By_serve t none) line inside =
    let does = serve_does core new t well in
    Served t none does.0 does.1
line_steps core new e made well tidy (By_refuse t none) line inside = Stood none (refuse_stands core new t well tidy line)
line_steps core new e made well tidy (By_reply n sent is sends_well s none) line inside =
    Stood none (reply_stands core new n sent well tidy is sends_well s line inside)
line_steps core new e made well tidy (By_accept t none) line inside = Stood none (accept_stands core new t well tidy line)

line_follows : (core new : Core) (made : Option Entry) (line : ℕ) → IsWellFormed core → IsTidy core → LineStep core new made line → (c : Stamped)
    → ShapedAt core line c → Follows new made line c
line_follows core new made line well tidy (Stood none same) c shaped = same_follows core new made line c none same shaped
line_follows core new made line well tidy (Performed n at done lt does then_ some) c shaped =
    let follows = performed_follows core n at done does line c lt well tidy (pending_known core n at done does lt well) shaped
    (operates_so core n at done does lt well) in
    subst (λ (x : Core). Follows x made line c) then_ (subst (λ (m : Option Entry). Follows (with_node core n done.0) m line c) (sym some) follows)
line_follows core new made line well tidy (Served t none is served) c shaped =
    unchanged new made line c none (subst (λ (x : Core). ShapedAt x line c) t.then_ (served_shaped core new t line c well tidy shaped is served))

pub stepped_follows : (core new : Core) (e : Event) (made : Option Entry) → IsWellFormed core → IsTidy core → Stepped core e made new → (line : ℕ)
    → line < core.size.lines → (c : Stamped) → ShapedAt core line c → Follows new made line c
stepped_follows core new e made well tidy stepped line inside c shaped =
    line_follows core new made line well tidy (line_steps core new e made well tidy stepped line inside) c shaped

-- ---- steps

after_follows : (core : Core) (e : Event) (next : Option Core) (made : Option Entry) → IsWellFormed core → IsTidy core → IfSome next (Stepped core e made)
    → (line : ℕ) → line < core.size.lines → (c : Stamped) → ShapedAt core line c
    → Follows (unwrap_or next core) (elim next as (λ _. Option Entry) [ None ↦ None | Some new ↦ made ]) line c
after_follows core e None made well tidy stepped line inside c shaped = (c, shaped, refl)
after_follows core e (Some new) made well tidy stepped line inside c shaped = stepped_follows core new e made well tidy stepped line inside c shaped

pub step_follows : (core : Core) (e : Event) → IsWellFormed core → IsTidy core → (line : ℕ) → line < core.size.lines → (c : Stamped) → ShapedAt core line c
    → Follows (step core e) (made_by core e) line c
step_follows core e well tidy line inside c shaped =
    after_follows core e (stepping core e) (performed core e) well tidy (stepping_stepped core e well) line inside c shaped

-- over a network that keeps no order
pub move_follows : (core : Core) (move : Move) → IsWellFormed core → IsTidy core → (line : ℕ) → line < core.size.lines → (c : Stamped)
    → ShapedAt core line c → Follows (moved core move) (made_in core move) line c
move_follows core (Happens e) well tidy line inside c shaped = step_follows core e well tidy line inside c shaped
move_follows core (Overtakes place k) well tidy line inside c shaped =
    same_follows core (overtaken core place k) None line c refl (overtaken_line core place k line well tidy inside) shaped

-- ---- the opening

pub each_mapped : {X : Type 0} (P : X → Type 0) (f : ℕ → X) (d : X) (a count i : ℕ) → ((j : ℕ) → P (f j)) → P d
    → P (get_or (map f (range_with_len a count)) i d)
each_mapped P f d a zero i h k = k
each_mapped P f d a (suc count) zero h k = h a
each_mapped P f d a (suc count) (suc i) h k = each_mapped P f d (a + 1) count i h k

pub replicated : {X : Type 0} (x : X) (count i : ℕ) → get_or (replicate count x) i x ≡ x
replicated x zero i = refl
replicated x (suc count) zero = refl
replicated x (suc count) (suc i) = replicated x count i

opening_out : (size : Size) (n line : ℕ) → (line_of (node_at (opening size) n).cache line).state ≡ Out
opening_out size n line =
    each_mapped (λ (part : NodeOf). (line_of part.cache line).state ≡ Out) (λ (m : ℕ). opening_node m size) no_node 0 size.nodes n
    (λ m. ap (λ (s : LineState). s.state) (replicated untouched size.lines line)) refl

pub opening_at_home : (size : Size) (n line : ℕ) → home_of (node_at (opening size) n) line ≡ opening_home
opening_at_home size n line =
    each_mapped (λ (part : NodeOf). home_of part line ≡ opening_home) (λ (m : ℕ). opening_node m size) no_node 0 size.nodes n
    (λ m. replicated opening_home (size.lines / size.nodes + 1) (line / size.nodes)) (replicated opening_home (0 / 1 + 1) (line / 1))

pub opening_shaped : (size : Size) (line : ℕ) → ShapedAt (opening size) line zero_stamped
opening_shaped size line = grind (arith, opening_at_home, view_of, opening_out, opening_none)
