use Rattle.std.proofs.Common.{◌≡◌, Option, None, Some, sym, ◌∙◌}
use Rattle.sci_judge.specs.declared.consistency.Consistency.{Consistency, TheVariants.{Sequential, Cycle, NotSequential, Unknown}}
use Rattle.sci_text.specs.Tap.{has_failed, tapped}
use Rattle.sci_command.specs.declared.outcome.Outcome.{TheVariants.{Refused}}
use Rattle.sci_command.proofs.Answers.{answer_made}
use Rattle.sci_judge.specs.declared.judging.Judgement.{Judgement, TheVariants.{Coherent, NotCoherent, Undecided}}
use Rattle.sci_axe.specs.{JudgeAnswer.{IsJudgeRefusal, IsJudged}, Telling.{outcome_of}}
use Rattle.sci_axe.proofs.Logs.{log_answered, verdict_told}
use Rattle.sci_axe.proofs.judging.judge_trace.Goals as goal

not_refused : (judgement : Judgement) (consistency : Option Consistency) → outcome_of judgement consistency ≡ Refused → ⊥
not_refused (Coherent sites) None is = cc
not_refused (Coherent sites) (Some Sequential) is = cc
not_refused (Coherent sites) (Some (Cycle links)) is = cc
not_refused (Coherent sites) (Some NotSequential) is = cc
not_refused (Coherent sites) (Some Unknown) is = cc
not_refused (NotCoherent address accesses witness) consistency is = cc
not_refused (Undecided address) consistency is = cc

pub returns-in-Some : goal.returns-in-Some
returns-in-Some g c =
    let known = g.R.Read.remaining (tapped c.args.reader.now) in
    let unread = has_failed c.read_input.new.reader in
    let logged = c.logged in (
      log_answered c.args.request logged.new.lines.items known unread c.in_ok-bytes.bytes.items c.in_ok-trace.trace c.in_ok-judgement.judgement
          c.in-Some.sites.now logged.result c.in_ok-bytes.ensures.unfailed c.in_ok-bytes.ensures.read
          (rw (sym c.deref.ensures.value) c.in_ok-trace.ensures.ok) c.in_ok-judgement.ensures c.in-Some.ensures logged.ensures.text
          logged.ensures.done (rw c.clear.ensures.items at logged.ensures.lines) logged.ensures.none,
      c.read_input.ensures.again,
    )

pub returns : goal.returns
returns g c =
    let known = g.R.Read.remaining (tapped c.args.reader.now) in
    let unread = has_failed c.read_input.new.reader in
    let told = c.in_ok-told-in-None in
    let answer = told.field-0 in
    let lines = c.clear.new.self.items in
    let trace = c.in_ok-trace.trace in
    let consistency = c.in_ok-consistency-in-None.consistency in
    let judgement = c.in_ok-judgement.judgement in (
      answer_made (IsJudged c.args.request lines) (IsJudgeRefusal c.args.request) known unread answer.text.items answer.outcome
          (λ is. not_refused judgement consistency (sym told.ensures.ends ∙ is)) (
            c.in_ok-bytes.ensures.unfailed,
            (
              c.in_ok-bytes.bytes.items,
              c.in_ok-bytes.ensures.read,
              record {
                trace = trace;
                read = rw (sym c.deref.ensures.value) c.in_ok-trace.ensures.ok;
                judgement = judgement;
                holds = c.in_ok-judgement.ensures;
                told = verdict_told c.args.request trace judgement lines answer.text.items answer.outcome c.in-None.ensures (record {
                  consistency = consistency;
                  ordering = c.in_ok-consistency-in-None.ensures;
                  written = rw (sym c.deref-in-None.ensures.value) told.ensures.text;
                  ends = told.ensures.ends;
                  no_lines = c.clear.ensures.items;
                });
              },
            ),
          ),
      c.read_input.ensures.again,
    )
