use Rattle.std.proofs.Common.{rules, ◌≡◌, ◌≤◌, ℕ, Option, Some, None, arith, refl}
use Rattle.std.specs.Prelude.{unwrap_or}
use Rattle.sci_words.specs.declared.limits.TheConstants.{MAX_TURNS}
use Rattle.sci_text.specs.{Script.{IsScript, ScriptValue, script_text}, Tap.{has_failed}}
use Rattle.sci_runs.specs.Turns.{circle_turns}
use Rattle.sci_outcomes.proofs.Ran.{run_answer}
use Rattle.sci_outcomes.proofs.run_report.run.Goals as goal

-- turns without a limit are enough for a circle
enough : (asked : Option ℕ) (script : ScriptValue) (turns : ℕ) → IsScript script → asked ≡ None → turns ≡ unwrap_or asked MAX_TURNS
    → circle_turns script.nodes ≤ turns
enough None script turns good none is = let few = good.size.few_nodes in omega (arith, few, is)
enough (Some asked) script turns good none is = cc

pub returns : goal.returns
returns g c = (
  run_answer c.args.request _ (has_failed c.read_script.new.reader) c.in_ok-text.text.items c.outcome_of.result c.in-Ok.run'.done
      c.outcome_of.ensures.yes c.outcome_of.ensures.no (
        search rules,
        (
          script_text c.in_ok-script.script,
          search rules,
          record {
            script = c.in_ok-script.script;
            good = search rules;
            read = refl;
            schedule = c.in-Ok.run'.schedule;
            run = search rules;
            turns = c.in-Ok.run'.turns;
            played = search rules;
            few = search rules;
            all = search rules;
            circle = λ none unlimited. c.in-Ok.ensures.circle none
                (enough c.args.request.turns c.in_ok-script.script c.unwrap_or.result (search rules) unlimited
                (search rules));
            written = search rules;
          },
        ),
      ),
  search rules,
)
