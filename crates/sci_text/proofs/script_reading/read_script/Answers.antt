use Rattle.std.proofs.Common.{◌≡◌, ◌∙◌}
use Rattle.sci_text.specs.{Script.{script_text}, Tap.{has_failed, tapped}, ScriptFault.{IsScriptFault}}
use Rattle.sci_text.proofs.{Listings.{value_read}, Scripts.{scripts}, FirstFaults.{told_of_bytes}}
use Rattle.sci_text.proofs.script_reading.read_script.Goals as goal

pub returns-clause-only : goal.returns-clause-only
returns-clause-only g c = λ script good few known.
    let text : c.in_ok-input.input.items ≡ script_text script = rw known at c.in_ok-input.ensures.read.same in
    value_read scripts script c.deref.result.now c.script_of.result good (c.deref.ensures.value ∙ text) c.script_of.ensures.ok c.script_of.ensures.good
    c.script_of.ensures.fault

pub returns-clause-fault : goal.returns-clause-fault
returns-clause-fault g c =
    told_of_bytes IsScriptFault (g.R.Read.remaining (tapped c.args.reader.now)) (has_failed c.read_input.new.reader) c.deref.result.now c.script_of.result
    c.in_ok-input.ensures.unfailed (rw c.deref.ensures.value c.in_ok-input.ensures.read) c.script_of.ensures.fault
