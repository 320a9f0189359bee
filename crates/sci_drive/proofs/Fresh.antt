-- Where drivers begin: nodes that have submitted nothing, of the machine that a script is run on.
use Rattle.std.proofs.Common.{◌≡◌, ℕ, None, refl, ap, ◌∙◌}
use Rattle.sci_words.specs.declared.{extent.Extent.{Extent}, limits.TheConstants.{MAX_OPERATIONS}}
use Rattle.sci_text.specs.Script.{ScriptValue}
use Rattle.sci_core.specs.{Node.{opening_node}, Size.{Size, size_of}}
use Rattle.sci_core.proofs.Shape.ShapeRuns.{replicated}
use Rattle.sci_drive.specs.{Driving.{HasSubmittedNothing}, ScriptLogs.{size_for}}

pub opened_fresh : (n : ℕ) (size : Size) → HasSubmittedNothing (opening_node n size)
opened_fresh n size = record { issued = refl; pending = λ line. replicated None size.lines line; log = refl }

-- the machine of the size that a script has is the one that it is run on
pub sized_for : (extent : Extent) (script : ScriptValue) → extent.nodes ≡ script.nodes → extent.lines ≡ script.lines → extent.slots ≡ script.slots
    → size_of extent MAX_OPERATIONS ≡ size_for script
sized_for extent script nodes lines slots =
    ap (λ n. size n extent.lines extent.slots) nodes ∙ (ap (λ l. size script.nodes l extent.slots) lines ∙ ap (size script.nodes script.lines) slots)
  where
    size : ℕ → ℕ → ℕ → Size
    size n l s = record { nodes = n; lines = l; slots = s; limit = MAX_OPERATIONS }
