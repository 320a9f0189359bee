use Rattle.std.proofs.{Common.{◌++◌, ◌∙◌, ap, sym}, lemmas.List.{append-nil}}
use Rattle.std.specs.List.{flat_map}
use Rattle.sci_command.proofs.Joined.{joined}
use Rattle.sci_reports.specs.NoteText.{around_text, around_title, shown_line}
use Rattle.sci_reports.proofs.note.push_around.Goals as goal

pub returns : goal.returns
unfolding around_text around_title
returns c =
    rw (sym c.is_empty.ensures ∙ c.if-is_empty.false)
    (joined c.args.out.now.items around_title (flat_map (shown_line c.args.marked) c.around.result.now) c.push_text.new.out.items c.push_all_shown.new.out.items
    c.in_ok-push_text.ensures.text c.in_ok-push_all_shown.ensures
    ∙ ap (λ shown. c.args.out.now.items ++ (around_title ++ flat_map (shown_line c.args.marked) shown)) c.around.ensures)

pub returns-then-is_empty : goal.returns-then-is_empty
unfolding around_text
returns-then-is_empty c = rw (sym c.is_empty.ensures ∙ c.if-is_empty.true) (sym (append-nil c.args.out.now.items))
