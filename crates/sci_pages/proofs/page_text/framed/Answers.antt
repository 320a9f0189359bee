use Rattle.std.specs.Prelude.{option_map}
use Rattle.sci_command.proofs.Joined.{joined5}
use Rattle.sci_pages.specs.declared.frame.TheConstants.{PAGE_HEAD}
use Rattle.sci_pages.specs.{PageKind.{end_of, parts_of}, PageText.{escaped, page_text, title_of}}
use Rattle.sci_pages.proofs.page_text.framed.Goals as goal

pub returns : goal.returns
unfolding page_text
returns c =
    let kind = c.args.kind in
    let named = title_of kind (option_map (λ it. it.now) c.args.title) in
    let title = rw (c.as_bytes.ensures.value, c.title_or_name-title.ensures) at c.in_ok-push_escaped.ensures in
    let parts = rw c.parts.ensures at c.in_ok-push_text-2.ensures.text in
    let end = rw c.end.ensures at c.in_ok-push_text-3.ensures.text in
    let whole = joined5 c.new-out.result.items PAGE_HEAD.now (escaped named) (parts_of kind) (escaped c.args.body.now) (end_of kind)
    c.push_text.new.out.items c.push_escaped.new.out.items c.push_text-2.new.out.items c.push_escaped-2.new.out.items c.push_text-3.new.out.items
    c.in_ok-push_text.ensures.text title parts c.in_ok-push_escaped-2.ensures end in
    rw c.new-out.ensures.items at whole
