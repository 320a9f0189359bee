use Rattle.sci_pages.proofs.Paged.{line_stays}
use Rattle.sci_pages.proofs.schedule_data.push_part.Goals as goal

pub push_list_behind-requires : goal.push_list_behind-requires
push_list_behind-requires c =
    line_stays c.args.machine.now c.push_json.new.machine c.args.event.now c.listed_line-line.result c.requires c.in_ok-push_json.ensures.step
    c.listed_line-line.ensures.inside
