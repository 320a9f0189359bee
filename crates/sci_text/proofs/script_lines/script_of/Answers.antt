use Rattle.sci_text.proofs.{Results.{ok_then}, Listings.{line_shrinks}, Scripts.{scripts}}
use Rattle.sci_text.proofs.script_lines.script_of.Goals as goal

pub loop-rest-smaller : goal.loop-rest-smaller
loop-rest-smaller c =
    let adds = ok_then _ c.push_line.result c.at_line-in-loop-rest.result _ c.in_ok-rest.rest c.at_line-in-loop-rest.ensures c.in_ok-rest.was
    c.push_line.ensures.ok in
    line_shrinks scripts adds.said c.loop-rest.rest.now c.in_ok-rest.rest.now adds.parts
