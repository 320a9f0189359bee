use Rattle.sci_axe.specs.Telling.{joint_text}
use Rattle.sci_axe.proofs.Appends.{both}
use Rattle.sci_axe.proofs.telling.push_joint.Goals as goal

pub returns : goal.returns
unfolding joint_text
returns c = both c.push_text.result c.args.out.now.items _ _ c.push_at.new.out.items c.push_text.new.out.items c.in_ok-push_at.ensures c.push_text.ensures.text
