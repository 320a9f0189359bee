use Rattle.sci_orders.proofs.Sound.{events_sound}
use Rattle.sci_orders.proofs.laws.each_state_is_followed.Goals as goal

pub returns-clause-allowed : goal.returns-clause-allowed
returns-clause-allowed c = λ core events reached. (events_sound core events reached).allowed

pub returns-clause-follows : goal.returns-clause-follows
returns-clause-follows c = λ core events reached. (events_sound core events reached).plain

pub returns-clause-done : goal.returns-clause-done
returns-clause-done c = λ core events reached. (events_sound core events reached).done
