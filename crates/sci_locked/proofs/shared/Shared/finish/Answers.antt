use Rattle.sci_locked.proofs.shared.Shared.finish.Goals as goal

pub returns : goal.returns
returns c = c.reached_states_are_coherent.ensures c.into_inner.result.machine c.extent-extent.ensures.reached
