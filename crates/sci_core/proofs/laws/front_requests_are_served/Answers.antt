use Rattle.sci_core.proofs.Tidy.Enabled.{any_request_enabled}
use Rattle.sci_core.proofs.laws.front_requests_are_served.Goals as goal

pub returns : goal.returns
returns c = any_request_enabled
