use Rattle.rules.proofs.serving_steps.Goals as goal
use Rattle.rules.proofs.Serving.{serving_steps}

pub returns : goal.returns
returns c = serving_steps
