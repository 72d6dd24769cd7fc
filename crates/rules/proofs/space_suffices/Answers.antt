use Rattle.rules.proofs.space_suffices.Goals as goal
use Rattle.rules.proofs.Counting.{enough_unused}
use Rattle.rules.proofs.Enough.{adds_few}

pub returns : goal.returns
returns c = record { few = adds_few; enough = enough_unused }
