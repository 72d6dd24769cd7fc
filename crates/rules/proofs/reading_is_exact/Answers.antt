use Rattle.rules.proofs.reading_is_exact.Goals as goal
use Rattle.rules.proofs.OnlySound.{reading_is_exact}

pub returns : goal.returns
returns c = reading_is_exact
