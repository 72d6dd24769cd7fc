use Rattle.chains.specs.Fresh.{empty_directory_sector}
use Rattle.chains.proofs.Fresh.{empty_bytes}
use Rattle.chains.proofs.directory.empty_directory_sector.Goals as goal

pub returns : goal.returns
unfolding empty_directory_sector
returns c = λ i. record { bytes = empty_bytes 96 c.args.i i; back = c.directory_back.ensures i; forward = c.directory_forward.ensures i }
