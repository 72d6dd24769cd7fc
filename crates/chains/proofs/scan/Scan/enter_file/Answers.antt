use Rattle.std.proofs.Common.{arith, rules}
use Rattle.chains.proofs.FileParts.{file_is}
use Rattle.chains.proofs.scan.Scan.enter_file.Goals as goal

pub returns-clause-enters : goal.returns-clause-enters
returns-clause-enters g c = (search rules, grind (arith, file_is))
