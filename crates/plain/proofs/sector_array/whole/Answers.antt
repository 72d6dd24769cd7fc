use Rattle.std.proofs.Common.{arith}
use Rattle.plain.proofs.sector_array.whole.Goals as goal

pub returns : goal.returns
returns c = let fits = c.fits.ensures in record { count = omega arith; bytes = fits.bytes; back = fits.back; forward = fits.forward }
