-- `Mapping::fits` meets its contract: the two tests are the definition's.
use Rattle.std.proofs.Common.{rules}
use Rattle.mapping.specs.Fits.Laws.{fits_is}
use Rattle.mapping.proofs.Mapping.fits.Goals as goal

pub returns-then-self-image_len : goal.returns-then-self-image_len
returns-then-self-image_len c = rw fits_is (search rules)

pub returns-else-self-image_len : goal.returns-else-self-image_len
returns-else-self-image_len c = rw fits_is (search rules)
