use Rattle.be_region.proofs.LawLemmas.{same_bands}
use Rattle.be_region.proofs.law.same_pixels_same_bands.Goals as goal

pub returns : goal.returns
returns c = same_bands
