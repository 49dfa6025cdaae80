use Rattle.be_descent.specs.Cutting.{extent_of}
use Rattle.be_paint.proofs.copying.+copy_area.Given as goal

abbrev pub decreases-copy_area : goal.decreases-copy_area
decreases-copy_area l = extent_of l.area
