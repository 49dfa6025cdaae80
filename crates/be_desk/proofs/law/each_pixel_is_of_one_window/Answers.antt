use Rattle.be_desk.proofs.StandLemmas.{each_pixel_once}
use Rattle.be_desk.proofs.law.each_pixel_is_of_one_window.Goals as goal

pub returns : goal.returns
returns c = each_pixel_once
