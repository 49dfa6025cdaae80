use Rattle.be_picture.proofs.TextBack.{text_back}
use Rattle.be_picture.proofs.laws.a_picture_is_read_back.Goals as goal

pub returns : goal.returns
returns c = text_back
