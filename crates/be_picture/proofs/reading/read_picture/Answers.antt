use Rattle.be_picture.proofs.Pens.{lines_have_pens}
use Rattle.be_picture.proofs.reading.read_picture.Goals as goal

pub returns-clause-pens : goal.returns-clause-pens
returns-clause-pens c =
    lines_have_pens c.args.names.now c.args.bytes.now c.in_ok-picture.picture c.in_ok-picture.ensures
