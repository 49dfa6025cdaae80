use Rattle.be_noting.proofs.KeepLaws.{noting_lawful}
use Rattle.be_noting.proofs.laws.notes_keep_rules_lawful.Goals as goal

pub returns : goal.returns
returns g c = λ it told. noting_lawful (g.P.Parts.machine it) told (g.met.P.Parts.lawful it)
