use Rattle.std.proofs.Common.{rules, ◌∙◌}
use Rattle.be_hall.proofs.KeepCommit.{makes}
use Rattle.be_hall.proofs.hall.Hall.tick.Goals as goal

pub fetch_add-requires : goal.fetch_add-requires
fetch_add-requires g c = (search rules, search rules, makes _ _ _ _ (g.met.P.Parts.lawful _) _ _ _ _ _ c.requires.aim c.requires.permitted)

pub returns-clause-told : goal.returns-clause-told
returns-clause-told g c = λ a e about is. c.fetch_add.ensures.2 a e about (c.requires.aim ∙ is)
