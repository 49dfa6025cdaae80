use Rattle.std.proofs.Common.{◌∙◌, ap, option_map, sym}
use Rattle.be_asking.specs.Wants.{activity_in}
use Rattle.be_script.specs.Script.{declared_by}
use Rattle.be_world.proofs.Keeping.{keeps_entries}
use Rattle.be_world.proofs.preparing.is_there.Goals as goal

pub returns-clause-there : goal.returns-clause-there
returns-clause-there c =
    λ _. keeps_entries (declared_by c.args.script.now) c.args.held.now.parts c.args.number
    (activity_in c.args.who) c.requires.is c.requires.fitting c.args.place c.requires.place
    c.in-Some.part.now (sym c.get.ensures ∙ ap (option_map (λ x. x.now)) c.in-Some.is)
    c.means_its_kind.ensures
