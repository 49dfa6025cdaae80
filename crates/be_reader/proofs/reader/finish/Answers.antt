use Rattle.std.proofs.Common.{option_map, ap, sym, ◌∙◌}
use Rattle.be_reader.proofs.OutcomeLemmas.{whole_routable}
use Rattle.be_said.specs.Whole.{said_by}
use Rattle.be_reader.proofs.reader.finish.Goals as goal

pub work-requires : goal.work-requires
work-requires c =
    whole_routable c.args.said c.in-Some.script (sym (ap (option_map said_by) c.in-Some.is) ∙ c.into_script.ensures) c.requires
