use Rattle.std.proofs.lemmas.List.{map-set}
use Rattle.be_message.specs.Views.{seen_value}
use Rattle.be_message.proofs.field.Field.replace.Goals as goal

pub returns-clause-replaced : goal.returns-clause-replaced
returns-clause-replaced c =
    rw (c.replace.ensures.after, map-set seen_value c.args.self.now.values.items c.args.index c.args.value)
