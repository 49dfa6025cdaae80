use Rattle.std.proofs.Common.{sym}
use Rattle.be_message.proofs.PlaceLemmas.{place_has, missing}
use Rattle.be_message.proofs.message.Message.has.Goals as goal

pub returns-in-Some : goal.returns-in-Some
returns-in-Some c = rw (← c.self.view_is) (sym (place_has c.args.name.now c.self.inside.fields.items c.deref.result.now c.in-Some.field-0 c.deref.ensures.value c.in-Some.ensures))

pub returns-in-None : goal.returns-in-None
returns-in-None c = rw (← c.self.view_is) (sym (missing c.args.name.now c.self.inside.fields.items c.deref.result.now c.deref.ensures.value c.in-None.ensures))
