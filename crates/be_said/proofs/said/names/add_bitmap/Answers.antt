use Rattle.be_said.proofs.NameFaults.{is_name_then, memory_alone, ok_as}
use Rattle.be_said.proofs.said.names.add_bitmap.Goals as goal

pub text_of-requires : goal.text_of-requires
text_of-requires c = is_name_then _ _ _ c.requires

pub added-requires : goal.added-requires
added-requires c = memory_alone _ _ _ c.add_bitmap.ensures.number (rw c.text_of.ensures c.requires)

pub returns : goal.returns
returns c = rw (← c.text_of.ensures) (ok_as _ _ _ c.added.ensures c.add_bitmap.ensures.ok)
