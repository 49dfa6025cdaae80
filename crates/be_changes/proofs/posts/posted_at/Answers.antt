use Rattle.be_changes.proofs.PostTold.{told_back, told_of}
use Rattle.be_changes.proofs.posts.posted_at.Goals as goal

pub choose-requires : goal.choose-requires
choose-requires c = told_of c.args.held.now c.of.result.value c.args.letter.now c.of-2.result.value c.args.place c.of.ensures c.of-2.ensures c.requires

pub returns : goal.returns
returns c = told_back c.args.held.now c.of.result.value c.args.letter.now c.of-2.result.value c.args.place c.choose.result.value c.of.ensures c.of-2.ensures c.choose.ensures
