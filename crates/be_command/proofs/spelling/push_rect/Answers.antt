use Rattle.std.proofs.Common.{◌≡◌, ◌++◌, OnOk, rules}
use Rattle.be_command.specs.Spelling.{pair_words}
use Rattle.be_command.proofs.WriteLemmas.{two_behind}
use Rattle.be_command.proofs.spelling.push_rect.Goals as goal

pub returns : goal.returns
returns c =
    let first : c.push_pair.new.line.items ≡ c.args.line.now.items ++ pair_words c.args.rect.left c.args.rect.top = search rules in
    let second : OnOk c.push_pair-2.result (c.push_pair-2.new.line.items ≡ c.push_pair.new.line.items ++ pair_words c.args.rect.right c.args.rect.bottom) = search rules in
    two_behind c.push_pair-2.result _ _ _ _ _ first second
