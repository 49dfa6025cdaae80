use Rattle.be_written.proofs.NoteLemmas.{two_words}
use Rattle.be_written.proofs.note.write_line.Goals as goal

pub returns : goal.returns
returns c =
    two_words c.end_line.result c.args.page.now c.text.new.self c.word.new.self c.end_line.new.self c.args.kind.now c.args.word.now
    c.in_ok-text.ensures c.in_ok-word.ensures c.end_line.ensures
