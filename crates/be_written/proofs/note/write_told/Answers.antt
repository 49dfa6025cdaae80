use Rattle.std.proofs.Common.{◌≡◌, [], ◌∷◌, ◌++◌, codes}
use Rattle.be_facts.proofs.Lists.{on_ok_map}
use Rattle.be_message.specs.Messages.{Message}
use Rattle.be_written.specs.Lines.{line_of}
use Rattle.be_written.specs.MessageText.{message_text}
use Rattle.be_written.specs.Spelt.{IsSaid}
use Rattle.be_written.proofs.NoteLemmas.{told_words}
use Rattle.be_written.proofs.WriteLemmas.{appended}
use Rattle.be_written.proofs.note.write_told.Goals as goal

pub returns : goal.returns
returns c =
    on_ok_map c.end_line.result (c.end_line.new.self ≡ c.write_said.new.page ++ 10 ∷ [])
    ((m : Message) → IsSaid c.args.said m → c.end_line.new.self ≡ c.args.page.now ++ line_of (c.args.kind.now ∷ message_text m ∷ []))
    c.end_line.ensures
    (λ end m is. told_words c.args.page.now c.text.new.self c.write_said.new.page c.end_line.new.self c.args.kind.now (message_text m) c.in_ok-text.ensures
    (appended c.text.new.self c.text-2.new.self c.write_said.new.page (codes " ") (message_text m) c.in_ok-text-2.ensures (c.in_ok-write_said.ensures m is)) end)
