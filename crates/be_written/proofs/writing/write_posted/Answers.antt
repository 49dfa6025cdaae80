use Rattle.std.proofs.Common.{ℕ, [], ◌∷◌, codes, ap, sym, ◌∙◌}
use Rattle.std.specs.Fmt.{decimal}
use Rattle.be_port.specs.declared.Posted.{Posted}
use Rattle.be_written.specs.EntryText.{posted_words}
use Rattle.be_written.specs.Lines.{behind}
use Rattle.be_written.proofs.WriteLemmas.{same_text}
use Rattle.be_written.proofs.writing.write_posted.Goals as goal

pub returns-in-WouldBlock : goal.returns-in-WouldBlock
returns-in-WouldBlock c =
    let same = ap (λ (n : ℕ). behind (codes "wouldblock" ∷ decimal n ∷ [])) c.from.ensures ∙ ap (λ (p : Posted). behind (posted_words p)) (sym c.in-WouldBlock.is) in
    same_text c.with_number-in-WouldBlock.result c.args.page.now c.with_number-in-WouldBlock.new.page (behind (codes "wouldblock" ∷ decimal c.from.result ∷ [])) (behind (posted_words c.args.answer)) c.with_number-in-WouldBlock.ensures same
