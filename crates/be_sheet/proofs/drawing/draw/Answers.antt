use Rattle.std.proofs.Common.{◌≡◌, ℕ, List, [], ◌++◌, ap, ◌∙◌}
use Rattle.be_picture.specs.Playing.{OffScreen, played_on}
use Rattle.be_written.specs.ScreenText.{screen_text}
use Rattle.be_sheet.proofs.Written.{sheet_written}
use Rattle.be_sheet.proofs.drawing.draw.Goals as goal

pub returns : goal.returns
returns c =
    let off : OffScreen = c.play.new.self in
    let played : off ≡ played_on [] c.in-Ok.off c.args.picture = c.play.ensures.played in
    sheet_written c.args.picture c.args.width c.args.height off c.write_screen.new.page
    c.text.new.self c.end_line.new.self
    (played ∙ ap (λ (o : OffScreen). played_on [] o c.args.picture) c.in-Ok.ensures.blank)
    (c.in_ok-write_screen.ensures
    ∙ ap (λ (text : List ℕ). text ++ screen_text off.width off.height off.cells) c.new-page.ensures)
    c.in_ok-text.ensures c.in_ok-end_line.ensures
