use Rattle.std.proofs.Common.{ℕ, ◌∷◌, ◌++◌, ◌∙◌, ap}
use Rattle.std.specs.Fmt.{decimal}
use Rattle.be_written.specs.ScreenText.{screen_text}
use Rattle.be_written.proofs.ScreenRows.{screen_begun, screen_ended, screen_goes_on}
use Rattle.be_written.proofs.screen.write_screen.Goals as goal

pub loop-row-init : goal.loop-row-init
loop-row-init g c =
    screen_begun (g.S.Screen.across c.args.screen.now) c.height-height.result (g.S.Screen.cells c.args.screen.now) c.args.page.now c.text.new.self c.number_word.new.self c.number_word-2.new.self c.end_line.new.self
    c.in_ok-text.ensures
    (c.in_ok-number_word.ensures ∙ ap (λ (n : ℕ). c.text.new.self ++ 32 ∷ decimal n) (c.from.ensures ∙ c.width.ensures))
    (c.in_ok-number_word-2.ensures ∙ ap (λ (n : ℕ). c.number_word.new.self ++ 32 ∷ decimal n) c.from-2.ensures)
    c.in_ok-end_line.ensures

pub loop-row-preserved : goal.loop-row-preserved
loop-row-preserved g c =
    screen_goes_on (g.S.Screen.across c.args.screen.now) c.height-height.result c.loop-row.row (g.S.Screen.cells c.args.screen.now) c.loop-row.page c.write_row.new.page c.loop-row-test.true c.in_ok-write_row.ensures
    ∙ c.loop-row.invariant

pub returns : goal.returns
returns g c =
    screen_ended (g.S.Screen.across c.args.screen.now) c.height-height.result c.loop-row.row (g.S.Screen.cells c.args.screen.now) c.loop-row.page _ c.loop-row.invariant c.loop-row-test.false
    ∙ ap (λ (n : ℕ). c.args.page.now ++ screen_text (g.S.Screen.across c.args.screen.now) n (g.S.Screen.cells c.args.screen.now)) c.height-height.ensures
