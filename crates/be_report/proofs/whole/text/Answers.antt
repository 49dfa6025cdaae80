use Rattle.std.proofs.Common.{◌≡◌, ◌++◌, ap, ◌∙◌}
use Rattle.be_machine.specs.History.{state_after}
use Rattle.be_script.specs.Script.{declared_by}
use Rattle.be_written.specs.EntryText.{history_text}
use Rattle.be_written.specs.ScreenText.{screen_text}
use Rattle.be_written.specs.TraceText.{traces_text}
use Rattle.be_report.proofs.Pieces.{report_parts}
use Rattle.be_report.proofs.whole.text.Goals as goal

pub returns : goal.returns
returns g c =
    let d = declared_by c.args.script.now in
    let h = c.args.history.now in
    let traces = c.write_traces.new.page in
    let screen : c.write_screen.new.page ≡ traces ++ screen_text d.width d.height (state_after d h).screen =
    c.in_ok-write_screen.ensures
    ∙ ap (λ across. traces ++ screen_text across (g.S.Screen.down c.args.screen.now) (g.S.Screen.cells c.args.screen.now)) c.requires.across
    ∙ ap (λ down. traces ++ screen_text d.width down (g.S.Screen.cells c.args.screen.now)) c.requires.down
    ∙ ap (λ cells. traces ++ screen_text d.width d.height cells) c.requires.cells in
    report_parts (history_text d h) (traces_text d h) (screen_text d.width d.height (state_after d h).screen)
    c.new-page.result c.write_history.new.page traces c.write_screen.new.page c.text.new.self c.end_line.new.self
    c.new-page.ensures c.in_ok-write_history.ensures (c.in_ok-write_traces.ensures h c.requires.told) screen c.in_ok-text.ensures c.in_ok-end_line.ensures
