use Rattle.std.proofs.Common.{◌≡◌, ℕ, List, [], ◌∷◌, ◌++◌, codes, ap, ◌∙◌}
use Rattle.be_made.specs.Made.{app_text, body_text, made, press_text, window_text}
use Rattle.be_made.proofs.Lines.{screen_line}
use Rattle.be_made.proofs.Loops.{all_written}
use Rattle.be_written.specs.Lines.{line_of}
use Rattle.be_made.proofs.making.make.Goals as goal

pub returns : goal.returns
unfolding made
returns c =
    let screen : List ℕ = line_of (codes "screen" ∷ codes "640" ∷ codes "480" ∷ []) in
    let first : c.extend_from_slice.new.self.items ≡ screen =
    c.in_ok-extend_from_slice.ensures.items
    ∙ ap (λ (text : List ℕ). text ++ (codes "screen 640 480" ++ 10 ∷ []))
    c.new-text.ensures.items
    ∙ screen_line in
    all_written window_text body_text app_text press_text 8 8 4 20 screen
    c.args.number c.new-draws.result c.write_windows.new.draws c.write_bodies.new.draws
    c.write_apps.new.draws c.write_presses.new.draws c.extend_from_slice.new.self.items
    c.write_windows.new.text.items c.write_bodies.new.text.items c.write_apps.new.text.items
    c.write_presses.new.text.items c.new-draws.ensures first c.in_ok-write_windows.ensures
    c.in_ok-write_bodies.ensures c.in_ok-write_apps.ensures c.in_ok-write_presses.ensures
