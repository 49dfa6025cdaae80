-- What is drawn keeps its size, and is written behind it.
use Rattle.std.proofs.Common.{◌≡◌, ℕ, List, [], ◌∷◌, ◌++◌, codes, refl, ap, append_assoc, ◌∙◌}
use Rattle.be_bitmap.specs.Pictures.{Picture}
use Rattle.be_command.specs.declared.Command.{Command}
use Rattle.be_command.specs.Effects.{Effect, at_view, changes, ends_update, effect_of}
use Rattle.be_picture.specs.Playing.{OffScreen, after_commands, blank, done_by, played, played_on}
use Rattle.be_written.specs.Lines.{line_of}
use Rattle.be_written.specs.ScreenText.{screen_text}
use Rattle.be_sheet.specs.Sheets.{picture_screen}

width_stays : (bitmaps : List Picture) (off : OffScreen) (effect : Effect)
    → (done_by bitmaps off effect).width ≡ off.width
width_stays bitmaps off (at_view v deed) = refl
width_stays bitmaps off (changes change) = refl
width_stays bitmaps off ends_update = refl

height_stays : (bitmaps : List Picture) (off : OffScreen) (effect : Effect)
    → (done_by bitmaps off effect).height ≡ off.height
height_stays bitmaps off (at_view v deed) = refl
height_stays bitmaps off (changes change) = refl
height_stays bitmaps off ends_update = refl

as_wide : (bitmaps : List Picture) (off : OffScreen) (commands : List Command)
    → (after_commands bitmaps off commands).width ≡ off.width
unfolding after_commands
as_wide bitmaps off [] = refl
as_wide bitmaps off (c ∷ commands) =
    as_wide bitmaps (done_by bitmaps off (effect_of c)) commands
    ∙ width_stays bitmaps off (effect_of c)

as_high : (bitmaps : List Picture) (off : OffScreen) (commands : List Command)
    → (after_commands bitmaps off commands).height ≡ off.height
unfolding after_commands
as_high bitmaps off [] = refl
as_high bitmaps off (c ∷ commands) =
    as_high bitmaps (done_by bitmaps off (effect_of c)) commands
    ∙ height_stays bitmaps off (effect_of c)

played_wide : (bitmaps : List Picture) (off : OffScreen) (picture : List Command)
    → (played_on bitmaps off picture).width ≡ off.width
played_wide bitmaps off picture = as_wide bitmaps off (played picture)

played_high : (bitmaps : List Picture) (off : OffScreen) (picture : List Command)
    → (played_on bitmaps off picture).height ≡ off.height
played_high bitmaps off picture = as_high bitmaps off (played picture)

pub sheet_written : (picture : List Command) (width height : ℕ) (off : OffScreen)
    (one two new : List ℕ) → off ≡ played_on [] (blank width height) picture
    → one ≡ [] ++ screen_text off.width off.height off.cells → two ≡ one ++ codes "end"
    → new ≡ two ++ 10 ∷ [] → new ≡ picture_screen picture width height
unfolding line_of
sheet_written picture width height off one two new drawn first second third =
    let white = blank width height in
    let now = played_on [] white picture in
    let end : List ℕ = codes "end" ++ 10 ∷ [] in
    third
    ∙ ap (λ (text : List ℕ). text ++ 10 ∷ []) (second ∙ ap (λ (text : List ℕ). text ++ codes "end") first)
    ∙ append_assoc (screen_text off.width off.height off.cells) (codes "end") (10 ∷ [])
    ∙ ap (λ (o : OffScreen). screen_text o.width o.height o.cells ++ end) drawn
    ∙ ap (λ (w : ℕ). screen_text w now.height now.cells ++ end) (played_wide [] white picture)
    ∙ ap (λ (h : ℕ). screen_text width h now.cells ++ end) (played_high [] white picture)
