use Rattle.std.proofs.Common.{◌≡◌, ℕ, suc, ◌-◌, List, [], ◌∷◌, ◌++◌, Some, take, ap, ◌∙◌, arith}
use Rattle.std.specs.Option.{option_map}
use Rattle.be_color.specs.declared.colors.Color.{Color}
use Rattle.be_lex.specs.Colors.{pixel_of}
use Rattle.be_line.specs.Kinds.{pixels_in}
use Rattle.be_reader.proofs.PixelLemmas.{pixel_read}
use Rattle.be_reader.proofs.pixels.read_row.Goals as goal

pub loop-left-preserved : goal.loop-left-preserved
loop-left-preserved c =
    let l = c.loop-left in
    let pixel : pixel_of (take 6 l.rest.now) ≡ Some c.in-Some.color = (cc c.in-Some.ensures) in
    let count : l.left ≡ suc (l.left - 1) = omega arith in
    ap (λ (colors : List Color). option_map (λ more. colors ++ more) (pixels_in (l.left - 1) c.behind_pixel-rest.result.now)) c.in_ok-push.ensures.items
    ∙ ap (λ (rest : List ℕ). option_map (λ more. (l.colors.items ++ c.in-Some.color ∷ []) ++ more) (pixels_in (l.left - 1) rest)) c.behind_pixel-rest.ensures
    ∙ pixel_read l.left (l.left - 1) l.colors.items l.rest.now c.in-Some.color count pixel
    ∙ l.invariant
