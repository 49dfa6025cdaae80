use Rattle.std.proofs.Common.{◌-ℤ◌, List, sym, ap, ap₂, ◌∙◌}
use Rattle.std.specs.Prelude.{neg_ℤ}
use Rattle.be_geom.specs.declared.rect.Rect.{Rect}
use Rattle.be_region.specs.Regions.{region_has}
use Rattle.be_span.specs.Spans.{cell_in, is_dirty}
use Rattle.be_update.proofs.WindowLemmas.{in_root, minus_back}
use Rattle.be_update.proofs.dirty.waiting.Goals as goal

pub in_window-requires : goal.in_window-requires
in_window-requires c x y h =
    in_root c.args.pane.now c.root_frame.result c.requires c.root_frame.ensures x y
    (sym (c.in_ok-rects.ensures x y) ∙ ap (λ (rs : List Rect). region_has rs x y) (sym c.deref.ensures.value) ∙ sym (c.in_ok-region.ensures x y) ∙ h)

pub returns : goal.returns
returns c x y =
    let p = x -ℤ neg_ℤ c.args.pane.now.place.x in
    let q = y -ℤ neg_ℤ c.args.pane.now.place.y in
    c.in_window.ensures x y
    ∙ c.in_ok-region.ensures p q
    ∙ ap (λ (rs : List Rect). region_has rs p q) c.deref.ensures.value
    ∙ c.in_ok-rects.ensures p q
    ∙ ap₂ (λ v w. is_dirty (cell_in c.args.pane.now.spans v w)) (minus_back x c.args.pane.now.place.x) (minus_back y c.args.pane.now.place.y)
