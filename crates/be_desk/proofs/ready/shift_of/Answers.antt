-- What is given up.
use Rattle.std.proofs.Common.{◌-ℤ◌, ◌&&◌, List, sym, ap, ◌∙◌}
use Rattle.std.specs.Prelude.{not}
use Rattle.std.proofs.lemmas.Int.{to_z-of_z}
use Rattle.be_geom.specs.declared.rect.Rect.{Rect}
use Rattle.be_region.specs.Regions.{region_has}
use Rattle.be_desk.proofs.ready.shift_of.Goals as goal

pub invariant_of-result : goal.invariant_of-result
invariant_of-result c = simp (to_z-of_z, c.ranges.dx, c.ranges.dy) record {
  gone = λ x y. c.in_ok-exclude.ensures.ok x y ∙ ap (λ b. b && not (region_has c.args.region x y)) (c.requires.moved x y) ∙ ap (λ (l : List Rect). region_has c.args.from (x -ℤ c.args.dx) (y -ℤ c.args.dy) && not (region_has l x y)) (sym c.in_ok-next.ensures);
  whole = λ x y has was. c.requires.fresh x y (ap (λ (l : List Rect). region_has l x y) (sym c.in_ok-next.ensures) ∙ has) (c.requires.moved x y ∙ was);
}
