-- The cells go with their pixels.
use Rattle.std.proofs.Common.{◌-ℤ◌, [], ◌∷◌, sym, ap, ◌∙◌, subst, arith}
use Rattle.be_geom.specs.declared.rect.Rect.{Rect}
use Rattle.be_region.specs.Regions.{IsNotEmpty}
use Rattle.be_span.specs.Spans.{Spans, area_of, cell_in}
use Rattle.be_span.proofs.CellLemmas.{spans}
use Rattle.be_span.proofs.ShiftLemmas.{area_still, cell_back, some_still}
use Rattle.be_span.proofs.grid.Grid.offset.Goals as goal

pub invariant_of-self : goal.invariant_of-self
invariant_of-self c =
    let goes = c.requires c.self.inside.frame (ap (λ (s : Spans). s.rects) (sym c.self.view_is)) in
    record {
      some = subst IsNotEmpty (sym goes) (some_still c.self.inside.frame c.args.dx c.args.dy c.self.invariant.some);
      whole = c.self.invariant.whole ∙ sym (ap area_of goes ∙ area_still c.self.inside.frame c.args.dx c.args.dy);
      counted = c.self.invariant.counted;
    }

pub returns-clause-whole : goal.returns-clause-whole
returns-clause-whole c =
    let goes = c.requires c.self.inside.frame (ap (λ (s : Spans). s.rects) (sym c.self.view_is)) in
    let same = ap area_of goes ∙ area_still c.self.inside.frame c.args.dx c.args.dy in
    let whole = c.self.invariant.whole in
    omega arith

pub returns-clause-cells : goal.returns-clause-cells
returns-clause-cells c x y =
    let goes = c.requires c.self.inside.frame (ap (λ (s : Spans). s.rects) (sym c.self.view_is)) in
    ap (λ (r : Rect). cell_in (spans (r ∷ []) c.self.inside.cells.items) x y) goes
    ∙ cell_back c.self.inside.frame c.self.inside.cells.items c.args.dx c.args.dy x y
    ∙ ap (λ s. cell_in s (x -ℤ c.args.dx) (y -ℤ c.args.dy)) c.self.view_is
