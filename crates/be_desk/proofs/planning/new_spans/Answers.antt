use Rattle.std.proofs.Common.{◌≡◌, List, Some, sym, subst}
use Rattle.std.specs.Prelude.{Contains}
use Rattle.be_geom.specs.declared.rect.Rect.{Rect}
use Rattle.be_pane.specs.declared.pane.Pane.{Pane}
use Rattle.be_region.specs.Regions.{SamePixels}
use Rattle.be_stack.specs.Visible.{IsVisible}
use Rattle.be_desk.specs.Affected.{OwnsTheSame}
use Rattle.be_desk.specs.Desks.{desk_of, desk_with_both}
use Rattle.be_desk.specs.Plans.{AreChanged, AreRenewed, lent}
use Rattle.be_desk.proofs.SpansLemmas.{apart_spans, others_of, owned_there, changed_spans, colored_spans, kept_spans, stays_there, unchanged}
use Rattle.be_desk.proofs.planning.new_spans.Goals as goal

pub renewal_of-renewal-requires-clause-there : goal.renewal_of-renewal-requires-clause-there
renewal_of-renewal-requires-clause-there c =
    let before = desk_of c.args.desk.now in
    let after = desk_with_both before c.args.w c.args.change.now c.args.next.now.stack c.args.next.now.tree in
    (stays_there before after c.args.w c.args.change.now (lent c.args.panes.now) c.args.pane.now c.requires.change c.requires.listed).0

pub renewal_of-renewal-requires-clause-views : goal.renewal_of-renewal-requires-clause-views
renewal_of-renewal-requires-clause-views c =
    let before = desk_of c.args.desk.now in
    let after = desk_with_both before c.args.w c.args.change.now c.args.next.now.stack c.args.next.now.tree in
    (stays_there before after c.args.w c.args.change.now (lent c.args.panes.now) c.args.pane.now c.requires.change c.requires.listed).1

pub made_ready-requires-clause-colored : goal.made_ready-requires-clause-colored
made_ready-requires-clause-colored c =
    let before = desk_of c.args.desk.now in
    let after = desk_with_both before c.args.w c.args.change.now c.args.next.now.stack c.args.next.now.tree in
    let r = c.renewal_of-renewal.result in
    let same = c.renewal_of-renewal.ensures.pane in
    let listed = subst (λ (p : Pane). Contains (lent c.args.panes.now) p) (sym same) c.requires.listed in
    let visible = subst (λ (p : Pane). IsVisible c.in_ok-region.region after.windows p.window) (sym same) c.in_ok-region.ensures in
    colored_spans before after c.args.w c.args.change.now (lent c.args.panes.now) r c.in_ok-region.region c.requires.change listed c.renewal_of-renewal.ensures.renewal visible

pub returns-then-has_same_pixels : goal.returns-then-has_same_pixels
returns-then-has_same_pixels c =
    let before = desk_of c.args.desk.now in
    let after = desk_with_both before c.args.w c.args.change.now c.args.next.now.stack c.args.next.now.tree in
    let r = c.renewal_of-renewal.result in
    let region = c.in_ok-region.region in
    let same = c.renewal_of-renewal.ensures.pane in
    let listed = subst (λ (p : Pane). Contains (lent c.args.panes.now) p) (sym same) c.requires.listed in
    let visible = subst (λ (p : Pane). IsVisible region after.windows p.window) (sym same) c.in_ok-region.ensures in
    let pixels = subst (λ (l : List Rect). SamePixels region l) c.region-then-is_still.ensures.region (c.has_same_pixels.ensures.0 c.if-has_same_pixels.true) in
    let its_pixels = subst (λ (p : Pane). SamePixels region p.spans.rects) (sym same) pixels in
    unchanged before after c.args.w c.args.change.now (lent c.args.panes.now) c.args.pane.now
    (subst (λ (p : Pane). AreChanged before after c.args.w c.args.change.now (lent c.args.panes.now) p p.spans) same
    (kept_spans before after c.args.w c.args.change.now (lent c.args.panes.now) r region c.requires.change listed c.renewal_of-renewal.ensures.renewal visible (c.is_still.ensures c.if-is_still.true) its_pixels))

pub returns : goal.returns
returns c =
    let before = desk_of c.args.desk.now in
    let after = desk_with_both before c.args.w c.args.change.now c.args.next.now.stack c.args.next.now.tree in
    let r = c.renewal_of-renewal.result in
    let region = c.in_ok-region.region in
    let same = c.renewal_of-renewal.ensures.pane in
    let listed = subst (λ (p : Pane). Contains (lent c.args.panes.now) p) (sym same) c.requires.listed in
    let visible = subst (λ (p : Pane). IsVisible region after.windows p.window) (sym same) c.in_ok-region.ensures in
    subst (λ (p : Pane). AreRenewed before after c.args.w c.args.change.now (lent c.args.panes.now) p (Some c.in_ok-made_ready.field-0)) same record {
      its = c.in_ok-made_ready.ensures.its;
      changed = changed_spans before after c.args.w c.args.change.now (lent c.args.panes.now) r region _ c.requires.change listed c.renewal_of-renewal.ensures.renewal visible c.in_ok-made_ready.ensures.region c.in_ok-made_ready.ensures.cells;
    }

pub returns-then-is_apart : goal.returns-then-is_apart
returns-then-is_apart c =
    let before = desk_of c.args.desk.now in
    let after = desk_with_both before c.args.w c.args.change.now c.args.next.now.stack c.args.next.now.tree in
    let r = c.renewal_of-renewal.result in
    let same = c.renewal_of-renewal.ensures.pane in
    let listed = subst (λ (p : Pane). Contains (lent c.args.panes.now) p) (sym same) c.requires.listed in
    let other = subst (λ (p : Pane). p.window ≡ c.args.w → ⊥) (sym same) (c.is_apart.ensures.other c.if-is_apart.true) in
    let stay = others_of before after c.args.w c.args.change.now (lent c.args.panes.now) c.requires.change in
    let owns = subst (λ (p : Pane). OwnsTheSame before.windows after.windows p.window) (sym same) (c.is_apart.ensures.same c.if-is_apart.true after.windows stay c.requires.zone) in
    unchanged before after c.args.w c.args.change.now (lent c.args.panes.now) c.args.pane.now
    (subst (λ (p : Pane). AreChanged before after c.args.w c.args.change.now (lent c.args.panes.now) p p.spans) same
    (apart_spans before after c.args.w c.args.change.now (lent c.args.panes.now) r c.requires.change listed c.renewal_of-renewal.ensures.renewal other owns))

pub region_of-requires-clause-others : goal.region_of-requires-clause-others
region_of-requires-clause-others c =
    let before = desk_of c.args.desk.now in
    let after = desk_with_both before c.args.w c.args.change.now c.args.next.now.stack c.args.next.now.tree in
    others_of before after c.args.w c.args.change.now (lent c.args.panes.now) c.requires.change

pub region_of-requires-clause-owned : goal.region_of-requires-clause-owned
region_of-requires-clause-owned c =
    let before = desk_of c.args.desk.now in
    let after = desk_with_both before c.args.w c.args.change.now c.args.next.now.stack c.args.next.now.tree in
    owned_there before after c.args.w c.args.change.now (lent c.args.panes.now) c.args.pane.now c.requires.change c.requires.listed
