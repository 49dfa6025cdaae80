use Rattle.std.proofs.Common.{ℕ, Vec, Global, ap, ◌∙◌}
use Rattle.std.specs.Prelude.{filter_map}
use Rattle.std.specs.Option.{option_map}
use Rattle.be_geom.specs.declared.rect.Rect.{Rect}
use Rattle.be_update.specs.Listing.{listed_views, rect_in}
use Rattle.be_update.specs.Rows.{AreAmong}
use Rattle.be_update.specs.Surveys.{AreListed}
use Rattle.be_update.proofs.ListingLemmas.{ok_then}
use Rattle.be_update.proofs.listing.listed.Goals as goal

pub returns : goal.returns
unfolding listed_views
returns c =
    ok_then
    (λ (views : Vec (ℕ × Rect) Global). AreAmong c.deref.result.now views.items c.args.tree.now c.args.session.now)
    (λ (views : Vec (ℕ × Rect) Global). AreListed views.items c.args.tree.now c.args.session.now)
    c.listed_among.result
    (λ views among pixels same. among pixels same ∙ ap (filter_map (λ v. option_map (λ r. (v, r)) (rect_in c.args.tree.now pixels v))) (c.deref.ensures.value ∙ c.in_ok-order.ensures))
    c.listed_among.ensures
