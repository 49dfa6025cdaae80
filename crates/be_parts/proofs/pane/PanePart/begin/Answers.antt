use Rattle.std.proofs.Common.{sym, subst}
use Rattle.be_parts.specs.Begun.{IsBegun}
use Rattle.be_parts.specs.Kept.{Kept}
use Rattle.be_parts.proofs.Begun.{begun_shows, begun_surveyed}
use Rattle.be_parts.proofs.pane.PanePart.begin.Goals as goal

pub begin-views-requires : goal.begin-views-requires
begin-views-requires c =
    begun_surveyed c.args.survey c.self.inside.told.value c.args.next.value c.self.inside.pane
    (subst (λ (k : Kept). IsBegun c.args.survey k.slice c.args.next.value) (sym c.self.view_is) c.requires) c.self.invariant

pub invariant_of-self : goal.invariant_of-self
invariant_of-self c =
    begun_shows c.args.survey c.self.inside.told.value c.args.next.value c.self.inside.pane c.begin-views.new.pane
    (subst (λ (k : Kept). IsBegun c.args.survey k.slice c.args.next.value) (sym c.self.view_is) c.requires) c.self.invariant
    c.begin-views.ensures.begun c.an_update_begins_in_the_window.ensures c.waiting_pixels_are_listed.ensures
