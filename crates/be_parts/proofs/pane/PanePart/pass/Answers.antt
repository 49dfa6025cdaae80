use Rattle.std.proofs.Common.{sym, subst}
use Rattle.be_parts.specs.Begun.{IsPassed}
use Rattle.be_parts.specs.Kept.{Kept}
use Rattle.be_parts.proofs.Begun.{passed_clean, passed_shows}
use Rattle.be_parts.proofs.pane.PanePart.pass.Goals as goal

pub pass-requires-clause-clean : goal.pass-requires-clause-clean
pass-requires-clause-clean c =
    (passed_clean c.self.inside.told.value c.args.next.value c.self.inside.pane
    (subst (λ (k : Kept). IsPassed k.slice c.args.next.value) (sym c.self.view_is) c.requires) c.self.invariant c.waiting_pixels_are_listed.ensures).0

pub invariant_of-self : goal.invariant_of-self
invariant_of-self c =
    passed_shows c.self.inside.told.value c.args.next.value c.self.inside.pane c.pass.new.pane
    (subst (λ (k : Kept). IsPassed k.slice c.args.next.value) (sym c.self.view_is) c.requires) c.self.invariant c.pass.ensures
    c.a_notice_is_passed_over_in_the_window.ensures
