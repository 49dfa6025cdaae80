-- All parts, in the order of their places.
use Rattle.std.proofs.Common.{◌∙◌, ap, refl, subst, sym}
use Rattle.be_desk.specs.Changes.{Desk}
use Rattle.be_desk.specs.Desks.{IsPaired}
use Rattle.be_parts.specs.declared.part.Part.TheVariants as parts
use Rattle.be_rules.specs.Slices.{desk}
use Rattle.be_script.specs.Script.{declared_by}
use Rattle.be_opening.proofs.Firsts.{desk_is, input_is}
use Rattle.be_opening.proofs.More.{all_more, two_empty, two_mean}
use Rattle.be_opening.proofs.Windows.{opening_paired}
use Rattle.be_opening.proofs.parts.opening.Goals as goal

pub new-requires : goal.new-requires
new-requires c = subst (λ (d : Desk). IsPaired d) (sym c.in_ok-desk_of.ensures) (opening_paired (declared_by c.args.script.now))

pub returns-clause-meant : goal.returns-clause-meant
returns-clause-meant c =
    let d = declared_by c.args.script.now in
    all_more d c.push-2.new.self.items c.push_cells.new.parts.items c.push_loopers.new.parts.items c.push_ports.new.parts.items c.push_links.new.parts.items c.push_panes.new.parts.items
    c.in_ok-push_cells.ensures c.in_ok-push_loopers.ensures c.in_ok-push_ports.ensures c.in_ok-push_links.ensures c.in_ok-push_panes.ensures
    (two_mean d c.in_ok-parts.parts.items c.push.new.self.items c.push-2.new.self.items (parts.Desk c.new.result) (parts.Input c.new-2.result) c.in_ok-parts.ensures.items c.in_ok-push.ensures.items c.in_ok-push-2.ensures.items
    (c.new.ensures ∙ ap (λ (x : Desk). desk x) c.in_ok-desk_of.ensures ∙ desk_is d) (c.new-2.ensures.slice ∙ input_is d))

pub returns-clause-blank : goal.returns-clause-blank
returns-clause-blank c =
    c.in_ok-push_panes.ensures.blank (c.in_ok-push_links.ensures.blank (c.in_ok-push_ports.ensures.blank (c.in_ok-push_loopers.ensures.blank (c.in_ok-push_cells.ensures.blank
    (two_empty c.in_ok-parts.parts.items c.push.new.self.items c.push-2.new.self.items (parts.Desk c.new.result) (parts.Input c.new-2.result) c.in_ok-parts.ensures.items c.in_ok-push.ensures.items c.in_ok-push-2.ensures.items (refl, refl) c.new-2.ensures.log)))))
