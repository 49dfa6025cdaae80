-- The background, what the window brings, and what is exposed.
use Rattle.std.proofs.Common.{List, ap, subst, ◌∙◌}
use Rattle.std.specs.Option.{option_map}
use Rattle.std.proofs.lemmas.List.Elements.{All-contains}
use Rattle.be_color.specs.declared.colors.Color.{Color}
use Rattle.be_span.specs.Spans.{cell_in}
use Rattle.be_desk.specs.Plans.{lent}
use Rattle.be_desk.specs.Renewals.{IsBackground, IsShown, exposed_by}
use Rattle.be_desk.proofs.RenewLemmas.{renewed_is}
use Rattle.be_desk.proofs.renewal.renewed.Goals as goal

pub returns-clause-cells : goal.returns-clause-cells
returns-clause-cells c cells under x y has =
    let r = c.args.renewal.now in
    let below = cell_in c.in_ok-spans.spans x y in
    renewed_is r cells x y below (cell_in c.expose.new.spans x y)
    (All-contains (IsShown cells) (lent c.args.panes.now) r.pane.now under.shown c.requires.listed)
    (c.requires.colored x y has)
    (subst (λ (colors : List Color). IsBackground colors (cells x y) (cell_in c.in_ok-spans.spans x y)) c.deref.ensures.value (c.in_ok-spans.ensures.cells cells under x y has))
    (c.expose.ensures.cells x y ∙ ap (option_map (exposed_by r x y)) (c.lay_own.ensures.cells x y))
