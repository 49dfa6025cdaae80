use Rattle.std.proofs.Common.{rules, ◌≡◌, [], Some, None, sym, subst, ◌∙◌}
use Rattle.std.proofs.lemmas.Result.{IfOk-weaker}
use Rattle.be_machine.specs.Touched as part
use Rattle.be_ready.proofs.Closed.{pane_there}
use Rattle.be_script.specs.Script.{declared_by}
use Rattle.be_steps.proofs.Owned.{not_missing}
use Rattle.be_steps.specs.Surveyed.{IsSurveyedIn}
use Rattle.be_noted.proofs.Updates.{listed_none, listed_some, survey_here}
use Rattle.be_noted.specs.Listed.{IsListed}
use Rattle.be_noted.proofs.listing.listed.Goals as goal

pub find_pane-requires : goal.find_pane-requires
find_pane-requires c =
    (pane_there (declared_by c.args.script.now) c.args.held.now.parts c.args.w c.requires).reachable

pub unreachable-requires : goal.unreachable-requires
unreachable-requires c =
    let d = declared_by c.args.script.now in
    let parts = c.args.held.now.parts in
    not_missing d parts (part.pane c.args.w) c.in_default.field-0 (pane_there d parts c.args.w c.requires)
    c.in_default.ensures.missing

pub views_in-requires : goal.views_in-requires
views_in-requires c =
    let d = declared_by c.args.script.now in
    let parts = c.args.held.now.parts in
    survey_here d parts c.args.w c.requires c.a_survey_is_for_each_pane_of_its_window.ensures
    c.in-Ok.part.now c.in-Ok.ensures.there c.pane.result.now c.pane.ensures c.in-Some.survey
    (subst (IsSurveyedIn d parts c.args.w) c.in-Some.is c.in_ok-survey.ensures)

pub returns-in-Some : goal.returns-in-Some
returns-in-Some c =
    let d = declared_by c.args.script.now in
    let parts = c.args.held.now.parts in
    let surveyed = subst (IsSurveyedIn d parts c.args.w) c.in-Some.is c.in_ok-survey.ensures in
    IfOk-weaker c.views_in.result (λ views. views.items ≡ c.in-Some.survey.views)
    (λ views. IsListed d parts c.args.w views.items)
    (λ views is. λ all sound fits. listed_some d parts c.args.w c.requires (Some c.in-Some.survey)
    surveyed all sound fits c.an_update_begins_in_the_window.ensures
    c.waiting_pixels_are_listed.ensures c.in-Some.survey surveyed.found.0 ∙ sym is) c.views_in.ensures

pub returns-in-None : goal.returns-in-None
returns-in-None c =
    let d = declared_by c.args.script.now in
    let parts = c.args.held.now.parts in
    let surveyed = subst (IsSurveyedIn d parts c.args.w) c.in-None.is c.in_ok-survey.ensures in
    let none : c.new.result.items ≡ [] = search rules in
    λ all sound fits. listed_none d parts c.args.w c.requires None surveyed all sound fits
    c.a_pane_is_found_as_its_window.ensures c.waiting_pixels_are_listed.ensures surveyed.found
    ∙ sym none
