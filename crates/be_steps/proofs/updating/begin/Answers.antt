use Rattle.be_machine.specs.Touched as part
use Rattle.be_script.specs.Script.{declared_by}
use Rattle.be_steps.proofs.BeginDone.{few_views, is_begun, is_passed, looper_in, looper_there, open_done, pane_there, pass_done}
use Rattle.be_steps.proofs.Stays.{held_as}
use Rattle.be_steps.proofs.updating.begin.Goals as goal

pub looper_is_there-requires : goal.looper_is_there-requires
looper_is_there-requires c = looper_there (declared_by c.args.script.now) c.args.held.now c.args.w c.requires.allowed

pub pane_is_there-requires : goal.pane_is_there-requires
pane_is_there-requires c = pane_there (declared_by c.args.script.now) c.args.held.now c.args.w c.requires.allowed

pub left_at-left-requires-clause-there : goal.left_at-left-requires-clause-there
left_at-left-requires-clause-there c =
    let there = pane_there (declared_by c.args.script.now) c.args.held.now c.args.w c.requires.allowed in (
      part.pane c.args.w,
      there.reachable.there,
      c.pane_place-pane.ensures,
      held_as (declared_by c.args.script.now) (part.pane c.args.w) c.args.held.now c.of-before.result.value c.pane_place-pane.result c.of-before.ensures c.pane_place-pane.ensures there,
    )

pub begin-views-requires : goal.begin-views-requires
begin-views-requires c =
    is_begun (declared_by c.args.script.now) c.args.held.now c.args.w c.requires.allowed c.pane_place-pane.result c.looper_place-looper.result c.pane_place-pane.ensures c.looper_place-looper.ensures
    c.args.survey c.requires.survey c.a_pane_is_found_as_its_window.ensures c.waiting_pixels_are_listed.ensures c.in-Some.survey c.in-Some.is
    c.pane_to_change.result.now c.left_at-left.result.value c.of-before.result.value c.of-before.ensures c.pane_to_change.ensures.value c.left_at-left.ensures

pub looper_to_change-requires : goal.looper_to_change-requires
looper_to_change-requires c =
    looper_in (declared_by c.args.script.now) c.args.held.now c.args.w c.requires.allowed c.pane_place-pane.result c.looper_place-looper.result c.pane_place-pane.ensures c.looper_place-looper.ensures
    c.begin-views.new.self c.looper_is_there.ensures

pub draw-requires : goal.draw-requires
draw-requires c = record {
  few =
      few_views (declared_by c.args.script.now) c.args.held.now c.args.w c.requires.allowed c.pane_place-pane.result c.looper_place-looper.result c.pane_place-pane.ensures c.looper_place-looper.ensures
      c.args.survey c.requires.survey c.a_pane_is_found_as_its_window.ensures c.waiting_pixels_are_listed.ensures c.in-Some.survey c.in-Some.is
      c.an_update_begins_in_the_window.ensures c.views_are_a_tree.ensures c.begin-views.result.items c.begin-views.ensures.views
      c.pane_to_change.result.now c.left_at-left.result.value c.of-before.result.value c.of-before.ensures c.pane_to_change.ensures.value c.left_at-left.ensures;
}

pub returns-in-Some : goal.returns-in-Some
returns-in-Some c =
    open_done (declared_by c.args.script.now) c.args.held.now c.args.w c.requires.allowed c.pane_place-pane.result c.looper_place-looper.result c.pane_place-pane.ensures c.looper_place-looper.ensures
    c.args.survey c.requires.survey c.a_pane_is_found_as_its_window.ensures c.waiting_pixels_are_listed.ensures c.in-Some.survey c.in-Some.is
    c.an_update_begins_in_the_window.ensures c.pane_to_change.result.now c.begin-views.new.self c.looper_to_change.result.now c.draw.new.self c.left_at-left.result.value c.of-before.result.value c.begin-views.result.items
    c.of-before.ensures c.pane_to_change.ensures.value c.left_at-left.ensures c.begin-views.ensures.slice c.begin-views.ensures.log c.begin-views.ensures.views c.looper_to_change.ensures.value c.draw.ensures.slice c.draw.ensures.log

pub pass-requires : goal.pass-requires
pass-requires c =
    is_passed (declared_by c.args.script.now) c.args.held.now c.args.w c.requires.allowed c.pane_place-pane.result c.looper_place-looper.result c.pane_place-pane.ensures c.looper_place-looper.ensures
    c.args.survey c.requires.survey c.a_pane_is_found_as_its_window.ensures c.waiting_pixels_are_listed.ensures c.in-None.is
    c.no_session_is_open_at_a_begin.ensures c.pane_to_change-in-None.result.now c.left_at-left.result.value c.of-before.result.value c.of-before.ensures c.pane_to_change-in-None.ensures.value c.left_at-left.ensures

pub looper_to_change-requires-in-None : goal.looper_to_change-requires-in-None
looper_to_change-requires-in-None c =
    looper_in (declared_by c.args.script.now) c.args.held.now c.args.w c.requires.allowed c.pane_place-pane.result c.looper_place-looper.result c.pane_place-pane.ensures c.looper_place-looper.ensures
    c.pass.new.self c.looper_is_there.ensures

pub returns : goal.returns
returns c =
    pass_done (declared_by c.args.script.now) c.args.held.now c.args.w c.requires.allowed c.pane_place-pane.result c.looper_place-looper.result c.pane_place-pane.ensures c.looper_place-looper.ensures
    c.args.survey c.requires.survey c.a_pane_is_found_as_its_window.ensures c.waiting_pixels_are_listed.ensures c.in-None.is
    c.pane_to_change-in-None.result.now c.pass.new.self c.looper_to_change-in-None.result.now c.draw_nothing_more.new.self c.left_at-left.result.value c.of-before.result.value
    c.of-before.ensures c.pane_to_change-in-None.ensures.value c.left_at-left.ensures c.pass.ensures.slice c.pass.ensures.log c.looper_to_change-in-None.ensures.value c.draw_nothing_more.ensures.slice c.draw_nothing_more.ensures.log
