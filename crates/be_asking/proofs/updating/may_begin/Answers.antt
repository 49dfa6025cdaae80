use Rattle.std.proofs.Common.{subst}
use Rattle.std.specs.Prelude.{◌↔◌, IsTrue}
use Rattle.be_pane.specs.Owed.{IsClean}
use Rattle.be_span.specs.Spans.{Spans}
use Rattle.be_script.specs.Script.{declared_by}
use Rattle.be_asking.proofs.UpdatesAnswered.{begin_needs_link, begin_needs_looper, begin_needs_pane, begin_reach_link, begin_reach_looper, begin_reach_pane, begin_waits, begins_it, none_linked, some_linked}
use Rattle.be_asking.proofs.updating.may_begin.Goals as goal

pub find_looper-requires : goal.find_looper-requires
find_looper-requires c = begin_reach_looper (declared_by c.args.script.now) c.args.held.now.parts c.args.number c.args.w c.requires

pub returns-in-Err : goal.returns-in-Err
returns-in-Err c = begin_needs_looper (declared_by c.args.script.now) c.args.held.now.parts c.args.number c.args.w c.requires c.in-Err.place c.in-Err.ensures.missing

pub find_link-requires : goal.find_link-requires
find_link-requires c = begin_reach_link (declared_by c.args.script.now) c.args.held.now.parts c.args.number c.args.w c.requires

pub returns-in-Err-find_link : goal.returns-in-Err-find_link
returns-in-Err-find_link c = begin_needs_link (declared_by c.args.script.now) c.args.held.now.parts c.args.number c.args.w c.requires c.in-Err-find_link.place c.in-Err-find_link.ensures.missing

pub find_pane-requires : goal.find_pane-requires
find_pane-requires c = begin_reach_pane (declared_by c.args.script.now) c.args.held.now.parts c.args.number c.args.w c.requires

pub returns-in-Err-find_pane : goal.returns-in-Err-find_pane
returns-in-Err-find_pane c = begin_needs_pane (declared_by c.args.script.now) c.args.held.now.parts c.args.number c.args.w c.requires c.in-Err-find_pane.place c.in-Err-find_pane.ensures.missing

pub returns-then-len-gt0 : goal.returns-then-len-gt0
returns-then-len-gt0 c =
    begin_waits (declared_by c.args.script.now) c.args.held.now.parts c.args.number c.args.w c.requires c.in_default.field-0.now c.in-Ok-find_pane.pane.now c.in-Ok.link.now c.in_default.ensures.there c.in-Ok.ensures.there
    c.in-Ok-find_pane.ensures.there c.link.result.now c.link.ensures
    (some_linked _ _ c.len.ensures.len c.if-len-gt0.true)

pub returns : goal.returns
returns c =
    begins_it (declared_by c.args.script.now) c.args.held.now.parts c.args.number c.args.w c.requires c.in_default.field-0.now c.in-Ok-find_pane.pane.now c.in-Ok.link.now c.in_default.ensures.there c.in-Ok.ensures.there
    c.in-Ok-find_pane.ensures.there c.link.result.now c.link.ensures
    c.a_pane_is_found_as_its_window.ensures c.waiting_pixels_are_listed.ensures (none_linked _ _ c.len.ensures.len c.if-len-gt0.false)
    c.pane.result.now c.pane.ensures c.is_clean-opens.result
    (subst (λ (spans : Spans). IsTrue c.is_clean-opens.result ↔ IsClean spans) c.spans.ensures c.is_clean-opens.ensures.pixels)
