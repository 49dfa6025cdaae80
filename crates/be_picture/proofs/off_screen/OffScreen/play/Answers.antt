use Rattle.std.proofs.Common.{◌≡◌, ap, refl, subst, sym, ◌∙◌, true}
use Rattle.std.specs.Prelude.{All}
use Rattle.be_command.specs.Limits.{is_drawing}
use Rattle.be_picture.specs.OffScreens.{Shows, seen_as}
use Rattle.be_picture.specs.Playing.{OffScreen, played_on}
use Rattle.be_picture.proofs.Drawing.{all_draw, shows_played}
use Rattle.be_picture.proofs.Rests.{IsPlayed, is_played}
use Rattle.be_picture.proofs.off_screen.OffScreen.play.Goals as goal

pub execute-requires-clause-drawing : goal.execute-requires-clause-drawing
unfolding is_drawing
execute-requires-clause-drawing c = refl

pub execute-requires-2-clause-drawing : goal.execute-requires-2-clause-drawing
unfolding is_drawing
execute-requires-2-clause-drawing c = refl

pub execute_all-requires-clause-drawing : goal.execute_all-requires-clause-drawing
execute_all-requires-clause-drawing c =
    subst (All (λ d. is_drawing d ≡ true)) (sym c.into_commands.ensures)
    (all_draw c.args.picture c.pushes-pushes.ensures.recorded)

pub invariant_of-self : goal.invariant_of-self
invariant_of-self c =
    let off = seen_as c.self.inside.width c.self.inside.height c.self.inside.pane in
    let shows : Shows c.execute-2.new.pane (played_on c.args.bitmaps.now off c.args.picture) =
    shows_played c.args.bitmaps.now off c.args.picture c.into_commands.result.items
    c.pushes-pushes.result c.execute.new.pane c.execute_all.new.pane c.pop_all.new.pane
    c.execute-2.new.pane c.into_commands.ensures c.pushes-pushes.ensures.number
    (c.execute.ensures.shows off c.self.invariant.shows) c.execute_all.ensures.shows
    c.pop_all.ensures.shows c.execute-2.ensures.shows in
    let done : IsPlayed c.args.bitmaps.now c.self.inside.width c.self.inside.height
    c.self.inside.pane c.execute-2.new.pane c.args.picture =
    is_played _ _ _ _ _ _ c.self.invariant c.execute-2.ensures.whole
    c.pushes-pushes.ensures.recorded shows in
    done.rest

pub returns-clause-played : goal.returns-clause-played
returns-clause-played c =
    let off = seen_as c.self.inside.width c.self.inside.height c.self.inside.pane in
    let shows : Shows c.execute-2.new.pane (played_on c.args.bitmaps.now off c.args.picture) =
    shows_played c.args.bitmaps.now off c.args.picture c.into_commands.result.items
    c.pushes-pushes.result c.execute.new.pane c.execute_all.new.pane c.pop_all.new.pane
    c.execute-2.new.pane c.into_commands.ensures c.pushes-pushes.ensures.number
    (c.execute.ensures.shows off c.self.invariant.shows) c.execute_all.ensures.shows
    c.pop_all.ensures.shows c.execute-2.ensures.shows in
    let done : IsPlayed c.args.bitmaps.now c.self.inside.width c.self.inside.height
    c.self.inside.pane c.execute-2.new.pane c.args.picture =
    is_played _ _ _ _ _ _ c.self.invariant c.execute-2.ensures.whole
    c.pushes-pushes.ensures.recorded shows in
    done.seen ∙ ap (λ (o : OffScreen). played_on c.args.bitmaps.now o c.args.picture) c.self.view_is

pub returns-clause-stacks : goal.returns-clause-stacks
returns-clause-stacks c =
    let off = seen_as c.self.inside.width c.self.inside.height c.self.inside.pane in
    let shows : Shows c.execute-2.new.pane (played_on c.args.bitmaps.now off c.args.picture) =
    shows_played c.args.bitmaps.now off c.args.picture c.into_commands.result.items
    c.pushes-pushes.result c.execute.new.pane c.execute_all.new.pane c.pop_all.new.pane
    c.execute-2.new.pane c.into_commands.ensures c.pushes-pushes.ensures.number
    (c.execute.ensures.shows off c.self.invariant.shows) c.execute_all.ensures.shows
    c.pop_all.ensures.shows c.execute-2.ensures.shows in
    let done : IsPlayed c.args.bitmaps.now c.self.inside.width c.self.inside.height
    c.self.inside.pane c.execute-2.new.pane c.args.picture =
    is_played _ _ _ _ _ _ c.self.invariant c.execute-2.ensures.whole
    c.pushes-pushes.ensures.recorded shows in
    done.rest.stacks ∙ sym c.self.invariant.stacks
    ∙ ap (λ (o : OffScreen). o.pane.stacks) c.self.view_is
