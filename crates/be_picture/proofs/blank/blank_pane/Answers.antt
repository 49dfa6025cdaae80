use Rattle.std.proofs.Common.{◌≡◌, ◌-◌, ◌-ℤ◌, pos, w16, to_z, arith}
use Rattle.std.proofs.lemmas.Int.{ints}
use Rattle.be_picture.proofs.BlankPanes.{filled_shows, filled_whole}
use Rattle.be_picture.proofs.blank.blank_pane.Goals as goal

pub returns-clause-whole : goal.returns-clause-whole
returns-clause-whole c =
    let right : to_z w16 (c.args.width - 1) ≡ pos c.args.width -ℤ pos 1 = omega (arith, ints) in
    let bottom : to_z w16 (c.args.height - 1) ≡ pos c.args.height -ℤ pos 1 = omega (arith, ints) in
    filled_whole c.args.width c.args.height (to_z w16 (c.args.width - 1))
    (to_z w16 (c.args.height - 1)) c.in_ok-pane.pane c.in_ok-pane-2.field-0 (record {
      sized = c.requires;
      right_is = right;
      bottom_is = bottom;
      whole = c.in_ok-pane.ensures.whole;
      stands = c.in_ok-pane.ensures.stands;
      pixels = c.in_ok-pane-2.ensures.pixels;
      cells = c.in_ok-pane-2.ensures.cells;
    })

pub returns-clause-shows : goal.returns-clause-shows
returns-clause-shows c =
    let right : to_z w16 (c.args.width - 1) ≡ pos c.args.width -ℤ pos 1 = omega (arith, ints) in
    let bottom : to_z w16 (c.args.height - 1) ≡ pos c.args.height -ℤ pos 1 = omega (arith, ints) in
    filled_shows c.args.width c.args.height (to_z w16 (c.args.width - 1))
    (to_z w16 (c.args.height - 1)) c.in_ok-pane.pane c.in_ok-pane-2.field-0 (record {
      sized = c.requires;
      right_is = right;
      bottom_is = bottom;
      whole = c.in_ok-pane.ensures.whole;
      stands = c.in_ok-pane.ensures.stands;
      pixels = c.in_ok-pane-2.ensures.pixels;
      cells = c.in_ok-pane-2.ensures.cells;
    })
