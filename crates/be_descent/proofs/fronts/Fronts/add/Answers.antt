use Rattle.std.proofs.Common.{◌≡◌, ◌<◌, ◌∙◌, true, false, length, SFits, w32, rules, arith, sym, ap}
use Rattle.be_geom.specs.Numbers.{is_number}
use Rattle.be_views.specs.Trees.{parent_of}
use Rattle.be_descent.proofs.AddLemmas.{rest_added, rest_passed, lying_one, lying_none}
use Rattle.be_descent.proofs.fronts.Fronts.add.Goals as goal
use Rattle.be_descent.proofs.fronts.Fronts.add.Goals.{then-lies_in, else-lies_in}

pub add_frame-requires-clause-room : goal.add_frame-requires-clause-room
add_frame-requires-clause-room c =
    let before = c.loop-view-test.true in
    let end = c.requires.end in
    let less : c.loop-view.view < length c.args.tree.now = omega (arith, before, end) in
    let lies : is_number c.args.parent (parent_of c.args.tree.now c.loop-view.view) ≡ true =
    ap (is_number c.args.parent) (sym c.parent.ensures.parent) ∙ sym c.lies_in.ensures
    ∙ c.if-lies_in.true in
    let one = lying_one c.args.tree.now c.loop-view.view c.args.parent less lies in
    let room = c.loop-view.invariant.room in
    let all = c.requires.room in
    omega (arith, one, room, all)

pub loop-view-preserved : goal.loop-view-preserved
loop-view-preserved c =
    let dx : SFits w32 c.args.way.right = search rules in
    let dy : SFits w32 c.args.way.down = search rules in
    let before = c.loop-view-test.true in
    let end = c.requires.end in
    let less : c.loop-view.view < length c.args.tree.now = omega (arith, before, end) in
    let room = c.loop-view.invariant.room in
    let is = ap (is_number c.args.parent) (sym c.parent.ensures.parent) ∙ sym c.lies_in.ensures in
    elim c.if-lies_in.branch [
      | then-lies_in w ↦
          let lies : is_number c.args.parent (parent_of c.args.tree.now c.loop-view.view) ≡ true =
          is ∙ w.if-lies_in.true in
          let one = lying_one c.args.tree.now c.loop-view.view c.args.parent less lies in
          let few = w.add_frame.ensures.few in
          rw w.self-is record {
            room = omega (arith, one, few, room);
            pixels = λ x y has. rest_added c.loop-view.self w.add_frame.new.self c.args.tree.now
                c.loop-view.view c.args.parent c.args.way c.args.area less lies
                w.add_frame.ensures.pixels x y has ∙ c.loop-view.invariant.pixels x y has;
          }
      | else-lies_in w ↦
          let lies : is_number c.args.parent (parent_of c.args.tree.now c.loop-view.view) ≡ false =
          is ∙ w.if-lies_in.false in
          let one = lying_none c.args.tree.now c.loop-view.view c.args.parent less lies in
          rw w.self-is record {
            room = omega (arith, one, room);
            pixels = λ x y has. rest_passed c.loop-view.self c.args.tree.now c.loop-view.view
                c.args.parent c.args.way less lies x y ∙ c.loop-view.invariant.pixels x y has;
          }
    ]
