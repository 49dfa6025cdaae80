use Rattle.std.proofs.Common.{SFits, w16, rules}
use Rattle.std.proofs.lemmas.Int.{to_z-of_z}
use Rattle.be_shape.proofs.frame.rows_of.Goals as goal

pub returns-clause-some : goal.returns-clause-some
returns-clause-some c =
    let f1 : SFits w16 c.args.rect.top = search rules in
    let f3 : SFits w16 c.args.rect.bottom = search rules in
    let edges = c.in_ok-rows_of.ensures.some in
    record {
      sound = c.swept.ensures.sound;
      across = edges.across;
      down = edges.down;
      all = simp to_z-of_z at c.swept.ensures.all;
    }
