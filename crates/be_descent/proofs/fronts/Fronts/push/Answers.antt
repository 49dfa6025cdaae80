use Rattle.std.proofs.Common.{◌≡◌, ◌<◌, length, rules, arith, ap}
use Rattle.std.proofs.lemmas.List.{length-take}
use Rattle.be_descent.proofs.FrameLemmas.{one_pushed}
use Rattle.be_descent.proofs.fronts.Fronts.push.Goals as goal

pub invariant_of-self : goal.invariant_of-self
invariant_of-self c =
    let frames = c.self.inside.frames in
    let count = c.self.inside.count in
    let long : length frames ≡ 31 = search rules in
    let is = ap length c.self.view_is in
    let taken = length-take count frames in
    let room = c.requires.room in
    let few : count < length frames = omega (arith, long, is, taken, room) in (
      omega (arith, few, long),
      one_pushed frames count c.args.frame few c.requires.some
          c.self.invariant.1,
    )
