use Rattle.std.proofs.Common.{SFits, w16, rules, arith}
use Rattle.std.proofs.lemmas.Int.{to_z-of_z, ints}
use Rattle.be_descent.proofs.CutLemmas.{apart_across, apart_down, apart_turned}
use Rattle.be_descent.proofs.cutting.are_apart.Goals as goal
use Rattle.be_descent.proofs.cutting.are_apart.Goals.{then-area-frame-via-then-area-frame}
use Rattle.be_descent.proofs.cutting.are_apart.Goals.{then-area-frame-via-else-area-frame+then-frame-area}

pub returns-then-area-frame-clause-apart : goal.returns-then-area-frame-clause-apart
returns-then-area-frame-clause-apart c e =
    let al : SFits w16 c.args.area.left = search rules in
    let ar : SFits w16 c.args.area.right = search rules in
    let fl : SFits w16 c.args.frame.left = search rules in
    let fr : SFits w16 c.args.frame.right = search rules in
    elim c.then-area-frame.branch [
      | then-area-frame-via-then-area-frame w ↦
          let test = simp to_z-of_z at w.if-area-frame.true in
          apart_across c.args.area c.args.frame (omega (arith, ints))
      | then-area-frame-via-else-area-frame+then-frame-area w ↦
          let test = simp to_z-of_z at w.if-frame-area.true in
          apart_turned c.args.frame c.args.area
          (apart_across c.args.frame c.args.area (omega (arith, ints)))
    ]

pub returns-then-area-frame-2-clause-apart : goal.returns-then-area-frame-2-clause-apart
returns-then-area-frame-2-clause-apart c e =
    let ab : SFits w16 c.args.area.bottom = search rules in
    let ft : SFits w16 c.args.frame.top = search rules in
    let test = simp to_z-of_z at c.if-area-frame-2.true in
    apart_down c.args.area c.args.frame (omega (arith, ints))

pub returns-else-area-frame-2-clause-apart : goal.returns-else-area-frame-2-clause-apart
returns-else-area-frame-2-clause-apart c e =
    let at : SFits w16 c.args.area.top = search rules in
    let fb : SFits w16 c.args.frame.bottom = search rules in
    let test = simp to_z-of_z at e in
    apart_turned c.args.frame c.args.area
    (apart_down c.args.frame c.args.area (omega (arith, ints)))

pub returns-else-area-frame-2-clause-meet : goal.returns-else-area-frame-2-clause-meet
returns-else-area-frame-2-clause-meet c e =
    let al : SFits w16 c.args.area.left = search rules in
    let ar : SFits w16 c.args.area.right = search rules in
    let at : SFits w16 c.args.area.top = search rules in
    let ab : SFits w16 c.args.area.bottom = search rules in
    let fl : SFits w16 c.args.frame.left = search rules in
    let fr : SFits w16 c.args.frame.right = search rules in
    let ft : SFits w16 c.args.frame.top = search rules in
    let fb : SFits w16 c.args.frame.bottom = search rules in
    let t0 = simp to_z-of_z at c.if-area-frame.false in
    let t1 = simp to_z-of_z at c.if-frame-area.false in
    let t2 = simp to_z-of_z at c.if-area-frame-2.false in
    let t3 = simp to_z-of_z at e in
    record {
      left = omega (arith, ints);
      right = omega (arith, ints);
      top = omega (arith, ints);
      bottom = omega (arith, ints);
    }
