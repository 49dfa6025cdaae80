use Rattle.std.proofs.Common.{◌≡◌, ◌<◌, ◌≤◌, ◌-◌, ℤ, ◌+ℤ◌, Bool, ◌&&◌, List, length, SFits}
use Rattle.std.proofs.Common.{w32, rules, arith}
use Rattle.std.proofs.Common.{refl, sym, ap, subst}
use Rattle.std.proofs.lemmas.Int.{to_z-of_z}
use Rattle.be_geom.specs.declared.rect.Rect.{Rect}
use Rattle.be_geom.specs.Rects.{rect_has}
use Rattle.be_span.specs.Runs.{IsSpanOf}
use Rattle.be_state.specs.Stacks.{from_oldest}
use Rattle.be_state.proofs.StackLemmas.{number_of_layers}
use Rattle.be_descent.specs.declared.way.Way.{Way}
use Rattle.be_descent.specs.Clips.{first_hold}
use Rattle.be_descent.specs.Places.{lies_at}
use Rattle.be_descent.proofs.ClipLemmas.{clip_more, in_turn, none_held, none_more, there}
use Rattle.be_descent.proofs.CutLemmas.{inside_of}
use Rattle.be_descent.proofs.FitLemmas.{sum_fits}
use Rattle.be_descent.proofs.PaintLemmas.{all_to, next_to, none_yet, same_painted}
use Rattle.be_descent.proofs.clipping.+within_first.Goals as goal

pub returns-then-count-eq0 : goal.returns-then-count-eq0
returns-then-count-eq0 g t c =
    let at : ℤ → ℤ → Bool = g.L.Lay.at c.args.next.now in
    let area = c.args.area in
    let none : c.args.count ≡ 0 = (let e = c.if-count-eq0.true in omega (arith, e)) in
    same_painted (g.L.Lay.rule c.args.next.now) (λ x y. rect_has area x y && at x y)
    (λ x y. rect_has area x y && (first_hold c.args.states.now c.args.count c.args.corner x y
    && at x y)) c.args.spans.now c.lay.new.spans
    (λ x y. none_held c.args.states.now c.args.count c.args.corner x y (rect_has area x y) (at x y)
    none) c.lay.ensures

pub returns-in_default : goal.returns-in_default
returns-in_default g t c =
    let at : ℤ → ℤ → Bool = g.L.Lay.at c.args.next.now in
    let area = c.args.area in
    let states = c.args.states.now in
    let some = c.if-count-eq0.false in
    let count = c.requires.count in
    let long = number_of_layers states in
    let more : 0 < c.args.count = omega (arith, some) in
    let within : c.args.count ≤ length (from_oldest states) = omega (arith, count, long) in
    let layer = there (from_oldest states) (c.args.count - 1) (omega (arith, more, within)) in
    let none = c.in_default.ensures.clip layer.0 layer.1 in
    same_painted (g.L.Lay.rule c.args.next.now)
    (λ x y. rect_has area x y && (first_hold states (c.args.count - 1) c.args.corner x y && at x y))
    (λ x y. rect_has area x y && (first_hold states c.args.count c.args.corner x y && at x y))
    c.args.spans.now c.within_first.new.spans
    (λ x y. ap (λ b. rect_has area x y && (b && at x y))
    (none_more states c.args.count c.args.corner layer.0 x y more within layer.1 none))
    c.within_first.ensures

pub loop-found-init : goal.loop-found-init
loop-found-init g t c =
    let corner = c.args.corner in
    let clip = c.in-Some.clip in
    let right : SFits w32 corner.right = search rules in
    let down : SFits w32 corner.down = search rules in
    let across : SFits w32 clip.right = search rules in
    let under : SFits w32 clip.down = search rules in
    let near = c.requires.near in
    let far = c.in-Some.ensures.near in
    let sum = sum_fits corner.right clip.right near.0 far.0 in
    let low = sum_fits corner.down clip.down near.1 far.1 in
    let way : Way = record { right = corner.right +ℤ clip.right; down = corner.down +ℤ clip.down }
    in
    let rest : ℤ → ℤ → Bool = λ x y.
    first_hold c.args.states.now (c.args.count - 1) corner x y
    && g.L.Lay.at c.args.next.now x y in
    simp to_z-of_z record {
      within = omega arith;
      done = none_yet (g.L.Lay.rule c.args.next.now) clip.region.now way c.args.area rest
          c.args.spans.now;
    }

pub within_first-requires-in-Some-next_in : goal.within_first-requires-in-Some-next_in
within_first-requires-in-Some-next_in g t c κs within =
    let some = c.if-count-eq0.false in
    let less = c.decreases in
    let next = c.in-Some-next_in.ensures.some in
    let count = c.requires.count in
    let span = subst (λ (rs : List Rect). IsSpanOf rs c.args.span)
    (sym c.loop-found.invariant.done.region) c.requires.span in (
      omega (arith, some, less),
      (
        (λ a m. search rules),
        (
          omega (arith, some, count),
          (
            c.requires.near,
            (
              span,
              inside_of c.in-Some-next_in.found.part c.args.area c.args.span.rect next.some
                  next.inside c.requires.inside,
            ),
          ),
        ),
      ),
    )

pub loop-found-preserved : goal.loop-found-preserved
loop-found-preserved g t c =
    let next = c.in-Some-next_in.ensures.some in
    record {
      within = next.there;
      done = next_to (g.L.Lay.rule c.args.next.now) c.in-Some.clip.region.now c.loop-found.place _
          c.args.area c.in-Some-next_in.found _ c.args.spans.now c.loop-found.spans
          c.within_first-in-Some-next_in.new.spans next c.loop-found.invariant.done
          c.within_first-in-Some-next_in.ensures;
    }

pub returns : goal.returns
returns g t c =
    let at : ℤ → ℤ → Bool = g.L.Lay.at c.args.next.now in
    let area = c.args.area in
    let states = c.args.states.now in
    let corner = c.args.corner in
    let clip = c.in-Some.clip in
    let some = c.if-count-eq0.false in
    let count = c.requires.count in
    let long = number_of_layers states in
    let more : 0 < c.args.count = omega (arith, some) in
    let within : c.args.count ≤ length (from_oldest states) = omega (arith, count, long) in
    let layer = there (from_oldest states) (c.args.count - 1) (omega (arith, more, within)) in
    let shown = c.in-Some.ensures.clip layer.0 layer.1 in
    let right : SFits w32 corner.right = search rules in
    let down : SFits w32 corner.down = search rules in
    let across : SFits w32 clip.right = search rules in
    let under : SFits w32 clip.down = search rules in
    let near = c.requires.near in
    let far = c.in-Some.ensures.near in
    let sum = sum_fits corner.right clip.right near.0 far.0 in
    let low = sum_fits corner.down clip.down near.1 far.1 in
    let way : Way = record { right = corner.right +ℤ clip.right; down = corner.down +ℤ clip.down }
    in
    let rest : ℤ → ℤ → Bool = λ x y. first_hold states (c.args.count - 1) corner x y && at x y in
    let done = simp to_z-of_z at c.loop-found.invariant.done in
    let none = simp to_z-of_z at c.in_default-next_in.ensures.none in
    same_painted (g.L.Lay.rule c.args.next.now)
    (λ x y. rect_has area x y && (lies_at clip.region.now way x y && rest x y))
    (λ x y. rect_has area x y && (first_hold states c.args.count corner x y && at x y))
    c.args.spans.now c.loop-found.spans
    (λ x y. in_turn (rect_has area x y) (lies_at clip.region.now way x y)
    (first_hold states (c.args.count - 1) corner x y)
    (first_hold states c.args.count corner x y) (at x y)
    (clip_more states c.args.count corner way layer.0 clip x y more within layer.1 shown refl refl))
    (all_to (g.L.Lay.rule c.args.next.now) clip.region.now c.loop-found.place way area rest
    c.args.spans.now c.loop-found.spans none done)
