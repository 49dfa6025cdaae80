use Rattle.std.proofs.Common.{◌≡◌, ℕ, ◌+◌, Bool, true, false, length, get_or}
use Rattle.std.proofs.Common.{refl, sym, ap, subst, ◌∙◌, arith, rules}
use Rattle.std.specs.Prelude.{pos}
use Rattle.be_machine.specs.Pixels.{color_at}
use Rattle.be_check.specs.Following.{state_in}
use Rattle.be_script.specs.Script.{Declared, declared_by}
use Rattle.be_check.specs.Stepping.{IsMade, IsTried}
use Rattle.be_check.proofs.Coming.{come_further, come_opening, illegal_here, is_finished}
use Rattle.be_check.proofs.Coming.{missing_stop}
use Rattle.be_check.proofs.Watched.{all_of, still, watch_first, watch_next, watched}
use Rattle.be_check.proofs.explaining.explain.Goals as goal

pub color_of-color-requires : goal.color_of-color-requires
color_of-color-requires c =
    let d = c.args.world.now in
    let h = c.args.history.now in
    let opens = c.in_ok-opening.ensures in
    let parts = c.whole-held.result.parts in
    all_of d h (declared_by c.script-script.result.now) c.script-script.ensures.declared 0 parts
    (come_opening d h c.in_ok-opening.opening.items opens.meant opens.sound opens.budgets opens.fits
    opens.logs parts c.whole-held.ensures)

pub loop-entry-init : goal.loop-entry-init
loop-entry-init c =
    let d = c.args.world.now in
    let h = c.args.history.now in
    let x = c.args.x in
    let y = c.args.y in
    let opens = c.in_ok-opening.ensures in
    let parts = c.whole-held.result.parts in
    record {
      counted = refl;
      within = omega arith;
      watch =
          watch_first d h x y parts c.color_of-color.result
          (come_opening d h c.in_ok-opening.opening.items opens.meant opens.sound opens.budgets
          opens.fits opens.logs parts c.whole-held.ensures)
          (c.color_of-color.ensures
          ∙ ap (λ (z : Declared). color_at (state_in z parts) (pos x) (pos y))
          c.script-script.ensures.declared);
    }

pub make_if_legal-requires : goal.make_if_legal-requires
make_if_legal-requires c = c.loop-entry.invariant.watch.come.follows

pub seen_behind-seen-requires-clause-all : goal.seen_behind-seen-requires-clause-all
seen_behind-seen-requires-clause-all c =
    let d = c.args.world.now in
    let h = c.args.history.now in
    let e = c.entry-item.result in
    let n = c.loop-entry.made in
    let old = c.loop-entry.held.parts in
    let new = c.make_if_legal.new.held.parts in
    let here : n ≡ c.loop-entry.entry-index = c.loop-entry.invariant.counted in
    let made : IsMade d e n old new =
    subst (λ (b : Bool). IsTried d e n old new b) c.if-not-legal.false c.in_ok-legal.ensures in
    all_of d h (declared_by c.script-script.result.now) c.script-script.ensures.declared (n + 1) new
    (come_further d h n e (omega (arith, c.loop-entry-test.true))
    (subst (λ (k : ℕ). e ≡ get_or h k e) (sym here) c.entry-item.is) old
    c.loop-entry.invariant.watch.come new made)

pub seen_behind-seen-requires-clause-quiet : goal.seen_behind-seen-requires-clause-quiet
seen_behind-seen-requires-clause-quiet c = λ quiet.
    let d = c.args.world.now in
    let h = c.args.history.now in
    let x = c.args.x in
    let y = c.args.y in
    let e = c.entry-item.result in
    let n = c.loop-entry.made in
    let old = c.loop-entry.held.parts in
    let new = c.make_if_legal.new.held.parts in
    let here : n ≡ c.loop-entry.entry-index = c.loop-entry.invariant.counted in
    let made : IsMade d e n old new =
    subst (λ (b : Bool). IsTried d e n old new b) c.if-not-legal.false c.in_ok-legal.ensures in
    still d h x y n e (omega (arith, c.loop-entry-test.true))
    (subst (λ (k : ℕ). e ≡ get_or h k e) (sym here) c.entry-item.is) old new made
    c.loop-entry.seen.color c.loop-entry.seen.last c.loop-entry.invariant.watch quiet
    ∙ ap (λ (z : Declared). color_at (state_in z new) (pos x) (pos y))
    (sym c.script-script.ensures.declared)

pub loop-entry-preserved : goal.loop-entry-preserved
loop-entry-preserved c =
    let d = c.args.world.now in
    let h = c.args.history.now in
    let x = c.args.x in
    let y = c.args.y in
    let e = c.entry-item.result in
    let n = c.loop-entry.made in
    let old = c.loop-entry.held.parts in
    let new = c.make_if_legal.new.held.parts in
    let counted = c.loop-entry.invariant.counted in
    let here : n ≡ c.loop-entry.entry-index = c.loop-entry.invariant.counted in
    let made : IsMade d e n old new =
    subst (λ (b : Bool). IsTried d e n old new b) c.if-not-legal.false c.in_ok-legal.ensures in
    record {
      counted = omega arith;
      within = omega (arith, c.loop-entry-test.true);
      watch =
          watch_next d h x y n e (omega (arith, c.loop-entry-test.true))
          (subst (λ (k : ℕ). e ≡ get_or h k e) (sym here) c.entry-item.is) old new made
          c.loop-entry.seen.color c.loop-entry.seen.last c.loop-entry.invariant.watch
          c.seen_behind-seen.result.color c.seen_behind-seen.result.last
          (c.seen_behind-seen.ensures.color
          ∙ ap (λ (z : Declared). color_at (state_in z new) (pos x) (pos y))
          c.script-script.ensures.declared)
          c.seen_behind-seen.ensures.last;
    }

pub returns-then-not-legal-clause-fault : goal.returns-then-not-legal-clause-fault
returns-then-not-legal-clause-fault c =
    let d = c.args.world.now in
    let h = c.args.history.now in
    let e = c.entry-item.result in
    let n = c.loop-entry.made in
    let old = c.loop-entry.held.parts in
    let new = c.make_if_legal.new.held.parts in
    let here : n ≡ c.loop-entry.entry-index = c.loop-entry.invariant.counted in
    illegal_here d h n e (omega (arith, c.loop-entry-test.true))
    (subst (λ (k : ℕ). e ≡ get_or h k e) (sym here) c.entry-item.is) old
    c.loop-entry.invariant.watch.come
    (subst (λ (b : Bool). IsTried d e n old new b) c.if-not-legal.true c.in_ok-legal.ensures)

pub returns-then-not-ends_in_stop-clause-fault : goal.returns-then-not-ends_in_stop-clause-fault
returns-then-not-ends_in_stop-clause-fault c =
    let d = c.args.world.now in
    let h = c.args.history.now in
    let n = c.loop-entry.made in
    let counted = c.loop-entry.invariant.counted in
    let within = c.loop-entry.invariant.within in
    let whole : n ≡ length h = omega (arith, c.loop-entry-test.false) in
    missing_stop d h n whole c.loop-entry.held.parts c.loop-entry.invariant.watch.come
    (λ ends. let odd : true ≡ false =
    sym (c.ends_in_stop.ensures.1 ends) ∙ c.if-not-ends_in_stop.true in cc)

pub returns-clause-finished : goal.returns-clause-finished
returns-clause-finished c =
    let d = c.args.world.now in
    let h = c.args.history.now in
    let n = c.loop-entry.made in
    let counted = c.loop-entry.invariant.counted in
    let within = c.loop-entry.invariant.within in
    let whole : n ≡ length h = omega (arith, c.loop-entry-test.false) in
    is_finished d h n whole c.loop-entry.held.parts c.loop-entry.invariant.watch.come
    (c.ends_in_stop.ensures.0 c.if-not-ends_in_stop.false)

pub returns-clause-explained : goal.returns-clause-explained
returns-clause-explained c =
    let d = c.args.world.now in
    let h = c.args.history.now in
    let n = c.loop-entry.made in
    let counted = c.loop-entry.invariant.counted in
    let within = c.loop-entry.invariant.within in
    let whole : n ≡ length h = omega (arith, c.loop-entry-test.false) in
    let told =
    watched d h c.args.x c.args.y n whole c.loop-entry.held.parts c.loop-entry.seen.color
    c.loop-entry.seen.last c.loop-entry.invariant.watch in
    search (rules, told)
