use Rattle.std.proofs.Common.{◌≡◌, ℕ, Bool, true, false, length, get_or}
use Rattle.std.proofs.Common.{refl, sym, subst, ◌∙◌, arith}
use Rattle.be_script.specs.Script.{declared_by}
use Rattle.be_check.specs.Stepping.{IsMade, IsTried}
use Rattle.be_check.proofs.Coming.{come_opening, illegal_here, is_finished, missing_stop}
use Rattle.be_check.proofs.Gathering.{gather_first, gather_next, gathered}
use Rattle.be_check.proofs.Watched.{all_of}
use Rattle.be_check.proofs.taking.taken.Goals as goal

pub loop-entry-init : goal.loop-entry-init
loop-entry-init c =
    let d = c.args.world.now in
    let h = c.args.history.now in
    let opens = c.in_ok-opening.ensures in
    let parts = c.whole-held.result.parts in
    record {
      counted = refl;
      within = omega arith;
      gathers =
          gather_first d h parts c.new-letters.result.items c.new-letters.ensures.items
          (come_opening d h c.in_ok-opening.opening.items opens.meant opens.sound opens.budgets
          opens.fits opens.logs parts c.whole-held.ensures);
    }

pub add_taken-requires : goal.add_taken-requires
add_taken-requires c =
    all_of c.args.world.now c.args.history.now (declared_by c.script-script.result.now)
    c.script-script.ensures.declared c.loop-entry.made c.loop-entry.held.parts
    c.loop-entry.invariant.gathers.come

pub make_if_legal-requires : goal.make_if_legal-requires
make_if_legal-requires c = c.loop-entry.invariant.gathers.come.follows

pub loop-entry-preserved : goal.loop-entry-preserved
loop-entry-preserved c =
    let d = c.args.world.now in
    let h = c.args.history.now in
    let e = c.entry-item.result in
    let n = c.loop-entry.made in
    let old = c.loop-entry.held.parts in
    let new = c.make_if_legal.new.held.parts in
    let counted = c.loop-entry.invariant.counted in
    let here : n ≡ c.loop-entry.entry-index = c.loop-entry.invariant.counted in
    let made : IsMade d e n old new =
    subst (λ (b : Bool). IsTried d e n old new b) c.if-not-legal.false c.in_ok-legal.ensures in
    record {
      counted = omega arith;
      within = omega (arith, c.loop-entry-test.true);
      gathers =
          gather_next d h n e (omega (arith, c.loop-entry-test.true))
          (subst (λ (k : ℕ). e ≡ get_or h k e) (sym here) c.entry-item.is) old new made
          c.loop-entry.letters.items c.add_taken.new.letters.items c.loop-entry.invariant.gathers
          (declared_by c.script-script.result.now) c.script-script.ensures.declared
          c.in_ok-add_taken.ensures;
    }

pub returns-then-not-legal-clause-fault : goal.returns-then-not-legal-clause-fault
returns-then-not-legal-clause-fault c =
    let d = c.args.world.now in
    let h = c.args.history.now in
    let e = c.entry-item.result in
    let n = c.loop-entry.made in
    let old = c.loop-entry.held.parts in
    let new = c.make_if_legal.new.held.parts in
    let here : n ≡ c.loop-entry.entry-index = c.loop-entry.invariant.counted in
    illegal_here d h n e (omega (arith, c.loop-entry-test.true))
    (subst (λ (k : ℕ). e ≡ get_or h k e) (sym here) c.entry-item.is) old
    c.loop-entry.invariant.gathers.come
    (subst (λ (b : Bool). IsTried d e n old new b) c.if-not-legal.true c.in_ok-legal.ensures)

pub returns-then-not-ends_in_stop-clause-fault : goal.returns-then-not-ends_in_stop-clause-fault
returns-then-not-ends_in_stop-clause-fault c =
    let d = c.args.world.now in
    let h = c.args.history.now in
    let n = c.loop-entry.made in
    let counted = c.loop-entry.invariant.counted in
    let within = c.loop-entry.invariant.within in
    let whole : n ≡ length h = omega (arith, c.loop-entry-test.false) in
    missing_stop d h n whole c.loop-entry.held.parts c.loop-entry.invariant.gathers.come
    (λ ends. let odd : true ≡ false =
    sym (c.ends_in_stop.ensures.1 ends) ∙ c.if-not-ends_in_stop.true in cc)

pub returns-clause-finished : goal.returns-clause-finished
returns-clause-finished c =
    let d = c.args.world.now in
    let h = c.args.history.now in
    let n = c.loop-entry.made in
    let counted = c.loop-entry.invariant.counted in
    let within = c.loop-entry.invariant.within in
    let whole : n ≡ length h = omega (arith, c.loop-entry-test.false) in
    is_finished d h n whole c.loop-entry.held.parts c.loop-entry.invariant.gathers.come
    (c.ends_in_stop.ensures.0 c.if-not-ends_in_stop.false)

pub returns-clause-letters : goal.returns-clause-letters
returns-clause-letters c =
    let d = c.args.world.now in
    let h = c.args.history.now in
    let n = c.loop-entry.made in
    let counted = c.loop-entry.invariant.counted in
    let within = c.loop-entry.invariant.within in
    let whole : n ≡ length h = omega (arith, c.loop-entry-test.false) in
    gathered d h n whole c.loop-entry.held.parts c.loop-entry.letters.items
    c.loop-entry.invariant.gathers
