use Rattle.std.proofs.Common.{◌≡◌, ◌≤◌, ℕ, ◌+◌, Bool, true, false, List, length, map, get_or}
use Rattle.std.proofs.Common.{refl, sym, subst, ◌∙◌, arith}
use Rattle.be_machine.specs.History.{IsFinished, state_after}
use Rattle.be_machine.specs.declared.Entry.{Entry}
use Rattle.be_noted.proofs.Lawful.{budgets_of, means_of}
use Rattle.be_check.specs.Following.{Follows}
use Rattle.be_parts.specs.Parts.{meaning_of}
use Rattle.be_rules.specs.Rules.{IsSound}
use Rattle.be_rules.specs.Slices.{slices}
use Rattle.be_runs.proofs.Left.{traces_are}
use Rattle.be_runs.specs.Runs.{told_in}
use Rattle.be_script.specs.Limits.{IsWithinLimits}
use Rattle.be_script.specs.Script.{Declared}
use Rattle.be_script.specs.Work.{work_of}
use Rattle.be_written.specs.Notings.{AreTold}
use Rattle.be_check.specs.Checking.{IsIllegalAt}
use Rattle.be_check.specs.Stepping.{IsMadeNoted, IsTriedNoted}
use Rattle.be_check.proofs.Coming.{HasCome, come_further, come_opening, illegal_here, is_finished}
use Rattle.be_check.proofs.Coming.{missing_stop, parts_are}
use Rattle.be_check.proofs.Noting.{IsLed, fits_back, led_first, led_further, ran}
use Rattle.be_check.proofs.checking.check.Goals as goal

pub loop-entry-init : goal.loop-entry-init
loop-entry-init c =
    let d = c.new-noting.result in
    let h = c.as_slice-entries.result.now in
    let xs = c.in_ok-opening.opening.items in
    let parts = c.whole-held.result.parts in
    let opens = c.in_ok-opening.ensures in
    record {
      counted = refl;
      within = omega arith;
      come =
          subst (λ (it : Declared). HasCome it h 0 parts) c.new-noting.ensures
          (come_opening d h xs opens.meant (subst (IsSound d) (means_of xs) opens.sound)
          (subst (λ (n : ℕ). n ≤ work_of d) (budgets_of d xs) opens.budgets)
          (fits_back d 0 xs opens.fits) opens.logs parts c.whole-held.ensures);
      led =
          subst (λ (it : Declared). IsLed it h 0 parts) c.new-noting.ensures
          (led_first d h xs opens.meant opens.notes parts c.whole-held.ensures);
    }

pub note_if_legal-requires : goal.note_if_legal-requires
note_if_legal-requires c =
    subst (λ (it : Declared). Follows it c.loop-entry.held.parts c.loop-entry.made)
    (sym c.new-noting.ensures) c.loop-entry.invariant.come.follows

pub loop-entry-preserved : goal.loop-entry-preserved
loop-entry-preserved c =
    let d = c.args.world in
    let h = c.as_slice-entries.result.now in
    let e = c.entry-item.result in
    let n = c.loop-entry.made in
    let old = c.loop-entry.held.parts in
    let new = c.note_if_legal.new.held.parts in
    let counted = c.loop-entry.invariant.counted in
    let here : n ≡ c.loop-entry.entry-index = c.loop-entry.invariant.counted in
    let tried : IsMadeNoted d e n old new =
    subst (λ (b : Bool). IsTriedNoted d e n old new b) c.if-not-legal.false
    (subst (λ (it : Declared). IsTriedNoted it e n old new c.in_ok-legal.legal)
    c.new-noting.ensures c.in_ok-legal.ensures) in
    record {
      counted = omega arith;
      within = omega (arith, c.loop-entry-test.true);
      come =
          come_further d h n e (omega (arith, c.loop-entry-test.true))
          (subst (λ (k : ℕ). e ≡ get_or h k e) (sym here) c.entry-item.is) old
          c.loop-entry.invariant.come new
          tried.made;
      led =
          led_further d h n e (omega (arith, c.loop-entry-test.true))
          (subst (λ (k : ℕ). e ≡ get_or h k e) (sym here) c.entry-item.is) old new
          c.loop-entry.invariant.led tried.noted;
    }

pub returns-then-not-legal-clause-fault : goal.returns-then-not-legal-clause-fault
returns-then-not-legal-clause-fault c =
    let d = c.args.world in
    let h = c.as_slice-entries.result.now in
    let e = c.entry-item.result in
    let n = c.loop-entry.made in
    let old = c.loop-entry.held.parts in
    let new = c.note_if_legal.new.held.parts in
    let here : n ≡ c.loop-entry.entry-index = c.loop-entry.invariant.counted in
    subst (λ (l : List Entry). IsIllegalAt d l (n + 1)) c.as_slice-entries.ensures.value
    (illegal_here d h n e (omega (arith, c.loop-entry-test.true))
    (subst (λ (k : ℕ). e ≡ get_or h k e) (sym here) c.entry-item.is) old c.loop-entry.invariant.come
    (subst (λ (b : Bool). IsTriedNoted d e n old new b) c.if-not-legal.true
    (subst (λ (it : Declared). IsTriedNoted it e n old new c.in_ok-legal.legal)
    c.new-noting.ensures c.in_ok-legal.ensures)))

pub returns-then-not-ends_in_stop-clause-fault : goal.returns-then-not-ends_in_stop-clause-fault
returns-then-not-ends_in_stop-clause-fault c =
    let d = c.args.world in
    let h = c.as_slice-entries.result.now in
    let n = c.loop-entry.made in
    let counted = c.loop-entry.invariant.counted in
    let within = c.loop-entry.invariant.within in
    let whole : n ≡ length h = omega (arith, c.loop-entry-test.false) in
    subst (λ (l : List Entry). IsIllegalAt d l (n + 1)) c.as_slice-entries.ensures.value
    (missing_stop d h n whole c.loop-entry.held.parts c.loop-entry.invariant.come
    (λ ends. let odd : true ≡ false =
    sym (c.ends_in_stop.ensures.1 ends) ∙ c.if-not-ends_in_stop.true in cc))

pub returns-clause-leaves : goal.returns-clause-leaves
returns-clause-leaves c =
    let d = c.args.world in
    let h = c.as_slice-entries.result.now in
    let n = c.loop-entry.made in
    let counted = c.loop-entry.invariant.counted in
    let within = c.loop-entry.invariant.within in
    let whole : n ≡ length h = omega (arith, c.loop-entry-test.false) in
    let same = c.as_slice-entries.ensures.value in
    let parts = c.loop-entry.held.parts in
    let come = c.loop-entry.invariant.come in
    let led = c.loop-entry.invariant.led in
    let ends = c.ends_in_stop.ensures.0 c.if-not-ends_in_stop.false in
    let finished : IsFinished d h = is_finished d h n whole parts come ends in
    let limits : IsWithinLimits d = come.follows.sound.limits in
    let left = c.into_parts.result.items in
    record {
      world = c.into_world.ensures ∙ c.new-noting.ensures;
      finished = subst (IsFinished d) same finished;
      parts =
          subst (λ (l : List Entry). map meaning_of c.into_parts.result.items
          ≡ slices d (state_after d l)) same
          (parts_are d h n whole parts come c.into_parts.result.items c.into_parts.ensures);
      traces =
          subst (λ (l : List Entry). AreTold d l (told_in d left)) same
          (traces_are d limits led.opening led.opens led.blank h left
          (ran d h n whole parts led finished ends limits left c.into_parts.ensures));
    }
