-- Two states after legal histories of one script, and what a want reads of them.
use Rattle.std.proofs.Common.{◌≡◌, List, Some}
use Rattle.std.specs.Prelude.{ℤ}
use Rattle.be_script.specs.Limits.{IsWithinLimits}
use Rattle.be_script.specs.Script.{Declared}
use Rattle.be_machine.specs.declared.Act.{Act}
use Rattle.be_machine.specs.declared.Entry.{Entry}
use Rattle.be_machine.specs.History.{IsLegalHistory, state_after}
use Rattle.be_machine.specs.Legal.{want_act}
use Rattle.be_machine.specs.State.{State, opening_state}
use Rattle.be_machine.specs.Step.{met}
use Rattle.be_machine.specs.Touched.{Part, SamePart, Touches}
use Rattle.be_machine.specs.Wants.{Want, want_of}
use Rattle.be_machine.proofs.LegalEntries.{maker}
use Rattle.be_machine.proofs.PixelHistory.{desktop_after}
use Rattle.be_machine.proofs.PixelSteps.{IsDesktopAt}
use Rattle.be_machine.proofs.ProgressAfter.{IsSettled, settled_after}
use Rattle.be_machine.proofs.ReadsParts.{Keeps}
use Rattle.be_machine.proofs.ReadsScreen.{SameScreen, same_screens, other_way, screen_from}

pub record Both (d : Declared) (s r : State) : Type 0 where
  pub limits : IsWithinLimits d
  pub one : IsSettled d s
  pub two : IsSettled d r
  pub screens : SameScreen s r
  pub desktop_one : (x y : ℤ) → IsDesktopAt s x y
  pub desktop_two : (x y : ℤ) → IsDesktopAt r x y

pub both_after : (d : Declared) (g h : List Entry) → IsWithinLimits d → IsLegalHistory d g → IsLegalHistory d h → Both d (state_after d g) (state_after d h)
both_after d g h limits one two = record {
  limits = limits;
  one = settled_after d g limits one;
  two = settled_after d h limits two;
  screens = same_screens (state_after d g) (opening_state d) (state_after d h) (other_way (opening_state d) (state_after d g) (screen_from d (opening_state d) g one)) (screen_from d (opening_state d) h two);
  desktop_one = λ x y. desktop_after d g x y one;
  desktop_two = λ x y. desktop_after d h x y two;
}

-- the want is met in the one state
pub record Wanted (d : Declared) (s r : State) (want : Want) : Type 0 where
  pub both : Both d s r
  pub act : Act
  pub wanted : want_of d s (maker want) ≡ Some want
  pub granted : want_act d s want ≡ Some act
  pub touched : (p : Part) → Touches s (met d s want) want p → SamePart s r p

-- ... and in the other one in the same way
pub record Reads (d : Declared) (s r : State) (want : Want) : Type 0 where
  pub wanted : want_of d r (maker want) ≡ Some want
  pub granted : want_act d r want ≡ want_act d s want
  pub kept : Keeps s r (met d s want) (met d r want)
