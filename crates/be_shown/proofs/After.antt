-- The screen that slices of a state after a legal history are put together to is that state's.
use Rattle.std.proofs.Common.{◌≡◌, List, ap, ◌∙◌}
use Rattle.be_machine.specs.declared.Entry.{Entry}
use Rattle.be_machine.specs.History.{IsLegalHistory, state_after}
use Rattle.be_rules.proofs.Cut.{put_together}
use Rattle.be_rules.proofs.Lawfully.{whole_after}
use Rattle.be_rules.specs.Slices.{Slice, slices, state_of}
use Rattle.be_script.specs.Limits.{IsWithinLimits}
use Rattle.be_script.specs.Script.{Declared}

pub screen_after : (d : Declared) (all : List Slice) (h : List Entry) → IsWithinLimits d → IsLegalHistory d h → all ≡ slices d (state_after d h) → (state_of d all).screen ≡ (state_after d h).screen
screen_after d all h limits legal is =
    ap (λ l. (state_of d l).screen) is ∙ ap (λ s. s.screen) (put_together d (state_after d h) (whole_after d h limits legal))
