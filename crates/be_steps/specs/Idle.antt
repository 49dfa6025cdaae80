-- An application that doesn't wait for a reply.
use Rattle.std.specs.Prelude.{◌≡◌, ℕ, false, List, Some}
use Rattle.be_asking.specs.Wants.{runner_in}
use Rattle.be_asking.specs.declared.activity.Runner.{Runner}
use Rattle.be_asking.specs.declared.want.Request.{Request}
use Rattle.be_asking.specs.declared.want.Request.TheVariants.{Note, Post, Send, Forward, Reply}
use Rattle.be_asking.specs.declared.want.Request.TheVariants.{Claim, Lock, Unlock, Flush, SyncDone}
use Rattle.be_asking.specs.declared.want.Request.TheVariants.{Draw}
use Rattle.be_hall.specs.Hands.{part_at}
use Rattle.be_machine.specs.Touched.{own_part}
use Rattle.be_parts.specs.Cells.{is_waiting}
use Rattle.be_parts.specs.Kept.{Kept}
use Rattle.be_parts.specs.declared.part.Part.{Part}
use Rattle.be_rules.specs.Places.{place_of}
use Rattle.be_script.specs.Script.{Declared}
use Rattle.be_steps.specs.Going.{own_kind}

abbrev pub IsIdle : Declared → List (ℕ × Part) → Runner → Type 0
IsIdle d parts runner =
    (k : Kept)
    → part_at parts (place_of d (own_part (runner_in runner))) ≡ Some (own_kind runner k)
    → is_waiting k.slice ≡ false

-- where it sends
abbrev pub IsIdleAtSend : Declared → List (ℕ × Part) → Runner → Request → Type 0
IsIdleAtSend d parts runner (Send w target draft) = IsIdle d parts runner
IsIdleAtSend d parts runner (Note text) = Unit {0}
IsIdleAtSend d parts runner (Post w target draft) = Unit {0}
IsIdleAtSend d parts runner (Forward w target) = Unit {0}
IsIdleAtSend d parts runner (Reply draft) = Unit {0}
IsIdleAtSend d parts runner Claim = Unit {0}
IsIdleAtSend d parts runner (Lock w) = Unit {0}
IsIdleAtSend d parts runner Unlock = Unit {0}
IsIdleAtSend d parts runner Flush = Unit {0}
IsIdleAtSend d parts runner SyncDone = Unit {0}
IsIdleAtSend d parts runner (Draw command) = Unit {0}
