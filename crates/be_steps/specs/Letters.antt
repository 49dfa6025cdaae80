-- The letter that an instruction posts.
use Rattle.std.specs.Prelude.{◌≡◌, ℕ, List, Option, Some, None, option_map}
use Rattle.be_actor.specs.declared.Wish.{Wish}
use Rattle.be_actor.specs.declared.Wish.TheVariants as wish
use Rattle.be_asking.specs.Acts.{IsSameHop}
use Rattle.be_asking.specs.Wants.{message_of, runner_in, wish_in}
use Rattle.be_asking.specs.declared.activity.Runner.{Runner}
use Rattle.be_asking.specs.declared.want.Request.{Request}
use Rattle.be_hall.specs.Hands.{meant}
use Rattle.be_hall.specs.Machine.{Fits}
use Rattle.be_looper.specs.Duties.{duty_handed_on}
use Rattle.be_machine.specs.Activities as machine
use Rattle.be_machine.specs.Activities.{sender_of}
use Rattle.be_machine.specs.Looper.{sent_duty}
use Rattle.be_machine.specs.Port.{letter}
use Rattle.be_machine.specs.Program.{hand_of, hop_of}
use Rattle.be_machine.specs.State.{State}
use Rattle.be_message.specs.Messages.{Message}
use Rattle.be_parts.specs.Parts.{meaning_of}
use Rattle.be_parts.specs.declared.part.Part.{Part}
use Rattle.be_port.specs.Ports.{Letter}
use Rattle.be_port.specs.StandsFor.{Carries}
use Rattle.be_port.specs.declared.Duty.TheVariants.{Free}
use Rattle.be_port.specs.declared.letter.Letter as held
use Rattle.be_rules.specs.Rules.{IsSound}
use Rattle.be_rules.specs.Slices.{Slice, state_of}
use Rattle.be_script.specs.Script.{Declared}

-- what is posted where a runner gets what it asks for
abbrev pub wished_letter : State → machine.Runner → Wish → Option (Letter Message)
wished_letter s who (wish.Post w target message) =
    Some (letter (sender_of who) target (hop_of s who) Free message)
wished_letter s who (wish.Send w target message) =
    Some (letter (sender_of who) target (hop_of s who) (sent_duty who) message)
wished_letter s who (wish.Forward w target) =
    option_map
    (λ hand. letter (sender_of who) target (hop_of s who) (duty_handed_on hand.duty)
    hand.letter.body) (hand_of s who)
wished_letter s who (wish.Note word) = None
wished_letter s who (wish.Reply message) = None
wished_letter s who wish.Claim = None
wished_letter s who (wish.Lock w) = None
wished_letter s who wish.Unlock = None
wished_letter s who wish.Flush = None
wished_letter s who wish.SyncDone = None
wished_letter s who (wish.Draw command) = None

-- the letter carries the machine's; hops from 8 on are told apart no more
pub record Stands (l : held.Letter) (m : Letter Message) : Type 0 where
  pub carries : Carries l (record m { hop = l.hop })
  pub hop : IsSameHop l.hop m.hop

-- in every sound list with these parts it is what the runner posts
abbrev pub IsWishedLetter : Declared → List (ℕ × Part) → Runner → Request → held.Letter → Type 0
IsWishedLetter d parts runner request l =
    (all : List Slice) → IsSound d all → Fits all (meant meaning_of parts)
    → (m : Letter Message)
    × (wished_letter (state_of d all) (runner_in runner)
    (wish_in (message_of (state_of d all) (machine.runner (runner_in runner))) request) ≡ Some m)
    × Stands l m
