-- What stays within its limits through every legal history. Each statement is the contract of a
-- function in src/laws.
use Rattle.std.specs.Prelude.{◌≡◌, ◌⊎◌, ◌≤◌, ℕ, true, false, List, Some, None, slice_get}
use Rattle.be_actor.specs.declared.Wish.TheVariants as wish
use Rattle.be_command.specs.declared.Command.TheVariants.{EndUpdate}
use Rattle.be_link.specs.Queues.{Buffer, Numbered}
use Rattle.be_looper.specs.Duties.{Hand}
use Rattle.be_message.specs.declared.target.Target.{Target}
use Rattle.be_message.specs.Depths.{depth_of}
use Rattle.be_message.specs.Messages.{Message}
use Rattle.be_pane.specs.Panes.{Pane}
use Rattle.be_port.specs.Ports.{Port, has_notice}
use Rattle.be_reply.specs.Cells as reply
use Rattle.be_script.specs.Limits.{IsWithinLimits}
use Rattle.be_script.specs.Programs.{is_command_for}
use Rattle.be_script.specs.Script.{Declared}
use Rattle.be_machine.specs.Activities.{app, runner}
use Rattle.be_machine.specs.declared.Entry.{Entry}
use Rattle.be_machine.specs.History.{IsLegalHistory, state_after}
use Rattle.be_machine.specs.Looper.{cell_of}
use Rattle.be_machine.specs.Program.{hand_at}
use Rattle.be_machine.specs.State.{handling, beginning}
use Rattle.be_machine.specs.Update.{owes_notice}
use Rattle.be_machine.specs.Wants.{asks, want_of}

-- No message in the one that a looper handles lies deeper than 15, so that a message made with it
-- in its body lies at most 16 deep.
abbrev pub HandsAreShallow : Type 0
HandsAreShallow =
    (d : Declared) (h : List Entry) (w : ℕ) (hand : Hand Message) → IsWithinLimits d
    → IsLegalHistory d h
    → hand_at (state_after d h) w ≡ Some hand → depth_of hand.letter.body ≤ 15

-- a command of window w that a script may say, or the end of an update
abbrev pub IsOnItsWay : Declared → ℕ → Numbered → Type 0
IsOnItsWay d w c = (is_command_for d w c.command ≡ true) ⊎ (c.command ≡ EndUpdate)

-- a command that wasn't executed yet is within the limits of commands, and what it names is there
abbrev pub LinkedAreWithinLimits : Type 0
LinkedAreWithinLimits =
    (d : Declared) (h : List Entry) (w i : ℕ) (link : List Numbered) (c : Numbered)
    → IsWithinLimits d → IsLegalHistory d h
    → slice_get (state_after d h).links w ≡ Some link → slice_get link i ≡ Some c → IsOnItsWay d w c

-- and so is one that wasn't flushed yet
abbrev pub BufferedAreWithinLimits : Type 0
BufferedAreWithinLimits =
    (d : Declared) (h : List Entry) (w i : ℕ) (b : Buffer) (c : Numbered) → IsWithinLimits d
    → IsLegalHistory d h
    → slice_get (state_after d h).buffers w ≡ Some b → slice_get b.commands i ≡ Some c
    → IsOnItsWay d w c

-- a looper with a notice that isn't begun: its window has a notice on its way, and no session is
-- open
abbrev pub NoSessionAtBegin : Type 0
NoSessionAtBegin =
    (d : Declared) (h : List Entry) (w : ℕ) (hand : Hand Message) (pane : Pane) → IsWithinLimits d
    → IsLegalHistory d h
    → slice_get (state_after d h).loopers w ≡ Some (handling hand beginning)
    → slice_get (state_after d h).panes w ≡ Some pane
    → (pane.notified ≡ true) × (pane.session ≡ None)

-- where a twin owes its window a notice, the window's port is open, and no notice waits in it
abbrev pub OwedNoticesAreAlone : Type 0
OwedNoticesAreAlone =
    (d : Declared) (h : List Entry) (w : ℕ) (p : Port Message) → IsWithinLimits d
    → IsLegalHistory d h
    → owes_notice (state_after d h) w ≡ true → slice_get (state_after d h).ports w ≡ Some p
    → (p.closed ≡ false) × (has_notice p ≡ false)

-- an application that is about to send waits for no reply, and has none that it didn't claim
abbrev pub CellsAreIdleAtSends : Type 0
CellsAreIdleAtSends =
    (d : Declared) (h : List Entry) (m w : ℕ) (target : Target) (message : Message)
    → IsWithinLimits d → IsLegalHistory d h
    → want_of d (state_after d h) (runner (app m))
    ≡ Some (asks (app m) (wish.Send w target message))
    → cell_of (state_after d h) (app m) ≡ Some reply.idle
