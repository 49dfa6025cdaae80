-- A looper: who owns it, the message that it handles, and the commands that its window hasn't
-- flushed (The Be Book: BLooper, Lock, Unlock; that a message in hand makes the looper its own
-- owner, and the buffer, are this project's own).
use Rattle.std.specs.Prelude.{ℕ, Option, Some, None, option_map, Result, Ok, Err}
use Rattle.be_handler.specs.declared.Route.{Route}
use Rattle.be_link.specs.Queues.{Buffer, empty_buffer}
use Rattle.be_message.specs.Messages.{Message}
use Rattle.be_port.specs.declared.Duty.{Duty}
use Rattle.be_port.specs.declared.letter.Letter.{Letter}
use Rattle.be_looper.specs.Duties.{ReplyAnswer, reaches, is_second, is_unwanted, reply_answer}
use Rattle.be_looper.specs.declared.Owner.{Owner}
use Rattle.be_looper.specs.declared.Owner.TheVariants.{Free, Own, App}
use Rattle.be_looper.specs.declared.fault.ReplyFault.{ReplyFault}
use Rattle.be_looper.specs.declared.fault.ReplyFault.TheVariants.{NoMessage, NoReplyWanted}
use Rattle.be_looper.specs.declared.fault.ReplyFault.TheVariants.{DuplicateReply}

-- a message in hand
pub record Handled : Type 0 where
  -- the letter that brought it, with what is left of its duty
  pub letter : Letter
  pub message : Message
  pub route : Route

pub record Looper : Type 0 where
  pub owner : Owner
  pub hand : Option Handled
  -- the window's commands that weren't flushed
  pub buffer : Buffer

-- nobody has it, and its window made no command
abbrev pub free_looper : Looper
free_looper = record { owner = Free; hand = None; buffer = empty_buffer }

-- an application locked it
abbrev pub locked_by : ℕ → Looper → Looper
locked_by m l = record l { owner = App m }

-- it has a message in hand, and so is its own
abbrev pub with_hand : Letter → Message → Route → Looper → Looper
with_hand letter message route l =
    record l {
      owner = Own;
      hand = Some
          record { letter = letter; message = message; route = route };
    }

-- it has let go of the message in hand, or the application of it
abbrev pub freed : Looper → Looper
freed l = record l { owner = Free; hand = None }

-- what is left of the duty of the message in hand
abbrev pub duty_of : Looper → Option Duty
duty_of l = option_map (λ hand. hand.letter.duty) l.hand

-- something else is left of it
abbrev pub hand_with : (Duty → Duty) → Handled → Handled
hand_with f hand = record hand { letter = record hand.letter { duty = f hand.letter.duty } }

abbrev pub with_duty : (Duty → Duty) → Looper → Looper
with_duty f l = record l { hand = option_map (hand_with f) l.hand }

-- who gets a reply, by the answer that the duty gives, or why nobody does
abbrev pub reply_result : ReplyAnswer → Result ℕ ReplyFault
reply_result (reaches m) = Ok m
reply_result is_second = Err DuplicateReply
reply_result is_unwanted = Err NoReplyWanted

-- the same of a looper with this duty in hand, or without a message
abbrev pub replied : Option Duty → Result ℕ ReplyFault
replied (Some duty) = reply_result (reply_answer duty)
replied None = Err NoMessage
