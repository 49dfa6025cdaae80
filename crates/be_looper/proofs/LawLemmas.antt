-- A looper stands for the machine's before and after each call.
use Rattle.std.proofs.Common.{◌≡◌, ◌↔◌, ℕ, Option, Some, None, option_map, IfOk, IfErr, refl, ap, ◌∙◌}
use Rattle.be_message.specs.Messages.{Message}
use Rattle.be_port.specs.declared.Duty.{Duty}
use Rattle.be_port.specs.declared.Duty.TheVariants as duties
use Rattle.be_looper.specs.declared.Owner.TheVariants as owners
use Rattle.be_looper.specs.Duties.{Hand, waiter, reply_answer}
use Rattle.be_looper.specs.Loopers.{Handled, hand_with, reply_result}
use Rattle.be_looper.specs.StandsFor.{Holding, free, locked, handling, hand_in, owner_in, with_duty_by, SameHand}
use Rattle.be_looper.specs.Laws.{OpensAsLooper, OwnedAsLooper, LocksAsLooper, FreesAsLooper, BeginsAsLooper, HandlesAsLooper, RepliesAsLooper, DutiesAsLooper, BuffersAsLooper}

pub opens : OpensAsLooper
opens = record { owner = refl; hand = tt; buffer = refl }

pub free_owner : (h : Holding) → (owner_in h ≡ owners.Free) ↔ (h ≡ free)
free_owner free = (λ e. refl, λ e. refl)
free_owner (locked m) = (λ e. cc, λ e. cc)
free_owner (handling hand) = (λ e. cc, λ e. cc)

pub app_owner : (h : Holding) (m : ℕ) → (owner_in h ≡ owners.App m) ↔ (h ≡ locked m)
app_owner free m = (λ e. cc, λ e. cc)
app_owner (locked n) m = (λ e. cc, λ e. cc)
app_owner (handling hand) m = (λ e. cc, λ e. cc)

pub no_hand : (x : Option Handled) (y : Option (Hand Message)) → SameHand x y → (x ≡ None) ↔ (y ≡ None)
no_hand None None same = (λ e. refl, λ e. refl)
no_hand (Some handled) (Some hand) same = (λ e. cc, λ e. cc)
no_hand None (Some hand) same = absurd same
no_hand (Some handled) None same = absurd same

pub owned : OwnedAsLooper
owned l h b stands = (
  rw stands.owner (free_owner h),
  λ m. rw stands.owner (app_owner h m),
  no_hand l.hand (hand_in h) stands.hand,
)

pub locks : LocksAsLooper
locks l b stands m = record { owner = refl; hand = stands.hand; buffer = stands.buffer }

pub frees : FreesAsLooper
frees l h b stands = record { owner = refl; hand = tt; buffer = stands.buffer }

pub begins : BeginsAsLooper
begins l b stands letter m is route = record {
  owner = refl;
  hand = record { letter = is; message = refl; route = refl };
  buffer = stands.buffer;
}

-- ---- the hand

pub same_hand : (x : Option Handled) (hand : Hand Message) → SameHand x (Some hand) →
    (option_map (λ handled. handled.message) x ≡ Some hand.letter.body) × (option_map (λ handled. handled.route) x ≡ Some hand.route)
    × (option_map (λ handled. handled.letter.hop) x ≡ Some hand.letter.hop) × (option_map (λ handled. handled.letter.duty) x ≡ Some hand.duty)
same_hand None hand same = absurd same
same_hand (Some handled) hand same = (
  ap (λ (m : Message). Some m) same.message,
  cc (same.route),
  ap (λ (n : ℕ). Some n) same.letter.carried.hop,
  ap (λ (d : Duty). Some d) same.letter.carried.duty,
)

pub handles : HandlesAsLooper
handles l hand b stands = same_hand l.hand hand stands.hand

pub told_by : (duty : Duty) → IfOk (reply_result (reply_answer duty)) (λ m. waiter duty ≡ Some m) × IfErr (reply_result (reply_answer duty)) (λ fault. waiter duty ≡ None)
told_by duties.Free = (tt, refl)
told_by (duties.Owed m) = (refl, tt)
told_by duties.Done = (tt, refl)

pub replies : RepliesAsLooper
replies l hand b stands =
    let left = (same_hand l.hand hand stands.hand).3 in
    rw left (refl, (told_by hand.duty).0, (told_by hand.duty).1)

pub new_duty : (f : Duty → Duty) (x : Option Handled) (h : Holding) → SameHand x (hand_in h) → SameHand (option_map (hand_with f) x) (hand_in (with_duty_by f h))
new_duty f None free same = tt
new_duty f None (locked m) same = tt
new_duty f None (handling hand) same = absurd same
new_duty f (Some handled) free same = absurd same
new_duty f (Some handled) (locked m) same = absurd same
new_duty f (Some handled) (handling hand) same =
    let held = same.letter.carried in
    record {
      letter = record {
        carried = record { sender = held.sender; target = held.target; hop = held.hop; duty = ap f held.duty; body = held.body };
        notice = same.letter.notice;
      };
      message = same.message;
      route = same.route;
    }

pub same_owner : (f : Duty → Duty) (h : Holding) → owner_in h ≡ owner_in (with_duty_by f h)
same_owner f free = refl
same_owner f (locked m) = refl
same_owner f (handling hand) = refl

pub duties_changed : DutiesAsLooper
duties_changed l h b stands f =
    record { owner = stands.owner ∙ same_owner f h; hand = new_duty f l.hand h stands.hand; buffer = stands.buffer }

pub buffers : BuffersAsLooper
buffers l h b stands new = record { owner = stands.owner; hand = stands.hand; buffer = refl }
