-- Replies that are claimed and sent.
use Rattle.std.proofs.Common.{◌≡◌, ℕ, List, [], ◌∷◌, Option, Some, None, inl, refl, sym, ap, ◌∙◌}
use Rattle.std.specs.Prelude.{option_map, option_and_then, option_to_list}
use Rattle.be_actor.specs.Drafts.{DraftWords, filled}
use Rattle.be_asking.proofs.InHand.{cell_read, looper_read}
use Rattle.be_asking.specs.Wants.{message_of}
use Rattle.be_asking.specs.declared.activity.Activity.TheVariants as who
use Rattle.be_asking.specs.declared.activity.Runner.TheVariants as by
use Rattle.be_asking.specs.declared.want.Request.{Request}
use Rattle.be_asking.specs.declared.want.Request.TheVariants as request
use Rattle.be_asking.specs.declared.want.Want.TheVariants as want
use Rattle.be_hall.specs.Hands.{meant, part_at}
use Rattle.be_hall.specs.Machine.{Fits}
use Rattle.be_looper.specs.Duties.{Hand, waiter}
use Rattle.be_machine.specs.Activities as machine
use Rattle.be_machine.specs.Looper.{reply_for}
use Rattle.be_machine.specs.Program.{hand_in}
use Rattle.be_machine.specs.State.{State}
use Rattle.be_machine.specs.Touched as part
use Rattle.be_machine.specs.Traces.{replied, reply_trace}
use Rattle.be_message.specs.Messages.{Message}
use Rattle.be_parts.specs.Kept.{Kept}
use Rattle.be_parts.specs.Loopers.{duty_in, hand_of}
use Rattle.be_parts.specs.Parts.{meaning_of}
use Rattle.be_parts.specs.declared.part.Part.{Part}
use Rattle.be_parts.specs.declared.part.Part.TheVariants as kinds
use Rattle.be_port.specs.declared.Duty.{Duty}
use Rattle.be_reply.specs.Cells.{Cell, reply_in}
use Rattle.be_rules.proofs.Lawfully.{back}
use Rattle.be_rules.specs.Places.{place_of}
use Rattle.be_rules.specs.Rules.{IsSound}
use Rattle.be_rules.specs.Slices.{Slice, app_in, state_of}
use Rattle.be_script.specs.Script.{Declared}
use Rattle.be_steps.proofs.Making.{there}
use Rattle.be_steps.specs.Steps.{IsAllowed}
use Rattle.be_steps.specs.There.{IsThere}
use Rattle.be_steps.specs.Waiters.{IsReply}

-- the reply that application m claims, in every sound list with these parts
abbrev pub IsClaimed : Declared → List (ℕ × Part) → ℕ → Option Message → Type 0
IsClaimed d parts m reply =
    (all : List Slice) → IsSound d all → Fits all (meant meaning_of parts)
    → reply_for (state_of d all) (machine.app m) ≡ reply

-- the reply of window w's looper, where somebody waits for it
abbrev pub IsReplied : Declared → List (ℕ × Part) → ℕ → DraftWords → Option Message → Type 0
IsReplied d parts w draft reply =
    (all : List Slice) → IsSound d all → Fits all (meant meaning_of parts)
    → reply_trace (state_of d all) (machine.looper w)
    (filled draft (message_of (state_of d all) (machine.runner (machine.looper w))))
    ≡ option_to_list (option_map replied reply)

-- ---- claims

module _ (d : Declared) (parts : List (ℕ × Part)) (m : ℕ) (allowed : IsAllowed d parts (who.Runner (by.App m)) (want.Asks (by.App m) request.Claim)) where
  pub cell_there : IsThere d parts (part.cell m)
  cell_there = there d parts (who.Runner (by.App m)) (want.Asks (by.App m) request.Claim) allowed (part.cell m) (inl refl)

  pub is_claimed : (k : Kept) → part_at parts (place_of d (part.cell m)) ≡ Some (kinds.Cell k) → (cell : Cell) → option_map (λ app. app.cell) (app_in k.slice) ≡ Some cell → (reply : Option Message) → reply_in cell ≡ reply → IsClaimed d parts m reply
  is_claimed k at cell has reply is all sound fits =
      ap (λ (t : State). reply_for t (machine.app m)) (back d all sound)
      ∙ ap (λ o. option_and_then reply_in (option_map (λ a. a.cell) o)) (cell_read d parts all sound fits (kinds.Cell k) m cell_there.reachable.there at)
      ∙ ap (option_and_then reply_in) has
      ∙ is

-- ---- replies

waits_by : (o : Option (Hand Message)) (duty : Option Duty) → option_map (λ hand. hand.duty) o ≡ duty → option_and_then (λ hand. waiter hand.duty) o ≡ option_and_then waiter duty
waits_by (Some hand) duty is = ap (option_and_then waiter) is
waits_by None duty is = ap (option_and_then waiter) is

module _ (d : Declared) (parts : List (ℕ × Part)) (w : ℕ) (q : Request) (allowed : IsAllowed d parts (who.Runner (by.Looper w)) (want.Asks (by.Looper w) q)) where
  pub looper_there : IsThere d parts (part.looper w)
  looper_there = there d parts (who.Runner (by.Looper w)) (want.Asks (by.Looper w) q) allowed (part.looper w) (inl refl)

  module _ (k : Kept) (at : part_at parts (place_of d (part.looper w)) ≡ Some (kinds.Looper k)) (duty : Option Duty) (has : duty_in k.slice ≡ duty) where
    reply_is : (message : Message) (all : List Slice) → IsSound d all → Fits all (meant meaning_of parts) → reply_trace (state_of d all) (machine.looper w) message ≡ option_to_list (option_map (λ m. replied message) (option_and_then waiter duty))
    reply_is message all sound fits =
        ap (λ (t : State). reply_trace t (machine.looper w) message) (back d all sound)
        ∙ ap (λ o. option_to_list (option_map (λ m. replied message) (option_and_then (λ hand. waiter hand.duty) (option_and_then hand_in o)))) (looper_read d parts all sound fits (kinds.Looper k) w looper_there.reachable.there at)
        ∙ ap (λ o. option_to_list (option_map (λ m. replied message) o)) (waits_by (hand_of k.slice) duty has)

    -- nobody waits
    pub is_lost : (draft : DraftWords) → option_and_then waiter duty ≡ None → IsReplied d parts w draft None
    is_lost draft none all sound fits =
        reply_is (filled draft (message_of (state_of d all) (machine.runner (machine.looper w)))) all sound fits
        ∙ ap (λ o. option_to_list (option_map (λ m. replied (filled draft (message_of (state_of d all) (machine.runner (machine.looper w))))) o)) none

    -- somebody does
    pub is_replied : (draft : DraftWords) (m : ℕ) → option_and_then waiter duty ≡ Some m → (reply : Message) → IsReply d parts w draft reply → IsReplied d parts w draft (Some reply)
    is_replied draft m some reply made all sound fits =
        reply_is (filled draft (message_of (state_of d all) (machine.runner (machine.looper w)))) all sound fits
        ∙ ap (λ o. option_to_list (option_map (λ n. replied (filled draft (message_of (state_of d all) (machine.runner (machine.looper w))))) o)) some
        ∙ ap (λ x. replied x ∷ []) (sym (made all sound fits))
