-- Where a history ends in Stop every answer was claimed.
use Rattle.std.proofs.Common.{◌≡◌, ℕ, ◌+◌, true, false, List, [], ◌∷◌, ◌++◌, length, Some, sym, ap, ◌∙◌}
use Rattle.std.specs.Prelude.{slice_get}
use Rattle.std.specs.Option.{option_map_or}
use Rattle.be_script.specs.Limits.{IsWithinLimits}
use Rattle.be_script.specs.Script.{Declared}
use Rattle.be_machine.specs.declared.Act.TheVariants as act
use Rattle.be_machine.specs.declared.Answered.{Answered}
use Rattle.be_machine.specs.Happenings.{answering_of, answerings}
use Rattle.be_machine.specs.Orderly.{Balance, no_balance, balance_from, EndsInStop, balance_of}
use Rattle.be_machine.specs.State.{State, App}
use Rattle.be_machine.specs.Closing.{all_done}
use Rattle.be_machine.specs.declared.Entry.{Entry}
use Rattle.be_machine.specs.Program.{has_ended}
use Rattle.std.specs.Prelude.{flat_map}
use Rattle.be_machine.proofs.Waiting.{total, IsWaiting, claims_at}
use Rattle.std.proofs.Common.{arith}
use Rattle.be_actor.specs.declared.Instruction.{Instruction}
use Rattle.be_machine.proofs.Balances.{in_cell, of_app, Answers}
use Rattle.std.specs.Prelude.{flat_map}
use Rattle.std.proofs.lemmas.Option.{slice_get_past, slice_get_within, slice_get-get_or}
use Rattle.std.proofs.lemmas.List.FromFn.{get_or-range_with_len, length-range_with_len}
use Rattle.std.proofs.Common.{◌<◌}
use Rattle.be_actor.specs.declared.Place.{Place}
use Rattle.std.specs.List.{list_all, range_with_len}
use Rattle.be_facts.proofs.Numbers.{nat_le_tells}
use Rattle.be_facts.proofs.Lists.{all_at}
use Rattle.be_facts.proofs.Truths.{and_first}
use Rattle.be_actor.specs.Wishes.{is_at_end}
use Rattle.be_machine.specs.History.{IsLegalHistory, state_after}
use Rattle.be_machine.specs.Program.{app_program}
use Rattle.be_machine.proofs.OrderlyHistory.{Ends}
use Rattle.be_machine.proofs.OrderlyHistory as ended
use Rattle.be_machine.proofs.Waiting.{claims}
use Rattle.be_machine.proofs.WaitingAfter.{waiting_after}
use Rattle.be_machine.proofs.WaitingSums.{total_none}
use Rattle.be_machine.proofs.BalanceHistory.{says, no_reply_there, balance_append, balanced_after}

range_get : (n k i : ℕ) → i < n → slice_get (range_with_len k n) i ≡ Some (k + i)
range_get n k i inside =
    slice_get-get_or (range_with_len k n) i 0 (rw length-range_with_len inside) ∙ ap Some (get_or-range_with_len k n i 0 inside)

ended_claims : (program : List Instruction) (place : Place) → is_at_end program place ≡ true → claims_at program place ≡ false
ended_claims program place e = ap (λ o. claims o place.part) (slice_get_past program place.step (nat_le_tells (length program) place.step e))

-- an application at its end has no reply in its cell
ended_cell : (kind : Answered) (d : Declared) (s : State) (m : ℕ) (a : App) → IsWaiting d s → slice_get s.apps m ≡ Some a → has_ended d s m ≡ true → in_cell kind a.cell ≡ 0
ended_cell kind d s m a waits read e =
    let at : is_at_end (app_program d m) a.place ≡ true = sym (ap (λ o. option_map_or (λ (x : App). is_at_end (app_program d m) x.place) o false) read) ∙ e in
    no_reply_there kind a.cell (waits.busy m a read ∙ ended_claims (app_program d m) a.place at)

all_ended : (d : Declared) (s : State) (m : ℕ) → all_done d s ≡ true → m < length s.apps → has_ended d s m ≡ true
all_ended d s m done inside = all_at (has_ended d s) (range_with_len 0 (length s.apps)) m m (and_first (list_all (has_ended d s) (range_with_len 0 (length s.apps))) _ done) (let same : 0 + m ≡ m = omega arith in range_get (length s.apps) 0 m inside ∙ ap Some same)

none_waits : (kind : Answered) (d : Declared) (s : State) → IsWaiting d s → all_done d s ≡ true → total (of_app kind) s.apps ≡ 0
none_waits kind d s waits done = total_none (of_app kind) s.apps (λ m a read. ended_cell kind d s m a waits read (all_ended d s m done (slice_get_within s.apps m a read)))

says_nothing : (kind : Answered) (b : Balance) (h : List Entry) (e : Entry) → e.act ≡ act.Stop → balance_from kind b (flat_map says (h ++ e ∷ [])) ≡ balance_from kind b (flat_map says h)
says_nothing kind b [] e is = ap (λ a. balance_from kind b (answering_of a ++ [])) is
says_nothing kind b (x ∷ h) e is =
    balance_append kind b (says x) (flat_map says (h ++ e ∷ []))
    ∙ says_nothing kind (balance_from kind b (says x)) h e is
    ∙ sym (balance_append kind b (says x) (flat_map says h))

pub all_claimed : (kind : Answered) (d : Declared) (h : List Entry) → IsWithinLimits d → IsLegalHistory d h → EndsInStop h → (balance_of kind h).went ≡ (balance_of kind h).came
unfolding answerings
all_claimed kind d h limits legal stop =
    let end : Ends d h = ended.ends d h legal stop in
    let before : Answers kind no_balance (state_after d end.before).apps (answerings end.before) = balanced_after kind d end.before limits end.legal in
    let none : total (of_app kind) (state_after d end.before).apps ≡ 0 = none_waits kind d (state_after d end.before) (waiting_after d end.before limits end.legal) end.rest.done in
    let same : balance_of kind h ≡ balance_of kind end.before = ap (λ x. balance_from kind no_balance (flat_map says x)) end.is ∙ says_nothing kind no_balance end.before end.last end.stop in
    let even : (balance_of kind end.before).went ≡ (balance_of kind end.before).came = omega (arith, before.balanced.waiting, none) in
    ap (λ b. b.went) same ∙ even ∙ sym (ap (λ b. b.came) same)
