-- Answers and claims are balanced after every legal history.
use Rattle.std.proofs.Common.{◌≡◌, ℕ, ◌+◌, Bool, true, false, List, [], ◌∷◌, ◌++◌, length, Some, refl, sym, ap, subst, ◌∙◌}
use Rattle.std.specs.Prelude.{slice_get, option_map, option_and_then, if◌then◌else◌}
use Rattle.std.specs.Option.{option_map_or}
use Rattle.std.proofs.lemmas.Option.{same_Some}
use Rattle.be_actor.specs.declared.Wish.{Wish}
use Rattle.be_actor.specs.declared.Wish.TheVariants as wish
use Rattle.be_looper.specs.Duties.{Hand, waiter, reply_answer, duty_after_reply, end_telling}
use Rattle.be_message.specs.declared.target.Target.{Target}
use Rattle.be_message.specs.Messages.{Message}
use Rattle.be_port.specs.declared.Duty.{Duty}
use Rattle.be_port.specs.declared.Duty.TheVariants as duty
use Rattle.be_script.specs.Limits.{IsWithinLimits}
use Rattle.be_script.specs.Script.{Declared}
use Rattle.be_machine.specs.Activities.{Runner, app, looper, runner, sender_of}
use Rattle.be_machine.specs.Commands.{draw_act, flush_act, sync_act, drawn, flushed}
use Rattle.be_machine.specs.declared.Act.{Act}
use Rattle.be_machine.specs.declared.Act.TheVariants as act
use Rattle.be_machine.specs.declared.Answered.{Answered}
use Rattle.be_machine.specs.declared.Answered.TheVariants as answered
use Rattle.be_reply.specs.Cells as reply
use Rattle.be_machine.specs.Happenings.{Answering, answering_of, answerings}
use Rattle.be_machine.specs.Legal.{wish_act, want_act}
use Rattle.be_machine.specs.Looper.{with_looper, lock_act, locked_for, freed, sent, sent_duty, with_waiting, told, with_duty, with_duty_by, with_cell, replied_by, reply_act, answer_of, forwarded, forwarded_hand, end_act, end_of, ended_hand, told_at_end, word_alone, claim_act, reply_for, cell_of, kind_of_reply}
use Rattle.be_machine.specs.Looper as looper_spec
use Rattle.be_machine.specs.Orderly.{Balance, no_balance, one_if, same_kind, balanced_with, balance_from, AreCovered}
use Rattle.be_machine.specs.Port.{letter, with_post, is_accepted_at, take_act}
use Rattle.be_machine.specs.Program.{hop_of, hand_at, hand_in, locked_by, moved_on}
use Rattle.be_machine.specs.State.{State, App, Looper, free, locked, handling, Stage}
use Rattle.be_machine.specs.Step.{granted, is_accepted_wish, met}
use Rattle.be_machine.specs.declared.Entry.{Entry}
use Rattle.be_machine.specs.History.{AreLegalFrom, state_from}
use Rattle.be_machine.specs.Legal.{IsLegal}
use Rattle.be_machine.specs.Step.{step}
use Rattle.be_machine.specs.Wants.{Want, asks, takes, begins, flushes, draws_end, ends, notifies, executes, uses, stops, want_of}
use Rattle.std.specs.Prelude.{flat_map}
use Rattle.be_machine.proofs.Found.{IsMapped, mapped, IsChained, chained, IsJoined, joined}
use Rattle.be_machine.proofs.ProgressStands.{AppStands, app_stands, LooperStands, looper_stands}
use Rattle.be_machine.proofs.Waiting.{total, IsWaiting, is_busy}
use Rattle.be_machine.proofs.WaitingApps.{before_claims}
use Rattle.std.proofs.Common.{arith}
use Rattle.be_message.specs.Words.{no_reply_word, not_understood_word}
use Rattle.be_handler.specs.declared.Route.{Route}
use Rattle.be_handler.specs.declared.Route.TheVariants.{Skipped, Handler, Unknown}
use Rattle.be_machine.proofs.Balances.{in_cell, of_app, IsBalanced, Answers, none_answered, one_given, one_claimed, moved_cells, cell_at_one}
use Rattle.be_machine.proofs.LegalEntries.{IsMet, met_by, maker, maker_is}
use Rattle.be_machine.proofs.WaitingTells.{WaitsForReply, hand_waits}
use Rattle.std.specs.Prelude.{zero, suc, flat_map, replicate}
use Rattle.be_machine.specs.History.{IsLegalHistory, state_after}
use Rattle.be_machine.specs.Program.{app_program}
use Rattle.be_machine.specs.State.{opening_state, opening_app}
use Rattle.be_machine.proofs.BalanceSteps.{Balanced, by_act, other_apps, silent, quiet_post, quiet_flush, quiet_sync, quiet_draw, quiet_lock, quiet_take, quiet_begin, quiet_notify, quiet_exec, quiet_event, quiet_stop, quiet_own, found_apps, tested_apps, flushed_apps, executed_apps, begun_apps, event_apps, taken_apps, same_total, body_reply}
use Rattle.be_machine.proofs.BodyWishes.{is_body_wish, is_app_wish, body_asks, app_asks}
use Rattle.be_machine.proofs.WaitingAfter.{waiting_after}
use Rattle.be_machine.proofs.WaitingApps.{is_claim}
use Rattle.be_machine.proofs.WaitingSteps.{waiting_step}

-- ---- cells

pub no_reply_there : (kind : Answered) (c : reply.Cell) → is_busy c ≡ false → in_cell kind c ≡ 0
no_reply_there kind reply.idle e = refl
no_reply_there kind reply.waiting e = cc
no_reply_there kind (reply.replied message) e = cc

-- an application that asks for anything but a claim has no reply in its cell
unreplied : (kind : Answered) (d : Declared) (s : State) (m : ℕ) (x : Wish) → IsWaiting d s → (stands : AppStands d s m x) → is_claim x ≡ false → in_cell kind stands.it.cell ≡ 0
unreplied kind d s m x waits stands other =
    no_reply_there kind stands.it.cell (waits.busy m stands.it stands.read ∙ before_claims (app_program d m) stands.it.place _ stands.step x stands.next stands.asked other)

waiting_apps : (kind : Answered) (s : State) (m : ℕ) (a : App) → slice_get s.apps m ≡ Some a → in_cell kind a.cell ≡ 0 → total (of_app kind) (with_cell s m (λ _. reply.waiting)).apps ≡ total (of_app kind) s.apps
waiting_apps kind s m a read none = let one : _ = cell_at_one kind s.apps m (λ _. reply.waiting) a read in omega (arith, one, none)

-- ---- applications

sent_total : (kind : Answered) (s : State) (m v : ℕ) (target : Target) (message : Message) (a : App) → slice_get s.apps m ≡ Some a → in_cell kind a.cell ≡ 0 → total (of_app kind) (sent s (app m) v target message).apps ≡ total (of_app kind) s.apps
sent_total kind s m v target message a read none = by_accepted (is_accepted_at s v (hop_of s (app m)))
  where
    by_accepted : (b : Bool) → total (of_app kind) (if b then with_waiting (app m) (with_post s v (letter (sender_of (app m)) target (hop_of s (app m)) (sent_duty (app m)) message)) else with_post s v (letter (sender_of (app m)) target (hop_of s (app m)) (sent_duty (app m)) message)).apps ≡ total (of_app kind) s.apps
    by_accepted true = waiting_apps kind s m a read none
    by_accepted false = refl

claim_by : (kind : Answered) (b : Balance) (s : State) (m : ℕ) (a : App) (c : reply.Cell) (message : Message) → slice_get s.apps m ≡ Some a → a.cell ≡ c → reply.reply_in c ≡ Some message → IsBalanced kind b s.apps → Balanced kind b (looper_spec.claimed s (app m)) (act.Claim (kind_of_reply message))
claim_by kind b s m a (reply.replied other) message read is e h =
    let same : other ≡ message = same_Some other message e in
    let before : in_cell kind a.cell ≡ one_if (same_kind kind (kind_of_reply message)) = ap (in_cell kind) is ∙ ap (λ x. one_if (same_kind kind (kind_of_reply x))) same in
    let one : _ = cell_at_one kind s.apps m (λ _. reply.idle) a read in
    one_claimed kind (kind_of_reply message) b s.apps _ (omega (arith, one, before)) h
claim_by kind b s m a reply.waiting message read is e h = cc
claim_by kind b s m a reply.idle message read is e h = cc

claim_balanced : (kind : Answered) (b : Balance) (s : State) (m : ℕ) (c : Act) → claim_act s (app m) ≡ Some c → IsBalanced kind b s.apps → Balanced kind b (looper_spec.claimed s (app m)) c
claim_balanced kind b s m c e h =
    let at : IsMapped (λ x. act.Claim (kind_of_reply x)) (reply_for s (app m)) c = mapped (λ (x : Message). act.Claim (kind_of_reply x)) (reply_for s (app m)) c e in
    let cell : IsChained reply.reply_in (cell_of s (app m)) at.from = chained reply.reply_in (cell_of s (app m)) at.from at.read in
    let it : IsMapped (λ a. a.cell) (slice_get s.apps m) cell.from = mapped (λ (a : App). a.cell) (slice_get s.apps m) cell.from cell.read in
    by_act kind b (looper_spec.claimed s (app m)) (act.Claim (kind_of_reply at.from)) c at.is (claim_by kind b s m it.from cell.from at.from it.read it.is cell.is h)

app_balanced : (kind : Answered) (b : Balance) (d : Declared) (s : State) (m : ℕ) (x : Wish) (c : Act) → IsWaiting d s → AppStands d s m x → is_app_wish x ≡ true → wish_act s (app m) x ≡ Some c → IsBalanced kind b s.apps → Balanced kind b (granted s (app m) x) c
unfolding wish_act granted
app_balanced kind b d s m (wish.Note word) c waits stands ok e h = silent kind b s.apps s.apps c (sym (ap answering_of (same_Some (act.Note word) c e))) refl h
app_balanced kind b d s m (wish.Post v target message) c waits stands ok e h = silent kind b s.apps _ c (quiet_post s v (hop_of s (app m)) c e) refl h
app_balanced kind b d s m (wish.Send v target message) c waits stands ok e h =
    silent kind b s.apps _ c (quiet_post s v (hop_of s (app m)) c e) (sent_total kind s m v target message stands.it stands.read (unreplied kind d s m (wish.Send v target message) waits stands refl)) h
app_balanced kind b d s m (wish.Forward v target) c waits stands ok e h = cc
app_balanced kind b d s m (wish.Reply message) c waits stands ok e h = cc
app_balanced kind b d s m wish.Claim c waits stands ok e h = claim_balanced kind b s m c e h
app_balanced kind b d s m (wish.Lock v) c waits stands ok e h = silent kind b s.apps _ c (let at : IsChained (lock_act v) (slice_get s.loopers v) c = chained (lock_act v) (slice_get s.loopers v) c e in quiet_lock v at.from c at.is) refl h
app_balanced kind b d s m wish.Unlock c waits stands ok e h = silent kind b s.apps _ c (quiet_own (λ v. Some (act.Unlock v)) (locked_by s m) c (λ v k. sym (ap answering_of (same_Some (act.Unlock v) c k))) e) (same_total kind s.apps _ (found_apps s (freed s) (locked_by s m) (λ v. refl))) h
app_balanced kind b d s m wish.Flush c waits stands ok e h = silent kind b s.apps _ c (quiet_own (flush_act s) (locked_by s m) c (λ v k. quiet_flush s v c k) e) (same_total kind s.apps _ (found_apps s (flushed s) (locked_by s m) (flushed_apps s))) h
app_balanced kind b d s m wish.SyncDone c waits stands ok e h = silent kind b s.apps s.apps c (quiet_own (sync_act s) (locked_by s m) c (λ v k. quiet_sync s v c k) e) refl h
app_balanced kind b d s m (wish.Draw command) c waits stands ok e h = silent kind b s.apps _ c (quiet_own (draw_act s) (locked_by s m) c (λ v k. quiet_draw s v c k) e) (same_total kind s.apps _ (found_apps s (λ v. drawn s v command) (locked_by s m) (λ v. refl))) h

-- ---- bodies

hand_is : (s : State) (v : ℕ) (hand : Hand Message) (g : Stage) → slice_get s.loopers v ≡ Some (handling hand g) → hand_at s v ≡ Some hand
hand_is s v hand g read = ap (option_and_then hand_in) read

-- a reply reaches the cell of who waits
answered_total : (kind other : Answered) (d : Declared) (s : State) (m : ℕ) (message : Message) → WaitsForReply s m → kind_of_reply message ≡ other → total (of_app kind) (with_cell s m (reply.with_reply message)).apps ≡ total (of_app kind) s.apps + one_if (same_kind kind other)
answered_total kind other d s m message who is =
    let one : _ = cell_at_one kind s.apps m (reply.with_reply message) who.it who.read in
    let before : in_cell kind who.it.cell ≡ 0 = ap (in_cell kind) who.waits in
    let after : in_cell kind (reply.with_reply message who.it.cell) ≡ one_if (same_kind kind other) = ap (λ c. in_cell kind (reply.with_reply message c)) who.waits ∙ ap (λ k. one_if (same_kind kind k)) is in
    omega (arith, one, before, after)

reply_by : (kind : Answered) (b : Balance) (d : Declared) (s : State) (v : ℕ) (message : Message) (hand : Hand Message) (g : Stage) (x : Duty) → IsWaiting d s → slice_get s.loopers v ≡ Some (handling hand g) → hand.duty ≡ x → kind_of_reply message ≡ answered.Reply → IsBalanced kind b s.apps → Balanced kind b (with_duty duty_after_reply (looper v) (told message (waiter x) s)) (answer_of (reply_answer x))
reply_by kind b d s v message hand g (duty.Owed m) waits read is word h =
    one_given kind answered.Reply b s.apps _ (answered_total kind answered.Reply d s m message (hand_waits d s v m hand g waits read is) word) h
reply_by kind b d s v message hand g duty.Done waits read is word h = none_answered kind b s.apps _ refl h
reply_by kind b d s v message hand g duty.Free waits read is word h = none_answered kind b s.apps _ refl h

reply_balanced : (kind : Answered) (b : Balance) (d : Declared) (s : State) (v : ℕ) (message : Message) (c : Act) → IsWaiting d s → LooperStands d s v (wish.Reply message) → reply_act s (looper v) ≡ Some c → IsBalanced kind b s.apps → Balanced kind b (replied_by s (looper v) message) c
reply_balanced kind b d s v message c waits stands e h =
    let there : hand_at s v ≡ Some stands.hand = hand_is s v stands.hand stands.stage stands.read in
    let is : answer_of (reply_answer stands.hand.duty) ≡ c = same_Some _ c (sym (ap (option_map (λ (hand : Hand Message). answer_of (reply_answer hand.duty))) there) ∙ e) in
    let word : kind_of_reply message ≡ answered.Reply = body_reply d v stands.place.part _ (Some stands.hand.letter.body) stands.step message stands.allowed stands.asked in
    by_act kind b (replied_by s (looper v) message) (answer_of (reply_answer stands.hand.duty)) c is
    (subst (λ o. Balanced kind b (with_duty duty_after_reply (looper v) (told message (option_and_then (λ (hand : Hand Message). waiter hand.duty) o) s)) (answer_of (reply_answer stands.hand.duty))) (sym there)
    (reply_by kind b d s v message stands.hand stands.stage stands.hand.duty waits stands.read refl word h))

forwarded_apps : (s : State) (v u : ℕ) (target : Target) → (forwarded s (looper v) u target).apps ≡ s.apps
forwarded_apps s v u target = found_apps s (forwarded_hand s (looper v) u target) (hand_at s v) (λ hand. tested_apps s (is_accepted_at s u (hop_of s (looper v))) _ _ refl refl)

body_balanced : (kind : Answered) (b : Balance) (d : Declared) (s : State) (v : ℕ) (x : Wish) (c : Act) → IsWaiting d s → LooperStands d s v x → is_body_wish x ≡ true → wish_act s (looper v) x ≡ Some c → IsBalanced kind b s.apps → Balanced kind b (granted s (looper v) x) c
unfolding wish_act granted
body_balanced kind b d s v (wish.Note word) c waits stands ok e h = silent kind b s.apps s.apps c (sym (ap answering_of (same_Some (act.Note word) c e))) refl h
body_balanced kind b d s v (wish.Post u target message) c waits stands ok e h = silent kind b s.apps _ c (quiet_post s u (hop_of s (looper v)) c e) refl h
body_balanced kind b d s v (wish.Send u target message) c waits stands ok e h = cc
body_balanced kind b d s v (wish.Forward u target) c waits stands ok e h = silent kind b s.apps _ c (quiet_post s u (hop_of s (looper v)) c e) (same_total kind s.apps _ (forwarded_apps s v u target)) h
body_balanced kind b d s v (wish.Reply message) c waits stands ok e h = reply_balanced kind b d s v message c waits stands e h
body_balanced kind b d s v wish.Claim c waits stands ok e h = cc
body_balanced kind b d s v (wish.Lock u) c waits stands ok e h = cc
body_balanced kind b d s v wish.Unlock c waits stands ok e h = cc
body_balanced kind b d s v wish.Flush c waits stands ok e h = silent kind b s.apps _ c (quiet_flush s v c e) (same_total kind s.apps _ (flushed_apps s v)) h
body_balanced kind b d s v wish.SyncDone c waits stands ok e h = silent kind b s.apps s.apps c (quiet_sync s v c e) refl h
body_balanced kind b d s v (wish.Draw command) c waits stands ok e h = silent kind b s.apps _ c (quiet_draw s v c e) refl h

asked_balanced : (kind : Answered) (b : Balance) (d : Declared) (s : State) (who : Runner) (x : Wish) (c : Act) → IsWithinLimits d → IsWaiting d s → want_of d s (runner who) ≡ Some (asks who x) → wish_act s who x ≡ Some c → IsBalanced kind b s.apps → Balanced kind b (moved_on d who (is_accepted_wish s who x) x (granted s who x)) c
asked_balanced kind b d s (app m) x c limits waits wants e h =
    other_apps kind b _ _ _ (moved_cells kind d (app m) (is_accepted_wish s (app m) x) x (granted s (app m) x)) (app_balanced kind b d s m x c waits (app_stands d s m x wants) (app_asks d s m x limits wants) e h)
asked_balanced kind b d s (looper v) x c limits waits wants e h =
    other_apps kind b _ _ _ (moved_cells kind d (looper v) (is_accepted_wish s (looper v) x) x (granted s (looper v) x)) (body_balanced kind b d s v x c waits (looper_stands d s v x limits wants) (body_asks d s v x limits wants) e h)

-- ---- the end of a message

end_by : (kind : Answered) (b : Balance) (d : Declared) (s : State) (v : ℕ) (hand : Hand Message) (g : Stage) (x : Duty) (route : Route) → IsWaiting d s → slice_get s.loopers v ≡ Some (handling hand g) → hand.duty ≡ x → IsBalanced kind b s.apps → Balanced kind b (told_at_end (end_telling x route) (freed s v)) (end_of (end_telling x route))
end_by kind b d s v hand g (duty.Owed m) Unknown waits read is h = one_given kind answered.Unknown b s.apps _ (answered_total kind answered.Unknown d s m (word_alone not_understood_word) (hand_waits d s v m hand g waits read is) refl) h
end_by kind b d s v hand g (duty.Owed m) Skipped waits read is h = one_given kind answered.NoReply b s.apps _ (answered_total kind answered.NoReply d s m (word_alone no_reply_word) (hand_waits d s v m hand g waits read is) refl) h
end_by kind b d s v hand g (duty.Owed m) (Handler target) waits read is h = one_given kind answered.NoReply b s.apps _ (answered_total kind answered.NoReply d s m (word_alone no_reply_word) (hand_waits d s v m hand g waits read is) refl) h
end_by kind b d s v hand g duty.Done route waits read is h = none_answered kind b s.apps _ refl h
end_by kind b d s v hand g duty.Free route waits read is h = none_answered kind b s.apps _ refl h

held : (l : Looper) (hand : Hand Message) → hand_in l ≡ Some hand → (g : Stage) × (l ≡ handling hand g)
held (handling other g) hand e = (g, ap (λ x. handling x g) (same_Some other hand e))
held (locked m) hand e = cc
held free hand e = cc

end_balanced : (kind : Answered) (b : Balance) (d : Declared) (s : State) (v : ℕ) (c : Act) → IsWaiting d s → option_map end_act (hand_at s v) ≡ Some c → IsBalanced kind b s.apps → Balanced kind b (option_map_or (ended_hand s v) (hand_at s v) s) c
end_balanced kind b d s v c waits e h =
    let at : IsMapped end_act (hand_at s v) c = mapped end_act (hand_at s v) c e in
    let there : IsChained hand_in (slice_get s.loopers v) at.from = chained hand_in (slice_get s.loopers v) at.from at.read in
    let is : (g : Stage) × (there.from ≡ handling at.from g) = held there.from at.from there.is in
    subst (λ o. Balanced kind b (option_map_or (ended_hand s v) o s) c) (sym at.read)
    (by_act kind b (ended_hand s v at.from) (end_of (end_telling at.from.duty at.from.route)) c at.is (end_by kind b d s v at.from is.0 at.from.duty at.from.route waits (there.read ∙ ap Some is.1) refl h))

-- ---- all wants

want_balanced : (kind : Answered) (b : Balance) (d : Declared) (s : State) (want : Want) (c : Act) → IsWithinLimits d → IsWaiting d s → want_of d s (maker want) ≡ Some want → want_act d s want ≡ Some c → IsBalanced kind b s.apps → Balanced kind b (met d s want) c
unfolding want_act met
want_balanced kind b d s (asks who x) c limits waits wants e h = asked_balanced kind b d s who x c limits waits wants e h
want_balanced kind b d s (takes v) c limits waits wants e h =
    let at : IsJoined take_act (slice_get s.loopers v) (slice_get s.ports v) c = joined take_act (slice_get s.loopers v) (slice_get s.ports v) c e in
    silent kind b s.apps _ c (quiet_take at.first at.second c at.is) (same_total kind s.apps _ (taken_apps d s v)) h
want_balanced kind b d s (begins v) c limits waits wants e h = silent kind b s.apps _ c (quiet_begin s v c e) (same_total kind s.apps _ (begun_apps s v)) h
want_balanced kind b d s (flushes v) c limits waits wants e h = silent kind b s.apps _ c (quiet_flush s v c e) (same_total kind s.apps _ (flushed_apps s v)) h
want_balanced kind b d s (draws_end v) c limits waits wants e h = silent kind b s.apps _ c (quiet_draw s v c e) refl h
want_balanced kind b d s (ends v) c limits waits wants e h = end_balanced kind b d s v c waits e h
want_balanced kind b d s (notifies v) c limits waits wants e h = silent kind b s.apps _ c (quiet_notify s v c e) refl h
want_balanced kind b d s (executes v) c limits waits wants e h = silent kind b s.apps _ c (quiet_exec d s v c e) (same_total kind s.apps _ (executed_apps d s v)) h
want_balanced kind b d s (uses x) c limits waits wants e h = silent kind b s.apps _ c (quiet_event d s x c e) (same_total kind s.apps _ (event_apps s x)) h
want_balanced kind b d s stops c limits waits wants e h = silent kind b s.apps _ c (quiet_stop d s c e) refl h

legal_balanced : (kind : Answered) (b : Balance) (d : Declared) (s : State) (e : Entry) → IsWithinLimits d → IsWaiting d s → IsLegal d s e → IsBalanced kind b s.apps → Balanced kind b (step d s e) e.act
legal_balanced kind b d s e limits waits legal h =
    let is : IsMet d s e = met_by d s e legal in
    let by : maker is.want ≡ is.who = maker_is d s is.who is.want is.wanted in
    subst (λ r. Balanced kind b r e.act) (sym is.stepped) (want_balanced kind b d s is.want e.act limits waits (ap (want_of d s) by ∙ is.wanted) is.granted h)

-- ---- histories

abbrev pub says : Entry → List Answering
says e = answering_of e.act

covered_append : (kind : Answered) (b : Balance) (xs ys : List Answering) → AreCovered kind b xs → AreCovered kind (balance_from kind b xs) ys → AreCovered kind b (xs ++ ys)
covered_append kind b [] ys h k = k
covered_append kind b (x ∷ xs) ys h k = (h.0, covered_append kind (balanced_with kind b x) xs ys h.1 k)

pub balance_append : (kind : Answered) (b : Balance) (xs ys : List Answering) → balance_from kind b (xs ++ ys) ≡ balance_from kind (balance_from kind b xs) ys
balance_append kind b [] ys = refl
balance_append kind b (x ∷ xs) ys = balance_append kind (balanced_with kind b x) xs ys

history_balanced : (kind : Answered) (b : Balance) (d : Declared) (s : State) (h : List Entry) → IsWithinLimits d → IsWaiting d s → AreLegalFrom d s h → IsBalanced kind b s.apps → Answers kind b (state_from d s h).apps (flat_map says h)
unfolding AreLegalFrom state_from
history_balanced kind b d s [] limits waits legal h = none_answered kind b s.apps s.apps refl h
history_balanced kind b d s (e ∷ es) limits waits legal h =
    let now : Balanced kind b (step d s e) e.act = legal_balanced kind b d s e limits waits legal.0 h in
    let later : Answers kind (balance_from kind b (says e)) (state_from d (step d s e) es).apps (flat_map says es) =
    history_balanced kind (balance_from kind b (says e)) d (step d s e) es limits (waiting_step d s e limits legal.0 waits) legal.1 now.balanced in
    record {
      covered = covered_append kind b (says e) (flat_map says es) now.covered later.covered;
      balanced = subst (λ x. IsBalanced kind x (state_from d (step d s e) es).apps) (sym (balance_append kind b (says e) (flat_map says es))) later.balanced;
    }

total_repeated : (kind : Answered) (n : ℕ) → total (of_app kind) (replicate n opening_app) ≡ 0
total_repeated kind zero = refl
total_repeated kind (suc n) = let rest : total (of_app kind) (replicate n opening_app) ≡ 0 = total_repeated kind n in omega (arith, rest)

opening_balanced : (kind : Answered) (d : Declared) → IsBalanced kind no_balance (opening_state d).apps
unfolding opening_state
opening_balanced kind d = let none : total (of_app kind) (replicate (length d.apps) opening_app) ≡ 0 = total_repeated kind (length d.apps) in record { waiting = omega (arith, none) }

waiting_opening : (d : Declared) → IsWithinLimits d → IsWaiting d (opening_state d)
unfolding AreLegalFrom state_from
waiting_opening d limits = waiting_after d [] limits tt

pub balanced_after : (kind : Answered) (d : Declared) (h : List Entry) → IsWithinLimits d → IsLegalHistory d h → Answers kind no_balance (state_after d h).apps (answerings h)
unfolding answerings
balanced_after kind d h limits legal = history_balanced kind no_balance d (opening_state d) h limits (waiting_opening d limits) legal (opening_balanced kind d)
