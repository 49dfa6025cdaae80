-- Each legal entry keeps the balance of answers and claims.
use Rattle.std.proofs.Common.{◌≡◌, ℕ, ◌+◌, Bool, true, false, List, [], ◌∷◌, length, Option, Some, None, refl, sym, ap, subst, ◌∙◌}
use Rattle.std.specs.Prelude.{slice_get, ◌==◌, option_and_then, if◌then◌else◌, Result, Ok, Err}
use Rattle.std.specs.Option.{option_map_or}
use Rattle.std.proofs.lemmas.Option.{same_Some}
use Rattle.be_actor.specs.declared.Wish.{Wish}
use Rattle.be_actor.specs.declared.Wish.TheVariants as wish
use Rattle.be_bitmap.specs.Pictures.{Picture}
use Rattle.be_command.specs.Effects.{Effect, at_view, changes, ends_update, effect_of}
use Rattle.be_desk.specs.Changes.{Desk, desk_after}
use Rattle.be_geom.specs.declared.change.Change.{Change}
use Rattle.be_geom.specs.declared.change.Change.TheVariants.{Activate}
use Rattle.be_link.specs.Queues.{Numbered, Buffer, is_full, fits}
use Rattle.be_message.specs.Messages.{Message}
use Rattle.be_pane.specs.Panes.{Pane}
use Rattle.be_port.specs.Ports.{Letter, Port, judged, front}
use Rattle.be_script.specs.Script.{Declared}
use Rattle.be_stack.specs.declared.fault.ChangeFault.{ChangeFault}
use Rattle.be_machine.specs.Commands.{draw_act, flush_act, sync_act, exec_act, effect_outcome, flushed, with_effect, done_at_view, without_front, executed_command, executed}
use Rattle.be_machine.specs.declared.Act.{Act}
use Rattle.be_machine.specs.declared.Act.TheVariants as act
use Rattle.be_machine.specs.declared.Answered.{Answered}
use Rattle.be_machine.specs.declared.Answered.TheVariants as answered
use Rattle.be_machine.specs.Happenings.{Answering, answering_of}
use Rattle.be_machine.specs.Looper.{lock_act, kind_of_reply}
use Rattle.be_machine.specs.Orderly.{Balance, balance_from}
use Rattle.be_machine.specs.Port.{post_act, notify_act, take_act, with_letter_in_hand, taken}
use Rattle.be_machine.specs.State.{State, App, Looper, free, locked, handling}
use Rattle.be_machine.specs.Update.{begin_act, begun, opened}
use Rattle.be_machine.specs.Windows.{changed, changed_to}
use Rattle.be_input.specs.declared.Event.TheVariants as event
use Rattle.be_script.specs.declared.InputLine.{InputLine}
use Rattle.be_script.specs.declared.InputLine.TheVariants as line
use Rattle.be_machine.specs.Closing.{stop_act, all_done, all_quiet}
use Rattle.be_machine.specs.Input.{delivery_of, event_act, activated, with_event}
use Rattle.be_machine.specs.Program.{has_ended}
use Rattle.be_machine.specs.Windows.{corner_at, dirty_of}
use Rattle.be_update.specs.Sessions.{is_any}
use Rattle.std.specs.Prelude.{not, ◌&&◌}
use Rattle.be_machine.proofs.Found.{IsMapped, mapped, IsChained, chained, IsJoined, joined, IsTested, tested, untested}
use Rattle.be_machine.proofs.Waiting.{total}
use Rattle.be_actor.specs.declared.Instruction.{Instruction}
use Rattle.be_actor.specs.declared.Instruction.TheVariants as instruction
use Rattle.be_actor.specs.Drafts.{DraftWords, Word, value, current, copied, with_word, filled}
use Rattle.be_actor.specs.Limits.{is_reserved, is_draft}
use Rattle.be_actor.specs.Wishes.{wish_at, has_no_room}
use Rattle.be_message.specs.Words.{update_notice, no_reply_word, not_understood_word}
use Rattle.be_script.specs.Programs.{is_body_step}
use Rattle.std.specs.Prelude.{◌||◌, fold}
use Rattle.be_facts.proofs.Truths.{and_first, and_second}
use Rattle.be_machine.proofs.Balances.{of_app, IsBalanced, Answers, none_answered}
use Rattle.be_machine.specs.Commands.{flushed_into}

-- what an act says of who waits, and the cells behind it
abbrev pub Balanced : Answered → Balance → State → Act → Type 0
Balanced kind b r a = Answers kind b r.apps (answering_of a)

pub by_act : (kind : Answered) (b : Balance) (r : State) (a c : Act) → a ≡ c → Balanced kind b r a → Balanced kind b r c
by_act kind b r a c same h = subst (Balanced kind b r) same h

pub other_apps : (kind : Answered) (b : Balance) (apps others : List App) (answers : List Answering) → total (of_app kind) others ≡ total (of_app kind) apps → Answers kind b apps answers → Answers kind b others answers
other_apps kind b apps others answers same h = record { covered = h.covered; balanced = record { waiting = h.balanced.waiting ∙ ap (λ n. (balance_from kind b answers).went + n) (sym same) } }

-- an act that says nothing of them
pub silent : (kind : Answered) (b : Balance) (apps others : List App) (a : Act) → answering_of a ≡ [] → total (of_app kind) others ≡ total (of_app kind) apps → IsBalanced kind b apps → Answers kind b others (answering_of a)
silent kind b apps others a says same h = subst (Answers kind b others) (sym says) (none_answered kind b apps others same h)

-- ---- acts that say nothing

pub quiet_post : (s : State) (v hop : ℕ) (a : Act) → post_act s v hop ≡ Some a → answering_of a ≡ []
quiet_post s v hop a e = let at : IsMapped (λ p. act.Post v (judged p hop)) (slice_get s.ports v) a = mapped (λ (p : Port Message). act.Post v (judged p hop)) (slice_get s.ports v) a e in sym (ap answering_of at.is)

pub quiet_flush : (s : State) (v : ℕ) (a : Act) → flush_act s v ≡ Some a → answering_of a ≡ []
quiet_flush s v a e =
    let at : IsJoined (λ b link. if fits b link then Some (act.Flush v (length b.commands)) else None) (slice_get s.buffers v) (slice_get s.links v) a =
    joined (λ (b : Buffer) (link : List Numbered). if fits b link then Some (act.Flush v (length b.commands)) else None) (slice_get s.buffers v) (slice_get s.links v) a e in
    let is : IsTested (fits at.first at.second) (act.Flush v (length at.first.commands)) a = tested (fits at.first at.second) (act.Flush v (length at.first.commands)) a at.is in
    sym (ap answering_of is.is)

pub quiet_sync : (s : State) (v : ℕ) (a : Act) → sync_act s v ≡ Some a → answering_of a ≡ []
quiet_sync s v a e =
    let at : IsChained (λ link. if length link == 0 then Some (act.SyncDone v) else None) (slice_get s.links v) a = chained (λ (link : List Numbered). if length link == 0 then Some (act.SyncDone v) else None) (slice_get s.links v) a e in
    let is : IsTested (length at.from == 0) (act.SyncDone v) a = tested (length at.from == 0) (act.SyncDone v) a at.is in
    sym (ap answering_of is.is)

pub quiet_draw : (s : State) (v : ℕ) (a : Act) → draw_act s v ≡ Some a → answering_of a ≡ []
quiet_draw s v a e =
    let at : IsChained (λ b. if is_full b then None else Some (act.Draw v (b.made + 1))) (slice_get s.buffers v) a = chained (λ (b : Buffer). if is_full b then None else Some (act.Draw v (b.made + 1))) (slice_get s.buffers v) a e in
    let is : (is_full at.from ≡ false) × (act.Draw v (at.from.made + 1) ≡ a) = untested (is_full at.from) (act.Draw v (at.from.made + 1)) a at.is in
    sym (ap answering_of is.1)

pub quiet_lock : (v : ℕ) (l : Looper) (a : Act) → lock_act v l ≡ Some a → answering_of a ≡ []
quiet_lock v free a e = sym (ap answering_of (same_Some (act.Lock v) a e))
quiet_lock v (locked m) a e = cc
quiet_lock v (handling hand g) a e = cc

pub quiet_take : (l : Looper) (p : Port Message) (a : Act) → take_act l p ≡ Some a → answering_of a ≡ []
quiet_take free p a e = let at : IsMapped (λ x. act.Take (p.taken + 1)) (front p) a = mapped (λ (x : Letter Message). act.Take (p.taken + 1)) (front p) a e in sym (ap answering_of at.is)
quiet_take (locked m) p a e = cc
quiet_take (handling hand g) p a e = cc

pub quiet_begin : (s : State) (v : ℕ) (a : Act) → begin_act s v ≡ Some a → answering_of a ≡ []
quiet_begin s v a e =
    let at : IsChained (λ link. if length link == 0 then Some (act.Begin (is_any (dirty_of s v))) else None) (slice_get s.links v) a =
    chained (λ (link : List Numbered). if length link == 0 then Some (act.Begin (is_any (dirty_of s v))) else None) (slice_get s.links v) a e in
    let is : IsTested (length at.from == 0) (act.Begin (is_any (dirty_of s v))) a = tested (length at.from == 0) (act.Begin (is_any (dirty_of s v))) a at.is in
    sym (ap answering_of is.is)

pub quiet_notify : (s : State) (v : ℕ) (a : Act) → notify_act s v ≡ Some a → answering_of a ≡ []
quiet_notify s v a e = let at : IsMapped (λ p. act.Notify (length p.arrived + 1)) (slice_get s.ports v) a = mapped (λ (p : Port Message). act.Notify (length p.arrived + 1)) (slice_get s.ports v) a e in sym (ap answering_of at.is)

pub quiet_exec : (d : Declared) (s : State) (v : ℕ) (a : Act) → exec_act d s v ≡ Some a → answering_of a ≡ []
quiet_exec d s v a e =
    let at : IsJoined (λ pane c. Some (act.Exec c.number (effect_outcome d.pictures s v (effect_of c.command) pane))) (slice_get s.panes v) (option_and_then (λ link. slice_get link 0) (slice_get s.links v)) a =
    joined (λ (pane : Pane) (c : Numbered). Some (act.Exec c.number (effect_outcome d.pictures s v (effect_of c.command) pane))) (slice_get s.panes v) (option_and_then (λ link. slice_get link 0) (slice_get s.links v)) a e in
    sym (ap answering_of (same_Some (act.Exec at.second.number (effect_outcome d.pictures s v (effect_of at.second.command) at.first)) a at.is))

pub quiet_event : (d : Declared) (s : State) (x : InputLine) (a : Act) → event_act d s x ≡ Some a → answering_of a ≡ []
quiet_event d s (line.Press p) a e = sym (ap answering_of (same_Some _ a e))
quiet_event d s (line.Release p) a e = sym (ap answering_of (same_Some _ a e))
quiet_event d s (line.Move p) a e = sym (ap answering_of (same_Some _ a e))
quiet_event d s (line.Key key) a e = sym (ap answering_of (same_Some _ a e))
quiet_event d s (line.After m) a e = let is : IsTested (has_ended d s m) (act.Event (s.events + 1) None None) a = tested (has_ended d s m) (act.Event (s.events + 1) None None) a e in sym (ap answering_of is.is)

pub quiet_stop : (d : Declared) (s : State) (a : Act) → stop_act d s ≡ Some a → answering_of a ≡ []
quiet_stop d s a e = let is : IsTested (not s.stopped && all_done d s && all_quiet s) act.Stop a = tested (not s.stopped && all_done d s && all_quiet s) act.Stop a e in sym (ap answering_of is.is)

pub quiet_own : (f : ℕ → Option Act) (o : Option ℕ) (a : Act) → ((v : ℕ) → f v ≡ Some a → answering_of a ≡ []) → option_and_then f o ≡ Some a → answering_of a ≡ []
quiet_own f o a each e = let at : IsChained f o a = chained f o a e in each at.from at.is

-- ---- applications that stay

pub found_apps : {X : Type 0} (s : State) (f : X → State) (o : Option X) → ((x : X) → (f x).apps ≡ s.apps) → (option_map_or f o s).apps ≡ s.apps
found_apps s f (Some x) each = each x
found_apps s f None each = refl

pub tested_apps : (s : State) (b : Bool) (x y : State) → x.apps ≡ s.apps → y.apps ≡ s.apps → (if b then x else y).apps ≡ s.apps
tested_apps s true x y h k = h
tested_apps s false x y h k = k

pub flushed_apps : (s : State) (v : ℕ) → (flushed s v).apps ≡ s.apps
flushed_apps s v = found_apps s (flushed_into s v) (slice_get s.buffers v) (λ b. refl)

changed_to_apps : (s : State) (v : ℕ) (change : Change) (r : Result Desk ChangeFault) → (changed_to s v change r).apps ≡ s.apps
changed_to_apps s v change (Ok desk) = refl
changed_to_apps s v change (Err f) = refl

changed_apps : (s : State) (v : ℕ) (change : Change) → (changed s v change).apps ≡ s.apps
unfolding changed
changed_apps s v change = changed_to_apps s v change (desk_after s.desk v change)

effect_apps : (pictures : List Picture) (s : State) (v : ℕ) (effect : Effect) → (with_effect pictures s v effect).apps ≡ s.apps
effect_apps pictures s v (at_view u deed) = found_apps s (done_at_view pictures s v u deed) (slice_get s.panes v) (λ pane. refl)
effect_apps pictures s v (changes change) = changed_apps s v change
effect_apps pictures s v ends_update = refl

pub executed_apps : (d : Declared) (s : State) (v : ℕ) → (executed d s v).apps ≡ s.apps
unfolding executed
executed_apps d s v = found_apps s (executed_command d s v) (option_and_then (λ link. slice_get link 0) (slice_get s.links v)) (λ c. effect_apps d.pictures (without_front s v) v (effect_of c.command))

pub begun_apps : (s : State) (v : ℕ) → (begun s v).apps ≡ s.apps
unfolding begun
begun_apps s v = tested_apps s (is_any (dirty_of s v)) _ _ (found_apps s (opened s v) (corner_at s v) (λ corner. refl)) refl

activated_apps : (s : State) (o : Option ℕ) → (activated s o).apps ≡ s.apps
activated_apps s (Some v) = changed_apps s v Activate
activated_apps s None = refl

pub event_apps : (s : State) (x : InputLine) → (with_event s x).apps ≡ s.apps
event_apps s (line.Press p) = activated_apps _ (delivery_of s (event.Press p)).activate
event_apps s (line.Release p) = activated_apps _ (delivery_of s (event.Release p)).activate
event_apps s (line.Move p) = activated_apps _ (delivery_of s (event.Move p)).activate
event_apps s (line.Key key) = activated_apps _ (delivery_of s (event.Key key)).activate
event_apps s (line.After m) = refl

pub taken_apps : (d : Declared) (s : State) (v : ℕ) → (taken d s v).apps ≡ s.apps
taken_apps d s v = found_apps s (with_letter_in_hand d s v) (option_and_then front (slice_get s.ports v)) (λ x. refl)

pub same_total : (kind : Answered) (apps others : List App) → others ≡ apps → total (of_app kind) others ≡ total (of_app kind) apps
same_total kind apps others e = ap (total (of_app kind)) e

-- ---- what a script's replies are

word_what : (now : Option Message) (m : Message) (w : Word) → (with_word now m w).what ≡ m.what
word_what now m (value name datum) = refl
word_what (Some message) m (current name) = refl
word_what None m (current name) = refl
word_what (Some message) m (copied name) = refl
word_what None m (copied name) = refl

words_what : (now : Option Message) (m : Message) (words : List Word) → (fold (with_word now) m words).what ≡ m.what
words_what now m [] = refl
words_what now m (w ∷ ws) = words_what now (with_word now m w) ws ∙ word_what now m w

filled_what : (draft : DraftWords) (now : Option Message) → (filled draft now).what ≡ draft.what
unfolding filled
filled_what draft now = words_what now (record { what = draft.what; fields = [] }) draft.words

neither : (a b c : Bool) → not (a || b || c) ≡ true → (b ≡ false) × (c ≡ false)
neither true b c e = cc
neither false true c e = cc
neither false false true e = cc
neither false false false e = (refl, refl)

kind_by : (what : ℕ) (b c : Bool) → (what == no_reply_word) ≡ b → (what == not_understood_word) ≡ c → b ≡ false → c ≡ false → (if what == no_reply_word then answered.NoReply else if what == not_understood_word then answered.Unknown else answered.Reply) ≡ answered.Reply
kind_by what b c is_b is_c eb ec = rw (is_b ∙ eb, is_c ∙ ec) refl

draft_kind : (draft : DraftWords) (now : Option Message) → is_draft true draft ≡ true → kind_of_reply (filled draft now) ≡ answered.Reply
unfolding is_draft
draft_kind draft now h =
    let free_of : not (is_reserved draft.what) ≡ true = search (and_first, and_second) in
    let apart : ((draft.what == no_reply_word) ≡ false) × ((draft.what == not_understood_word) ≡ false) = neither (draft.what == update_notice) (draft.what == no_reply_word) (draft.what == not_understood_word) free_of in
    let same : (filled draft now).what ≡ draft.what = filled_what draft now in
    kind_by (filled draft now).what (draft.what == no_reply_word) (draft.what == not_understood_word) (ap (λ n. n == no_reply_word) same) (ap (λ n. n == not_understood_word) same) apart.0 apart.1

no_reply_if : (b : Bool) (x y : Wish) (message : Message) (P : Type 0) → (x ≡ wish.Reply message → ⊥) → (y ≡ wish.Reply message → ⊥) → (if b then x else y) ≡ wish.Reply message → P
no_reply_if true x y message P h k e = absurd (h e)
no_reply_if false x y message P h k e = absurd (k e)

-- a body's reply is neither of the words that stand for no reply
pub body_reply : (d : Declared) (w part buffered : ℕ) (now : Option Message) (i : Instruction) (message : Message) → is_body_step d w i ≡ true → wish_at part now buffered i ≡ wish.Reply message → kind_of_reply message ≡ answered.Reply
body_reply d w part buffered now (instruction.Reply draft) message h e = let same : filled draft now ≡ message = cc in subst (λ m. kind_of_reply m ≡ answered.Reply) same (draft_kind draft now h)
body_reply d w part buffered now (instruction.Note word) message h e = cc
body_reply d w part buffered now (instruction.Post v target draft) message h e = cc
body_reply d w part buffered now (instruction.Send v target draft) message h e = cc
body_reply d w part buffered now (instruction.Forward v target) message h e = cc
body_reply d w part buffered now (instruction.Lock v) message h e = cc
body_reply d w part buffered now instruction.Unlock message h e = cc
body_reply d w part buffered now instruction.Flush message h e = cc
body_reply d w part buffered now instruction.Sync message h e = no_reply_if (part == 0) wish.Flush wish.SyncDone message _ (λ k. cc) (λ k. cc) e
body_reply d w part buffered now (instruction.Draw c) message h e = no_reply_if (has_no_room buffered) wish.Flush (wish.Draw c) message _ (λ k. cc) (λ k. cc) e
