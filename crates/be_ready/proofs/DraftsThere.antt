-- The draft of the message that is asked for is the one at which the runner is, and can be written there.
use Rattle.std.proofs.Common.{◌≡◌, ℕ, Bool, true, false, List, [], ◌∷◌, Option, Some, None, refl, sym, ap, ◌∙◌, subst}
use Rattle.std.specs.Prelude.{◌==◌, slice_get, option_map, option_and_then, if◌then◌else◌}
use Rattle.std.specs.List.{list_all, list_any}
use Rattle.std.proofs.lemmas.Option.{same_Some}
use Rattle.std.proofs.lemmas.Bool.{and_from}
use Rattle.be_facts.proofs.Lists.{all_at}
use Rattle.be_facts.proofs.Truths.{and_first, and_second}
use Rattle.be_actor.specs.Conditions.{HasCurrent, draft_of, takes_current}
use Rattle.be_actor.specs.declared.Instruction.{Instruction}
use Rattle.be_actor.specs.declared.Instruction.TheVariants.{Note, Post, Send, Reply, Forward, Lock, Unlock, Flush, Sync, Draw}
use Rattle.be_actor.specs.declared.Wish.{Wish}
use Rattle.be_actor.specs.declared.Wish.TheVariants as wish
use Rattle.be_actor.specs.Drafts.{DraftWords, Word, value, current, copied, filled}
use Rattle.be_actor.specs.Limits.{is_draft, is_word}
use Rattle.be_actor.specs.Wishes.{has_no_room, wish_at, wish_of}
use Rattle.be_looper.specs.Duties.{Hand}
use Rattle.be_message.specs.Messages.{Message}
use Rattle.be_script.specs.Limits.{IsWithinLimits}
use Rattle.be_script.specs.Programs.{is_address, is_app_step, is_body_step, is_draw_step, is_rest_of_app, lock_behind}
use Rattle.be_script.specs.Script.{Declared}
use Rattle.be_machine.specs.Activities.{app, looper, runner}
use Rattle.be_machine.specs.Program.{app_program, buffered, letter_program, update_program}
use Rattle.be_machine.specs.State.{State, App, Looper, free, locked, handling, Stage, in_body, beginning, in_update, ending}
use Rattle.be_machine.specs.Wants.{Want, asks, asks_or, draw_end_want, draws_end, end_want, ends, flushes, looper_want, stage_want, want_of}
use Rattle.be_machine.proofs.Found.{IsMapped, mapped}
use Rattle.be_machine.proofs.Programs.{app_rest, body_steps, update_steps}
use Rattle.be_machine.proofs.ProgressStands.{AppStands, app_stands}
use Rattle.be_machine.proofs.KeptDepths.{draft_words}
use Rattle.be_ready.specs.Letters.{draft_at}
use Rattle.be_rules.specs.Own.{step_of}

-- ---- where drafts can be written

-- with a message in hand, or without
abbrev suits : Bool → Option DraftWords → Bool
suits has (Some draft) = is_draft has draft
suits has None = true

app_step_suits : (d : Declared) (lock : Option ℕ) (i : Instruction) → is_app_step d lock i ≡ true → suits false (draft_of i) ≡ true
app_step_suits d None (Post v target draft) h = and_second (is_address d v target) (is_draft false draft) h
app_step_suits d (Some w) (Post v target draft) h = and_second (is_address d v target) (is_draft false draft) h
app_step_suits d None (Send v target draft) h = and_second (is_address d v target) (is_draft false draft) h
app_step_suits d (Some w) (Send v target draft) h = cc
app_step_suits d None (Reply draft) h = cc
app_step_suits d (Some w) (Reply draft) h = cc
app_step_suits d lock (Note word) h = refl
app_step_suits d lock (Forward v target) h = refl
app_step_suits d lock (Lock v) h = refl
app_step_suits d lock Unlock h = refl
app_step_suits d lock Flush h = refl
app_step_suits d lock Sync h = refl
app_step_suits d lock (Draw c) h = refl

rest_suits : (d : Declared) (lock : Option ℕ) (steps : List Instruction) → is_rest_of_app d lock steps ≡ true → list_all (λ i. suits false (draft_of i)) steps ≡ true
rest_suits d lock [] h = refl
rest_suits d None (i ∷ rest) h = and_from (suits false (draft_of i)) _ (app_step_suits d None i (and_first (is_app_step d None i) _ h)) (rest_suits d (lock_behind None i) rest (and_second (is_app_step d None i) _ h))
rest_suits d (Some w) (i ∷ rest) h = and_from (suits false (draft_of i)) _ (app_step_suits d (Some w) i (and_first (is_app_step d (Some w) i) _ h)) (rest_suits d (lock_behind (Some w) i) rest (and_second (is_app_step d (Some w) i) _ h))

body_step_suits : (d : Declared) (w : ℕ) (i : Instruction) → is_body_step d w i ≡ true → suits true (draft_of i) ≡ true
body_step_suits d w (Post v target draft) h = and_second (is_address d v target) (is_draft true draft) h
body_step_suits d w (Send v target draft) h = cc
body_step_suits d w (Reply draft) h = h
body_step_suits d w (Note word) h = refl
body_step_suits d w (Forward v target) h = refl
body_step_suits d w (Lock v) h = refl
body_step_suits d w Unlock h = refl
body_step_suits d w Flush h = refl
body_step_suits d w Sync h = refl
body_step_suits d w (Draw c) h = refl

draw_step_none : (d : Declared) (w : ℕ) (i : Instruction) → is_draw_step d w i ≡ true → draft_of i ≡ None
draw_step_none d w (Post v target draft) h = cc
draw_step_none d w (Send v target draft) h = cc
draw_step_none d w (Reply draft) h = cc
draw_step_none d w (Note word) h = refl
draw_step_none d w (Forward v target) h = refl
draw_step_none d w (Lock v) h = refl
draw_step_none d w Unlock h = refl
draw_step_none d w Flush h = refl
draw_step_none d w Sync h = refl
draw_step_none d w (Draw c) h = refl

-- ---- the message in hand

takes_none : (ws : List Word) → list_all (is_word false) ws ≡ true → list_any takes_current ws ≡ true → ⊥
takes_none [] all some = cc
takes_none (value name datum ∷ ws) all some = takes_none ws (and_second (is_word false (value name datum)) _ all) some
takes_none (current name ∷ ws) all some = cc
takes_none (copied name ∷ ws) all some = cc

-- without a message no word takes from it
pub without_current : (draft : DraftWords) → is_draft false draft ≡ true → HasCurrent draft.words None
without_current draft suits takes = absurd (takes_none draft.words (draft_words false draft suits) takes)

-- ---- the instruction that makes a message

abbrev pub made_for : Wish → Option Message
made_for (wish.Post w target message) = Some message
made_for (wish.Send w target message) = Some message
made_for (wish.Reply message) = Some message
made_for (wish.Note word) = None
made_for (wish.Forward w target) = None
made_for wish.Claim = None
made_for (wish.Lock w) = None
made_for wish.Unlock = None
made_for wish.Flush = None
made_for wish.SyncDone = None
made_for (wish.Draw c) = None

-- the message is what this draft says
record IsFrom (now : Option Message) (o : Option DraftWords) (message : Message) : Type 0 where
  draft : DraftWords
  read : o ≡ Some draft
  is : filled draft now ≡ message

made_if : (now : Option Message) (o : Option DraftWords) (message : Message) (b : Bool) (x y : Wish) → (made_for x ≡ Some message → IsFrom now o message) → (made_for y ≡ Some message → IsFrom now o message) → made_for (if b then x else y) ≡ Some message → IsFrom now o message
made_if now o message true x y first second e = first e
made_if now o message false x y first second e = second e

made_at : (part n : ℕ) (now : Option Message) (i : Instruction) (message : Message) → made_for (wish_at part now n i) ≡ Some message → IsFrom now (draft_of i) message
made_at part n now (Post w target draft) message e = record { draft = draft; read = refl; is = same_Some (filled draft now) message e }
made_at part n now (Send w target draft) message e =
    made_if now (Some draft) message (part == 0) (wish.Send w target (filled draft now)) wish.Claim (λ h. record { draft = draft; read = refl; is = same_Some (filled draft now) message h }) (λ h. absurd (cc)) e
made_at part n now (Reply draft) message e = record { draft = draft; read = refl; is = same_Some (filled draft now) message e }
made_at part n now (Note word) message e = absurd (cc)
made_at part n now (Forward w target) message e = absurd (cc)
made_at part n now (Lock w) message e = absurd (cc)
made_at part n now Unlock message e = made_if now None message (n == 0) wish.Unlock wish.Flush (λ h. absurd (cc)) (λ h. absurd (cc)) e
made_at part n now Flush message e = absurd (cc)
made_at part n now Sync message e = made_if now None message (part == 0) wish.Flush wish.SyncDone (λ h. absurd (cc)) (λ h. absurd (cc)) e
made_at part n now (Draw c) message e = made_if now None message (has_no_room n) wish.Flush (wish.Draw c) (λ h. absurd (cc)) (λ h. absurd (cc)) e

-- and the draft can be written where a message is in hand, or none is
pub record IsGood (has : Bool) (now : Option Message) (o : Option DraftWords) (message : Message) : Type 0 where
  pub draft : DraftWords
  pub read : o ≡ Some draft
  pub is : filled draft now ≡ message
  pub fits : is_draft has draft ≡ true

good_by : (has : Bool) (now : Option Message) (o : Option DraftWords) (message : Message) → IsFrom now o message → suits has o ≡ true → IsGood has now o message
good_by has now o message from fits = record { draft = from.draft; read = from.read; is = from.is; fits = subst (λ p. suits has p ≡ true) from.read fits }

-- ---- applications

module _ (d : Declared) (s : State) (m : ℕ) (x : Wish) (message : Message) (limits : IsWithinLimits d) (makes : made_for x ≡ Some message) where
  app_good_by : (is : AppStands d s m x) → IsGood false None (option_and_then draft_of (step_of d m is.it)) message
  app_good_by is =
      good_by false None (option_and_then draft_of (step_of d m is.it)) message
      (subst (λ o. IsFrom None (option_and_then draft_of o) message) (sym is.next) (made_at is.it.place.part (buffered s (app m)) None is.step message (ap made_for is.asked ∙ makes)))
      (ap (λ o. suits false (option_and_then draft_of o)) is.next ∙ all_at (λ i. suits false (draft_of i)) (app_program d m) is.it.place.step is.step (rest_suits d None (app_program d m) (app_rest d m limits)) is.next)

  -- an application's draft, by what is kept of it
  pub app_good : want_of d s (runner (app m)) ≡ Some (asks (app m) x) → (kept : Option App) → slice_get s.apps m ≡ kept → IsGood false None (option_and_then (λ a. option_and_then draft_of (step_of d m a)) kept) message
  app_good wanted kept read =
      let is : AppStands d s m x = app_stands d s m x wanted in
      subst (λ o. IsGood false None (option_and_then (λ a. option_and_then draft_of (step_of d m a)) o) message) (sym is.read ∙ read) (app_good_by is)

-- ---- loopers

-- a looper that makes a message has one in hand
pub record IsGoodBody (d : Declared) (w : ℕ) (kept : Option Looper) (message : Message) : Type 0 where
  pub hand : Hand Message
  pub stage : Stage
  pub held : kept ≡ Some (handling hand stage)
  pub good : IsGood true (Some hand.letter.body) (draft_at d w hand stage) message

either_end : (b : Bool) (x y z : Want) → (x ≡ z → ⊥) → (y ≡ z → ⊥) → (if b then x else y) ≡ z → ⊥
either_end true x y z first second e = first e
either_end false x y z first second e = second e

module _ (d : Declared) (s : State) (w : ℕ) (x : Wish) (message : Message) (limits : IsWithinLimits d) (makes : made_for x ≡ Some message) where
  no_end : end_want s w ≡ asks (looper w) x → ⊥
  no_end e = either_end (buffered s (looper w) == 0) (ends w) (flushes w) (asks (looper w) x) (λ h. cc) (λ h. cc) e

  no_draw_end : draw_end_want s w ≡ asks (looper w) x → ⊥
  no_draw_end e = either_end (has_no_room (buffered s (looper w))) (flushes w) (draws_end w) (asks (looper w) x) (λ h. cc) (λ h. cc) e

  from_step : (part : ℕ) (now : Option Message) (last : Want) (o : Option Instruction) → (last ≡ asks (looper w) x → ⊥) → asks_or (looper w) (option_map (wish_at part now (buffered s (looper w))) o) last ≡ asks (looper w) x → IsFrom now (option_and_then draft_of o) message
  from_step part now last (Some i) other e =
      let same : wish_at part now (buffered s (looper w)) i ≡ x = cc in
      made_at part (buffered s (looper w)) now i message (ap made_for same ∙ makes)
  from_step part now last None other e = absurd (other e)

  -- what stands at a place of a list
  at_suits : (steps : List Instruction) (k : ℕ) (o : Option Instruction) → slice_get steps k ≡ o → list_all (is_body_step d w) steps ≡ true → suits true (option_and_then draft_of o) ≡ true
  at_suits steps k (Some i) read all = body_step_suits d w i (all_at (is_body_step d w) steps k i all read)
  at_suits steps k None read all = refl

  at_none : (steps : List Instruction) (k : ℕ) (o : Option Instruction) → slice_get steps k ≡ o → list_all (is_draw_step d w) steps ≡ true → option_and_then draft_of o ≡ None
  at_none steps k (Some i) read all = draw_step_none d w i (all_at (is_draw_step d w) steps k i all read)
  at_none steps k None read all = refl

  stage_good : (hand : Hand Message) (stage : Stage) → stage_want d s w hand stage ≡ asks (looper w) x → IsGood true (Some hand.letter.body) (draft_at d w hand stage) message
  unfolding wish_of
  stage_good hand (in_body place) e =
      let program = letter_program d w hand in
      good_by true (Some hand.letter.body) (option_and_then draft_of (slice_get program place.step)) message
      (from_step place.part (Some hand.letter.body) (end_want s w) (slice_get program place.step) no_end e)
      (at_suits program place.step (slice_get program place.step) refl (body_steps d w hand.letter.body.what hand.route limits))
  stage_good hand beginning e = absurd (cc)
  stage_good hand (in_update views place) e =
      let program = update_program d w views in
      let from : IsFrom (Some hand.letter.body) (option_and_then draft_of (slice_get program place.step)) message = from_step place.part (Some hand.letter.body) (draw_end_want s w) (slice_get program place.step) no_draw_end e in
      let none : option_and_then draft_of (slice_get program place.step) ≡ None = at_none program place.step (slice_get program place.step) refl (update_steps d w views limits) in
      let never : None ≡ Some from.draft = sym none ∙ from.read in
      absurd (cc)
  stage_good hand ending e = absurd (no_end e)

  body_by : (l : Looper) → looper_want d s w l ≡ asks (looper w) x → IsGoodBody d w (Some l) message
  body_by (handling hand stage) e = record { hand = hand; stage = stage; held = refl; good = stage_good hand stage e }
  body_by (locked m) e = absurd (cc)
  body_by free e = absurd (cc)

  -- its draft, by what is kept of it
  pub body_good : want_of d s (runner (looper w)) ≡ Some (asks (looper w) x) → (kept : Option Looper) → slice_get s.loopers w ≡ kept → IsGoodBody d w kept message
  unfolding want_of
  body_good wanted kept read =
      let at : IsMapped (looper_want d s w) (slice_get s.loopers w) (asks (looper w) x) = mapped (looper_want d s w) (slice_get s.loopers w) (asks (looper w) x) wanted in
      subst (λ o. IsGoodBody d w o message) (sym at.read ∙ read) (body_by at.from at.is)
