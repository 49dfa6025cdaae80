-- The letters that a history takes, entry by entry.
use Rattle.std.proofs.Common.{◌≡◌, ℕ, ◌<◌, Bool, true, false, List, [], ◌∷◌, ◌++◌, length}
use Rattle.std.proofs.Common.{Option, Some, None, refl, sym, ap, ◌∙◌, append_assoc}
use Rattle.std.specs.Option.{option_map_or}
use Rattle.std.specs.Prelude.{◌==◌, option_and_then, option_map, slice_get, if◌then◌else◌}
use Rattle.std.proofs.lemmas.List.{append-nil}
use Rattle.std.proofs.lemmas.Option.{same_Some}
use Rattle.be_actor.specs.Wishes.{has_no_room}
use Rattle.be_actor.specs.declared.Wish.{Wish}
use Rattle.be_asking.proofs.Takes.{busy, idle}
use Rattle.be_looper.specs.Duties.{Hand}
use Rattle.be_looper.specs.declared.Owner.{Owner}
use Rattle.be_looper.specs.declared.Owner.TheVariants as owners
use Rattle.be_machine.proofs.Histories.{in_range}
use Rattle.be_machine.specs.Activities.{Activity, Runner, activity_of, app, closing, input, looper}
use Rattle.be_machine.specs.Activities.{runner, twin}
use Rattle.be_machine.specs.History.{state_from}
use Rattle.be_machine.specs.Legal.{IsLegal, legal_act, want_act}
use Rattle.be_machine.specs.Lists.{with_both}
use Rattle.be_machine.specs.Port.{take_act}
use Rattle.be_machine.specs.Program.{body_wish, buffered, letter_program, update_program, app_wish}
use Rattle.be_machine.specs.State.{Looper, Stage, State, beginning, ending, free, handling}
use Rattle.be_machine.specs.State.{in_body, in_update, locked}
use Rattle.be_machine.specs.Step.{step}
use Rattle.be_machine.specs.Update.{owes_notice}
use Rattle.be_machine.specs.Wants.{Want, asks, asks_or, draw_end_want, draws_end, end_want, ends}
use Rattle.be_machine.specs.Wants.{executes, flushes, looper_want, notifies, stage_want, takes}
use Rattle.be_machine.specs.Wants.{uses, want_of}
use Rattle.be_machine.specs.declared.Act.{Act}
use Rattle.be_machine.specs.declared.Entry.{Entry}
use Rattle.be_message.specs.Messages.{Message}
use Rattle.be_parts.specs.Loopers.{owner_in}
use Rattle.be_pressed.specs.Taken.{entry_takes, letters_from, taken_by, taken_from}
use Rattle.be_pressed.specs.declared.letter.TakenLetter.{TakenLetter}
use Rattle.be_script.specs.Script.{Declared}
use Rattle.be_script.specs.declared.InputLine.{InputLine}
use Rattle.be_check.specs.Taking.{TakesNow, looper_in}

-- one entry more
pub letters_more : (d : Declared) (s : State) (h : List Entry) (e : Entry)
    → letters_from d s (h ++ e ∷ []) ≡ letters_from d s h ++ entry_takes d (state_from d s h) e
unfolding letters_from state_from
letters_more d s [] e = append-nil (entry_takes d s e)
letters_more d s (x ∷ xs) e =
    ap (λ (l : List TakenLetter). entry_takes d s x ++ l) (letters_more d (step d s x) xs e)
    ∙ sym (append_assoc (entry_takes d s x) (letters_from d (step d s x) xs)
    (entry_takes d (state_from d (step d s x) xs) e))

-- ---- who takes none

-- what somebody who wants this takes
abbrev pub taken_if : State → Option Want → List TakenLetter
taken_if s wanted = option_map_or (taken_by s) wanted []

none_asked : (s : State) (who : Runner) (o : Option Wish)
    → taken_if s (option_map (asks who) o) ≡ []
none_asked s who (Some wish) = refl
none_asked s who None = refl

none_used : (s : State) (o : Option InputLine) → taken_if s (option_map uses o) ≡ []
none_used s (Some line) = refl
none_used s None = refl

none_by : (s : State) (b : Bool) (x y : Want) → taken_by s x ≡ [] → taken_by s y ≡ []
    → taken_by s (if b then x else y) ≡ []
none_by s true x y h k = h
none_by s false x y h k = k

none_or : (s : State) (who : Runner) (o : Option Wish) (last : Want) → taken_by s last ≡ []
    → taken_by s (asks_or who o last) ≡ []
none_or s who (Some wish) last h = refl
none_or s who None last h = h

none_ended : (s : State) (w : ℕ) → taken_by s (end_want s w) ≡ []
none_ended s w = none_by s (buffered s (looper w) == 0) (ends w) (flushes w) refl refl

none_drawn : (s : State) (w : ℕ) → taken_by s (draw_end_want s w) ≡ []
none_drawn s w =
    none_by s (has_no_room (buffered s (looper w))) (flushes w) (draws_end w) refl refl

-- a looper with a letter in its hand
none_handling : (d : Declared) (s : State) (w : ℕ) (hand : Hand Message) (g : Stage)
    → taken_by s (stage_want d s w hand g) ≡ []
none_handling d s w hand (in_body place) =
    none_or s (looper w) (body_wish s w hand (letter_program d w hand) place) (end_want s w)
    (none_ended s w)
none_handling d s w hand beginning = refl
none_handling d s w hand (in_update views place) =
    none_or s (looper w) (body_wish s w hand (update_program d w views) place)
    (draw_end_want s w) (none_drawn s w)
none_handling d s w hand ending = none_ended s w

-- who isn't a looper
none_other : (d : Declared) (s : State) (o : Option Activity)
    → None ≡ option_and_then looper_in o → taken_if s (option_and_then (want_of d s) o) ≡ []
unfolding want_of
none_other d s (Some (runner (app m))) is = none_asked s (app m) (app_wish d s m)
none_other d s (Some (runner (looper w))) is = absurd (cc)
none_other d s (Some (twin w)) is =
    none_by s (owes_notice s w) (notifies w) (executes w) refl refl
none_other d s (Some input) is = none_used s (slice_get d.input s.events)
none_other d s (Some closing) is = refl
none_other d s None is = refl

looper_is : (o : Option Activity) (w : ℕ) → Some w ≡ option_and_then looper_in o
    → o ≡ Some (runner (looper w))
looper_is (Some (runner (app m))) w is = absurd (cc)
looper_is (Some (runner (looper v))) w is =
    ap (λ (n : ℕ). Some (runner (looper n))) (sym (same_Some w v is))
looper_is (Some (twin v)) w is = absurd (cc)
looper_is (Some input) w is = absurd (cc)
looper_is (Some closing) w is = absurd (cc)
looper_is None w is = absurd (cc)

-- its window is one of the script's
pub window_there : (d : Declared) (actor w : ℕ)
    → Some w ≡ option_and_then looper_in (activity_of d actor) → w < length d.windows
window_there d actor w number =
    in_range d actor (runner (looper w)) (looper_is (activity_of d actor) w number)

-- ---- loopers

module _ (d : Declared) (s : State) (w : ℕ) where
  abbrev wanted : Option Looper → Option Want
  wanted o = option_map (looper_want d s w) o

  taken_free : (o : Option Looper) → o ≡ Some free
      → taken_if s (wanted o) ≡ option_map_or (taken_from w) (slice_get s.ports w) []
  taken_free o is = ap (λ (l : Option Looper). taken_if s (wanted l)) is

  -- one that isn't free: it has a letter in its hand, or it may not take one
  none_busy : (o : Option Looper) (owner : Owner) (a : Act) → slice_get s.loopers w ≡ o
      → Some owner ≡ option_map owner_in o → ¬ (owner ≡ owners.Free)
      → option_and_then (want_act d s) (wanted o) ≡ Some a → taken_if s (wanted o) ≡ []
  unfolding want_act
  none_busy (Some (handling hand stage)) owner a read is busy legal =
      none_handling d s w hand stage
  none_busy (Some (locked m)) owner a read is other legal =
      let none : want_act d s (takes w) ≡ None =
      ap (λ (l : Option Looper). with_both take_act l (slice_get s.ports w)) read
      ∙ busy (Some (locked m)) (slice_get s.ports w) owner is other in
      absurd (cc)
  none_busy (Some free) owner a read is other legal =
      absurd (other (same_Some owner owners.Free is))
  none_busy None owner a read is other legal = refl

-- ---- what an activity adds

module _ (d : Declared) (s : State) (actor : ℕ) (old new : List TakenLetter) where
  by_actor : ((e : Entry) → e.actor ≡ actor → IsLegal d s e
      → new ≡ old ++ taken_if s (option_and_then (want_of d s) (activity_of d actor)))
      → TakesNow d s actor old new
  by_actor more e is legal =
      more e is legal
      ∙ ap (λ (n : ℕ). old ++ taken_if s (option_and_then (want_of d s) (activity_of d n))) (sym is)

  pub takes_none : None ≡ option_and_then looper_in (activity_of d actor) → new ≡ old
      → TakesNow d s actor old new
  takes_none other same =
      by_actor (λ e is legal.
      same ∙ sym (append-nil old)
      ∙ ap (λ (l : List TakenLetter). old ++ l) (sym (none_other d s (activity_of d actor) other)))

  module _ (w : ℕ) (number : Some w ≡ option_and_then looper_in (activity_of d actor)) where
    abbrev wants : Option Want
    wants = option_map (looper_want d s w) (slice_get s.loopers w)

    wants_is : option_and_then (want_of d s) (activity_of d actor) ≡ wants
    unfolding want_of
    wants_is = ap (option_and_then (want_of d s)) (looper_is (activity_of d actor) w number)

    pub takes_front : Some owners.Free ≡ option_map owner_in (slice_get s.loopers w)
        → new ≡ old ++ option_map_or (taken_from w) (slice_get s.ports w) []
        → TakesNow d s actor old new
    takes_front nobody more =
        let same : slice_get s.loopers w ≡ Some free = idle (slice_get s.loopers w) nobody in
        by_actor (λ e is legal.
        more
        ∙ ap (λ (l : List TakenLetter). old ++ l)
        (sym (ap (taken_if s) wants_is ∙ taken_free d s w (slice_get s.loopers w) same)))

    pub takes_busy : (owner : Owner) → Some owner ≡ option_map owner_in (slice_get s.loopers w)
        → ¬ (owner ≡ owners.Free) → new ≡ old → TakesNow d s actor old new
    unfolding legal_act
    takes_busy owner owned other same =
        by_actor (λ e is legal.
        let may : option_and_then (want_act d s) wants ≡ Some e.act =
        ap (option_and_then (want_act d s)) (sym wants_is)
        ∙ ap (λ (n : ℕ). option_and_then (want_act d s)
        (option_and_then (want_of d s) (activity_of d n))) (sym is)
        ∙ legal in
        same ∙ sym (append-nil old)
        ∙ ap (λ (l : List TakenLetter). old ++ l)
        (sym (ap (taken_if s) wants_is
        ∙ none_busy d s w (slice_get s.loopers w) owner e.act refl owned other may)))
