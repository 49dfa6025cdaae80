-- Whose want it is, and what is noted of an entry by what its maker wants.
use Rattle.std.proofs.Common.{◌≡◌, ℕ, true, List, [], Option, Some, None, refl, sym, ap, ◌∙◌}
use Rattle.std.specs.Borrow.{Bor}
use Rattle.std.specs.Prelude.{option_map, option_and_then, option_to_list, if◌then◌else◌}
use Rattle.std.specs.Option.{option_map_or}
use Rattle.be_facts.proofs.Numbers.{eq_self}
use Rattle.be_actor.specs.Drafts.{DraftWords}
use Rattle.be_actor.specs.declared.Wish.{Wish}
use Rattle.be_asking.proofs.Makers.{made_by}
use Rattle.be_asking.specs.Wants.{activity_in, message_of, runner_in, want_in, wish_in}
use Rattle.be_asking.specs.declared.activity.Activity.{Activity}
use Rattle.be_asking.specs.declared.activity.Activity.TheVariants as who
use Rattle.be_asking.specs.declared.activity.Runner.{Runner}
use Rattle.be_asking.specs.declared.activity.Runner.TheVariants as by
use Rattle.be_asking.specs.declared.want.Request.{Request}
use Rattle.be_asking.specs.declared.want.Request.TheVariants as request
use Rattle.be_asking.specs.declared.want.Want.{Want}
use Rattle.be_asking.specs.declared.want.Want.TheVariants as want
use Rattle.be_hall.specs.Hands.{meant}
use Rattle.be_hall.specs.Machine.{Fits}
use Rattle.be_machine.specs.Activities as machine
use Rattle.be_machine.specs.Activities.{activity_of}
use Rattle.be_machine.specs.State.{State}
use Rattle.be_machine.specs.Traces.{Trace, got, replied, same_runner, trace_of, wish_trace}
use Rattle.be_machine.specs.Wants as wants
use Rattle.be_machine.specs.Wants.{want_of}
use Rattle.be_machine.specs.declared.Entry.{Entry}
use Rattle.be_message.specs.Messages.{Message}
use Rattle.be_parts.specs.Parts.{meaning_of}
use Rattle.be_parts.specs.declared.part.Part.{Part}
use Rattle.be_rules.specs.Rules.{IsSound}
use Rattle.be_rules.specs.Slices.{Slice, state_of}
use Rattle.be_script.specs.Script.{Declared}
use Rattle.be_steps.specs.Steps.{IsAllowed}
use Rattle.be_written.specs.Notings.{maker_trace, noted_by}
use Rattle.be_written.specs.Runners.{runner_in as as_maker}
use Rattle.be_written.specs.Notings.{Says}
use Rattle.be_written.specs.TraceText.{noted_text}
use Rattle.be_written.specs.declared.note.Note.{Note}
use Rattle.be_written.specs.declared.note.Note.TheVariants as note
use Rattle.be_written.specs.declared.said.Said.TheVariants as spoken
use Rattle.be_world.proofs.Allowed.{same_maker}
use Rattle.be_noted.specs.Noted.{IsNoted}
use Rattle.be_noted.proofs.Claims.{IsClaimed, IsReplied}
use Rattle.be_noted.proofs.Texts.{no_text, text_by_runner}

-- what an activity notes of a want that is met
abbrev pub trace_by : Declared → State → machine.Activity → wants.Want → List Trace
trace_by d s (machine.runner r) v = trace_of d s r v
trace_by d s (machine.twin w) v = []
trace_by d s machine.input v = []
trace_by d s machine.closing v = []

maker_by : (d : Declared) (s : State) (e : Entry) (a : machine.Activity) (v : wants.Want) → activity_of d e.actor ≡ Some a → want_of d s a ≡ Some v → maker_trace d s e ≡ trace_by d s a v
maker_by d s e (machine.runner r) v number wanted =
    ap (λ o. noted_by d s e (as_maker o)) number
    ∙ ap (λ o. option_map_or (trace_of d s r) (option_and_then (want_of d s) o) []) number
    ∙ ap (λ o. option_map_or (trace_of d s r) o []) wanted
maker_by d s e (machine.twin w) v number wanted = ap (λ o. noted_by d s e (as_maker o)) number
maker_by d s e machine.input v number wanted = ap (λ o. noted_by d s e (as_maker o)) number
maker_by d s e machine.closing v number wanted = ap (λ o. noted_by d s e (as_maker o)) number

-- ---- what nobody notes anything of

abbrev pub IsQuiet : wants.Want → Type 0
IsQuiet (wants.asks r wish) = ⊥
IsQuiet (wants.takes w) = ⊥
IsQuiet (wants.begins w) = ⊥
IsQuiet (wants.flushes w) = Unit {0}
IsQuiet (wants.draws_end w) = Unit {0}
IsQuiet (wants.ends w) = Unit {0}
IsQuiet (wants.notifies w) = Unit {0}
IsQuiet (wants.executes w) = Unit {0}
IsQuiet (wants.uses line) = Unit {0}
IsQuiet wants.stops = Unit {0}

quiet_runner : (d : Declared) (s : State) (r : machine.Runner) (v : wants.Want) → IsQuiet v → trace_of d s r v ≡ []
quiet_runner d s r (wants.asks other wish) q = absurd q
quiet_runner d s r (wants.takes w) q = absurd q
quiet_runner d s r (wants.begins w) q = absurd q
quiet_runner d s r (wants.flushes w) q = refl
quiet_runner d s r (wants.draws_end w) q = refl
quiet_runner d s r (wants.ends w) q = refl
quiet_runner d s r (wants.notifies w) q = refl
quiet_runner d s r (wants.executes w) q = refl
quiet_runner d s r (wants.uses line) q = refl
quiet_runner d s r wants.stops q = refl

quiet : (d : Declared) (s : State) (a : machine.Activity) (v : wants.Want) → IsQuiet v → trace_by d s a v ≡ []
quiet d s (machine.runner r) v q = quiet_runner d s r v q
quiet d s (machine.twin w) v q = refl
quiet d s machine.input v q = refl
quiet d s machine.closing v q = refl

-- a runner is itself
pub is_itself : (r : machine.Runner) → same_runner r r ≡ true
is_itself (machine.app m) = eq_self m
is_itself (machine.looper w) = eq_self w

-- ---- what may be asked for

module _ (d : Declared) (parts : List (ℕ × Part)) (it : Activity) (asks : Want) (allowed : IsAllowed d parts it asks) where
  -- what is noted of it, in each sound list
  pub trace_is : (e : Entry) → activity_of d e.actor ≡ Some (activity_in it) → (all : List Slice) → IsSound d all → Fits all (meant meaning_of parts)
      → maker_trace d (state_of d all) e ≡ trace_by d (state_of d all) (activity_in it) (want_in (message_of (state_of d all) (activity_in it)) asks)
  trace_is e number all sound fits =
      maker_by d (state_of d all) e (activity_in it) (want_in (message_of (state_of d all) (activity_in it)) asks) number (allowed.asked.wanted all sound fits).0

  module _ (other : Want) (is : asks ≡ other) where
    -- its maker's is that of the activity
    pub noted_back : (text : List ℕ) → IsNoted d parts (made_by other) text → IsNoted d parts it text
    noted_back text told e number = told e (number ∙ ap (λ (x : machine.Activity). Some x) (same_maker d parts it asks allowed other is))

-- what an instruction asks for
module _ (d : Declared) (parts : List (ℕ × Part)) (r : Runner) (q : Request) (allowed : IsAllowed d parts (who.Runner r) (want.Asks r q)) where
  pub asked_trace : (other : Request) → q ≡ other → (e : Entry) → activity_of d e.actor ≡ Some (activity_in (who.Runner r)) → (all : List Slice) → IsSound d all → Fits all (meant meaning_of parts)
      → maker_trace d (state_of d all) e ≡ wish_trace (state_of d all) (runner_in r) (wish_in (message_of (state_of d all) (machine.runner (runner_in r))) other)
  asked_trace other is e number all sound fits =
      let s : State = state_of d all in
      let wish : Wish = wish_in (message_of s (machine.runner (runner_in r))) q in
      trace_is d parts (who.Runner r) (want.Asks r q) allowed e number all sound fits
      ∙ ap (λ b. if b then wish_trace s (runner_in r) wish else []) (is_itself (runner_in r))
      ∙ ap (λ (x : Request). wish_trace s (runner_in r) (wish_in (message_of s (machine.runner (runner_in r))) x)) is

-- ---- of all else nothing is noted

pub quiet_by : (it : Want) → ((r : Runner) (q : Request) → it ≡ want.Asks r q → ⊥) → ((w : ℕ) → it ≡ want.Takes w → ⊥) → ((w : ℕ) → it ≡ want.Begins w → ⊥) → (message : Option Message) → IsQuiet (want_in message it)
quiet_by (want.Asks r q) asks takes begins message = absurd (asks r q refl)
quiet_by (want.Takes w) asks takes begins message = absurd (takes w refl)
quiet_by (want.Begins w) asks takes begins message = absurd (begins w refl)
quiet_by (want.Flushes w) asks takes begins message = tt
quiet_by (want.DrawsEnd w) asks takes begins message = tt
quiet_by (want.Ends w) asks takes begins message = tt
quiet_by (want.Notifies w) asks takes begins message = tt
quiet_by (want.Executes w) asks takes begins message = tt
quiet_by (want.Uses line) asks takes begins message = tt
quiet_by want.Stops asks takes begins message = tt

silent_by : (s : State) (r : machine.Runner) (q : Request) → ((text : Bor (List ℕ)) → q ≡ request.Note text → ⊥) → (q ≡ request.Claim → ⊥) → ((draft : Bor DraftWords) → q ≡ request.Reply draft → ⊥) → (message : Option Message) → wish_trace s r (wish_in message q) ≡ []
silent_by s r (request.Note text) note claim reply message = absurd (note text refl)
silent_by s r (request.Post w target draft) note claim reply message = refl
silent_by s r (request.Send w target draft) note claim reply message = refl
silent_by s r (request.Forward w target) note claim reply message = refl
silent_by s r (request.Reply draft) note claim reply message = absurd (reply draft refl)
silent_by s r request.Claim note claim reply message = absurd (claim refl)
silent_by s r (request.Lock w) note claim reply message = refl
silent_by s r request.Unlock note claim reply message = refl
silent_by s r request.Flush note claim reply message = refl
silent_by s r request.SyncDone note claim reply message = refl
silent_by s r (request.Draw command) note claim reply message = refl

module _ (d : Declared) (parts : List (ℕ × Part)) (it : Activity) (asks : Want) (allowed : IsAllowed d parts it asks) where
  pub quiet_noted : ((r : Runner) (q : Request) → asks ≡ want.Asks r q → ⊥) → ((w : ℕ) → asks ≡ want.Takes w → ⊥) → ((w : ℕ) → asks ≡ want.Begins w → ⊥) → IsNoted d parts it []
  quiet_noted na nt nb e number all sound fits =
      no_text d (state_of d all) e (trace_is d parts it asks allowed e number all sound fits
      ∙ quiet d (state_of d all) (activity_in it) (want_in (message_of (state_of d all) (activity_in it)) asks) (quiet_by asks na nt nb (message_of (state_of d all) (activity_in it))))

module _ (d : Declared) (parts : List (ℕ × Part)) (r : Runner) (q : Request) (allowed : IsAllowed d parts (who.Runner r) (want.Asks r q)) where
  pub silent_noted : ((text : Bor (List ℕ)) → q ≡ request.Note text → ⊥) → (q ≡ request.Claim → ⊥) → ((draft : Bor DraftWords) → q ≡ request.Reply draft → ⊥) → IsNoted d parts (who.Runner r) []
  silent_noted note claim reply e number all sound fits =
      no_text d (state_of d all) e (asked_trace d parts r q allowed q refl e number all sound fits
      ∙ silent_by (state_of d all) (runner_in r) q note claim reply (message_of (state_of d all) (machine.runner (runner_in r))))

-- ---- by what the code wrote

-- in each sound list the runner notes of its entry what this note says
abbrev pub SaysOfEach : Declared → List (ℕ × Part) → Runner → Note → Type 0
SaysOfEach d parts r note =
    (e : Entry) → activity_of d e.actor ≡ Some (activity_in (who.Runner r))
    → (all : List Slice) → IsSound d all → Fits all (meant meaning_of parts)
    → Says note (maker_trace d (state_of d all) e)

-- the lines of what a runner notes, as the code writes them
abbrev pub IsTextOf : Declared → Runner → Note → List ℕ → Type 0
IsTextOf d r note text =
    (traces : List Trace) → Says note traces → text ≡ noted_text d (runner_in r) traces

pub noted_as : (d : Declared) (parts : List (ℕ × Part)) (r : Runner) (note : Note) (text : List ℕ)
    → IsTextOf d r note text → SaysOfEach d parts r note → IsNoted d parts (who.Runner r) text
noted_as d parts r note text is says e number all sound fits =
    text_by_runner d (state_of d all) e (runner_in r) number
    ∙ sym (is (maker_trace d (state_of d all) e) (says e number all sound fits))

-- ---- claims and replies

module _ (d : Declared) (parts : List (ℕ × Part)) where
  pub claim_told : (m : ℕ) (reply : Option Message) → IsAllowed d parts (who.Runner (by.App m)) (want.Asks (by.App m) request.Claim) → IsClaimed d parts m reply
      → (e : Entry) → activity_of d e.actor ≡ Some (activity_in (who.Runner (by.App m))) → (all : List Slice) → IsSound d all → Fits all (meant meaning_of parts) → maker_trace d (state_of d all) e ≡ option_to_list (option_map got reply)
  claim_told m reply allowed claimed e number all sound fits =
      asked_trace d parts (by.App m) request.Claim allowed request.Claim refl e number all sound fits
      ∙ ap (λ o. option_to_list (option_map got o)) (claimed all sound fits)

  pub no_claim_noted : (m : ℕ) → IsAllowed d parts (who.Runner (by.App m)) (want.Asks (by.App m) request.Claim) → IsClaimed d parts m None → IsNoted d parts (who.Runner (by.App m)) []
  no_claim_noted m allowed claimed e number all sound fits =
      no_text d (state_of d all) e (claim_told m None allowed claimed e number all sound fits)

  pub reply_told : (w : ℕ) (draft : Bor DraftWords) (reply : Option Message) → IsAllowed d parts (who.Runner (by.Looper w)) (want.Asks (by.Looper w) (request.Reply draft)) → IsReplied d parts w draft.now reply
      → (e : Entry) → activity_of d e.actor ≡ Some (activity_in (who.Runner (by.Looper w))) → (all : List Slice) → IsSound d all → Fits all (meant meaning_of parts) → maker_trace d (state_of d all) e ≡ option_to_list (option_map replied reply)
  reply_told w draft reply allowed replies e number all sound fits =
      asked_trace d parts (by.Looper w) (request.Reply draft) allowed (request.Reply draft) refl e number all sound fits
      ∙ replies all sound fits

  pub no_reply_noted : (w : ℕ) (draft : Bor DraftWords) → IsAllowed d parts (who.Runner (by.Looper w)) (want.Asks (by.Looper w) (request.Reply draft)) → IsReplied d parts w draft.now None → IsNoted d parts (who.Runner (by.Looper w)) []
  no_reply_noted w draft allowed replies e number all sound fits =
      no_text d (state_of d all) e (reply_told w draft None allowed replies e number all sound fits)

  -- ---- the text of what the code has

  pub claim_noted : (m : ℕ) (reply : Bor Message) (text : List ℕ)
      → IsTextOf d (by.App m) (note.Got (spoken.Whole reply)) text
      → IsAllowed d parts (who.Runner (by.App m)) (want.Asks (by.App m) request.Claim)
      → IsClaimed d parts m (Some reply.now) → IsNoted d parts (who.Runner (by.App m)) text
  claim_noted m reply text is allowed claimed =
      noted_as d parts (by.App m) (note.Got (spoken.Whole reply)) text is
      (λ e number all sound fits. (
        reply.now,
        (
          refl,
          claim_told m (Some reply.now) allowed claimed e
              number all sound fits,
        ),
      ))

  pub reply_noted : (w : ℕ) (draft : Bor DraftWords) (reply : Bor Message) (text : List ℕ)
      → IsTextOf d (by.Looper w) (note.Replied (spoken.Whole reply)) text
      → IsAllowed d parts (who.Runner (by.Looper w)) (want.Asks (by.Looper w) (request.Reply draft))
      → IsReplied d parts w draft.now (Some reply.now)
      → IsNoted d parts (who.Runner (by.Looper w)) text
  reply_noted w draft reply text is allowed replies =
      noted_as d parts (by.Looper w) (note.Replied (spoken.Whole reply)) text is
      (λ e number all sound fits. (
        reply.now,
        (
          refl,
          reply_told w draft (Some reply.now) allowed
              replies e number all sound fits,
        ),
      ))
