-- What was made, by the kind of what is wanted.
use Rattle.std.proofs.Common.{◌≡◌, ◌⊎◌, ℕ, ℤ, inl, inr, true, false, List, Option, Some, None, refl}
use Rattle.std.proofs.Common.{sym, subst, ◌∙◌}
use Rattle.std.specs.Borrow.{Bor}
use Rattle.be_actor.specs.Drafts.{DraftWords, filled}
use Rattle.be_actor.specs.declared.Wish.{Wish}
use Rattle.be_asking.specs.Acts.{post_window}
use Rattle.be_asking.specs.Wants.{message_of, runner_in, wish_in}
use Rattle.be_asking.specs.declared.activity.Activity.TheVariants as who
use Rattle.be_asking.specs.declared.activity.Runner.{Runner}
use Rattle.be_asking.specs.declared.activity.Runner.TheVariants as by
use Rattle.be_asking.specs.declared.want.Request.{Request}
use Rattle.be_asking.specs.declared.want.Request.TheVariants as request
use Rattle.be_asking.specs.declared.want.Want.TheVariants as want
use Rattle.be_changes.specs.Events.{IsDeliveredIn}
use Rattle.be_changes.specs.declared.events.Delivered.{Delivered}
use Rattle.be_command.specs.declared.Command.{Command}
use Rattle.be_geom.specs.declared.point.Point.{Point}
use Rattle.be_hall.specs.Hands.{Hand, meant}
use Rattle.be_hall.specs.Machine.{Fits}
use Rattle.be_handler.specs.declared.Route.{Route}
use Rattle.be_machine.specs.Activities as machine
use Rattle.be_machine.specs.Legal.{want_act, wish_act}
use Rattle.be_machine.specs.State.{State}
use Rattle.be_machine.proofs.BodyWishes.{body_asks, is_body_wish}
use Rattle.be_message.specs.Messages.{Message}
use Rattle.be_parts.specs.Parts.{meaning_of}
use Rattle.be_parts.specs.declared.part.Part.{Part}
use Rattle.be_port.specs.declared.letter.Letter.{Letter}
use Rattle.be_rules.specs.Rules.{IsSound}
use Rattle.be_rules.specs.Slices.{Slice, state_of}
use Rattle.be_script.specs.Script.{Declared}
use Rattle.be_script.specs.declared.InputLine.{InputLine}
use Rattle.be_script.specs.declared.InputLine.TheVariants as line
use Rattle.be_steps.specs.Letters.{IsWishedLetter, Stands}
use Rattle.be_steps.specs.Notices.{IsNotice}
use Rattle.be_steps.proofs.Making.{granted_now, now, wanted_now}
use Rattle.be_steps.specs.Steps.{IsAllowed, IsDone}
use Rattle.be_steps.specs.Surveyed.{IsSurveyedIn}
use Rattle.be_steps.specs.Taking.{IsFrontMessage}
use Rattle.be_steps.specs.Waiters.{IsReply}
use Rattle.be_update.specs.Surveys.{Surveyed}
use Rattle.be_world.specs.Suits.{HasEvent, HasLetter, IsSuited, SuitsCommand, SuitsLine, SuitsWish}
use Rattle.be_world.specs.declared.work.Work.{Work}
use Rattle.be_world.specs.declared.work.Work.TheVariants as work

-- ---- one thing of each kind

same_letter : (a b : Letter) → work.Letter a ≡ work.Letter b → a ≡ b
same_letter a b e = cc

same_reply : (a b : Message) → work.Reply a ≡ work.Reply b → a ≡ b
same_reply a b e = cc

same_command : (a b : Command) → work.Command a ≡ work.Command b → a ≡ b
same_command a b e = cc

same_survey : (a b : Option Surveyed) → work.Survey a ≡ work.Survey b → a ≡ b
same_survey a b e = cc

same_event : (a b : Delivered) → work.Event a ≡ work.Event b → a ≡ b
same_event a b e = cc

same_message : (a b : Message) (r q : Route) → work.Taken a r ≡ work.Taken b q → a ≡ b
same_message a b r q e = cc

same_route : (a b : Message) (r q : Route) → work.Taken a r ≡ work.Taken b q → r ≡ q
same_route a b r q e = cc

-- who posts has a letter
letter_by : {made : Work} (s : State) (who : machine.Runner) (now : Option Message) (q : Request)
    (w : ℕ) → post_window q ≡ Some w → SuitsWish s who (wish_in now q) made
    → HasLetter s who (wish_in now q) made
letter_by s who now (request.Post v target draft) w posts h = h
letter_by s who now (request.Send v target draft) w posts h = h
letter_by s who now (request.Forward v target) w posts h = h
letter_by s who now (request.Note text) w posts h = absurd (cc)
letter_by s who now (request.Reply draft) w posts h = absurd (cc)
letter_by s who now request.Claim w posts h = absurd (cc)
letter_by s who now (request.Lock v) w posts h = absurd (cc)
letter_by s who now request.Unlock w posts h = absurd (cc)
letter_by s who now request.Flush w posts h = absurd (cc)
letter_by s who now request.SyncDone w posts h = absurd (cc)
letter_by s who now (request.Draw command) w posts h = absurd (cc)

module _ (d : Declared) (parts : List (ℕ × Part)) (made : Work) where
  -- ---- takes, updates and notices

  module _ (w : ℕ) (allowed : IsAllowed d parts (who.Runner (by.Looper w)) (want.Takes w))
      (suits : IsSuited d parts (who.Runner (by.Looper w)) (want.Takes w) made) where
    pub has_taken : (message : Message) × (route : Route) × (made ≡ work.Taken message route)
    has_taken = let h = suits allowed.asked.fitting.0 allowed.asked.fitting.1
        allowed.asked.fitting.2 in (h.0, h.1, h.2)

    pub taken_front : (message : Message) (route : Route) → made ≡ work.Taken message route
        → IsFrontMessage d parts w message route
    taken_front message route is =
        let h = suits allowed.asked.fitting.0 allowed.asked.fitting.1 allowed.asked.fitting.2 in
        let e : work.Taken h.0 h.1 ≡ work.Taken message route = sym h.2 ∙ is in
        subst (λ (m : Message). IsFrontMessage d parts w m route)
        (same_message h.0 message h.1 route e)
        (subst (λ (r : Route). IsFrontMessage d parts w h.0 r) (same_route h.0 message h.1 route e)
        h.3)

  module _ (w : ℕ) (allowed : IsAllowed d parts (who.Runner (by.Looper w)) (want.Begins w))
      (suits : IsSuited d parts (who.Runner (by.Looper w)) (want.Begins w) made) where
    pub has_survey : (survey : Option Surveyed) × (made ≡ work.Survey survey)
    has_survey = let h = suits allowed.asked.fitting.0 allowed.asked.fitting.1
        allowed.asked.fitting.2 in (h.0, h.1)

    pub surveyed : (survey : Option Surveyed) → made ≡ work.Survey survey
        → IsSurveyedIn d parts w survey
    surveyed survey is =
        let h = suits allowed.asked.fitting.0 allowed.asked.fitting.1 allowed.asked.fitting.2 in
        subst (IsSurveyedIn d parts w) (same_survey h.0 survey (sym h.1 ∙ is)) h.2

  module _ (w : ℕ) (allowed : IsAllowed d parts (who.Twin w) (want.Notifies w))
      (suits : IsSuited d parts (who.Twin w) (want.Notifies w) made) where
    pub has_notice : (l : Letter) × (made ≡ work.Letter l)
    has_notice = let h = suits allowed.asked.fitting.0 allowed.asked.fitting.1
        allowed.asked.fitting.2 in (h.0, h.1)

    pub noticed : (l : Letter) → made ≡ work.Letter l → IsNotice w l
    noticed l is =
        let h = suits allowed.asked.fitting.0 allowed.asked.fitting.1 allowed.asked.fitting.2 in
        subst (IsNotice w) (same_letter h.0 l (sym h.1 ∙ is)) h.2

  -- ---- what a runner posts, replies and draws

  module _ (r : Runner) (q : Request) (allowed : IsAllowed d parts (who.Runner r) (want.Asks r q))
      (suits : IsSuited d parts (who.Runner r) (want.Asks r q) made) where
    abbrev one : List Slice
    one = allowed.asked.fitting.0

    -- in this state
    abbrev asked : State → Wish
    asked s = wish_in (message_of s (machine.runner (runner_in r))) q

    suits_wish : (all : List Slice) → IsSound d all → Fits all (meant meaning_of parts)
        → SuitsWish (state_of d all) (runner_in r) (asked (state_of d all)) made
    suits_wish all sound fits = suits all sound fits

    module _ (w : ℕ) (posts : post_window q ≡ Some w) where
      letter_in : (all : List Slice) → IsSound d all → Fits all (meant meaning_of parts)
          → HasLetter (state_of d all) (runner_in r) (asked (state_of d all)) made
      letter_in all sound fits = letter_by (state_of d all) (runner_in r)
          (message_of (state_of d all) (machine.runner (runner_in r))) q w posts
          (suits_wish all sound fits)

      pub has_letter : (l : Letter) × (made ≡ work.Letter l)
      has_letter = let h = letter_in one allowed.asked.fitting.1 allowed.asked.fitting.2 in
          (h.0, h.1)

      pub wished : (l : Letter) → made ≡ work.Letter l → IsWishedLetter d parts r q l
      wished l is all sound fits =
          let h = letter_in all sound fits in
          (h.2, h.3, subst (λ (x : Letter). Stands x h.2) (same_letter h.0 l (sym h.1 ∙ is)) h.4)

    module _ (command : Bor Command) (draws : q ≡ request.Draw command) where
      drawn_in : (all : List Slice) → IsSound d all → Fits all (meant meaning_of parts)
          → made ≡ work.Command command.now
      drawn_in all sound fits =
          subst (λ (x : Request). SuitsWish (state_of d all) (runner_in r)
          (wish_in (message_of (state_of d all) (machine.runner (runner_in r))) x) made) draws
          (suits_wish all sound fits)

      pub has_command : (c : Command) × (made ≡ work.Command c)
      has_command = (command.now, drawn_in one allowed.asked.fitting.1 allowed.asked.fitting.2)

      pub drawn : (c : Command) → made ≡ work.Command c → c ≡ command.now
      drawn c is = same_command c command.now
          (sym is ∙ drawn_in one allowed.asked.fitting.1 allowed.asked.fitting.2)

    module _ (draft : Bor DraftWords) (w : ℕ) (replies : q ≡ request.Reply draft)
        (looper : r ≡ by.Looper w) where
      abbrev reply_made : State → Message
      reply_made s = filled draft.now (message_of s (machine.runner (machine.looper w)))

      replied_in : (all : List Slice) → IsSound d all → Fits all (meant meaning_of parts)
          → made ≡ work.Reply (reply_made (state_of d all))
      replied_in all sound fits =
          subst (λ (y : Runner). made ≡ work.Reply
          (filled draft.now (message_of (state_of d all) (machine.runner (runner_in y)))))
          looper
          (subst (λ (x : Request). SuitsWish (state_of d all) (runner_in r)
          (wish_in (message_of (state_of d all) (machine.runner (runner_in r))) x) made)
          replies (suits_wish all sound fits))

      pub has_reply : (m : Message) × (made ≡ work.Reply m)
      has_reply = (
        reply_made (state_of d one),
        replied_in one allowed.asked.fitting.1 allowed.asked.fitting.2,
      )

      pub replied : (m : Message) → made ≡ work.Reply m → IsReply d parts w draft.now m
      replied m is all sound fits = same_reply m (reply_made (state_of d all))
          (sym is ∙ replied_in all sound fits)

-- ---- who asks

module _ (d : Declared) (parts : List (ℕ × Part)) (r : Runner) (q : Request)
    (allowed : IsAllowed d parts (who.Runner r) (want.Asks r q)) where
  pub asked_as : (r' : Runner) (q' : Request) → r ≡ r' → q ≡ q'
      → IsAllowed d parts (who.Runner r') (want.Asks r' q')
  asked_as r' q' is same =
      subst (λ (x : Request). IsAllowed d parts (who.Runner r') (want.Asks r' x)) same
      (subst (λ (x : Runner). IsAllowed d parts (who.Runner x) (want.Asks x q)) is allowed)

  pub done_as : (r' : Runner) → r ≡ r' → (old new : Hand Part) → IsDone d (who.Runner r') old new
      → IsDone d (who.Runner r) old new
  done_as r' is old new done = subst (λ (x : Runner). IsDone d (who.Runner x) old new) (sym is) done

-- an application replies to nothing
pub app_replies_never : (d : Declared) (parts : List (ℕ × Part)) (m : ℕ) (draft : Bor DraftWords)
    → IsAllowed d parts (who.Runner (by.App m)) (want.Asks (by.App m) (request.Reply draft)) → ⊥
unfolding want_act wish_act
app_replies_never d parts m draft allowed =
    let no : None ≡ Some allowed.act =
    granted_now d parts (who.Runner (by.App m)) (want.Asks (by.App m) (request.Reply draft))
    allowed in
    absurd (cc)

-- a looper asks for no lock and waits for no reply
module _ (d : Declared) (parts : List (ℕ × Part)) (w : ℕ) (q : Request)
    (allowed : IsAllowed d parts (who.Runner (by.Looper w)) (want.Asks (by.Looper w) q)) where
  body_wish : is_body_wish (wish_in
      (message_of (now d parts (who.Runner (by.Looper w)) (want.Asks (by.Looper w) q) allowed)
      (machine.runner (machine.looper w))) q) ≡ true
  body_wish =
      body_asks d (now d parts (who.Runner (by.Looper w)) (want.Asks (by.Looper w) q) allowed) w _
      allowed.asked.limits
      (wanted_now d parts (who.Runner (by.Looper w)) (want.Asks (by.Looper w) q) allowed)

  not_asked : (other : Request) → q ≡ other
      → ((now : Option Message) → is_body_wish (wish_in now other) ≡ false) → ⊥
  not_asked other is never =
      let s : State = now d parts (who.Runner (by.Looper w)) (want.Asks (by.Looper w) q) allowed in
      let no : false ≡ true = sym (never (message_of s (machine.runner (machine.looper w))))
      ∙ subst (λ (x : Request). is_body_wish
      (wish_in (message_of s (machine.runner (machine.looper w))) x) ≡ true) is body_wish in
      absurd (cc)

  pub looper_claims_never : q ≡ request.Claim → ⊥
  looper_claims_never is = not_asked request.Claim is (λ now. refl)

  pub looper_locks_never : (v : ℕ) → q ≡ request.Lock v → ⊥
  looper_locks_never v is = not_asked (request.Lock v) is (λ now. refl)

  pub looper_unlocks_never : q ≡ request.Unlock → ⊥
  looper_unlocks_never is = not_asked request.Unlock is (λ now. refl)

-- ---- what a twin executes, and the input uses

module _ (d : Declared) (parts : List (ℕ × Part)) (w : ℕ) (made : Work)
    (allowed : IsAllowed d parts (who.Twin w) (want.Executes w))
    (suits : IsSuited d parts (who.Twin w) (want.Executes w) made) where
  pub suits_command : (other : Work) → made ≡ other → SuitsCommand d parts w other
  suits_command other is = subst (SuitsCommand d parts w) is
      (suits allowed.asked.fitting.0 allowed.asked.fitting.1 allowed.asked.fitting.2)

module _ (d : Declared) (parts : List (ℕ × Part)) (it : Bor InputLine) (made : Work)
    (allowed : IsAllowed d parts who.Input (want.Uses it))
    (suits : IsSuited d parts who.Input (want.Uses it) made) where
  pub suits_line : (other : InputLine) → it.now ≡ other → SuitsLine d parts other made
  suits_line other is = subst (λ (x : InputLine). SuitsLine d parts x made) is
      (suits allowed.asked.fitting.0 allowed.asked.fitting.1 allowed.asked.fitting.2)

  -- the line is an event of mouse or key
  abbrev pub IsEventLine : Type 0
  IsEventLine =
      ((at : Point) × (it.now ≡ line.Press at))
      ⊎ (((at : Point) × (it.now ≡ line.Release at))
      ⊎ (((at : Point) × (it.now ≡ line.Move at)) ⊎ ((key : ℤ) × (it.now ≡ line.Key key))))

  back : (other : InputLine) → it.now ≡ other → HasEvent d parts other made
      → HasEvent d parts it.now made
  back other is h = subst (λ (x : InputLine). HasEvent d parts x made) (sym is) h

  event_there : IsEventLine → HasEvent d parts it.now made
  event_there (inl h) = back (line.Press h.0) h.1 (suits_line (line.Press h.0) h.1)
  event_there (inr (inl h)) = back (line.Release h.0) h.1 (suits_line (line.Release h.0) h.1)
  event_there (inr (inr (inl h))) = back (line.Move h.0) h.1 (suits_line (line.Move h.0) h.1)
  event_there (inr (inr (inr h))) = back (line.Key h.0) h.1 (suits_line (line.Key h.0) h.1)

  pub has_event : IsEventLine → (delivered : Delivered) × (made ≡ work.Event delivered)
  has_event is = let h = event_there is in (h.0, h.1)

  pub delivered_in : IsEventLine → (delivered : Delivered) → made ≡ work.Event delivered
      → IsDeliveredIn d parts it.now delivered
  delivered_in is delivered e =
      let h = event_there is in
      subst (IsDeliveredIn d parts it.now) (same_event h.0 delivered (sym h.1 ∙ e)) h.2
