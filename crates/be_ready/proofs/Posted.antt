-- The letter that a runner posts, by the message that it carries.
use Rattle.std.proofs.Common.{◌≡◌, ℕ, true, false, List, Option, Some, None, inl, refl, sym, ap, ◌∙◌, subst}
use Rattle.std.specs.Prelude.{is_some, option_map}
use Rattle.std.specs.Borrow.{Bor}
use Rattle.std.proofs.lemmas.Option.{same_Some}
use Rattle.be_actor.specs.Drafts.{DraftWords, filled}
use Rattle.be_asking.proofs.PostsAnswered.{looper_hop}
use Rattle.be_asking.specs.Acts.{HasHop, IsSameHop, hop_behind, post_window}
use Rattle.be_asking.specs.Wants.{message_of, runner_in, wish_in}
use Rattle.be_asking.specs.declared.activity.Runner.{Runner}
use Rattle.be_asking.specs.declared.activity.Runner.TheVariants as by
use Rattle.be_asking.specs.declared.want.Request.{Request}
use Rattle.be_asking.specs.declared.want.Request.TheVariants as request
use Rattle.be_hall.specs.Hands.{meant, part_at}
use Rattle.be_hall.specs.Machine.{Fits}
use Rattle.be_looper.specs.Duties.{Hand, duty_handed_on}
use Rattle.be_machine.proofs.BodyWishes.{app_asks, body_asks}
use Rattle.be_machine.specs.Activities as machine
use Rattle.be_machine.specs.Activities.{sender_of}
use Rattle.be_machine.specs.Looper.{sent_duty}
use Rattle.be_machine.specs.Port.{letter}
use Rattle.be_machine.specs.Program.{hop_of}
use Rattle.be_machine.specs.State.{State}
use Rattle.be_machine.specs.Touched as part
use Rattle.be_message.specs.Messages.{Message}
use Rattle.be_message.specs.declared.target.Target.{Target}
use Rattle.be_parts.specs.Kept.{Kept}
use Rattle.be_parts.specs.Loopers.{duty_in, hand_of}
use Rattle.be_parts.specs.Parts.{meaning_of}
use Rattle.be_parts.specs.declared.part.Part.{Part}
use Rattle.be_parts.specs.declared.part.Part.TheVariants as kinds
use Rattle.be_port.specs.Ports.{Letter}
use Rattle.be_port.specs.StandsFor.{Carries}
use Rattle.be_port.specs.declared.Duty.{Duty}
use Rattle.be_port.specs.declared.Duty.TheVariants.{Free}
use Rattle.be_port.specs.declared.letter.Letter as held
use Rattle.be_ready.proofs.Made.{hand_is, in_hand, own_there, wants_it}
use Rattle.be_ready.specs.Letters.{Asks, IsMade, draft_asked}
use Rattle.be_rules.specs.Places.{place_of}
use Rattle.be_rules.specs.Rules.{IsSound}
use Rattle.be_rules.specs.Slices.{Slice, state_of}
use Rattle.be_script.specs.Script.{Declared}
use Rattle.be_steps.specs.Letters.{IsWishedLetter, Stands, wished_letter}

-- ---- applications

-- an application forwards nothing, so what it posts is a message that it makes
pub app_makes : (d : Declared) (inhand : List (ℕ × Part)) (m : ℕ) (q : Request) → Asks d inhand (by.App m) q → is_some (post_window q) ≡ true → is_some (draft_asked q) ≡ true
app_makes d inhand m (request.Post w target draft) asks posts = refl
app_makes d inhand m (request.Send w target draft) asks posts = refl
app_makes d inhand m (request.Forward w target) asks posts =
    app_asks d _ m _ asks.1.limits (wants_it d inhand (by.App m) (request.Forward w target) asks asks.1.fitting.0 asks.1.fitting.1 asks.1.fitting.2)
app_makes d inhand m (request.Reply draft) asks posts = refl
app_makes d inhand m (request.Note text) asks posts = absurd (cc)
app_makes d inhand m request.Claim asks posts = absurd (cc)
app_makes d inhand m (request.Lock w) asks posts = absurd (cc)
app_makes d inhand m request.Unlock asks posts = absurd (cc)
app_makes d inhand m request.Flush asks posts = absurd (cc)
app_makes d inhand m request.SyncDone asks posts = absurd (cc)
app_makes d inhand m (request.Draw command) asks posts = absurd (cc)

pub app_hop : (d : Declared) (inhand : List (ℕ × Part)) (m : ℕ) → HasHop d inhand (by.App m) 0
app_hop d inhand m all sound fits = inl refl

-- ---- loopers

-- in a body nothing is sent
pub sends_not : (d : Declared) (inhand : List (ℕ × Part)) (w : ℕ) (q : Request) → Asks d inhand (by.Looper w) q → (v : ℕ) (target : Target) (draft : Bor DraftWords) → q ≡ request.Send v target draft → ⊥
sends_not d inhand w q asks v target draft is =
    let sends : Asks d inhand (by.Looper w) (request.Send v target draft) = subst (Asks d inhand (by.Looper w)) is asks in
    let never : false ≡ true = body_asks d _ w _ sends.1.limits (wants_it d inhand (by.Looper w) (request.Send v target draft) sends sends.1.fitting.0 sends.1.fitting.1 sends.1.fitting.2) in
    cc

-- ---- letters

mapped_on : (f : DraftWords → Message) (g : Message → Letter Message) (o : Option DraftWords) (message : Message) → option_map f o ≡ Some message → option_map (λ draft. g (f draft)) o ≡ Some (g message)
mapped_on f g (Some draft) message e = ap (λ x. Some (g x)) (same_Some (f draft) message e)
mapped_on f g None message e = absurd (cc)

module _ (d : Declared) (inhand : List (ℕ × Part)) (r : Runner) (hop : ℕ) (has : HasHop d inhand r hop) (target : Target) (duty : Duty) (message : Message) (l : held.Letter) (carries : Carries l (letter (sender_of (runner_in r)) target hop duty message)) where
  -- the letter with the hop that it has in one list
  in_list : State → Letter Message
  in_list s = letter (sender_of (runner_in r)) target (hop_of s (runner_in r)) duty message

  stands : (n : ℕ) → IsSameHop hop n → Stands l (letter (sender_of (runner_in r)) target n duty message)
  stands n same = record {
    carries = record { sender = carries.sender; target = carries.target; hop = refl; duty = carries.duty; body = carries.body };
    hop = subst (λ h. IsSameHop h n) (sym carries.hop) same;
  }

  -- it is the one that is wished for, where that is so in every list
  wished_by : (q : Request) → ((all : List Slice) → IsSound d all → Fits all (meant meaning_of inhand) → wished_letter (state_of d all) (runner_in r) (wish_in (message_of (state_of d all) (machine.runner (runner_in r))) q) ≡ Some (letter (sender_of (runner_in r)) target (hop_of (state_of d all) (runner_in r)) duty message)) → IsWishedLetter d inhand r q l
  wished_by q each all sound fits =
      (letter (sender_of (runner_in r)) target (hop_of (state_of d all) (runner_in r)) duty message, each all sound fits, stands (hop_of (state_of d all) (runner_in r)) (has all sound fits))

  -- a post of a message that was made
  posted : (q : Request) → ((s : State) (now : Option Message) → wished_letter s (runner_in r) (wish_in now q) ≡ option_map (λ draft. letter (sender_of (runner_in r)) target (hop_of s (runner_in r)) duty (filled draft now)) (draft_asked q)) → IsMade d inhand r q message → IsWishedLetter d inhand r q l
  posted q shape made = wished_by q (λ all sound fits.
      let s = state_of d all in
      let now = message_of s (machine.runner (runner_in r)) in
      shape s now ∙ mapped_on (λ draft. filled draft now) (letter (sender_of (runner_in r)) target (hop_of s (runner_in r)) duty) (draft_asked q) message (made all sound fits))

  pub post_made : (q : Request) (w : ℕ) (draft : Bor DraftWords) → q ≡ request.Post w target draft → duty ≡ Free → IsMade d inhand r q message → IsWishedLetter d inhand r q l
  post_made q w draft is free made = posted q (λ s now. subst (λ p. wished_letter s (runner_in r) (wish_in now p) ≡ option_map (λ x. letter (sender_of (runner_in r)) target (hop_of s (runner_in r)) duty (filled x now)) (draft_asked p)) (sym is)
      (ap (λ f. Some (letter (sender_of (runner_in r)) target (hop_of s (runner_in r)) f (filled draft.now now))) (sym free))) made

  pub send_made : (q : Request) (w : ℕ) (draft : Bor DraftWords) → q ≡ request.Send w target draft → duty ≡ sent_duty (runner_in r) → IsMade d inhand r q message → IsWishedLetter d inhand r q l
  send_made q w draft is owed made = posted q (λ s now. subst (λ p. wished_letter s (runner_in r) (wish_in now p) ≡ option_map (λ x. letter (sender_of (runner_in r)) target (hop_of s (runner_in r)) duty (filled x now)) (draft_asked p)) (sym is)
      (ap (λ f. Some (letter (sender_of (runner_in r)) target (hop_of s (runner_in r)) f (filled draft.now now))) (sym owed))) made

-- ---- what is forwarded

passed_on : (g : Duty → Message → Letter Message) (o : Option (Hand Message)) (duty : Duty) (message : Message) → Some duty ≡ option_map (λ (hand : Hand Message). hand.duty) o → Some message ≡ option_map (λ (hand : Hand Message). hand.letter.body) o → option_map (λ (hand : Hand Message). g (duty_handed_on hand.duty) hand.letter.body) o ≡ Some (g (duty_handed_on duty) message)
passed_on g (Some hand) duty message one other =
    ap (λ x. Some (g (duty_handed_on x) hand.letter.body)) (sym (same_Some duty hand.duty one)) ∙ ap (λ x. Some (g (duty_handed_on duty) x)) (sym (same_Some message hand.letter.body other))
passed_on g None duty message one other = absurd (cc)

module _ (d : Declared) (inhand : List (ℕ × Part)) (w : ℕ) (q : Request) (asks : Asks d inhand (by.Looper w) q) (k : Kept) (at : part_at inhand (place_of d (part.looper w)) ≡ Some (kinds.Looper k)) where
  pub behind : (hop : ℕ) → IsSameHop hop (hop_behind k.slice) → HasHop d inhand (by.Looper w) hop
  behind hop same = looper_hop d inhand w k hop (own_there d inhand (by.Looper w) q asks).reachable at same

  -- it has a letter in its hand, of which each thing is told
  pub is_held : {X : Type 0} (f : Hand Message → X) (o : Option X) → o ≡ option_map f (hand_of k.slice) → o ≡ None → ⊥
  is_held f o told none =
      let hand = in_hand d inhand w q asks k at in
      let never : None ≡ Some (f hand.0) = sym none ∙ told ∙ ap (option_map f) hand.1 in
      cc

  pub forwarded : (hop : ℕ) → HasHop d inhand (by.Looper w) hop → (v : ℕ) (target : Target) → q ≡ request.Forward v target → (duty on : Duty) (message : Message) → Some duty ≡ duty_in k.slice → on ≡ duty_handed_on duty → Some message ≡ option_map (λ (hand : Hand Message). hand.letter.body) (hand_of k.slice)
      → (l : held.Letter) → Carries l (letter (sender_of (machine.looper w)) target hop on message) → IsWishedLetter d inhand (by.Looper w) q l
  forwarded hop has v target is duty on message held goes body l carries = wished_by d inhand (by.Looper w) hop has target on message l carries q (λ all sound fits.
      let s = state_of d all in
      let g : Duty → Message → Letter Message = letter (sender_of (machine.looper w)) target (hop_of s (machine.looper w)) in
      ap (λ p. wished_letter s (machine.looper w) (wish_in (message_of s (machine.runner (machine.looper w))) p)) is
      ∙ ap (option_map (λ (hand : Hand Message). g (duty_handed_on hand.duty) hand.letter.body)) (hand_is d inhand w q asks k at all sound fits)
      ∙ passed_on g (hand_of k.slice) duty message held body
      ∙ ap (λ x. Some (g x message)) (sym goes))
