-- A looper or a twin whose parts are the same in two states has a legal entry in both or in none.
use Rattle.std.proofs.Common.{◌≡◌, ℕ, zero, suc, Bool, true, false, List, [], ◌∷◌, length, Option}
use Rattle.std.proofs.Common.{Some, None, refl, sym, ap, subst, ◌∙◌}
use Rattle.std.specs.Prelude.{◌==◌, ◌+◌, slice_get, option_map, option_and_then, if◌then◌else◌}
use Rattle.std.proofs.lemmas.Option.{same_Some}
use Rattle.be_actor.specs.declared.Wish.{Wish}
use Rattle.be_actor.specs.declared.Wish.TheVariants as wish
use Rattle.be_command.specs.Effects.{effect_of}
use Rattle.be_link.specs.Queues.{Numbered}
use Rattle.be_looper.specs.Duties.{Hand, reply_answer}
use Rattle.be_message.specs.Messages.{Message}
use Rattle.be_pane.specs.Panes.{Pane}
use Rattle.be_port.specs.Ports.{Port, judged}
use Rattle.be_script.specs.Script.{Declared}
use Rattle.be_turns.specs.Turning.{is_some}
use Rattle.be_update.specs.Sessions.{is_any}
use Rattle.be_machine.specs.Activities.{Activity, runner, app, looper, twin, activity_of}
use Rattle.be_machine.specs.Commands.{effect_outcome, sync_act}
use Rattle.be_machine.specs.declared.Act.{Act}
use Rattle.be_machine.specs.declared.Act.TheVariants as act
use Rattle.be_machine.specs.Legal.{legal_act, want_act, wish_act}
use Rattle.be_machine.specs.Lists.{with_both}
use Rattle.be_machine.specs.Looper.{answer_of, end_act}
use Rattle.be_machine.specs.Port.{take_act}
use Rattle.be_machine.specs.Program.{hand_in, hop_of}
use Rattle.be_machine.specs.State.{State}
use Rattle.be_machine.specs.Touched.{SamePart}
use Rattle.be_machine.specs.Touched as part
use Rattle.be_machine.specs.Wants.{Want, asks, takes, begins, flushes, draws_end, ends, notifies}
use Rattle.be_machine.specs.Wants.{executes, uses, stops, want_of}
use Rattle.be_machine.specs.Windows.{dirty_of}
use Rattle.be_machine.proofs.BodyWishes.{body_asks, is_body_wish}
use Rattle.be_machine.proofs.LegalEntries.{maker, maker_is}
use Rattle.be_machine.proofs.ReadsWishes.{same_draw, same_flush}
use Rattle.be_script.specs.Limits.{IsWithinLimits}
use Rattle.be_world.specs.Stirring.{own_window}

-- ---- something is there

-- at a place of lists that are as long
as_there : {X Y : Type 0} (f g : X → Y) (xs ys : List X) (i : ℕ) → length ys ≡ length xs
    → is_some (option_map f (slice_get ys i)) ≡ is_some (option_map g (slice_get xs i))
as_there f g [] [] i e = refl
as_there f g [] (y ∷ ys) i e = absurd (cc)
as_there f g (x ∷ xs) [] i e = absurd (cc)
as_there f g (x ∷ xs) (y ∷ ys) zero e = refl
as_there f g (x ∷ xs) (y ∷ ys) (suc i) e = as_there f g xs ys i (cc)

both_there : {X Y Z : Type 0} (f g : X → Y → Z) (o : Option X) (q : Option Y)
    → is_some (with_both (λ x y. Some (f x y)) o q) ≡ is_some (with_both (λ x y. Some (g x y)) o q)
both_there f g (Some x) (Some y) = refl
both_there f g (Some x) None = refl
both_there f g None (Some y) = refl
both_there f g None None = refl

if_there : {X : Type 0} (b : Bool) (x y : X)
    → is_some (if b then Some x else None) ≡ is_some (if b then Some y else None)
if_there true x y = refl
if_there false x y = refl

empty_there : (x y : Act) (o : Option (List Numbered))
    → is_some (option_and_then (λ link. if length link == 0 then Some x else None) o) ≡ is_some
    (option_and_then (λ link. if length link == 0 then Some y else None) o)
empty_there x y (Some link) = if_there (length link == 0) x y
empty_there x y None = refl

-- ---- loopers

-- what a looper looks at is the same in both states, and there are as many ports
pub record SameLooper (s r : State) (w : ℕ) : Type 0 where
  pub own : SamePart s r (part.looper w)
  pub port : SamePart s r (part.port w)
  pub link : SamePart s r (part.link w)
  pub ports : length r.ports ≡ length s.ports

module _ (d : Declared) (s r : State) (w : ℕ) (same : SameLooper s r w) where
  wish_there : (x : Wish) → is_body_wish x ≡ true
      → is_some (wish_act r (looper w) x) ≡ is_some (wish_act s (looper w) x)
  unfolding wish_act
  wish_there (wish.Note word) h = refl
  wish_there (wish.Post v target message) h =
      as_there (λ (p : Port Message). act.Post v (judged p (hop_of r (looper w))))
      (λ p. act.Post v (judged p (hop_of s (looper w)))) s.ports r.ports v same.ports
  wish_there (wish.Forward v target) h =
      as_there (λ (p : Port Message). act.Post v (judged p (hop_of r (looper w))))
      (λ p. act.Post v (judged p (hop_of s (looper w)))) s.ports r.ports v same.ports
  wish_there (wish.Reply message) h =
      ap (λ o. is_some (option_map (λ (hand : Hand Message). answer_of (reply_answer hand.duty))
      (option_and_then hand_in o))) same.own.0
  wish_there wish.Flush h = ap is_some (same_flush s r w same.own.1 same.link)
  wish_there wish.SyncDone h = ap
      (λ o. is_some (option_and_then
      (λ (link : List Numbered). if length link == 0 then Some (act.SyncDone w) else None) o))
      same.link
  wish_there (wish.Draw command) h = ap is_some (same_draw s r w same.own.1)
  wish_there (wish.Send v target message) h = absurd (cc)
  wish_there wish.Claim h = absurd (cc)
  wish_there (wish.Lock v) h = absurd (cc)
  wish_there wish.Unlock h = absurd (cc)

  abbrev IsSame : Want → Type 0
  IsSame want = is_some (want_act d r want) ≡ is_some (want_act d s want)

  -- a want of the window is one of this one
  here : (f : ℕ → Want) (v : ℕ) → runner (looper v) ≡ runner (looper w) → IsSame (f w)
      → IsSame (f v)
  here f v e is = subst (λ u. IsSame (f u)) (sym (same_Some v w (ap own_window e))) is

  takes_there : IsSame (takes w)
  unfolding want_act
  takes_there = ap (λ o. is_some (with_both take_act o (slice_get r.ports w))) same.own.0
      ∙ ap (λ o. is_some (with_both take_act (slice_get s.loopers w) o)) same.port

  begins_there : IsSame (begins w)
  unfolding want_act
  begins_there = ap (λ o. is_some
      (option_and_then (λ (link : List Numbered). if length link == 0 then Some
      (act.Begin (is_any (dirty_of r w))) else None) o)) same.link
      ∙ empty_there (act.Begin (is_any (dirty_of r w))) (act.Begin (is_any (dirty_of s w)))
      (slice_get s.links w)

  flushes_there : IsSame (flushes w)
  unfolding want_act
  flushes_there = ap is_some (same_flush s r w same.own.1 same.link)

  draws_there : IsSame (draws_end w)
  unfolding want_act
  draws_there = ap is_some (same_draw s r w same.own.1)

  ends_there : IsSame (ends w)
  unfolding want_act
  ends_there = ap (λ o. is_some (option_map end_act (option_and_then hand_in o))) same.own.0

  asks_there : (x : Wish) → is_body_wish x ≡ true → IsSame (asks (looper w) x)
  unfolding want_act
  asks_there x h = wish_there x h

  want_there : (want : Want) → maker want ≡ runner (looper w)
      → ((x : Wish) → want ≡ asks (looper w) x → is_body_wish x ≡ true) → IsSame want
  want_there (asks (app m) x) e body = absurd (cc)
  want_there (asks (looper v) x) e body =
      here (λ u. asks (looper u) x) v e
      (asks_there x (body x (ap (λ u. asks (looper u) x) (same_Some v w (ap own_window e)))))
  want_there (takes v) e body = here takes v e takes_there
  want_there (begins v) e body = here begins v e begins_there
  want_there (flushes v) e body = here flushes v e flushes_there
  want_there (draws_end v) e body = here draws_end v e draws_there
  want_there (ends v) e body = here ends v e ends_there
  want_there (notifies v) e body = absurd (cc)
  want_there (executes v) e body = absurd (cc)
  want_there (uses line) e body = absurd (cc)
  want_there stops e body = absurd (cc)

  looper_by : (o : Option Want) → IsWithinLimits d → want_of d s (runner (looper w)) ≡ o
      → is_some (option_and_then (want_act d r) o) ≡ is_some (option_and_then (want_act d s) o)
  looper_by (Some want) limits e =
      want_there want (maker_is d s (runner (looper w)) want e)
      (λ x is. body_asks d s w x limits (e ∙ ap Some is))
  looper_by None limits e = refl

  pub looper_has : (a : ℕ) → IsWithinLimits d → activity_of d a ≡ Some (runner (looper w))
      → want_of d r (runner (looper w)) ≡ want_of d s (runner (looper w))
      → is_some (legal_act d r a) ≡ is_some (legal_act d s a)
  unfolding legal_act
  looper_has a limits number wants =
      ap (λ o. is_some (option_and_then (want_act d r) (option_and_then (want_of d r) o))) number
      ∙ ap (λ o. is_some (option_and_then (want_act d r) o)) wants
      ∙ looper_by (want_of d s (runner (looper w))) limits refl
      ∙ sym (ap (λ o. is_some (option_and_then (want_act d s) (option_and_then (want_of d s) o)))
      number)

-- ---- twins

pub record SameTwin (s r : State) (w : ℕ) : Type 0 where
  pub pane : SamePart s r (part.pane w)
  pub link : SamePart s r (part.link w)
  pub ports : length r.ports ≡ length s.ports

module _ (d : Declared) (s r : State) (w : ℕ) (same : SameTwin s r w) where
  abbrev IsSameTwin : Want → Type 0
  IsSameTwin want = is_some (want_act d r want) ≡ is_some (want_act d s want)

  there : (f : ℕ → Want) (v : ℕ) → twin v ≡ twin w → IsSameTwin (f w) → IsSameTwin (f v)
  there f v e is = subst (λ u. IsSameTwin (f u)) (sym (same_Some v w (ap own_window e))) is

  notifies_there : IsSameTwin (notifies w)
  unfolding want_act
  notifies_there = as_there (λ (p : Port Message). act.Notify (length p.arrived + 1))
      (λ p. act.Notify (length p.arrived + 1)) s.ports r.ports w same.ports

  executes_there : IsSameTwin (executes w)
  unfolding want_act
  executes_there =
      let f : State → Pane → Numbered
      → Act = λ t pane c. act.Exec c.number
      (effect_outcome d.pictures t w (effect_of c.command) pane) in
      ap (λ o. is_some (with_both (λ x y. Some (f r x y)) o
      (option_and_then (λ (link : List Numbered). slice_get link 0) (slice_get r.links w))))
      same.pane.0
      ∙ ap (λ o. is_some (with_both (λ x y. Some (f r x y)) (slice_get s.panes w)
      (option_and_then (λ (link : List Numbered). slice_get link 0) o))) same.link
      ∙ both_there (f r) (f s) (slice_get s.panes w)
      (option_and_then (λ (link : List Numbered). slice_get link 0) (slice_get s.links w))

  twin_wants : (want : Want) → maker want ≡ twin w → IsSameTwin want
  twin_wants (asks who x) e = absurd (cc)
  twin_wants (takes v) e = absurd (cc)
  twin_wants (begins v) e = absurd (cc)
  twin_wants (flushes v) e = absurd (cc)
  twin_wants (draws_end v) e = absurd (cc)
  twin_wants (ends v) e = absurd (cc)
  twin_wants (notifies v) e = there notifies v e notifies_there
  twin_wants (executes v) e = there executes v e executes_there
  twin_wants (uses line) e = absurd (cc)
  twin_wants stops e = absurd (cc)

  twin_by : (o : Option Want) → want_of d s (twin w) ≡ o
      → is_some (option_and_then (want_act d r) o) ≡ is_some (option_and_then (want_act d s) o)
  twin_by (Some want) e = twin_wants want (maker_is d s (twin w) want e)
  twin_by None e = refl

  pub twin_has : (a : ℕ) → activity_of d a ≡ Some (twin w)
      → want_of d r (twin w) ≡ want_of d s (twin w)
      → is_some (legal_act d r a) ≡ is_some (legal_act d s a)
  unfolding legal_act
  twin_has a number wants =
      ap (λ o. is_some (option_and_then (want_act d r) (option_and_then (want_of d r) o))) number
      ∙ ap (λ o. is_some (option_and_then (want_act d r) o)) wants
      ∙ twin_by (want_of d s (twin w)) refl
      ∙ sym (ap (λ o. is_some (option_and_then (want_act d s) (option_and_then (want_of d s) o)))
      number)
