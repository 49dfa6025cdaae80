-- What an entry leaves alone, by its activity and its act.
use Rattle.std.proofs.Common.{◌≡◌, ℕ, Bool, true, false, List, Option, Some, None, ◌⊎◌, inl, inr}
use Rattle.std.proofs.Common.{⊎_elim, refl, sym, ap, subst, ◌∙◌}
use Rattle.std.specs.Prelude.{◌||◌, ◌==◌, ◌+◌, slice_get, option_map, option_and_then, length}
use Rattle.std.specs.Prelude.{if◌then◌else◌}
use Rattle.std.proofs.lemmas.Option.{same_Some}
use Rattle.std.proofs.lemmas.Bool.{or_right, or_left}
use Rattle.be_facts.proofs.Numbers.{eq_self}
use Rattle.be_actor.specs.declared.Wish.{Wish}
use Rattle.be_actor.specs.declared.Wish.TheVariants as wish
use Rattle.be_command.specs.Effects.{Effect, at_view, changes, ends_update, effect_of}
use Rattle.be_geom.specs.declared.change.Change.{Change}
use Rattle.be_geom.specs.declared.change.Change.TheVariants as change
use Rattle.be_link.specs.Queues.{Buffer, Numbered, fits, is_full}
use Rattle.be_port.specs.Ports.{Port, judged}
use Rattle.be_message.specs.Messages.{Message}
use Rattle.be_pane.specs.Panes.{Pane}
use Rattle.be_script.specs.Script.{Declared}
use Rattle.be_machine.specs.Activities.{Activity, Runner, runner, app, looper, twin, input, closing}
use Rattle.be_machine.specs.Commands.{draw_act, effect_outcome, exec_act, flush_act, sync_act}
use Rattle.be_machine.specs.declared.Act.{Act}
use Rattle.be_machine.specs.declared.Act.TheVariants as act
use Rattle.be_machine.specs.Legal.{want_act, wish_act}
use Rattle.be_machine.specs.Lists.{with_both}
use Rattle.be_machine.specs.Looper.{lock_act}
use Rattle.be_machine.specs.Port.{post_act}
use Rattle.be_machine.specs.Program.{window_of}
use Rattle.be_machine.specs.State.{State, Looper, free, locked, handling}
use Rattle.be_machine.specs.Touched.{Part, IsOf, Touches, TouchesBy, TouchesFor, TouchesOldest}
use Rattle.be_machine.specs.Touched.{TouchesPanes, TouchesPort, own_part}
use Rattle.be_machine.specs.Touched as part
use Rattle.be_machine.specs.Wants.{Want, asks, takes, begins, flushes, draws_end, ends, notifies}
use Rattle.be_machine.specs.Wants.{executes, uses, stops}
use Rattle.be_machine.proofs.LegalEntries.{maker}
use Rattle.be_world.specs.Stirring.{act_window, is_command, is_near, is_window, may_touch_all}
use Rattle.be_world.specs.Stirring.{own_window}

-- whether an act may touch a part
abbrev pub reaches : Activity → Act → Part → Bool
reaches who a part.desk = true
reaches who a part.input = true
reaches who a (part.cell m) = true
reaches who a (part.looper w) = may_touch_all who || is_near who a w
reaches who a (part.port w) = may_touch_all who || is_near who a w
reaches who a (part.link w) = may_touch_all who || is_near who a w
reaches who a (part.pane w) = may_touch_all who || (is_command a || is_near who a w)

-- ---- by windows

here : (o : Option ℕ) (w : ℕ) → o ≡ Some w → is_window o w ≡ true
here o w e = ap (λ (x : Option ℕ). is_window x w) e ∙ eq_self w

module _ (who : Activity) (a : Act) (w : ℕ) where
  near_own : own_window who ≡ Some w → is_near who a w ≡ true
  near_own e = or_left (is_window (own_window who) w) (is_window (act_window a) w)
      (here (own_window who) w e)

  near_act : act_window a ≡ Some w → is_near who a w ≡ true
  near_act e = or_right (is_window (own_window who) w) (is_window (act_window a) w)
      (here (act_window a) w e)

  near : (own_window who ≡ Some w) ⊎ (act_window a ≡ Some w) → is_near who a w ≡ true
  near (inl e) = near_own e
  near (inr e) = near_act e

  module _ (is : is_near who a w ≡ true) where
    to_looper : reaches who a (part.looper w) ≡ true
    to_looper = or_right (may_touch_all who) (is_near who a w) is

    to_port : reaches who a (part.port w) ≡ true
    to_port = or_right (may_touch_all who) (is_near who a w) is

    to_link : reaches who a (part.link w) ≡ true
    to_link = or_right (may_touch_all who) (is_near who a w) is

    to_pane : reaches who a (part.pane w) ≡ true
    to_pane = or_right (may_touch_all who) (is_command a || is_near who a w)
        (or_right (is_command a) (is_near who a w) is)

by_command : (who : Activity) (a : Act) (u : ℕ) → is_command a ≡ true
    → reaches who a (part.pane u) ≡ true
by_command who a u is = or_right (may_touch_all who) (is_command a || is_near who a u)
    (or_left (is_command a) (is_near who a u) is)

by_all : (who : Activity) (a : Act) (p : Part) → may_touch_all who ≡ true → reaches who a p ≡ true
by_all who a part.desk is = refl
by_all who a part.input is = refl
by_all who a (part.cell m) is = refl
by_all who a (part.looper w) is = or_left (may_touch_all who) (is_near who a w) is
by_all who a (part.port w) is = or_left (may_touch_all who) (is_near who a w) is
by_all who a (part.link w) is = or_left (may_touch_all who) (is_near who a w) is
by_all who a (part.pane w) is = or_left (may_touch_all who) (is_command a || is_near who a w) is

-- the part is this one
so : (who : Activity) (a : Act) (p q : Part) → p ≡ q → reaches who a q ≡ true
    → reaches who a p ≡ true
so who a p q e is = ap (reaches who a) e ∙ is

-- of a window that has the part
of_window : (who : Activity) (a : Act) (kind : ℕ → Part) (o : Option ℕ) (p : Part) → IsOf kind o p
    → ((w : ℕ) → o ≡ Some w → reaches who a (kind w) ≡ true) → reaches who a p ≡ true
of_window who a kind (Some w) p e each = so who a p (kind w) e (each w refl)
of_window who a kind None p e each = absurd e

of_cell : (who : Activity) (a : Act) (o : Option ℕ) (p : Part) → IsOf part.cell o p
    → reaches who a p ≡ true
of_cell who a o p e = of_window who a part.cell o p e (λ m is. refl)

-- something of its own window
module _ (who : Activity) (a : Act) (p : Part) (w : ℕ) (is : own_window who ≡ Some w) where
  own_looper : p ≡ part.looper w → reaches who a p ≡ true
  own_looper e = so who a p (part.looper w) e (to_looper who a w (near_own who a w is))

  own_port : p ≡ part.port w → reaches who a p ≡ true
  own_port e = so who a p (part.port w) e (to_port who a w (near_own who a w is))

  own_link : p ≡ part.link w → reaches who a p ≡ true
  own_link e = so who a p (part.link w) e (to_link who a w (near_own who a w is))

  own_pane : p ≡ part.pane w → reaches who a p ≡ true
  own_pane e = so who a p (part.pane w) e (to_pane who a w (near_own who a w is))

-- ---- what an act names

post_by : (w hop : ℕ) (o : Option (Port Message)) (a : Act)
    → option_map (λ p. act.Post w (judged p hop)) o ≡ Some a → act_window a ≡ Some w
post_by w hop (Some p) a e = ap act_window (sym (same_Some (act.Post w (judged p hop)) a e))
post_by w hop None a e = absurd (cc)

post_names : (s : State) (w hop : ℕ) (a : Act) → post_act s w hop ≡ Some a → act_window a ≡ Some w
post_names s w hop a e = post_by w hop (slice_get s.ports w) a e

lock_names : (w : ℕ) (o : Option Looper) (a : Act) → option_and_then (lock_act w) o ≡ Some a
    → act_window a ≡ Some w
lock_names w (Some free) a e = ap act_window (sym (same_Some (act.Lock w) a e))
lock_names w (Some (locked m)) a e = absurd (cc)
lock_names w (Some (handling hand stage)) a e = absurd (cc)
lock_names w None a e = absurd (cc)

some_if : (b : Bool) (x a : Act) (w : ℕ) → act_window x ≡ Some w
    → (if b then Some x else None) ≡ Some a → act_window a ≡ Some w
some_if true x a w names e = ap act_window (sym (same_Some x a e)) ∙ names
some_if false x a w names e = absurd (cc)

none_if : (b : Bool) (x a : Act) (w : ℕ) → act_window x ≡ Some w
    → (if b then None else Some x) ≡ Some a → act_window a ≡ Some w
none_if true x a w names e = absurd (cc)
none_if false x a w names e = ap act_window (sym (same_Some x a e)) ∙ names

draw_names : (w : ℕ) (o : Option Buffer) (a : Act)
    → option_and_then (λ b. if is_full b then None else Some (act.Draw w (b.made + 1))) o ≡ Some a
    → act_window a ≡ Some w
draw_names w (Some b) a e = none_if (is_full b) (act.Draw w (b.made + 1)) a w refl e
draw_names w None a e = absurd (cc)

flush_names : (w : ℕ) (o : Option Buffer) (q : Option (List Numbered)) (a : Act)
    → with_both (λ b link. if fits b link then Some (act.Flush w (length b.commands)) else None) o
    q ≡ Some a → act_window a ≡ Some w
flush_names w (Some b) (Some link) a e =
    some_if (fits b link) (act.Flush w (length b.commands)) a w refl e
flush_names w (Some b) None a e = absurd (cc)
flush_names w None (Some link) a e = absurd (cc)
flush_names w None None a e = absurd (cc)

sync_names : (w : ℕ) (o : Option (List Numbered)) (a : Act)
    → option_and_then (λ link. if length link == 0 then Some (act.SyncDone w) else None) o ≡ Some a
    → act_window a ≡ Some w
sync_names w (Some link) a e = some_if (length link == 0) (act.SyncDone w) a w refl e
sync_names w None a e = absurd (cc)

-- in the window that the runner owns
in_window : (o : Option ℕ) (f : ℕ → Option Act) (a : Act) (w : ℕ) → o ≡ Some w
    → option_and_then f o ≡ Some a → f w ≡ Some a
in_window (Some v) f a w e is = ap f (sym (same_Some v w e)) ∙ is
in_window None f a w e is = absurd (cc)

-- ---- what an instruction asks for

module _ (s : State) (by : Runner) (a : Act) (p : Part) where
  abbrev who : Activity
  who = runner by

  named : (w : ℕ) → act_window a ≡ Some w → is_near who a w ≡ true
  named w e = near_act who a w e

  own_reached : (q : Runner) → by ≡ q → p ≡ own_part q → reaches who a p ≡ true
  own_reached (app m) is e = so who a p (part.cell m) e refl
  own_reached (looper w) is e = so who a p (part.looper w) e
      (to_looper who a w (near_own who a w (ap (λ (x : Runner). own_window (runner x)) is)))

  wish_reaches : (x : Wish) → wish_act s by x ≡ Some a → TouchesBy s by x p → reaches who a p ≡ true
  unfolding wish_act
  wish_reaches (wish.Note word) e t = absurd t
  wish_reaches (wish.Post w target message) e t =
      so who a p (part.port w) t (to_port who a w (named w (post_names s w _ a e)))
  wish_reaches (wish.Send w target message) e t =
      so who a p (part.port w) t (to_port who a w (named w (post_names s w _ a e)))
  wish_reaches (wish.Forward w target) e t =
      so who a p (part.port w) t (to_port who a w (named w (post_names s w _ a e)))
  wish_reaches (wish.Reply message) e t = of_cell who a _ p t
  wish_reaches wish.Claim e t = absurd t
  wish_reaches (wish.Lock w) e t =
      so who a p (part.looper w) t (to_looper who a w
      (named w (lock_names w (slice_get s.loopers w) a e)))
  wish_reaches wish.Unlock e t =
      of_window who a part.looper (window_of s by) p t (λ w is.
      let made : Some (act.Unlock w) ≡ Some a =
      in_window (window_of s by) (λ v. Some (act.Unlock v)) a w is e in
      to_looper who a w (named w (ap act_window (sym (same_Some (act.Unlock w) a made)))))
  wish_reaches wish.Flush e (inl t) =
      of_window who a part.looper (window_of s by) p t (λ w is.
      to_looper who a w (named w (flush_names w (slice_get s.buffers w) (slice_get s.links w) a
      (in_window (window_of s by) (flush_act s) a w is e))))
  wish_reaches wish.Flush e (inr t) =
      of_window who a part.link (window_of s by) p t (λ w is.
      to_link who a w (named w (flush_names w (slice_get s.buffers w) (slice_get s.links w) a
      (in_window (window_of s by) (flush_act s) a w is e))))
  wish_reaches wish.SyncDone e t =
      of_window who a part.link (window_of s by) p t (λ w is.
      to_link who a w (named w (sync_names w (slice_get s.links w) a
      (in_window (window_of s by) (sync_act s) a w is e))))
  wish_reaches (wish.Draw command) e t =
      of_window who a part.looper (window_of s by) p t (λ w is.
      to_looper who a w (named w (draw_names w (slice_get s.buffers w) a
      (in_window (window_of s by) (draw_act s) a w is e))))

-- ---- what a twin executes

command_by : {X : Type 0} (f : X → Numbered → Act) (o : Option X) (q : Option Numbered) (a : Act)
    → ((x : X) (c : Numbered) → is_command (f x c) ≡ true)
    → with_both (λ x c. Some (f x c)) o q ≡ Some a → is_command a ≡ true
command_by f (Some x) (Some c) a each e = ap is_command (sym (same_Some (f x c) a e)) ∙ each x c
command_by f (Some x) None a each e = absurd (cc)
command_by f None (Some c) a each e = absurd (cc)
command_by f None None a each e = absurd (cc)

executes_command : (d : Declared) (s : State) (w : ℕ) (a : Act) → exec_act d s w ≡ Some a
    → is_command a ≡ true
executes_command d s w a e =
    command_by (λ (pane : Pane) (c : Numbered). act.Exec c.number
    (effect_outcome d.pictures s w (effect_of c.command) pane)) (slice_get s.panes w)
    (option_and_then (λ (link : List Numbered). slice_get link 0) (slice_get s.links w)) a
    (λ x c. refl) e

close_port : (w : ℕ) (c : Change) (p : Part) → TouchesPort w c p → p ≡ part.port w
close_port w change.Close p t = t
close_port w change.Show p t = absurd t
close_port w change.Hide p t = absurd t
close_port w (change.MoveTo corner) p t = absurd t
close_port w (change.MoveBy dx dy) p t = absurd t
close_port w (change.ResizeTo width height) p t = absurd t
close_port w change.Activate p t = absurd t
close_port w (change.Behind front) p t = absurd t
close_port w (change.Focus view) p t = absurd t

module _ (s r : State) (w : ℕ) (a : Act) (p : Part) (command : is_command a ≡ true) where
  abbrev it : Activity
  it = twin w

  own : is_near it a w ≡ true
  own = near_own it a w refl

  effect_reaches : (f : Effect) → TouchesFor s r w f p → reaches it a p ≡ true
  effect_reaches (at_view v deed) t = so it a p (part.pane w) t (to_pane it a w own)
  effect_reaches (changes c) (inl t) = so it a p part.desk t refl
  effect_reaches (changes c) (inr (inl t)) =
      so it a p (part.port w) (close_port w c p t) (to_port it a w own)
  effect_reaches (changes c) (inr (inr t)) =
      so it a p (part.pane t.0) t.1 (by_command it a t.0 command)
  effect_reaches ends_update t = so it a p (part.pane w) t (to_pane it a w own)

  oldest_reaches : (o : Option Numbered) → TouchesOldest s r w o p → reaches it a p ≡ true
  oldest_reaches (Some c) t = effect_reaches (effect_of c.command) t
  oldest_reaches None t = absurd t

-- ---- all wants

module _ (d : Declared) (s r : State) (a : Act) (p : Part) where
  -- a part that the entry touches is one that its activity's act reaches
  pub reached : (want : Want) → want_act d s want ≡ Some a → Touches s r want p
      → reaches (maker want) a p ≡ true
  unfolding want_act
  reached (asks by x) e (inl t) = own_reached s by a p by refl t
  reached (asks by x) e (inr t) = wish_reaches s by a p x e t
  reached (takes w) e (inl t) = own_looper (runner (looper w)) a p w refl t
  reached (takes w) e (inr t) = own_port (runner (looper w)) a p w refl t
  reached (begins w) e (inl t) = own_looper (runner (looper w)) a p w refl t
  reached (begins w) e (inr (inl t)) = own_link (runner (looper w)) a p w refl t
  reached (begins w) e (inr (inr t)) = own_pane (runner (looper w)) a p w refl t
  reached (flushes w) e (inl t) = own_looper (runner (looper w)) a p w refl t
  reached (flushes w) e (inr t) = own_link (runner (looper w)) a p w refl t
  reached (draws_end w) e t = own_looper (runner (looper w)) a p w refl t
  reached (ends w) e (inl t) = own_looper (runner (looper w)) a p w refl t
  reached (ends w) e (inr t) = of_cell (runner (looper w)) a _ p t
  reached (notifies w) e (inl t) = own_port (twin w) a p w refl t
  reached (notifies w) e (inr t) = own_pane (twin w) a p w refl t
  reached (executes w) e (inl t) = own_link (twin w) a p w refl t
  reached (executes w) e (inr t) = oldest_reaches s r w a p (executes_command d s w a e) _ t
  reached (uses line) e t = by_all input a p refl
  reached stops e t = by_all closing a p refl
