-- What names what is declared still does where more is declared.
use Rattle.std.proofs.Common.{◌≡◌, ℕ, ◌+◌, ◌<◌, ◌≤◌, ◌==◌, ◌-ℤ◌, pos, ℤ, true, false, not, ◌&&◌, List, [], ◌∷◌, length, filter, Option, Some, None, refl, arith, ltb-true}
use Rattle.std.specs.Prelude.{nat_lt}
use Rattle.std.specs.List.{list_all}
use Rattle.std.proofs.lemmas.Bool.{lt-ltb}
use Rattle.std.proofs.lemmas.Int.{ints}
use Rattle.be_facts.proofs.Truths.{and_map}
use Rattle.be_facts.proofs.Lists.{all_weaker}
use Rattle.be_actor.specs.declared.Instruction.{Instruction}
use Rattle.be_actor.specs.declared.Instruction.TheVariants.{Note, Post, Send, Reply, Forward, Lock, Unlock, Flush, Sync, Draw}
use Rattle.be_actor.specs.Limits.{is_draft, is_reserved, is_what}
use Rattle.be_command.specs.declared.Command.{Command}
use Rattle.be_command.specs.Effects.{Figure, filled, framed, lined, written, pictured, Deed, draws, sets, colors, saves, restores, copies, invalidates, Effect, at_view, changes, ends_update, effect_of}
use Rattle.be_command.specs.Limits.{change_names, deed_names, effect_names, is_command, is_drawing, is_view_or_none, names_bitmap, names_what_is}
use Rattle.be_geom.specs.declared.change.Change.{Change}
use Rattle.be_geom.specs.declared.change.Change.TheVariants.{Show, Hide, MoveTo, MoveBy, ResizeTo, Activate, Behind, Focus, Close}
use Rattle.be_geom.specs.declared.point.Point.{Point}
use Rattle.be_geom.specs.Points.{between}
use Rattle.be_handler.specs.declared.Rule.{Rule}
use Rattle.be_handler.specs.declared.Rule.TheVariants.{Skip, Pass, Redirect}
use Rattle.be_handler.specs.Routes.{same_target}
use Rattle.be_message.specs.declared.target.Target.{Target}
use Rattle.be_message.specs.declared.target.Target.TheVariants as target
use Rattle.be_said.specs.Keeps.{are_app_steps}
use Rattle.be_script.specs.declared.BodyLine.{BodyLine}
use Rattle.be_script.specs.declared.DrawLine.{DrawLine}
use Rattle.be_script.specs.declared.FilterLine.{FilterLine}
use Rattle.be_script.specs.declared.HandlerLine.{HandlerLine}
use Rattle.be_script.specs.declared.InputLine.{InputLine}
use Rattle.be_script.specs.declared.InputLine.TheVariants as input
use Rattle.be_script.specs.Limits.{are_plain_from, is_at_most, is_body_line, is_draw_line, is_event, is_filter_line, is_filter_word, is_list, is_next, is_place, is_rule, is_window, same_list}
use Rattle.be_script.specs.Programs.{is_address, is_app_program, is_app_step, is_body_program, is_body_step, is_command_for, is_draw_program, is_draw_step, is_free_step, is_handler_of, is_locked_step, is_rest_of_app, is_short, lock_behind, plain_count, view_count}
use Rattle.be_script.specs.Script.{Declared}
use Rattle.be_script.specs.Windows.{body_lines}

-- ---- tests

pub lt-more : (k m n : ℕ) → m ≤ n → nat_lt k m ≡ true → nat_lt k n ≡ true
lt-more k m n more h = let below : k < m = ltb-true k m h in lt-ltb k n (omega arith)

-- ---- more is declared

pub record Grows (d e : Declared) : Type 0 where
  pub windows : length d.windows ≤ length e.windows
  pub views : (w : ℕ) → view_count d w ≤ view_count e w
  pub plain : (w : ℕ) → plain_count d w ≤ plain_count e w
  pub pictures : length d.pictures ≤ length e.pictures
  pub apps : length d.apps ≤ length e.apps
  pub width : d.width ≤ e.width
  pub height : d.height ≤ e.height

module _ (d e : Declared) (g : Grows d e) where
  pub window-grows : (w : ℕ) → is_window d w ≡ true → is_window e w ≡ true
  window-grows w h = lt-more w (length d.windows) (length e.windows) g.windows h

  pub handler-grows : (w : ℕ) (t : Target) → is_handler_of d w t ≡ true → is_handler_of e w t ≡ true
  handler-grows w target.Window h = refl
  handler-grows w (target.View v) h = lt-more v (view_count d w) (view_count e w) (g.views w) h
  handler-grows w (target.Plain p) h = lt-more p (plain_count d w) (plain_count e w) (g.plain w) h

  address-grows : (w : ℕ) (t : Target) → is_address d w t ≡ true → is_address e w t ≡ true
  address-grows w t h =
      and_map (is_window d w) (is_handler_of d w t) (is_window e w) (is_handler_of e w t) (window-grows w) (handler-grows w t) h

-- ---- commands

figure-grows : (m n : ℕ) → m ≤ n → (f : Figure) → names_bitmap m f ≡ true → names_bitmap n f ≡ true
figure-grows m n more (pictured b at) h = lt-more b m n more h
figure-grows m n more (filled r pattern) h = refl
figure-grows m n more (framed r pattern) h = refl
figure-grows m n more (lined from to pattern) h = refl
figure-grows m n more (written bytes) h = refl

deed-grows : (m n : ℕ) → m ≤ n → (deed : Deed) → deed_names m deed ≡ true → deed_names n deed ≡ true
deed-grows m n more (draws figure) h = figure-grows m n more figure h
deed-grows m n more (sets setting) h = refl
deed-grows m n more (colors color) h = refl
deed-grows m n more saves h = refl
deed-grows m n more restores h = refl
deed-grows m n more (copies source at) h = refl
deed-grows m n more (invalidates r) h = refl

focus-grows : (m n : ℕ) → m ≤ n → (v : Option ℕ) → is_view_or_none m v ≡ true → is_view_or_none n v ≡ true
focus-grows m n more None h = refl
focus-grows m n more (Some v) h = lt-more v m n more h

change-grows : (w v x y : ℕ) → w ≤ x → v ≤ y → (c : Change) → change_names w v c ≡ true → change_names x y c ≡ true
change-grows w v x y p q (Behind front) h = lt-more front w x p h
change-grows w v x y p q (Focus view) h = focus-grows v y q view h
change-grows w v x y p q Show h = refl
change-grows w v x y p q Hide h = refl
change-grows w v x y p q (MoveTo corner) h = refl
change-grows w v x y p q (MoveBy dx dy) h = refl
change-grows w v x y p q (ResizeTo width height) h = refl
change-grows w v x y p q Activate h = refl
change-grows w v x y p q Close h = refl

effect-grows : (w v b x y c : ℕ) → w ≤ x → v ≤ y → b ≤ c → (f : Effect) → effect_names w v b f ≡ true → effect_names x y c f ≡ true
effect-grows w v b x y c p q r (at_view u deed) h =
    and_map (nat_lt u v) (deed_names b deed) (nat_lt u y) (deed_names c deed) (lt-more u v y q) (deed-grows b c r deed) h
effect-grows w v b x y c p q r (changes change) h = change-grows w v x y p q change h
effect-grows w v b x y c p q r ends_update h = refl

names-grow : (w v b x y c : ℕ) → w ≤ x → v ≤ y → b ≤ c → (f : Command) → names_what_is w v b f ≡ true → names_what_is x y c f ≡ true
unfolding names_what_is
names-grow w v b x y c p q r f h = effect-grows w v b x y c p q r (effect_of f) h

module _ (d e : Declared) (g : Grows d e) where
  command-grows : (w : ℕ) (c : Command) → is_command_for d w c ≡ true → is_command_for e w c ≡ true
  command-grows w c h =
      let old = names_what_is (length d.windows) (view_count d w) (length d.pictures) c in
      let new = names_what_is (length e.windows) (view_count e w) (length e.pictures) c in
      and_map (is_command c) old (is_command c) new (λ x. x)
      (names-grow (length d.windows) (view_count d w) (length d.pictures) (length e.windows) (view_count e w) (length e.pictures) g.windows (g.views w) g.pictures c) h

  -- ---- instructions

  pub body_step-grows : (w : ℕ) (step : Instruction) → is_body_step d w step ≡ true → is_body_step e w step ≡ true
  body_step-grows w (Note word) h = h
  body_step-grows w (Post v t draft) h =
      and_map (is_address d v t) (is_draft true draft) (is_address e v t) (is_draft true draft) (address-grows d e g v t) (λ x. x) h
  body_step-grows w (Send v t draft) h = h
  body_step-grows w (Reply draft) h = h
  body_step-grows w (Forward v t) h = address-grows d e g v t h
  body_step-grows w (Lock v) h = h
  body_step-grows w Unlock h = h
  body_step-grows w Flush h = h
  body_step-grows w Sync h = h
  body_step-grows w (Draw c) h = command-grows w c h

  pub draw_step-grows : (w : ℕ) (step : Instruction) → is_draw_step d w step ≡ true → is_draw_step e w step ≡ true
  draw_step-grows w (Note word) h = h
  draw_step-grows w (Post v t draft) h = h
  draw_step-grows w (Send v t draft) h = h
  draw_step-grows w (Reply draft) h = h
  draw_step-grows w (Forward v t) h = h
  draw_step-grows w (Lock v) h = h
  draw_step-grows w Unlock h = h
  draw_step-grows w Flush h = h
  draw_step-grows w Sync h = h
  draw_step-grows w (Draw c) h =
      and_map (is_command_for d w c) (is_drawing c) (is_command_for e w c) (is_drawing c) (command-grows w c) (λ x. x) h

  free_step-grows : (step : Instruction) → is_free_step d step ≡ true → is_free_step e step ≡ true
  free_step-grows (Note word) h = h
  free_step-grows (Post v t draft) h =
      and_map (is_address d v t) (is_draft false draft) (is_address e v t) (is_draft false draft) (address-grows d e g v t) (λ x. x) h
  free_step-grows (Send v t draft) h =
      and_map (is_address d v t) (is_draft false draft) (is_address e v t) (is_draft false draft) (address-grows d e g v t) (λ x. x) h
  free_step-grows (Reply draft) h = h
  free_step-grows (Forward v t) h = h
  free_step-grows (Lock v) h = window-grows d e g v h
  free_step-grows Unlock h = h
  free_step-grows Flush h = h
  free_step-grows Sync h = h
  free_step-grows (Draw c) h = h

  locked_step-grows : (w : ℕ) (step : Instruction) → is_locked_step d w step ≡ true → is_locked_step e w step ≡ true
  locked_step-grows w (Note word) h = h
  locked_step-grows w (Post v t draft) h =
      and_map (is_address d v t) (is_draft false draft) (is_address e v t) (is_draft false draft) (address-grows d e g v t) (λ x. x) h
  locked_step-grows w (Send v t draft) h = h
  locked_step-grows w (Reply draft) h = h
  locked_step-grows w (Forward v t) h = h
  locked_step-grows w (Lock v) h = h
  locked_step-grows w Unlock h = h
  locked_step-grows w Flush h = h
  locked_step-grows w Sync h = h
  locked_step-grows w (Draw c) h = command-grows w c h

  pub app_step-grows : (lock : Option ℕ) (step : Instruction) → is_app_step d lock step ≡ true → is_app_step e lock step ≡ true
  app_step-grows None step h = free_step-grows step h
  app_step-grows (Some w) step h = locked_step-grows w step h

  -- ---- programs

  pub app_steps-grow : (lock : Option ℕ) (steps : List Instruction) → are_app_steps d lock steps ≡ true → are_app_steps e lock steps ≡ true
  app_steps-grow lock [] h = refl
  app_steps-grow lock (step ∷ rest) h =
      and_map (is_app_step d lock step) (are_app_steps d (lock_behind lock step) rest) (is_app_step e lock step) (are_app_steps e (lock_behind lock step) rest)
      (app_step-grows lock step) (app_steps-grow (lock_behind lock step) rest) h

  rest-grows : (lock : Option ℕ) (steps : List Instruction) → is_rest_of_app d lock steps ≡ true → is_rest_of_app e lock steps ≡ true
  rest-grows None [] h = refl
  rest-grows (Some w) [] h = h
  rest-grows None (step ∷ rest) h =
      and_map (is_app_step d None step) (is_rest_of_app d (lock_behind None step) rest) (is_app_step e None step) (is_rest_of_app e (lock_behind None step) rest)
      (app_step-grows None step) (rest-grows (lock_behind None step) rest) h
  rest-grows (Some w) (step ∷ rest) h =
      and_map (is_app_step d (Some w) step) (is_rest_of_app d (lock_behind (Some w) step) rest) (is_app_step e (Some w) step) (is_rest_of_app e (lock_behind (Some w) step) rest)
      (app_step-grows (Some w) step) (rest-grows (lock_behind (Some w) step) rest) h

  pub app-grows : (steps : List Instruction) → is_app_program d steps ≡ true → is_app_program e steps ≡ true
  unfolding is_app_program
  app-grows steps h =
      and_map (is_short steps) (is_rest_of_app d None steps) (is_short steps) (is_rest_of_app e None steps) (λ x. x) (rest-grows None steps) h

  body_steps-grow : (w : ℕ) (steps : List Instruction) → is_body_program d w steps ≡ true → is_body_program e w steps ≡ true
  unfolding is_body_program
  body_steps-grow w steps h =
      and_map (is_short steps) (list_all (is_body_step d w) steps) (is_short steps) (list_all (is_body_step e w) steps) (λ x. x)
      (all_weaker (is_body_step d w) (is_body_step e w) (body_step-grows w) steps) h

  draw_steps-grow : (w : ℕ) (steps : List Instruction) → is_draw_program d w steps ≡ true → is_draw_program e w steps ≡ true
  unfolding is_draw_program
  draw_steps-grow w steps h =
      and_map (is_short steps) (list_all (is_draw_step d w) steps) (is_short steps) (list_all (is_draw_step e w) steps) (λ x. x)
      (all_weaker (is_draw_step d w) (is_draw_step e w) (draw_step-grows w) steps) h

  -- ---- filters and bodies

  pub list-grows : (w : ℕ) (list : Option Target) → is_list d w list ≡ true → is_list e w list ≡ true
  list-grows w None h = refl
  list-grows w (Some t) h = handler-grows d e g w t h

  pub rule-grows : (w : ℕ) (rule : Rule) → is_rule d w rule ≡ true → is_rule e w rule ≡ true
  rule-grows w (Redirect t) h = handler-grows d e g w t h
  rule-grows w Skip h = refl
  rule-grows w Pass h = refl

  -- the count of its list is another matter
  pub filter-grows : (line : FilterLine) →
      (is_at_most 32 (filter (λ other. other.window == line.window && same_list other.list line.list) d.filters) ≡ true →
      is_at_most 32 (filter (λ other. other.window == line.window && same_list other.list line.list) e.filters) ≡ true) →
      is_filter_line d line ≡ true → is_filter_line e line ≡ true
  filter-grows line few h =
      let w = line.window in
      let a = is_window d w in
      let a' = is_window e w in
      let b = is_list d w line.list in
      let b' = is_list e w line.list in
      let c = is_filter_word line.what in
      let r = is_rule d w line.rule in
      let r' = is_rule e w line.rule in
      let f = is_at_most 32 (filter (λ other. other.window == line.window && same_list other.list line.list) d.filters) in
      let f' = is_at_most 32 (filter (λ other. other.window == line.window && same_list other.list line.list) e.filters) in
      and_map (((a && b) && c) && r) f (((a' && b') && c) && r') f'
      (and_map ((a && b) && c) r ((a' && b') && c) r' (and_map (a && b) c (a' && b') c (and_map a b a' b' (window-grows d e g w) (list-grows w line.list)) (λ x. x)) (rule-grows w line.rule))
      few h

  -- so is that of the others for its handler and word
  pub body-grows : (line : BodyLine) →
      (is_at_most 1 (filter (λ other. same_target other.target line.target && other.what == line.what) (body_lines d line.window)) ≡ true →
      is_at_most 1 (filter (λ other. same_target other.target line.target && other.what == line.what) (body_lines e line.window)) ≡ true) →
      is_body_line d line ≡ true → is_body_line e line ≡ true
  body-grows line few h =
      let w = line.window in
      let a = is_window d w in
      let a' = is_window e w in
      let b = is_handler_of d w line.target in
      let b' = is_handler_of e w line.target in
      let c = is_what line.what in
      let r = not (is_reserved line.what) in
      let p = is_body_program d w line.program in
      let p' = is_body_program e w line.program in
      let f = is_at_most 1 (filter (λ other. same_target other.target line.target && other.what == line.what) (body_lines d w)) in
      let f' = is_at_most 1 (filter (λ other. same_target other.target line.target && other.what == line.what) (body_lines e w)) in
      and_map ((((a && b) && c) && r) && p) f ((((a' && b') && c) && r) && p') f'
      (and_map (((a && b) && c) && r) p (((a' && b') && c) && r) p'
      (and_map ((a && b) && c) r ((a' && b') && c) r (and_map (a && b) c (a' && b') c (and_map a b a' b' (window-grows d e g w) (handler-grows d e g w line.target)) (λ x. x)) (λ x. x))
      (body_steps-grow w line.program))
      few h

  pub draw-grows : (line : DrawLine) →
      (is_at_most 1 (filter (λ other. other.window == line.window && other.view == line.view) d.draws) ≡ true →
      is_at_most 1 (filter (λ other. other.window == line.window && other.view == line.view) e.draws) ≡ true) →
      is_draw_line d line ≡ true → is_draw_line e line ≡ true
  draw-grows line few h =
      let w = line.window in
      let a = is_window d w in
      let a' = is_window e w in
      let b = nat_lt line.view (view_count d w) in
      let b' = nat_lt line.view (view_count e w) in
      let p = is_draw_program d w line.program in
      let p' = is_draw_program e w line.program in
      let f = is_at_most 1 (filter (λ other. other.window == line.window && other.view == line.view) d.draws) in
      let f' = is_at_most 1 (filter (λ other. other.window == line.window && other.view == line.view) e.draws) in
      and_map ((a && b) && p) f ((a' && b') && p') f'
      (and_map (a && b) p (a' && b') p' (and_map a b a' b' (window-grows d e g w) (lt-more line.view (view_count d w) (view_count e w) (g.views w))) (draw_steps-grow w line.program))
      few h

  -- ---- plain handlers

  next-grows : (w k : ℕ) (t : Target) → is_next d w k t ≡ true → is_next e w k t ≡ true
  next-grows w k target.Window h = refl
  next-grows w k (target.View v) h = lt-more v (view_count d w) (view_count e w) (g.views w) h
  next-grows w k (target.Plain p) h = h

  pub plain-grows : (w k : ℕ) (lines : List HandlerLine) → are_plain_from d w k lines ≡ true → are_plain_from e w k lines ≡ true
  plain-grows w k [] h = refl
  plain-grows w k (line ∷ lines) h =
      and_map (is_next d w k line.next) (are_plain_from d w (k + 1) lines) (is_next e w k line.next) (are_plain_from e w (k + 1) lines)
      (next-grows w k line.next) (plain-grows w (k + 1) lines) h

-- ---- input

less-more : (m n : ℕ) (z : ℤ) → m ≤ n → between (pos 0) z (pos m -ℤ pos 1) ≡ true → between (pos 0) z (pos n -ℤ pos 1) ≡ true
unfolding between
less-more m n z more h = grind (arith, ints)

module _ (d e : Declared) (g : Grows d e) where
  place-grows : (p : Point) → is_place d p ≡ true → is_place e p ≡ true
  place-grows p h =
      and_map (between (pos 0) p.x (pos d.width -ℤ pos 1)) (between (pos 0) p.y (pos d.height -ℤ pos 1))
      (between (pos 0) p.x (pos e.width -ℤ pos 1)) (between (pos 0) p.y (pos e.height -ℤ pos 1))
      (less-more d.width e.width p.x g.width) (less-more d.height e.height p.y g.height) h

  pub event-grows : (event : InputLine) → is_event d event ≡ true → is_event e event ≡ true
  event-grows (input.Press p) h = place-grows p h
  event-grows (input.Release p) h = place-grows p h
  event-grows (input.Move p) h = place-grows p h
  event-grows (input.Key key) h = h
  event-grows (input.After m) h = lt-more m (length d.apps) (length e.apps) g.apps h
