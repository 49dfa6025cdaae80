-- What a picture saves and leaves is given back.
use Rattle.std.proofs.Common.{◌≡◌, ℕ, zero, suc, ◌+◌, ◌-◌, ◌<◌, ◌==◌, Bool, true, false, cond}
use Rattle.std.proofs.Common.{List, [], ◌∷◌, ◌++◌, length, Option, Some, None, refl, sym, ap, ◌∙◌}
use Rattle.std.proofs.Common.{append_assoc, arith, length-append, replicate, subst}
use Rattle.std.specs.Prelude.{fold, nat_lt}
use Rattle.std.proofs.lemmas.Bool.{eqb-true}
use Rattle.std.proofs.lemmas.Bool.Decides.{nat_tests}
use Rattle.std.proofs.lemmas.List.{append-nil}
use Rattle.std.proofs.lemmas.List.Sums.{fold-append}
use Rattle.std.proofs.lemmas.Option.{none-some, same_Some}
use Rattle.be_bitmap.specs.Pictures.{Picture}
use Rattle.be_color.specs.declared.colors.Color.{Color}
use Rattle.be_command.specs.declared.Command.{Command}
use Rattle.be_command.specs.declared.Command.TheVariants.{Push, Pop}
use Rattle.be_command.specs.Effects.{Deed, draws, sets, colors, saves, restores, copies, invalidates}
use Rattle.be_command.specs.Effects.{Effect, at_view, changes, ends_update, effect_of}
use Rattle.be_command.specs.Effects.{Setting, high_color, low_color, drawing_mode, pen_size}
use Rattle.be_command.specs.Effects.{pen_place, origin, clipping}
use Rattle.be_paint.specs.Inks.{Ink}
use Rattle.be_state.specs.Stacks.{Layer, Stack, pushed}
use Rattle.be_twin.specs.Deeds.{color_after, deed_outcome, ink_of, set_by}
use Rattle.be_twin.specs.Deeds.{stack_after, with_pen}
use Rattle.be_twin.specs.Executed.{is_done, pane_after, sight_of}
use Rattle.be_views.specs.Trees.{place_of}
use Rattle.be_picture.specs.declared.sorts.Sort.{Sort}
use Rattle.be_picture.specs.declared.sorts.Sort.TheVariants.{Opens, Closes, Stays}
use Rattle.be_picture.specs.Laws.{IsOfOneView}
use Rattle.be_picture.specs.Playing.{OffScreen, after_commands, done_at, done_by, played_on}
use Rattle.be_picture.specs.Recording.{IsRecorded, open_pushes, refusal}
use Rattle.be_picture.specs.Sorts.{sort_of, sort_of_effect}
use Rattle.be_picture.proofs.Recorded.{has_sort, none_open, not_full, not_none, open_of, opened}

-- ---- one deed

-- what a deed leaves of the view's colour and states, where it is done and where it isn't
record IsAfter (bitmaps : List Picture) (deed : Deed) (color : Color) (t : Stack) (b : Bool)
    (old new : OffScreen) : Type 0 where
  colors : new.pane.colors ≡ cond b (color_after deed color) color ∷ []
  stacks : new.pane.stacks ≡ cond b (stack_after bitmaps deed t) t ∷ []
  session : new.pane.session ≡ old.pane.session

after : (bitmaps : List Picture) (off : OffScreen) (color : Color) (t : Stack) (deed : Deed) (b : Bool)
    → off.pane.colors ≡ color ∷ [] → off.pane.stacks ≡ t ∷ []
    → is_done (deed_outcome bitmaps t deed) ≡ b
    → IsAfter bitmaps deed color t b off (done_at bitmaps off 0 deed)
unfolding sight_of pane_after place_of
after bitmaps off color t deed true cs ts done = record {
  colors = rw (cs, ts, done) refl;
  stacks = rw (cs, ts, done) refl;
  session = rw (cs, ts, done) refl;
}
after bitmaps off color t deed false cs ts done = record {
  colors = rw (cs, ts, done) refl;
  stacks = rw (cs, ts, done) refl;
  session = rw (cs, ts, done) refl;
}

-- ---- what is saved

-- the one view's states: so many were saved behind one that was in force
pub record Keeps (n : ℕ) (s : Stack) (off : OffScreen) : Type 0 where
  pub color : Color
  pub stack : Stack
  pub front : List Layer
  pub colors : off.pane.colors ≡ color ∷ []
  pub stacks : off.pane.stacks ≡ stack ∷ []
  pub saved : stack.saved ≡ front ++ s.top ∷ []
  pub many : length front ≡ n
  pub closed : off.pane.session ≡ None

either_saved : (b : Bool) (t u : Stack) → u.saved ≡ t.saved → (cond b u t).saved ≡ t.saved
either_saved true t u h = h
either_saved false t u h = refl

stays : (bitmaps : List Picture) (n : ℕ) (s : Stack) (off : OffScreen) (deed : Deed)
    → ((t : Stack) → (stack_after bitmaps deed t).saved ≡ t.saved) → Keeps n s off
    → Keeps n s (done_at bitmaps off 0 deed)
stays bitmaps n s off deed same k =
    let b = is_done (deed_outcome bitmaps k.stack deed) in
    let a = after bitmaps off k.color k.stack deed b k.colors k.stacks refl in
    record {
      color = cond b (color_after deed k.color) k.color;
      stack = cond b (stack_after bitmaps deed k.stack) k.stack;
      front = k.front;
      colors = a.colors;
      stacks = a.stacks;
      saved = either_saved b k.stack (stack_after bitmaps deed k.stack) (same k.stack) ∙ k.saved;
      many = k.many;
      closed = a.session ∙ k.closed;
    }

pen_saved : (t : Stack) (ink : Option Ink) → (with_pen t ink).saved ≡ t.saved
pen_saved t None = refl
pen_saved t (Some ink) = refl

set_saved : (setting : Setting) (t : Stack) → (set_by setting t).saved ≡ t.saved
set_saved (high_color color) t = refl
set_saved (low_color color) t = refl
set_saved (drawing_mode mode) t = refl
set_saved (pen_size size) t = refl
set_saved (pen_place at) t = refl
set_saved (origin at) t = refl
set_saved (clipping None) t = refl
set_saved (clipping (Some rects)) t = refl

opens : (bitmaps : List Picture) (n : ℕ) (s : Stack) (off : OffScreen) → n < 15 → Keeps n s off
    → Keeps (n + 1) s (done_at bitmaps off 0 saves)
opens bitmaps n s off few k =
    let room : nat_lt (length k.stack.saved) 16 ≡ true =
    rw (k.saved, length-append k.front (s.top ∷ [])) (grind (arith, nat_tests, k.many)) in
    let a = after bitmaps off k.color k.stack saves true k.colors k.stacks (rw room refl) in
    record {
      color = k.color;
      stack = pushed k.stack;
      front = k.stack.top ∷ k.front;
      colors = a.colors;
      stacks = a.stacks;
      saved = ap (λ (l : List Layer). k.stack.top ∷ l) k.saved;
      many = omega (arith, k.many);
      closed = a.session ∙ k.closed;
    }

-- a pop gives back what was saved last
gives : (bitmaps : List Picture) (off : OffScreen) (color : Color) (t : Stack) (l : Layer)
    (rest : List Layer) → off.pane.colors ≡ color ∷ [] → off.pane.stacks ≡ t ∷ []
    → t.saved ≡ l ∷ rest
    → IsAfter bitmaps restores color t true off (done_at bitmaps off 0 restores)
    × (stack_after bitmaps restores t ≡ record { top = l; saved = rest })
gives bitmaps off color t l rest cs ts e =
    (after bitmaps off color t restores true cs ts (rw e refl), rw e refl)

closes_at : (bitmaps : List Picture) (n : ℕ) (s : Stack) (off : OffScreen) (k : Keeps n s off)
    (front : List Layer) → k.front ≡ front → 0 < n → Keeps (n - 1) s (done_at bitmaps off 0 restores)
closes_at bitmaps n s off k [] e some = absurd (omega (arith, k.many, ap length e))
closes_at bitmaps n s off k (l ∷ front) e some =
    let saved : k.stack.saved ≡ l ∷ (front ++ s.top ∷ []) =
    k.saved ∙ ap (λ (f : List Layer). f ++ s.top ∷ []) e in
    let g = gives bitmaps off k.color k.stack l (front ++ s.top ∷ []) k.colors k.stacks saved in
    record {
      color = k.color;
      stack = record { top = l; saved = front ++ s.top ∷ [] };
      front = front;
      colors = g.0.colors;
      stacks = g.0.stacks ∙ ap (λ (t : Stack). t ∷ []) g.1;
      saved = refl;
      many = omega (arith, k.many, ap length e);
      closed = g.0.session ∙ k.closed;
    }

closes : (bitmaps : List Picture) (n : ℕ) (s : Stack) (off : OffScreen) → 0 < n → Keeps n s off
    → Keeps (n - 1) s (done_at bitmaps off 0 restores)
closes bitmaps n s off some k = closes_at bitmaps n s off k k.front refl some

-- ---- one command

-- the numbers of pushes at which a command of a sort isn't refused
abbrev pub IsRoom : Sort → ℕ → Type 0
IsRoom Opens n = n < 15
IsRoom Closes n = 0 < n
IsRoom Stays n = Unit {0}

at_nought : (b : Bool) (r s : Sort) → cond b (Some r) None ≡ Some s → (b ≡ true) × (r ≡ s)
at_nought true r s h = (refl, same_Some r s h)
at_nought false r s h = absurd (none-some s h)

by_deed : (bitmaps : List Picture) (n : ℕ) (s : Stack) (off : OffScreen) (v : ℕ) (deed : Deed)
    (r sort : Sort) → cond (v == 0) (Some r) None ≡ Some sort
    → (IsRoom r n → Keeps (open_of r n) s (done_at bitmaps off 0 deed)) → IsRoom sort n
    → Keeps (open_of sort n) s (done_at bitmaps off v deed)
by_deed bitmaps n s off v deed r sort is step room =
    let at = at_nought (v == 0) r sort is in
    let nought : v ≡ 0 = eqb-true v 0 at.0 in
    let here = step (subst (λ (q : Sort). IsRoom q n) (sym at.1) room) in
    subst (λ (w : ℕ). Keeps (open_of sort n) s (done_at bitmaps off w deed)) (sym nought)
    (subst (λ (q : Sort). Keeps (open_of q n) s (done_at bitmaps off 0 deed)) at.1 here)

by_effect : (bitmaps : List Picture) (n : ℕ) (s : Stack) (off : OffScreen) (e : Effect) (sort : Sort)
    → sort_of_effect e ≡ Some sort → Keeps n s off → IsRoom sort n
    → Keeps (open_of sort n) s (done_by bitmaps off e)
by_effect bitmaps n s off (at_view v (draws f)) sort is k room =
    by_deed bitmaps n s off v (draws f) Stays sort is
    (λ _. stays bitmaps n s off (draws f) (λ t. pen_saved t (ink_of bitmaps t.top.state f)) k) room
by_effect bitmaps n s off (at_view v (sets setting)) sort is k room =
    by_deed bitmaps n s off v (sets setting) Stays sort is
    (λ _. stays bitmaps n s off (sets setting) (set_saved setting) k) room
by_effect bitmaps n s off (at_view v (colors color)) sort is k room =
    by_deed bitmaps n s off v (colors color) Stays sort is
    (λ _. stays bitmaps n s off (colors color) (λ t. refl) k) room
by_effect bitmaps n s off (at_view v saves) sort is k room =
    by_deed bitmaps n s off v saves Opens sort is (λ few. opens bitmaps n s off few k) room
by_effect bitmaps n s off (at_view v restores) sort is k room =
    by_deed bitmaps n s off v restores Closes sort is (λ some. closes bitmaps n s off some k) room
by_effect bitmaps n s off (at_view v (copies source target)) sort is k room =
    absurd (none-some sort is)
by_effect bitmaps n s off (at_view v (invalidates r)) sort is k room = absurd (none-some sort is)
by_effect bitmaps n s off (changes change) sort is k room = absurd (none-some sort is)
by_effect bitmaps n s off ends_update sort is k room = absurd (none-some sort is)

room_for : (sort : Sort) (cs : List Command) (c : Command) → sort_of c ≡ Some sort
    → refusal cs c ≡ None → IsRoom sort (open_pushes cs)
room_for Opens cs c is free = let few = not_full cs c is free in grind (arith, nat_tests)
room_for Closes cs c is free = let some = not_none cs c is free in grind (arith, nat_tests)
room_for Stays cs c is free = tt

one_more : (bitmaps : List Picture) (s : Stack) (cs : List Command) (c : Command) (off : OffScreen)
    → refusal cs c ≡ None → Keeps (open_pushes cs) s off
    → Keeps (open_pushes (cs ++ c ∷ [])) s (done_by bitmaps off (effect_of c))
one_more bitmaps s cs c off free k =
    let found = has_sort cs c free in
    subst (λ (n : ℕ). Keeps n s (done_by bitmaps off (effect_of c)))
    (sym (opened cs c found.0 found.1))
    (by_effect bitmaps (open_pushes cs) s off (effect_of c) found.0 found.1 k
    (room_for found.0 cs c found.1 free))

-- ---- all of them

abbrev all_done : List Picture → OffScreen → List Command → OffScreen
all_done bitmaps off commands = fold (λ now c. done_by bitmaps now (effect_of c)) off commands

recorded_keep : (bitmaps : List Picture) (s : Stack) (before commands : List Command)
    (off : OffScreen) → IsRecorded (before ++ commands) → Keeps (open_pushes before) s off
    → Keeps (open_pushes (before ++ commands)) s (all_done bitmaps off commands)
recorded_keep bitmaps s before [] off recorded k =
    subst (λ (cs : List Command). Keeps (open_pushes cs) s off) (sym (append-nil before)) k
recorded_keep bitmaps s before (c ∷ cs) off recorded k =
    let cut = append_assoc before (c ∷ []) cs in
    subst (λ (all : List Command). Keeps (open_pushes all) s (all_done bitmaps off (c ∷ cs))) cut
    (recorded_keep bitmaps s (before ++ c ∷ []) cs (done_by bitmaps off (effect_of c))
    (subst IsRecorded (sym cut) recorded)
    (one_more bitmaps s before c off (recorded before cs c refl) k))

pops_keep : (bitmaps : List Picture) (s : Stack) (n : ℕ) (off : OffScreen) → Keeps n s off
    → Keeps 0 s (all_done bitmaps off (replicate n (Pop 0)))
pops_keep bitmaps s zero off k = k
pops_keep bitmaps s (suc n) off k =
    pops_keep bitmaps s n (done_at bitmaps off 0 restores)
    (subst (λ (m : ℕ). Keeps m s (done_at bitmaps off 0 restores)) (omega arith)
    (closes bitmaps (suc n) s off (omega arith) k))

-- ---- a whole picture

begins : (bitmaps : List Picture) (off : OffScreen) (one : IsOfOneView off)
    → Keeps 0 one.stack (done_at bitmaps off 0 saves)
begins bitmaps off one =
    let a = after bitmaps off one.color one.stack saves true one.colors one.stacks
    (rw one.none_saved refl) in
    record {
      color = one.color;
      stack = pushed one.stack;
      front = [];
      colors = a.colors;
      stacks = a.stacks;
      saved = ap (λ (l : List Layer). one.stack.top ∷ l) one.none_saved;
      many = refl;
      closed = a.session ∙ one.closed;
    }

ends_at : (bitmaps : List Picture) (s : Stack) (off : OffScreen) (k : Keeps 0 s off)
    (front : List Layer) → k.front ≡ front → s.saved ≡ []
    → (color : Color) × ((done_at bitmaps off 0 restores).pane.colors ≡ color ∷ [])
    × ((done_at bitmaps off 0 restores).pane.stacks ≡ s ∷ [])
    × ((done_at bitmaps off 0 restores).pane.session ≡ None)
ends_at bitmaps s off k (l ∷ front) e none = absurd (omega (arith, k.many, ap length e))
ends_at bitmaps s off k [] e none =
    let saved : k.stack.saved ≡ s.top ∷ [] = k.saved ∙ ap (λ (f : List Layer). f ++ s.top ∷ []) e in
    let g = gives bitmaps off k.color k.stack s.top [] k.colors k.stacks saved in (
      k.color,
      g.0.colors,
      g.0.stacks ∙ ap (λ (t : Stack). t ∷ []) g.1
          ∙ ap (λ (l : List Layer). record { top = s.top; saved = l } ∷ []) (sym none),
      g.0.session ∙ k.closed,
    )

played_in_parts : (bitmaps : List Picture) (off : OffScreen) (picture : List Command)
    → played_on bitmaps off picture
    ≡ done_at bitmaps (all_done bitmaps (all_done bitmaps (done_at bitmaps off 0 saves) picture)
    (replicate (open_pushes picture) (Pop 0))) 0 restores
unfolding after_commands
played_in_parts bitmaps off picture =
    fold-append _ off (Push 0 ∷ picture) (replicate (open_pushes picture) (Pop 0) ++ Pop 0 ∷ [])
    ∙ fold-append _ _ (replicate (open_pushes picture) (Pop 0)) (Pop 0 ∷ [])

pub rests : (bitmaps : List Picture) (off : OffScreen) (picture : List Command)
    → IsRecorded picture → (one : IsOfOneView off)
    → (color : Color) × ((played_on bitmaps off picture).pane.colors ≡ color ∷ [])
    × ((played_on bitmaps off picture).pane.stacks ≡ one.stack ∷ [])
    × ((played_on bitmaps off picture).pane.session ≡ None)
rests bitmaps off picture recorded one =
    let first = done_at bitmaps off 0 saves in
    let drawn = all_done bitmaps first picture in
    let popped_all = all_done bitmaps drawn (replicate (open_pushes picture) (Pop 0)) in
    let k : Keeps 0 one.stack popped_all =
    pops_keep bitmaps one.stack (open_pushes picture) drawn
    (recorded_keep bitmaps one.stack [] picture first recorded
    (subst (λ (n : ℕ). Keeps n one.stack first) none_open (begins bitmaps off one))) in
    let e = ends_at bitmaps one.stack popped_all k k.front refl one.none_saved in
    let is = played_in_parts bitmaps off picture in (
      e.0,
      ap (λ (o : OffScreen). o.pane.colors) is ∙ e.1,
      ap (λ (o : OffScreen). o.pane.stacks) is ∙ e.2,
      ap (λ (o : OffScreen). o.pane.session) is ∙ e.3,
    )
