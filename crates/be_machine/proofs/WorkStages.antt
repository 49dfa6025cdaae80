-- What a looper does beside the instructions lowers the potential: taking, beginning and ending.
use Rattle.std.proofs.Common.{◌≡◌, ℕ, suc, ◌+◌, ◌<◌, ◌≤◌, Bool, true, false, List, [], ◌∷◌, map, Option, Some, None, refl, sym, ap, subst, ◌∙◌, arith}
use Rattle.std.specs.Prelude.{ℤ, pos, ◌/◌, ◌%◌, slice_get, find, option_map, option_and_then, ◌==◌, ◌&&◌, if◌then◌else◌}
use Rattle.std.specs.Option.{option_map_or}
use Rattle.be_facts.proofs.Truths.{and_second}
use Rattle.be_actor.specs.Wishes.{first_place, has_no_room}
use Rattle.be_command.specs.declared.Command.TheVariants.{EndUpdate}
use Rattle.be_desk.specs.Changes.{owns}
use Rattle.be_geom.specs.declared.point.Point.{Point}
use Rattle.be_geom.specs.declared.rect.Rect.{Rect}
use Rattle.be_handler.specs.Routes.{route_of}
use Rattle.be_geom.specs.Places.{at_pixel}
use Rattle.be_geom.proofs.Numbered.{number_is}
use Rattle.be_looper.specs.Duties.{Hand, EndTelling, nobody, no_reply, not_understood, end_telling, in_hand}
use Rattle.be_message.specs.Messages.{Message}
use Rattle.be_message.specs.Words.{no_reply_word, not_understood_word}
use Rattle.be_port.specs.Ports.{Letter, Port, front}
use Rattle.be_script.specs.Script.{Declared}
use Rattle.be_script.specs.Windows.{chain_of, body_program}
use Rattle.be_span.specs.declared.Cell.{Cell}
use Rattle.be_stack.specs.Owner.{owner_at, covers, covers_pixel, is_on_screen}
use Rattle.be_stack.specs.declared.window.Window.{Window}
use Rattle.be_stack.specs.Windows.{Windows, passes}
use Rattle.be_update.specs.Sessions.{is_any, dirty_from, dirty_pixels, session_of, with_session, passed}
use Rattle.be_views.specs.Trees.{left_top}
use Rattle.be_machine.specs.Activities.{looper}
use Rattle.be_machine.specs.declared.Act.{Act}
use Rattle.be_machine.specs.declared.Act.TheVariants as acts
use Rattle.be_machine.specs.Legal.{want_act}
use Rattle.be_machine.specs.Lists.{with_both}
use Rattle.be_machine.specs.Looper.{freed, told_at_end, ended_hand, word_alone}
use Rattle.be_machine.specs.Port.{take_act, letter_route, first_stage, with_letter_in_hand, taken}
use Rattle.be_machine.specs.Program.{hand_in, hand_at, buffered, update_program}
use Rattle.be_machine.specs.State.{State, Looper, free, locked, handling, Stage, beginning, in_update, ending}
use Rattle.be_machine.specs.Step.{met}
use Rattle.be_machine.specs.Update.{listing_of, at_stage, opened, passed_by, begun}
use Rattle.be_machine.specs.Wants.{takes, begins, flushes, draws_end, ends, end_want, draw_end_want}
use Rattle.be_machine.specs.Windows.{corner_at, dirty_of}
use Rattle.be_machine.proofs.Lists.{find_passes}
use Rattle.be_machine.proofs.NumbersGrow.{AreRooted}
use Rattle.be_machine.proofs.WorkActors.{not_none}
use Rattle.be_machine.proofs.WorkBodies.{listing_cost}
use Rattle.be_machine.proofs.WorkDirt.{dirt_fewer}
use Rattle.be_machine.proofs.WorkGranted.{told_keeps, flushed_pays}
use Rattle.be_machine.proofs.WorkInstructions.{Falls, by_test, no_room}
use Rattle.be_machine.proofs.WorkMarks.{cleaned_none, cleaned_keeps, panes_clean}
use Rattle.be_machine.proofs.WorkParts.{left_first, loopers_turn, ports_taken, buffers_drawn}
use Rattle.be_machine.specs.Shares.{body_step_cost, draw_cost, letter_share, stage_share, looper_share, is_dirty, potential}

-- ---- flushes

pub flushes_falls : (d : Declared) (s : State) (w : ℕ) → 1 ≤ buffered s (looper w) → Falls d s (flushes w)
unfolding met
flushes_falls d s w some = omega (arith, flushed_pays d s w)

-- ---- the end of a message

telling_keeps : (d : Declared) (t : EndTelling) (s : State) → potential d (told_at_end t s) ≤ potential d s
telling_keeps d nobody s = omega arith
telling_keeps d (no_reply m) s = told_keeps d (word_alone no_reply_word) (Some m) s
telling_keeps d (not_understood m) s = told_keeps d (word_alone not_understood_word) (Some m) s

freed_falls : (d : Declared) (s : State) (w : ℕ) (l : Looper) → slice_get s.loopers w ≡ Some l → potential d (freed s w) + looper_share d w l ≡ potential d s
unfolding potential
freed_falls d s w l read = omega (arith, loopers_turn d s.loopers w (λ _. free) l read)

ends_falls : (d : Declared) (s : State) (w : ℕ) (hand : Hand Message) (stage : Stage) → slice_get s.loopers w ≡ Some (handling hand stage) → 1 ≤ stage_share d w hand stage → Falls d s (ends w)
unfolding met
ends_falls d s w hand stage read some =
    let found : option_map_or (ended_hand s w) (hand_at s w) s ≡ ended_hand s w hand = ap (λ o. option_map_or (ended_hand s w) (option_and_then hand_in o) s) read in
    subst (λ t. potential d t < potential d s) (sym found)
    (omega (arith, telling_keeps d (end_telling hand.duty hand.route) (freed s w), freed_falls d s w (handling hand stage) read))

pub end_falls : (d : Declared) (s : State) (w : ℕ) (hand : Hand Message) (stage : Stage) → slice_get s.loopers w ≡ Some (handling hand stage) → 1 ≤ stage_share d w hand stage → Falls d s (end_want s w)
end_falls d s w hand stage read some =
    by_test (Falls d s) (buffered s (looper w) == 0) (ends w) (flushes w)
    (λ _. ends_falls d s w hand stage read some)
    (λ e. flushes_falls d s w (not_none (buffered s (looper w)) e))

-- ---- the end of an update

draws_end_falls : (d : Declared) (s : State) (w : ℕ) (hand : Hand Message) (stage : Stage) → slice_get s.loopers w ≡ Some (handling hand stage) → 4 ≤ stage_share d w hand stage → Falls d s (draws_end w)
unfolding met potential
draws_end_falls d s w hand stage read some = omega (arith, loopers_turn d s.loopers w (at_stage ending) (handling hand stage) read, buffers_drawn d s.buffers w EndUpdate)

pub draw_end_falls : (d : Declared) (s : State) (w : ℕ) (hand : Hand Message) (stage : Stage) → slice_get s.loopers w ≡ Some (handling hand stage) → 4 ≤ stage_share d w hand stage → Falls d s (draw_end_want s w)
draw_end_falls d s w hand stage read some =
    by_test (Falls d s) (has_no_room (buffered s (looper w))) (flushes w) (draws_end w)
    (λ e. flushes_falls d s w (let many : 32 ≤ buffered s (looper w) = no_room (buffered s (looper w)) e in omega arith))
    (λ _. draws_end_falls d s w hand stage read some)

-- ---- a dirty pixel has a window

any_by : (P : Type 0) (b : Bool) (p : Point) (ps : List Point) → (b ≡ true → P) → (is_any ps ≡ true → P) → is_any (if b then p ∷ ps else ps) ≡ true → P
any_by P true p ps f g e = f refl
any_by P false p ps f g e = g e

any_owned : (P : Type 0) (width k : ℕ) (owned : ℤ → ℤ → Bool) (cells : List Cell) → ((x y : ℤ) → owned x y ≡ true → P) → is_any (dirty_from width k owned cells) ≡ true → P
any_owned P width k owned [] f e = cc
any_owned P width k owned (c ∷ cs) f e =
    any_by P (c.dirty && owned (pos (k % width)) (pos (k / width))) (at_pixel (pos (k % width)) (pos (k / width))) (dirty_from width (suc k) owned cs)
    (λ h. f (pos (k % width)) (pos (k / width)) (and_second c.dirty (owned (pos (k % width)) (pos (k / width))) h))
    (any_owned P width (suc k) owned cs f) e

pub found_if : (b : Bool) (windows : Windows) (x y : ℤ) (w : ℕ) → (if b then find (covers windows.windows x y) windows.order else None) ≡ Some w → covers windows.windows x y w ≡ true
found_if true windows x y w e = find_passes (covers windows.windows x y) windows.order w e
found_if false windows x y w e = cc

owner_covers : (windows : Windows) (x y : ℤ) (w : ℕ) → owner_at windows x y ≡ Some w → covers windows.windows x y w ≡ true
unfolding owner_at
owner_covers windows x y w e = found_if (is_on_screen windows.width x && is_on_screen windows.height y) windows x y w e

record HasCorner (s : State) (w : ℕ) : Type 0 where
  corner : Point
  is : corner_at s w ≡ Some corner

passes_corner : (s : State) (w : ℕ) (x y : ℤ) (o : Option Window) → slice_get s.desk.windows.windows w ≡ o → passes (covers_pixel x y) o ≡ true → HasCorner s w
passes_corner s w x y (Some window) read e = record { corner = left_top window.frame; is = ap (option_map (λ (v : Window). left_top v.frame)) read }
passes_corner s w x y None read e = cc

has_corner : (s : State) (w : ℕ) → is_any (dirty_of s w) ≡ true → HasCorner s w
unfolding dirty_of dirty_pixels
has_corner s w e = any_owned (HasCorner s w) s.desk.windows.width 0 (owns s.desk w) s.screen (λ x y h. passes_corner s w x y (slice_get s.desk.windows.windows w) refl (owner_covers s.desk.windows x y w (number_is w (owner_at s.desk.windows x y) h))) e

-- ---- an update begins

opened_falls : (d : Declared) (s : State) (w : ℕ) (hand : Hand Message) (corner : Point) → AreRooted s.desk.pointing.trees → slice_get s.loopers w ≡ Some (handling hand beginning) → potential d (opened s w corner) < potential d s
unfolding potential
opened_falls d s w hand corner rooted read =
    let views = map (λ (p : ℕ × Rect). p.0) (listing_of s w) in
    let t : State = opened s w corner in
    omega (
      arith,
      loopers_turn d s.loopers w (at_stage (in_update views first_place)) (handling hand beginning) read,
      left_first draw_cost (update_program d w views),
      listing_cost d s w rooted,
      panes_clean d s.desk t.screen s.panes w (with_session (session_of corner (dirty_of s w))) (cleaned_none s.desk w s.screen),
      dirt_fewer d s.desk s.desk s.screen t.screen s.panes (λ u e. cleaned_keeps s.desk w u s.screen e),
    )

is_clean : (s : State) (w : ℕ) → is_any (dirty_of s w) ≡ false → is_dirty s.desk s.screen w ≡ false
unfolding dirty_of is_dirty
is_clean s w e = e

passed_falls : (d : Declared) (s : State) (w : ℕ) (hand : Hand Message) → is_any (dirty_of s w) ≡ false → slice_get s.loopers w ≡ Some (handling hand beginning) → potential d (passed_by s w) < potential d s
unfolding potential
passed_falls d s w hand clean read = omega (
  arith,
  loopers_turn d s.loopers w (at_stage ending) (handling hand beginning) read,
  panes_clean d s.desk s.screen s.panes w passed (is_clean s w clean),
)

pub begins_falls : (d : Declared) (s : State) (w : ℕ) (hand : Hand Message) → AreRooted s.desk.pointing.trees → slice_get s.loopers w ≡ Some (handling hand beginning) → Falls d s (begins w)
unfolding met begun
begins_falls d s w hand rooted read =
    by_test (λ t. potential d t < potential d s) (is_any (dirty_of s w)) (option_map_or (opened s w) (corner_at s w) s) (passed_by s w)
    (λ e.
    let has : HasCorner s w = has_corner s w e in
    let found : option_map_or (opened s w) (corner_at s w) s ≡ opened s w has.corner = ap (λ o. option_map_or (opened s w) o s) has.is in
    subst (λ t. potential d t < potential d s) (sym found) (opened_falls d s w hand has.corner rooted read))
    (λ e. passed_falls d s w hand e read)

-- ---- a letter is taken

notice_if : (d : Declared) (w : ℕ) (letter : Letter Message) (b : Bool) → letter.notice ≡ b → stage_share d w (in_hand letter (letter_route d w letter)) (first_stage letter) + 1 ≤ letter_share d w letter
notice_if d w letter true e = rw e (omega arith)
notice_if d w letter false e =
    rw e (omega (arith, left_first (body_step_cost d letter.hop letter.body.what) (body_program d w letter.body.what (route_of (chain_of d w) letter.body.what letter.target))))

in_hand_falls : (d : Declared) (s : State) (w : ℕ) (p : Port Message) (letter : Letter Message) → slice_get s.loopers w ≡ Some free → slice_get s.ports w ≡ Some p → front p ≡ Some letter → potential d (with_letter_in_hand d s w letter) < potential d s
unfolding potential
in_hand_falls d s w p letter free_one read first = omega (
  arith,
  ports_taken d s.ports w p letter read first,
  loopers_turn d s.loopers w (λ _. handling (in_hand letter (letter_route d w letter)) (first_stage letter)) free free_one,
  notice_if d w letter letter.notice refl,
)

taken_falls : (d : Declared) (s : State) (w : ℕ) (p : Port Message) (letter : Letter Message) → slice_get s.loopers w ≡ Some free → slice_get s.ports w ≡ Some p → front p ≡ Some letter → Falls d s (takes w)
unfolding met
taken_falls d s w p letter free_one read first =
    let found : taken d s w ≡ with_letter_in_hand d s w letter =
    ap (λ o. option_map_or (with_letter_in_hand d s w) (option_and_then front o) s) read ∙ ap (λ o. option_map_or (with_letter_in_hand d s w) o s) first
    in
    subst (λ t. potential d t < potential d s) (sym found) (in_hand_falls d s w p letter free_one read first)

front_falls : (d : Declared) (s : State) (w : ℕ) (p : Port Message) (o : Option (Letter Message)) (act : Act) → slice_get s.loopers w ≡ Some free → slice_get s.ports w ≡ Some p → front p ≡ o → option_map (λ letter. acts.Take (p.taken + 1)) o ≡ Some act → Falls d s (takes w)
front_falls d s w p (Some letter) act free_one read first e = taken_falls d s w p letter free_one read first
front_falls d s w p None act free_one read first e = cc

takes_by : (d : Declared) (s : State) (w : ℕ) (l : Option Looper) (p : Option (Port Message)) (act : Act) → slice_get s.loopers w ≡ l → slice_get s.ports w ≡ p → with_both take_act l p ≡ Some act → Falls d s (takes w)
takes_by d s w (Some free) (Some p) act a b e = front_falls d s w p (front p) act a b refl e
takes_by d s w (Some (locked m)) (Some p) act a b e = cc
takes_by d s w (Some (handling hand stage)) (Some p) act a b e = cc
takes_by d s w (Some l) None act a b e = cc
takes_by d s w None p act a b e = cc

pub takes_falls : (d : Declared) (s : State) (w : ℕ) (act : Act) → want_act d s (takes w) ≡ Some act → Falls d s (takes w)
unfolding want_act
takes_falls d s w act e = takes_by d s w (slice_get s.loopers w) (slice_get s.ports w) act refl refl e
