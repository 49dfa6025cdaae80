-- What input delivers: messages with the event's word, to a window or a view, one or two of them.
use Rattle.std.proofs.Common.{◌≡◌, ℕ, zero, suc, true, List, [], ◌∷◌, ◌++◌, Option, Some, None, refl, subst}
use Rattle.std.specs.Prelude.{ℤ, slice_get, option_map, option_and_then, option_to_list}
use Rattle.std.proofs.lemmas.Option.{same_Some}
use Rattle.be_geom.specs.declared.point.Point.{Point}
use Rattle.be_geom.specs.Places.{less}
use Rattle.be_input.specs.declared.Event.TheVariants as event
use Rattle.be_input.specs.Deliveries.{Post, where_message, transit_message, place_in, mouse_post, mouse_posts, accepts, pressed, window_under, is_same, move_posts, key_message, focus_target, key_post, delivered}
use Rattle.be_input.specs.Pointing.{Pointing, corner_of, under_pointer}
use Rattle.be_message.specs.declared.target.Target.TheVariants as target
use Rattle.be_message.specs.Depths.{depth_of}
use Rattle.be_message.specs.Messages.{Message}
use Rattle.be_message.specs.Words.{mouse_down, mouse_up, mouse_moved, key_down}
use Rattle.be_stack.specs.declared.window.Window.{Window}
use Rattle.be_stack.specs.Windows.{Windows}
use Rattle.be_views.specs.Trees.{Tree}
use Rattle.be_machine.proofs.WorkInstructions.{by_test}
use Rattle.be_machine.proofs.WorkMessages.{is_shown_target}

-- a message with this word, to a window or a view, in which none lies
pub record Fits (what : ℕ) (post : Post) : Type 0 where
  pub same : post.message.what ≡ what
  pub shown : is_shown_target post.target ≡ true
  pub flat : depth_of post.message ≡ 1

-- ... if there is one
abbrev pub MayFit : ℕ → Option Post → Type 0
MayFit what o = (post : Post) → o ≡ Some post → Fits what post

abbrev pub AllFit : ℕ → List Post → Type 0
AllFit what posts = (i : ℕ) → MayFit what (slice_get posts i)

none_fits : (what : ℕ) → MayFit what None
none_fits what post e = cc

option_fits : (what : ℕ) (o : Option Post) → MayFit what o → AllFit what (option_to_list o)
option_fits what (Some p) h zero post e = h post e
option_fits what (Some p) h (suc i) post e = cc
option_fits what None h i post e = cc

append_fits : (what : ℕ) (xs ys : List Post) → AllFit what xs → AllFit what ys → AllFit what (xs ++ ys)
append_fits what [] ys h k i post e = k i post e
append_fits what (x ∷ xs) ys h k zero post e = h zero post e
append_fits what (x ∷ xs) ys h k (suc i) post e = append_fits what xs ys (λ j. h (suc j)) k i post e

pub option_alone : (o : Option Post) → slice_get (option_to_list o) 1 ≡ None
option_alone (Some p) = refl
option_alone None = refl

-- ---- the mouse

placed_fits : (what : ℕ) (message : Point → Message) (p corner : Point) (at : ℕ × ℕ) (o : Option Point) → ((q : Point) → ((message q).what ≡ what) × (depth_of (message q) ≡ 1)) → MayFit what (option_map (λ place. record { window = at.0; target = target.View at.1; message = message (less (less p corner) place) }) o)
placed_fits what message p corner at (Some place) same post e =
    subst (Fits what) (same_Some (record { window = at.0; target = target.View at.1; message = message (less (less p corner) place) }) post e)
    (record { same = (same (less (less p corner) place)).0; shown = refl; flat = (same (less (less p corner) place)).1 })
placed_fits what message p corner at None same post e = cc

cornered_fits : (what : ℕ) (message : Point → Message) (p : Point) (at : ℕ × ℕ) (c o : Option Point) → ((q : Point) → ((message q).what ≡ what) × (depth_of (message q) ≡ 1)) → MayFit what (option_and_then (λ corner. option_map (λ place. record { window = at.0; target = target.View at.1; message = message (less (less p corner) place) }) o) c)
cornered_fits what message p at (Some corner) o same = placed_fits what message p corner at o same
cornered_fits what message p at None o same = none_fits what

under_fits : (what : ℕ) (windows : Windows) (trees : List Tree) (message : Point → Message) (p : Point) (under : Option (ℕ × ℕ)) → ((q : Point) → ((message q).what ≡ what) × (depth_of (message q) ≡ 1)) → MayFit what (option_and_then (mouse_post windows trees message p) under)
under_fits what windows trees message p (Some at) same = cornered_fits what message p at (corner_of windows at.0) (place_in trees at) same
under_fits what windows trees message p None same = none_fits what

mouse_fits : (what : ℕ) (windows : Windows) (trees : List Tree) (message : Point → Message) (p : Point) (under : Option (ℕ × ℕ)) → ((q : Point) → ((message q).what ≡ what) × (depth_of (message q) ≡ 1)) → AllFit what (mouse_posts windows trees message p under)
mouse_fits what windows trees message p under same = option_fits what (option_and_then (mouse_post windows trees message p) under) (under_fits what windows trees message p under same)

-- ---- what comes of an event

-- one message
pub record One (what : ℕ) (first second : Option Post) : Type 0 where
  pub fits : MayFit what first
  pub alone : second ≡ None

one_of : (what : ℕ) (o : Option Post) → MayFit what o → One what (slice_get (option_to_list o) 0) (slice_get (option_to_list o) 1)
one_of what o h = record { fits = option_fits what o h zero; alone = option_alone o }

no_one : (what : ℕ) → One what None None
no_one what = record { fits = none_fits what; alone = refl }

pressed_one : (windows : Windows) (pointing : Pointing) (p : Point) (under : Option (ℕ × ℕ)) (o : Option Window) → One mouse_down (pressed windows pointing p under o).first (pressed windows pointing p under o).second
pressed_one windows pointing p (Some at) (Some window) =
    by_test (λ posts. One mouse_down (slice_get posts 0) (slice_get posts 1)) (accepts windows at.0 window) (mouse_posts windows pointing.trees (where_message mouse_down) p (Some at)) []
    (λ _. one_of mouse_down (option_and_then (mouse_post windows pointing.trees (where_message mouse_down) p) (Some at)) (under_fits mouse_down windows pointing.trees (where_message mouse_down) p (Some at) (λ q. (refl, refl))))
    (λ _. no_one mouse_down)
pressed_one windows pointing p (Some at) None = no_one mouse_down
pressed_one windows pointing p None o = no_one mouse_down

pub press_one : (windows : Windows) (pointing : Pointing) (p : Point) → One mouse_down (delivered windows pointing (event.Press p)).first (delivered windows pointing (event.Press p)).second
unfolding delivered
press_one windows pointing p = pressed_one windows pointing p (under_pointer windows pointing.trees p) (window_under windows (under_pointer windows pointing.trees p))

pub release_one : (windows : Windows) (pointing : Pointing) (p : Point) → One mouse_up (delivered windows pointing (event.Release p)).first (delivered windows pointing (event.Release p)).second
unfolding delivered
release_one windows pointing p =
    let under = under_pointer windows pointing.trees p in
    one_of mouse_up (option_and_then (mouse_post windows pointing.trees (where_message mouse_up) p) under) (under_fits mouse_up windows pointing.trees (where_message mouse_up) p under (λ q. (refl, refl)))

focus_shown : (o : Option ℕ) → is_shown_target (focus_target o) ≡ true
focus_shown (Some v) = refl
focus_shown None = refl

focus_fits : (key : ℤ) (w : ℕ) (o : Option (Option ℕ)) → MayFit key_down (option_map (λ focus. record { window = w; target = focus_target focus; message = key_message key }) o)
focus_fits key w (Some focus) post e =
    subst (Fits key_down) (same_Some (record { window = w; target = focus_target focus; message = key_message key }) post e) (record { same = refl; shown = focus_shown focus; flat = refl })
focus_fits key w None post e = cc

active_fits : (pointing : Pointing) (key : ℤ) (o : Option ℕ) → MayFit key_down (option_and_then (key_post pointing key) o)
active_fits pointing key (Some w) = focus_fits key w (slice_get pointing.focus w)
active_fits pointing key None = none_fits key_down

pub key_one : (windows : Windows) (pointing : Pointing) (key : ℤ) → One key_down (delivered windows pointing (event.Key key)).first (delivered windows pointing (event.Key key)).second
unfolding delivered
key_one windows pointing key = one_of key_down (option_and_then (key_post pointing key) windows.active) (active_fits pointing key windows.active)

-- one or two
moved_fit : (windows : Windows) (trees : List Tree) (p : Point) (old new : Option (ℕ × ℕ)) → AllFit mouse_moved (move_posts windows trees p old new)
moved_fit windows trees p old new =
    by_test (AllFit mouse_moved) (is_same old new) (mouse_posts windows trees (transit_message 1) p new) (mouse_posts windows trees (transit_message 2) p old ++ mouse_posts windows trees (transit_message 0) p new)
    (λ _. mouse_fits mouse_moved windows trees (transit_message 1) p new (λ q. (refl, refl)))
    (λ _. append_fits mouse_moved (mouse_posts windows trees (transit_message 2) p old) (mouse_posts windows trees (transit_message 0) p new)
    (mouse_fits mouse_moved windows trees (transit_message 2) p old (λ q. (refl, refl))) (mouse_fits mouse_moved windows trees (transit_message 0) p new (λ q. (refl, refl))))

pub move_first : (windows : Windows) (pointing : Pointing) (p : Point) → MayFit mouse_moved (delivered windows pointing (event.Move p)).first
unfolding delivered
move_first windows pointing p = moved_fit windows pointing.trees p pointing.under (under_pointer windows pointing.trees p) 0

pub move_second : (windows : Windows) (pointing : Pointing) (p : Point) → MayFit mouse_moved (delivered windows pointing (event.Move p)).second
unfolding delivered
move_second windows pointing p = moved_fit windows pointing.trees p pointing.under (under_pointer windows pointing.trees p) 1

-- ---- what is activated

pub release_quiet : (windows : Windows) (pointing : Pointing) (p : Point) → (delivered windows pointing (event.Release p)).activate ≡ None
unfolding delivered
release_quiet windows pointing p = refl

pub move_quiet : (windows : Windows) (pointing : Pointing) (p : Point) → (delivered windows pointing (event.Move p)).activate ≡ None
unfolding delivered
move_quiet windows pointing p = refl

pub key_quiet : (windows : Windows) (pointing : Pointing) (key : ℤ) → (delivered windows pointing (event.Key key)).activate ≡ None
unfolding delivered
key_quiet windows pointing key = refl
