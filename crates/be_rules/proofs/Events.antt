-- The parts that an event names are the script's.
use Rattle.std.proofs.Common.{◌≡◌, ℕ, zero, suc, ◌<◌, Bool, true, false, List, [], ◌∷◌, ◌++◌, length, Option, Some, None, inl, inr, refl, sym, subst, ◌∙◌}
use Rattle.std.specs.Prelude.{ℤ, slice_get, option_map, option_and_then, option_to_list, if◌then◌else◌}
use Rattle.std.proofs.lemmas.Option.{same_Some}
use Rattle.be_facts.proofs.Numbers.{nat_lt_tells}
use Rattle.be_geom.specs.declared.point.Point.{Point}
use Rattle.be_geom.specs.Places.{less}
use Rattle.be_input.specs.Deliveries.{Post, Delivery, where_message, transit_message, place_in, mouse_posts, accepts, activates, pressed, window_under, is_same, move_posts, key_message, focus_target, key_post, delivered}
use Rattle.be_input.specs.declared.Event.{Event}
use Rattle.be_input.specs.declared.Event.TheVariants as event
use Rattle.be_input.specs.Pointing.{Pointing, under_pointer}
use Rattle.be_message.specs.declared.target.Target.TheVariants as target
use Rattle.be_message.specs.Messages.{Message}
use Rattle.be_message.specs.Words.{mouse_down, mouse_up}
use Rattle.be_script.specs.declared.InputLine.{InputLine}
use Rattle.be_script.specs.declared.InputLine.TheVariants as line
use Rattle.be_script.specs.Limits.{is_event}
use Rattle.be_script.specs.Script.{Declared}
use Rattle.be_stack.specs.declared.window.Window.{Window}
use Rattle.be_stack.specs.Windows.{Windows}
use Rattle.be_views.specs.Trees.{left_top}
use Rattle.be_machine.specs.Input.{delivery_of}
use Rattle.be_machine.specs.State.{State}
use Rattle.be_machine.specs.Touched.{Part, cell, port, pane}
use Rattle.be_machine.specs.Wants.{uses}
use Rattle.be_machine.proofs.HasParts.{HasParts}
use Rattle.be_machine.proofs.ProgressCases.{by_outcome}
use Rattle.be_rules.specs.Places.{IsPart}
use Rattle.be_rules.specs.Sure.{seen_in, maybe, post_parts, delivery_parts, event_parts, parts_by, IsAmong}
use Rattle.be_rules.proofs.Among.{alone, among_both, maybe_part}
use Rattle.be_rules.proofs.ListLemmas.{there_below}

-- the message goes to one of the first n windows, if there is one
abbrev Within : ℕ → Option Post → Type 0
Within n o = (post : Post) → o ≡ Some post → post.window < n

abbrev AllWithin : ℕ → List Post → Type 0
AllWithin n posts = (i : ℕ) → Within n (slice_get posts i)

none_within : (n : ℕ) → Within n None
none_within n post e = absurd (cc)

nobody_within : (n : ℕ) → AllWithin n []
nobody_within n i post e = absurd (cc)

option_within : (n : ℕ) (o : Option Post) → Within n o → AllWithin n (option_to_list o)
option_within n (Some p) h zero post e = h post e
option_within n (Some p) h (suc i) post e = absurd (cc)
option_within n None h i post e = absurd (cc)

append_within : (n : ℕ) (xs ys : List Post) → AllWithin n xs → AllWithin n ys → AllWithin n (xs ++ ys)
append_within n [] ys h k i post e = k i post e
append_within n (x ∷ xs) ys h k zero post e = h zero post e
append_within n (x ∷ xs) ys h k (suc i) post e = append_within n xs ys (λ j. h (suc j)) k i post e

module _ (windows : Windows) (pointing : Pointing) where
  abbrev many : ℕ
  many = length windows.windows

  -- ---- the mouse

  placed : (message : Point → Message) (p corner : Point) (at : ℕ × ℕ) (o : Option Point) → at.0 < many → Within many (option_map (λ place. record { window = at.0; target = target.View at.1; message = message (less (less p corner) place) }) o)
  placed message p corner at (Some place) lt post e = subst (λ (z : Post). z.window < many) (same_Some _ post e) lt
  placed message p corner at None lt post e = absurd (cc)

  cornered : (message : Point → Message) (p : Point) (at : ℕ × ℕ) (w : Option Window) (place : Option Point) → slice_get windows.windows at.0 ≡ w → Within many (option_and_then (λ corner. option_map (λ place. record { window = at.0; target = target.View at.1; message = message (less (less p corner) place) }) place) (option_map (λ window. left_top window.frame) w))
  cornered message p at (Some window) place read = placed message p (left_top window.frame) at place (there_below windows.windows at.0 window read)
  cornered message p at None place read = none_within many

  over : (message : Point → Message) (p : Point) (under : Option (ℕ × ℕ)) → AllWithin many (mouse_posts windows pointing.trees message p under)
  over message p (Some at) = option_within many _ (cornered message p at (slice_get windows.windows at.0) (place_in pointing.trees at) refl)
  over message p None = nobody_within many

  moved : (p : Point) (old new : Option (ℕ × ℕ)) → AllWithin many (move_posts windows pointing.trees p old new)
  moved p old new =
      by_outcome (AllWithin many) (is_same old new) (mouse_posts windows pointing.trees (transit_message 1) p new) (mouse_posts windows pointing.trees (transit_message 2) p old ++ mouse_posts windows pointing.trees (transit_message 0) p new)
      (λ _. over (transit_message 1) p new)
      (λ _. append_within many (mouse_posts windows pointing.trees (transit_message 2) p old) (mouse_posts windows pointing.trees (transit_message 0) p new) (over (transit_message 2) p old) (over (transit_message 0) p new))

  -- ---- the windows of a delivery

  record AreWithin (x : Delivery) : Type 0 where
    first : Within many x.first
    second : Within many x.second
    activated : (w : ℕ) → x.activate ≡ Some w → w < many

  nobody : (w : ℕ) → None ≡ Some w → w < many
  nobody w e = absurd (cc)

  active_if : (b : Bool) (at : ℕ) → at < many → (w : ℕ) → (if b then Some at else None) ≡ Some w → w < many
  active_if true at lt w e = subst (λ z. z < many) (same_Some at w e) lt
  active_if false at lt w e = absurd (cc)

  pressed_at : (p : Point) (under : Option (ℕ × ℕ)) (o : Option Window) → window_under windows under ≡ o → AreWithin (pressed windows pointing p under o)
  pressed_at p (Some at) (Some window) read =
      let posts : AllWithin many (if accepts windows at.0 window then mouse_posts windows pointing.trees (where_message mouse_down) p (Some at) else []) =
      by_outcome (AllWithin many) (accepts windows at.0 window) (mouse_posts windows pointing.trees (where_message mouse_down) p (Some at)) [] (λ _. over (where_message mouse_down) p (Some at)) (λ _. nobody_within many) in
      record { first = posts 0; second = posts 1; activated = active_if (activates windows at.0 window) at.0 (there_below windows.windows at.0 window read) }
  pressed_at p (Some at) None read = record { first = none_within many; second = none_within many; activated = nobody }
  pressed_at p None o read = record { first = none_within many; second = none_within many; activated = nobody }

  keyed : (n : ℕ) → length pointing.focus ≡ n → (key : ℤ) (w : ℕ) (o : Option (Option ℕ)) → slice_get pointing.focus w ≡ o → Within n (option_map (λ focus. record { window = w; target = focus_target focus; message = key_message key }) o)
  keyed n same key w (Some focus) read post e = subst (λ (z : Post). z.window < n) (same_Some _ post e) (subst (λ z. w < z) same (there_below pointing.focus w focus read))
  keyed n same key w None read post e = absurd (cc)

  active_keyed : (n : ℕ) → length pointing.focus ≡ n → (key : ℤ) (active : Option ℕ) → Within n (option_and_then (key_post pointing key) active)
  active_keyed n same key (Some w) = keyed n same key w (slice_get pointing.focus w) refl
  active_keyed n same key None = none_within n

  delivered_within : length pointing.focus ≡ many → (e : Event) → AreWithin (delivered windows pointing e)
  unfolding delivered
  delivered_within same (event.Press p) = let under = under_pointer windows pointing.trees p in pressed_at p under (window_under windows under) refl
  delivered_within same (event.Release p) = let posts = over (where_message mouse_up) p (under_pointer windows pointing.trees p) in record { first = posts 0; second = posts 1; activated = nobody }
  delivered_within same (event.Move p) = let posts = moved p pointing.under (under_pointer windows pointing.trees p) in record { first = posts 0; second = posts 1; activated = nobody }
  delivered_within same (event.Key key) = let posts = option_within many (option_and_then (key_post pointing key) windows.active) (active_keyed many same key windows.active) in record { first = posts 0; second = posts 1; activated = nobody }

-- ---- parts

module _ (d : Declared) (s : State) (h : HasParts d s) (p : Part) where
  post_named : (o : Option Post) → Within (length d.windows) o → IsAmong p (post_parts o) → IsPart d p
  post_named (Some post) within k = alone d p (port post.window) (within post refl) k
  post_named None within k = absurd k

  delivery_named : (e : Event) → IsAmong p (delivery_parts (Some (delivery_of s e))) → IsPart d p
  delivery_named e (inl is) = subst (IsPart d) (sym is) tt
  delivery_named e (inr k) =
      let x : Delivery = delivery_of s e in
      let are : AreWithin s.desk.windows s.desk.pointing x = delivered_within s.desk.windows s.desk.pointing (h.focus ∙ sym h.windows) e in
      let ours : (w : ℕ) → w < length s.desk.windows.windows → w < length d.windows = λ w lt. subst (λ n. w < n) h.windows lt in
      among_both d p (post_parts x.first) (post_parts x.second ++ maybe pane x.activate)
      (post_named x.first (λ post is. ours post.window (are.first post is)))
      (among_both d p (post_parts x.second) (maybe pane x.activate)
      (post_named x.second (λ post is. ours post.window (are.second post is)))
      (maybe_part d p pane x.activate (λ w is. ours w (are.activated w is))))
      k

  shown_named : (it : InputLine) → is_event d it ≡ true → IsAmong p (event_parts (seen_in s) it) → IsPart d p
  shown_named (line.Press at) is k = delivery_named (event.Press at) k
  shown_named (line.Release at) is k = delivery_named (event.Release at) k
  shown_named (line.Move at) is k = delivery_named (event.Move at) k
  shown_named (line.Key key) is k = delivery_named (event.Key key) k
  shown_named (line.After m) is k = alone d p (cell m) (nat_lt_tells m (length d.apps) is) k

  pub event_named : (it : InputLine) → is_event d it ≡ true → IsAmong p (parts_by (seen_in s) (uses it)) → IsPart d p
  event_named it is (inl own) = subst (IsPart d) (sym own) tt
  event_named it is (inr k) = shown_named it is k
