-- What deeds make of drawing states that draw alike.
use Rattle.std.specs.Prelude.{◌-ℤ◌, map, nat_lt, if◌then◌else◌}
use Rattle.std.proofs.Common.{◌≡◌, ℤ, List, [], ◌∷◌, Option, Some, None, refl, sym, ap, subst, ◌∙◌}
use Rattle.be_geom.specs.declared.point.Point.{Point}
use Rattle.be_geom.specs.declared.rect.Rect.{Rect}
use Rattle.be_geom.specs.Rects.{moved_rect}
use Rattle.be_bitmap.specs.Pictures.{Picture}
use Rattle.be_command.specs.Effects.{Setting, high_color, low_color, drawing_mode, pen_size, pen_place, origin, clipping, Deed, draws, sets, colors, saves, restores, copies, invalidates}
use Rattle.be_paint.specs.Inks.{Ink, pen_after}
use Rattle.be_pane.specs.SameStacks.{SameClip, SameLayer, SameLayers, SameStack}
use Rattle.be_pane.proofs.SameLemmas.{base_same, layers_length, clip_self}
use Rattle.be_region.specs.Regions.{SamePixels}
use Rattle.be_region.proofs.MoveLemmas.{moved_region}
use Rattle.be_state.specs.declared.State.{State}
use Rattle.be_state.specs.Stacks.{Layer, Stack, base_of, origin_point, popped, pushed, with_clip, with_state}
use Rattle.be_twin.specs.declared.Outcome.TheVariants.{Done, StackFull}
use Rattle.be_twin.specs.Deeds.{deed_outcome, drawn_outcome, ink_of, popped_or_same, popped_outcome, set_by, stack_after, with_pen}

-- ---- clips

moved_same : (xs ys : List Rect) (dx dy : ℤ) → SamePixels xs ys → SamePixels (map (λ r. moved_rect r dx dy) xs) (map (λ r. moved_rect r dx dy) ys)
moved_same xs ys dx dy same x y = moved_region xs dx dy x y ∙ same (x -ℤ dx) (y -ℤ dy) ∙ sym (moved_region ys dx dy x y)

moved_by : (xs ys : List Rect) (a b : Stack) → SameStack a b → SamePixels xs ys → SamePixels (map (λ r. moved_rect r (base_of a).x (base_of a).y) xs) (map (λ r. moved_rect r (base_of b).x (base_of b).y) ys)
moved_by xs ys a b same pixels =
    subst (λ (p : Point). SamePixels (map (λ r. moved_rect r (base_of a).x (base_of a).y) xs) (map (λ r. moved_rect r p.x p.y) ys)) (base_same a b same)
    (moved_same xs ys (base_of a).x (base_of a).y pixels)

pub clipped_same : (a b : Stack) (xs ys : Option (List Rect)) → SameStack a b → SameClip xs ys → SameStack (with_clip a xs) (with_clip b ys)
clipped_same a b (Some xs) (Some ys) same clip = record { top = record { state = same.top.state; clip = moved_by xs ys a b same clip }; saved = same.saved }
clipped_same a b (Some xs) None same clip = absurd clip
clipped_same a b None (Some ys) same clip = absurd clip
clipped_same a b None None same clip = record { top = record { state = same.top.state; clip = tt }; saved = same.saved }

-- ---- states

state_same : (a b : Stack) (s t : State) → SameStack a b → s ≡ t → SameStack (with_state a s) (with_state b t)
state_same a b s t same e = record { top = record { state = e; clip = same.top.clip }; saved = same.saved }

set_same : (setting : Setting) (a b : Stack) → SameStack a b → SameStack (set_by setting a) (set_by setting b)
set_same (high_color color) a b same = state_same a b _ _ same (ap (λ (s : State). record s { high = color }) same.top.state)
set_same (low_color color) a b same = state_same a b _ _ same (ap (λ (s : State). record s { low = color }) same.top.state)
set_same (drawing_mode mode) a b same = state_same a b _ _ same (ap (λ (s : State). record s { mode = mode }) same.top.state)
set_same (pen_size size) a b same = state_same a b _ _ same (ap (λ (s : State). record s { pen_size = size }) same.top.state)
set_same (pen_place at) a b same = state_same a b _ _ same (ap (λ (s : State). record s { pen = at }) same.top.state)
set_same (origin at) a b same = state_same a b _ _ same (ap (λ (s : State). record s { origin = at }) same.top.state)
set_same (clipping rects) a b same = clipped_same a b rects rects same (clip_self rects)

pen_same : (ink : Option Ink) (a b : Stack) → SameStack a b → SameStack (with_pen a ink) (with_pen b ink)
pen_same (Some ink) a b same = state_same a b _ _ same (ap (λ (s : State). record s { pen = pen_after ink s.pen }) same.top.state)
pen_same None a b same = same

pushed_same : (a b : Stack) → SameStack a b → SameStack (pushed a) (pushed b)
pushed_same a b same = record {
  top = record { state = ap (λ (s : State). record s { origin = origin_point }) same.top.state; clip = tt };
  saved = (same.top, same.saved);
}

popped_layers : (xs ys : List Layer) (s t : Layer) → SameLayer s t → SameLayers xs ys → SameStack (popped_or_same (record { top = s; saved = xs }) (popped (record { top = s; saved = xs }))) (popped_or_same (record { top = t; saved = ys }) (popped (record { top = t; saved = ys })))
popped_layers [] [] s t top saved = record { top = top; saved = tt }
popped_layers [] (y ∷ ys) s t top saved = absurd saved
popped_layers (x ∷ xs) [] s t top saved = absurd saved
popped_layers (x ∷ xs) (y ∷ ys) s t top saved = record { top = saved.0; saved = saved.1 }

pub after_same : (pictures : List Picture) (deed : Deed) (a b : Stack) → SameStack a b → SameStack (stack_after pictures deed a) (stack_after pictures deed b)
after_same pictures (draws figure) a b same =
    subst (λ (s : State). SameStack (with_pen a (ink_of pictures a.top.state figure)) (with_pen b (ink_of pictures s figure))) same.top.state
    (pen_same (ink_of pictures a.top.state figure) a b same)
after_same pictures (sets setting) a b same = set_same setting a b same
after_same pictures (colors color) a b same = same
after_same pictures saves a b same = pushed_same a b same
after_same pictures restores a b same = popped_layers a.saved b.saved a.top b.top same.top same.saved
after_same pictures (copies source target) a b same = same
after_same pictures (invalidates r) a b same = same

-- ---- outcomes

popped_outcomes : (xs ys : List Layer) (s t : Layer) → SameLayers xs ys → popped_outcome (popped (record { top = s; saved = xs })) ≡ popped_outcome (popped (record { top = t; saved = ys }))
popped_outcomes [] [] s t saved = refl
popped_outcomes [] (y ∷ ys) s t saved = absurd saved
popped_outcomes (x ∷ xs) [] s t saved = absurd saved
popped_outcomes (x ∷ xs) (y ∷ ys) s t saved = refl

pub outcome_same : (pictures : List Picture) (deed : Deed) (a b : Stack) → SameStack a b → deed_outcome pictures a deed ≡ deed_outcome pictures b deed
outcome_same pictures (draws figure) a b same = ap (λ (s : State). drawn_outcome (ink_of pictures s figure)) same.top.state
outcome_same pictures (sets setting) a b same = refl
outcome_same pictures (colors color) a b same = refl
outcome_same pictures saves a b same = ap (λ n. if nat_lt n 16 then Done else StackFull) (layers_length a.saved b.saved same.saved)
outcome_same pictures restores a b same = popped_outcomes a.saved b.saved a.top b.top same.saved
outcome_same pictures (copies source target) a b same = refl
outcome_same pictures (invalidates r) a b same = refl
