-- Rules of pixels on the screen, and what they leave as it was.
use Rattle.std.proofs.Common.{◌≡◌, ℕ, Bool, true, false, List, [], Option, Some, None, refl, ap, ◌∙◌}
use Rattle.std.specs.Prelude.{ℤ, ◌==◌, option_map, if◌then◌else◌}
use Rattle.std.proofs.lemmas.Bool.{and_left}
use Rattle.be_facts.proofs.Numbers.{eq_tells, eq_self}
use Rattle.be_geom.specs.Numbers.{is_number}
use Rattle.be_bitmap.specs.Pictures.{Picture}
use Rattle.be_color.specs.declared.colors.Color.{Color}
use Rattle.be_command.specs.Effects.{Deed, draws, sets, colors, saves, restores, copies, invalidates}
use Rattle.be_command.specs.Limits.{is_drawing_deed}
use Rattle.be_desk.specs.Changes.{Desk, Motion, still, owns, own_cell, motion_of, changed_cell}
use Rattle.be_geom.specs.declared.change.Change.{Change}
use Rattle.be_geom.specs.declared.point.Point.{Point}
use Rattle.be_geom.specs.declared.rect.Rect.{Rect}
use Rattle.be_paint.specs.Copies.{copied_cell, invalidated_cell}
use Rattle.be_paint.specs.Inks.{Ink, laid_on_cell, painted_cell}
use Rattle.be_paint.specs.Reach.{Reach, is_reached}
use Rattle.be_span.specs.Cells.{Lookup}
use Rattle.be_span.specs.Screen.{cell_at, each_cell}
use Rattle.be_span.specs.declared.Cell.{Cell}
use Rattle.be_span.proofs.EachLemmas.{cell_by}
use Rattle.be_stack.specs.Owner.{owner_at}
use Rattle.be_twin.specs.Deeds.{ink_of, inked_cell, cell_after}
use Rattle.be_twin.specs.Executed.{Sight, executed_cell}
use Rattle.be_update.specs.Sessions.{cleaned_cell}

-- ---- the screen

same_cell : (f : Cell → Cell) (o : Option Cell) → ((c : Cell) → o ≡ Some c → f c ≡ c) → option_map f o ≡ o
same_cell f (Some c) h = ap Some (h c refl)
same_cell f None h = refl

-- a pixel that a rule leaves
pub stays_by : (width : ℕ) (rule : Lookup → ℤ → ℤ → Cell → Cell) (cells : List Cell) (x y : ℤ) → ((old : Lookup) (c : Cell) → rule old x y c ≡ c) → cell_at width (each_cell width rule cells) x y ≡ cell_at width cells x y
stays_by width rule cells x y h = cell_by width rule cells x y ∙ same_cell (rule (cell_at width cells) x y) (cell_at width cells x y) (λ c e. h (cell_at width cells) c)

-- ---- drawing

else_case : {X : Type 0} (b : Bool) (x y : X) → b ≡ false → (if b then x else y) ≡ y
else_case true x y h = cc
else_case false x y h = refl

unreached : (owned : ℤ → ℤ → Bool) (reach : Reach) (x y : ℤ) → owned x y ≡ false → is_reached owned reach x y ≡ false
unfolding is_reached
unreached owned reach x y h = rw h refl

painted_stays : (owned : ℤ → ℤ → Bool) (reach : Reach) (ink : Ink) (old : Lookup) (x y : ℤ) (c : Cell) → owned x y ≡ false → painted_cell owned reach ink old x y c ≡ c
unfolding painted_cell
painted_stays owned reach ink old x y c h = else_case (is_reached owned reach x y) _ c (unreached owned reach x y h)

copied_stays : (owned : ℤ → ℤ → Bool) (reach : Reach) (source : Rect) (target : Point) (color : Color) (old : Lookup) (x y : ℤ) (c : Cell) → owned x y ≡ false → copied_cell owned reach source target color old x y c ≡ c
unfolding copied_cell
copied_stays owned reach source target color old x y c h = else_case _ _ c (and_left (is_reached owned reach x y) _ (unreached owned reach x y h))

invalidated_stays : (owned : ℤ → ℤ → Bool) (reach : Reach) (r : Rect) (all : List Color) (old : Lookup) (x y : ℤ) (c : Cell) → owned x y ≡ false → invalidated_cell owned reach r all old x y c ≡ c
unfolding invalidated_cell
invalidated_stays owned reach r all old x y c h = else_case _ _ c (and_left (owned x y) _ h)

inked_stays : (owned : ℤ → ℤ → Bool) (reach : Reach) (o : Option Ink) (old : Lookup) (x y : ℤ) (c : Cell) → owned x y ≡ false → inked_cell owned reach o old x y c ≡ c
inked_stays owned reach (Some ink) old x y c h = painted_stays owned reach ink old x y c h
inked_stays owned reach None old x y c h = refl

deed_stays : (pictures : List Picture) (owned : ℤ → ℤ → Bool) (reach : Reach) (color : Color) (all : List Color) (deed : Deed) (old : Lookup) (x y : ℤ) (c : Cell) → owned x y ≡ false → cell_after pictures owned reach color all deed old x y c ≡ c
deed_stays pictures owned reach color all (draws figure) old x y c h = inked_stays owned reach (ink_of pictures reach.stack.top.state figure) old x y c h
deed_stays pictures owned reach color all (sets setting) old x y c h = refl
deed_stays pictures owned reach color all (colors other) old x y c h = refl
deed_stays pictures owned reach color all saves old x y c h = refl
deed_stays pictures owned reach color all restores old x y c h = refl
deed_stays pictures owned reach color all (copies source target) old x y c h = copied_stays owned reach source target color old x y c h
deed_stays pictures owned reach color all (invalidates r) old x y c h = invalidated_stays owned reach r all old x y c h

-- what a command does at a view leaves each pixel that its window doesn't own
pub executed_stays : (pictures : List Picture) (owned : ℤ → ℤ → Bool) (all : List Color) (deed : Deed) (o : Option Sight) (old : Lookup) (x y : ℤ) (c : Cell) → owned x y ≡ false → executed_cell pictures owned all deed o old x y c ≡ c
unfolding executed_cell
executed_stays pictures owned all deed (Some sight) old x y c h = deed_stays pictures owned sight.reach sight.color all deed old x y c h
executed_stays pictures owned all deed None old x y c h = refl

-- ---- marks

marks_if : (b : Bool) (x y : Cell) (m : Bool) → x.dirty ≡ m → y.dirty ≡ m → (if b then x else y).dirty ≡ m
marks_if true x y m h k = h
marks_if false x y m h k = k

laid_mark : (reach : Reach) (c : Cell) (o : Option Color) → (laid_on_cell reach.stack.top.state c o).dirty ≡ c.dirty
laid_mark reach c (Some color) = refl
laid_mark reach c None = refl

painted_mark : (owned : ℤ → ℤ → Bool) (reach : Reach) (ink : Ink) (old : Lookup) (x y : ℤ) (c : Cell) → (painted_cell owned reach ink old x y c).dirty ≡ c.dirty
unfolding painted_cell
painted_mark owned reach ink old x y c = marks_if (is_reached owned reach x y) _ c c.dirty (laid_mark reach c _) refl

inked_mark : (owned : ℤ → ℤ → Bool) (reach : Reach) (o : Option Ink) (old : Lookup) (x y : ℤ) (c : Cell) → (inked_cell owned reach o old x y c).dirty ≡ c.dirty
inked_mark owned reach (Some ink) old x y c = painted_mark owned reach ink old x y c
inked_mark owned reach None old x y c = refl

deed_mark : (pictures : List Picture) (owned : ℤ → ℤ → Bool) (reach : Reach) (color : Color) (all : List Color) (deed : Deed) (old : Lookup) (x y : ℤ) (c : Cell) → is_drawing_deed deed ≡ true → (cell_after pictures owned reach color all deed old x y c).dirty ≡ c.dirty
deed_mark pictures owned reach color all (draws figure) old x y c h = inked_mark owned reach (ink_of pictures reach.stack.top.state figure) old x y c
deed_mark pictures owned reach color all (sets setting) old x y c h = refl
deed_mark pictures owned reach color all (colors other) old x y c h = refl
deed_mark pictures owned reach color all saves old x y c h = refl
deed_mark pictures owned reach color all restores old x y c h = refl
deed_mark pictures owned reach color all (copies source target) old x y c h = cc
deed_mark pictures owned reach color all (invalidates r) old x y c h = cc

-- what draws leaves each mark
pub executed_mark : (pictures : List Picture) (owned : ℤ → ℤ → Bool) (all : List Color) (deed : Deed) (o : Option Sight) (old : Lookup) (x y : ℤ) (c : Cell) → is_drawing_deed deed ≡ true → (executed_cell pictures owned all deed o old x y c).dirty ≡ c.dirty
unfolding executed_cell
executed_mark pictures owned all deed (Some sight) old x y c h = deed_mark pictures owned sight.reach sight.color all deed old x y c h
executed_mark pictures owned all deed None old x y c h = refl

-- ---- updates

pub cleaned_stays : (owned : ℤ → ℤ → Bool) (old : Lookup) (x y : ℤ) (c : Cell) → owned x y ≡ false → cleaned_cell owned old x y c ≡ c
cleaned_stays owned old x y c h = else_case (owned x y) _ c h

-- ---- changes

then_case : {X : Type 0} (b : Bool) (x y : X) → b ≡ true → (if b then x else y) ≡ x
then_case true x y h = refl
then_case false x y h = cc

-- what a change leaves at a pixel that its owner keeps, unless the change is the owner's own
pub kept_still : (before after : Desk) (all : List (List Color)) (u : ℕ) (old : Lookup) (x y : ℤ) (c : Cell) → owner_at before.windows x y ≡ Some u → own_cell before after all u still old x y c ≡ c
kept_still before after all u old x y c h =
    let owned : owns before u x y ≡ true = ap (is_number u) h ∙ eq_self u in
    then_case (owns before u x y) c _ owned

other_window : (before after : Desk) (all : List (List Color)) (w u : ℕ) (motion : Motion) (old : Lookup) (x y : ℤ) (c : Cell) (b : Bool) → (u == w) ≡ b → (u ≡ w → ⊥) → owner_at before.windows x y ≡ Some u → (if u == w then own_cell before after all w motion old x y c else own_cell before after all u still old x y c) ≡ c
other_window before after all w u motion old x y c true e other h = absurd (other (eq_tells u w e))
other_window before after all w u motion old x y c false e other h = rw e (kept_still before after all u old x y c h)

-- a pixel that another window keeps
pub changed_stays : (before after : Desk) (all : List (List Color)) (w u : ℕ) (change : Change) (old : Lookup) (x y : ℤ) (c : Cell) → (u ≡ w → ⊥) → owner_at before.windows x y ≡ Some u → owner_at after.windows x y ≡ Some u → changed_cell before after all w change old x y c ≡ c
unfolding changed_cell
changed_stays before after all w u change old x y c other was is = rw is (other_window before after all w u (motion_of change) old x y c (u == w) refl other was)

own_still : (before after : Desk) (all : List (List Color)) (w u : ℕ) (old : Lookup) (x y : ℤ) (c : Cell) (b : Bool) → (u == w) ≡ b → owner_at before.windows x y ≡ Some u → (if u == w then own_cell before after all w still old x y c else own_cell before after all u still old x y c) ≡ c
own_still before after all w u old x y c true e h = rw e (kept_still before after all w old x y c (h ∙ ap Some (eq_tells u w e)))
own_still before after all w u old x y c false e h = rw e (kept_still before after all u old x y c h)

-- a change that neither moves nor resizes leaves each pixel that its owner keeps
pub still_stays : (before after : Desk) (all : List (List Color)) (w u : ℕ) (change : Change) (old : Lookup) (x y : ℤ) (c : Cell) → motion_of change ≡ still → owner_at before.windows x y ≡ Some u → owner_at after.windows x y ≡ Some u → changed_cell before after all w change old x y c ≡ c
unfolding changed_cell
still_stays before after all w u change old x y c is_still was is = rw (is, is_still) (own_still before after all w u old x y c (u == w) refl was)
