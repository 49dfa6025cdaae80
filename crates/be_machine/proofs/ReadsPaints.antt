-- What a command makes of a pixel depends on its window's pixels alone.
use Rattle.std.proofs.Common.{◌≡◌, Bool, true, false, List, Option, Some, None, refl, ap, ◌∙◌}
use Rattle.std.specs.Prelude.{ℤ, ◌-ℤ◌, ◌&&◌, if◌then◌else◌}
use Rattle.be_bitmap.specs.Pictures.{Picture}
use Rattle.be_color.specs.declared.colors.Color.{Color}
use Rattle.be_command.specs.Effects.{Deed, draws, sets, colors, saves, restores, copies, invalidates}
use Rattle.be_geom.specs.declared.point.Point.{Point}
use Rattle.be_geom.specs.declared.rect.Rect.{Rect}
use Rattle.be_geom.specs.Rects.{moved_rect}
use Rattle.be_paint.specs.Copies.{way_of, rect_holds, copied_or_exposed, copied_cell, invalidated_in, invalidated_cell}
use Rattle.be_paint.specs.Inks.{Ink, source_at, laid_on_cell, painted_cell}
use Rattle.be_paint.specs.Reach.{Reach, in_window, in_drawing, is_here, is_reached}
use Rattle.be_span.specs.Cells.{Lookup, colored_as, exposed_cell}
use Rattle.be_span.specs.declared.Cell.{Cell}
use Rattle.be_twin.specs.Deeds.{ink_of, inked_cell, cell_after}
use Rattle.be_twin.specs.Executed.{Sight, executed_cell}
use Rattle.be_views.specs.Pixels.{view_at}

-- the same pixels are owned
abbrev pub SameOwned : (ℤ → ℤ → Bool) → (ℤ → ℤ → Bool) → Type 0
SameOwned own other = (a b : ℤ) → other a b ≡ own a b

-- ... and have the same cells
abbrev pub SameOld : (ℤ → ℤ → Bool) → Lookup → Lookup → Type 0
SameOld own old new = (a b : ℤ) → own a b ≡ true → new a b ≡ old a b

same_reached : (own other : ℤ → ℤ → Bool) (reach : Reach) (x y : ℤ) → SameOwned own other → is_reached other reach x y ≡ is_reached own reach x y
unfolding is_reached
same_reached own other reach x y owner = rw (owner x y) refl

same_painted : (own other : ℤ → ℤ → Bool) (reach : Reach) (ink : Ink) (old new : Lookup) (x y : ℤ) (c : Cell) → SameOwned own other → painted_cell other reach ink new x y c ≡ painted_cell own reach ink old x y c
unfolding painted_cell
same_painted own other reach ink old new x y c owner =
    ap (λ b. if b then laid_on_cell reach.stack.top.state c (source_at ink reach.stack.top.state (in_window reach x y) (in_drawing reach x y)) else c) (same_reached own other reach x y owner)

same_inked : (own other : ℤ → ℤ → Bool) (reach : Reach) (o : Option Ink) (old new : Lookup) (x y : ℤ) (c : Cell) → SameOwned own other → inked_cell other reach o new x y c ≡ inked_cell own reach o old x y c
same_inked own other reach (Some ink) old new x y c owner = same_painted own other reach ink old new x y c owner
same_inked own other reach None old new x y c owner = refl

source_by : (own other is : Bool) (old new : Option Cell) (color : Color) (c : Cell) → other ≡ own → (own ≡ true → new ≡ old) → (if other && is then colored_as new c else exposed_cell color c) ≡ (if own && is then colored_as old c else exposed_cell color c)
source_by true other is old new color c same cell = ap (λ b. if b && is then colored_as new c else exposed_cell color c) same ∙ ap (λ o. if true && is then colored_as o c else exposed_cell color c) (cell refl)
source_by false other is old new color c same cell = ap (λ b. if b && is then colored_as new c else exposed_cell color c) same

same_source : (own other : ℤ → ℤ → Bool) (reach : Reach) (color : Color) (old new : Lookup) (x y : ℤ) (c : Cell) → SameOwned own other → SameOld own old new → copied_or_exposed other reach color new x y c ≡ copied_or_exposed own reach color old x y c
same_source own other reach color old new x y c owner cells = source_by (own x y) (other x y) (is_here reach (in_window reach x y)) (old x y) (new x y) color c (owner x y) (cells x y)

same_copied : (own other : ℤ → ℤ → Bool) (reach : Reach) (source : Rect) (target : Point) (color : Color) (old new : Lookup) (x y : ℤ) (c : Cell) → SameOwned own other → SameOld own old new → copied_cell other reach source target color new x y c ≡ copied_cell own reach source target color old x y c
unfolding copied_cell
same_copied own other reach source target color old new x y c owner cells =
    let way : Point = way_of source target in
    let holds : Bool = rect_holds (moved_rect source way.x way.y) (in_drawing reach x y) in
    ap (λ b. if b && holds then copied_or_exposed other reach color new (x -ℤ way.x) (y -ℤ way.y) c else c) (same_reached own other reach x y owner)
    ∙ ap (λ k. if is_reached own reach x y && holds then k else c) (same_source own other reach color old new (x -ℤ way.x) (y -ℤ way.y) c owner cells)

same_invalidated : (own other : ℤ → ℤ → Bool) (reach : Reach) (r : Rect) (all : List Color) (old new : Lookup) (x y : ℤ) (c : Cell) → SameOwned own other → invalidated_cell other reach r all new x y c ≡ invalidated_cell own reach r all old x y c
unfolding invalidated_cell
same_invalidated own other reach r all old new x y c owner =
    ap (λ b. if b && rect_holds r (in_drawing reach x y) then invalidated_in reach all (view_at reach.tree (in_window reach x y).x (in_window reach x y).y) c else c) (owner x y)

same_deed : (pictures : List Picture) (own other : ℤ → ℤ → Bool) (reach : Reach) (color : Color) (all : List Color) (deed : Deed) (old new : Lookup) (x y : ℤ) (c : Cell) → SameOwned own other → SameOld own old new → cell_after pictures other reach color all deed new x y c ≡ cell_after pictures own reach color all deed old x y c
same_deed pictures own other reach color all (draws figure) old new x y c owner cells = same_inked own other reach (ink_of pictures reach.stack.top.state figure) old new x y c owner
same_deed pictures own other reach color all (sets setting) old new x y c owner cells = refl
same_deed pictures own other reach color all (colors next) old new x y c owner cells = refl
same_deed pictures own other reach color all saves old new x y c owner cells = refl
same_deed pictures own other reach color all restores old new x y c owner cells = refl
same_deed pictures own other reach color all (copies source target) old new x y c owner cells = same_copied own other reach source target color old new x y c owner cells
same_deed pictures own other reach color all (invalidates r) old new x y c owner cells = same_invalidated own other reach r all old new x y c owner

pub same_executed : (pictures : List Picture) (own other : ℤ → ℤ → Bool) (all : List Color) (deed : Deed) (o : Option Sight) (old new : Lookup) (x y : ℤ) (c : Cell) → SameOwned own other → SameOld own old new → executed_cell pictures other all deed o new x y c ≡ executed_cell pictures own all deed o old x y c
unfolding executed_cell
same_executed pictures own other all deed (Some sight) old new x y c owner cells = same_deed pictures own other sight.reach sight.color all deed old new x y c owner cells
same_executed pictures own other all deed None old new x y c owner cells = refl
