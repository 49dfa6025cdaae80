-- After every legal history an owned pixel has a cell, a view and a colour.
use Rattle.std.proofs.Common.{◌≡◌, ℕ, ◌+◌, ◌*◌, ◌<◌, true, List, length, Some, Result, Ok, Err, sym, ap, subst, ◌∙◌, arith}
use Rattle.std.specs.Prelude.{ℤ, pos, negsuc, nat_lt, int_le, int_lt, slice_get}
use Rattle.std.proofs.lemmas.Bool.Decides.{nat_tests}
use Rattle.std.proofs.lemmas.List.{length-map}
use Rattle.be_facts.proofs.Numbers.{index_below}
use Rattle.be_facts.proofs.Truths.{and_second}
use Rattle.be_color.specs.declared.colors.Color.{Color}
use Rattle.be_desk.specs.Changes.{Desk, desk_after, view_here, color_of}
use Rattle.be_geom.specs.declared.change.Change.{Change}
use Rattle.be_pane.specs.Panes.{Pane}
use Rattle.be_script.specs.Script.{Declared}
use Rattle.be_span.specs.declared.Cell.{Cell}
use Rattle.be_span.specs.Screen.{cell_at}
use Rattle.be_stack.specs.declared.fault.ChangeFault.{ChangeFault}
use Rattle.be_stack.specs.Owner.{is_on_screen, owner_at}
use Rattle.be_stack.specs.Windows.{Windows}
use Rattle.be_views.specs.Trees.{Tree}
use Rattle.be_machine.specs.declared.Entry.{Entry}
use Rattle.be_machine.specs.History.{IsLegalHistory, state_after}
use Rattle.be_machine.specs.Pixels.{pixel_at, owner_in}
use Rattle.be_machine.specs.State.{State}
use Rattle.be_machine.specs.Windows.{width_of, view_colors}
use Rattle.be_machine.proofs.FittedDesk.{FitAfter, desk_fit}
use Rattle.be_machine.proofs.FittedSteps.{AreColored, IsFitted, fitted_after}
use Rattle.be_machine.proofs.HasParts.{HasParts}
use Rattle.be_machine.proofs.Histories.{parts_after}
use Rattle.be_machine.proofs.Lists.{IsThere, there}
use Rattle.be_machine.proofs.PixelViews.{IsCovered, covered, HasView, view_there, view_colored}
use Rattle.be_machine.proofs.Sizes.{KeepsCounts, desk_sizes}

-- ---- what of the parts matters here

pub record IsSized (d : Declared) (s : State) : Type 0 where
  pub panes : length s.panes ≡ length d.windows
  pub windows : length s.desk.windows.windows ≡ length d.windows
  pub trees : length s.desk.pointing.trees ≡ length d.windows
  pub width : width_of s ≡ d.width
  pub height : s.desk.windows.height ≡ d.height
  pub screen : length s.screen ≡ d.width * d.height

pub sized : (d : Declared) (s : State) → HasParts d s → IsSized d s
sized d s h = record { panes = h.panes; windows = h.windows; trees = h.trees; width = h.width; height = h.height; screen = h.screen }

-- a state with the same of these
pub sized_again : (d : Declared) (s r : State) → r.panes ≡ s.panes → r.desk.windows ≡ s.desk.windows → r.desk.pointing.trees ≡ s.desk.pointing.trees → r.screen ≡ s.screen → IsSized d s → IsSized d r
sized_again d s r panes windows trees screen h = record {
  panes = ap (λ (l : List Pane). length l) panes ∙ h.panes;
  windows = ap (λ (k : Windows). length k.windows) windows ∙ h.windows;
  trees = ap (λ (l : List Tree). length l) trees ∙ h.trees;
  width = ap (λ (k : Windows). k.width) windows ∙ h.width;
  height = ap (λ (k : Windows). k.height) windows ∙ h.height;
  screen = ap (λ (l : List Cell). length l) screen ∙ h.screen;
}

-- ---- a cell

on_row : (n a : ℕ) → is_on_screen n (pos a) ≡ true → a < n
on_row n a e = let lt : nat_lt a n ≡ true = and_second (int_le (pos 0) (pos a)) (int_lt (pos a) (pos n)) e in grind (arith, nat_tests)

pub cell_if : (width : ℕ) (cells : List Cell) (x y : ℕ) (c : Cell) → nat_lt x width ≡ true → slice_get cells (y * width + x) ≡ Some c → cell_at width cells (pos x) (pos y) ≡ Some c
unfolding cell_at
cell_if width cells x y c inside read = rw inside read

pub cell_on : (width height : ℕ) (cells : List Cell) (x y : ℤ) → length cells ≡ width * height → is_on_screen width x ≡ true → is_on_screen height y ≡ true → (c : Cell) × (cell_at width cells x y ≡ Some c)
cell_on width height cells (pos x) (pos y) long column row =
    let a : x < width = on_row width x column in
    let b : y < height = on_row height y row in
    let lt : y * width + x < length cells = subst (λ n. y * width + x < n) (sym long) (index_below x y width height a b) in
    let c : IsThere cells (y * width + x) = there cells (y * width + x) lt in
    (c.element, cell_if width cells x y c.element (and_second (int_le (pos 0) (pos x)) (int_lt (pos x) (pos width)) column) c.read)
cell_on width height cells (pos x) (negsuc y) long column row = cc
cell_on width height cells (negsuc x) y long column row = cc

pub screen_whole : (d : Declared) (h : List Entry) → IsLegalHistory d h → (width_of (state_after d h) ≡ d.width) × ((state_after d h).desk.windows.height ≡ d.height) × (length (state_after d h).screen ≡ d.width * d.height)
screen_whole d h legal = let parts : HasParts d (state_after d h) = parts_after d h legal in (parts.width, parts.height, parts.screen)

owned_cell : (d : Declared) (s : State) (w : ℕ) (x y : ℤ) → IsSized d s → owner_in s x y ≡ Some w → (c : Cell) × (pixel_at s x y ≡ Some c)
owned_cell d s w x y parts owner =
    let is : IsCovered s.desk.windows w x y = covered s.desk.windows w x y owner in
    let long : length s.screen ≡ width_of s * s.desk.windows.height = parts.screen ∙ (λ i. sym parts.width i * sym parts.height i) in
    cell_on (width_of s) s.desk.windows.height s.screen x y long is.column is.row

pub owned_cell_after : (d : Declared) (h : List Entry) (w : ℕ) (x y : ℤ) → IsLegalHistory d h → owner_in (state_after d h) x y ≡ Some w → (c : Cell) × (pixel_at (state_after d h) x y ≡ Some c)
owned_cell_after d h w x y legal owner = owned_cell d (state_after d h) w x y (sized d (state_after d h) (parts_after d h legal)) owner

-- ---- a view, and its colour

many_trees : (d : Declared) (s : State) → IsSized d s → length s.desk.pointing.trees ≡ length s.desk.windows.windows
many_trees d s parts = parts.trees ∙ sym parts.windows

many_colors : (d : Declared) (s : State) → IsSized d s → length (view_colors s) ≡ length s.desk.pointing.trees
many_colors d s parts = length-map s.panes _ ∙ parts.panes ∙ sym parts.trees

pub owned_view : (d : Declared) (h : List Entry) (w : ℕ) (x y : ℤ) → IsLegalHistory d h → owner_in (state_after d h) x y ≡ Some w → HasView (state_after d h).desk w x y
owned_view d h w x y legal owner = view_there (state_after d h).desk w x y (many_trees d (state_after d h) (sized d (state_after d h) (parts_after d h legal))) (fitted_after d h legal).fit owner

pub owned_color : (d : Declared) (h : List Entry) (w : ℕ) (x y : ℤ) → IsLegalHistory d h → owner_in (state_after d h) x y ≡ Some w → (color : Color) × (color_of (view_colors (state_after d h)) w (view_here (state_after d h).desk w x y) ≡ Some color)
owned_color d h w x y legal owner = view_colored (state_after d h).desk (view_colors (state_after d h)) w x y (many_colors d (state_after d h) (sized d (state_after d h) (parts_after d h legal))) (fitted_after d h legal).colored (owned_view d h w x y legal owner)

-- ---- after any change

color_by : (d : Declared) (s : State) (u : ℕ) (r : Result Desk ChangeFault) (new : Desk) (x y : ℤ) → IsSized d s → IsFitted s → KeepsCounts s.desk r → FitAfter s.desk r → r ≡ Ok new → owner_at new.windows x y ≡ Some u → (color : Color) × (color_of (view_colors s) u (view_here new u x y) ≡ Some color)
color_by d s u (Ok other) new x y parts fitted sizes after e owner =
    let same : other ≡ new = cc in
    let many : length other.pointing.trees ≡ length other.windows.windows = sizes.trees ∙ many_trees d s parts ∙ sym sizes.sizes.windows in
    let colored : AreColored (view_colors s) other.pointing.trees = λ w own tree read at. (let before = after.views w tree at in fitted.colored w own before.0 read before.1.0 ∙ sym before.1.1) in
    let colors : length (view_colors s) ≡ length other.pointing.trees = ◌∙◌ {c = length other.pointing.trees} (many_colors d s parts) (sym sizes.trees) in
    let found : (color : Color) × (color_of (view_colors s) u (view_here other u x y) ≡ Some color) = view_colored other (view_colors s) u x y colors colored (view_there other u x y many after.fit (ap (λ (k : Desk). owner_at k.windows x y) same ∙ owner)) in
    (found.0, sym (ap (λ (k : Desk). color_of (view_colors s) u (view_here k u x y)) same) ∙ found.1)
color_by d s u (Err f) new x y parts fitted sizes after e owner = cc

pub change_color : (d : Declared) (s : State) (w u : ℕ) (change : Change) (new : Desk) (x y : ℤ) → IsSized d s → IsFitted s → desk_after s.desk w change ≡ Ok new → owner_at new.windows x y ≡ Some u → (color : Color) × (color_of (view_colors s) u (view_here new u x y) ≡ Some color)
change_color d s w u change new x y parts fitted e owner = color_by d s u (desk_after s.desk w change) new x y parts fitted (desk_sizes s.desk w change) (desk_fit s.desk w change fitted.fit) e owner

pub exposed_color : (d : Declared) (h : List Entry) (w u : ℕ) (change : Change) (desk : Desk) (x y : ℤ) → IsLegalHistory d h → desk_after (state_after d h).desk w change ≡ Ok desk → owner_at desk.windows x y ≡ Some u → (color : Color) × (color_of (view_colors (state_after d h)) u (view_here desk u x y) ≡ Some color)
exposed_color d h w u change desk x y legal e owner = change_color d (state_after d h) w u change desk x y (sized d (state_after d h) (parts_after d h legal)) (fitted_after d h legal) e owner
