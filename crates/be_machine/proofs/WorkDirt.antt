-- Which windows have a dirty pixel, and what that takes at most.
use Rattle.std.proofs.Common.{◌≡◌, ℕ, suc, ◌+◌, ◌≤◌, Bool, true, false, List, [], ◌∷◌, length, refl, sym, subst, arith}
use Rattle.std.specs.Prelude.{ℤ, pos, ◌/◌, ◌%◌, ◌&&◌, not, if◌then◌else◌}
use Rattle.be_desk.specs.Changes.{Desk}
use Rattle.be_geom.specs.declared.point.Point.{Point}
use Rattle.be_geom.specs.Places.{at_pixel}
use Rattle.be_pane.specs.Panes.{Pane}
use Rattle.be_script.specs.Script.{Declared}
use Rattle.be_script.specs.Work.{update_cost, updates_cost}
use Rattle.be_span.specs.Cells.{Lookup}
use Rattle.be_span.specs.declared.Cell.{Cell}
use Rattle.be_span.specs.Screen.{each_from, each_cell, cell_at}
use Rattle.be_update.specs.Sessions.{is_any, dirty_from, dirty_pixels}
use Rattle.be_machine.proofs.WorkWeights.{weight_from-le, weight_from_bound}
use Rattle.be_machine.specs.Shares.{dirt, dirt_share, is_dirty}

-- ---- pixels

-- where a pixel that waits afterwards waited before
any_by : (b c : Bool) (p q : Point) (ps qs : List Point) → (b ≡ true → c ≡ true) → (is_any ps ≡ true → is_any qs ≡ true) → is_any (if b then p ∷ ps else ps) ≡ true → is_any (if c then q ∷ qs else qs) ≡ true
any_by b true p q ps qs h k e = refl
any_by true false p q ps qs h k e = let no : false ≡ true = h refl in cc
any_by false false p q ps qs h k e = k e

fewer_from : (width k : ℕ) (before after : ℤ → ℤ → Bool) (f : ℕ → Cell → Cell) (cells : List Cell) → ((i : ℕ) (c : Cell) → ((f i c).dirty && after (pos (i % width)) (pos (i / width))) ≡ true → (c.dirty && before (pos (i % width)) (pos (i / width))) ≡ true) → is_any (dirty_from width k after (each_from k f cells)) ≡ true → is_any (dirty_from width k before cells) ≡ true
fewer_from width k before after f [] h e = e
fewer_from width k before after f (c ∷ cs) h e =
    let next : suc k ≡ k + 1 = omega arith in
    any_by ((f k c).dirty && after (pos (k % width)) (pos (k / width))) (c.dirty && before (pos (k % width)) (pos (k / width)))
    (at_pixel (pos (k % width)) (pos (k / width))) (at_pixel (pos (k % width)) (pos (k / width)))
    (dirty_from width (suc k) after (each_from (k + 1) f cs)) (dirty_from width (suc k) before cs)
    (h k c)
    (subst (λ n. is_any (dirty_from width n after (each_from (k + 1) f cs)) ≡ true → is_any (dirty_from width n before cs) ≡ true) (sym next) (fewer_from width (k + 1) before after f cs h))
    e

-- a rule by which no pixel of a window begins to wait
abbrev pub KeepsClean : (ℤ → ℤ → Bool) → (ℤ → ℤ → Bool) → (Lookup → ℤ → ℤ → Cell → Cell) → Type 0
KeepsClean before after rule = (old : Lookup) (x y : ℤ) (c : Cell) → ((rule old x y c).dirty && after x y) ≡ true → (c.dirty && before x y) ≡ true

-- ... leaves it clean where it was
pub still_clean : (width : ℕ) (before after : ℤ → ℤ → Bool) (rule : Lookup → ℤ → ℤ → Cell → Cell) (cells : List Cell) → KeepsClean before after rule → is_any (dirty_pixels width after (each_cell width rule cells)) ≡ true → is_any (dirty_pixels width before cells) ≡ true
unfolding dirty_pixels each_cell
still_clean width before after rule cells h e =
    fewer_from width 0 before after (λ k c. rule (cell_at width cells) (pos (k % width)) (pos (k / width)) c) cells (λ i c k. h (cell_at width cells) (pos (i % width)) (pos (i / width)) c k) e

none_by : (b : Bool) (p : Point) (ps : List Point) → b ≡ false → is_any ps ≡ false → is_any (if b then p ∷ ps else ps) ≡ false
none_by b p ps h k = rw h k

pub none_from : (width k : ℕ) (owned : ℤ → ℤ → Bool) (f : ℕ → Cell → Cell) (cells : List Cell) → ((i : ℕ) (c : Cell) → ((f i c).dirty && owned (pos (i % width)) (pos (i / width))) ≡ false) → is_any (dirty_from width k owned (each_from k f cells)) ≡ false
none_from width k owned f [] h = refl
none_from width k owned f (c ∷ cs) h =
    let next : k + 1 ≡ suc k = omega arith in
    none_by ((f k c).dirty && owned (pos (k % width)) (pos (k / width))) (at_pixel (pos (k % width)) (pos (k / width))) (dirty_from width (suc k) owned (each_from (k + 1) f cs)) (h k c)
    (subst (λ n. is_any (dirty_from width n owned (each_from (k + 1) f cs)) ≡ false) next (none_from width (k + 1) owned f cs h))

-- ---- shares

pub dirt_more : (cost : ℕ) (b c : Bool) (pane : Pane) → (b ≡ true → c ≡ true) → dirt cost b pane ≤ dirt cost c pane
dirt_more cost true true pane h = omega arith
dirt_more cost true false pane h = let no : false ≡ true = h refl in cc
dirt_more cost false c pane h = omega arith

if_at_most : (cost : ℕ) (b : Bool) → (if b then cost else 0) ≤ cost
if_at_most cost true = omega arith
if_at_most cost false = omega arith

-- at most an update of each window
pub dirt_bound : (d : Declared) (desk : Desk) (screen : List Cell) (panes : List Pane) → length panes ≡ length d.windows → dirt_share d desk screen panes ≤ updates_cost d
unfolding dirt_share updates_cost
dirt_bound d desk screen panes e =
    rw (← e) (weight_from_bound (λ w pane. dirt (update_cost d w) (is_dirty desk screen w) pane) (update_cost d) 0 panes (λ w pane. if_at_most (update_cost d w) (is_dirty desk screen w && not pane.notified)))

-- where no window gets its first dirty pixel
pub dirt_fewer : (d : Declared) (before after : Desk) (old new : List Cell) (panes : List Pane) → ((w : ℕ) → is_dirty after new w ≡ true → is_dirty before old w ≡ true) → dirt_share d after new panes ≤ dirt_share d before old panes
unfolding dirt_share
dirt_fewer d before after old new panes h = weight_from-le (λ w pane. dirt (update_cost d w) (is_dirty after new w) pane) (λ w pane. dirt (update_cost d w) (is_dirty before old w) pane) 0 panes (λ w pane. dirt_more (update_cost d w) (is_dirty after new w) (is_dirty before old w) pane (h w))
