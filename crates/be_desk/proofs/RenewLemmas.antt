-- The new cells of a window, layer by layer.
use Rattle.std.proofs.Common.{◌≡◌, ℕ, zero, suc, ◌+◌, ◌<◌, ◌≤◌, ℤ, ◌-ℤ◌, pos, Bool, true, false, ◌||◌, ◌⊎◌, inl, inr, List, [], ◌∷◌, length, take, get_or, Option, Some, None, slice_get, cond, refl, sym, ap, ◌∙◌, subst}
use Rattle.std.specs.Prelude.{IsSome, is_some, option_and_then}
use Rattle.std.specs.Option.{option_map}
use Rattle.std.specs.List.{list_any}
use Rattle.std.proofs.lemmas.Bool.{or_left, or_right, and_parts, cond-false, cond-true, true≢false}
use Rattle.std.proofs.lemmas.List.{take_all}
use Rattle.std.proofs.lemmas.List.Elements.{All-get_or}
use Rattle.std.proofs.lemmas.List.Folds.{list_any_more}
use Rattle.std.proofs.lemmas.Option.{none-some, same_Some}
use Rattle.be_facts.proofs.Numbers.{minus_zero}
use Rattle.be_facts.proofs.Truths.{true_or_false}
use Rattle.be_color.specs.declared.colors.Color.{Color}
use Rattle.be_color.specs.declared.colors.Color.TheVariants.{Solid, Clear}
use Rattle.be_region.specs.Regions.{region_has}
use Rattle.be_span.specs.declared.Cell.{Cell}
use Rattle.be_span.specs.Cells.{desktop_cell, exposed_as}
use Rattle.be_span.specs.Spans.{Spans, cell_in, laid}
use Rattle.be_span.proofs.CellLemmas.{cell_none}
use Rattle.be_pane.specs.declared.pane.Pane.{Pane}
use Rattle.be_desk.specs.Changes.{or_exposed}
use Rattle.be_desk.specs.Renewals.{AreShown, IsBackground, IsShown, brought_by, color_at, exposed_by, exposure, is_clear, is_in_some, is_kept_by, is_kept_at, brought_to, renewed_cell, owned, shows_same_spot}
use Rattle.be_desk.specs.declared.renewal.Motion.{Motion}
use Rattle.be_desk.specs.declared.renewal.Motion.TheVariants.{Still, Moving, Resizing}
use Rattle.be_desk.specs.declared.renewal.Renewal.{Renewal}

-- ---- exposing

exposed_twice : (color : Option Color) (c : Cell) → exposed_as color (exposed_as color c) ≡ exposed_as color c
exposed_twice (Some (Solid rgb)) c = refl
exposed_twice (Some Clear) c = refl
exposed_twice None c = refl

-- exposing twice is exposing once
pub renewal_twice : (r : Renewal) (x y : ℤ) (c : Cell) → exposed_by r x y (exposed_by r x y c) ≡ exposed_by r x y c
renewal_twice r x y c = exposed_twice (exposure r x y) c

-- where all rectangles are done, all pixels are
pub all_exposed : (r : Renewal) (old new : Spans) (m : ℕ) → length old.rects ≤ m → ((x y : ℤ) → cell_in new x y ≡ cond (region_has (take m old.rects) x y) (option_map (exposed_by r x y) (cell_in old x y)) (cell_in old x y)) → (x y : ℤ) → cell_in new x y ≡ option_map (exposed_by r x y) (cell_in old x y)
all_exposed r old new m all h x y =
    let then_cell : Option Cell = option_map (exposed_by r x y) (cell_in old x y) in
    h x y
    ∙ ap (λ l. cond (region_has l x y) then_cell (cell_in old x y)) (take_all m old.rects all)
    ∙ elim (true_or_false (region_has old.rects x y)) [
      | inl e ↦ cond-true (region_has old.rects x y) then_cell (cell_in old x y) e
      | inr e ↦ cond-false (region_has old.rects x y) then_cell (cell_in old x y) e ∙ cell_none old x y e ∙ sym (ap (option_map (exposed_by r x y)) (cell_none old x y e))
    ]

-- ---- colours

any_at : (colors : List Color) (v : ℕ) → slice_get colors v ≡ Some Clear → list_any is_clear colors ≡ true
any_at [] v e = absurd (none-some Clear e)
any_at (c ∷ cs) zero e = or_left (is_clear c) (list_any is_clear cs) (ap is_clear (same_Some c Clear e))
any_at (c ∷ cs) (suc v) e = or_right (is_clear c) (list_any is_clear cs) (any_at cs v e)

-- a transparent colour of a view is one of the colours
clear_at : (colors : List Color) (view : Option ℕ) → option_and_then (slice_get colors) view ≡ Some Clear → list_any is_clear colors ≡ true
clear_at colors (Some v) e = any_at colors v e
clear_at colors None e = absurd (none-some Clear e)

-- ---- what the window brings

pub some_is : (o : Option Cell) (c : Cell) → o ≡ Some c → IsSome o
some_is o c e = ap is_some e

kept_some : (m : Motion) (r : Renewal) (cells : ℤ → ℤ → Cell) (x y : ℤ) → IsShown cells r.pane.now → is_kept_by m r x y ≡ true → IsSome (brought_by m r.pane.now.spans x y)
kept_some Still r cells x y shown e = some_is (cell_in r.pane.now.spans x y) (cells x y) (shown x y e)
kept_some (Moving dx dy) r cells x y shown e = some_is (cell_in r.pane.now.spans (x -ℤ dx) (y -ℤ dy)) (cells (x -ℤ dx) (y -ℤ dy)) (shown (x -ℤ dx) (y -ℤ dy) e)
kept_some Resizing r cells x y shown e =
    let parts = and_parts (owned r x y) (shows_same_spot r x y) e in
    some_is (cell_in r.pane.now.spans x y) (cells x y) (shown x y parts.0)

resized_by : (r : Renewal) (cells : ℤ → ℤ → Cell) (x y : ℤ) → IsShown cells r.pane.now → (owned r x y ≡ true) ⊎ (owned r x y ≡ false) → (cell_in r.pane.now.spans x y ≡ None) ⊎ (cell_in r.pane.now.spans x y ≡ Some (cells x y))
resized_by r cells x y shown (inl e) = inr (shown x y e)
resized_by r cells x y shown (inr e) = inl (cell_none r.pane.now.spans x y e)

-- what it brings where nothing is kept is nothing, or what the screen shows there
other_brought : (m : Motion) (r : Renewal) (cells : ℤ → ℤ → Cell) (x y : ℤ) → IsShown cells r.pane.now → is_kept_by m r x y ≡ false → (brought_by m r.pane.now.spans x y ≡ None) ⊎ (brought_by m r.pane.now.spans x y ≡ Some (cells x y))
other_brought Still r cells x y shown e = inl (cell_none r.pane.now.spans x y e)
other_brought (Moving dx dy) r cells x y shown e = inl (cell_none r.pane.now.spans (x -ℤ dx) (y -ℤ dy) e)
other_brought Resizing r cells x y shown e = resized_by r cells x y shown (true_or_false (owned r x y))

-- ---- the layers of a pixel

layers : (kept : Bool) (brought : Option Cell) (color : Option Color) (c : Cell) (under : Option Cell) → (kept ≡ true → IsSome brought) → (kept ≡ false → (brought ≡ None) ⊎ (brought ≡ Some c)) → IsSome color → IsSome under → (color ≡ Some Clear → under ≡ Some c) → option_map (exposed_as (cond kept None color)) (laid brought under) ≡ Some (or_exposed (cond kept brought None) (exposed_as color c))
layers true (Some b) color c (Some u) has other known some clear = refl
layers true None color c under has other known some clear = absurd (true≢false (sym (has refl)))
layers true (Some b) color c None has other known some clear = absurd (true≢false (sym some))
layers false brought None c under has other known some clear = absurd (true≢false (sym known))
layers false brought (Some color) c None has other known some clear = absurd (true≢false (sym some))
layers false None (Some (Solid rgb)) c (Some u) has other known some clear = refl
layers false (Some b) (Some (Solid rgb)) c (Some u) has other known some clear = refl
layers false None (Some Clear) c (Some u) has other known some clear = ap (option_map (exposed_as (Some Clear))) (clear refl)
layers false (Some b) (Some Clear) c (Some u) has other known some clear = ap (option_map (exposed_as (Some Clear))) (of_two (other refl))
  where
    of_two : (Some b ≡ None) ⊎ (Some b ≡ Some c) → Some b ≡ Some c
    of_two (inl e) = cc
    of_two (inr e) = e

-- the window's pixels over the background, exposed where they aren't kept
pub renewed_is : (r : Renewal) (cells : ℤ → ℤ → Cell) (x y : ℤ) (under new : Option Cell) → IsShown cells r.pane.now → IsSome (color_at r x y) → IsBackground r.pane.now.colors.items (cells x y) under → new ≡ option_map (exposed_by r x y) (laid (brought_to r x y) under) → new ≡ Some (renewed_cell r x y (cells x y))
renewed_is r cells x y under new shown known h e =
    e ∙ layers (is_kept_at r x y) (brought_to r x y) (color_at r x y) (cells x y) under (kept_some r.motion r cells x y shown) (other_brought r.motion r cells x y shown) known h.some (λ clear. h.clear (clear_at r.pane.now.colors.items _ clear))

-- ---- panes

pane_step : (p q : Bool) (c : Cell) (old now new brought : Option Cell) → IsSome old → now ≡ cond p (Some c) old → (q ≡ true → brought ≡ Some c) → (q ≡ false → brought ≡ None) → new ≡ laid brought now → new ≡ cond (p || q) (Some c) old
pane_step true true c old now new brought some e shown gone g = g ∙ ap (λ b. laid b now) (shown refl) ∙ ap (laid (Some c)) e
pane_step true false c old now new brought some e shown gone g = g ∙ ap (λ b. laid b now) (gone refl) ∙ e
pane_step false true c (Some d) now new brought some e shown gone g = g ∙ ap (λ b. laid b now) (shown refl) ∙ ap (laid (Some c)) e
pane_step false true c None now new brought some e shown gone g = absurd (true≢false (sym some))
pane_step false false c old now new brought some e shown gone g = g ∙ ap (λ b. laid b now) (gone refl) ∙ e

-- one pane more, laid where it is
pub pane_more : (cells : ℤ → ℤ → Cell) (panes : List Pane) (i : ℕ) (pane : Pane) (x y : ℤ) (old now new : Option Cell) → i < length panes → pane ≡ get_or panes i pane → AreShown cells panes → IsSome old → now ≡ cond (is_in_some (take i panes) x y) (Some (cells x y)) old → new ≡ laid (cell_in pane.spans (x -ℤ pos 0) (y -ℤ pos 0)) now → new ≡ cond (is_in_some (take (i + 1) panes) x y) (Some (cells x y)) old
pane_more cells panes i pane x y old now new less is shown some e g =
    let has : Pane → Bool = λ p. region_has p.spans.rects x y in
    let here : IsShown cells pane = subst (IsShown cells) (sym is) (All-get_or (IsShown cells) panes i pane less shown) in
    pane_step (is_in_some (take i panes) x y) (has pane) (cells x y) old now new (cell_in pane.spans x y) some e (here x y) (cell_none pane.spans x y)
    (g ∙ ap (λ z. laid (cell_in pane.spans z (y -ℤ pos 0)) now) (minus_zero x) ∙ ap (λ w. laid (cell_in pane.spans x w) now) (minus_zero y))
    ∙ ap (λ b. cond b (Some (cells x y)) old) (sym (list_any_more has panes i pane less ∙ ap (λ p. is_in_some (take i panes) x y || has p) (sym is)))

-- ---- the background

desktop_under : (b : Bool) (c : Cell) (new : Option Cell) → (b ≡ false → c ≡ desktop_cell) → new ≡ cond b (Some c) (Some desktop_cell) → new ≡ Some c
desktop_under true c new h e = e
desktop_under false c new h e = e ∙ ap Some (sym (h refl))

-- what the screen shows
pub all_shown : (panes : List Pane) (x y : ℤ) (c : Cell) (old new : Option Cell) (colors : List Color) → old ≡ Some desktop_cell → (is_in_some panes x y ≡ false → c ≡ desktop_cell) → new ≡ cond (is_in_some panes x y) (Some c) old → IsBackground colors c new
all_shown panes x y c old new colors bare desktop e =
    let is : new ≡ Some c = desktop_under (is_in_some panes x y) c new desktop (e ∙ ap (cond (is_in_some panes x y) (Some c)) bare) in
    record { some = some_is new c is; clear = λ _. is }

-- the desktop, where no colour is transparent
pub all_bare : (c : Cell) (new : Option Cell) (colors : List Color) → new ≡ Some desktop_cell → list_any is_clear colors ≡ false → IsBackground colors c new
all_bare c new colors bare none = record { some = some_is new desktop_cell bare; clear = λ some_clear. absurd (true≢false (sym some_clear ∙ none)) }
