-- What two states have in common stays so after the same change of both.
use Rattle.std.proofs.Common.{◌≡◌, ℕ, Bool, true, false, List, Option, Some, None, ◌⊎◌, inl, inr, refl, sym, ap, subst, ◌∙◌}
use Rattle.std.specs.Prelude.{ℤ, ◌+◌, ◌==◌, slice_get, option_map, if◌then◌else◌}
use Rattle.std.specs.Option.{option_map_or}
use Rattle.be_facts.proofs.Numbers.{eq_tells, eq_false_tells}
use Rattle.be_input.specs.Deliveries.{Delivery}
use Rattle.be_link.specs.Queues.{Buffer, Numbered}
use Rattle.be_message.specs.Messages.{Message}
use Rattle.be_pane.specs.Panes.{Pane}
use Rattle.be_port.specs.Ports.{Port}
use Rattle.be_span.specs.Cells.{Lookup}
use Rattle.be_span.specs.declared.Cell.{Cell}
use Rattle.be_span.specs.Screen.{each_cell}
use Rattle.be_span.proofs.EachLemmas.{cell_by}
use Rattle.be_paint.proofs.PaintLemmas.{same_mapped}
use Rattle.be_machine.specs.Closing.{stopped}
use Rattle.be_machine.specs.Input.{used, with_under}
use Rattle.be_machine.specs.Lists.{at}
use Rattle.be_machine.specs.Pixels.{owner_in, pixel_at}
use Rattle.be_machine.specs.State.{State, App, Looper}
use Rattle.be_machine.specs.Touched.{Part, desk, input, cell, looper, port, link, pane, SamePixels, SamePart}
use Rattle.be_machine.specs.Windows.{width_of}
use Rattle.be_machine.proofs.Lists.{at_here, at_elsewhere, at_past}

-- each part that is the same in the first two states is the same in the other two
abbrev pub Keeps : State → State → State → State → Type 0
Keeps s r t u = (p : Part) → SamePart s r p → SamePart t u p

pub both_keep : (s r t u v w : State) → Keeps s r t u → Keeps t u v w → Keeps s r v w
both_keep s r t u v w h k p same = k p (h p same)

pub none_keeps : (s r : State) → Keeps s r s r
none_keeps s r p same = same

pub tested_keeps : (s r : State) (b : Bool) (t u v w : State) → Keeps s r t u → Keeps s r v w → Keeps s r (if b then t else v) (if b then u else w)
tested_keeps s r true t u v w h k = h
tested_keeps s r false t u v w h k = k

pub found_keeps : {X : Type 0} (s r : State) (f g : X → State) (o : Option X) → ((x : X) → o ≡ Some x → Keeps s r (f x) (g x)) → Keeps s r (option_map_or f o s) (option_map_or g o r)
found_keeps s r f g (Some x) each = each x refl
found_keeps s r f g None each = none_keeps s r

-- ---- one list changes at one place

pub at_is : {X : Type 0} (xs : List X) (i : ℕ) (f : X → X) (o : Option X) → slice_get xs i ≡ o → slice_get (at xs i f) i ≡ option_map f o
at_is xs i f (Some x) e = at_here xs i f x e
at_is xs i f None e = ap (λ ys. slice_get ys i) (at_past xs i f e) ∙ e

same_at_by : {X : Type 0} (xs ys : List X) (i j : ℕ) (f : X → X) (b : Bool) → (j == i) ≡ b → slice_get ys j ≡ slice_get xs j → slice_get (at ys i f) j ≡ slice_get (at xs i f) j
same_at_by xs ys i j f true e same =
    subst (λ k. slice_get (at ys k f) j ≡ slice_get (at xs k f) j) (eq_tells j i e)
    (at_is ys j f (slice_get ys j) refl ∙ ap (option_map f) same ∙ sym (at_is xs j f (slice_get xs j) refl))
same_at_by xs ys i j f false e same =
    let other : i ≡ j → ⊥ = λ k. eq_false_tells j i e (sym k) in
    at_elsewhere ys i j f other ∙ same ∙ sym (at_elsewhere xs i j f other)

pub same_at : {X : Type 0} (xs ys : List X) (i j : ℕ) (f : X → X) → slice_get ys j ≡ slice_get xs j → slice_get (at ys i f) j ≡ slice_get (at xs i f) j
same_at xs ys i j f same = same_at_by xs ys i j f (j == i) refl same

pub ports_keep : (s r : State) (v : ℕ) (f : Port Message → Port Message) → Keeps s r (record s { ports = at s.ports v f }) (record r { ports = at r.ports v f })
ports_keep s r v f desk same = same
ports_keep s r v f input same = same
ports_keep s r v f (cell m) same = same
ports_keep s r v f (looper w) same = same
ports_keep s r v f (port w) same = same_at s.ports r.ports v w f same
ports_keep s r v f (link w) same = same
ports_keep s r v f (pane w) same = same

pub loopers_keep : (s r : State) (v : ℕ) (f : Looper → Looper) → Keeps s r (record s { loopers = at s.loopers v f }) (record r { loopers = at r.loopers v f })
loopers_keep s r v f desk same = same
loopers_keep s r v f input same = same
loopers_keep s r v f (cell m) same = same
loopers_keep s r v f (looper w) same = (same_at s.loopers r.loopers v w f same.0, same.1)
loopers_keep s r v f (port w) same = same
loopers_keep s r v f (link w) same = same
loopers_keep s r v f (pane w) same = same

pub buffers_keep : (s r : State) (v : ℕ) (f : Buffer → Buffer) → Keeps s r (record s { buffers = at s.buffers v f }) (record r { buffers = at r.buffers v f })
buffers_keep s r v f desk same = same
buffers_keep s r v f input same = same
buffers_keep s r v f (cell m) same = same
buffers_keep s r v f (looper w) same = (same.0, same_at s.buffers r.buffers v w f same.1)
buffers_keep s r v f (port w) same = same
buffers_keep s r v f (link w) same = same
buffers_keep s r v f (pane w) same = same

pub links_keep : (s r : State) (v : ℕ) (f : List Numbered → List Numbered) → Keeps s r (record s { links = at s.links v f }) (record r { links = at r.links v f })
links_keep s r v f desk same = same
links_keep s r v f input same = same
links_keep s r v f (cell m) same = same
links_keep s r v f (looper w) same = same
links_keep s r v f (port w) same = same
links_keep s r v f (link w) same = same_at s.links r.links v w f same
links_keep s r v f (pane w) same = same

pub panes_keep : (s r : State) (v : ℕ) (f : Pane → Pane) → Keeps s r (record s { panes = at s.panes v f }) (record r { panes = at r.panes v f })
panes_keep s r v f desk same = same
panes_keep s r v f input same = same
panes_keep s r v f (cell m) same = same
panes_keep s r v f (looper w) same = same
panes_keep s r v f (port w) same = same
panes_keep s r v f (link w) same = same
panes_keep s r v f (pane w) (panes, pixels, corner, tree) = (same_at s.panes r.panes v w f panes, pixels, corner, tree)

pub apps_keep : (s r : State) (v : ℕ) (f : App → App) → Keeps s r (record s { apps = at s.apps v f }) (record r { apps = at r.apps v f })
apps_keep s r v f desk same = same
apps_keep s r v f input same = same
apps_keep s r v f (cell m) same = same_at s.apps r.apps v m f same
apps_keep s r v f (looper w) same = same
apps_keep s r v f (port w) same = same
apps_keep s r v f (link w) same = same
apps_keep s r v f (pane w) same = same

-- ---- input and the end

pub used_keeps : (s r : State) → Keeps s r (used s) (used r)
used_keeps s r desk same = same
used_keeps s r input same = (ap (λ n. n + 1) same.0, same.1)
used_keeps s r (cell m) same = same
used_keeps s r (looper w) same = same
used_keeps s r (port w) same = same
used_keeps s r (link w) same = same
used_keeps s r (pane w) same = same

pub stopped_keeps : (s r : State) → Keeps s r (stopped s) (stopped r)
stopped_keeps s r desk same = same
stopped_keeps s r input same = (same.0, refl)
stopped_keeps s r (cell m) same = same
stopped_keeps s r (looper w) same = same
stopped_keeps s r (port w) same = same
stopped_keeps s r (link w) same = same
stopped_keeps s r (pane w) same = same

pub under_keeps : (s r : State) (x : Delivery) → Keeps s r (record s { desk = with_under x s.desk }) (record r { desk = with_under x r.desk })
under_keeps s r x desk same = ap (with_under x) same
under_keeps s r x input same = same
under_keeps s r x (cell m) same = same
under_keeps s r x (looper w) same = same
under_keeps s r x (port w) same = same
under_keeps s r x (link w) same = same
under_keeps s r x (pane w) same = same

-- ---- the screen

was_owned : (s r : State) (u : ℕ) (x y : ℤ) → SamePixels s r u → (owner_in s x y ≡ Some u) ⊎ (owner_in r x y ≡ Some u) → owner_in s x y ≡ Some u
was_owned s r u x y h (inl was) = was
was_owned s r u x y h (inr now) = sym (h x y (inr now)).0 ∙ now

-- two rules that make the same of each pixel that the window owns
pub pixels_keep : (s r : State) (rule other : Lookup → ℤ → ℤ → Cell → Cell) (u : ℕ) → ((x y : ℤ) (c : Cell) → owner_in s x y ≡ Some u → other (pixel_at r) x y c ≡ rule (pixel_at s) x y c) → SamePixels s r u → SamePixels (record s { screen = each_cell (width_of s) rule s.screen }) (record r { screen = each_cell (width_of r) other r.screen }) u
pixels_keep s r rule other u agree h x y o =
    let was : owner_in s x y ≡ Some u = was_owned s r u x y h o in
    let same : (owner_in r x y ≡ owner_in s x y) × (pixel_at r x y ≡ pixel_at s x y) = h x y (inl was) in
    (same.0, cell_by (width_of r) other r.screen x y ∙ same_mapped (other (pixel_at r) x y) (rule (pixel_at s) x y) (pixel_at r x y) (λ c. agree x y c was) ∙ ap (option_map (rule (pixel_at s) x y)) same.1 ∙ sym (cell_by (width_of s) rule s.screen x y))

pub screen_keeps : (s r : State) (rule other : Lookup → ℤ → ℤ → Cell → Cell) → ((u : ℕ) → SamePart s r (pane u) → (x y : ℤ) (c : Cell) → owner_in s x y ≡ Some u → other (pixel_at r) x y c ≡ rule (pixel_at s) x y c) → Keeps s r (record s { screen = each_cell (width_of s) rule s.screen }) (record r { screen = each_cell (width_of r) other r.screen })
screen_keeps s r rule other agree desk same = same
screen_keeps s r rule other agree input same = same
screen_keeps s r rule other agree (cell m) same = same
screen_keeps s r rule other agree (looper w) same = same
screen_keeps s r rule other agree (port w) same = same
screen_keeps s r rule other agree (link w) same = same
screen_keeps s r rule other agree (pane u) (panes, pixels, corner, tree) = (panes, pixels_keep s r rule other u (agree u (panes, pixels, corner, tree)) pixels, corner, tree)
