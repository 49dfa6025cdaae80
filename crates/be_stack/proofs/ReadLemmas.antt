-- Lemmas on windows that were read by their numbers.
use Rattle.std.specs.Prelude.{slice_get}
use Rattle.std.proofs.Common.{◌≡◌, ℕ, ℤ, Bool, false, ◌<◌, List, length, get_or, Some, refl, sym, ap, ◌∙◌}
use Rattle.std.proofs.lemmas.Option.{slice_get_read}
use Rattle.be_geom.specs.declared.change.Change.{Change}
use Rattle.be_stack.specs.declared.window.Window.{Window}
use Rattle.be_stack.specs.Changes.{is_gone, changed, windows_after}
use Rattle.be_stack.specs.Owner.{covers, covers_pixel}
use Rattle.be_stack.specs.Windows.{Windows, passes}

pub window_read : (windows : List Window) (window : Window) (i w : ℕ) → i ≡ w → w < length windows → window ≡ get_or windows i window → slice_get windows w ≡ Some window
window_read windows window i w same within read = slice_get_read windows _ w window refl within (rw (← same) read)

-- a window that was read covers what it covers by its number
pub covers_read : (windows : List Window) (window : Window) (i w : ℕ) (x y : ℤ) (found : Bool) → i ≡ w → slice_get windows i ≡ Some window → found ≡ covers_pixel x y window → found ≡ covers windows x y w
covers_read windows window i w x y found same read e = e ∙ ap (passes (covers_pixel x y)) (sym read ∙ ap (slice_get windows) same)

-- a window that was read is changed where the change isn't gone
pub change_read : (s : Windows) (w : ℕ) (window : Window) (change : Change) → is_gone s.windows w change ≡ false → slice_get s.windows w ≡ Some window → windows_after s w change ≡ changed s w window change
unfolding windows_after
change_read s w window change gone there = rw (gone, there)
