-- What no change of a window breaks (this project's own).
use Rattle.std.specs.Prelude.{◌≡◌, ℕ, Ok}
use Rattle.be_geom.specs.declared.change.Change.{Change}
use Rattle.be_stack.specs.Windows.{Windows}
use Rattle.be_stack.specs.Changes.{windows_after}
use Rattle.be_stack.specs.Whole.{EachOpenOnce, ActiveIsShown}

-- where the order has each open window once and no other, it has so after any change that isn't
-- refused
abbrev pub OrderStaysWhole : Type 0
OrderStaysWhole =
    (s t : Windows) (w : ℕ) (change : Change) → EachOpenOnce s → windows_after s w change ≡ Ok t
    → EachOpenOnce t

-- where the active window is shown, it is so after any change that isn't refused
abbrev pub ActiveStaysShown : Type 0
ActiveStaysShown =
    (s t : Windows) (w : ℕ) (change : Change) → ActiveIsShown s → windows_after s w change ≡ Ok t
    → ActiveIsShown t
