-- Which sizes a bitmap off the screen may have (this project's own).
use Rattle.std.specs.Prelude.{◌≡◌, ℕ, ◌==◌, ◌||◌, nat_lt, if◌then◌else◌, Option, Some, None}
use Rattle.be_picture.specs.declared.off_fault.OffFault.{OffFault}
use Rattle.be_picture.specs.declared.off_fault.OffFault.TheVariants.{Empty, TooLarge, NoMemory}

-- why a size is refused
abbrev pub size_fault : ℕ → ℕ → Option OffFault
size_fault width height =
    if width == 0 || height == 0 then Some Empty
    else if nat_lt 256 width || nat_lt 256 height then Some TooLarge
    else None

-- a fault is this one; memory wants only where there is none
abbrev pub IsOffFault : OffFault → Option OffFault → Type 0
IsOffFault Empty due = due ≡ Some Empty
IsOffFault TooLarge due = due ≡ Some TooLarge
IsOffFault NoMemory due = due ≡ None
