use Rattle.std.proofs.Common.{◌≡◌, ◌++◌, map, take}
use Rattle.be_color.specs.declared.colors.Color.TheVariants.{Solid}
use Rattle.be_picture.proofs.off_screen.push_colors.Given as goal

abbrev pub invariant-loop-cell : goal.invariant-loop-cell
invariant-loop-cell l =
    l.colors.items ≡ l.fn.colors.items ++ map (λ c. Solid c.rgb) (take l.cell-index l.cells)
