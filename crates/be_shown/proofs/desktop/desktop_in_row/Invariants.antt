use Rattle.std.proofs.Common.{◌≡◌, ◌≤◌, ◌*◌, ◌-◌, map}
use Rattle.std.specs.Prelude.{count_by}
use Rattle.std.specs.List.{range_with_len}
use Rattle.be_parts.specs.Parts.{meaning_of}
use Rattle.be_rules.specs.Slices.{state_of}
use Rattle.be_script.specs.Script.{declared_by}
use Rattle.be_shown.specs.Desktop.{is_desktop}
use Rattle.be_shown.proofs.desktop.desktop_in_row.Given as goal

abbrev pub invariant-loop-column : goal.invariant-loop-column
invariant-loop-column l =
    let d = declared_by l.script in
    let s = state_of d (map meaning_of l.parts) in
    record {
      within : l.column ≤ l.width;
      few : l.count ≤ l.column;
      is : l.count ≡ count_by (is_desktop d.width s) (range_with_len (l.row * d.width) l.column);
    }

abbrev pub decreases-loop-column : goal.decreases-loop-column
decreases-loop-column l = l.width - l.column
