use Rattle.std.proofs.Common.{◌≡◌, ◌≤◌, ◌*◌, map}
use Rattle.std.specs.Prelude.{count_by}
use Rattle.std.specs.List.{range_with_len}
use Rattle.be_parts.specs.Parts.{meaning_of}
use Rattle.be_rules.specs.Slices.{state_of}
use Rattle.be_script.specs.Script.{declared_by}
use Rattle.be_shown.specs.Desktop.{is_desktop}
use Rattle.be_shown.proofs.desktop.desktop_pixels.Given as goal

abbrev pub invariant-loop-row : goal.invariant-loop-row
invariant-loop-row l =
    let d = declared_by l.script in
    let s = state_of d (map meaning_of l.parts) in
    record {
      few : l.count ≤ l.row * 65535;
      is : l.count ≡ count_by (is_desktop d.width s) (range_with_len 0 (l.row * d.width));
    }
