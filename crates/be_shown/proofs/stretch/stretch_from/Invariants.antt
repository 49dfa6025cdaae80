use Rattle.std.proofs.Common.{◌≡◌, ◌<◌, ◌≤◌, ◌+◌, ℕ, Some}
use Rattle.std.specs.Prelude.{slice_get}
use Rattle.be_parts.specs.declared.part.Part.{Part}
use Rattle.be_parts.specs.Parts.{meaning_of}
use Rattle.be_shown.specs.Pixels.{HasNone}
use Rattle.be_shown.proofs.stretch.stretch_from.Given as goal

abbrev pub invariant-loop-part : goal.invariant-loop-part
invariant-loop-part l = record {
  some : 0 < l.count;
  within : l.x + l.count ≤ l.width;
  none : (k : ℕ) (part : Part) → k < l.part-index → slice_get l.parts k ≡ Some part → HasNone (meaning_of part) l.x l.y l.count;
}
