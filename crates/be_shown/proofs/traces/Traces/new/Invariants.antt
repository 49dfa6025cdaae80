use Rattle.std.proofs.Common.{◌≡◌, map, take}
use Rattle.be_parts.specs.Parts.{notes_of}
use Rattle.be_shown.proofs.traces.Traces.new.Given as goal

abbrev pub invariant-loop-part : goal.invariant-loop-part
invariant-loop-part l =
    map (λ text. text.items) l.texts.items ≡ map notes_of (take l.part-index l.parts)
