-- Frames that are kept in an array.
use Rattle.std.proofs.Common.{◌+◌, ◌<◌, ℕ, List, length, take, set, All, subst, sym}
use Rattle.std.proofs.Common.{arith, get_or-set_same}
use Rattle.std.proofs.Math.ListN.{length-set}
use Rattle.std.proofs.lemmas.List.{take-set}
use Rattle.std.proofs.lemmas.List.Elements.{All-more}
use Rattle.be_geom.specs.declared.rect.Rect.{Rect}
use Rattle.be_region.specs.Regions.{IsNotEmpty}

pub one_pushed : (frames : List Rect) (count : ℕ) (frame : Rect) → count < length frames
    → IsNotEmpty frame → All IsNotEmpty (take count frames)
    → All IsNotEmpty (take (count + 1) (set frames count frame))
one_pushed frames count frame less some all =
    All-more IsNotEmpty (set frames count frame) count frame
    (omega (arith, length-set frames count frame))
    (subst (All IsNotEmpty) (sym (take-set frames count frame)) all)
    (subst IsNotEmpty (sym (get_or-set_same frames count frame frame less)) some)
