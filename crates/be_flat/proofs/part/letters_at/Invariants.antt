use Rattle.std.proofs.Common.{◌≡◌, ◌-◌, ◌≤◌, ◌++◌, ◌∷◌, [], take}
use Rattle.be_flat.specs.Codes.{begin_code}
use Rattle.be_flat.specs.Reading.{bytes_that}
use Rattle.be_flat.proofs.Loops.{Stands}
use Rattle.be_flat.proofs.part.letters_at.Given as goal

abbrev pub invariant-loop-place : goal.invariant-loop-place
invariant-loop-place l =
    record {
      stands : Stands l.start l.place l.cursor.bytes;
      read : bytes_that (λ read b. begin_code l.nested (read ++ b ∷ [])) (4 - l.place) (take l.place l.start) l.cursor ≡ bytes_that (λ read b. begin_code l.nested (read ++ b ∷ [])) 4 [] l.fn.cursor;
      most : l.place ≤ 4;
    }
