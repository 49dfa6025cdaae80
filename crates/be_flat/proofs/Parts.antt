-- Reading parts one after the other, as a loop does.
use Rattle.std.proofs.Common.{◌≡◌, ℕ, suc, ◌-◌, ◌+◌, ◌≤◌, ◌<◌, Ok, Err, refl, sym, ◌∙◌, arith}
use Rattle.be_message.specs.Messages.{Message}
use Rattle.be_flat.specs.declared.fault.FlatError.{FlatError}
use Rattle.be_flat.specs.declared.fault.FlatError.TheVariants.{Truncated, BadByte, Extra, NoMemory}
use Rattle.be_flat.specs.Reading.{Rest, Read, so_many, FailsAs}

-- one part more
pub part_more : (part : Message → Rest → Read Message) (n i : ℕ) (m : Message) (s : Rest) (x : Message) (after : Rest) (total : Read Message) → i < n → part m s ≡ Ok (x, after)
    → so_many part (n - i) m s ≡ total → so_many part (n - (i + 1)) x after ≡ total
unfolding so_many
part_more part n i m s x after total lt h so_far =
    let k : n - i ≡ suc (n - (i + 1)) = omega arith in
    let one : so_many part (n - i) m s ≡ so_many part (n - (i + 1)) x after = rw (k, h) refl in
    sym one ∙ so_far

fails_with : (part : Message → Rest → Read Message) (n i : ℕ) (m : Message) (s : Rest) (e : FlatError) (total : Read Message) → i < n → part m s ≡ Err e → so_many part (n - i) m s ≡ total → total ≡ Err e
unfolding so_many
fails_with part n i m s e total lt h so_far =
    let k : n - i ≡ suc (n - (i + 1)) = omega arith in
    let one : so_many part (n - i) m s ≡ Err e = rw (k, h) refl in
    sym so_far ∙ one

-- a part that fails
pub part_fails : (part : Message → Rest → Read Message) (n i : ℕ) (m : Message) (s : Rest) (e : FlatError) (total : Read Message) → i < n → FailsAs e (part m s) → so_many part (n - i) m s ≡ total → FailsAs e total
part_fails part n i m s NoMemory total lt h so_far = tt
part_fails part n i m s (Truncated at) total lt h so_far = fails_with part n i m s (Truncated at) total lt h so_far
part_fails part n i m s (BadByte at) total lt h so_far = fails_with part n i m s (BadByte at) total lt h so_far
part_fails part n i m s (Extra at) total lt h so_far = fails_with part n i m s (Extra at) total lt h so_far

-- all parts are read
pub parts_done : (part : Message → Rest → Read Message) (n i : ℕ) (m : Message) (s : Rest) (total : Read Message) → n ≤ i → so_many part (n - i) m s ≡ total → total ≡ Ok (m, s)
unfolding so_many
parts_done part n i m s total le so_far =
    let k : n - i ≡ 0 = omega arith in
    let one : so_many part (n - i) m s ≡ Ok (m, s) = rw k refl in
    sym so_far ∙ one
