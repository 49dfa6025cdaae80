-- The lock at a place of a program, found by looking back.
use Rattle.std.proofs.Common.{◌≡◌, ℕ, zero, suc, ◌+◌, ◌<◌, ◌≤◌, Bool, true, false, List, [], ◌∷◌, length, Option, Some, None, refl, sym, ap, ◌∙◌, arith}
use Rattle.std.specs.Prelude.{◌-◌, min, nat_le, slice_get}
use Rattle.std.proofs.lemmas.Bool.Decides.{nat_tests}
use lib.ListN.{get_or}
use Rattle.be_actor.specs.declared.Instruction.{Instruction}
use Rattle.be_actor.specs.declared.Instruction.TheVariants.{Note, Post, Send, Reply, Forward, Lock, Unlock, Flush, Sync, Draw}
use Rattle.be_machine.proofs.ProgressLocks.{lock_after}
use Rattle.be_machine.specs.Program.{lock_before}
use Rattle.be_script.specs.Programs.{lock_behind}

pub get_there : {X : Type 0} (xs : List X) (k : ℕ) (x : X) → k < length xs → x ≡ get_or xs k x → slice_get xs k ≡ Some x
get_there [] k x lt e = absurd (omega arith)
get_there (y ∷ ys) zero x lt e = ap Some (sym e)
get_there (y ∷ ys) (suc k) x lt e = get_there ys k x (omega arith) e

-- past the end nothing is done any more
pub lock_past : (lock : Option ℕ) (program : List Instruction) (k : ℕ) → length program ≤ k → lock_before lock program k ≡ lock_before lock program (length program)
lock_past lock [] k le = refl
lock_past lock (i ∷ rest) zero le = absurd (omega arith)
lock_past lock (i ∷ rest) (suc k) le = lock_past (lock_behind lock i) rest k (omega arith)

shorter : (program : List Instruction) (k : ℕ) (b : Bool) → nat_le (length program) k ≡ b → lock_before None program k ≡ lock_before None program (min (length program) k)
shorter program k true e =
    let le : length program ≤ k = grind (arith, nat_tests) in
    let is : length program ≡ min (length program) k = omega (arith, le) in
    lock_past None program k le ∙ ap (lock_before None program) is
shorter program k false e =
    let le : k ≤ length program = grind (arith, nat_tests) in
    let is : k ≡ min (length program) k = omega (arith, le) in
    ap (lock_before None program) is

pub lock_first : (program : List Instruction) (k : ℕ) → (min (length program) k ≤ length program) × (lock_before None program k ≡ lock_before None program (min (length program) k))
lock_first program k = (omega arith, shorter program k (nat_le (length program) k) refl)

-- the instruction before place k
pub lock_back : (program : List Instruction) (step k : ℕ) (i : Instruction) → 0 < k → (k ≤ length program) × (lock_before None program step ≡ lock_before None program k) → i ≡ get_or program (k - 1) i → lock_before None program step ≡ lock_behind (lock_before None program (k - 1)) i
lock_back program step k i some so_far at =
    let is : k ≡ k - 1 + 1 = omega (arith, some) in
    so_far.1 ∙ ap (lock_before None program) is ∙ lock_after None program (k - 1) i (get_there program (k - 1) i (omega (arith, some, so_far.0)) at)

pub lock_kept : (lock : Option ℕ) (i : Instruction) → ((w : ℕ) → i ≡ Lock w → ⊥) → (i ≡ Unlock → ⊥) → lock_behind lock i ≡ lock
lock_kept lock (Note word) out never = refl
lock_kept lock (Post w target draft) out never = refl
lock_kept lock (Send w target draft) out never = refl
lock_kept lock (Reply draft) out never = refl
lock_kept lock (Forward w target) out never = refl
lock_kept lock (Lock w) out never = absurd (out w refl)
lock_kept lock Unlock out never = absurd (never refl)
lock_kept lock Flush out never = refl
lock_kept lock Sync out never = refl
lock_kept lock (Draw c) out never = refl

pub no_lock : (program : List Instruction) (step k : ℕ) → k ≤ 0 → lock_before None program step ≡ lock_before None program k → None ≡ lock_before None program step
no_lock program step k none so_far =
    let is : k ≡ 0 = omega (arith, none) in
    sym (so_far ∙ ap (lock_before None program) is ∙ lock_none program)
  where
    lock_none : (program : List Instruction) → lock_before None program 0 ≡ None
    lock_none [] = refl
    lock_none (i ∷ rest) = refl
