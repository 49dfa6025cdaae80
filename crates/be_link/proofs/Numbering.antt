-- A command more behind those that are numbered one by one.
use Rattle.std.proofs.Common.{◌≡◌, ◌<◌, ℕ, suc, ◌+◌, ◌-◌, List, [], ◌∷◌, ◌++◌, length, drop, ap, subst, arith, length-append}
use Rattle.circular_buffer.specs.Buffer.{keep_last}
use Rattle.be_command.specs.declared.Command.{Command}
use Rattle.be_link.specs.Queues.{Numbered, Buffer, with_command, AreNumberedFrom, IsBuffer}

numbered_more : (n : ℕ) (cs : List Numbered) (c : Numbered) → AreNumberedFrom n cs → c.number ≡ n + length cs → AreNumberedFrom n (cs ++ c ∷ [])
numbered_more n [] c all next = (omega arith, tt)
numbered_more n (x ∷ xs) c all next = (all.0, numbered_more (suc n) xs c all.1 (omega arith))

-- a buffer that isn't full is one with a command more
pub is_buffer_with : (b : Buffer) (c : Command) → IsBuffer b → length b.commands < 32 → IsBuffer (with_command c b)
is_buffer_with b c is room =
    let few = is.few in
    let last = is.last in
    let next : Numbered = record { number = b.made + 1; command = c } in
    let long : length (b.commands ++ next ∷ []) ≡ length b.commands + 1 = length-append b.commands (next ∷ []) in
    let from : b.made - length b.commands + 1 ≡ b.made + 1 - length (b.commands ++ next ∷ []) + 1 = omega arith in
    record {
      few = omega arith;
      last = omega arith;
      numbers = subst (λ (n : ℕ). AreNumberedFrom n (b.commands ++ next ∷ [])) from (numbered_more (b.made - length b.commands + 1) b.commands next is.numbers (omega arith));
    }

-- a ring with room keeps all
pub kept_whole : {A : Type 0} (n : ℕ) (xs : List A) (x : A) → length xs < n → keep_last n (xs ++ x ∷ []) ≡ xs ++ x ∷ []
kept_whole n xs x room = let long = length-append xs (x ∷ []) in let none : length (xs ++ x ∷ []) - n ≡ 0 = omega arith in ap (λ (k : ℕ). drop k (xs ++ x ∷ [])) none
