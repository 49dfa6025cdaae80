-- What is written behind what was written.
use Rattle.std.proofs.Common.{◌≡◌, ℕ, List, ◌++◌, append_assoc, Result, Ok, Err, OnOk, ap, ◌∙◌}

-- two parts
pub two_behind : {E : Type 0} (r : Result (Unit {0}) E) (o m n a b : List ℕ) → m ≡ o ++ a → OnOk r (n ≡ m ++ b) → OnOk r (n ≡ o ++ (a ++ b))
two_behind (Ok u) o m n a b first second = second ∙ ap (λ (x : List ℕ). x ++ b) first ∙ append_assoc o a b
two_behind (Err e) o m n a b first second = second
