-- Numbers that are drawn one after the other, and what is made of them (this project's own).
use Rattle.std.specs.Prelude.{◌≡◌, ℕ, zero, suc, ◌+◌, ◌++◌, List, []}
use Rattle.be_machine.specs.Schedule.{next_random, chosen_place}

-- what is made from the last number that was drawn, and the last one then
abbrev pub Drawn : Type 0 → Type 0
Drawn X = ℕ → X × ℕ

-- a number below k
abbrev pub draw : ℕ → Drawn ℕ
draw k x = (chosen_place (next_random x) k, next_random x)

abbrev pub handed_on : {X Y : Type 0} → (X → Drawn Y) → X × ℕ → Y × ℕ
handed_on f p = f p.0 p.1

infixl 10 ◌>>-◌
abbrev pub ◌>>-◌ : {X Y : Type 0} → Drawn X → (X → Drawn Y) → Drawn Y
made >>- f = λ x. handed_on f (made x)

abbrev pub always : {X : Type 0} → X → Drawn X
always made x = (made, x)

-- so many texts behind one another, of which the first is that of number i
unfoldable pub texts_from : (ℕ → Drawn (List ℕ)) → ℕ → ℕ → Drawn (List ℕ)
texts_from text i zero = always []
texts_from text i (suc n) =
    text i >>- λ first. texts_from text (i + 1) n >>- λ rest. always (first ++ rest)

-- ---- what the code draws and writes

-- behind some bytes stands the text that is made from the last number, and another is the last
pub record IsWritten (made : Drawn (List ℕ)) (last next : ℕ) (before after : List ℕ)
    : Type 0 where
  pub text : after ≡ before ++ (made last).0
  pub drawn : next ≡ (made last).1
