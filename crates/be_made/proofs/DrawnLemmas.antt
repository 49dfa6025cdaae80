-- Texts of which the numbers were drawn before.
use Rattle.std.proofs.Common.{◌≡◌, ℕ, List, ◌++◌, refl, ap, ◌∙◌}
use Rattle.be_machine.specs.Schedule.{next_random, chosen_place}
use Rattle.be_made.specs.Drawing.{Drawn, IsWritten, draw, ◌>>-◌, always}

-- a number that is drawn next
pub record IsDrawn (k last next number : ℕ) : Type 0 where
  pub place : number ≡ chosen_place next k
  pub drawn : next ≡ next_random last

-- a number is drawn, and then a text is written
pub then_drawn : (k last next end x : ℕ) (text : ℕ → Drawn (List ℕ)) (old new : List ℕ)
    → IsDrawn k last next x → IsWritten (text x) next end old new
    → IsWritten (draw k >>- text) last end old new
then_drawn k last next end x text old new first is = record {
  text =
      is.text
      ∙ ap (λ (v : ℕ). old ++ (text v next).0) first.place
      ∙ ap (λ (n : ℕ). old ++ (text (chosen_place n k) n).0) first.drawn;
  drawn =
      is.drawn
      ∙ ap (λ (v : ℕ). (text v next).1) first.place
      ∙ ap (λ (n : ℕ). (text (chosen_place n k) n).1) first.drawn;
}

pub none_drawn : (last : ℕ) (text old new : List ℕ) → new ≡ old ++ text
    → IsWritten (always text) last last old new
none_drawn last text old new is = record { text = is; drawn = refl }

pub one_drawn : (k last next x : ℕ) (text : ℕ → List ℕ) (old new : List ℕ)
    → IsDrawn k last next x → new ≡ old ++ text x
    → IsWritten (draw k >>- λ x. always (text x)) last next old new
one_drawn k last next x text old new first is =
    then_drawn k last next next x (λ (x : ℕ). always (text x)) old new first
    (none_drawn next (text x) old new is)

pub two_drawn : (k m last one next x y : ℕ) (text : ℕ → ℕ → List ℕ) (old new : List ℕ)
    → IsDrawn k last one x → IsDrawn m one next y → new ≡ old ++ text x y
    → IsWritten (draw k >>- λ x. draw m >>- λ y. always (text x y)) last next old new
two_drawn k m last one next x y text old new first second is =
    then_drawn k last one next x (λ (x : ℕ). draw m >>- λ y. always (text x y)) old new first
    (one_drawn m one next y (text x) old new second is)

-- the numbers of a window
module _ (last a b c d e l t w h color : ℕ) (text : ℕ → ℕ → ℕ → ℕ → ℕ → List ℕ)
    (old new : List ℕ) where
  pub five_drawn : IsDrawn 400 last a l → IsDrawn 300 a b t → IsDrawn 200 b c w
      → IsDrawn 150 c d h → IsDrawn 16777216 d e color → new ≡ old ++ text l t w h color
      → IsWritten (draw 400 >>- λ l. draw 300 >>- λ t. draw 200 >>- λ w. draw 150 >>- λ h.
      draw 16777216 >>- λ c. always (text l t w h c)) last e old new
  five_drawn first second third fourth fifth is =
      then_drawn 400 last a e l
      (λ (l : ℕ). draw 300 >>- λ t. draw 200 >>- λ w. draw 150 >>- λ h.
      draw 16777216 >>- λ c. always (text l t w h c)) old new first
      (then_drawn 300 a b e t
      (λ (t : ℕ). draw 200 >>- λ w. draw 150 >>- λ h.
      draw 16777216 >>- λ c. always (text l t w h c)) old new second
      (then_drawn 200 b c e w
      (λ (w : ℕ). draw 150 >>- λ h. draw 16777216 >>- λ c. always (text l t w h c)) old new third
      (two_drawn 150 16777216 c d e h color (text l t w) old new fourth fifth is)))
