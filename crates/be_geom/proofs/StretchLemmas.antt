-- Stretches of columns with one answer.
use Rattle.std.proofs.Common.{ℤ, ◌-ℤ◌, SFits, w16, w32, rules, ◌≡◌, Bool, false, ◌&&◌, sym, ◌∙◌, ap}
use Rattle.std.proofs.Common.{true, arith}
use Rattle.std.proofs.lemmas.Bool.{and_left}
use Rattle.std.proofs.lemmas.Int.{ints}
use Rattle.be_geom.specs.Stretches.{IsCoordinate, IsStretch}

pub less_fits : (x w : ℤ) → IsCoordinate x → SFits w16 w → SFits w32 (x -ℤ w)
less_fits x w (low, high) f = search rules

-- where the first says no, both do
pub no_stretch : (f g : ℤ → Bool) (x end last : ℤ) → IsStretch f x end last → f x ≡ false → IsStretch (λ z. f z && g z) x end last
no_stretch f g x end last h first = record {
  forward = h.forward;
  within = h.within;
  same = λ z from to. and_left (f z) (g z) (h.same z from to ∙ first) ∙ sym (and_left (f x) (g x) first);
}

-- where the first says yes, the second decides
pub yes_stretch : (f g : ℤ → Bool) (x end mid last : ℤ) → IsStretch f x end mid → f x ≡ true → IsStretch g x mid last → IsStretch (λ z. f z && g z) x end last
yes_stretch f g x end mid last h first k =
    let a = h.within in
    let b = k.within in
    record {
      forward = k.forward;
      within = omega (arith, ints);
      same = λ z from to.
          ap (λ (t : Bool). t && g z) (h.same z from (omega (arith, ints)) ∙ first)
          ∙ k.same z from to
          ∙ sym (ap (λ (t : Bool). t && g x) first);
    }

-- what follows from an answer stays as long
pub mapped : {A B : Type 0} (g : A → B) (f : ℤ → A) (x end last : ℤ) → IsStretch f x end last → IsStretch (λ z. g (f z)) x end last
mapped g f x end last h = record { forward = h.forward; within = h.within; same = λ z from to. ap g (h.same z from to) }
