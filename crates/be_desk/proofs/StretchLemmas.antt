-- Answers that hold along a row: moved from one kind of coordinates to another, and joined.
use Rattle.std.proofs.Common.{◌≡◌, ℤ, ◌+ℤ◌, ◌-ℤ◌, ◌≤ℤ◌, ◌⊎◌, Bool, true, false, Option, None, cond, SFits, w32, arith, rules, sym, ap, ◌∙◌, refl}
use Rattle.std.proofs.lemmas.Int.{ints}
use Rattle.be_region.specs.Runs.{IsRun}
use Rattle.be_span.specs.Laid.{IsShift}
use Rattle.be_geom.specs.Stretches.{IsCoordinate, IsStretch}

-- ---- numbers

pub way_fits : (x d : ℤ) → IsCoordinate x → IsShift d → SFits w32 (x -ℤ d)
way_fits x d (low, high) (least, most) = search rules

-- ---- stretches

-- a run that is looked at up to the end
pub cut_run : {A : Type 0} (f : ℤ → A) (x end last r : ℤ) → IsRun f x last → x ≤ℤ r → r ≤ℤ end → r ≤ℤ last → IsStretch f x end r
cut_run f x end last r run forward within lasts = record {
  forward = forward;
  within = within;
  same = λ z from to. run.same z from (omega (arith, ints));
}

-- a run in coordinates that begin at an offset
pub moved_run : {A : Type 0} (f : ℤ → A) (x off end last r : ℤ) → IsRun f (x -ℤ off) last → x ≤ℤ end → r ≤ℤ end → r ≤ℤ (last +ℤ off) → (r ≡ end) ⊎ (r ≡ last +ℤ off) → IsStretch (λ z. f (z -ℤ off)) x end r
moved_run f x off end last r run ahead within lasts one =
    let forward : (x -ℤ off) ≤ℤ last = run.forward in
    record {
      forward = omega (arith, ints);
      within = within;
      same = λ z from to. run.same (z -ℤ off) (omega (arith, ints)) (omega (arith, ints));
    }

-- what follows from two answers stays as long as both
pub joined : {A B C : Type 0} (g : A → B → C) (f : ℤ → A) (h : ℤ → B) (x end mid last : ℤ) → IsStretch f x end mid → IsStretch h x mid last → IsStretch (λ z. g (f z) (h z)) x end last
joined g f h x end mid last first second =
    let a = first.within in
    let b = second.within in
    record {
      forward = second.forward;
      within = omega (arith, ints);
      same = λ z from to. ap (λ a. g a (h z)) (first.same z from (omega (arith, ints))) ∙ ap (g (f x)) (second.same z from to);
    }

-- ---- kept or exposed

kept_says : {A : Type 0} (b : Bool) (o : Option A) → b ≡ true → cond b None o ≡ None
kept_says true o e = refl
kept_says false o e = cc

exposed_says : {A : Type 0} (b : Bool) (o : Option A) → b ≡ false → cond b None o ≡ o
exposed_says true o e = cc
exposed_says false o e = refl

-- where pixels are kept, there is no colour
pub none_kept : {A : Type 0} (f : ℤ → Bool) (g : ℤ → Option A) (x end last : ℤ) → IsStretch f x end last → f x ≡ true → IsStretch (λ z. cond (f z) None (g z)) x end last
none_kept f g x end last h first = record {
  forward = h.forward;
  within = h.within;
  same = λ z from to. kept_says (f z) (g z) (h.same z from to ∙ first) ∙ sym (kept_says (f x) (g x) first);
}

-- where they aren't, the colour decides
pub some_exposed : {A : Type 0} (f : ℤ → Bool) (g : ℤ → Option A) (x end mid last : ℤ) → IsStretch f x end mid → f x ≡ false → IsStretch g x mid last → IsStretch (λ z. cond (f z) None (g z)) x end last
some_exposed f g x end mid last h first k =
    let a = h.within in
    let b = k.within in
    record {
      forward = k.forward;
      within = omega (arith, ints);
      same = λ z from to. exposed_says (f z) (g z) (h.same z from (omega (arith, ints)) ∙ first) ∙ k.same z from to ∙ sym (exposed_says (f x) (g x) first);
    }
