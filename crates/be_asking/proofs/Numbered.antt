-- The activity of a number, from where the number lies among the applications' and the windows'.
use Rattle.std.proofs.Common.{◌≡◌, ℕ, ◌+◌, ◌*◌, ◌<◌, ◌≤◌, length, Some, None, sym, ap, ◌∙◌, arith}
use Rattle.std.specs.Prelude.{◌-◌, ◌/◌, ◌%◌}
use Rattle.be_machine.proofs.ProgressNumbers.{app_number, looper_number, twin_number, input_number, closing_number, none_past}
use Rattle.be_machine.specs.Activities.{runner, twin, input, closing, app, looper, activity_of}
use Rattle.be_script.specs.Script.{Declared}

module _ (d : Declared) (a n k : ℕ) (apps : n ≡ length d.apps) (windows : k ≡ length d.windows) where
  pub is_app : a < n → Some (runner (app a)) ≡ activity_of d a
  is_app lt = sym (app_number d a (omega (arith, apps, lt)))

  pub is_looper : n ≤ a → a - n < 2 * k → (a - n) % 2 ≡ 0 → Some (runner (looper ((a - n) / 2))) ≡ activity_of d a
  is_looper le lt even =
      let is : length d.apps + 2 * ((a - n) / 2) ≡ a = omega (arith, apps, le, even) in
      sym (looper_number d ((a - n) / 2) (omega (arith, windows, lt))) ∙ ap (activity_of d) is

  pub is_twin : n ≤ a → a - n < 2 * k → ((a - n) % 2 ≡ 0 → ⊥) → Some (twin ((a - n) / 2)) ≡ activity_of d a
  is_twin le lt odd =
      let is : length d.apps + (2 * ((a - n) / 2) + 1) ≡ a = omega (arith, apps, le, odd) in
      sym (twin_number d ((a - n) / 2) (omega (arith, windows, lt))) ∙ ap (activity_of d) is

  pub is_input : n ≤ a → 2 * k ≤ a - n → a - n - 2 * k ≡ 0 → Some input ≡ activity_of d a
  is_input le past at = sym (input_number d) ∙ ap (activity_of d) (omega (arith, apps, windows, le, past, at))

  pub is_closing : n ≤ a → 2 * k ≤ a - n → a - n - 2 * k ≡ 1 → Some closing ≡ activity_of d a
  is_closing le past at = sym (closing_number d) ∙ ap (activity_of d) (omega (arith, apps, windows, le, past, at))

  pub is_none : n ≤ a → 2 * k ≤ a - n → (a - n - 2 * k ≡ 0 → ⊥) → (a - n - 2 * k ≡ 1 → ⊥) → None ≡ activity_of d a
  is_none le past one two = sym (none_past d a (omega (arith, apps, windows, le, past, one, two)))
