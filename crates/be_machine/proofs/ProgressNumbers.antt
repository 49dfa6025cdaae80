-- The numbers of activities.
use Rattle.std.proofs.Common.{◌≡◌, ℕ, ◌+◌, ◌*◌, ◌<◌, ◌≤◌, length, Some, None, refl, ap, ◌∙◌, arith}
use Rattle.std.specs.Prelude.{◌-◌, ◌/◌, ◌%◌}
use Rattle.std.proofs.lemmas.Bool.Decides.{nat_tests}
use Rattle.be_script.specs.Script.{Declared}
use Rattle.be_machine.specs.Activities.{runner, twin, input, closing, app, looper, window_activity, numbered, activities, activity_of}

pub app_number : (d : Declared) (m : ℕ) → m < length d.apps → activity_of d m ≡ Some (runner (app m))
unfolding activity_of
app_number d m h = grind (arith, nat_tests)

window_number : (apps windows k : ℕ) → k < 2 * windows → numbered apps windows (apps + k) ≡ Some (window_activity (apps + k - apps))
window_number apps windows k h = grind (arith, nat_tests)

even_window : (k w : ℕ) → k % 2 ≡ 0 → k / 2 ≡ w → window_activity k ≡ runner (looper w)
even_window k w even half = rw (even, half) refl

odd_window : (k w : ℕ) → k % 2 ≡ 1 → k / 2 ≡ w → window_activity k ≡ twin w
odd_window k w odd half = rw (odd, half) refl

pub looper_number : (d : Declared) (w : ℕ) → w < length d.windows → activity_of d (length d.apps + 2 * w) ≡ Some (runner (looper w))
unfolding activity_of
looper_number d w h = window_number (length d.apps) (length d.windows) (2 * w) (omega arith) ∙ ap Some (even_window _ w (omega arith) (omega arith))

pub twin_number : (d : Declared) (w : ℕ) → w < length d.windows → activity_of d (length d.apps + (2 * w + 1)) ≡ Some (twin w)
unfolding activity_of
twin_number d w h = window_number (length d.apps) (length d.windows) (2 * w + 1) (omega arith) ∙ ap Some (odd_window _ w (omega arith) (omega arith))

pub input_number : (d : Declared) → activity_of d (length d.apps + 2 * length d.windows) ≡ Some input
unfolding activity_of
input_number d = grind (arith, nat_tests)

pub closing_number : (d : Declared) → activity_of d (length d.apps + 2 * length d.windows + 1) ≡ Some closing
unfolding activity_of
closing_number d = grind (arith, nat_tests)

-- past the last there is none
pub none_past : (d : Declared) (a : ℕ) → activities d ≤ a → activity_of d a ≡ None
unfolding activity_of
none_past d a h = grind (arith, nat_tests)
