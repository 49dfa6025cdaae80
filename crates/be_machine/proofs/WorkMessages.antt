-- A message of input costs at most the most that one with its word may cost.
use Rattle.std.proofs.Common.{◌≡◌, ℕ, zero, suc, ◌+◌, ◌<◌, ◌≤◌, ◌⊎◌, inl, inr, Bool, true, false, List, [], ◌∷◌, ◌++◌, map, length, refl, sym, subst, arith}
use Rattle.std.specs.Prelude.{fold, max, flat_map, nat_lt}
use Rattle.std.specs.List.{range_with_len}
use Rattle.std.proofs.lemmas.Bool.Decides.{nat_tests}
use Rattle.std.proofs.Math.Nat.{le-max_left, le-max_right}
use Rattle.be_facts.proofs.Numbers.{nat_lt_tells}
use Rattle.be_handler.specs.declared.Route as route
use Rattle.be_handler.specs.Routes.{route_of}
use Rattle.be_message.specs.declared.target.Target.{Target}
use Rattle.be_message.specs.declared.target.Target.TheVariants as target
use Rattle.be_script.specs.Limits.{IsWithinLimits}
use Rattle.be_script.specs.Programs.{view_count}
use Rattle.be_script.specs.Script.{Declared}
use Rattle.be_script.specs.Windows.{view_lines, chain_of, body_program}
use Rattle.be_script.specs.Work.{message_cost, targets_of, most_cost}
use Rattle.be_machine.proofs.WorkRoutes.{view_route}

-- ---- the greatest of some numbers

fold_from : (a : ℕ) (xs : List ℕ) → a ≤ fold max a xs
fold_from a [] = omega arith
fold_from a (x ∷ xs) = omega (arith, le-max_left a x, fold_from (max a x) xs)

fold_first : (a x : ℕ) (xs : List ℕ) → x ≤ fold max a (x ∷ xs)
fold_first a x xs = omega (arith, le-max_right a x, fold_from (max a x) xs)

fold_join : (a : ℕ) (xs ys : List ℕ) → fold max a (xs ++ ys) ≡ fold max (fold max a xs) ys
fold_join a [] ys = refl
fold_join a (x ∷ xs) ys = fold_join (max a x) xs ys

-- of one part of many
in_part : (a x i k n : ℕ) (f : ℕ → List ℕ) → i < n → ((b : ℕ) → x ≤ fold max b (f (k + i))) → x ≤ fold max a (flat_map f (range_with_len k n))
in_part a x i k zero f lt h = absurd (omega arith)
in_part a x zero k (suc n) f lt h =
    let same : k + 0 ≡ k = omega arith in
    let here : x ≤ fold max a (f k) = subst (λ j. x ≤ fold max a (f j)) same (h a) in
    omega (arith, here, fold_join a (f k) (flat_map f (range_with_len (k + 1) n)), fold_from (fold max a (f k)) (flat_map f (range_with_len (k + 1) n)))
in_part a x (suc i) k (suc n) f lt h =
    let same : k + suc i ≡ k + 1 + i = omega arith in
    let later : x ≤ fold max (fold max a (f k)) (flat_map f (range_with_len (k + 1) n)) = in_part (fold max a (f k)) x i (k + 1) n f (omega arith) (λ b. subst (λ j. x ≤ fold max b (f j)) same (h b)) in
    omega (arith, later, fold_join a (f k) (flat_map f (range_with_len (k + 1) n)))

in_views : (a i k n : ℕ) (f : Target → ℕ) → i < n → f (target.View (k + i)) ≤ fold max a (map f (map target.View (range_with_len k n)))
in_views a i k zero f lt = absurd (omega arith)
in_views a zero k (suc n) f lt =
    let same : k + 0 ≡ k = omega arith in
    rw same (fold_first a (f (target.View k)) (map f (map target.View (range_with_len (k + 1) n))))
in_views a (suc i) k (suc n) f lt =
    let same : k + suc i ≡ k + 1 + i = omega arith in
    rw same (in_views (max a (f (target.View k))) i (k + 1) n f (omega arith))

-- ---- to a window and its views

-- such a target has input
abbrev pub is_shown_target : Target → Bool
is_shown_target target.Window = true
is_shown_target (target.View v) = true
is_shown_target (target.Plain h) = false

missing_by : (d : Declared) (updates w v what : ℕ) → (route_of (chain_of d w) what (target.View v) ≡ route.TheVariants.Unknown) ⊎ (route_of (chain_of d w) what (target.View v) ≡ route_of (chain_of d w) what target.Window) → message_cost d updates w (target.View v) what ≤ message_cost d updates w target.Window what
unfolding message_cost body_program
missing_by d updates w v what (inl unknown) = rw unknown (omega arith)
missing_by d updates w v what (inr same) = rw same (omega arith)

missing_view : (d : Declared) (updates w v what : ℕ) → IsWithinLimits d → view_count d w ≤ v → message_cost d updates w (target.View v) what ≤ message_cost d updates w target.Window what
missing_view d updates w v what limits past = missing_by d updates w v what (view_route d w v what limits past)

not_below : (v n : ℕ) → nat_lt v n ≡ false → n ≤ v
not_below v n e = grind (arith, nat_tests)

view_by : (d : Declared) (updates w v what b : ℕ) (there : Bool) → nat_lt v (view_count d w) ≡ there → IsWithinLimits d → message_cost d updates w (target.View v) what ≤ fold max b (map (λ t. message_cost d updates w t what) (targets_of d w))
view_by d updates w v what b true lt limits =
    let same : 0 + v ≡ v = omega arith in
    let f : Target → ℕ = λ t. message_cost d updates w t what in
    subst (λ u. f (target.View u) ≤ fold max b (map f (targets_of d w))) same (in_views (max b (f target.Window)) v 0 (length (view_lines d w) + 1) f (nat_lt_tells v (view_count d w) lt))
view_by d updates w v what b false lt limits =
    let f : Target → ℕ = λ t. message_cost d updates w t what in
    omega (arith, missing_view d updates w v what limits (not_below v (view_count d w) lt), fold_first b (f target.Window) (map f (map target.View (range_with_len 0 (length (view_lines d w) + 1)))))

target_within : (d : Declared) (updates w what b : ℕ) (t : Target) → is_shown_target t ≡ true → IsWithinLimits d → message_cost d updates w t what ≤ fold max b (map (λ t. message_cost d updates w t what) (targets_of d w))
target_within d updates w what b target.Window shown limits = fold_first b (message_cost d updates w target.Window what) (map (λ t. message_cost d updates w t what) (map target.View (range_with_len 0 (length (view_lines d w) + 1))))
target_within d updates w what b (target.View v) shown limits = view_by d updates w v what b (nat_lt v (view_count d w)) refl limits
target_within d updates w what b (target.Plain h) shown limits = cc

-- to a window that is there
pub message_within : (d : Declared) (updates w what : ℕ) (t : Target) → is_shown_target t ≡ true → IsWithinLimits d → w < length d.windows → message_cost d updates w t what ≤ most_cost d updates what
unfolding most_cost
message_within d updates w what t shown limits lt =
    let same : 0 + w ≡ w = omega arith in
    let f : ℕ → List ℕ = λ v. map (λ u. message_cost d updates v u what) (targets_of d v) in
    in_part 0 (message_cost d updates w t what) w 0 (length d.windows) f lt (λ b. subst (λ v. message_cost d updates w t what ≤ fold max b (f v)) (sym same) (target_within d updates w what b t shown limits))
