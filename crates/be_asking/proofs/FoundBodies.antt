-- A body is found among the script's as among those of its window.
use Rattle.std.proofs.Common.{◌≡◌, ℕ, Bool, true, false, List, [], ◌∷◌, Some, refl, ap, ◌∙◌}
use Rattle.std.specs.Prelude.{◌&&◌, ◌==◌, filter, find, if◌then◌else◌}
use Rattle.be_asking.specs.Bodies.{is_body_in}
use Rattle.be_message.specs.declared.target.Target.{Target}
use Rattle.be_script.specs.declared.BodyLine.{BodyLine}
use Rattle.be_script.specs.Windows.{is_body_of}

find_if : {X : Type 0} (p : X → Bool) (a : Bool) (x : X) (rest : List X) → find p (if a then x ∷ rest else rest) ≡ (if a && p x then Some x else find p rest)
find_if p true x rest = refl
find_if p false x rest = refl

found_by : {X : Type 0} (q p : X → Bool) (xs : List X) → find p (filter q xs) ≡ find (λ x. q x && p x) xs
found_by q p [] = refl
found_by q p (x ∷ xs) = find_if p (q x) x (filter q xs) ∙ ap (λ o. if q x && p x then Some x else o) (found_by q p xs)

pub found_there : (w : ℕ) (target : Target) (what : ℕ) (lines : List BodyLine) → find (is_body_of target what) (filter (λ line. line.window == w) lines) ≡ find (is_body_in w target what) lines
found_there w target what lines = found_by (λ (line : BodyLine). line.window == w) (is_body_of target what) lines
