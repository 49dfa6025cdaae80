-- Sums that stop at the last number of 64 bits.
use Rattle.std.proofs.Common.{◌≡◌, ℕ, ◌+◌, List, [], ◌∷◌, length, min, max, Option, refl, ap, ◌∙◌, arith}
use Rattle.std.specs.Prelude.{sum_by}
use Rattle.std.proofs.lemmas.List.Sums.{sum_by-cons, sum_by-append}
use Rattle.be_geom.specs.declared.change.Change.{Change}
use Rattle.be_geom.specs.declared.change.Change.TheVariants.{Show, Hide, MoveTo, MoveBy, ResizeTo, Activate, Behind, Focus, Close}
use Rattle.be_actor.specs.declared.Instruction.{Instruction}
use Rattle.be_actor.specs.declared.Instruction.TheVariants.{Note, Post, Send, Reply, Forward, Lock, Unlock, Flush, Sync, Draw}
use Rattle.be_command.specs.Effects.{Effect, at_view, changes, ends_update, Deed, draws, sets, colors, saves, restores, copies, invalidates, effect_of}
use Rattle.be_message.specs.declared.target.Target.{Target}
use Rattle.be_script.specs.Costs.{limited, own_cost, posts_of_step, posts_of}
use Rattle.be_script.specs.Work.{change_cost, deed_cost, effect_cost, step_cost, no_message}

-- ---- numbers

min-add : (a b x y m : ℕ) → min a m ≡ min x m → min b m ≡ min y m → min (a + b) m ≡ min (x + y) m
min-add a b x y m p q = omega arith

min-max : (a b x y m : ℕ) → min a m ≡ min x m → min b m ≡ min y m → min (max a b) m ≡ min (max x y) m
min-max a b x y m p q = omega arith

min-twice : (a m : ℕ) → min (min a m) m ≡ min a m
min-twice a m = omega arith

pub limited-add : (a b x y : ℕ) → limited a ≡ limited x → limited b ≡ limited y → limited (a + b) ≡ limited (x + y)
limited-add a b x y p q = min-add a b x y 18446744073709551615 p q

pub limited-max : (a b x y : ℕ) → limited a ≡ limited x → limited b ≡ limited y → limited (max a b) ≡ limited (max x y)
limited-max a b x y p q = min-max a b x y 18446744073709551615 p q

pub limited-twice : (a : ℕ) → limited (limited a) ≡ limited a
limited-twice a = min-twice a 18446744073709551615

-- ---- lists

pub sum_by-limited : {X : Type 0} (f g : X → ℕ) → ((x : X) → limited (f x) ≡ limited (g x)) → (xs : List X) → limited (sum_by f xs) ≡ limited (sum_by g xs)
sum_by-limited f g same [] = refl
sum_by-limited f g same (x ∷ xs) =
    rw (sum_by-cons f x xs, sum_by-cons g x xs) (limited-add (f x) (sum_by f xs) (g x) (sum_by g xs) (same x) (sum_by-limited f g same xs))

-- ---- instructions

pub change-limited : (u v : ℕ) → limited u ≡ limited v → (c : Change) → limited (change_cost u c) ≡ limited (change_cost v c)
change-limited u v h Show = limited-add 3 u 3 v refl h
change-limited u v h Hide = limited-add 3 u 3 v refl h
change-limited u v h (MoveTo p) = limited-add 3 u 3 v refl h
change-limited u v h (MoveBy x y) = limited-add 3 u 3 v refl h
change-limited u v h (ResizeTo x y) = limited-add 3 u 3 v refl h
change-limited u v h Activate = limited-add 3 u 3 v refl h
change-limited u v h (Behind w) = limited-add 3 u 3 v refl h
change-limited u v h (Focus w) = refl
change-limited u v h Close = limited-add 3 u 3 v refl h

deed-limited : (u v : ℕ) → limited u ≡ limited v → (deed : Deed) → limited (deed_cost u deed) ≡ limited (deed_cost v deed)
deed-limited u v h (draws figure) = refl
deed-limited u v h (sets setting) = refl
deed-limited u v h (colors color) = refl
deed-limited u v h saves = refl
deed-limited u v h restores = refl
deed-limited u v h (copies source at) = limited-add 3 u 3 v refl h
deed-limited u v h (invalidates r) = limited-add 3 u 3 v refl h

effect-limited : (u v : ℕ) → limited u ≡ limited v → (e : Effect) → limited (effect_cost u e) ≡ limited (effect_cost v e)
effect-limited u v h (at_view w deed) = deed-limited u v h deed
effect-limited u v h (changes change) = change-limited u v h change
effect-limited u v h ends_update = refl

-- where updates and messages cost the same up to the last number, so does each instruction
pub step-limited : (u v : ℕ) (post send post' send' : ℕ → Target → ℕ → ℕ) (word : ℕ) → limited u ≡ limited v →
    ((w : ℕ) (t : Target) (what : ℕ) → limited (post w t what) ≡ limited (post' w t what)) →
    ((w : ℕ) (t : Target) (what : ℕ) → limited (send w t what) ≡ limited (send' w t what)) →
    (s : Instruction) → limited (step_cost u post send word s) ≡ limited (step_cost v post' send' word s)
step-limited u v post send post' send' word h p q (Note text) = refl
step-limited u v post send post' send' word h p q (Post w t draft) = p w t draft.what
step-limited u v post send post' send' word h p q (Send w t draft) =
    limited-add 2 (send w t draft.what) 2 (send' w t draft.what) refl (q w t draft.what)
step-limited u v post send post' send' word h p q (Reply draft) = refl
step-limited u v post send post' send' word h p q (Forward w t) = p w t word
step-limited u v post send post' send' word h p q (Lock w) = refl
step-limited u v post send post' send' word h p q Unlock = refl
step-limited u v post send post' send' word h p q Flush = refl
step-limited u v post send post' send' word h p q Sync = refl
step-limited u v post send post' send' word h p q (Draw command) = effect-limited u v h (effect_of command)

-- ---- a body by its own cost and its posts

alone : (a b : ℕ) → limited a ≡ limited b → limited (a + 0) ≡ limited b
alone a b h = limited-add a 0 b 0 h refl ∙ ap limited (omega arith)

one_post : (a b : ℕ) → limited a ≡ limited b → limited (0 + (0 + a)) ≡ limited b
one_post a b h = ap limited (omega arith) ∙ h

body_step : (u v : ℕ) (number : ℕ → Target → ℕ → Option ℕ) (cost : Option ℕ → ℕ) (post : ℕ → Target → ℕ → ℕ) (word : ℕ) → limited u ≡ limited v →
    ((w : ℕ) (t : Target) (what : ℕ) → limited (cost (number w t what)) ≡ limited (post w t what)) →
    (s : Instruction) → limited (own_cost u s + sum_by cost (posts_of_step number word s)) ≡ limited (step_cost v post no_message word s)
body_step u v number cost post word h p (Note text) = refl
body_step u v number cost post word h p (Post w t draft) = one_post (cost (number w t draft.what)) (post w t draft.what) (p w t draft.what)
body_step u v number cost post word h p (Send w t draft) = refl
body_step u v number cost post word h p (Reply draft) = refl
body_step u v number cost post word h p (Forward w t) = one_post (cost (number w t word)) (post w t word) (p w t word)
body_step u v number cost post word h p (Lock w) = refl
body_step u v number cost post word h p Unlock = refl
body_step u v number cost post word h p Flush = refl
body_step u v number cost post word h p Sync = refl
body_step u v number cost post word h p (Draw command) =
    alone (effect_cost u (effect_of command)) (effect_cost v (effect_of command)) (effect-limited u v h (effect_of command))

swap_sums : (a b c d : ℕ) → (a + b) + (c + d) ≡ (a + c) + (b + d)
swap_sums a b c d = omega arith

pub body-limited : (u v : ℕ) (number : ℕ → Target → ℕ → Option ℕ) (cost : Option ℕ → ℕ) (post : ℕ → Target → ℕ → ℕ) (word : ℕ) → limited u ≡ limited v →
    ((w : ℕ) (t : Target) (what : ℕ) → limited (cost (number w t what)) ≡ limited (post w t what)) →
    (program : List Instruction) →
    limited (sum_by (own_cost u) program + sum_by cost (posts_of number word program)) ≡ limited (sum_by (step_cost v post no_message word) program)
body-limited u v number cost post word h p [] = refl
body-limited u v number cost post word h p (s ∷ program) =
    rw (sum_by-cons (own_cost u) s program, sum_by-append cost (posts_of_step number word s) (posts_of number word program), sum_by-cons (step_cost v post no_message word) s program)
    (ap limited (swap_sums (own_cost u s) (sum_by (own_cost u) program) (sum_by cost (posts_of_step number word s)) (sum_by cost (posts_of number word program)))
    ∙ limited-add (own_cost u s + sum_by cost (posts_of_step number word s)) (sum_by (own_cost u) program + sum_by cost (posts_of number word program))
    (step_cost v post no_message word s) (sum_by (step_cost v post no_message word) program)
    (body_step u v number cost post word h p s) (body-limited u v number cost post word h p program))

-- the count of a list is a sum of ones
pub length-sum : {X : Type 0} (xs : List X) → length xs ≡ sum_by (λ x. 1) xs
length-sum [] = refl
length-sum (x ∷ xs) = rw (sum_by-cons (λ x. 1) x xs, length-sum xs) (omega arith)
