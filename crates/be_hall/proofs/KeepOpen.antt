-- A hall that was just made meets the rule.
use Rattle.std.proofs.Common.{rules, ◌⊎◌, inl, ⊎_elim, true, ◌≡◌, ℕ, zero, suc, ◌+◌, ◌*◌, ◌≤◌, List, [], ◌∷◌, map, length, get_or, replicate, All, Option, Some, sym, refl, ap, ◌∙◌, subst, arith}
use Rattle.std.proofs.lemmas.List.Elements.{All-head, All-tail}
use mathlib.Core.Option.{none, some, some-injective, some-ne-none}
use mathlib.Core.Option as opt
use lib.ListN.{get_elem?}
use Rattle.atomic_table.specs.Table.{opening}
use Rattle.atomic_table.proofs.Lists.{at_map}
use Rattle.be_hall.specs.declared.view.View.{View}
use Rattle.be_hall.specs.declared.view.About.{About}
use Rattle.be_hall.specs.Numbers.{total}
use Rattle.be_hall.specs.Machine.{AllFit, Machine}
use Rattle.be_hall.specs.Views.{Has, HasPlace, blank}
use Rattle.be_hall.specs.Misses.{IsNamed}
use Rattle.be_hall.specs.Logs.{logged, InHistory}
use Rattle.be_hall.specs.History.{Knows}
use Rattle.be_hall.specs.Rule.{Kept}
use Rattle.be_hall.proofs.Families.{first_alone}

module _ {A B : Type 0} (f : A → B) where
  pub map_long : (l : List A) → length (map f l) ≡ length l
  map_long [] = refl
  map_long (x ∷ xs) = ap suc (map_long xs)

  pub map_from : (l : List A) (p : ℕ) (b : B) → get_elem? (map f l) p ≡ some b → (a : A) × (get_elem? l p ≡ some a) × (f a ≡ b)
  map_from [] p b e = absurd (some-ne-none b (sym e))
  map_from (x ∷ xs) zero b e = (x, refl, some-injective (f x) b e)
  map_from (x ∷ xs) (suc p) b e = map_from xs p b e

abbrev pub zeros_of : ℕ → List ℕ
zeros_of n = replicate n 0

all_zero : (n p : ℕ) → get_or (zeros_of n) p 0 ≡ zero
all_zero zero p = refl
all_zero (suc n) zero = refl
all_zero (suc n) (suc p) = all_zero n p

pub zeros_long : (n : ℕ) → length (zeros_of n) ≡ n
zeros_long zero = refl
zeros_long (suc n) = ap suc (zeros_long n)

only_one : {A : Type 0} (Q : A → Type 0) (v : A) → Q v → (j : ℕ) (u : A) → get_elem? (v ∷ []) j ≡ some u → Q u
only_one Q v q zero u e = subst Q (some-injective v u e) q
only_one Q v q (suc j) u e = absurd (some-ne-none u (sym e))

module _ {P M E T : Type 0} (machine : P → Machine M E) (meaning : T → M) (log : T → List (ℕ × E)) where
  none_logged : (parts : List T) → All (λ x. log x ≡ []) parts → (n : ℕ) → total (logged n) (map log parts) ≡ 0
  none_logged [] all n = refl
  none_logged (x ∷ xs) all n = let h : logged n (log x) ≡ 0 = ap (logged n) (All-head (λ y. log y ≡ []) x xs all) in let t = none_logged xs (All-tail (λ y. log y ≡ []) x xs all) n in omega arith

  no_log : (parts : List T) → All (λ x. log x ≡ []) parts → (p : ℕ) (x : T) → get_elem? parts p ≡ some x → log x ≡ []
  no_log [] all p x e = absurd (some-ne-none x (sym e))
  no_log (y ∷ ys) all zero x e = subst (λ (z : T). log z ≡ []) (some-injective y x e) (All-head (λ z. log z ≡ []) y ys all)
  no_log (y ∷ ys) all (suc p) x e = no_log ys (All-tail (λ z. log z ≡ []) y ys all) p x e

  pub opens : (a : About P M) (words : List ℕ) (parts : List T) → words ≡ zeros_of (8 * length parts + 16) → a.opening ≡ map meaning parts → (machine a.rules).sound a.opening
      → total (machine a.rules).budget a.opening ≤ a.limit → a.limit ≤ 4611686018427387904 → AllFit (machine a.rules).fits 0 a.opening → All (λ x. log x ≡ []) parts → Kept machine meaning log a (opening words (map Some parts) (blank a))
  opens a words parts all_zeros is sound budgets limit fit logs =
      let homes : List (opt.Option (Option T)) = map some (map Some parts) in
      let homes_long : length homes ≡ length parts = map_long some (map Some parts) ∙ map_long Some parts in
      let holders : List (opt.Option ℕ) = map (λ (x : T). none) parts in
      let words_long : length words ≡ 8 * length parts + 16 = ap length all_zeros ∙ zeros_long (8 * length parts + 16) in
      let zero_at : (p : ℕ) → get_or words p 0 ≡ 0 = λ p. ap (λ (l : List ℕ). get_or l p 0) all_zeros ∙ all_zero (8 * length parts + 16) p in
      record {
        history = [];
        holders = holders;
        logs = map log parts;
        wide = omega arith;
        long = map_long (λ (x : T). none) parts ∙ sym homes_long;
        all = ap length is ∙ (map_long meaning parts ∙ sym homes_long);
        all_logs = map_long log parts ∙ sym homes_long;
        home = λ p e. let t = map_from (λ (x : T). none) parts p none e in
            (zero_at (8 * p + 16), (t.0, at_map some (map Some parts) p (Some t.0) (at_map Some parts p t.0 t.1), ap (λ (l : List M). get_elem? l p) is ∙ at_map meaning parts p t.0 t.1, at_map log parts p t.0 t.1));
        out = λ p id e. let t = map_from (λ (x : T). none) parts p (some id) e in absurd (some-ne-none id (sym t.2));
        held = λ p id e. let t = map_from (λ (x : T). none) parts p (some id) e in absurd (some-ne-none id (sym t.2));
        marked = λ j v e y h. absurd (only_one (λ (u : View P M E). Has u.marks y → ⊥) (blank a) (λ k. k) j v e h);
        clock = zero_at 0;
        knows = λ j v e. only_one (Knows (machine a.rules) a.opening []) (blank a) (omega arith, tt, tt, tt, tt) j v e;
        each_once = λ n. refl;
        bound = limit;
        room = let b = budgets in omega arith;
        fit = fit;
        legal = tt;
        sound = sound;
        in_logs = λ p l e. let t = map_from log parts p l e in subst (InHistory []) (sym (no_log parts logs p t.0 t.1) ∙ t.2) tt;
        in_one_log = λ n. none_logged parts logs n;
        misses = record {
          had = λ j v e p h. absurd (only_one (λ (u : View P M E). HasPlace u.marks p → ⊥) (blank a) (λ k. k.1) j v e h);
          missed = λ j v e p h. absurd (only_one (λ (u : View P M E). IsNamed u.missed p → ⊥) (blank a) (λ k. k) j v e h);
        };
        family = record {
          first = refl;
          each = λ d. let one = first_alone d in omega arith;
          real = λ j v e p h. absurd (only_one (λ (u : View P M E). HasPlace u.marks p → ⊥) (blank a) (λ k. k.1) j v e h);
        };
        stops = record { bit = inl (zero_at 8); told = λ j v e says. absurd (only_one (λ (u : View P M E). (u.raised ≡ true) ⊎ (u.knows ≡ true) → ⊥) (blank a) (λ k. ⊎_elim (λ z. grind rules) (λ z. grind rules) k) j v e says); raiser = λ one. let z = zero_at 8 in absurd (omega arith) };
        about = λ j v b e about_b. only_one (λ (u : View P M E). u.about ≡ b ∷ [] → b ≡ a) (blank a) (λ k. let f = ap (λ (l : List (About P M)). first_of b l) k in sym f) j v e about_b;
      } where
        first_of : About P M → List (About P M) → About P M
        first_of d [] = d
        first_of d (x ∷ xs) = x
