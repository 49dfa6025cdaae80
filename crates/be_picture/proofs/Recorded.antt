-- What is recorded, and what isn't.
use Rattle.std.proofs.Common.{◌≡◌, ℕ, suc, ◌+◌, ◌-◌, ◌≤◌, ◌<◌, ◌==◌, Bool, true, false, cond, ◌&&◌}
use Rattle.std.proofs.Common.{List, [], ◌∷◌, ◌++◌, length, get_or, drop, Option, Some, None, refl}
use Rattle.std.proofs.Common.{sym, ap, ◌∙◌}
use Rattle.std.proofs.Common.{◌⊎◌, inl, inr, ⊎_elim, subst, arith}
use Rattle.std.specs.Prelude.{nat_le}
use Rattle.std.proofs.lemmas.Bool.Decides.{nat_tests}
use Rattle.std.proofs.lemmas.List.Sums.{fold-append}
use Rattle.std.proofs.lemmas.Option.{none-some, same_Some}
use Rattle.be_facts.proofs.Truths.{false_is_not_true}
use Rattle.be_command.specs.declared.Command.{Command}
use Rattle.be_command.specs.Effects.{draws, sets, colors, saves, restores, copies}
use Rattle.be_command.specs.Effects.{invalidates, Effect, at_view, changes, ends_update, effect_of}
use Rattle.be_command.specs.Limits.{is_drawing, is_drawing_effect}
use Rattle.be_picture.specs.declared.sorts.Sort.{Sort}
use Rattle.be_picture.specs.declared.sorts.Sort.TheVariants.{Opens, Closes, Stays}
use Rattle.be_picture.specs.Recording.{IsRecorded, Refusal, effect_refusal, not_drawing, open_by}
use Rattle.be_picture.specs.Recording.{open_pushes, refusal, too_deep, too_many, unbalanced}
use Rattle.be_picture.specs.Recording.{unless_too_many}
use Rattle.be_picture.specs.Sorts.{sort_of, sort_of_effect}
use Rattle.be_picture.specs.Faults.{IsJudged}
use Rattle.be_picture.specs.declared.recorder.Judged.{Judged}
use Rattle.be_picture.specs.declared.recorder.Judged.TheVariants as judged

-- what is refused of a sort, and what is open after it
abbrev pub refused_of : Sort → ℕ → Option Refusal
refused_of Opens pushes = cond (nat_le 15 pushes) (Some too_deep) None
refused_of Closes pushes = cond (pushes == 0) (Some unbalanced) None
refused_of Stays pushes = None

abbrev pub open_of : Sort → ℕ → ℕ
open_of Opens pushes = pushes + 1
open_of Closes pushes = pushes - 1
open_of Stays pushes = pushes

none_by : (b : Bool) (s : Sort) (r : Option Refusal) → cond b (Some s) None ≡ None
    → cond (true && b) r (Some not_drawing) ≡ Some not_drawing
none_by true s r h = absurd (none-some s (sym h))
none_by false s r h = refl

some_by : (b : Bool) (s t : Sort) (r : Option Refusal) → cond b (Some s) None ≡ Some t
    → (cond (true && b) r (Some not_drawing) ≡ r) × (s ≡ t)
some_by true s t r h = (refl, same_Some s t h)
some_by false s t r h = absurd (none-some t h)

-- ---- effects

no_sort : (e : Effect) (pushes count : ℕ) → sort_of_effect e ≡ None
    → effect_refusal (is_drawing_effect e) e pushes count ≡ Some not_drawing
no_sort (at_view v (draws f)) p n h = none_by (v == 0) Stays (unless_too_many n None) h
no_sort (at_view v (sets s)) p n h = none_by (v == 0) Stays (unless_too_many n None) h
no_sort (at_view v (colors c)) p n h = none_by (v == 0) Stays (unless_too_many n None) h
no_sort (at_view v saves) p n h =
    none_by (v == 0) Opens (unless_too_many n (refused_of Opens p)) h
no_sort (at_view v restores) p n h =
    none_by (v == 0) Closes (unless_too_many n (refused_of Closes p)) h
no_sort (at_view v (copies s t)) p n h = refl
no_sort (at_view v (invalidates r)) p n h = refl
no_sort (changes c) p n h = refl
no_sort ends_update p n h = refl

-- of a sort: what is refused, and what is open after it
record Sorted (e : Effect) (s : Sort) (pushes count : ℕ) : Type 0 where
  refused : effect_refusal (is_drawing_effect e) e pushes count
      ≡ unless_too_many count (refused_of s pushes)
  opened : open_by e pushes ≡ open_of s pushes

stays : (e : Effect) (v pushes count : ℕ) (s : Sort) (r : Option Refusal)
    → effect_refusal (is_drawing_effect e) e pushes count
    ≡ cond (true && (v == 0)) (unless_too_many count r) (Some not_drawing)
    → (t : Sort) → r ≡ refused_of t pushes → open_by e pushes ≡ open_of t pushes
    → cond (v == 0) (Some t) None ≡ Some s → Sorted e s pushes count
stays e v pushes count s r is t by opens h =
    let k = some_by (v == 0) t s (unless_too_many count r) h in
    record {
      refused = is ∙ (k.0 ∙ (ap (unless_too_many count) by
          ∙ ap (λ u. unless_too_many count (refused_of u pushes)) k.1));
      opened = opens ∙ ap (λ u. open_of u pushes) k.1;
    }

by_sort : (e : Effect) (s : Sort) (pushes count : ℕ) → sort_of_effect e ≡ Some s
    → Sorted e s pushes count
by_sort (at_view v (draws f)) s p n h =
    stays (at_view v (draws f)) v p n s None refl Stays refl refl h
by_sort (at_view v (sets t)) s p n h =
    stays (at_view v (sets t)) v p n s None refl Stays refl refl h
by_sort (at_view v (colors c)) s p n h =
    stays (at_view v (colors c)) v p n s None refl Stays refl refl h
by_sort (at_view v saves) s p n h =
    stays (at_view v saves) v p n s (refused_of Opens p) refl Opens refl refl h
by_sort (at_view v restores) s p n h =
    stays (at_view v restores) v p n s (refused_of Closes p) refl Closes refl refl h
by_sort (at_view v (copies a b)) s p n h = absurd (none-some s h)
by_sort (at_view v (invalidates r)) s p n h = absurd (none-some s h)
by_sort (changes c) s p n h = absurd (none-some s h)
by_sort ends_update s p n h = absurd (none-some s h)

-- ---- commands

drawing_is : (c : Command) → is_drawing c ≡ is_drawing_effect (effect_of c)
unfolding is_drawing
drawing_is c = refl

refusal_is : (cs : List Command) (c : Command)
    → refusal cs c
    ≡ effect_refusal (is_drawing_effect (effect_of c)) (effect_of c) (open_pushes cs) (length cs)
unfolding refusal
refusal_is cs c =
    ap (λ b. effect_refusal b (effect_of c) (open_pushes cs) (length cs)) (drawing_is c)

pub not_drawn : (cs : List Command) (c : Command) → sort_of c ≡ None
    → refusal cs c ≡ Some not_drawing
not_drawn cs c h = refusal_is cs c ∙ no_sort (effect_of c) (open_pushes cs) (length cs) h

pub refused : (cs : List Command) (c : Command) (s : Sort) → sort_of c ≡ Some s
    → refusal cs c ≡ unless_too_many (length cs) (refused_of s (open_pushes cs))
refused cs c s h =
    refusal_is cs c ∙ (by_sort (effect_of c) s (open_pushes cs) (length cs) h).refused

open_snoc : (cs : List Command) (c : Command)
    → open_pushes (cs ++ c ∷ []) ≡ open_by (effect_of c) (open_pushes cs)
unfolding open_pushes
open_snoc cs c = fold-append (λ pushes d. open_by (effect_of d) pushes) 0 cs (c ∷ [])

pub opened : (cs : List Command) (c : Command) (s : Sort) → sort_of c ≡ Some s
    → open_pushes (cs ++ c ∷ []) ≡ open_of s (open_pushes cs)
opened cs c s h =
    open_snoc cs c ∙ (by_sort (effect_of c) s (open_pushes cs) (length cs) h).opened

pub none_open : 0 ≡ open_pushes []
unfolding open_pushes
none_open = refl

-- ---- lists of recorded commands

no_split : (before after : List Command) (c : Command) → [] ≡ before ++ c ∷ after → ⊥
no_split [] after c is = absurd (let n : 0 ≡ suc (length after) = ap length is in omega (arith, n))
no_split (b ∷ bs) after c is =
    absurd (let n : 0 ≡ suc (length (bs ++ c ∷ after)) = ap length is in omega (arith, n))

pub none_recorded : IsRecorded []
none_recorded = λ before after c is. absurd (no_split before after c is)

head_is : {x y : Command} {xs ys : List Command} → x ∷ xs ≡ y ∷ ys → x ≡ y
head_is {x} h = ap (λ l. get_or l 0 x) h

tail_is : {x y : Command} {xs ys : List Command} → x ∷ xs ≡ y ∷ ys → xs ≡ ys
tail_is h = ap (drop 1) h

-- where one list ends with a command and another is cut at one, they are cut at the end or before
record Cut (cs : List Command) (c : Command) (before after : List Command) (d : Command) : Type 0
  where
    rest : List Command
    front : cs ≡ before ++ d ∷ rest

cut : (cs : List Command) (c : Command) (before after : List Command) (d : Command)
    → cs ++ c ∷ [] ≡ before ++ d ∷ after → ((before ≡ cs) × (d ≡ c)) ⊎ Cut cs c before after d
cut [] c [] after d is = inl (refl, sym (head_is is))
cut [] c (b ∷ bs) after d is = absurd (no_split bs after d (tail_is is))
cut (x ∷ xs) c [] after d is =
    inr (record { rest = xs; front = ap (λ y. y ∷ xs) (head_is is) })
cut (x ∷ xs) c (b ∷ bs) after d is =
    ⊎_elim (λ last. inl (ap (λ y. y ∷ bs) (sym (head_is is)) ∙ ap (λ l. x ∷ l) last.0, last.1))
    (λ more. inr (record {
      rest = more.rest;
      front = ap (λ l. x ∷ l) more.front
          ∙ ap (λ y. y ∷ bs ++ d ∷ more.rest) (head_is is);
    })) (cut xs c bs after d (tail_is is))

pub one_more : (cs : List Command) (c : Command) → IsRecorded cs → refusal cs c ≡ None
    → IsRecorded (cs ++ c ∷ [])
one_more cs c recorded free = λ before after d is.
    ⊎_elim (λ last. ap (λ l. refusal l d) last.0 ∙ (ap (refusal cs) last.1 ∙ free))
    (λ more. recorded before more.rest d more.front) (cut cs c before after d is)

-- ---- what comes of a command

by_true : (b : Bool) (why : Refusal) → b ≡ true → cond b (Some why) None ≡ Some why
by_true true why h = refl
by_true false why h = absurd (false_is_not_true h)

by_false : (b : Bool) (why : Refusal) → b ≡ false → cond b (Some why) None ≡ None
by_false true why h = absurd (false_is_not_true (sym h))
by_false false why h = refl

by_full : (b : Bool) (cs : List Command) (c : Command) (p : ℕ)
    → refusal cs c ≡ cond b (Some too_many) None → p ≡ open_pushes (cs ++ c ∷ []) → p ≤ 15
    → IsJudged cs c (cond b judged.TooMany (judged.Recorded p))
by_full true cs c p is opens few = is
by_full false cs c p is opens few = (is, opens, few)

pub judged_as : (cs : List Command) (c : Command) (s : Sort) (p : ℕ) (j : Judged) → sort_of c ≡ Some s
    → refused_of s (open_pushes cs) ≡ None → p ≡ open_of s (open_pushes cs) → p ≤ 15
    → j ≡ cond (nat_le 4096 (length cs)) judged.TooMany (judged.Recorded p) → IsJudged cs c j
judged_as cs c s p j sort free opens few is =
    subst (IsJudged cs c) (sym is)
    (by_full (nat_le 4096 (length cs)) cs c p
    (refused cs c s sort ∙ ap (unless_too_many (length cs)) free)
    (opens ∙ sym (opened cs c s sort)) few)

pub refused_as : (cs : List Command) (c : Command) (s : Sort) (why : Refusal) → sort_of c ≡ Some s
    → refused_of s (open_pushes cs) ≡ Some why → refusal cs c ≡ Some why
refused_as cs c s why sort is = refused cs c s sort ∙ ap (unless_too_many (length cs)) is

pub too_many_open : (n : ℕ) → 15 ≤ n → refused_of Opens n ≡ Some too_deep
too_many_open n h = by_true (nat_le 15 n) too_deep (grind (arith, nat_tests))

pub few_open : (n : ℕ) → n < 15 → refused_of Opens n ≡ None
few_open n h = by_false (nat_le 15 n) too_deep (grind (arith, nat_tests))

pub not_open : (n : ℕ) → n ≡ 0 → refused_of Closes n ≡ Some unbalanced
not_open n h = by_true (n == 0) unbalanced (grind (arith, nat_tests, h))

pub some_open : (n : ℕ) → 0 < n → refused_of Closes n ≡ None
some_open n h = by_false (n == 0) unbalanced (grind (arith, nat_tests))

-- ---- a command that isn't refused

sort_or : (o : Option Sort) (cs : List Command) (c : Command) → sort_of c ≡ o
    → refusal cs c ≡ None → (s : Sort) × (sort_of c ≡ Some s)
sort_or None cs c is free = absurd (none-some not_drawing (sym free ∙ not_drawn cs c is))
sort_or (Some s) cs c is free = (s, is)

pub has_sort : (cs : List Command) (c : Command) → refusal cs c ≡ None
    → (s : Sort) × (sort_of c ≡ Some s)
has_sort cs c free = sort_or (sort_of c) cs c refl free

no_reason : (n : ℕ) (b : Bool) (why : Refusal)
    → unless_too_many n (cond b (Some why) None) ≡ None → b ≡ false
no_reason n true why h = absurd (none-some why (sym h))
no_reason n false why h = refl

pub not_full : (cs : List Command) (c : Command) → sort_of c ≡ Some Opens → refusal cs c ≡ None
    → nat_le 15 (open_pushes cs) ≡ false
not_full cs c sort free =
    no_reason (length cs) (nat_le 15 (open_pushes cs)) too_deep (sym (refused cs c Opens sort) ∙ free)

pub not_none : (cs : List Command) (c : Command) → sort_of c ≡ Some Closes → refusal cs c ≡ None
    → (open_pushes cs == 0) ≡ false
not_none cs c sort free =
    no_reason (length cs) (open_pushes cs == 0) unbalanced (sym (refused cs c Closes sort) ∙ free)
