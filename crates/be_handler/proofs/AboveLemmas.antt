-- The handlers above a target: whatever any number of steps lead to, no more steps than there are handlers lead to.
use Rattle.std.specs.Prelude.{slice_get}
use Rattle.std.proofs.Common.{◌≡◌, ℕ, zero, suc, ◌+◌, ◌-◌, ◌<◌, ◌≤◌, length, Option, Some, None, option_and_then, inl, inr, arith, refl, sym, ap, ◌∙◌}
use Rattle.std.proofs.lemmas.Bool.{cases_eq, cases_lt}
use Rattle.std.proofs.lemmas.Option.{none-some, slice_get_within}
use Rattle.be_message.specs.declared.target.Target.{Target}
use Rattle.be_message.specs.declared.target.Target.TheVariants.{Window, View, Plain}
use Rattle.be_handler.specs.Routes.{Chain, next_handler, parent_target}
use Rattle.be_handler.specs.Laws.{handler_above}
use Rattle.be_handler.proofs.Pigeonhole.{Meets, meets}

-- ---- steps one after another

-- the first of the steps apart from the others
pub above_next : (c : Chain) (steps : ℕ) (target next : Target) → next_handler c target ≡ Some next → handler_above c (suc steps) target ≡ handler_above c steps next
above_next c zero target next leads = leads
above_next c (suc steps) target next leads = ap (option_and_then (next_handler c)) (above_next c steps target next leads)

pub above_end : (c : Chain) (steps : ℕ) (target : Target) → next_handler c target ≡ None → handler_above c (suc steps) target ≡ None
above_end c zero target ends = ends
above_end c (suc steps) target ends = ap (option_and_then (next_handler c)) (above_end c steps target ends)

-- from where some of the steps lead, the others go on
above_after : (c : Chain) (first more all : ℕ) (target between : Target) → all ≡ first + more → handler_above c first target ≡ Some between →
    handler_above c all target ≡ handler_above c more between
above_after c first zero all target between sum leads =
    let same : all ≡ first = omega arith in
    rw same leads
above_after c first (suc more) zero target between sum leads = absurd (omega arith)
above_after c first (suc more) (suc all) target between sum leads =
    ap (option_and_then (next_handler c)) (above_after c first more all target between (omega arith) leads)

-- ---- handlers on the way

-- so many steps lead to a handler that has a next one
abbrev GoesOn : Chain → ℕ → Target → Type 0
GoesOn c steps target = (handler : Target) × (next : Target) × (handler_above c steps target ≡ Some handler) × (next_handler c handler ≡ Some next)

goes_on_by : (c : Chain) (steps : ℕ) (target last : Target) (o : Option Target) → handler_above c steps target ≡ o →
    option_and_then (next_handler c) o ≡ Some last → GoesOn c steps target
goes_on_by c steps target last None at leads = absurd (none-some last leads)
goes_on_by c steps target last (Some handler) at leads = (handler, last, at, leads)

goes_on_last : (c : Chain) (steps : ℕ) (target last : Target) → handler_above c (suc steps) target ≡ Some last → GoesOn c steps target
goes_on_last c steps target last leads = goes_on_by c steps target last (handler_above c steps target) refl leads

goes_on : (c : Chain) (all steps : ℕ) (target last : Target) → handler_above c all target ≡ Some last → steps < all → GoesOn c steps target
goes_on c zero steps target last leads less = absurd (omega arith)
goes_on c (suc all) steps target last leads less =
    elim (cases_eq steps all) [
      | inl same ↦ rw same (goes_on_last c all target last leads)
      | inr apart ↦
          let before = goes_on_last c all target last leads in
          goes_on c all steps target before.0 before.2 (omega (arith, apart))
    ]

-- ---- a number for each handler that has a next one

number_of : Chain → Target → ℕ
number_of c Window = zero
number_of c (View v) = v
number_of c (Plain h) = length c.parents + h

view_there : (c : Chain) (v : ℕ) (next : Target) → next_handler c (View v) ≡ Some next → v < length c.parents
view_there c v next leads = by (slice_get c.parents v) refl leads
  where
    by : (o : Option (Option ℕ)) → slice_get c.parents v ≡ o → option_and_then (λ parent. Some (parent_target parent)) o ≡ Some next → v < length c.parents
    by None at leads = absurd (none-some next leads)
    by (Some parent) at leads = slice_get_within c.parents v parent at

number_less : (c : Chain) (target next : Target) → next_handler c target ≡ Some next → number_of c target < length c.parents + length c.nexts
unfolding number_of
number_less c Window next leads = absurd (none-some next leads)
number_less c (View v) next leads = omega (arith, view_there c v next leads)
number_less c (Plain h) next leads = omega (arith, slice_get_within c.nexts h next leads)

number_one : (c : Chain) (a b next other : Target) → next_handler c a ≡ Some next → next_handler c b ≡ Some other → number_of c a ≡ number_of c b → a ≡ b
unfolding number_of
number_one c Window b next other first second same = absurd (none-some next first)
number_one c (View v) Window next other first second same = absurd (none-some other second)
number_one c (View v) (View u) next other first second same = ap View same
number_one c (View v) (Plain g) next other first second same = absurd (omega (arith, view_there c v next first))
number_one c (Plain h) Window next other first second same = absurd (none-some other second)
number_one c (Plain h) (View u) next other first second same = absurd (omega (arith, view_there c u other second))
number_one c (Plain h) (Plain g) next other first second same = ap Plain (omega arith)

number_at : Chain → Option Target → ℕ
number_at c None = zero
number_at c (Some target) = number_of c target

number_at-some : (c : Chain) (o : Option Target) (handler : Target) → o ≡ Some handler → number_at c o ≡ number_of c handler
unfolding number_at
number_at-some c o handler at = ap (number_at c) at

-- ---- more steps than there are handlers

-- the way without the circle from i to j
cut : (c : Chain) (all i j : ℕ) (target between last : Target) → i < j → j < all → handler_above c i target ≡ Some between → handler_above c j target ≡ Some between →
    handler_above c all target ≡ Some last → (fewer : ℕ) × (fewer < all) × (handler_above c fewer target ≡ Some last)
cut c all i j target between last order within first again leads = (
  i + (all - j),
  omega arith,
  above_after c i (all - j) (i + (all - j)) target between refl first
      ∙ (sym (above_after c j (all - j) all target between (omega arith) again) ∙ leads),
)

numbered : Chain → Target → ℕ → ℕ
numbered c target steps = number_at c (handler_above c steps target)

numbered-on : (c : Chain) (target : Target) (steps : ℕ) (on : GoesOn c steps target) → numbered c target steps ≡ number_of c on.0
unfolding numbered
numbered-on c target steps on = number_at-some c (handler_above c steps target) on.0 on.2

shorter : (c : Chain) (all : ℕ) (target last : Target) → handler_above c all target ≡ Some last → length c.parents + length c.nexts < all →
    (fewer : ℕ) × (fewer < all) × (handler_above c fewer target ≡ Some last)
shorter c all target last leads many = round (meets (length c.parents + length c.nexts) (suc (length c.parents + length c.nexts)) (numbered c target) into (omega arith))
  where
    into : (i : ℕ) → i < suc (length c.parents + length c.nexts) → numbered c target i < length c.parents + length c.nexts
    into i within =
        let on = goes_on c all i target last leads (omega arith) in
        rw (numbered-on c target i on) (number_less c on.0 on.1 on.3)

    round : Meets (numbered c target) (suc (length c.parents + length c.nexts)) → (fewer : ℕ) × (fewer < all) × (handler_above c fewer target ≡ Some last)
    round met =
        let order = met.2 in
        let within = met.3 in
        let first = goes_on c all met.0 target last leads (omega arith) in
        let again = goes_on c all met.1 target last leads (omega arith) in
        let same : first.0 ≡ again.0 =
        number_one c first.0 again.0 first.1 again.1 first.3 again.3
        (sym (numbered-on c target met.0 first) ∙ (met.4 ∙ numbered-on c target met.1 again)) in
        cut c all met.0 met.1 target first.0 last order (omega arith) first.2 (again.2 ∙ ap Some (sym same)) leads

few_by : (most : ℕ) (c : Chain) (steps : ℕ) (target handler : Target) → steps < most → handler_above c steps target ≡ Some handler →
    (few : ℕ) × (few ≤ length c.parents + length c.nexts) × (handler_above c few target ≡ Some handler)
few_by zero c steps target handler less leads = absurd (omega arith)
few_by (suc most) c steps target handler less leads =
    elim (cases_lt (length c.parents + length c.nexts) steps) [
      | inl many ↦
          let other = shorter c steps target handler leads many in
          few_by most c other.0 target handler (let p = other.1 in omega arith) other.2
      | inr few ↦ (steps, few, leads)
    ]

-- so many steps as there are views and plain handlers lead to whatever any number leads to
pub few_are_enough : (c : Chain) (steps : ℕ) (target handler : Target) → handler_above c steps target ≡ Some handler →
    (few : ℕ) × (few ≤ length c.parents + length c.nexts) × (handler_above c few target ≡ Some handler)
few_are_enough c steps target handler leads = few_by (suc steps) c steps target handler (omega arith) leads
