-- What a route finds is the first handler up the chain that has a body.
use Rattle.std.proofs.Common.{◌≡◌, ◌↔◌, ℕ, zero, suc, ◌+◌, ◌<◌, Bool, true, false, if◌then◌else◌, length, Option, Some, None, inl, inr, arith, refl, sym, ap, ◌∙◌}
use Rattle.std.proofs.lemmas.Bool.{cases_order}
use Rattle.std.proofs.lemmas.Option.{none-some, same_Some}
use Rattle.be_message.specs.declared.target.Target.{Target}
use Rattle.be_handler.specs.declared.Route.{Route}
use Rattle.be_handler.specs.declared.Route.TheVariants.{Skipped, Handler, Unknown}
use Rattle.be_handler.specs.Routes.{Chain, next_handler, has_body, climbed, handler_from, routed, route_of}
use Rattle.be_handler.specs.Laws.{handler_above, IsFirst, HasNone, left_of, GoesToTheFirst, IsUnknownToAll, IsSkippedByFilters}
use Rattle.be_handler.proofs.AboveLemmas.{above_next, above_end, few_are_enough}

true_false : {b : Bool} → b ≡ true → b ≡ false → ⊥
true_false is not = cc

-- what an answer says of the handlers that fewer than so many steps lead to
abbrev FoundIn : Chain → ℕ → Target → ℕ → Route → Type 0
FoundIn c what target most (Handler handler) = (first : IsFirst c what target handler) × (first.steps < most)
FoundIn c what target most Unknown = (steps : ℕ) (handler : Target) → steps < most → handler_above c steps target ≡ Some handler → has_body c what handler ≡ false
FoundIn c what target most Skipped = ⊥

none_later : (c : Chain) (what : ℕ) (target next : Target) (most : ℕ) → has_body c what target ≡ false → next_handler c target ≡ Some next →
    ((steps : ℕ) (handler : Target) → steps < most → handler_above c steps next ≡ Some handler → has_body c what handler ≡ false) →
    (steps : ℕ) (handler : Target) → steps < suc most → handler_above c steps target ≡ Some handler → has_body c what handler ≡ false
none_later c what target next most empty leads none zero handler less at = ap (has_body c what) (sym (same_Some target handler at)) ∙ empty
none_later c what target next most empty leads none (suc steps) handler less at =
    none steps handler (omega arith) (sym (above_next c steps target next leads) ∙ at)

later : (c : Chain) (what : ℕ) (target next : Target) (most : ℕ) → has_body c what target ≡ false → next_handler c target ≡ Some next →
    (r : Route) → FoundIn c what next most r → FoundIn c what target (suc most) r
later c what target next most empty leads (Handler handler) found =
    let first = found.0 in
    let less : first.steps < most = found.1 in (
      record {
        steps = suc first.steps;
        above = above_next c first.steps target next leads ∙ first.above;
        has = first.has;
        before = none_later c what target next first.steps empty leads (λ steps other. first.before steps other);
      },
      omega arith,
    )
later c what target next most empty leads Unknown none = none_later c what target next most empty leads none
later c what target next most empty leads Skipped found = found

none_at_end : (c : Chain) (what : ℕ) (target : Target) → has_body c what target ≡ false → next_handler c target ≡ None →
    (steps : ℕ) (handler : Target) → handler_above c steps target ≡ Some handler → has_body c what handler ≡ false
none_at_end c what target empty ends zero handler at = ap (has_body c what) (sym (same_Some target handler at)) ∙ empty
none_at_end c what target empty ends (suc steps) handler at = absurd (none-some handler (sym (above_end c steps target ends) ∙ at))

found_next : (c : Chain) (what : ℕ) (target : Target) (most : ℕ) → ((u : Target) → FoundIn c what u most (handler_from most c what u)) →
    has_body c what target ≡ false → (o : Option Target) → next_handler c target ≡ o →
    FoundIn c what target (suc most) (climbed (handler_from most c what) o)
found_next c what target most above empty None ends = λ steps handler less at. none_at_end c what target empty ends steps handler at
found_next c what target most above empty (Some next) leads = later c what target next most empty leads (handler_from most c what next) (above next)

found_by : (c : Chain) (what : ℕ) (target : Target) (most : ℕ) → ((u : Target) → FoundIn c what u most (handler_from most c what u)) →
    (b : Bool) → has_body c what target ≡ b →
    FoundIn c what target (suc most) (if b then Handler target else climbed (handler_from most c what) (next_handler c target))
found_by c what target most above true has =
    (record { steps = zero; above = refl; has = has; before = λ fewer other less at. absurd (omega arith) }, omega arith)
found_by c what target most above false empty = found_next c what target most above empty (next_handler c target) refl

found : (c : Chain) (what : ℕ) (most : ℕ) (target : Target) → FoundIn c what target most (handler_from most c what target)
found c what zero target = λ steps handler less at. absurd (omega arith)
found c what (suc most) target = found_by c what target most (found c what most) (has_body c what target) refl

-- two first ones are the same
one_first : (c : Chain) (what : ℕ) (target a b : Target) → IsFirst c what target a → IsFirst c what target b → a ≡ b
one_first c what target a b first other =
    elim (cases_order first.steps other.steps) [
      | inl same ↦ same_Some a b (sym first.above ∙ ap (λ (steps : ℕ). handler_above c steps target) same ∙ other.above)
      | inr apart ↦ elim apart [
        | inl less ↦ absurd (true_false first.has (other.before first.steps a less first.above))
        | inr more ↦ absurd (true_false other.has (first.before other.steps b more other.above))
      ]
    ]

abbrev enough : Chain → ℕ
enough c = length c.parents + length c.nexts + 1

-- no handler within as many steps as there are handlers has a body, and so none at all
none_above : (c : Chain) (what : ℕ) (target : Target) → FoundIn c what target (enough c) Unknown → HasNone c what target
none_above c what target none steps handler at =
    let few = few_are_enough c steps target handler at in
    let bound = few.1 in
    none few.0 handler (omega arith) few.2

is_first : (c : Chain) (what : ℕ) (target handler : Target) (r : Route) → FoundIn c what target (enough c) r →
    (r ≡ Handler handler) ↔ IsFirst c what target handler
is_first c what target handler r answer = (
  λ is. (let here = rw is at answer in here.0),
  λ first. there r answer first,
)
  where
    there : (r : Route) → FoundIn c what target (enough c) r → IsFirst c what target handler → r ≡ Handler handler
    there (Handler other) answer first = ap Handler (one_first c what target other handler answer.0 first)
    there Unknown none first = absurd (true_false first.has (none_above c what target none first.steps handler first.above))
    there Skipped answer first = absurd answer

is_unknown : (c : Chain) (what : ℕ) (target : Target) (r : Route) → FoundIn c what target (enough c) r →
    (r ≡ Unknown) ↔ HasNone c what target
is_unknown c what target r answer = (
  λ is. none_above c what target (rw is at answer),
  λ none. there r answer none,
)
  where
    there : (r : Route) → FoundIn c what target (enough c) r → HasNone c what target → r ≡ Unknown
    there (Handler other) answer none = let first = answer.0 in absurd (true_false first.has (none first.steps other first.above))
    there Unknown answer none = refl
    there Skipped answer none = absurd answer

never_skipped : (c : Chain) (what : ℕ) (target : Target) → handler_from (enough c) c what target ≡ Skipped → ⊥
never_skipped c what target is = rw is at (found c what (enough c) target)

-- ---- from the target that the filters leave

left_to : (c : Chain) (what : ℕ) (target left : Target) → left_of c what target ≡ Some left → route_of c what target ≡ handler_from (enough c) c what left
unfolding route_of
left_to c what target left is = ap (routed c what) is

pub goes_to_the_first : GoesToTheFirst
goes_to_the_first c what target left is handler =
    rw (left_to c what target left is) (is_first c what left handler (handler_from (enough c) c what left) (found c what (enough c) left))

pub is_unknown_to_all : IsUnknownToAll
is_unknown_to_all c what target left is =
    rw (left_to c what target left is) (is_unknown c what left (handler_from (enough c) c what left) (found c what (enough c) left))

skipped_by : (c : Chain) (what : ℕ) (o : Option Target) → routed c what o ≡ Skipped → o ≡ None
skipped_by c what None is = refl
skipped_by c what (Some left) is = absurd (never_skipped c what left is)

pub is_skipped_by_filters : IsSkippedByFilters
unfolding route_of
is_skipped_by_filters c what target = (skipped_by c what (left_of c what target), λ none. ap (routed c what) none)
