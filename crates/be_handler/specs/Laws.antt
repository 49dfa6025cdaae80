-- Where a message goes, read over all handlers up the chain, however many steps away, also where
-- plain handlers go round in a circle.
use Rattle.std.specs.Prelude.{◌≡◌, ◌↔◌, ◌<◌, ℕ, zero, suc, true, false, Option, Some, None}
use Rattle.std.specs.Prelude.{option_and_then}
use Rattle.be_message.specs.declared.target.Target.{Target}
use Rattle.be_handler.specs.declared.Route.TheVariants as route
use Rattle.be_handler.specs.Routes.{Chain, next_handler, common_filters, own_filters, filtered}
use Rattle.be_handler.specs.Routes.{has_body, route_of}

-- the handler so many steps up the chain, the target itself after 0; none where the chain ends
-- before
abbrev pub handler_above : Chain → ℕ → Target → Option Target
handler_above c zero target = Some target
handler_above c (suc steps) target =
    option_and_then (next_handler c) (handler_above c steps target)

-- the handler is up the chain and has a body for the word, and none fewer steps away has one
pub record IsFirst (c : Chain) (what : ℕ) (target handler : Target) : Type 0 where
  pub steps : ℕ
  pub above : handler_above c steps target ≡ Some handler
  pub has : has_body c what handler ≡ true
  pub before : (fewer : ℕ) (other : Target) → fewer < steps
      → handler_above c fewer target ≡ Some other → has_body c what other ≡ false

-- no handler up the chain has a body for the word, however many steps away
abbrev pub HasNone : Chain → ℕ → Target → Type 0
HasNone c what target =
    (steps : ℕ) (handler : Target) → handler_above c steps target ≡ Some handler
    → has_body c what handler ≡ false

-- the target that is left by the common filters, and then by the own ones of what those left; none
-- where the message is skipped
abbrev pub left_of : Chain → ℕ → Target → Option Target
left_of c what target =
    option_and_then (λ left. filtered what (own_filters c left) left)
    (filtered what (common_filters c) target)

-- where the filters leave a target, a message goes to the first handler from there on that has a
-- body for it
abbrev pub GoesToTheFirst : Type 0
GoesToTheFirst =
    (c : Chain) (what : ℕ) (target left : Target) → left_of c what target ≡ Some left →
    (handler : Target) → (route_of c what target ≡ route.Handler handler)
    ↔ IsFirst c what left handler

-- it is unknown where none of them has a body, and only there
abbrev pub IsUnknownToAll : Type 0
IsUnknownToAll =
    (c : Chain) (what : ℕ) (target left : Target) → left_of c what target ≡ Some left →
    (route_of c what target ≡ route.Unknown) ↔ HasNone c what left

-- it is skipped where the filters leave no target, and only there
abbrev pub IsSkippedByFilters : Type 0
IsSkippedByFilters =
    (c : Chain) (what : ℕ) (target : Target) →
    (route_of c what target ≡ route.Skipped) ↔ (left_of c what target ≡ None)
