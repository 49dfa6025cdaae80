-- The parts of a route.
use Rattle.std.proofs.Common.{◌≡◌, ℕ, suc, ◌+◌, false, length, Option, Some, None, option_and_then, refl, ap, ◌∙◌}
use Rattle.be_message.specs.declared.target.Target.{Target}
use Rattle.be_handler.specs.declared.Route as route
use Rattle.be_handler.specs.Routes.{Chain, common_filters, own_filters, filtered, has_body, next_handler, handler_from, routed, route_of}

-- a handler without a body leaves it to the next one
pub handler_from-next : (c : Chain) (what n m : ℕ) (at next : Target) → n ≡ suc m → has_body c what at ≡ false → next_handler c at ≡ Some next →
    handler_from n c what at ≡ handler_from m c what next
handler_from-next c what n m at next steps empty above =
    ap (λ (k : ℕ). handler_from k c what at) steps ∙ rw (empty, above) refl

-- the common filters skip
pub route-skipped : (c : Chain) (what : ℕ) (target : Target) → filtered what (common_filters c) target ≡ None →
    route_of c what target ≡ route.TheVariants.Skipped
unfolding route_of
route-skipped c what target common =
    ap (λ (left : Option Target). routed c what (option_and_then (λ l. filtered what (own_filters c l) l) left)) common

-- what they leave goes through the own filters of the target that they leave
pub route-left : (c : Chain) (what : ℕ) (target left : Target) → filtered what (common_filters c) target ≡ Some left →
    route_of c what target ≡ routed c what (filtered what (own_filters c left) left)
unfolding route_of
route-left c what target left common =
    ap (λ (found : Option Target). routed c what (option_and_then (λ l. filtered what (own_filters c l) l) found)) common

pub route-skipped_own : (c : Chain) (what : ℕ) (target left : Target) → filtered what (common_filters c) target ≡ Some left →
    filtered what (own_filters c left) left ≡ None → route_of c what target ≡ route.TheVariants.Skipped
route-skipped_own c what target left common own = route-left c what target left common ∙ ap (routed c what) own

pub route-found : (c : Chain) (what : ℕ) (target left handler : Target) → filtered what (common_filters c) target ≡ Some left →
    filtered what (own_filters c left) left ≡ Some handler →
    route_of c what target ≡ handler_from (length c.parents + length c.nexts + 1) c what handler
route-found c what target left handler common own = route-left c what target left common ∙ ap (routed c what) own
