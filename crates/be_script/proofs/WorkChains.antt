-- A window's chain grows with the lines of its window.
use Rattle.std.proofs.Common.{◌≡◌, ℕ, ◌+◌, ◌<◌, ◌==◌, Bool, true, false, cond, ◌&&◌, List, [], ◌∷◌, ◌++◌, length, take, filter, map, Some, None, get_or, set, inl, inr, refl, ap, sym, ◌∙◌, subst, arith, ne_eqb, get_or-set_same, get_or-set_other, length-set, ltb-true, not, replicate}
use Rattle.std.proofs.lemmas.Bool.{cases_eq}
use Rattle.std.specs.List.{list_any}
use Rattle.std.proofs.lemmas.List.{map-append, take_more, length-take-le, length-replicate, get_or-replicate}
use Rattle.std.proofs.lemmas.List.Elements.{filter_more}
use Rattle.std.proofs.lemmas.Option.{slice_get_read, get_or_from_slice_get, slice_get-get_or}
use Rattle.std.specs.Prelude.{nat_lt, slice_get}
use Rattle.be_facts.proofs.Truths.{not_true, and_first, and_second}
use Rattle.be_facts.proofs.Numbers.{eq_self}
use Rattle.be_facts.proofs.Lists.{append_none}
use Rattle.be_handler.specs.Growth.{with_view, with_plain, with_filter, with_new_body}
use Rattle.be_handler.specs.Routes.{Chain, has_body}
use Rattle.be_handler.specs.Growth.{is_there}
use Rattle.be_script.specs.declared.BodyLine.{BodyLine}
use Rattle.be_script.specs.declared.FilterLine.{FilterLine}
use Rattle.be_script.specs.declared.HandlerLine.{HandlerLine}
use Rattle.be_script.specs.declared.ViewLine.{ViewLine}
use Rattle.be_script.specs.declared.costs.routes.Handlers.{Handlers}
use Rattle.be_script.specs.Limits.{is_window}
use Rattle.be_script.specs.Routable.{IsRoutable, can_add_view, can_add_plain, can_add_filter, can_add_body, views_before, handlers_before, filters_before, bodies_before}
use Rattle.be_script.specs.Routes.{handlers_with, is_body_at, HasChains, HasNumbers}
use Rattle.be_script.specs.declared.costs.body_numbers.BodyNumbers.{BodyNumbers}
use Rattle.be_script.specs.BodyNumbers.{HasNew}
use Rattle.be_script.specs.Script.{Declared}
use Rattle.be_script.specs.Windows.{chain_of, declared_filter, declared_body}
use Rattle.be_script.proofs.WorkNumbers.{chain-bodies, numbers-more}

-- ---- one more line, of this window or another one

kept_one : {X Y : Type 0} (f : X → Y) (b : Bool) (x : X) → map f (cond b (x ∷ []) []) ≡ cond b (f x ∷ []) []
kept_one f true x = refl
kept_one f false x = refl

-- what the lines of a window are seen as, with one more line
kept_more : {X Y : Type 0} (p : X → Bool) (f : X → Y) (xs : List X) (i : ℕ) (x : X) → i < length xs → x ≡ get_or xs i x →
    map f (filter p (take (i + 1) xs)) ≡ map f (filter p (take i xs)) ++ cond (p x) (f x ∷ []) []
kept_more p f xs i x h e =
    ap (map f) (filter_more p xs i x h ∙ ap (λ y. filter p (take i xs) ++ cond (p y) (y ∷ []) []) (sym e))
    ∙ map-append f (filter p (take i xs)) (cond (p x) (x ∷ []) [])
    ∙ ap (λ ys. map f (filter p (take i xs)) ++ ys) (kept_one f (p x) x)

same_more : {X Y : Type 0} (p : X → Bool) (f : X → Y) (xs : List X) (i : ℕ) (x : X) → i < length xs → x ≡ get_or xs i x → p x ≡ true →
    map f (filter p (take (i + 1) xs)) ≡ map f (filter p (take i xs)) ++ f x ∷ []
same_more p f xs i x h e hit = kept_more p f xs i x h e ∙ ap (λ b. map f (filter p (take i xs)) ++ cond b (f x ∷ []) []) hit

other_more : {X Y : Type 0} (p : X → Bool) (f : X → Y) (xs : List X) (i : ℕ) (x : X) → i < length xs → x ≡ get_or xs i x → p x ≡ false →
    map f (filter p (take (i + 1) xs)) ≡ map f (filter p (take i xs))
other_more p f xs i x h e apart =
    kept_more p f xs i x h e ∙ ap (λ b. map f (filter p (take i xs)) ++ cond b (f x ∷ []) []) apart ∙ append_none (map f (filter p (take i xs)))

-- ---- chains

pub view-here : (d : Declared) (i : ℕ) (line : ViewLine) → i < length d.views → line ≡ get_or d.views i line →
    chain_of (views_before d (i + 1)) line.window ≡ with_view (chain_of (views_before d i) line.window) (Some line.parent)
unfolding chain_of
view-here d i line h e =
    ap (λ parents. let c : Chain = record { parents = None ∷ parents; nexts = []; filters = []; bodies = [] } in c)
    (same_more (λ other. other.window == line.window) (λ view. Some view.parent) d.views i line h e (eq_self line.window))

pub view-other : (d : Declared) (i w : ℕ) (line : ViewLine) → i < length d.views → line ≡ get_or d.views i line → (line.window == w) ≡ false →
    chain_of (views_before d (i + 1)) w ≡ chain_of (views_before d i) w
unfolding chain_of
view-other d i w line h e apart =
    ap (λ parents. let c : Chain = record { parents = None ∷ parents; nexts = []; filters = []; bodies = [] } in c)
    (other_more (λ other. other.window == w) (λ view. Some view.parent) d.views i line h e apart)

pub plain-here : (d : Declared) (i : ℕ) (line : HandlerLine) → i < length d.handlers → line ≡ get_or d.handlers i line →
    chain_of (handlers_before d (i + 1)) line.window ≡ with_plain (chain_of (handlers_before d i) line.window) line.next
unfolding chain_of
plain-here d i line h e =
    ap (λ nexts. record (chain_of (handlers_before d i) line.window) { nexts = nexts })
    (same_more (λ other. other.window == line.window) (λ plain. plain.next) d.handlers i line h e (eq_self line.window))

pub plain-other : (d : Declared) (i w : ℕ) (line : HandlerLine) → i < length d.handlers → line ≡ get_or d.handlers i line → (line.window == w) ≡ false →
    chain_of (handlers_before d (i + 1)) w ≡ chain_of (handlers_before d i) w
unfolding chain_of
plain-other d i w line h e apart =
    ap (λ nexts. record (chain_of (handlers_before d i) w) { nexts = nexts })
    (other_more (λ other. other.window == w) (λ plain. plain.next) d.handlers i line h e apart)

pub filter-here : (d : Declared) (i : ℕ) (line : FilterLine) → i < length d.filters → line ≡ get_or d.filters i line →
    chain_of (filters_before d (i + 1)) line.window ≡ with_filter (chain_of (filters_before d i) line.window) (declared_filter line)
unfolding chain_of
filter-here d i line h e =
    ap (λ filters. record (chain_of (filters_before d i) line.window) { filters = filters })
    (same_more (λ other. other.window == line.window) declared_filter d.filters i line h e (eq_self line.window))

pub filter-other : (d : Declared) (i w : ℕ) (line : FilterLine) → i < length d.filters → line ≡ get_or d.filters i line → (line.window == w) ≡ false →
    chain_of (filters_before d (i + 1)) w ≡ chain_of (filters_before d i) w
unfolding chain_of
filter-other d i w line h e apart =
    ap (λ filters. record (chain_of (filters_before d i) w) { filters = filters })
    (other_more (λ other. other.window == w) declared_filter d.filters i line h e apart)

pub body-here : (d : Declared) (i : ℕ) (line : BodyLine) → i < length d.bodies → line ≡ get_or d.bodies i line →
    chain_of (bodies_before d (i + 1)) line.window ≡ with_new_body (chain_of (bodies_before d i) line.window) line.target line.what
unfolding chain_of
body-here d i line h e =
    ap (λ bodies. record (chain_of (bodies_before d i) line.window) { bodies = bodies })
    (same_more (λ other. other.window == line.window) declared_body d.bodies i line h e (eq_self line.window))

pub body-other : (d : Declared) (i w : ℕ) (line : BodyLine) → i < length d.bodies → line ≡ get_or d.bodies i line → (line.window == w) ≡ false →
    chain_of (bodies_before d (i + 1)) w ≡ chain_of (bodies_before d i) w
unfolding chain_of
body-other d i w line h e apart =
    ap (λ bodies. record (chain_of (bodies_before d i) w) { bodies = bodies })
    (other_more (λ other. other.window == w) declared_body d.bodies i line h e apart)

-- ---- all windows, where one gets another chain

pub chains-set : (d e : Declared) (windows : List Handlers) (k : ℕ) (new : Handlers) → HasChains d windows →
    length e.windows ≡ length d.windows → k < length windows → new ≡ handlers_with (chain_of e k) →
    ((w : ℕ) → (k == w) ≡ false → chain_of e w ≡ chain_of d w) → HasChains e (set windows k new)
chains-set d e windows k new has same there is others = record {
  count = length-set windows k new ∙ has.count ∙ sym same;
  chains = λ w any h.
      elim (cases_eq w k) [
        | inl at ↦ ap (λ n. get_or (set windows k new) n any) at ∙ get_or-set_same windows k new any there ∙ is ∙ ap (λ n. handlers_with (chain_of e n)) (sym at)
        | inr ne ↦ get_or-set_other windows k w new any ne ∙ has.chains w any (subst (λ n. w < n) (length-set windows k new) h)
            ∙ ap handlers_with (sym (others w (ne_eqb k w (λ at. ne (sym at)))))
      ];
}

-- ---- a line that is read

-- an item of a list is one of the list that it is
pub read : {X : Type 0} (items xs : List X) (i : ℕ) (x : X) → items ≡ xs → i < length items → x ≡ get_or items i x →
    (i < length xs) × (x ≡ get_or xs i x) × (slice_get xs i ≡ Some x)
read {X} items xs i x e h is =
    let P : List X → Type 0 = λ ys. (i < length ys) × (x ≡ get_or ys i x) × (slice_get ys i ≡ Some x) in
    subst P e (h, is, slice_get_read items (length items) i x refl h is)

-- an item that is there is the same by any default
pub item : {X : Type 0} (xs : List X) (i : ℕ) (x : X) → i < length xs → get_or xs i x ≡ get_or xs i (get_or xs i x)
item xs i x h = sym (get_or_from_slice_get xs i (get_or xs i x) (get_or xs i x) (slice_get-get_or xs i x h))

window_within : (d : Declared) (windows : List Handlers) (w k : ℕ) (b : Bool) → length windows ≡ length d.windows → k ≡ w → (is_window d w && b) ≡ true → k < length windows
window_within d windows w k b count at h =
    let below : w < length d.windows = ltb-true w (length d.windows) (and_first (is_window d w) b h) in omega arith

-- ---- views

pub view-within : (d : Declared) (windows : List Handlers) (items : List ViewLine) (i k : ℕ) (line : ViewLine) → IsRoutable d → HasChains (views_before d i) windows →
    items ≡ d.views → i < length items → line ≡ get_or items i line → k ≡ line.window → k < length windows
view-within d windows items i k line routable has e h is at =
    window_within d windows line.window k (can_add_view (chain_of (views_before d i) line.window) line.parent) has.count at (routable.views i line (read items d.views i line e h is).2)

pub view-at : (d : Declared) (windows : List Handlers) (items : List ViewLine) (i k : ℕ) (line : ViewLine) (any : Handlers) → IsRoutable d → HasChains (views_before d i) windows →
    items ≡ d.views → i < length items → line ≡ get_or items i line → k ≡ line.window → get_or windows k any ≡ handlers_with (chain_of (views_before d i) line.window)
view-at d windows items i k line any routable has e h is at =
    has.chains k any (view-within d windows items i k line routable has e h is at) ∙ ap (λ n. handlers_with (chain_of (views_before d i) n)) at

pub view-fits : (d : Declared) (windows : List Handlers) (items : List ViewLine) (i k : ℕ) (line : ViewLine) (any : Handlers) → IsRoutable d → HasChains (views_before d i) windows →
    items ≡ d.views → i < length items → line ≡ get_or items i line → k ≡ line.window → can_add_view (get_or windows k any).chain line.parent ≡ true
view-fits d windows items i k line any routable has e h is at =
    ap (λ (x : Handlers). can_add_view x.chain line.parent) (view-at d windows items i k line any routable has e h is at)
    ∙ and_second (is_window d line.window) (can_add_view (chain_of (views_before d i) line.window) line.parent) (routable.views i line (read items d.views i line e h is).2)

pub view-step : (d : Declared) (windows : List Handlers) (items : List ViewLine) (i k : ℕ) (line : ViewLine) (any new : Handlers) → IsRoutable d → HasChains (views_before d i) windows →
    items ≡ d.views → i < length items → line ≡ get_or items i line → k ≡ line.window →
    new ≡ handlers_with (with_view (get_or windows k any).chain (Some line.parent)) → HasChains (views_before d (i + 1)) (set windows k new)
view-step d windows items i k line any new routable has e h is at made =
    let r = read items d.views i line e h is in
    chains-set (views_before d i) (views_before d (i + 1)) windows k new has refl (view-within d windows items i k line routable has e h is at)
    (made ∙ ap (λ (x : Handlers). handlers_with (with_view x.chain (Some line.parent))) (view-at d windows items i k line any routable has e h is at)
    ∙ ap handlers_with (sym (view-here d i line r.0 r.1)) ∙ ap (λ n. handlers_with (chain_of (views_before d (i + 1)) n)) (sym at))
    (λ w apart. view-other d i w line r.0 r.1 (subst (λ n. (n == w) ≡ false) at apart))

-- ---- plain handlers

pub plain-within : (d : Declared) (windows : List Handlers) (items : List HandlerLine) (i k : ℕ) (line : HandlerLine) → IsRoutable d → HasChains (handlers_before d i) windows →
    items ≡ d.handlers → i < length items → line ≡ get_or items i line → k ≡ line.window → k < length windows
plain-within d windows items i k line routable has e h is at =
    window_within d windows line.window k (can_add_plain (chain_of (handlers_before d i) line.window) line.next) has.count at (routable.handlers i line (read items d.handlers i line e h is).2)

pub plain-at : (d : Declared) (windows : List Handlers) (items : List HandlerLine) (i k : ℕ) (line : HandlerLine) (any : Handlers) → IsRoutable d → HasChains (handlers_before d i) windows →
    items ≡ d.handlers → i < length items → line ≡ get_or items i line → k ≡ line.window → get_or windows k any ≡ handlers_with (chain_of (handlers_before d i) line.window)
plain-at d windows items i k line any routable has e h is at =
    has.chains k any (plain-within d windows items i k line routable has e h is at) ∙ ap (λ n. handlers_with (chain_of (handlers_before d i) n)) at

pub plain-fits : (d : Declared) (windows : List Handlers) (items : List HandlerLine) (i k : ℕ) (line : HandlerLine) (any : Handlers) → IsRoutable d → HasChains (handlers_before d i) windows →
    items ≡ d.handlers → i < length items → line ≡ get_or items i line → k ≡ line.window → can_add_plain (get_or windows k any).chain line.next ≡ true
plain-fits d windows items i k line any routable has e h is at =
    ap (λ (x : Handlers). can_add_plain x.chain line.next) (plain-at d windows items i k line any routable has e h is at)
    ∙ and_second (is_window d line.window) (can_add_plain (chain_of (handlers_before d i) line.window) line.next) (routable.handlers i line (read items d.handlers i line e h is).2)

pub plain-step : (d : Declared) (windows : List Handlers) (items : List HandlerLine) (i k : ℕ) (line : HandlerLine) (any new : Handlers) → IsRoutable d → HasChains (handlers_before d i) windows →
    items ≡ d.handlers → i < length items → line ≡ get_or items i line → k ≡ line.window →
    new ≡ record (get_or windows k any) { chain = with_plain (get_or windows k any).chain line.next } → HasChains (handlers_before d (i + 1)) (set windows k new)
plain-step d windows items i k line any new routable has e h is at made =
    let r = read items d.handlers i line e h is in
    chains-set (handlers_before d i) (handlers_before d (i + 1)) windows k new has refl (plain-within d windows items i k line routable has e h is at)
    (made ∙ ap (λ (x : Handlers). record x { chain = with_plain x.chain line.next }) (plain-at d windows items i k line any routable has e h is at)
    ∙ ap handlers_with (sym (plain-here d i line r.0 r.1)) ∙ ap (λ n. handlers_with (chain_of (handlers_before d (i + 1)) n)) (sym at))
    (λ w apart. plain-other d i w line r.0 r.1 (subst (λ n. (n == w) ≡ false) at apart))

-- ---- filters

pub filter-within : (d : Declared) (windows : List Handlers) (items : List FilterLine) (i k : ℕ) (line : FilterLine) → IsRoutable d → HasChains (filters_before d i) windows →
    items ≡ d.filters → i < length items → line ≡ get_or items i line → k ≡ line.window → k < length windows
filter-within d windows items i k line routable has e h is at =
    window_within d windows line.window k (can_add_filter (chain_of (filters_before d i) line.window) (declared_filter line)) has.count at (routable.filters i line (read items d.filters i line e h is).2)

pub filter-at : (d : Declared) (windows : List Handlers) (items : List FilterLine) (i k : ℕ) (line : FilterLine) (any : Handlers) → IsRoutable d → HasChains (filters_before d i) windows →
    items ≡ d.filters → i < length items → line ≡ get_or items i line → k ≡ line.window → get_or windows k any ≡ handlers_with (chain_of (filters_before d i) line.window)
filter-at d windows items i k line any routable has e h is at =
    has.chains k any (filter-within d windows items i k line routable has e h is at) ∙ ap (λ n. handlers_with (chain_of (filters_before d i) n)) at

pub filter-fits : (d : Declared) (windows : List Handlers) (items : List FilterLine) (i k : ℕ) (line : FilterLine) (any : Handlers) → IsRoutable d → HasChains (filters_before d i) windows →
    items ≡ d.filters → i < length items → line ≡ get_or items i line → k ≡ line.window → can_add_filter (get_or windows k any).chain (declared_filter line) ≡ true
filter-fits d windows items i k line any routable has e h is at =
    ap (λ (x : Handlers). can_add_filter x.chain (declared_filter line)) (filter-at d windows items i k line any routable has e h is at)
    ∙ and_second (is_window d line.window) (can_add_filter (chain_of (filters_before d i) line.window) (declared_filter line)) (routable.filters i line (read items d.filters i line e h is).2)

pub filter-step : (d : Declared) (windows : List Handlers) (items : List FilterLine) (i k : ℕ) (line : FilterLine) (any new : Handlers) → IsRoutable d → HasChains (filters_before d i) windows →
    items ≡ d.filters → i < length items → line ≡ get_or items i line → k ≡ line.window →
    new ≡ record (get_or windows k any) { chain = with_filter (get_or windows k any).chain (declared_filter line) } → HasChains (filters_before d (i + 1)) (set windows k new)
filter-step d windows items i k line any new routable has e h is at made =
    let r = read items d.filters i line e h is in
    chains-set (filters_before d i) (filters_before d (i + 1)) windows k new has refl (filter-within d windows items i k line routable has e h is at)
    (made ∙ ap (λ (x : Handlers). record x { chain = with_filter x.chain (declared_filter line) }) (filter-at d windows items i k line any routable has e h is at)
    ∙ ap handlers_with (sym (filter-here d i line r.0 r.1)) ∙ ap (λ n. handlers_with (chain_of (filters_before d (i + 1)) n)) (sym at))
    (λ w apart. filter-other d i w line r.0 r.1 (subst (λ n. (n == w) ≡ false) at apart))

-- ---- bodies

pub body-within : (d : Declared) (windows : List Handlers) (items : List BodyLine) (i k : ℕ) (line : BodyLine) → IsRoutable d → HasChains (bodies_before d i) windows →
    items ≡ d.bodies → i < length items → line ≡ get_or items i line → k ≡ line.window → k < length windows
body-within d windows items i k line routable has e h is at =
    window_within d windows line.window k (can_add_body (chain_of (bodies_before d i) line.window) (declared_body line)) has.count at (routable.bodies i line (read items d.bodies i line e h is).2)

pub body-at : (d : Declared) (windows : List Handlers) (items : List BodyLine) (i k : ℕ) (line : BodyLine) (any : Handlers) → IsRoutable d → HasChains (bodies_before d i) windows →
    items ≡ d.bodies → i < length items → line ≡ get_or items i line → k ≡ line.window → get_or windows k any ≡ handlers_with (chain_of (bodies_before d i) line.window)
body-at d windows items i k line any routable has e h is at =
    has.chains k any (body-within d windows items i k line routable has e h is at) ∙ ap (λ n. handlers_with (chain_of (bodies_before d i) n)) at

pub body-fits : (d : Declared) (windows : List Handlers) (items : List BodyLine) (i k : ℕ) (line : BodyLine) (any : Handlers) → IsRoutable d → HasChains (bodies_before d i) windows →
    items ≡ d.bodies → i < length items → line ≡ get_or items i line → k ≡ line.window → can_add_body (get_or windows k any).chain (declared_body line) ≡ true
body-fits d windows items i k line any routable has e h is at =
    ap (λ (x : Handlers). can_add_body x.chain (declared_body line)) (body-at d windows items i k line any routable has e h is at)
    ∙ and_second (is_window d line.window) (can_add_body (chain_of (bodies_before d i) line.window) (declared_body line)) (routable.bodies i line (read items d.bodies i line e h is).2)

pub body-step : (d : Declared) (windows : List Handlers) (items : List BodyLine) (i k : ℕ) (line : BodyLine) (any new : Handlers) → IsRoutable d → HasChains (bodies_before d i) windows →
    items ≡ d.bodies → i < length items → line ≡ get_or items i line → k ≡ line.window →
    new ≡ record (get_or windows k any) { chain = with_new_body (get_or windows k any).chain line.target line.what } → HasChains (bodies_before d (i + 1)) (set windows k new)
body-step d windows items i k line any new routable has e h is at made =
    let r = read items d.bodies i line e h is in
    chains-set (bodies_before d i) (bodies_before d (i + 1)) windows k new has refl (body-within d windows items i k line routable has e h is at)
    (made ∙ ap (λ (x : Handlers). record x { chain = with_new_body x.chain line.target line.what }) (body-at d windows items i k line any routable has e h is at)
    ∙ ap handlers_with (sym (body-here d i line r.0 r.1)) ∙ ap (λ n. handlers_with (chain_of (bodies_before d (i + 1)) n)) (sym at))
    (λ w apart. body-other d i w line r.0 r.1 (subst (λ n. (n == w) ≡ false) at apart))

-- ---- the numbers of the bodies

-- no body before this one is for its handler and its word
body-apart : (d : Declared) (i : ℕ) (line : BodyLine) → can_add_body (chain_of (bodies_before d i) line.window) (declared_body line) ≡ true →
    list_any (is_body_at line.window line.target line.what) (take i d.bodies) ≡ false
unfolding chain_of
body-apart d i line h =
    let c = chain_of (bodies_before d i) line.window in
    let front = and_first (is_there c line.target && not (has_body c line.what line.target)) (nat_lt (length c.bodies) 512) h in
    sym (chain-bodies line.window line.target line.what (take i d.bodies))
    ∙ not_true (has_body c line.what line.target) (and_second (is_there c line.target) (not (has_body c line.what line.target)) front)

pub numbers-step : (d : Declared) (items : List BodyLine) (i : ℕ) (line : BodyLine) (old new : BodyNumbers) → IsRoutable d → items ≡ d.bodies →
    i < length items → line ≡ get_or items i line → HasNumbers (take i d.bodies) old → HasNew old new line.window line.target line.what i →
    HasNumbers (take (i + 1) d.bodies) new
numbers-step d items i line old new routable e h is has made =
    let r = read items d.bodies i line e h is in
    let all : take (i + 1) d.bodies ≡ take i d.bodies ++ line ∷ [] = take_more d.bodies i line r.0 ∙ ap (λ x. take i d.bodies ++ x ∷ []) (sym r.1) in
    let count : length (take i d.bodies) ≡ i = length-take-le i d.bodies (omega (arith, r.0)) in
    let fits = and_second (is_window d line.window) (can_add_body (chain_of (bodies_before d i) line.window) (declared_body line)) (routable.bodies i line r.2) in
    subst (λ (bodies : List BodyLine). HasNumbers bodies new) (sym all)
    (numbers-more (take i d.bodies) line old new has (subst (λ (n : ℕ). HasNew old new line.window line.target line.what n) (sym count) made) (body-apart d i line fits))

-- ---- windows with their roots

pub roots-are : (d : Declared) (windows : List Handlers) (n : ℕ) →
    windows ≡ replicate n (handlers_with record { parents = None ∷ []; nexts = []; filters = []; bodies = [] }) → n ≡ length d.windows →
    HasChains (views_before d 0) windows
unfolding chain_of
roots-are d windows n e count =
    let root = handlers_with record { parents = None ∷ []; nexts = []; filters = []; bodies = [] } in
    record {
      count = ap length e ∙ length-replicate n root ∙ count;
      chains = λ w any h. ap (λ xs. get_or xs w any) e ∙ get_or-replicate n w root any (subst (λ k. w < k) (ap length e ∙ length-replicate n root) h);
    }
