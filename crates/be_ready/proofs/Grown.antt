-- The chain of one window grows with the lines of the script.
use Rattle.std.proofs.Common.{◌≡◌, ℕ, ◌+◌, ◌<◌, List, length, Some, None, get_or, refl, ap, sym, ◌∙◌, ne_eqb}
use Rattle.be_handler.specs.Growth.{empty_chain, with_filter, with_new_body, with_plain, with_view}
use Rattle.be_handler.specs.Routes.{Chain}
use Rattle.be_script.proofs.WorkChains.{body-here, body-other, filter-here, filter-other, plain-here, plain-other, read, view-here, view-other}
use Rattle.be_script.specs.Routable.{bodies_before, filters_before, handlers_before, views_before}
use Rattle.be_script.specs.Script.{Declared}
use Rattle.be_script.specs.Windows.{chain_of, declared_filter}
use Rattle.be_script.specs.declared.BodyLine.{BodyLine}
use Rattle.be_script.specs.declared.FilterLine.{FilterLine}
use Rattle.be_script.specs.declared.HandlerLine.{HandlerLine}
use Rattle.be_script.specs.declared.ViewLine.{ViewLine}

-- a window has its root alone at first
pub root_is : (d : Declared) (w : ℕ) → with_view empty_chain None ≡ chain_of (views_before d 0) w
unfolding chain_of
root_is d w = refl

module _ (d : Declared) (w i : ℕ) (c : Chain) where
  -- ---- views

  module _ (items : List ViewLine) (line : ViewLine) (e : items ≡ d.views) (h : i < length items) (is : line ≡ get_or items i line) (was : c ≡ chain_of (views_before d i) w) where
    pub view_here : (new : Chain) → line.window ≡ w → new ≡ with_view c (Some line.parent) → new ≡ chain_of (views_before d (i + 1)) w
    view_here new at made =
        let r = read items d.views i line e h is in
        made ∙ ap (λ (x : Chain). with_view x (Some line.parent)) (was ∙ ap (chain_of (views_before d i)) (sym at))
        ∙ sym (view-here d i line r.0 r.1) ∙ ap (chain_of (views_before d (i + 1))) at

    pub view_other : (line.window ≡ w → ⊥) → c ≡ chain_of (views_before d (i + 1)) w
    view_other apart = let r = read items d.views i line e h is in was ∙ sym (view-other d i w line r.0 r.1 (ne_eqb line.window w apart))

  -- ---- plain handlers

  module _ (items : List HandlerLine) (line : HandlerLine) (e : items ≡ d.handlers) (h : i < length items) (is : line ≡ get_or items i line) (was : c ≡ chain_of (handlers_before d i) w) where
    pub plain_here : (new : Chain) → line.window ≡ w → new ≡ with_plain c line.next → new ≡ chain_of (handlers_before d (i + 1)) w
    plain_here new at made =
        let r = read items d.handlers i line e h is in
        made ∙ ap (λ (x : Chain). with_plain x line.next) (was ∙ ap (chain_of (handlers_before d i)) (sym at))
        ∙ sym (plain-here d i line r.0 r.1) ∙ ap (chain_of (handlers_before d (i + 1))) at

    pub plain_other : (line.window ≡ w → ⊥) → c ≡ chain_of (handlers_before d (i + 1)) w
    plain_other apart = let r = read items d.handlers i line e h is in was ∙ sym (plain-other d i w line r.0 r.1 (ne_eqb line.window w apart))

  -- ---- filters

  module _ (items : List FilterLine) (line : FilterLine) (e : items ≡ d.filters) (h : i < length items) (is : line ≡ get_or items i line) (was : c ≡ chain_of (filters_before d i) w) where
    pub filter_here : (new : Chain) → line.window ≡ w → new ≡ with_filter c (declared_filter line) → new ≡ chain_of (filters_before d (i + 1)) w
    filter_here new at made =
        let r = read items d.filters i line e h is in
        made ∙ ap (λ (x : Chain). with_filter x (declared_filter line)) (was ∙ ap (chain_of (filters_before d i)) (sym at))
        ∙ sym (filter-here d i line r.0 r.1) ∙ ap (chain_of (filters_before d (i + 1))) at

    pub filter_other : (line.window ≡ w → ⊥) → c ≡ chain_of (filters_before d (i + 1)) w
    filter_other apart = let r = read items d.filters i line e h is in was ∙ sym (filter-other d i w line r.0 r.1 (ne_eqb line.window w apart))

  -- ---- bodies

  module _ (items : List BodyLine) (line : BodyLine) (e : items ≡ d.bodies) (h : i < length items) (is : line ≡ get_or items i line) (was : c ≡ chain_of (bodies_before d i) w) where
    pub body_here : (new : Chain) → line.window ≡ w → new ≡ with_new_body c line.target line.what → new ≡ chain_of (bodies_before d (i + 1)) w
    body_here new at made =
        let r = read items d.bodies i line e h is in
        made ∙ ap (λ (x : Chain). with_new_body x line.target line.what) (was ∙ ap (chain_of (bodies_before d i)) (sym at))
        ∙ sym (body-here d i line r.0 r.1) ∙ ap (chain_of (bodies_before d (i + 1))) at

    pub body_other : (line.window ≡ w → ⊥) → c ≡ chain_of (bodies_before d (i + 1)) w
    body_other apart = let r = read items d.bodies i line e h is in was ∙ sym (body-other d i w line r.0 r.1 (ne_eqb line.window w apart))
