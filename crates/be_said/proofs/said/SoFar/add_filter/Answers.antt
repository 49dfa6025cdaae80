use Rattle.std.proofs.Common.{◌<◌, length, sym, ◌∙◌, subst, refl}
use Rattle.be_handler.specs.Growth.{listed}
use Rattle.be_said.specs.Fits.{Fits}
use Rattle.be_said.specs.Deeds.{adds_filter}
use Rattle.be_said.specs.Said.{seen_said}
use Rattle.be_said.proofs.HandlerLemmas.{chain-refuses, filter-done, filter-many, on_ok, place_there, room_left, taken_ok}
use Rattle.be_said.proofs.GrownInside.{here_at, set_at}
use Rattle.be_said.proofs.WindowKept.{filter-kept}
use Rattle.be_said.proofs.said.SoFar.add_filter.Goals as goal

pub taken-requires : goal.taken-requires
taken-requires c =
    let fits : Fits (seen_said c.self.inside) (adds_filter c.args.line) = subst (λ s. Fits s (adds_filter c.args.line)) (sym c.self.view_is) c.requires in
    let is = here_at _ _ _ _ _ c.self.invariant c.from.ensures fits.1 c.index_mut-inside.ensures.value in
    let there = place_there _ _ _ _ _ is.1 fits.0 fits.2 fits.3 in
    λ no. let none = c.add_filter.ensures.no_target.0 no in (cc)

pub returns-in_err-taken : goal.returns-in_err-taken
returns-in_err-taken c =
    let fits : Fits (seen_said c.self.inside) (adds_filter c.args.line) = subst (λ s. Fits s (adds_filter c.args.line)) (sym c.self.view_is) c.requires in
    let is = here_at _ _ _ _ _ c.self.invariant c.from.ensures fits.1 c.index_mut-inside.ensures.value in
    let there = place_there _ _ _ _ _ is.1 fits.0 fits.2 fits.3 in
    rw (← c.self.view_is)
    (chain-refuses _ c.add_filter.result _ c.from_residual.result (sym c.taken.ensures ∙ c.in_err-taken.was) c.from_residual.ensures.1
    (λ no. let none = c.add_filter.ensures.no_target.0 no in (cc))
    (λ many. filter-many _ _ _ is.1 fits.0 (c.add_filter.ensures.too_many.0 many).1))

pub invariant_of-self : goal.invariant_of-self
invariant_of-self c =
    let fits : Fits (seen_said c.self.inside) (adds_filter c.args.line) = subst (λ s. Fits s (adds_filter c.args.line)) (sym c.self.view_is) c.requires in
    let is = here_at _ _ _ _ _ c.self.invariant c.from.ensures fits.1 c.index_mut-inside.ensures.value in
    let added = on_ok _ _ _ (taken_ok _ _ (sym c.taken.ensures ∙ c.in_ok-taken.was)) c.add_filter.ensures.added in
    rw c.in_ok-push.ensures.items
    (set_at _ _ _ _ _ c.from.ensures (filter-kept _ _ _ _ _ c.self.invariant fits.0 is.0 is.1 refl refl refl added refl))

pub returns : goal.returns
returns c =
    let fits : Fits (seen_said c.self.inside) (adds_filter c.args.line) = subst (λ s. Fits s (adds_filter c.args.line)) (sym c.self.view_is) c.requires in
    let is = here_at _ _ _ _ _ c.self.invariant c.from.ensures fits.1 c.index_mut-inside.ensures.value in
    let there = place_there _ _ _ _ _ is.1 fits.0 fits.2 fits.3 in
    let added = taken_ok _ _ (sym c.taken.ensures ∙ c.in_ok-taken.was) in
    let few : length (listed c.index_mut-inside.result.now.chain c.args.line.list) < 32 =
    room_left _ _ _ _ (λ many. c.add_filter.ensures.too_many.1 (there, many)) added in
    rw (← c.self.view_is, c.in_ok-push.ensures.items) (filter-done _ _ _ is.1 fits.0 few)
