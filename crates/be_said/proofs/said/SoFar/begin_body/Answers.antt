use Rattle.std.proofs.Common.{◌<◌, sym, ◌∙◌, subst, refl, length}
use Rattle.be_said.specs.Fits.{Fits}
use Rattle.be_said.specs.Deeds.{begins_body}
use Rattle.be_said.specs.Said.{seen_said}
use Rattle.be_said.proofs.HandlerLemmas.{body-done, body-many, body-taken, chain-refuses, new_body, on_ok, room_left, taken_ok, target_there}
use Rattle.be_said.proofs.GrownInside.{here_at, set_at}
use Rattle.be_said.proofs.ProgramKept.{body-kept}
use Rattle.be_said.proofs.said.SoFar.begin_body.Goals as goal

pub returns-then-has_body : goal.returns-then-has_body
returns-then-has_body c =
    let fits : Fits (seen_said c.self.inside) (begins_body c.args.window c.args.target c.args.what) = subst (λ s. Fits s (begins_body c.args.window c.args.target c.args.what)) (sym c.self.view_is) c.requires in
    let is = here_at _ _ _ _ _ c.self.invariant c.from.ensures fits.1 c.index_mut-inside.ensures.value in
    rw (← c.self.view_is) (body-taken _ _ _ _ _ is.1 fits.0 (sym c.has_body.ensures ∙ c.if-has_body.true))

pub taken-requires : goal.taken-requires
taken-requires c =
    let fits : Fits (seen_said c.self.inside) (begins_body c.args.window c.args.target c.args.what) = subst (λ s. Fits s (begins_body c.args.window c.args.target c.args.what)) (sym c.self.view_is) c.requires in
    let is = here_at _ _ _ _ _ c.self.invariant c.from.ensures fits.1 c.index_mut-inside.ensures.value in
    let there = target_there _ _ _ _ is.1 fits.0 fits.2 in
    λ no. let none = c.add_body.ensures.no_target.0 no in (cc)

pub returns-in_err-taken : goal.returns-in_err-taken
returns-in_err-taken c =
    let fits : Fits (seen_said c.self.inside) (begins_body c.args.window c.args.target c.args.what) = subst (λ s. Fits s (begins_body c.args.window c.args.target c.args.what)) (sym c.self.view_is) c.requires in
    let is = here_at _ _ _ _ _ c.self.invariant c.from.ensures fits.1 c.index_mut-inside.ensures.value in
    let there = target_there _ _ _ _ is.1 fits.0 fits.2 in
    rw (← c.self.view_is)
    (chain-refuses _ c.add_body.result _ c.from_residual.result (sym c.taken.ensures ∙ c.in_err-taken.was) c.from_residual.ensures.1
    (λ no. let none = c.add_body.ensures.no_target.0 no in (cc))
    (λ many. body-many _ _ _ _ _ is.1 fits.0 (sym c.has_body.ensures ∙ c.if-has_body.false) (c.add_body.ensures.too_many.0 many).2))

pub invariant_of-self : goal.invariant_of-self
invariant_of-self c =
    let fits : Fits (seen_said c.self.inside) (begins_body c.args.window c.args.target c.args.what) = subst (λ s. Fits s (begins_body c.args.window c.args.target c.args.what)) (sym c.self.view_is) c.requires in
    let is = here_at _ _ _ _ _ c.self.invariant c.from.ensures fits.1 c.index_mut-inside.ensures.value in
    let added = on_ok _ _ _ (taken_ok _ _ (sym c.taken.ensures ∙ c.in_ok-taken.was)) c.add_body.ensures.added in
    rw c.new.ensures.items
    (set_at _ _ _ _ _ c.from.ensures
    (body-kept _ _ _ _ _ _ _ c.self.invariant fits.0 is.0 is.1 refl refl refl (added ∙ new_body _ _ _ (sym c.has_body.ensures ∙ c.if-has_body.false)) refl))

pub returns : goal.returns
returns c =
    let fits : Fits (seen_said c.self.inside) (begins_body c.args.window c.args.target c.args.what) = subst (λ s. Fits s (begins_body c.args.window c.args.target c.args.what)) (sym c.self.view_is) c.requires in
    let is = here_at _ _ _ _ _ c.self.invariant c.from.ensures fits.1 c.index_mut-inside.ensures.value in
    let there = target_there _ _ _ _ is.1 fits.0 fits.2 in
    let none = sym c.has_body.ensures ∙ c.if-has_body.false in
    let added = taken_ok _ _ (sym c.taken.ensures ∙ c.in_ok-taken.was) in
    let few : length c.index_mut-inside.result.now.chain.bodies < 512 =
    room_left _ _ _ _ (λ many. c.add_body.ensures.too_many.1 (there, none, many)) added in
    rw (← c.self.view_is, c.new.ensures.items) (body-done _ _ _ _ _ is.1 fits.0 none few)
