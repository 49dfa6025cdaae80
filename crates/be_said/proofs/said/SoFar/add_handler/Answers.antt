use Rattle.std.proofs.Common.{◌<◌, ◌++◌, ◌∷◌, [], length, sym, ap, ◌∙◌, subst, refl}
use Rattle.be_said.specs.Fits.{Fits}
use Rattle.be_said.specs.Deeds.{adds_handler}
use Rattle.be_said.specs.Said.{seen_said}
use Rattle.be_said.proofs.HandlerLemmas.{chain-refuses, on_ok, plain-done, plain-many, plain_room, room_left, taken_ok, target_there}
use Rattle.be_said.proofs.GrownInside.{here_at, set_at}
use Rattle.be_said.proofs.WindowKept.{plain-kept}
use Rattle.be_said.proofs.said.SoFar.add_handler.Goals as goal

pub taken-requires : goal.taken-requires
taken-requires c =
    let fits : Fits (seen_said c.self.inside) (adds_handler c.args.line) = subst (λ s. Fits s (adds_handler c.args.line)) (sym c.self.view_is) c.requires in
    let is = here_at _ _ _ _ _ c.self.invariant c.from.ensures fits.1 c.index_mut-inside.ensures.value in
    let there = target_there _ _ _ _ is.1 fits.0 fits.3 in
    λ no. let none = c.add_plain.ensures.no_target.0 no in (cc)

pub returns-in_err-taken : goal.returns-in_err-taken
returns-in_err-taken c =
    let fits : Fits (seen_said c.self.inside) (adds_handler c.args.line) = subst (λ s. Fits s (adds_handler c.args.line)) (sym c.self.view_is) c.requires in
    let is = here_at _ _ _ _ _ c.self.invariant c.from.ensures fits.1 c.index_mut-inside.ensures.value in
    let there = target_there _ _ _ _ is.1 fits.0 fits.3 in
    rw (← c.self.view_is)
    (chain-refuses _ c.add_plain.result _ c.from_residual.result (sym c.taken.ensures ∙ c.in_err-taken.was) c.from_residual.ensures.1
    (λ no. let none = c.add_plain.ensures.no_target.0 no in (cc))
    (λ many. plain-many _ _ _ is.1 fits.0 (c.add_plain.ensures.too_many.0 many).1))

pub invariant_of-self : goal.invariant_of-self
invariant_of-self c =
    let fits : Fits (seen_said c.self.inside) (adds_handler c.args.line) = subst (λ s. Fits s (adds_handler c.args.line)) (sym c.self.view_is) c.requires in
    let is = here_at _ _ _ _ _ c.self.invariant c.from.ensures fits.1 c.index_mut-inside.ensures.value in
    let there = target_there _ _ _ _ is.1 fits.0 fits.3 in
    let was = taken_ok _ _ (sym c.taken.ensures ∙ c.in_ok-taken.was) in
    let added = on_ok _ _ _ was c.add_plain.ensures.added in
    let few : length c.index_mut-inside.result.now.chain.nexts < 16 =
    room_left _ _ _ _ (λ many. c.add_plain.ensures.too_many.1 (there, many)) was in
    let name = c.in_ok-name.ensures ∙ c.as_slice.ensures in
    rw c.in_ok-push-2.ensures.items
    (set_at _ _ _ _ _ c.from.ensures
    (plain-kept _ _ _ _ _ c.self.invariant fits.0 is.0 is.1 (plain_room _ _ _ is.1 fits.0 few) refl
    (c.in_ok-push.ensures.items ∙ ap (λ n. c.index_mut-inside.result.now.plain.items ++ n ∷ []) name) refl added refl))

pub returns : goal.returns
returns c =
    let fits : Fits (seen_said c.self.inside) (adds_handler c.args.line) = subst (λ s. Fits s (adds_handler c.args.line)) (sym c.self.view_is) c.requires in
    let is = here_at _ _ _ _ _ c.self.invariant c.from.ensures fits.1 c.index_mut-inside.ensures.value in
    let there = target_there _ _ _ _ is.1 fits.0 fits.3 in
    let was = taken_ok _ _ (sym c.taken.ensures ∙ c.in_ok-taken.was) in
    let few : length c.index_mut-inside.result.now.chain.nexts < 16 =
    room_left _ _ _ _ (λ many. c.add_plain.ensures.too_many.1 (there, many)) was in
    rw (← c.self.view_is, c.in_ok-push-2.ensures.items) (plain-done _ _ _ is.1 fits.0 few)
