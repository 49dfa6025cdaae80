use Rattle.std.proofs.Common.{rules, ◌≡◌, ◌≤◌, ◌<◌, [], ◌∷◌, ◌++◌, Contains, length, ◌∙◌, sym, ap, subst, arith}
use Rattle.be_workers.specs.Wanted.{added, inserted, wanted_below}
use Rattle.be_workers.proofs.Wanted.{last_any, named, with_none, with_one, wanted_short}
use Rattle.be_workers.proofs.wants.Wants.add.Goals as goal

pub insert-requires : goal.insert-requires
insert-requires g c =
    let place = c.args.place in
    let places = (g.W.Parts.machine c.args.rules.now).places in
    let owns = g.W.Turns.owns c.args.rules.now c.args.who in
    let more = added c.args.self.now in
    let below : place < places = search rules in
    let is = ap (inserted place) c.requires.chosen ∙ sym (with_one owns more place places below) in
    let short = wanted_short owns (more ++ place ∷ []) places in
    let room = c.requires.suits.0.0 in
    let long : length (inserted place c.args.self.now.places.items)
    ≡ length (wanted_below owns (more ++ place ∷ []) places) = ap length is in
    omega arith

pub returns-then-place-places-clause-chosen : goal.returns-then-place-places-clause-chosen
returns-then-place-places-clause-chosen g c =
    let place = c.args.place in
    let places = (g.W.Parts.machine c.args.rules.now).places in
    let owns = g.W.Turns.owns c.args.rules.now c.args.who in
    let more = added c.args.self.now in
    let below : place < places = search rules in
    c.insert.ensures.places ∙ (ap (inserted place) c.requires.chosen
    ∙ (sym (with_one owns more place places below)
    ∙ ap (λ l. wanted_below owns l places) (sym c.push_reserved.ensures.items)))

pub returns-else-place-places-clause-chosen : goal.returns-else-place-places-clause-chosen
returns-else-place-places-clause-chosen g c =
    let place = c.args.place in
    let places = (g.W.Parts.machine c.args.rules.now).places in
    let owns = g.W.Turns.owns c.args.rules.now c.args.who in
    let more = added c.args.self.now in
    let above : places ≤ place = search rules in
    c.requires.chosen ∙ (sym (with_none owns more place places above)
    ∙ ap (λ l. wanted_below owns l places) (sym c.push_reserved.ensures.items))

pub returns-then-place-places-clause-needed : goal.returns-then-place-places-clause-needed
returns-then-place-places-clause-needed g c =
    let place = c.args.place in
    let places = (g.W.Parts.machine c.args.rules.now).places in
    let owns = g.W.Turns.owns c.args.rules.now c.args.who in
    let more = added c.args.self.now in
    let is = c.insert.ensures.places ∙ (ap (inserted place) c.requires.chosen
    ∙ sym (with_one owns more place places (search rules))) in
    λ below. subst (λ l. Contains l place) (sym is)
    (named owns (more ++ place ∷ []) places place below (last_any more place))
