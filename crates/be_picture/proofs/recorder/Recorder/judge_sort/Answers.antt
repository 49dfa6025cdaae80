use Rattle.std.proofs.Common.{rules, ◌≡◌, ◌+◌, ◌-◌, ◌<◌, ◌≤◌, Some, refl, sym, ap, ◌∙◌, arith}
use Rattle.be_picture.specs.declared.sorts.Sort.TheVariants.{Opens, Closes, Stays}
use Rattle.be_picture.specs.Recording.{open_pushes, too_deep, unbalanced}
use Rattle.be_picture.proofs.Recorded.{few_open, judged_as, not_open, refused_as}
use Rattle.be_picture.proofs.Recorded.{some_open, too_many_open}
use Rattle.be_picture.proofs.recorder.Recorder.judge_sort.Goals as goal

pub returns-in-Opens : goal.returns-in-Opens
returns-in-Opens c = λ command sort.
    let cs = c.args.self.now in
    let n : c.self.inside.pushes ≡ open_pushes cs =
    c.self.invariant.1 ∙ ap open_pushes c.self.view_is in
    let many : 15 ≤ c.self.inside.pushes = search rules in
    refused_as cs command Opens too_deep (sort ∙ ap Some c.in-Opens.is)
    (too_many_open (open_pushes cs) (omega (arith, n, many)))

pub returns-in-Opens-2 : goal.returns-in-Opens-2
returns-in-Opens-2 c = λ command sort.
    let cs = c.args.self.now in
    let n : c.self.inside.pushes ≡ open_pushes cs =
    c.self.invariant.1 ∙ ap open_pushes c.self.view_is in
    let few : c.self.inside.pushes < 15 = search rules in
    judged_as cs command Opens (c.self.inside.pushes + 1) c.unless_full.result
    (sort ∙ ap Some c.in-Opens-2.is) (few_open (open_pushes cs) (omega (arith, n, few)))
    (ap (λ k. k + 1) n) (omega (arith, few)) c.unless_full.ensures

pub returns-in-Closes : goal.returns-in-Closes
returns-in-Closes c = λ command sort.
    let cs = c.args.self.now in
    let n : c.self.inside.pushes ≡ open_pushes cs =
    c.self.invariant.1 ∙ ap open_pushes c.self.view_is in
    let none : c.self.inside.pushes ≡ 0 = search rules in
    refused_as cs command Closes unbalanced (sort ∙ ap Some c.in-Closes.is)
    (not_open (open_pushes cs) (sym n ∙ none))

pub returns-in-Closes-2 : goal.returns-in-Closes-2
returns-in-Closes-2 c = λ command sort.
    let cs = c.args.self.now in
    let n : c.self.inside.pushes ≡ open_pushes cs =
    c.self.invariant.1 ∙ ap open_pushes c.self.view_is in
    let some : 0 < c.self.inside.pushes = search rules in
    let few : c.self.inside.pushes ≤ 15 = c.self.invariant.2 in
    judged_as cs command Closes (c.self.inside.pushes - 1) c.unless_full-in-Closes-2.result
    (sort ∙ ap Some c.in-Closes-2.is) (some_open (open_pushes cs) (omega (arith, n, some)))
    (ap (λ k. k - 1) n) (omega (arith, few)) c.unless_full-in-Closes-2.ensures

pub returns-in-Stays : goal.returns-in-Stays
returns-in-Stays c = λ command sort.
    let cs = c.args.self.now in
    let n : c.self.inside.pushes ≡ open_pushes cs =
    c.self.invariant.1 ∙ ap open_pushes c.self.view_is in
    judged_as cs command Stays c.self.inside.pushes c.unless_full-in-Stays.result
    (sort ∙ ap Some c.in-Stays.is) refl n c.self.invariant.2 c.unless_full-in-Stays.ensures
