use Rattle.std.proofs.Common.{pos, ◌-ℤ◌, ◌≤ℤ◌, ◌<ℤ◌, SFits, w32, sym, ◌∙◌, arith, rules}
use Rattle.std.proofs.lemmas.Int.{to_z-of_z, ints}
use Rattle.be_geom.proofs.Between.{is_between, is_below, is_above}
use Rattle.be_shape.proofs.FrameLemmas.{less_of_test, not_less_of_test, more_of_test, not_more_of_test}
use Rattle.be_shape.proofs.row.Span.alike.Goals as goal

pub returns-then-z-self-clause-same : goal.returns-then-z-self-clause-same
returns-then-z-self-clause-same c =
    let s = c.args.self in
    let z = c.args.z in
    let low = c.requires.low in
    let forward = c.requires.forward in
    let high = c.requires.high in
    let f : SFits w32 s.first = search rules in
    let g : SFits w32 (s.first -ℤ pos 1) = search rules in
    let h : SFits w32 z = c.ranges.z in
    let before : z <ℤ s.first = less_of_test z s.first (simp to_z-of_z at c.if-z-self.true) in
    simp to_z-of_z (λ w from to. is_below s.first w s.last (omega (arith, ints)) ∙ sym (is_below s.first z s.last before))

pub returns-then-z-self-2-clause-same : goal.returns-then-z-self-2-clause-same
returns-then-z-self-2-clause-same c =
    let s = c.args.self in
    let z = c.args.z in
    let low = c.requires.low in
    let forward = c.requires.forward in
    let high = c.requires.high in
    let f : SFits w32 s.first = search rules in
    let g : SFits w32 s.last = search rules in
    let h : SFits w32 z = c.ranges.z in
    let begins : s.first ≤ℤ z = not_less_of_test z s.first (simp to_z-of_z at c.if-z-self.false) in
    let ends : z ≤ℤ s.last = not_more_of_test z s.last (simp to_z-of_z at c.if-z-self-2.true) in
    simp to_z-of_z (λ w from to. is_between s.first w s.last (omega (arith, ints)) to ∙ sym (is_between s.first z s.last begins ends))

pub returns-else-z-self-2-clause-same : goal.returns-else-z-self-2-clause-same
returns-else-z-self-2-clause-same c =
    let s = c.args.self in
    let z = c.args.z in
    let low = c.requires.low in
    let forward = c.requires.forward in
    let high = c.requires.high in
    let g : SFits w32 s.last = search rules in
    let h : SFits w32 z = c.ranges.z in
    let behind : s.last <ℤ z = more_of_test z s.last (simp to_z-of_z at c.if-z-self-2.false) in
    λ w from to. is_above s.first w s.last (omega (arith, ints)) ∙ sym (is_above s.first z s.last behind)
