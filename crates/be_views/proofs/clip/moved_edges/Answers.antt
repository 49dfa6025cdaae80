use Rattle.std.proofs.Common.{◌+ℤ◌, ◌≤ℤ◌, ◌<ℤ◌, rules, SFits, w16, w32, arith}
use Rattle.std.proofs.lemmas.Int.{to_z-of_z, ints}
use Rattle.be_views.proofs.ClipLemmas.{edges_some, edges_none, first_fits, last_fits}
use Rattle.be_views.proofs.clip.moved_edges.Goals as goal

pub returns-then-first-last : goal.returns-then-first-last
returns-then-first-last c =
    let low = c.ranges.low in
    let high = c.ranges.high in
    let by = c.ranges.by in
    let near = c.requires in
    let m : SFits w32 c.max-first.result = search rules in
    let n : SFits w32 c.min-last.result = search rules in
    let f : SFits w32 c.from.result = search rules in
    let g : SFits w32 c.from-2.result = search rules in
    let from = simp to_z-of_z at c.from.ensures in
    let to = simp to_z-of_z at c.from-2.ensures in
    let s : SFits w32 (c.from.result +ℤ c.args.by) = search rules in
    let t : SFits w32 (c.from-2.result +ℤ c.args.by) = search rules in
    let first = rw from at (simp to_z-of_z at c.max-first.ensures.value) in
    let last = rw to at (simp to_z-of_z at c.min-last.ensures.value) in
    let less = simp to_z-of_z at c.if-first-last.true in
    let before : c.max-first.result ≤ℤ c.min-last.result = omega (arith, ints) in
    let a : SFits w16 c.max-first.result = first_fits c.args.low c.args.high c.args.by c.max-first.result c.min-last.result first last before in
    let b : SFits w16 c.min-last.result = last_fits c.args.low c.args.high c.args.by c.max-first.result c.min-last.result first last before in
    λ z h. simp to_z-of_z (edges_some c.args.low c.args.high c.args.by c.max-first.result c.min-last.result z first last before h)

pub returns-else-first-last : goal.returns-else-first-last
returns-else-first-last c =
    let low = c.ranges.low in
    let high = c.ranges.high in
    let by = c.ranges.by in
    let near = c.requires in
    let m : SFits w32 c.max-first.result = search rules in
    let n : SFits w32 c.min-last.result = search rules in
    let f : SFits w32 c.from.result = search rules in
    let g : SFits w32 c.from-2.result = search rules in
    let from = simp to_z-of_z at c.from.ensures in
    let to = simp to_z-of_z at c.from-2.ensures in
    let s : SFits w32 (c.from.result +ℤ c.args.by) = search rules in
    let t : SFits w32 (c.from-2.result +ℤ c.args.by) = search rules in
    let first = rw from at (simp to_z-of_z at c.max-first.ensures.value) in
    let last = rw to at (simp to_z-of_z at c.min-last.ensures.value) in
    let more = simp to_z-of_z at c.if-first-last.false in
    let behind : c.min-last.result <ℤ c.max-first.result = omega (arith, ints) in
    λ z h. edges_none c.args.low c.args.high c.args.by c.max-first.result c.min-last.result z first last behind h
