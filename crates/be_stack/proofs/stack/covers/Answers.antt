use Rattle.std.proofs.Common.{refl}
use Rattle.std.proofs.lemmas.Int.{to_z-of_z}
use Rattle.std.proofs.lemmas.Option.{slice_get_read}
use Rattle.be_stack.proofs.ReadLemmas.{covers_read}
use Rattle.be_stack.proofs.stack.covers.Goals as goal

pub returns-in-Some : goal.returns-in-Some
returns-in-Some c =
    let f = c.ranges.x in
    let g = c.ranges.y in
    covers_read c.args.windows.now c.in-Some.window.now c.from.result c.args.w c.args.x c.args.y c.covers_pixel.result c.from.ensures (slice_get_read c.args.windows.now _ c.from.result c.in-Some.window.now refl c.in-Some.ensures.lookup.3.0 c.in-Some.ensures.lookup.1) (simp to_z-of_z at c.covers_pixel.ensures)
