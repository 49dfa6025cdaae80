-- From row to row.
use Rattle.std.proofs.Common.{refl, ◌∙◌, arith, rules, SFits, w32}
use Rattle.std.proofs.lemmas.Int.{to_z-of_z}
use Rattle.std.specs.Option.{option_map}
use Rattle.be_span.specs.Spans.{block}
use Rattle.be_span.proofs.BlockLemmas.{all_done, in_row, none_done, row_done, row_is}
use Rattle.be_span.proofs.write.write_rows.Goals as goal

pub loop-row-init : goal.loop-row-init
loop-row-init g c = record { len = refl; done = none_done _ _ _ }

pub write_in-requires-clause-run : goal.write_in-requires-clause-run
write_in-requires-clause-run g c k less =
    let x : SFits w32 c.row_of-first.result.x = search rules in
    let y : SFits w32 c.row_of-first.result.y = search rules in
    simp to_z-of_z (c.requires.inside _ _ (in_row c.args.part _ _ _ _ _ k c.requires.some c.row_of-first.ensures.across c.row_of-first.ensures.down c.width_of-width.ensures c.height_of-row-end.ensures c.loop-row-test.true less))

pub write_in-requires-clause-known : goal.write_in-requires-clause-known
write_in-requires-clause-known g c k less =
    let x : SFits w32 c.row_of-first.result.x = search rules in
    let y : SFits w32 c.row_of-first.result.y = search rules in
    simp to_z-of_z (c.requires.known _ _ (in_row c.args.part _ _ _ _ _ k c.requires.some c.row_of-first.ensures.across c.row_of-first.ensures.down c.width_of-width.ensures c.height_of-row-end.ensures c.loop-row-test.true less))

pub loop-row-preserved : goal.loop-row-preserved
loop-row-preserved g c =
    let x : SFits w32 c.row_of-first.result.x = search rules in
    let y : SFits w32 c.row_of-first.result.y = search rules in
    let here = row_is c.args.part _ _ _ _ _ c.requires.some c.row_of-first.ensures.across c.row_of-first.ensures.down c.width_of-width.ensures c.height_of-row-end.ensures c.loop-row-test.true in
    let done = simp to_z-of_z at c.write_in.ensures.written in
    let others = simp to_z-of_z at c.write_in.ensures.others in
    record {
      len = c.write_in.ensures.len ∙ c.loop-row.invariant.len;
      done = row_done (λ x y. option_map (λ d. g.W.Write.cell c.args.write.now x y)) (block c.args.frame c.args.cells.now) (block c.args.frame c.loop-row.cells) (block c.args.frame c.write_in.new.cells) c.args.part _ _ _ _ _ here c.loop-row.invariant.done done others;
    }

pub returns-clause-painted : goal.returns-clause-painted
returns-clause-painted g c = record {
  region = refl;
  cells = all_done (λ x y. option_map (λ d. g.W.Write.cell c.args.write.now x y)) (block c.args.frame c.args.cells.now) (block c.args.frame c.loop-row.cells) c.args.part c.loop-row.row c.height_of-row-end.result c.requires.some c.height_of-row-end.ensures (omega arith) c.loop-row.invariant.done;
}
