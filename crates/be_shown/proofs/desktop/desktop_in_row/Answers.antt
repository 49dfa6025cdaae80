use Rattle.std.proofs.Common.{◌≤◌, ◌+◌, length, map, pos, arith, sym, ap, ◌∙◌}
use Rattle.be_facts.proofs.Lists.{get_map}
use Rattle.be_parts.specs.Parts.{meaning_of}
use Rattle.be_script.specs.Script.{declared_by}
use Rattle.be_shown.specs.Pixels.{pixel_in}
use Rattle.be_shown.proofs.DesktopLemmas.{free_run, owned_run}
use Rattle.be_shown.proofs.Owners.{from_map}
use Rattle.be_shown.proofs.Rows.{cells_within}
use Rattle.be_shown.proofs.desktop.desktop_in_row.Goals as goal

pub overflow_cast-column : goal.overflow_cast-column
overflow_cast-column c =
    let d = declared_by c.args.script.now in
    let there = get_map meaning_of c.args.parts.now c.in-Owned.ensures.place c.in-Owned.part.now c.in-Owned.ensures.there in
    let within : c.loop-column.column + length c.cells_from.result.now ≤ c.args.script.now.screen.0 = cells_within d (map meaning_of c.args.parts.now) c.requires.sound c.in-Owned.ensures.place (meaning_of c.in-Owned.part.now) c.loop-column.column c.args.row c.cells_from.result.now c.loop-column-test.true there c.cells_from.ensures.cells in
    let limit = c.requires.sound.limits.counts.width.1 in
    omega arith

pub overflow_add-column : goal.overflow_add-column
overflow_add-column c =
    let d = declared_by c.args.script.now in
    let there = get_map meaning_of c.args.parts.now c.in-Owned.ensures.place c.in-Owned.part.now c.in-Owned.ensures.there in
    let within : c.loop-column.column + length c.cells_from.result.now ≤ c.args.script.now.screen.0 = cells_within d (map meaning_of c.args.parts.now) c.requires.sound c.in-Owned.ensures.place (meaning_of c.in-Owned.part.now) c.loop-column.column c.args.row c.cells_from.result.now c.loop-column-test.true there c.cells_from.ensures.cells in
    let limit = c.requires.sound.limits.counts.width.1 in
    omega arith

pub loop-column-preserved-in-Owned : goal.loop-column-preserved-in-Owned
loop-column-preserved-in-Owned c =
    let d = declared_by c.args.script.now in
    let there = get_map meaning_of c.args.parts.now c.in-Owned.ensures.place c.in-Owned.part.now c.in-Owned.ensures.there in
    let within : c.loop-column.column + length c.cells_from.result.now ≤ c.args.script.now.screen.0 = cells_within d (map meaning_of c.args.parts.now) c.requires.sound c.in-Owned.ensures.place (meaning_of c.in-Owned.part.now) c.loop-column.column c.args.row c.cells_from.result.now c.loop-column-test.true there c.cells_from.ensures.cells in
    record {
      within = within;
      few = omega arith;
      is = c.loop-column.invariant.is ∙ sym (owned_run d (map meaning_of c.args.parts.now) c.requires.sound c.in-Owned.ensures.place (meaning_of c.in-Owned.part.now) c.loop-column.column c.args.row c.cells_from.result.now within there c.cells_from.ensures.cells);
    }

pub loop-column-preserved : goal.loop-column-preserved
loop-column-preserved c =
    let d = declared_by c.args.script.now in
    let parts = c.args.parts.now in
    let free = c.in-Desktop.ensures in
    record {
      within = c.in-Desktop.ensures.within;
      few = omega arith;
      is =
          ap (λ n. n + c.in-Desktop.free) c.loop-column.invariant.is
          ∙ sym (free_run d (map meaning_of parts) c.requires.sound c.loop-column.column c.args.row c.in-Desktop.free c.requires.row c.in-Desktop.ensures.within (λ k slice at j lt. let found = from_map meaning_of parts k slice at in ap (λ z. pixel_in z (pos (c.loop-column.column + j)) (pos c.args.row)) found.2 ∙ c.in-Desktop.ensures.none k found.0 found.1 j lt));
    }
