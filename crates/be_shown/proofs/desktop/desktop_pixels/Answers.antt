use Rattle.std.proofs.Common.{◌≡◌, map, arith, ◌∙◌}
use Rattle.be_parts.specs.Parts.{meaning_of}
use Rattle.be_script.specs.Script.{declared_by}
use Rattle.be_shown.proofs.DesktopLemmas.{all_rows, count_after, row_more}
use Rattle.be_shown.proofs.desktop.desktop_pixels.Goals as goal

pub loop-row-preserved : goal.loop-row-preserved
loop-row-preserved c =
    let limit = c.requires.limits.counts.width.1 in
    let few = c.desktop_in_row.ensures.few in
    record {
      few = omega (arith, c.from-count.ensures);
      is = row_more (declared_by c.args.script.now) (map meaning_of c.args.parts.now) c.requires c.loop-row.row c.loop-row.count c.from-count.result c.loop-row.invariant.is (c.from-count.ensures ∙ c.desktop_in_row.ensures.now);
    }

pub returns-clause-now : goal.returns-clause-now
returns-clause-now c =
    let last : c.loop-row.row ≡ c.args.script.now.screen.1 = omega arith in
    all_rows (declared_by c.args.script.now) (map meaning_of c.args.parts.now) c.requires c.loop-row.row c.loop-row.count last c.loop-row.invariant.is

pub returns-clause-after : goal.returns-clause-after
returns-clause-after c = λ h legal is.
    let last : c.loop-row.row ≡ c.args.script.now.screen.1 = omega arith in
    all_rows (declared_by c.args.script.now) (map meaning_of c.args.parts.now) c.requires c.loop-row.row c.loop-row.count last c.loop-row.invariant.is
    ∙ count_after (declared_by c.args.script.now) (map meaning_of c.args.parts.now) h c.requires.limits legal is
