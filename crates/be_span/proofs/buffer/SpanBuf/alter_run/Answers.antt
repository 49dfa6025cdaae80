-- A row altered.
use Rattle.std.proofs.Common.{pos, ◌+ℤ◌, sym, ap, ◌∙◌}
use Rattle.std.specs.Option.{option_map}
use Rattle.std.proofs.lemmas.Int.{to_z-of_z}
use Rattle.be_span.specs.Painting.{changed}
use Rattle.be_span.specs.Seen.{IsSeen}
use Rattle.be_span.specs.Spans.{cell_in}
use Rattle.be_span.proofs.BufferLemmas.{cell_is, cell_stays, rects_are, run_kept, run_of, seen_run}
use Rattle.be_span.proofs.SeenLemmas.{seen_cell, seen_rects}
use Rattle.be_span.proofs.buffer.SpanBuf.alter_run.Given as given
use Rattle.be_span.proofs.buffer.SpanBuf.alter_run.Goals as goal

pub alter-requires-clause-run : goal.alter-requires-clause-run
alter-requires-clause-run g c =
    simp (to_z-of_z, c.ranges.x, c.ranges.y) (run_kept c.self.inside.region c.self.inside.grid c.args.self.now c.args.x c.args.y c.args.count c.self.invariant c.self.view_is c.requires.run)

kept : (g : given.Over) (c : goal.After-alter g) → IsSeen c.self.inside.region c.alter.new.self
kept g c =
    let others = simp (to_z-of_z, c.ranges.x, c.ranges.y) at c.alter.ensures.others in
    seen_run c.self.inside.region c.self.inside.grid c.alter.new.self c.args.x c.args.y c.args.count c.self.invariant c.alter.ensures.frame c.alter.ensures.whole (run_of c.self.inside.region c.self.inside.grid c.args.self.now c.args.x c.args.y c.args.count c.self.view_is c.requires.run) others

pub invariant_of-self : goal.invariant_of-self
invariant_of-self g c = kept g c

pub returns-clause-region : goal.returns-clause-region
returns-clause-region g c = seen_rects c.self.inside.region c.alter.new.self ∙ sym (rects_are c.self.inside.region c.self.inside.grid c.args.self.now c.self.view_is)

pub returns-clause-altered : goal.returns-clause-altered
returns-clause-altered g c k less =
    let altered = simp (to_z-of_z, c.ranges.x, c.ranges.y) at c.alter.ensures.altered in
    let has = run_of c.self.inside.region c.self.inside.grid c.args.self.now c.args.x c.args.y c.args.count c.self.view_is c.requires.run k less in
    seen_cell c.self.inside.region c.alter.new.self (c.args.x +ℤ pos k) c.args.y (kept g c) has ∙ altered k less
    ∙ ap (option_map (changed (g.A.Alter.rule c.args.alter.now) (g.A.Alter.at c.args.alter.now) (c.args.x +ℤ pos k) c.args.y)) (sym (cell_is c.self.inside.region c.self.inside.grid c.args.self.now (c.args.x +ℤ pos k) c.args.y c.self.invariant c.self.view_is has))

pub returns-clause-others : goal.returns-clause-others
returns-clause-others g c z w beside =
    let others = simp (to_z-of_z, c.ranges.x, c.ranges.y) at c.alter.ensures.others in
    cell_stays c.self.inside.region c.self.inside.grid c.alter.new.self z w c.self.invariant (kept g c) (others z w beside) ∙ ap (λ s. cell_in s z w) c.self.view_is
