use Rattle.std.proofs.Common.{◌+◌, Bool, Some, sym, ap, ◌∙◌}
use Rattle.std.specs.Prelude.{if◌then◌else◌}
use Rattle.std.specs.BTreeSet.{btree_set_len}
use Rattle.be_summary.proofs.Sets.{added, last_is, same_again}
use Rattle.be_summary.proofs.colors.add_color.Goals as goal

pub returns : goal.returns
returns c =
    λ others cell is has.
    added others cell c.args.rgb c.args.colors.now c.insert.new.self is has
    c.in_ok-insert.ensures.updates
    (c.in_ok-insert.ensures.len
    ∙ ap (λ (b : Bool). btree_set_len c.args.colors.now.seen + (if b then 1 else 0))
    c.in_ok-insert.ensures.added)

pub returns-then-eq : goal.returns-then-eq
returns-then-eq c =
    λ others cell is has.
    same_again others cell c.args.colors.now
    (last_is c.args.colors.now.last c.args.rgb (sym c.if-eq.ensures) ∙ ap Some (sym is)) has
