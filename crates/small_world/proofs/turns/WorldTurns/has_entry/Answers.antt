use Rattle.std.proofs.Common.{◌≡◌, ◌+◌, Some, sym, ap, ◌∙◌, arith, rules}
use Rattle.be_turns.specs.Turning.{is_some}
use Rattle.small_world.specs.Counting.{closing_place}
use Rattle.small_world.specs.Laws.{wish_close}
use Rattle.small_world.proofs.Telling.{is_told, can_step, legal_where, none_where, all_in_hand}
use Rattle.small_world.proofs.turns.WorldTurns.has_entry.Goals as goal

pub unwrap-requires : goal.unwrap-requires
unwrap-requires c =
    let w = c.args.self.now in
    let held = c.args.held.now.parts in
    let below = c.if-activity-closing.true in
    let t = is_told w held c.args.activity (all_in_hand held (closing_place w + 1) c.args.activity
    c.requires.all (omega arith)) in
    let is : c.has_work.result ≡ Some t.0 = c.has_work.ensures ∙ t.1 in
    search rules

pub returns-then-activity-closing : goal.returns-then-activity-closing
returns-then-activity-closing c =
    λ all s f. can_step c.args.self.now c.args.held.now.parts all c.args.activity c.unwrap.result
    (omega arith) (sym c.has_work.ensures ∙ c.unwrap.ensures) f

pub returns-in-May : goal.returns-in-May
returns-in-May c =
    λ all s f. sym (ap is_some (legal_where c.args.self.now all c.args.activity _
    (sym (wish_close c.args.self.now c.args.activity (omega arith))) (c.in-May.ensures all s f).0))

pub returns-in-MayNot : goal.returns-in-MayNot
returns-in-MayNot c =
    λ all s f. sym (ap is_some (none_where c.args.self.now all c.args.activity _
    (sym (wish_close c.args.self.now c.args.activity (omega arith))) (c.in-MayNot.ensures all s f)))

pub unreachable-requires : goal.unreachable-requires
unreachable-requires c =
    c.in-Needs.ensures.0 (all_in_hand c.args.held.now.parts (closing_place c.args.self.now + 1)
    c.in-Needs.field-0 c.requires.all c.in-Needs.ensures.1)
