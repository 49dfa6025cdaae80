use Rattle.std.proofs.Common.{rules, ◌≡◌, ◌≢◌, ◌<◌, ◌≤◌, ◌+◌, [], All, length, sym, ap, ◌∙◌, subst, slice_index_or}
use Rattle.std.proofs.lemmas.List.Elements.{All-push, All-get_or}
use Rattle.be_facts.proofs.Lists.{length_push}
use Rattle.be_hall.specs.Words.{IsPassOf, in_hand, rules_of}
use Rattle.hall_counters.specs.declared.transfer.Transfer.{Transfer}
use Rattle.hall_counters.specs.declared.turns.Turn.{Turn}
use Rattle.hall_counters.proofs.turns.run.Goals as goal

pub loop-i-preserved : goal.loop-i-preserved
loop-i-preserved g c =
    let i = c.loop-i.invariant in
    let hall = c.in_ok-hall.hall in
    let places = ap (λ r. r.places) c.in_ok-hall.ensures.pass.1 in
    let good = λ (t : Turn). IsPassOf (λ x. x.count) hall t.pass × (in_hand t.pass ≡ []) × (t.transfer.source < (rules_of hall).places) × (t.transfer.target < (rules_of hall).places) × (t.transfer.source ≢ t.transfer.target) in
    let told = All-get_or (λ (t : Transfer). (t.source < c.args.rules.places) × (t.target < c.args.rules.places) × (t.source ≢ t.target)) c.args.transfers.now c.loop-i.i record { source = 0; target = 0 } (search rules) c.requires in (
      c.in_ok-part.ensures.hall,
      ap (λ h. h.parts) c.in_ok-part.ensures.held ∙ i.1,
      subst (All good) (sym c.push_reserved.ensures.items) (All-push good c.loop-i.turns.items _ i.2 (c.in_ok-part.ensures.new_hall, c.in_ok-part.ensures.new.1, subst (λ n. (slice_index_or c.args.transfers.now c.loop-i.i record { source = 0; target = 0 }).source < n) (sym places) told.0, subst (λ n. (slice_index_or c.args.transfers.now c.loop-i.i record { source = 0; target = 0 }).target < n) (sym places) told.1, told.2)),
      ap length c.push_reserved.ensures.items ∙ (length_push c.loop-i.turns.items _ ∙ ap (λ n. n + 1) i.3),
      subst (λ n. length c.args.transfers.now ≤ n) (sym c.push_reserved.ensures.capacity) i.4,
    )
