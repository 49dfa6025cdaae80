use Rattle.std.proofs.Common.{◌≡◌, arith, sym, ◌∙◌, ◌-◌, false}
use Rattle.be_message.specs.Fields.{has_name}
use Rattle.be_message.specs.Views.{seen_field}
use Rattle.be_message.proofs.PlaceLemmas.{missing_more}
use Rattle.be_message.proofs.fields.place_of.Goals as goal

pub loop-place-preserved : goal.loop-place-preserved
loop-place-preserved c =
    let differs : has_name c.args.name.now (seen_field c.index-fields-place.result) ≡ false = rw (← c.name.ensures) (sym c.eq.ensures ∙ c.if-eq.false) in
    record {
      within = omega arith;
      none_behind = missing_more _ _ (c.loop-place.place - 1) c.loop-place.place c.index-fields-place.result (omega arith) (omega arith) c.loop-place.invariant.none_behind c.index-fields-place.is differs;
    }
