-- What a command costs is what it still takes beside its drawing, its flush and its execution.
use Rattle.std.proofs.Common.{◌≡◌, ℕ, ◌+◌, refl}
use Rattle.be_command.specs.Effects.{Effect, at_view, changes, ends_update, Deed, draws, sets, colors, saves, restores, copies, invalidates}
use Rattle.be_geom.specs.declared.change.Change.{Change}
use Rattle.be_geom.specs.declared.change.Change.TheVariants.{Show, Hide, MoveTo, MoveBy, ResizeTo, Activate, Behind, Focus, Close}
use Rattle.be_script.specs.Work.{change_cost, deed_cost, effect_cost}
use Rattle.be_machine.specs.Shares.{change_exposure, deed_exposure, exposure}

change_costs : (updates : ℕ) (c : Change) → change_cost updates c ≡ 3 + change_exposure updates c
change_costs updates (Focus view) = refl
change_costs updates Show = refl
change_costs updates Hide = refl
change_costs updates (MoveTo corner) = refl
change_costs updates (MoveBy dx dy) = refl
change_costs updates (ResizeTo width height) = refl
change_costs updates Activate = refl
change_costs updates (Behind front) = refl
change_costs updates Close = refl

deed_costs : (updates : ℕ) (deed : Deed) → deed_cost updates deed ≡ 3 + deed_exposure updates deed
deed_costs updates (draws figure) = refl
deed_costs updates (sets setting) = refl
deed_costs updates (colors color) = refl
deed_costs updates saves = refl
deed_costs updates restores = refl
deed_costs updates (copies source at) = refl
deed_costs updates (invalidates r) = refl

pub effect_costs : (updates : ℕ) (e : Effect) → effect_cost updates e ≡ 3 + exposure updates e
effect_costs updates (at_view v deed) = deed_costs updates deed
effect_costs updates (changes change) = change_costs updates change
effect_costs updates ends_update = refl
