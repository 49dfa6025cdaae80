use Rattle.be_machine.proofs.PixelExposed.{screen_whole, owned_cell_after, owned_view, owned_color, exposed_color}
use Rattle.be_machine.proofs.PixelViews.{HasView}
use Rattle.be_machine.specs.History.{state_after}
use Rattle.be_machine.proofs.laws.cells.every_owned_pixel_has_a_view_and_a_color.Goals as goal

pub returns-clause-whole : goal.returns-clause-whole
returns-clause-whole c = screen_whole

pub returns-clause-cells : goal.returns-clause-cells
returns-clause-cells c = owned_cell_after

pub returns-clause-views : goal.returns-clause-views
returns-clause-views c = λ d h w x y legal owner. (let at : HasView (state_after d h).desk w x y = owned_view d h w x y legal owner in (at.view, at.is))

pub returns-clause-colors : goal.returns-clause-colors
returns-clause-colors c = owned_color

pub returns-clause-exposed : goal.returns-clause-exposed
returns-clause-exposed c = exposed_color
