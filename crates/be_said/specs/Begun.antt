-- What was begun, as the code keeps it (this project's own).
use Rattle.be_said.specs.declared.begun.Begun.{Begun}
use Rattle.be_said.specs.declared.begun.Begun.TheVariants as begun
use Rattle.be_said.specs.SoFar as sofar

abbrev pub seen_begun : Begun → sofar.Begun
seen_begun begun.Nothing = sofar.nothing
seen_begun (begun.Bitmap name width height colors) = sofar.bitmap name width height colors.items
seen_begun (begun.HandlerBody w target what steps) = sofar.handler_body w target what steps.items
seen_begun (begun.DrawBody w v steps) = sofar.draw_body w v steps.items
seen_begun (begun.Program name lock steps) = sofar.program name lock steps.items
