-- What the code's values of input stand for.
use Rattle.std.specs.Prelude.{ℕ, List, Option, option_map, option_and_then}
use Rattle.be_geom.specs.declared.point.Point.{Point}
use Rattle.be_geom.specs.Places.{at_pixel, less}
use Rattle.be_message.specs.Messages.{Message}
use Rattle.be_message.specs.Words.{mouse_down, mouse_up}
use Rattle.be_stack.specs.Windows.{Windows}
use Rattle.be_views.specs.Trees.{Tree}
use Rattle.be_input.specs.declared.message.Mouse.{Mouse}
use Rattle.be_input.specs.declared.message.Mouse.TheVariants.{Down, Up, Moved}
use Rattle.be_input.specs.declared.message.Place.{Place}
use Rattle.be_input.specs.declared.message.Transit.{Transit}
use Rattle.be_input.specs.declared.message.Transit.TheVariants.{Entered, Inside, Exited}
use Rattle.be_input.specs.declared.Delivery as declared
use Rattle.be_input.specs.declared.Post as sent
use Rattle.be_input.specs.Deliveries.{Post, Delivery, where_message, transit_message, place_in}
use Rattle.be_input.specs.Pointing.{corner_of}

abbrev pub at_place : Place → Point
at_place place = at_pixel place.x place.y

abbrev pub transit_number : Transit → ℕ
transit_number Entered = 0
transit_number Inside = 1
transit_number Exited = 2

-- a message about the mouse at a place of a view
abbrev pub mouse_message : Mouse → Point → Message
mouse_message Down p = where_message mouse_down p
mouse_message Up p = where_message mouse_up p
mouse_message (Moved transit) p = transit_message (transit_number transit) p

-- a pixel as it is seen from a view's left top
abbrev pub place_seen : Windows → List Tree → Point → ℕ × ℕ → Option Point
place_seen windows trees p at =
    option_and_then (λ corner. option_map (λ place. less (less p corner) place) (place_in trees at))
    (corner_of windows at.0)

abbrev pub seen_post : sent.Post → Post
seen_post post = record { window = post.window; target = post.target; message = post.message }

abbrev pub seen_delivery : declared.Delivery → Delivery
seen_delivery d = record {
  activate = d.activate;
  first = option_map seen_post d.first;
  second = option_map seen_post d.second;
  under = d.under;
}
