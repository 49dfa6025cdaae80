-- What the parts of the opening mean.
use Rattle.std.specs.Prelude.{slice_get, false}
use Rattle.std.specs.Option.{option_map}
use Rattle.std.proofs.Common.{◌≡◌, ℕ, ◌<◌, [], length, replicate, Some, refl, sym, ap, ◌∙◌}
use Rattle.std.proofs.lemmas.Option.{slice_get-map}
use Rattle.be_link.specs.Queues.{empty_buffer}
use Rattle.be_machine.specs.State.{free, opening_app, opening_desk, opening_state}
use Rattle.be_machine.specs.Touched as part
use Rattle.be_port.specs.Ports.{empty_port}
use Rattle.be_rules.specs.Slices.{desk, input, cell, looper, port, link, slice_of}
use Rattle.be_script.specs.Script.{Declared}
use Rattle.be_script.specs.declared.WindowLine.{WindowLine}
use Rattle.be_opening.proofs.Lists.{got_repeated}

pub desk_is : (d : Declared) → desk (opening_desk d) ≡ slice_of (opening_state d) part.desk
unfolding opening_state
desk_is d = refl

pub input_is : (d : Declared) → input 0 false ≡ slice_of (opening_state d) part.input
unfolding opening_state
input_is d = refl

pub cell_is : (d : Declared) (m : ℕ) → m < length d.apps → cell m (Some opening_app) ≡ slice_of (opening_state d) (part.cell m)
unfolding opening_state
cell_is d m less = ap (cell m) (sym (got_repeated (length d.apps) m opening_app less))

pub looper_is : (d : Declared) (w : ℕ) → w < length d.windows → looper w (Some free) (Some empty_buffer) ≡ slice_of (opening_state d) (part.looper w)
unfolding opening_state
looper_is d w less =
    ap (λ l. looper w l (Some empty_buffer)) (sym (got_repeated (length d.windows) w free less))
    ∙ ap (looper w (slice_get (replicate (length d.windows) free) w)) (sym (got_repeated (length d.windows) w empty_buffer less))

pub port_is : (d : Declared) (w : ℕ) (line : WindowLine) → slice_get d.windows w ≡ Some line → port w (Some (empty_port line.port)) ≡ slice_of (opening_state d) (part.port w)
unfolding opening_state
port_is d w line got = ap (port w) (sym (slice_get-map (λ line. empty_port line.port) d.windows w ∙ ap (option_map (λ line. empty_port line.port)) got))

pub link_is : (d : Declared) (w : ℕ) → w < length d.windows → link w (Some []) ≡ slice_of (opening_state d) (part.link w)
unfolding opening_state
link_is d w less = ap (link w) (sym (got_repeated (length d.windows) w [] less))
