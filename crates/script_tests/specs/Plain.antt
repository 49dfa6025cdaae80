-- Scripts that are seen at once to have ways for their messages, as tests write them: no plain
-- handlers, each view in the root, common filters, bodies of windows and their roots, each for a
-- word of its own.
use Rattle.std.specs.Prelude.{ℕ, ◌+◌, ◌==◌, Bool, true, false, ◌&&◌, nat_le, nat_lt, List, [], ◌∷◌}
use Rattle.std.specs.Prelude.{length}
use Rattle.std.specs.List.{list_all}
use Rattle.be_handler.specs.declared.Rule.{Rule}
use Rattle.be_handler.specs.declared.Rule.TheVariants.{Skip, Pass, Redirect}
use Rattle.be_handler.specs.Routes.{is_common}
use Rattle.be_message.specs.declared.target.Target.{Target}
use Rattle.be_message.specs.declared.target.Target.TheVariants.{Window, View, Plain}
use Rattle.be_script.specs.declared.BodyLine.{BodyLine}
use Rattle.be_script.specs.declared.DrawLine.{DrawLine}
use Rattle.be_script.specs.declared.FilterLine.{FilterLine}
use Rattle.be_script.specs.declared.ViewLine.{ViewLine}
use Rattle.be_script.specs.Script.{Declared}

-- the window or its root
abbrev pub is_near : Target → Bool
is_near Window = true
is_near (View v) = v == 0
is_near (Plain h) = false

abbrev pub leads_near : Rule → Bool
leads_near Skip = true
leads_near Pass = true
leads_near (Redirect target) = is_near target

abbrev pub is_plain_view : ℕ → ViewLine → Bool
is_plain_view windows line = nat_lt line.window windows && line.parent == 0

abbrev pub is_plain_filter : ℕ → FilterLine → Bool
is_plain_filter windows line =
    nat_lt line.window windows && is_common line.list && leads_near line.rule

-- from this word on, each word above the one before
abbrev pub are_plain_bodies : ℕ → ℕ → List BodyLine → Bool
are_plain_bodies windows low [] = true
are_plain_bodies windows low (line ∷ lines) =
    nat_lt line.window windows && is_near line.target && nat_le low line.what
    && are_plain_bodies windows (line.what + 1) lines

abbrev pub is_plain_draw : ℕ → DrawLine → Bool
is_plain_draw windows line = nat_lt line.window windows

abbrev pub is_plain : Declared → Bool
is_plain d =
    nat_le (length d.windows) 32
    && nat_lt (length d.views) 32
    && list_all (is_plain_view (length d.windows)) d.views
    && nat_lt (length d.handlers) 1
    && nat_le (length d.filters) 32
    && list_all (is_plain_filter (length d.windows)) d.filters
    && nat_le (length d.bodies) 512
    && are_plain_bodies (length d.windows) 0 d.bodies
    && list_all (is_plain_draw (length d.windows)) d.draws
