-- What may be asked of the windows (the numbers are this project's own).
use Rattle.std.specs.Prelude.{pos, negsuc, Bool, true, ◌&&◌, nat_lt, length}
use Rattle.be_geom.specs.declared.change.Change.{Change}
use Rattle.be_geom.specs.declared.change.Change.TheVariants.{Show, Hide, MoveTo, MoveBy, ResizeTo}
use Rattle.be_geom.specs.declared.change.Change.TheVariants.{Activate, Behind, Focus, Close}
use Rattle.be_geom.specs.Points.{between}
use Rattle.be_stack.specs.Windows.{Windows, is_size}

-- a move goes by at most 65535 in each direction, and a width and a height are 0 to 32767
abbrev pub is_within_limits : Change → Bool
is_within_limits Show = true
is_within_limits Hide = true
is_within_limits (MoveTo corner) = true
is_within_limits (MoveBy dx dy) =
    between (negsuc 65534) dx (pos 65535) && between (negsuc 65534) dy (pos 65535)
is_within_limits (ResizeTo width height) = is_size width && is_size height
is_within_limits Activate = true
is_within_limits (Behind front) = true
is_within_limits (Focus view) = true
is_within_limits Close = true

-- the window that one is to go behind is there, open or closed
abbrev pub is_named_there : Windows → Change → Bool
is_named_there s Show = true
is_named_there s Hide = true
is_named_there s (MoveTo corner) = true
is_named_there s (MoveBy dx dy) = true
is_named_there s (ResizeTo width height) = true
is_named_there s Activate = true
is_named_there s (Behind front) = nat_lt front (length s.windows)
is_named_there s (Focus view) = true
is_named_there s Close = true
