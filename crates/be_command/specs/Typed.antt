-- What the types of the code say of a command's numbers: coordinates of 16 bits, and bytes.
use Rattle.std.specs.Prelude.{◌≡◌, true, List, Option, Some, None}
use Rattle.be_geom.specs.declared.change.Change.{Change}
use Rattle.be_geom.specs.declared.change.Change.TheVariants.{Show, Hide, MoveTo, MoveBy, ResizeTo}
use Rattle.be_geom.specs.declared.change.Change.TheVariants.{Activate, Behind, Focus, Close}
use Rattle.be_geom.specs.declared.rect.Rect.{Rect}
use Rattle.be_lex.specs.Colors.{is_color}
use Rattle.be_lex.specs.Patterns.{is_pattern}
use Rattle.be_command.specs.declared.Command.{Command}
use Rattle.be_command.specs.Effects.{Figure, filled, framed, lined, written, pictured, Setting}
use Rattle.be_command.specs.Effects.{high_color, low_color, drawing_mode, pen_size, pen_place}
use Rattle.be_command.specs.Effects.{origin, clipping, Deed, draws, sets, colors, saves, restores}
use Rattle.be_command.specs.Effects.{copies, invalidates, Effect, at_view, changes, ends_update}
use Rattle.be_command.specs.Effects.{effect_of}
use Rattle.be_command.specs.Laws.{IsPoint, IsRect, AreRects}

abbrev pub IsTypedFigure : Figure → Type 0
IsTypedFigure (filled r p) = IsRect r × (is_pattern p ≡ true)
IsTypedFigure (framed r p) = IsRect r × (is_pattern p ≡ true)
IsTypedFigure (lined from to p) = IsPoint from × (IsPoint to × (is_pattern p ≡ true))
IsTypedFigure (written text) = Unit {0}
IsTypedFigure (pictured b at) = IsPoint at

abbrev pub AreTypedRects : Option (List Rect) → Type 0
AreTypedRects None = Unit {0}
AreTypedRects (Some rects) = AreRects rects

abbrev pub IsTypedSetting : Setting → Type 0
IsTypedSetting (high_color c) = is_color c ≡ true
IsTypedSetting (low_color c) = is_color c ≡ true
IsTypedSetting (drawing_mode m) = Unit {0}
IsTypedSetting (pen_size n) = Unit {0}
IsTypedSetting (pen_place at) = IsPoint at
IsTypedSetting (origin at) = IsPoint at
IsTypedSetting (clipping rects) = AreTypedRects rects

abbrev pub IsTypedDeed : Deed → Type 0
IsTypedDeed (draws figure) = IsTypedFigure figure
IsTypedDeed (sets setting) = IsTypedSetting setting
IsTypedDeed (colors c) = is_color c ≡ true
IsTypedDeed saves = Unit {0}
IsTypedDeed restores = Unit {0}
IsTypedDeed (copies r at) = IsRect r × IsPoint at
IsTypedDeed (invalidates r) = IsRect r

abbrev pub IsTypedChange : Change → Type 0
IsTypedChange Show = Unit {0}
IsTypedChange Hide = Unit {0}
IsTypedChange (MoveTo corner) = IsPoint corner
IsTypedChange (MoveBy dx dy) = Unit {0}
IsTypedChange (ResizeTo width height) = Unit {0}
IsTypedChange Activate = Unit {0}
IsTypedChange (Behind front) = Unit {0}
IsTypedChange (Focus view) = Unit {0}
IsTypedChange Close = Unit {0}

abbrev pub IsTypedEffect : Effect → Type 0
IsTypedEffect (at_view v deed) = IsTypedDeed deed
IsTypedEffect (changes change) = IsTypedChange change
IsTypedEffect ends_update = Unit {0}

abbrev pub IsTyped : Command → Type 0
IsTyped c = IsTypedEffect (effect_of c)
