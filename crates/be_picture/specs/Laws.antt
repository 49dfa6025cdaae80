-- What is proved of pictures. Each statement is the contract of a function in src/laws.
use Rattle.std.specs.Prelude.{◌≡◌, ◌≤◌, All, List, [], ◌∷◌, length, None, Ok}
use Rattle.be_bitmap.specs.Pictures.{Picture}
use Rattle.be_color.specs.declared.colors.Color.{Color}
use Rattle.be_command.specs.declared.Command.{Command}
use Rattle.be_command.specs.Laws.{AreKnown, IsSpoken}
use Rattle.be_command.specs.Names.{Known}
use Rattle.be_state.specs.Stacks.{Stack}
use Rattle.be_picture.specs.Playing.{OffScreen, played_on}
use Rattle.be_picture.specs.Recording.{IsRecorded}
use Rattle.be_picture.specs.Text.{picture_of, picture_text}

-- the text of a picture, each of whose commands has a line, is read again as that picture
abbrev pub TextIsPicture : Type 0
TextIsPicture =
    (known : Known) (picture : List Command) → AreKnown known → IsRecorded picture
    → All (IsSpoken known) picture → length (picture_text known picture) ≤ 1048576
    → picture_of known (picture_text known picture) ≡ Ok picture

-- one view, of which no state is saved, and no open update
pub record IsOfOneView (off : OffScreen) : Type 0 where
  pub color : Color
  pub stack : Stack
  pub colors : off.pane.colors ≡ color ∷ []
  pub stacks : off.pane.stacks ≡ stack ∷ []
  pub none_saved : stack.saved ≡ []
  pub closed : off.pane.session ≡ None

-- playing a picture leaves the drawing states as they were; the view's colour may be another
abbrev pub PlayingRestores : Type 0
PlayingRestores =
    (bitmaps : List Picture) (off : OffScreen) (picture : List Command) → IsRecorded picture
    → IsOfOneView off → (played_on bitmaps off picture).pane.stacks ≡ off.pane.stacks
