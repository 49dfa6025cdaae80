-- What holds of the rules of a script's run.
use Rattle.std.specs.Prelude.{◌≡◌, List}
use Rattle.be_bitmap.specs.Pictures.{Picture}
use Rattle.be_handler.specs.Routes.{Chain}
use Rattle.be_ready.specs.Chains.{chains_of}
use Rattle.be_script.specs.Limits.{IsWithinLimits}
use Rattle.be_script.specs.Script.{Declared}

-- the script is within the limits, and these are its bitmaps, and the chains of its windows
pub record IsWorld (d : Declared) (bitmaps : List Picture) (chains : List Chain) : Type 0 where
  pub limits : IsWithinLimits d
  pub bitmaps_are : bitmaps ≡ d.pictures
  pub chains_are : chains ≡ chains_of d
