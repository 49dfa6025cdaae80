-- What is kept of a looper, as its owner and the message in its hand.
use Rattle.std.specs.Prelude.{Option, Some, None}
use Rattle.be_looper.specs.Loopers as loopers
use Rattle.be_looper.specs.declared.Owner.{Owner}
use Rattle.be_looper.specs.declared.Owner.TheVariants.{Free, Own, App}
use Rattle.be_looper.specs.declared.holder.Holder.{Holder}
use Rattle.be_looper.specs.declared.holder.Holder.TheVariants as holders

abbrev pub owner_of : Holder → Owner
owner_of holders.Nobody = Free
owner_of (holders.App app) = App app
owner_of (holders.Itself handled) = Own

abbrev pub hand_of : Holder → Option loopers.Handled
hand_of holders.Nobody = None
hand_of (holders.App app) = None
hand_of (holders.Itself handled) =
    Some record { letter = handled.letter; message = handled.message; route = handled.route }
