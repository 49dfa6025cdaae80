use Rattle.be_machine.proofs.BalanceEnd.{all_claimed}
use Rattle.be_machine.proofs.BalanceHistory.{balanced_after}
use Rattle.be_machine.proofs.OrderlyHistory.{goes_from_opening, even}
use Rattle.be_machine.proofs.laws.orderly.every_history_is_orderly.Goals as goal

pub returns : goal.returns
returns c = λ d h limits legal. record {
  in_turn = λ w. (goes_from_opening d h w limits legal).in_turn;
  covered = λ kind. (balanced_after kind d h limits legal).covered;
  none_left = even d h limits legal;
  all_claimed = λ stop kind. all_claimed kind d h limits legal stop;
}
