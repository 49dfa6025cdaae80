use Rattle.app_server.proofs.SomeJudged.{some_judgement}
use Rattle.app_server.proofs.OneJudged.{one_judgement}
use Rattle.app_server.proofs.laws.each_input_has_one_judgement.Goals as goal

pub returns-clause-some : goal.returns-clause-some
returns-clause-some c =
    some_judgement c.every_history_is_orderly.ensures c.each_seed_has_one_history.ensures.there
    c.a_report_tells_its_history.ensures.tells c.a_history_is_finished_or_illegal.ensures.one
    c.what_is_made_is_a_script.ensures

pub returns-clause-alone : goal.returns-clause-alone
returns-clause-alone c =
    one_judgement c.a_history_is_finished_or_illegal.ensures.not_both
    c.a_history_is_finished_or_illegal.ensures.alone
