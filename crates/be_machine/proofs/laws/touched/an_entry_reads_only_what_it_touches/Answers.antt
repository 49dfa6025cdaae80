use Rattle.be_machine.proofs.ReadsEntries.{read_by}
use Rattle.be_machine.proofs.laws.touched.an_entry_reads_only_what_it_touches.Goals as goal

pub returns-clause-wanted : goal.returns-clause-wanted
returns-clause-wanted c = λ d g h e want agree. (read_by d g h e want agree.limits agree.first agree.second agree.legal agree.wanted agree.same).wanted

pub returns-clause-legal : goal.returns-clause-legal
returns-clause-legal c = λ d g h e want agree. (read_by d g h e want agree.limits agree.first agree.second agree.legal agree.wanted agree.same).legal

pub returns-clause-kept : goal.returns-clause-kept
returns-clause-kept c = λ d g h e want p agree same. (read_by d g h e want agree.limits agree.first agree.second agree.legal agree.wanted agree.same).kept p same

pub returns-clause-touches : goal.returns-clause-touches
returns-clause-touches c = λ d g h e want p agree. (read_by d g h e want agree.limits agree.first agree.second agree.legal agree.wanted agree.same).touches p
