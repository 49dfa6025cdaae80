-- Each law is a lemma.
use Rattle.be_port.proofs.LawLemmas.{answers, posts, notices, takes, empty}
use Rattle.be_port.proofs.law.queues_are_ports.Goals as goal

pub returns-clause-answers : goal.returns-clause-answers
returns-clause-answers c = answers

pub returns-clause-posts : goal.returns-clause-posts
returns-clause-posts c = posts

pub returns-clause-notices : goal.returns-clause-notices
returns-clause-notices c = notices

pub returns-clause-takes : goal.returns-clause-takes
returns-clause-takes c = takes

pub returns-clause-empty : goal.returns-clause-empty
returns-clause-empty c = empty
