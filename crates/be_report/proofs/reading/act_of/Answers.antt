use Rattle.std.proofs.Common.{refl}
use Rattle.be_script.specs.Script.{declared_by}
use Rattle.be_report.specs.declared.kind.Kind.TheVariants as kind
use Rattle.be_report.specs.Entries.{act_of}
use Rattle.be_report.proofs.CodeLemmas.{or_bad_entry}
use Rattle.be_report.proofs.reading.act_of.Goals as goal

pub returns-in-Take : goal.returns-in-Take
returns-in-Take c =
    let d = declared_by c.args.script.now in
    rw (c.in-Take.is, c.or_bad_entry-in-Take.ensures) (or_bad_entry (act_of d kind.Take) c.args.words.now c.take.new.words c.take.result (c.take.ensures d))

pub returns-in-Reply : goal.returns-in-Reply
returns-in-Reply c =
    let d = declared_by c.args.script.now in
    rw (c.in-Reply.is, c.or_bad_entry-in-Reply.ensures) (or_bad_entry (act_of d kind.Reply) c.args.words.now c.reply.new.words c.reply.result (c.reply.ensures d))

pub returns-in-Claim : goal.returns-in-Claim
returns-in-Claim c =
    let d = declared_by c.args.script.now in
    rw (c.in-Claim.is, c.or_bad_entry-in-Claim.ensures) (or_bad_entry (act_of d kind.Claim) c.args.words.now c.claim.new.words c.claim.result (c.claim.ensures d))

pub returns-in-Exec : goal.returns-in-Exec
returns-in-Exec c =
    let d = declared_by c.args.script.now in
    rw (c.in-Exec.is, c.or_bad_entry-in-Exec.ensures) (or_bad_entry (act_of d kind.Exec) c.args.words.now c.exec.new.words c.exec.result (c.exec.ensures d))

pub returns-in-Notify : goal.returns-in-Notify
returns-in-Notify c =
    let d = declared_by c.args.script.now in
    rw (c.in-Notify.is, c.or_bad_entry-in-Notify.ensures) (or_bad_entry (act_of d kind.Notify) c.args.words.now c.notify.new.words c.notify.result (c.notify.ensures d))

pub returns-in-Begin : goal.returns-in-Begin
returns-in-Begin c =
    let d = declared_by c.args.script.now in
    rw (c.in-Begin.is, c.or_bad_entry-in-Begin.ensures) (or_bad_entry (act_of d kind.Begin) c.args.words.now c.begin.new.words c.begin.result (c.begin.ensures d))

pub returns-in-End : goal.returns-in-End
returns-in-End c =
    let d = declared_by c.args.script.now in
    rw (c.in-End.is, c.or_bad_entry-in-End.ensures) (or_bad_entry (act_of d kind.End) c.args.words.now c.end.new.words c.end.result (c.end.ensures d))

pub returns-in-Stop : goal.returns-in-Stop
unfolding act_of
returns-in-Stop c = rw c.in-Stop.is refl
