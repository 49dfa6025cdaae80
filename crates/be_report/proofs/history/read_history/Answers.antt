use Rattle.std.proofs.Common.{List, Result, ℕ, refl, sym, subst, ◌∙◌, arith}
use Rattle.be_lex.specs.Lines.{lines_of}
use Rattle.be_machine.specs.declared.Entry.{Entry}
use Rattle.be_script.specs.Script.{declared_by}
use Rattle.be_report.specs.Outcomes.{IsHistory}
use Rattle.be_report.specs.Told.{count_in}
use Rattle.be_report.proofs.CodeLemmas.{history_unended, history_cut, promised_min, promised_none, lines_of-le, cut_shorter}
use Rattle.be_report.proofs.history.read_history.Goals as goal

pub returns-in_default : goal.returns-in_default
returns-in_default c = rw c.bad_entry.ensures (history_unended (declared_by c.args.script.now) c.args.bytes.now c.in_default.ensures, refl)

pub returns-in-Some-count_in : goal.returns-in-Some-count_in
returns-in-Some-count_in c =
    let d = declared_by c.args.script.now in
    let rest = c.in-Some.rest.now in
    let lines = lines_of-le rest in
    let shorter = cut_shorter 10 c.args.bytes.now c.in-Some.first.now rest c.in-Some.ensures in
    let told = history_cut d c.args.bytes.now c.in-Some.first.now rest c.in-Some.ensures ∙ promised_min d (count_in c.in-Some.first.now) c.in-Some-count_in.last (lines_of rest) (omega arith) c.in-Some-count_in.ensures in
    subst (λ (due : Result (List Entry) ℕ). IsHistory due c.entries_in.result) (sym told) c.entries_in.ensures

pub returns-in-None : goal.returns-in-None
returns-in-None c =
    let d = declared_by c.args.script.now in
    let rest = c.in-Some.rest.now in
    let told = history_cut d c.args.bytes.now c.in-Some.first.now rest c.in-Some.ensures ∙ promised_none d (count_in c.in-Some.first.now) (lines_of rest) c.in-None.ensures in
    rw c.bad_entry-in-None.ensures (told, refl)
